-- Where nothing comes across a side of a leaf, nothing is seen across it.
use Rattle.std.proofs.Common.{◌≡◌, ℕ, zero, suc, ◌-◌, ◌*◌, ◌/◌, ◌^◌, ◌<◌, ◌≤◌, Bool, true, false, cond, not, ◌||◌, nat_lt, Option, Some, None, map, refl, arith, ap, subst, sym, ◌∙◌, ⊎_elim}
use Rattle.std.specs.List.{list_any}
use Rattle.std.specs.Option.{option_map}
use Rattle.std.proofs.Math.Nat.{pow-suc}
use Rattle.std.proofs.lemmas.Bool.{false≢true}
use Rattle.std.proofs.lemmas.Bool.Decides.{nat_tests}
use Rattle.morton_order.specs.declared.space.Loc.{Loc}
use Rattle.morton_order.specs.declared.space.Shape.{Shape}
use Rattle.morton_order.specs.Space.{axis_of, blocks_along, child, child_number, factor, parent, parts, root_along, wraps}
use Rattle.morton_order.specs.Neighbours.{across, moved, step}
use Rattle.morton_order.proofs.Family.{child_number_below}
use Rattle.block_tree.specs.Behind.{Behind, behind, behind_at, children_at, outside, same, coarse, fine}
use Rattle.block_tree.specs.Tree.{IsLeaf, is_node}
use Rattle.block_tree.proofs.Ancestors.{node_parent, not_node}
use Rattle.mesh_num.specs.Share.{share}
use Rattle.problem_set.specs.Settings.{Settings}
use Rattle.mesh_rules.specs.Mesh.{Mesh, block_of, cell_lattice, cells_along, is_inner, stored}
use Rattle.mesh_rules.specs.Look.{look}
use Rattle.mesh_rules.specs.Fields as fields
use Rattle.mesh_rules.specs.Faces.{seen_in, seen_next}
use Rattle.mesh_rules.specs.Regions.{leaves_in, region, senders}
use Rattle.mesh_rules.specs.Mask.{comes_across, some_above}
use Rattle.mesh_laws.proofs.Adjacent.{block_inside}
use Rattle.mesh_laws.proofs.Looks.{look_law, some_parts}
use Rattle.mesh_laws.proofs.Pays.{term_least}
use Rattle.mesh_laws.proofs.Portions.{all_shares}
use Rattle.run_laws.proofs.ZeroSteps.{Crossed, IsNearEnd, crossed, leads_out}
use Rattle.run_laws.proofs.ZeroParts.{from_coarser, from_finer, two_parts}
use Rattle.run_laws.proofs.ZeroRegions.{IsSite, block_axis, block_moved, from_same, inside_along, lattice_along, moved_at, moved_else, moved_level, moved_self, parent_along}

-- what is not above zero is zero
not_above : (t x : ℕ) → t ≡ 0 → (nat_lt t x ≡ true → ⊥) → x ≡ 0
not_above t x e h = by (nat_lt t x) refl
  where
    none : (t x : ℕ) → t ≡ 0 → nat_lt t x ≡ false → x ≡ 0
    none t x e h = grind (arith, nat_tests)

    by : (b : Bool) → nat_lt t x ≡ b → x ≡ 0
    by true k = absurd (h k)
    by false k = none t x e k

-- nothing is shared as nothing
share_nothing : (q n j : ℕ) → 1 ≤ n → j < n → q ≡ 0 → share q n j ≡ 0
share_nothing q n j some small none = let a = all_shares q n some in let b = term_least n (share q n) j small in omega arith

-- something comes across where a sender behind sends it
IsInside : Behind → Type 0
IsInside outside = ⊥
IsInside (same o) = Unit {0}
IsInside (coarse o) = Unit {0}
IsInside (fine os) = Unit {0}

sends : (q : Settings) (m : Mesh) (f : ℕ) (l : Loc) (axis : ℕ) (high : Bool) (v : Behind) → behind m.shape (is_inner m) l axis high ≡ v → IsInside v →
    list_any (λ (from : Loc). some_above q.alloc_threshold (region m f from l axis high)) (leaves_in v) ≡ true →
    comes_across q m f l axis high (behind m.shape (is_inner m) l axis high) ≡ true
unfolding IsInside
sends q m f l axis high v e inside h = ap (comes_across q m f l axis high) e ∙ by v inside ∙ ap (λ (x : Behind). list_any (λ (from : Loc). some_above q.alloc_threshold (region m f from l axis high)) (leaves_in x)) e ∙ h
  where
    by : (v : Behind) → IsInside v → comes_across q m f l axis high v ≡ list_any (λ (from : Loc). some_above q.alloc_threshold (region m f from l axis high)) (senders m l axis high)
    by outside i = absurd i
    by (same o) i = refl
    by (coarse o) i = refl
    by (fine os) i = refl

-- a list of one
one_passes : (b : Bool) → b ≡ true → (b || false) ≡ true
one_passes true h = refl
one_passes false h = h

-- a location that is no node has another parent than a node
parent_moved : (dims : ℕ) (l : Loc) (axis b : ℕ) → axis < 3 → parent dims (moved l axis b) ≡ moved (parent dims l) axis (b / factor dims axis)
parent_moved dims l zero b h = refl
parent_moved dims l (suc zero) b h = refl
parent_moved dims l (suc (suc zero)) b h = refl
parent_moved dims l (suc (suc (suc k))) b h = absurd (omega arith)

same_parent : (dims : ℕ) (l : Loc) (axis b : ℕ) → axis < 3 → axis < dims → b / 2 ≡ axis_of l axis / 2 → parent dims (moved l axis b) ≡ parent dims l
same_parent dims l axis b small used e =
    let two = two_parts dims axis used in
    parent_moved dims l axis b small
    ∙ ap (moved (parent dims l) axis) (ap (λ v. b / v) two ∙ e ∙ ap (λ v. axis_of l axis / v) (sym two) ∙ sym (parent_along dims l axis small))
    ∙ moved_self (parent dims l) axis

-- below the roots there is an even number of locations along an axis in use
even_rows : (s : Shape) (axis level : ℕ) → axis < s.dims → 1 ≤ level → blocks_along s axis level ≡ root_along s axis * 2 ^ (level - 1) * 2
even_rows s axis level used deep =
    let two = two_parts s.dims axis used in
    let e : level ≡ suc (level - 1) = omega arith in
    ap (λ v. root_along s axis * v ^ level) two
    ∙ ap (λ v. root_along s axis * 2 ^ v) e
    ∙ ap (λ v. root_along s axis * v) (pow-suc 2 (level - 1))
    ∙ grouped (root_along s axis) (2 ^ (level - 1))
  where
    grouped : (a b : ℕ) → a * (b * 2) ≡ a * b * 2
    grouped a b = omega arith

-- a cell that is met across a side of a leaf, in another block
record Meets (q : Settings) (m : Mesh) (f : ℕ) (c : Loc) (axis : ℕ) (high : Bool) (y : ℕ) : Type 0 where
  site : IsSite m c axis
  threshold : q.alloc_threshold ≡ 0
  crosses : Crossed (blocks_along m.shape axis c.level) (cells_along m axis) (wraps m.shape axis) high (axis_of c axis) y
  nothing : comes_across q m f (block_of m c) axis high (behind m.shape (is_inner m) (block_of m c) axis high) ≡ false

met_block : (q : Settings) (m : Mesh) (f : ℕ) (c : Loc) (axis : ℕ) (high : Bool) (y : ℕ) → Meets q m f c axis high y → axis < 3 → across m.shape (block_of m c) axis high ≡ Some (block_of m (moved c axis y))
met_block q m f c axis high y x small =
    ap (λ (v : ℕ). option_map (moved (block_of m c) axis) (step (blocks_along m.shape axis c.level) (wraps m.shape axis) high v)) (block_axis m c axis small)
    ∙ ap (option_map (moved (block_of m c) axis)) x.crosses.meets
    ∙ ap (λ (v : Loc). Some v) (sym (block_moved m c axis y small))

met_by : (q : Settings) (m : Mesh) (f : ℕ) (c : Loc) (axis : ℕ) (high : Bool) (y : ℕ) → Meets q m f c axis high y → axis < 3 →
    (a b : Bool) → is_inner m (block_of m (moved c axis y)) ≡ a → is_node m.shape (is_inner m) (block_of m (moved c axis y)) ≡ b → look m f (moved c axis y) ≡ 0
unfolding IsInside
met_by q m f c axis high y x small true b inner node =
    let o : Loc = moved c axis y in
    let l : Loc = block_of m c in
    let is : behind m.shape (is_inner m) l axis high ≡ fine (map (child m.shape.dims (block_of m o)) (children_at m.shape.dims axis (not high))) =
    ap (behind_at m.shape (is_inner m) axis high) (met_block q m f c axis high y x small)
    ∙ ap (λ (t : Bool). cond t (fine (map (child m.shape.dims (block_of m o)) (children_at m.shape.dims axis (not high)))) (cond (is_node m.shape (is_inner m) (block_of m o)) (same (block_of m o)) (coarse (parent m.shape.dims (block_of m o))))) inner in
    let near : IsNearEnd high (cells_along m axis) (axis_of o axis) = subst (λ (v : ℕ). IsNearEnd high (cells_along m axis) v) (sym (moved_at c axis y small)) x.crosses.near in
    not_above q.alloc_threshold (look m f o) x.threshold
    (λ above. false≢true (sym x.nothing ∙ sends q m f l axis high (fine (map (child m.shape.dims (block_of m o)) (children_at m.shape.dims axis (not high)))) is tt
    (from_finer m f q.alloc_threshold c o axis high x.site (moved_level c axis y) near above)))
met_by q m f c axis high y x small false true inner node =
    let o : Loc = moved c axis y in
    let l : Loc = block_of m c in
    let is : behind m.shape (is_inner m) l axis high ≡ same (block_of m o) =
    ap (behind_at m.shape (is_inner m) axis high) (met_block q m f c axis high y x small)
    ∙ ap (λ (t : Bool). cond t (fine (map (child m.shape.dims (block_of m o)) (children_at m.shape.dims axis (not high)))) (cond (is_node m.shape (is_inner m) (block_of m o)) (same (block_of m o)) (coarse (parent m.shape.dims (block_of m o))))) inner
    ∙ ap (λ (t : Bool). cond t (same (block_of m o)) (coarse (parent m.shape.dims (block_of m o)))) node in
    let near : IsNearEnd high (cells_along m axis) (axis_of o axis) = subst (λ (v : ℕ). IsNearEnd high (cells_along m axis) v) (sym (moved_at c axis y small)) x.crosses.near in
    not_above q.alloc_threshold (look m f o) x.threshold
    (λ above. false≢true (sym x.nothing ∙ sends q m f l axis high (same (block_of m o)) is tt
    (one_passes (some_above q.alloc_threshold (region m f (block_of m o) l axis high)) (from_same m f q.alloc_threshold c o axis high x.site.mesh (moved_level c axis y) near above))))
met_by q m f c axis high y x small false false inner node =
    let o : Loc = moved c axis y in
    let l : Loc = block_of m c in
    let site = x.site in
    let mesh = site.mesh in
    let used = site.used in
    let n : ℕ = cells_along m axis in
    let level : o.level ≡ c.level = moved_level c axis y in
    let is : behind m.shape (is_inner m) l axis high ≡ coarse (parent m.shape.dims (block_of m o)) =
    ap (behind_at m.shape (is_inner m) axis high) (met_block q m f c axis high y x small)
    ∙ ap (λ (t : Bool). cond t (fine (map (child m.shape.dims (block_of m o)) (children_at m.shape.dims axis (not high)))) (cond (is_node m.shape (is_inner m) (block_of m o)) (same (block_of m o)) (coarse (parent m.shape.dims (block_of m o))))) inner
    ∙ ap (λ (t : Bool). cond t (same (block_of m o)) (coarse (parent m.shape.dims (block_of m o)))) node in
    let near : IsNearEnd high n (axis_of o axis) = subst (λ (v : ℕ). IsNearEnd high n v) (sym (moved_at c axis y small)) x.crosses.near in
    let apart = not_node m.shape (is_inner m) (block_of m o) node in
    let deep : 1 ≤ c.level = omega (arith, apart.0, level) in
    let rows = even_rows m.shape axis c.level used deep in
    let half_rows : ℕ = root_along m.shape axis * 2 ^ (c.level - 1) in
    let at : axis_of l axis ≡ axis_of c axis / n = block_axis m c axis small in
    let below : axis_of c axis / n < half_rows * 2 = subst (λ (v : ℕ). v < half_rows * 2) at (subst (λ (v : ℕ). axis_of l axis < v) rows (inside_along m.shape l axis small (block_inside m mesh c site.inside))) in
    let meets : step (half_rows * 2) (wraps m.shape axis) high (axis_of c axis / n) ≡ Some (y / n) = subst (λ (v : ℕ). step v (wraps m.shape axis) high (axis_of c axis / n) ≡ Some (y / n)) rows x.crosses.meets in
    let pairs : IsNearEnd high 2 (y / n) = ⊎_elim
    (λ (twins : y / n / 2 ≡ axis_of c axis / n / 2).
    let one : parent m.shape.dims (block_of m o) ≡ parent m.shape.dims l =
    ap (parent m.shape.dims) (block_moved m c axis y small) ∙ same_parent m.shape.dims l axis (y / n) small used (twins ∙ ap (λ v. v / 2) (sym at)) in
    absurd (apart.1 (ap (is_inner m) one ∙ node_parent m.shape (is_inner m) l deep site.leaf.node)))
    (λ (far : Crossed half_rows 2 (wraps m.shape axis) high (axis_of c axis / n) (y / n)). far.near)
    (crossed half_rows 2 (axis_of c axis / n) (y / n) (wraps m.shape axis) high (omega arith) below meets) in
    let half : IsNearEnd high 2 (axis_of o axis / n) = subst (λ (v : ℕ). IsNearEnd high 2 (v / n)) (sym (moved_at c axis y small)) pairs in
    let parent_none : look m f (parent m.shape.dims o) ≡ 0 =
    not_above q.alloc_threshold (look m f (parent m.shape.dims o)) x.threshold
    (λ above. false≢true (sym x.nothing ∙ sends q m f l axis high (coarse (parent m.shape.dims (block_of m o))) is tt
    (one_passes (some_above q.alloc_threshold (region m f (parent m.shape.dims (block_of m o)) l axis high))
    (from_coarser m f q.alloc_threshold c o axis high site level (omega (arith, deep, level)) near half (λ k h d. moved_else c axis y k small h d) above)))) in
    (look_law m f o mesh).coarser node
    ∙ share_nothing (look m f (parent m.shape.dims o)) (parts m.shape.dims) (child_number m.shape.dims o) (some_parts m.shape.dims) (child_number_below m.shape.dims o mesh.shape.least mesh.shape.most) parent_none

-- nothing is seen across
pub seen_nothing : (q : Settings) (m : Mesh) (f : ℕ) (c : Loc) (axis : ℕ) (high : Bool) → IsSite m c axis → q.alloc_threshold ≡ 0 → ((d : Loc) → block_of m d ≡ block_of m c → stored m f d ≡ 0) →
    comes_across q m f (block_of m c) axis high (behind m.shape (is_inner m) (block_of m c) axis high) ≡ false → seen_next q m f c axis high ≡ 0
seen_nothing q m f c axis high site threshold empty nothing = by (step (blocks_along (cell_lattice m) axis c.level) (wraps m.shape axis) high (axis_of c axis)) refl
  where
    used : axis < m.shape.dims
    used = site.used

    small : axis < 3
    small = let most = site.mesh.shape.most in let u = site.used in omega arith

    along : blocks_along (cell_lattice m) axis c.level ≡ blocks_along m.shape axis c.level * cells_along m axis
    along = lattice_along m axis c.level small

    some : 1 ≤ cells_along m axis
    some = site.mesh.some_cells axis small

    within : axis_of c axis < blocks_along m.shape axis c.level * cells_along m axis
    within = subst (λ (v : ℕ). axis_of c axis < v) along (inside_along (cell_lattice m) c axis small site.inside)

    stepped : (o : Option ℕ) → step (blocks_along (cell_lattice m) axis c.level) (wraps m.shape axis) high (axis_of c axis) ≡ o → step (blocks_along m.shape axis c.level * cells_along m axis) (wraps m.shape axis) high (axis_of c axis) ≡ o
    stepped o e = subst (λ (v : ℕ). step v (wraps m.shape axis) high (axis_of c axis) ≡ o) along e

    own : (y : ℕ) → y / cells_along m axis ≡ axis_of c axis / cells_along m axis → look m f (moved c axis y) ≡ 0
    own y e =
        let l : Loc = block_of m c in
        let one : block_of m (moved c axis y) ≡ l = block_moved m c axis y small ∙ ap (moved l axis) (e ∙ sym (block_axis m c axis small)) ∙ moved_self l axis in
        (look_law m f (moved c axis y) site.mesh).at_leaf (subst (λ (b : Loc). IsLeaf m.shape (is_inner m) b) (sym one) site.leaf) ∙ empty (moved c axis y) one

    by : (o : Option ℕ) → step (blocks_along (cell_lattice m) axis c.level) (wraps m.shape axis) high (axis_of c axis) ≡ o → seen_in q m f axis high c.level (option_map (moved c axis) o) ≡ 0
    by None e =
        let l : Loc = block_of m c in
        let out : across m.shape l axis high ≡ None =
        ap (λ (v : ℕ). option_map (moved l axis) (step (blocks_along m.shape axis c.level) (wraps m.shape axis) high v)) (block_axis m c axis small)
        ∙ ap (option_map (moved l axis)) (leads_out (blocks_along m.shape axis c.level) (cells_along m axis) (axis_of c axis) (wraps m.shape axis) high some within (stepped None e)) in
        let none : nat_lt q.alloc_threshold (fields.outside q f axis high c.level) ≡ false =
        ap (comes_across q m f l axis high) (sym (ap (behind_at m.shape (is_inner m) axis high) out)) ∙ nothing in
        not_above q.alloc_threshold (fields.outside q f axis high c.level) threshold (λ above. false≢true (sym none ∙ above))
    by (Some y) e = ⊎_elim
        (λ (stays : y / cells_along m axis ≡ axis_of c axis / cells_along m axis). own y stays)
        (λ (goes : Crossed (blocks_along m.shape axis c.level) (cells_along m axis) (wraps m.shape axis) high (axis_of c axis) y).
        met_by q m f c axis high y (record { site = site; threshold = threshold; crosses = goes; nothing = nothing }) small (is_inner m (block_of m (moved c axis y))) (is_node m.shape (is_inner m) (block_of m (moved c axis y))) refl refl)
        (crossed (blocks_along m.shape axis c.level) (cells_along m axis) (axis_of c axis) y (wraps m.shape axis) high some within (stepped (Some y) e))
