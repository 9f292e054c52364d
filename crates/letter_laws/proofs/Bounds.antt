-- How large looks, regions and ghosts are.
use Rattle.std.proofs.Common.{◌≡◌, ◌==◌, inl, inr, ℕ, zero, suc, ◌+◌, ◌<◌, ◌≤◌, Bool, true, false, List, All, Contains, map, length, refl, arith, ap, subst, sym, ◌∙◌, slice_index}
use Rattle.std.specs.List.{list_any, range_with_len}
use Rattle.std.proofs.lemmas.Bool.{cases_lt, false≢true}
use Rattle.std.proofs.lemmas.Bool.Decides.{nat_tests}
use Rattle.std.proofs.lemmas.List.Elements.{All-from_get_or, All-get_or}
use Rattle.std.proofs.lemmas.List.FromFn.{length-map-range_with_len}
use Rattle.morton_order.specs.declared.space.Loc.{Loc}
use Rattle.morton_order.specs.Space.{IsIn, child, child_number, parent, parts}
use Rattle.morton_order.proofs.Any.{any_range-found, any_range-has}
use Rattle.morton_order.proofs.Family.{child-parent, child_number_below, parent_inside}
use Rattle.morton_order.proofs.Touching.{same_as}
use Rattle.block_tree.specs.Behind.{Behind, Names, coarse, fine, outside, same}
use Rattle.mesh_rules.specs.Sums.{sum_to, table}
use Rattle.mesh_rules.specs.Mesh.{IsMesh, Mesh, cell_lattice, total_of}
use Rattle.mesh_rules.specs.Look.{look}
use Rattle.mesh_rules.specs.Regions.{Span, cells_in, coarser, finer, region, same_level, sent_span}
use Rattle.mesh_laws.proofs.Grids.{grid}
use Rattle.mesh_laws.proofs.Lattices.{lattice, place}
use Rattle.mesh_laws.proofs.Looks.{children_add_up}
use Rattle.mesh_laws.proofs.Remaps.{total_is_roots}
use Rattle.block_layout.specs.Indices.{IsWithin, added, count_of, index_of, number_of}
use Rattle.block_layout.proofs.Boxes.{index_below, number_bound, number_index}
use Rattle.block_geometry.specs.Blocks.{FieldBlock, cell_in}
use Rattle.block_geometry.proofs.Cells.{cell_inside}
use Rattle.block_geometry.proofs.Seen.{in_mesh, three_axes}
use Rattle.block_regions.specs.Written.{place_in}
use Rattle.ghost_buffers.specs.declared.part.How.TheVariants.{Same, Finer, Coarser}
use Rattle.ghost_buffers.specs.Parts.{part_extents}
use Rattle.letter_laws.specs.Sides.{IsSide, behind_side}
use Rattle.letter_laws.specs.Bounds.{LooksAreBounded, PartsAreBelow, RegionsAreBounded, WrittenStayBelow}
use Rattle.letter_laws.proofs.Along.{each_axis, same_place}
use Rattle.letter_laws.proofs.Behinds.{named_leaf, same_met}
use Rattle.letter_laws.proofs.Boxes.{HasExtents, cell_by, cells_are, map_table, table_at}
use Rattle.letter_laws.proofs.CoarserLevel.{above_is, coarser_is, coarser_place, coarser_within}
use Rattle.letter_laws.proofs.FinerLevel.{below_is, finer_cell, finer_inside, finer_is, finer_place_in}
use Rattle.letter_laws.proofs.SameLevel.{same_index, same_is, same_within}
use Rattle.letter_laws.proofs.Spans.{coarser_extents, coarser_kind, finer_extents, finer_kind, region_of, same_extents, same_kind}
use Rattle.morton_order.proofs.Crossing.{crossed_level}

-- a term of a sum
term_below : (n : ℕ) (g : ℕ → ℕ) (j : ℕ) → j < n → g j ≤ sum_to n g
term_below zero g j h = absurd (omega arith)
term_below (suc n) g j h = elim (cases_lt j n) [
  | inl less ↦ let r = term_below n g j less in omega arith
  | inr last ↦ let e : j ≡ n = omega arith in let f : g j ≡ g n = ap g e in omega arith
]

term_of_grid : (a b c : ℕ) (h : ℕ → ℕ → ℕ → ℕ) (x y z : ℕ) → x < a → y < b → z < c → h x y z ≤ grid a b c h
term_of_grid a b c h x y z p q r =
    let one = term_below c (h x y) z r in
    let two = term_below b (λ v. sum_to c (h x v)) y q in
    let three = term_below a (λ u. sum_to b (λ v. sum_to c (h u v))) x p in
    omega (arith, one, two, three)

-- a look is at most that of the parent, and so on up to the cells of the roots
looks_below : (m : Mesh) (f k : ℕ) (c : Loc) → IsMesh m → c.level ≡ k → IsIn (cell_lattice m) c → look m f c ≤ lattice (cell_lattice m) 0 (look m f)
looks_below m f zero c mesh at inside =
    let root : c ≡ place 0 c.l1 c.l2 c.l3 = same_as (place 0 c.l1 c.l2 c.l3) c at refl refl refl in
    let here : IsIn (cell_lattice m) (place 0 c.l1 c.l2 c.l3) = subst (λ (v : Loc). IsIn (cell_lattice m) v) root inside in
    let few = term_of_grid _ _ _ (λ x y z. look m f (place 0 x y z)) c.l1 c.l2 c.l3 here.within1 here.within2 here.within3 in
    subst (λ (v : Loc). look m f v ≤ lattice (cell_lattice m) 0 (look m f)) (sym root) few
looks_below m f (suc k) c mesh at inside =
    let d : ℕ = m.shape.dims in
    let up : Loc = parent d c in
    let j : ℕ = child_number d c in
    let own : look m f (child d up j) ≡ look m f c = ap (look m f) (child-parent d c (omega arith)) in
    let one = term_below (parts d) (λ v. look m f (child d up v)) j (child_number_below d c mesh.shape.least mesh.shape.most) in
    let all = children_add_up m f up mesh in
    let rest = looks_below m f k up mesh (omega arith) (parent_inside (cell_lattice m) c inside (omega arith)) in
    omega (arith, own, one, all, rest)

pub looks_bounded : LooksAreBounded
looks_bounded m f c mesh inside = subst (λ v. look m f c ≤ v) (sym (total_is_roots m f mesh)) (looks_below m f c.level c mesh refl inside)

-- what holds of each cell of a box
all_box : (P : ℕ → Type 0) (level : ℕ) (s1 s2 s3 : Span) (e : List ℕ) (g : Loc → ℕ) → HasExtents s1 s2 s3 e → ((i : List ℕ) → IsWithin e i → P (g (cell_by level s1 s2 s3 i))) → All P (map g (cells_in level s1 s2 s3))
all_box P level s1 s2 s3 e g h each =
    let n : ℕ = count_of e in
    let f : ℕ → ℕ = λ k. g (cell_by level s1 s2 s3 (index_of e k)) in
    let is : map g (cells_in level s1 s2 s3) ≡ table n f = ap (map g) (cells_are level s1 s2 s3 e h) ∙ map_table g (λ k. cell_by level s1 s2 s3 (index_of e k)) (range_with_len 0 n) in
    subst (All P) (sym is) (All-from_get_or P (table n f) 0 (λ k few.
    let less : k < n = subst (λ v. k < v) (length-map-range_with_len f 0 n) few in
    subst P (sym (table_at n f k less)) (each (index_of e k) (index_below e k less))))

-- a cell of a block of the tree has no look above the total
bounded_in : (b : FieldBlock) (block c : Loc) (q : List ℕ) → IsMesh b.mesh → IsIn b.mesh.shape block → IsWithin b.mesh.cells q → cell_in b.mesh block q ≡ c → look b.mesh b.field c ≤ total_of b.mesh b.field
bounded_in b block c q mesh inside w is = subst (λ (v : Loc). look b.mesh b.field v ≤ total_of b.mesh b.field) is (looks_bounded b.mesh b.field (cell_in b.mesh block q) mesh (cell_inside b.mesh block q inside w))

Small : FieldBlock → ℕ → Bool → Loc → Type 0
Small b axis high o = All (λ total. total ≤ total_of b.mesh b.field) (region b.mesh b.field o b.leaf axis high)

small_same : (b : FieldBlock) (axis : ℕ) (high : Bool) (o : Loc) → IsSide b axis → behind_side b axis high ≡ same o → Small b axis high o
unfolding Small
small_same b axis high o side is =
    let m : Mesh = b.mesh in
    let mesh = side.sound.mesh in
    let x = same_met b axis high o is in
    let leaf = named_leaf b axis high o side (subst (λ (v : Behind). Names v o) (sym is) refl) in
    let level : o.level ≡ b.leaf.level = ap (λ (v : Loc). v.level) (sym x.1) ∙ crossed_level m.shape b.leaf axis high x.0.at x.0.meets in
    subst (All (λ total. total ≤ total_of m b.field)) (sym (region_of m b.field o b.leaf axis high same_level (same_kind o b.leaf level)))
    (all_box (λ total. total ≤ total_of m b.field) b.leaf.level (sent_span same_level m o b.leaf axis high 0) (sent_span same_level m o b.leaf axis high 1) (sent_span same_level m o b.leaf axis high 2) (part_extents Same b.layout axis) (look m b.field)
    (same_extents b axis high o b.leaf side.sound (three_axes b axis side.sound side.used))
    (λ i w. let q : List ℕ = same_index b axis high i in bounded_in b o _ q mesh leaf.inside (in_mesh b q side.sound (same_within b axis high i side w)) (same_is b axis high o i side level)))

small_coarser : (b : FieldBlock) (axis : ℕ) (high : Bool) (o : Loc) → IsSide b axis → behind_side b axis high ≡ coarse o → Small b axis high o
unfolding Small
small_coarser b axis high o side is =
    let m : Mesh = b.mesh in
    let mesh = side.sound.mesh in
    let x = above_is b axis high o side is in
    let level = x.level in
    subst (All (λ total. total ≤ total_of m b.field)) (sym (region_of m b.field o b.leaf axis high coarser (coarser_kind o b.leaf (omega arith))))
    (all_box (λ total. total ≤ total_of m b.field) o.level (sent_span coarser m o b.leaf axis high 0) (sent_span coarser m o b.leaf axis high 1) (sent_span coarser m o b.leaf axis high 2) (part_extents Coarser b.layout axis) (look m b.field)
    (coarser_extents b axis high o b.leaf side.sound (three_axes b axis side.sound side.used))
    (λ i w. let q : List ℕ = coarser_place b axis high i in bounded_in b o _ q mesh x.leaf.inside (in_mesh b q side.sound (coarser_within b axis high i side w)) (coarser_is b axis high o i side x)))

finer_bounded : (b : FieldBlock) (axis : ℕ) (high : Bool) (os : List Loc) (o : Loc) (i : List ℕ) → IsSide b axis → behind_side b axis high ≡ fine os → Contains os o → IsWithin (part_extents Finer b.layout axis) i →
    look b.mesh b.field (cell_by b.leaf.level (sent_span finer b.mesh o b.leaf axis high 0) (sent_span finer b.mesh o b.leaf axis high 1) (sent_span finer b.mesh o b.leaf axis high 2) i) ≤ total_of b.mesh b.field
finer_bounded b axis high os o i side is among w =
    let mesh = side.sound.mesh in
    let x = below_is b axis high os o side is among in
    bounded_in b x.at _ (finer_place_in b axis high o i) mesh (mesh.tree.inside x.at x.inner_is) (finer_inside b axis high o i side w) (finer_is b axis high o i side x)

small_finer : (b : FieldBlock) (axis : ℕ) (high : Bool) (os : List Loc) (o : Loc) → IsSide b axis → behind_side b axis high ≡ fine os → Contains os o → Small b axis high o
unfolding Small
small_finer b axis high os o side is among =
    let m : Mesh = b.mesh in
    let x = below_is b axis high os o side is among in
    let level = x.level in
    subst (All (λ total. total ≤ total_of m b.field)) (sym (region_of m b.field o b.leaf axis high finer (finer_kind o b.leaf (omega arith))))
    (all_box (λ total. total ≤ total_of m b.field) b.leaf.level (sent_span finer m o b.leaf axis high 0) (sent_span finer m o b.leaf axis high 1) (sent_span finer m o b.leaf axis high 2) (part_extents Finer b.layout axis) (look m b.field)
    (finer_extents b axis high o b.leaf side.sound (three_axes b axis side.sound side.used))
    (λ i w. finer_bounded b axis high os o i side is among w))

pub regions_bounded : RegionsAreBounded
unfolding Small
regions_bounded b axis high o side names = by (behind_side b axis high) refl names
  where
    by : (x : Behind) → behind_side b axis high ≡ x → Names x o → Small b axis high o
    by outside is h = absurd h
    by (same p) is h = small_same b axis high o side (is ∙ ap same (sym h))
    by (coarse p) is h = small_coarser b axis high o side (is ∙ ap coarse (sym h))
    by (fine os) is h = small_finer b axis high os o side is h

pub parts_below : PartsAreBelow
parts_below b axis high os o half bound cells side is among has few i w =
    let x = below_is b axis high os o side is among in
    let one = finer_cell b axis high o half cells i side x has w in
    let two = finer_bounded b axis high os o i side is among w in
    subst (λ v. v < bound) (sym one) (omega (arith, two, few))

-- a list that is written in a region
pub written_below : WrittenStayBelow
written_below l r each bound old new lengths has stays small all = All-from_get_or (λ total. total < bound) new 0 at
  where
    n : ℕ
    n = count_of r.extents

    is : (a b : ℕ) → (a == b) ≡ true → a ≡ b
    is a b e = grind (arith, nat_tests)

    is_true : (a b : ℕ) → a ≡ b → (a == b) ≡ true
    is_true a b e = grind (arith, nat_tests)

    one : (i : List ℕ) → IsWithin r.extents i → place_in l r i ≡ place_in l r (index_of r.extents (number_of r.extents i))
    one i w =
        let s = number_index r.extents i w in
        let j : List ℕ = index_of r.extents (number_of r.extents i) in
        same_place l (added r.low i) (added r.low j) (each_axis (λ k. slice_index (added r.low i) k ≡ slice_index (added r.low j) k)
        (ap (λ v. slice_index r.low 0 + v) (sym s.along1)) (ap (λ v. slice_index r.low 1 + v) (sym s.along2)) (ap (λ v. slice_index r.low 2 + v) (sym s.along3)))

    by : (place : ℕ) (t : Bool) → list_any (λ k. place == place_in l r (index_of r.extents k)) (range_with_len 0 n) ≡ t → slice_index old place < bound → slice_index new place < bound
    by place true e before =
        let (k, low, high, at) = any_range-found (λ k. place == place_in l r (index_of r.extents k)) 0 n e in
        let w : IsWithin r.extents (index_of r.extents k) = index_below r.extents k (omega arith) in
        subst (λ v. slice_index new v < bound) (sym (is place (place_in l r (index_of r.extents k)) at)) (subst (λ v. v < bound) (sym (has (index_of r.extents k) w)) (small (index_of r.extents k) w))
    by place false e before =
        subst (λ v. v < bound) (sym (stays place (λ i w meets. false≢true (sym e ∙ any_range-has (λ k. place == place_in l r (index_of r.extents k)) 0 n (number_of r.extents i) (omega arith) (let f = number_bound r.extents i w in omega arith)
        (is_true place (place_in l r (index_of r.extents (number_of r.extents i))) (meets ∙ one i w)))))) before

    at : (place : ℕ) → place < length new → slice_index new place < bound
    at place few = by place (list_any (λ k. place == place_in l r (index_of r.extents k)) (range_with_len 0 n)) refl (All-get_or (λ total. total < bound) old place 0 (omega (arith, few, lengths)) all)
