-- Which letters are due.
use Rattle.std.proofs.Common.{◌≡◌, inl, inr, ℕ, zero, suc, ◌+◌, ◌-◌, ◌<◌, Bool, true, false, cond, not, Option, Some, None, map, List, [], ◌∷◌, ◌++◌, length, refl, arith, ap, subst, sym, ◌∙◌}
use Rattle.std.specs.List.{enumerate_from, range_with_len, slice_index_or}
use Rattle.std.proofs.lemmas.Option.{slice_get-get_or}
use Rattle.morton_order.specs.declared.space.Loc.{Loc}
use Rattle.morton_order.specs.Space.{child, parent}
use Rattle.morton_order.specs.Neighbours.{across}
use Rattle.morton_order.proofs.Crossing.{crossed_level}
use Rattle.block_tree.specs.Behind.{Behind, Names, behind, behind_at, children_at, coarse, fine, outside, same}
use Rattle.block_tree.specs.Tree.{IsLeaf, is_listed, is_node}
use Rattle.block_tree.proofs.Ancestors.{not_node}
use Rattle.block_tree.proofs.Behinds.{behind_is_exact, behind_is_mutual}
use Rattle.block_tree.proofs.KeyOrder.{leaves_law}
use Rattle.block_tree.proofs.Worklist.{listed_read}
use Rattle.mesh_laws.proofs.StoredCells.{listed_number}
use Rattle.mesh_rules.specs.Mesh.{IsMesh, Mesh, is_inner, leaf_number}
use Rattle.mesh_rules.specs.Due.{Exchange, all_letters, flux_letters, ghost_letters, letters_across, letters_of}
use Rattle.mesh_rules.specs.Due as due
use Rattle.mesh_rules.specs.Regions.{leaves_in}
use Rattle.dense_mask.proofs.Leaves.{leaf_at, number_of_leaf}
use Rattle.cycle_kernels.specs.Blocks.{CycleMesh}
use Rattle.cycle_kernel_laws.proofs.Sees.{letter_from}
use Rattle.kernel_stages.specs.Letters.{FluxLettersAreDue, GhostLettersAreDue, IsDue, IsFluxDue}
use Rattle.kernel_stages.proofs.Members.{In, IsAt, append_in, contains_in, flat_in, in_append, in_contains, in_flat, in_map, in_numbered, in_range, map_in, numbered_in, range_in}

-- what stands behind a side of the leaf with a number
abbrev pub behind_leaf : Mesh → ℕ → ℕ → Bool → Behind
behind_leaf m b axis high = behind m.shape (is_inner m) (leaf_at m b) axis high

-- leaves by their numbers
pub other_default : (xs : List Loc) (i : ℕ) (d e : Loc) → i < length xs → slice_index_or xs i d ≡ slice_index_or xs i e
other_default [] i d e h = absurd (omega arith)
other_default (x ∷ xs) zero d e h = refl
other_default (x ∷ xs) (suc i) d e h = other_default xs i d e (omega arith)

pub at_number : (m : Mesh) (k : ℕ) (l : Loc) → IsAt m.leaves k l → leaf_at m k ≡ l
at_number m k l at = other_default m.leaves k _ l at.few ∙ at.is

pub leaf_with : (m : Mesh) → IsMesh m → (b : ℕ) → b < length m.leaves → IsLeaf m.shape (is_inner m) (leaf_at m b)
leaf_with m mesh b few =
    ((leaves_law m.shape (is_inner m) mesh.shape mesh.tree).leaves (leaf_at m b)).0
    (subst (λ (v : List Loc). is_listed v (leaf_at m b) ≡ true) mesh.leaves (listed_read m.leaves b (leaf_at m b) (slice_get-get_or m.leaves b _ few)))

pub number_at : (m : Mesh) → IsMesh m → (l : Loc) → IsLeaf m.shape (is_inner m) l → (leaf_number m l < length m.leaves) × (leaf_at m (leaf_number m l) ≡ l)
number_at m mesh l leaf =
    let listed = ((leaves_law m.shape (is_inner m) mesh.shape mesh.tree).leaves l).1 leaf in
    let read = listed_number l m.leaves (ap (λ (v : List Loc). is_listed v l) mesh.leaves ∙ listed) in
    (read.small, other_default m.leaves (leaf_number m l) _ l read.small ∙ read.is)

-- the receivers behind a side of a leaf
pub receiver : (m : Mesh) → IsMesh m → (l o : Loc) (axis : ℕ) (high : Bool) → IsLeaf m.shape (is_inner m) l → axis < m.shape.dims → Names (behind m.shape (is_inner m) l axis high) o → IsLeaf m.shape (is_inner m) o
receiver m mesh l o axis high leaf used names = ((behind_is_exact m.shape (is_inner m) mesh.shape mesh.tree mesh.balanced l o axis high leaf used).0 names).0

-- a letter of a list, whichever leaves receive
pub record IsSent (m : Mesh) (receivers : Behind → List Loc) (x : Exchange) : Type 0 where
  pub from_few : x.from < length m.leaves
  pub used : x.axis < m.shape.dims
  pub at : Loc
  pub number : leaf_number m at ≡ x.to
  pub among : In (receivers (behind_leaf m x.from x.axis (not x.high))) at

not_twice : (b : Bool) → not (not b) ≡ b
not_twice true = refl
not_twice false = refl

across_sent : (m : Mesh) (receivers : Behind → List Loc) (k : ℕ) (l : Loc) (axis : ℕ) (high : Bool) (x : Exchange) → IsAt m.leaves k l → axis < m.shape.dims → In (letters_across m receivers k l axis high) x → IsSent m receivers x
across_sent m receivers k l axis high x at used h =
    let (o, among, is) = in_map (λ o. record { from = k; to = leaf_number m o; axis = axis; high = not high }) (receivers (behind m.shape (is_inner m) l axis high)) x h in
    subst (IsSent m receivers) is (record {
      from_few = at.few;
      used = used;
      at = o;
      number = refl;
      among = subst (λ (v : Loc). In (receivers (behind m.shape (is_inner m) v axis (not (not high)))) o) (sym (at_number m k l at)) (subst (λ t. In (receivers (behind m.shape (is_inner m) l axis t)) o) (sym (not_twice high)) among);
    })

pub in_letters : (m : Mesh) (receivers : Behind → List Loc) (x : Exchange) → In (all_letters m receivers) x → IsSent m receivers x
in_letters m receivers x h =
    let (p, leaf, of) = in_flat (λ (leaf : ℕ × Loc). letters_of m receivers leaf.0 leaf.1) (enumerate_from 0 m.leaves) x h in
    let (k, number, at) = in_numbered 0 m.leaves p leaf in
    let e : p.0 ≡ k = omega arith in
    let (axis, range, side) = in_flat (λ axis. letters_across m receivers p.0 p.1 axis false ++ letters_across m receivers p.0 p.1 axis true) (range_with_len 0 m.shape.dims) x of in
    let used = (in_range 0 m.shape.dims axis range).1 in
    let here : IsAt m.leaves p.0 p.1 = subst (λ v. IsAt m.leaves v p.1) (sym e) at in
    elim (in_append (letters_across m receivers p.0 p.1 axis false) (letters_across m receivers p.0 p.1 axis true) x side) [
      | inl low ↦ across_sent m receivers p.0 p.1 axis false x here (omega arith) low
      | inr top ↦ across_sent m receivers p.0 p.1 axis true x here (omega arith) top
    ]

-- a letter to a leaf behind a side is in the list
pub letter_in : (m : Mesh) (receivers : Behind → List Loc) (k : ℕ) (o : Loc) (axis : ℕ) (high : Bool) → k < length m.leaves → axis < m.shape.dims → In (receivers (behind_leaf m k axis (not high))) o →
    In (all_letters m receivers) (record { from = k; to = leaf_number m o; axis = axis; high = high })
letter_in m receivers k o axis high few used among =
    let l : Loc = leaf_at m k in
    let leaf : In (enumerate_from 0 m.leaves) (k, l) = subst (λ v. In (enumerate_from 0 m.leaves) (v, l)) (plain k) (numbered_in 0 m.leaves k _ few) in
    let range : In (range_with_len 0 m.shape.dims) axis = subst (In (range_with_len 0 m.shape.dims)) (plain axis) (range_in 0 m.shape.dims axis used) in
    flat_in (λ (leaf : ℕ × Loc). letters_of m receivers leaf.0 leaf.1) (enumerate_from 0 m.leaves) (k, l) (record { from = k; to = leaf_number m o; axis = axis; high = high }) leaf
    (flat_in (λ axis. letters_across m receivers k l axis false ++ letters_across m receivers k l axis true) (range_with_len 0 m.shape.dims) axis (record { from = k; to = leaf_number m o; axis = axis; high = high }) range (by high among))
  where
    plain : (n : ℕ) → 0 + n ≡ n
    plain n = omega arith

    here : (high : Bool) → In (receivers (behind_leaf m k axis high)) o → In (letters_across m receivers k (leaf_at m k) axis high) (record { from = k; to = leaf_number m o; axis = axis; high = not high })
    here high h = map_in (λ o. record { from = k; to = leaf_number m o; axis = axis; high = not high }) (receivers (behind_leaf m k axis high)) o h

    by : (high : Bool) → In (receivers (behind_leaf m k axis (not high))) o → In (letters_across m receivers k (leaf_at m k) axis false ++ letters_across m receivers k (leaf_at m k) axis true) (record { from = k; to = leaf_number m o; axis = axis; high = high })
    by true h = append_in (letters_across m receivers k (leaf_at m k) axis false) (letters_across m receivers k (leaf_at m k) axis true) _ (inl (here false h))
    by false h = append_in (letters_across m receivers k (leaf_at m k) axis false) (letters_across m receivers k (leaf_at m k) axis true) _ (inr (here true h))

-- ghost letters go to all leaves behind a side
pub named_in : (x : Behind) (o : Loc) → In (leaves_in x) o → Names x o
named_in outside o h = h
named_in (same p) o (inl e) = sym e
named_in (same p) o (inr h) = absurd h
named_in (coarse p) o (inl e) = sym e
named_in (coarse p) o (inr h) = absurd h
named_in (fine ps) o h = in_contains ps o h

pub in_named : (x : Behind) (o : Loc) → Names x o → In (leaves_in x) o
in_named outside o h = h
in_named (same p) o h = inl (sym h)
in_named (coarse p) o h = inl (sym h)
in_named (fine ps) o h = contains_in ps o h

-- and flux letters to the coarser one
pub coarse_in : (x : Behind) (o : Loc) → In (due.coarser_in x) o → x ≡ coarse o
coarse_in outside o h = absurd h
coarse_in (same p) o h = absurd h
coarse_in (coarse p) o (inl e) = ap (λ (v : Loc). coarse v) e
coarse_in (coarse p) o (inr h) = absurd h
coarse_in (fine ps) o h = absurd h

-- a letter comes from a leaf that stands behind the receiver's side
sent_back : (m : Mesh) → IsMesh m → (x : Exchange) (o : Loc) → x.from < length m.leaves → x.axis < m.shape.dims → leaf_number m o ≡ x.to → Names (behind_leaf m x.from x.axis (not x.high)) o → IsDue m x
sent_back m mesh x o few used number names =
    let leaf = leaf_with m mesh x.from few in
    let other = receiver m mesh (leaf_at m x.from) o x.axis (not x.high) leaf used names in
    let (small, is) = number_at m mesh o other in
    record {
      from_few = few;
      to_few = subst (λ v. v < length m.leaves) number small;
      used = used;
      names = subst (λ v. Names (behind m.shape (is_inner m) (leaf_at m v) x.axis x.high) (leaf_at m x.from)) number
          (subst (λ (v : Loc). Names (behind m.shape (is_inner m) v x.axis x.high) (leaf_at m x.from)) (sym is)
          (subst (λ t. Names (behind m.shape (is_inner m) o x.axis t) (leaf_at m x.from)) (not_twice x.high)
          ((behind_is_mutual m.shape (is_inner m) mesh.shape mesh.tree mesh.balanced (leaf_at m x.from) o x.axis (not x.high) leaf other used).0 names)));
    }

pub ghost_due : (m : Mesh) → IsMesh m → (x : Exchange) → In (ghost_letters m) x → IsDue m x
ghost_due m mesh x h =
    let s = in_letters m leaves_in x h in
    sent_back m mesh x s.at s.from_few s.used s.number (named_in (behind_leaf m x.from x.axis (not x.high)) s.at s.among)

-- the receiver stands behind the sender's side
pub due_back : (m : Mesh) → IsMesh m → (x : Exchange) → IsDue m x → Names (behind_leaf m x.from x.axis (not x.high)) (leaf_at m x.to)
due_back m mesh x d =
    (behind_is_mutual m.shape (is_inner m) mesh.shape mesh.tree mesh.balanced (leaf_at m x.to) (leaf_at m x.from) x.axis x.high (leaf_with m mesh x.to d.to_few) (leaf_with m mesh x.from d.from_few) d.used).0 d.names

pub due_ghost : (m : Mesh) → IsMesh m → (x : Exchange) → IsDue m x → In (ghost_letters m) x
due_ghost m mesh x d =
    subst (λ v. In (ghost_letters m) (record { from = x.from; to = v; axis = x.axis; high = x.high })) (number_of_leaf m mesh x.to d.to_few)
    (letter_in m leaves_in x.from (leaf_at m x.to) x.axis x.high d.from_few d.used (in_named (behind_leaf m x.from x.axis (not x.high)) (leaf_at m x.to) (due_back m mesh x d)))

pub ghost_letters_are_due : GhostLettersAreDue
ghost_letters_are_due m x mesh = (λ h. ghost_due m mesh x (contains_in (ghost_letters m) x h), λ d. in_contains (ghost_letters m) x (due_ghost m mesh x d))

-- of two leaves behind each other's sides one is finer where the other is coarser
abbrev pub level_of : (m : Mesh) → Behind → ℕ → Loc → Type 0
level_of m outside level o = ⊥
level_of m (same p) level o = o.level ≡ level
level_of m (coarse p) level o = o.level + 1 ≡ level
level_of m (fine ps) level o = o.level ≡ level + 1

across_level : (m : Mesh) (l o : Loc) (axis : ℕ) (high : Bool) → IsMesh m → IsLeaf m.shape (is_inner m) l → (v : Option Loc) → across m.shape l axis high ≡ v → Names (behind_at m.shape (is_inner m) axis high v) o → level_of m (behind_at m.shape (is_inner m) axis high v) l.level o
across_level m l o axis high mesh leaf None meets names = names
across_level m l o axis high mesh leaf (Some a) meets names = by (is_inner m a) (is_node m.shape (is_inner m) a) refl names
  where
    level : a.level ≡ l.level
    level = crossed_level m.shape l axis high a meets

    child_level : (d : ℕ) (js : List ℕ) → In (map (child d a) js) o → o.level ≡ l.level + 1
    child_level d js h = let (j, among, is) = in_map (child d a) js o h in let e : o.level ≡ a.level + 1 = ap (λ (v : Loc). v.level) (sym is) in omega (arith, e, level)

    by : (p q : Bool) → is_node m.shape (is_inner m) a ≡ q → Names (cond p (fine (map (child m.shape.dims a) (children_at m.shape.dims axis (not high)))) (cond q (same a) (coarse (parent m.shape.dims a)))) o →
        level_of m (cond p (fine (map (child m.shape.dims a) (children_at m.shape.dims axis (not high)))) (cond q (same a) (coarse (parent m.shape.dims a)))) l.level o
    by true q node n = child_level m.shape.dims (children_at m.shape.dims axis (not high)) (contains_in _ o n)
    by false true node n = ap (λ (v : Loc). v.level) n ∙ level
    by false false node n =
        let deep = not_node m.shape (is_inner m) a node in
        let d = deep.0 in
        let up : o.level ≡ a.level - 1 = ap (λ (v : Loc). v.level) n in
        omega (arith, up, d, level)

pub names_level : (m : Mesh) (l o : Loc) (axis : ℕ) (high : Bool) → IsMesh m → IsLeaf m.shape (is_inner m) l → Names (behind m.shape (is_inner m) l axis high) o → level_of m (behind m.shape (is_inner m) l axis high) l.level o
names_level m l o axis high mesh leaf names = across_level m l o axis high mesh leaf (across m.shape l axis high) refl names

-- what is coarser on one side is finer on the other
opposite : (m : Mesh) (x y : Behind) (l o : Loc) → x ≡ coarse o → level_of m x l.level o → level_of m y o.level l → (os : List Loc) × (y ≡ fine os)
opposite m x outside l o is a b = absurd b
opposite m x (same p) l o is a b = let c : o.level + 1 ≡ l.level = subst (λ (v : Behind). level_of m v l.level o) is a in absurd (omega arith)
opposite m x (coarse p) l o is a b = let c : o.level + 1 ≡ l.level = subst (λ (v : Behind). level_of m v l.level o) is a in absurd (omega arith)
opposite m x (fine os) l o is a b = (os, refl)

opposite_back : (m : Mesh) (x y : Behind) (l o : Loc) (os : List Loc) → y ≡ fine os → Names x o → level_of m x l.level o → level_of m y o.level l → In (due.coarser_in x) o
opposite_back m outside y l o os is n a b = absurd a
opposite_back m (same p) y l o os is n a b = let c : l.level ≡ o.level + 1 = subst (λ (v : Behind). level_of m v o.level l) is b in absurd (omega arith)
opposite_back m (coarse p) y l o os is n a b = inl (sym n)
opposite_back m (fine ps) y l o os is n a b = let c : l.level ≡ o.level + 1 = subst (λ (v : Behind). level_of m v o.level l) is b in absurd (omega arith)

pub flux_due : (m : Mesh) → IsMesh m → (x : Exchange) → In (flux_letters m) x → IsFluxDue m x
flux_due m mesh x h =
    let s = in_letters m due.coarser_in x h in
    let is = coarse_in (behind_leaf m x.from x.axis (not x.high)) s.at s.among in
    let d = sent_back m mesh x s.at s.from_few s.used s.number (subst (λ (v : Behind). Names v s.at) (sym is) refl) in
    let sender = leaf_with m mesh x.from d.from_few in
    let to : leaf_at m x.to ≡ s.at = ap (leaf_at m) (sym s.number) ∙ (number_at m mesh s.at (receiver m mesh (leaf_at m x.from) s.at x.axis (not x.high) sender d.used (subst (λ (v : Behind). Names v s.at) (sym is) refl))).1 in
    let is' : behind_leaf m x.from x.axis (not x.high) ≡ coarse (leaf_at m x.to) = is ∙ ap (λ (v : Loc). coarse v) (sym to) in
    let (os, fine_is) = opposite m (behind_leaf m x.from x.axis (not x.high)) (behind_leaf m x.to x.axis x.high) (leaf_at m x.from) (leaf_at m x.to) is'
    (names_level m (leaf_at m x.from) (leaf_at m x.to) x.axis (not x.high) mesh sender (due_back m mesh x d))
    (names_level m (leaf_at m x.to) (leaf_at m x.from) x.axis x.high mesh (leaf_with m mesh x.to d.to_few) d.names) in
    record { due = d; finer = os; is = fine_is }

pub due_flux : (m : Mesh) → IsMesh m → (x : Exchange) → IsFluxDue m x → In (flux_letters m) x
due_flux m mesh x f =
    let d = f.due in
    subst (λ v. In (flux_letters m) (record { from = x.from; to = v; axis = x.axis; high = x.high })) (number_of_leaf m mesh x.to d.to_few)
    (letter_in m due.coarser_in x.from (leaf_at m x.to) x.axis x.high d.from_few d.used
    (opposite_back m (behind_leaf m x.from x.axis (not x.high)) (behind_leaf m x.to x.axis x.high) (leaf_at m x.from) (leaf_at m x.to) f.finer f.is (due_back m mesh x d)
    (names_level m (leaf_at m x.from) (leaf_at m x.to) x.axis (not x.high) mesh (leaf_with m mesh x.from d.from_few) (due_back m mesh x d))
    (names_level m (leaf_at m x.to) (leaf_at m x.from) x.axis x.high mesh (leaf_with m mesh x.to d.to_few) d.names)))

pub flux_letters_are_due : FluxLettersAreDue
flux_letters_are_due m x mesh = (λ h. flux_due m mesh x (contains_in (flux_letters m) x h), λ d. in_contains (flux_letters m) x (due_flux m mesh x d))

-- a letter from a leaf behind a side
pub is_due : (w : CycleMesh) (b axis : ℕ) (high : Bool) (o : Loc) → IsMesh w.mesh → b < length w.mesh.leaves → axis < w.mesh.shape.dims → Names (behind_leaf w.mesh b axis high) o → (leaf_at w.mesh (leaf_number w.mesh o) ≡ o) × IsDue w.mesh (letter_from w b axis high o)
is_due w b axis high o mesh few used names =
    let leaf = leaf_with w.mesh mesh b few in
    let (small, is) = number_at w.mesh mesh o (receiver w.mesh mesh (leaf_at w.mesh b) o axis high leaf used names) in
    (is, record { from_few = small; to_few = few; used = used; names = subst (Names (behind_leaf w.mesh b axis high)) (sym is) names })
