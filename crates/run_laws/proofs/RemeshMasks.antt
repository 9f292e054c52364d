-- A mask that fits a mesh fits it on the tree that follows, too.
use Rattle.std.proofs.Common.{◌≡◌, ◌==◌, ℕ, zero, suc, ◌+◌, ◌/◌, ◌%◌, ◌<◌, ◌≤◌, Bool, true, false, cond, ◌&&◌, not, nat_lt, List, [], ◌∷◌, length, inl, inr, All, refl, sym, ap, ◌∙◌, subst, arith}
use Rattle.std.specs.Prelude.{if◌then◌else◌, slice_index}
use Rattle.std.specs.List.{list_any, range_with_len, slice_index_or}
use Rattle.std.proofs.lemmas.Bool.{and_from, both_ways, false≢true, le-ltb, ne_eqb}
use Rattle.std.proofs.lemmas.List.Elements.{All-from_get_or}
use Rattle.std.proofs.lemmas.List.FromFn.{length-map-range_with_len}
use Rattle.morton_order.specs.declared.space.Loc.{Loc}
use Rattle.morton_order.specs.Space.{child, child_number, parent, parts, same_loc}
use Rattle.morton_order.proofs.Any.{any_range-has, or_cases, or_left, or_right}
use Rattle.morton_order.proofs.Family.{child-parent, child_number_below}
use Rattle.morton_order.proofs.Touching.{same_loc-is, same_loc-self}
use Rattle.problem_set.specs.Settings.{Settings}
use Rattle.block_tree.specs.Tree.{IsLeaf, IsTree, is_listed, is_node}
use Rattle.block_tree.specs.Leaves.{leaves_of}
use Rattle.block_tree.proofs.Behinds.{fails}
use Rattle.block_tree.proofs.KeyOrder.{leaves_law}
use Rattle.mesh_num.specs.Share.{share}
use Rattle.mesh_rules.specs.Sums.{table}
use Rattle.mesh_rules.specs.Mesh.{IsMesh, Mesh, block_of, block_size, cell_at, is_inner, leaf_number, place_of, totals_on}
use Rattle.mesh_rules.specs.Fields.{field_count, is_sparse}
use Rattle.mesh_rules.specs.Look.{look}
use Rattle.mesh_rules.specs.Mask.{Mask, Slot, carried_mask, inherits, is_kept, parent_kept, slot_at}
use Rattle.mesh_rules.specs.Remesh.{remap}
use Rattle.mesh_laws.proofs.Fillings.{number_of}
use Rattle.mesh_laws.proofs.Grids.{sum_zero}
use Rattle.mesh_laws.proofs.LeafSums.{block_of_cell}
use Rattle.mesh_laws.proofs.Looks.{block_child, block_parent, look_law, some_parts}
use Rattle.run_laws.specs.MaskLaws.{FitsSlot, MaskFits}
use Rattle.run_laws.proofs.NextLeaves.{CameFrom, Follows, came_from, itself, its_children, its_parent}
use Rattle.run_laws.proofs.RunTrees.{mapped, table_at}
use Rattle.run_laws.proofs.Slots.{masked_fits, origin, slot_masked}

-- what is not kept on a leaf is zero there
abbrev pub IsZeroUnkept : Settings → Mesh → Mask → Type 0
IsZeroUnkept q m mask = (leaf f : ℕ) → leaf < length m.leaves → f < field_count q → (slot_at mask leaf f).kept ≡ false → All (λ total. total ≡ 0) (totals_on m leaf f)

zero_item : (xs : List ℕ) → All (λ total. total ≡ 0) xs → (k : ℕ) → slice_index xs k ≡ 0
zero_item [] all k = refl
zero_item (x ∷ xs) all zero = all 0 0 (omega arith)
zero_item (x ∷ xs) all (suc k) = zero_item xs (λ i d inside. all (suc i) d (omega (arith, inside))) k

-- nothing is shared out of nothing
share_nothing : (n j : ℕ) → 1 ≤ n → share 0 n j ≡ 0
share_nothing n j some =
    let none : 0 / n ≡ 0 = omega arith in
    let rest : 0 % n ≡ 0 = omega arith in
    ap (λ (v : ℕ). v + (if nat_lt j (0 % n) then 1 else 0)) none
    ∙ ap (λ (v : ℕ). 0 + (if nat_lt j v then 1 else 0)) rest
    ∙ ap (λ (b : Bool). 0 + (if b then 1 else 0)) (le-ltb j 0 (omega arith))

-- the listed leaves
leaf_listed : (m : Mesh) → IsMesh m → (l : Loc) → IsLeaf m.shape (is_inner m) l → is_listed m.leaves l ≡ true
leaf_listed m mesh l leaf = ap (λ (xs : List Loc). is_listed xs l) mesh.leaves ∙ ((leaves_law m.shape (is_inner m) mesh.shape mesh.tree).leaves l).1 leaf

not_listed : (m : Mesh) → IsMesh m → (l : Loc) → (IsLeaf m.shape (is_inner m) l → ⊥) → is_listed m.leaves l ≡ false
not_listed m mesh l none = fails (is_listed m.leaves l) (λ h. none (((leaves_law m.shape (is_inner m) mesh.shape mesh.tree).leaves l).0 (ap (λ (xs : List Loc). is_listed xs l) (sym mesh.leaves) ∙ h)))

has_place : (l : Loc) (xs : List Loc) → is_listed xs l ≡ true → (i : ℕ) × (i < length xs) × (slice_index_or xs i l ≡ l)
has_place l [] h = absurd (false≢true h)
has_place l (x ∷ xs) h = elim (or_cases (same_loc l x) (is_listed xs l) h) [
  | inl same ↦ (0, omega arith, sym (same_loc-is l x same))
  | inr later ↦ let (i, inside, at) = has_place l xs later in (suc i, omega arith, at)
]

place_listed : (xs : List Loc) (i : ℕ) → i < length xs → is_listed xs (slice_index_or xs i origin) ≡ true
place_listed [] i h = absurd (omega (arith, h))
place_listed (x ∷ xs) zero h = or_left (same_loc x x) (is_listed xs x) (same_loc-self x)
place_listed (x ∷ xs) (suc i) h = or_right (same_loc (slice_index_or xs i origin) x) (is_listed xs (slice_index_or xs i origin)) (place_listed xs i (omega (arith, h)))

has_number : (m : Mesh) → IsMesh m → (l : Loc) → IsLeaf m.shape (is_inner m) l → leaf_number m l < length m.leaves
has_number m mesh l leaf = let (i, inside, at) = has_place l m.leaves (leaf_listed m mesh l leaf) in (number_of l m.leaves i inside at).small

-- whether a field is kept on a leaf is in its slot
kept_in_slot : (m : Mesh) (mask : Mask) → IsMesh m → (f : ℕ) (l : Loc) → IsLeaf m.shape (is_inner m) l → is_kept m mask f l ≡ (slot_at mask (leaf_number m l) f).kept
kept_in_slot m mask mesh f l leaf = ap (λ (b : Bool). b && (slot_at mask (leaf_number m l) f).kept) (leaf_listed m mesh l leaf)

-- a new leaf inherits what its parent or a child kept
by_parent : (m : Mesh) (mask : Mask) (f : ℕ) (l : Loc) → 1 ≤ l.level → is_kept m mask f (parent m.shape.dims l) ≡ true → inherits m mask f l ≡ true
by_parent m mask f l deep h = or_left (parent_kept m mask f l) (list_any (λ j. is_kept m mask f (child m.shape.dims l j)) (range_with_len 0 (parts m.shape.dims)))
    (and_from (not (l.level == 0)) (is_kept m mask f (parent m.shape.dims l)) (ap not (ne_eqb l.level 0 (λ e. omega arith))) h)

by_child : (m : Mesh) (mask : Mask) (f : ℕ) (l : Loc) (j : ℕ) → j < parts m.shape.dims → is_kept m mask f (child m.shape.dims l j) ≡ true → inherits m mask f l ≡ true
by_child m mask f l j few h = or_right (parent_kept m mask f l) (list_any (λ i. is_kept m mask f (child m.shape.dims l i)) (range_with_len 0 (parts m.shape.dims)))
    (any_range-has (λ i. is_kept m mask f (child m.shape.dims l i)) 0 (parts m.shape.dims) j (omega arith) (omega arith) h)

-- the slot that is carried to a leaf
abbrev carried : Mesh → Mask → Loc → ℕ → Slot
carried m mask l f = cond (is_listed m.leaves l) (slot_at mask (leaf_number m l) f) (record { kept = inherits m mask f l; idle = 0 })

carried_old : (m : Mesh) (mask : Mask) (l : Loc) (f : ℕ) → is_listed m.leaves l ≡ true → carried m mask l f ≡ slot_at mask (leaf_number m l) f
carried_old m mask l f h = ap (λ (b : Bool). cond b (slot_at mask (leaf_number m l) f) (record { kept = inherits m mask f l; idle = 0 })) h

carried_new : (m : Mesh) (mask : Mask) (l : Loc) (f : ℕ) → is_listed m.leaves l ≡ false → carried m mask l f ≡ record { kept = inherits m mask f l; idle = 0 }
carried_new m mask l f h = ap (λ (b : Bool). cond b (slot_at mask (leaf_number m l) f) (record { kept = inherits m mask f l; idle = 0 })) h

new_by_parent : (m : Mesh) → IsMesh m → (l : Loc) → is_node m.shape (is_inner m) l ≡ false → is_listed m.leaves l ≡ false
new_by_parent m mesh l none = not_listed m mesh l (λ leaf. both_ways (is_node m.shape (is_inner m) l) none leaf.node)

new_by_children : (m : Mesh) → IsMesh m → (l : Loc) → is_inner m l ≡ true → is_listed m.leaves l ≡ false
new_by_children m mesh l inner = not_listed m mesh l (λ leaf. leaf.outer inner)

-- it fits
new_fits : (q : Settings) (m : Mesh) (mask : Mask) (l : Loc) (f : ℕ) → 1 ≤ q.dealloc_count → is_listed m.leaves l ≡ false → (is_sparse q f ≡ false → inherits m mask f l ≡ true) → FitsSlot q f (carried m mask l f)
new_fits q m mask l f some new always = subst (λ (t : Slot). FitsSlot q f t) (sym (carried_new m mask l f new)) (record { always = always; fresh = λ h. refl; idle = some })

always_on : (q : Settings) (m : Mesh) (mask : Mask) → IsMesh m → MaskFits q m.leaves mask → (f : ℕ) → f < field_count q → (l : Loc) → IsLeaf m.shape (is_inner m) l → is_sparse q f ≡ false → is_kept m mask f l ≡ true
always_on q m mask mesh fit f within l leaf h = kept_in_slot m mask mesh f l leaf ∙ (fit.slots (leaf_number m l) f (has_number m mesh l leaf) within).always h

carried_fits : (q : Settings) (m : Mesh) (mask : Mask) → IsMesh m → 1 ≤ q.dealloc_count → MaskFits q m.leaves mask → (f : ℕ) → f < field_count q → (l : Loc) → CameFrom m.shape (is_inner m) l → FitsSlot q f (carried m mask l f)
carried_fits q m mask mesh some fit f within l (itself leaf) =
    subst (λ (t : Slot). FitsSlot q f t) (sym (carried_old m mask l f (leaf_listed m mesh l leaf))) (fit.slots (leaf_number m l) f (has_number m mesh l leaf) within)
carried_fits q m mask mesh some fit f within l (its_parent deep none leaf) =
    new_fits q m mask l f some (new_by_parent m mesh l none) (λ h. by_parent m mask f l deep (always_on q m mask mesh fit f within (parent m.shape.dims l) leaf h))
carried_fits q m mask mesh some fit f within l (its_children inner leaves) =
    let few : 0 < parts m.shape.dims = let least = some_parts m.shape.dims in omega arith in
    new_fits q m mask l f some (new_by_children m mesh l inner) (λ h. by_child m mask f l 0 few (always_on q m mask mesh fit f within (child m.shape.dims l 0) (leaves 0 few) h))

-- where an old leaf goes without a field, its cells have none
look_nothing : (q : Settings) (m : Mesh) (mask : Mask) → IsMesh m → IsZeroUnkept q m mask → (f : ℕ) → f < field_count q → (l : Loc) → IsLeaf m.shape (is_inner m) l → is_kept m mask f l ≡ false → (c : Loc) → block_of m c ≡ l → look m f c ≡ 0
look_nothing q m mask mesh none f within l leaf gone c at =
    (look_law m f c mesh).at_leaf (subst (λ (x : Loc). IsLeaf m.shape (is_inner m) x) (sym at) leaf)
    ∙ ap (λ (x : Loc). slice_index (totals_on m (leaf_number m x) f) (place_of m c)) at
    ∙ zero_item (totals_on m (leaf_number m l) f) (none (leaf_number m l) f (has_number m mesh l leaf) within (sym (kept_in_slot m mask mesh f l leaf) ∙ gone)) (place_of m c)

-- a share of what the parent has, where that went without the field
split_nothing : (q : Settings) (m : Mesh) (mask : Mask) → IsMesh m → IsZeroUnkept q m mask → (f : ℕ) → f < field_count q → (l : Loc) → is_node m.shape (is_inner m) l ≡ false → IsLeaf m.shape (is_inner m) (parent m.shape.dims l) → is_kept m mask f (parent m.shape.dims l) ≡ false → (c : Loc) → block_of m c ≡ l → look m f c ≡ 0
split_nothing q m mask mesh none f within l new leaf gone c at =
    let d = m.shape.dims in
    (look_law m f c mesh).coarser (ap (λ (x : Loc). is_node m.shape (is_inner m) x) at ∙ new)
    ∙ ap (λ (v : ℕ). share v (parts d) (child_number d c)) (look_nothing q m mask mesh none f within (parent d l) leaf gone (parent d c) (block_parent m c ∙ ap (parent d) at))
    ∙ share_nothing (parts d) (child_number d c) (some_parts d)

-- the sum of what the children have, where all of them went without it
merged_nothing : (q : Settings) (m : Mesh) (mask : Mask) → IsMesh m → IsZeroUnkept q m mask → (f : ℕ) → f < field_count q → (l : Loc) → is_inner m l ≡ true → ((j : ℕ) → j < parts m.shape.dims → IsLeaf m.shape (is_inner m) (child m.shape.dims l j)) → ((j : ℕ) → j < parts m.shape.dims → is_kept m mask f (child m.shape.dims l j) ≡ false) → (c : Loc) → block_of m c ≡ l → look m f c ≡ 0
merged_nothing q m mask mesh none f within l inner leaves gone c at =
    let d = m.shape.dims in
    (look_law m f c mesh).finer (ap (λ (x : Loc). is_inner m x) at ∙ inner)
    ∙ sum_zero (parts d) (λ j. look m f (child d c j))
    (λ j less.
    let b : Loc = block_of m (child d c j) in
    let above : parent d b ≡ l = block_child m c j ∙ at in
    let number : ℕ = child_number d b in
    let small = child_number_below d b mesh.shape.least mesh.shape.most in
    let is : child d l number ≡ b = ap (λ (v : Loc). child d v number) (sym above) ∙ child-parent d b (omega arith) in
    look_nothing q m mask mesh none f within (child d l number) (leaves number small) (gone number small) (child d c j) (sym is))

-- so the cells of a leaf to which a field is not carried have none
carried_nothing : (q : Settings) (m : Mesh) (mask : Mask) → IsMesh m → IsZeroUnkept q m mask → (f : ℕ) → f < field_count q → (l : Loc) → CameFrom m.shape (is_inner m) l → (carried m mask l f).kept ≡ false → (c : Loc) → block_of m c ≡ l → look m f c ≡ 0
carried_nothing q m mask mesh none f within l (itself leaf) gone =
    look_nothing q m mask mesh none f within l leaf (kept_in_slot m mask mesh f l leaf ∙ ap (λ (t : Slot). t.kept) (sym (carried_old m mask l f (leaf_listed m mesh l leaf))) ∙ gone)
carried_nothing q m mask mesh none f within l (its_parent deep new leaf) gone =
    let not_kept : inherits m mask f l ≡ false = ap (λ (t : Slot). t.kept) (sym (carried_new m mask l f (new_by_parent m mesh l new))) ∙ gone in
    split_nothing q m mask mesh none f within l new leaf (fails (is_kept m mask f (parent m.shape.dims l)) (λ h. false≢true (sym not_kept ∙ by_parent m mask f l deep h)))
carried_nothing q m mask mesh none f within l (its_children inner leaves) gone =
    let not_kept : inherits m mask f l ≡ false = ap (λ (t : Slot). t.kept) (sym (carried_new m mask l f (new_by_children m mesh l inner))) ∙ gone in
    merged_nothing q m mask mesh none f within l inner leaves (λ j few. fails (is_kept m mask f (child m.shape.dims l j)) (λ h. false≢true (sym not_kept ∙ by_child m mask f l j few h)))

-- the totals of a remapped mesh
remapped_totals : (q : Settings) (m : Mesh) (next : Loc → Bool) (leaf f : ℕ) → leaf < length (leaves_of m.shape next) → f < field_count q →
    totals_on (remap m (field_count q) next) leaf f ≡ table (block_size m) (λ place. look m f (cell_at m (slice_index_or (leaves_of m.shape next) leaf origin) place))
remapped_totals q m next leaf f inside within =
    let lists : Loc → List (List ℕ) = λ x. table (field_count q) (λ g. table (block_size m) (λ place. look m g (cell_at m x place))) in
    let l = slice_index_or (leaves_of m.shape next) leaf origin in
    ap (λ (xs : List (List ℕ)). slice_index_or xs f []) (mapped lists (leaves_of m.shape next) leaf origin [] inside)
    ∙ table_at (field_count q) (λ g. table (block_size m) (λ place. look m g (cell_at m l place))) f [] within

-- the leaves of a tree that follows
leaf_at : (m : Mesh) (next : Loc → Bool) → IsMesh m → IsTree m.shape next → (leaf : ℕ) → leaf < length (leaves_of m.shape next) → IsLeaf m.shape next (slice_index_or (leaves_of m.shape next) leaf origin)
leaf_at m next mesh tree leaf inside =
    let l = slice_index_or (leaves_of m.shape next) leaf origin in
    ((leaves_law m.shape next mesh.shape tree).leaves l).0 (place_listed (leaves_of m.shape next) leaf inside)

pub remasked_fits : (q : Settings) (m : Mesh) (mask : Mask) (next : Loc → Bool) → IsMesh m → IsTree m.shape next → Follows m.shape (is_inner m) next → 1 ≤ q.dealloc_count → MaskFits q m.leaves mask → MaskFits q (leaves_of m.shape next) (carried_mask q m mask (leaves_of m.shape next))
remasked_fits q m mask next mesh tree follows some fit =
    masked_fits q (leaves_of m.shape next) (λ _ l f. carried m mask l f)
    (λ leaf f inside within.
    let l = slice_index_or (leaves_of m.shape next) leaf origin in
    carried_fits q m mask mesh some fit f within l (came_from m.shape (is_inner m) next follows l (leaf_at m next mesh tree leaf inside)))

pub remasked_zero : (q : Settings) (m : Mesh) (mask : Mask) (next : Loc → Bool) → IsMesh m → IsTree m.shape next → Follows m.shape (is_inner m) next → IsZeroUnkept q m mask → IsZeroUnkept q (remap m (field_count q) next) (carried_mask q m mask (leaves_of m.shape next))
remasked_zero q m mask next mesh tree follows none leaf f inside within gone =
    let leaves = leaves_of m.shape next in
    let l = slice_index_or leaves leaf origin in
    let from = came_from m.shape (is_inner m) next follows l (leaf_at m next mesh tree leaf inside) in
    let slot = slot_masked leaves (field_count q) (λ _ x g. carried m mask x g) leaf f inside within in
    let not_kept : (carried m mask l f).kept ≡ false = ap (λ (t : Slot). t.kept) (sym slot) ∙ gone in
    let each : ℕ → ℕ = λ place. look m f (cell_at m l place) in
    subst (λ (xs : List ℕ). All (λ total. total ≡ 0) xs) (sym (remapped_totals q m next leaf f inside within))
    (All-from_get_or (λ total. total ≡ 0) (table (block_size m) each) 0
    (λ place small.
    let room : place < block_size m = omega (arith, small, length-map-range_with_len each 0 (block_size m)) in
    table_at (block_size m) each place 0 room
    ∙ carried_nothing q m mask mesh none f within l from not_kept (cell_at m l place) (block_of_cell m mesh.some_cells l place room)))
