-- What is left of a mesh, and what is dropped.
use Rattle.std.proofs.Common.{◌≡◌, ℕ, suc, ◌+◌, ◌-◌, ◌^◌, ◌<◌, ◌≤◌, Bool, true, false, cond, ◌||◌, not, List, [], ◌∷◌, length, replicate, refl, arith, ap, sym, ◌∙◌, sum, inl, inr}
use Rattle.std.specs.List.{slice_index_or}
use Rattle.std.proofs.lemmas.Bool.{cases_lt}
use Rattle.std.proofs.lemmas.List.{ext_get_or, get_or-replicate, get_or_past, length-replicate}
use Rattle.std.proofs.lemmas.List.Sums.{get_or-le-sum_by}
use Rattle.morton_order.specs.declared.space.Loc.{Loc}
use Rattle.block_tree.specs.Blocks.{TreeOfBlocks, leaves}
use Rattle.problem_set.specs.Settings.{Settings}
use Rattle.mesh_rules.specs.Sums.{sum_over, sum_to, table}
use Rattle.mesh_rules.specs.Fields.{field_count, is_sparse}
use Rattle.mesh_rules.specs.Mesh.{IsMesh, Mesh, block_of, block_size, cell_at, leaf_total, stored}
use Rattle.mesh_rules.specs.Mask as mask
use Rattle.mesh_rules.specs.Mask.{Mask, dropped_of, leaf_dropped, slot_at, stays}
use Rattle.mesh_laws.proofs.Grids.{sum_first, sum_zero}
use Rattle.mesh_laws.proofs.LeafSums.{block_of_cell}
use Rattle.mesh_laws.proofs.Totals.{sum_to-same}
use Rattle.block_layout.specs.declared.layout.Layout.{Layout}
use Rattle.dense_mesh.specs.declared.totals.Slot.{Slot}
use Rattle.dense_mesh.specs.Meshes.{IsMeshIn, field_lists, mesh_of, totals_in}
use Rattle.dense_mesh.specs.Masks.{AreSlots, mask_of}
use Rattle.dense_mesh.proofs.Tables.{table_at, table_length, table_same}
use Rattle.dense_mask.specs.Totals.{list_total}
use Rattle.dense_mask.specs.Cuts.{AreCut, dropped_to, left_of, stays_on}
use Rattle.dense_mask.specs.SlotSteps.{slot_on}
use Rattle.dense_mask.specs.Steps.{IsDoneTo}
use Rattle.dense_mask.proofs.Fills.{are_field_lists}
use Rattle.dense_mask.proofs.Leaves.{HasRow, has_row, leaf_at, number_of_leaf, origin, row_of}
use Rattle.dense_mask.proofs.SlotSteps.{slot_in_mask}
use Rattle.dense_mask.proofs.Sums.{leaf_sum}

-- a sum with one more
pub sum_more : (n : ℕ) (each : ℕ → ℕ) → sum_to (n + 1) each ≡ sum_to n each + each n
sum_more n each = let e : n + 1 ≡ suc n = omega arith in ap (λ (k : ℕ). sum_to k each) e

-- no block has more than the field
pub small_block : (lists : List (List ℕ)) (leaf : ℕ) → list_total lists ≤ 2 ^ 62 - 1 → sum (slice_index_or lists leaf []) < 2 ^ 64
small_block lists leaf small = elim (cases_lt leaf (length lists)) [
  | inl inside ↦ let e = get_or-le-sum_by (λ (cells : List ℕ). sum cells) lists leaf [] inside in omega arith
  | inr beyond ↦ let e = ap (λ (v : List ℕ). sum v) (get_or_past lists leaf [] beyond) in omega arith
]

-- nothing is dropped of a field that is not sparse
pub nothing_dropped : (p : Settings) (f : ℕ) (slots : List Slot) (list : List (List ℕ)) (n : ℕ) → is_sparse p f ≡ false → 0 ≡ dropped_to (stays_on p f slots) list n
nothing_dropped p f slots list n e =
    sym (sum_zero n (λ leaf. cond (stays_on p f slots leaf) 0 (sum (slice_index_or list leaf [])))
    (λ leaf small. ap (λ (b : Bool). cond (not b || (slot_on slots leaf).kept) 0 (sum (slice_index_or list leaf []))) e))

-- whether a field stays on a leaf of a mesh
pub stays_is : (p : Settings) (m : Mesh) → IsMesh m → (slots : List (List Slot)) → AreSlots (field_count p) (length m.leaves) slots → (f leaf : ℕ) → f < field_count p → leaf < length m.leaves →
    stays p m (mask_of (length m.leaves) slots) f (leaf_at m leaf) ≡ stays_on p f (slice_index_or slots f []) leaf
stays_is p m mesh slots are f leaf some small =
    let many = are.fields in
    let k : Mask = mask_of (length m.leaves) slots in
    ap (λ (n : ℕ). not (is_sparse p f) || (slot_at k n f).kept) (number_of_leaf m mesh leaf small)
    ∙ ap (λ (s : mask.Slot). not (is_sparse p f) || s.kept) (slot_in_mask (length m.leaves) slots leaf f small (omega arith))

-- a table of zeros
zeros : (n : ℕ) → table {X = ℕ} n (λ _. 0) ≡ replicate {A = ℕ} n 0
zeros n = let long = table_length {X = ℕ} n (λ _. 0) in
    ext_get_or 0 (table {X = ℕ} n (λ _. 0)) (replicate {A = ℕ} n 0) (long ∙ sym (length-replicate {A = ℕ} n 0))
    (λ k small. table_at {X = ℕ} n (λ _. 0) k 0 (omega arith) ∙ sym (get_or-replicate {A = ℕ} n k 0 0 (omega arith)))

-- what is left on a leaf, cell by cell
abbrev pub left_in : Settings → Mask → Mesh → ℕ → Loc → ℕ
left_in p mask m f c = cond (stays p m mask f (block_of m c)) (stored m f c) 0

pub left_row : (p : Settings) (m : Mesh) (k : Mask) → IsMesh m → (f leaf : ℕ) (b : Bool) (cells : List ℕ) → HasRow m f leaf cells → stays p m k f (leaf_at m leaf) ≡ b → left_of b cells ≡ row_of m (left_in p k m f) leaf
left_row p m k mesh f leaf b cells has e =
    by b
    ∙ sym (table_same (block_size m) (λ place. left_in p k m f (cell_at m (leaf_at m leaf) place)) (λ place. cond b (stored m f (cell_at m (leaf_at m leaf) place)) 0) 0
    (λ place inside.
    ap (λ (x : Loc). cond (stays p m k f x) (stored m f (cell_at m (leaf_at m leaf) place)) 0) (block_of_cell m mesh.some_cells (leaf_at m leaf) place inside)
    ∙ ap (λ (v : Bool). cond v (stored m f (cell_at m (leaf_at m leaf) place)) 0) e))
  where
    by : (v : Bool) → left_of v cells ≡ table (block_size m) (λ place. cond v (stored m f (cell_at m (leaf_at m leaf) place)) 0)
    by true = sym has.row
    by false = ap (λ (n : ℕ). replicate n 0) has.long ∙ sym (zeros (block_size m))

-- the lists of which only what stays is left
pub cut_lists : (p : Settings) (t : TreeOfBlocks) (l : Layout) (old new : List (List (List ℕ))) (slots : List (List Slot)) (n : ℕ) → IsMeshIn p t l old → AreSlots (field_count p) (length (leaves t)) slots →
    field_count p ≤ n → IsDoneTo (λ f list left. AreCut (stays_on p f (slice_index_or slots f [])) list left) [] n old new →
    new ≡ field_lists (mesh_of t p.cells old) (field_count p) (left_in p (mask_of (length (leaves t)) slots) (mesh_of t p.cells old))
cut_lists p t l old new slots n is are over done =
    let m : Mesh = mesh_of t p.cells old in
    let k : Mask = mask_of (length (leaves t)) slots in
    are_field_lists m (field_count p) (left_in p k m) new (done.many ∙ is.fields)
    (λ f some. (done.done f (omega arith)).many ∙ is.leaf_lists f some)
    (λ f leaf some small.
    let long = is.leaf_lists f some in
    (done.done f (omega arith)).done leaf (omega arith)
    ∙ left_row p m k is.mesh.mesh f leaf (stays_on p f (slice_index_or slots f []) leaf) (totals_in old f leaf) (has_row p t l old is f leaf some small) (stays_is p m is.mesh.mesh slots are f leaf some small))

-- a sum over locations by their numbers
pub over_numbers : (xs : List Loc) (each : Loc → ℕ) → sum_over xs each ≡ sum_to (length xs) (λ i. each (slice_index_or xs i origin))
over_numbers [] each = refl
over_numbers (x ∷ xs) each =
    let a = over_numbers xs each in
    let b = sum_first (length xs) (λ i. each (slice_index_or (x ∷ xs) i origin)) in
    omega arith

-- what is dropped of a field
pub dropped_is : (p : Settings) (t : TreeOfBlocks) (l : Layout) (lists : List (List (List ℕ))) (slots : List (List Slot)) → IsMeshIn p t l lists → AreSlots (field_count p) (length (leaves t)) slots → (f : ℕ) → f < field_count p →
    dropped_to (stays_on p f (slice_index_or slots f [])) (slice_index_or lists f []) (length (slice_index_or lists f [])) ≡ dropped_of p (mask_of (length (leaves t)) slots) (mesh_of t p.cells lists) f
dropped_is p t l lists slots is are f some =
    let m : Mesh = mesh_of t p.cells lists in
    let k : Mask = mask_of (length (leaves t)) slots in
    let stay : ℕ → Bool = stays_on p f (slice_index_or slots f []) in
    ap (λ (n : ℕ). dropped_to stay (slice_index_or lists f []) n) (is.leaf_lists f some)
    ∙ sum_to-same (length m.leaves) (λ leaf. cond (stay leaf) 0 (sum (totals_in lists f leaf))) (λ leaf. leaf_dropped p k m f (leaf_at m leaf))
    (λ leaf small. sym (
    ap (λ (b : Bool). cond b 0 (leaf_total m f (leaf_at m leaf))) (stays_is p m is.mesh.mesh slots are f leaf some small)
    ∙ ap (λ (n : ℕ). cond (stay leaf) 0 n) (leaf_sum m f leaf (totals_in lists f leaf) (has_row p t l lists is f leaf some small))))
    ∙ sym (over_numbers m.leaves (leaf_dropped p k m f))
