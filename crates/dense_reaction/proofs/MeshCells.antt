-- The cells of a mesh, and how much they hold.
use Rattle.std.proofs.Common.{◌≡◌, ◌∙◌, ℕ, zero, suc, ◌+◌, ◌*◌, ◌<◌, ◌≤◌, List, [], length, map, slice_index, sum, arith, ap, sym, inl, inr}
use Rattle.std.specs.Prelude.{All}
use Rattle.std.specs.List.{slice_index_or}
use Rattle.std.proofs.lemmas.Bool.{cases_lt}
use Rattle.std.proofs.lemmas.List.{get_or-map, length-map}
use Rattle.std.proofs.lemmas.List.Elements.{All-from_get_or}
use Rattle.morton_order.specs.declared.space.Loc.{Loc}
use Rattle.block_tree.specs.Blocks.{TreeOfBlocks, leaves}
use Rattle.problem_set.specs.Settings.{Settings}
use Rattle.package_fields.specs.Kernel.{KernelLaws, Reacted}
use Rattle.mesh_rules.specs.Sums.{sum_to}
use Rattle.mesh_rules.specs.Fields.{field_count}
use Rattle.mesh_rules.specs.Mesh.{Mesh, block_size, cell_at as cell_of, stored, sum_on}
use Rattle.mesh_rules.specs.Fit.{sum_of_all}
use Rattle.mesh_rules.specs.Reaction.{cell_totals, leaf_made, leaf_used, reacted_cell}
use Rattle.mesh_laws.proofs.Cells.{cells_axes}
use Rattle.block_layout.specs.declared.layout.Layout.{Layout}
use Rattle.block_layout.specs.Indices.{count_of}
use Rattle.block_layout.specs.Layouts.{interior_len}
use Rattle.dense_mesh.specs.Meshes.{IsMeshIn, mesh_of}
use Rattle.dense_mesh.proofs.Lists.{lists_are_totals}
use Rattle.dense_mesh.proofs.Tables.{table_by, table_length}
use Rattle.dense_mask.proofs.Cuts.{over_numbers}
use Rattle.dense_mask.proofs.Leaves.{has_row, leaf_at, stored_on_leaf}
use Rattle.dense_mask.proofs.Sums.{item_in_sum, sum_table}
use Rattle.dense_reaction.specs.Blocks.{cell_in}
use Rattle.dense_reaction.proofs.Cells.{cell_at, cell_length}

-- the rows of a leaf, by field
abbrev pub rows_of : List (List (List ℕ)) → ℕ → List (List ℕ)
rows_of lists leaf = map (λ (list : List (List ℕ)). slice_index_or list leaf []) lists

-- a block's cells as the layout counts them
pub size_is : (p : Settings) (t : TreeOfBlocks) (l : Layout) (lists : List (List (List ℕ))) → IsMeshIn p t l lists → interior_len l ≡ block_size (mesh_of t p.cells lists)
size_is p t l lists is = ap (λ (v : List ℕ). count_of v) is.cells

-- each field has a list for a leaf, and a total for each cell of it
pub has_leaf : (p : Settings) (t : TreeOfBlocks) (l : Layout) (lists : List (List (List ℕ))) → IsMeshIn p t l lists → (leaf : ℕ) → leaf < length (leaves t) → All (λ (list : List (List ℕ)). leaf < length list) lists
has_leaf p t l lists is leaf small = All-from_get_or (λ (list : List (List ℕ)). leaf < length list) lists [] (λ f h.
    let many = is.fields in
    let long = is.leaf_lists f (omega arith) in omega arith)

pub has_cells : (p : Settings) (t : TreeOfBlocks) (l : Layout) (lists : List (List (List ℕ))) → IsMeshIn p t l lists → (leaf : ℕ) → leaf < length (leaves t) →
    All (λ (list : List (List ℕ)). length (slice_index_or list leaf []) ≡ interior_len l) lists
has_cells p t l lists is leaf small = All-from_get_or (λ (list : List (List ℕ)). length (slice_index_or list leaf []) ≡ interior_len l) lists [] (λ f h.
    let many = is.fields in
    (has_row p t l lists is f leaf (omega arith) small).long ∙ sym (size_is p t l lists is))

-- the cell at a place of the rows is that of the mesh
pub cell_is : (p : Settings) (t : TreeOfBlocks) (l : Layout) (lists : List (List (List ℕ))) → IsMeshIn p t l lists → (leaf place : ℕ) → leaf < length (leaves t) → place < block_size (mesh_of t p.cells lists) →
    let m : Mesh = mesh_of t p.cells lists in cell_in (rows_of lists leaf) place ≡ cell_totals (field_count p) m (cell_of m (leaf_at m leaf) place)
cell_is p t l lists is leaf place small inside =
    let m : Mesh = mesh_of t p.cells lists in
    let rows : List (List ℕ) = rows_of lists leaf in
    let many : length rows ≡ field_count p = length-map lists (λ (list : List (List ℕ)). slice_index_or list leaf []) ∙ is.fields in
    table_by (cell_in rows place) (field_count p) (λ f. stored m f (cell_of m (leaf_at m leaf) place)) 0 (cell_length rows place ∙ many) (λ f some.
    let fields = is.fields in
    cell_at rows place f (omega arith)
    ∙ (ap (λ (row : List ℕ). slice_index row place) (get_or-map (λ (list : List (List ℕ)). slice_index_or list leaf []) lists f [] [] (omega arith))
    ∙ (ap (λ (row : List ℕ). slice_index row place) (sym (lists_are_totals t p.cells lists leaf f small (omega arith)))
    ∙ sym (stored_on_leaf m is.mesh.mesh f leaf place small inside))))

-- sums of what is at most as much, and of so many times as much
pub sum_least : (n : ℕ) (g h : ℕ → ℕ) → ((k : ℕ) → k < n → g k ≤ h k) → sum_to n g ≤ sum_to n h
sum_least zero g h least = omega arith
sum_least (suc n) g h least = let a = sum_least n g h (λ k s. least k (omega arith)) in let b = least n (omega arith) in omega arith

pub sum_times : (n a : ℕ) (g : ℕ → ℕ) → sum_to n (λ k. a * g k) ≡ a * sum_to n g
sum_times zero a g = omega arith
sum_times (suc n) a g = let e = sum_times n a g in let d : a * (sum_to n g + g n) ≡ a * sum_to n g + a * g n = grind arith in omega arith

pub sum_part : (k n : ℕ) (g : ℕ → ℕ) → k ≤ n → sum_to k g ≤ sum_to n g
sum_part k zero g small = let e : k ≡ 0 = omega arith in let d = ap (λ (j : ℕ). sum_to j g) e in omega arith
sum_part k (suc n) g small = elim (cases_lt k (suc n)) [
  | inl before ↦ let e = sum_part k n g (omega arith) in omega arith
  | inr all ↦ let e : k ≡ suc n = omega arith in let d = ap (λ (j : ℕ). sum_to j g) e in omega arith
]

-- what a cell holds, and a leaf
abbrev pub held : ℕ → Mesh → Loc → ℕ
held fields m c = sum_to fields (λ f. stored m f c)

abbrev pub held_on : ℕ → Mesh → ℕ → ℕ
held_on fields m leaf = sum_on m (leaf_at m leaf) (held fields m)

-- all leaves hold the sum of all totals
pub held_all : (p : Settings) (m : Mesh) → sum_to (length m.leaves) (held_on (field_count p) m) ≡ sum_of_all p m
held_all p m = sym (over_numbers m.leaves (λ l. sum_on m l (held (field_count p) m))) ∙ cells_axes m (field_count p) (λ c f. stored m f c)

-- so the first of them, and each cell, hold at most that
pub held_before : (p : Settings) (m : Mesh) (n : ℕ) → n ≤ length m.leaves → sum_to n (held_on (field_count p) m) ≤ sum_of_all p m
held_before p m n few = let a = sum_part n (length m.leaves) (held_on (field_count p) m) few in let b = held_all p m in omega arith

pub held_in : (p : Settings) (m : Mesh) (leaf place : ℕ) → leaf < length m.leaves → place < block_size m → held (field_count p) m (cell_of m (leaf_at m leaf) place) ≤ sum_of_all p m
held_in p m leaf place small inside =
    let a = item_in_sum (block_size m) place (λ k. held (field_count p) m (cell_of m (leaf_at m leaf) k)) inside in
    let b = item_in_sum (length m.leaves) leaf (held_on (field_count p) m) small in
    let c = held_all p m in omega arith

pub cell_sum : (fields : ℕ) (m : Mesh) (c : Loc) → sum (cell_totals fields m c) ≡ held fields m c
cell_sum fields m c = sum_table fields (λ f. stored m f c)

-- a kernel makes and uses on a leaf at most 256 times what the leaf holds
pub made_most : (react : List ℕ → Reacted) (fields : ℕ) (m : Mesh) (f leaf : ℕ) → KernelLaws fields react → f < fields → leaf_made react fields m f (leaf_at m leaf) ≤ 256 * held_on fields m leaf
made_most react fields m f leaf laws some =
    let l : Loc = leaf_at m leaf in
    let a = sum_least (block_size m) (λ k. slice_index (reacted_cell react fields m (cell_of m l k)).made f) (λ k. 256 * held fields m (cell_of m l k)) (λ k inside.
    let c : Loc = cell_of m l k in
    let b = (laws.keeps_balance (cell_totals fields m c) f (table_length fields (λ f. stored m f c)) some).made_bounded in
    let e = cell_sum fields m c in omega arith) in
    let b = sum_times (block_size m) 256 (λ k. held fields m (cell_of m l k)) in omega arith

pub used_most : (react : List ℕ → Reacted) (fields : ℕ) (m : Mesh) (f leaf : ℕ) → KernelLaws fields react → f < fields → leaf_used react fields m f (leaf_at m leaf) ≤ 256 * held_on fields m leaf
used_most react fields m f leaf laws some =
    let l : Loc = leaf_at m leaf in
    let a = sum_least (block_size m) (λ k. slice_index (reacted_cell react fields m (cell_of m l k)).used f) (λ k. 256 * held fields m (cell_of m l k)) (λ k inside.
    let c : Loc = cell_of m l k in
    let b = (laws.keeps_balance (cell_totals fields m c) f (table_length fields (λ f. stored m f c)) some).used_bounded in
    let e = cell_sum fields m c in omega arith) in
    let b = sum_times (block_size m) 256 (λ k. held fields m (cell_of m l k)) in omega arith

pub sum_below : (p : Settings) (m : Mesh) (n : ℕ) (each : ℕ → ℕ) → n ≤ length m.leaves → ((leaf : ℕ) → leaf < n → each leaf ≤ 256 * held_on (field_count p) m leaf) → sum_to n each ≤ 256 * sum_of_all p m
sum_below p m n each few most =
    let a = sum_least n each (λ leaf. 256 * held_on (field_count p) m leaf) most in
    let b = sum_times n 256 (held_on (field_count p) m) in
    let c = held_before p m n few in omega arith
