-- A reaction keeps the sum over the fields, and balances field by field.
use Rattle.std.proofs.Common.{◌≡◌, ℕ, zero, suc, ◌+◌, ◌<◌, List, [], ◌∷◌, length, refl, arith, ap, sym, ◌∙◌, sum}
use Rattle.std.specs.Prelude.{slice_index, map}
use Rattle.std.specs.List.{range_with_len}
use Rattle.std.proofs.lemmas.List.Sums.{sum_by-cons}
use Rattle.std.proofs.lemmas.List.FromFn.{get_or-map-range_with_len}
use Rattle.morton_order.specs.declared.space.Loc.{Loc}
use Rattle.package_fields.specs.Kernel.{KernelLaws, Reacted}
use Rattle.mesh_rules.specs.Sums.{sum_to, table}
use Rattle.mesh_rules.specs.Mesh.{Mesh, stored, sum_cells, total_of}
use Rattle.mesh_rules.specs.Reaction.{cell_totals, react_mesh, reacted_cell, used_of}
use Rattle.mesh_laws.specs.ReactionLaws.{ReactionBalances, ReactionKeepsSum}
use Rattle.mesh_laws.proofs.Cells.{cells_axes, cells_plus, cells_same}
use Rattle.mesh_laws.proofs.Fillings.{filled_sum}
use Rattle.mesh_laws.proofs.Grids.{sum_first}
use Rattle.mesh_laws.proofs.Totals.{sum_to-same}

-- a table has as many items as it is asked for
pub table_length : (n a : ℕ) (g : ℕ → ℕ) → length (map g (range_with_len a n)) ≡ n
table_length zero a g = refl
table_length (suc n) a g = let e = table_length n (a + 1) g in omega arith

-- the item of a table
pub table_item : (n i : ℕ) (g : ℕ → ℕ) → i < n → slice_index (table n g) i ≡ g i
table_item n i g h = let z : 0 + i ≡ i = omega arith in get_or-map-range_with_len g 0 n i i 0 h z

-- the sum of a list by its items
pub sum_items : (xs : List ℕ) → sum xs ≡ sum_to (length xs) (slice_index xs)
sum_items [] = refl
sum_items (x ∷ xs) =
    let e = sum_by-cons (λ (y : ℕ). y) x xs in
    let f = sum_items xs in
    let g = sum_first (length xs) (slice_index (x ∷ xs)) in
    omega arith

-- the list of a cell's totals
cell_length : (fields : ℕ) (m : Mesh) (c : Loc) → length (cell_totals fields m c) ≡ fields
cell_length fields m c = table_length fields 0 (λ f. stored m f c)

-- what a kernel makes of a cell, field by field
pub cell_balances : (react : List ℕ → Reacted) (fields f : ℕ) (m : Mesh) → KernelLaws fields react → f < fields → (c : Loc) →
    slice_index (reacted_cell react fields m c).totals f + slice_index (reacted_cell react fields m c).used f ≡ stored m f c + slice_index (reacted_cell react fields m c).made f
cell_balances react fields f m laws some c =
    (laws.keeps_balance (cell_totals fields m c) f (cell_length fields m c) some).balanced
    ∙ ap (λ v. v + slice_index (reacted_cell react fields m c).made f) (table_item fields f (λ f. stored m f c) some)

pub reaction_balances : ReactionBalances
reaction_balances react fields f m mesh laws some =
    let after : Loc → ℕ = λ c. slice_index (reacted_cell react fields m c).totals f in
    let used : Loc → ℕ = λ c. slice_index (reacted_cell react fields m c).used f in
    let made : Loc → ℕ = λ c. slice_index (reacted_cell react fields m c).made f in
    ap (λ v. v + used_of react fields m f) (filled_sum m mesh.some_cells fields f (λ f c. slice_index (reacted_cell react fields m c).totals f) some)
    ∙ sym (cells_plus m after used)
    ∙ cells_same m (λ c. after c + used c) (λ c. stored m f c + made c) (cell_balances react fields f m laws some)
    ∙ cells_plus m (stored m f) made

-- the sum over the fields of a cell
cell_sum : (react : List ℕ → Reacted) (fields : ℕ) (m : Mesh) → KernelLaws fields react → (c : Loc) →
    sum_to fields (λ f. slice_index (reacted_cell react fields m c).totals f) ≡ sum_to fields (λ f. stored m f c)
cell_sum react fields m laws c =
    let cell : List ℕ = cell_totals fields m c in
    let long = cell_length fields m c in
    ap (λ n. sum_to n (slice_index (react cell).totals)) (sym (laws.has_fields cell long).totals)
    ∙ sym (sum_items (react cell).totals)
    ∙ laws.keeps_sum cell long
    ∙ sum_items cell
    ∙ ap (λ n. sum_to n (slice_index cell)) long
    ∙ sum_to-same fields (slice_index cell) (λ f. stored m f c) (λ f l. table_item fields f (λ f. stored m f c) l)

pub reaction_keeps_sum : ReactionKeepsSum
reaction_keeps_sum react fields m mesh laws =
    sum_to-same fields (total_of (react_mesh react fields m)) (λ f. sum_cells m (λ c. slice_index (reacted_cell react fields m c).totals f))
    (λ f l. filled_sum m mesh.some_cells fields f (λ f c. slice_index (reacted_cell react fields m c).totals f) l)
    ∙ sym (cells_axes m fields (λ c f. slice_index (reacted_cell react fields m c).totals f))
    ∙ cells_same m (λ c. sum_to fields (λ f. slice_index (reacted_cell react fields m c).totals f)) (λ c. sum_to fields (λ f. stored m f c)) (cell_sum react fields m laws)
    ∙ cells_axes m fields (λ c f. stored m f c)
