-- A mesh on which nothing reacts.
use Rattle.std.proofs.Common.{◌≡◌, ◌∙◌, ◌<◌, ℕ, List, arith, length, replicate, sym}
use Rattle.std.specs.Prelude.{slice_index}
use Rattle.std.proofs.lemmas.List.{get_or-replicate, length-replicate}
use Rattle.morton_order.specs.declared.space.Loc.{Loc}
use Rattle.block_tree.specs.Blocks.{TreeOfBlocks, leaves}
use Rattle.problem_set.specs.Settings.{Settings}
use Rattle.mesh_laws.proofs.Grids.{sum_zero}
use Rattle.mesh_rules.specs.Sums.{table}
use Rattle.mesh_rules.specs.Fields.{field_count}
use Rattle.mesh_rules.specs.Mesh.{Mesh, block_size, cell_at, stored}
use Rattle.mesh_rules.specs.Reaction.{before_reactions, cell_totals, leaf_made, leaf_used, made_of, reacted_cell, used_of}
use Rattle.block_layout.specs.declared.layout.Layout.{Layout}
use Rattle.dense_mesh.specs.Meshes.{IsMeshIn, field_lists, mesh_of}
use Rattle.dense_mesh.proofs.Tables.{table_at, table_by, table_length, table_same}
use Rattle.dense_mask.proofs.Cuts.{over_numbers}
use Rattle.dense_mask.proofs.Fills.{are_field_lists}
use Rattle.dense_mask.proofs.Leaves.{has_row, leaf_at, origin}
use Rattle.std.specs.List.{slice_index_or}

-- its lists are what nothing leaves of each cell
pub lists_stay : (p : Settings) (t : TreeOfBlocks) (l : Layout) (lists : List (List (List ℕ))) → IsMeshIn p t l lists → let n = field_count p in let m = mesh_of t p.cells lists in
    lists ≡ field_lists m n (λ f c. slice_index (reacted_cell before_reactions n m c).totals f)
lists_stay p t l lists is =
    let n = field_count p in
    let m : Mesh = mesh_of t p.cells lists in
    are_field_lists m n (λ f c. slice_index (reacted_cell before_reactions n m c).totals f) lists is.fields is.leaf_lists
    (λ f leaf some small.
    sym (has_row p t l lists is f leaf some small).row
    ∙ table_same (block_size m) (λ place. stored m f (cell_at m (leaf_at m leaf) place)) (λ place. slice_index (cell_totals n m (cell_at m (leaf_at m leaf) place)) f) 0
    (λ place inside. sym (table_at n (λ k. stored m k (cell_at m (leaf_at m leaf) place)) f 0 some)))

-- nothing is made of a cell, or used
none_in : (n f : ℕ) (m : Mesh) (c : Loc) → f < n → slice_index (replicate (length (cell_totals n m c)) 0) f ≡ 0
none_in n f m c some = let long = table_length n (λ k. stored m k c) in get_or-replicate (length (cell_totals n m c)) f 0 0 (omega (arith, some, long))

pub none_made : (n : ℕ) (m : Mesh) (f : ℕ) → f < n → made_of before_reactions n m f ≡ 0
none_made n m f some =
    over_numbers m.leaves (leaf_made before_reactions n m f)
    ∙ sum_zero (length m.leaves) (λ i. leaf_made before_reactions n m f (slice_index_or m.leaves i origin))
    (λ i small. sum_zero (block_size m) (λ k. slice_index (reacted_cell before_reactions n m (cell_at m (slice_index_or m.leaves i origin) k)).made f)
    (λ k inside. none_in n f m (cell_at m (slice_index_or m.leaves i origin) k) some))

pub none_used : (n : ℕ) (m : Mesh) (f : ℕ) → f < n → used_of before_reactions n m f ≡ 0
none_used n m f some =
    over_numbers m.leaves (leaf_used before_reactions n m f)
    ∙ sum_zero (length m.leaves) (λ i. leaf_used before_reactions n m f (slice_index_or m.leaves i origin))
    (λ i small. sum_zero (block_size m) (λ k. slice_index (reacted_cell before_reactions n m (cell_at m (slice_index_or m.leaves i origin) k)).used f)
    (λ k inside. none_in n f m (cell_at m (slice_index_or m.leaves i origin) k) some))

-- a list of zeros is the table of what is zero
pub zeros_are : (k n : ℕ) (list : List ℕ) (each : ℕ → ℕ) → k ≡ n → list ≡ replicate k 0 → ((f : ℕ) → f < n → each f ≡ 0) → list ≡ table n each
zeros_are k n list each many is zero =
    is ∙ table_by (replicate k 0) n each 0 (length-replicate k 0 ∙ many) (λ f some. get_or-replicate k f 0 0 (omega (arith, some, many)) ∙ sym (zero f some))
