-- A flux part is the region of pairs that the rules name.
use Rattle.std.specs.Prelude.{◌≡◌, ℕ, Bool, Some, List, map, ◌++◌}
use Rattle.morton_order.specs.declared.space.Loc.{Loc}
use Rattle.morton_order.specs.Space.{child}
use Rattle.morton_order.specs.Neighbours.{across}
use Rattle.mesh_rules.specs.Due.{flux_region}
use Rattle.mesh_rules.specs.Faces.{Pair}
use Rattle.block_geometry.specs.Blocks.{FieldBlock, IsFieldBlock}
use Rattle.block_geometry.specs.Contents.{HasOwnPairs}
use Rattle.ghost_laws.specs.Layers.{on_block}
use Rattle.correction_laws.specs.Replaced.{IsNextTo, part_of}

-- what the rules say that a finer leaf sends to a block across its side
abbrev pub pairs_from : FieldBlock → ℕ → Bool → Loc → List Pair
pairs_from b axis high from = flux_region b.settings b.mesh b.field from b.leaf axis high

-- where the child j of the block across a side is a leaf whose lists have its own pairs, its flux part is that
abbrev pub FluxPartsAreRegions : Type 0
FluxPartsAreRegions = (b : FieldBlock) (axis : ℕ) (high : Bool) (o : Loc) (j : ℕ) (right left : List ℕ) → IsNextTo b axis high j → across b.mesh.shape b.leaf axis high ≡ Some o →
    IsFieldBlock (on_block b (child b.mesh.shape.dims o j)) → HasOwnPairs (on_block b (child b.mesh.shape.dims o j)) right left →
    part_of b axis high right left ≡ map (λ x. x.right) (pairs_from b axis high (child b.mesh.shape.dims o j)) ++ map (λ x. x.left) (pairs_from b axis high (child b.mesh.shape.dims o j))
