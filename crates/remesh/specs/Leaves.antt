-- For the code: a leaf of a next tree.
use Rattle.std.specs.Prelude.{ℕ, List}
use Rattle.std.specs.List.{slice_index_or}
use Rattle.morton_order.specs.declared.space.Loc.{Loc}
use Rattle.block_tree.specs.Blocks.{TreeOfBlocks, leaves}
use Rattle.block_layout.specs.declared.layout.Layout.{Layout}
use Rattle.dense_remesh.specs.declared.origins.Origin.{Origin}
use Rattle.dense_remesh.specs.declared.origins.Origin.TheVariants.{Leaf}
use Rattle.cell_block.specs.State.{Stored}
use Rattle.remesh.specs.declared.leaf.NewLeaf.{NewLeaf}

-- its number and location, the layout of its block, and the old leaves in whose place it stands, in an old mesh state
pub record LeafOf : Type 0 where
  pub layout : Layout
  pub old : Stored
  pub number : ℕ
  pub at : Loc
  pub origin : Origin

-- what the code's is
abbrev pub plain : NewLeaf → LeafOf
plain n = record { layout = n.layout.now; old = n.old.now; number = n.number; at = n.at; origin = n.origin }

-- the leaf with a number, and the old leaves in whose place it stands
abbrev pub leaf_on : TreeOfBlocks → ℕ → Loc
leaf_on t k = slice_index_or (leaves t) k (record { level = 0; l1 = 0; l2 = 0; l3 = 0 })

abbrev pub origin_on : List Origin → ℕ → Origin
origin_on origins k = slice_index_or origins k (Leaf 0)

abbrev pub leaf_with : Layout → Stored → TreeOfBlocks → List Origin → ℕ → LeafOf
leaf_with l old t origins k = record { layout = l; old = old; number = k; at = leaf_on t k; origin = origin_on origins k }
