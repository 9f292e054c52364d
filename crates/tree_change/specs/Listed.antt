-- The wanted nodes as they are listed; private contracts cite this.
use Rattle.std.specs.Prelude.{Bool, cond, not, List, [], ◌∷◌, Some}
use Rattle.morton_order.specs.declared.space.Loc.{Loc}
use Rattle.block_tree.specs.declared.tags.Tag.{Tag}
use Rattle.block_tree.specs.Blocks.{TreeOfBlocks}
use Rattle.block_tree.specs.Next.{is_refine, merges}
use Rattle.tree_change.specs.Tagged.{tag_of}

-- a location, or nothing
abbrev pub where_true : Bool → Loc → List Loc
where_true b l = cond b (l ∷ []) []

-- an inner node, where it does not merge
abbrev pub kept : TreeOfBlocks → List Tag → Loc → List Loc
kept t tags l = where_true (not (merges t.shape.dims (tag_of t tags) l)) l

-- a leaf, where it is to be refined
abbrev pub refined : Loc × Tag → List Loc
refined p = where_true (is_refine (Some p.1)) p.0
