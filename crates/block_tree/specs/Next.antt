-- The next tree: what the tags of the leaves make of a tree.
use Rattle.std.specs.Prelude.{ℕ, ◌+◌, ◌<◌, ◌≤◌, Bool, true, false, ◌&&◌, ◌||◌, not, Option, Some, None, List, IsTrue, IsSome}
use Rattle.std.specs.List.{list_all, range_with_len, zip}
use Rattle.std.specs.Map.{lookup}
use Rattle.morton_order.specs.declared.space.Loc.{Loc}
use Rattle.morton_order.specs.declared.space.Shape.{Shape}
use Rattle.morton_order.specs.Space.{IsShape, child, parts, same_loc}
use Rattle.block_tree.specs.declared.tags.Tag.{Tag}
use Rattle.block_tree.specs.declared.tags.Tag.TheVariants.{Refine, Same, Merge}
use Rattle.block_tree.specs.Tree.{IsBalanced, IsLeaf, IsTree, LiesIn}
use Rattle.block_tree.specs.Least.{IsLeast, least}

-- the tag of the leaf at a location, none where no leaf is; leaves and tags stand in one order
abbrev pub tag_at : List Loc → List Tag → Loc → Option Tag
tag_at leaves tags l = lookup (same_loc l) (zip leaves tags)

-- whether there is a leaf that is to be refined
abbrev pub is_refine : Option Tag → Bool
is_refine None = false
is_refine (Some Refine) = true
is_refine (Some Same) = false
is_refine (Some Merge) = false

-- whether there is a leaf that may merge
abbrev pub is_merge : Option Tag → Bool
is_merge None = false
is_merge (Some Refine) = false
is_merge (Some Same) = false
is_merge (Some Merge) = true

-- whether an inner node merges: each of its children is a leaf that may; three of four are not enough
abbrev pub merges : ℕ → (Loc → Option Tag) → Loc → Bool
merges dims tag l = list_all (λ j. is_merge (tag (child dims l j))) (range_with_len 0 (parts dims))

-- the inner nodes that are wanted next: the old ones that do not merge, and the leaves to be refined
abbrev pub wanted_next : ℕ → (Loc → Bool) → (Loc → Option Tag) → Loc → Bool
wanted_next dims old tag l = (old l && not (merges dims tag l)) || is_refine (tag l)

-- the next tree is the least balanced one that holds the inner nodes that are wanted
abbrev pub IsNext : Shape → (Loc → Bool) → (Loc → Option Tag) → (Loc → Bool) → Type 0
IsNext s old tag next = IsLeast s (wanted_next s.dims old tag) next

-- the next tree, computed, where no location finer than a level is wanted
abbrev pub next_inner : ℕ → Shape → (Loc → Bool) → (Loc → Option Tag) → Loc → Bool
next_inner finest s old tag = least finest s (wanted_next s.dims old tag)

-- tags fit a tree: they stand on its leaves, and ask for no inner node finer than a level
pub record FitTags (finest : ℕ) (s : Shape) (old : Loc → Bool) (tag : Loc → Option Tag) : Type 0 where
  pub on_leaf : (l : Loc) → IsSome (tag l) → IsLeaf s old l
  pub inner : (l : Loc) → IsTrue (old l) → l.level ≤ finest
  pub refined : (l : Loc) → IsTrue (is_refine (tag l)) → l.level ≤ finest

-- each leaf of the next tree differs by at most one level from each old leaf that it meets
pub record IsNear (s : Shape) (old next : Loc → Bool) : Type 0 where
  pub finer : (before after : Loc) → IsLeaf s old before → IsLeaf s next after → LiesIn s.dims after before → after.level ≤ before.level + 1
  pub coarser : (before after : Loc) → IsLeaf s old before → IsLeaf s next after → LiesIn s.dims before after → before.level ≤ after.level + 1

-- what is computed is the next tree
abbrev pub NextIsLeast : Type 0
NextIsLeast = (finest : ℕ) (s : Shape) (old : Loc → Bool) (tag : Loc → Option Tag) → IsShape s → finest < 10 → IsTree s old → FitTags finest s old tag →
    IsNext s old tag (next_inner finest s old tag)

-- each leaf changes by at most one level
abbrev pub NextIsNear : Type 0
NextIsNear = (finest : ℕ) (s : Shape) (old : Loc → Bool) (tag : Loc → Option Tag) (next : Loc → Bool) → IsShape s → IsTree s old → IsBalanced s old → FitTags finest s old tag →
    IsNext s old tag next → IsNear s old next
