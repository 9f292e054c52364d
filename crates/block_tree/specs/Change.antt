-- How far a least tree is from the tree that it follows.
use Rattle.std.specs.Prelude.{◌⊎◌, ℕ, ◌+◌, ◌<◌, ◌≤◌, Bool, IsTrue}
use Rattle.morton_order.specs.declared.space.Loc.{Loc}
use Rattle.morton_order.specs.declared.space.Shape.{Shape}
use Rattle.morton_order.specs.Space.{IsShape, child, parts}
use Rattle.block_tree.specs.Tree.{IsBalanced, IsLeaf, IsTree, LiesIn}
use Rattle.block_tree.specs.Least.{IsLeast}

-- what a change of a balanced tree wants: only old inner nodes and leaves, and all old inner nodes but such whose children are all leaves
pub record IsChange (s : Shape) (old wanted : Loc → Bool) : Type 0 where
  pub tree : IsTree s old
  pub balanced : IsBalanced s old
  pub of_old : (l : Loc) → IsTrue (wanted l) → IsTrue (old l) ⊎ IsLeaf s old l
  pub merged : (l : Loc) → IsTrue (old l) → ¬ (IsTrue (wanted l)) → (j : ℕ) → j < parts s.dims → IsLeaf s old (child s.dims l j)

-- each leaf of the least tree that follows differs by at most one level from each old leaf that it meets
abbrev pub ChangesByOneLevel : Type 0
ChangesByOneLevel = (s : Shape) (old wanted next : Loc → Bool) → IsShape s → IsChange s old wanted → IsLeast s wanted next →
    (before after : Loc) → IsLeaf s old before → IsLeaf s next after →
    (LiesIn s.dims after before → after.level ≤ before.level + 1) × (LiesIn s.dims before after → before.level ≤ after.level + 1)
