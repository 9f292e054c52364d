use Rattle.std.proofs.Common.{◌≡◌, ◌≤◌, All}
use Rattle.block_tree.specs.declared.tags.Tag.{Tag}
use Rattle.dense_mask.proofs.Pushes.{AreItems}
use Rattle.dense_tags.proofs.Wishes.{count_at, tag_at}
use Rattle.dense_tags.proofs.tagging.tags.Given as goal

abbrev pub invariant-loop-leaf : goal.invariant-loop-leaf
invariant-loop-leaf l = record {
  tags : (d : Tag) → AreItems (λ k tag. tag ≡ tag_at l.problem l.tree l.layout l.lists l.counters k) l.leaf d l.tags.items;
  counters : AreItems (λ k count. count ≡ count_at l.problem l.tree l.layout l.lists l.counters k) l.leaf 0 l.next.items;
  bound : All (λ count. count ≤ l.problem.derefine_count) l.next.items;
}
