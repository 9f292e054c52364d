use Rattle.std.proofs.Common.{◌≡◌, ◌++◌, map, take}
use Rattle.deck_entries.specs.FieldBlocks.{pool_field}
use Rattle.problem_set.proofs.packages.push_pool.Given as goal

abbrev pub invariant-loop-id : goal.invariant-loop-id
invariant-loop-id l = record {
  fields : l.list.fields ≡ l.initial.list.fields ++ map (pool_field l.block.name l.flags) (take l.id-index l.ids);
  moves : l.list.moves ≡ l.initial.list.moves ++ map (λ id. l.block.moves) (take l.id-index l.ids);
}
