use Rattle.std.proofs.Common.{◌≡◌, ◌≤◌, ◌+◌, ◌++◌, length}
use Rattle.cycle_tables.specs.Tables.{numbered}
use Rattle.cycle_tables.proofs.posting.put_on.Given as goal

abbrev pub invariant-loop-post : goal.invariant-loop-post
invariant-loop-post g l = record {
  posted : l.wire.posts ≡ l.initial.wire.posts ++ numbered (length l.initial.wire.posts) l.round l.yielded;
  room : l.initial.wire.room ≤ l.wire.room + length l.yielded;
  rest : l.yielded ++ l.post-iterator.rest.items ≡ l.fn.letters.items;
}
