use Rattle.std.proofs.Common.{◌<◌, ℕ, slice_index_or}
use Rattle.cycle_tables.specs.declared.letter.Post.{Post}
use Rattle.cycle_tables.specs.Inside.{IsRoomFor, MakeRoom}
use Rattle.cycle_tables.proofs.posting.make_room.Given as goal

abbrev pub invariant-loop-post : goal.invariant-loop-post
invariant-loop-post g l = record {
  kept : MakeRoom l.initial.mail.items l.mail.items;
  done : (k : ℕ) (d : Post g.row.T.Denot) → k < l.post-index → IsRoomFor l.lists l.mail.items l.round (slice_index_or l.letters k d);
}
