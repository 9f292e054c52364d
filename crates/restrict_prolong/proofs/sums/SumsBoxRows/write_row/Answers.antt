use Rattle.std.proofs.Common.{length, arith}
use Rattle.restrict_prolong.proofs.SumRows.{fine_plane, fine_plane_below, one_more_fine_plane, planes_added}
use Rattle.restrict_prolong.proofs.sums.SumsBoxRows.write_row.Goals as goal

pub add_rows-requires-clause-plane : goal.add_rows-requires-clause-plane
add_rows-requires-clause-plane c =
    fine_plane c.args.self.now c.args.from.now (length c.args.into.now) c.args.plane c.loop-c.c c.requires.sums c.requires.lies_in.plane_in (omega arith)

pub add_rows-requires-clause-small : goal.add_rows-requires-clause-small
add_rows-requires-clause-small c =
    fine_plane_below c.args.self.now c.args.from.now (length c.args.into.now) c.args.row c.args.plane c.loop-c.c c.loop-c.into c.requires (omega arith) (omega arith) c.loop-c.invariant

pub loop-c-preserved : goal.loop-c-preserved
loop-c-preserved c =
    one_more_fine_plane c.args.self.now c.args.from.now (length c.args.into.now) c.args.row c.args.plane c.loop-c.c c.loop-c.into c.add_rows.new.into (omega arith) c.loop-c.invariant c.add_rows.ensures

pub returns : goal.returns
returns c = λ x h.
    planes_added c.args.self.now c.args.from.now (length c.args.into.now) c.args.row c.args.plane c.loop-c.c x c.loop-c.into c.requires.sums (omega arith) (c.loop-c.invariant x h)
