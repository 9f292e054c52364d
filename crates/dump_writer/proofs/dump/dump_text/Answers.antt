use Rattle.problem_set.specs.SettingsOf.{settings_of}
use Rattle.mesh_rules.specs.Texts.{dump_text}
use Rattle.dump_writer.proofs.Pieces.{step_ends, step_keeps}
use Rattle.dump_writer.proofs.dump.dump_text.Goals as goal

pub pieces-preserved : goal.pieces-preserved
pieces-preserved c s stands =
    step_keeps c.in_ok-next.field-0 c.pieces.walk c.next.new.self c.pieces.text.items c.next.new.into.items (dump_text (settings_of c.args.problem.now) s.mesh c.args.cycle)
    c.if-branch.true c.in_ok-next.ensures.step (c.pieces.invariant s stands)

pub returns : goal.returns
returns c s stands =
    step_ends c.in_ok-next.field-0 c.pieces.walk c.next.new.self c.pieces.text.items c.next.new.into.items (dump_text (settings_of c.args.problem.now) s.mesh c.args.cycle)
    c.if-branch.false c.in_ok-next.ensures.step (c.pieces.invariant s stands)
