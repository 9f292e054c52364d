use Rattle.std.proofs.Common.{◌∙◌, ap}
use Rattle.problem_set.specs.SettingsOf.{settings_of}
use Rattle.mesh_rules.specs.Cycle.{State}
use Rattle.mesh_texts.specs.Dump.{dump_pieces, joined}
use Rattle.mesh_texts.proofs.Walks.{pieces_are}
use Rattle.dump_writer.proofs.dump.DumpWalk.start.Goals as goal

pub returns-clause-pieces : goal.returns-clause-pieces
returns-clause-pieces c s stands = ap (λ (x : State). dump_pieces (settings_of c.args.problem.now) x.mesh c.args.cycle) (stands.state c.layout.result.now c.layout.ensures)

pub returns-clause-whole : goal.returns-clause-whole
returns-clause-whole c s stands = ap (λ (x : State). joined (dump_pieces (settings_of c.args.problem.now) x.mesh c.args.cycle)) (stands.state c.layout.result.now c.layout.ensures)
    ∙ pieces_are (settings_of c.args.problem.now) s.mesh c.args.cycle
