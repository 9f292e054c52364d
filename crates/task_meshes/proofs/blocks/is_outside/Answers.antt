use Rattle.std.proofs.Common.{ap, sym, ◌∙◌}
use Rattle.task_meshes.proofs.Told.{domain_told, tells_outside}
use Rattle.task_meshes.proofs.blocks.is_outside.Goals as goal

pub returns-in-Outside : goal.returns-in-Outside
returns-in-Outside c =
    ap tells_outside (sym c.in-Outside.is) ∙ domain_told c.args.on.now c.args.block c.args.side.axis c.args.side.high c.behind.result c.requires.block c.behind.ensures

pub returns-in-Same : goal.returns-in-Same
returns-in-Same c =
    ap tells_outside (sym c.in-Same.is) ∙ domain_told c.args.on.now c.args.block c.args.side.axis c.args.side.high c.behind.result c.requires.block c.behind.ensures

pub returns-in-Coarse : goal.returns-in-Coarse
returns-in-Coarse c =
    ap tells_outside (sym c.in-Coarse.is) ∙ domain_told c.args.on.now c.args.block c.args.side.axis c.args.side.high c.behind.result c.requires.block c.behind.ensures

pub returns-in-Fine : goal.returns-in-Fine
returns-in-Fine c =
    ap tells_outside (sym c.in-Fine.is) ∙ domain_told c.args.on.now c.args.block c.args.side.axis c.args.side.high c.behind.result c.requires.block c.behind.ensures
