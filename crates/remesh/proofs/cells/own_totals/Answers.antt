use Rattle.std.proofs.Common.{◌∙◌, sym, arith}
use Rattle.dense_remesh.proofs.Pushed.{written_whole}
use Rattle.remesh.proofs.InLists.{list_at}
use Rattle.remesh.specs.Leaves.{plain}
use Rattle.remesh.proofs.cells.own_totals.Goals as goal

pub interior-requires-clause-home : goal.interior-requires-clause-home
interior-requires-clause-home c = c.requires.leaf.whole _

pub returns-clause-own : goal.returns-clause-own
returns-clause-own c =
    let n = plain c.args.leaf.now in
    written_whole c.in_ok-own.own.len c.in_ok-own.own.items c.interior.new.into (omega arith) (omega arith)
    ∙ c.interior.ensures n.layout c.requires.leaf.layout_is ∙ sym (list_at n.layout n.old c.args.field c.args.old c.requires.old)
