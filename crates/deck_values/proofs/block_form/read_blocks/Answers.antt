use Rattle.std.proofs.Common.{sym, ◌∙◌, arith}
use Rattle.std.proofs.lemmas.Result.{err_from_is_err_and}
use Rattle.deck_values.proofs.Each.{each_stop_in, IsReadTo-more_in}
use Rattle.deck_values.proofs.block_form.read_blocks.Goals as goal

pub returns-in_err-read-clause-value : goal.returns-in_err-read-clause-value
returns-in_err-read-clause-value g c =
    let p = err_from_is_err_and c.from_residual.result c.from_residual.ensures.1 in
    rw (p.1, p.2) (each_stop_in (g.F.BlockForm.entry c.args.form.now) _ _ c.args.names.now c.loop-name.name-index c.name-item.result _ _ c.loop-name.list c.in_err-read.field-0.0 c.new-block.ensures.deck c.new-block.ensures.block c.loop-name.invariant.read (omega arith) (sym c.name-item.is ∙ sym c.as_str.ensures) c.in_err-read.ensures.value)

pub loop-name-preserved : goal.loop-name-preserved
loop-name-preserved g c =
    IsReadTo-more_in (g.F.BlockForm.entry c.args.form.now) (g.F.BlockForm.is_sound c.args.form.now) _ _ c.args.names.now c.loop-name.name-index c.name-item.result _ _ c.loop-name.list c.in_ok-read.field-0 _ c.new-block.ensures.deck c.new-block.ensures.block c.loop-name.invariant (omega arith) (sym c.name-item.is ∙ sym c.as_str.ensures) c.in_ok-read.ensures.value c.in_ok-read.ensures.sound c.in_ok-push.ensures.ok
