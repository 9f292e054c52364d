use Rattle.deck_values.proofs.Loops.{IsReadTo}
use Rattle.deck_values.proofs.block_form.read_blocks.Given as goal

abbrev pub invariant-loop-name : goal.invariant-loop-name
invariant-loop-name g l =
    IsReadTo (g.F.BlockForm.entry l.form l.deck) (g.F.BlockForm.is_sound l.form) l.names l.name-index l.list
