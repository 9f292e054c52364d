use Rattle.std.proofs.Common.{ap}
use Rattle.input_file.specs.Blocks.{Blocks}
use Rattle.mesh_input.specs.Input.{or_deck_fault}
use Rattle.mesh_input.proofs.StepLemmas.{deck_stops}
use Rattle.mesh_input.proofs.input.finish_deck.Goals as goal

pub returns-in-Ok : goal.returns-in-Ok
returns-in-Ok c bytes fed = ap or_deck_fault (c.in-Ok.ensures.answer bytes fed)

pub returns-in-Err : goal.returns-in-Err
returns-in-Err c bytes fed = deck_stops {T = Blocks} (λ (d : Blocks). d) _ c.in-Err.fault _ c.stop_of_deck.ensures (c.in-Err.ensures.answer bytes fed)
