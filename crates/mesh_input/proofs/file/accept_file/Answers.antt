use Rattle.std.proofs.Common.{refl}
use Rattle.mesh_outside.proofs.Afters.{reads_as}
use Rattle.mesh_input.proofs.FileLemmas.{answers_file, no_read_fault, reading_stops}
use Rattle.mesh_input.proofs.file.accept_file.Goals as goal

pub returns-in-Ok-clause-answer : goal.returns-in-Ok-clause-answer
returns-in-Ok-clause-answer g c =
    let file = c.in-Ok.ensures.file in
    answers_file 1048576 _ _ file.bytes _ c.accept_read.result refl file.are_it (c.accept_read.ensures file.bytes file.were_fed)

pub returns-in-Ok-clause-after : goal.returns-in-Ok-clause-after
returns-in-Ok-clause-after g c =
    let file = c.in-Ok.ensures.file in
    reads_as c.args.name.now _ _ _ _ c.in-Ok.ensures.after (λ is. cc) (λ is. absurd (no_read_fault c.accept_read.result _ (c.accept_read.ensures file.bytes file.were_fed) is))

pub returns-in-Err-clause-after : goal.returns-in-Err-clause-after
returns-in-Err-clause-after g c =
    reading_stops c.args.name.now c.in-Err.fault c.stop_of_reading.result _ _ c.stop_of_reading.ensures c.in-Err.ensures.after
