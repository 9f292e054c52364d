use Rattle.std.proofs.Common.{Some, true, false, ap, ◌∙◌, ℕ, List, [], get_or, arith}
use Rattle.std.specs.List.{slice_index_or}
use Rattle.problem_set.specs.SettingsOf.{settings_of}
use Rattle.deck_entries.specs.declared.entries.Moves.{Moves}
use Rattle.mesh_rules.specs.Fields.{side_number}
use Rattle.bound_faces.proofs.Entering.{at_any, entering_not, entering_when, ghosts_are}
use Rattle.bound_faces.proofs.outside.entering_at.Goals as goal

pub returns-then-has : goal.returns-then-has
returns-then-has c =
    let p = settings_of c.args.problem.now in
    let none : Moves = record { v = []; k = 0; order = 0; entry = [] } in
    let same = c.args.problem.now.fields_sound.same_length in
    let m : Moves = slice_index_or c.as_slice.result.now c.args.field none in
    let there = ap (λ (ms : List Moves). slice_index_or ms c.args.field none) c.as_slice.ensures ∙ at_any p.moves c.args.field none _ c.requires.field in
    entering_when p c.args.field c.args.side.axis c.args.level _ c.args.side.high (ghosts_are p c.args.field true (omega (arith, same, c.requires.field)) (c.has.ensures ∙ ap Some c.if-has.true))
    (ap (λ (n : ℕ). get_or m.entry n 0) c.side_number.ensures.value ∙ ap (λ (w : Moves). get_or w.entry (side_number c.args.side.axis c.args.side.high) 0) there)

pub returns-else-has : goal.returns-else-has
returns-else-has c =
    let p = settings_of c.args.problem.now in
    let same = c.args.problem.now.fields_sound.same_length in
    entering_not p c.args.field c.args.side.axis c.args.level c.args.side.high (ghosts_are p c.args.field false (omega (arith, same, c.requires.field)) (c.has.ensures ∙ ap Some c.if-has.false))
