use Rattle.std.proofs.Common.{◌≤◌, Bool, true, false, sym, ◌∙◌, arith}
use Rattle.std.specs.Int.{from_bool}
use Rattle.problem_set.specs.SettingsOf.{settings_of}
use Rattle.mesh_rules.specs.Texts.{is_zero}
use Rattle.dump_writer.specs.Blocks.{interiors_on}
use Rattle.dump_writer.proofs.Blocks.{block_shown, interiors_long, numbered, shown_more, some_left}
use Rattle.dump_writer.proofs.Shown.{none_shown}
use Rattle.dump_writer.proofs.block.push_fields.Goals as goal

pub loop-field-init : goal.loop-field-init
loop-field-init c = record {
  shown = none_shown (numbered (settings_of c.args.problem.now) c.args.layout.now) is_zero (interiors_on c.args.layout.now c.args.mesh.now c.args.leaf) _ _ (c.fields-zeros.ensures ∙ sym (interiors_long c.args.layout.now c.args.mesh.now c.args.leaf));
  room = c.requires.cells;
}

at_most_one : (b : Bool) → from_bool b ≤ 1
at_most_one true = omega arith
at_most_one false = omega arith

pub overflow_sub-zeros : goal.overflow_sub-zeros
overflow_sub-zeros c =
    let left = some_left (settings_of c.args.problem.now) c.args.layout.now c.args.mesh.now c.args.leaf c.loop-field.from c.in-Some.field c.loop-field.zeros c.args.lines.now.items c.loop-field.lines.items c.in-Some.ensures.found c.loop-field.invariant.shown in
    omega (arith, left, c.from-zeros.ensures, at_most_one c.in_ok-shown.shown)

pub loop-field-preserved : goal.loop-field-preserved
loop-field-preserved c =
    let p = settings_of c.args.problem.now in
    let l = c.args.layout.now in
    let s = c.args.mesh.now in
    let left = some_left p l s c.args.leaf c.loop-field.from c.in-Some.field c.loop-field.zeros c.args.lines.now.items c.loop-field.lines.items c.in-Some.ensures.found c.loop-field.invariant.shown in
    let one = at_most_one c.in_ok-shown.shown in
    record {
      shown = shown_more p l s c.args.leaf c.loop-field.from c.in-Some.field c.loop-field.zeros _ c.in_ok-shown.shown _ c.loop-field.lines.items _ c.in-Some.ensures.found
          c.in_ok-shown.ensures.shown (omega (arith, c.from-zeros.ensures, left, one)) c.in_ok-shown.ensures.lines c.loop-field.invariant.shown;
      room = c.push_field_at.ensures.cells;
    }

pub returns-clause-lines : goal.returns-clause-lines
returns-clause-lines c = (block_shown (settings_of c.args.problem.now) c.args.layout.now c.args.mesh.now c.args.leaf c.loop-field.from c.loop-field.zeros c.args.lines.now.items c.loop-field.lines.items c.in_default.ensures.none c.loop-field.invariant.shown).text

pub returns-clause-zeros : goal.returns-clause-zeros
returns-clause-zeros c = (block_shown (settings_of c.args.problem.now) c.args.layout.now c.args.mesh.now c.args.leaf c.loop-field.from c.loop-field.zeros c.args.lines.now.items c.loop-field.lines.items c.in_default.ensures.none c.loop-field.invariant.shown).count
