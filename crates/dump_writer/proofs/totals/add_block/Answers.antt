use Rattle.std.proofs.Common.{rules, ◌+◌, refl, ap, ◌∙◌, arith}
use Rattle.std.proofs.lemmas.Grind.{get_or_default_zero}
use Rattle.block_layout.specs.Indices.{count_of}
use Rattle.dump_writer.proofs.Sums.{block_added, block_ended}
use Rattle.dump_writer.proofs.totals.add_block.Goals as goal

pub interior-requires-clause-home : goal.interior-requires-clause-home
interior-requires-clause-home c = c.requires.whole _

pub interior-requires-clause-fits : goal.interior-requires-clause-fits
interior-requires-clause-fits c = c.loop-field.invariant.room ∙ ap count_of c.requires.layout.cells

pub loop-field-preserved : goal.loop-field-preserved
loop-field-preserved c =
    let l = c.args.layout.now in
    let s = c.args.mesh.now in
    let found = c.in-Some.ensures.found in
    let long = c.loop-field.invariant.added.long in
    let read = c.index_mut.ensures.value ∙ get_or_default_zero c.loop-field.totals.items c.in-Some.field c.index_mut.result.now (omega (arith, found.within, long)) in
    record {
      added = block_added l s c.args.leaf c.loop-field.from c.in-Some.field (c.index_mut.result.now + c.block_total.result) c.loop-field.totals.items _ c.interior.new.into found
          (c.interior.ensures l c.requires.layout) (omega (arith, read, c.block_total.ensures)) refl c.loop-field.invariant.added;
      room = search rules;
    }

pub returns-clause-totals : goal.returns-clause-totals
returns-clause-totals c = block_ended c.args.layout.now c.args.mesh.now c.args.leaf c.loop-field.from c.loop-field.totals.items c.in_default.ensures.none c.loop-field.invariant.added
