use Rattle.std.proofs.Common.{ℕ, ◌<◌, ◌^◌, List, length, ap, subst, sym, ◌∙◌, arith}
use Rattle.morton_order.specs.Space.{parts}
use Rattle.block_regions.specs.Rows.{whole_box}
use Rattle.restrict_prolong.specs.Refined.{factors}
use Rattle.restrict_prolong.specs.Boxes.{SumsBelow}
use Rattle.dense_remesh.specs.Parts.{half_cells}
use Rattle.dense_remesh.proofs.Halves.{is_whole, sums_step}
use Rattle.dense_remesh.proofs.parts.write_sums.Goals as goal

pub child_list-fine-requires : goal.child_list-fine-requires
child_list-fine-requires c = (is_whole c.args.layout.now c.args.field.now _ (c.requires.lists c.loop-j.j (omega (arith, c.child_count-j-end.ensures.value)))).there

pub write_child_sums-requires : goal.write_child_sums-requires
write_child_sums-requires c =
    let few : c.loop-j.j < parts c.args.layout.now.dims = omega (arith, c.child_count-j-end.ensures.value) in
    let whole = is_whole c.args.layout.now c.args.field.now _ (c.requires.lists c.loop-j.j few) in
    record {
      child = few;
      fine = ap (λ (v : List ℕ). length v) c.child_list-fine.ensures ∙ whole.size;
      small = subst (λ (v : List ℕ). SumsBelow (2 ^ 62) (factors c.args.layout.now.dims) (half_cells c.args.layout.now) v (whole_box c.args.layout.now.cells)) (sym c.child_list-fine.ensures) whole.small;
      into = c.loop-j.auto.into ∙ c.requires.into;
    }

pub loop-j-preserved : goal.loop-j-preserved
loop-j-preserved c =
    sums_step c.args.layout.now c.args.field.now c.args.numbers.now c.loop-j.j c.child_list-fine.result.now c.loop-j.into c.write_child_sums.new.into (omega (arith, c.child_count-j-end.ensures.value)) c.child_list-fine.ensures
    c.write_child_sums.ensures.inside c.write_child_sums.ensures.outside c.loop-j.invariant

pub returns : goal.returns
returns c = λ j small. c.loop-j.invariant j (omega (arith, c.child_count-j-end.ensures.value))
