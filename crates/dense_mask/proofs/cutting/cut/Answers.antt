use Rattle.std.proofs.Common.{◌≡◌, ◌^◌, ◌<◌, ℕ, sum, List, [], length, arith, ap, subst, sym, ◌∙◌, inl, inr}
use Rattle.std.specs.Prelude.{slice_index, slice_set}
use Rattle.std.specs.List.{slice_index_or}
use Rattle.std.proofs.lemmas.List.{get_or_read, get_or-set_other, get_or-set_same, length-set}
use Rattle.std.proofs.lemmas.Bool.{cases_eq}
use Rattle.block_tree.specs.Blocks.{leaves}
use Rattle.problem_set.specs.SettingsOf.{settings_of}
use Rattle.mesh_rules.specs.Fields.{field_count}
use Rattle.mesh_rules.specs.Mask.{dropped_of}
use Rattle.dense_mesh.specs.declared.totals.Slot.{Slot}
use Rattle.dense_mesh.specs.Meshes.{mesh_of}
use Rattle.dense_mesh.specs.Masks.{mask_of}
use Rattle.dense_mesh.proofs.Tables.{table_by}
use Rattle.dense_mask.specs.Cuts.{AreCut, dropped_to, stays_on}
use Rattle.dense_mask.proofs.Cuts.{cut_lists, dropped_is, small_block}
use Rattle.dense_mask.proofs.Steps.{done_more, item_read}
use Rattle.dense_mask.proofs.Sums.{is_total}
use Rattle.dense_mask.proofs.cutting.cut.Goals as goal

pub cut_field-requires-clause-small : goal.cut_field-requires-clause-small
cut_field-requires-clause-small c leaf =
    let p = settings_of c.args.problem.now in
    let old = c.args.lists.items in
    let f = c.loop-field.field in
    let many = c.loop-field.invariant.lists.many in
    let some : f < field_count p = omega (arith, c.loop-field-test.true, c.requires.slots.fields) in
    let read = item_read (λ f list left. AreCut (stays_on p f (slice_index_or c.args.slots.now f [])) list left) [] f old c.loop-field.lists.items c.index_mut.result.now c.loop-field.invariant.lists (omega (arith, some, many, c.requires.mesh.fields)) c.index_mut.ensures.value in
    subst (λ (v : List (List ℕ)). sum (slice_index_or v leaf []) < 2 ^ 64) (sym read) (small_block (slice_index_or old f []) leaf (is_total p c.args.tree.now c.args.layout.now old c.requires.mesh f some).bound)

pub loop-field-preserved : goal.loop-field-preserved
loop-field-preserved c =
    let p = settings_of c.args.problem.now in
    let old = c.args.lists.items in
    let f = c.loop-field.field in
    let many = c.loop-field.invariant.lists.many in
    let some : f < field_count p = omega (arith, c.loop-field-test.true, c.requires.slots.fields) in
    let inside : f < length c.loop-field.lists.items = omega (arith, some, many, c.requires.mesh.fields) in
    let kept = c.as_slice-kept.ensures ∙ get_or_read c.args.slots.now f c.index-slots-field.result (omega (arith, some, c.requires.slots.fields)) c.index-slots-field.is [] in
    let step = λ (f : ℕ) (list left : List (List ℕ)). AreCut (stays_on p f (slice_index_or c.args.slots.now f [])) list left in
    let read = item_read step [] f old c.loop-field.lists.items c.index_mut.result.now c.loop-field.invariant.lists inside c.index_mut.ensures.value in
    let done = subst (λ (v : List Slot). AreCut (stays_on p f v) c.index_mut.result.now c.cut_field.new.list) kept c.cut_field.ensures.list in
    let dropped = c.cut_field.ensures.dropped
    ∙ ap (λ (v : List Slot). dropped_to (stays_on p f v) c.index_mut.result.now (length c.index_mut.result.now)) kept
    ∙ ap (λ (v : List (List ℕ)). dropped_to (stays_on p f (slice_index_or c.args.slots.now f [])) v (length v)) read in
    record {
      lists = done_more step [] f old c.loop-field.lists.items c.index_mut.result.now c.cut_field.new.list c.loop-field.invariant.lists inside c.index_mut.ensures.value done;
      as_many = length-set c.loop-field.dropped.items f c.cut_field.result ∙ c.loop-field.invariant.as_many;
      dropped = λ k small. elim (cases_eq k f) [
        | inl e ↦ subst (λ (j : ℕ). slice_index (slice_set c.loop-field.dropped.items f c.cut_field.result) j ≡ dropped_to (stays_on p j (slice_index_or c.args.slots.now j [])) (slice_index_or old j []) (length (slice_index_or old j []))) (sym e)
            (get_or-set_same c.loop-field.dropped.items f c.cut_field.result 0 (omega (arith, some, c.loop-field.invariant.as_many, c.requires.mesh.fields)) ∙ dropped)
        | inr ne ↦ get_or-set_other c.loop-field.dropped.items f k c.cut_field.result 0 ne ∙ c.loop-field.invariant.dropped k (omega (arith, small, ne))
      ];
    }

pub returns-clause-lists : goal.returns-clause-lists
returns-clause-lists c =
    let p = settings_of c.args.problem.now in
    cut_lists p c.args.tree.now c.args.layout.now c.args.lists.items c.loop-field.lists.items c.args.slots.now c.loop-field.field c.requires.mesh c.requires.slots
    (omega (arith, c.loop-field-test.false, c.requires.slots.fields)) c.loop-field.invariant.lists

pub returns-clause-dropped : goal.returns-clause-dropped
returns-clause-dropped c =
    let p = settings_of c.args.problem.now in
    let m = mesh_of c.args.tree.now p.cells c.args.lists.items in
    table_by c.loop-field.dropped.items (field_count p) (dropped_of p (mask_of (length (leaves c.args.tree.now)) c.args.slots.now) m) 0 (c.loop-field.invariant.as_many ∙ c.requires.mesh.fields)
    (λ f some. c.loop-field.invariant.dropped f (omega (arith, some, c.loop-field-test.false, c.requires.slots.fields))
    ∙ dropped_is p c.args.tree.now c.args.layout.now c.args.lists.items c.args.slots.now c.requires.mesh c.requires.slots f some)
