use Rattle.std.proofs.Common.{List, [], ap, ◌∙◌}
use Rattle.std.specs.Prelude.{count_by}
use Rattle.std.proofs.lemmas.List.{get_or_read}
use Rattle.dense_mesh.specs.declared.totals.Slot.{Slot}
use Rattle.dense_mask.proofs.SlotSteps.{kept_on}
use Rattle.dense_mask.proofs.slots.blocks_with.Goals as goal

pub returns : goal.returns
returns c fields leaves are =
    let read = c.as_slice.ensures ∙ get_or_read c.args.slots.now c.args.field c.index-slots-field.result c.requires c.index-slots-field.is [] in
    c.count_kept.ensures ∙ ap (λ (v : List Slot). count_by (λ (s : Slot). s.kept) v) read ∙ kept_on fields leaves c.args.field c.args.slots.now are c.requires
