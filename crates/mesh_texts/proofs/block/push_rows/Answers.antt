use Rattle.std.proofs.Common.{ℕ, List, ◌++◌, map, ap, ◌∙◌}
use Rattle.std.specs.List.{join_with_byte}
use Rattle.std.specs.Fmt.{decimal}
use Rattle.mesh_rules.specs.Texts.{line}
use Rattle.mesh_texts.specs.Sizes.{row_width}
use Rattle.mesh_texts.proofs.Rows.{part_is, row_more}
use Rattle.mesh_texts.proofs.block.push_rows.Goals as goal

pub loop-row-preserved : goal.loop-row-preserved
loop-row-preserved c =
    let width = row_width c.args.layout.now in
    row_more width c.loop-row.row c.args.totals.now c.args.into.now.items c.loop-row.into.items c.push_row.new.into.items c.loop-row.invariant
    (c.in_ok-push_row.ensures ∙ ap (λ (part : List ℕ). c.loop-row.into.items ++ line (join_with_byte 32 (map decimal part))) (part_is width c.loop-row.row c.args.totals.now))
