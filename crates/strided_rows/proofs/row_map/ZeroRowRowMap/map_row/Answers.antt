use Rattle.std.proofs.Common.{◌∙◌, sym, length}
use Rattle.std.proofs.lemmas.Simd.{splat_is_map}
use Rattle.strided_rows.proofs.row_map.ZeroRowRowMap.map_row.Goals as goal

pub returns : goal.returns
returns c = c.fill.ensures.after (λ y e. e) ∙ splat_is_map c.args._from.now (length c.args.into.now) 0 (sym c.requires.lengths)
