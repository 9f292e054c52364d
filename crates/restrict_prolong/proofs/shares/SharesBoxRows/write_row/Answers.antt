use Rattle.std.proofs.Common.{ℕ, ◌+◌, ◌-◌, ◌*◌, ◌/◌, ◌∙◌, length, slice_index, ap, arith}
use Rattle.morton_order.specs.Space.{factor}
use Rattle.block_regions.specs.Rows.{row_start}
use Rattle.block_regions.proofs.Rows.{slice_length}
use Rattle.restrict_prolong.proofs.ShareRows.{share_of_row}
use Rattle.restrict_prolong.proofs.shares.SharesBoxRows.write_row.Goals as goal

pub returns : goal.returns
returns c = λ x h.
    let s = c.args.self.now in
    let n = slice_index s.coarse 0 in
    let at = c.row_start-at.result in
    let long = slice_length at n (at + n - at) c.args.from.now c.row_start-at.ensures.ends (omega arith) in
    share_of_row s c.args.from.now (length c.args.into.now) c.args.row c.args.plane at (at + n - at) (2 * c.halved-y.result.1 + 4 * c.halved-z.result.1) x c.spread_row.new.into c.requires (omega arith)
    (c.row_start-at.ensures.value
    ∙ ap (λ (y : ℕ). row_start s.from_box y c.halved-z.result.0) c.halved-y.ensures.coarse
    ∙ ap (λ (z : ℕ). row_start s.from_box (c.args.row / factor s.dims 1) z) c.halved-z.ensures.coarse)
    (omega (arith, c.halved-y.ensures.half, c.halved-z.ensures.half))
    (λ k l. c.spread_row.ensures.low k (omega (arith, long, l))) (λ k l. c.spread_row.ensures.high k (omega (arith, long, l))) h
