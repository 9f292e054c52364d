use Rattle.std.proofs.Common.{◌*◌, ◌≤◌, slice_index, arith}
use Rattle.std.proofs.Math.Nat.{mul-le-mul}
use Rattle.block_layout.proofs.Sizes.{product_at_most}
use Rattle.block_regions.proofs.regions.cell_count.Goals as goal

pub overflow_mul-result : goal.overflow_mul-result
overflow_mul-result c =
    let most : slice_index c.args.extents.now 0 * slice_index c.args.extents.now 1 ≤ 68 * 68 = mul-le-mul c.requires.along1 c.requires.along2 in
    omega (arith, most)

pub overflow_mul-result-2 : goal.overflow_mul-result-2
overflow_mul-result-2 c =
    omega (arith, product_at_most (slice_index c.args.extents.now 0) (slice_index c.args.extents.now 1) (slice_index c.args.extents.now 2) 68 c.requires.along1 c.requires.along2 c.requires.along3)

pub returns-clause-most : goal.returns-clause-most
returns-clause-most c =
    omega (arith, product_at_most (slice_index c.args.extents.now 0) (slice_index c.args.extents.now 1) (slice_index c.args.extents.now 2) 68 c.requires.along1 c.requires.along2 c.requires.along3)
