use Rattle.std.proofs.Common.{arith}
use Rattle.block_regions.proofs.RowStarts.{row_within}
use Rattle.block_regions.proofs.row_starts.row_start.Goals as goal

pub overflow_mul-result : goal.overflow_mul-result
overflow_mul-result c =
    let r = row_within c.args.extents.now c.args.b.now c.args.len c.args.row c.args.plane c.requires.cells c.requires.lies c.requires.row in
    omega (arith, r.ends, r.rows, r.planes)

pub overflow_add-result-3 : goal.overflow_add-result-3
overflow_add-result-3 c =
    let r = row_within c.args.extents.now c.args.b.now c.args.len c.args.row c.args.plane c.requires.cells c.requires.lies c.requires.row in
    omega (arith, r.ends, r.rows, r.planes)

pub overflow_mul-result-2 : goal.overflow_mul-result-2
overflow_mul-result-2 c =
    let r = row_within c.args.extents.now c.args.b.now c.args.len c.args.row c.args.plane c.requires.cells c.requires.lies c.requires.row in
    omega (arith, r.ends, r.rows, r.planes)

pub overflow_add-result-4 : goal.overflow_add-result-4
overflow_add-result-4 c =
    let r = row_within c.args.extents.now c.args.b.now c.args.len c.args.row c.args.plane c.requires.cells c.requires.lies c.requires.row in
    omega (arith, r.ends, r.rows, r.planes)

pub overflow_add-result-5 : goal.overflow_add-result-5
overflow_add-result-5 c =
    let r = row_within c.args.extents.now c.args.b.now c.args.len c.args.row c.args.plane c.requires.cells c.requires.lies c.requires.row in
    omega (arith, r.ends, r.rows, r.planes)

pub returns-clause-ends : goal.returns-clause-ends
returns-clause-ends c =
    let r = row_within c.args.extents.now c.args.b.now c.args.len c.args.row c.args.plane c.requires.cells c.requires.lies c.requires.row in
    omega (arith, r.ends, r.rows, r.planes)
