use Rattle.std.proofs.Common.{◌≤◌, arith}
use Rattle.mesh_num.proofs.Powers.{power_of_two, power_of_four, part_at_most}
use Rattle.mesh_num.proofs.rates.rate.Goals as goal

pub pow-requires-2 : goal.pow-requires-2
pow-requires-2 c = omega (arith, power_of_four c.args.level c.requires.levels)

pub overflow_mul-result-2 : goal.overflow_mul-result-2
overflow_mul-result-2 c =
    let p : c.pow-2.result ≤ 1048576 = omega (arith, power_of_four c.args.level c.requires.levels) in
    omega (arith, part_at_most c.args.k c.pow-2.result 1048576 c.requires.diffusion p)

pub overflow_add-result : goal.overflow_add-result
overflow_add-result c =
    let p : c.pow-2.result ≤ 1048576 = omega (arith, power_of_four c.args.level c.requires.levels) in
    let q : c.pow.result ≤ 1024 = omega (arith, power_of_two c.args.level c.requires.levels) in
    omega (arith, part_at_most c.args.k c.pow-2.result 1048576 c.requires.diffusion p, part_at_most c.args.v c.pow.result 1024 c.requires.velocity q)
