use Rattle.std.proofs.Common.{arith}
use Rattle.std.specs.List.{range_with_len}
use Rattle.std.proofs.lemmas.List.Sums.{sum-map}
use Rattle.mesh_num.specs.Share.{share}
use Rattle.mesh_num.proofs.Sums.{sum_by-share}
use Rattle.mesh_num.proofs.shares.shares_add_up.Goals as goal

pub returns : goal.returns
returns c = λ q n positive. omega (arith, sum-map (share q n) (range_with_len 0 n), sum_by-share q n n 0)
