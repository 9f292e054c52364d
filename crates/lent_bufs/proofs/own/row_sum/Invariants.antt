use Rattle.std.proofs.Common.{◌≡◌, ◌*◌, ◌^◌, ◌≤◌, take, sum}
use Rattle.lent_bufs.proofs.own.row_sum.Given as goal

abbrev pub invariant-loop-number : goal.invariant-loop-number
invariant-loop-number l = record {
  total : l.total ≡ sum (take l.number-index l.row);
  most : l.total ≤ l.number-index * 2 ^ 64;
}
