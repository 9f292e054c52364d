use Rattle.std.proofs.Common.{◌≡◌, ◌≤◌, length}
use Rattle.shelf_bench.proofs.count_of.Given as goal

abbrev pub invariant-loop-i : goal.invariant-loop-i
invariant-loop-i l = record { first : l.shelf.first ≡ 0; fields : l.shelf.fields ≡ 256; blocks : length l.shelf.keys ≡ 16384; epoch : l.shelf.epoch ≤ l.i; came : l.came ≤ l.i }
