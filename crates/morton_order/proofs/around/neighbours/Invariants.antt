use Rattle.std.proofs.Common.{◌≡◌, ◌+◌, ◌≤◌, All, length, nat_lt, cond}
use Rattle.std.specs.List.{filter_map, range_with_len}
use Rattle.morton_order.specs.Space.{IsIn}
use Rattle.morton_order.specs.Neighbours.{neighbour}
use Rattle.morton_order.proofs.around.neighbours.Given as goal

abbrev pub invariant-loop-k : goal.invariant-loop-k
invariant-loop-k l = record {
  so_far : l.places.items ≡ filter_map (neighbour l.shape l.at) (range_with_len 0 l.k);
  room : l.places.capacity ≡ 26;
  short : length l.places.items + cond (nat_lt 13 l.k) 1 0 ≤ l.k;
  within : All (IsIn l.shape) l.places.items;
}
