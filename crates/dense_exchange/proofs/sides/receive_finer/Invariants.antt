use Rattle.std.proofs.Common.{◌≡◌, take}
use Rattle.std.specs.List.{list_any}
use Rattle.mesh_rules.specs.Mask.{some_above}
use Rattle.dense_exchange.specs.Sides.{sent_to}
use Rattle.dense_exchange.proofs.Filled.{Filling}
use Rattle.dense_exchange.proofs.sides.receive_finer.Given as goal

abbrev pub invariant-loop-k : goal.invariant-loop-k
invariant-loop-k l = record {
  filling : Filling l.on l.side l.senders l.to l.k l.fn.ghosts.items l.ghosts.items;
  above : l.above ≡ list_any (λ from. some_above l.on.problem.now.alloc_threshold (sent_to l.on l.side from l.to)) (take l.k l.senders);
}
