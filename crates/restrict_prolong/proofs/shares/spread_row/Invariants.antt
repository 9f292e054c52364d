use Rattle.std.proofs.Common.{◌≡◌, ℕ, ◌+◌, ◌*◌, ◌<◌, ◌^◌, get_or}
use Rattle.mesh_num.specs.Share.{share}
use Rattle.restrict_prolong.proofs.shares.spread_row.Given as goal

abbrev pub invariant-loop-x : goal.invariant-loop-x
invariant-loop-x l = record {
  low : (k : ℕ) → k < l.x → get_or l.into (2 * k) 0 ≡ share (get_or l.from k 0) (2 ^ l.dims) l.j;
  high : (k : ℕ) → k < l.x → get_or l.into (2 * k + 1) 0 ≡ share (get_or l.from k 0) (2 ^ l.dims) (l.j + 1);
}
