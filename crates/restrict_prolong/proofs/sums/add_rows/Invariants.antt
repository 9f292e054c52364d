use Rattle.std.proofs.Common.{◌≡◌, ℕ, ◌+◌, ◌*◌, ◌<◌, length, get_or, slice_index}
use Rattle.mesh_rules.specs.Sums.{sum_to}
use Rattle.restrict_prolong.specs.Rows.{sum_along1}
use Rattle.restrict_prolong.proofs.sums.add_rows.Given as goal

abbrev pub invariant-loop-b : goal.invariant-loop-b
invariant-loop-b l = (x : ℕ) → x < length l.fn.into → get_or l.into x 0 ≡ get_or l.fn.into x 0 + sum_to l.b (λ b. sum_along1 l.op l.from x (slice_index l.op.factors 1 * l.row + b) l.plane)
