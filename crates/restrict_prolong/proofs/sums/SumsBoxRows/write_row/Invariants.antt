use Rattle.std.proofs.Common.{◌≡◌, ℕ, ◌+◌, ◌*◌, ◌<◌, length, get_or, slice_index}
use Rattle.mesh_rules.specs.Sums.{sum_to}
use Rattle.restrict_prolong.specs.Rows.{sum_along2}
use Rattle.restrict_prolong.proofs.sums.SumsBoxRows.write_row.Given as goal

abbrev pub invariant-loop-c : goal.invariant-loop-c
invariant-loop-c l = (x : ℕ) → x < length l.fn.into → get_or l.into x 0 ≡ sum_to l.c (λ c. sum_along2 l.self l.from x l.row (slice_index l.self.factors 2 * l.plane + c))
