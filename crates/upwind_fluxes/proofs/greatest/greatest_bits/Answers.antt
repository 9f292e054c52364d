use Rattle.std.proofs.Common.{ℕ, ◌+◌, ◌<◌, ◌≤◌, List, get_or, bit_or, length, arith, subst}
use Rattle.std.proofs.lemmas.Nat.{or_lt, le_or_l, le_or_r}
use Rattle.std.proofs.lemmas.List.{get_or_default}
use borrow.Author.Count.{below_more}
use Rattle.upwind_fluxes.proofs.greatest.greatest_bits.Goals as goal

one_more : (xs : List ℕ) (n bits : ℕ) → ((k : ℕ) → k < n → get_or xs k 0 ≤ bits) → (k : ℕ) → k < n + 1 → get_or xs k 0 ≤ bit_or bits (get_or xs n 0)
one_more xs n bits known =
    below_more (λ (k : ℕ). get_or xs k 0 ≤ bit_or bits (get_or xs n 0)) n (λ k h. omega (arith, known k h, le_or_l bits (get_or xs n 0))) (le_or_r bits (get_or xs n 0))

any_default : (xs : List ℕ) (k d bits : ℕ) → k < length xs → get_or xs k 0 ≤ bits → get_or xs k d ≤ bits
any_default xs k d bits h known = subst (λ (n : ℕ). n ≤ bits) (get_or_default xs k 0 d h) known

pub loop-total-preserved : goal.loop-total-preserved
loop-total-preserved c = record {
  small = or_lt 62 c.loop-total.bits (get_or c.args.totals.now c.loop-total.total-index 0) c.loop-total.invariant.small (c.requires c.loop-total.total-index 0 c.loop-total-test.true);
  bound = one_more c.args.totals.now c.loop-total.total-index c.loop-total.bits c.loop-total.invariant.bound;
}

pub returns-clause-bound : goal.returns-clause-bound
returns-clause-bound c = λ k d h. any_default c.args.totals.now k d c.loop-total.bits h (c.loop-total.invariant.bound k (omega (arith, c.loop-total-test.false)))
