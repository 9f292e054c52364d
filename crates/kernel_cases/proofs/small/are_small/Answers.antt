use Rattle.std.proofs.Common.{ℕ, ◌+◌, ◌<◌, ◌≤◌, List, get_or, bit_or, arith}
use Rattle.std.proofs.lemmas.Nat.{le_or_l, le_or_r}
use borrow.Author.Count.{below_more}
use Rattle.kernel_cases.proofs.small.are_small.Goals as goal

one_more : (xs : List ℕ) (n bits : ℕ) → ((k : ℕ) → k < n → get_or xs k 0 ≤ bits) → (k : ℕ) → k < n + 1 → get_or xs k 0 ≤ bit_or bits (get_or xs n 0)
one_more xs n bits known =
    below_more (λ (k : ℕ). get_or xs k 0 ≤ bit_or bits (get_or xs n 0)) n (λ k h. omega (arith, known k h, le_or_l bits (get_or xs n 0))) (le_or_r bits (get_or xs n 0))

pub loop-number-preserved : goal.loop-number-preserved
loop-number-preserved c = one_more c.args.list.now c.loop-number.number-index c.loop-number.bits c.loop-number.invariant
