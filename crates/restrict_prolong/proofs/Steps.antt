-- Loops that write a list place by place.
use Rattle.std.proofs.Common.{◌≡◌, ◌≢◌, ℕ, ◌+◌, ◌*◌, ◌<◌, ◌≤◌, List, length, get_or, slice_set, arith, below_more, get_or-set_other, get_or-set_same}
use Rattle.std.proofs.lemmas.List.{length-set}

-- one more place is done
pub one_done : (f : ℕ → ℕ) (x v : ℕ) (into : List ℕ) → x < length into → v ≡ f x → ((k : ℕ) → k < x → get_or into k 0 ≡ f k) → (k : ℕ) → k < x + 1 → get_or (slice_set into x v) k 0 ≡ f k
one_done f x v into lt is known =
    below_more _ _ (λ k h. let ne : k ≢ x = omega arith in rw get_or-set_other (known k h)) (rw get_or-set_same is)

-- the places after it are as they were
pub rest_stays : (x v : ℕ) (into old : List ℕ) → ((k : ℕ) → x ≤ k → get_or into k 0 ≡ get_or old k 0) → (k : ℕ) → x + 1 ≤ k → get_or (slice_set into x v) k 0 ≡ get_or old k 0
rest_stays x v into old known k h = let ne : k ≢ x = omega arith in let lt : x ≤ k = omega arith in rw get_or-set_other (known k lt)

-- one more pair of places is done
pub pair_low : (f : ℕ → ℕ) (x v w : ℕ) (into : List ℕ) → 2 * x + 1 < length into → v ≡ f x → ((k : ℕ) → k < x → get_or into (2 * k) 0 ≡ f k) → (k : ℕ) → k < x + 1 → get_or (slice_set (slice_set into (2 * x) v) (2 * x + 1) w) (2 * k) 0 ≡ f k
pair_low f x v w into lt is known =
    below_more _ _
    (λ k h. let ne : 2 * k ≢ 2 * x + 1 = omega arith in let other : 2 * k ≢ 2 * x = omega arith in rw (get_or-set_other (slice_set into (2 * x) v) (2 * x + 1) (2 * k) w 0 ne) (rw (get_or-set_other into (2 * x) (2 * k) v 0 other) (known k h)))
    (let ne : 2 * x ≢ 2 * x + 1 = omega arith in let here : 2 * x < length into = omega arith in rw (get_or-set_other (slice_set into (2 * x) v) (2 * x + 1) (2 * x) w 0 ne) (rw (get_or-set_same into (2 * x) v 0 here) is))

pub pair_high : (f : ℕ → ℕ) (x v w : ℕ) (into : List ℕ) → 2 * x + 1 < length into → w ≡ f x → ((k : ℕ) → k < x → get_or into (2 * k + 1) 0 ≡ f k) → (k : ℕ) → k < x + 1 → get_or (slice_set (slice_set into (2 * x) v) (2 * x + 1) w) (2 * k + 1) 0 ≡ f k
pair_high f x v w into lt is known =
    below_more _ _
    (λ k h. let ne : 2 * k + 1 ≢ 2 * x + 1 = omega arith in let other : 2 * k + 1 ≢ 2 * x = omega arith in rw (get_or-set_other (slice_set into (2 * x) v) (2 * x + 1) (2 * k + 1) w 0 ne) (rw (get_or-set_other into (2 * x) (2 * k + 1) v 0 other) (known k h)))
    (let here : 2 * x + 1 < length (slice_set into (2 * x) v) = omega (arith, length-set into (2 * x) v) in rw (get_or-set_same (slice_set into (2 * x) v) (2 * x + 1) w 0 here) is)
