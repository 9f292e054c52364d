-- A cycle is never stuck: a list with the fewest tasks given can go on, or waits for a letter on the wire.
use Rattle.std.proofs.Common.{◌≡◌, ℕ, zero, suc, ◌/◌, ◌%◌, ◌<◌, ◌≤◌, ◌==◌, Bool, true, false, cond, not, ◌&&◌, ◌||◌, inl, inr, nat_lt, nat_le, is_some, length, refl, arith, ap, sym, ◌∙◌}
use Rattle.std.specs.List.{list_all, list_any, range_with_len}
use Rattle.std.proofs.lemmas.Bool.{and_cases, and_from, and_parts, cases_eq, cases_lt, eqb-false, eqb-true, le-ltb, leb-false, lt-ltb, not-false, not_from_false, or_parts}
use Rattle.std.proofs.lemmas.List.Sums.{count_by-le-length}
use Rattle.cycle_rounds.specs.Plan.{IsPlan, Plan, all_tasks, is_reading, round_tasks}
use Rattle.cycle_rounds.specs.Events.{State, has_come, is_complete, is_of, is_past, is_ready, replay}
use Rattle.cycle_rounds.specs.Protocol.{CanGoOn, NeverStuck, copies}
use Rattle.cycle_rounds.proofs.Lists.{all_fails, any_count, no_count, range_fails}
use Rattle.cycle_rounds.proofs.Orderly.{Orderly, due_count, is_way}
use Rattle.cycle_rounds.proofs.OrderlyKept.{replay_orderly}

-- the least of some numbers
least_of : (f : ℕ → ℕ) (n : ℕ) → (k : ℕ) × (k < suc n) × ((j : ℕ) → j < suc n → f k ≤ f j)
least_of f zero = (0, omega arith, λ j h. at_zero j (omega arith))
  where
    at_zero : (j : ℕ) → 0 ≡ j → f 0 ≤ f j
    at_zero j e = let a = ap f e in omega arith
least_of f (suc n) = let m = least_of f n in let below = m.1 in elim (cases_lt (f (suc n)) (f m.0)) [
  | inl less ↦ (suc n, omega arith, λ j h. elim (cases_eq j (suc n)) [ inl e ↦ (let a = ap f e in omega arith) | inr ne ↦ (let a = m.2 j (omega arith) in omega arith) ])
  | inr more ↦ (m.0, omega arith, λ j h. elim (cases_eq j (suc n)) [ inl e ↦ (let a = ap f e in omega arith) | inr ne ↦ m.2 j (omega arith) ])
]

least : (f : ℕ → ℕ) (n i : ℕ) → i < n → (k : ℕ) × (k < n) × ((j : ℕ) → j < n → f k ≤ f j)
least f zero i h = absurd (omega arith)
least f (suc n) i h = least_of f n

-- a letter that a list with the fewest tasks given waits for is on the wire
waits : {X L P : Type 0} (p : Plan X) → IsPlan p → (s : State X L P) → Orderly p s → (k : ℕ) → ((j : ℕ) → j < p.lists → s.given k ≤ s.given j) → s.given k < round_tasks p → s.given k % 3 ≡ 1 → has_come p s.mail (s.given k / 3) k ≡ false → 1 ≤ length s.wire
waits p plan s o k fewest low at h =
    let r = s.given k / 3 in
    let f = all_fails (λ x. not (p.to x == k) || list_any (is_of p r x) s.mail) p.same plan.is_same (p.due r) h in
    let parts = or_parts (not (p.to f.0 == k)) (list_any (is_of p r f.0) s.mail) f.1 in
    let to = eqb-true (p.to f.0) k (not-false (p.to f.0 == k) parts.0) in
    let absent = no_count (is_of p r f.0) s.mail parts.1 in
    let behind = fewest (p.from f.0) (plan.sender r f.0 f.2) in
    let here = ap s.given to in
    let due = any_count (p.same f.0) (p.due r) f.2 in
    let place : copies p s r f.0 ≡ due_count p r f.0 = o.place r f.0 ∙ ap (λ (b : Bool). cond b (due_count p r f.0) 0) (is_way p.rounds r (s.given (p.from f.0)) (s.given (p.to f.0)) (omega arith) (omega arith) (omega arith)) in
    let bound = count_by-le-length (is_of p r f.0) s.wire in
    omega arith

all_at_barrier : {X L P : Type 0} (p : Plan X) (s : State X L P) (k : ℕ) → ((j : ℕ) → j < p.lists → s.given k ≤ s.given j) → round_tasks p ≤ s.given k → is_past p s ≡ false → ⊥
all_at_barrier p s k fewest high h =
    let f = range_fails (λ j. nat_le (round_tasks p) (s.given j)) 0 p.lists h in
    let less = leb-false (round_tasks p) (s.given f.0) f.3 in
    let bound = f.2 in
    let more = fewest f.0 (omega arith) in
    omega arith

not_ready : {X L P : Type 0} (p : Plan X) → IsPlan p → (s : State X L P) → Orderly p s → (k : ℕ) → ((j : ℕ) → j < p.lists → s.given k ≤ s.given j) → is_ready p s k ≡ false → 1 ≤ length s.wire
not_ready p plan s o k fewest h = elim (cases_lt (s.given k) (round_tasks p)) [
  | inl low ↦ (
      let a = ap (λ (b : Bool). cond b (not (is_reading p (s.given k)) || has_come p s.mail (s.given k / 3) k) (is_past p s)) (lt-ltb (s.given k) (round_tasks p) low) in
      let parts = or_parts (not (is_reading p (s.given k))) (has_come p s.mail (s.given k / 3) k) (sym a ∙ h) in
      let reading = and_parts (nat_lt (s.given k) (round_tasks p)) (s.given k % 3 == 1) (not-false (is_reading p (s.given k)) parts.0) in
      waits p plan s o k fewest low (eqb-true (s.given k % 3) 1 reading.1) parts.1)
  | inr high ↦ (
      let a = ap (λ (b : Bool). cond b (not (is_reading p (s.given k)) || has_come p s.mail (s.given k / 3) k) (is_past p s)) (le-ltb (s.given k) (round_tasks p) high) in
      absurd (all_at_barrier p s k fewest high (sym a ∙ h)))
]

on_by : {X L P : Type 0} (p : Plan X) → IsPlan p → (s : State X L P) → Orderly p s → (k : ℕ) → k < p.lists → s.given k < all_tasks p → ((j : ℕ) → j < p.lists → s.given k ≤ s.given j) → (out ready : Bool) → is_some (s.out k) ≡ out → is_ready p s k ≡ ready → CanGoOn p s
on_by p plan s o k list more fewest true ready e f = inr (inl (k, list, e))
on_by p plan s o k list more fewest false true e f = inl (
  k,
  and_from (nat_lt k p.lists) (not (is_some (s.out k)) && (nat_lt (s.given k) (all_tasks p) && is_ready p s k)) (lt-ltb k p.lists list)
      (and_from (not (is_some (s.out k))) (nat_lt (s.given k) (all_tasks p) && is_ready p s k) (not_from_false (is_some (s.out k)) e)
      (and_from (nat_lt (s.given k) (all_tasks p)) (is_ready p s k) (lt-ltb (s.given k) (all_tasks p) more) f)),
)
on_by p plan s o k list more fewest false false e f = inr (inr (not_ready p plan s o k fewest f))

can_go_on : {X L P : Type 0} (p : Plan X) → IsPlan p → (s : State X L P) → Orderly p s → is_complete p s ≡ false → CanGoOn p s
can_go_on p plan s o h = elim (and_cases (list_all (λ i. s.given i == all_tasks p) (range_with_len 0 p.lists)) (length s.wire == 0) h) [
  | inl some ↦ (
      let f = range_fails (λ i. s.given i == all_tasks p) 0 p.lists some in
      let ne : s.given f.0 ≡ all_tasks p → ⊥ = eqb-false (s.given f.0) (all_tasks p) f.3 in
      let fits = o.fits f.0 in
      let bound = f.2 in
      let m = least s.given p.lists f.0 (omega arith) in
      let fewer = m.2 f.0 (omega arith) in
      on_by p plan s o m.0 m.1 (omega arith) m.2 (is_some (s.out m.0)) (is_ready p s m.0) refl refl)
  | inr full ↦ (let ne : length s.wire ≡ 0 → ⊥ = eqb-false (length s.wire) 0 full in inr (inr (omega arith)))
]

pub never_stuck : (X L P : Type 0) → NeverStuck X L P
never_stuck X L P p m events plan h more = can_go_on p plan (replay p m events) (replay_orderly p m plan events h) more
