-- What lists have counted is no more than what the masked serial run comes to.
use Rattle.std.proofs.Common.{◌≡◌, subst, arith, inl, inr, ℕ, zero, suc, ◌+◌, ◌*◌, ◌/◌, ◌%◌, ◌≤◌, Bool, is_some, List, map}
use Rattle.std.proofs.lemmas.Bool.{cases_eq, cases_lt}
use Rattle.cycle_rounds.proofs.LetterLaws.{in_order}
use Rattle.cycle_rounds.proofs.Lists.{range_sum_le}
use Rattle.sparse_rounds.specs.Kernels.{Kernels}
use Rattle.sparse_rounds.specs.Masked.{Run, after_check, after_reaction, after_stage, checked_run, reacted_run, run_at}
use Rattle.sparse_rounds.specs.Sparse.{Local}
use Rattle.sparse_rounds.specs.Agreement.{Agrees, SumsAgree}
use Rattle.sparse_rounds.proofs.Clock.{is_plan}
use Rattle.cycle_events.specs.declared.event.Event.{Event}
use Rattle.cycle_events.specs.Cycles.{Cycle, IsCycle, forget, machine, opening, plan, state_of}
use Rattle.cycle_events.specs.Journals.{IsJournal}
use Rattle.cycle_events.proofs.Agreements.{journals_stay_masked}
use Rattle.cycle_events.proofs.Histories.{history_is}
use Rattle.cycle_sums.specs.Bounds.{SumsStayBelow}

module _ {X V G F P W : Type 0} (k : Kernels X V G F P W) (start : Run V) (b f : ℕ) where
  -- a count that no step of the run lowers
  record Grows (count : Run V → ℕ → ℕ → ℕ) : Type 0 where
    stage : (r : Run V) → count r b f ≤ count (after_stage k r) b f
    react : (r : Run V) → count r b f ≤ count (after_reaction k r) b f
    check : (r : Run V) → count r b f ≤ count (after_check k r) b f

  least : (x y : ℕ) → x ≤ x + y
  least x y = omega arith

  same : (x : ℕ) → x ≤ x
  same x = omega arith

  more : (x y z : ℕ) → x ≤ y → y ≤ z → x ≤ z
  more x y z a d = omega arith

  stages_grow : (count : Run V → ℕ → ℕ → ℕ) → Grows count → (n m : ℕ) → n ≤ m → count (run_at k start n) b f ≤ count (run_at k start m) b f
  stages_grow count g n zero low = subst (λ i. count (run_at k start n) b f ≤ count (run_at k start i) b f) (none n low) (same (count (run_at k start n) b f))
    where
      none : (n : ℕ) → n ≤ 0 → n ≡ 0
      none n h = omega arith
  stages_grow count g n (suc m) low = elim (cases_eq n (suc m)) [
    | inl e ↦ subst (λ i. count (run_at k start n) b f ≤ count (run_at k start i) b f) e (same (count (run_at k start n) b f))
    | inr ne ↦ more (count (run_at k start n) b f) (count (run_at k start m) b f) (count (run_at k start (suc m)) b f)
        (stages_grow count g n m (before n m low ne)) (g.stage (run_at k start m))
  ]
    where
      before : (n m : ℕ) → n ≤ suc m → (n ≡ suc m → ⊥) → n ≤ m
      before n m h ne = elim (cases_lt n (suc m)) [ inl l ↦ omega arith | inr l ↦ absurd (ne (omega arith)) ]

  at_most : (count : Run V → ℕ → ℕ → ℕ) → Grows count → (n : ℕ) → n ≤ k.stages → count (run_at k start n) b f ≤ count (run_at k start k.stages) b f
  at_most count g n low = stages_grow count g n k.stages low

  reacted_most : (count : Run V → ℕ → ℕ → ℕ) → Grows count → count (reacted_run k start) b f ≤ count (checked_run k start) b f
  reacted_most count g = g.check (reacted_run k start)

  staged_most : (count : Run V → ℕ → ℕ → ℕ) → Grows count → (n : ℕ) → n ≤ k.stages → count (run_at k start n) b f ≤ count (checked_run k start) b f
  staged_most count g n low =
      more (count (run_at k start n) b f) (count (reacted_run k start) b f) (count (checked_run k start) b f)
      (more (count (run_at k start n) b f) (count (run_at k start k.stages) b f) (count (reacted_run k start) b f) (at_most count g n low) (g.react (run_at k start k.stages)))
      (reacted_most count g)

  -- what a list has counted at a place
  below : (count : Run V → ℕ → ℕ → ℕ) (own : Local V G F W → ℕ → ℕ → ℕ) → Grows count →
      ((r : Run V) (l : Local V G F W) → SumsAgree r l b f → own l b f ≡ count r b f) →
      (g : ℕ) (out : Bool) (l : Local V G F W) → Agrees k start g out l b f → g ≤ 6 * k.stages + 3 → own l b f ≤ count (checked_run k start) b f
  below count own grows is g out l a within = elim (cases_lt g (6 * k.stages + 1)) [
    | inl stage ↦ (
        let e = is (run_at k start (g / 6)) l (a.stage (g / 6) (g % 6) (omega arith) (omega arith) (omega arith)).sums in
        let m = staged_most count grows (g / 6) (omega arith) in
        omega arith)
    | inr high ↦ (elim (cases_lt g (6 * k.stages + 3)) [
      | inl tail ↦ (
          let e = is (reacted_run k start) l (a.reacted (omega arith) tail).sums in
          let m = reacted_most count grows in
          omega arith)
      | inr past ↦ (
          let e = is (checked_run k start) l (a.checked (omega arith)).0.sums in
          omega arith)
    ])
  ]

  inflow_grows : Grows (λ (r : Run V). r.inflow)
  inflow_grows = record { stage = λ r. least (r.inflow b f) _; react = λ r. same (r.inflow b f); check = λ r. same (r.inflow b f) }

  outflow_grows : Grows (λ (r : Run V). r.outflow)
  outflow_grows = record { stage = λ r. least (r.outflow b f) _; react = λ r. same (r.outflow b f); check = λ r. same (r.outflow b f) }

  made_grows : Grows (λ (r : Run V). r.made)
  made_grows = record { stage = λ r. same (r.made b f); react = λ r. least (r.made b f) _; check = λ r. same (r.made b f) }

  used_grows : Grows (λ (r : Run V). r.used)
  used_grows = record { stage = λ r. same (r.used b f); react = λ r. least (r.used b f) _; check = λ r. same (r.used b f) }

  dropped_grows : Grows (λ (r : Run V). r.dropped)
  dropped_grows = record { stage = λ r. least (r.dropped b f) _; react = λ r. least (r.dropped b f) _; check = λ r. least (r.dropped b f) _ }

module _ {X V G F P W : Type 0} (c : Cycle X V G F P W) (events : List Event) (f : ℕ) (laws : IsCycle c) (h : IsJournal c events) where
  given_most : (i : ℕ) → (state_of c events).given i ≤ 6 * c.kernels.stages + 3
  given_most i =
      let order = in_order X (Local V G F W) (ℕ → P) (plan c) (machine c) (map forget events) (is_plan c.kernels laws.kernels) (history_is c (opening c) events h.legal) in
      let w = order.within i in
      omega arith

  term : (count : Run V → ℕ → ℕ → ℕ) (own : Local V G F W → ℕ → ℕ → ℕ) → ((b : ℕ) → Grows c.kernels c.start b f count) →
      ((b : ℕ) (r : Run V) (l : Local V G F W) → SumsAgree r l b f → own l b f ≡ count r b f) → (b : ℕ) →
      own ((state_of c events).local (c.kernels.owner b)) b f ≤ count (checked_run c.kernels c.start) b f
  term count own grows is b =
      below c.kernels c.start b f count own (grows b) (is b) ((state_of c events).given (c.kernels.owner b)) (is_some ((state_of c events).out (c.kernels.owner b)))
      ((state_of c events).local (c.kernels.owner b)) ((journals_stay_masked X V G F P W c events laws h).places b f) (given_most (c.kernels.owner b))

pub sums_stay_below : (X V G F P W : Type 0) → SumsStayBelow X V G F P W
sums_stay_below X V G F P W c events f laws h =
    let r = checked_run c.kernels c.start in
    let l = λ (b : ℕ). (state_of c events).local (c.kernels.owner b) in
    record {
      inflow = range_sum_le (λ b. (l b).inflow b f) (λ b. r.inflow b f) 0 c.size.blocks
          (λ b low high. term c events f laws h (λ (r : Run V). r.inflow) (λ (l : Local V G F W). l.inflow) (λ b. inflow_grows c.kernels c.start b f) (λ b r l s. s.inflow) b);
      outflow = range_sum_le (λ b. (l b).outflow b f) (λ b. r.outflow b f) 0 c.size.blocks
          (λ b low high. term c events f laws h (λ (r : Run V). r.outflow) (λ (l : Local V G F W). l.outflow) (λ b. outflow_grows c.kernels c.start b f) (λ b r l s. s.outflow) b);
      made = range_sum_le (λ b. (l b).made b f) (λ b. r.made b f) 0 c.size.blocks
          (λ b low high. term c events f laws h (λ (r : Run V). r.made) (λ (l : Local V G F W). l.made) (λ b. made_grows c.kernels c.start b f) (λ b r l s. s.made) b);
      used = range_sum_le (λ b. (l b).used b f) (λ b. r.used b f) 0 c.size.blocks
          (λ b low high. term c events f laws h (λ (r : Run V). r.used) (λ (l : Local V G F W). l.used) (λ b. used_grows c.kernels c.start b f) (λ b r l s. s.used) b);
      dropped = range_sum_le (λ b. (l b).dropped b f) (λ b. r.dropped b f) 0 c.size.blocks
          (λ b low high. term c events f laws h (λ (r : Run V). r.dropped) (λ (l : Local V G F W). l.dropped) (λ b. dropped_grows c.kernels c.start b f) (λ b r l s. s.dropped) b);
    }
