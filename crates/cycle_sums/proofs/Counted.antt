-- The sums of a cycle go on with each event.
use Rattle.std.proofs.Common.{◌≡◌, ◌∙◌, ap, sym, subst, refl, arith, inl, inr, ℕ, zero, suc, ◌+◌, ◌<◌, ◌==◌, Bool, cond, length, sum_by, eq-eqb}
use Rattle.std.specs.Prelude.{slice_index}
use Rattle.std.specs.List.{range_with_len}
use Rattle.std.proofs.lemmas.Bool.{cases_eq, ne_eqb}
use Rattle.std.proofs.lemmas.List.{get_or-replicate, length-replicate}
use Rattle.package_fields.specs.declared.flow.Flow.{Flow}
use Rattle.package_fields.specs.Flow.{no_flow}
use Rattle.cycle_rounds.specs.Events as rounds
use Rattle.cycle_rounds.specs.Events.{Letter}
use Rattle.cycle_rounds.proofs.Lists.{put_other, put_same, range_sum_same}
use Rattle.sparse_rounds.specs.Sparse.{Local, lease_of}
use Rattle.cycle_events.specs.Cycles.{Cycle, StateOf, next}
use Rattle.cycle_events.proofs.Counts.{sum_of_two}
use Rattle.cycle_events.proofs.Steps.{after_letter, deliver_is, deliver_other, deliver_own, give_other}
use Rattle.cycle_sums.specs.Sums.{Sums, flow_at}
use Rattle.cycle_sums.specs.Shows.{DeliveriesCountNothing, GivesCount, OpeningsCountNothing, ShowsSums, TakesCountNothing, over_blocks, over_list}

-- a sum of zeros
zeros_sum : (f : ℕ → ℕ) (a n : ℕ) → ((b : ℕ) → f b ≡ 0) → sum_by f (range_with_len a n) ≡ 0
zeros_sum f a n h = range_sum_same (λ _. 0) f a n (λ b low high. h b) ∙ none a n
  where
    none : (a n : ℕ) → sum_by (λ (b : ℕ). 0) (range_with_len a n) ≡ 0
    none a zero = refl
    none a (suc n) = none (a + 1) n

module _ {X V G F P W : Type 0} (c : Cycle X V G F P W) where
  -- counts that an event leaves
  record SameCounts (l m : Local V G F W) : Type 0 where
    inflow : m.inflow ≡ l.inflow
    outflow : m.outflow ≡ l.outflow
    made : m.made ≡ l.made
    used : m.used ≡ l.used
    dropped : m.dropped ≡ l.dropped

  same_counts : (l m : Local V G F W) → m ≡ l → SameCounts l m
  same_counts l m e = record {
    inflow = ap (λ (v : Local V G F W). v.inflow) e;
    outflow = ap (λ (v : Local V G F W). v.outflow) e;
    made = ap (λ (v : Local V G F W). v.made) e;
    used = ap (λ (v : Local V G F W). v.used) e;
    dropped = ap (λ (v : Local V G F W). v.dropped) e;
  }

  over_same : (s t : StateOf X V G F P W) (count : Local V G F W → ℕ → ℕ → ℕ) (f : ℕ) → ((i : ℕ) → count (t.local i) ≡ count (s.local i)) →
      over_blocks c t count f ≡ over_blocks c s count f
  over_same s t count f h =
      range_sum_same (λ b. count (s.local (c.kernels.owner b)) b f) (λ b. count (t.local (c.kernels.owner b)) b f) 0 c.size.blocks
      (λ b low high. ap (λ (v : ℕ → ℕ → ℕ). v b f) (h (c.kernels.owner b)))

  stay : (s t : StateOf X V G F P W) (v : Sums) → ShowsSums c s v → ((i : ℕ) → SameCounts (s.local i) (t.local i)) → ShowsSums c t v
  stay s t v h same = record {
    flow_count = h.flow_count;
    drop_count = h.drop_count;
    inflow = λ f low. h.inflow f low ∙ sym (over_same s t (λ (l : Local V G F W). l.inflow) f (λ i. (same i).inflow));
    outflow = λ f low. h.outflow f low ∙ sym (over_same s t (λ (l : Local V G F W). l.outflow) f (λ i. (same i).outflow));
    made = λ f low. h.made f low ∙ sym (over_same s t (λ (l : Local V G F W). l.made) f (λ i. (same i).made));
    used = λ f low. h.used f low ∙ sym (over_same s t (λ (l : Local V G F W). l.used) f (λ i. (same i).used));
    dropped = λ f low. h.dropped f low ∙ sym (over_same s t (λ (l : Local V G F W). l.dropped) f (λ i. (same i).dropped));
  }

  -- a lease and an arrival count nothing
  leased_counts : (s : StateOf X V G F P W) (seat j i : ℕ) → SameCounts (s.local i) ((next c s (rounds.take seat j)).local i)
  leased_counts s seat j i = elim (cases_eq i j) [
    | inl e ↦ (
        let is = put_same s.local j i (lease_of c.kernels (s.given j) (s.local j)) e in
        let back = ap (λ v. s.local v) (sym e) in
        record {
          inflow = ap (λ (v : Local V G F W). v.inflow) is ∙ ap (λ (v : Local V G F W). v.inflow) back;
          outflow = ap (λ (v : Local V G F W). v.outflow) is ∙ ap (λ (v : Local V G F W). v.outflow) back;
          made = ap (λ (v : Local V G F W). v.made) is ∙ ap (λ (v : Local V G F W). v.made) back;
          used = ap (λ (v : Local V G F W). v.used) is ∙ ap (λ (v : Local V G F W). v.used) back;
          dropped = ap (λ (v : Local V G F W). v.dropped) is ∙ ap (λ (v : Local V G F W). v.dropped) back;
        })
    | inr ne ↦ same_counts (s.local i) ((next c s (rounds.take seat j)).local i) (put_other s.local j i (lease_of c.kernels (s.given j) (s.local j)) ne)
  ]

  arrived_counts : (s : StateOf X V G F P W) (number : ℕ) (l : Letter X (ℕ → P)) (i : ℕ) → SameCounts (s.local i) ((after_letter c s number l).local i)
  arrived_counts s number l i = elim (cases_eq i (c.kernels.owner (c.kernels.to l.of))) [
    | inl e ↦ (
        let is = deliver_own c s number l i e in
        record {
          inflow = ap (λ (v : Local V G F W). v.inflow) is;
          outflow = ap (λ (v : Local V G F W). v.outflow) is;
          made = ap (λ (v : Local V G F W). v.made) is;
          used = ap (λ (v : Local V G F W). v.used) is;
          dropped = ap (λ (v : Local V G F W). v.dropped) is;
        })
    | inr ne ↦ same_counts (s.local i) ((after_letter c s number l).local i) (deliver_other c s number l i ne)
  ]

  -- a Give of a list counts on the blocks of that list
  abbrev given : StateOf X V G F P W → ℕ → ℕ → StateOf X V G F P W
  given s seat list = next c s (rounds.give seat list)

  term : (s : StateOf X V G F P W) (seat list : ℕ) (count : Local V G F W → ℕ → ℕ → ℕ) (f b : ℕ) →
      count ((given s seat list).local (c.kernels.owner b)) b f + cond (c.kernels.owner b == list) (count (s.local list) b f) 0
      ≡ count (s.local (c.kernels.owner b)) b f + cond (c.kernels.owner b == list) (count ((given s seat list).local list) b f) 0
  term s seat list count f b = elim (cases_eq (c.kernels.owner b) list) [
    | inl e ↦ (
        let old : count (s.local (c.kernels.owner b)) b f ≡ count (s.local list) b f = ap (λ v. count (s.local v) b f) e in
        let new : count ((given s seat list).local (c.kernels.owner b)) b f ≡ count ((given s seat list).local list) b f = ap (λ v. count ((given s seat list).local v) b f) e in
        let x : cond (c.kernels.owner b == list) (count (s.local list) b f) 0 ≡ count (s.local list) b f = ap (λ (v : Bool). cond v (count (s.local list) b f) 0) (eq-eqb (c.kernels.owner b) list e) in
        let y : cond (c.kernels.owner b == list) (count ((given s seat list).local list) b f) 0 ≡ count ((given s seat list).local list) b f = ap (λ (v : Bool). cond v (count ((given s seat list).local list) b f) 0) (eq-eqb (c.kernels.owner b) list e) in
        omega arith)
    | inr ne ↦ (
        let same : count ((given s seat list).local (c.kernels.owner b)) b f ≡ count (s.local (c.kernels.owner b)) b f = ap (λ (v : Local V G F W). count v b f) (give_other c s seat list (c.kernels.owner b) ne) in
        let x : cond (c.kernels.owner b == list) (count (s.local list) b f) 0 ≡ 0 = ap (λ (v : Bool). cond v (count (s.local list) b f) 0) (ne_eqb (c.kernels.owner b) list ne) in
        let y : cond (c.kernels.owner b == list) (count ((given s seat list).local list) b f) 0 ≡ 0 = ap (λ (v : Bool). cond v (count ((given s seat list).local list) b f) 0) (ne_eqb (c.kernels.owner b) list ne) in
        omega arith)
  ]

  sums_meet : (s : StateOf X V G F P W) (seat list : ℕ) (count : Local V G F W → ℕ → ℕ → ℕ) (f : ℕ) →
      over_blocks c (given s seat list) count f + over_list c list (λ b. count (s.local list) b f)
      ≡ over_blocks c s count f + over_list c list (λ b. count ((given s seat list).local list) b f)
  sums_meet s seat list count f =
      sym (sum_of_two (λ b. count ((given s seat list).local (c.kernels.owner b)) b f + cond (c.kernels.owner b == list) (count (s.local list) b f) 0)
      (λ b. count ((given s seat list).local (c.kernels.owner b)) b f) (λ b. cond (c.kernels.owner b == list) (count (s.local list) b f) 0) (λ b. refl) (range_with_len 0 c.size.blocks))
      ∙ sum_of_two (λ b. count ((given s seat list).local (c.kernels.owner b)) b f + cond (c.kernels.owner b == list) (count (s.local list) b f) 0)
      (λ b. count (s.local (c.kernels.owner b)) b f) (λ b. cond (c.kernels.owner b == list) (count ((given s seat list).local list) b f) 0)
      (term s seat list count f) (range_with_len 0 c.size.blocks)

  counted : (s : StateOf X V G F P W) (seat list : ℕ) (count : Local V G F W → ℕ → ℕ → ℕ) (f old more new : ℕ) →
      old ≡ over_blocks c s count f → over_list c list (λ b. count (s.local list) b f) + more ≡ over_list c list (λ b. count ((given s seat list).local list) b f) →
      new ≡ old + more → new ≡ over_blocks c (given s seat list) count f
  counted s seat list count f old more new was gain is = let m = sums_meet s seat list count f in omega arith

pub openings_count_nothing : (X V G F P W : Type 0) → OpeningsCountNothing X V G F P W
openings_count_nothing X V G F P W c none = record {
  flow_count = length-replicate c.size.fields no_flow;
  drop_count = length-replicate c.size.fields 0;
  inflow = λ f low. ap (λ (x : Flow). x.inflow) (get_or-replicate c.size.fields f no_flow no_flow low) ∙ sym (zeros_sum (λ b. c.start.inflow b f) 0 c.size.blocks (λ b. none.inflow b f));
  outflow = λ f low. ap (λ (x : Flow). x.outflow) (get_or-replicate c.size.fields f no_flow no_flow low) ∙ sym (zeros_sum (λ b. c.start.outflow b f) 0 c.size.blocks (λ b. none.outflow b f));
  made = λ f low. ap (λ (x : Flow). x.made) (get_or-replicate c.size.fields f no_flow no_flow low) ∙ sym (zeros_sum (λ b. c.start.made b f) 0 c.size.blocks (λ b. none.made b f));
  used = λ f low. ap (λ (x : Flow). x.used) (get_or-replicate c.size.fields f no_flow no_flow low) ∙ sym (zeros_sum (λ b. c.start.used b f) 0 c.size.blocks (λ b. none.used b f));
  dropped = λ f low. get_or-replicate c.size.fields f 0 0 low ∙ sym (zeros_sum (λ b. c.start.dropped b f) 0 c.size.blocks (λ b. none.dropped b f));
}

pub takes_count_nothing : (X V G F P W : Type 0) → TakesCountNothing X V G F P W
takes_count_nothing X V G F P W c s v seat list h = stay c s (next c s (rounds.take seat list)) v h (leased_counts c s seat list)

pub deliveries_count_nothing : (X V G F P W : Type 0) → DeliveriesCountNothing X V G F P W
deliveries_count_nothing X V G F P W c s v seat number l e h =
    subst (λ (t : StateOf X V G F P W). ShowsSums c t v) (sym (deliver_is c s seat number l e)) (stay c s (after_letter c s number l) v h (arrived_counts c s number l))

pub gives_count : (X V G F P W : Type 0) → GivesCount X V G F P W
gives_count X V G F P W c s v new seat list flows drops h gains sums = record {
  flow_count = sums.flows_added.as_many ∙ h.flow_count;
  drop_count = sums.drops_added.as_many ∙ h.drop_count;
  inflow = λ f low. counted c s seat list (λ (l : Local V G F W). l.inflow) f (flow_at v.flows f).inflow (flow_at flows f).inflow (flow_at new.flows f).inflow
      (h.inflow f low) (gains.inflow f low) (ap (λ (x : Flow). x.inflow) (sums.flows_added.each f (some f low)));
  outflow = λ f low. counted c s seat list (λ (l : Local V G F W). l.outflow) f (flow_at v.flows f).outflow (flow_at flows f).outflow (flow_at new.flows f).outflow
      (h.outflow f low) (gains.outflow f low) (ap (λ (x : Flow). x.outflow) (sums.flows_added.each f (some f low)));
  made = λ f low. counted c s seat list (λ (l : Local V G F W). l.made) f (flow_at v.flows f).made (flow_at flows f).made (flow_at new.flows f).made
      (h.made f low) (gains.made f low) (ap (λ (x : Flow). x.made) (sums.flows_added.each f (some f low)));
  used = λ f low. counted c s seat list (λ (l : Local V G F W). l.used) f (flow_at v.flows f).used (flow_at flows f).used (flow_at new.flows f).used
      (h.used f low) (gains.used f low) (ap (λ (x : Flow). x.used) (sums.flows_added.each f (some f low)));
  dropped = λ f low. counted c s seat list (λ (l : Local V G F W). l.dropped) f (slice_index v.drops f) (slice_index drops f) (slice_index new.drops f)
      (h.dropped f low) (gains.dropped f low) (sums.drops_added.each f (let n = h.drop_count in omega arith));
}
  where
    some : (f : ℕ) → f < c.size.fields → f < length v.flows
    some f low = let n = h.flow_count in omega arith
