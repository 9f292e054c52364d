-- The epoch of a list is told by its events, and a pack stays true as long as it has the list's epoch.
use Rattle.std.proofs.Common.{◌≡◌, ℕ, zero, suc, ◌+◌, ◌<◌, ◌≤◌, ◌==◌, Bool, true, false, cond, not, ◌&&◌, inl, inr, is_some, List, [], ◌∷◌, ◌++◌, map, count_by, sum_by, refl, arith, ap, sym, subst, ◌∙◌, append_assoc}
use Rattle.std.specs.List.{range_with_len}
use Rattle.std.proofs.lemmas.Bool.{cases_eq, eqb-true}
use Rattle.std.proofs.lemmas.List.Sums.{sum_by-append, sum_by-cons}
use Rattle.cycle_rounds.specs.Events as rounds
use Rattle.cycle_rounds.specs.Events.{Letter, after}
use Rattle.cycle_rounds.proofs.Lists.{count_add, count_append, found, none_if}
use Rattle.sparse_rounds.specs.Epochs as changes
use Rattle.sparse_rounds.specs.Epochs.{differs}
use Rattle.sparse_pool.specs.declared.place.Place.{Place}
use Rattle.cycle_events.specs.declared.event.Event.{Event}
use Rattle.cycle_events.specs.declared.event.Event.TheVariants.{Take}
use Rattle.cycle_events.specs.Cycles.{Cycle, StateOf, forget, machine, next, opening, plan, state_of}
use Rattle.cycle_events.specs.Places.{freed_by, has_buffer, has_kind, kind_of, listed, made_by}
use Rattle.cycle_events.specs.Journals.{AreLegal, entry_of}
use Rattle.cycle_events.specs.Packs.{changed, epoch}
use Rattle.cycle_events.specs.Epochs.{EpochsAreTold, FreshPacksAreTrue, PacksStayTrue, TakesTellPacks}
use Rattle.cycle_events.proofs.Counts.{count_places, no_places, same_places, sum_of_two}
use Rattle.cycle_events.proofs.Histories.{journal_parts, legal_parts, state_after}
use Rattle.cycle_events.proofs.Steps.{and_false, places_in, same_where, take_there, task_in}
use Rattle.cycle_events.proofs.Deliveries.{delivery_frees}

-- a place of a list is made or freed where it differs
split_here : (p q : Bool) → ◌≡◌ {A = ℕ} (cond (differs p q) 1 0) (cond ((not p && q) && true) 1 0 + cond ((p && not q) && true) 1 0)
split_here true true = refl
split_here true false = refl
split_here false true = refl
split_here false false = refl

split : (o p q h n : Bool) → (o ≡ true → h ≡ p) → (o ≡ true → n ≡ q) →
    ◌≡◌ {A = ℕ} (cond (differs (o && p) (o && q)) 1 0) (cond ((not h && n) && o) 1 0 + cond ((h && not n) && o) 1 0)
split true p q h n e d =
    split_here p q
    ∙ (ap (λ (v : Bool). cond ((not v && q) && true) 1 0 + cond ((v && not q) && true) 1 0) (sym (e refl))
    ∙ ap (λ (v : Bool). cond ((not h && v) && true) 1 0 + cond ((h && not v) && true) 1 0) (sym (d refl)))
split false p q h n e d =
    let a = none_if ((not h && n) && false) (and_false (not h && n)) in
    let b = none_if ((h && not n) && false) (and_false (h && not n)) in
    omega arith

-- a sum of nothing has no terms
sum_zero_at : (f : ℕ → ℕ) (a n : ℕ) → sum_by f (range_with_len a n) ≡ 0 → (i : ℕ) → a ≤ i → i < a + n → f i ≡ 0
sum_zero_at f a zero z i low high = absurd (omega arith)
sum_zero_at f a (suc n) z i low high =
    let c = sum_by-cons f a (range_with_len (a + 1) n) in
    elim (cases_eq i a) [ inl e ↦ (let d = ap f e in omega arith) | inr ne ↦ sum_zero_at f (a + 1) n (omega arith) i (omega arith) (omega arith) ]

one_not_zero : ◌≡◌ {A = ℕ} 1 0 → ⊥
one_not_zero h = omega arith

differs_not : (p q : Bool) → ◌≡◌ {A = ℕ} (cond (differs p q) 1 0) 0 → p ≡ q
differs_not true true h = refl
differs_not true false h = absurd (one_not_zero h)
differs_not false true h = absurd (one_not_zero h)
differs_not false false h = refl

module _ {X V G F P W : Type 0} (c : Cycle X V G F P W) (list : ℕ) where
  abbrev of_list : Place → Bool
  of_list at = c.kernels.owner at.block == list

  abbrev count_of : Event → ℕ
  count_of event = count_by of_list (changed event)

  -- what is made and what is freed are all changes
  all_changes : (s : StateOf X V G F P W) (e : rounds.Event) →
      changes.changes c.kernels c.size s (next c s e) list ≡ count_by of_list (made_by c s e) + count_by of_list (freed_by c s e)
  all_changes s e =
      sum_of_two
      (λ b. count_by (λ f. differs (changes.has_buffer c.kernels s list b f) (changes.has_buffer c.kernels (next c s e) list b f)) (range_with_len 0 c.size.fields))
      (λ b. count_by (λ f. (not (has_buffer c s b f) && has_buffer c (next c s e) b f) && (c.kernels.owner b == list)) (range_with_len 0 c.size.fields))
      (λ b. count_by (λ f. (has_buffer c s b f && not (has_buffer c (next c s e) b f)) && (c.kernels.owner b == list)) (range_with_len 0 c.size.fields))
      on_block (range_with_len 0 c.size.blocks)
      ∙ (let a = count_places of_list c.size (λ b f. not (has_buffer c s b f) && has_buffer c (next c s e) b f) in
      let d = count_places of_list c.size (λ b f. has_buffer c s b f && not (has_buffer c (next c s e) b f)) in
      omega arith)
    where
      here : (t : StateOf X V G F P W) (b f : ℕ) → (c.kernels.owner b == list) ≡ true → has_buffer c t b f ≡ is_some ((t.local list).bufs b f)
      here t b f o = ap (λ v. is_some ((t.local v).bufs b f)) (eqb-true (c.kernels.owner b) list o)

      on_block : (b : ℕ) →
          count_by (λ f. differs (changes.has_buffer c.kernels s list b f) (changes.has_buffer c.kernels (next c s e) list b f)) (range_with_len 0 c.size.fields)
          ≡ count_by (λ f. (not (has_buffer c s b f) && has_buffer c (next c s e) b f) && (c.kernels.owner b == list)) (range_with_len 0 c.size.fields)
          + count_by (λ f. (has_buffer c s b f && not (has_buffer c (next c s e) b f)) && (c.kernels.owner b == list)) (range_with_len 0 c.size.fields)
      on_block b =
          count_add
          (λ f. differs (changes.has_buffer c.kernels s list b f) (changes.has_buffer c.kernels (next c s e) list b f))
          (λ f. (not (has_buffer c s b f) && has_buffer c (next c s e) b f) && (c.kernels.owner b == list))
          (λ f. (has_buffer c s b f && not (has_buffer c (next c s e) b f)) && (c.kernels.owner b == list))
          (λ f. split (c.kernels.owner b == list) (is_some ((s.local list).bufs b f)) (is_some (((next c s e).local list).bufs b f))
          (has_buffer c s b f) (has_buffer c (next c s e) b f) (here s b f) (here (next c s e) b f))
          (range_with_len 0 c.size.fields)

  -- an event tells the changes of its list
  tells : (s : StateOf X V G F P W) (e : rounds.Event) → rounds.is_legal (plan c) s e ≡ true →
      count_of (entry_of c s e) ≡ changes.changes c.kernels c.size s (next c s e) list
  tells s (rounds.take seat j) legal =
      let e = rounds.take seat j in
      let a = all_changes s e in
      let m = ap (count_by of_list) (no_places c.size (λ b f. not (has_buffer c s b f) && has_buffer c (next c s e) b f)
      (λ b f. ap (λ (v : Bool). not (has_buffer c s b f) && v) (take_there c s seat j b f) ∙ no_new (has_buffer c s b f))) in
      let d = ap (count_by of_list) (no_places c.size (λ b f. has_buffer c s b f && not (has_buffer c (next c s e) b f))
      (λ b f. ap (λ (v : Bool). has_buffer c s b f && not v) (take_there c s seat j b f) ∙ no_old (has_buffer c s b f))) in
      omega arith
    where
      no_new : (h : Bool) → (not h && h) ≡ false
      no_new true = refl
      no_new false = refl

      no_old : (h : Bool) → (h && not h) ≡ false
      no_old true = refl
      no_old false = refl
  tells s (rounds.give seat j) legal =
      count_append of_list (made_by c s (rounds.give seat j)) (freed_by c s (rounds.give seat j)) ∙ sym (all_changes s (rounds.give seat j))
  tells s (rounds.deliver seat number) legal =
      let e = rounds.deliver seat number in
      let l = found (λ (y : Letter X (ℕ → P)). y.number == number) s.wire legal in
      let a = all_changes s e in
      let d = ap (count_by of_list) (delivery_frees c s seat number l.0 l.1) in
      omega arith

  pub told_along : (s : StateOf X V G F P W) (events : List Event) → AreLegal c s events →
      sum_by count_of events ≡ changes.epoch c.kernels c.start c.size s (map forget events) list
  told_along s [] h = refl
  told_along s (e ∷ es) h =
      let first = sum_by-cons count_of e es in
      let this : count_of e ≡ changes.changes c.kernels c.size s (next c s (forget e)) list = ap count_of h.0.told ∙ tells s (forget e) h.0.may_come in
      let rest = told_along (next c s (forget e)) es h.1 in
      omega arith

  -- where nothing changes, the places of the list stay
  unchanged : (s : StateOf X V G F P W) (e : rounds.Event) → changes.changes c.kernels c.size s (next c s e) list ≡ 0 →
      (b f : ℕ) → b < c.size.blocks → f < c.size.fields → (c.kernels.owner b == list) ≡ true → has_buffer c (next c s e) b f ≡ has_buffer c s b f
  unchanged s e z b f low lower mine =
      let on = sum_zero_at (λ b. count_by (λ f. differs (changes.has_buffer c.kernels s list b f) (changes.has_buffer c.kernels (next c s e) list b f)) (range_with_len 0 c.size.fields))
      0 c.size.blocks z b (omega arith) (omega arith) in
      let at = sum_zero_at (λ f. cond (differs (changes.has_buffer c.kernels s list b f) (changes.has_buffer c.kernels (next c s e) list b f)) 1 0)
      0 c.size.fields on f (omega arith) (omega arith) in
      let is = eqb-true (c.kernels.owner b) list mine in
      let same = differs_not (changes.has_buffer c.kernels s list b f) (changes.has_buffer c.kernels (next c s e) list b f) at in
      ap (λ v. is_some (((next c s e).local v).bufs b f)) is
      ∙ (sym (ap (λ (v : Bool). v && is_some (((next c s e).local list).bufs b f)) mine)
      ∙ (sym same
      ∙ (ap (λ (v : Bool). v && is_some ((s.local list).bufs b f)) mine
      ∙ sym (ap (λ v. is_some ((s.local v).bufs b f)) is))))

  pub quiet : (s : StateOf X V G F P W) (events : List Event) → AreLegal c s events → sum_by count_of events ≡ 0 →
      (b f : ℕ) → b < c.size.blocks → f < c.size.fields → (c.kernels.owner b == list) ≡ true →
      has_buffer c (after (plan c) (machine c) s (map forget events)) b f ≡ has_buffer c s b f
  quiet s [] h z b f low lower mine = refl
  quiet s (e ∷ es) h z b f low lower mine =
      let first = sum_by-cons count_of e es in
      let this : count_of e ≡ changes.changes c.kernels c.size s (next c s (forget e)) list = ap count_of h.0.told ∙ tells s (forget e) h.0.may_come in
      quiet (next c s (forget e)) es h.1 (omega arith) b f low lower mine ∙ unchanged s (forget e) (omega arith) b f low lower mine

pub epochs_are_told : (X V G F P W : Type 0) → EpochsAreTold X V G F P W
epochs_are_told X V G F P W c events list h = told_along c list (opening c) events h.legal

pub packs_stay_true : (X V G F P W : Type 0) → PacksStayTrue X V G F P W
packs_stay_true X V G F P W c pack events t = record {
  more = λ more. record {
    first = t.first;
    more = t.more ++ more;
    parts = ap (λ (v : List Event). v ++ more) t.parts ∙ append_assoc t.first t.more more;
    at_epoch = t.at_epoch;
    places = t.places;
  };
  listed = λ journal now. t.places ∙ sym (ap (λ (v : List Event). listed c (state_of c v) pack.partition pack.kind) t.parts
      ∙ stay (subst (λ (v : List Event). AreLegal c (opening c) v) t.parts journal.legal) (ap (λ (v : List Event). epoch c v pack.partition) (sym t.parts) ∙ now));
}
  where
    stay : AreLegal c (opening c) (t.first ++ t.more) → epoch c (t.first ++ t.more) pack.partition ≡ pack.epoch →
        listed c (state_of c (t.first ++ t.more)) pack.partition pack.kind ≡ listed c (state_of c t.first) pack.partition pack.kind
    stay legal now =
        let parts = legal_parts c (opening c) t.first t.more legal in
        let sums = sum_by-append (count_of c pack.partition) t.first t.more in
        let before = t.at_epoch in
        ap (λ (v : StateOf X V G F P W). listed c v pack.partition pack.kind) (state_after c (opening c) t.first t.more)
        ∙ same_places c.size
        (λ b f. c.kernels.owner b == pack.partition && (has_buffer c (after (plan c) (machine c) (state_of c t.first) (map forget t.more)) b f && has_kind c.kernels pack.kind f))
        (λ b f. c.kernels.owner b == pack.partition && (has_buffer c (state_of c t.first) b f && has_kind c.kernels pack.kind f))
        (λ b f low lower. same_where (c.kernels.owner b == pack.partition)
        (has_buffer c (after (plan c) (machine c) (state_of c t.first) (map forget t.more)) b f && has_kind c.kernels pack.kind f)
        (has_buffer c (state_of c t.first) b f && has_kind c.kernels pack.kind f)
        (λ mine. ap (λ (v : Bool). v && has_kind c.kernels pack.kind f) (quiet c pack.partition (state_of c t.first) t.more parts.1 (omega arith) b f low lower mine)))

pub fresh_packs_are_true : (X V G F P W : Type 0) → FreshPacksAreTrue X V G F P W
fresh_packs_are_true X V G F P W c pack events now places = record { first = events; more = []; parts = nil_after events; at_epoch = now; places = places }
  where
    nil_after : (xs : List Event) → xs ≡ xs ++ []
    nil_after [] = refl
    nil_after (x ∷ xs) = ap (λ (v : List Event). x ∷ v) (nil_after xs)

-- the task and the places that a Take tells
pub takes_tell_packs : (X V G F P W : Type 0) → TakesTellPacks X V G F P W
takes_tell_packs X V G F P W c events seat list task places pack h t is =
    let journal = journal_parts c events (Take seat list task places ∷ []) h in
    let legal = (legal_parts c (opening c) events (Take seat list task places ∷ []) h.legal).1.0 in
    let now = (packs_stay_true X V G F P W c pack events t).listed journal (ap (epoch c events) is.same_list ∙ sym is.same_epoch) in
    now ∙ (ap (λ v. listed c (state_of c events) v pack.kind) is.same_list
    ∙ (ap (listed c (state_of c events) list) (is.same_kind ∙ ap (kind_of c.kernels) (ap task_in legal.told))
    ∙ sym (ap places_in legal.told)))
