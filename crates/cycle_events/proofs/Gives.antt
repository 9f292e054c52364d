-- The places that a Give makes and frees.
use Rattle.std.proofs.Common.{◌≡◌, ℕ, zero, suc, ◌+◌, ◌*◌, ◌/◌, ◌%◌, ◌<◌, ◌≤◌, ◌==◌, Bool, true, false, cond, not, ◌&&◌, ◌||◌, inl, inr, nat_lt, Option, Some, None, is_some, List, [], map, refl, arith, ap, sym, ◌∙◌, eq-eqb}
use Rattle.std.proofs.lemmas.Bool.{and_from, and_left, and_right, cases_eq, cases_lt, le-ltb, lt-ltb, ne_eqb}
use Rattle.cycle_rounds.specs.Events as rounds
use Rattle.cycle_rounds.specs.Events.{reads}
use Rattle.cycle_rounds.proofs.LetterLaws.{in_order}
use Rattle.cycle_rounds.proofs.Lists.{one_if}
use Rattle.sparse_rounds.specs.Kernels.{Kernels}
use Rattle.sparse_rounds.specs.Sparse.{Buf, Local, keeps_checked, keeps_reacted, stage_work, with_cells, work_of}
use Rattle.sparse_rounds.proofs.Clock.{is_plan, work_in_stage, work_in_tail}
use Rattle.sparse_pool.specs.declared.place.Place.{Place}
use Rattle.cycle_events.specs.Cycles.{Cycle, StateOf, forget, machine, next, opening, plan, state_of}
use Rattle.cycle_events.specs.Places.{freed_by, has_buffer, made_by, places_where}
use Rattle.cycle_events.specs.Changes.{GivesMake, IsGiving}
use Rattle.cycle_events.proofs.Agreements.{journals_stay_masked}
use Rattle.cycle_events.proofs.Counts.{no_places, same_places}
use Rattle.cycle_events.proofs.Histories.{history_is}
use Rattle.cycle_events.proofs.LeasesHeld.{lent_there}
use Rattle.cycle_events.proofs.Steps.{give_other, give_own}

-- tests of places: what is new, and what is gone
new_of : (h m : Bool) → (not h && (h || m)) ≡ (not h && m)
new_of true m = refl
new_of false m = refl

none_gone : (h m : Bool) → (h && not (h || m)) ≡ false
none_gone true m = refl
none_gone false m = refl

none_new : (h k : Bool) → (not h && (h && k)) ≡ false
none_new true k = refl
none_new false k = refl

gone_of : (h k : Bool) → (h && not (h && k)) ≡ (h && not k)
gone_of true k = refl
gone_of false k = refl

none_same : (h : Bool) → (not h && h) ≡ false
none_same true = refl
none_same false = refl

gone_same : (h : Bool) → (h && not h) ≡ false
gone_same true = refl
gone_same false = refl

-- whether a buffer is there once work was done on it
lent_or : {A : Type 0} (lent z : Bool) (u : A) (o : Option A) → (lent ≡ true → is_some o ≡ true) → is_some (cond (lent || z) (Some u) o) ≡ (is_some o || z)
lent_or true z u None h = absurd (false_true (h refl))
  where
    false_true : false ≡ true → ⊥
    false_true e = cc
lent_or true z u (Some _) h = refl
lent_or false true u None h = refl
lent_or false true u (Some _) h = refl
lent_or false false u None h = refl
lent_or false false u (Some _) h = refl

lent_same : {A : Type 0} (lent : Bool) (u : A) (o : Option A) → (lent ≡ true → is_some o ≡ true) → is_some (cond lent (Some u) o) ≡ is_some o
lent_same true u o h = sym (h refl)
lent_same false u o h = refl

cells_there : {X V G F P W : Type 0} (k : Kernels X V G F P W) (keeps : Bool) (cells : V) (o : Option (Buf V G F)) → is_some (with_cells k keeps cells o) ≡ (is_some o || keeps)
cells_there k true cells None = refl
cells_there k true cells (Some u) = refl
cells_there k false cells None = refl
cells_there k false cells (Some u) = refl

kept_there : {A : Type 0} (keeps : Bool) (o : Option A) → is_some (cond keeps o None) ≡ (is_some o && keeps)
kept_there true None = refl
kept_there true (Some u) = refl
kept_there false None = refl
kept_there false (Some u) = refl

module _ {X V G F P W : Type 0} (c : Cycle X V G F P W) (s : StateOf X V G F P W) (seat j : ℕ) where
  abbrev after_give : ℕ → ℕ → Bool
  after_give b f = has_buffer c (next c s (rounds.give seat j)) b f

  abbrev mine : ℕ → Bool
  mine b = c.kernels.owner b == j

  -- other lists' places stay
  elsewhere : (b f : ℕ) → (c.kernels.owner b ≡ j → ⊥) → after_give b f ≡ has_buffer c s b f
  elsewhere b f ne = ap (λ (l : Local V G F W). is_some (l.bufs b f)) (give_other c s seat j (c.kernels.owner b) ne)

  -- the places made, and freed, where buffers are added to those of the list, and where some of them are kept
  record Changed (made freed : List Place) : Type 0 where
    made_is : made_by c s (rounds.give seat j) ≡ made
    freed_is : freed_by c s (rounds.give seat j) ≡ freed

  of_mine : (test now : ℕ → ℕ → Bool) → ((b f : ℕ) → c.kernels.owner b ≡ j → now b f ≡ test b f) → ((b f : ℕ) → (c.kernels.owner b ≡ j → ⊥) → now b f ≡ false) →
      places_where c.size now ≡ places_where c.size (λ b f. mine b && test b f)
  of_mine test now own others = same_places c.size now (λ b f. mine b && test b f) (λ b f low lower. elim (cases_eq (c.kernels.owner b) j) [
    | inl e ↦ own b f e ∙ ap (λ (v : Bool). v && test b f) (sym (eq-eqb (c.kernels.owner b) j e))
    | inr ne ↦ others b f ne ∙ ap (λ (v : Bool). v && test b f) (sym (ne_eqb (c.kernels.owner b) j ne))
  ])

  none_of : (now : ℕ → ℕ → Bool) → ((b f : ℕ) → c.kernels.owner b ≡ j → now b f ≡ false) → ((b f : ℕ) → (c.kernels.owner b ≡ j → ⊥) → now b f ≡ false) →
      places_where c.size now ≡ []
  none_of now own others = no_places c.size now (λ b f. elim (cases_eq (c.kernels.owner b) j) [ inl e ↦ own b f e | inr ne ↦ others b f ne ])

  not_made_elsewhere : (b f : ℕ) → (c.kernels.owner b ≡ j → ⊥) → (not (has_buffer c s b f) && after_give b f) ≡ false
  not_made_elsewhere b f ne = ap (λ (v : Bool). not (has_buffer c s b f) && v) (elsewhere b f ne) ∙ none_same (has_buffer c s b f)

  not_freed_elsewhere : (b f : ℕ) → (c.kernels.owner b ≡ j → ⊥) → (has_buffer c s b f && not (after_give b f)) ≡ false
  not_freed_elsewhere b f ne = ap (λ (v : Bool). has_buffer c s b f && not v) (elsewhere b f ne) ∙ gone_same (has_buffer c s b f)

  adds : (m : ℕ → ℕ → Bool) → ((b f : ℕ) → c.kernels.owner b ≡ j → after_give b f ≡ (has_buffer c s b f || m b f)) →
      Changed (places_where c.size (λ b f. mine b && (not (has_buffer c s b f) && m b f))) []
  adds m h = record {
    made_is = of_mine (λ b f. not (has_buffer c s b f) && m b f) (λ b f. not (has_buffer c s b f) && after_give b f)
        (λ b f e. ap (λ (v : Bool). not (has_buffer c s b f) && v) (h b f e) ∙ new_of (has_buffer c s b f) (m b f)) not_made_elsewhere;
    freed_is = none_of (λ b f. has_buffer c s b f && not (after_give b f))
        (λ b f e. ap (λ (v : Bool). has_buffer c s b f && not v) (h b f e) ∙ none_gone (has_buffer c s b f) (m b f)) not_freed_elsewhere;
  }

  drops : (k : ℕ → ℕ → Bool) → ((b f : ℕ) → c.kernels.owner b ≡ j → after_give b f ≡ (has_buffer c s b f && k b f)) →
      Changed [] (places_where c.size (λ b f. mine b && (has_buffer c s b f && not (k b f))))
  drops k h = record {
    made_is = none_of (λ b f. not (has_buffer c s b f) && after_give b f)
        (λ b f e. ap (λ (v : Bool). not (has_buffer c s b f) && v) (h b f e) ∙ none_new (has_buffer c s b f) (k b f)) not_made_elsewhere;
    freed_is = of_mine (λ b f. has_buffer c s b f && not (k b f)) (λ b f. has_buffer c s b f && not (after_give b f))
        (λ b f e. ap (λ (v : Bool). has_buffer c s b f && not v) (h b f e) ∙ gone_of (has_buffer c s b f) (k b f)) not_freed_elsewhere;
  }

  leaves : ((b f : ℕ) → c.kernels.owner b ≡ j → after_give b f ≡ has_buffer c s b f) → Changed [] []
  leaves h = record {
    made_is = none_of (λ b f. not (has_buffer c s b f) && after_give b f)
        (λ b f e. ap (λ (v : Bool). not (has_buffer c s b f) && v) (h b f e) ∙ none_same (has_buffer c s b f)) not_made_elsewhere;
    freed_is = none_of (λ b f. has_buffer c s b f && not (after_give b f))
        (λ b f e. ap (λ (v : Bool). has_buffer c s b f && not v) (h b f e) ∙ gone_same (has_buffer c s b f)) not_freed_elsewhere;
  }

  -- the list's own buffers after the work
  abbrev content : X → ℕ → P
  content = reads (plan c) (machine c) s (s.given j / 3)

  abbrev LentAreThere : Type 0
  LentAreThere = (b f : ℕ) → c.kernels.owner b ≡ j → (s.local j).leased b f ≡ true → is_some ((s.local j).bufs b f) ≡ true

  worked : (b f : ℕ) → c.kernels.owner b ≡ j → (l : Local V G F W) → work_of c.kernels (s.given j) content (s.local j) ≡ l → after_give b f ≡ is_some (l.bufs b f)
  worked b f is l w =
      ap (λ v. is_some (((next c s (rounds.give seat j)).local v).bufs b f)) is
      ∙ (ap (λ (v : Local V G F W). is_some (v.bufs b f)) (give_own c s seat j)
      ∙ ap (λ (v : Local V G F W). is_some (v.bufs b f)) w)

  before : (b f : ℕ) → c.kernels.owner b ≡ j → is_some ((s.local j).bufs b f) ≡ has_buffer c s b f
  before b f is = sym (ap (λ v. is_some ((s.local v).bufs b f)) is)

  stage_there : LentAreThere → (r b f : ℕ) → (r ≡ 1 → ⊥) → c.kernels.owner b ≡ j → is_some ((stage_work c.kernels r content (s.local j)).bufs b f) ≡ is_some ((s.local j).bufs b f)
  stage_there lent zero b f ne is = refl
  stage_there lent (suc zero) b f ne is = absurd (ne refl)
  stage_there lent (suc (suc zero)) b f ne is = lent_same ((s.local j).leased b f) (_) ((s.local j).bufs b f) (lent b f is)
  stage_there lent (suc (suc (suc zero))) b f ne is = refl
  stage_there lent (suc (suc (suc (suc zero)))) b f ne is = lent_same ((s.local j).leased b f) (_) ((s.local j).bufs b f) (lent b f is)
  stage_there lent (suc (suc (suc (suc (suc r))))) b f ne is = lent_same ((s.local j).leased b f) (_) ((s.local j).bufs b f) (lent b f is)

  abbrev flows : ℕ → ℕ → Bool
  flows b f = c.kernels.is_sparse f && (c.kernels.has_ghosts f && c.kernels.flows_in b f)

  -- the work by its number
  as_told : (fill react check : Bool) → (nat_lt (s.given j) (6 * c.kernels.stages) && (s.given j % 6 == 1)) ≡ fill → (s.given j == 6 * c.kernels.stages) ≡ react →
      (s.given j == 6 * c.kernels.stages + 2) ≡ check →
      Changed
      (cond react (places_where c.size (λ b f. mine b && (not (has_buffer c s b f) && keeps_reacted c.kernels (s.local j) b f)))
      (cond fill (places_where c.size (λ b f. mine b && (not (has_buffer c s b f) && flows b f))) []))
      (cond check (places_where c.size (λ b f. mine b && (has_buffer c s b f && not (keeps_checked c.kernels (s.local j) b f)))) []) →
      IsGiving c s seat j
  as_told fill react check is_fill is_react is_check changed = record {
    made = changed.made_is
        ∙ (ap (λ (v : Bool). cond v (places_where c.size (λ b f. mine b && (not (has_buffer c s b f) && keeps_reacted c.kernels (s.local j) b f)))
        (cond fill (places_where c.size (λ b f. mine b && (not (has_buffer c s b f) && flows b f))) [])) (sym is_react)
        ∙ ap (λ (v : Bool). cond (s.given j == 6 * c.kernels.stages) (places_where c.size (λ b f. mine b && (not (has_buffer c s b f) && keeps_reacted c.kernels (s.local j) b f)))
        (cond v (places_where c.size (λ b f. mine b && (not (has_buffer c s b f) && flows b f))) [])) (sym is_fill));
    freed = changed.freed_is
        ∙ ap (λ (v : Bool). cond v (places_where c.size (λ b f. mine b && (has_buffer c s b f && not (keeps_checked c.kernels (s.local j) b f)))) []) (sym is_check);
  }

  stage_giving : LentAreThere → s.given j < 6 * c.kernels.stages → IsGiving c s seat j
  stage_giving lent low = elim (cases_eq (s.given j % 6) 1) [
    | inl e ↦ as_told true false false
        (and_from (nat_lt (s.given j) (6 * c.kernels.stages)) (s.given j % 6 == 1) (lt-ltb (s.given j) (6 * c.kernels.stages) low) (eq-eqb (s.given j % 6) 1 e))
        (ne_eqb (s.given j) (6 * c.kernels.stages) (λ h. omega arith))
        (ne_eqb (s.given j) (6 * c.kernels.stages + 2) (λ h. omega arith))
        (adds flows (λ b f is. worked b f is (stage_work c.kernels 1 content (s.local j)) (work_in_stage c.kernels (s.given j) (s.given j / 6) 1 content (s.local j) (omega arith) (omega arith) low)
        ∙ (lent_or ((s.local j).leased b f) (flows b f) (_) ((s.local j).bufs b f) (lent b f is)
        ∙ ap (λ (v : Bool). v || flows b f) (before b f is))))
    | inr ne ↦ as_told false false false
        (and_right (nat_lt (s.given j) (6 * c.kernels.stages)) (s.given j % 6 == 1) (ne_eqb (s.given j % 6) 1 ne))
        (ne_eqb (s.given j) (6 * c.kernels.stages) (λ h. omega arith))
        (ne_eqb (s.given j) (6 * c.kernels.stages + 2) (λ h. omega arith))
        (leaves (λ b f is. worked b f is (stage_work c.kernels (s.given j % 6) content (s.local j)) (work_in_stage c.kernels (s.given j) (s.given j / 6) (s.given j % 6) content (s.local j) (omega arith) (omega arith) low)
        ∙ (stage_there lent (s.given j % 6) b f ne is ∙ before b f is)))
  ]

  no_fill : 6 * c.kernels.stages ≤ s.given j → (nat_lt (s.given j) (6 * c.kernels.stages) && (s.given j % 6 == 1)) ≡ false
  no_fill high = and_left (nat_lt (s.given j) (6 * c.kernels.stages)) (s.given j % 6 == 1) (le-ltb (s.given j) (6 * c.kernels.stages) high)

  react_giving : s.given j ≡ 6 * c.kernels.stages → IsGiving c s seat j
  react_giving at = as_told false true false (no_fill (omega arith)) (eq-eqb (s.given j) (6 * c.kernels.stages) at) (ne_eqb (s.given j) (6 * c.kernels.stages + 2) (λ h. omega arith))
      (adds (keeps_reacted c.kernels (s.local j)) (λ b f is. worked b f is (_) (work_in_tail c.kernels (s.given j) 0 content (s.local j) (omega arith))
      ∙ (cells_there c.kernels (keeps_reacted c.kernels (s.local j) b f) (_) ((s.local j).bufs b f)
      ∙ ap (λ (v : Bool). v || keeps_reacted c.kernels (s.local j) b f) (before b f is))))

  tag_giving : s.given j ≡ 6 * c.kernels.stages + 1 → IsGiving c s seat j
  tag_giving at = as_told false false false (no_fill (omega arith)) (ne_eqb (s.given j) (6 * c.kernels.stages) (λ h. omega arith)) (ne_eqb (s.given j) (6 * c.kernels.stages + 2) (λ h. omega arith))
      (leaves (λ b f is. worked b f is (_) (work_in_tail c.kernels (s.given j) 1 content (s.local j) (omega arith)) ∙ before b f is))

  check_giving : s.given j ≡ 6 * c.kernels.stages + 2 → IsGiving c s seat j
  check_giving at = as_told false false true (no_fill (omega arith)) (ne_eqb (s.given j) (6 * c.kernels.stages) (λ h. omega arith)) (eq-eqb (s.given j) (6 * c.kernels.stages + 2) at)
      (drops (keeps_checked c.kernels (s.local j)) (λ b f is. worked b f is (_) (work_in_tail c.kernels (s.given j) 2 content (s.local j) (omega arith))
      ∙ (kept_there (keeps_checked c.kernels (s.local j) b f) ((s.local j).bufs b f)
      ∙ ap (λ (v : Bool). v && keeps_checked c.kernels (s.local j) b f) (before b f is))))

  giving : LentAreThere → s.given j < 6 * c.kernels.stages + 3 → IsGiving c s seat j
  giving lent within = elim (cases_lt (s.given j) (6 * c.kernels.stages)) [
    | inl low ↦ stage_giving lent low
    | inr high ↦ (elim (cases_eq (s.given j) (6 * c.kernels.stages)) [
      | inl e ↦ react_giving e
      | inr ne ↦ (elim (cases_eq (s.given j) (6 * c.kernels.stages + 1)) [
        | inl e ↦ tag_giving e
        | inr na ↦ check_giving (omega arith)
      ])
    ])
  ]

pub gives_make : (X V G F P W : Type 0) → GivesMake X V G F P W
gives_make X V G F P W c events seat list laws h out =
    let s = state_of c events in
    let masked = journals_stay_masked X V G F P W c events laws h in
    let order = in_order X (Local V G F W) (ℕ → P) (plan c) (machine c) (map forget events) (is_plan c.kernels laws.kernels) (history_is c (opening c) events h.legal) in
    let fits = order.within list in
    let busy = one_if (is_some (s.out list)) out in
    giving c s seat list
    (λ b f is leased. ap (λ v. is_some ((s.local v).bufs b f)) (sym is) ∙ lent_there c s list b f out masked is (ap (λ v. (s.local v).leased b f) is ∙ leased))
    (omega arith)
