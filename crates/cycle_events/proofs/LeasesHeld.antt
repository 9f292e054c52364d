-- What a lease has while it is out.
use Rattle.std.proofs.Common.{◌≡◌, ℕ, ◌*◌, ◌/◌, ◌%◌, ◌==◌, Bool, true, false, cond, ◌&&◌, inl, inr, nat_lt, Option, Some, is_some, List, [], ◌∷◌, ◌++◌, map, refl, arith, ap, sym, subst, ◌∙◌}
use Rattle.std.specs.List.{list_any}
use Rattle.std.proofs.lemmas.Bool.{and_parts, cases_lt, eqb-false, eqb-true, ltb-true, or_parts}
use Rattle.cycle_rounds.specs.Events as rounds
use Rattle.cycle_rounds.specs.Events.{Each, Letter, after, content_of, is_of, reads}
use Rattle.cycle_rounds.specs.Protocol.{is_own}
use Rattle.cycle_rounds.proofs.Each.{each_found}
use Rattle.cycle_rounds.proofs.LetterLaws.{in_order, leases_stay, others_leave}
use Rattle.cycle_rounds.proofs.Lists.{found, put_same}
use Rattle.cycle_rounds.proofs.Orderly.{of_is}
use Rattle.sparse_rounds.specs.Kernels.{Kernels}
use Rattle.sparse_rounds.specs.Agreement.{Agrees, LetterAgrees}
use Rattle.sparse_rounds.specs.Sparse.{Buf, Local, has_flag, lease_of}
use Rattle.sparse_rounds.proofs.Clock.{is_plan}
use Rattle.sparse_pool.specs.declared.place.Place.{Place}
use Rattle.sparse_pool.specs.declared.place.PackKind.TheVariants.{All, Ghost, Flux}
use Rattle.cycle_events.specs.declared.event.Event.{Event}
use Rattle.cycle_events.specs.declared.event.Event.TheVariants.{Take}
use Rattle.cycle_events.specs.Cycles.{Cycle, IsCycle, StateOf, forget, machine, next, opening, plan, state_of}
use Rattle.cycle_events.specs.Places.{has_buffer, has_kind, is_lent, kind_of, lent, listed}
use Rattle.cycle_events.specs.Journals.{AreLegal, entry_of}
use Rattle.cycle_events.specs.Laws.{IsMasked}
use Rattle.cycle_events.specs.Leases.{LeasesHold, LeasesStayOut, Lends, StaysOut, TakesLend}
use Rattle.cycle_events.proofs.Agreements.{journals_stay_masked}
use Rattle.cycle_events.proofs.Counts.{same_places}
use Rattle.cycle_events.proofs.Histories.{history_is, legal_parts, state_after}
use Rattle.cycle_events.proofs.Steps.{deliver_is, deliver_keeps, deliver_leased, give_other, places_in, same_where, task_in}

-- the kind of a task has its flag
kind_flag_by : {X V G F P W : Type 0} (k : Kernels X V G F P W) (f : ℕ) (stage first : Bool) →
    has_kind k (cond stage (cond first Ghost Flux) All) f ≡ cond stage (cond first (k.has_ghosts f) (k.has_fluxes f)) true
kind_flag_by k f true true = refl
kind_flag_by k f true false = refl
kind_flag_by k f false first = refl

kind_flag : {X V G F P W : Type 0} (k : Kernels X V G F P W) (g f : ℕ) → has_kind k (kind_of k g) f ≡ has_flag k g f
kind_flag k g f = kind_flag_by k f (nat_lt g (6 * k.stages)) (nat_lt (g % 6) 2)

module _ {X V G F P W : Type 0} (c : Cycle X V G F P W) where
  -- the places that a Take lends
  lends_listed : (s : StateOf X V G F P W) (seat list : ℕ) → lent c (next c s (rounds.take seat list)) list ≡ listed c s list (kind_of c.kernels (s.given list))
  lends_listed s seat list =
      same_places c.size
      (λ b f. c.kernels.owner b == list && is_lent c (next c s (rounds.take seat list)) b f)
      (λ b f. c.kernels.owner b == list && (has_buffer c s b f && has_kind c.kernels (kind_of c.kernels (s.given list)) f))
      (λ b f low lower. same_where (c.kernels.owner b == list) (is_lent c (next c s (rounds.take seat list)) b f)
      (has_buffer c s b f && has_kind c.kernels (kind_of c.kernels (s.given list)) f)
      (λ mine. (let is = eqb-true (c.kernels.owner b) list mine in
      ap (λ (l : Local V G F W). l.leased b f) (put_same s.local list (c.kernels.owner b) (lease_of c.kernels (s.given list) (s.local list)) is)
      ∙ (ap (λ v. is_some ((s.local v).bufs b f) && has_flag c.kernels (s.given list) f) (sym is)
      ∙ ap (λ (v : Bool). has_buffer c s b f && v) (sym (kind_flag c.kernels (s.given list) f))))))

  take_lends : (s : StateOf X V G F P W) (seat list task : ℕ) (places : List Place) →
      Take seat list task places ≡ entry_of c s (rounds.take seat list) → Lends c seat list task places (next c s (rounds.take seat list))
  take_lends s seat list task places told = record {
    out = put_same s.out list list (Some seat) refl;
    next = sym (ap task_in told);
    lent = lends_listed s seat list ∙ sym (ap places_in told);
  }

  -- one event of others leaves a lease as it is
  stays_same : (list : ℕ) (s : StateOf X V G F P W) → StaysOut c list s s
  stays_same list s = record { task = refl; out = refl; lent = λ b f. refl; buffers = λ b f h. refl; letters = λ r x to h. h }

  then_stays : (list : ℕ) (s t u : StateOf X V G F P W) → StaysOut c list s t → StaysOut c list t u → StaysOut c list s u
  then_stays list s t u a d = record {
    task = d.task ∙ a.task;
    out = d.out ∙ a.out;
    lent = λ b f. d.lent b f ∙ a.lent b f;
    buffers = λ b f h. d.buffers b f (ap (λ (v : Option (Buf V G F)). is_some v) (a.buffers b f h) ∙ h) ∙ a.buffers b f h;
    letters = λ r x to h. d.letters r x to (a.letters r x to h);
  }

  event_stays : IsCycle c → (list : ℕ) (s : StateOf X V G F P W) (e : rounds.Event) → rounds.is_legal (plan c) s e ≡ true → is_own list e ≡ false → StaysOut c list s (next c s e)
  event_stays laws list s (rounds.take seat j) legal own =
      let kept = leases_stay X (Local V G F W) (ℕ → P) (plan c) (machine c) s (rounds.take seat j) list (is_plan c.kernels laws.kernels) legal own in
      let alone = (others_leave X (Local V G F W) (ℕ → P) (plan c) (machine c) s seat list j (eqb-false list j own)).0 in
      record {
        task = kept.given;
        out = kept.out;
        lent = λ b f. ap (λ (l : Local V G F W). l.leased b f) alone;
        buffers = λ b f h. ap (λ (l : Local V G F W). l.bufs b f) alone;
        letters = kept.letters;
      }
  event_stays laws list s (rounds.give seat j) legal own =
      let kept = leases_stay X (Local V G F W) (ℕ → P) (plan c) (machine c) s (rounds.give seat j) list (is_plan c.kernels laws.kernels) legal own in
      let alone = give_other c s seat j list (eqb-false list j own) in
      record {
        task = kept.given;
        out = kept.out;
        lent = λ b f. ap (λ (l : Local V G F W). l.leased b f) alone;
        buffers = λ b f h. ap (λ (l : Local V G F W). l.bufs b f) alone;
        letters = kept.letters;
      }
  event_stays laws list s (rounds.deliver seat number) legal own =
      let kept = leases_stay X (Local V G F W) (ℕ → P) (plan c) (machine c) s (rounds.deliver seat number) list (is_plan c.kernels laws.kernels) legal own in
      let l = found (λ (y : Letter X (ℕ → P)). y.number == number) s.wire legal in
      let is = deliver_is c s seat number l.0 l.1 in
      record {
        task = kept.given;
        out = kept.out;
        lent = λ b f. ap (λ (t : StateOf X V G F P W). (t.local list).leased b f) is ∙ ap (λ (v : ℕ → ℕ → Bool). v b f) (deliver_leased c s number l.0 list);
        buffers = λ b f h. ap (λ (t : StateOf X V G F P W). (t.local list).bufs b f) is ∙ deliver_keeps c s number l.0 list b f h;
        letters = kept.letters;
      }

  events_stay : IsCycle c → (list : ℕ) (s : StateOf X V G F P W) (more : List Event) → AreLegal c s more →
      list_any (λ (event : Event). is_own list (forget event)) more ≡ false → StaysOut c list s (after (plan c) (machine c) s (map forget more))
  events_stay laws list s [] h own = stays_same list s
  events_stay laws list s (e ∷ es) h own =
      let parts = or_parts (is_own list (forget e)) (list_any (λ (event : Event). is_own list (forget event)) es) own in
      then_stays list s (next c s (forget e)) (after (plan c) (machine c) (next c s (forget e)) (map forget es))
      (event_stays laws list s (forget e) h.0.may_come parts.0) (events_stay laws list (next c s (forget e)) es h.1 parts.1)

  -- a lease's places have their buffers
  pub lent_there : (s : StateOf X V G F P W) (list b f : ℕ) → is_some (s.out list) ≡ true → IsMasked c s → c.kernels.owner b ≡ list → is_lent c s b f ≡ true → has_buffer c s b f ≡ true
  lent_there s list b f out masked is lent =
      let own : is_some (s.out (c.kernels.owner b)) ≡ true = ap (λ v. is_some (s.out v)) is ∙ out in
      let a = masked.places b f in
      let g = s.given (c.kernels.owner b) in
      elim (cases_lt g (6 * c.kernels.stages)) [
        | inl low ↦ ((a.lease (g / 6) (g % 6) (omega arith) (omega arith) low own).lent lent).0
        | inr high ↦ sym (a.lease_all high own) ∙ lent
      ]

  -- what is read of a letter that is due
  reads_letter : IsCycle c → (s : StateOf X V G F P W) (r : ℕ) (x : X) → IsMasked c s → list_any (is_of (plan c) r x) s.mail ≡ true →
      LetterAgrees c.kernels c.start r x (reads (plan c) (machine c) s r x)
  reads_letter laws s r x masked h =
      let l = found (is_of (plan c) r x) s.mail h in
      let is = of_is (plan c) (is_plan c.kernels laws.kernels) r x l.0 l.2 in
      let there = each_found (λ (y : Letter X (ℕ → P)). LetterAgrees c.kernels c.start y.round y.of y.content) (is_of (plan c) r x) s.mail l.0
      (each_second s.wire s.mail masked.letters) l.1 in
      subst (λ (v : ℕ → P). LetterAgrees c.kernels c.start r x v) (sym (ap (content_of ((machine c).blank x)) l.1))
      (subst (λ v. LetterAgrees c.kernels c.start v x l.0.content) is.round
      (subst (λ v. LetterAgrees c.kernels c.start l.0.round v l.0.content) (sym is.of) there))
    where
      each_second : (xs ys : List (Letter X (ℕ → P))) → Each (λ (y : Letter X (ℕ → P)). LetterAgrees c.kernels c.start y.round y.of y.content) (xs ++ ys) →
          Each (λ (y : Letter X (ℕ → P)). LetterAgrees c.kernels c.start y.round y.of y.content) ys
      each_second [] ys e = e
      each_second (z ∷ zs) ys e = each_second zs ys e.1

pub takes_lend : (X V G F P W : Type 0) → TakesLend X V G F P W
takes_lend X V G F P W c events seat list task places h =
    let legal = (legal_parts c (opening c) events (Take seat list task places ∷ []) h.legal).1.0 in
    subst (Lends c seat list task places) (sym (state_after c (opening c) events (Take seat list task places ∷ [])))
    (take_lends c (state_of c events) seat list task places legal.told)

pub leases_hold : (X V G F P W : Type 0) → LeasesHold X V G F P W
leases_hold X V G F P W c events list laws h out =
    let s = state_of c events in
    let masked = journals_stay_masked X V G F P W c events laws h in
    let order = in_order X (Local V G F W) (ℕ → P) (plan c) (machine c) (map forget events) (is_plan c.kernels laws.kernels) (history_is c (opening c) events h.legal) in
    record {
      there = λ b f is lent. lent_there c s list b f out masked is lent;
      buffers = λ b f is.
          subst (λ (v : Bool). Agrees c.kernels c.start (s.given list) v (s.local list) b f) out
          (subst (λ v. Agrees c.kernels c.start (s.given v) (is_some (s.out v)) (s.local v) b f) is (masked.places b f));
      letters = λ x reading due to.
          (let parts = and_parts (nat_lt (s.given list) (3 * (2 * c.kernels.stages))) (s.given list % 3 == 1) reading in
          let low = ltb-true (s.given list) (3 * (2 * c.kernels.stages)) parts.0 in
          let at = eqb-true (s.given list % 3) 1 parts.1 in
          let now : s.given ((plan c).to x) ≡ s.given list = ap s.given to in
          reads_letter c laws s (s.given list / 3) x masked
          (order.come_first (s.given list / 3) x (omega arith) due (omega arith) (ap (λ v. is_some (s.out v)) to ∙ out)));
    }

pub leases_stay_out : (X V G F P W : Type 0) → LeasesStayOut X V G F P W
leases_stay_out X V G F P W c events more list laws h own =
    let legal = (legal_parts c (opening c) events more h.legal).1 in
    subst (λ (v : StateOf X V G F P W). StaysOut c list (state_of c events) v) (sym (state_after c (opening c) events more)) (events_stay c laws list (state_of c events) more legal own)
