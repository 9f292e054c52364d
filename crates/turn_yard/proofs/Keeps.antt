-- Each kind of atomic step keeps the rule of a yard's table.
use Rattle.std.proofs.Common.{◌≡◌, ◌≢◌, ℕ, suc, ◌+◌, ◌<◌, ◌≤◌, ◌⊎◌, eqb, true, false, List, [], ◌∷◌, ◌++◌, length, get_or, set, sym, refl, ap, ◌∙◌, subst, inl, inr, ⊎_elim, arith, length-append, length-set, get_or-set_same, get_or-set_other, Option, Some}
use Rattle.std.proofs.lemmas.List.{append-nil, set-get_or}
use Rattle.std.proofs.lemmas.List.Elements.{All-cons, All-append, All-weaker}
use Rattle.std.specs.List.{All}
use mathlib.Core.Logic.{dite}
use mathlib.Core.Option as maybe
use mathlib.Core.Option.{none, some}
use native.Mathlib.Decide.{ℕ_discrete}
use lib.ListN.{get_elem?}
use prog.Atomic.{either}
use Rattle.atomic_table.specs.Table.{State, Me, step, keeps, takes, gives, stepped, Allows, Splits, Joins}
use Rattle.atomic_table.proofs.Lists.{at_set, set_here, set_else, set_again, at_longer, exchanged}
use Rattle.turn_yard.specs.History.{Entry, bears, entries_of, added_to, AddsAtMostOne, NoneFalls}
use Rattle.turn_yard.specs.Tells.{Tells}
use Rattle.turn_yard.specs.Inside.{IsNumbered}
use Rattle.turn_yard.specs.Rule.{marks_in, Knows, IsSpent, IsKeeper, OnlyHolds, IsFree, IsHeld, IsBorne, IsOrderly}
use Rattle.turn_yard.specs.Steps.{holding, noting, given, Took, took, raised, gave, looked, with_seat, new_seat, with_returned, spent}
use Rattle.turn_yard.specs.declared.view.Known.{Known}
use Rattle.turn_yard.specs.declared.view.View.{View}
use Rattle.turn_yard.proofs.Histories.{true≢false, at_below, at_end, one_at, entries_of-unmade, Added, added, Added-own, Added-others, Added-starts, none_falls_same, none_falls_on, none_falls_set, none_falls_noting, drop-set_first, drop-set_later, mark_at}

-- what is known stays so where marks rise
knows_risen : (origin : List ℕ) (history : List Entry) (marks marks' : List ℕ) (k : Known) → NoneFalls marks marks' → Knows origin history marks k → Knows origin history marks' k
knows_risen origin history marks marks' k rise w = record { origin_is = w.origin_is; seen = w.seen; own = w.own; noted = none_falls_on k.noted marks marks' w.noted rise }

borne_longer : (views views' : List View) (history : List Entry) → length views ≤ length views' → All (IsBorne views) history → All (IsBorne views') history
borne_longer views views' history more all = All-weaker (IsBorne views) (IsBorne views') (λ e b. let l = b.1 in (b.0, omega arith, b.2)) history all

module _ {T : Type 0} (t : Tells T) where
  abbrev St : Type 0
  St = State (Option T) View

  abbrev Homes : Type 0
  Homes = List (maybe.Option (Option T))

  abbrev Sat : Type 0
  Sat = Me (Option T) View

  abbrev Rule : St → Type 0
  Rule = IsOrderly t

  in_use_place : (s : St) (r : Rule s) (id : ℕ) (v : View) → get_elem? s.views id ≡ some v → v.in_use ≡ true → id ≢ 0
  in_use_place s r id v at used z = let p = r.place id v at used in omega arith

  -- the seat id has changed to w, and the words, the homes and the history with it, so that what other seats know is still so
  moved : (s : St) (r : Rule s) (id : ℕ) (v w : View) (words' : List ℕ) (homes' : Homes) (history' : List Entry) → get_elem? s.views id ≡ some v → v.in_use ≡ true → w.in_use ≡ true
      → w.known.number ≡ v.known.number → 0 < length words' → NoneFalls (marks_in s.words) (marks_in words')
      → ((k : Known) → suc k.number ≢ id → Knows r.origin r.history (marks_in s.words) k → Knows r.origin history' (marks_in words') k)
      → Knows r.origin history' (marks_in words') w.known → All (IsBorne s.views) history'
      → IsFree t r.origin history' record { words = words'; homes = homes'; views = set s.views id w } ⊎ IsHeld history' record { words = words'; homes = homes'; views = set s.views id w }
      → Rule record { words = words'; homes = homes'; views = set s.views id w }
  moved s r id v w words' homes' history' at used used' same some_word rise others mine borne turn =
      let away : 0 ≢ id = λ e. in_use_place s r id v at used (sym e) in
      let wide : length (set s.views id w) ≡ length s.views = length-set s.views id w in record {
        origin = r.origin;
        history = history';
        some_word = some_word;
        own_view = r.own_view;
        own_at = set_else s.views id 0 w away ∙ r.own_at;
        own = let o = r.own in record {
          not_used = o.not_used;
          origin_is = o.origin_is;
          noted = none_falls_on r.own_view.known.noted (marks_in s.words) (marks_in words') o.noted rise;
          made = o.made ∙ sym wide;
          known = λ i d l. others (get_or r.own_view.returned i d) (apart i d l) (o.known i d l);
          gone = λ i d l. let g = o.gone i d l in (g.0, set_else s.views id (suc (get_or r.own_view.returned i d).number) w (apart i d l) ∙ g.1, g.2);
        };
        place = λ j u a b. ⊎_elim (λ (e : (j ≡ id) × (w ≡ u)). let p = r.place id v at used in let n = ap (λ (x : View). x.known.number) e.1 in let i = e.0 in omega arith)
            (λ (e : (j ≢ id) × (get_elem? s.views j ≡ some u)). r.place j u e.1 b) (at_set s.views id j w u a);
        known = λ j u a b. ⊎_elim (λ (e : (j ≡ id) × (w ≡ u)). subst (λ (x : View). Knows r.origin history' (marks_in words') x.known) e.1 mine)
            (λ (e : (j ≢ id) × (get_elem? s.views j ≡ some u)). others u.known (λ z. e.0 (sym (r.place j u e.1 b) ∙ z)) (r.known j u e.1 b)) (at_set s.views id j w u a);
        borne = borne_longer s.views (set s.views id w) history' (omega arith) borne;
        turn = turn;
      } where
        apart : (i : ℕ) (d : Known) → i < length r.own_view.returned → suc (get_or r.own_view.returned i d).number ≢ id
        apart i d l z = let g = r.own.gone i d l in true≢false (sym used ∙ (ap (λ (x : View). x.in_use) (one_at s.views id v g.0 at (ap (get_elem? s.views) (sym z) ∙ g.1)) ∙ g.2))

  -- nothing has changed
  still : (s : St) (r : Rule s) (i id : ℕ) (v : View) → get_elem? s.views id ≡ some v → Rule record { words = set s.words i (get_or s.words i 0); homes = s.homes; views = set s.views id v }
  still s r i id v at = subst (λ (x : List ℕ × List View). Rule record { words = x.0; homes = s.homes; views = x.1 }) (λ k. (sym (set-get_or s.words i 0) k, sym (set_again s.views id v at) k)) r

  -- a seat that is said to hold the turn is the one that does
  the_holder : (s : St) (r : Rule s) (id : ℕ) (v : View) → get_elem? s.views id ≡ some v → v.in_use ≡ true → v.holds ≡ true → (h : IsHeld r.history s) × (h.id ≡ id) × (h.view ≡ v)
  the_holder s r id v at used held = ⊎_elim
      (λ f. absurd (true≢false (sym held ∙ f.holder id v at used (in_use_place s r id v at used))))
      (λ h. dite (ℕ_discrete id h.id) (λ e. (h, sym e, one_at s.views h.id h.view v h.here (ap (get_elem? s.views) (sym e) ∙ at))) (λ ne. absurd (true≢false (sym held ∙ h.holder id v at used ne)))) r.turn

  -- what stays of `OnlyHolds` where a seat changes
  only_holds : (views : List View) (id other : ℕ) (w : View) → OnlyHolds views other → (w.in_use ≡ true → id ≢ other → w.holds ≡ false) → OnlyHolds (set views id w) other
  only_holds views id other w only mine j u a b ne = ⊎_elim
      (λ (e : (j ≡ id) × (w ≡ u)). ap (λ (x : View). x.holds) (sym e.1) ∙ mine (ap (λ (x : View). x.in_use) e.1 ∙ b) (λ z. ne (e.0 ∙ z)))
      (λ (e : (j ≢ id) × (get_elem? views j ≡ some u)). only j u e.1 b ne) (at_set views id j w u a)

  -- the same for the seat that takes the turn: it alone holds it
  then_holds : (views : List View) (id : ℕ) (w : View) → OnlyHolds views 0 → ((j : ℕ) (u : View) → get_elem? views j ≡ some u → u.in_use ≡ true → j ≢ 0) → OnlyHolds (set views id w) id
  then_holds views id w only place j u a b ne = ⊎_elim (λ (e : (j ≡ id) × (w ≡ u)). absurd (ne e.0))
      (λ (e : (j ≢ id) × (get_elem? views j ≡ some u)). only j u e.1 b (place j u e.1 b)) (at_set views id j w u a)

  -- and where it gives the turn back: nobody holds it
  then_free : (views : List View) (id : ℕ) (w : View) → OnlyHolds views id → w.holds ≡ false → OnlyHolds (set views id w) 0
  then_free views id w only free j u a b _ = ⊎_elim (λ (e : (j ≡ id) × (w ≡ u)). ap (λ (x : View). x.holds) (sym e.1) ∙ free)
      (λ (e : (j ≢ id) × (get_elem? views j ≡ some u)). only j u e.1 b e.0) (at_set views id j w u a)

  -- ---- take the turn
  module _ (slots id number : ℕ) (v : View) (used : v.in_use ≡ true) (free : v.holds ≡ false) (numbered : v.known.number ≡ number) where
    takes_free : (s : St) (r : Rule s) → get_elem? s.views id ≡ some v → (f : IsFree t r.origin r.history s)
        → Rule record { words = set s.words 0 (number + 1); homes = set s.homes 0 none; views = set s.views id (holding v (t.entries f.value) (t.marks f.value)) }
    takes_free s r at f =
        let w : View = holding v (t.entries f.value) (t.marks f.value) in
        let k = r.known id v at used in
        let p = r.place id v at used in
        let turn : number + 1 ≡ id = omega arith in
        let some_word = r.some_word in
        let same : marks_in (set s.words 0 (number + 1)) ≡ marks_in s.words = drop-set_first s.words (number + 1) in
        moved s r id v w (set s.words 0 (number + 1)) (set s.homes 0 none) r.history at used used refl (let l = length-set s.words 0 (number + 1) in omega arith) (none_falls_same _ _ (sym same))
        (λ j ne. knows_risen r.origin r.history (marks_in s.words) (marks_in (set s.words 0 (number + 1))) j (none_falls_same _ _ (sym same)))
        (record { origin_is = k.origin_is; seen = ([], sym (append-nil (t.entries f.value) ∙ f.entries)); own = k.own; noted = none_falls_same _ _ (f.marks ∙ sym same) }) r.borne
        (inr (record {
          id = id;
          view = w;
          turn = get_or-set_same s.words 0 (number + 1) 0 some_word ∙ turn;
          home = ap (λ (h : Homes). set h 0 none) f.home;
          here = set_here s.views id w (at_below s.views id v at);
          in_use = used;
          holds = refl;
          seen = f.entries;
          noted = f.marks ∙ sym same;
          holder = then_holds s.views id w f.holder (in_use_place s r);
        }))

    took_free : (s : St) (r : Rule s) → get_elem? s.views id ≡ some v → (f : IsFree t r.origin r.history s)
        → Took t (v, []) (holding v (t.entries f.value) (t.marks f.value), (0, Some f.value) ∷ [])
    took_free s r at f = let k = r.known id v at used in record {
      value = f.value;
      after = refl;
      origin = f.origin_is ∙ sym k.origin_is;
      seen = (k.seen.0, f.entries ∙ k.seen.1);
      own = ap (entries_of v.known.number) f.entries ∙ k.own;
      noted = none_falls_on v.known.noted (marks_in s.words) (t.marks f.value) k.noted (none_falls_same _ _ (sym f.marks));
    }

    pub takes_turn : Allows Rule slots id (v, []) 0 (λ n. either (eqb n 0) (number + 1) n) (took t (step slots 0 0 (number + 1) none) (v, []))
    takes_turn s r deep at small = exchanged (get_or s.words 0 0) 0 (number + 1)
        (λ n. (w : View) × (a : Rattle.atomic_table.specs.Table.Act (Option T)) × Rattle.atomic_table.specs.Table.Valid s.homes [] a × Rule (stepped s 0 n id [] w a) × took t (step slots 0 0 (number + 1) none) (v, []) (get_or s.words 0 0) (w, Rattle.atomic_table.specs.Table.carried_after [] a))
        (λ e. ⊎_elim
        (λ f. (holding v (t.entries f.value) (t.marks f.value), takes 0 (Some f.value), ap (λ (h : Homes). get_elem? h 0) f.home, takes_free s r at f, ((λ _. took_free s r at f), (λ ne. absurd (ne e)))))
        (λ h. let p = r.place h.id h.view h.here h.in_use in let w = h.turn in absurd (omega arith)) r.turn)
        (λ ne. (v, keeps, tt, still s r 0 id v at, ((λ e. absurd (ne e)), (λ _. refl))))

  -- ---- raise a mark
  module _ (slots id p mark : ℕ) (v : View) (c : List (ℕ × Option T)) (used : v.in_use ≡ true) (held : v.holds ≡ true) (inside : p < length v.known.noted) (up : get_or v.known.noted p 0 ≤ mark) where
    raises_held : (s : St) (r : Rule s) → get_elem? s.views id ≡ some v → Rule record { words = set s.words (p + 1) mark; homes = s.homes; views = set s.views id (noting v p mark) }
    raises_held s r at =
        let w : View = noting v p mark in
        let (h, here, is) = the_holder s r id v at used held in
        let k = r.known id v at used in
        let now : v.known.noted ≡ marks_in s.words = ap (λ (x : View). x.known.noted) (sym is) ∙ h.noted in
        let after : set v.known.noted p mark ≡ marks_in (set s.words (p + 1) mark) = ap (λ (l : List ℕ). set l p mark) now ∙ sym (drop-set_later s.words p mark) in
        let rise : NoneFalls (marks_in s.words) (marks_in (set s.words (p + 1) mark)) = none_falls_on _ v.known.noted _ (none_falls_same _ _ (sym now)) (none_falls_on _ (set v.known.noted p mark) _ (none_falls_set v.known.noted p mark inside up) (none_falls_same _ _ after)) in
        let some_word = r.some_word in
        moved s r id v w (set s.words (p + 1) mark) s.homes r.history at used used refl (let l = length-set s.words (p + 1) mark in omega arith) rise
        (λ j ne. knows_risen r.origin r.history (marks_in s.words) (marks_in (set s.words (p + 1) mark)) j rise)
        (record { origin_is = k.origin_is; seen = k.seen; own = k.own; noted = none_falls_same _ _ after }) r.borne
        (inr (record {
          id = h.id;
          view = w;
          turn = get_or-set_other s.words (p + 1) 0 mark 0 (λ e. omega arith) ∙ h.turn;
          home = h.home;
          here = ap (get_elem? (set s.views id w)) here ∙ set_here s.views id w (at_below s.views id v at);
          in_use = used;
          holds = held;
          seen = ap (λ (x : View). x.known.seen) (sym is) ∙ h.seen;
          noted = after;
          holder = only_holds s.views id h.id w h.holder (λ _ ne. absurd (ne (sym here)));
        }))

    pub raises : Allows Rule slots id (v, c) (p + 1) (λ _. mark) (λ _. raised (step slots (p + 1) mark 0 none) (v, c) mark)
    raises s r deep at small = (noting v p mark, keeps, tt, raises_held s r at, (λ q e. let same : p ≡ q = omega arith in ap (λ k. (noting v k mark, c)) same))

  -- ---- give the turn back
  module _ (slots id : ℕ) (v : View) (value : T) (used : v.in_use ≡ true) (held : v.holds ≡ true) (origin_is : t.origin value ≡ v.known.origin) (adds : AddsAtMostOne v.known.number v.known.seen (t.entries value))
      (noted : t.marks value ≡ v.known.noted) where
    gives_held : (s : St) (r : Rule s) → get_elem? s.views id ≡ some v → Rule record { words = set s.words 0 0; homes = set s.homes 0 (some (Some value)); views = set s.views id (given v (t.entries value)) }
    gives_held s r at =
        let w : View = given v (t.entries value) in
        let history' : List Entry = t.entries value in
        let (h, here, is) = the_holder s r id v at used held in
        let k = r.known id v at used in
        let place = r.place id v at used in
        let whole : v.known.seen ≡ r.history = ap (λ (x : View). x.known.seen) (sym is) ∙ h.seen in
        let a : Added v.known.number r.history history' = subst (λ (l : List Entry). Added v.known.number l history') whole (added v.known.number v.known.seen history' adds) in
        let same : marks_in (set s.words 0 0) ≡ marks_in s.words = drop-set_first s.words 0 in
        let some_word = r.some_word in
        let inside = at_below s.views id v at in
        moved s r id v w (set s.words 0 0) (set s.homes 0 (some (Some value))) history' at used used refl (let l = length-set s.words 0 0 in omega arith) (none_falls_same _ _ (sym same))
        (λ j ne kn. record {
          origin_is = kn.origin_is;
          seen = Added-starts v.known.number r.history history' a j.seen kn.seen;
          own = Added-others v.known.number r.history history' a j.number (λ e. ne (omega arith)) ∙ kn.own;
          noted = none_falls_on j.noted (marks_in s.words) _ kn.noted (none_falls_same _ _ (sym same));
        })
        (record {
          origin_is = k.origin_is;
          seen = ([], sym (append-nil history'));
          own = Added-own v.known.number r.history history' a ∙ (λ i. k.own i ++ added_to (sym whole i) history');
          noted = none_falls_on v.known.noted (marks_in s.words) _ k.noted (none_falls_same _ _ (sym same));
        })
        (subst (All (IsBorne s.views)) (sym a.is) (All-append (IsBorne s.views) r.history a.more r.borne (All-weaker (λ e. bears v.known.number e ≡ true) (IsBorne s.views) (λ e b. (v.known.number, omega arith, b)) a.more a.bear)))
        (inl (record {
          value = value;
          turn = get_or-set_same s.words 0 0 0 some_word;
          home = ap (λ (l : Homes). set l 0 (some (Some value))) h.home;
          entries = refl;
          origin_is = origin_is ∙ k.origin_is;
          marks = noted ∙ (ap (λ (x : View). x.known.noted) (sym is) ∙ (h.noted ∙ sym same));
          holder = then_free s.views id w (subst (OnlyHolds s.views) here h.holder) refl;
        }))

    slot_value : List (ℕ × Option T) → T
    slot_value ((k, Some x) ∷ xs) = x
    slot_value _ = value

    pub gives_turn : Allows Rule slots id (v, (0, Some value) ∷ []) 0 (λ _. 0) (λ _. gave t (step slots 0 0 0 none) (v, (0, Some value) ∷ []) 0)
    unfolding slot_value
    gives_turn s r deep at small = (given v (t.entries value), gives, tt, gives_held s r at, (λ x e. ap (λ (c : List (ℕ × Option T)). (given v (t.entries (slot_value c)), [])) e))

  -- ---- read a mark
  module _ (slots id p : ℕ) (v : View) (c : List (ℕ × Option T)) (used : v.in_use ≡ true) (inside : p < length v.known.noted) where
    looks_at : (s : St) (r : Rule s) → get_elem? s.views id ≡ some v → Rule record { words = set s.words (p + 1) (get_or s.words (p + 1) 0); homes = s.homes; views = set s.views id (noting v p (get_or s.words (p + 1) 0)) }
    looks_at s r at =
        let mark : ℕ = get_or s.words (p + 1) 0 in
        let w : View = noting v p mark in
        let k = r.known id v at used in
        subst (λ (ws : List ℕ). Rule record { words = ws; homes = s.homes; views = set s.views id w }) (sym (set-get_or s.words (p + 1) 0))
        (moved s r id v w s.words s.homes r.history at used used refl r.some_word (none_falls_same _ _ refl) (λ j ne kn. kn)
        (record { origin_is = k.origin_is; seen = k.seen; own = k.own; noted = none_falls_noting v.known.noted (marks_in s.words) p mark k.noted inside (mark_at s.words p) }) r.borne
        (⊎_elim
        (λ f. inl (record {
          value = f.value;
          turn = f.turn;
          home = f.home;
          entries = f.entries;
          origin_is = f.origin_is;
          marks = f.marks;
          holder = only_holds s.views id 0 w f.holder (λ _ ne. f.holder id v at used ne);
        }))
        (λ h. inr (dite (ℕ_discrete h.id id)
        (λ e. let is : h.view ≡ v = one_at s.views h.id h.view v h.here (ap (get_elem? s.views) e ∙ at) in
        let now : v.known.noted ≡ marks_in s.words = ap (λ (x : View). x.known.noted) (sym is) ∙ h.noted in record {
          id = h.id;
          view = w;
          turn = h.turn;
          home = h.home;
          here = ap (get_elem? (set s.views id w)) e ∙ set_here s.views id w (at_below s.views id v at);
          in_use = used;
          holds = ap (λ (x : View). x.holds) (sym is) ∙ h.holds;
          seen = ap (λ (x : View). x.known.seen) (sym is) ∙ h.seen;
          noted = (λ i. set (now i) p (mark_at s.words p i)) ∙ set-get_or (marks_in s.words) p 0;
          holder = only_holds s.views id h.id w h.holder (λ _ ne. absurd (ne (sym e)));
        })
        (λ ne. record {
          id = h.id;
          view = h.view;
          turn = h.turn;
          home = h.home;
          here = set_else s.views id h.id w ne ∙ h.here;
          in_use = h.in_use;
          holds = h.holds;
          seen = h.seen;
          noted = h.noted;
          holder = only_holds s.views id h.id w h.holder (λ _ other. h.holder id v at used other);
        }))) r.turn))

    pub looks : Allows Rule slots id (v, c) (p + 1) (λ n. n) (looked (step slots (p + 1) 0 0 none) (v, c))
    looks s r deep at small = let mark : ℕ = get_or s.words (p + 1) 0 in (
      noting v p mark,
      keeps,
      tt,
      looks_at s r at,
      (λ q e. let same : p ≡ q = omega arith in
          let k = r.known id v at used in
          let m = mark_at s.words p in
          let low : get_or v.known.noted p 0 ≤ mark = (let c = k.noted.count in let l = k.noted.each p (omega arith) in omega arith) in
          subst (λ (n : ℕ). (let x : Sat = (noting v p mark, c) in let y : Sat = (noting v n mark, c) in x ≡ y) × (get_or v.known.noted n 0 ≤ mark)) same (refl, low)),
    )

  -- ---- a seat is made
  module _ (v : View) (not_used : v.in_use ≡ false) where
    splits_at : (s : St) (r : Rule s) → get_elem? s.views 0 ≡ some v → Rule record { words = s.words; homes = s.homes; views = set s.views 0 (with_seat v) ++ new_seat v ∷ [] }
    splits_at s r at =
        let some_view = at_below s.views 0 v at in record {
          origin = r.origin;
          history = r.history;
          some_word = r.some_word;
          own_view = with_seat v;
          own_at = first;
          own = record {
            not_used = not_used;
            origin_is = o.origin_is;
            noted = o.noted;
            made = let m = o.made in omega (arith, longer);
            known = o.known;
            gone = λ i d l. let g = o.gone i d l in (g.0, at_longer (set s.views 0 (with_seat v)) (new_seat v ∷ []) (suc (get_or v.returned i d).number) g.0 (set_else s.views 0 (suc (get_or v.returned i d).number) (with_seat v) (λ z. omega arith) ∙ g.1), g.2);
          };
          place = λ j u a b. ⊎_elim (λ e. r.place j u (before j u e b).1 b) (λ (e : (j ≡ length (set s.views 0 (with_seat v))) × (new_seat v ≡ u)).
              let n = ap (λ (x : View). x.known.number) e.1 in let m = o.made in let l = length-set s.views 0 (with_seat v) in let i = e.0 in omega arith) (at_end (set s.views 0 (with_seat v)) (new_seat v) u j a);
          known = λ j u a b. ⊎_elim (λ e. r.known j u (before j u e b).1 b) (λ (e : (j ≡ length (set s.views 0 (with_seat v))) × (new_seat v ≡ u)).
              subst (λ (x : View). Knows r.origin r.history (marks_in s.words) x.known) e.1 newcomer) (at_end (set s.views 0 (with_seat v)) (new_seat v) u j a);
          borne = borne_longer s.views views' r.history (omega (arith, longer)) r.borne;
          turn = ⊎_elim
              (λ f. inl (record {
                value = f.value;
                turn = f.turn;
                home = f.home;
                entries = f.entries;
                origin_is = f.origin_is;
                marks = f.marks;
                holder = only 0 f.holder;
              }))
              (λ h. inr (record {
                id = h.id;
                view = h.view;
                turn = h.turn;
                home = h.home;
                here = at_longer (set s.views 0 (with_seat v)) (new_seat v ∷ []) h.id h.view (set_else s.views 0 h.id (with_seat v) (in_use_place s r h.id h.view h.here h.in_use) ∙ h.here);
                in_use = h.in_use;
                holds = h.holds;
                seen = h.seen;
                noted = h.noted;
                holder = only h.id h.holder;
              })) r.turn;
        } where
          views' : List View
          views' = set s.views 0 (with_seat v) ++ new_seat v ∷ []

          same : r.own_view ≡ v
          same = one_at s.views 0 r.own_view v r.own_at at

          o : IsKeeper r.origin r.history (marks_in s.words) s.views v
          o = subst (IsKeeper r.origin r.history (marks_in s.words) s.views) same r.own

          first : get_elem? (set s.views 0 (with_seat v) ++ new_seat v ∷ []) 0 ≡ some (with_seat v)
          first = at_longer (set s.views 0 (with_seat v)) (new_seat v ∷ []) 0 (with_seat v) (set_here s.views 0 (with_seat v) (at_below s.views 0 v at))

          longer : length (set s.views 0 (with_seat v) ++ new_seat v ∷ []) ≡ length s.views + 1
          longer = length-append (set s.views 0 (with_seat v)) (new_seat v ∷ []) ∙ ap (λ n. n + 1) (length-set s.views 0 (with_seat v))

          before : (j : ℕ) (u : View) → get_elem? (set s.views 0 (with_seat v)) j ≡ some u → u.in_use ≡ true → (j ≢ 0) × (get_elem? s.views j ≡ some u)
          before j u e b = ⊎_elim (λ (z : (j ≡ 0) × (with_seat v ≡ u)). absurd (true≢false (sym b ∙ (ap (λ (x : View). x.in_use) (sym z.1) ∙ not_used)))) (λ z. z) (at_set s.views 0 j (with_seat v) u e)

          newcomer : Knows r.origin r.history (marks_in s.words) (new_seat v).known
          newcomer = record {
            origin_is = o.origin_is;
            seen = (r.history, refl);
            own = let m = o.made in entries_of-unmade v.made v.made r.history (omega arith) (All-weaker (IsBorne s.views) (λ e. (n : ℕ) × (n < v.made) × (bears n e ≡ true)) (λ e b. let l = b.1 in (b.0, omega arith, b.2)) r.history r.borne);
            noted = o.noted;
          }

          only : (other : ℕ) → OnlyHolds s.views other → OnlyHolds (set s.views 0 (with_seat v) ++ new_seat v ∷ []) other
          only other h j u a b ne = ⊎_elim (λ e. h j u (before j u e b).1 b ne) (λ (e : (j ≡ length (set s.views 0 (with_seat v))) × (new_seat v ≡ u)). ap (λ (x : View). x.holds) (sym e.1)) (at_end (set s.views 0 (with_seat v)) (new_seat v) u j a)

    pub makes_seat : Splits Rule 0 v (with_seat v) (new_seat v)
    makes_seat s r at = splits_at s r at

  -- ---- a seat returns
  module _ (other : ℕ) (v w : View) (not_used : v.in_use ≡ false) (used : w.in_use ≡ true) (free : w.holds ≡ false) where
    returns_at : (s : St) (r : Rule s) → get_elem? s.views 0 ≡ some v → ¬ (other ≡ 0) → get_elem? (set s.views 0 (with_returned v w)) other ≡ some w
        → Rule record { words = s.words; homes = s.homes; views = set (set s.views 0 (with_returned v w)) other spent }
    returns_at s r at apart there = record {
      origin = r.origin;
      history = r.history;
      some_word = r.some_word;
      own_view = with_returned v w;
      own_at = first;
      own = record {
        not_used = not_used;
        origin_is = o.origin_is;
        noted = o.noted;
        made = o.made ∙ sym wide;
        known = All-cons (Knows r.origin r.history (marks_in s.words)) w.known v.returned (r.known other w here used) o.known;
        gone = All-cons (λ k. IsSpent views' (suc k.number)) w.known v.returned gone_now (All-weaker (λ k. IsSpent s.views (suc k.number)) (λ k. IsSpent views' (suc k.number)) (λ k g. gone_still (suc k.number) (λ z. omega arith) g) v.returned o.gone);
      };
      place = λ j u a b. r.place j u (before j u a b).2 b;
      known = λ j u a b. r.known j u (before j u a b).2 b;
      borne = borne_longer s.views views' r.history (omega (arith, wide)) r.borne;
      turn = ⊎_elim
          (λ f. inl (record {
            value = f.value;
            turn = f.turn;
            home = f.home;
            entries = f.entries;
            origin_is = f.origin_is;
            marks = f.marks;
            holder = λ j u a b ne. f.holder j u (before j u a b).2 b ne;
          }))
          (λ h. let away : h.id ≢ other = λ z. true≢false (sym h.holds ∙ (ap (λ (x : View). x.holds) (one_at s.views h.id h.view w h.here (ap (get_elem? s.views) z ∙ here)) ∙ free)) in inr (record {
            id = h.id;
            view = h.view;
            turn = h.turn;
            home = h.home;
            here = set_else (set s.views 0 (with_returned v w)) other h.id spent away ∙ (set_else s.views 0 h.id (with_returned v w) (in_use_place s r h.id h.view h.here h.in_use) ∙ h.here);
            in_use = h.in_use;
            holds = h.holds;
            seen = h.seen;
            noted = h.noted;
            holder = λ j u a b ne. h.holder j u (before j u a b).2 b ne;
          })) r.turn;
    } where
      views' : List View
      views' = set (set s.views 0 (with_returned v w)) other spent

      same : r.own_view ≡ v
      same = one_at s.views 0 r.own_view v r.own_at at

      o : IsKeeper r.origin r.history (marks_in s.words) s.views v
      o = subst (IsKeeper r.origin r.history (marks_in s.words) s.views) same r.own

      here : get_elem? s.views other ≡ some w
      here = sym (set_else s.views 0 other (with_returned v w) apart) ∙ there

      wide : length (set (set s.views 0 (with_returned v w)) other spent) ≡ length s.views
      wide = length-set (set s.views 0 (with_returned v w)) other spent ∙ length-set s.views 0 (with_returned v w)

      first : get_elem? (set (set s.views 0 (with_returned v w)) other spent) 0 ≡ some (with_returned v w)
      first = set_else (set s.views 0 (with_returned v w)) other 0 spent (λ z. apart (sym z)) ∙ set_here s.views 0 (with_returned v w) (at_below s.views 0 v at)

      gone_now : IsSpent (set (set s.views 0 (with_returned v w)) other spent) (suc w.known.number)
      gone_now = let l : other < length (set s.views 0 (with_returned v w)) = at_below (set s.views 0 (with_returned v w)) other w there in
          (spent, ap (get_elem? (set (set s.views 0 (with_returned v w)) other spent)) (r.place other w here used) ∙ set_here (set s.views 0 (with_returned v w)) other spent l, refl)

      gone_still : (id : ℕ) → id ≢ 0 → IsSpent s.views id → IsSpent (set (set s.views 0 (with_returned v w)) other spent) id
      gone_still id ne g = let away : id ≢ other = λ z. true≢false (sym used ∙ (ap (λ (x : View). x.in_use) (one_at s.views id w g.0 (ap (get_elem? s.views) z ∙ here) g.1) ∙ g.2)) in
          (g.0, set_else (set s.views 0 (with_returned v w)) other id spent away ∙ (set_else s.views 0 id (with_returned v w) ne ∙ g.1), g.2)

      before : (j : ℕ) (u : View) → get_elem? (set (set s.views 0 (with_returned v w)) other spent) j ≡ some u → u.in_use ≡ true → (j ≢ other) × (j ≢ 0) × (get_elem? s.views j ≡ some u)
      before j u a b = ⊎_elim (λ (z : (j ≡ other) × (spent ≡ u)). absurd (true≢false (sym b ∙ ap (λ (x : View). x.in_use) (sym z.1))))
          (λ (z : (j ≢ other) × (get_elem? (set s.views 0 (with_returned v w)) j ≡ some u)). ⊎_elim (λ (y : (j ≡ 0) × (with_returned v w ≡ u)). absurd (true≢false (sym b ∙ (ap (λ (x : View). x.in_use) (sym y.1) ∙ not_used))))
          (λ (y : (j ≢ 0) × (get_elem? s.views j ≡ some u)). (z.0, y.0, y.1)) (at_set s.views 0 j (with_returned v w) u z.1)) (at_set (set s.views 0 (with_returned v w)) other j spent u a)

    pub returns_seat : Joins Rule 0 v other w (with_returned v w) spent
    returns_seat s r at apart there = returns_at s r at apart there

  -- ---- the steps of a seat of which more is known than its two parts
  pub numbered_takes : (slots id number mine : ℕ) (m : Sat) → mine ≡ number + 1 → IsNumbered m number false [] → Allows Rule slots id m 0 (λ n. either (eqb n 0) mine n) (took t (step slots 0 0 mine none) m)
  numbered_takes slots id number mine m e q = let P : ℕ × List (ℕ × Option T) → Type 0 = λ x. Allows Rule slots id (m.0, x.1) 0 (λ n. either (eqb n 0) x.0 n) (took t (step slots 0 0 x.0 none) (m.0, x.1)) in
      subst P (λ i. (sym e i, sym q.slots_are i)) (takes_turn slots id number m.0 q.in_use q.holds_is q.number_is)

  pub filled_gives : (slots id : ℕ) (m : Sat) (v : View) (value : T) → m ≡ (v, (0, Some value) ∷ []) → v.in_use ≡ true → v.holds ≡ true → t.origin value ≡ v.known.origin → AddsAtMostOne v.known.number v.known.seen (t.entries value)
      → t.marks value ≡ v.known.noted → Allows Rule slots id m 0 (λ _. 0) (λ _. gave t (step slots 0 0 0 none) m 0)
  filled_gives slots id m v value e used held origin adds noted = let P : Sat → Type 0 = λ x. Allows Rule slots id x 0 (λ _. 0) (λ _. gave t (step slots 0 0 0 none) x 0) in
      subst P (sym e) (gives_turn slots id v value used held origin adds noted)

  pub first_joins : (id other : ℕ) (v w : View) → id ≡ 0 → v.in_use ≡ false → w.in_use ≡ true → w.holds ≡ false → Joins Rule id v other w (with_returned v w) spent
  first_joins id other v w e not_used used free = let P : ℕ → Type 0 = λ k. Joins Rule k v other w (with_returned v w) spent in subst P (sym e) (returns_seat other v w not_used used free)

  pub first_splits : (id : ℕ) (v : View) → id ≡ 0 → v.in_use ≡ false → Splits Rule id v (with_seat v) (new_seat v)
  first_splits id v e not_used = let P : ℕ → Type 0 = λ k. Splits Rule k v (with_seat v) (new_seat v) in subst P (sym e) (makes_seat v not_used)
