-- The rule holds of a yard that is made, and tells of the value of one that is closed.
use Rattle.std.proofs.Common.{◌≡◌, ◌≢◌, ℕ, suc, zero, ◌<◌, ◌⊎◌, true, false, List, [], ◌∷◌, replicate, get_or, sym, refl, ap, ◌∙◌, subst, inl, ⊎_elim, arith, Option, Some}
use Rattle.std.proofs.lemmas.List.Elements.{All-nil, All-weaker}
use Rattle.std.specs.List.{All, Any}
use mathlib.Core.Option as maybe
use mathlib.Core.Option.{some, some-injective, some-ne-none}
use lib.ListN.{get_elem?}
use Rattle.atomic_table.specs.Table.{State, opening, Final, Seen}
use Rattle.turn_yard.specs.History.{entries_of}
use Rattle.turn_yard.specs.Tells.{Tells}
use Rattle.turn_yard.specs.Yard.{IsOfSeat}
use Rattle.turn_yard.specs.Inside.{IsLast}
use Rattle.turn_yard.specs.Rule.{keeper, marks_in, Knows, IsKeeper, IsHeld, IsBorne, IsOrderly}
use Rattle.turn_yard.specs.declared.view.Known.{Known}
use Rattle.turn_yard.specs.declared.view.View.{View}
use Rattle.turn_yard.proofs.Histories.{true≢false, at_below, one_at, none_falls_same, none_falls_on}

module _ {T : Type 0} (t : Tells T) where
  abbrev St : Type 0
  St = State (Option T) View

  abbrev Homes : Type 0
  Homes = List (maybe.Option (Option T))

  abbrev Rule : St → Type 0
  Rule = IsOrderly t

  -- ---- the yard is made
  pub opens : (value : T) (parts : ℕ) (words : List ℕ) → words ≡ 0 ∷ replicate parts 0 → t.entries value ≡ [] → t.marks value ≡ replicate parts 0
      → Rule (opening words (Some value ∷ []) (keeper (t.origin value) (t.marks value)))
  opens value parts words is none_yet zeros = let P : List ℕ → Type 0 = λ ws. Rule (opening ws (Some value ∷ []) (keeper (t.origin value) (t.marks value))) in subst P (sym is) (record {
    origin = t.origin value;
    history = [];
    some_word = omega arith;
    own_view = keeper (t.origin value) (t.marks value);
    own_at = refl;
    own = record { not_used = refl; origin_is = refl; noted = none_falls_same _ _ zeros; made = refl; known = All-nil _; gone = All-nil _ };
    place = λ id v at used. absurd (nobody id v at used);
    known = λ id v at used. absurd (nobody id v at used);
    borne = All-nil _;
    turn = inl (record { value = value; turn = refl; home = refl; entries = none_yet; origin_is = refl; marks = zeros; holder = λ id v at used ne. absurd (nobody id v at used) });
  }) where
    nobody : (id : ℕ) (v : View) → get_elem? (keeper (t.origin value) (t.marks value) ∷ []) id ≡ some v → v.in_use ≡ true → ⊥
    nobody zero v at used = true≢false (sym used ∙ ap (λ (x : View). x.in_use) (sym (some-injective _ _ at)))
    nobody (suc id) v at used = some-ne-none v (sym at)

  -- ---- the yard is closed
  module _ (v : View) (all : (n : ℕ) → n < v.made → Any (λ (k : Known). k.number ≡ n) v.returned) where
    not_held : (s : St) (r : Rule s) → IsKeeper r.origin r.history (marks_in s.words) s.views v → IsHeld r.history s → ⊥
    not_held s r o h =
        let p = r.place h.id h.view h.here h.in_use in
        let l = at_below s.views h.id h.view h.here in
        let m = o.made in
        let (i, k, inside, is, number) = all h.view.known.number (omega arith) in
        let g = o.gone i k inside in
        let same : suc (get_or v.returned i k).number ≡ h.id = ap (λ (x : Known). suc x.number) is ∙ (ap suc number ∙ p) in
        true≢false (sym h.in_use ∙ (ap (λ (x : View). x.in_use) (one_at s.views h.id h.view g.0 h.here (ap (get_elem? s.views) (sym same) ∙ g.1)) ∙ g.2))

    -- what is at home at the end is a value, with all that returned seats knew
    pub closes : (ws : List ℕ) (xs : List (Option T)) (slot : Option T) → Final (Seen Rule 0 v) ws xs → get_elem? xs 0 ≡ some slot → (value : T) × (slot ≡ Some value) × IsLast t v value
    closes ws xs slot (s, (r, at), _, _, values) there =
        let o : IsKeeper r.origin r.history (marks_in s.words) s.views v = subst (IsKeeper r.origin r.history (marks_in s.words) s.views) (one_at s.views 0 r.own_view v r.own_at at) r.own in
        ⊎_elim
        (λ f. (
          f.value,
          one_at xs 0 slot (Some f.value) there (values 0 (Some f.value) (ap (λ (h : Homes). get_elem? h 0) f.home)),
          record {
            origin = f.origin_is ∙ sym o.origin_is;
            known = All-weaker (Knows r.origin r.history (marks_in s.words)) (Knows v.known.origin (t.entries f.value) (t.marks f.value)) (λ k n. record {
              origin_is = n.origin_is ∙ sym o.origin_is;
              seen = (n.seen.0, f.entries ∙ n.seen.1);
              own = ap (entries_of k.number) f.entries ∙ n.own;
              noted = none_falls_on k.noted (marks_in s.words) (t.marks f.value) n.noted (none_falls_same _ _ (sym f.marks));
            }) v.returned o.known;
            made = subst (All (IsOfSeat v.made)) (sym f.entries) (All-weaker (IsBorne s.views) (IsOfSeat v.made) (λ e b. let l = b.1 in let m = o.made in (b.0, omega arith, b.2)) r.history r.borne);
          },
        ))
        (λ h. absurd (not_held s r o h)) r.turn

  pub first_closes : (id : ℕ) (v : View) (ws : List ℕ) (xs : List (Option T)) (slot : Option T) → id ≡ 0 → ((n : ℕ) → n < v.made → Any (λ (k : Known). k.number ≡ n) v.returned) → Final (Seen Rule id v) ws xs
      → get_elem? xs 0 ≡ some slot → (value : T) × (slot ≡ Some value) × IsLast t v value
  first_closes id v ws xs slot e all final there = let P : ℕ → Type 0 = λ k. Final (Seen Rule k v) ws xs in closes v all ws xs slot (subst P e final) there

  pub made_opens : (first value : T) (parts : ℕ) (ws : List ℕ) (xs : List (Option T)) → ws ≡ 0 ∷ replicate parts 0 → xs ≡ Some value ∷ [] → first ≡ value → t.entries value ≡ [] → t.marks value ≡ replicate parts 0
      → Rule (opening ws xs (keeper (t.origin first) (t.marks first)))
  made_opens first value parts ws xs words_are slot_is key none_yet zeros = let P : List (Option T) × T → Type 0 = λ x. Rule (opening ws x.0 (keeper (t.origin x.1) (t.marks x.1))) in
      subst P (λ i. (sym slot_is i, sym key i)) (opens value parts ws words_are none_yet zeros)
