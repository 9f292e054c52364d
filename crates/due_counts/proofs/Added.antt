-- Letters that are counted one after another.
use Rattle.std.proofs.Common.{◌≡◌, ◌==◌, ℕ, ◌+◌, ◌/◌, ◌<◌, ◌≤◌, Bool, true, false, cond, inl, inr, Some, List, [], ◌∷◌, ◌++◌, length, length-append, count_by, refl, arith, ap, sym, subst, ◌∙◌, eq-eqb, append_assoc}
use Rattle.std.specs.Prelude.{slice_get, slice_index, slice_set, take}
use Rattle.std.specs.List.{slice_index_or}
use Rattle.std.proofs.lemmas.Bool.{cases_eq, eqb-true}
use Rattle.std.proofs.lemmas.List.{append-nil, get_or-map, get_or-set_same, get_or-set_other, length-set, length-map, map-append, take_all, take_more}
use Rattle.std.proofs.lemmas.Option.{get_or_from_slice_get, slice_get_within}
use Rattle.std.proofs.lemmas.List.Elements.{All-cons}
use Rattle.std.proofs.lemmas.List.Sums.{sum_by-append}
use Rattle.due_counts.specs.declared.counts.Counts.{Counts}
use Rattle.due_counts.specs.Sides.{divided}
use Rattle.due_counts.specs.Counts.{AddsAll, AreBounded, AreCounts, CanAdd, CanTake}

-- a count of a list and what follows
pub count_both : (i : ℕ) (xs ys : List ℕ) → count_by (λ (k : ℕ). k == i) (xs ++ ys) ≡ count_by (λ (k : ℕ). k == i) xs + count_by (λ (k : ℕ). k == i) ys
count_both i xs ys = sum_by-append (λ (k : ℕ). cond (k == i) 1 0) xs ys

-- nothing was counted
pub adds_none : (c : Counts) → AreBounded c → AddsAll [] c c
adds_none c bounded = record {
  long = refl;
  bounded = bounded;
  all = omega arith;
  counted = λ before are. subst (λ (v : List ℕ). AreCounts v c) (sym (append-nil before)) are;
}

-- some were counted, and then others
pub adds_both : (xs ys : List ℕ) (a b c : Counts) → AddsAll xs a b → AddsAll ys b c → AddsAll (xs ++ ys) a c
adds_both xs ys a b c first then = record {
  long = then.long ∙ first.long;
  bounded = then.bounded;
  all = omega (arith, then.all, first.all, length-append xs ys);
  counted = λ before are. subst (λ (v : List ℕ). AreCounts v c) (append_assoc before xs ys) (then.counted (before ++ xs) (first.counted before are));
}

-- one was counted
pub adds_one : (list : ℕ) (a b : Counts) → CanAdd (list ∷ []) a → b.each.items ≡ slice_set a.each.items list (slice_index a.each.items list + 1)
    → b.all ≡ a.all + 1 → AddsAll (list ∷ []) a b
adds_one list a b can each all = record {
  long = long;
  bounded = λ i. elim (cases_eq i list) [
    | inl e ↦ omega (arith, ap (slice_index b.each.items) e, here, all, can.bounded list)
    | inr ne ↦ omega (arith, other i ne, all, can.bounded i)
  ];
  all = all;
  counted = λ before are. record {
    each = λ i less. elim (cases_eq i list) [
      | inl e ↦ ap (slice_index b.each.items) e ∙ here ∙ ap (λ (n : ℕ). n + 1) (are.each list within)
          ∙ sym (count_both list before (list ∷ []) ∙ ap (λ (b : Bool). count_by (λ (k : ℕ). k == list) before + (0 + cond b 1 0)) (eq-eqb list list refl))
          ∙ ap (λ (n : ℕ). count_by (λ (k : ℕ). k == n) (before ++ list ∷ [])) (sym e)
      | inr ne ↦ other i ne ∙ are.each i (omega (arith, less, long))
          ∙ omega (arith, count_both i before (list ∷ []), none i ne)
    ];
    all = omega (arith, all, are.all, length-append before (list ∷ []));
  };
}
  where
    within : list < length a.each.items
    within = can.lists_are 0 0 (omega arith)

    long : length b.each.items ≡ length a.each.items
    long = ap length each ∙ length-set a.each.items list (slice_index a.each.items list + 1)

    here : slice_index b.each.items list ≡ slice_index a.each.items list + 1
    here = ap (λ (v : List ℕ). slice_index v list) each ∙ get_or-set_same a.each.items list (slice_index a.each.items list + 1) 0 within

    other : (i : ℕ) → (i ≡ list → ⊥) → slice_index b.each.items i ≡ slice_index a.each.items i
    other i ne = ap (λ (v : List ℕ). slice_index v i) each ∙ get_or-set_other a.each.items list i (slice_index a.each.items list + 1) 0 ne

    none : (i : ℕ) → (i ≡ list → ⊥) → count_by (λ (k : ℕ). k == i) (list ∷ []) ≡ 0
    none i ne = by (list == i) refl
      where
        by : (b : Bool) → (list == i) ≡ b → count_by (λ (k : ℕ). k == i) (list ∷ []) ≡ 0
        by false e = ap (λ (b : Bool). 0 + cond b 1 0) e
        by true e = absurd (ne (sym (eqb-true list i e)))

-- bounds of counts to which letters were added
pub can_still : (lists more : ℕ) (xs : List ℕ) (a b : Counts) → CanTake lists (length xs + more) a → AddsAll xs a b → CanTake lists more b
can_still lists more xs a b can adds = record {
  long = adds.long ∙ can.long;
  bounded = adds.bounded;
  few = omega (arith, can.few, adds.all);
}

-- letters to some lists can be counted one after another
pub can_first : (x : ℕ) (xs : List ℕ) (c : Counts) → CanAdd (x ∷ xs) c → CanAdd (x ∷ []) c
can_first x xs c can = record {
  lists_are = All-cons (λ k. k < length c.each.items) x [] (can.lists_are 0 0 (omega arith)) (λ k d less. absurd (omega (arith, less)));
  bounded = can.bounded;
  few = omega (arith, can.few);
}

-- the next of some leaves
pub next_less : (ns : List ℕ) (i n : ℕ) → slice_get ns i ≡ Some n → i < length ns
next_less ns i n is = slice_get_within ns i n is

pub can_next : (size i n : ℕ) (ns : List ℕ) (a b : Counts) → CanAdd (divided size ns) a → AddsAll (divided size (take i ns)) a b → slice_get ns i ≡ Some n
    → CanAdd (n / size ∷ []) b
can_next size i n ns a b can adds is =
    let less : i < length ns = slice_get_within ns i n is in
    let there : slice_index_or ns i 0 ≡ n = get_or_from_slice_get ns i n 0 is in
    let listed : slice_index_or ns i 0 / size < length a.each.items = subst (λ (k : ℕ). k < length a.each.items)
    (get_or-map (λ k. k / size) ns i 0 0 less) (can.lists_are i 0 (subst (λ (k : ℕ). i < k) (sym (length-map ns (λ k. k / size))) less)) in
    let within : n / size < length b.each.items = subst (λ (k : ℕ). n / size < k) (sym adds.long) (subst (λ (k : ℕ). k / size < length a.each.items) there listed) in
    record {
      lists_are = All-cons (λ k. k < length b.each.items) (n / size) [] within (λ k d past. absurd (omega (arith, past)));
      bounded = adds.bounded;
      few = omega (arith, can.few, adds.all, length-map ns (λ k. k / size), length-map (take i ns) (λ k. k / size), length-take_at_most ns i, less);
    }
  where
    length-take_at_most : (xs : List ℕ) (k : ℕ) → length (take k xs) ≤ k
    length-take_at_most [] ℕ.zero = omega arith
    length-take_at_most [] (ℕ.suc k) = omega arith
    length-take_at_most (x ∷ xs) ℕ.zero = omega arith
    length-take_at_most (x ∷ xs) (ℕ.suc k) = omega (arith, length-take_at_most xs k)

pub adds_next : (size i n : ℕ) (ns : List ℕ) (a b c : Counts) → AddsAll (divided size (take i ns)) a b → slice_get ns i ≡ Some n
    → AddsAll (n / size ∷ []) b c → AddsAll (divided size (take (i + 1) ns)) a c
adds_next size i n ns a b c adds is one = subst (λ (v : List ℕ). AddsAll v a c)
    (sym (ap (divided size) (take_more ns i 0 (slice_get_within ns i n is))
    ∙ map-append (λ k. k / size) (take i ns) (slice_index_or ns i 0 ∷ [])
    ∙ ap (λ (k : ℕ). divided size (take i ns) ++ k / size ∷ []) (get_or_from_slice_get ns i n 0 is)))
    (adds_both (divided size (take i ns)) (n / size ∷ []) a b c adds one)

pub adds_all : (size i : ℕ) (ns : List ℕ) (a b : Counts) → AddsAll (divided size (take i ns)) a b → length ns ≤ i → AddsAll (divided size ns) a b
adds_all size i ns a b adds past = subst (λ (v : List ℕ). AddsAll (divided size v) a b) (take_all i ns past) adds
