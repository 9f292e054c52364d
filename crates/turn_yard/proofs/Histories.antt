-- Lists of entries, marks and views.
use Rattle.std.proofs.Common.{◌≡◌, ◌≢◌, ℕ, suc, zero, ◌+◌, ◌<◌, ◌≤◌, ◌⊎◌, ◌==◌, eqb, Bool, true, false, cond, List, [], ◌∷◌, ◌++◌, length, drop, get_or, set, sym, refl, ap, ◌∙◌, subst, inl, inr, ⊎_elim, arith, le_refl, eq-eqb, ne_eqb, length-append, get_or-set_same, get_or-set_other, length-set, Option, Some, None}
use Rattle.std.proofs.lemmas.List.{append-nil, append_assoc, get_or-drop, drop-set-add, drop_at, set-get_or}
use Rattle.std.proofs.lemmas.List.Elements.{filter-append, All-head, All-tail, All-cons, All-nil}
use Rattle.std.specs.List.{filter, All}
use mathlib.Core.Logic.{dite}
use mathlib.Core.Option.{none, some, some-injective, some-ne-none}
use native.Mathlib.Decide.{ℕ_discrete}
use lib.ListN.{get_elem?}
use Rattle.turn_yard.specs.History.{Entry, bears, entries_of, StartsWith, added_to, AddsAtMostOne, NoneFalls, OnlyRises}

pub true≢false : true ≡ false → ⊥
true≢false e = let P : Bool → Type 0 = λ b. elim b as (λ _. Type 0) [ true ↦ Unit {0} | false ↦ ⊥ ] in subst P e tt

module _ {A : Type 0} where
  pub at_below : (l : List A) (i : ℕ) (a : A) → get_elem? l i ≡ some a → i < length l
  at_below [] i a e = absurd (some-ne-none a (sym e))
  at_below (x ∷ xs) zero a e = omega arith
  at_below (x ∷ xs) (suc i) a e = let h = at_below xs i a e in omega arith

  -- the element at a place of a list with one more at its end
  pub at_end : (l : List A) (a b : A) (j : ℕ) → get_elem? (l ++ a ∷ []) j ≡ some b → (get_elem? l j ≡ some b) ⊎ ((j ≡ length l) × (a ≡ b))
  at_end [] a b zero e = inr (refl, some-injective a b e)
  at_end [] a b (suc j) e = absurd (some-ne-none b (sym e))
  at_end (x ∷ xs) a b zero e = inl e
  at_end (x ∷ xs) a b (suc j) e = ⊎_elim inl (λ (t : (j ≡ length xs) × (a ≡ b)). inr (ap suc t.0, t.1)) (at_end xs a b j e)

  pub one_at : (l : List A) (i : ℕ) (a b : A) → get_elem? l i ≡ some a → get_elem? l i ≡ some b → a ≡ b
  one_at l i a b p q = some-injective a b (sym p ∙ q)

-- ---- entries
bears_other : (m n : ℕ) (e : Entry) → m ≢ n → bears n e ≡ true → bears m e ≡ false
bears_other m n [] ne h = refl
bears_other m n (x ∷ xs) ne h = ne_eqb x m (λ e. ne (sym e ∙ grind (arith, h)))

pub entries_of-none : (n : ℕ) (history : List Entry) → All (λ e. bears n e ≡ false) history → entries_of n history ≡ []
entries_of-none n [] all = refl
entries_of-none n (e ∷ es) all = ap (λ b. cond b (e ∷ entries_of n es) (entries_of n es)) (All-head (λ e. bears n e ≡ false) e es all) ∙ entries_of-none n es (All-tail (λ e. bears n e ≡ false) e es all)

-- no entry of a history bears a number that none of those who made it has
pub entries_of-unmade : (made n : ℕ) (history : List Entry) → made ≤ n → All (λ e. (m : ℕ) × (m < made) × (bears m e ≡ true)) history → entries_of n history ≡ []
entries_of-unmade made n [] le all = refl
entries_of-unmade made n (e ∷ es) le all =
    let h = All-head (λ e. (m : ℕ) × (m < made) × (bears m e ≡ true)) e es all in
    let l = h.1 in
    ap (λ b. cond b (e ∷ entries_of n es) (entries_of n es)) (bears_other n h.0 e (λ x. omega arith) h.2) ∙ entries_of-unmade made n es le (All-tail (λ e. (m : ℕ) × (m < made) × (bears m e ≡ true)) e es all)

-- what one seat adds at the end of a history
pub record Added (n : ℕ) (before after : List Entry) : Type 0 where
  pub more : List Entry
  pub is : after ≡ before ++ more
  pub own : entries_of n more ≡ more
  pub others : (m : ℕ) → m ≢ n → entries_of m more ≡ []
  pub bear : All (λ e. bears n e ≡ true) more

pub added : (n : ℕ) (before after : List Entry) → AddsAtMostOne n before after → Added n before after
added n before after (inl e) = record { more = []; is = e ∙ sym (append-nil before); own = refl; others = λ m ne. refl; bear = All-nil (λ e. bears n e ≡ true) }
added n before after (inr (e, is, b)) = record {
  more = e ∷ [];
  is = is;
  own = ap (λ c. cond c (e ∷ []) []) b;
  others = λ m ne. ap (λ c. cond c (e ∷ []) []) (bears_other m n e ne b);
  bear = All-cons (λ e. bears n e ≡ true) e [] b (All-nil (λ e. bears n e ≡ true));
}

module _ (n : ℕ) (before after : List Entry) (a : Added n before after) where
  pub Added-own : entries_of n after ≡ entries_of n before ++ added_to before after
  Added-own = let e : added_to before after ≡ a.more = ap (drop (length before)) a.is ∙ drop_at before a.more (length before) refl in
      ap (entries_of n) a.is ∙ (filter-append (bears n) before a.more ∙ ap (λ l. entries_of n before ++ l) (a.own ∙ sym e))

  pub Added-others : (m : ℕ) → m ≢ n → entries_of m after ≡ entries_of m before
  Added-others m ne = ap (entries_of m) a.is ∙ (filter-append (bears m) before a.more ∙ (ap (λ l. entries_of m before ++ l) (a.others m ne) ∙ append-nil (entries_of m before)))

  pub Added-starts : (seen : List Entry) → StartsWith before seen → StartsWith after seen
  Added-starts seen (later, e) = (later ++ a.more, a.is ∙ (ap (λ l. l ++ a.more) e ∙ append_assoc seen later a.more))

-- ---- marks
pub none_falls_same : (a b : List ℕ) → a ≡ b → NoneFalls a b
none_falls_same a b e = record { count = ap length e; each = λ p l. let h = ap (λ (xs : List ℕ). get_or xs p 0) e in omega arith }

pub none_falls_on : (a b c : List ℕ) → NoneFalls a b → NoneFalls b c → NoneFalls a c
none_falls_on a b c f g = record { count = f.count ∙ g.count; each = λ p l. let x = f.each p (let n = g.count in omega arith) in let y = g.each p l in omega arith }

-- one mark rises
pub none_falls_set : (a : List ℕ) (p mark : ℕ) → p < length a → get_or a p 0 ≤ mark → NoneFalls a (set a p mark)
none_falls_set a p mark inside up = record {
  count = sym (length-set a p mark);
  each = λ q l. dite (ℕ_discrete q p) (λ e. let h = ap (λ k. get_or a k 0) e in let i = ap (λ k. get_or (set a p mark) k 0) e in let s = get_or-set_same a p mark 0 inside in omega arith)
      (λ ne. let s = get_or-set_other a p q mark 0 ne in omega arith);
}

-- one mark is noted as it is
pub none_falls_noting : (a b : List ℕ) (p mark : ℕ) → NoneFalls a b → p < length a → mark ≡ get_or b p 0 → NoneFalls (set a p mark) b
none_falls_noting a b p mark f inside is = record {
  count = length-set a p mark ∙ f.count;
  each = λ q l. dite (ℕ_discrete q p) (λ e. let h = ap (λ k. get_or b k 0) e in let i = ap (λ k. get_or (set a p mark) k 0) e in let s = get_or-set_same a p mark 0 inside in omega arith)
      (λ ne. let s = get_or-set_other a p q mark 0 ne in let h = f.each q l in omega arith);
}

-- ---- words
pub drop-set_first : (ws : List ℕ) (n : ℕ) → drop 1 (set ws 0 n) ≡ drop 1 ws
drop-set_first [] n = refl
drop-set_first (x ∷ xs) n = refl

pub drop-set_later : (ws : List ℕ) (p n : ℕ) → drop 1 (set ws (p + 1) n) ≡ set (drop 1 ws) p n
drop-set_later ws p n = let e : p + 1 ≡ 1 + p = omega arith in ap (λ k. drop 1 (set ws k n)) e ∙ drop-set-add 1 ws p n

pub mark_at : (ws : List ℕ) (p : ℕ) → get_or ws (p + 1) 0 ≡ get_or (drop 1 ws) p 0
mark_at ws p = let e : p + 1 ≡ 1 + p = omega arith in ap (λ k. get_or ws k 0) e ∙ sym (get_or-drop 1 ws p 0)

-- the one mark that may have risen
pub rises_at : (changed : Option ℕ) (p : ℕ) (before now : List ℕ) → changed ≡ Some p → OnlyRises changed before now → (p < length before) × (get_or before p 0 ≤ get_or now p 0) × (set before p (get_or now p 0) ≡ now)
rises_at changed p before now e rises = let (inside, (mark, up, is)) = subst (λ c. OnlyRises c before now) e rises in
    let new : get_or now p 0 ≡ mark = ap (λ (l : List ℕ). get_or l p 0) is ∙ get_or-set_same before p mark 0 inside in (
      inside,
      omega arith,
      ap (set before p) new ∙ sym is,
    )
