-- The numbers of locations in a list, and sets that are filled from lists.
use Rattle.std.proofs.Common.{◌≡◌, ◌⊎◌, inl, inr, ℕ, suc, ◌+◌, ◌<◌, Bool, true, false, cond, not, ◌||◌, nat_lt, List, [], ◌∷◌, ◌++◌, Option, Some, None, map, length, refl, arith, ap, subst, sym, ◌∙◌, append_assoc}
use Rattle.std.specs.List.{AllByRecursion, AllPairs, IsDistinct, list_any, position_or_len, slice_index_or}
use Rattle.std.proofs.lemmas.Bool.{false≢true, ltb-true, lt-ltb}
use Rattle.std.proofs.lemmas.Bool.Decides.{nat_tests}
use Rattle.std.proofs.lemmas.List.Kept.{AllPairs-from_increasing}
use Rattle.morton_order.specs.declared.space.Loc.{Loc}
use Rattle.morton_order.specs.declared.space.Shape.{Shape}
use Rattle.morton_order.specs.Space.{IsShape, same_loc}
use Rattle.morton_order.specs.Key.{key}
use Rattle.morton_order.proofs.Any.{or_cases, or_left, or_right}
use Rattle.morton_order.proofs.Touching.{same_loc-is, same_loc-self}
use Rattle.block_tree.specs.Tree.{IsTree, is_listed}
use Rattle.block_tree.specs.Leaves.{leaves_of}
use Rattle.block_tree.specs.Least.{IsLeast}
use Rattle.block_tree.specs.Nodes.{number_in, with_node, with_nodes}
use Rattle.block_tree.specs.Table.{or_zero}
use Rattle.block_tree.proofs.Growing.{append_nil}
use Rattle.block_tree.proofs.KeyOrder.{leaves_law}
use Rattle.block_tree.proofs.Worklist.{new_by, with_node_by}

-- tests that agree where they pass are one
pub same_tests : (p q : Loc → Bool) → ((l : Loc) → p l ≡ true → q l ≡ true) → ((l : Loc) → q l ≡ true → p l ≡ true) → p ≡ q
same_tests p q to from = λ i l. one l i
  where
    one : (l : Loc) → p l ≡ q l
    one l = by (p l) refl (q l) refl
      where
        by : (b : Bool) → p l ≡ b → (c : Bool) → q l ≡ c → b ≡ c
        by true e true f = refl
        by true e false f = absurd (false≢true (sym f ∙ to l e))
        by false e true f = absurd (false≢true (sym e ∙ from l f))
        by false e false f = refl

-- there is one least tree
pub least_is_one : (s : Shape) (wanted p q : Loc → Bool) → IsLeast s wanted p → IsLeast s wanted q → p ≡ q
least_is_one s wanted p q a b = same_tests p q (λ l h. a.within q b.one_of l h) (λ l h. b.within p a.one_of l h)

-- the first place that passes is in the list where some item passes
shift : (a n : ℕ) → nat_lt (1 + a) (suc n) ≡ nat_lt a n
shift a n = grind (arith, nat_tests)

place_step : (b : Bool) (a n : ℕ) (q : Bool) → nat_lt a n ≡ q → nat_lt (cond (not b) (1 + a) 0) (suc n) ≡ (b || q)
place_step true a n q h = lt-ltb 0 (suc n) (omega arith)
place_step false a n q h = shift a n ∙ h

place_within : {X : Type 0} (p : X → Bool) (xs : List X) → nat_lt (position_or_len p xs) (length xs) ≡ list_any p xs
place_within p [] = refl
place_within p (x ∷ xs) = place_step (p x) (position_or_len p xs) (length xs) (list_any p xs) (place_within p xs)

pub number_is : (xs : List Loc) (l : Loc) → number_in xs l ≡ cond (is_listed xs l) (Some (position_or_len (same_loc l) xs)) None
number_is xs l = ap (λ (b : Bool). cond b (Some (position_or_len (same_loc l) xs)) None) (place_within (same_loc l) xs)

pub listed_number : (xs : List Loc) (l : Loc) → is_listed xs l ≡ true → number_in xs l ≡ Some (or_zero (number_in xs l))
listed_number xs l h =
    let e : number_in xs l ≡ Some (position_or_len (same_loc l) xs) = number_is xs l ∙ ap (λ (b : Bool). cond b (Some (position_or_len (same_loc l) xs)) None) h in
    e ∙ sym (ap (λ (v : Option ℕ). Some (or_zero v)) e)

pub unlisted_number : (xs : List Loc) (l : Loc) → is_listed xs l ≡ false → number_in xs l ≡ None
unlisted_number xs l h = number_is xs l ∙ ap (λ (b : Bool). cond b (Some (position_or_len (same_loc l) xs)) None) h

pub number_below : (xs : List Loc) (l : Loc) (i : ℕ) → number_in xs l ≡ Some i → i < length xs
number_below xs l i h = by (nat_lt (position_or_len (same_loc l) xs) (length xs)) refl h
  where
    some_is : (a b : ℕ) → Some a ≡ Some b → a ≡ b
    some_is a b h = cc

    none_is_not : (a : ℕ) → None ≡ Some a → ⊥
    none_is_not a h = cc

    by : (b : Bool) → nat_lt (position_or_len (same_loc l) xs) (length xs) ≡ b → cond b (Some (position_or_len (same_loc l) xs)) None ≡ Some i → i < length xs
    by true e k = subst (λ v. v < length xs) (some_is (position_or_len (same_loc l) xs) i k) (ltb-true (position_or_len (same_loc l) xs) (length xs) e)
    by false e k = absurd (none_is_not i k)

-- locations whose keys rise are distinct
below_all : (f : Loc → ℕ) (x : Loc) (ys : List Loc) → ((j d : ℕ) → j < length (map f ys) → f x < slice_index_or (map f ys) j d) → AllByRecursion (λ y. same_loc x y ≡ false) ys
below_all f x [] h = tt
below_all f x (y ∷ ys) h = (by (same_loc x y) refl, below_all f x ys (λ j d less. h (suc j) d (omega arith)))
  where
    by : (b : Bool) → same_loc x y ≡ b → b ≡ false
    by true e = let is : f x ≡ f y = ap f (same_loc-is x y e) in let less : f x < f y = h 0 0 (omega arith) in absurd (omega arith)
    by false e = refl

distinct_by : (f : Loc → ℕ) (xs : List Loc) → AllPairs (λ x y. x < y) (map f xs) → IsDistinct same_loc xs
unfolding IsDistinct
distinct_by f [] h = tt
distinct_by f (x ∷ xs) h = (below_all f x xs (λ j d less. h 0 (suc j) d (omega arith) (omega arith)), distinct_by f xs (λ i j d a b. h (suc i) (suc j) d (omega arith) (omega arith)))

pub distinct_leaves : (s : Shape) (inner : Loc → Bool) → IsShape s → IsTree s inner → IsDistinct same_loc (leaves_of s inner)
distinct_leaves s inner shape tree = distinct_by key (leaves_of s inner) (AllPairs-from_increasing (map key (leaves_of s inner)) (leaves_law s inner shape tree).rising)

-- a location that comes later is not listed before
same_back : (l m : Loc) → same_loc l m ≡ false → same_loc m l ≡ false
same_back l m h = by (same_loc m l) refl
  where
    by : (b : Bool) → same_loc m l ≡ b → b ≡ false
    by true e = absurd (false≢true (sym h ∙ ap (same_loc l) (same_loc-is m l e) ∙ same_loc-self l))
    by false e = refl

all_later : (P : Loc → Type 0) (ls xs : List Loc) (x : Loc) → AllByRecursion P (ls ++ x ∷ xs) → P x
all_later P [] xs x h = h.0
all_later P (l ∷ ls) xs x h = all_later P ls xs x h.1

or_false : (a b : Bool) → a ≡ false → b ≡ false → (a || b) ≡ false
or_false a b h k = ap (λ (v : Bool). v || b) h ∙ k

absent : (ls xs : List Loc) (x : Loc) → IsDistinct same_loc (ls ++ x ∷ xs) → is_listed ls x ≡ false
unfolding IsDistinct
absent [] xs x d = refl
absent (l ∷ ls) xs x d = or_false (same_loc x l) (is_listed ls x) (same_back l x (all_later (λ y. same_loc l y ≡ false) ls xs x d.0)) (absent ls xs x d.1)

with_distinct : (ls xs : List Loc) → IsDistinct same_loc (ls ++ xs) → with_nodes ls xs ≡ ls ++ xs
with_distinct ls [] d = sym (append_nil ls)
with_distinct ls (x ∷ xs) d =
    ap (λ (b : Bool). with_nodes (cond b ls (ls ++ x ∷ [])) xs) (absent ls xs x d)
    ∙ with_distinct (ls ++ x ∷ []) xs (subst (λ (v : List Loc). IsDistinct same_loc v) (sym (append_assoc ls (x ∷ []) xs)) d)
    ∙ append_assoc ls (x ∷ []) xs

pub set_of_distinct : (xs : List Loc) → IsDistinct same_loc xs → with_nodes [] xs ≡ xs
set_of_distinct xs d = with_distinct [] xs d

-- a set that is filled from a list holds what is listed
with_old : (ls xs : List Loc) (l : Loc) → is_listed ls l ≡ true → is_listed (with_nodes ls xs) l ≡ true
with_old ls [] l h = h
with_old ls (x ∷ xs) l h = with_old (with_node ls x) xs l ((with_node_by ls x (is_listed ls x) refl).0.listed l h)

with_new : (ls xs : List Loc) (l : Loc) → is_listed xs l ≡ true → is_listed (with_nodes ls xs) l ≡ true
with_new ls [] l h = absurd (false≢true h)
with_new ls (x ∷ xs) l h = elim (or_cases (same_loc l x) (is_listed xs l) h) [
  | inl is ↦ subst (λ (v : Loc). is_listed (with_nodes (with_node ls x) xs) v ≡ true) (sym (same_loc-is l x is)) (with_old (with_node ls x) xs x (with_node_by ls x (is_listed ls x) refl).1)
  | inr later ↦ with_new (with_node ls x) xs l later
]

pub with_only : (ls xs : List Loc) (l : Loc) → is_listed (with_nodes ls xs) l ≡ true → (is_listed ls l ≡ true) ⊎ (is_listed xs l ≡ true)
with_only ls [] l h = inl h
with_only ls (x ∷ xs) l h = elim (with_only (with_node ls x) xs l h) [
  | inl before ↦ elim (new_by ls x l (is_listed ls x) before) [
    | inl old ↦ inl old
    | inr is ↦ inr (or_left (same_loc l x) (is_listed xs l) (ap (same_loc l) (sym is) ∙ same_loc-self l))
  ]
  | inr later ↦ inr (or_right (same_loc l x) (is_listed xs l) later)
]

pub set_listed : (xs : List Loc) → is_listed (with_nodes [] xs) ≡ is_listed xs
set_listed xs = same_tests (is_listed (with_nodes [] xs)) (is_listed xs)
    (λ l h. elim (with_only [] xs l h) [ inl none ↦ absurd (false≢true none) | inr there ↦ there ])
    (λ l h. with_new [] xs l h)
