-- How many leaves and inner nodes a tree has.
use Rattle.std.proofs.Common.{◌≡◌, inl, inr, ℕ, zero, suc, ◌+◌, ◌-◌, ◌*◌, ◌≤◌, Bool, true, false, cond, ◌||◌, List, [], ◌∷◌, ◌++◌, length, refl, arith, ap, subst, sym, ◌∙◌, length-append}
use Rattle.std.specs.List.{AllByRecursion, IsDistinct, flat_map, range_with_len}
use Rattle.std.proofs.lemmas.Bool.{false≢true}
use Rattle.morton_order.specs.declared.space.Loc.{Loc}
use Rattle.morton_order.specs.declared.space.Shape.{Shape}
use Rattle.morton_order.specs.Space.{IsShape, child, parts, same_loc}
use Rattle.morton_order.proofs.Any.{or_cases, or_left, or_right}
use Rattle.morton_order.proofs.Touching.{same_loc-is, same_loc-self}
use Rattle.block_tree.specs.Tree.{is_listed}
use Rattle.block_tree.specs.Leaves.{inner_below, inner_of, leaves_below, leaves_of, pieces, roots}

-- each inner node has its children in place of a leaf
abbrev Count : ℕ → List Loc → List Loc → Type 0
Count more leaves inner = length leaves ≡ 1 + more * length inner

-- many of them
many : (more : ℕ) (f g : ℕ → List Loc) → ((j : ℕ) → Count more (f j) (g j)) → (a n : ℕ) → length (flat_map f (range_with_len a n)) ≡ n + more * length (flat_map g (range_with_len a n))
many more f g each a zero = omega arith
many more f g each a (suc n) =
    let h = each a in
    let r = many more f g each (a + 1) n in
    let p = length-append (f a) (flat_map f (range_with_len (a + 1) n)) in
    let q = length-append (g a) (flat_map g (range_with_len (a + 1) n)) in
    sum (length (f a ++ flat_map f (range_with_len (a + 1) n))) (length (g a ++ flat_map g (range_with_len (a + 1) n))) more n (length (f a)) (length (g a)) (length (flat_map f (range_with_len (a + 1) n))) (length (flat_map g (range_with_len (a + 1) n))) p q h r
  where
    sum : (l i more n a b c d : ℕ) → l ≡ a + c → i ≡ b + d → a ≡ 1 + more * b → c ≡ n + more * d → l ≡ suc n + more * i
    sum l i more n a b c d p q h r = subst (λ v. l ≡ suc n + more * v) (sym q) (omega arith)

count_by : (dims : ℕ) → 1 ≤ parts dims → (k : ℕ) (test : Loc → Bool) (l : Loc) → ((j : ℕ) → Count (parts dims - 1) (leaves_below k dims test (child dims l j)) (inner_below k dims test (child dims l j))) → (b : Bool) →
    Count (parts dims - 1) (pieces b (parts dims) (λ j. leaves_below k dims test (child dims l j)) (l ∷ [])) (cond b (l ∷ []) [] ++ pieces b (parts dims) (λ j. inner_below k dims test (child dims l j)) [])
count_by dims some k test l again true =
    let m = many (parts dims - 1) (λ j. leaves_below k dims test (child dims l j)) (λ j. inner_below k dims test (child dims l j)) again 0 (parts dims) in
    close (parts dims) (length (flat_map (λ j. leaves_below k dims test (child dims l j)) (range_with_len 0 (parts dims)))) (length (flat_map (λ j. inner_below k dims test (child dims l j)) (range_with_len 0 (parts dims)))) some m
  where
    close : (p a b : ℕ) → 1 ≤ p → a ≡ p + (p - 1) * b → a ≡ 1 + (p - 1) * (suc b)
    close p a b some h = let e : (p - 1) * (suc b) ≡ (p - 1) * b + (p - 1) = omega arith in omega arith
count_by dims some k test l again false = omega arith

below_count : (dims : ℕ) → 1 ≤ parts dims → (k : ℕ) (test : Loc → Bool) (l : Loc) → Count (parts dims - 1) (leaves_below k dims test l) (inner_below k dims test l)
below_count dims some zero test l = omega arith
below_count dims some (suc k) test l = count_by dims some k test l (λ j. below_count dims some k test (child dims l j)) (test l)

listed_count : (dims : ℕ) → 1 ≤ parts dims → (k : ℕ) (test : Loc → Bool) (rs : List Loc) → length (flat_map (leaves_below k dims test) rs) ≡ length rs + (parts dims - 1) * length (flat_map (inner_below k dims test) rs)
listed_count dims some k test [] = omega arith
listed_count dims some k test (r ∷ rs) =
    let h = below_count dims some k test r in
    let m = listed_count dims some k test rs in
    let p = length-append (leaves_below k dims test r) (flat_map (leaves_below k dims test) rs) in
    let q = length-append (inner_below k dims test r) (flat_map (inner_below k dims test) rs) in
    sum (length (leaves_below k dims test r ++ flat_map (leaves_below k dims test) rs)) (length (inner_below k dims test r ++ flat_map (inner_below k dims test) rs)) (parts dims - 1) (length rs) (length (leaves_below k dims test r)) (length (inner_below k dims test r)) (length (flat_map (leaves_below k dims test) rs)) (length (flat_map (inner_below k dims test) rs)) p q h m
  where
    sum : (l i more n a b c d : ℕ) → l ≡ a + c → i ≡ b + d → a ≡ 1 + more * b → c ≡ n + more * d → l ≡ suc n + more * i
    sum l i more n a b c d p q h r = subst (λ v. l ≡ suc n + more * v) (sym q) (omega arith)

pub some_parts : (dims : ℕ) → 1 ≤ dims → dims ≤ 3 → 2 ≤ parts dims
some_parts zero h k = absurd (omega arith)
some_parts (suc zero) h k = omega arith
some_parts (suc (suc zero)) h k = omega arith
some_parts (suc (suc (suc zero))) h k = omega arith
some_parts (suc (suc (suc (suc d)))) h k = absurd (omega arith)

-- a tree has a leaf for each root, and each inner node adds its children but one
pub leaf_count : (s : Shape) (test : Loc → Bool) → IsShape s → length (leaves_of s test) ≡ length (roots s) + (parts s.dims - 1) * length (inner_of s test)
unfolding leaves_of inner_of
leaf_count s test shape = let some = some_parts s.dims shape.least shape.most in listed_count s.dims (omega arith) 10 test (roots s)

-- a list without its first item that is a location
without : Loc → List Loc → List Loc
without l [] = []
without l (x ∷ xs) = cond (same_loc l x) xs (x ∷ without l xs)

without_length : (l : Loc) (xs : List Loc) → is_listed xs l ≡ true → length xs ≡ length (without l xs) + 1
unfolding without
without_length l [] h = absurd (false≢true h)
without_length l (x ∷ xs) h = by (same_loc l x) (λ e. without_length l xs (ap (λ (b : Bool). b || is_listed xs l) (sym e) ∙ h)) refl
  where
    by : (b : Bool) → (same_loc l x ≡ false → length xs ≡ length (without l xs) + 1) → same_loc l x ≡ b → suc (length xs) ≡ length (cond b xs (x ∷ without l xs)) + 1
    by true again e = omega arith
    by false again e = let r = again e in omega arith

without_listed : (l m : Loc) (xs : List Loc) → same_loc l m ≡ false → is_listed xs m ≡ true → is_listed (without l xs) m ≡ true
unfolding without
without_listed l m [] e h = h
without_listed l m (x ∷ xs) e h = by (same_loc l x) (λ later. without_listed l m xs e later) refl
  where
    by : (b : Bool) → (is_listed xs m ≡ true → is_listed (without l xs) m ≡ true) → same_loc l x ≡ b → is_listed (cond b xs (x ∷ without l xs)) m ≡ true
    by true again f = elim (or_cases (same_loc m x) (is_listed xs m) h) [
      | inl is ↦ absurd (false≢true (sym e ∙ ap (same_loc l) (same_loc-is m x is) ∙ f))
      | inr later ↦ later
    ]
    by false again f = elim (or_cases (same_loc m x) (is_listed xs m) h) [
      | inl is ↦ or_left (same_loc m x) (is_listed (without l xs) m) is
      | inr later ↦ or_right (same_loc m x) (is_listed (without l xs) m) (again later)
    ]

apart : (x m : Loc) (xs : List Loc) → AllByRecursion (λ y. same_loc x y ≡ false) xs → is_listed xs m ≡ true → same_loc x m ≡ false
apart x m [] each h = absurd (false≢true h)
apart x m (y ∷ ys) each h = elim (or_cases (same_loc m y) (is_listed ys m) h) [
  | inl is ↦ ap (same_loc x) (same_loc-is m y is) ∙ each.0
  | inr later ↦ apart x m ys each.1 later
]

-- different locations that are all in a list are no more than it has
pub distinct_few : (xs ys : List Loc) → IsDistinct same_loc xs → ((l : Loc) → is_listed xs l ≡ true → is_listed ys l ≡ true) → length xs ≤ length ys
unfolding IsDistinct
distinct_few [] ys distinct within = omega arith
distinct_few (x ∷ xs) ys distinct within =
    let here = within x (or_left (same_loc x x) (is_listed xs x) (same_loc-self x)) in
    let e = without_length x ys here in
    let r = distinct_few xs (without x ys) distinct.1 (λ l h. without_listed x l ys (apart x l xs distinct.0 h) (within l (or_right (same_loc l x) (is_listed xs l) h))) in
    omega arith
