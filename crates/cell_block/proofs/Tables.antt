-- Tables: their length, their items, and when two are one; counts of lists that pass alike.
use Rattle.std.proofs.Common.{◌≡◌, ℕ, suc, ◌+◌, ◌<◌, Bool, cond, List, [], ◌∷◌, length, refl, arith, ◌∙◌, sym, ap}
use Rattle.std.specs.List.{count_by, slice_index_or}
use Rattle.std.proofs.lemmas.List.{ext_get_or}
use Rattle.std.proofs.lemmas.List.Sums.{sum_by-cons}
use Rattle.std.proofs.lemmas.List.FromFn.{get_or-map-range_with_len, length-map-range_with_len}
use Rattle.mesh_rules.specs.Sums.{table}

pub table_length : {X : Type 0} (n : ℕ) (f : ℕ → X) → length (table n f) ≡ n
table_length n f = length-map-range_with_len f 0 n

pub table_at : {X : Type 0} (n : ℕ) (f : ℕ → X) (k : ℕ) (d : X) → k < n → slice_index_or (table n f) k d ≡ f k
table_at n f k d lt = get_or-map-range_with_len f 0 n k k d lt (omega arith)

-- a list with the items of a table is that table
pub table_by : {X : Type 0} (xs : List X) (n : ℕ) (f : ℕ → X) (d : X) → length xs ≡ n → ((k : ℕ) → k < n → slice_index_or xs k d ≡ f k) → xs ≡ table n f
table_by xs n f d long items = ext_get_or d xs (table n f) (long ∙ sym (table_length n f)) (λ k lt. items k (omega arith) ∙ sym (table_at n f k d (omega arith)))

pub table_same : {X : Type 0} (n : ℕ) (f g : ℕ → X) (d : X) → ((k : ℕ) → k < n → f k ≡ g k) → table n f ≡ table n g
table_same n f g d same = table_by (table n f) n g d (table_length n f) (λ k lt. table_at n f k d lt ∙ same k lt)

-- one item more in front of a count
abbrev one_if : Bool → ℕ
one_if b = cond b 1 0

count_cons : {X : Type 0} (p : X → Bool) (x : X) (xs : List X) → count_by p (x ∷ xs) ≡ one_if (p x) + count_by p xs
count_cons p x xs = sum_by-cons (λ y. cond (p y) 1 0) x xs

-- two lists of one length whose items pass alike have one count
pub count_same : {X Y : Type 0} (p : X → Bool) (q : Y → Bool) (xs : List X) (ys : List Y) (d : X) (e : Y) → length xs ≡ length ys
    → ((k : ℕ) → k < length xs → p (slice_index_or xs k d) ≡ q (slice_index_or ys k e)) → count_by p xs ≡ count_by q ys
count_same p q [] [] d e long same = refl
count_same p q [] (y ∷ ys) d e long same = absurd (omega (arith, long))
count_same p q (x ∷ xs) [] d e long same = absurd (omega (arith, long))
count_same p q (x ∷ xs) (y ∷ ys) d e long same =
    let rest : count_by p xs ≡ count_by q ys = count_same p q xs ys d e (omega (arith, long)) (λ k lt. same (suc k) (omega (arith, lt))) in
    let first : one_if (p x) ≡ one_if (q y) = ap one_if (same 0 (omega arith)) in
    omega (arith, count_cons p x xs, count_cons q y ys, rest, first)
