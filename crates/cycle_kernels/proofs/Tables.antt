-- Tables, and lists of zeros.
use Rattle.std.proofs.Common.{◌≡◌, ◌==◌, ℕ, zero, suc, ◌+◌, Bool, true, false, cond, nat_lt, List, [], ◌∷◌, ◌++◌, length, map, replicate, slice_index, sum, refl, arith, ap, sym, ◌∙◌}
use Rattle.std.specs.List.{list_all, range_with_len}
use Rattle.std.proofs.lemmas.Bool.{and_parts, eqb-true, le-ltb, or_from}
use Rattle.std.proofs.lemmas.List.{ext_get_or, length-replicate}
use Rattle.std.proofs.lemmas.List.Folds.{sum_by-replicate}
use Rattle.std.proofs.lemmas.List.FromFn.{length-map-range_with_len}
use Rattle.mesh_rules.specs.Sums.{table}
use Rattle.mesh_rules.specs.Mask.{some_above}

-- a list that is zero everywhere
abbrev pub AllZero : List ℕ → Type 0
AllZero xs = (k : ℕ) → slice_index xs k ≡ 0

pub zero_here : (n k : ℕ) → slice_index (replicate n 0) k ≡ 0
zero_here zero k = refl
zero_here (suc n) zero = refl
zero_here (suc n) (suc k) = zero_here n k

pub none_here : (k : ℕ) → slice_index [] k ≡ 0
none_here k = refl

pub zeros_by : (xs : List ℕ) (n : ℕ) → length xs ≡ n → AllZero xs → xs ≡ replicate n 0
zeros_by xs n many zeros = ext_get_or 0 xs (replicate n 0) (many ∙ sym (length-replicate n 0)) (λ k h. zeros k ∙ sym (zero_here n k))

pub table_long : {X : Type 0} (n : ℕ) (f : ℕ → X) → length (table n f) ≡ n
table_long n f = length-map-range_with_len f 0 n

zero_range : (f : ℕ → ℕ) (a n : ℕ) → ((k : ℕ) → f k ≡ 0) → map f (range_with_len a n) ≡ replicate n 0
zero_range f a zero h = refl
zero_range f a (suc n) h = ap (λ v. v ∷ map f (range_with_len (a + 1) n)) (h a) ∙ ap (λ v. 0 ∷ v) (zero_range f (a + 1) n h)

pub zero_table : (n : ℕ) (f : ℕ → ℕ) → ((k : ℕ) → f k ≡ 0) → table n f ≡ replicate n 0
zero_table n f h = zero_range f 0 n h

abbrev pub zeros : ℕ → List ℕ
zeros n = replicate n 0

pub same_zeros : (n m : ℕ) → n ≡ m → zeros n ≡ zeros m
same_zeros n m e = ap zeros e

pub zero_parts : (n m : ℕ) → zeros n ++ zeros m ≡ zeros (n + m)
zero_parts zero m = same_zeros m (0 + m) (omega arith)
zero_parts (suc n) m = ap (λ v. 0 ∷ v) (zero_parts n m) ∙ same_zeros (suc (n + m)) (suc n + m) (omega arith)

-- a blank list
pub blank_zeros : (xs : List ℕ) → list_all (λ total. total == 0) xs ≡ true → xs ≡ replicate (length xs) 0
blank_zeros [] h = refl
blank_zeros (x ∷ xs) h =
    let p = and_parts (x == 0) (list_all (λ total. total == 0) xs) h in
    ap (λ v. v ∷ xs) (eqb-true x 0 p.0) ∙ ap (λ v. 0 ∷ v) (blank_zeros xs p.1)

-- no zero is above anything
pub none_above : (threshold n : ℕ) → some_above threshold (replicate n 0) ≡ false
none_above threshold zero = refl
none_above threshold (suc n) = or_from (nat_lt threshold 0) (some_above threshold (replicate n 0)) (le-ltb threshold 0 (omega arith)) (none_above threshold n)

pub zero_sum : (n : ℕ) → sum (replicate n 0) ≡ 0
zero_sum n = sum_by-replicate (λ (x : ℕ). x) n 0 ∙ omega arith

pub same_either : {X : Type 0} (b : Bool) (x : X) → cond b x x ≡ x
same_either true x = refl
same_either false x = refl
