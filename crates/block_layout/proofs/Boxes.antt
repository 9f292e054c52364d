-- Numbers and indices of boxes.
use Rattle.std.proofs.Common.{◌≡◌, ℕ, zero, suc, ◌+◌, ◌*◌, ◌/◌, ◌%◌, ◌<◌, ◌∙◌, ap, arith, List, slice_index}
use Rattle.std.proofs.Math.Nat.{div-lt_iff_lt-mul}
use Rattle.std.proofs.lemmas.Nat.{div-add-mod', div-mul-add, mod-mul-add, mul-add-lt}
use Rattle.block_layout.specs.Indices.{IsWithin, count_of, index_of, number_of}
use Rattle.block_layout.specs.Laws.{IsSame, NumbersAreIndices}

-- a row and a column
pub row_below : (x y n m : ℕ) → x < n → y < m → x + n * y < n * m
row_below x y n m h k = let r = mul-add-lt y n x m k h in omega arith

pub number_below : (i1 i2 i3 n1 n2 n3 : ℕ) → i1 < n1 → i2 < n2 → i3 < n3 → i1 + n1 * (i2 + n2 * i3) < n1 * n2 * n3
number_below i1 i2 i3 n1 n2 n3 h1 h2 h3 =
    let r = row_below i1 (i2 + n2 * i3) n1 (n2 * n3) h1 (row_below i2 i3 n2 n3 h2 h3) in omega arith

-- the factors of a product above a number
pub positive : (n m k : ℕ) → k < n * m → 0 < n
positive zero m k h = omega arith
positive (suc n) m k h = omega arith

-- a quotient of a number below a product
pub quotient_below : (k n m : ℕ) → k < n * m → k / n < m
quotient_below k n m h = (div-lt_iff_lt-mul (positive n m k h)).1 (omega arith)

pub mod_below : (k n : ℕ) → 0 < n → k % n < n
mod_below k n h = omega arith

-- a number put together again from the number along an axis and the rest
pub put_together : (k n : ℕ) → k % n + n * (k / n) ≡ k
put_together k n = let r = div-add-mod' k n in omega arith

pub index_below : (n : List ℕ) (k : ℕ) → k < count_of n → IsWithin n (index_of n k)
index_below n k h =
    let n1 = slice_index n 0 in let n2 = slice_index n 1 in let n3 = slice_index n 2 in
    let whole : k < n1 * (n2 * n3) = omega arith in
    let rest : k / n1 < n2 * n3 = quotient_below k n1 (n2 * n3) whole in
    record {
      along1 = mod_below k n1 (positive n1 (n2 * n3) k whole);
      along2 = mod_below (k / n1) n2 (positive n2 n3 (k / n1) rest);
      along3 = quotient_below (k / n1) n2 n3 rest;
    }

pub index_number : (n : List ℕ) (k : ℕ) → number_of n (index_of n k) ≡ k
index_number n k =
    let n1 = slice_index n 0 in let n2 = slice_index n 1 in
    ap (λ t. k % n1 + n1 * t) (put_together (k / n1) n2) ∙ put_together k n1

-- the number along an axis, and the rest, of a number
pub first_digit : (x y n : ℕ) → x < n → (x + n * y) % n ≡ x
first_digit x y n h = ap (λ t. t % n) (omega arith) ∙ mod-mul-add y n x h

pub other_digits : (x y n : ℕ) → x < n → (x + n * y) / n ≡ y
other_digits x y n h = ap (λ t. t / n) (omega arith) ∙ div-mul-add y n x h

pub number_index : (n i : List ℕ) → IsWithin n i → IsSame (index_of n (number_of n i)) i
number_index n i w =
    let n1 = slice_index n 0 in let n2 = slice_index n 1 in
    let i1 = slice_index i 0 in let i2 = slice_index i 1 in let i3 = slice_index i 2 in
    let rest = other_digits i1 (i2 + n2 * i3) n1 w.along1 in
    record {
      along1 = first_digit i1 (i2 + n2 * i3) n1 w.along1;
      along2 = ap (λ t. t % n2) rest ∙ first_digit i2 i3 n2 w.along2;
      along3 = ap (λ t. t / n2) rest ∙ other_digits i2 i3 n2 w.along2;
    }

pub number_bound : (n i : List ℕ) → IsWithin n i → number_of n i < count_of n
number_bound n i w = number_below (slice_index i 0) (slice_index i 1) (slice_index i 2) (slice_index n 0) (slice_index n 1) (slice_index n 2) w.along1 w.along2 w.along3

pub number_laws : NumbersAreIndices
number_laws = record { bound = number_bound; within = index_below; number = λ n k h. index_number n k; index = number_index }
