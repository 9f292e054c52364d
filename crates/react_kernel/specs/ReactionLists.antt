-- Proof, for the laws of the kernel: numbers added and taken in lists.
use Rattle.std.proofs.Common.{◌≡◌, ◌≢◌, ◌∙◌, sym, ap, inl, inr, ℕ, ◌+◌, ◌-◌, ◌*◌, ◌/◌, ◌<◌, ◌≤◌, nat_eq, List, length, replicate, slice_index, sum, arith}
use Rattle.std.proofs.Math.Nat.{div-mul-le_self, mul-le-mul_left, le_of_mul-le-mul_right}
use Rattle.std.proofs.lemmas.Bool.{cases_eq, eq-eqb, ne_eqb, cond-true, cond-false}
use Rattle.std.proofs.lemmas.List.{get_or-set_same, get_or-set_other, ext_get_or, get_or-replicate, length-replicate}
use Rattle.std.proofs.lemmas.List.Sums.{sum_by-set, get_or-le-sum_by}
use Rattle.std.proofs.lemmas.List.Folds.{sum_by-replicate}
use Rattle.mesh_num.specs.Portion.{portion}
use Rattle.mesh_rules.specs.Reaction.{added, taken}
use Rattle.react_kernel.specs.Steps.{only_at}

pub only_here : (field amount f : ℕ) → f ≡ field → only_at field amount f ≡ amount
only_here field amount f e = cond-true (nat_eq f field) amount 0 (eq-eqb f field e)

pub only_there : (field amount f : ℕ) → f ≢ field → only_at field amount f ≡ 0
only_there field amount f ne = cond-false (nat_eq f field) amount 0 (ne_eqb f field ne)

pub at_added : (xs : List ℕ) (i n f : ℕ) → i < length xs → slice_index (added xs i n) f ≡ slice_index xs f + only_at i n f
at_added xs i n f h = elim (cases_eq f i) [
  | inl e ↦ ap (λ (k : ℕ). slice_index (added xs i n) k) e
      ∙ (get_or-set_same xs i (slice_index xs i + n) 0 h
      ∙ (ap (λ (k : ℕ). slice_index xs k + n) (sym e)
      ∙ ap (λ (k : ℕ). slice_index xs f + k) (sym (only_here i n f e))))
  | inr ne ↦ get_or-set_other xs i f (slice_index xs i + n) 0 ne
      ∙ let z : only_at i n f ≡ 0 = only_there i n f ne in omega arith
]

pub at_taken : (xs : List ℕ) (i n f : ℕ) → i < length xs → slice_index (taken xs i n) f ≡ slice_index xs f - only_at i n f
at_taken xs i n f h = elim (cases_eq f i) [
  | inl e ↦ ap (λ (k : ℕ). slice_index (taken xs i n) k) e
      ∙ (get_or-set_same xs i (slice_index xs i - n) 0 h
      ∙ (ap (λ (k : ℕ). slice_index xs k - n) (sym e)
      ∙ ap (λ (k : ℕ). slice_index xs f - k) (sym (only_here i n f e))))
  | inr ne ↦ get_or-set_other xs i f (slice_index xs i - n) 0 ne
      ∙ let z : only_at i n f ≡ 0 = only_there i n f ne in omega arith
]

pub only_within : (xs : List ℕ) (i n f : ℕ) → n ≤ slice_index xs i → only_at i n f ≤ slice_index xs f
only_within xs i n f h = elim (cases_eq f i) [
  | inl e ↦ let a : only_at i n f ≡ n = only_here i n f e in
      let b : slice_index xs f ≡ slice_index xs i = ap (λ (k : ℕ). slice_index xs k) e in omega arith
  | inr ne ↦ let a : only_at i n f ≡ 0 = only_there i n f ne in omega arith
]

pub only_most : (i n f : ℕ) → only_at i n f ≤ n
only_most i n f = elim (cases_eq f i) [
  | inl e ↦ let a : only_at i n f ≡ n = only_here i n f e in omega arith
  | inr ne ↦ let a : only_at i n f ≡ 0 = only_there i n f ne in omega arith
]

pub sum_added : (xs : List ℕ) (i n : ℕ) → i < length xs → sum (added xs i n) ≡ sum xs + n
sum_added xs i n h =
    let e : sum (added xs i n) + slice_index xs i ≡ sum xs + (slice_index xs i + n) = sum_by-set (λ (x : ℕ). x) xs i (slice_index xs i + n) 0 h in
    omega arith

pub sum_taken : (xs : List ℕ) (i n : ℕ) → i < length xs → n ≤ slice_index xs i → sum (taken xs i n) + n ≡ sum xs
sum_taken xs i n h within =
    let e : sum (taken xs i n) + slice_index xs i ≡ sum xs + (slice_index xs i - n) = sum_by-set (λ (x : ℕ). x) xs i (slice_index xs i - n) 0 h in
    omega arith

pub item_within : (xs : List ℕ) (i : ℕ) → i < length xs → slice_index xs i ≤ sum xs
item_within xs i h = get_or-le-sum_by (λ (x : ℕ). x) xs i 0 h

pub sum_zeros : (n : ℕ) → sum (replicate n 0) ≡ 0
sum_zeros n = sum_by-replicate (λ (x : ℕ). x) n 0 ∙ omega arith

pub zeros_list : (xs : List ℕ) (n : ℕ) → length xs ≡ n → ((f : ℕ) → f < n → slice_index xs f ≡ 0) → xs ≡ replicate n 0
zeros_list xs n many zeros =
    ext_get_or 0 xs (replicate n 0) (many ∙ sym (length-replicate n 0)) (λ f h. zeros f (omega arith) ∙ sym (get_or-replicate n f 0 0 (omega arith)))

pub portion_within : (q c d : ℕ) → 1 ≤ d → c ≤ d → portion q c d ≤ q
portion_within q c d positive proper =
    let a : q * c / d * d ≤ q * c = div-mul-le_self (q * c) d in
    let b : q * c ≤ q * d = mul-le-mul_left q proper in
    le_of_mul-le-mul_right (omega (arith, a, b)) positive
