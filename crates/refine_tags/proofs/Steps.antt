-- What is measured in the cells of a row.
use Rattle.std.proofs.Common.{◌≡◌, ℕ, zero, suc, ◌+◌, ◌-◌, ◌<◌, ◌≤◌, Bool, true, false, cond, nat_lt, List, [], ◌∷◌, length, slice_index, refl, arith, ap}
use Rattle.std.proofs.lemmas.Bool.{lt-ltb, ltb-true}
use Rattle.std.proofs.lemmas.Bool.Decides.{nat_tests}
use Rattle.mesh_settings.specs.declared.words.Method.TheVariants.{Jump}
use Rattle.mesh_rules.specs.Sums.{greatest_to}
use Rattle.mesh_rules.specs.Tags.{difference}
use Rattle.block_layout.specs.declared.layout.Layout.{Layout}
use Rattle.block_layout.specs.Sizes.{IsCellCount}
use Rattle.refine_tags.specs.Measures.{measured_at, step_in}
use Rattle.refine_tags.proofs.Greatest.{greatest_above, greatest_least}

-- the differences of two rows are those to what stands beside
pub beside_each : (n : ℕ) (here next : List ℕ) (total : ℕ → ℕ) (result : ℕ) → length here ≡ n → result ≡ greatest_to (length here) (λ x. difference (slice_index here x) (slice_index next x)) →
    ((x : ℕ) → x < n → slice_index next x ≡ total x) → (x : ℕ) → x < n → difference (slice_index here x) (total x) ≤ result
beside_each n here next total result long is same x small =
    let above = greatest_above (length here) (λ x. difference (slice_index here x) (slice_index next x)) x (omega arith) in
    let one = ap (difference (slice_index here x)) (same x small) in
    omega arith

pub beside_least : (n : ℕ) (here next : List ℕ) (total : ℕ → ℕ) (result most : ℕ) → length here ≡ n → result ≡ greatest_to (length here) (λ x. difference (slice_index here x) (slice_index next x)) →
    ((x : ℕ) → x < n → slice_index next x ≡ total x) → ((x : ℕ) → x < n → difference (slice_index here x) (total x) ≤ most) → result ≤ most
beside_least n here next total result most long is same each =
    let least = greatest_least (length here) (λ x. difference (slice_index here x) (slice_index next x)) most
    (λ x small. let one = ap (difference (slice_index here x)) (same x (omega arith)) in let two = each x (omega arith) in omega arith) in
    omega arith

-- the differences to the next cells of a cell are no greater than a number
pub record StepsBelow (l : Layout) (total : List ℕ → ℕ) (x row plane most : ℕ) : Type 0 where
  pub along1 : x + 1 < slice_index l.cells 0 → difference (total (x ∷ row ∷ plane ∷ [])) (total ((x + 1) ∷ row ∷ plane ∷ [])) ≤ most
  pub along2 : row + 1 < slice_index l.cells 1 → difference (total (x ∷ row ∷ plane ∷ [])) (total (x ∷ (row + 1) ∷ plane ∷ [])) ≤ most
  pub along3 : plane + 1 < slice_index l.cells 2 → difference (total (x ∷ row ∷ plane ∷ [])) (total (x ∷ row ∷ (plane + 1) ∷ [])) ≤ most

where_next : (t : Bool) (d most : ℕ) → (t ≡ true → d ≤ most) → cond t d 0 ≤ most
where_next true d most h = h refl
where_next false d most h = omega arith

pub jump_below : (l : Layout) (total : List ℕ → ℕ) (x row plane most : ℕ) → StepsBelow l total x row plane most → measured_at Jump l total (x ∷ row ∷ plane ∷ []) ≤ most
jump_below l total x row plane most below = greatest_least l.dims (step_in l total (x ∷ row ∷ plane ∷ [])) most (λ axis h. by axis (omega (arith, l.sound.most)))
  where
    by : (axis : ℕ) → axis < 3 → step_in l total (x ∷ row ∷ plane ∷ []) axis ≤ most
    by zero h = where_next (nat_lt (x + 1) (slice_index l.cells 0)) _ most (λ e. below.along1 (ltb-true (x + 1) (slice_index l.cells 0) e))
    by (suc zero) h = where_next (nat_lt (row + 1) (slice_index l.cells 1)) _ most (λ e. below.along2 (ltb-true (row + 1) (slice_index l.cells 1) e))
    by (suc (suc zero)) h = where_next (nat_lt (plane + 1) (slice_index l.cells 2)) _ most (λ e. below.along3 (ltb-true (plane + 1) (slice_index l.cells 2) e))
    by (suc (suc (suc a))) h = absurd (omega arith)

-- an axis with a next cell is in use
in_use : (dims axis n x : ℕ) → IsCellCount dims axis n → x + 1 < n → axis < dims
in_use dims axis n x is h = let most = is.most in grind (arith, nat_tests)

next_is : (t : Bool) (d : ℕ) → t ≡ true → cond t d 0 ≡ d
next_is true d e = refl
next_is false d e = cc

pub below_jump : (l : Layout) (total : List ℕ → ℕ) (x row plane most : ℕ) → measured_at Jump l total (x ∷ row ∷ plane ∷ []) ≤ most → StepsBelow l total x row plane most
below_jump l total x row plane most h = record {
  along1 = λ next.
      let above = greatest_above l.dims (step_in l total (x ∷ row ∷ plane ∷ [])) 0 (omega (arith, l.sound.least)) in
      let is : step_in l total (x ∷ row ∷ plane ∷ []) 0 ≡ difference (total (x ∷ row ∷ plane ∷ [])) (total ((x + 1) ∷ row ∷ plane ∷ [])) = next_is (nat_lt (x + 1) (slice_index l.cells 0)) _ (lt-ltb (x + 1) (slice_index l.cells 0) next) in
      omega arith;
  along2 = λ next.
      let above = greatest_above l.dims (step_in l total (x ∷ row ∷ plane ∷ [])) 1 (in_use l.dims 1 (slice_index l.cells 1) row l.sound.cells2 next) in
      let is : step_in l total (x ∷ row ∷ plane ∷ []) 1 ≡ difference (total (x ∷ row ∷ plane ∷ [])) (total (x ∷ (row + 1) ∷ plane ∷ [])) = next_is (nat_lt (row + 1) (slice_index l.cells 1)) _ (lt-ltb (row + 1) (slice_index l.cells 1) next) in
      omega arith;
  along3 = λ next.
      let above = greatest_above l.dims (step_in l total (x ∷ row ∷ plane ∷ [])) 2 (in_use l.dims 2 (slice_index l.cells 2) plane l.sound.cells3 next) in
      let is : step_in l total (x ∷ row ∷ plane ∷ []) 2 ≡ difference (total (x ∷ row ∷ plane ∷ [])) (total (x ∷ row ∷ (plane + 1) ∷ [])) = next_is (nat_lt (plane + 1) (slice_index l.cells 2)) _ (lt-ltb (plane + 1) (slice_index l.cells 2) next) in
      omega arith;
}

-- the greatest step along a row
pub row_each : (n : ℕ) (here : List ℕ) (total : ℕ → ℕ) (result x : ℕ) → length here ≡ n → result ≡ greatest_to (length here - 1) (λ x. difference (slice_index here x) (slice_index here (x + 1))) →
    ((x : ℕ) → x < n → slice_index here x ≡ total x) → x + 1 < n → difference (total x) (total (x + 1)) ≤ result
row_each n here total result x long is same next =
    let above = greatest_above (length here - 1) (λ x. difference (slice_index here x) (slice_index here (x + 1))) x (omega arith) in
    let one = ap (λ v. difference v (slice_index here (x + 1))) (same x (omega arith)) in
    let two = ap (difference (total x)) (same (x + 1) next) in
    omega arith

pub row_least : (n : ℕ) (here : List ℕ) (total : ℕ → ℕ) (result most : ℕ) → length here ≡ n → result ≡ greatest_to (length here - 1) (λ x. difference (slice_index here x) (slice_index here (x + 1))) →
    ((x : ℕ) → x < n → slice_index here x ≡ total x) → ((x : ℕ) → x + 1 < n → difference (total x) (total (x + 1)) ≤ most) → result ≤ most
row_least n here total result most long is same each =
    let least = greatest_least (length here - 1) (λ x. difference (slice_index here x) (slice_index here (x + 1))) most
    (λ x small.
    let one = ap (λ v. difference v (slice_index here (x + 1))) (same x (omega arith)) in
    let two = ap (difference (total x)) (same (x + 1) (omega arith)) in
    let three = each x (omega arith) in
    omega arith) in
    omega arith

-- the greatest number of a row
pub peak_each : (n : ℕ) (here : List ℕ) (total : ℕ → ℕ) (result x : ℕ) → length here ≡ n → result ≡ greatest_to (length here) (slice_index here) → ((x : ℕ) → x < n → slice_index here x ≡ total x) → x < n → total x ≤ result
peak_each n here total result x long is same small =
    let above = greatest_above (length here) (slice_index here) x (omega arith) in
    let one = same x small in
    omega arith

pub peak_least : (n : ℕ) (here : List ℕ) (total : ℕ → ℕ) (result most : ℕ) → length here ≡ n → result ≡ greatest_to (length here) (slice_index here) → ((x : ℕ) → x < n → slice_index here x ≡ total x) → ((x : ℕ) → x < n → total x ≤ most) → result ≤ most
peak_least n here total result most long is same each =
    let least = greatest_least (length here) (slice_index here) most (λ x small. let one = same x (omega arith) in let two = each x (omega arith) in omega arith) in
    omega arith
