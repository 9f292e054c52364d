-- Sums over the numbers below a bound.
use Rattle.std.proofs.Common.{◌≡◌, ℕ, zero, suc, ◌+◌, ◌*◌, ◌/◌, ◌%◌, ◌<◌, ◌≤◌, refl, subst, sym, arith, add-one, inl, inr}
use Rattle.std.proofs.Math.Nat.{eq-or-lt_of_le}
use Rattle.mesh_rules.specs.Sums.{sum_to}

pub sum_more : (n : ℕ) (g : ℕ → ℕ) → sum_to (n + 1) g ≡ sum_to n g + g n
sum_more n g = rw add-one refl

-- a sum over fewer numbers is no greater
pub sum_fewer : (n m : ℕ) (g : ℕ → ℕ) → n ≤ m → sum_to n g ≤ sum_to m g
sum_fewer n zero g h = let e : n ≡ 0 = omega arith in subst (λ (v : ℕ). sum_to v g ≤ 0) (sym e) (omega arith)
sum_fewer n (suc m) g h =
    elim (eq-or-lt_of_le h) [
      | inl e ↦ subst (λ (v : ℕ). sum_to v g ≤ sum_to (suc m) g) (sym e) (omega arith)
      | inr less ↦ omega (arith, sum_fewer n m g (omega (arith, less)))
    ]

-- nor is one with the next number added
pub sum_next : (n m : ℕ) (g : ℕ → ℕ) → n < m → sum_to n g + g n ≤ sum_to m g
sum_next n m g h = omega (arith, sum_fewer (n + 1) m g (omega arith), sum_more n g)

pub sum_same : (n : ℕ) (g h : ℕ → ℕ) → ((k : ℕ) → k < n → g k ≡ h k) → sum_to n g ≡ sum_to n h
sum_same zero g h same = refl
sum_same (suc n) g h same =
    let before : sum_to n g ≡ sum_to n h = sum_same n g h (λ k l. same k (omega arith)) in
    let here : g n ≡ h n = same n (omega arith) in
    omega (arith, before, here)

-- a fact of one and of two is one of each factor
pub by_factor : (P : ℕ → Type 0) (f : ℕ) → 1 ≤ f → f ≤ 2 → P 1 → P 2 → P f
by_factor P zero a b p q = absurd (omega arith)
by_factor P (suc zero) a b p q = p
by_factor P (suc (suc zero)) a b p q = q
by_factor P (suc (suc (suc f))) a b p q = absurd (omega arith)

-- the sum over parts in order, and axis by axis
abbrev pub in_order : ℕ → ℕ → ℕ → (ℕ → ℕ → ℕ → ℕ) → ℕ
in_order f0 f1 f2 h = sum_to (f0 * f1 * f2) (λ j. h (j % f0) (j / f0 % f1) (j / f0 / f1))

abbrev pub by_axes : ℕ → ℕ → ℕ → (ℕ → ℕ → ℕ → ℕ) → ℕ
by_axes f0 f1 f2 h = sum_to f2 (λ c. sum_to f1 (λ b. sum_to f0 (λ a. h a b c)))

pub axis_by_axis : (f0 f1 f2 : ℕ) (h : ℕ → ℕ → ℕ → ℕ) → 1 ≤ f0 → f0 ≤ 2 → 1 ≤ f1 → f1 ≤ 2 → 1 ≤ f2 → f2 ≤ 2 → in_order f0 f1 f2 h ≡ by_axes f0 f1 f2 h
axis_by_axis f0 f1 f2 h a0 b0 a1 b1 a2 b2 =
    by_factor (λ v. in_order v f1 f2 h ≡ by_axes v f1 f2 h) f0 a0 b0
    (by_factor (λ v. in_order 1 v f2 h ≡ by_axes 1 v f2 h) f1 a1 b1
    (by_factor (λ v. in_order 1 1 v h ≡ by_axes 1 1 v h) f2 a2 b2 (omega arith) (omega arith))
    (by_factor (λ v. in_order 1 2 v h ≡ by_axes 1 2 v h) f2 a2 b2 (omega arith) (omega arith)))
    (by_factor (λ v. in_order 2 v f2 h ≡ by_axes 2 v f2 h) f1 a1 b1
    (by_factor (λ v. in_order 2 1 v h ≡ by_axes 2 1 v h) f2 a2 b2 (omega arith) (omega arith))
    (by_factor (λ v. in_order 2 2 v h ≡ by_axes 2 2 v h) f2 a2 b2 (omega arith) (omega arith)))
