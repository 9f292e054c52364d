-- Steps from a cell to the next one, and what they are for the blocks of the cells.
use Rattle.std.proofs.Common.{◌≡◌, ◌⊎◌, inl, inr, ℕ, zero, suc, ◌+◌, ◌-◌, ◌*◌, ◌/◌, ◌%◌, ◌<◌, ◌≤◌, Bool, true, false, cond, nat_lt, Some, None, refl, arith, ap, subst, sym, ◌∙◌}
use Rattle.std.proofs.Math.Nat.{div-add-mod', lt_of_mul-lt-mul_right, mul-le-mul_left}
use Rattle.std.proofs.lemmas.Bool.{cases_lt, lt-ltb}
use Rattle.std.proofs.lemmas.Bool.Decides.{nat_tests}
use Rattle.std.proofs.lemmas.Nat.{div-mul-add, mod-mul-add, mod_below}
use Rattle.morton_order.specs.Neighbours.{step}

-- a number at the end of a row of n that is met from a side: met upwards it is the first of the row, downwards the last
abbrev pub IsNearEnd : Bool → ℕ → ℕ → Type 0
IsNearEnd true n y = y % n ≡ 0
IsNearEnd false n y = y % n + 1 ≡ n

-- a step from one row to another
pub record Crossed (rows n : ℕ) (wrap high : Bool) (x y : ℕ) : Type 0 where
  pub meets : step rows wrap high (x / n) ≡ Some (y / n)
  pub near : IsNearEnd high n y

record Split (n y q r : ℕ) : Type 0 where
  quotient : y / n ≡ q
  rest : y % n ≡ r

split : (n y q r : ℕ) → r < n → y ≡ q * n + r → Split n y q r
split n y q r h e = record { quotient = ap (λ v. v / n) e ∙ div-mul-add q n r h; rest = ap (λ v. v % n) e ∙ mod-mul-add q n r h }

some_is : (a b : ℕ) → Some a ≡ Some b → a ≡ b
some_is a b h = cc

none_is_not : (a : ℕ) → Some a ≡ None → ⊥
none_is_not a h = cc

is_none : (a : ℕ) → None ≡ Some a → ⊥
is_none a h = cc

lt_true : (a b : ℕ) → nat_lt a b ≡ true → a < b
lt_true a b h = grind (arith, nat_tests)

lt_false : (a b : ℕ) → nat_lt a b ≡ false → b ≤ a
lt_false a b h = grind (arith, nat_tests)

false_lt : (a b : ℕ) → b ≤ a → nat_lt a b ≡ false
false_lt a b h = grind (arith, nat_tests)

-- one up within the lattice
one_up : (rows n x : ℕ) (w : Bool) → 1 ≤ n → x + 1 < rows * n → ((x + 1) / n ≡ x / n) ⊎ Crossed rows n w true x (x + 1)
one_up rows n x w h small =
    let d : x / n * n + x % n ≡ x = div-add-mod' x n in
    let r : x % n < n = mod_below x n h in
    elim (cases_lt (x % n + 1) n) [
      | inl less ↦ inl (split n (x + 1) (x / n) (x % n + 1) less (omega arith)).quotient
      | inr more ↦
          let s = split n (x + 1) (x / n + 1) 0 (omega arith) (omega arith) in
          let below : (x / n + 1) * n < rows * n = omega arith in
          let low : x / n + 1 < rows = lt_of_mul-lt-mul_right n below in
          inr (record { meets = ap (λ (b : Bool). cond b (Some (x / n + 1)) (cond w (Some 0) None)) (lt-ltb (x / n + 1) rows low) ∙ ap (λ (v : ℕ). Some v) (sym s.quotient); near = s.rest })
    ]

-- at the last place
last_row : (rows n x : ℕ) → 1 ≤ n → rows * n ≤ x + 1 → rows ≤ x / n + 1
last_row rows n x h most = elim (cases_lt (x / n + 1) rows) [
  | inl less ↦
      let d : x / n * n + x % n ≡ x = div-add-mod' x n in
      let r : x % n < n = mod_below x n h in
      let more : x / n + 2 ≤ rows = omega arith in
      let e : n * (x / n + 2) ≤ n * rows = mul-le-mul_left n more in
      absurd (omega arith)
  | inr past ↦ past
]

round_up : (rows n x : ℕ) → 1 ≤ n → rows * n ≤ x + 1 → Crossed rows n true true x 0
round_up rows n x h most =
    let s = split n 0 0 0 (omega arith) (omega arith) in
    record { meets = ap (λ (b : Bool). cond b (Some (x / n + 1)) (Some 0)) (false_lt (x / n + 1) rows (last_row rows n x h most)) ∙ ap (λ (v : ℕ). Some v) (sym s.quotient); near = s.rest }

-- one down
one_down : (rows n x : ℕ) (w : Bool) → 1 ≤ n → 0 < x → ((x - 1) / n ≡ x / n) ⊎ Crossed rows n w false x (x - 1)
one_down rows n x w h some =
    let d : x / n * n + x % n ≡ x = div-add-mod' x n in
    let r : x % n < n = mod_below x n h in
    elim (cases_lt 0 (x % n)) [
      | inl more ↦ inl (split n (x - 1) (x / n) (x % n - 1) (omega arith) (omega arith)).quotient
      | inr none ↦ by (x / n) refl
    ]
  where
    by : (q : ℕ) → x / n ≡ q → ((x - 1) / n ≡ x / n) ⊎ Crossed rows n w false x (x - 1)
    by zero e = elim (cases_lt 0 (x % n)) [
      | inl more ↦ inl (split n (x - 1) (x / n) (x % n - 1) (let r : x % n < n = mod_below x n h in omega arith) (let d : x / n * n + x % n ≡ x = div-add-mod' x n in omega arith)).quotient
      | inr none ↦ let d : x / n * n + x % n ≡ x = div-add-mod' x n in let z : x / n * n ≡ 0 * n = ap (λ v. v * n) e in absurd (omega arith)
    ]
    by (suc q) e = elim (cases_lt 0 (x % n)) [
      | inl more ↦ inl (split n (x - 1) (x / n) (x % n - 1) (let r : x % n < n = mod_below x n h in omega arith) (let d : x / n * n + x % n ≡ x = div-add-mod' x n in omega arith)).quotient
      | inr none ↦
          let d : x / n * n + x % n ≡ x = div-add-mod' x n in
          let z : x / n * n ≡ (q + 1) * n = ap (λ v. v * n) (let k : suc q ≡ q + 1 = omega arith in e ∙ k) in
          let s = split n (x - 1) q (n - 1) (omega arith) (omega arith) in
          let up : 0 < x / n = omega arith in
          let one : x / n - 1 ≡ q = omega arith in
          let rest = s.rest in
          inr (record { meets = ap (λ (b : Bool). cond b (Some (x / n - 1)) (cond w (Some (rows - 1)) None)) (lt-ltb 0 (x / n) up) ∙ ap (λ (v : ℕ). Some v) (one ∙ sym s.quotient); near = omega arith })
    ]

round_down : (rows n x : ℕ) → 1 ≤ n → x < rows * n → x ≡ 0 → Crossed rows n true false x (rows * n - 1)
round_down zero n x h small e = absurd (omega arith)
round_down (suc rows) n x h small e =
    let first : x / n ≡ 0 = ap (λ v. v / n) e ∙ (split n 0 0 0 (omega arith) (omega arith)).quotient in
    let s = split n (suc rows * n - 1) rows (n - 1) (omega arith) (omega arith) in
    let one : suc rows - 1 ≡ rows = omega arith in
    let rest = s.rest in
    record {
      meets = ap (λ (v : ℕ). step (suc rows) true false v) first ∙ ap (λ (v : ℕ). Some v) (one ∙ sym s.quotient);
      near = omega arith;
    }

-- a step stays in its row, or goes to the row that the same step goes to
pub crossed : (rows n x y : ℕ) (w high : Bool) → 1 ≤ n → x < rows * n → step (rows * n) w high x ≡ Some y → (y / n ≡ x / n) ⊎ Crossed rows n w high x y
crossed rows n x y w true h small e = by (nat_lt (x + 1) (rows * n)) w refl e
  where
    by : (b v : Bool) → nat_lt (x + 1) (rows * n) ≡ b → cond b (Some (x + 1)) (cond v (Some 0) None) ≡ Some y → (y / n ≡ x / n) ⊎ Crossed rows n v true x y
    by true v t k = subst (λ (z : ℕ). (z / n ≡ x / n) ⊎ Crossed rows n v true x z) (some_is (x + 1) y k) (one_up rows n x v h (lt_true (x + 1) (rows * n) t))
    by false true t k = inr (subst (λ (z : ℕ). Crossed rows n true true x z) (some_is 0 y k) (round_up rows n x h (lt_false (x + 1) (rows * n) t)))
    by false false t k = absurd (is_none y k)
crossed rows n x y w false h small e = by (nat_lt 0 x) w refl e
  where
    by : (b v : Bool) → nat_lt 0 x ≡ b → cond b (Some (x - 1)) (cond v (Some (rows * n - 1)) None) ≡ Some y → (y / n ≡ x / n) ⊎ Crossed rows n v false x y
    by true v t k = subst (λ (z : ℕ). (z / n ≡ x / n) ⊎ Crossed rows n v false x z) (some_is (x - 1) y k) (one_down rows n x v h (lt_true 0 x t))
    by false true t k = let most = lt_false 0 x t in inr (subst (λ (z : ℕ). Crossed rows n true false x z) (some_is (rows * n - 1) y k) (round_down rows n x h small (omega arith)))
    by false false t k = absurd (is_none y k)

-- where a step leads out, it does so for the rows
pub leads_out : (rows n x : ℕ) (w high : Bool) → 1 ≤ n → x < rows * n → step (rows * n) w high x ≡ None → step rows w high (x / n) ≡ None
leads_out rows n x w true h small e = by (nat_lt (x + 1) (rows * n)) w refl e
  where
    by : (b v : Bool) → nat_lt (x + 1) (rows * n) ≡ b → cond b (Some (x + 1)) (cond v (Some 0) None) ≡ None → step rows v true (x / n) ≡ None
    by true v t k = absurd (none_is_not (x + 1) k)
    by false true t k = absurd (none_is_not 0 k)
    by false false t k = ap (λ (b : Bool). cond b (Some (x / n + 1)) None) (false_lt (x / n + 1) rows (last_row rows n x h (lt_false (x + 1) (rows * n) t)))
leads_out rows n x w false h small e = by (nat_lt 0 x) w refl e
  where
    by : (b v : Bool) → nat_lt 0 x ≡ b → cond b (Some (x - 1)) (cond v (Some (rows * n - 1)) None) ≡ None → step rows v false (x / n) ≡ None
    by true v t k = absurd (none_is_not (x - 1) k)
    by false true t k = absurd (none_is_not (rows * n - 1) k)
    by false false t k =
        let most = lt_false 0 x t in
        let nil : x ≡ 0 = omega arith in
        let first : x / n ≡ 0 = ap (λ v. v / n) nil ∙ (split n 0 0 0 (omega arith) (omega arith)).quotient in
        ap (λ (v : ℕ). step rows false false v) first
