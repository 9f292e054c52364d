-- A list made of the numbers of a range that pass a test.
use Rattle.std.proofs.Common.{◌≡◌, ◌⊎◌, inl, inr, ℕ, zero, suc, ◌+◌, ◌<◌, ◌≤◌, Bool, true, false, cond, List, ◌∷◌, Contains, map, refl, arith, ap, sym, ◌∙◌}
use Rattle.std.specs.List.{filter, range_with_len}
use Rattle.std.proofs.lemmas.Bool.{cases_eq, false≢true}
use Rattle.morton_order.specs.declared.space.Loc.{Loc}

-- what stands in a list made of the numbers that pass
pub later : {X : Type 0} (x m : X) (xs : List X) → Contains xs m → Contains (x ∷ xs) m
later x m xs (k, small, at) = (suc k, omega arith, at)

pub record Chosen (p : ℕ → Bool) (f : ℕ → Loc) (a n : ℕ) (m : Loc) : Type 0 where
  pub j : ℕ
  pub low : a ≤ j
  pub high : j < a + n
  pub pass : p j ≡ true
  pub is : f j ≡ m

pub chosen_later : (p : ℕ → Bool) (f : ℕ → Loc) (a n : ℕ) (m : Loc) → Chosen p f (a + 1) n m → Chosen p f a (suc n) m
chosen_later p f a n m c = let low = c.low in let high = c.high in record { j = c.j; low = omega arith; high = omega arith; pass = c.pass; is = c.is }

pub first_or_later : (x m : Loc) (xs : List Loc) → Contains (x ∷ xs) m → (x ≡ m) ⊎ Contains xs m
first_or_later x m xs (zero, small, at) = inl at
first_or_later x m xs (suc k, small, at) = inr (k, omega arith, at)

-- one more number in front
pub step_found : (p : ℕ → Bool) (f : ℕ → Loc) (a n : ℕ) (m : Loc) (b : Bool) → p a ≡ b → (Contains (map f (filter p (range_with_len (a + 1) n))) m → Chosen p f (a + 1) n m) → Contains (map f (cond b (a ∷ filter p (range_with_len (a + 1) n)) (filter p (range_with_len (a + 1) n)))) m → Chosen p f a (suc n) m
step_found p f a n m true e rest h = elim (first_or_later (f a) m (map f (filter p (range_with_len (a + 1) n))) h) [
  | inl is ↦ record { j = a; low = omega arith; high = omega arith; pass = e; is = is }
  | inr among ↦ chosen_later p f a n m (rest among)
]
step_found p f a n m false e rest h = chosen_later p f a n m (rest h)

pub found : (p : ℕ → Bool) (f : ℕ → Loc) (a n : ℕ) (m : Loc) → Contains (map f (filter p (range_with_len a n))) m → Chosen p f a n m
found p f a zero m (k, small, at) = absurd (omega arith)
found p f a (suc n) m h = step_found p f a n m (p a) refl (found p f (a + 1) n m) h

pub step_has : (p : ℕ → Bool) (f : ℕ → Loc) (a n j : ℕ) (b : Bool) → p a ≡ b → a ≤ j → j < a + suc n → p j ≡ true → (a + 1 ≤ j → Contains (map f (filter p (range_with_len (a + 1) n))) (f j)) → Contains (map f (cond b (a ∷ filter p (range_with_len (a + 1) n)) (filter p (range_with_len (a + 1) n)))) (f j)
step_has p f a n j true e low high pass rest = elim (cases_eq a j) [
  | inl is ↦ (0, omega arith, ap f is)
  | inr other ↦ later (f a) (f j) (map f (filter p (range_with_len (a + 1) n))) (rest (omega arith))
]
step_has p f a n j false e low high pass rest = elim (cases_eq a j) [
  | inl is ↦ absurd (false≢true (sym e ∙ ap p is ∙ pass))
  | inr other ↦ rest (omega arith)
]

pub has : (p : ℕ → Bool) (f : ℕ → Loc) (a n j : ℕ) → a ≤ j → j < a + n → p j ≡ true → Contains (map f (filter p (range_with_len a n))) (f j)
has p f a zero j low high pass = absurd (omega arith)
has p f a (suc n) j low high pass = step_has p f a n j (p a) refl low high pass (λ l. has p f (a + 1) n j l (omega arith) pass)

-- the number of a child, and its half
