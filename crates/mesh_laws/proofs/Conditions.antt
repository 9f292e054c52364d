-- Sums and options under tests.
use Rattle.std.proofs.Common.{◌≡◌, ℕ, zero, suc, ◌+◌, Bool, true, false, cond, not, ◌&&◌, Option, Some, None, List, ◌∷◌, refl, arith, ap, sym, ◌∙◌}
use Rattle.std.specs.List.{filter, range_with_len}
use Rattle.std.proofs.lemmas.Bool.{false≢true}
use Rattle.morton_order.specs.declared.space.Loc.{Loc}
use Rattle.mesh_rules.specs.Sums.{sum_over, sum_to}
use Rattle.mesh_laws.proofs.Grids.{at_option, sum_over-range, sum_zero}
use Rattle.mesh_laws.proofs.Totals.{sum_to-same}

-- what there is, where a test holds
pub cond_at : {X : Type 0} (b : Bool) (o : Option X) (g : X → ℕ) → cond b (at_option o g) 0 ≡ at_option o (λ x. cond b (g x) 0)
cond_at true None g = refl
cond_at false None g = refl
cond_at b (Some x) g = refl

pub at_same : {X : Type 0} (o : Option X) (g h : X → ℕ) → ((x : X) → o ≡ Some x → g x ≡ h x) → at_option o g ≡ at_option o h
at_same None g h e = refl
at_same (Some x) g h e = e x refl

pub at_plus : {X : Type 0} (o : Option X) (g h : X → ℕ) → at_option o (λ x. g x + h x) ≡ at_option o g + at_option o h
at_plus None g h = refl
at_plus (Some x) g h = refl

pub cond_plus : (b : Bool) (x y : ℕ) → cond b (x + y) 0 ≡ cond b x 0 + cond b y 0
cond_plus true x y = refl
cond_plus false x y = refl

pub cond_swap : (a b : Bool) (x : ℕ) → cond a (cond b x 0) 0 ≡ cond b (cond a x 0) 0
cond_swap true true x = refl
cond_swap true false x = refl
cond_swap false true x = refl
cond_swap false false x = refl

-- a sum over the numbers that pass
pub step_filter : (p : ℕ → Bool) (xs : List ℕ) (g : ℕ → ℕ) (a r : ℕ) (b : Bool) → sum_over xs g ≡ r → sum_over (cond b (a ∷ xs) xs) g ≡ cond b (g a) 0 + r
step_filter p xs g a r true e = omega arith
step_filter p xs g a r false e = omega arith

pub filter_sum : (p : ℕ → Bool) (g : ℕ → ℕ) (a n : ℕ) → sum_over (filter p (range_with_len a n)) g ≡ sum_over (range_with_len a n) (λ j. cond (p j) (g j) 0)
filter_sum p g a zero = refl
filter_sum p g a (suc n) = step_filter p (filter p (range_with_len (a + 1) n)) g a (sum_over (range_with_len (a + 1) n) (λ j. cond (p j) (g j) 0)) (p a) (filter_sum p g (a + 1) n)

pub passing_sum : (p : ℕ → Bool) (g : ℕ → ℕ) (n : ℕ) → sum_over (filter p (range_with_len 0 n)) g ≡ sum_to n (λ j. cond (p j) (g j) 0)
passing_sum p g n = filter_sum p g 0 n ∙ sum_over-range 0 n (λ j. cond (p j) (g j) 0)
    ∙ sum_to-same n (λ j. cond (p (0 + j)) (g (0 + j)) 0) (λ j. cond (p j) (g j) 0) (λ j l. let e : 0 + j ≡ j = omega arith in ap (λ t. cond (p t) (g t) 0) e)

-- a sum under tests that do not depend on its number
pub under : (n : ℕ) (b : Bool) (g : ℕ → ℕ) → cond b (sum_to n g) 0 ≡ sum_to n (λ j. cond b (g j) 0)
under n true g = refl
under n false g = sym (sum_zero n (λ _. 0) (λ i l. refl))

pub under_option : (n : ℕ) (o : Option Loc) (g : Loc → ℕ → ℕ) → at_option o (λ c. sum_to n (g c)) ≡ sum_to n (λ j. at_option o (λ c. g c j))
under_option n None g = sym (sum_zero n (λ _. 0) (λ i l. refl))
under_option n (Some c) g = refl

-- nothing counts where the half is the other one
pub zero_at : (o : Option Loc) (a : Loc → Bool) (b : Bool) (x : ℕ) → at_option o (λ c. cond (a c) (cond b (cond false x 0) 0) 0) ≡ 0
zero_at None a b x = refl
zero_at (Some c) a b x = by (a c) b
  where
    by : (p q : Bool) → ◌≡◌ {A = ℕ} (cond p (cond q 0 0) 0) 0
    by true true = refl
    by true false = refl
    by false q = refl

pub zero_under : (b : Bool) (x : ℕ) → x ≡ 0 → cond b x 0 ≡ 0
zero_under true x e = e
zero_under false x e = refl

-- the tests of a crossing from a finer leaf to a coarser one, from either side
pub crossing_tests : (a b c q : Bool) (x : ℕ) → (q ≡ true → b ≡ true) → (c ≡ true → a ≡ true) → cond (a && not b) (cond c x 0) 0 ≡ cond (c && not q) (cond b 0 x) 0
crossing_tests true true true true x g h = refl
crossing_tests true true true false x g h = refl
crossing_tests true true false q x g h = refl
crossing_tests false true true q x g h = absurd (false≢true (h refl))
crossing_tests false true false q x g h = refl
crossing_tests a false c true x g h = absurd (false≢true (g refl))
crossing_tests true false true false x g h = refl
crossing_tests true false false false x g h = refl
crossing_tests false false true false x g h = absurd (false≢true (h refl))
crossing_tests false false false false x g h = refl
