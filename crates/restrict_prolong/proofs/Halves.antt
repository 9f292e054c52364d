-- Halves of the cells of a block.
use Rattle.std.proofs.Common.{◌≡◌, ℕ, ◌*◌, ◌/◌, ◌<◌, ◌≤◌, [], ◌∷◌, sym, ◌∙◌, ap, subst, arith, ⊎_elim}
use Rattle.std.proofs.lemmas.Bool.{cases_lt}
use Rattle.std.proofs.lemmas.Bool.Decides.{nat_tests}
use Rattle.morton_order.specs.Space.{factor}
use Rattle.block_layout.specs.Sizes.{IsCellCount}

pub factor_in_use : (dims axis : ℕ) → axis < dims → factor dims axis ≡ 2
factor_in_use dims axis h = grind (arith, nat_tests)

pub factor_not_in_use : (dims axis : ℕ) → dims ≤ axis → factor dims axis ≡ 1
factor_not_in_use dims axis h = grind (arith, nat_tests)

pub factor_least : (dims axis : ℕ) → 1 ≤ factor dims axis
factor_least dims axis = grind (arith, nat_tests)

pub factor_most : (dims axis : ℕ) → factor dims axis ≤ 2
factor_most dims axis = grind (arith, nat_tests)

-- half of the cells twice
pub half_twice : (dims axis n : ℕ) → IsCellCount dims axis n → factor dims axis * (n / factor dims axis) ≡ n
half_twice dims axis n is =
    ⊎_elim (λ (u : axis < dims). subst (λ (f : ℕ). f * (n / f) ≡ n) (sym (factor_in_use dims axis u)) (omega (arith, is.even u)))
    (λ (u : dims ≤ axis). subst (λ (f : ℕ). f * (n / f) ≡ n) (sym (factor_not_in_use dims axis u)) (omega arith))
    (cases_lt axis dims)

pub same_three : (a b c x y z : ℕ) → a ≡ x → b ≡ y → c ≡ z → a ∷ b ∷ c ∷ [] ≡ x ∷ y ∷ z ∷ []
same_three a b c x y z p q r = ap (λ v. v ∷ b ∷ c ∷ []) p ∙ ap (λ v. x ∷ v ∷ c ∷ []) q ∙ ap (λ v. x ∷ y ∷ v ∷ []) r
