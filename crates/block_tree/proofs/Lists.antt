-- Lists, read place by place.
use Rattle.std.proofs.Common.{◌≡◌, ℕ, zero, suc, ◌+◌, ◌<◌, List, [], ◌∷◌, Some, None, length, drop, arith, ap, sym, ◌∙◌}
use Rattle.std.specs.List.{slice_get}
use Rattle.block_tree.specs.Around.{with_parent, with_parents}
use Rattle.morton_order.specs.declared.space.Loc.{Loc}

-- an item, and what follows it
pub drop_at : {X : Type 0} (xs : List X) (i : ℕ) (x : X) → slice_get xs i ≡ Some x → drop i xs ≡ x ∷ drop (i + 1) xs
drop_at [] i x h = absurd (none_is_not x h)
  where
    none_is_not : {Z : Type 0} (z : Z) → None ≡ Some z → ⊥
    none_is_not z h = cc
drop_at (y ∷ xs) zero x h = ap (λ v. v ∷ xs) (some_is y x h)
  where
    some_is : {Z : Type 0} (a b : Z) → Some a ≡ Some b → a ≡ b
    some_is a b h = cc
drop_at (y ∷ xs) (suc i) x h = let e : suc i + 1 ≡ suc (i + 1) = omega arith in drop_at xs i x h ∙ ap (λ v. x ∷ drop v (y ∷ xs)) (sym e)

-- within a list there is an item
pub some_within : {X : Type 0} {P : Type 0} (xs : List X) (i : ℕ) → i < length xs → slice_get xs i ≡ None → P
some_within [] i h e = absurd (omega arith)
some_within (x ∷ xs) zero h e = absurd (clash x e)
  where
    clash : {Z : Type 0} (z : Z) → Some z ≡ None → ⊥
    clash z h = cc
some_within (x ∷ xs) (suc i) h e = some_within xs i (omega arith) e

-- the step of the loop that adds parents
pub parents_step : (dims : ℕ) (ns ms all : List Loc) (xs : List Loc) (i : ℕ) (x : Loc) → with_parents dims ns (drop i xs) ≡ all → Some x ≡ slice_get xs i → ms ≡ with_parent dims ns x → with_parents dims ms (drop (i + 1) xs) ≡ all
parents_step dims ns ms all xs i x h at is = ap (λ (v : List Loc). with_parents dims v (drop (i + 1) xs)) is ∙ sym (ap (with_parents dims ns) (drop_at xs i x (sym at))) ∙ h
