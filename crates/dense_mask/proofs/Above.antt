-- Whether some total of a field on a leaf is above a threshold.
use Rattle.std.proofs.Common.{◌≡◌, ℕ, Bool, true, false, ◌&&◌, ◌||◌, not, nat_le, nat_lt, List, [], ◌∷◌, map, refl, arith, ap, sym, ◌∙◌}
use Rattle.std.specs.List.{list_all, list_any, range_with_len}
use Rattle.std.proofs.lemmas.Bool.Decides.{nat_tests}
use Rattle.sparse_pool.specs.Idle.{idle}
use Rattle.mesh_rules.specs.Mesh.{Mesh, block_size, cell_at, stored}
use Rattle.mesh_rules.specs.Mask.{has_above}
use Rattle.dense_mask.proofs.Leaves.{HasRow, leaf_at}

any_mapped : (p : ℕ → Bool) (h : ℕ → ℕ) (ks : List ℕ) → list_any (λ k. p (h k)) ks ≡ list_any p (map h ks)
any_mapped p h [] = refl
any_mapped p h (k ∷ ks) = ap (λ (b : Bool). p (h k) || b) (any_mapped p h ks)

above_or_not : (t x : ℕ) → nat_lt t x ≡ not (nat_le x t)
above_or_not t x = grind (arith, nat_tests)

some_or_none : (a b : Bool) → (not a || not b) ≡ not (a && b)
some_or_none true b = refl
some_or_none false b = refl

some_above : (t : ℕ) (xs : List ℕ) → list_any (nat_lt t) xs ≡ not (list_all (λ c. nat_le c t) xs)
some_above t [] = refl
some_above t (x ∷ xs) =
    ap (λ (b : Bool). b || list_any (nat_lt t) xs) (above_or_not t x)
    ∙ ap (λ (b : Bool). not (nat_le x t) || b) (some_above t xs)
    ∙ some_or_none (nat_le x t) (list_all (λ c. nat_le c t) xs)

pub above_is : (t : ℕ) (m : Mesh) (f leaf : ℕ) (cells : List ℕ) → HasRow m f leaf cells → has_above t m f (leaf_at m leaf) ≡ not (idle cells t)
above_is t m f leaf cells has =
    any_mapped (nat_lt t) (λ place. stored m f (cell_at m (leaf_at m leaf) place)) (range_with_len 0 (block_size m))
    ∙ ap (λ (v : List ℕ). list_any (nat_lt t) v) has.row
    ∙ some_above t cells

twice : (b : Bool) → b ≡ not (not b)
twice true = refl
twice false = refl

pub idle_is : (t : ℕ) (m : Mesh) (f leaf : ℕ) (cells : List ℕ) → HasRow m f leaf cells → idle cells t ≡ not (has_above t m f (leaf_at m leaf))
idle_is t m f leaf cells has = twice (idle cells t) ∙ ap not (sym (above_is t m f leaf cells has))
