-- Going over the names of the blocks of a deck.
use Rattle.std.proofs.Common.{◌≡◌, ◌<◌, ◌+◌, ◌++◌, ◌∷◌, [], ℕ, zero, suc, Bool, true, false, cond, List, length, filter, map, take, Option, Some, None, IsSome, Bor, refl, arith}
use Rattle.std.specs.Option.{option_copied}
use Rattle.input_file.specs.Texts.{Text}
use Rattle.input_file.specs.Blocks.{Blocks, name_at}

-- the block of an index within the deck is there
is_some_name : (d : Blocks) (i : ℕ) → i < length d → IsSome (name_at d i)
is_some_name [] i h = absurd (omega arith)
is_some_name (e ∷ es) zero h = refl
is_some_name (e ∷ es) (suc i) h = is_some_name es i (omega arith)

-- the same of what a look-up found
pub is_some_block : (d : Blocks) (i : ℕ) (r : Option (Bor (List ℕ))) → option_copied r ≡ name_at d i → i < length d → IsSome r
is_some_block d i (Some x) e h = refl
is_some_block d i None e h = let q = is_some_name d i h in cc

-- an item before an appended list
cond_append : {A : Type 0} (b : Bool) (x : A) (xs ys : List A) → cond b (x ∷ xs ++ ys) (xs ++ ys) ≡ cond b (x ∷ xs) xs ++ ys
cond_append true x xs ys = refl
cond_append false x xs ys = refl

-- one more block, at a successor
filter_suc : (p : Text → Bool) (d : Blocks) (i : ℕ) (name : Text) → name_at d i ≡ Some name → filter p (map (λ e. e.0) (take (suc i) d)) ≡ filter p (map (λ e. e.0) (take i d)) ++ filter p (name ∷ [])
filter_suc p [] i name h = cc
filter_suc p (e ∷ es) zero name h = let q : e.0 ≡ name = cc in rw (← q) refl
filter_suc p (e ∷ es) (suc i) name h = rw (filter_suc p es i name h) (cond_append (p e.0) e.0 _ _)

-- one more block
pub filter_more : (p : Text → Bool) (d : Blocks) (i : ℕ) (name : Text) → name_at d i ≡ Some name → filter p (map (λ e. e.0) (take (i + 1) d)) ≡ filter p (map (λ e. e.0) (take i d)) ++ filter p (name ∷ [])
filter_more p d i name h = let q : i + 1 ≡ suc i = omega arith in rw q (filter_suc p d i name h)
