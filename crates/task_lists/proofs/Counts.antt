-- Nothing is left where everything passes, and back.
use Rattle.std.proofs.Common.{◌≡◌, ◌∙◌, sym, ap, refl, ℕ, ◌+◌, ◌<◌, Bool, true, false, not, cond, ◌&&◌, nat_eq, nat_lt, List, [], ◌∷◌, length, slice_index, slice_set, arith}
use mir.Val.{bool_byte}
use Rattle.std.specs.Prelude.{count_by}
use Rattle.std.specs.List.{list_all}
use Rattle.std.proofs.lemmas.Bool.Decides.{nat_tests}
use Rattle.std.proofs.lemmas.List.Sums.{sum_by-cons, sum_by-set}

-- none of some items fails where all pass
pub none_left : {X : Type 0} (fails passes : X → Bool) → ((x : X) → passes x ≡ not (fails x)) → (xs : List X) → nat_eq (count_by fails xs) 0 ≡ list_all passes xs
none_left fails passes other [] = refl
none_left fails passes other (x ∷ xs) =
    let more : count_by fails (x ∷ xs) ≡ cond (fails x) 1 0 + count_by fails xs = sum_by-cons (λ y. cond (fails y) 1 0) x xs in
    let rest : nat_eq (count_by fails xs) 0 ≡ list_all passes xs = none_left fails passes other xs in
    ap (λ (n : ℕ). nat_eq n 0) more
    ∙ (by_head (fails x) (count_by fails xs) ∙ (ap (λ (b : Bool). not (fails x) && b) rest ∙ ap (λ (b : Bool). b && list_all passes xs) (sym (other x))))
  where
    by_head : (b : Bool) (n : ℕ) → nat_eq (cond b 1 0 + n) 0 ≡ (not b && nat_eq n 0)
    by_head true n = grind (arith, nat_tests)
    by_head false n = ap (λ (k : ℕ). nat_eq k 0) (omega arith)

-- the number of an answer
pub byte_is : (b : Bool) → bool_byte b ≡ cond b 1 0
byte_is true = refl
byte_is false = refl

-- one partition more is past a number of tasks, or as many as before
pub one_more : (xs : List ℕ) (p m : ℕ) → p < length xs → count_by (λ n. nat_lt n m) (slice_set xs p (slice_index xs p + 1)) + cond (nat_eq (slice_index xs p + 1) m) 1 0 ≡ count_by (λ n. nat_lt n m) xs
one_more xs p m h =
    let k = slice_index xs p in
    let e : count_by (λ n. nat_lt n m) (slice_set xs p (k + 1)) + cond (nat_lt k m) 1 0 ≡ count_by (λ n. nat_lt n m) xs + cond (nat_lt (k + 1) m) 1 0 = sum_by-set (λ (n : ℕ). cond (nat_lt n m) 1 0) xs p (k + 1) 0 h in
    let split : cond (nat_lt k m) 1 0 ≡ cond (nat_lt (k + 1) m) 1 0 + cond (nat_eq (k + 1) m) 1 0 = grind (arith, nat_tests) in
    omega arith
