-- Lists that a loop over numbers builds.
use Rattle.std.proofs.Common.{◌≡◌, ℕ, zero, suc, ◌+◌, ◌≤◌, List, [], ◌∷◌, ◌++◌, length, Option, Some, None, refl, arith, ap, subst, sym, ◌∙◌, All, ◌≢◌, nat_lt, cond}
use Rattle.std.specs.List.{filter_map, range_with_len, cons_option}
use Rattle.std.specs.Option.{option_to_list}
use Rattle.std.proofs.lemmas.Grind.{common_steps}
use Rattle.std.proofs.lemmas.Bool.Decides.{nat_tests}
use Rattle.std.proofs.lemmas.List.Elements.{All-append, filter_map-append}

-- one number more at the end of a range
pub range_more : (a n : ℕ) → range_with_len a (suc n) ≡ range_with_len a n ++ (a + n) ∷ []
range_more a zero = let e : a ≡ a + 0 = omega arith in ap (λ v. v ∷ []) e
range_more a (suc n) =
    let e : a + 1 + n ≡ a + suc n = omega arith in
    ap (λ t. a ∷ t) (range_more (a + 1) n ∙ ap (λ v. range_with_len (a + 1) n ++ v ∷ []) e)

-- what one item gives
cons_nil : {X : Type 0} (o : Option X) → cons_option o [] ≡ option_to_list o
cons_nil None = refl
cons_nil (Some x) = refl

-- what one number more adds
pub filter_map_more : {X : Type 0} (h : ℕ → Option X) (n : ℕ) → filter_map h (range_with_len 0 (n + 1)) ≡ filter_map h (range_with_len 0 n) ++ option_to_list (h n)
filter_map_more {X} h n =
    let e1 : n + 1 ≡ suc n = omega arith in
    let e2 : 0 + n ≡ n = omega arith in
    let grown : range_with_len 0 (suc n) ≡ range_with_len 0 n ++ n ∷ [] =
    subst (λ v. range_with_len 0 (suc n) ≡ range_with_len 0 n ++ v ∷ []) e2 (range_more 0 n) in
    let more : range_with_len 0 (n + 1) ≡ range_with_len 0 n ++ n ∷ [] =
    subst (λ v. range_with_len 0 v ≡ range_with_len 0 n ++ n ∷ []) (sym e1) grown in
    let one : filter_map h (n ∷ []) ≡ option_to_list (h n) = cons_nil (h n) in
    let joined : filter_map h (range_with_len 0 n ++ n ∷ []) ≡ filter_map h (range_with_len 0 n) ++ option_to_list (h n) =
    subst (λ (v : List X). filter_map h (range_with_len 0 n ++ n ∷ []) ≡ filter_map h (range_with_len 0 n) ++ v) one (filter_map-append h (range_with_len 0 n) (n ∷ [])) in
    subst (λ v. filter_map h v ≡ filter_map h (range_with_len 0 n) ++ option_to_list (h n)) (sym more) joined

-- the step of a loop that keeps what each number gives
pub filter_map_step : {X : Type 0} (h : ℕ → Option X) (n : ℕ) (o : Option X) (before after : List X) → before ≡ filter_map h (range_with_len 0 n) → h n ≡ o → after ≡ before ++ option_to_list o → after ≡ filter_map h (range_with_len 0 (n + 1))
filter_map_step h n o before after p q r = let more = filter_map_more h n in cc

-- a list to which the number 13 adds nothing has room for one more
pub short_push : {X : Type 0} (k : ℕ) (before after : List X) (x : X) → k ≢ 13 → length before + cond (nat_lt 13 k) 1 0 ≤ k → after ≡ before ++ x ∷ [] → length after + cond (nat_lt 13 (k + 1)) 1 0 ≤ k + 1
short_push k before after x other h e = grind (arith, nat_tests, common_steps)

-- what holds of the only item
all_one : {X : Type 0} (P : X → Type 0) (x : X) → P x → All P (x ∷ [])
all_one P x p zero d h = p
all_one P x p (suc k) d h = absurd (omega arith)

-- what holds of each item holds with one more
pub all_push : {X : Type 0} (P : X → Type 0) (xs : List X) (x : X) → All P xs → P x → All P (xs ++ x ∷ [])
all_push P xs x h p = All-append P xs (x ∷ []) h (all_one P x p)

-- nothing at the end changes nothing
pub append_nil : {X : Type 0} (xs : List X) → xs ++ [] ≡ xs
append_nil [] = refl
append_nil (x ∷ xs) = ap (λ t. x ∷ t) (append_nil xs)

-- a list that stays has room as before
pub short_same : {X : Type 0} (k : ℕ) (before after : List X) → k ≢ 13 → length before + cond (nat_lt 13 k) 1 0 ≤ k → after ≡ before → length after + cond (nat_lt 13 (k + 1)) 1 0 ≤ k + 1
short_same k before after other h e = grind (arith, nat_tests, common_steps)
