-- Lists that gain one item, and counts in lists.
use Rattle.std.proofs.Common.{◌≡◌, ℕ, suc, ◌+◌, ◌<◌, Bool, cond, List, [], ◌∷◌, ◌++◌, length, refl, arith, ap, sym, ◌∙◌, subst, inl, inr}
use Rattle.std.specs.Prelude.{count_by}
use Rattle.std.specs.List.{slice_index_or}
use Rattle.std.proofs.lemmas.Bool.{cases_lt}
use Rattle.std.proofs.lemmas.List.{get_or_append_left, get_or_push, length_push}
use Rattle.std.proofs.lemmas.List.Sums.{sum_by-cons}

-- each item is as its number asks
pub record AreItems {X : Type 0} (P : ℕ → X → Type 0) (n : ℕ) (d : X) (xs : List X) : Type 0 where
  pub many : length xs ≡ n
  pub each : (k : ℕ) → k < n → P k (slice_index_or xs k d)

pub items_push : {X : Type 0} (P : ℕ → X → Type 0) (n : ℕ) (xs new : List X) (x d : X) → AreItems P n d xs → new ≡ xs ++ x ∷ [] → P n x → AreItems P (n + 1) d new
items_push P n xs new x d had is here =
    let many = had.many in
    record {
      many = ap (λ (v : List _). length v) is ∙ length_push xs x ∙ ap (λ (k : ℕ). k + 1) had.many;
      each = λ k small. subst (λ (v : List _). P k (slice_index_or v k d)) (sym is) (elim (cases_lt k n) [
        | inl before ↦ subst (λ (y : _). P k y) (sym (get_or_append_left xs (x ∷ []) d k (omega arith))) (had.each k before)
        | inr last ↦
            let e : k ≡ n = omega arith in
            subst (λ (j : ℕ). P j (slice_index_or (xs ++ x ∷ []) j d)) (sym e) (subst (λ (y : _). P n y) (sym (get_or_push xs x d n had.many)) here)
      ]);
    }

-- counts by tests that agree
pub counts_same : {X Y : Type 0} (p : X → Bool) (q : Y → Bool) (xs : List X) (ys : List Y) (d : X) (e : Y) → length xs ≡ length ys →
    ((k : ℕ) → k < length xs → p (slice_index_or xs k d) ≡ q (slice_index_or ys k e)) → count_by p xs ≡ count_by q ys
counts_same p q [] [] d e many same = refl
counts_same p q [] (y ∷ ys) d e many same = absurd (omega arith)
counts_same p q (x ∷ xs) [] d e many same = absurd (omega arith)
counts_same p q (x ∷ xs) (y ∷ ys) d e many same =
    let a : cond {A = ℕ} (p x) 1 0 ≡ cond {A = ℕ} (q y) 1 0 = ap (λ (b : Bool). cond {A = ℕ} b 1 0) (same 0 (omega arith)) in
    let b : count_by p xs ≡ count_by q ys = counts_same p q xs ys d e (omega arith) (λ k small. same (suc k) (omega arith)) in
    let u : count_by p (x ∷ xs) ≡ cond {A = ℕ} (p x) 1 0 + count_by p xs = sum_by-cons (λ v. cond (p v) 1 0) x xs in
    let w : count_by q (y ∷ ys) ≡ cond {A = ℕ} (q y) 1 0 + count_by q ys = sum_by-cons (λ v. cond (q v) 1 0) y ys in
    omega arith
