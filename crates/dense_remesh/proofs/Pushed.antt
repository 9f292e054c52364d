-- What holds of each item of a list that grows.
use Rattle.std.proofs.lemmas.Grind.{common_steps}
use Rattle.std.proofs.Common.{map, take, drop, ◌≡◌, ℕ, ◌+◌, ◌<◌, List, [], ◌∷◌, ◌++◌, length, refl, arith, ap, subst, sym, ◌∙◌, inl, inr}
use Rattle.std.specs.List.{slice_index_or}
use Rattle.std.proofs.lemmas.Bool.{cases_lt}
use Rattle.std.proofs.lemmas.List.{ext_get_or, get_or-map, length-map, get_or_append_left, get_or_push, length_push}

-- one item more
pub each_pushed : {X : Type 0} (P : ℕ → X → Type 0) (xs ys : List X) (x : X) (n : ℕ) → length xs ≡ n → ys ≡ xs ++ x ∷ [] → P n x →
    ((k : ℕ) (d : X) → k < n → P k (slice_index_or xs k d)) → (k : ℕ) (d : X) → k < n + 1 → P k (slice_index_or ys k d)
each_pushed P xs ys x n long is here before k d small = elim (cases_lt k n) [
  | inl less ↦
      let old : slice_index_or ys k d ≡ slice_index_or xs k d = ap (λ (v : List _). slice_index_or v k d) is ∙ get_or_append_left xs (x ∷ []) d k (omega arith) in
      subst (P k) (sym old) (before k d less)
  | inr most ↦
      let last : k ≡ n = omega arith in
      let new : slice_index_or ys n d ≡ x = ap (λ (v : List _). slice_index_or v n d) is ∙ get_or_push xs x d n long in
      subst (λ j. P j (slice_index_or ys j d)) (sym last) (subst (P n) (sym new) here)
]

pub count_pushed : {X : Type 0} (xs ys : List X) (x : X) (n : ℕ) → length xs ≡ n → ys ≡ xs ++ x ∷ [] → length ys ≡ n + 1
count_pushed xs ys x n long is = ap (λ (v : List _). length v) is ∙ length_push xs x ∙ ap (λ k. k + 1) long

-- a list that was written through a slice of all of it
pub written_whole : (n : ℕ) (old new : List ℕ) → length old ≡ n → length new ≡ n → take n (new ++ drop (length new) old) ≡ new
written_whole n old new a b = grind (arith, common_steps)

-- a list of no item
pub no_item : {X : Type 0} (xs : List X) → length xs ≡ 0 → xs ≡ []
no_item [] h = refl
no_item (x ∷ xs) h = absurd (omega arith)

-- a list of what each item of another gives
pub map_by_each : {X Y : Type 0} (f : X → Y) (xs : List X) (ys : List Y) (e : Y) (d : X) → length ys ≡ length xs → ((k : ℕ) (y : Y) (x : X) → k < length xs → slice_index_or ys k y ≡ f (slice_index_or xs k x)) → ys ≡ map f xs
map_by_each f xs ys e d count each = ext_get_or e ys (map f xs) (count ∙ sym (length-map xs f)) (λ k small. let below : k < length xs = omega arith in each k e d below ∙ sym (get_or-map f xs k d e below))
