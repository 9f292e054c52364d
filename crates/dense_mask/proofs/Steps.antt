-- Lists that are changed item by item.
use Rattle.std.proofs.Common.{◌≡◌, ℕ, ◌+◌, ◌<◌, List, length, refl, arith, sym, ◌∙◌, subst, inl, inr}
use Rattle.std.specs.Prelude.{slice_set}
use Rattle.std.specs.List.{slice_index_or}
use Rattle.std.proofs.lemmas.Bool.{cases_eq}
use Rattle.std.proofs.lemmas.List.{get_or-set_other, get_or-set_same, get_or_read, length-set}
use Rattle.dense_mask.specs.Steps.{IsDoneTo}

-- no item yet
pub done_none : {X : Type 0} (step : ℕ → X → X → Type 0) (d : X) (old : List X) → IsDoneTo step d 0 old old
done_none step d old = record { many = refl; done = λ k h. absurd (omega arith); rest = λ k h. refl }

-- an item that was not changed yet is read
pub item_read : {X : Type 0} (step : ℕ → X → X → Type 0) (d : X) (n : ℕ) (old new : List X) (x : X) → IsDoneTo step d n old new → n < length new → x ≡ slice_index_or new n x → x ≡ slice_index_or old n d
item_read step d n old new x had small is = get_or_read new n x small is d ∙ had.rest n (omega arith)

-- and changed
pub done_more : {X : Type 0} (step : ℕ → X → X → Type 0) (d : X) (n : ℕ) (old new : List X) (x y : X) → IsDoneTo step d n old new → n < length new → x ≡ slice_index_or new n x → step n x y →
    IsDoneTo step d (n + 1) old (slice_set new n y)
done_more {X} step d n old new x y had small is here = record {
  many = length-set new n y ∙ had.many;
  done = λ k h. elim (cases_eq k n) [
    | inl e ↦ subst (λ (j : ℕ). step j (slice_index_or old j d) (slice_index_or (slice_set new n y) j d)) (sym e)
        (subst (λ (v : X). step n (slice_index_or old n d) v) (sym (get_or-set_same new n y d small))
        (subst (λ (v : X). step n v y) (item_read step d n old new x had small is) here))
    | inr ne ↦ subst (λ (v : X). step k (slice_index_or old k d) v) (sym (get_or-set_other new n k y d ne)) (had.done k (omega (arith, ne)))
  ];
  rest = λ k h. get_or-set_other new n k y d (omega arith) ∙ had.rest k (omega arith);
}
