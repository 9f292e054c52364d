-- A table with one more item, and the fields of a stage with one more.
use Rattle.std.proofs.Common.{◌≡◌, ◌∙◌, ℕ, ◌+◌, Bool, List, [], ◌∷◌, ◌++◌, ap, arith, map, sym}
use Rattle.std.proofs.lemmas.List.FromFn.{map-range_with_len_more}
use Rattle.problem_set.specs.Settings.{Settings}
use Rattle.mesh_rules.specs.Sums.{table}
use Rattle.mesh_rules.specs.Mesh.{Mesh}
use Rattle.mesh_rules.specs.Mask.{exchange_calls}
use Rattle.mesh_rules.specs.Stage.{inflow_of, outflow_of, staged}
use Rattle.dense_mesh.specs.Meshes.{field_list}
use Rattle.dense_cycle.specs.declared.fields.DomainFlow.{DomainFlow}
use Rattle.dense_cycle.specs.declared.fields.StagedFields.{StagedFields}
use Rattle.dense_cycle.specs.Fields.{HasFields, passed_of}

pub table_more : {X : Type 0} (n : ℕ) (f : ℕ → X) (xs new : List X) (x : X) → xs ≡ table n f → x ≡ f n → new ≡ xs ++ x ∷ [] → new ≡ table (n + 1) f
table_more n f xs new x before is pushed =
    pushed ∙ ap (λ v. v ++ x ∷ []) before ∙ ap (λ v. table n f ++ v ∷ []) is ∙ sym (map-range_with_len_more f 0 n n (omega arith))

pub pushed : (p : Settings) (m : Mesh) (n : ℕ) (old new : StagedFields) (totals : List (List ℕ)) (calls : List Bool) (x : DomainFlow) → HasFields p m n old
    → totals ≡ field_list m (staged p m n) → calls ≡ map (exchange_calls p m n) m.leaves → x ≡ passed_of p m n
    → new.lists.items ≡ old.lists.items ++ totals ∷ [] → new.calls.items ≡ old.calls.items ++ calls ∷ [] → new.passed.items ≡ old.passed.items ++ x ∷ [] → HasFields p m (n + 1) new
pushed p m n old new totals calls x has a b d lists_are calls_are passed_are = record {
  lists = table_more n (λ f. field_list m (staged p m f)) old.lists.items new.lists.items totals has.lists a lists_are;
  calls = table_more n (λ f. map (exchange_calls p m f) m.leaves) old.calls.items new.calls.items calls has.calls b calls_are;
  passed = table_more n (passed_of p m) old.passed.items new.passed.items x has.passed d passed_are;
}

-- what passes, by its two numbers
pub passed_is : (p : Settings) (m : Mesh) (n inflow outflow : ℕ) → inflow ≡ inflow_of p m n → outflow ≡ outflow_of p m n → (let x : DomainFlow = record { inflow = inflow; outflow = outflow } in x) ≡ passed_of p m n
passed_is p m n inflow outflow a b = ap (λ v. let x : DomainFlow = record { inflow = v; outflow = outflow } in x) a ∙ ap (λ v. let x : DomainFlow = record { inflow = inflow_of p m n; outflow = v } in x) b
