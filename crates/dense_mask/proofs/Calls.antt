-- What an exchange calls for, in lists by field and leaf.
use Rattle.std.proofs.Common.{◌≡◌, ℕ, ◌<◌, Bool, false, List, [], length, map, ap, ◌∙◌}
use Rattle.std.specs.List.{slice_index_or}
use Rattle.std.proofs.lemmas.List.{get_or-map, length-map}
use Rattle.morton_order.specs.declared.space.Loc.{Loc}
use Rattle.mesh_rules.specs.Sums.{table}
use Rattle.dense_mesh.proofs.Tables.{table_at, table_length}
use Rattle.dense_mask.proofs.Leaves.{origin}

-- lists of what each field gives at each leaf
pub record AreCalls (fields : ℕ) (leaves : List Loc) (each : ℕ → Loc → Bool) (calls : List (List Bool)) : Type 0 where
  pub many : length calls ≡ fields
  pub long : (f : ℕ) → f < fields → length (slice_index_or calls f []) ≡ length leaves
  pub calls_at : (f leaf : ℕ) → f < fields → leaf < length leaves → slice_index_or (slice_index_or calls f []) leaf false ≡ each f (slice_index_or leaves leaf origin)

pub are_calls : (fields : ℕ) (leaves : List Loc) (each : ℕ → Loc → Bool) (calls : List (List Bool)) → calls ≡ table fields (λ f. map (each f) leaves) → AreCalls fields leaves each calls
are_calls fields leaves each calls is = record {
  many = ap (λ (v : List (List Bool)). length v) is ∙ table_length fields (λ f. map (each f) leaves);
  long = λ f some. ap (λ (v : List Bool). length v) (there f some) ∙ length-map leaves (each f);
  calls_at = λ f leaf some small. ap (λ (v : List Bool). slice_index_or v leaf false) (there f some) ∙ get_or-map (each f) leaves leaf origin false small;
}
  where
    there : (f : ℕ) → f < fields → slice_index_or calls f [] ≡ map (each f) leaves
    there f some = ap (λ (v : List (List Bool)). slice_index_or v f []) is ∙ table_at fields (λ k. map (each k) leaves) f [] some
