-- Leaf by leaf, what a kernel makes of a mesh.
use Rattle.std.proofs.Common.{◌≡◌, ◌∙◌, ℕ, ◌+◌, ◌-◌, ◌*◌, ◌^◌, ◌<◌, ◌≤◌, List, [], ◌∷◌, ◌++◌, length, map, replicate, slice_index, refl, arith, ap, sym, subst, inl, inr}
use Rattle.std.specs.Prelude.{All}
use Rattle.std.specs.List.{slice_index_or}
use Rattle.std.proofs.lemmas.Bool.{cases_lt}
use Rattle.std.proofs.lemmas.List.{get_or-map, get_or-replicate, get_or_append_left, get_or_push, length-map, length-replicate, length_push}
use Rattle.std.proofs.lemmas.List.Elements.{All-from_get_or}
use Rattle.morton_order.specs.declared.space.Loc.{Loc}
use Rattle.problem_set.specs.Settings.{Settings}
use Rattle.package_fields.specs.declared.flow.Flow.{Flow}
use Rattle.package_fields.specs.Flow.{IsBelow, no_flow}
use Rattle.package_fields.specs.Kernel.{KernelLaws, Reacted, with_parts}
use Rattle.mesh_rules.specs.Sums.{sum_to, table}
use Rattle.mesh_rules.specs.Fields.{field_count}
use Rattle.mesh_rules.specs.Mesh.{Mesh, block_size, cell_at as cell_of}
use Rattle.mesh_rules.specs.Fit.{sum_of_all}
use Rattle.mesh_rules.specs.Reaction.{leaf_made, leaf_used, made_of, reacted_cell, used_of}
use Rattle.mesh_laws.proofs.Totals.{sum_to-same}
use Rattle.react_kernel.proofs.Gains.{no_parts, parts_again}
use Rattle.dense_mesh.specs.Meshes.{field_lists, totals_in}
use Rattle.dense_mesh.proofs.Tables.{table_by}
use Rattle.dense_mask.proofs.Cuts.{over_numbers, sum_more}
use Rattle.dense_mask.proofs.Fills.{are_field_lists}
use Rattle.dense_mask.proofs.Leaves.{leaf_at, row_of}
use Rattle.dense_reaction.specs.Blocks.{AddsReacted, HasGained, cell_in, row_in}
use Rattle.dense_reaction.specs.Flows.{HaveFlowed}
use Rattle.dense_reaction.proofs.MeshCells.{made_most, sum_below, used_most}

-- what is left of a field in a cell
abbrev pub left_by : (List ℕ → Reacted) → ℕ → Mesh → ℕ → Loc → ℕ
left_by react fields m f c = slice_index (reacted_cell react fields m c).totals f

-- the lists and flows after the first so many leaves
pub record HaveReacted (react : List ℕ → Reacted) (fields : ℕ) (m : Mesh) (n : ℕ) (lists : List (List (List ℕ))) (flows : List Flow) : Type 0 where
  pub many : length lists ≡ fields
  pub long : (f : ℕ) → f < fields → length (slice_index_or lists f []) ≡ n
  pub rows : (f leaf : ℕ) → f < fields → leaf < n → totals_in lists f leaf ≡ row_of m (left_by react fields m f) leaf
  pub as_many : length flows ≡ fields
  pub gained : (f : ℕ) → f < fields →
      slice_index_or flows f no_flow ≡ with_parts no_flow (sum_to n (λ leaf. leaf_made react fields m f (leaf_at m leaf))) (sum_to n (λ leaf. leaf_used react fields m f (leaf_at m leaf)))

-- no leaf yet
pub leaves_none : (react : List ℕ → Reacted) (fields : ℕ) (m : Mesh) (lists : List (List (List ℕ))) (flows : List Flow) → lists ≡ replicate fields [] → flows ≡ replicate fields no_flow → HaveReacted react fields m 0 lists flows
leaves_none react fields m lists flows empty none = record {
  many = ap (λ (v : List (List (List ℕ))). length v) empty ∙ length-replicate fields [];
  long = λ f some. ap (λ (v : List (List (List ℕ))). length (slice_index_or v f [])) empty ∙ ap (λ (v : List (List ℕ)). length v) (get_or-replicate {A = List (List ℕ)} fields f [] [] some);
  rows = λ f leaf some small. absurd (omega arith);
  as_many = ap (λ (v : List Flow). length v) none ∙ length-replicate fields no_flow;
  gained = λ f some. ap (λ (v : List Flow). slice_index_or v f no_flow) none ∙ get_or-replicate {A = Flow} fields f no_flow no_flow some ∙ no_parts no_flow 0 0 refl refl;
}

-- the row that is added for a field
pub added_row : (react : List ℕ → Reacted) (fields : ℕ) (m : Mesh) (n f : ℕ) (rows : List (List ℕ)) (row : List ℕ) → length row ≡ block_size m →
    ((place : ℕ) → place < block_size m → slice_index row place ≡ slice_index (react (cell_in rows place)).totals f) →
    ((place : ℕ) → place < block_size m → react (cell_in rows place) ≡ reacted_cell react fields m (cell_of m (leaf_at m n) place)) → row ≡ row_of m (left_by react fields m f) n
added_row react fields m n f rows row long done cells =
    table_by row (block_size m) (λ place. left_by react fields m f (cell_of m (leaf_at m n) place)) 0 long (λ place inside. done place inside ∙ ap (λ (r : Reacted). slice_index r.totals f) (cells place inside))

-- one leaf more
pub leaf_more : (react : List ℕ → Reacted) (fields : ℕ) (m : Mesh) (n size : ℕ) (rows : List (List ℕ)) (old new : List (List (List ℕ))) (before after : List Flow) → HaveReacted react fields m n old before →
    length rows ≡ fields → ((f : ℕ) → f < fields → length (row_in rows f) ≡ size) → size ≡ block_size m →
    ((place : ℕ) → place < block_size m → react (cell_in rows place) ≡ reacted_cell react fields m (cell_of m (leaf_at m n) place)) →
    AddsReacted react size rows old new → HasGained (λ place. react (cell_in rows place)) size before after → HaveReacted react fields m (n + 1) new after
leaf_more react fields m n size rows old new before after had count sizes whole cells adds gains = record {
  many = adds.added.many ∙ had.many;
  long = λ f some.
      let many = had.many in
      ap (λ (v : List (List ℕ)). length v) (adds.added.done f (omega arith)) ∙ (length_push (slice_index_or old f []) (row_in adds.left f) ∙ ap (λ (k : ℕ). k + 1) (had.long f some));
  rows = λ f leaf some small.
      let many = had.many in
      ap (λ (v : List (List ℕ)). slice_index_or v leaf []) (adds.added.done f (omega arith))
      ∙ elim (cases_lt leaf n) as (λ _. slice_index_or (slice_index_or old f [] ++ row_in adds.left f ∷ []) leaf [] ≡ row_of m (left_by react fields m f) leaf) [
        | inl earlier ↦
            let long = had.long f some in
            get_or_append_left (slice_index_or old f []) (row_in adds.left f ∷ []) [] leaf (omega arith) ∙ had.rows f leaf some earlier
        | inr last ↦
            let e : leaf ≡ n = omega arith in
            ap (λ (k : ℕ). slice_index_or (slice_index_or old f [] ++ row_in adds.left f ∷ []) k []) e
            ∙ (get_or_push (slice_index_or old f []) (row_in adds.left f) [] n (had.long f some)
            ∙ (added_row react fields m n f rows (row_in adds.left f) (adds.reacted.long f (omega (arith, count, some)) ∙ (sizes f some ∙ whole))
            (λ place inside. adds.reacted.done f place (omega (arith, count, some)) (omega (arith, whole, inside))) cells
            ∙ ap (λ (k : ℕ). row_of m (left_by react fields m f) k) (sym e)))
      ];
  as_many = gains.many ∙ had.as_many;
  gained = λ f some.
      let many = had.as_many in
      let made = sum_to n (λ leaf. leaf_made react fields m f (leaf_at m leaf)) in
      let used = sum_to n (λ leaf. leaf_used react fields m f (leaf_at m leaf)) in
      let made_here = sum_to size (λ k. slice_index (react (cell_in rows k)).made f) in
      let used_here = sum_to size (λ k. slice_index (react (cell_in rows k)).used f) in
      let made_is : made_here ≡ leaf_made react fields m f (leaf_at m n) = ap (λ (k : ℕ). sum_to k (λ k. slice_index (react (cell_in rows k)).made f)) whole
      ∙ sum_to-same (block_size m) (λ k. slice_index (react (cell_in rows k)).made f) (λ k. slice_index (reacted_cell react fields m (cell_of m (leaf_at m n) k)).made f) (λ k inside. ap (λ (r : Reacted). slice_index r.made f) (cells k inside)) in
      let used_is : used_here ≡ leaf_used react fields m f (leaf_at m n) = ap (λ (k : ℕ). sum_to k (λ k. slice_index (react (cell_in rows k)).used f)) whole
      ∙ sum_to-same (block_size m) (λ k. slice_index (react (cell_in rows k)).used f) (λ k. slice_index (reacted_cell react fields m (cell_of m (leaf_at m n) k)).used f) (λ k inside. ap (λ (r : Reacted). slice_index r.used f) (cells k inside)) in
      let made_more = sum_more n (λ leaf. leaf_made react fields m f (leaf_at m leaf)) in
      let used_more = sum_more n (λ leaf. leaf_used react fields m f (leaf_at m leaf)) in
      gains.gained f (omega arith)
      ∙ (ap (λ (x : Flow). with_parts x made_here used_here) (had.gained f some)
      ∙ parts_again no_flow made used made_here used_here (sum_to (n + 1) (λ leaf. leaf_made react fields m f (leaf_at m leaf))) (sum_to (n + 1) (λ leaf. leaf_used react fields m f (leaf_at m leaf))) (omega arith) (omega arith));
}

-- flows stay small
small_parts : (m u top : ℕ) → m ≤ 256 * top → u ≤ 256 * top → top ≤ 2 ^ 62 - 1 → IsBelow (2 ^ 98) (with_parts no_flow m u)
small_parts m u top made used small = record { inflow_below = omega arith; outflow_below = omega arith; made_below = omega arith; used_below = omega arith }

pub leaves_small : (p : Settings) (react : List ℕ → Reacted) (m : Mesh) (n : ℕ) (lists : List (List (List ℕ))) (flows : List Flow) → KernelLaws (field_count p) react → sum_of_all p m ≤ 2 ^ 62 - 1 → n ≤ length m.leaves →
    HaveReacted react (field_count p) m n lists flows → All (IsBelow (2 ^ 98)) flows
leaves_small p react m n lists flows laws bound few had = All-from_get_or (IsBelow (2 ^ 98)) flows no_flow (λ f h.
    let many = had.as_many in
    let some : f < field_count p = omega arith in
    subst (λ (x : Flow). IsBelow (2 ^ 98) x) (sym (had.gained f some))
    (small_parts (sum_to n (λ leaf. leaf_made react (field_count p) m f (leaf_at m leaf))) (sum_to n (λ leaf. leaf_used react (field_count p) m f (leaf_at m leaf))) (sum_of_all p m)
    (sum_below p m n (λ leaf. leaf_made react (field_count p) m f (leaf_at m leaf)) few (λ leaf _. made_most react (field_count p) m f leaf laws some))
    (sum_below p m n (λ leaf. leaf_used react (field_count p) m f (leaf_at m leaf)) few (λ leaf _. used_most react (field_count p) m f leaf laws some)) bound))

-- all leaves
pub leaves_lists : (react : List ℕ → Reacted) (fields : ℕ) (m : Mesh) (n : ℕ) (lists : List (List (List ℕ))) (flows : List Flow) → n ≡ length m.leaves → HaveReacted react fields m n lists flows →
    lists ≡ field_lists m fields (left_by react fields m)
leaves_lists react fields m n lists flows all had =
    are_field_lists m fields (left_by react fields m) lists had.many (λ f some. had.long f some ∙ all) (λ f leaf some small. had.rows f leaf some (omega arith))

pub leaves_flows : (react : List ℕ → Reacted) (fields : ℕ) (m : Mesh) (n : ℕ) (lists : List (List (List ℕ))) (flows : List Flow) → n ≡ length m.leaves → HaveReacted react fields m n lists flows →
    HaveFlowed react fields m flows
leaves_flows react fields m n lists flows all had = record {
  many = had.as_many;
  gained = λ f some.
      had.gained f some
      ∙ (ap (λ (k : ℕ). with_parts no_flow (sum_to k (λ leaf. leaf_made react fields m f (leaf_at m leaf))) (sum_to k (λ leaf. leaf_used react fields m f (leaf_at m leaf)))) all
      ∙ (ap (λ (x : ℕ). with_parts no_flow x (sum_to (length m.leaves) (λ leaf. leaf_used react fields m f (leaf_at m leaf)))) (sym (over_numbers m.leaves (leaf_made react fields m f)))
      ∙ ap (λ (x : ℕ). with_parts no_flow (made_of react fields m f) x) (sym (over_numbers m.leaves (leaf_used react fields m f)))));
}

-- what was made and used of each field
pub made_is : (react : List ℕ → Reacted) (fields : ℕ) (m : Mesh) (flows : List Flow) → HaveFlowed react fields m flows → map (λ (x : Flow). x.made) flows ≡ table fields (made_of react fields m)
made_is react fields m flows have = table_by (map (λ (x : Flow). x.made) flows) fields (made_of react fields m) 0 (length-map flows (λ (x : Flow). x.made) ∙ have.many) (λ f some.
    let many = have.many in
    let zero_more : 0 + made_of react fields m f ≡ made_of react fields m f = omega arith in
    get_or-map (λ (x : Flow). x.made) flows f no_flow 0 (omega arith) ∙ (ap (λ (x : Flow). x.made) (have.gained f some) ∙ zero_more))

pub used_is : (react : List ℕ → Reacted) (fields : ℕ) (m : Mesh) (flows : List Flow) → HaveFlowed react fields m flows → map (λ (x : Flow). x.used) flows ≡ table fields (used_of react fields m)
used_is react fields m flows have = table_by (map (λ (x : Flow). x.used) flows) fields (used_of react fields m) 0 (length-map flows (λ (x : Flow). x.used) ∙ have.many) (λ f some.
    let many = have.many in
    let zero_more : 0 + used_of react fields m f ≡ used_of react fields m f = omega arith in
    get_or-map (λ (x : Flow). x.used) flows f no_flow 0 (omega arith) ∙ (ap (λ (x : Flow). x.used) (have.gained f some) ∙ zero_more))
