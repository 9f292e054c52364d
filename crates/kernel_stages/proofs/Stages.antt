-- A stage by the kernels is the stage of the rules.
use Rattle.std.proofs.Common.{◌≡◌, ℕ, zero, suc, ◌+◌, ◌-◌, ◌<◌, Bool, true, false, cond, ◌&&◌, not, Option, Some, None, List, [], map, length, refl, arith, ap, sym, ◌∙◌, slice_index}
use Rattle.std.specs.List.{slice_index_or}
use Rattle.std.proofs.lemmas.Bool.{lt-ltb}
use Rattle.std.proofs.lemmas.List.{get_or-map}
use Rattle.std.proofs.lemmas.List.FromFn.{get_or-map-range_with_len}
use Rattle.morton_order.specs.declared.space.Loc.{Loc}
use Rattle.morton_order.specs.Neighbours.{across}
use Rattle.morton_order.specs.Space.{child, parent}
use Rattle.block_tree.specs.Behind.{behind_at, children_at, coarse, fine, same}
use Rattle.block_tree.specs.Tree.{is_node}
use Rattle.mesh_rules.specs.Sums.{sum_to, table}
use Rattle.mesh_rules.specs.Mesh.{Mesh, block_size, cell_at, filled, is_inner, stored, totals_on}
use Rattle.mesh_rules.specs.Due.{Exchange}
use Rattle.mesh_rules.specs.Fields.{field_count, has_fluxes, is_sparse}
use Rattle.mesh_rules.specs.Mask.{exchange_calls}
use Rattle.mesh_rules.specs.Stage.{cell_inflow, cell_outflow, leaf_inflow, leaf_outflow, stage, staged, when_outside}
use Rattle.mesh_laws.proofs.Totals.{sum_to-same}
use Rattle.block_layout.specs.declared.layout.Layout.{Layout}
use Rattle.block_layout.specs.Indices.{count_of, index_of}
use Rattle.block_layout.specs.Layouts.{interior_len}
use Rattle.block_layout.proofs.Boxes.{index_below, index_number}
use Rattle.block_geometry.specs.Blocks.{cell_in, own_place}
use Rattle.block_geometry.specs.Contents.{HasPairs}
use Rattle.block_laws.specs.Update.{gained, lost}
use Rattle.block_laws.proofs.Updates.{update_is_stage}
use Rattle.flow_laws.specs.Flows.{passed_outside, passed_side}
use Rattle.flow_laws.proofs.Flows.{domain_flows}
use Rattle.correction_laws.proofs.Passed.{passed_are_sides}
use Rattle.letter_laws.proofs.Boxes.{table_same}
use Rattle.transport_kernel.specs.Passed.{passed_at}
use Rattle.transport_kernel.specs.Update.{gain_along, listed, loss_along, sum_axes}
use Rattle.transport_kernel.specs.Update as kernel
use Rattle.sparse_rounds.specs.Kernels.{own_pairs, pairs_of}
use Rattle.sparse_rounds.specs.Masked as masked
use Rattle.dense_mask.proofs.Leaves.{leaf_at as leaf_of, stored_on_leaf}
use Rattle.dense_mesh.proofs.Tables.{table_by}
use Rattle.cycle_kernels.specs.Blocks.{CycleMesh, is_domain_face, leaf_at}
use Rattle.cycle_kernels.specs.Blocks as blocks
use Rattle.cycle_kernels.specs.Kernels.{kernels_of}
use Rattle.cycle_kernels.specs.Letters.{region_sent}
use Rattle.cycle_kernels.specs.Lists.{with_ghosts}
use Rattle.cycle_kernels.specs.Pairs.{FacePairs, inflow_of, outflow_of, passed_face, sums_sent, updated_at, updated_by}
use Rattle.cycle_kernel_laws.proofs.Given.{own_total}
use Rattle.cycle_kernel_laws.proofs.OwnPairs.{are_own_pairs}
use Rattle.kernel_stages.specs.Stages.{HasTotals, IsReady, IsStage, StagesAreTheRules}
use Rattle.kernel_stages.proofs.Senders.{IsSound, block_on, block_sound, has_own, hold_mesh, region_is}
use Rattle.kernel_stages.proofs.Corrected.{HaveOwn, corrected_pairs, sums_are}
use Rattle.kernel_stages.proofs.Still.{no_terms, still_cell, still_flows}
use Rattle.kernel_stages.proofs.Calls.{AreRegions, called_is}

pub sound_of : (w : CycleMesh) → IsReady w → IsSound w
sound_of w ready = record { mesh = ready.cycle.mesh; layout = ready.cycle.layout }

-- letters have the regions of the mesh
pub regions_are : (w : CycleMesh) (cells : ℕ → ℕ → List ℕ) (f : ℕ) → IsSound w → HasTotals w cells → f < field_count w.settings → AreRegions w f (λ x. region_sent w x (cells x.from f))
regions_are w cells f sound has some x d = region_is w x f (cells x.from f) sound d (has x.from f d.from_few some)

-- the pairs of all blocks
pub own_have : (w : CycleMesh) (cells : ℕ → ℕ → List ℕ) (f : ℕ) → IsReady w → HasTotals w cells → f < field_count w.settings → HaveOwn w f (λ b. own_pairs (kernels_of w) cells b f)
own_have w cells f ready has some b few = are_own_pairs w w.mesh.totals f b (λ b. cells b f) ready.cycle (hold_mesh w cells f (sound_of w ready) has some) few

pub pairs_have : (w : CycleMesh) (cells : ℕ → ℕ → List ℕ) (b f : ℕ) → IsReady w → HasTotals w cells → b < length w.mesh.leaves → f < field_count w.settings →
    HasPairs (block_on w f b) (pairs_of (kernels_of w) cells b f).right (pairs_of (kernels_of w) cells b f).left
pairs_have w cells b f ready has few some =
    corrected_pairs w b f (λ b. own_pairs (kernels_of w) cells b f) (λ x. sums_sent w x (own_pairs (kernels_of w) cells x.from f)) (sound_of w ready) few (own_have w cells f ready has some)
    (λ x d to. sums_are w x (own_pairs (kernels_of w) cells x.from f) (sound_of w ready) d)

-- the totals of a leaf on a mesh that was filled
plain : (n : ℕ) → 0 + n ≡ n
plain n = omega arith

pub filled_totals : (m : Mesh) (fields f b : ℕ) (each : ℕ → Loc → ℕ) → f < fields → b < length m.leaves → totals_on (filled m fields each) b f ≡ table (block_size m) (λ place. each f (cell_at m (leaf_of m b) place))
filled_totals m fields f b each some few =
    let row : Loc → ℕ → List ℕ = λ x k. table (block_size m) (λ place. each k (cell_at m x place)) in
    ap (λ (t : List (List ℕ)). slice_index_or t f []) (get_or-map (λ (x : Loc). table fields (row x)) m.leaves b _ [] few)
    ∙ get_or-map-range_with_len (row (leaf_of m b)) 0 fields f f [] some (plain f)

-- what a cell gains and loses by the lists of its block
axes_are : (n : ℕ) (each : ℕ → ℕ) → sum_axes n each ≡ sum_to n each
axes_are zero each = refl
axes_are (suc n) each = ap (λ v. v + each n) (axes_are n each)

updated_cell : (w : CycleMesh) (cells : ℕ → ℕ → List ℕ) (b f k : ℕ) → IsReady w → HasTotals w cells → b < length w.mesh.leaves → f < field_count w.settings → k < interior_len w.layout →
    updated_at w (cells b f) (pairs_of (kernels_of w) cells b f) k ≡ staged w.settings w.mesh f (cell_at w.mesh (leaf_at w b) k)
updated_cell w cells b f k ready has few some small =
    let l : Layout = w.layout in
    let sound = sound_of w ready in
    let i : List ℕ = index_of l.cells k in
    let within = index_below l.cells k small in
    let list : List ℕ = with_ghosts l (cells b f) [] in
    let pairs : FacePairs = pairs_of (kernels_of w) cells b f in
    let s = update_is_stage (block_on w f b) list pairs.right pairs.left i (block_sound w f b sound few) (has_own w f b (cells b f) [] sound few (has b f few some)) (pairs_have w cells b f ready has few some) within in
    let own : slice_index list (own_place l i) ≡ slice_index (cells b f) k = own_total l (cells b f) [] i within ∙ ap (slice_index (cells b f)) (index_number l.cells k) in
    ap (λ v. slice_index (cells b f) k + v - kernel.loss l.dims (listed l pairs.right) (listed l pairs.left) i) (axes_are l.dims (gain_along (listed l pairs.right) (listed l pairs.left) i))
    ∙ ap (λ v. slice_index (cells b f) k + gained l pairs.right pairs.left i - v) (axes_are l.dims (loss_along (listed l pairs.right) (listed l pairs.left) i))
    ∙ sym (ap (λ v. v + gained l pairs.right pairs.left i - lost l pairs.right pairs.left i) own)
    ∙ s.staged
    ∙ ap (λ (n : List ℕ). staged w.settings w.mesh f (cell_in w.mesh (leaf_at w b) (index_of n k))) sound.layout.cells

updated_is : (w : CycleMesh) (cells : ℕ → ℕ → List ℕ) (b f : ℕ) → IsReady w → HasTotals w cells → b < length w.mesh.leaves → f < field_count w.settings →
    updated_by w (cells b f) (pairs_of (kernels_of w) cells b f) ≡ totals_on (stage w.settings w.mesh) b f
updated_is w cells b f ready has few some =
    table_same (interior_len w.layout) (updated_at w (cells b f) (pairs_of (kernels_of w) cells b f)) (λ k. staged w.settings w.mesh f (cell_at w.mesh (leaf_at w b) k)) (λ k small. updated_cell w cells b f k ready has few some small)
    ∙ ap (λ (n : List ℕ). table (count_of n) (λ k. staged w.settings w.mesh f (cell_at w.mesh (leaf_at w b) k))) ready.cycle.layout.cells
    ∙ sym (filled_totals w.mesh (field_count w.settings) f b (staged w.settings w.mesh) some few)

-- what passes the faces of the domain that a block has
face_passes : (w : CycleMesh) (b f axis : ℕ) (high : Bool) (list : List ℕ) → b < length w.mesh.leaves → axis < w.layout.dims → passed_face w b axis high list ≡ passed_outside (block_on w f b) list axis high
face_passes w b f axis high list few used =
    ap (λ t. cond (t && blocks.is_outside (behind_at w.mesh.shape (is_inner w.mesh) axis high (across w.mesh.shape (leaf_at w b) axis high))) (passed_at w.layout axis high list) 0) (lt-ltb b (length w.mesh.leaves) few)
    ∙ by (across w.mesh.shape (leaf_at w b) axis high)
  where
    inside : (p q : Bool) (os : List Loc) (x y : Loc) → blocks.is_outside (cond p (fine os) (cond q (same x) (coarse y))) ≡ false
    inside true q os x y = refl
    inside false true os x y = refl
    inside false false os x y = refl

    by : (v : Option Loc) → cond (blocks.is_outside (behind_at w.mesh.shape (is_inner w.mesh) axis high v)) (passed_at w.layout axis high list) 0 ≡ when_outside v (passed_side w.layout list axis high)
    by None = passed_are_sides w.layout axis high list w.layout.sound used
    by (Some o) = ap (λ t. cond t (passed_at w.layout axis high list) 0) (inside (is_inner w.mesh o) (is_node w.mesh.shape (is_inner w.mesh) o) (map (child w.mesh.shape.dims o) (children_at w.mesh.shape.dims axis (not high))) o (parent w.mesh.shape.dims o))

both_are : (a b c d : ℕ) → a ≡ c → b ≡ d → a + b ≡ c + d
both_are a b c d e f = omega arith

flows_are : (w : CycleMesh) (b f : ℕ) (pairs : FacePairs) → IsSound w → b < length w.mesh.leaves → HasPairs (block_on w f b) pairs.right pairs.left →
    (inflow_of w b pairs ≡ leaf_inflow w.settings w.mesh f (leaf_at w b)) × (outflow_of w b pairs ≡ leaf_outflow w.settings w.mesh f (leaf_at w b))
flows_are w b f pairs sound few has =
    let flows = domain_flows (block_on w f b) pairs.right pairs.left (block_sound w f b sound few) has in (
      sum_to-same w.layout.dims (λ axis. passed_face w b axis false pairs.right + passed_face w b axis true pairs.left) (λ axis. passed_outside (block_on w f b) pairs.right axis false + passed_outside (block_on w f b) pairs.left axis true)
          (λ axis used. both_are _ _ _ _ (face_passes w b f axis false pairs.right few used) (face_passes w b f axis true pairs.left few used))
          ∙ sym flows.inflow,
      sum_to-same w.layout.dims (λ axis. passed_face w b axis false pairs.left + passed_face w b axis true pairs.right) (λ axis. passed_outside (block_on w f b) pairs.left axis false + passed_outside (block_on w f b) pairs.right axis true)
          (λ axis used. both_are _ _ _ _ (face_passes w b f axis false pairs.left few used) (face_passes w b f axis true pairs.right few used))
          ∙ sym flows.outflow,
    )

-- a field without fluxes stays as it is
same_totals : (w : CycleMesh) (b f : ℕ) → IsReady w → b < length w.mesh.leaves → f < field_count w.settings → totals_on w.mesh b f ≡ table (block_size w.mesh) (λ place. stored w.mesh f (cell_at w.mesh (leaf_at w b) place))
same_totals w b f ready few some =
    table_by (totals_on w.mesh b f) (block_size w.mesh) (λ place. stored w.mesh f (cell_at w.mesh (leaf_at w b) place)) 0 (ready.lists b f few some) (λ place inside. sym (stored_on_leaf w.mesh ready.cycle.mesh f b place few inside))

still_totals : (w : CycleMesh) (b f : ℕ) → IsReady w → b < length w.mesh.leaves → f < field_count w.settings → has_fluxes w.settings f ≡ false → totals_on w.mesh b f ≡ totals_on (stage w.settings w.mesh) b f
still_totals w b f ready few some none =
    same_totals w b f ready few some
    ∙ table_same (block_size w.mesh) (λ place. stored w.mesh f (cell_at w.mesh (leaf_at w b) place)) (λ place. staged w.settings w.mesh f (cell_at w.mesh (leaf_at w b) place)) (λ place inside. sym (still_cell w.settings w.mesh f (cell_at w.mesh (leaf_at w b) place) none))
    ∙ sym (filled_totals w.mesh (field_count w.settings) f b (staged w.settings w.mesh) some few)

pub stages_are_the_rules : StagesAreTheRules
stages_are_the_rules w cells b f ready has few some = by (has_fluxes w.settings f) refl
  where
    sound : IsSound w
    sound = sound_of w ready

    calls : masked.is_called (kernels_of w) (λ (x : Exchange). region_sent w x (cells x.from f)) b f ≡ (is_sparse w.settings f && exchange_calls w.settings w.mesh f (leaf_at w b))
    calls = called_is w b f (λ (x : Exchange). region_sent w x (cells x.from f)) sound few some (regions_are w cells f sound has some)

    by : (t : Bool) → has_fluxes w.settings f ≡ t → IsStage w cells b f
    by true e =
        let pairs : FacePairs = pairs_of (kernels_of w) cells b f in
        let flows = flows_are w b f pairs sound few (pairs_have w cells b f ready has few some) in
        record {
          totals = ap (λ t. cond t (updated_by w (cells b f) pairs) (cells b f)) e ∙ updated_is w cells b f ready has few some;
          inflow = ap (λ t. cond t (inflow_of w b pairs) 0) e ∙ flows.0;
          outflow = ap (λ t. cond t (outflow_of w b pairs) 0) e ∙ flows.1;
          calls = calls;
        }
    by false e =
        let pairs : FacePairs = pairs_of (kernels_of w) cells b f in
        record {
          totals = ap (λ t. cond t (updated_by w (cells b f) pairs) (cells b f)) e ∙ has b f few some ∙ still_totals w b f ready few some e;
          inflow = ap (λ t. cond t (inflow_of w b pairs) 0) e ∙ sym (no_terms (block_size w.mesh) (λ place. cell_inflow w.settings w.mesh f (cell_at w.mesh (leaf_at w b) place)) (λ place. (still_flows w.settings w.mesh f (cell_at w.mesh (leaf_at w b) place) e).0));
          outflow = ap (λ t. cond t (outflow_of w b pairs) 0) e ∙ sym (no_terms (block_size w.mesh) (λ place. cell_outflow w.settings w.mesh f (cell_at w.mesh (leaf_at w b) place)) (λ place. (still_flows w.settings w.mesh f (cell_at w.mesh (leaf_at w b) place) e).1));
          calls = calls;
        }
