-- The run's reaction is the cycle's.
use Rattle.std.proofs.Common.{◌≡◌, ℕ, ◌+◌, ◌<◌, Bool, true, cond, ◌&&◌, ◌||◌, nat_lt, List, [], ◌∷◌, map, length, refl, arith, ap, subst, sym, ◌∙◌, slice_index}
use Rattle.std.specs.Prelude.{replicate, sum}
use Rattle.std.specs.List.{list_any, range_with_len}
use Rattle.std.proofs.lemmas.Bool.{lt-ltb}
use Rattle.morton_order.specs.declared.space.Loc.{Loc}
use Rattle.package_fields.specs.Kernel.{Reacted}
use Rattle.problem_set.specs.Settings.{Settings}
use Rattle.problem_set.specs.SettingsOf.{settings_of}
use Rattle.mesh_rules.specs.Sums.{sum_to, table}
use Rattle.mesh_rules.specs.Mesh.{Mesh, block_size, cell_at, stored, totals_on}
use Rattle.mesh_rules.specs.Fields.{field_count, is_sparse}
use Rattle.mesh_rules.specs.Mask.{Mask, Slot, called, has_above, kept_by_reaction, slot_at, some_above}
use Rattle.mesh_rules.specs.Reaction.{leaf_made, leaf_used, react_mesh, reacted_cell}
use Rattle.mesh_rules.specs.Cycle.{Held, leaf_drop_by_reaction, reacted_to, staged_to}
use Rattle.mesh_laws.proofs.Totals.{sum_to-same}
use Rattle.run_laws.specs.MaskLaws.{FitsSlot}
use Rattle.run_laws.proofs.CycleMeshes.{on_reacting, on_staged}
use Rattle.run_laws.proofs.Slots.{reacted_fits, slot_masked, staged_fits}
use Rattle.block_layout.specs.Layouts.{interior_len}
use Rattle.letter_laws.proofs.Boxes.{table_same}
use Rattle.sparse_rounds.specs.Masked.{Run, kept_reacted, run_at}
use Rattle.dense_mask.proofs.Leaves.{leaf_at as leaf_of, stored_on_leaf}
use Rattle.cycle_kernels.specs.Blocks.{leaf_at, may_lack}
use Rattle.cycle_kernels.specs.Cells as cells
use Rattle.cycle_kernels.specs.Cells.{made_by, reacted_by, used_by}
use Rattle.kernel_stages.proofs.DueLetters.{other_default}
use Rattle.kernel_stages.proofs.Stages.{filled_totals}
use Rattle.masked_cycles.specs.Cycles.{Cycle, IsCycle, IsPlace, ReactionsAgree, StageAgrees, cycle_mesh, kernels, start_of}
use Rattle.masked_cycles.proofs.Cuts.{IsCut, called_idle, called_kept, cut_long, row_is}
use Rattle.masked_cycles.proofs.Staging.{cut_agrees, leaf_same, mask_fits, size_same, stages_agree}

-- whether a list has a total above a threshold is whether the leaf has one
any_map : {X Y : Type 0} (test : Y → Bool) (g : X → Y) (xs : List X) → list_any test (map g xs) ≡ list_any (λ x. test (g x)) xs
any_map test g [] = refl
any_map test g (x ∷ xs) = ap (λ t. test (g x) || t) (any_map test g xs)

pub above_is : (p : Settings) (m : Mesh) (mask : Mask) (b f threshold : ℕ) → IsCut p m mask b f → some_above threshold (totals_on m b f) ≡ has_above threshold m f (leaf_of m b)
above_is p m mask b f threshold c =
    ap (some_above threshold) (sym (row_is p m mask b f c).row)
    ∙ any_map (nat_lt threshold) (λ place. stored m f (cell_at m (leaf_of m b) place)) (range_with_len 0 (block_size m))

-- lists of all fields on a block
abbrev HasLists : Cycle → Mesh → ℕ → (ℕ → List ℕ) → Type 0
HasLists c m b totals = (f : ℕ) → f < field_count (settings_of c.problem) → totals f ≡ totals_on m b f

reacted_cell_is : (c : Cycle) (n b k : ℕ) (totals : ℕ → List ℕ) → IsCycle c → HasLists c (staged_to (settings_of c.problem) c.state n).mesh b totals → b < length (staged_to (settings_of c.problem) c.state n).mesh.leaves → k < block_size (staged_to (settings_of c.problem) c.state n).mesh →
    cells.reacted_cell (cycle_mesh c) totals k ≡ reacted_cell c.react (field_count (settings_of c.problem)) (staged_to (settings_of c.problem) c.state n).mesh (cell_at (staged_to (settings_of c.problem) c.state n).mesh (leaf_of (staged_to (settings_of c.problem) c.state n).mesh b) k)
reacted_cell_is c n b k totals is has few inside =
    let p = settings_of c.problem in
    let m : Mesh = (staged_to p c.state n).mesh in
    ap c.react (table_same (field_count p) (λ f. slice_index (totals f) k) (λ f. stored m f (cell_at m (leaf_of m b) k))
    (λ f some. ap (λ (v : List ℕ). slice_index v k) (has f some) ∙ sym (stored_on_leaf m (on_staged p c.state is.fit.mesh n).mesh f b k few inside)))

pub record IsReacted (c : Cycle) (b f : ℕ) (totals : ℕ → List ℕ) (m : Mesh) : Type 0 where
  pub left : reacted_by (cycle_mesh c) totals f ≡ totals_on (react_mesh c.react (field_count (settings_of c.problem)) m) b f
  pub made : made_by (cycle_mesh c) totals f ≡ leaf_made c.react (field_count (settings_of c.problem)) m f (leaf_of m b)
  pub used : used_by (cycle_mesh c) totals f ≡ leaf_used c.react (field_count (settings_of c.problem)) m f (leaf_of m b)

is_reacted : (c : Cycle) (n b f : ℕ) (totals : ℕ → List ℕ) → IsCycle c → IsPlace c b f → HasLists c (staged_to (settings_of c.problem) c.state n).mesh b totals → IsReacted c b f totals (staged_to (settings_of c.problem) c.state n).mesh
is_reacted c n b f totals is at has = record {
  left = table_same (interior_len c.layout) (λ k. slice_index (cells.reacted_cell (cycle_mesh c) totals k).totals f) (λ k. slice_index (reacted_cell c.react fields m (cell_at m (leaf_of m b) k)).totals f)
      (λ k inside. ap (λ (r : Reacted). slice_index r.totals f) (cell k inside))
      ∙ ap (λ n. table n (λ k. slice_index (reacted_cell c.react fields m (cell_at m (leaf_of m b) k)).totals f)) size
      ∙ sym (filled_totals m fields f b (λ f c'. slice_index (reacted_cell c.react fields m c').totals f) at.field few);
  made = sum_to-same (interior_len c.layout) (λ k. slice_index (cells.reacted_cell (cycle_mesh c) totals k).made f) (λ k. slice_index (reacted_cell c.react fields m (cell_at m (leaf_of m b) k)).made f)
      (λ k inside. ap (λ (r : Reacted). slice_index r.made f) (cell k inside))
      ∙ ap (λ n. sum_to n (λ k. slice_index (reacted_cell c.react fields m (cell_at m (leaf_of m b) k)).made f)) size;
  used = sum_to-same (interior_len c.layout) (λ k. slice_index (cells.reacted_cell (cycle_mesh c) totals k).used f) (λ k. slice_index (reacted_cell c.react fields m (cell_at m (leaf_of m b) k)).used f)
      (λ k inside. ap (λ (r : Reacted). slice_index r.used f) (cell k inside))
      ∙ ap (λ n. sum_to n (λ k. slice_index (reacted_cell c.react fields m (cell_at m (leaf_of m b) k)).used f)) size;
}
  where
    p : Settings
    p = settings_of c.problem

    fields : ℕ
    fields = field_count p

    m : Mesh
    m = (staged_to p c.state n).mesh

    few : b < length m.leaves
    few = subst (λ (v : List Loc). b < length v) (sym (on_staged p c.state is.fit.mesh n).leaves) at.block

    size : interior_len c.layout ≡ block_size m
    size = size_same c m is (on_staged p c.state is.fit.mesh n).cells

    cell : (k : ℕ) → k < interior_len c.layout → cells.reacted_cell (cycle_mesh c) totals k ≡ reacted_cell c.react fields m (cell_at m (leaf_of m b) k)
    cell k inside = reacted_cell_is c n b k totals is has few (subst (λ v. k < v) size inside)

pub sparse_is : (c : Cycle) (f : ℕ) → f < field_count (settings_of c.problem) → may_lack (cycle_mesh c) f ≡ is_sparse (settings_of c.problem) f
sparse_is c f some = ap (λ t. cond t (is_sparse (settings_of c.problem) f) true) (lt-ltb f (field_count (settings_of c.problem)) some)

pub reactions_agree : ReactionsAgree
reactions_agree c b f is at = record {
  holds = record { totals = left.0; kept = kept; idle = here.holds.idle ∙ called_idle slot calls fits.fresh ∙ sym (ap (λ (s : Slot). s.idle) slot_is) };
  flows = record {
    inflow = here.inflow;
    outflow = here.outflow;
    made = added here.made (it.made ∙ ap (leaf_made c.react (field_count p) h.mesh f) leaf);
    used = added here.used (it.used ∙ ap (leaf_used c.react (field_count p) h.mesh f) leaf);
  };
  dropped = both here.dropped (left.1 ∙ ap (λ (o : Loc). leaf_drop_by_reaction p c.react h f o) leaf);
}
  where
    p : Settings
    p = settings_of c.problem

    h : Held
    h = staged_to p c.state p.nstages

    m : Mesh
    m = react_mesh c.react (field_count p) h.mesh

    r : Run (List ℕ)
    r = run_at (kernels c) (start_of c) p.nstages

    mask : Mask
    mask = kept_by_reaction p m h.mask

    few : b < length m.leaves
    few = subst (λ (v : List Loc). b < length v) (sym (on_reacting p c.react c.state is.fit.mesh).leaves) at.block

    leaf : leaf_of m b ≡ leaf_at (cycle_mesh c) b
    leaf = leaf_same c m b (on_reacting p c.react c.state is.fit.mesh).leaves

    here : StageAgrees c p.nstages b f
    here = stages_agree c p.nstages b f is at

    it : IsReacted c b f (r.mesh b) h.mesh
    it = is_reacted c p.nstages b f (r.mesh b) is at (λ f some. (stages_agree c p.nstages b f is (record { block = at.block; field = some })).holds.totals)

    slot : Slot
    slot = slot_at h.mask b f

    calls : Bool
    calls = has_above p.alloc_threshold m f (leaf_of m b)

    fits : FitsSlot p f slot
    fits = (staged_fits c.problem c.state is.fit.mesh (mask_fits c is) p.nstages).slots b f at.block at.field

    slot_is : slot_at mask b f ≡ called slot calls
    slot_is = slot_masked m.leaves (field_count p) (λ leaf l f. called (slot_at h.mask leaf f) (has_above p.alloc_threshold m f l)) b f few at.field ∙ ap (λ (o : Loc). called slot (has_above p.alloc_threshold m f o)) (other_default m.leaves b _ _ few)

    cutting : IsCut p m mask b f
    cutting = record {
      mesh = (on_reacting p c.react c.state is.fit.mesh).mesh;
      few = few;
      some = at.field;
      long = cut_long h.mesh (field_count p) b f (λ f c'. slice_index (reacted_cell c.react (field_count p) h.mesh c').totals f) at.field few;
      always = ((reacted_fits c.problem c.react c.state is.fit.mesh (mask_fits c is)).slots b f at.block at.field).always;
    }

    kept : kept_reacted (kernels c) r b f ≡ (slot_at mask b f).kept
    kept =
        ap (λ t. t || (may_lack (cycle_mesh c) f && some_above p.alloc_threshold (reacted_by (cycle_mesh c) (r.mesh b) f))) here.holds.kept
        ∙ ap (λ t. slot.kept || (t && some_above p.alloc_threshold (reacted_by (cycle_mesh c) (r.mesh b) f))) (sparse_is c f at.field)
        ∙ ap (λ (v : List ℕ). slot.kept || (is_sparse p f && some_above p.alloc_threshold v)) it.left
        ∙ ap (λ t. slot.kept || (is_sparse p f && t)) (above_is p m mask b f p.alloc_threshold cutting)
        ∙ called_kept slot (is_sparse p f) calls fits.always
        ∙ sym (ap (λ (s : Slot). s.kept) slot_is)

    left : (cond (kept_reacted (kernels c) r b f) (reacted_by (cycle_mesh c) (r.mesh b) f) (replicate (interior_len c.layout) 0) ≡ totals_on (reacted_to p c.react c.state).mesh b f)
        × (cond (kept_reacted (kernels c) r b f) 0 (sum (reacted_by (cycle_mesh c) (r.mesh b) f)) ≡ leaf_drop_by_reaction p c.react h f (leaf_of m b))
    left = cut_agrees c m mask b f (kept_reacted (kernels c) r b f) (reacted_by (cycle_mesh c) (r.mesh b) f) is (on_reacting p c.react c.state is.fit.mesh).cells cutting kept it.left

    both : {a x y z : ℕ} → a ≡ x → y ≡ z → a + y ≡ x + z
    both {a} {x} {y} {z} e g = ap (λ v. v + y) e ∙ ap (λ v. x + v) g

    added : {a y z : ℕ} → a ≡ 0 → y ≡ z → a + y ≡ z
    added {a} {y} {z} e g = omega arith
