-- The run's stages are the cycle's.
use Rattle.std.proofs.Common.{◌≡◌, ℕ, zero, suc, ◌+◌, ◌<◌, Bool, cond, ◌&&◌, ◌||◌, not, List, length, refl, ap, subst, sym, ◌∙◌}
use Rattle.std.specs.Prelude.{replicate, sum}
use Rattle.std.specs.List.{slice_index_or}
use Rattle.morton_order.specs.declared.space.Loc.{Loc}
use Rattle.problem_set.specs.Settings.{Settings}
use Rattle.problem_set.specs.SettingsOf.{settings_of}
use Rattle.mesh_rules.specs.declared.wish.Wish.{Wish}
use Rattle.mesh_rules.specs.Mesh.{Mesh, block_size, totals_on}
use Rattle.mesh_rules.specs.Due.{Exchange}
use Rattle.mesh_rules.specs.Fields.{field_count, has_fluxes, is_sparse}
use Rattle.mesh_rules.specs.Mask.{Mask, Slot, called, cut, exchange_calls, kept_by_exchange, leaf_dropped, slot_at}
use Rattle.dense_mask.proofs.Leaves.{leaf_at as leaf_of, origin}
use Rattle.mesh_rules.specs.Stage.{leaf_inflow, leaf_outflow, stage, staged}
use Rattle.mesh_rules.specs.Cycle.{Held, leaf_drop_in_stage, staged_to}
use Rattle.run_laws.specs.MaskLaws.{FitsSlot, MaskFits}
use Rattle.run_laws.proofs.CycleMeshes.{on_stage, on_staged}
use Rattle.run_laws.proofs.Slots.{slot_masked, staged_fits}
use Rattle.block_layout.specs.Indices.{count_of}
use Rattle.block_layout.specs.Layouts.{interior_len}
use Rattle.sparse_rounds.specs.Kernels.{Kernels, pairs_of}
use Rattle.sparse_rounds.specs.Masked.{Run, after_stage, is_called, kept_next, run_at}
use Rattle.sparse_rounds.specs.Masked as masked
use Rattle.cycle_kernels.specs.Blocks.{CycleMesh, leaf_at}
use Rattle.cycle_kernels.specs.Kernels.{kernels_of}
use Rattle.cycle_kernels.specs.Pairs.{FacePairs}
use Rattle.kernel_stages.specs.Stages.{HasTotals, IsStage}
use Rattle.kernel_stages.proofs.DueLetters.{other_default}
use Rattle.kernel_stages.proofs.Stages.{stages_are_the_rules}
use Rattle.masked_cycles.specs.Cycles.{Cycle, IsCycle, IsPlace, StageAgrees, StagesAgree, cycle_mesh, kernels, may_be_absent, start_of}
use Rattle.masked_cycles.proofs.Cuts.{IsCut, called_idle, called_kept, cut_long, cut_totals, drop_is}
use Rattle.masked_cycles.proofs.Starts.{place_is}
use Rattle.masked_cycles.proofs.Trees.{kernels_same, mesh_with, same_staged, staged_ready}

-- the masks fit
pub mask_fits : (c : Cycle) → IsCycle c → MaskFits (settings_of c.problem) c.state.mesh.leaves c.state.mask
mask_fits c is = record {
  leaf_slots = is.fit.mask.leaf_slots;
  field_slots = is.fit.mask.field_slots;
  slots = λ b f few some. record { always = is.fit.mask.always b f few some; fresh = is.fit.mask.fresh b f few some; idle = is.fit.mask.idle b f few some };
}

-- leaves, sizes, and lists of zeros
pub leaf_same : (c : Cycle) (m : Mesh) (b : ℕ) → m.leaves ≡ c.state.mesh.leaves → leaf_at (mesh_with c m) b ≡ leaf_at (cycle_mesh c) b
leaf_same c m b e = ap (λ (v : List Loc). slice_index_or v b origin) e

pub size_same : (c : Cycle) (m : Mesh) → IsCycle c → m.cells ≡ c.state.mesh.cells → interior_len c.layout ≡ block_size m
size_same c m is e = ap count_of (is.layout.cells ∙ sym e)

-- the start
at_start : (c : Cycle) (b f : ℕ) → IsCycle c → IsPlace c b f → StageAgrees c 0 b f
at_start c b f is at =
    let e = place_is c b f at in
    record {
      holds = record {
        totals = ap (λ t. cond t (totals_on c.state.mesh b f) (replicate (interior_len c.layout) 0)) e;
        kept = ap (λ t. cond t (slot_at c.state.mask b f).kept (not (may_be_absent c f))) e;
        idle = ap (λ t. cond t (slot_at c.state.mask b f).idle 0) e;
      };
      dropped = refl;
      inflow = refl;
      outflow = refl;
      made = refl;
      used = refl;
    }

-- a mesh where not all is kept
pub cut_agrees : (c : Cycle) (m : Mesh) (mask : Mask) (b f : ℕ) (kept : Bool) (totals : List ℕ) → IsCycle c → m.cells ≡ c.state.mesh.cells → IsCut (settings_of c.problem) m mask b f → kept ≡ (slot_at mask b f).kept → totals ≡ totals_on m b f →
    (cond kept totals (replicate (interior_len c.layout) 0) ≡ totals_on (cut (settings_of c.problem) mask m) b f) × (cond kept 0 (sum totals) ≡ leaf_dropped (settings_of c.problem) mask m f (leaf_of m b))
cut_agrees c m mask b f kept totals is cells cutting e g = (
  ap (λ t. cond t totals (replicate (interior_len c.layout) 0)) e
      ∙ ap (λ (v : List ℕ). cond (slot_at mask b f).kept v (replicate (interior_len c.layout) 0)) g
      ∙ ap (λ n. cond (slot_at mask b f).kept (totals_on m b f) (replicate n 0)) (size_same c m is cells)
      ∙ sym (cut_totals (settings_of c.problem) m mask b f cutting),
  ap (λ t. cond t 0 (sum totals)) e ∙ ap (λ (v : List ℕ). cond (slot_at mask b f).kept 0 (sum v)) g ∙ drop_is (settings_of c.problem) m mask b f cutting,
)

-- one stage more
stage_step : (c : Cycle) (n : ℕ) → IsCycle c → ((b f : ℕ) → IsPlace c b f → StageAgrees c n b f) → (b f : ℕ) → IsPlace c b f → StageAgrees c (suc n) b f
stage_step c n is before b f at = record {
  holds = record { totals = left.0; kept = kept; idle = here.holds.idle ∙ called_idle slot calls (fits.fresh) ∙ sym (ap (λ (s : Slot). s.idle) slot_is) };
  dropped = both here.dropped (left.1 ∙ ap (λ (o : Loc). leaf_drop_in_stage p h f o) leaf);
  inflow = both here.inflow (subst (λ (k : Kernels Exchange (List ℕ) (List ℕ) FacePairs (List ℕ) Wish). cond (has_fluxes p f) (k.inflow b f (pairs_of k r.mesh b f)) 0 ≡ leaf_inflow p m f (leaf_at w b)) same st.inflow ∙ ap (leaf_inflow p m f) leaf);
  outflow = both here.outflow (subst (λ (k : Kernels Exchange (List ℕ) (List ℕ) FacePairs (List ℕ) Wish). cond (has_fluxes p f) (k.outflow b f (pairs_of k r.mesh b f)) 0 ≡ leaf_outflow p m f (leaf_at w b)) same st.outflow ∙ ap (leaf_outflow p m f) leaf);
  made = here.made;
  used = here.used;
}
  where
    p : Settings
    p = settings_of c.problem

    h : Held
    h = staged_to p c.state n

    m : Mesh
    m = h.mesh

    w : CycleMesh
    w = mesh_with c m

    r : Run (List ℕ)
    r = run_at (kernels c) (start_of c) n

    mask : Mask
    mask = kept_by_exchange p m h.mask

    leaves : m.leaves ≡ c.state.mesh.leaves
    leaves = (on_staged p c.state is.fit.mesh n).leaves

    few : b < length m.leaves
    few = subst (λ (v : List Loc). b < length v) (sym leaves) at.block

    leaf : leaf_at w b ≡ leaf_at (cycle_mesh c) b
    leaf = leaf_same c m b leaves

    here : StageAgrees c n b f
    here = before b f at

    has : HasTotals w r.mesh
    has b f few some = (before b f (record { block = subst (λ (v : List Loc). b < length v) leaves few; field = some })).holds.totals

    st : IsStage w r.mesh b f
    st = stages_are_the_rules w r.mesh b f (staged_ready c n is) has few at.field

    same : kernels_of w ≡ kernels c
    same = kernels_same c m (same_staged p c.state n)

    slot : Slot
    slot = slot_at h.mask b f

    calls : Bool
    calls = exchange_calls p m f (leaf_at w b)

    fits : FitsSlot p f slot
    fits = (staged_fits c.problem c.state is.fit.mesh (mask_fits c is) n).slots b f at.block at.field

    slot_is : slot_at mask b f ≡ called slot calls
    slot_is = slot_masked m.leaves (field_count p) (λ leaf l f. called (slot_at h.mask leaf f) (exchange_calls p m f l)) b f few at.field ∙ ap (λ (o : Loc). called slot (exchange_calls p m f o)) (other_default m.leaves b _ _ few)

    kept : kept_next (kernels c) r b f ≡ (slot_at mask b f).kept
    kept =
        ap (λ t. t || is_called (kernels c) (λ x. (kernels c).region x (r.mesh x.from f)) b f) here.holds.kept
        ∙ ap (λ t. slot.kept || t) (subst (λ (k : Kernels Exchange (List ℕ) (List ℕ) FacePairs (List ℕ) Wish). is_called k (λ x. k.region x (r.mesh x.from f)) b f ≡ (is_sparse p f && calls)) same st.calls)
        ∙ called_kept slot (is_sparse p f) calls fits.always
        ∙ sym (ap (λ (s : Slot). s.kept) slot_is)

    totals : masked.staged (kernels c) r.mesh b f ≡ totals_on (stage p m) b f
    totals = subst (λ (k : Kernels Exchange (List ℕ) (List ℕ) FacePairs (List ℕ) Wish). masked.staged k r.mesh b f ≡ totals_on (stage p m) b f) same st.totals

    cutting : IsCut p (stage p m) mask b f
    cutting = record {
      mesh = (on_stage p c.state.mesh m (on_staged p c.state is.fit.mesh n)).mesh;
      few = few;
      some = at.field;
      long = cut_long m (field_count p) b f (staged p m) at.field few;
      always = ((staged_fits c.problem c.state is.fit.mesh (mask_fits c is) (suc n)).slots b f at.block at.field).always;
    }

    left : (cond (kept_next (kernels c) r b f) (masked.staged (kernels c) r.mesh b f) (replicate (interior_len c.layout) 0) ≡ totals_on (staged_to p c.state (suc n)).mesh b f)
        × (cond (kept_next (kernels c) r b f) 0 (sum (masked.staged (kernels c) r.mesh b f)) ≡ leaf_drop_in_stage p h f (leaf_at w b))
    left = cut_agrees c (stage p m) mask b f (kept_next (kernels c) r b f) (masked.staged (kernels c) r.mesh b f) is (on_staged p c.state is.fit.mesh n).cells cutting kept totals

    both : {a x y z : ℕ} → a ≡ x → y ≡ z → a + y ≡ x + z
    both {a} {x} {y} {z} e g = ap (λ v. v + y) e ∙ ap (λ v. x + v) g

pub stages_agree : StagesAgree
stages_agree c zero b f is at = at_start c b f is at
stages_agree c (suc n) b f is at = stage_step c n is (λ b f at. stages_agree c n b f is at) b f at
