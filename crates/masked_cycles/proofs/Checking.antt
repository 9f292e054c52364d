-- The run's check is the cycle's.
use Rattle.std.proofs.Common.{◌≡◌, ℕ, ◌+◌, ◌<◌, Bool, true, false, cond, ◌&&◌, not, nat_le, List, length, refl, ap, subst, sym, ◌∙◌}
use Rattle.std.specs.Prelude.{replicate, sum}
use Rattle.morton_order.specs.declared.space.Loc.{Loc}
use Rattle.problem_set.specs.Settings.{Settings}
use Rattle.problem_set.specs.SettingsOf.{settings_of}
use Rattle.mesh_rules.specs.Mesh.{Mesh, block_of, stored, totals_on}
use Rattle.mesh_rules.specs.Fields.{field_count, is_sparse}
use Rattle.mesh_rules.specs.Mask.{Mask, Slot, absent, checked_slot, has_above, kept_by_check, kept_by_reaction, slot_at, some_above, stays}
use Rattle.mesh_rules.specs.Reaction.{react_mesh}
use Rattle.mesh_rules.specs.Cycle.{Held, checked, leaf_drop_at_check, reacted_to, staged_to}
use Rattle.run_laws.proofs.CycleMeshes.{on_reacted}
use Rattle.run_laws.proofs.Slots.{masks_stay, slot_masked}
use Rattle.block_layout.specs.Layouts.{interior_len}
use Rattle.sparse_rounds.specs.Masked.{Run, idle_next, kept_checked, reacted_run}
use Rattle.dense_mask.proofs.Leaves.{leaf_at as leaf_of}
use Rattle.cycle_kernels.specs.Blocks.{leaf_at}
use Rattle.kernel_stages.proofs.DueLetters.{other_default}
use Rattle.masked_cycles.specs.Cycles.{ChecksAgree, ReactionAgrees, cycle_mesh, kernels, start_of}
use Rattle.masked_cycles.proofs.Cuts.{IsCut, cut_long}
use Rattle.masked_cycles.proofs.Staging.{cut_agrees, leaf_same, mask_fits}
use Rattle.masked_cycles.proofs.Reacting.{above_is, reactions_agree, sparse_is}

-- a slot after a check, by its tests
abbrev by_tests : Bool → Bool → Bool → Bool → Slot → Slot
by_tests kept sparse idle long s = cond (kept && sparse) (cond idle (cond long absent (record s { idle = s.idle + 1 })) (record s { idle = 0 })) s

kept_by_tests : (a b c d : Bool) (s : Slot) → s.kept ≡ a → (a && not (b && (a && (c && d)))) ≡ (by_tests a b c d s).kept
kept_by_tests false b c d s e = sym e
kept_by_tests true false c d s e = sym e
kept_by_tests true true true true s e = refl
kept_by_tests true true true false s e = sym e
kept_by_tests true true false d s e = sym e

idle_by_tests : (a b c d : Bool) (s : Slot) → cond (b && a) (cond (c && not d) (s.idle + 1) 0) s.idle ≡ (by_tests a b c d s).idle
idle_by_tests false true c d s = refl
idle_by_tests false false c d s = refl
idle_by_tests true false c d s = refl
idle_by_tests true true true true s = refl
idle_by_tests true true true false s = refl
idle_by_tests true true false d s = refl

-- what the kernels say of it
pub slot_checked : (s : Slot) (sparse idle : Bool) (limit : ℕ) →
    ((s.kept && not (sparse && (s.kept && (idle && nat_le limit (s.idle + 1))))) ≡ (by_tests s.kept sparse idle (nat_le limit (s.idle + 1)) s).kept)
    × (cond (sparse && s.kept) (cond (idle && not (nat_le limit (s.idle + 1))) (s.idle + 1) 0) s.idle ≡ (by_tests s.kept sparse idle (nat_le limit (s.idle + 1)) s).idle)
slot_checked s sparse idle limit = (kept_by_tests s.kept sparse idle (nat_le limit (s.idle + 1)) s refl, idle_by_tests s.kept sparse idle (nat_le limit (s.idle + 1)) s)

pub checks_agree : ChecksAgree
checks_agree c b f is at = record {
  holds = record { totals = left.0; kept = kept; idle = idle };
  flows = record { inflow = here.flows.inflow; outflow = here.flows.outflow; made = here.flows.made; used = here.flows.used };
  dropped = both here.dropped (left.1 ∙ ap (λ (o : Loc). leaf_drop_at_check p h f o) leaf);
}
  where
    p : Settings
    p = settings_of c.problem

    h : Held
    h = reacted_to p c.react c.state

    m : Mesh
    m = h.mesh

    r : Run (List ℕ)
    r = reacted_run (kernels c) (start_of c)

    mask : Mask
    mask = kept_by_check p m h.mask

    few : b < length m.leaves
    few = subst (λ (v : List Loc). b < length v) (sym (on_reacted p c.react c.state is.fit.mesh).leaves) at.block

    leaf : leaf_of m b ≡ leaf_at (cycle_mesh c) b
    leaf = leaf_same c m b (on_reacted p c.react c.state is.fit.mesh).leaves

    here : ReactionAgrees c b f
    here = reactions_agree c b f is at

    slot : Slot
    slot = slot_at h.mask b f

    before : Mesh
    before = react_mesh c.react (field_count p) (staged_to p c.state p.nstages).mesh

    cutting : IsCut p m mask b f
    cutting = record {
      mesh = (on_reacted p c.react c.state is.fit.mesh).mesh;
      few = few;
      some = at.field;
      long = cut_long before (field_count p) b f (λ f c'. cond (stays p before (kept_by_reaction p before (staged_to p c.state p.nstages).mask) f (block_of before c')) (stored before f c') 0) at.field few;
      always = ((masks_stay c.problem c.react c.state is.fit.mesh (mask_fits c is)).slots b f at.block at.field).always;
    }

    is_idle : Bool
    is_idle = not (has_above p.dealloc_threshold m f (leaf_of m b))

    idle_is : not (some_above p.dealloc_threshold (r.mesh b f)) ≡ is_idle
    idle_is = ap (λ (v : List ℕ). not (some_above p.dealloc_threshold v)) here.holds.totals ∙ ap not (above_is p m mask b f p.dealloc_threshold cutting)

    slot_is : slot_at mask b f ≡ checked_slot p f is_idle slot
    slot_is = slot_masked m.leaves (field_count p) (λ leaf l f. checked_slot p f (not (has_above p.dealloc_threshold m f l)) (slot_at h.mask leaf f)) b f few at.field
        ∙ ap (λ (o : Loc). checked_slot p f (not (has_above p.dealloc_threshold m f o)) slot) (other_default m.leaves b _ _ few)

    both_tests : ((slot.kept && not (is_sparse p f && (slot.kept && (is_idle && nat_le p.dealloc_count (slot.idle + 1))))) ≡ (checked_slot p f is_idle slot).kept)
        × (cond (is_sparse p f && slot.kept) (cond (is_idle && not (nat_le p.dealloc_count (slot.idle + 1))) (slot.idle + 1) 0) slot.idle ≡ (checked_slot p f is_idle slot).idle)
    both_tests = slot_checked slot (is_sparse p f) is_idle p.dealloc_count

    kept : kept_checked (kernels c) r b f ≡ (slot_at mask b f).kept
    kept =
        ap (λ t. r.kept b f && not (t && (r.kept b f && (not (some_above p.dealloc_threshold (r.mesh b f)) && nat_le p.dealloc_count (r.idle b f + 1))))) (sparse_is c f at.field)
        ∙ ap (λ t. r.kept b f && not (is_sparse p f && (r.kept b f && (t && nat_le p.dealloc_count (r.idle b f + 1))))) idle_is
        ∙ ap (λ t. t && not (is_sparse p f && (t && (is_idle && nat_le p.dealloc_count (r.idle b f + 1))))) here.holds.kept
        ∙ ap (λ n. slot.kept && not (is_sparse p f && (slot.kept && (is_idle && nat_le p.dealloc_count (n + 1))))) here.holds.idle
        ∙ both_tests.0
        ∙ sym (ap (λ (s : Slot). s.kept) slot_is)

    idle : idle_next (kernels c) (r.mesh b f) (r.kept b f) (r.idle b f) f ≡ (slot_at mask b f).idle
    idle =
        ap (λ t. cond (t && r.kept b f) (cond (not (some_above p.dealloc_threshold (r.mesh b f)) && not (nat_le p.dealloc_count (r.idle b f + 1))) (r.idle b f + 1) 0) (r.idle b f)) (sparse_is c f at.field)
        ∙ ap (λ t. cond (is_sparse p f && r.kept b f) (cond (t && not (nat_le p.dealloc_count (r.idle b f + 1))) (r.idle b f + 1) 0) (r.idle b f)) idle_is
        ∙ ap (λ t. cond (is_sparse p f && t) (cond (is_idle && not (nat_le p.dealloc_count (r.idle b f + 1))) (r.idle b f + 1) 0) (r.idle b f)) here.holds.kept
        ∙ ap (λ n. cond (is_sparse p f && slot.kept) (cond (is_idle && not (nat_le p.dealloc_count (n + 1))) (n + 1) 0) n) here.holds.idle
        ∙ both_tests.1
        ∙ sym (ap (λ (s : Slot). s.idle) slot_is)

    left : (cond (kept_checked (kernels c) r b f) (r.mesh b f) (replicate (interior_len c.layout) 0) ≡ totals_on (checked p c.react c.state).mesh b f)
        × (cond (kept_checked (kernels c) r b f) 0 (sum (r.mesh b f)) ≡ leaf_drop_at_check p h f (leaf_of m b))
    left = cut_agrees c m mask b f (kept_checked (kernels c) r b f) (r.mesh b f) is (on_reacted p c.react c.state is.fit.mesh).cells cutting kept here.holds.totals

    both : {a x y z : ℕ} → a ≡ x → y ≡ z → a + y ≡ x + z
    both {a} {x} {y} {z} e g = ap (λ v. v + y) e ∙ ap (λ v. x + v) g
