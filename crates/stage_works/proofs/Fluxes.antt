-- Buffers with what passes their faces are the work of the machine.
use Rattle.std.proofs.Common.{◌≡◌, ◌==◌, ℕ, ◌+◌, ◌-◌, ◌*◌, ◌/◌, ◌%◌, ◌<◌, ◌≤◌, Bool, true, false, cond, ◌&&◌, nat_lt, List, [], ◌∷◌, map, Some, Option, is_some, length, refl, arith, ap, subst, sym, ◌∙◌, All}
use Rattle.std.specs.List.{slice_index_or}
use Rattle.std.proofs.lemmas.Bool.{and_parts, eqb-true, lt-ltb, ltb-true}
use Rattle.std.proofs.lemmas.List.{get_or-map, length-map}
use Rattle.sparse_pool.specs.declared.place.Place.{Place}
use Rattle.field_bufs.specs.declared.buf.FieldBuf.{FieldBuf}
use Rattle.field_bufs.specs.Buffers.{HasSizes}
use Rattle.package_fields.specs.Flow.{no_flow}
use Rattle.mesh_laws.proofs.Totals.{sum_to-same}
use Rattle.upwind_fluxes.specs.declared.donor.Donor.TheVariants.{Below, Above}
use Rattle.sparse_rounds.specs.Sparse.{Buf, fluxed, nothing, read, stage_work, tail_work, work_of}
use Rattle.cycle_rounds.specs.Events.{reads}
use Rattle.cycle_kernels.specs.Pairs.{FacePairs, face_list, fluxes_of, flux_through}
use Rattle.cycle_kernels.specs.Lists.{ghosts_in, own_totals, with_ghosts}
use Rattle.cycle_kernel_links.proofs.Fluxes.{faces_long}
use Rattle.cycle_events.specs.declared.event.Event.{Event}
use Rattle.cycle_events.specs.Cycles.{machine, plan}
use Rattle.masked_cycles.specs.Cycles.{Cycle, cycle_mesh, kernels}
use Rattle.mesh_journals.specs.Cycles.{MeshState, mesh_state, on_mesh}
use Rattle.cycle_leases.specs.declared.lease.Lease.{Lease}
use Rattle.cycle_leases.specs.Buffers.{LocalOf, place_of, shown_by, stamp_after}
use Rattle.cycle_leases.specs.Leases.{IsLeaseAfter, IsLent}
use Rattle.cycle_leases.specs.Works.{HasFlowed, IsLeft, IsWork, sum_of_list, worked}
use Rattle.lent_bufs.proofs.Each.{buf_at, no_buf}
use Rattle.stage_tasks.specs.Fluxes.{fluxes_in, with_fluxes}
use Rattle.stage_works.specs.Works.{FluxesAreWork, is_fluxing}
use Rattle.stage_works.proofs.Idle.{IsComputing, counts_none, freed_none, keeps_same, made_none, sent_none, stamp_stays, wishes_none}
use Rattle.stage_works.proofs.Lent.{IsOfLease, of_lease}

-- buffers that stay at their places
pub same_places : (F : FieldBuf → FieldBuf) (bufs : List FieldBuf) → ((buf : FieldBuf) → place_of (F buf) ≡ place_of buf) → map place_of (map F bufs) ≡ map place_of bufs
same_places F [] h = refl
same_places F (x ∷ xs) h = ap (λ (v : Place). v ∷ map place_of (map F xs)) (h x) ∙ ap (λ (v : List Place). place_of x ∷ v) (same_places F xs h)

pub all_mapped : (P : FieldBuf → Type 0) (F : FieldBuf → FieldBuf) (bufs : List FieldBuf) → ((k : ℕ) → k < length bufs → P (F (buf_at bufs k))) → All P (map F bufs)
all_mapped P F bufs h k d small =
    let many = length-map bufs F in
    let few : k < length bufs = omega arith in
    subst P (sym (get_or-map F bufs k no_buf d few)) (h k few)

-- the work of a stage's task
pub stage_worked : (c : Cycle) (s : MeshState) (list j : ℕ) → s.given list < 6 * c.problem.nstages → s.given list % 6 ≡ j →
    worked c s list ≡ stage_work (kernels c) j (reads (plan (on_mesh c)) (machine (on_mesh c)) s (s.given list / 3)) (s.local list)
stage_worked c s list j small is =
    let k = kernels c in
    let g : ℕ = s.given list in
    let content = reads (plan (on_mesh c)) (machine (on_mesh c)) s (g / 3) in
    ap (λ (t : Bool). cond t (stage_work k (g % 6) content (s.local list)) (tail_work k (g - 6 * c.problem.nstages) (s.local list))) (lt-ltb g (6 * c.problem.nstages) small)
    ∙ ap (λ (v : ℕ). stage_work k v content (s.local list)) is

-- nothing flows
none_flows : (c : Cycle) (list f : ℕ) (old new : LocalOf) → ((b : ℕ) → new.inflow b f ≡ old.inflow b f) → ((b : ℕ) → new.outflow b f ≡ old.outflow b f) → ((b : ℕ) → new.made b f ≡ old.made b f) → ((b : ℕ) → new.used b f ≡ old.used b f) → HasFlowed c list old new f no_flow
none_flows c list f old new a b d e = record {
  inflow = same old.inflow new.inflow a;
  outflow = same old.outflow new.outflow b;
  made = same old.made new.made d;
  used = same old.used new.used e;
}
  where
    same : (x y : ℕ → ℕ → ℕ) → ((b : ℕ) → y b f ≡ x b f) → sum_of_list c list (λ b. x b f) + 0 ≡ sum_of_list c list (λ b. y b f)
    same x y h =
        let q : sum_of_list c list (λ b. x b f) ≡ sum_of_list c list (λ b. y b f) = sum_to-same _ _ _ (λ b low. ap (λ (v : ℕ). cond ((kernels c).owner b == list) v 0) (sym (h b))) in
        omega arith

pub fluxes_are_work : FluxesAreWork
fluxes_are_work c events lease after task =
    let s : MeshState = mesh_state c events in
    let list : ℕ = lease.list in
    let g : ℕ = s.given list in
    let k = kernels c in
    let w = cycle_mesh c in
    let is : IsLent c s lease = after.lent in
    let parts = and_parts (nat_lt lease.task (6 * c.problem.nstages)) (lease.task % 6 == 2) task in
    let small : g < 6 * c.problem.nstages = subst (λ (v : ℕ). v < 6 * c.problem.nstages) is.task (ltb-true lease.task (6 * c.problem.nstages) parts.0) in
    let two : g % 6 ≡ 2 = subst (λ (v : ℕ). v % 6 ≡ 2) is.task (eqb-true (lease.task % 6) 2 parts.1) in
    let computes : IsComputing c g = record { stage = small; last = omega arith } in
    let now : worked c s list ≡ fluxed k (s.local list) = stage_worked c s list 2 small two in
    record {
      of_list = refl;
      task = is.task;
      places = same_places (with_fluxes w) lease.bufs (λ buf. refl) ∙ is.places;
      bufs = all_mapped (IsLeft c (worked c s list) (stamp_after c (g + 1))) (with_fluxes w) lease.bufs (λ n few.
          let buf : FieldBuf = buf_at lease.bufs n in
          let at : IsOfLease c s lease buf = of_lease c s lease is n few in
          record {
            sizes = record { cells = at.held.sizes.cells; right = faces_long c.layout (flux_through w buf.block buf.field Below (with_ghosts c.layout (own_totals c.layout buf.cells) (ghosts_in c.layout buf.cells))); left = faces_long c.layout (flux_through w buf.block buf.field Above (with_ghosts c.layout (own_totals c.layout buf.cells) (ghosts_in c.layout buf.cells))) };
            stamped = at.held.stamped ∙ ap (stamp_after c) is.task ∙ sym (stamp_stays c g small two);
            shows = λ there.
                ap (λ (l : LocalOf). l.bufs buf.block buf.field) now
                ∙ ap (λ (t : Bool). cond t (Some (record (read k ((s.local list).bufs buf.block buf.field)) { pairs = k.fluxes buf.block buf.field (read k ((s.local list).bufs buf.block buf.field)).cells (read k ((s.local list).bufs buf.block buf.field)).ghosts })) ((s.local list).bufs buf.block buf.field)) at.lent.leased
                ∙ ap (λ (o : Option (Buf (List ℕ) (List ℕ) FacePairs)). let v : Option (Buf (List ℕ) (List ℕ) FacePairs) = Some (record (read k o) { pairs = k.fluxes buf.block buf.field (read k o).cells (read k o).ghosts }) in v) at.held.shows;
          });
      made_places = made_none c s list computes;
      made = λ n d few. absurd (omega arith);
      freed = freed_none c s list computes;
      sent = sent_none c s list computes;
      keeps = λ b f at own. ap (λ (l : LocalOf). l.kept b f) now ∙ keeps_same ((s.local list).kept b f);
      keeps_own = λ n d few. absurd (omega arith);
      keeps_none = λ e. refl;
      few_flows = omega arith;
      flows = λ f few. none_flows c list f (s.local list) (worked c s list) (λ b. ap (λ (l : LocalOf). l.inflow b f) now) (λ b. ap (λ (l : LocalOf). l.outflow b f) now) (λ b. ap (λ (l : LocalOf). l.made b f) now) (λ b. ap (λ (l : LocalOf). l.used b f) now);
      few_drops = omega arith;
      drops = λ f few.
          let q : sum_of_list c list (λ b. (s.local list).dropped b f) ≡ sum_of_list c list (λ b. (worked c s list).dropped b f) = ap (λ (l : LocalOf). sum_of_list c list (λ b. l.dropped b f)) (sym now) in
          omega arith;
      wishes = wishes_none c g _ computes;
      counts = counts_none c g _ computes;
    }
