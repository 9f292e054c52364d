-- Updated buffers, with what flows and is dropped, are the work of the machine.
use Rattle.std.proofs.Common.{◌≡◌, ◌==◌, ℕ, ◌+◌, ◌*◌, ◌%◌, ◌<◌, ◌≤◌, Bool, true, false, cond, ◌&&◌, ◌||◌, nat_lt, List, [], ◌∷◌, map, filter, Some, Option, length, refl, arith, ap, subst, sym, ◌∙◌, slice_index, sum, All, replicate, inl, inr}
use Rattle.std.specs.List.{slice_index_or}
use Rattle.std.proofs.lemmas.Bool.{and_parts, cases_lt, eqb-true, ltb-true}
use Rattle.std.proofs.lemmas.List.{get_or_past, length-replicate}
use Rattle.sparse_pool.specs.declared.place.Place.{Place}
use Rattle.package_fields.specs.declared.flow.Flow.{Flow}
use Rattle.package_fields.specs.Flow.{no_flow}
use Rattle.block_layout.specs.Layouts.{interior_len}
use Rattle.field_bufs.specs.declared.buf.FieldBuf.{FieldBuf}
use Rattle.mesh_laws.proofs.Totals.{sum_to-same}
use Rattle.sparse_rounds.specs.Sparse.{Buf, read, updated, updated_cells}
use Rattle.cycle_events.specs.Places.{lent}
use Rattle.cycle_kernels.specs.Pairs.{FacePairs, inflow_of, outflow_of, updated_at, updated_by}
use Rattle.cycle_kernels.specs.Lists.{ghosts_in, own_totals, with_ghosts}
use Rattle.cycle_kernels.proofs.Tables.{table_long}
use Rattle.cycle_kernel_links.specs.Lists.{AreGhosts}
use Rattle.cycle_kernel_links.proofs.Lists.{ghost_at, ghosts_again, ghosts_long, own_again, whole_long}
use Rattle.masked_cycles.specs.Cycles.{Cycle, cycle_mesh, kernels}
use Rattle.mesh_journals.specs.Cycles.{MeshState, mesh_state, on_mesh}
use Rattle.cycle_leases.specs.declared.lease.Lease.{Lease}
use Rattle.cycle_leases.specs.Buffers.{LocalOf, place_of, shown_by, stamp_after}
use Rattle.cycle_leases.specs.Leases.{IsLeaseAfter, IsLent, is_check, is_reaction, is_update, reads_kept}
use Rattle.cycle_leases.specs.Works.{HasFlowed, IsLeft, is_among, sum_of_list, worked}
use Rattle.lent_bufs.specs.Cleared.{cleared_cells, left_if}
use Rattle.lent_bufs.specs.Sums.{sum_of_field, with_flow}
use Rattle.lent_bufs.proofs.Each.{buf_at}
use Rattle.stage_tasks.specs.Updates.{advanced, dropped_of, inflow_in, next_totals, outflow_in, updated_buf}
use Rattle.stage_works.specs.Works.{AreUpdateSums, UpdatesAreWork}
use Rattle.stage_works.proofs.Fluxes.{all_mapped, same_places, stage_worked}
use Rattle.stage_works.proofs.Idle.{IsComputing, counts_none, freed_none, keeps_same, made_none, sent_none, stamp_rises, wishes_none}
use Rattle.stage_works.proofs.Lent.{IsOfLease, kept_is, lease_sum, of_lease, sum_gains}
use Rattle.cycle_kernels.specs.Lists.{is_own}
use Rattle.block_layout.specs.Layouts.{len}
use Rattle.block_layout.specs.declared.layout.Layout.{Layout}

-- the ghosts of a list are ghosts
are_ghosts : (l : Layout) (cells : List ℕ) → AreGhosts l (ghosts_in l cells)
are_ghosts l cells = record {
  long = ghosts_long l cells;
  empty = λ place own. by place own;
}
  where
    by : (place : ℕ) → is_own l place ≡ true → slice_index (ghosts_in l cells) place ≡ 0
    by place own = elim (cases_lt place (len l)) [
      | inl inside ↦ ghost_at l cells place inside ∙ ap (λ (t : Bool). cond t 0 (slice_index cells place)) own
      | inr past ↦ get_or_past (ghosts_in l cells) place 0 (let long = ghosts_long l cells in omega arith)
    ]

-- what an updated buffer shows
own_cleared : (l : Layout) (cells : List ℕ) → own_totals l (cleared_cells l cells) ≡ replicate (interior_len l) 0
own_cleared l cells = own_again l (replicate (interior_len l) 0) (ghosts_in l cells) (length-replicate (interior_len l) 0)

ghosts_cleared : (l : Layout) (cells : List ℕ) → ghosts_in l (cleared_cells l cells) ≡ ghosts_in l cells
ghosts_cleared l cells = ghosts_again l (replicate (interior_len l) 0) (ghosts_in l cells) (are_ghosts l cells)

pub shown_own : (c : Cycle) (kept : Bool) (buf : FieldBuf) → own_totals c.layout (updated_buf (cycle_mesh c) kept buf).cells ≡ cond kept (next_totals (cycle_mesh c) buf) (replicate (interior_len c.layout) 0)
shown_own c true buf = own_again c.layout (next_totals (cycle_mesh c) buf) (ghosts_in c.layout buf.cells) (table_long (interior_len c.layout) (updated_at (cycle_mesh c) (own_totals c.layout buf.cells) (record { right = buf.right; left = buf.left })))
shown_own c false buf = own_cleared c.layout (advanced (cycle_mesh c) buf).cells

pub shown_ghosts : (c : Cycle) (kept : Bool) (buf : FieldBuf) → ghosts_in c.layout (updated_buf (cycle_mesh c) kept buf).cells ≡ ghosts_in c.layout buf.cells
shown_ghosts c true buf = ghosts_again c.layout (next_totals (cycle_mesh c) buf) (ghosts_in c.layout buf.cells) (are_ghosts c.layout buf.cells)
shown_ghosts c false buf = ghosts_cleared c.layout (advanced (cycle_mesh c) buf).cells ∙ ghosts_again c.layout (next_totals (cycle_mesh c) buf) (ghosts_in c.layout buf.cells) (are_ghosts c.layout buf.cells)

updated_long : (c : Cycle) (kept : Bool) (buf : FieldBuf) → length (updated_buf (cycle_mesh c) kept buf).cells ≡ len c.layout
updated_long c true buf = whole_long c.layout (next_totals (cycle_mesh c) buf) (ghosts_in c.layout buf.cells)
updated_long c false buf = whole_long c.layout (replicate (interior_len c.layout) 0) (ghosts_in c.layout (advanced (cycle_mesh c) buf).cells)

made_same : (c : Cycle) (list : ℕ) (x y : ℕ → ℕ) → ((b : ℕ) → y b ≡ x b) → sum_of_list c list x + 0 ≡ sum_of_list c list y
made_same c list x y h =
    let q : sum_of_list c list x ≡ sum_of_list c list y = sum_to-same _ _ _ (λ b low. ap (λ (v : ℕ). cond ((kernels c).owner b == list) v 0) (sym (h b))) in
    omega arith

-- the lease's list of what is kept
reads_it : (c : Cycle) (task : ℕ) → is_update c task ≡ true → reads_kept c task ≡ true
reads_it c task e = ap (λ (t : Bool). t || (is_reaction c task || is_check c task)) e

pub updates_are_work : UpdatesAreWork
updates_are_work c events lease flows drops after task sums =
    let s : MeshState = mesh_state c events in
    let list : ℕ = lease.list in
    let l : LocalOf = s.local list in
    let g : ℕ = s.given list in
    let k = kernels c in
    let w = cycle_mesh c in
    let is : IsLent c s lease = after.lent in
    let parts = and_parts (nat_lt lease.task (6 * c.problem.nstages)) (lease.task % 6 == 5) task in
    let small : g < 6 * c.problem.nstages = subst (λ (v : ℕ). v < 6 * c.problem.nstages) is.task (ltb-true lease.task (6 * c.problem.nstages) parts.0) in
    let five : g % 6 ≡ 5 = subst (λ (v : ℕ). v % 6 ≡ 5) is.task (eqb-true (lease.task % 6) 5 parts.1) in
    let computes : IsComputing c g = record { stage = small; last = omega arith } in
    let now : worked c s list ≡ updated k l = stage_worked c s list 5 small five in
    let F : FieldBuf → FieldBuf = λ buf. updated_buf w (is_among lease.kept buf.block buf.field) buf in
    let among : (n : ℕ) → n < length lease.bufs → is_among lease.kept (buf_at lease.bufs n).block (buf_at lease.bufs n).field ≡ l.kept (buf_at lease.bufs n).block (buf_at lease.bufs n).field = λ n few.
    kept_is c s lease (λ (at : Place). l.kept at.block at.field) lease.kept n is few
    (is.kept ∙ ap (λ (t : Bool). cond t (filter (λ (at : Place). l.kept at.block at.field) (lent (on_mesh c) s list)) []) (reads_it c lease.task task)) in
    let inflows : (f : ℕ) → f < _ → sum_of_field lease.bufs (inflow_in w) f ≡ sum_of_list c list (λ b. cond (l.leased b f) (k.inflow b f (read k (l.bufs b f)).pairs) 0) = λ f few.
    lease_sum c s lease (inflow_in w) (λ b f. k.inflow b f (read k (l.bufs b f)).pairs) f is few (λ n less.
    sym (ap (λ (o : Option (Buf (List ℕ) (List ℕ) FacePairs)). inflow_of w (buf_at lease.bufs n).block (read k o).pairs) (of_lease c s lease is n less).held.shows)) in
    let outflows : (f : ℕ) → f < _ → sum_of_field lease.bufs (outflow_in w) f ≡ sum_of_list c list (λ b. cond (l.leased b f) (k.outflow b f (read k (l.bufs b f)).pairs) 0) = λ f few.
    lease_sum c s lease (outflow_in w) (λ b f. k.outflow b f (read k (l.bufs b f)).pairs) f is few (λ n less.
    sym (ap (λ (o : Option (Buf (List ℕ) (List ℕ) FacePairs)). outflow_of w (buf_at lease.bufs n).block (read k o).pairs) (of_lease c s lease is n less).held.shows)) in
    let falls : (f : ℕ) → f < _ → sum_of_field lease.bufs (dropped_of w lease.kept) f ≡ sum_of_list c list (λ b. cond (l.leased b f) (cond (l.kept b f) 0 (k.amount (updated_cells k l b f))) 0) = λ f few.
    lease_sum c s lease (dropped_of w lease.kept) (λ b f. cond (l.kept b f) 0 (k.amount (updated_cells k l b f))) f is few (λ n less.
    ap (λ (t : Bool). cond t 0 (sum (next_totals w (buf_at lease.bufs n)))) (among n less)
    ∙ sym (ap (λ (o : Option (Buf (List ℕ) (List ℕ) FacePairs)). cond (l.kept (buf_at lease.bufs n).block (buf_at lease.bufs n).field) 0 (sum (updated_by w (read k o).cells (read k o).pairs))) (of_lease c s lease is n less).held.shows)) in
    record {
      of_list = refl;
      task = is.task;
      places = same_places F lease.bufs (λ buf. refl) ∙ is.places;
      bufs = all_mapped (IsLeft c (worked c s list) (stamp_after c (g + 1))) F lease.bufs (λ n few.
          let buf : FieldBuf = buf_at lease.bufs n in
          let at : IsOfLease c s lease buf = of_lease c s lease is n few in
          let old = l.bufs buf.block buf.field in
          let kept : Bool = is_among lease.kept buf.block buf.field in
          record {
            sizes = record { cells = updated_long c kept buf; right = at.held.sizes.right; left = at.held.sizes.left };
            stamped = ap (λ (v : ℕ). v + 1) (at.held.stamped ∙ ap (stamp_after c) is.task) ∙ sym (stamp_rises c g small five);
            shows = λ there.
                ap (λ (v : LocalOf). v.bufs buf.block buf.field) now
                ∙ ap (λ (t : Bool). cond t (Some (record (read k old) { cells = cond (l.kept buf.block buf.field) (updated_cells k l buf.block buf.field) k.no_cells })) old) at.lent.leased
                ∙ ap (λ (o : Option (Buf (List ℕ) (List ℕ) FacePairs)). let v : Option (Buf (List ℕ) (List ℕ) FacePairs) = Some (record (read k o) { cells = cond (l.kept buf.block buf.field) (updated_by w (read k o).cells (read k o).pairs) k.no_cells }) in v) at.held.shows
                ∙ ap (λ (t : Bool). shown (cond t (next_totals w buf) (replicate (interior_len c.layout) 0)) (ghosts_in c.layout buf.cells) (record { right = buf.right; left = buf.left })) (sym (among n few))
                ∙ ap (λ (v : List ℕ). shown v (ghosts_in c.layout buf.cells) (record { right = buf.right; left = buf.left })) (sym (shown_own c kept buf))
                ∙ ap (λ (v : List ℕ). shown (own_totals c.layout (updated_buf w kept buf).cells) v (record { right = buf.right; left = buf.left })) (sym (shown_ghosts c kept buf));
          });
      made_places = made_none c s list computes;
      made = λ n d few. absurd (omega arith);
      freed = freed_none c s list computes;
      sent = sent_none c s list computes;
      keeps = λ b f at own. ap (λ (v : LocalOf). v.kept b f) now ∙ keeps_same (l.kept b f);
      keeps_own = λ n d few. absurd (omega arith);
      keeps_none = λ e. refl;
      few_flows = sums.few_flows;
      flows = λ f few. record {
        inflow = gained (λ b. l.inflow b f) (λ b. cond (l.leased b f) (k.inflow b f (read k (l.bufs b f)).pairs) 0) (λ b. (worked c s list).inflow b f) (slice_index_or flows f no_flow).inflow (sum_of_field lease.bufs (inflow_in w) f) (ap (λ (v : Flow). v.inflow) (sums.flow f)) (inflows f few) (λ b. ap (λ (v : LocalOf). v.inflow b f) now);
        outflow = gained (λ b. l.outflow b f) (λ b. cond (l.leased b f) (k.outflow b f (read k (l.bufs b f)).pairs) 0) (λ b. (worked c s list).outflow b f) (slice_index_or flows f no_flow).outflow (sum_of_field lease.bufs (outflow_in w) f) (ap (λ (v : Flow). v.outflow) (sums.flow f)) (outflows f few) (λ b. ap (λ (v : LocalOf). v.outflow b f) now);
        made = ap (λ (v : ℕ). sum_of_list c list (λ b. l.made b f) + v) (ap (λ (v : Flow). v.made) (sums.flow f)) ∙ made_same c list (λ b. l.made b f) (λ b. (worked c s list).made b f) (λ b. ap (λ (v : LocalOf). v.made b f) now);
        used = ap (λ (v : ℕ). sum_of_list c list (λ b. l.used b f) + v) (ap (λ (v : Flow). v.used) (sums.flow f)) ∙ made_same c list (λ b. l.used b f) (λ b. (worked c s list).used b f) (λ b. ap (λ (v : LocalOf). v.used b f) now);
      };
      few_drops = sums.few_drops;
      drops = λ f few. gained (λ b. l.dropped b f) (λ b. cond (l.leased b f) (cond (l.kept b f) 0 (k.amount (updated_cells k l b f))) 0) (λ b. (worked c s list).dropped b f) (slice_index_or drops f 0) (sum_of_field lease.bufs (dropped_of w lease.kept) f) (zero_plus (sums.drop f)) (falls f few) (λ b. ap (λ (v : LocalOf). v.dropped b f) now);
      wishes = wishes_none c g _ computes;
      counts = counts_none c g _ computes;
    }
  where
    shown : List ℕ → List ℕ → FacePairs → Option (Buf (List ℕ) (List ℕ) FacePairs)
    shown cells ghosts pairs = Some (record { cells = cells; ghosts = ghosts; pairs = pairs })

    zero_plus : {a b : ℕ} → a ≡ b → a ≡ 0 + b
    zero_plus e = omega arith

    gained : (old add new : ℕ → ℕ) (flow total : ℕ) → flow ≡ 0 + total → total ≡ sum_of_list c lease.list add → ((b : ℕ) → new b ≡ old b + add b) → sum_of_list c lease.list old + flow ≡ sum_of_list c lease.list new
    gained old add new flow total a b h =
        let q = sum_gains c lease.list old add in
        let r : sum_of_list c lease.list (λ b. old b + add b) ≡ sum_of_list c lease.list new = sum_to-same _ _ _ (λ b low. ap (λ (v : ℕ). cond ((kernels c).owner b == lease.list) v 0) (sym (h b))) in
        omega arith
