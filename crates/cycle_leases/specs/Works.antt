-- What the work on a lease has.
use Rattle.std.specs.Prelude.{◌≡◌, ◌==◌, ℕ, ◌+◌, ◌*◌, ◌/◌, ◌%◌, ◌<◌, ◌≤◌, Bool, false, true, cond, not, ◌&&◌, ◌||◌, nat_lt, Some, is_some, List, [], map, filter, All, length}
use Rattle.std.specs.List.{AllZip, list_any, slice_index_or}
use Rattle.std.specs.List.{range_with_len}
use Rattle.sparse_pool.specs.declared.place.Place.{Place}
use Rattle.package_fields.specs.declared.flow.Flow.{Flow}
use Rattle.package_fields.specs.Flow.{no_flow}
use Rattle.package_fields.specs.Kernel.{Reacted}
use Rattle.problem_set.specs.declared.problem.Problem.{Problem}
use Rattle.problem_set.specs.SettingsOf.{settings_of}
use Rattle.block_tree.specs.Blocks.{TreeOfBlocks}
use Rattle.mesh_rules.specs.declared.wish.Wish.{Wish}
use Rattle.mesh_rules.specs.Fields.{field_count}
use Rattle.mesh_rules.specs.Sums.{sum_to}
use Rattle.field_bufs.specs.declared.buf.FieldBuf.{FieldBuf}
use Rattle.field_bufs.specs.Buffers.{HasSizes}
use Rattle.cycle_rounds.specs.Events.{posted, reads}
use Rattle.pack_cache.specs.Packs.{same_place}
use Rattle.sparse_rounds.specs.Sparse.{keeps_reacted, work_of}
use Rattle.cycle_kernels.specs.Blocks.{block_count}
use Rattle.cycle_events.specs.declared.event.Event.{Event}
use Rattle.cycle_events.specs.Cycles.{machine, plan}
use Rattle.cycle_events.specs.Changes.{freed_by_work}
use Rattle.cycle_events.specs.Places.{lent, places_where}
use Rattle.masked_cycles.specs.Cycles.{Cycle, IsPlace, cycle_mesh, kernels}
use Rattle.mesh_journals.specs.Cycles.{MeshState, mesh_state, on_mesh}
use Rattle.cycle_leases.specs.declared.lease.Finished.{Finished}
use Rattle.cycle_leases.specs.declared.lease.Lease.{Lease}
use Rattle.cycle_leases.specs.Buffers.{IsBufferIn, LocalOf, place_of, shown_by, stamp_after}
use Rattle.cycle_leases.specs.Leases.{IsCycleOf, IsLeaseAfter, is_check, is_reaction, is_tagging}
use Rattle.cycle_leases.specs.Letters.{IsLetter}

-- what a list has once its task is given
abbrev pub worked : Cycle → MeshState → ℕ → LocalOf
worked c s list = work_of (kernels c) (s.given list)
    (reads (plan (on_mesh c)) (machine (on_mesh c)) s (s.given list / 3)) (s.local list)

-- the places at which the work makes a buffer, of those that are not lent: to fill ghosts where something flows in,
-- to react what comes to be kept
abbrev pub makes : Cycle → MeshState → ℕ → ℕ → ℕ → Bool
makes c s list b f = cond (is_reaction c (s.given list))
    (keeps_reacted (kernels c) (s.local list) b f)
    (nat_lt (s.given list) (6 * c.problem.nstages) && (s.given list % 6 == 1
    && ((kernels c).is_sparse f && ((kernels c).has_ghosts f && (kernels c).flows_in b f))))

abbrev pub made_by_task : Cycle → MeshState → ℕ → List Place
made_by_task c s list = places_where (on_mesh c).size
    (λ b f. (kernels c).owner b == list && (not ((s.local list).leased b f) && makes c s list b f))

-- the blocks of a list, in their order
abbrev pub blocks_of : Cycle → ℕ → List ℕ
blocks_of c list = filter (λ b. (kernels c).owner b == list) (range_with_len 0 (block_count (cycle_mesh c)))

-- a sum over them
abbrev pub sum_of_list : Cycle → ℕ → (ℕ → ℕ) → ℕ
sum_of_list c list each = sum_to (block_count (cycle_mesh c)) (λ b. cond ((kernels c).owner b == list) (each b) 0)

-- whether a task fills ghosts; those that fill ghosts and react may call for what is not kept yet
abbrev pub is_filling : Cycle → ℕ → Bool
is_filling c task = nat_lt task (6 * c.problem.nstages) && task % 6 == 1

abbrev pub may_keep : Cycle → ℕ → Bool
may_keep c task = is_filling c task || is_reaction c task

-- a place of a list
pub record IsPlaceOf (c : Cycle) (list : ℕ) (at : Place) : Type 0 where
  pub place : IsPlace c at.block at.field
  pub own : (kernels c).owner at.block ≡ list

-- whether a place is among some
abbrev pub is_among : List Place → ℕ → ℕ → Bool
is_among places b f = list_any (same_place (record { block = b; field = f })) places

-- what a task that was lent a buffer leaves there, unless it is freed
pub record IsLeft (c : Cycle) (new : LocalOf) (stamp : ℕ) (buf : FieldBuf) : Type 0 where
  pub sizes : HasSizes c.layout buf
  pub stamped : buf.stamp ≡ stamp
  pub shows : is_some (new.bufs buf.block buf.field) ≡ true →
      new.bufs buf.block buf.field ≡ Some (shown_by c.layout buf)

-- what passes faces of the domain and what reactions make and use of a field: so much more than before, over the blocks
-- of the list; and what is dropped
pub record HasFlowed (c : Cycle) (list : ℕ) (old new : LocalOf) (f : ℕ) (flow : Flow) : Type 0 where
  pub inflow : sum_of_list c list (λ b. old.inflow b f) + flow.inflow ≡ sum_of_list c list (λ b. new.inflow b f)
  pub outflow : sum_of_list c list (λ b. old.outflow b f) + flow.outflow ≡ sum_of_list c list (λ b. new.outflow b f)
  pub made : sum_of_list c list (λ b. old.made b f) + flow.made ≡ sum_of_list c list (λ b. new.made b f)
  pub used : sum_of_list c list (λ b. old.used b f) + flow.used ≡ sum_of_list c list (λ b. new.used b f)

-- the work on the task of a list that is out
pub record IsWork (c : Cycle) (s : MeshState) (list : ℕ) (done : Finished) : Type 0 where
  pub of_list : done.list ≡ list
  pub task : done.task ≡ s.given list
  -- the buffers that were lent, and those that are made
  pub places : map place_of done.bufs ≡ lent (on_mesh c) s list
  pub bufs : All (IsLeft c (worked c s list) (stamp_after c (s.given list + 1))) done.bufs
  pub made_places : map place_of done.made ≡ made_by_task c s list
  pub made : All (IsBufferIn c (worked c s list) (stamp_after c (s.given list + 1))) done.made
  pub freed : done.freed ≡ freed_by_work (on_mesh c) s list (s.given list)
  -- the letters that it sends
  pub sent : AllZip (IsLetter c) done.sent (posted (plan (on_mesh c)) (machine (on_mesh c)) s list)
  -- what is kept then: what was and comes to be kept, and is not freed
  pub keeps : (b f : ℕ) → IsPlace c b f → (kernels c).owner b ≡ list → (worked c s list).kept b f
      ≡ (((s.local list).kept b f || is_among done.keeps b f) && not (is_among done.freed b f))
  pub keeps_own : All (IsPlaceOf c list) done.keeps
  pub keeps_none : may_keep c (s.given list) ≡ false → done.keeps ≡ []
  -- its flows and drops, nothing of the fields past the end of a list; its wishes and idle counts
  pub few_flows : length done.flows ≤ field_count (settings_of c.problem)
  pub flows : (f : ℕ) → f < field_count (settings_of c.problem) →
      HasFlowed c list (s.local list) (worked c s list) f (slice_index_or done.flows f no_flow)
  pub few_drops : length done.drops ≤ field_count (settings_of c.problem)
  pub drops : (f : ℕ) → f < field_count (settings_of c.problem) →
      sum_of_list c list (λ b. (s.local list).dropped b f) + slice_index_or done.drops f 0
      ≡ sum_of_list c list (λ b. (worked c s list).dropped b f)
  pub wishes : map Some done.wishes ≡ cond (is_tagging c (s.given list))
      (map (λ b. (worked c s list).wishes b) (blocks_of c list)) []
  pub counts : done.counts ≡ cond (is_check c (s.given list))
      (map (λ (at : Place). (worked c s list).idle at.block at.field) (lent (on_mesh c) s list)) []

-- the work on a lease, in each cycle of the problem on the tree in which it may have been lent
abbrev pub IsWorkOn : Problem → TreeOfBlocks → (List ℕ → Reacted) → Lease → Finished → Type 0
IsWorkOn problem tree react lease done = (c : Cycle) (events : List Event) → IsCycleOf problem tree react c →
    IsLeaseAfter c events lease → IsWork c (mesh_state c events) lease.list done
