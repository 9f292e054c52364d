-- What a lease has.
use Rattle.std.specs.Prelude.{◌≡◌, ◌==◌, ℕ, ◌+◌, ◌*◌, ◌%◌, true, cond, ◌&&◌, ◌||◌, nat_lt, is_some, List, [], map, filter, All, Bool}
use Rattle.std.specs.List.{AllZip}
use Rattle.sparse_pool.specs.declared.place.Place.{Place}
use Rattle.package_fields.specs.Kernel.{Reacted}
use Rattle.problem_set.specs.SettingsOf.{settings_of}
use Rattle.problem_set.specs.declared.problem.Problem.{Problem}
use Rattle.block_tree.specs.Blocks.{TreeOfBlocks}
use Rattle.cycle_table_laws.specs.Laws.{to_read}
use Rattle.cycle_events.specs.declared.event.Event.{Event}
use Rattle.cycle_events.specs.Cycles.{plan}
use Rattle.cycle_events.specs.Journals.{IsJournal}
use Rattle.cycle_events.specs.Places.{lent}
use Rattle.masked_cycles.specs.Cycles.{Cycle, IsCycle}
use Rattle.mesh_journals.specs.Cycles.{MeshState, mesh_state, on_mesh}
use Rattle.cycle_leases.specs.declared.lease.Lease.{Lease}
use Rattle.cycle_leases.specs.Buffers.{IsBufferIn, place_of, stamp_after}
use Rattle.cycle_leases.specs.Letters.{IsLetter}

-- whether a task is the reaction, tags, or is the check; whether it updates, and whether it reads what is kept
abbrev pub is_reaction : Cycle → ℕ → Bool
is_reaction c task = task == 6 * c.problem.nstages

abbrev pub is_tagging : Cycle → ℕ → Bool
is_tagging c task = task == 6 * c.problem.nstages + 1

abbrev pub is_check : Cycle → ℕ → Bool
is_check c task = task == 6 * c.problem.nstages + 2

abbrev pub is_update : Cycle → ℕ → Bool
is_update c task = nat_lt task (6 * c.problem.nstages) && task % 6 == 5

abbrev pub reads_kept : Cycle → ℕ → Bool
reads_kept c task = is_update c task || (is_reaction c task || is_check c task)

-- what a lease has in the state that lent it: the buffers of its places, the letters that its task reads in the order
-- in which they came, and where the task asks for them the idle counts of its places, and those of them that are kept
pub record IsLent (c : Cycle) (s : MeshState) (lease : Lease) : Type 0 where
  pub out : is_some (s.out lease.list) ≡ true
  pub task : lease.task ≡ s.given lease.list
  pub places : map place_of lease.bufs ≡ lent (on_mesh c) s lease.list
  pub bufs : All (IsBufferIn c (s.local lease.list) (stamp_after c lease.task)) lease.bufs
  pub letters : AllZip (IsLetter c) lease.letters (to_read (plan (on_mesh c)) s lease.list)
  pub counts : lease.counts ≡ cond (is_check c lease.task)
      (map (λ (at : Place). (s.local lease.list).idle at.block at.field) (lent (on_mesh c) s lease.list)) []
  pub kept : lease.kept ≡ cond (reads_kept c lease.task)
      (filter (λ (at : Place). (s.local lease.list).kept at.block at.field) (lent (on_mesh c) s lease.list)) []

-- a cycle of a problem on a tree, with what a kernel makes of a cell: of any problem with the same settings
pub record IsCycleOf (p : Problem) (tree : TreeOfBlocks) (made_of : List ℕ → Reacted) (c : Cycle) : Type 0 where
  pub settings : settings_of c.problem ≡ settings_of p
  pub shape : c.state.mesh.shape ≡ tree.shape
  pub inner : c.state.mesh.inner ≡ tree.inner
  pub react : c.react ≡ made_of

-- a lease that is out after some events of a cycle
pub record IsLeaseAfter (c : Cycle) (events : List Event) (lease : Lease) : Type 0 where
  pub cycle : IsCycle c
  pub journal : IsJournal (on_mesh c) events
  pub lent : IsLent c (mesh_state c events) lease

-- and one that is out in some cycle of a problem on a tree
pub record IsLease (problem : Problem) (tree : TreeOfBlocks) (react : List ℕ → Reacted) (lease : Lease) : Type 0 where
  pub of : Cycle
  pub events : List Event
  pub cycle : IsCycleOf problem tree react of
  pub after : IsLeaseAfter of events lease
