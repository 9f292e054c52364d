-- Under which conditions the kernels of blocks may be called on the buffers of a state.
use Rattle.std.specs.Prelude.{◌≡◌, ℕ, ◌+◌, ◌*◌, ◌^◌, ◌<◌, ◌≤◌, Bool, true, not, All, List, length, slice_index}
use Rattle.std.specs.List.{list_any}
use Rattle.mesh_rules.specs.Due.{Exchange, ghost_letters}
use Rattle.mesh_rules.specs.Fields.{field_count, has_fluxes, has_ghosts}
use Rattle.mesh_rules.specs.Sums.{sum_to}
use Rattle.block_layout.specs.declared.layout.Layout.{Layout}
use Rattle.block_layout.specs.Layouts.{interior_len}
use Rattle.ghost_buffers.specs.Parts.{PartBelow}
use Rattle.transport_kernel.specs.Update.{CanPass, listed}
use Rattle.flux_correct.specs.Boxes.{SumsBelow}
use Rattle.sparse_rounds.specs.Sparse.{Buf}
use Rattle.cycle_kernels.specs.Lists.{with_ghosts}
use Rattle.cycle_kernels.specs.Letters.{how_sent, part_covered, same_letter}
use Rattle.cycle_kernels.specs.Pairs.{FacePairs}
use Rattle.masked_cycles.specs.Cycles.{Cycle, IsCycle, IsPlace, cycle_mesh, kernels, settings}
use Rattle.masked_cycles.specs.States.{held, list_of}
use Rattle.cycle_events.specs.declared.event.Event.{Event}
use Rattle.cycle_events.specs.Journals.{IsJournal}
use Rattle.mesh_journals.specs.Cycles.{local_of, mesh_state, on_mesh}

-- the sums of what passes the faces at a side, in both directions, are below 2^64
pub record HasSmallSums (l : Layout) (axis : ℕ) (high : Bool) (pairs : FacePairs) : Type 0 where
  pub right : SumsBelow (2 ^ 64) l axis high pairs.right
  pub left : SumsBelow (2 ^ 64) l axis high pairs.left

-- the sums in a part of a letter from a block are below 2^62, whatever the ghosts of the block are
abbrev pub MayBeSent : Cycle → Exchange → List ℕ → Type 0
MayBeSent c x cells = (rest : List ℕ) → PartBelow (2 ^ 62) (how_sent (cycle_mesh c) x) c.layout x.axis (not x.high)
    (part_covered (cycle_mesh c) x) (with_ghosts c.layout cells rest)

-- in a stage of which j tasks were given, what a list has of a field on a block: what it sends is small; once its ghosts
-- are filled its totals are below 2^62; of its own fluxes the sums are small; and by its corrected fluxes no cell pays
-- more than it has, and none comes to 2^63
pub record MayGoOn (c : Cycle) (j : ℕ) (u : Buf (List ℕ) (List ℕ) FacePairs) (b f : ℕ) : Type 0 where
  pub parts : (x : Exchange) → list_any (same_letter x) (ghost_letters c.state.mesh) ≡ true → x.from ≡ b → MayBeSent c x u.cells
  pub small : 2 ≤ j → has_ghosts (settings c) f ≡ true → All (λ total. total < 2 ^ 62) (list_of c u)
  pub sums : 3 ≤ j → j ≤ 4 → has_fluxes (settings c) f ≡ true → (axis : ℕ) (high : Bool) → axis < c.layout.dims →
      HasSmallSums c.layout axis high u.pairs
  pub passes : 5 ≤ j → has_fluxes (settings c) f ≡ true →
      CanPass c.layout (listed c.layout u.pairs.right) (listed c.layout u.pairs.left) (list_of c u)

abbrev pub StagesMayGoOn : Type 0
StagesMayGoOn = (c : Cycle) (events : List Event) (n j b f : ℕ) → IsCycle c → IsPlace c b f → IsJournal (on_mesh c) events →
    (mesh_state c events).given ((kernels c).owner b) ≡ 6 * n + j → j < 6 → n < c.problem.nstages →
    MayGoOn c j (held c (local_of c (mesh_state c events) b) b f) b f

-- once all stages are done, the totals of all fields in a cell of a block add up to less than 2^62
abbrev pub CellsAreSmall : Type 0
CellsAreSmall = (c : Cycle) (events : List Event) (b k : ℕ) → IsCycle c → b < length c.state.mesh.leaves →
    IsJournal (on_mesh c) events → (mesh_state c events).given ((kernels c).owner b) ≡ 6 * c.problem.nstages →
    k < interior_len c.layout →
    sum_to (field_count (settings c)) (λ f. slice_index (held c (local_of c (mesh_state c events) b) b f).cells k) < 2 ^ 62
