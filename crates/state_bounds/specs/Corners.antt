-- In the corners of ghosts, which no letter gives and which lie beyond no face of the domain, nothing ever stands.
use Rattle.std.specs.Prelude.{◌≡◌, ℕ, ◌<◌, Some, List, slice_index}
use Rattle.block_layout.specs.Layouts.{len}
use Rattle.sparse_rounds.specs.Sparse.{Buf}
use Rattle.cycle_kernels.specs.Pairs.{FacePairs}
use Rattle.cycle_kernel_links.specs.Ghosts.{IsCorner}
use Rattle.masked_cycles.specs.Cycles.{Cycle, cycle_mesh}
use Rattle.cycle_events.specs.declared.event.Event.{Event}
use Rattle.mesh_journals.specs.Cycles.{mesh_state}

-- the corners of a list of ghosts are empty
abbrev pub HasEmptyCorners : Cycle → ℕ → List ℕ → Type 0
HasEmptyCorners c b ghosts =
    (place : ℕ) → place < len c.layout → IsCorner (cycle_mesh c) b place → slice_index ghosts place ≡ 0

-- so are those of each buffer of each list of tasks, whatever events came
abbrev pub CornersStayEmpty : Type 0
CornersStayEmpty = (c : Cycle) (events : List Event) (list b f : ℕ) (buf : Buf (List ℕ) (List ℕ) FacePairs) →
    ((mesh_state c events).local list).bufs b f ≡ Some buf → HasEmptyCorners c b buf.ghosts
