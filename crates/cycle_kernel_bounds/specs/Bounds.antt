-- Under which conditions the kernels of blocks may be called, on lists that hold a mesh.
use Rattle.std.specs.Prelude.{◌≡◌, ℕ, ◌^◌, ◌<◌, Bool, true, not, All, List}
use Rattle.std.specs.List.{list_any}
use Rattle.mesh_rules.specs.Due.{Exchange, ghost_letters}
use Rattle.mesh_rules.specs.Mesh.{total_of}
use Rattle.mesh_rules.specs.Stage.{staged}
use Rattle.mesh_laws.specs.PayLaws.{HasFittingRates, IsNoFiner}
use Rattle.block_layout.specs.Indices.{IsWithin}
use Rattle.block_geometry.specs.Blocks.{cell_in}
use Rattle.block_geometry.specs.Contents.{HasPairs}
use Rattle.ghost_buffers.specs.Parts.{PartBelow}
use Rattle.transport_kernel.specs.Update.{CanPass, listed}
use Rattle.flux_correct.specs.Boxes.{SumsBelow}
use Rattle.cycle_kernels.specs.Blocks.{CycleMesh, block_count, leaf_at}
use Rattle.cycle_kernels.specs.Laws.{IsCycleMesh}
use Rattle.cycle_kernels.specs.Lists.{with_ghosts}
use Rattle.cycle_kernels.specs.Letters.{how_sent, part_covered, same_letter}
use Rattle.cycle_kernel_laws.specs.Shown.{HoldMesh, block_with, ghosts_from, mesh_with, pairs_from}

-- a field of the mesh of a stage: its totals add up to less than 2^62, no leaf is finer than a level, and at this
-- level its rates fit
pub record IsBounded (w : CycleMesh) (totals : List (List (List ℕ))) (f : ℕ) : Type 0 where
  pub small : total_of (mesh_with w totals) f < 2 ^ 62
  pub finest : ℕ
  pub coarse : IsNoFiner (mesh_with w totals) finest
  pub rates : HasFittingRates w.settings f w.mesh.shape.dims finest

-- lists by block hold such a field
pub record HoldBounded (w : CycleMesh) (totals : List (List (List ℕ))) (f : ℕ) (lists : ℕ → List ℕ) : Type 0 where
  pub cycle : IsCycleMesh w
  pub held : HoldMesh w totals f lists
  pub bounded : IsBounded w totals f

-- the sums in a part of a letter are below 2^62, whatever the ghosts of the sender are
abbrev pub PartsMayBeFilled : Type 0
PartsMayBeFilled = (w : CycleMesh) (totals : List (List (List ℕ))) (f : ℕ) (lists : ℕ → List ℕ)
    (x : Exchange) (rest : List ℕ) → HoldBounded w totals f lists →
    list_any (same_letter x) (ghost_letters w.mesh) ≡ true →
    PartBelow (2 ^ 62) (how_sent w x) w.layout x.axis (not x.high) (part_covered w x)
    (with_ghosts w.layout (lists x.from) rest)

-- a block's list with the ghosts of a stage has totals below 2^62
abbrev pub GhostsAreSmall : Type 0
GhostsAreSmall = (w : CycleMesh) (totals : List (List (List ℕ))) (f b : ℕ) (lists : ℕ → List ℕ) →
    HoldBounded w totals f lists → b < block_count w →
    All (λ total. total < 2 ^ 62) (with_ghosts w.layout (lists b) (ghosts_from w lists b f))

-- the sums of what passes the faces at a side are below 2^64
pub record MayBeGathered (w : CycleMesh) (lists : ℕ → List ℕ) (f b axis : ℕ) (high : Bool) : Type 0 where
  pub right : SumsBelow (2 ^ 64) w.layout axis high (pairs_from w lists b f).right
  pub left : SumsBelow (2 ^ 64) w.layout axis high (pairs_from w lists b f).left

abbrev pub SumsMayBeGathered : Type 0
SumsMayBeGathered = (w : CycleMesh) (totals : List (List (List ℕ))) (f b axis : ℕ) (high : Bool)
    (lists : ℕ → List ℕ) → HoldBounded w totals f lists → b < block_count w → axis < w.layout.dims →
    MayBeGathered w lists f b axis high

-- where the lists of a block have the mesh's pairs, and its next totals are below 2^62, no cell pays more than it has,
-- and none comes to 2^63
abbrev pub UpdatesMayPass : Type 0
UpdatesMayPass = (w : CycleMesh) (totals : List (List (List ℕ))) (f b : ℕ) (lists : ℕ → List ℕ)
    (rest right left : List ℕ) → HoldBounded w totals f lists → b < block_count w →
    HasPairs (block_with w totals f b) right left →
    ((i : List ℕ) → IsWithin w.layout.cells i →
    staged w.settings (mesh_with w totals) f (cell_in (mesh_with w totals) (leaf_at w b) i) < 2 ^ 62) →
    CanPass w.layout (listed w.layout right) (listed w.layout left) (with_ghosts w.layout (lists b) rest)
