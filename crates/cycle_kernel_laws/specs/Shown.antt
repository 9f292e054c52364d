-- What the kernels show of the mesh of a stage.
use Rattle.std.specs.Prelude.{◌≡◌, ℕ, ◌<◌, List, slice_index}
use Rattle.mesh_rules.specs.Mesh.{Mesh, stored}
use Rattle.block_layout.specs.Indices.{IsWithin, number_of}
use Rattle.block_geometry.specs.Blocks.{FieldBlock, cell_in}
use Rattle.block_geometry.specs.Contents.{HasOwnPairs, SeesAround}
use Rattle.cycle_kernels.specs.Blocks.{CycleMesh, block_count, leaf_at}
use Rattle.cycle_kernels.specs.Laws.{IsCycleMesh}
use Rattle.cycle_kernels.specs.Lists.{with_ghosts}
use Rattle.cycle_kernels.specs.Letters.{ghosts_by, region_sent}
use Rattle.cycle_kernels.specs.Pairs.{FacePairs, fluxes_of}

-- the mesh of a cycle with these totals, and a field on a block of it
abbrev pub mesh_with : CycleMesh → List (List (List ℕ)) → Mesh
mesh_with w totals = record w.mesh { totals = totals }

abbrev pub block_with : CycleMesh → List (List (List ℕ)) → ℕ → ℕ → FieldBlock
block_with w totals f b =
    record { settings = w.settings; mesh = mesh_with w totals; field = f; leaf = leaf_at w b; layout = w.layout }

-- lists by block have the totals of a field on it
abbrev pub HoldMesh : CycleMesh → List (List (List ℕ)) → ℕ → (ℕ → List ℕ) → Type 0
HoldMesh w totals f lists = (b : ℕ) (i : List ℕ) → b < block_count w → IsWithin w.layout.cells i →
    slice_index (lists b) (number_of w.layout.cells i) ≡
    stored (mesh_with w totals) f (cell_in (mesh_with w totals) (leaf_at w b) i)

-- the ghosts of a block by the letters of a stage that begins with these lists, and what passes its faces
abbrev pub ghosts_from : CycleMesh → (ℕ → List ℕ) → ℕ → ℕ → List ℕ
ghosts_from w lists b f = ghosts_by w b f (λ x. region_sent w x (lists x.from))

abbrev pub pairs_from : CycleMesh → (ℕ → List ℕ) → ℕ → ℕ → FacePairs
pairs_from w lists b f = fluxes_of w b f (lists b) (ghosts_from w lists b f)

-- with these ghosts a block sees the mesh around it
abbrev pub GhostsSeeTheMesh : Type 0
GhostsSeeTheMesh = (w : CycleMesh) (totals : List (List (List ℕ))) (f b : ℕ) (lists : ℕ → List ℕ) → IsCycleMesh w →
    HoldMesh w totals f lists → b < block_count w →
    SeesAround (block_with w totals f b) (with_ghosts w.layout (lists b) (ghosts_from w lists b f))

-- and has the mesh's pairs at its faces, but for those behind which finer cells are stored
abbrev pub FluxesAreOwnPairs : Type 0
FluxesAreOwnPairs = (w : CycleMesh) (totals : List (List (List ℕ))) (f b : ℕ) (lists : ℕ → List ℕ) → IsCycleMesh w →
    HoldMesh w totals f lists → b < block_count w →
    HasOwnPairs (block_with w totals f b) (pairs_from w lists b f).right (pairs_from w lists b f).left
