-- How large looks, regions and ghosts are.
use Rattle.std.specs.Prelude.{◌≡◌, ℕ, ◌<◌, ◌≤◌, Bool, not, List, All, Contains, length}
use Rattle.morton_order.specs.declared.space.Loc.{Loc}
use Rattle.morton_order.specs.Space.{IsIn}
use Rattle.block_tree.specs.Behind.{Names, fine}
use Rattle.mesh_rules.specs.Mesh.{IsMesh, Mesh, cell_lattice, total_of}
use Rattle.mesh_rules.specs.Look.{look}
use Rattle.mesh_rules.specs.Regions.{region}
use Rattle.block_layout.specs.declared.layout.Layout.{Layout}
use Rattle.block_layout.specs.Indices.{IsWithin}
use Rattle.block_layout.specs.Regions.{Region}
use Rattle.block_geometry.specs.Blocks.{FieldBlock}
use Rattle.block_geometry.specs.Contents.{HasInterior}
use Rattle.ghost_laws.specs.Layers.{on_block}
use Rattle.block_regions.specs.Written.{HasRegion, StaysOffRegion}
use Rattle.ghost_buffers.specs.declared.part.How.TheVariants.{Finer}
use Rattle.ghost_buffers.specs.Parts.{PartBelow}
use Rattle.letter_laws.specs.Sides.{IsSide, behind_side}

-- a look in a cell of the domain, on any level, is at most the total of the mesh
abbrev pub LooksAreBounded : Type 0
LooksAreBounded = (m : Mesh) (f : ℕ) (c : Loc) → IsMesh m → IsIn (cell_lattice m) c → look m f c ≤ total_of m f

-- so is each total that a leaf behind a side sends
abbrev pub RegionsAreBounded : Type 0
RegionsAreBounded = (b : FieldBlock) (axis : ℕ) (high : Bool) (o : Loc) → IsSide b axis → Names (behind_side b axis high) o →
    All (λ total. total ≤ total_of b.mesh b.field) (region b.mesh b.field o b.leaf axis high)

-- and each sum that a finer one makes
abbrev pub PartsAreBelow : Type 0
PartsAreBelow = (b : FieldBlock) (axis : ℕ) (high : Bool) (os : List Loc) (o : Loc) (half bound : ℕ) (cells : List ℕ) → IsSide b axis → behind_side b axis high ≡ fine os → Contains os o → HasInterior (on_block b o) cells →
    total_of b.mesh b.field < bound → PartBelow bound Finer b.layout axis (not high) half cells

-- a list below a bound stays below it where a region of it is written by what is below it
abbrev pub WrittenStayBelow : Type 0
WrittenStayBelow = (l : Layout) (r : Region) (each : List ℕ → ℕ) (bound : ℕ) (old new : List ℕ) → length new ≡ length old → HasRegion l r each new → StaysOffRegion l r old new →
    ((i : List ℕ) → IsWithin r.extents i → each i < bound) → All (λ total. total < bound) old → All (λ total. total < bound) new
