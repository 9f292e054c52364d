-- What is dropped where all that does not stay is made zero.
use Rattle.std.specs.Prelude.{◌≡◌, ℕ, ◌+◌, ◌<◌, true, false}
use Rattle.morton_order.specs.declared.space.Loc.{Loc}
use Rattle.morton_order.specs.Space.{IsIn}
use Rattle.problem_set.specs.Settings.{Settings}
use Rattle.mesh_rules.specs.Mesh.{IsMesh, Mesh, OnLeaf, block_of, cell_lattice, stored, total_of}
use Rattle.mesh_rules.specs.Fields.{field_count}
use Rattle.mesh_rules.specs.Mask.{Mask, cut, dropped_of, stays}

-- a cell of a field that stays keeps its total, any other is zero
pub record CutsRight (p : Settings) (mask : Mask) (m : Mesh) (f : ℕ) (c : Loc) : Type 0 where
  pub kept : stays p m mask f (block_of m c) ≡ true → stored (cut p mask m) f c ≡ stored m f c
  pub dropped : stays p m mask f (block_of m c) ≡ false → stored (cut p mask m) f c ≡ 0

abbrev pub CutLaw : Type 0
CutLaw = (p : Settings) (mask : Mask) (m : Mesh) (f : ℕ) (c : Loc) → IsMesh m → f < field_count p → IsIn (cell_lattice m) c → OnLeaf m c → CutsRight p mask m f c

-- what is dropped is exactly what was made zero
abbrev pub DropsAreWhatWasCut : Type 0
DropsAreWhatWasCut = (p : Settings) (mask : Mask) (m : Mesh) (f : ℕ) → IsMesh m → f < field_count p → total_of (cut p mask m) f + dropped_of p mask m f ≡ total_of m f
