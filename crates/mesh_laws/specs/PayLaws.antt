-- What a cell pays in a stage, and what passes a face from nothing.
use Rattle.std.specs.Prelude.{◌≡◌, ℕ, ◌<◌, ◌≤◌, Bool, cond, IsTrue}
use Rattle.morton_order.specs.declared.space.Loc.{Loc}
use Rattle.morton_order.specs.Space.{IsIn}
use Rattle.problem_set.specs.Settings.{Settings}
use Rattle.problem_set.specs.SoundProblem.{IsFittingSum}
use Rattle.problem_set.specs.Rates.{rate_sum}
use Rattle.mesh_rules.specs.Mesh.{IsMesh, Mesh, OnLeaf, cell_lattice, is_inner, stored}
use Rattle.mesh_rules.specs.Fields.{field_at, moves_at}
use Rattle.mesh_rules.specs.Faces.{Pair, face_pair, seen_next}
use Rattle.mesh_rules.specs.Stage.{loss}

-- at a level the rates of a field over all axes in use fit: they add up to at most the denominator, and to at most two thirds of it
-- by the second order
pub record HasFittingRates (p : Settings) (f dims level : ℕ) : Type 0 where
  pub positive : 1 ≤ p.denominator
  pub fits : IsFittingSum (moves_at p f).order (rate_sum dims level (field_at p f) (moves_at p f)) p.denominator

-- no leaf is finer than a level
abbrev pub IsNoFiner : Mesh → ℕ → Type 0
IsNoFiner m finest = (l : Loc) → IsTrue (is_inner m l) → l.level < finest

-- a cell of a leaf pays at most what it has, where the rates fit at the finest level
abbrev pub PaysAtMost : Type 0
PaysAtMost = (p : Settings) (m : Mesh) (f finest : ℕ) (c : Loc) → IsMesh m → IsNoFiner m finest → HasFittingRates p f m.shape.dims finest →
    IsIn (cell_lattice m) c → OnLeaf m c → loss p m f c ≤ stored m f c

-- what of a pair at a side of a cell leaves the cell, and what enters it
abbrev pub outwards : Bool → Pair → ℕ
outwards high x = cond high x.right x.left

abbrev pub inwards : Bool → Pair → ℕ
inwards high x = cond high x.left x.right

-- what leaves a cell with nothing in it is nothing, and what enters it from where nothing is seen is nothing
pub record PassesNothing (p : Settings) (m : Mesh) (f : ℕ) (c : Loc) (axis : ℕ) (high : Bool) : Type 0 where
  pub leaves : stored m f c ≡ 0 → outwards high (face_pair p m f c axis high) ≡ 0
  pub enters : seen_next p m f c axis high ≡ 0 → inwards high (face_pair p m f c axis high) ≡ 0

-- at each face of a cell of a leaf, by either order
abbrev pub NothingFromNothing : Type 0
NothingFromNothing = (p : Settings) (m : Mesh) (f : ℕ) (c : Loc) (axis : ℕ) (high : Bool) → 1 ≤ p.denominator → IsMesh m → IsIn (cell_lattice m) c → OnLeaf m c → axis < m.shape.dims →
    PassesNothing p m f c axis high
