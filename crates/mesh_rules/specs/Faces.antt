-- What passes a face.
use Rattle.std.specs.Prelude.{◌==◌, ℕ, ◌+◌, ◌-◌, ◌/◌, Bool, true, false, cond, not, min, Option, Some, None, List, option_and_then}
use Rattle.morton_order.specs.declared.space.Loc.{Loc}
use Rattle.morton_order.specs.Space.{child}
use Rattle.morton_order.specs.Neighbours.{across}
use Rattle.block_tree.specs.Behind.{children_at}
use Rattle.mesh_num.specs.Portion.{portion}
use Rattle.problem_set.specs.Settings.{Settings}
use Rattle.mesh_settings.specs.declared.words.FaceKind.{FaceKind}
use Rattle.mesh_settings.specs.declared.words.FaceKind.TheVariants.{Periodic, Outflow, Reflecting, Inflow}
use Rattle.mesh_rules.specs.Sums.{sum_over}
use Rattle.mesh_rules.specs.Mesh.{Mesh, block_of, cell_lattice, is_inner}
use Rattle.mesh_rules.specs.Look.{look}
use Rattle.mesh_rules.specs.Fields.{FaceRates, kind_at, moves_at, outside, rates_at}

-- what passes a face: to the right, which is upwards along its axis, and to the left
pub record Pair : Type 0 where
  pub right : ℕ
  pub left : ℕ

-- nothing passes
abbrev pub no_pair : Pair
no_pair = record { right = 0; left = 0 }

-- the totals that are seen along an axis at a face, by rising coordinate: of the second and the first cell below it,
-- and of the first and the second cell above it
pub record Looks : Type 0 where
  pub far_below : ℕ
  pub below : ℕ
  pub above : ℕ
  pub far_above : ℕ

-- a cell's total reconstructed at the face ahead of it with a limited slope: half of the smaller difference to its two
-- neighbours more where the totals rise towards the face, and less where they fall; 4 between 0 and 8 counts for 6,
-- 4 between 8 and 0 for 2, and 8 between 4 and 0 for itself
abbrev pub limited : ℕ → ℕ → ℕ → ℕ
limited behind here ahead = here + min (here - behind) (ahead - here) / 2 - min (behind - here) (here - ahead) / 2

-- by the second order a total counts for that, by the first for itself
abbrev pub reconstructed : ℕ → ℕ → ℕ → ℕ → ℕ
reconstructed order behind here ahead = cond (order == 2) (limited behind here ahead) here

-- a face's pair: the portion of what stands below it by the right rate, and of what stands above it by the left rate
abbrev pub pair : ℕ → FaceRates → Looks → Pair
pair order rates x = record {
  right = portion (reconstructed order x.far_below x.below x.above) rates.right rates.denominator;
  left = portion (reconstructed order x.far_above x.above x.below) rates.left rates.denominator;
}

-- the location across a side of a cell
abbrev pub cell_across : Mesh → Loc → ℕ → Bool → Option Loc
cell_across m c axis high = across (cell_lattice m) c axis high

-- the total that is seen beyond a side: the look in a cell, or what stands outside of the domain
abbrev pub seen_in : Settings → Mesh → ℕ → ℕ → Bool → ℕ → Option Loc → ℕ
seen_in p m f axis high level None = outside p f axis high level
seen_in p m f axis high level (Some c) = look m f c

-- the total in the cell across a side of a cell, on its own level
abbrev pub seen_next : Settings → Mesh → ℕ → Loc → ℕ → Bool → ℕ
seen_next p m f c axis high = seen_in p m f axis high c.level (cell_across m c axis high)

-- the total in the second cell across a side of a cell; beyond a face of the domain both are what stands outside of it
abbrev pub seen_second : Settings → Mesh → ℕ → Loc → ℕ → Bool → ℕ
seen_second p m f c axis high = seen_in p m f axis high c.level (option_and_then (λ o. cell_across m o axis high) (cell_across m c axis high))

-- the totals along an axis at a face of a cell, on the cell's own level
abbrev pub looks_at : Settings → Mesh → ℕ → Loc → ℕ → Bool → Looks
looks_at p m f c axis true = record { far_below = seen_next p m f c axis false; below = look m f c; above = seen_next p m f c axis true; far_above = seen_second p m f c axis true }
looks_at p m f c axis false = record { far_below = seen_second p m f c axis false; below = seen_next p m f c axis false; above = look m f c; far_above = seen_next p m f c axis true }

-- the pair at a face of a cell, by the looks on the cell's own level
abbrev pub own_pair : Settings → Mesh → ℕ → Loc → ℕ → Bool → Pair
own_pair p m f c axis high = pair (moves_at p f).order (rates_at p f axis c.level) (looks_at p m f c axis high)

-- nothing passes a reflecting face of the domain
abbrev pub pair_outside : FaceKind → Pair → Pair
pair_outside Reflecting own = no_pair
pair_outside Periodic own = own
pair_outside Outflow own = own
pair_outside Inflow own = own

-- the sums of pairs
abbrev pub sum_pairs : List ℕ → (ℕ → Pair) → Pair
sum_pairs list each = record { right = sum_over list (λ j. (each j).right); left = sum_over list (λ j. (each j).left) }

-- the pair at a face of a cell of a leaf: nothing where the face reflects; where finer cells lie behind it, the sums of the pairs
-- at their own faces; else the cell's own pair
abbrev pub face_pair_by : Settings → Mesh → ℕ → Loc → ℕ → Bool → Option Loc → Pair
face_pair_by p m f c axis high None = pair_outside (kind_at p axis high) (own_pair p m f c axis high)
face_pair_by p m f c axis high (Some o) = cond (is_inner m (block_of m o))
    (sum_pairs (children_at m.shape.dims axis (not high)) (λ j. own_pair p m f (child m.shape.dims o j) axis (not high)))
    (own_pair p m f c axis high)

unfoldable pub face_pair : Settings → Mesh → ℕ → Loc → ℕ → Bool → Pair
face_pair p m f c axis high = face_pair_by p m f c axis high (cell_across m c axis high)
