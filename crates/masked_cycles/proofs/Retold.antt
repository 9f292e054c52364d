-- The kernels read the tree of a mesh, and none of its totals.
use Rattle.std.proofs.Common.{◌≡◌, ◌==◌, ℕ, ◌+◌, cond, ◌&&◌, List, [], ◌∷◌, refl, ap, ◌∙◌, not, slice_index}
use Rattle.morton_order.specs.declared.space.Side.{Side}
use Rattle.mesh_rules.specs.Sums.{table}
use Rattle.mesh_rules.specs.Due.{Exchange, flux_letters, ghost_letters}
use Rattle.block_layout.specs.Indices.{number_of}
use Rattle.block_layout.specs.Layouts.{len}
use Rattle.block_layout.specs.Regions.{covers, ghosts}
use Rattle.flux_correct.specs.Sums.{coarse_extents}
use Rattle.flux_correct.specs.Corrected.{covered}
use Rattle.ghost_buffers.specs.declared.part.How.{How}
use Rattle.ghost_buffers.specs.declared.part.How.TheVariants.{Same, Finer, Coarser}
use Rattle.ghost_buffers.specs.Ghosts.{ghost_cell, received}
use Rattle.ghost_buffers.specs.Parts.{part_of}
use Rattle.upwind_fluxes.specs.declared.donor.Donor.{Donor}
use Rattle.upwind_fluxes.specs.declared.donor.Donor.TheVariants.{Below, Above}
use Rattle.cycle_kernels.specs.Blocks.{CycleMesh, is_domain_face, total_outside}
use Rattle.cycle_kernels.specs.Kernels.{kernels_of}
use Rattle.cycle_kernels.specs.Letters.{ghost_at, ghosts_by, how_sent, outside_at, part_by, region_sent, sides}
use Rattle.cycle_kernels.specs.Lists.{index_at, less, with_ghosts}
use Rattle.cycle_kernels.specs.Pairs.{FacePairs, corrected_at, corrected_by, face_list, first_sum}

-- a mesh with other totals
abbrev pub retold : CycleMesh → List (List (List ℕ)) → CycleMesh
retold w t = record w { mesh = record w.mesh { totals = t } }

part_again : (how : How) (w : CycleMesh) (t : List (List (List ℕ))) (x : Exchange) → part_by how (retold w t) x ≡ part_by how w x
part_again Same w t x = refl
part_again Finer w t x = refl
part_again Coarser w t x = refl

region_again : (w : CycleMesh) (t : List (List (List ℕ))) (x : Exchange) (totals : List ℕ) → region_sent (retold w t) x totals ≡ region_sent w x totals
region_again w t x totals = ap (λ h. part_of (how_sent w x) w.layout x.axis (not x.high) h (with_ghosts w.layout totals [])) (part_again (how_sent w x) w t x)

outside_again : (w : CycleMesh) (t : List (List (List ℕ))) (b f : ℕ) (list : List Side) (i : List ℕ) → outside_at (retold w t) b f list i ≡ outside_at w b f list i
outside_again w t b f [] i = refl
outside_again w t b f (s ∷ rest) i =
    ap (λ v. cond (is_domain_face w b s.axis s.high && covers (ghosts w.layout s.axis s.high) i) (total_outside w b f s.axis s.high) v) (outside_again w t b f rest i)

ghost_again : (w : CycleMesh) (t : List (List (List ℕ))) (b f : ℕ) (letters : List Exchange) (parts : Exchange → List ℕ) (i : List ℕ) → ghost_at (retold w t) b f letters parts i ≡ ghost_at w b f letters parts i
ghost_again w t b f [] parts i = outside_again w t b f (sides w.mesh.shape.dims) i
ghost_again w t b f (x ∷ rest) parts i =
    let how : How = how_sent w x in
    ap (λ h. cond (x.to == b && covers (received how w.layout x.axis x.high h) i) (ghost_cell how w.layout x.axis (parts x) (less i (received how w.layout x.axis x.high h).low)) (ghost_at (retold w t) b f rest parts i)) (part_again how w t x)
    ∙ ap (λ v. cond (x.to == b && covers (received how w.layout x.axis x.high (part_by how w x)) i) (ghost_cell how w.layout x.axis (parts x) (less i (received how w.layout x.axis x.high (part_by how w x)).low)) v) (ghost_again w t b f rest parts i)

ghosts_again : (w : CycleMesh) (t : List (List (List ℕ))) (b f : ℕ) (parts : Exchange → List ℕ) → ghosts_by (retold w t) b f parts ≡ ghosts_by w b f parts
ghosts_again w t b f parts = λ j. table (len w.layout) (λ place. ghost_again w t b f (ghost_letters w.mesh) parts (index_at w.layout place) j)

corrected_at_again : (w : CycleMesh) (t : List (List (List ℕ))) (b : ℕ) (donor : Donor) (own : List ℕ) (letters : List Exchange) (parts : Exchange → List ℕ) (axis : ℕ) (i : List ℕ) →
    corrected_at (retold w t) b donor own letters parts axis i ≡ corrected_at w b donor own letters parts axis i
corrected_at_again w t b donor own [] parts axis i = refl
corrected_at_again w t b donor own (x ∷ rest) parts axis i =
    let how : How = how_sent w x in
    ap (λ h. cond (x.to == b && (x.axis == axis && covers (covered w.layout x.axis x.high h) i)) (slice_index (parts x) (first_sum w.layout donor x.axis + number_of (coarse_extents w.layout x.axis) (less i (covered w.layout x.axis x.high h).low)))
    (corrected_at (retold w t) b donor own rest parts axis i)) (part_again how w t x)
    ∙ ap (λ v. cond (x.to == b && (x.axis == axis && covers (covered w.layout x.axis x.high (part_by how w x)) i)) (slice_index (parts x) (first_sum w.layout donor x.axis + number_of (coarse_extents w.layout x.axis) (less i (covered w.layout x.axis x.high (part_by how w x)).low))) v)
    (corrected_at_again w t b donor own rest parts axis i)

corrected_again : (w : CycleMesh) (t : List (List (List ℕ))) (b : ℕ) (pairs : FacePairs) (parts : Exchange → List ℕ) → corrected_by (retold w t) b pairs parts ≡ corrected_by w b pairs parts
corrected_again w t b pairs parts = λ j. record {
  right = face_list w.layout (λ axis i. corrected_at_again w t b Below pairs.right (flux_letters w.mesh) parts axis i j);
  left = face_list w.layout (λ axis i. corrected_at_again w t b Above pairs.left (flux_letters w.mesh) parts axis i j);
}

pub retold_kernels : (w : CycleMesh) (t : List (List (List ℕ))) → kernels_of (retold w t) ≡ kernels_of w
retold_kernels w t = λ j. record (kernels_of w) {
  region = λ x totals. region_again w t x totals j;
  ghosts = λ b f parts. ghosts_again w t b f parts j;
  corrected = λ b _ pairs parts. corrected_again w t b pairs parts j;
}
