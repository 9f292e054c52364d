-- Meshes of a problem on a tree are alike to exchanges.
use Rattle.std.proofs.Common.{◌≡◌, ◌==◌, ℕ, ◌+◌, ◌&&◌, not, cond, List, [], ◌∷◌, slice_index, refl, ap, subst, sym, ◌∙◌}
use Rattle.morton_order.specs.declared.space.Side.{Side}
use Rattle.package_fields.specs.Kernel.{Reacted}
use Rattle.problem_set.specs.declared.problem.Problem.{Problem}
use Rattle.problem_set.specs.SettingsOf.{settings_of}
use Rattle.block_tree.specs.Blocks.{TreeOfBlocks, leaves}
use Rattle.mesh_rules.specs.Due.{Exchange, flux_letters, ghost_letters}
use Rattle.mesh_rules.specs.Sums.{table}
use Rattle.block_layout.specs.declared.layout.Layout.{Layout}
use Rattle.block_layout.specs.Indices.{number_of}
use Rattle.block_layout.specs.Layouts.{len}
use Rattle.block_layout.specs.Regions.{Region, covers, ghosts}
use Rattle.ghost_buffers.specs.declared.part.How.{How}
use Rattle.ghost_buffers.specs.declared.part.How.TheVariants.{Same, Finer, Coarser}
use Rattle.ghost_buffers.specs.Ghosts.{ghost_cell, received}
use Rattle.ghost_buffers.specs.Parts.{part_of}
use Rattle.upwind_fluxes.specs.declared.donor.Donor.{Donor}
use Rattle.upwind_fluxes.specs.declared.donor.Donor.TheVariants.{Below, Above}
use Rattle.flux_correct.specs.Corrected.{covered}
use Rattle.flux_correct.specs.Sums.{coarse_extents}
use Rattle.cycle_kernels.specs.Blocks.{CycleMesh, is_domain_face, total_outside}
use Rattle.cycle_kernels.specs.Letters.{ghost_at, ghosts_by, how_sent, outside_at, part_by, part_covered, region_given, region_sent, sides, total_given}
use Rattle.cycle_kernels.specs.Lists.{index_at, less, with_ghosts}
use Rattle.cycle_kernels.specs.Pairs.{corrected_at, corrected_by, face_list, faces_corrected, first_sum, sum_given}
use Rattle.task_meshes.specs.Meshes.{IsMeshFor, mesh_for, mesh_on}
use Rattle.task_meshes.specs.Alike.{MeshesAreAlike, ReadAlike}

pub mesh_is : (p : Problem) (t : TreeOfBlocks) (l : Layout) (w : CycleMesh) → IsMeshFor p t l w → w ≡ record {
  settings = settings_of p;
  mesh = record { shape = t.shape; cells = l.cells; inner = t.inner; leaves = leaves t; totals = w.mesh.totals };
  layout = l;
  react = w.react;
}
mesh_is p t l w is = λ i. record {
  settings = is.settings i;
  mesh = record { shape = is.shape i; cells = is.cells i; inner = is.inner i; leaves = is.leaf_list i; totals = w.mesh.totals };
  layout = is.layout i;
  react = w.react;
}

-- a mesh of a problem on a tree, with totals and a reaction, and the one that exchanges read
module _ (p : Problem) (t : TreeOfBlocks) (l : Layout) (totals : List (List (List ℕ))) (react : List ℕ → Reacted) where
  abbrev whole : CycleMesh
  whole = record {
    settings = settings_of p;
    mesh = record { shape = t.shape; cells = l.cells; inner = t.inner; leaves = leaves t; totals = totals };
    layout = l;
    react = react;
  }

  abbrev bare : CycleMesh
  bare = mesh_for p t l

  part_same : (how : How) (x : Exchange) → part_by how whole x ≡ part_by how bare x
  part_same Same x = refl
  part_same Finer x = refl
  part_same Coarser x = refl

  covered_same : (x : Exchange) → part_covered whole x ≡ part_covered bare x
  covered_same x = part_same (how_sent bare x) x

  abbrev given_over : Exchange → ℕ → Region
  given_over x half = received (how_sent bare x) l x.axis x.high half

  outside_same : (b f : ℕ) (ss : List Side) (i : List ℕ) → outside_at whole b f ss i ≡ outside_at bare b f ss i
  outside_same b f [] i = refl
  outside_same b f (s ∷ ss) i =
      ap (λ (n : ℕ). cond (is_domain_face bare b s.axis s.high && covers (ghosts l s.axis s.high) i) (total_outside bare b f s.axis s.high) n) (outside_same b f ss i)

  ghost_same : (b f : ℕ) (xs : List Exchange) (parts : Exchange → List ℕ) (i : List ℕ) → ghost_at whole b f xs parts i ≡ ghost_at bare b f xs parts i
  ghost_same b f [] parts i = outside_same b f (sides t.shape.dims) i
  ghost_same b f (x ∷ xs) parts i =
      ap (λ (n : ℕ). cond (x.to == b && covers (given_over x n) i) (ghost_cell (how_sent bare x) l x.axis (parts x) (less i (given_over x n).low)) (ghost_at whole b f xs parts i)) (covered_same x)
      ∙ ap (λ (n : ℕ). cond (x.to == b && covers (region_given bare x) i) (total_given bare x (parts x) i) n) (ghost_same b f xs parts i)

  pair_same : (b : ℕ) (donor : Donor) (own : List ℕ) (xs : List Exchange) (parts : Exchange → List ℕ) (axis : ℕ) (i : List ℕ) →
      corrected_at whole b donor own xs parts axis i ≡ corrected_at bare b donor own xs parts axis i
  pair_same b donor own [] parts axis i = refl
  pair_same b donor own (x ∷ xs) parts axis i =
      ap (λ (n : ℕ). cond (x.to == b && (x.axis == axis && covers (covered l x.axis x.high n) i))
      (slice_index (parts x) (first_sum l donor x.axis + number_of (coarse_extents l x.axis) (less i (covered l x.axis x.high n).low))) (corrected_at whole b donor own xs parts axis i)) (covered_same x)
      ∙ ap (λ (n : ℕ). cond (x.to == b && (x.axis == axis && covers (faces_corrected bare x) i)) (sum_given bare donor x (parts x) i) n) (pair_same b donor own xs parts axis i)

  region_same : region_sent whole ≡ region_sent bare
  region_same = λ i x cells. part_of (how_sent bare x) l x.axis (not x.high) (covered_same x i) (with_ghosts l cells [])

  ghosts_same : ghosts_by whole ≡ ghosts_by bare
  ghosts_same = λ i b f parts. table (len l) (λ place. ghost_same b f (ghost_letters (mesh_on t l)) parts (index_at l place) i)

  corrected_same : corrected_by whole ≡ corrected_by bare
  corrected_same = λ i b pairs parts. record {
    right = face_list l (λ axis k. pair_same b Below pairs.right (flux_letters (mesh_on t l)) parts axis k i);
    left = face_list l (λ axis k. pair_same b Above pairs.left (flux_letters (mesh_on t l)) parts axis k i);
  }

pub meshes_are_alike : MeshesAreAlike
meshes_are_alike p t l w is = subst (λ (u : CycleMesh). ReadAlike u (mesh_for p t l)) (sym (mesh_is p t l w is)) (record {
  cycle = λ c. record {
    mesh = record { shape = c.mesh.shape; some_cells = c.mesh.some_cells; tree = c.mesh.tree; balanced = c.mesh.balanced; leaves = c.mesh.leaves };
    layout = record { dims = c.layout.dims; cells = c.layout.cells };
    denominator = c.denominator;
    packs = c.packs;
    fields = c.fields;
  };
  owner = refl;
  ghosts_due = refl;
  fluxes_due = refl;
  no_part = refl;
  region = region_same p t l w.mesh.totals w.react;
  ghosts = ghosts_same p t l w.mesh.totals w.react;
  sums = refl;
  corrected = corrected_same p t l w.mesh.totals w.react;
  lacks = refl;
  enters = λ threshold. refl;
})
