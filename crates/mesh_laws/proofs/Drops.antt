-- What is dropped is exactly what was made zero.
use Rattle.std.proofs.Common.{◌≡◌, ℕ, ◌+◌, Bool, true, false, cond, arith, ap, sym, ◌∙◌}
use Rattle.morton_order.specs.declared.space.Loc.{Loc}
use Rattle.problem_set.specs.Settings.{Settings}
use Rattle.mesh_rules.specs.Sums.{sum_to}
use Rattle.mesh_rules.specs.Mesh.{IsMesh, Mesh, block_of, block_size, cell_at, leaf_total, stored, sum_on}
use Rattle.mesh_rules.specs.Fields.{field_count}
use Rattle.mesh_rules.specs.Mask.{Mask, cut, dropped_of, leaf_dropped, stays}
use Rattle.mesh_laws.specs.DropLaws.{CutLaw, DropsAreWhatWasCut}
use Rattle.mesh_laws.proofs.Cells.{over_plus, over_same}
use Rattle.mesh_laws.proofs.Fillings.{filled_sum}
use Rattle.mesh_laws.proofs.Grids.{sum_nothing}
use Rattle.mesh_laws.proofs.LeafSums.{block_of_cell}
use Rattle.mesh_laws.proofs.StoredCells.{stored_at}
use Rattle.mesh_laws.proofs.Totals.{sum_to-same}

-- what stays of a cell
abbrev left_in : Settings → Mask → Mesh → ℕ → Loc → ℕ
left_in p mask m f c = cond (stays p m mask f (block_of m c)) (stored m f c) 0

pub cut_law : CutLaw
cut_law p mask m f c mesh some inside leaf =
    let e : stored (cut p mask m) f c ≡ left_in p mask m f c = stored_at m mesh (field_count p) f (left_in p mask m) c some leaf in
    record {
      kept = λ h. e ∙ ap (λ (b : Bool). cond b (stored m f c) 0) h;
      dropped = λ h. e ∙ ap (λ (b : Bool). cond b (stored m f c) 0) h;
    }

-- what stays and what is dropped on a leaf
leaf_parts : (p : Settings) (mask : Mask) (m : Mesh) (f : ℕ) → IsMesh m → (l : Loc) → sum_on m l (left_in p mask m f) + leaf_dropped p mask m f l ≡ leaf_total m f l
leaf_parts p mask m f mesh l =
    ap (λ v. v + leaf_dropped p mask m f l)
    (sum_to-same (block_size m) (λ place. left_in p mask m f (cell_at m l place)) (λ place. cond (stays p m mask f l) (stored m f (cell_at m l place)) 0)
    (λ place small. ap (λ (x : Loc). cond (stays p m mask f x) (stored m f (cell_at m l place)) 0) (block_of_cell m mesh.some_cells l place small)))
    ∙ by (stays p m mask f l)
  where
    by : (b : Bool) → sum_to (block_size m) (λ place. cond b (stored m f (cell_at m l place)) 0) + cond b 0 (leaf_total m f l) ≡ leaf_total m f l
    by true = omega arith
    by false = let e = sum_nothing (block_size m) in omega arith

pub drops_are_what_was_cut : DropsAreWhatWasCut
drops_are_what_was_cut p mask m f mesh some =
    ap (λ v. v + dropped_of p mask m f) (filled_sum m mesh.some_cells (field_count p) f (left_in p mask m) some)
    ∙ sym (over_plus m.leaves (λ l. sum_on m l (left_in p mask m f)) (leaf_dropped p mask m f))
    ∙ over_same m.leaves (λ l. sum_on m l (left_in p mask m f) + leaf_dropped p mask m f l) (leaf_total m f) (leaf_parts p mask m f mesh)
