-- By either order the pair is that of the totals in the row.
use Rattle.std.proofs.Common.{◌≡◌, ℕ, Bool, false, cond, not, Option, Some, None, refl, ap, sym, ◌∙◌}
use Rattle.morton_order.specs.declared.space.Loc.{Loc}
use Rattle.morton_order.specs.Space.{child}
use Rattle.block_tree.specs.Behind.{children_at}
use Rattle.mesh_settings.specs.declared.words.FaceKind.{FaceKind}
use Rattle.mesh_settings.specs.declared.words.FaceKind.TheVariants.{Periodic, Outflow, Reflecting, Inflow}
use Rattle.mesh_rules.specs.Fields.{FaceRates, kind_at, moves_at, rates_at}
use Rattle.mesh_rules.specs.Faces.{Looks, Pair, cell_across, face_pair, face_pair_by, no_pair, own_pair, pair, pair_outside, sum_pairs}
use Rattle.block_geometry.specs.Blocks.{cell_in}
use Rattle.block_geometry.specs.Contents.{is_finer_in}
use Rattle.block_geometry.proofs.Seen.{rows_are_looks}
use Rattle.block_laws.specs.Rates.{reflects}
use Rattle.block_laws.proofs.Closed.{reflects_some}
use Rattle.pair_laws.specs.InRows.{PairsInRows}

pub pairs_in_rows : PairsInRows
unfolding face_pair
pairs_in_rows b cells i axis high sound has sees used w free =
    let order : ℕ = (moves_at b.settings b.field).order in
    let rates : FaceRates = rates_at b.settings b.field axis b.leaf.level in
    by (cell_across b.mesh (cell_in b.mesh b.leaf i) axis high) free
    ∙ ap (λ (x : Looks). cond (reflects (kind_at b.settings axis high) (cell_across b.mesh (cell_in b.mesh b.leaf i) axis high)) no_pair (pair order rates x)) (rows_are_looks b cells i axis high sound has sees w used)
  where
    own : Pair
    own = own_pair b.settings b.mesh b.field (cell_in b.mesh b.leaf i) axis high

    outer : (kind : FaceKind) → pair_outside kind own ≡ cond (reflects kind None) no_pair own
    outer Reflecting = refl
    outer Periodic = refl
    outer Outflow = refl
    outer Inflow = refl

    by : (o : Option Loc) → is_finer_in b.mesh o ≡ false → face_pair_by b.settings b.mesh b.field (cell_in b.mesh b.leaf i) axis high o ≡ cond (reflects (kind_at b.settings axis high) o) no_pair own
    by None e = outer (kind_at b.settings axis high)
    by (Some o) e =
        ap (λ (t : Bool). cond t (sum_pairs (children_at b.mesh.shape.dims axis (not high)) (λ j. own_pair b.settings b.mesh b.field (child b.mesh.shape.dims o j) axis (not high))) own) e
        ∙ sym (ap (λ (t : Bool). cond t no_pair own) (reflects_some (kind_at b.settings axis high) o))
