use Rattle.std.proofs.Common.{ℕ, List, refl, ap, ◌∙◌, arith}
use Rattle.std.specs.Prelude.{slice_index}
use Rattle.mesh_rules.specs.Fields.{field_count}
use Rattle.mesh_rules.specs.Mask.{blocks_with}
use Rattle.mesh_rules.specs.Mesh.{total_of}
use Rattle.mesh_rules.specs.Cycle.{State}
use Rattle.cell_block.proofs.Meshes.{counts_are_kept}
use Rattle.cell_block.proofs.Tables.{table_at}
use Rattle.dump_writer.proofs.Rows.{same_row}
use Rattle.dump_writer.proofs.history.row_after.Goals as goal

pub returns : goal.returns
returns c p s stands same =
    same_row _ _ refl refl
    (ap (λ (v : List ℕ). slice_index v c.args.field) same ∙ table_at (field_count p) (total_of s.mesh) c.args.field 0 (omega (arith, c.requires.field, stands.stored.fields)))
    refl refl
    (c.count.ensures ∙ counts_are_kept c.args.mesh.now c.args.field c.tree.ensures.kept c.requires.field
    ∙ ap (λ (x : State). blocks_with x.mask c.args.field) (stands.state c.layout.result.now c.layout.ensures))
