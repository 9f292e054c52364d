-- A stage: what each cell gains and loses through its faces, all taken from the mesh before the stage.
use Rattle.std.specs.Prelude.{ℕ, ◌+◌, ◌-◌, true, false, Option, Some, None}
use Rattle.morton_order.specs.declared.space.Loc.{Loc}
use Rattle.problem_set.specs.Settings.{Settings}
use Rattle.mesh_rules.specs.Sums.{sum_over, sum_to}
use Rattle.mesh_rules.specs.Mesh.{Mesh, filled, stored, sum_on}
use Rattle.mesh_rules.specs.Fields.{field_count}
use Rattle.mesh_rules.specs.Faces.{cell_across, face_pair}

-- what the faces of a cell bring: to the right through its low faces, to the left through its high faces
abbrev pub gain : Settings → Mesh → ℕ → Loc → ℕ
gain p m f c = sum_to m.shape.dims (λ axis. (face_pair p m f c axis false).right + (face_pair p m f c axis true).left)

-- what they take: to the left through its low faces, to the right through its high faces
abbrev pub loss : Settings → Mesh → ℕ → Loc → ℕ
loss p m f c = sum_to m.shape.dims (λ axis. (face_pair p m f c axis false).left + (face_pair p m f c axis true).right)

-- the total of a cell after the stage
abbrev pub staged : Settings → Mesh → ℕ → Loc → ℕ
staged p m f c = stored m f c + gain p m f c - loss p m f c

-- the mesh after a stage
abbrev pub stage : Settings → Mesh → Mesh
stage p m = filled m (field_count p) (staged p m)

-- what passes a face of the domain, none where the cell has another cell across
abbrev pub when_outside : Option Loc → ℕ → ℕ
when_outside None passed = passed
when_outside (Some _) passed = 0

-- what passes the faces of the domain that a cell has, inwards
abbrev pub cell_inflow : Settings → Mesh → ℕ → Loc → ℕ
cell_inflow p m f c = sum_to m.shape.dims (λ axis.
    when_outside (cell_across m c axis false) (face_pair p m f c axis false).right + when_outside (cell_across m c axis true) (face_pair p m f c axis true).left)

-- and outwards; what passes on to another cell is no outflow
abbrev pub cell_outflow : Settings → Mesh → ℕ → Loc → ℕ
cell_outflow p m f c = sum_to m.shape.dims (λ axis.
    when_outside (cell_across m c axis false) (face_pair p m f c axis false).left + when_outside (cell_across m c axis true) (face_pair p m f c axis true).right)

-- a field's inflow and outflow on a leaf in a stage, summed apart: where 5 come in and 3 go out, the outflow is 3
abbrev pub leaf_inflow : Settings → Mesh → ℕ → Loc → ℕ
leaf_inflow p m f l = sum_on m l (cell_inflow p m f)

abbrev pub leaf_outflow : Settings → Mesh → ℕ → Loc → ℕ
leaf_outflow p m f l = sum_on m l (cell_outflow p m f)

-- those of the whole mesh
abbrev pub inflow_of : Settings → Mesh → ℕ → ℕ
inflow_of p m f = sum_over m.leaves (leaf_inflow p m f)

abbrev pub outflow_of : Settings → Mesh → ℕ → ℕ
outflow_of p m f = sum_over m.leaves (leaf_outflow p m f)
