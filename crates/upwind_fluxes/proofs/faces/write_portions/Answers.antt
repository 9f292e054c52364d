use Rattle.std.proofs.Common.{ℕ}
use Rattle.mesh_num.specs.Portion.{portion}
use Rattle.upwind_fluxes.proofs.Addresses.{written_faces, other_face}
use Rattle.upwind_fluxes.proofs.faces.write_portions.Goals as goal

pub returns-clause-along : goal.returns-clause-along
returns-clause-along g c =
    written_faces c.args.layout.now c.args.axis c.args.donor (λ (n : ℕ). portion n (g.P.Portions.rate c.args.portions) (g.P.Portions.denominator c.args.portions))
    c.args.cells.now c.write_box.new.into c.first_face.result c.face_extents-extents.result c.beside.result
    c.first_face.ensures.value c.face_extents-extents.ensures c.beside.ensures c.write_box.ensures.inside

pub returns-clause-others : goal.returns-clause-others
returns-clause-others g c = λ other i v different w.
    c.write_box.ensures.outside _ (λ j z. other_face c.args.layout.now c.args.axis other c.first_face.result c.face_extents-extents.result i j c.args.layout.now.sound c.requires.axis v different
    c.first_face.ensures.value c.face_extents-extents.ensures w z)
