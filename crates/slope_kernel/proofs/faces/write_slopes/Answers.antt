use Rattle.std.proofs.Common.{◌≡◌, ℕ, ◌<◌, ◌≤◌, ◌^◌, List, length, subst, sym, ap, ◌∙◌, arith}
use Rattle.cell_boxes.specs.declared.boxes.BoxIn.{BoxIn}
use Rattle.cell_boxes.specs.Boxes.{IsBoxIn}
use Rattle.slope_kernel.proofs.CellsBeside.{ahead_bound, behind_bound, cells_lie, faces_lie, has_faces, here_bound, others_stay, paid_at_faces, total_within}
use Rattle.slope_kernel.specs.Beside.{cells_beside, number_ahead, number_behind, number_here}
use Rattle.block_layout.specs.declared.layout.Layout.{Layout}
use Rattle.block_layout.specs.Sizes.{IsLayout}
use Rattle.block_layout.specs.Layouts.{len}
use Rattle.block_layout.specs.Faces.{face_extents}
use Rattle.slope_kernel.proofs.faces.write_slopes.Goals as goal

lies : (l : Layout) (axis n a number : ℕ) (extents : List ℕ) (b : BoxIn) → IsLayout l.dims l.cells → axis < l.dims → n ≡ len l → number ≤ 3 → extents ≡ face_extents l axis → b ≡ cells_beside l axis a → a ≡ number → IsBoxIn extents b n
lies l axis n a number extents b s u e h p q r =
    subst (λ (x : List ℕ). IsBoxIn x b n) (sym p) (subst (λ (x : BoxIn). IsBoxIn (face_extents l axis) x n) (sym (q ∙ ap (cells_beside l axis) r)) (cells_lie l axis number n s u h e))

pub update_box-requires-clause-cells : goal.update_box-requires-clause-cells
update_box-requires-clause-cells g c = rw c.face_extents.ensures (has_faces c.args.layout.now c.args.axis c.args.layout.now.sound (omega (arith, c.requires.axis, c.args.layout.now.sound.most)))

pub update_box-requires-clause-into : goal.update_box-requires-clause-into
update_box-requires-clause-into g c = rw (c.face_extents.ensures, c.faces_in.ensures) (faces_lie c.args.layout.now c.args.axis (length c.args.into.now) c.args.layout.now.sound c.requires.axis c.requires.faces)

pub update_box-requires-clause-firsts : goal.update_box-requires-clause-firsts
update_box-requires-clause-firsts g c =
    lies c.args.layout.now c.args.axis (length c.args.cells.now) c.behind.result (number_behind c.args.donor) c.face_extents.result c.beside-far.result c.args.layout.now.sound c.requires.axis c.requires.cells (behind_bound c.args.donor)
    c.face_extents.ensures c.beside-far.ensures c.behind.ensures

pub update_box-requires-clause-seconds : goal.update_box-requires-clause-seconds
update_box-requires-clause-seconds g c =
    lies c.args.layout.now c.args.axis (length c.args.cells.now) c.here.result (number_here c.args.donor) c.face_extents.result c.beside-payers.result c.args.layout.now.sound c.requires.axis c.requires.cells (here_bound c.args.donor)
    c.face_extents.ensures c.beside-payers.ensures c.here.ensures

pub update_box-requires-clause-thirds : goal.update_box-requires-clause-thirds
update_box-requires-clause-thirds g c =
    lies c.args.layout.now c.args.axis (length c.args.cells.now) c.ahead.result (number_ahead c.args.donor) c.face_extents.result c.beside-next.result c.args.layout.now.sound c.requires.axis c.requires.cells (ahead_bound c.args.donor)
    c.face_extents.ensures c.beside-next.ensures c.ahead.ensures

pub update_box-requires-clause-fourths : goal.update_box-requires-clause-fourths
update_box-requires-clause-fourths g c =
    lies c.args.layout.now c.args.axis (length c.args.cells.now) c.ahead.result (number_ahead c.args.donor) c.face_extents.result c.beside-next.result c.args.layout.now.sound c.requires.axis c.requires.cells (ahead_bound c.args.donor)
    c.face_extents.ensures c.beside-next.ensures c.ahead.ensures

pub update_box-requires-clause-taken : goal.update_box-requires-clause-taken
update_box-requires-clause-taken g c = λ i w.
    let payers = lies c.args.layout.now c.args.axis (length c.args.cells.now) c.here.result (number_here c.args.donor) c.face_extents.result c.beside-payers.result c.args.layout.now.sound c.requires.axis c.requires.cells (here_bound c.args.donor)
    c.face_extents.ensures c.beside-payers.ensures c.here.ensures in
    let next = lies c.args.layout.now c.args.axis (length c.args.cells.now) c.ahead.result (number_ahead c.args.donor) c.face_extents.result c.beside-next.result c.args.layout.now.sound c.requires.axis c.requires.cells (ahead_bound c.args.donor)
    c.face_extents.ensures c.beside-next.ensures c.ahead.ensures in (
      total_within (λ t. t ≤ g.P.Portions.greatest c.args.portions) c.face_extents.result c.args.cells.now c.beside-payers.result i payers w c.requires.served,
      total_within (λ t. t ≤ g.P.Portions.greatest c.args.portions) c.face_extents.result c.args.cells.now c.beside-next.result i next w c.requires.served,
      total_within (λ t. t < 2 ^ 62) c.face_extents.result c.args.cells.now c.beside-payers.result i payers w c.requires.small,
      total_within (λ t. t < 2 ^ 62) c.face_extents.result c.args.cells.now c.beside-next.result i next w c.requires.small,
    )

pub returns-clause-along : goal.returns-clause-along
returns-clause-along g c =
    paid_at_faces c.args.layout.now c.args.axis c.args.donor (g.P.Portions.rate c.args.portions) (g.P.Portions.denominator c.args.portions) c.args.cells.now c.args.into.now c.update_box.new.into
    c.face_extents.result c.faces_in.result c.beside-far.result c.beside-payers.result c.beside-next.result c.behind.result c.here.result c.ahead.result
    (record { far_number = c.behind.ensures; payer_number = c.here.ensures; next_number = c.ahead.ensures; far_is = c.beside-far.ensures; payers_are = c.beside-payers.ensures; next_is = c.beside-next.ensures })
    c.face_extents.ensures c.faces_in.ensures c.update_box.ensures.inside

pub returns-clause-others : goal.returns-clause-others
returns-clause-others g c =
    others_stay c.args.layout.now c.args.axis c.args.into.now c.update_box.new.into c.face_extents.result c.faces_in.result c.args.layout.now.sound c.requires.axis c.face_extents.ensures c.faces_in.ensures c.update_box.ensures.outside
