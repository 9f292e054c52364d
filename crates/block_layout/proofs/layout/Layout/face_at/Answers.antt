use Rattle.std.proofs.Common.{◌+◌, ◌*◌, ◌<◌, slice_index, arith}
use Rattle.block_layout.specs.Faces.{face_count}
use Rattle.block_layout.proofs.FaceNumbers.{number_within}
use Rattle.block_layout.proofs.Sizes.{faces_at_most}
use Rattle.block_layout.proofs.layout.Layout.face_at.Goals as goal

pub returns-clause-within : goal.returns-clause-within
returns-clause-within c =
    let l = c.args.self.now in
    rw (c.first_face.ensures.value, c.face_extent-2.ensures.value, c.face_extent.ensures.value) (number_within l c.args.axis c.args.i l.sound c.requires.axis c.requires.within)

pub overflow_mul-result : goal.overflow_mul-result
overflow_mul-result c =
    let l = c.args.self.now in
    let i = c.args.i in
    let within : c.first_face.result + (slice_index i 0 + c.face_extent-2.result * (slice_index i 1 + c.face_extent.result * slice_index i 2)) < face_count l = returns-clause-within c in
    omega (arith, within, faces_at_most l 0 l.sound (omega arith), faces_at_most l 1 l.sound (omega arith), faces_at_most l 2 l.sound (omega arith))

pub overflow_add-result-2 : goal.overflow_add-result-2
overflow_add-result-2 c =
    let l = c.args.self.now in
    let i = c.args.i in
    let within : c.first_face.result + (slice_index i 0 + c.face_extent-2.result * (slice_index i 1 + c.face_extent.result * slice_index i 2)) < face_count l = returns-clause-within c in
    omega (arith, within, faces_at_most l 0 l.sound (omega arith), faces_at_most l 1 l.sound (omega arith), faces_at_most l 2 l.sound (omega arith))
