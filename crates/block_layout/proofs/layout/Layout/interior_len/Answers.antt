use Rattle.std.proofs.Common.{slice_index}
use Rattle.block_layout.proofs.Sizes.{count_at_most, product_at_most}
use Rattle.block_layout.proofs.layout.Layout.interior_len.Goals as goal

pub returns-clause-most : goal.returns-clause-most
returns-clause-most c =
    let l = c.args.self.now in
    product_at_most (slice_index l.cells 0) (slice_index l.cells 1) (slice_index l.cells 2) 64 (count_at_most l.sound.cells1) (count_at_most l.sound.cells2) (count_at_most l.sound.cells3)
