use Rattle.std.proofs.Common.{◌≡◌, ◌≤◌, arith, refl}
use Rattle.task_meshes.specs.Meshes.{mesh_of}
use Rattle.sent_letters.specs.Sent.{letters_sent}
use Rattle.sent_letters.proofs.Due.{AreOwned, all_sent, block_more, may_send_all, none_sent}
use Rattle.sent_letters.proofs.sending.send_letters.Goals as goal

pub loop-block-init : goal.loop-block-init
loop-block-init c =
    let blocks = c.blocks_of-blocks.result in
    let told = c.blocks_of-blocks.ensures in
    none_sent c.args.kind (mesh_of c.args.on.now) c.args.stage c.args.bufs.now c.args.list blocks.first blocks.end c.new-sent.result
    (record { ordered = told.ordered; within = told.within; owned = told.owned }) c.new-sent.ensures

pub send_block-requires : goal.send_block-requires
send_block-requires c =
    let blocks = c.blocks_of-blocks.result in
    let told = c.blocks_of-blocks.ensures in
    let are : AreOwned (mesh_of c.args.on.now) c.args.list blocks.first blocks.end = record { ordered = told.ordered; within = told.within; owned = told.owned } in
    let low : blocks.first ≤ c.loop-block.block = omega (arith, c.loop-block.auto.block) in
    may_send_all _ c.args.list blocks.first blocks.end c.bufs_of-range.result.start c.bufs_of-range.result.end c.args.bufs.now c.requires.mesh c.requires.can are low c.loop-block-test.true c.bufs_of-range.ensures refl

pub loop-block-preserved : goal.loop-block-preserved
loop-block-preserved c =
    let blocks = c.blocks_of-blocks.result in
    let told = c.blocks_of-blocks.ensures in
    let are : AreOwned (mesh_of c.args.on.now) c.args.list blocks.first blocks.end = record { ordered = told.ordered; within = told.within; owned = told.owned } in
    let low : blocks.first ≤ c.loop-block.block = omega (arith, c.loop-block.auto.block) in
    block_more c.args.kind (mesh_of c.args.on.now) c.args.stage c.args.bufs.now c.args.list blocks.first blocks.end c.bufs_of-range.result.start c.bufs_of-range.result.end c.loop-block.block c.loop-block.sent c.send_block.new.sent
    (letters_sent c.args.kind (mesh_of c.args.on.now) c.args.list c.args.stage c.args.bufs.now) are low c.loop-block-test.true c.bufs_of-range.ensures c.loop-block.invariant (c.in_ok-send_block.ensures {u = tt})

pub returns : goal.returns
returns c =
    let blocks = c.blocks_of-blocks.result in
    let told = c.blocks_of-blocks.ensures in
    let are : AreOwned (mesh_of c.args.on.now) c.args.list blocks.first blocks.end = record { ordered = told.ordered; within = told.within; owned = told.owned } in
    let last : c.loop-block.block ≡ blocks.end = omega (arith, c.loop-block-test.false, c.loop-block.auto.block-end, told.ordered) in
    all_sent c.args.kind (mesh_of c.args.on.now) c.args.stage c.args.bufs.now c.args.list blocks.first blocks.end c.loop-block.block c.loop-block.sent (letters_sent c.args.kind (mesh_of c.args.on.now) c.args.list c.args.stage c.args.bufs.now) are last
    c.loop-block.invariant
