use Rattle.std.proofs.Common.{◌≡◌, ◌∙◌}
use Rattle.std.proofs.lemmas.Option.{get_or_from_slice_get}
use Rattle.std.proofs.lemmas.Result.{IfOk-weaker, on_ok_weaker}
use Rattle.std.specs.List.{list_any}
use Rattle.block_tree.specs.Blocks.{leaves}
use Rattle.mesh_rules.specs.Mask.{some_above}
use Rattle.dense_exchange.specs.FieldMeshes.{leaf_on}
use Rattle.dense_exchange.specs.Sides.{behind_leaf, sent_to}
use Rattle.dense_exchange.proofs.Arms.{coarse_above, comes_to, fine_above, same_above, told_coarse, told_fine, told_outside, told_same}
use Rattle.dense_exchange.proofs.Filled.{coarser_fills, part_found, same_fills}
use Rattle.dense_exchange.proofs.Numbers.{nowhere}
use Rattle.dense_exchange.proofs.sides.fill_side.Goals as goal

pub receive_outside-requires-clause-face : goal.receive_outside-requires-clause-face
receive_outside-requires-clause-face c = told_outside c.args.on.now c.args.side c.args.to c.requires.to c.in-Outside.ensures

pub receive-requires-clause-from : goal.receive-requires-clause-from
receive-requires-clause-from c = (told_same c.args.on.now c.args.side c.args.to c.in-Same.from c.requires.to c.in-Same.ensures).few

pub receive-requires-clause-sender : goal.receive-requires-clause-sender
receive-requires-clause-sender c = (told_same c.args.on.now c.args.side c.args.to c.in-Same.from c.requires.to c.in-Same.ensures).is

pub receive-requires-in-Coarse-clause-from : goal.receive-requires-in-Coarse-clause-from
receive-requires-in-Coarse-clause-from c = (told_coarse c.args.on.now c.args.side c.args.to c.in-Coarse.from c.requires.to c.in-Coarse.ensures).few

pub receive-requires-in-Coarse-clause-sender : goal.receive-requires-in-Coarse-clause-sender
receive-requires-in-Coarse-clause-sender c =
    let e = c.args.on.now in (
      (told_coarse e c.args.side c.args.to c.in-Coarse.from c.requires.to c.in-Coarse.ensures).is,
      part_found e c.args.side c.args.to c.side_part-half.result c.leaf_at.result c.requires.on (get_or_from_slice_get (leaves e.tree.now) c.args.to c.leaf_at.result nowhere c.leaf_at.ensures) c.side_part-half.ensures.part,
    )

pub receive_finer-requires-clause-listed : goal.receive_finer-requires-clause-listed
receive_finer-requires-clause-listed c = (told_fine c.args.on.now c.args.side c.args.to c.in-Fine.senders c.requires.to c.in-Fine.ensures).few

pub receive_finer-requires-clause-senders : goal.receive_finer-requires-clause-senders
receive_finer-requires-clause-senders c = (told_fine c.args.on.now c.args.side c.args.to c.in-Fine.senders c.requires.to c.in-Fine.ensures).is

pub returns-in-Same-clause-filled : goal.returns-in-Same-clause-filled
returns-in-Same-clause-filled c =
    let e = c.args.on.now in
    let one = told_same e c.args.side c.args.to c.in-Same.from c.requires.to c.in-Same.ensures in
    on_ok_weaker c.receive.result (same_fills e 0 c.args.side c.in-Same.from c.args.to c.args.ghosts.now.items c.receive.new.ghosts.items c.requires.on c.requires.axis c.requires.to one.is) c.receive.ensures.received

pub returns-in-Same-clause-above : goal.returns-in-Same-clause-above
returns-in-Same-clause-above c =
    let e = c.args.on.now in
    let one = told_same e c.args.side c.args.to c.in-Same.from c.requires.to c.in-Same.ensures in
    IfOk-weaker c.receive.result (λ above. above ≡ some_above e.problem.now.alloc_threshold (sent_to e c.args.side c.in-Same.from c.args.to)) (λ above. above ≡ comes_to e c.args.side c.args.to (behind_leaf e c.args.side c.args.to))
    (λ above is. is ∙ same_above e c.args.side c.args.to (leaf_on e c.in-Same.from) one.is) c.receive.ensures.above

pub returns-in-Coarse-clause-filled : goal.returns-in-Coarse-clause-filled
returns-in-Coarse-clause-filled c =
    let e = c.args.on.now in
    let one = told_coarse e c.args.side c.args.to c.in-Coarse.from c.requires.to c.in-Coarse.ensures in
    on_ok_weaker c.receive-in-Coarse.result (coarser_fills e c.side_part-half.result c.args.side c.in-Coarse.from c.args.to c.args.ghosts.now.items c.receive-in-Coarse.new.ghosts.items c.requires.on c.requires.axis c.requires.to one.is) c.receive-in-Coarse.ensures.received

pub returns-in-Coarse-clause-above : goal.returns-in-Coarse-clause-above
returns-in-Coarse-clause-above c =
    let e = c.args.on.now in
    let one = told_coarse e c.args.side c.args.to c.in-Coarse.from c.requires.to c.in-Coarse.ensures in
    IfOk-weaker c.receive-in-Coarse.result (λ above. above ≡ some_above e.problem.now.alloc_threshold (sent_to e c.args.side c.in-Coarse.from c.args.to)) (λ above. above ≡ comes_to e c.args.side c.args.to (behind_leaf e c.args.side c.args.to))
    (λ above is. is ∙ coarse_above e c.args.side c.args.to (leaf_on e c.in-Coarse.from) one.is) c.receive-in-Coarse.ensures.above

pub returns-in-Fine-clause-above : goal.returns-in-Fine-clause-above
returns-in-Fine-clause-above c =
    let e = c.args.on.now in
    let all = told_fine e c.args.side c.args.to c.in-Fine.senders c.requires.to c.in-Fine.ensures in
    IfOk-weaker c.receive_finer.result (λ above. above ≡ list_any (λ from. some_above e.problem.now.alloc_threshold (sent_to e c.args.side from c.args.to)) c.in-Fine.senders) (λ above. above ≡ comes_to e c.args.side c.args.to (behind_leaf e c.args.side c.args.to))
    (λ above is. is ∙ fine_above e c.args.side c.args.to c.in-Fine.senders all.is) c.receive_finer.ensures.above
