use Rattle.std.proofs.Common.{◌≡◌, ◌<◌, arith, subst, sym, ◌∙◌, length}
use Rattle.std.proofs.lemmas.Option.{get_or_from_slice_get}
use Rattle.block_tree.specs.Blocks.{leaves}
use Rattle.mesh_rules.specs.Mask.{some_above}
use Rattle.dense_exchange.specs.Sides.{sent_to}
use Rattle.dense_exchange.proofs.Numbers.{nowhere}
use Rattle.dense_exchange.proofs.Filled.{Filling, any_more, filling_ends, finer_sender, finer_step, or_else, or_then}
use Rattle.dense_exchange.proofs.sides.receive_finer.Goals as goal
use Rattle.dense_exchange.proofs.sides.receive_finer.Goals.{then-above, else-above}

pub receive-requires-clause-sender : goal.receive-requires-clause-sender
receive-requires-clause-sender c =
    let e = c.args.on.now in
    let inside : c.loop-k.k < length c.args.senders.now = omega (arith, c.len-k-end.ensures, c.loop-k-test.true) in
    finer_sender e c.args.side c.args.senders.now c.args.to c.loop-k.k c.unwrap-from.result c.side_part-half.result c.leaf_at.result c.requires.on c.requires.senders inside
    (get_or_from_slice_get c.args.senders.now c.loop-k.k c.unwrap-from.result 0 (sym c.get.ensures ∙ c.unwrap-from.ensures))
    (get_or_from_slice_get (leaves e.tree.now) c.unwrap-from.result c.leaf_at.result nowhere c.leaf_at.ensures)
    c.side_part-half.ensures.part

pub loop-k-preserved : goal.loop-k-preserved
loop-k-preserved c =
    let e = c.args.on.now in
    let inside : c.loop-k.k < length c.args.senders.now = omega (arith, c.len-k-end.ensures, c.loop-k-test.true) in
    let told = get_or_from_slice_get c.args.senders.now c.loop-k.k c.unwrap-from.result 0 (sym c.get.ensures ∙ c.unwrap-from.ensures) in
    let more = any_more (λ from. some_above e.problem.now.alloc_threshold (sent_to e c.args.side from c.args.to)) c.args.senders.now c.loop-k.k c.unwrap-from.result c.loop-k.above c.in_ok-comes.comes inside told c.loop-k.invariant.above c.in_ok-comes.ensures.above in
    record {
      filling = finer_step e c.args.side c.args.senders.now c.args.to c.loop-k.k c.unwrap-from.result c.side_part-half.result c.leaf_at.result c.args.ghosts.now.items c.loop-k.ghosts.items c.receive.new.ghosts.items
          c.requires.on c.requires.axis c.requires.to c.requires.senders inside told
          (get_or_from_slice_get (leaves e.tree.now) c.unwrap-from.result c.leaf_at.result nowhere c.leaf_at.ensures)
          c.side_part-half.ensures.part c.loop-k.invariant.filling c.in_ok-comes.ensures.received;
      above = elim c.if-above.branch [
        | then-above w ↦ or_then c.loop-k.above c.in_ok-comes.comes c.if-above.above w.if-above.true w.above-is ∙ more
        | else-above w ↦ or_else c.loop-k.above c.in_ok-comes.comes c.if-above.above w.if-above.false w.above-is ∙ more
      ];
    }

pub returns-clause-filled : goal.returns-clause-filled
returns-clause-filled c =
    let e = c.args.on.now in
    let all : c.loop-k.k ≡ length c.args.senders.now = omega (arith, c.len-k-end.ensures, c.loop-k-test.false, c.loop-k.auto.k-end) in
    filling_ends e c.args.side c.args.senders.now c.args.to c.args.ghosts.now.items c.loop-k.ghosts.items c.requires.on c.requires.axis c.requires.to c.requires.senders
    (subst (λ v. Filling e c.args.side c.args.senders.now c.args.to v c.args.ghosts.now.items c.loop-k.ghosts.items) all c.loop-k.invariant.filling)
