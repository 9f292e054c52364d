use Rattle.std.proofs.Common.{◌<◌, length, arith}
use Rattle.cycle_tables.proofs.Boxes.{as_many, made_before, one_more_room, round_in, row_reserved}
use Rattle.cycle_tables.proofs.Entries.{goes_to}
use Rattle.cycle_tables.proofs.posting.make_room.Goals as goal

pub index_mut-boxes-requires : goal.index_mut-boxes-requires
index_mut-boxes-requires g c =
    let to = goes_to (length c.args.lists.now) c.args.letters.now c.loop-post.post-index c.post-item.result c.requires.receivers c.loop-post-test.true c.post-item.is in
    omega (arith, to, as_many c.args.mail.now.items c.loop-post.mail.items c.loop-post.invariant.kept, c.requires.mail, c.loop-post.mail.ok)

pub reserve-requires-in-loop-post : goal.reserve-requires-in-loop-post
reserve-requires-in-loop-post g c =
    let to = goes_to (length c.args.lists.now) c.args.letters.now c.loop-post.post-index c.post-item.result c.requires.receivers c.loop-post-test.true c.post-item.is in
    let h : c.post-item.result.to < length c.loop-post.mail.items = omega (arith, to, as_many c.args.mail.now.items c.loop-post.mail.items c.loop-post.invariant.kept, c.requires.mail) in
    round_in c.args.letters.now c.loop-post.post-index c.args.round c.post-item.result.to c.args.mail.now.items c.loop-post.mail.items c.index_mut-boxes.result.now c.loop-post-test.true c.requires.round c.loop-post.invariant.kept h c.index_mut-boxes.ensures.value

pub returns-in_err-reserve-2-clause-kept : goal.returns-in_err-reserve-2-clause-kept
returns-in_err-reserve-2-clause-kept g c =
    let to = goes_to (length c.args.lists.now) c.args.letters.now c.loop-post.post-index c.post-item.result c.requires.receivers c.loop-post-test.true c.post-item.is in
    let h : c.post-item.result.to < length c.loop-post.mail.items = omega (arith, to, as_many c.args.mail.now.items c.loop-post.mail.items c.loop-post.invariant.kept, c.requires.mail) in
    made_before _ _ _ c.loop-post.invariant.kept (row_reserved c.loop-post.mail.items c.post-item.result.to c.index_mut-boxes.result.now c.reserve-in-loop-post.new.self h c.index_mut-boxes.ensures.value c.reserve-in-loop-post.ensures.room)

pub loop-post-preserved : goal.loop-post-preserved
loop-post-preserved g c =
    let to = goes_to (length c.args.lists.now) c.args.letters.now c.loop-post.post-index c.post-item.result c.requires.receivers c.loop-post-test.true c.post-item.is in
    let h : c.post-item.result.to < length c.loop-post.mail.items = omega (arith, to, as_many c.args.mail.now.items c.loop-post.mail.items c.loop-post.invariant.kept, c.requires.mail) in
    let made = c.reserve-in-loop-post.ensures.room in
    record {
      kept = made_before _ _ _ c.loop-post.invariant.kept (row_reserved c.loop-post.mail.items c.post-item.result.to c.index_mut-boxes.result.now c.reserve-in-loop-post.new.self h c.index_mut-boxes.ensures.value made);
      done = one_more_room c.args.lists.now c.loop-post.mail.items c.args.letters.now c.args.round c.loop-post.post-index c.due_in-due.result c.post-item.result c.index_mut-boxes.result.now c.reserve-in-loop-post.new.self h c.index_mut-boxes.ensures.value made
          c.post-item.is c.loop-post-test.true c.due_in-due.ensures c.in_ok-reserve-2.ensures.made c.loop-post.invariant.done;
    }
