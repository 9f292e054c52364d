use Rattle.std.proofs.Common.{◌≡◌, ◌+◌, ◌∙◌, ◌++◌, ◌∷◌, [], ap, length, arith}
use Rattle.std.proofs.lemmas.List.{length-append}
use Rattle.cycle_tables.specs.Tables.{numbered}
use Rattle.cycle_tables.proofs.Posts.{length_numbered, one_taken, posted_more, some_left}
use Rattle.cycle_tables.proofs.posting.put_on.Goals as goal

pub push-requires : goal.push-requires
push-requires g c =
    let i = c.loop-post.invariant in
    let l = some_left c.args.letters.items c.loop-post.yielded c.loop-post.post-iterator.rest.items c.next.new.self.rest.items c.in-Some.post i.rest c.in-Some.ensures.steps.0 in
    omega (arith, l, i.room, c.requires.room)

pub overflow_cast-number : goal.overflow_cast-number
overflow_cast-number g c =
    let i = c.loop-post.invariant in
    let l = some_left c.args.letters.items c.loop-post.yielded c.loop-post.post-iterator.rest.items c.next.new.self.rest.items c.in-Some.post i.rest c.in-Some.ensures.steps.0 in
    let start = c.args.wire.now.posts in
    let n : length c.loop-post.wire.posts ≡ length start + length c.loop-post.yielded =
    ap (λ ps. length ps) i.posted ∙ length-append start (numbered (length start) c.args.round c.loop-post.yielded) ∙ ap (λ m. length start + m) (length_numbered (length start) c.args.round c.loop-post.yielded) in
    omega (arith, l, n, c.len-number.ensures, c.requires.numbers)

pub loop-post-preserved : goal.loop-post-preserved
loop-post-preserved g c = record {
  posted = posted_more c.args.wire.now.posts c.loop-post.wire.posts c.push.new.self.posts c.args.round c.len-number.result c.loop-post.yielded c.in-Some.post c.loop-post.invariant.posted c.len-number.ensures c.push.ensures.posts;
  room = (let n : length (c.loop-post.yielded ++ c.in-Some.post ∷ []) ≡ length c.loop-post.yielded + 1 = length-append c.loop-post.yielded (c.in-Some.post ∷ []) in omega (arith, n, c.push.ensures.room, c.loop-post.invariant.room));
  rest = one_taken c.args.letters.items c.loop-post.yielded c.loop-post.post-iterator.rest.items c.next.new.self.rest.items c.in-Some.post c.loop-post.invariant.rest c.in-Some.ensures.steps.0;
}
