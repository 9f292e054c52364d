use Rattle.std.proofs.Common.{◌≡◌, ◌+◌, ◌∷◌, [], length, length-append, append_assoc, arith, sym, ◌∙◌}
use Rattle.input_file.specs.Pieces.{length_so_far}
use Rattle.input_file.proofs.PieceLemmas.{left-first, left-more, left-last-ok}
use Rattle.input_file.proofs.so_far.SoFar.feed.Goals as goal

pub loop-tail-init : goal.loop-tail-init
loop-tail-init c = (omega arith, left-first c.args.self c.args.piece.now)

pub loop-tail-preserved : goal.loop-tail-preserved
loop-tail-preserved c =
    let size : length_so_far c.in_ok-so_far.so_far + length c.in-Some.after.now ≡ length_so_far c.args.self + length c.args.piece.now =
    omega (arith, c.in_ok-so_far.ensures.length_is, c.in-Some.ensures.length, c.loop-tail.invariant.0, length-append c.in-Some.tail.now (10 ∷ [])) in (
      size,
      left-more c.args.self c.loop-tail.so_far c.in_ok-so_far.so_far c.args.piece.now c.loop-tail.rest.now _ c.in-Some.after.now
          c.loop-tail.invariant.1 c.in_ok-so_far.ensures (c.in-Some.ensures.parts ∙ sym (append_assoc c.in-Some.tail.now (10 ∷ []) c.in-Some.after.now)),
    )

pub returns : goal.returns
returns c =
    left-last-ok c.args.self c.loop-tail.so_far c.go_on.result c.args.piece.now c.loop-tail.rest.now c.loop-tail.invariant.0 c.loop-tail.invariant.1 c.go_on.ensures
