use Rattle.std.proofs.lemmas.Result.{on_err_weaker}
use Rattle.mesh_outside.proofs.Afters.{writes_then}
use Rattle.mesh_outside.proofs.Exits.{always_on_err}
use Rattle.mesh_driver.proofs.Faults.{well}
use Rattle.mesh_driver.proofs.Passing.{no_piece, one_piece, open_after, passed_on, stops_appending, stops_between}
use Rattle.mesh_driver.proofs.dumps.append_pieces.Goals as goal

pub returns-in_err-push_piece-clause-err : goal.returns-in_err-push_piece-clause-err
returns-in_err-push_piece-clause-err g c = always_on_err _ (stops_between _ _ _ _ _ c.pieces.invariant.midway)

pub pieces-preserved : goal.pieces-preserved
pieces-preserved g c =
    let before = c.pieces.invariant in
    let between = one_piece _ _ _ _ _ _ _ c.in_ok-push_piece.field-0 c.if-branch.true c.in_ok-push_piece.ensures.step before.midway in
    record {
      midway = passed_on _ _ _ _ _ _ _ c.requires between c.in_ok-append_large.ensures.ok;
      unfinished = open_after _ _ _ before.unfinished c.in_ok-append_large.ensures.ok.is;
      after = writes_then _ _ _ _ _ _ before.after (λ x. x) c.in_ok-append_large.ensures.after (λ is. absurd (well _ _ is)) (λ x. absurd x);
    }

pub returns-in_err-append_large-clause-err : goal.returns-in_err-append_large-clause-err
returns-in_err-append_large-clause-err g c =
    let before = c.pieces.invariant in
    let between = one_piece _ _ _ _ _ _ _ c.in_ok-push_piece.field-0 c.if-branch.true c.in_ok-push_piece.ensures.step before.midway in
    always_on_err _ (stops_appending _ _ _ _ _ _ c.requires between c.in_err-append_large.ensures.err)

pub returns-clause-err : goal.returns-clause-err
returns-clause-err g c =
    let before = c.pieces.invariant in
    let between = no_piece _ _ _ _ _ _ _ _ c.in_ok-push_piece.field-0 c.if-branch.false c.in_ok-push_piece.ensures.step c.as_slice.ensures.value before.midway in
    on_err_weaker _ (λ stop. stops_appending _ _ _ _ _ _ c.requires between stop) c.append.ensures.err
