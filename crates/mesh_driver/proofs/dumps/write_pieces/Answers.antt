use Rattle.std.proofs.Common.{◌∙◌}
use Rattle.std.proofs.lemmas.Result.{on_err_weaker}
use Rattle.mesh_outside.proofs.Prefixes.{stopped_at_append, stopped_at_finish}
use Rattle.mesh_outside.proofs.Exits.{always_on_err}
use Rattle.mesh_driver.proofs.dumps.write_pieces.Goals as goal

pub returns-in_err-append_pieces-clause-err : goal.returns-in_err-append_pieces-clause-err
returns-in_err-append_pieces-clause-err g c =
    always_on_err _ (stopped_at_append _ _ _ _ _ c.in_ok-begin.ensures.ok c.in_err-append_pieces.ensures.err)

pub returns-clause-err : goal.returns-clause-err
returns-clause-err g c =
    on_err_weaker _ (λ same. stopped_at_finish _ _ _ _ _ c.in_ok-begin.ensures.ok (same ∙ c.in_ok-append_pieces.ensures.ok)) c.finish.ensures.err
