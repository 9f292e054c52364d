use Rattle.std.proofs.Common.{rules}
use Rattle.std.proofs.lemmas.Result.{on_err_weaker}
use Rattle.mesh_outside.proofs.Prefixes.{nothing_appended}
use Rattle.mesh_outside.proofs.Exits.{always_on_err}
use Rattle.mesh_outside.proofs.mem_depot.MemDepotDepot.append.Goals as goal

pub returns-in_err-append-clause-err : goal.returns-in_err-append-clause-err
returns-in_err-append-clause-err c =
    always_on_err _ (nothing_appended c.args.bytes.now c.args.self.now.written c.append.new.self c.requires (search rules))

pub returns-clause-err : goal.returns-clause-err
returns-clause-err c =
    on_err_weaker _ (λ same. nothing_appended c.args.bytes.now c.args.self.now.written c.append-2.new.self c.requires (search rules)) c.append-2.ensures.err
