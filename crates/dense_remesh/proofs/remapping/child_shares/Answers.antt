use Rattle.std.proofs.Common.{◌≡◌, ℕ, List, subst, sym, ◌∙◌, arith}
use Rattle.morton_order.specs.Space.{child_number}
use Rattle.dense_remesh.specs.Parts.{HasParentShares}
use Rattle.dense_remesh.proofs.Halves.{number_by}
use Rattle.dense_remesh.proofs.Pushed.{written_whole}
use Rattle.dense_remesh.proofs.remapping.child_shares.Goals as goal

pub returns-clause-shares : goal.returns-clause-shares
returns-clause-shares c =
    let l = c.args.layout.now in
    let written : c.of.result ≡ c.write_shares.new.into = c.of.ensures ∙ written_whole c.in_ok-totals.totals.len c.in_ok-totals.totals.items c.write_shares.new.into (omega arith) (omega arith) in
    let number : c.number_in_parent-number.result ≡ child_number l.dims c.args.at.now = c.number_in_parent-number.ensures.value ∙ number_by l.dims c.args.at.now c.from.result c.from-2.result c.from-3.result c.from.ensures c.from-2.ensures c.from-3.ensures in
    subst (λ (v : List ℕ). HasParentShares l c.args.coarse.now (child_number l.dims c.args.at.now) v) (sym written)
    (subst (λ n. HasParentShares l c.args.coarse.now n c.write_shares.new.into) number c.write_shares.ensures)
