use Rattle.std.proofs.Common.{◌≡◌, ℕ, List, subst, sym, ◌∙◌, arith}
use Rattle.morton_order.specs.Space.{parts}
use Rattle.dense_remesh.specs.Parts.{HasChildSums}
use Rattle.dense_remesh.proofs.Pushed.{written_whole}
use Rattle.dense_remesh.proofs.remapping.sums.Goals as goal

pub returns-clause-sums : goal.returns-clause-sums
returns-clause-sums c =
    let l = c.args.layout.now in
    let written : c.of.result ≡ c.write_sums.new.into = c.of.ensures ∙ written_whole c.in_ok-totals.totals.len c.in_ok-totals.totals.items c.write_sums.new.into (omega arith) (omega arith) in
    subst (λ (v : List ℕ). HasChildSums l c.args.field.now c.args.numbers.now (parts l.dims) v) (sym written) c.write_sums.ensures
