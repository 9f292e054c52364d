use Rattle.std.proofs.Common.{subst, sym, ◌≤◌, ◌^◌, ℕ}
use Rattle.leaf_stages.proofs.SideSums.{passed_is, passed_most}
use Rattle.leaf_stages.proofs.flows.passed_through.Goals as goal

pub returns-clause-value : goal.returns-clause-value
returns-clause-value c = passed_is c.args.layout.now c.args.side.axis c.args.side.high c.args.list.now c.args.layout.now.sound c.requires.axis c.passed.result c.passed.ensures

pub returns-clause-most : goal.returns-clause-most
returns-clause-most c =
    subst (λ (v : ℕ). v ≤ 2 ^ 84) (sym c.passed.ensures) (passed_most c.args.layout.now c.args.side.axis c.args.side.high c.args.list.now c.args.layout.now.sound c.requires.axis (λ k. (c.type_inv.list k).fits))
