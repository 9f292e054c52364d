use Rattle.std.proofs.Common.{◌≡◌, ◌^◌, ◌<◌, ◌≤◌, ◌*◌, nat_lt, subst, sym, arith, ap, ◌∙◌}
use Rattle.morton_order.specs.Space.{factor, root_along}
use Rattle.morton_order.proofs.Lattice.{factor_power, few_places, root_count}
use Rattle.morton_order.proofs.locations.blocks_along.Goals as goal

pub pow-requires : goal.pow-requires
pow-requires c =
    let h : factor c.args.shape.now.dims c.args.axis ^ c.args.level ≤ 2 ^ 10 = factor_power (nat_lt c.args.axis c.args.shape.now.dims) c.args.level c.requires.level in
    let e : c.factor.result ≡ factor c.args.shape.now.dims c.args.axis = c.factor.ensures in
    subst (λ v. v ^ c.args.level < 2 ^ 32) (sym e) (omega arith)

pub returns-clause-bound : goal.returns-clause-bound
returns-clause-bound c =
    let s = c.args.shape.now in
    let h : root_along s c.args.axis * factor s.dims c.args.axis ^ c.args.level ≤ 65536 * 2 ^ 10 =
    few_places (nat_lt c.args.axis s.dims) (root_along s c.args.axis) c.args.level c.requires.level (root_count s c.requires.shape c.args.axis c.requires.axis).1 in
    let e : c.pow.result ≡ factor s.dims c.args.axis ^ c.args.level = c.pow.ensures ∙ ap (λ v. v ^ c.args.level) c.factor.ensures in
    subst (λ v. root_along s c.args.axis * v ≤ 65536 * 2 ^ 10) (sym e) h
