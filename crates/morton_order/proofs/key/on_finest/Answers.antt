use Rattle.std.proofs.Common.{◌^◌, ◌<◌, ◌*◌, subst, sym, arith, Fits, w32}
use Rattle.morton_order.proofs.KeyBits.{finest_below}
use Rattle.morton_order.proofs.key.on_finest.Goals as goal

pub overflow_mul-result : goal.overflow_mul-result
overflow_mul-result c =
    subst (λ v. Fits w32 (c.args.coordinate * v)) (sym c.pow.ensures) (omega (arith, finest_below c.args.level c.args.coordinate c.requires.level c.requires.within))

pub returns-clause-bound : goal.returns-clause-bound
returns-clause-bound c =
    subst (λ v. c.args.coordinate * v < 2 ^ 26) (sym c.pow.ensures) (finest_below c.args.level c.args.coordinate c.requires.level c.requires.within)
