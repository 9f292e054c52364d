use Rattle.std.proofs.Common.{◌∙◌, ap, is_some, map, replicate, arith, List, Option, ℕ}
use Rattle.cycle_tables.proofs.Sets.{no_flags, no_number}
use Rattle.cycle_tables.proofs.ready_set.ReadySet.new.Goals as goal

pub returns : goal.returns
returns c = ap (λ (os : List (Option ℕ)). map is_some os) (c.loop.invariant.made ∙ ap (λ n. replicate n no_number) (let b = c.loop-test.false in let e = c.loop.auto.counter-end in omega arith)) ∙ no_flags c.args.bound
