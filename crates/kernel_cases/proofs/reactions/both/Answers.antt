use Rattle.std.proofs.Common.{◌<◌, ◌^◌, ℕ, List, sym, subst, All}
use Rattle.std.specs.Prelude.{sum}
use Rattle.field_bufs.specs.declared.buf.FieldBuf.{FieldBuf}
use Rattle.react_kernel.specs.Blocks.{totals_at}
use Rattle.kernel_cases.proofs.SmallBlocks.{both_small}
use Rattle.kernel_cases.proofs.reactions.both.Goals as goal

pub returns-clause-small : goal.returns-clause-small
returns-clause-small c = λ place. subst (λ (bufs : List FieldBuf). sum (totals_at bufs 2 place) < 2 ^ 62) (sym c.in_ok-bufs.ensures)
    (both_small c.in_ok-low.low c.in_ok-high.high place
    (subst (λ (list : List ℕ). All (λ t. t < 2 ^ 32) list) (sym c.in_ok-low.ensures.cells) c.requires.small1)
    (subst (λ (list : List ℕ). All (λ t. t < 2 ^ 32) list) (sym c.in_ok-high.ensures.cells) c.requires.small2))
