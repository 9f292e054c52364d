use Rattle.std.proofs.Common.{◌∙◌, ℕ, List, length, ap, subst, sym}
use Rattle.transport_kernel.specs.Update.{HasPassed, listed}
use Rattle.lent_bufs.proofs.Clears.{written_whole}
use Rattle.stage_tasks.proofs.updates.advance.Goals as goal

pub returns-clause-passed : goal.returns-clause-passed
returns-clause-passed c =
    let l = c.args.layout.now in
    let old : List ℕ = c.args.cells.now in
    let new : List ℕ = c.update.new.cells in
    let whole = written_whole old new (c.update.auto.cells ∙ ap (λ (v : List ℕ). length v) c.as_mut_slice.ensures.value) in
    let a : HasPassed l (listed l c.as_slice.result.now) (listed l c.as_slice-2.result.now) old new = subst (λ (v : List ℕ). HasPassed l (listed l c.as_slice.result.now) (listed l c.as_slice-2.result.now) v new) c.as_mut_slice.ensures.value c.update.ensures.passed in
    let b : HasPassed l (listed l c.args.right.now) (listed l c.as_slice-2.result.now) old new = subst (λ (v : List ℕ). HasPassed l (listed l v) (listed l c.as_slice-2.result.now) old new) c.as_slice.ensures a in
    let d : HasPassed l (listed l c.args.right.now) (listed l c.args.left.now) old new = subst (λ (v : List ℕ). HasPassed l (listed l c.args.right.now) (listed l v) old new) c.as_slice-2.ensures b in
    subst (λ (v : List ℕ). HasPassed l (listed l c.args.right.now) (listed l c.args.left.now) old v) (sym whole) d
