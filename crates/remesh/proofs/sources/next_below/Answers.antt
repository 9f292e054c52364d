use Rattle.std.proofs.Common.{◌≡◌, ◌+◌, ℕ, Option, None, subst, sym, ◌∙◌, arith}
use Rattle.std.specs.List.{slice_index_or}
use Rattle.morton_order.specs.Space.{parts}
use Rattle.remesh.specs.Sources.{IsNext, is_below, is_on}
use Rattle.remesh.proofs.Next.{next_more}
use Rattle.remesh.proofs.sources.next_below.Goals as goal

pub loop-j-preserved : goal.loop-j-preserved
loop-j-preserved c =
    let s = c.args.old.now in
    subst (IsNext (is_below s c.args.numbers.now (c.loop-j.j + 1)) c.args.from s.fields) (sym c.earlier-least.ensures)
    (next_more s c.args.numbers.now c.loop-j.j c.args.from s.fields c.loop-j.least c.next_on.result c.loop-j.invariant c.next_on.ensures)

pub returns : goal.returns
returns c =
    let s = c.args.old.now in
    let all : c.loop-j.j ≡ parts c.args.dims = omega (arith, c.child_count-j-end.ensures.value, c.loop-j.auto.j-end, c.loop-j-test.false) in
    subst (λ k. IsNext (is_below s c.args.numbers.now k) c.args.from s.fields c.loop-j.least) all c.loop-j.invariant
