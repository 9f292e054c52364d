use Rattle.std.proofs.Common.{◌≡◌, ℕ, ◌+◌, ◌-◌, ◌*◌, ◌<◌, ◌≤◌, ◌∙◌, List, ap, subst, sym, refl, take, drop, length, arith}
use Rattle.std.proofs.lemmas.Grind.{common_steps}
use Rattle.row_updates.specs.Steps.{RowSources, in_row, row_numbers}
use Rattle.row_updates.proofs.RowSteps.{apart_row, one_more_row, slices_are}
use Rattle.row_updates.proofs.rows.update_rows.Goals as goal

slice_long : (a j len : ℕ) (xs : List ℕ) → j ≡ len → a + len ≤ length xs → length (take j (drop a xs)) ≡ len
slice_long a j len xs e h = grind (arith, common_steps)

shorter : (k j len : ℕ) → k < j → j ≡ len → k < len
shorter k j len h e = omega arith

pub update_row-requires-clause-taken : goal.update_row-requires-clause-taken
update_row-requires-clause-taken g c = λ k h.
    let from : RowSources = record { one = c.args.one.now; first = c.args.first; second = c.args.second; other = c.args.other.now; third = c.args.third; fourth = c.args.fourth } in
    let row = c.loop-row.row in
    let a = c.args.at.first + row * c.args.at.step in
    let fit : a + c.args.len ≤ length c.loop-row.into = omega (arith, c.requires.into row c.loop-row-test.true) in
    let less : k < c.args.len = shorter k _ c.args.len h (slice_long a (a + c.args.len - a) c.args.len c.loop-row.into (omega arith) fit) in
    let same = c.loop-row.invariant.rest (in_row c.args.at row k) (apart_row c.args.at c.args.len row k c.requires.apart) in
    subst (g.R.RowRule.takes c.args.op.now) (sym (slices_are from c.loop-row.into c.args.at c.args.len row k less ∙ ap (row_numbers from row k) same))
    (c.requires.taken row k c.loop-row-test.true less)

pub loop-row-init : goal.loop-row-init
loop-row-init g c = record { done = λ row k hr hk. absurd (omega arith); rest = λ n off. refl }

pub loop-row-preserved : goal.loop-row-preserved
loop-row-preserved g c =
    let from : RowSources = record { one = c.args.one.now; first = c.args.first; second = c.args.second; other = c.args.other.now; third = c.args.third; fourth = c.args.fourth } in
    let row = c.loop-row.row in
    let a = c.args.at.first + row * c.args.at.step in
    let fit : a + c.args.len ≤ length c.loop-row.into = omega (arith, c.requires.into row c.loop-row-test.true) in
    let long = slice_long a (a + c.args.len - a) c.args.len c.loop-row.into (omega arith) fit in
    one_more_row (g.R.RowRule.gives c.args.op.now) from c.args.len row (a + c.args.len - a) c.args.at c.args.into.now c.loop-row.into c.update_row.new.into
    c.requires.apart (omega arith) fit (omega (arith, long, c.update_row.auto.into)) c.loop-row.invariant
    (λ k h. c.update_row.ensures k (omega (arith, long)) ∙ ap (g.R.RowRule.gives c.args.op.now) (slices_are from c.loop-row.into c.args.at c.args.len row k h))

pub returns-clause-inside : goal.returns-clause-inside
returns-clause-inside g c = λ row k hr hk. c.loop-row.invariant.done row k (omega (arith, c.loop-row-test.false)) hk

pub returns-clause-outside : goal.returns-clause-outside
returns-clause-outside g c = λ n off. c.loop-row.invariant.rest n (λ row k hr hk. off row k (omega (arith, c.loop-row.auto.row-end)) hk)
