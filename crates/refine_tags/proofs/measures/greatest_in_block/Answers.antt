use Rattle.std.proofs.Common.{◌≤◌, [], ◌∷◌, subst, sym, arith, inl, inr}
use Rattle.std.proofs.lemmas.Bool.{cases_eq}
use Rattle.refine_tags.specs.Measures.{greatest_in, measured_at, total_at}
use Rattle.refine_tags.proofs.Blocks.{cell_within, greatest_is}
use Rattle.refine_tags.proofs.measures.greatest_in_block.Goals as goal

pub loop-row-preserved : goal.loop-row-preserved
loop-row-preserved c =
    let method = c.args.method in
    let l = c.args.layout.now in
    let total = total_at c.args.cells.now c.args.own.now in
    let most = c.greatest_in_row.ensures.least (greatest_in method l total) (λ x small. cell_within method l total x c.loop-row.row c.loop-plane.plane small c.loop-row-test.true c.loop-plane-test.true) in
    record {
      within = omega (arith, c.max-best.ensures, c.loop-row.invariant.within);
      each = λ x row plane a b d. omega (arith, c.max-best.ensures, c.loop-row.invariant.each x row plane a b d);
      here = λ x row a b. elim (cases_eq row c.loop-row.row) [
        | inl e ↦ subst (λ r. measured_at method l total (x ∷ r ∷ c.loop-plane.plane ∷ []) ≤ c.max-best.result) (sym e) (omega (arith, c.max-best.ensures, c.greatest_in_row.ensures.each x a))
        | inr other ↦ omega (arith, c.max-best.ensures, c.loop-row.invariant.here x row a (omega arith))
      ];
    }

pub loop-plane-preserved : goal.loop-plane-preserved
loop-plane-preserved c =
    let method = c.args.method in
    let l = c.args.layout.now in
    let total = total_at c.args.cells.now c.args.own.now in
    record {
      within = c.loop-row.invariant.within;
      each = λ x row plane a b d. elim (cases_eq plane c.loop-plane.plane) [
        | inl e ↦ subst (λ p. measured_at method l total (x ∷ row ∷ p ∷ []) ≤ c.loop-row.best) (sym e) (c.loop-row.invariant.here x row a (omega arith))
        | inr other ↦ c.loop-row.invariant.each x row plane a b (omega arith)
      ];
    }

pub returns : goal.returns
returns c = greatest_is c.args.method c.args.layout.now (total_at c.args.cells.now c.args.own.now) c.loop-plane.best c.loop-plane.invariant.within (λ x row plane a b d. c.loop-plane.invariant.each x row plane a b (omega arith))
