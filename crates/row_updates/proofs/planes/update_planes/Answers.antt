use Rattle.std.proofs.Common.{◌≡◌, ℕ, ◌+◌, ◌<◌, List, subst, sym, refl, arith}
use Rattle.strided_rows.specs.declared.rows.Rows.{Rows}
use Rattle.strided_rows.specs.declared.planes.Planes.{Planes}
use Rattle.strided_rows.specs.Written.{Apart, rows_of}
use Rattle.row_updates.specs.Numbers.{Numbers}
use Rattle.row_updates.specs.Steps.{PlaneSources, RowSources, RowsDone, RowsStay, TakesPlanes, TakesRows, in_plane, plane_numbers}
use Rattle.row_updates.proofs.PlaneSteps.{PlanesAre, apart_later, one_more_plane, rows_from}
use Rattle.row_updates.proofs.planes.update_planes.Goals as goal

-- what the rows of a plane make, whatever they are called
one_plane : (gives : Numbers → ℕ) (from : PlaneSources) (len count plane : ℕ) (at : Planes) (rows a b c d : Rows) (old before after : List ℕ) → Apart len count at
    → rows ≡ rows_of at plane → a ≡ rows_of from.first plane → b ≡ rows_of from.second plane → c ≡ rows_of from.third plane → d ≡ rows_of from.fourth plane
    → PlanesAre gives from len count plane at old before
    → RowsDone gives (record { one = from.one; first = a; second = b; other = from.other; third = c; fourth = d }) len count rows before after
    → RowsStay len count rows before after
    → PlanesAre gives from len count (plane + 1) at old after
one_plane gives from len count plane at rows a b c d old before after apart p pa pb pc pd is done stays =
    let same : (let x : RowSources = record { one = from.one; first = a; second = b; other = from.other; third = c; fourth = d } in x) ≡ rows_from from plane = cc in
    one_more_plane gives from len count plane at old before after apart is
    (subst (λ (v : RowSources). RowsDone gives v len count (rows_of at plane) before after) same (subst (λ (v : Rows). RowsDone gives (record { one = from.one; first = a; second = b; other = from.other; third = c; fourth = d }) len count v before after) p done))
    (subst (λ (v : Rows). RowsStay len count v before after) p stays)

-- the rows of a plane are taken, whatever they are called
taken_plane : (takes : Numbers → Type 0) (gives : Numbers → ℕ) (from : PlaneSources) (len count planes plane : ℕ) (at : Planes) (rows a b c d : Rows) (old before : List ℕ) → Apart len count at → plane < planes
    → rows ≡ rows_of at plane → a ≡ rows_of from.first plane → b ≡ rows_of from.second plane → c ≡ rows_of from.third plane → d ≡ rows_of from.fourth plane
    → PlanesAre gives from len count plane at old before → TakesPlanes takes from len count planes at old
    → TakesRows takes (record { one = from.one; first = a; second = b; other = from.other; third = c; fourth = d }) len count rows before
taken_plane takes gives from len count planes plane at rows a b c d old before apart less p pa pb pc pd is taken =
    let same : (let x : RowSources = record { one = from.one; first = a; second = b; other = from.other; third = c; fourth = d } in x) ≡ rows_from from plane = cc in
    subst (λ (v : Rows). TakesRows takes (record { one = from.one; first = a; second = b; other = from.other; third = c; fourth = d }) len count v before) (sym p)
    (subst (λ (v : RowSources). TakesRows takes v len count (rows_of at plane) before) (sym same) at_plane)
  where
    at_plane : TakesRows takes (rows_from from plane) len count (rows_of at plane) before
    at_plane r k hr hk =
        subst (λ (v : ℕ). takes (plane_numbers from plane r k v))
        (sym (is.rest (in_plane at plane r k) (λ q s x hq hs hx. apart_later at len count plane r k q s x apart hq hs hx))) (taken plane r k less hr hk)

pub rows_in-rows-requires : goal.rows_in-rows-requires
rows_in-rows-requires g c = omega (arith, c.requires.into c.loop-plane.plane 0 c.loop-plane-test.true c.requires.some)

pub rows_in-a-requires : goal.rows_in-a-requires
rows_in-a-requires g c = omega (arith, c.requires.firsts c.loop-plane.plane 0 c.loop-plane-test.true c.requires.some)

pub rows_in-b-requires : goal.rows_in-b-requires
rows_in-b-requires g c = omega (arith, c.requires.seconds c.loop-plane.plane 0 c.loop-plane-test.true c.requires.some)

pub rows_in-c-requires : goal.rows_in-c-requires
rows_in-c-requires g c = omega (arith, c.requires.thirds c.loop-plane.plane 0 c.loop-plane-test.true c.requires.some)

pub rows_in-d-requires : goal.rows_in-d-requires
rows_in-d-requires g c = omega (arith, c.requires.fourths c.loop-plane.plane 0 c.loop-plane-test.true c.requires.some)

pub loop-plane-init : goal.loop-plane-init
loop-plane-init g c = record { done = λ plane row k hp hr hk. absurd (omega arith); rest = λ n off. refl }

pub loop-plane-preserved : goal.loop-plane-preserved
loop-plane-preserved g c =
    one_plane (g.R.RowRule.gives c.args.op.now) (record { one = c.args.one.now; first = c.args.first; second = c.args.second; other = c.args.other.now; third = c.args.third; fourth = c.args.fourth })
    c.args.len c.args.count c.loop-plane.plane c.args.at c.rows_in-rows.result c.rows_in-a.result c.rows_in-b.result c.rows_in-c.result c.rows_in-d.result
    c.args.into.now c.loop-plane.into c.update_rows.new.into c.requires.apart
    c.rows_in-rows.ensures c.rows_in-a.ensures c.rows_in-b.ensures c.rows_in-c.ensures c.rows_in-d.ensures c.loop-plane.invariant c.update_rows.ensures.inside c.update_rows.ensures.outside

pub update_rows-requires-clause-taken : goal.update_rows-requires-clause-taken
update_rows-requires-clause-taken g c =
    taken_plane (g.R.RowRule.takes c.args.op.now) (g.R.RowRule.gives c.args.op.now) (record { one = c.args.one.now; first = c.args.first; second = c.args.second; other = c.args.other.now; third = c.args.third; fourth = c.args.fourth })
    c.args.len c.args.count c.args.planes c.loop-plane.plane c.args.at c.rows_in-rows.result c.rows_in-a.result c.rows_in-b.result c.rows_in-c.result c.rows_in-d.result
    c.args.into.now c.loop-plane.into c.requires.apart c.loop-plane-test.true
    c.rows_in-rows.ensures c.rows_in-a.ensures c.rows_in-b.ensures c.rows_in-c.ensures c.rows_in-d.ensures c.loop-plane.invariant c.requires.taken

pub returns-clause-inside : goal.returns-clause-inside
returns-clause-inside g c = λ plane row k hp hr hk. c.loop-plane.invariant.done plane row k (omega (arith, c.loop-plane-test.false)) hr hk

pub returns-clause-outside : goal.returns-clause-outside
returns-clause-outside g c = λ n off. c.loop-plane.invariant.rest n (λ plane row k hp hr hk. off plane row k (omega (arith, c.loop-plane.auto.plane-end)) hr hk)
