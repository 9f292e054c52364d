use Rattle.std.proofs.Common.{◌∙◌, ap, length, subst, List, ℕ}
use Rattle.problem_set.specs.SettingsOf.{settings_of}
use Rattle.leaf_stages.specs.Rates.{AreRatesAt}
use Rattle.dense_stage.proofs.LeafOwn.{leaf_has_own}
use Rattle.dense_stage.proofs.own_fluxes.leaf_fluxes.Goals as goal

pub returns-clause-own : goal.returns-clause-own
returns-clause-own g c l get =
    let f = c.block_fluxes.ensures in
    let x = c.args.portions.now in
    let given = c.requires.1.1.1.0 in
    let b = c.requires.1.1.1.1.1.1.1.1.1.1 in
    leaf_has_own c.args.problem.now c.args.tree.now c.args.layout.now g.lists c.args.field c.args.leaf c.as_slice.result.now _ l l x.rates c.closed_sides-closed.result c.args.cells.now c.as_slice-2.result.now c.block_fluxes.new.right
    c.block_fluxes.new.left c.args.right.now c.args.left.now
    (record {
      sound = c.requires.0;
      shape = c.requires.1.0;
      field = c.requires.1.1.0;
      moves_are = c.as_slice.ensures;
      leaf_is = get;
      rates_are = subst (λ n. AreRatesAt (settings_of c.args.problem.now) c.args.field n x.rates) (c.requires.1.1.1.1.0 l get) given.rates;
      closes = c.closed_sides-closed.ensures;
    })
    get c.as_slice-2.ensures (b.0 l get) (b.1 l get) f.right f.left f.right_small f.left_small (c.block_fluxes.auto.right ∙ ap (λ (v : List ℕ). length v) c.as_mut_slice.ensures.value)
    (c.block_fluxes.auto.left ∙ ap (λ (v : List ℕ). length v) c.as_mut_slice-2.ensures.value)
