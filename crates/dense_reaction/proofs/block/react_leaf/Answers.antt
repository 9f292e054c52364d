use Rattle.std.proofs.Common.{◌≡◌, sym, subst, ℕ, List, [], length}
use Rattle.std.specs.Prelude.{All}
use Rattle.std.specs.List.{slice_index_or}
use Rattle.std.proofs.lemmas.List.Elements.{All-map}
use Rattle.std.proofs.lemmas.Result.{on_ok_weaker}
use Rattle.dense_reaction.specs.Blocks.{HasGained, cell_in}
use Rattle.dense_reaction.proofs.block.react_leaf.Goals as goal

pub react_rows-requires-clause-sizes : goal.react_rows-requires-clause-sizes
react_rows-requires-clause-sizes g c =
    subst (λ (v : List (List ℕ)). All (λ (row : List ℕ). length row ≡ c.args.size) v) (sym c.in_ok-rows.ensures)
    (All-map (λ (row : List ℕ). length row ≡ c.args.size) (λ (list : List (List ℕ)). slice_index_or list c.args.leaf []) c.args.lists.now c.requires.sizes)

pub returns-clause-flows : goal.returns-clause-flows
returns-clause-flows g c =
    let react = g.C.CellKernel.reacts (g.C.CellKernel.code c.args.kernel.now) in
    on_ok_weaker c.push_rows.result
    (λ _. subst (λ (v : List (List ℕ)). HasGained (λ place. react (cell_in v place)) c.args.size c.args.flows.now c.react_rows.new.flows) c.in_ok-rows.ensures c.react_rows.ensures.flows)
    c.push_rows.ensures
