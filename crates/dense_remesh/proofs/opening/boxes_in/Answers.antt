use Rattle.std.proofs.Common.{◌≡◌, ◌≤◌, ◌∙◌, List, ap, sym, subst}
use Rattle.std.proofs.lemmas.Result.{IfOk-weaker}
use Rattle.deck_entries.specs.declared.entries.StartBox.{StartBox}
use Rattle.std.specs.List.{filter}
use Rattle.dense_remesh.specs.StartBoxes.{amounts, meets, opening_list, root_of}
use Rattle.dense_remesh.proofs.Spreads.{filtered_amounts, near_list}
use Rattle.dense_remesh.proofs.opening.boxes_in.Goals as goal

pub returns-clause-list : goal.returns-clause-list
returns-clause-list c =
    let l = c.args.layout.now in
    let b = c.args.block.now in
    IfOk-weaker c.boxes_near.result (λ near. near.items ≡ filter (λ (b : StartBox). meets b c.root_of-low.result c.root_of-high.result) c.args.boxes.now) (λ near. opening_list l.dims l.cells near.items b ≡ opening_list l.dims l.cells c.args.boxes.now b)
    (λ near is. near_list l.dims l.cells c.args.boxes.now near.items b c.root_of-low.result c.root_of-high.result
    (c.root_of-low.ensures ∙ ap (root_of l.dims b.level) c.first_cell.ensures) (c.root_of-high.ensures ∙ ap (root_of l.dims b.level) c.last_cell.ensures) is)
    c.boxes_near.ensures

pub returns-clause-amounts : goal.returns-clause-amounts
returns-clause-amounts c =
    let test = λ (b : StartBox). meets b c.root_of-low.result c.root_of-high.result in
    IfOk-weaker c.boxes_near.result (λ near. near.items ≡ filter test c.args.boxes.now) (λ near. amounts near.items ≤ amounts c.args.boxes.now)
    (λ near is. subst (λ (v : List StartBox). amounts v ≤ amounts c.args.boxes.now) (sym is) (filtered_amounts test c.args.boxes.now))
    c.boxes_near.ensures
