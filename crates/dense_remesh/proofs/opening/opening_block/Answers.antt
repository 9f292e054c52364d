use Rattle.std.proofs.Common.{◌≡◌, [], List, length, replicate, ap, sym, ◌∙◌, arith}
use Rattle.std.proofs.lemmas.Bool.Decides.{nat_tests}
use Rattle.std.proofs.lemmas.Result.{IfOk-weaker}
use Rattle.deck_entries.specs.declared.entries.StartBox.{StartBox}
use Rattle.dense_remesh.specs.StartBoxes.{amounts, opening_list}
use Rattle.dense_remesh.proofs.Pushed.{no_item}
use Rattle.dense_remesh.proofs.Spreads.{empty_list}
use Rattle.dense_remesh.proofs.opening.opening_block.Goals as goal

pub shares-requires : goal.shares-requires
shares-requires c =
    let same = ap (λ (v : List StartBox). amounts v) c.as_slice.ensures.value in
    let few = c.in_ok-near.ensures.amounts in
    let small = c.requires in
    omega arith

pub returns-then-is_empty : goal.returns-then-is_empty
returns-then-is_empty c =
    let l = c.args.layout.now in
    let b = c.args.block.now in
    let long : length c.in_ok-near.near.items ≡ 0 = grind (arith, nat_tests) in
    let none : c.in_ok-near.near.items ≡ [] = no_item c.in_ok-near.near.items long in
    IfOk-weaker c.zeros.result (λ list. list ≡ replicate c.interior_len.result 0) (λ list. list ≡ opening_list l.dims l.cells c.args.boxes.now b)
    (λ list is. is ∙ ap (λ n. replicate n 0) c.interior_len.ensures.value ∙ empty_list l.dims l.cells b ∙ ap (λ (v : List StartBox). opening_list l.dims l.cells v b) (sym none) ∙ c.in_ok-near.ensures.list)
    c.zeros.ensures

pub returns : goal.returns
returns c =
    let l = c.args.layout.now in
    let b = c.args.block.now in
    IfOk-weaker c.shares.result (λ list. list ≡ opening_list l.dims l.cells c.as_slice.result.now b) (λ list. list ≡ opening_list l.dims l.cells c.args.boxes.now b)
    (λ list is. is ∙ ap (λ (v : List StartBox). opening_list l.dims l.cells v b) c.as_slice.ensures.value ∙ c.in_ok-near.ensures.list)
    c.shares.ensures
