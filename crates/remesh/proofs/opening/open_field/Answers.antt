use Rattle.std.proofs.Common.{◌≡◌, ◌==◌, ◌<◌, ◌≤◌, ◌^◌, ℕ, List, [], length, ap, subst, sym, ◌∙◌, arith}
use Rattle.std.specs.List.{filter}
use Rattle.std.proofs.lemmas.Bool.Decides.{nat_tests}
use Rattle.block_tree.specs.Blocks.{TreeOfBlocks, leaves}
use Rattle.problem_set.specs.SettingsOf.{settings_of}
use Rattle.deck_entries.specs.declared.entries.StartBox.{StartBox}
use Rattle.dense_remesh.specs.StartBoxes.{amounts}
use Rattle.dense_remesh.proofs.Openings.{few_amounts}
use Rattle.dense_remesh.proofs.Pushed.{no_item}
use Rattle.cell_block.specs.State.{leaf_count}
use Rattle.remesh.specs.Openings.{IsBlockOpened, IsOpenedTo, boxes_of_field}
use Rattle.alloc_epochs.specs.Shelf.{place_on}
use Rattle.remesh.proofs.OpenBlocks.{block_opened, no_boxes_opened}
use Rattle.remesh.proofs.opening.open_field.Goals as goal

pub returns-then-is_empty : goal.returns-then-is_empty
returns-then-is_empty c =
    let p = c.args.problem.now in
    let long : length c.in_ok-boxes.boxes.items ≡ 0 = grind (arith, nat_tests) in
    let is : c.in_ok-boxes.boxes.items ≡ boxes_of_field p.boxes c.args.field = c.in_ok-boxes.ensures ∙ ap (λ (v : List StartBox). filter (λ (b : StartBox). b.field == c.args.field) v) c.as_slice.ensures in
    no_boxes_opened (settings_of p) c.args.layout.now c.args.field (boxes_of_field p.boxes c.args.field) c.args.mesh.now c.requires (sym is ∙ no_item c.in_ok-boxes.boxes.items long)

pub open_block-requires-clause-epochs : goal.open_block-requires-clause-epochs
open_block-requires-clause-epochs c = λ list.
    let count : length (leaves c.tree.result.now) ≡ leaf_count c.args.mesh.now = ap (λ (t : TreeOfBlocks). length (leaves t)) c.tree.ensures.tree in
    omega (arith, c.loop-block.invariant.epochs list, c.requires.epochs list, c.loop-block-test.true, c.len-block-end.ensures.count, c.len-block-end.ensures.kept.few)

pub open_block-requires-clause-amounts : goal.open_block-requires-clause-amounts
open_block-requires-clause-amounts c =
    let p = c.args.problem.now in
    let is = c.as_slice-in-loop-block.ensures.value ∙ c.in_ok-boxes.ensures ∙ ap (λ (v : List StartBox). filter (λ (b : StartBox). b.field == c.args.field) v) c.as_slice.ensures in
    let same = ap (λ (v : List StartBox). amounts v) is in
    omega (arith, same, few_amounts p (λ (b : StartBox). b.field == c.args.field))

pub loop-block-preserved : goal.loop-block-preserved
loop-block-preserved c =
    let p = c.args.problem.now in
    let f = c.args.field in
    let l = c.args.layout.now in
    let is : c.as_slice-in-loop-block.result.now ≡ boxes_of_field p.boxes f = c.as_slice-in-loop-block.ensures.value ∙ c.in_ok-boxes.ensures ∙ ap (λ (v : List StartBox). filter (λ (b : StartBox). b.field == f) v) c.as_slice.ensures in
    let count : length (leaves c.tree.result.now) ≡ leaf_count c.args.mesh.now = ap (λ (t : TreeOfBlocks). length (leaves t)) c.tree.ensures.tree in
    block_opened (settings_of p) l f (boxes_of_field p.boxes f) c.args.mesh.now c.loop-block.mesh c.open_block.new.mesh c.loop-block.block c.requires (omega (arith, count, c.len-block-end.ensures.count, c.loop-block-test.true)) c.loop-block.invariant
    (subst (λ (v : List StartBox). IsBlockOpened l (place_on c.loop-block.block f) v c.loop-block.mesh c.open_block.new.mesh) is c.in_ok-open_block.ensures)

pub returns : goal.returns
returns c =
    let p = c.args.problem.now in
    let count : length (leaves c.tree.result.now) ≡ leaf_count c.args.mesh.now = ap (λ (t : TreeOfBlocks). length (leaves t)) c.tree.ensures.tree in
    let all : c.loop-block.block ≡ leaf_count c.args.mesh.now = omega (arith, count, c.len-block-end.ensures.count, c.loop-block-test.false, c.loop-block.auto.block-end) in
    subst (IsOpenedTo (settings_of p) c.args.layout.now c.args.field (boxes_of_field p.boxes c.args.field) c.args.mesh.now c.loop-block.mesh) all c.loop-block.invariant
