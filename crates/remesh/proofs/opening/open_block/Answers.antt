use Rattle.std.proofs.Common.{◌≡◌, ℕ, true, false, Result, Ok, Err, List, [], length, ap, subst, sym, ◌∙◌, arith}
use Rattle.std.proofs.lemmas.Bool.Decides.{nat_tests}
use Rattle.std.proofs.lemmas.Option.{get_or_from_slice_get}
use Rattle.std.specs.Result.{OnOk}
use Rattle.morton_order.specs.declared.space.Loc.{Loc}
use Rattle.block_tree.specs.Blocks.{TreeOfBlocks, leaves}
use Rattle.block_layout.specs.Indices.{count_of}
use Rattle.sparse_pool.specs.Idle.{idle}
use Rattle.deck_entries.specs.declared.entries.StartBox.{StartBox}
use Rattle.dense_mesh.proofs.Tables.{table_length}
use Rattle.dense_remesh.specs.StartBoxes.{opening_list}
use Rattle.dense_remesh.proofs.Pushed.{no_item}
use Rattle.remesh.specs.Leaves.{leaf_on}
use Rattle.remesh.specs.Openings.{IsBlockOpened, IsFilledWith}
use Rattle.remesh.proofs.OpenBlocks.{no_box_idle, nothing_opened, something_opened}
use Rattle.remesh.proofs.opening.open_block.Goals as goal

pub returns-then-is_empty : goal.returns-then-is_empty
returns-then-is_empty c =
    let l = c.args.layout.now in
    let s = c.args.mesh.now in
    let boxes = c.args.boxes.now in
    let near : List StartBox = c.in_ok-boxes_in.field-0.items in
    let long : length near ≡ 0 = grind (arith, nat_tests) in
    let here : leaf_on s.tree c.args.at.block ≡ c.leaf_at-leaf.result =
    ap (λ (t : TreeOfBlocks). leaf_on t c.args.at.block) (sym c.tree.ensures.tree) ∙ get_or_from_slice_get (leaves c.tree.result.now) c.args.at.block c.leaf_at-leaf.result (record { level = 0; l1 = 0; l2 = 0; l3 = 0 }) c.leaf_at-leaf.ensures in
    let none : idle (opening_list l.dims l.cells boxes c.leaf_at-leaf.result) 0 ≡ true = no_box_idle l boxes near c.leaf_at-leaf.result (no_item near long) c.in_ok-boxes_in.ensures.list in
    nothing_opened l c.args.at boxes s c.requires.whole (ap (λ (at : Loc). idle (opening_list l.dims l.cells boxes at) 0) here ∙ none)

pub returns-then-is_idle : goal.returns-then-is_idle
returns-then-is_idle c =
    let l = c.args.layout.now in
    let s = c.args.mesh.now in
    let boxes = c.args.boxes.now in
    let here : leaf_on s.tree c.args.at.block ≡ c.leaf_at-leaf.result =
    ap (λ (t : TreeOfBlocks). leaf_on t c.args.at.block) (sym c.tree.ensures.tree) ∙ get_or_from_slice_get (leaves c.tree.result.now) c.args.at.block c.leaf_at-leaf.result (record { level = 0; l1 = 0; l2 = 0; l3 = 0 }) c.leaf_at-leaf.ensures in
    let list : c.as_slice.result.now ≡ opening_list l.dims l.cells boxes c.leaf_at-leaf.result = c.as_slice.ensures ∙ c.in_ok-own.ensures in
    nothing_opened l c.args.at boxes s c.requires.whole
    (ap (λ (at : Loc). idle (opening_list l.dims l.cells boxes at) 0) here ∙ ap (λ (v : List ℕ). idle v 0) (sym list) ∙ sym c.is_idle.ensures ∙ c.if-is_idle.true)

pub put_block-requires-clause-own : goal.put_block-requires-clause-own
put_block-requires-clause-own c =
    let l = c.args.layout.now in
    ap (λ (v : List ℕ). length v) (c.as_slice-2.ensures ∙ c.in_ok-own.ensures) ∙ table_length (count_of l.cells) _

pub returns : goal.returns
returns c =
    let l = c.args.layout.now in
    let s = c.args.mesh.now in
    let boxes = c.args.boxes.now in
    let here : leaf_on s.tree c.args.at.block ≡ c.leaf_at-leaf.result =
    ap (λ (t : TreeOfBlocks). leaf_on t c.args.at.block) (sym c.tree.ensures.tree) ∙ get_or_from_slice_get (leaves c.tree.result.now) c.args.at.block c.leaf_at-leaf.result (record { level = 0; l1 = 0; l2 = 0; l3 = 0 }) c.leaf_at-leaf.ensures in
    let own : List ℕ = c.as_slice-2.result.now in
    let list : own ≡ opening_list l.dims l.cells boxes (leaf_on s.tree c.args.at.block) = c.as_slice-2.ensures ∙ c.in_ok-own.ensures ∙ ap (opening_list l.dims l.cells boxes) (sym here) in
    let some : idle own 0 ≡ false = ap (λ (v : List ℕ). idle v 0) (c.as_slice-2.ensures ∙ sym c.as_slice.ensures) ∙ sym c.is_idle.ensures ∙ c.if-is_idle.false in
    both c.put_block.result c.put_block.ensures.whole c.put_block.ensures.filled (λ whole filled. something_opened l c.args.at boxes own s c.put_block.new.mesh whole list some filled)
  where
    both : {T E : Type 0} {P Q R : Type 0} (r : Result T E) → OnOk r P → OnOk r Q → (P → Q → R) → OnOk r R
    both (Ok x) p q f = f p q
    both (Err e) p q f = tt
