use Rattle.std.proofs.Common.{◌≡◌, ◌-◌, ◌≤◌, ℕ, true, List, arith, ap, sym, subst, ◌∙◌}
use Rattle.std.specs.List.{flat_map, range_with_len}
use Rattle.morton_order.specs.declared.space.Loc.{Loc}
use Rattle.morton_order.specs.Space.{IsIn, child}
use Rattle.morton_order.proofs.Family.{child_inside}
use Rattle.block_tree.specs.Leaves.{inner_below}
use Rattle.block_tree.specs.Least.{wanted_by}
use Rattle.block_tree.specs.Nodes.{with_node, with_nodes}
use Rattle.block_tree.specs.Worklist.{AddsOnly}
use Rattle.block_tree.proofs.Filling.{on_true}
use Rattle.block_tree.proofs.Places.{loc_in}
use Rattle.block_tree.proofs.WantedNodes.{adds_more, adds_node, wanted_deep, wanted_end, wanted_step}
use Rattle.block_tree.proofs.opening.+push_wanted.Goals as goal

pub returns-then-len-most-clause-only : goal.returns-then-len-most-clause-only
returns-then-len-most-clause-only t c =
    let there : (wanted_by c.args.shape.now c.args.cells.now c.args.boxes.now) c.args.at.now ≡ true = cc in
    subst (λ (v : List Loc). AddsOnly (wanted_by c.args.shape.now c.args.cells.now c.args.boxes.now) c.args.nodes.now v) (sym c.in_ok-insert.ensures.ok) (adds_node (wanted_by c.args.shape.now c.args.cells.now c.args.boxes.now) c.args.nodes.now c.args.at.now there)

pub child-part-requires-clause-valid : goal.child-part-requires-clause-valid
child-part-requires-clause-valid t c = loc_in c.args.shape.now c.args.at.now c.requires.shape c.requires.valid

pub push_wanted-requires : goal.push_wanted-requires
push_wanted-requires t c =
    let d = c.decreases in
    let some : 1 ≤ c.args.k = omega arith in
    let level = c.requires.level in
    let e = ap (λ (v : Loc). v.level) c.child-part.ensures.part in
    (omega arith, (c.requires.shape, (c.requires.cells, (subst (λ (v : Loc). IsIn c.args.shape.now v) (sym c.child-part.ensures.part) (child_inside c.args.shape.now c.args.at.now c.loop-j.j c.requires.valid (omega arith)), omega arith))))

pub returns-then-not-branch-clause-only : goal.returns-then-not-branch-clause-only
returns-then-not-branch-clause-only t c =
    let there : (wanted_by c.args.shape.now c.args.cells.now c.args.boxes.now) c.args.at.now ≡ true = cc in
    let first = subst (λ (v : List Loc). AddsOnly (wanted_by c.args.shape.now c.args.cells.now c.args.boxes.now) c.args.nodes.now v) (sym c.in_ok-insert.ensures.ok) (adds_node (wanted_by c.args.shape.now c.args.cells.now c.args.boxes.now) c.args.nodes.now c.args.at.now there) in
    adds_more (wanted_by c.args.shape.now c.args.cells.now c.args.boxes.now) c.args.nodes.now c.loop-j.nodes c.push_wanted.new.nodes (adds_more (wanted_by c.args.shape.now c.args.cells.now c.args.boxes.now) c.args.nodes.now c.insert.new.self c.loop-j.nodes first c.loop-j.invariant.only) c.in_ok-push_wanted.ensures.only

pub loop-j-preserved : goal.loop-j-preserved
loop-j-preserved t c =
    let whole : c.in_ok-push_wanted.field-0 ≡ true = cc in
    let f = λ (j : ℕ). inner_below (c.args.k - 1) c.args.shape.now.dims (wanted_by c.args.shape.now c.args.cells.now c.args.boxes.now) (child c.args.shape.now.dims c.args.at.now j) in
    record {
      whole = wanted_step f c.loop-j.nodes c.push_wanted.new.nodes _ c.loop-j.j c.parts-j-end.result c.loop-j-test.true c.loop-j.invariant.whole
          (subst (λ (v : Loc). c.push_wanted.new.nodes ≡ with_nodes c.loop-j.nodes (inner_below (c.args.k - 1) c.args.shape.now.dims (wanted_by c.args.shape.now c.args.cells.now c.args.boxes.now) v)) c.child-part.ensures.part (on_true _ _ c.in_ok-push_wanted.field-0 whole c.in_ok-push_wanted.ensures.whole));
      only = adds_more (wanted_by c.args.shape.now c.args.cells.now c.args.boxes.now) c.insert.new.self c.loop-j.nodes c.push_wanted.new.nodes c.loop-j.invariant.only c.in_ok-push_wanted.ensures.only;
    }

pub returns-clause-whole : goal.returns-clause-whole
returns-clause-whole t c =
    let there : (wanted_by c.args.shape.now c.args.cells.now c.args.boxes.now) c.args.at.now ≡ true = cc in
    let f = λ (j : ℕ). inner_below (c.args.k - 1) c.args.shape.now.dims (wanted_by c.args.shape.now c.args.cells.now c.args.boxes.now) (child c.args.shape.now.dims c.args.at.now j) in
    wanted_end f c.loop-j.nodes (with_nodes c.insert.new.self (flat_map f (range_with_len 0 c.parts-j-end.result))) c.loop-j.j c.parts-j-end.result (omega arith) c.loop-j.invariant.whole
    ∙ ap (λ (v : List Loc). with_nodes v (flat_map f (range_with_len 0 c.parts-j-end.result))) c.in_ok-insert.ensures.ok
    ∙ ap (λ v. with_nodes (with_node c.args.nodes.now c.args.at.now) (flat_map f (range_with_len 0 v))) c.parts-j-end.ensures.value
    ∙ sym (wanted_deep c.args.k c.args.shape.now.dims (wanted_by c.args.shape.now c.args.cells.now c.args.boxes.now) c.args.at.now c.args.nodes.now (omega arith) there)

pub returns-clause-only : goal.returns-clause-only
returns-clause-only t c =
    let there : (wanted_by c.args.shape.now c.args.cells.now c.args.boxes.now) c.args.at.now ≡ true = cc in
    let first = subst (λ (v : List Loc). AddsOnly (wanted_by c.args.shape.now c.args.cells.now c.args.boxes.now) c.args.nodes.now v) (sym c.in_ok-insert.ensures.ok) (adds_node (wanted_by c.args.shape.now c.args.cells.now c.args.boxes.now) c.args.nodes.now c.args.at.now there) in
    adds_more (wanted_by c.args.shape.now c.args.cells.now c.args.boxes.now) c.args.nodes.now c.insert.new.self c.loop-j.nodes first c.loop-j.invariant.only
