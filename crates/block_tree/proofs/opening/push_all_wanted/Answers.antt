use Rattle.std.proofs.Common.{◌≡◌, ◌+◌, List, [], true, arith, ap, ◌∙◌}
use Rattle.std.specs.List.{flat_map}
use Rattle.morton_order.specs.declared.space.Loc.{Loc}
use Rattle.block_tree.specs.Leaves.{inner_below, inner_of}
use Rattle.block_tree.specs.Least.{wanted_by}
use Rattle.block_tree.specs.Nodes.{with_nodes}
use Rattle.block_tree.proofs.Filling.{on_true, root_at}
use Rattle.block_tree.proofs.WantedNodes.{adds_more, all_end, all_step}
use Rattle.block_tree.proofs.opening.push_all_wanted.Goals as goal

pub push_wanted-requires-clause-valid : goal.push_wanted-requires-clause-valid
push_wanted-requires-clause-valid c = (root_at c.args.shape.now c.args.roots.now c.loop-i.i (record { level = 0; l1 = 0; l2 = 0; l3 = 0 }) c.requires.roots (omega arith)).inside

pub push_wanted-requires-clause-level : goal.push_wanted-requires-clause-level
push_wanted-requires-clause-level c = ap (λ v. v + 10) (root_at c.args.shape.now c.args.roots.now c.loop-i.i (record { level = 0; l1 = 0; l2 = 0; l3 = 0 }) c.requires.roots (omega arith)).root

pub loop-i-preserved : goal.loop-i-preserved
loop-i-preserved c =
    let whole : c.in_ok-push_wanted.field-0 ≡ true = cc in
    record {
      whole = all_step (inner_below 10 c.args.shape.now.dims (wanted_by c.args.shape.now c.args.cells.now c.args.boxes.now)) c.loop-i.nodes c.push_wanted.new.nodes _ c.args.roots.now c.loop-i.i (record { level = 0; l1 = 0; l2 = 0; l3 = 0 }) c.loop-i.invariant.whole (omega arith) (on_true _ _ c.in_ok-push_wanted.field-0 whole c.in_ok-push_wanted.ensures.whole);
      only = adds_more (wanted_by c.args.shape.now c.args.cells.now c.args.boxes.now) [] c.loop-i.nodes c.push_wanted.new.nodes c.loop-i.invariant.only c.in_ok-push_wanted.ensures.only;
    }

pub returns-then-not-branch-clause-only : goal.returns-then-not-branch-clause-only
returns-then-not-branch-clause-only c = adds_more (wanted_by c.args.shape.now c.args.cells.now c.args.boxes.now) [] c.loop-i.nodes c.push_wanted.new.nodes c.loop-i.invariant.only c.in_ok-push_wanted.ensures.only

pub returns-clause-whole : goal.returns-clause-whole
unfolding inner_of
returns-clause-whole c =
    all_end (inner_below 10 c.args.shape.now.dims (wanted_by c.args.shape.now c.args.cells.now c.args.boxes.now)) c.loop-i.nodes _ c.args.roots.now c.loop-i.i (omega arith) c.loop-i.invariant.whole
    ∙ ap (λ (v : List Loc). with_nodes [] (flat_map (inner_below 10 c.args.shape.now.dims (wanted_by c.args.shape.now c.args.cells.now c.args.boxes.now)) v)) c.requires.roots
