use Rattle.std.proofs.Common.{◌+◌, arith, ap, ◌∙◌}
use Rattle.std.specs.List.{flat_map, slice_index_or}
use Rattle.block_tree.specs.Tree.{is_listed}
use Rattle.block_tree.specs.Leaves.{leaves_below, leaves_of}
use Rattle.block_tree.proofs.Filling.{pieces_end, root_at}
use Rattle.block_tree.proofs.Places.{loc_in}
use Rattle.block_tree.proofs.grow.list_leaves.Goals as goal

pub push_below-requires-clause-valid : goal.push_below-requires-clause-valid
push_below-requires-clause-valid c =
    loc_in c.args.shape.now (slice_index_or c.args.roots.now c.loop-i.i (record { level = 0; l1 = 0; l2 = 0; l3 = 0 })) c.requires.shape
    (root_at c.args.shape.now c.args.roots.now c.loop-i.i (record { level = 0; l1 = 0; l2 = 0; l3 = 0 }) c.requires.roots (omega arith)).inside

pub push_below-requires-clause-level : goal.push_below-requires-clause-level
push_below-requires-clause-level c =
    ap (λ v. v + 10) (root_at c.args.shape.now c.args.roots.now c.loop-i.i (record { level = 0; l1 = 0; l2 = 0; l3 = 0 }) c.requires.roots (omega arith)).root

pub returns : goal.returns
unfolding leaves_of
returns c =
    pieces_end (leaves_below 10 c.args.shape.now.dims (is_listed c.args.nodes.now)) c.loop-i.leaves.items _ c.args.roots.now c.loop-i.i (omega arith) c.loop-i.invariant
    ∙ ap (flat_map (leaves_below 10 c.args.shape.now.dims (is_listed c.args.nodes.now))) c.requires.roots
