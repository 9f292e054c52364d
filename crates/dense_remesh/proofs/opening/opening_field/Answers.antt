use Rattle.std.proofs.Common.{◌≡◌, ◌++◌, ◌∷◌, [], ℕ, List, length, ap, sym, ◌∙◌, arith}
use Rattle.std.specs.List.{slice_index_or}
use Rattle.std.proofs.lemmas.Option.{get_or_from_slice_get}
use Rattle.morton_order.specs.declared.space.Loc.{Loc}
use Rattle.block_tree.specs.Blocks.{leaves}
use Rattle.dense_remesh.specs.StartBoxes.{opening_list}
use Rattle.dense_remesh.proofs.Pushed.{count_pushed, each_pushed, map_by_each}
use Rattle.dense_remesh.proofs.opening.opening_field.Goals as goal

pub loop-leaf-preserved : goal.loop-leaf-preserved
loop-leaf-preserved c =
    let l = c.args.layout.now in
    let at = leaves c.args.tree.now in
    let list = opening_list l.dims l.cells c.args.boxes.now in
    let new : List (List ℕ) = c.push.new.self in
    let pushed : new ≡ c.loop-leaf.lists ++ c.in_ok-opening_block.field-0 ∷ [] = c.in_ok-push.ensures.ok in
    record {
      count = count_pushed c.loop-leaf.lists new c.in_ok-opening_block.field-0 c.loop-leaf.leaf c.loop-leaf.invariant.count pushed;
      each = each_pushed (λ k v. (d : Loc) → v ≡ list (slice_index_or at k d)) c.loop-leaf.lists new c.in_ok-opening_block.field-0 c.loop-leaf.leaf c.loop-leaf.invariant.count pushed
          (λ d. c.in_ok-opening_block.ensures ∙ ap list (sym (get_or_from_slice_get at c.loop-leaf.leaf c.leaf_at.result d c.leaf_at.ensures)))
          c.loop-leaf.invariant.each;
    }

pub returns : goal.returns
returns c =
    let l = c.args.layout.now in
    let all : c.loop-leaf.leaf ≡ length (leaves c.args.tree.now) = omega (arith, c.len-leaf-end.ensures.count) in
    map_by_each (opening_list l.dims l.cells c.args.boxes.now) (leaves c.args.tree.now) c.loop-leaf.lists [] (record { level = 0; l1 = 0; l2 = 0; l3 = 0 }) (c.loop-leaf.invariant.count ∙ all) (λ k x d small. c.loop-leaf.invariant.each k x (omega arith) d)
