use Rattle.std.proofs.Common.{◌≡◌, ◌<◌, ◌++◌, List, ℕ, [], ◌∷◌, length, subst, sym, arith}
use Rattle.std.specs.List.{slice_index_or}
use Rattle.std.proofs.lemmas.List.{get_or_default}
use Rattle.std.proofs.lemmas.Option.{get_or_from_slice_get}
use Rattle.morton_order.specs.declared.space.Loc.{Loc}
use Rattle.block_tree.specs.Blocks.{leaves}
use Rattle.dense_remesh.specs.Parts.{IsTaken}
use Rattle.dense_remesh.specs.declared.origins.Origin.{Origin}
use Rattle.dense_remesh.specs.declared.origins.Origin.TheVariants.{Leaf}
use Rattle.dense_remesh.proofs.Pushed.{count_pushed, each_pushed}
use Rattle.dense_remesh.proofs.remapping.remapped_field.Goals as goal

pub remapped_leaf-requires : goal.remapped_leaf-requires
remapped_leaf-requires c = c.requires.lists c.loop-leaf.leaf (Leaf 0) (omega (arith, c.requires.count, c.len-leaf-end.ensures.count))

pub loop-leaf-preserved : goal.loop-leaf-preserved
loop-leaf-preserved c =
    let l = c.args.layout.now in
    let field = c.args.field.now in
    let at = leaves c.args.next.now in
    let new : List (List ℕ) = c.push.new.self in
    let pushed : new ≡ c.loop-leaf.lists ++ c.in_ok-totals.totals ∷ [] = c.in_ok-push.ensures.ok in
    let small : c.loop-leaf.leaf < length c.args.origins.now = omega (arith, c.requires.count, c.len-leaf-end.ensures.count) in
    record {
      count = count_pushed c.loop-leaf.lists new c.in_ok-totals.totals c.loop-leaf.leaf c.loop-leaf.invariant.count pushed;
      each = each_pushed (λ k list. (d : Loc) (e : Origin) → IsTaken l field (slice_index_or at k d) (slice_index_or c.args.origins.now k e) list) c.loop-leaf.lists new c.in_ok-totals.totals c.loop-leaf.leaf c.loop-leaf.invariant.count pushed
          (λ d e. subst (λ (v : Loc). IsTaken l field v (slice_index_or c.args.origins.now c.loop-leaf.leaf e) c.in_ok-totals.totals) (sym (get_or_from_slice_get at c.loop-leaf.leaf c.leaf_at.result d c.leaf_at.ensures))
          (subst (λ (o : Origin). IsTaken l field c.leaf_at.result o c.in_ok-totals.totals) (get_or_default c.args.origins.now c.loop-leaf.leaf (Leaf 0) e small) c.in_ok-totals.ensures))
          c.loop-leaf.invariant.each;
    }

pub returns : goal.returns
returns c = record {
  count = omega (arith, c.loop-leaf.invariant.count, c.len-leaf-end.ensures.count);
  each = λ k d e small. c.loop-leaf.invariant.each k [] (omega (arith, c.len-leaf-end.ensures.count)) d e;
}
