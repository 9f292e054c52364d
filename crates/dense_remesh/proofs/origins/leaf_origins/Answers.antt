use Rattle.std.proofs.Common.{◌≡◌, ◌++◌, ◌∷◌, [], length, subst, sym, arith}
use Rattle.std.specs.List.{slice_index_or}
use Rattle.std.proofs.lemmas.Option.{get_or_from_slice_get}
use Rattle.morton_order.specs.declared.space.Loc.{Loc}
use Rattle.morton_order.specs.declared.space.Shape.{Shape}
use Rattle.morton_order.specs.Space.{IsIn}
use Rattle.block_tree.specs.Blocks.{leaves}
use Rattle.dense_remesh.specs.Origins.{IsOrigin}
use Rattle.dense_remesh.proofs.Numbers.{leaf_inside}
use Rattle.dense_remesh.proofs.Pushed.{count_pushed, each_pushed}
use Rattle.dense_remesh.proofs.origins.leaf_origins.Goals as goal

pub origin_of-requires : goal.origin_of-requires
origin_of-requires c = subst (λ (s : Shape). IsIn s c.leaf_at.result) c.requires (leaf_inside c.args.next.now c.len.ensures.kept c.loop-leaf.leaf c.leaf_at.result c.leaf_at.ensures)

pub loop-leaf-preserved : goal.loop-leaf-preserved
loop-leaf-preserved c =
    let pushed : c.push.new.self.items ≡ c.loop-leaf.origins.items ++ c.origin_of.result ∷ [] = c.in_ok-push.ensures.items in
    record {
      count = count_pushed c.loop-leaf.origins.items c.push.new.self.items c.origin_of.result c.loop-leaf.leaf c.loop-leaf.invariant.count pushed;
      each = each_pushed (λ k o. (d : Loc) → IsOrigin c.args.old.now (slice_index_or (leaves c.args.next.now) k d) o) c.loop-leaf.origins.items c.push.new.self.items c.origin_of.result c.loop-leaf.leaf c.loop-leaf.invariant.count pushed
          (λ d. subst (λ (v : Loc). IsOrigin c.args.old.now v c.origin_of.result) (sym (get_or_from_slice_get (leaves c.args.next.now) c.loop-leaf.leaf c.leaf_at.result d c.leaf_at.ensures)) c.origin_of.ensures)
          c.loop-leaf.invariant.each;
    }

pub returns-clause-origins : goal.returns-clause-origins
returns-clause-origins c =
    let all : c.loop-leaf.leaf ≡ length (leaves c.args.next.now) = omega arith in
    record {
      count = omega (arith, c.loop-leaf.invariant.count);
      each = λ k d e small. c.loop-leaf.invariant.each k e (omega arith) d;
    }
