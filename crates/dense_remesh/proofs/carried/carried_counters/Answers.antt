use Rattle.std.proofs.Common.{◌≡◌, ◌++◌, ◌∷◌, [], length, ap, sym, ◌∙◌, arith}
use Rattle.std.specs.List.{slice_index_or}
use Rattle.std.proofs.lemmas.Option.{get_or_from_slice_get}
use Rattle.morton_order.specs.declared.space.Loc.{Loc}
use Rattle.block_tree.specs.Blocks.{leaves}
use Rattle.block_tree.specs.Nodes.{number_in}
use Rattle.dense_remesh.specs.Slots.{counter_at}
use Rattle.dense_remesh.proofs.Counters.{counters_are}
use Rattle.dense_remesh.proofs.Pushed.{count_pushed, each_pushed}
use Rattle.dense_remesh.proofs.carried.carried_counters.Goals as goal

pub loop-leaf-preserved : goal.loop-leaf-preserved
loop-leaf-preserved c =
    let at = leaves c.args.next.now in
    let old = leaves c.args.old.now in
    let pushed : c.push.new.self.items ≡ c.loop-leaf.new.items ++ c.counter_at.result ∷ [] = c.in_ok-push.ensures.items in
    record {
      count = count_pushed c.loop-leaf.new.items c.push.new.self.items c.counter_at.result c.loop-leaf.leaf c.loop-leaf.invariant.count pushed;
      each = each_pushed (λ k v. (d : Loc) → v ≡ counter_at c.args.counters.now (number_in old (slice_index_or at k d))) c.loop-leaf.new.items c.push.new.self.items c.counter_at.result c.loop-leaf.leaf c.loop-leaf.invariant.count pushed
          (λ d. c.counter_at.ensures ∙ ap (counter_at c.args.counters.now) c.find.ensures ∙ ap (λ (v : Loc). counter_at c.args.counters.now (number_in old v)) (sym (get_or_from_slice_get at c.loop-leaf.leaf c.leaf_at.result d c.leaf_at.ensures)))
          c.loop-leaf.invariant.each;
    }

pub returns : goal.returns
returns c = λ m same.
    let all : c.loop-leaf.leaf ≡ length (leaves c.args.next.now) = omega arith in
    counters_are m c.args.counters.now (leaves c.args.old.now) (leaves c.args.next.now) c.loop-leaf.new.items same (c.loop-leaf.invariant.count ∙ all) (λ k x d small. c.loop-leaf.invariant.each k x (omega arith) d)
