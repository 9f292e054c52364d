use Rattle.std.proofs.Common.{◌≡◌, ◌-◌, ◌++◌, ◌∷◌, ℕ, true, List, [], arith, ap, sym, subst, ◌∙◌, append_assoc}
use Rattle.std.specs.List.{flat_map, range_with_len}
use Rattle.morton_order.specs.declared.space.Loc.{Loc}
use Rattle.morton_order.specs.Space.{child}
use Rattle.block_tree.specs.Tree.{is_listed}
use Rattle.block_tree.specs.Leaves.{inner_below, leaves_below}
use Rattle.block_tree.proofs.Growing.{below_inner, flat_end, flat_step}
use Rattle.block_tree.proofs.grow.+push_below.Goals as goal

pub loop-j-preserved : goal.loop-j-preserved
loop-j-preserved t c = record {
  inner = flat_step (λ j. inner_below (c.args.k - 1) c.args.dims (is_listed c.args.nodes.now) (child c.args.dims c.args.at.now j)) c.loop-j.inner.items c.push_below.new.inner.items _ c.loop-j.j c.parts-j-end.result c.loop-j-test.true c.loop-j.invariant.inner
      (subst (λ (v : Loc). c.push_below.new.inner.items ≡ c.loop-j.inner.items ++ inner_below (c.args.k - 1) c.args.dims (is_listed c.args.nodes.now) v) c.child-part.ensures.part c.in_ok-push_below.ensures.inner);
  leaves = flat_step (λ j. leaves_below (c.args.k - 1) c.args.dims (is_listed c.args.nodes.now) (child c.args.dims c.args.at.now j)) c.loop-j.leaves.items c.push_below.new.leaves.items _ c.loop-j.j c.parts-j-end.result c.loop-j-test.true c.loop-j.invariant.leaves
      (subst (λ (v : Loc). c.push_below.new.leaves.items ≡ c.loop-j.leaves.items ++ leaves_below (c.args.k - 1) c.args.dims (is_listed c.args.nodes.now) v) c.child-part.ensures.part c.in_ok-push_below.ensures.leaves);
}

pub returns-clause-inner : goal.returns-clause-inner
returns-clause-inner t c =
    let there : is_listed c.args.nodes.now c.args.at.now ≡ true = cc in
    let pushed : c.push-2.new.self.items ≡ c.args.inner.now.items ++ c.args.at.now ∷ [] = c.in_ok-push-2.ensures.items in
    let count : c.parts-j-end.result ≡ _ = c.parts-j-end.ensures.value in
    let f = λ (j : ℕ). inner_below (c.args.k - 1) c.args.dims (is_listed c.args.nodes.now) (child c.args.dims c.args.at.now j) in
    flat_end f c.loop-j.inner.items (c.push-2.new.self.items ++ flat_map f (range_with_len 0 c.parts-j-end.result)) c.loop-j.j c.parts-j-end.result (omega arith) c.loop-j.invariant.inner
    ∙ ap (λ (v : List Loc). v ++ flat_map f (range_with_len 0 c.parts-j-end.result)) pushed
    ∙ append_assoc c.args.inner.now.items (c.args.at.now ∷ []) (flat_map f (range_with_len 0 c.parts-j-end.result))
    ∙ ap (λ v. c.args.inner.now.items ++ (c.args.at.now ∷ flat_map f (range_with_len 0 v))) count
    ∙ ap (λ (v : List Loc). c.args.inner.now.items ++ v) (sym (below_inner c.args.k c.args.dims (is_listed c.args.nodes.now) c.args.at.now (omega arith) there).1)

pub returns-clause-leaves : goal.returns-clause-leaves
returns-clause-leaves t c =
    let there : is_listed c.args.nodes.now c.args.at.now ≡ true = cc in
    let count : c.parts-j-end.result ≡ _ = c.parts-j-end.ensures.value in
    let f = λ (j : ℕ). leaves_below (c.args.k - 1) c.args.dims (is_listed c.args.nodes.now) (child c.args.dims c.args.at.now j) in
    flat_end f c.loop-j.leaves.items (c.args.leaves.now.items ++ flat_map f (range_with_len 0 c.parts-j-end.result)) c.loop-j.j c.parts-j-end.result (omega arith) c.loop-j.invariant.leaves
    ∙ ap (λ v. c.args.leaves.now.items ++ flat_map f (range_with_len 0 v)) count
    ∙ ap (λ (v : List Loc). c.args.leaves.now.items ++ v) (sym (below_inner c.args.k c.args.dims (is_listed c.args.nodes.now) c.args.at.now (omega arith) there).0)
