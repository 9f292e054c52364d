use Rattle.std.proofs.Common.{◌≡◌, ◌<◌, ◌∙◌, ℕ, List, Option, Some, arith, ap, length, subst, sym}
use Rattle.morton_order.specs.declared.space.Loc.{Loc}
use Rattle.block_tree.specs.Blocks.{leaves}
use Rattle.block_geometry.specs.Contents.{HasPairs}
use Rattle.block_layout.specs.Faces.{face_count}
use Rattle.mesh_rules.specs.Stage.{leaf_inflow, leaf_outflow}
use Rattle.dense_stage.specs.Blocks.{block_in, mesh_in}
use Rattle.dense_stage.specs.Own.{own_cells}
use Rattle.dense_stage.proofs.EachLeaf.{SoFar, after_fits, after_rest, all_staged, next_is, sum_so_far}
use Rattle.dense_stage.proofs.GhostLists.{totals_more}
use Rattle.dense_stage.proofs.Items.{item_size, read_again, sets_fit}
use Rattle.dense_stage.proofs.each_leaf.stage_each.Goals as goal

same_leaf : (a b : Loc) → ◌≡◌ {A = Option Loc} (Some a) (Some b) → a ≡ b
same_leaf a b e = cc

pub leaf_pairs-requires : goal.leaf_pairs-requires
leaf_pairs-requires g c =
    let t = c.args.tree.now in
    let l = c.args.layout.now in
    let at = c.loop-leaf.leaf in
    let n = length (leaves t) in
    let kept = c.loop-leaf.invariant in
    let here : at < n = omega (arith, c.loop-leaf-test.true, c.len-leaf-end.ensures.count) in
    let zero_in : 0 < n = omega (arith, here) in
    let r = c.requires.1.1.1.1.1 in
    let so_far : SoFar t l g.x at c.args.ghosts.now.items c.loop-leaf.ghosts.items = record { seen = r.0; fit = kept.ghosts_fit; rest = kept.rest; here = here } in
    let next = next_is t l g.x at c.args.ghosts.now.items c.loop-leaf.ghosts.items c.index.result.now so_far c.index.ensures in (
      c.requires.0,
      (
        c.requires.1.0,
        (
          c.requires.1.1.0,
          (
            c.requires.1.1.1.1.0,
            (
              c.portions_at-portions.ensures.portions,
              (
                λ o get. c.portions_at-portions.ensures.level ∙ ap (λ (v : Loc). v.level) (same_leaf c.leaf_at.result o (sym c.leaf_at.ensures ∙ get)),
                (
                  here,
                  (
                    next.size,
                    (
                      item_size (face_count l) n c.loop-leaf.faces.right.items 0 c.index_mut.result.now kept.faces_fit.rights zero_in c.index_mut.ensures.value,
                      (
                        item_size (face_count l) n c.loop-leaf.faces.left.items 0 c.index_mut-in-loop-leaf.result.now kept.faces_fit.lefts zero_in c.index_mut-in-loop-leaf.ensures.value,
                        (
                          next.small,
                          (
                            next.own,
                            (
                              next.around,
                              r.1.1.1,
                            ),
                          ),
                        ),
                      ),
                    ),
                  ),
                ),
              ),
            ),
          ),
        ),
      ),
    )

pub stage_leaf-flows-requires : goal.stage_leaf-flows-requires
stage_leaf-flows-requires g c =
    let t = c.args.tree.now in
    let l = c.args.layout.now in
    let at = c.loop-leaf.leaf in
    let n = length (leaves t) in
    let kept = c.loop-leaf.invariant in
    let here : at < n = omega (arith, c.loop-leaf-test.true, c.len-leaf-end.ensures.count) in
    let r = c.requires.1.1.1.1.1 in
    let so_far : SoFar t l g.x at c.args.ghosts.now.items c.loop-leaf.ghosts.items = record { seen = r.0; fit = kept.ghosts_fit; rest = kept.rest; here = here } in
    let next = next_is t l g.x at c.args.ghosts.now.items c.loop-leaf.ghosts.items c.index_mut-in-loop-leaf-2.result.now so_far c.index_mut-in-loop-leaf-2.ensures.value in
    let made = c.leaf_pairs.ensures in
    let right : c.index-in-loop-leaf.result.now ≡ c.leaf_pairs.new.right = read_again c.loop-leaf.faces.right.items 0 c.leaf_pairs.new.right c.index-in-loop-leaf.result.now (omega (arith, here, kept.faces_fit.rights.count)) c.index-in-loop-leaf.ensures in
    let left : c.index-in-loop-leaf-2.result.now ≡ c.leaf_pairs.new.left = read_again c.loop-leaf.faces.left.items 0 c.leaf_pairs.new.left c.index-in-loop-leaf-2.result.now (omega (arith, here, kept.faces_fit.lefts.count)) c.index-in-loop-leaf-2.ensures in (
      c.requires.1.0,
      (
        here,
        (
          next.size,
          (
            ap (λ (v : List ℕ). length v) right ∙ made.right_size,
            (
              ap (λ (v : List ℕ). length v) left ∙ made.left_size,
              (
                next.small,
                (
                  next.own,
                  (
                    λ o get.
                        subst (λ (v : List ℕ). HasPairs (block_in t l g.x o) v c.index-in-loop-leaf-2.result.now) (sym right)
                        (subst (λ (v : List ℕ). HasPairs (block_in t l g.x o) c.leaf_pairs.new.right v) (sym left) (made.pairs o get)),
                    r.1.1.0,
                  ),
                ),
              ),
            ),
          ),
        ),
      ),
    )

pub own_of-requires : goal.own_of-requires
own_of-requires g c =
    let l = c.args.layout.now in
    let at = c.loop-leaf.leaf in
    let ghosts = c.loop-leaf.ghosts.items in
    let kept = c.loop-leaf.invariant in
    let here : at < length (leaves c.args.tree.now) = omega (arith, c.loop-leaf-test.true, c.len-leaf-end.ensures.count) in
    let so_far : SoFar c.args.tree.now l g.x at c.args.ghosts.now.items ghosts = record { seen = c.requires.1.1.1.1.1.0; fit = kept.ghosts_fit; rest = kept.rest; here = here } in
    let next = next_is c.args.tree.now l g.x at c.args.ghosts.now.items ghosts c.index_mut-in-loop-leaf-2.result.now so_far c.index_mut-in-loop-leaf-2.ensures.value in
    let new = c.stage_leaf-flows.new.cells in
    let read : c.as_slice.result.now ≡ new = c.as_slice.ensures ∙ read_again ghosts at new c.index-in-loop-leaf-3.result.now (omega (arith, here, kept.ghosts_fit.count)) c.index-in-loop-leaf-3.ensures in
    ap (λ (v : List ℕ). length v) read ∙ c.stage_leaf-flows.ensures.size ∙ next.size

pub returns-in_err-own_of-clause-ghosts : goal.returns-in_err-own_of-clause-ghosts
returns-in_err-own_of-clause-ghosts g c =
    let t = c.args.tree.now in
    let l = c.args.layout.now in
    let at = c.loop-leaf.leaf in
    let kept = c.loop-leaf.invariant in
    let here : at < length (leaves t) = omega (arith, c.loop-leaf-test.true, c.len-leaf-end.ensures.count) in
    let so_far : SoFar t l g.x at c.args.ghosts.now.items c.loop-leaf.ghosts.items = record { seen = c.requires.1.1.1.1.1.0; fit = kept.ghosts_fit; rest = kept.rest; here = here } in
    let next = next_is t l g.x at c.args.ghosts.now.items c.loop-leaf.ghosts.items c.index_mut-in-loop-leaf-2.result.now so_far c.index_mut-in-loop-leaf-2.ensures.value in
    after_fits t l g.x at c.args.ghosts.now.items c.loop-leaf.ghosts.items c.stage_leaf-flows.new.cells so_far (c.stage_leaf-flows.ensures.size ∙ next.size) c.stage_leaf-flows.ensures.totals

pub returns-in_err-own_of-clause-faces : goal.returns-in_err-own_of-clause-faces
returns-in_err-own_of-clause-faces g c =
    let n = length (leaves c.args.tree.now) in
    let fit = c.loop-leaf.invariant.faces_fit in
    let zero_in : 0 < n = omega (arith, c.loop-leaf-test.true, c.len-leaf-end.ensures.count) in
    record {
      rights = sets_fit (face_count c.args.layout.now) n c.loop-leaf.faces.right.items 0 c.leaf_pairs.new.right fit.rights zero_in c.leaf_pairs.ensures.right_size;
      lefts = sets_fit (face_count c.args.layout.now) n c.loop-leaf.faces.left.items 0 c.leaf_pairs.new.left fit.lefts zero_in c.leaf_pairs.ensures.left_size;
    }

pub returns-in_err-push-clause-ghosts : goal.returns-in_err-push-clause-ghosts
returns-in_err-push-clause-ghosts g c =
    let t = c.args.tree.now in
    let l = c.args.layout.now in
    let at = c.loop-leaf.leaf in
    let kept = c.loop-leaf.invariant in
    let here : at < length (leaves t) = omega (arith, c.loop-leaf-test.true, c.len-leaf-end.ensures.count) in
    let so_far : SoFar t l g.x at c.args.ghosts.now.items c.loop-leaf.ghosts.items = record { seen = c.requires.1.1.1.1.1.0; fit = kept.ghosts_fit; rest = kept.rest; here = here } in
    let next = next_is t l g.x at c.args.ghosts.now.items c.loop-leaf.ghosts.items c.index_mut-in-loop-leaf-2.result.now so_far c.index_mut-in-loop-leaf-2.ensures.value in
    after_fits t l g.x at c.args.ghosts.now.items c.loop-leaf.ghosts.items c.stage_leaf-flows.new.cells so_far (c.stage_leaf-flows.ensures.size ∙ next.size) c.stage_leaf-flows.ensures.totals

pub returns-in_err-push-clause-faces : goal.returns-in_err-push-clause-faces
returns-in_err-push-clause-faces g c =
    let n = length (leaves c.args.tree.now) in
    let fit = c.loop-leaf.invariant.faces_fit in
    let zero_in : 0 < n = omega (arith, c.loop-leaf-test.true, c.len-leaf-end.ensures.count) in
    record {
      rights = sets_fit (face_count c.args.layout.now) n c.loop-leaf.faces.right.items 0 c.leaf_pairs.new.right fit.rights zero_in c.leaf_pairs.ensures.right_size;
      lefts = sets_fit (face_count c.args.layout.now) n c.loop-leaf.faces.left.items 0 c.leaf_pairs.new.left fit.lefts zero_in c.leaf_pairs.ensures.left_size;
    }

pub loop-leaf-preserved : goal.loop-leaf-preserved
loop-leaf-preserved g c =
    let t = c.args.tree.now in
    let l = c.args.layout.now in
    let at = c.loop-leaf.leaf in
    let n = length (leaves t) in
    let ghosts = c.loop-leaf.ghosts.items in
    let kept = c.loop-leaf.invariant in
    let here : at < n = omega (arith, c.loop-leaf-test.true, c.len-leaf-end.ensures.count) in
    let zero_in : 0 < n = omega (arith, here) in
    let so_far : SoFar t l g.x at c.args.ghosts.now.items ghosts = record { seen = c.requires.1.1.1.1.1.0; fit = kept.ghosts_fit; rest = kept.rest; here = here } in
    let next = next_is t l g.x at c.args.ghosts.now.items ghosts c.index_mut-in-loop-leaf-2.result.now so_far c.index_mut-in-loop-leaf-2.ensures.value in
    let new = c.stage_leaf-flows.new.cells in
    let made = c.stage_leaf-flows.ensures in
    let read : c.as_slice.result.now ≡ new = c.as_slice.ensures ∙ read_again ghosts at new c.index-in-loop-leaf-3.result.now (omega (arith, here, kept.ghosts_fit.count)) c.index-in-loop-leaf-3.ensures in
    record {
      portions_are = c.portions_at-portions.ensures.portions;
      ghosts_fit = after_fits t l g.x at c.args.ghosts.now.items ghosts new so_far (made.size ∙ next.size) made.totals;
      rest = after_rest t l g.x at c.args.ghosts.now.items ghosts new so_far;
      faces_fit = record {
        rights = sets_fit (face_count l) n c.loop-leaf.faces.right.items 0 c.leaf_pairs.new.right kept.faces_fit.rights zero_in c.leaf_pairs.ensures.right_size;
        lefts = sets_fit (face_count l) n c.loop-leaf.faces.left.items 0 c.leaf_pairs.new.left kept.faces_fit.lefts zero_in c.leaf_pairs.ensures.left_size;
      };
      totals_are = c.in_ok-push.ensures.items
          ∙ totals_more t g.x at c.loop-leaf.totals.items c.in_ok-own_of.field-0 here kept.totals_are (λ o get. c.in_ok-own_of.ensures ∙ ap (own_cells l) read ∙ made.staged o get);
      inflow_is = sum_so_far t at c.loop-leaf.inflow c.stage_leaf-flows.result.inflow (leaf_inflow g.x.settings (mesh_in t g.x) g.x.field) here kept.inflow_is made.inflow;
      outflow_is = sum_so_far t at c.loop-leaf.outflow c.stage_leaf-flows.result.outflow (leaf_outflow g.x.settings (mesh_in t g.x) g.x.field) here kept.outflow_is made.outflow;
      most_in = omega (arith, kept.most_in, made.most_in);
      most_out = omega (arith, kept.most_out, made.most_out);
    }

pub returns-clause-staged : goal.returns-clause-staged
returns-clause-staged g c =
    c.from_vec.ensures
    ∙ all_staged c.args.tree.now g.x c.loop-leaf.leaf c.loop-leaf.totals.items (omega (arith, c.loop-leaf-test.false, c.len-leaf-end.ensures.count)) c.loop-leaf.invariant.totals_are
