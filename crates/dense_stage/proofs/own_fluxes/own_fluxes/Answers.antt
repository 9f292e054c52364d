use Rattle.std.proofs.Common.{◌≡◌, ◌<◌, ◌^◌, ◌∙◌, All, List, ℕ, arith, ap, length, subst, sym, Option, Some}
use Rattle.std.specs.List.{slice_get}
use Rattle.morton_order.specs.declared.space.Loc.{Loc}
use Rattle.block_tree.specs.Blocks.{leaves}
use Rattle.block_layout.specs.Faces.{face_count}
use Rattle.block_geometry.specs.Contents.{HasInterior, SeesAround}
use Rattle.dense_mesh.specs.Ghosts.{list_at}
use Rattle.dense_stage.specs.Blocks.{HasOwn, block_in, field_on}
use Rattle.dense_stage.proofs.Items.{get_within, item_is, item_size, set_facts, sets_fit}
use Rattle.dense_stage.proofs.own_fluxes.own_fluxes.Goals as goal

same_leaf : (a b : Loc) → ◌≡◌ {A = Option Loc} (Some a) (Some b) → a ≡ b
same_leaf a b e = cc

pub leaf_fluxes-requires : goal.leaf_fluxes-requires
leaf_fluxes-requires g c =
    let at = c.loop-leaf.leaf in
    let seen = c.requires.1.1.1.1.0 in
    let here : at < length (leaves c.args.tree.now) = omega (arith, c.loop-leaf-test.true, c.len-leaf-end.ensures.count) in
    let n = length (leaves c.args.tree.now) in
    let item : c.index.result.now ≡ list_at c.args.ghosts.now.items at = item_is c.args.ghosts.now.items at c.index.result.now (omega (arith, here, seen.lists.count)) c.index.ensures in
    let x = field_on c.args.problem.now g.lists c.args.field in
    let level : (l : Loc) → slice_get (leaves c.args.tree.now) at ≡ Some l → c.portions_at-portions.result.level ≡ l.level = λ l get. c.portions_at-portions.ensures.level ∙ ap (λ (o : Loc). o.level) (same_leaf c.leaf_at.result l (sym c.leaf_at.ensures ∙ get)) in (
      c.requires.0,
      (
        c.requires.1.0,
        (
          c.requires.1.1.1.0,
          (
            c.portions_at-portions.ensures.portions,
            (
              level,
              (
                here,
                (
                  ap (λ (v : List ℕ). length v) item ∙ seen.lists.sizes at here,
                  (
                    item_size (face_count c.args.layout.now) n c.loop-leaf.faces.right.items at c.index_mut.result.now c.loop-leaf.invariant.fit.rights here c.index_mut.ensures.value,
                    (
                      item_size (face_count c.args.layout.now) n c.loop-leaf.faces.left.items at c.index_mut-in-loop-leaf.result.now c.loop-leaf.invariant.fit.lefts here c.index_mut-in-loop-leaf.ensures.value,
                      (
                        subst (λ (v : List ℕ). All (λ t. t < 2 ^ 62) v) (sym item) (seen.lists.small at here),
                        (
                          λ l get. subst (λ (v : List ℕ). HasInterior (block_in c.args.tree.now c.args.layout.now x l) v) (sym item) (seen.own at l get),
                          λ l get. subst (λ (v : List ℕ). SeesAround (block_in c.args.tree.now c.args.layout.now x l) v) (sym item) (seen.around at l get),
                        ),
                      ),
                    ),
                  ),
                ),
              ),
            ),
          ),
        ),
      ),
    )

pub loop-leaf-preserved : goal.loop-leaf-preserved
loop-leaf-preserved g c =
    let at = c.loop-leaf.leaf in
    let n = length (leaves c.args.tree.now) in
    let fit = c.loop-leaf.invariant.fit in
    let here : at < n = omega (arith, c.loop-leaf-test.true, c.len-leaf-end.ensures.count) in
    let x = field_on c.args.problem.now g.lists c.args.field in
    let e = c.leaf_fluxes.ensures in
    let right_size = e.right_size ∙ item_size (face_count c.args.layout.now) n c.loop-leaf.faces.right.items at c.index_mut.result.now fit.rights here c.index_mut.ensures.value in
    let left_size = e.left_size ∙ item_size (face_count c.args.layout.now) n c.loop-leaf.faces.left.items at c.index_mut-in-loop-leaf.result.now fit.lefts here c.index_mut-in-loop-leaf.ensures.value in
    record {
      portions_are = c.portions_at-portions.ensures.portions;
      fit = record {
        rights = sets_fit (face_count c.args.layout.now) n c.loop-leaf.faces.right.items at c.leaf_fluxes.new.right fit.rights here right_size;
        lefts = sets_fit (face_count c.args.layout.now) n c.loop-leaf.faces.left.items at c.leaf_fluxes.new.left fit.lefts here left_size;
      };
      own = λ leaf o less.
          set_facts (λ k r l. slice_get (leaves c.args.tree.now) k ≡ Some o → HasOwn (block_in c.args.tree.now c.args.layout.now x o) r l) c.loop-leaf.faces.right.items c.loop-leaf.faces.left.items at
          c.leaf_fluxes.new.right c.leaf_fluxes.new.left (omega (arith, here, fit.rights.count)) (omega (arith, here, fit.lefts.count)) (e.own o) leaf
          (λ ne. c.loop-leaf.invariant.own leaf o (omega (arith, ne, less)));
    }

pub returns-clause-own : goal.returns-clause-own
returns-clause-own g c leaf l get = c.loop-leaf.invariant.own leaf l (omega (arith, get_within (leaves c.args.tree.now) leaf l get, c.loop-leaf-test.false, c.len-leaf-end.ensures.count)) get
