use Rattle.std.proofs.Common.{subst, sym}
use Rattle.block_geometry.specs.Contents.{HasInterior, SeesAround}
use Rattle.dense_stage.specs.Blocks.{FieldMesh, HasOwn, IsSoundMesh, block_in}
use Rattle.dense_stage.proofs.SideDone.{plain_pairs}
use Rattle.dense_stage.proofs.each_leaf.leaf_pairs.Goals as goal

pub leaf_fluxes-requires : goal.leaf_fluxes-requires
leaf_fluxes-requires g c =
    let t = c.args.tree.now in
    let l = c.args.layout.now in
    let is = c.requires.0 in
    let r = c.requires.1.1 in
    let lists = r.1.1.1.1.1 in
    let shown = lists.1.1.1.1 in (
      subst (λ (v : FieldMesh). IsSoundMesh t l v) is c.requires.1.0,
      (
        r.0,
        (
          r.1.0,
          (
            r.1.1.0,
            (
              r.1.1.1.0,
              (
                r.1.1.1.1.0,
                (
                  lists.0,
                  (
                    lists.1.0,
                    (
                      lists.1.1.0,
                      (
                        lists.1.1.1.0,
                        (
                          λ o get. subst (λ (v : FieldMesh). HasInterior (block_in t l v o) c.args.cells.now) is (shown.0 o get),
                          λ o get. subst (λ (v : FieldMesh). SeesAround (block_in t l v o) c.args.cells.now) is (shown.1.0 o get),
                        ),
                      ),
                    ),
                  ),
                ),
              ),
            ),
          ),
        ),
      ),
    )

pub returns-clause-pairs : goal.returns-clause-pairs
returns-clause-pairs g c o get =
    let t = c.args.tree.now in
    let l = c.args.layout.now in
    let plain = c.requires.1.1.1.1.1.1.1.1.1.1.1.1.1 in
    plain_pairs t l g.x c.args.leaf o c.leaf_fluxes.new.right c.leaf_fluxes.new.left c.requires.1.0 get
    (subst (λ (v : FieldMesh). HasOwn (block_in t l v o) c.leaf_fluxes.new.right c.leaf_fluxes.new.left) (sym c.requires.0) (c.leaf_fluxes.ensures.own o get)) (plain c.args.leaf o get)
