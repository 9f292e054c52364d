use Rattle.std.proofs.Common.{refl}
use Rattle.dense_stage.proofs.Premises.{levels_fit, sound_mesh, stays_small}
use Rattle.dense_stage.proofs.stage.advance.Goals as goal

pub advance_leaves-requires : goal.advance_leaves-requires
advance_leaves-requires c =
    let p = c.args.problem.now in
    let t = c.args.tree.now in
    let l = c.args.layout.now in
    let lists = c.args.lists.now in
    let f = c.args.field in
    let can = c.requires.mesh in (
      refl,
      (
        sound_mesh p t l lists f can,
        (
          can.now.mesh.shape,
          (
            levels_fit p t l lists f can,
            (
              c.requires.field,
              (
                c.requires.seen,
                (
                  c.requires.faces,
                  stays_small p t l lists f can c.requires.field,
                ),
              ),
            ),
          ),
        ),
      ),
    )
