use Rattle.std.proofs.Common.{sym, subst}
use Rattle.block_tree.specs.Blocks.{TreeOfBlocks}
use Rattle.problem_set.specs.SettingsOf.{settings_of}
use Rattle.remesh.specs.Remaps.{CanRemap}
use Rattle.mesh_bench.proofs.rounds.remap_time.Goals as goal

pub remapped-requires-after_bounds : goal.remapped-requires-after_bounds
remapped-requires-after_bounds g c κs within = subst (λ (t : TreeOfBlocks). CanRemap (settings_of c.args.problem.now) c.args.mesh.now t) (sym c.in-Ok.ensures) c.requires
