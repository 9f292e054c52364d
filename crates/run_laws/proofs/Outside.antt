-- What a cycle leaves outside of its mask is zero.
use Rattle.std.proofs.Common.{ℕ, suc, List}
use Rattle.morton_order.specs.declared.space.Loc.{Loc}
use Rattle.package_fields.specs.Kernel.{Reacted}
use Rattle.problem_set.specs.Settings.{Settings}
use Rattle.problem_set.specs.SettingsOf.{settings_of}
use Rattle.mesh_rules.specs.Mesh.{Mesh}
use Rattle.mesh_rules.specs.Fields.{field_count}
use Rattle.mesh_rules.specs.Stage.{stage}
use Rattle.mesh_rules.specs.Reaction.{react_mesh}
use Rattle.mesh_rules.specs.Mask.{Mask, kept_by_check, kept_by_exchange, kept_by_reaction}
use Rattle.mesh_rules.specs.Cycle.{held_by, reacted_to, staged_to}
use Rattle.mesh_laws.proofs.Drops.{cut_law}
use Rattle.run_laws.specs.MaskLaws.{CyclesAreZeroOutside, IsZeroOutside}
use Rattle.run_laws.proofs.CycleMeshes.{OnTreeOf, on_reacted, on_reacting, on_stage, on_staged}

zero_outside : (q : Settings) (first m : Mesh) (mask : Mask) → OnTreeOf q first m → IsZeroOutside q (held_by q mask m)
zero_outside q first m mask on f c some inside leaf gone = (cut_law q mask m f c on.mesh some inside leaf).dropped gone

pub cycles_zero : CyclesAreZeroOutside
cycles_zero p react s of =
    let q = settings_of p in
    let last = staged_to q s p.nstages in
    let m = react_mesh react (field_count q) last.mesh in
    let r = reacted_to q react s in
    record {
      stages = λ n. let h = staged_to q s n in zero_outside q s.mesh (stage q h.mesh) (kept_by_exchange q h.mesh h.mask) (on_stage q s.mesh h.mesh (on_staged q s of n));
      reacted = zero_outside q s.mesh m (kept_by_reaction q m last.mask) (on_reacting q react s of);
      checked = zero_outside q s.mesh r.mesh (kept_by_check q r.mesh r.mask) (on_reacted q react s of);
    }
