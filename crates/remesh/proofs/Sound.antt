-- Sound states can go over to near trees.
use Rattle.std.proofs.Common.{◌≡◌, ◌-◌, ◌^◌, ◌≤◌, length, ap, subst, sym, ◌∙◌, arith}
use Rattle.block_layout.specs.declared.layout.Layout.{Layout}
use Rattle.mesh_rules.specs.Cycle.{State}
use Rattle.mesh_rules.specs.Fit.{IsMeshOf, sum_of_all}
use Rattle.mesh_rules.specs.Mask.{Slot, slot_at}
use Rattle.mesh_rules.specs.Mesh.{Mesh}
use Rattle.cell_block.specs.State.{HasLayout}
use Rattle.cell_block.specs.Rules.{state_in}
use Rattle.cell_block.proofs.Meshes.{slots_are_places}
use Rattle.remesh.specs.Remaps.{SoundStatesRemap}

pub sound_states_remap : SoundStatesRemap
sound_states_remap p old c next l has stands mesh mask bound shape near =
    let is : state_in l old ≡ c = stands.state l has in
    let leaf_count = ap (λ (s : State). length s.mesh.leaves) is in
    record {
      stored = stands.stored;
      always = λ leaf f small some dense.
          ap (λ (slot : Slot). slot.kept) (sym (slots_are_places old leaf f small some) ∙ ap (λ (s : State). slot_at s.mask leaf f) is)
          ∙ mask.always leaf f (omega (arith, small, leaf_count)) (omega (arith, some, stands.stored.fields)) dense;
      mesh = λ m other. subst (IsMeshOf p) (sym (ap (λ (s : State). s.mesh) (stands.state m other))) mesh;
      bound = λ m other. subst (λ (v : Mesh). sum_of_all p v ≤ 2 ^ 62 - 1) (sym (ap (λ (s : State). s.mesh) (stands.state m other))) bound;
      shape = shape;
      near = near;
    }
