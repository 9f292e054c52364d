-- The kernels of a cycle meet the laws asked of them, and the meshes of a problem are meshes of a cycle.
use Rattle.std.proofs.Common.{◌≡◌, ap, subst, sym, ◌∙◌}
use Rattle.cycle_kernels.proofs.Letters.{blank_is_none, calls_flow_in, ghosts_of_none, ghosts_read, letter_same, pairs_of_none, pairs_read, same_letter_is, sent_agree}
use Rattle.cycle_kernels.proofs.Owners.{fluxes_need_ghosts, owned}
use Rattle.cycle_kernels.proofs.Tables.{none_above, zero_sum, zeros}
use Rattle.morton_order.specs.declared.space.Shape.{Shape}
use Rattle.cycle_kernels.proofs.Zeros.{no_flux, no_inflow, no_outflow, no_update, nothing_sent}
use Rattle.block_layout.specs.Layouts.{interior_len, len}
use Rattle.mesh_rules.specs.Due.{flux_letters, ghost_letters}
use Rattle.cycle_kernels.specs.Letters.{no_part}
use Rattle.cycle_kernel_laws.specs.Shown.{ghosts_from}
use Rattle.cycle_kernel_laws.proofs.Once.{flux_once, ghost_once}
use Rattle.cycle_kernel_laws.proofs.FineSides.{no_sums}
use Rattle.cycle_kernel_laws.proofs.SumsOfNone.{sums_of_none}
use Rattle.cycle_kernel_laws.specs.Laws.{KernelsMeetTheLaws, MeshesAreOfCycles}

pub are_kernels : KernelsMeetTheLaws
are_kernels w is = record {
  same_is = same_letter_is;
  is_same = letter_same;
  ghost_once = λ x. ghost_once w x is;
  flux_once = flux_once w;
  owned = λ b. owned w b is;
  fluxes_need_ghosts = λ f h. fluxes_need_ghosts w f is h;
  blank_is_none = blank_is_none w;
  nothing_sent = nothing_sent w;
  none_calls_not = λ x. none_above w.settings.alloc_threshold _;
  calls_flow_in = λ b f h. calls_flow_in w.settings.alloc_threshold w b f h;
  ghosts_read = λ b f c d h. ghosts_read w b f c d (sent_agree (ghost_letters w.mesh) b c d h);
  ghosts_of_none = λ b f c none h. ghosts_of_none w b f c none (sent_agree (ghost_letters w.mesh) b c (no_part w) h);
  pairs_read = λ b f pairs c d h. pairs_read w b pairs c d (sent_agree (flux_letters w.mesh) b c d h);
  pairs_of_none = λ b f c h. pairs_of_none w b c (sent_agree (flux_letters w.mesh) b c (no_part w) h);
  no_flux = λ b f. no_flux w b f is.denominator;
  no_sums = λ x. no_sums w x is;
  no_update = λ b f. no_update w;
  no_inflow = λ b f. no_inflow w b;
  no_outflow = λ b f. no_outflow w b;
  no_amount = zero_sum (interior_len w.layout);
  sums_of_none = λ mesh b f has own ghosts x sent. sums_of_none w mesh f x is
      (subst (λ n. mesh n f ≡ zeros (interior_len w.layout)) (sym sent.is_to) own)
      (subst (λ n. ghosts_from w (λ k. mesh k f) n f ≡ zeros (len w.layout)) (sym sent.is_to) ghosts) sent.is_due;
}

pub are_of_cycles : MeshesAreOfCycles
are_of_cycles p m l react is dims cells = record {
  mesh = is.mesh;
  layout = record { dims = dims ∙ sym (ap (λ (s : Shape). s.dims) is.shape); cells = cells ∙ sym is.cells };
  denominator = p.stepping_sound.cycle_sound.least_denominator;
  packs = p.refining_sound.least_pack;
  fields = p.fields_sound;
}
