-- Kinds of letters, and what is due of each.
use Rattle.std.specs.Prelude.{◌≡◌, ℕ, Bool, false, true, List}
use Rattle.std.specs.List.{list_any}
use Rattle.morton_order.specs.declared.space.Loc.{Loc}
use Rattle.block_tree.specs.Behind.{Behind}
use Rattle.mesh_rules.specs.Due.{Exchange, all_letters, coarser_in}
use Rattle.mesh_rules.specs.Fields.{has_fluxes, has_ghosts}
use Rattle.mesh_rules.specs.Regions.{leaves_in}
use Rattle.cycle_kernels.specs.Blocks.{CycleMesh}
use Rattle.cycle_kernels.specs.Letters.{same_letter}
use Rattle.task_meshes.specs.declared.kind.LetterKind.{LetterKind}
use Rattle.task_meshes.specs.declared.kind.LetterKind.TheVariants.{Ghosts, Fluxes}

abbrev pub is_flux : LetterKind → Bool
is_flux Ghosts = false
is_flux Fluxes = true

-- of what stands behind a side, the leaves that are due a letter
abbrev pub receivers_of : LetterKind → Behind → List Loc
receivers_of Ghosts = leaves_in
receivers_of Fluxes = coarser_in

-- the letters that are due in a stage, in their order
abbrev pub due_of : LetterKind → CycleMesh → List Exchange
due_of kind w = all_letters w.mesh (receivers_of kind)

abbrev pub IsDue : LetterKind → CycleMesh → Exchange → Type 0
IsDue kind w x = list_any (same_letter x) (due_of kind w) ≡ true

-- the fields that are exchanged
abbrev pub has_kind : LetterKind → CycleMesh → ℕ → Bool
has_kind Ghosts w f = has_ghosts w.settings f
has_kind Fluxes w f = has_fluxes w.settings f
