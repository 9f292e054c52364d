-- What a cycle leaves outside of its mask.
use Rattle.std.specs.Prelude.{◌≡◌, ℕ, suc, ◌<◌, true, false, List, [], length}
use Rattle.std.specs.List.{slice_index_or}
use Rattle.morton_order.specs.declared.space.Loc.{Loc}
use Rattle.morton_order.specs.Space.{IsIn}
use Rattle.package_fields.specs.Kernel.{Reacted}
use Rattle.problem_set.specs.Settings.{Settings}
use Rattle.problem_set.specs.declared.problem.Problem.{Problem}
use Rattle.problem_set.specs.SettingsOf.{settings_of}
use Rattle.mesh_rules.specs.Mesh.{OnLeaf, block_of, cell_lattice, stored}
use Rattle.mesh_rules.specs.Fields.{field_count, is_sparse}
use Rattle.mesh_rules.specs.Mask.{Mask, Slot, slot_at, stays}
use Rattle.mesh_rules.specs.Cycle.{Held, State, checked, reacted_to, staged_to}
use Rattle.mesh_rules.specs.Opening.{opening_state}
use Rattle.mesh_rules.specs.Fit.{IsMeshOf}

-- a field that does not stay on a leaf is zero in each of its cells
abbrev pub IsZeroOutside : Settings → Held → Type 0
IsZeroOutside p h = (f : ℕ) (c : Loc) → f < field_count p → IsIn (cell_lattice h.mesh) c → OnLeaf h.mesh c →
    stays p h.mesh h.mask f (block_of h.mesh c) ≡ false → stored h.mesh f c ≡ 0

-- after each stage, after the reaction and after the check
pub record CycleIsZeroOutside (p : Problem) (react : List ℕ → Reacted) (s : State) : Type 0 where
  pub stages : (n : ℕ) → IsZeroOutside (settings_of p) (staged_to (settings_of p) s (suc n))
  pub reacted : IsZeroOutside (settings_of p) (reacted_to (settings_of p) react s)
  pub checked : IsZeroOutside (settings_of p) (checked (settings_of p) react s)

abbrev pub CyclesAreZeroOutside : Type 0
CyclesAreZeroOutside = (p : Problem) (react : List ℕ → Reacted) (s : State) → IsMeshOf (settings_of p) s.mesh → CycleIsZeroOutside p react s

-- a field that blocks may not go without is kept; what is not kept was idle at no check, and what is kept at fewer than free it
pub record FitsSlot (p : Settings) (f : ℕ) (s : Slot) : Type 0 where
  pub always : is_sparse p f ≡ false → s.kept ≡ true
  pub fresh : s.kept ≡ false → s.idle ≡ 0
  pub idle : s.idle < p.dealloc_count

-- a mask has a slot that fits for each leaf and field
pub record MaskFits (p : Settings) (leaves : List Loc) (mask : Mask) : Type 0 where
  pub leaf_slots : length mask ≡ length leaves
  pub field_slots : (leaf : ℕ) → leaf < length leaves → length (slice_index_or mask leaf []) ≡ field_count p
  pub slots : (leaf f : ℕ) → leaf < length leaves → f < field_count p → FitsSlot p f (slot_at mask leaf f)

-- the mask of the opening fits, and one that fits still does after a cycle on the same tree
abbrev pub OpeningMaskFits : Type 0
OpeningMaskFits = (p : Problem) → MaskFits (settings_of p) (opening_state (settings_of p)).mesh.leaves (opening_state (settings_of p)).mask

abbrev pub MasksStayFit : Type 0
MasksStayFit = (p : Problem) (react : List ℕ → Reacted) (s : State) → IsMeshOf (settings_of p) s.mesh → MaskFits (settings_of p) s.mesh.leaves s.mask → MaskFits (settings_of p) s.mesh.leaves (checked (settings_of p) react s).mask
