-- How many letters of a stage are due to each list of leaves.
use Rattle.std.specs.Prelude.{◌≡◌, ◌==◌, ℕ, ◌+◌, ◌-◌, ◌/◌, ◌<◌, List, count_by, length, min}
use Rattle.std.specs.List.{slice_index_or}
use Rattle.block_tree.specs.Blocks.{TreeOfBlocks, leaves}
use Rattle.mesh_rules.specs.Due.{Exchange, flux_letters, ghost_letters}
use Rattle.mesh_rules.specs.Mesh.{Mesh}
use Rattle.cycle_tables.specs.declared.list_state.Due.{Due}
use Rattle.due_counts.specs.declared.letters.DueLetters.{DueLetters}

-- the list of a leaf where so many leaves stand in lists of a size; a number that no leaf has goes with the last leaf
abbrev pub list_in : ℕ → ℕ → ℕ → ℕ
list_in size leaves n = min n (leaves - 1) / size

-- how many of some letters go to a list
abbrev pub count_to : ℕ → ℕ → List Exchange → ℕ → ℕ
count_to size leaves letters list = count_by (λ (x : Exchange). list_in size leaves x.to == list) letters

-- what is due to a list
abbrev pub due_at : DueLetters → ℕ → Due
due_at d list = slice_index_or d.lists.items list (record { ghosts = 0; fluxes = 0 })

-- a mesh on a tree
pub record IsOnTree (t : TreeOfBlocks) (m : Mesh) : Type 0 where
  pub shape : m.shape ≡ t.shape
  pub inner : m.inner ≡ t.inner
  pub leaves_are : m.leaves ≡ leaves t

-- the letters that are due to each list, and how many there are of either kind
pub record AreDue (size : ℕ) (m : Mesh) (d : DueLetters) : Type 0 where
  pub lists_are : length d.lists.items ≡ (length m.leaves + size - 1) / size
  pub ghosts_due : (list : ℕ) → list < length d.lists.items →
      (due_at d list).ghosts ≡ count_to size (length m.leaves) (ghost_letters m) list
  pub fluxes_due : (list : ℕ) → list < length d.lists.items →
      (due_at d list).fluxes ≡ count_to size (length m.leaves) (flux_letters m) list
  pub all_ghosts : d.ghosts ≡ length (ghost_letters m)
  pub all_fluxes : d.fluxes ≡ length (flux_letters m)
