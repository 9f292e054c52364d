-- Worked examples of shares, looks and regions, with their numbers written out.
use Rattle.std.specs.Prelude.{◌≡◌, true, false, [], ◌∷◌, codes, map}
use Rattle.mesh_num.specs.Share.{share}
use Rattle.problem_set.specs.Settings.{Settings}
use Rattle.mesh_settings.specs.declared.words.Mode.TheVariants.{Fixed}
use Rattle.mesh_rules.specs.Sums.{table}
use Rattle.mesh_rules.specs.Look.{look}
use Rattle.mesh_rules.specs.Opening.{opening_mesh}
use Rattle.mesh_rules.specs.Regions.{region}
use Rattle.mesh_rules.specs.Due.{ghost_letters, flux_letters}
use Rattle.mesh_rules.specs.WorkedSettings.{at, cell_box, moving_row, refined, roots_of, two_blocks}

-- 11 over the eight children of a cell
abbrev pub EightShares : Type 0
EightShares = table 8 (share 11 8) ≡ 2 ∷ 2 ∷ 2 ∷ 1 ∷ 1 ∷ 1 ∷ 1 ∷ 1 ∷ []

-- two root blocks in a row, the right one refined to level 1; 11 in the last cell of the left one, 7 and 2 in the first two of the right
abbrev pub graded : Settings
graded = record (two_blocks (moving_row (codes "a") false)) {
  mode = Fixed;
  levels = 2;
  statics = refined 1 4 7 0 0 ∷ [];
  boxes = cell_box 0 3 0 0 11 ∷ cell_box 0 4 0 0 7 ∷ cell_box 0 5 0 0 2 ∷ [];
}

-- the 11 are seen one level finer as 6 and 5, two levels finer as 3 3 3 2; the 7 are stored as 4 and 3, and seen as 7
abbrev pub GradedLooks : Type 0
GradedLooks = let m = opening_mesh graded in
    (m.leaves ≡ at 0 0 0 0 ∷ at 1 2 0 0 ∷ at 1 3 0 0 ∷ [])
    × (map (look m 0) (at 1 6 0 0 ∷ at 1 7 0 0 ∷ []) ≡ 6 ∷ 5 ∷ [])
    × (map (look m 0) (at 2 12 0 0 ∷ at 2 13 0 0 ∷ at 2 14 0 0 ∷ at 2 15 0 0 ∷ []) ≡ 3 ∷ 3 ∷ 3 ∷ 2 ∷ [])
    × (map (look m 0) (at 1 8 0 0 ∷ at 1 9 0 0 ∷ []) ≡ 4 ∷ 3 ∷ [])
    × (look m 0 (at 0 4 0 0) ≡ 7)

-- the coarse block sends its one layer, 11; the finer one beside it sends the sums that make two coarse layers, 7 and 2;
-- of the two finer ones each sends its two layers next to the other
abbrev pub GradedRegions : Type 0
GradedRegions = let m = opening_mesh graded in
    (region m 0 (at 0 0 0 0) (at 1 2 0 0) 0 false ≡ 11 ∷ [])
    × (region m 0 (at 1 2 0 0) (at 0 0 0 0) 0 true ≡ 7 ∷ 2 ∷ [])
    × (region m 0 (at 1 2 0 0) (at 1 3 0 0) 0 false ≡ 1 ∷ 1 ∷ [])
    × (region m 0 (at 1 3 0 0) (at 1 2 0 0) 0 true ≡ 0 ∷ 0 ∷ [])

-- the letters of a stage: four with ghosts, and one with the sums of what passes the coarse face
abbrev pub GradedLetters : Type 0
GradedLetters = let m = opening_mesh graded in
    (ghost_letters m ≡ record { from = 0; to = 1; axis = 0; high = false } ∷ record { from = 1; to = 0; axis = 0; high = true }
    ∷ record { from = 1; to = 2; axis = 0; high = false } ∷ record { from = 2; to = 1; axis = 0; high = true } ∷ [])
    × (flux_letters m ≡ record { from = 1; to = 0; axis = 0; high = true } ∷ [])

-- in a plane, two roots along x1, the right one refined; the upper right corner of the left one holds 6 in its last cell and 10 below it
abbrev pub plane : Settings
plane = record graded {
  shape = roots_of 2 2 1 1 false;
  size = 8 ∷ 4 ∷ 1 ∷ [];
  cells = 4 ∷ 4 ∷ 1 ∷ [];
  statics = refined 1 4 7 0 3 ∷ [];
  boxes = cell_box 0 3 3 0 6 ∷ cell_box 0 3 2 0 10 ∷ cell_box 0 4 3 0 9 ∷ cell_box 0 5 3 0 4 ∷ [];
}

-- the upper finer block is sent the upper half of the coarse block's last layer, and sends the upper half of its two layers
abbrev pub PlaneRegions : Type 0
PlaneRegions = let m = opening_mesh plane in
    (region m 0 (at 0 0 0 0) (at 1 2 1 0) 0 false ≡ 10 ∷ 6 ∷ [])
    × (region m 0 (at 0 0 0 0) (at 1 2 0 0) 0 false ≡ 0 ∷ 0 ∷ [])
    × (region m 0 (at 1 2 1 0) (at 0 0 0 0) 0 true ≡ 0 ∷ 0 ∷ 9 ∷ 4 ∷ [])
