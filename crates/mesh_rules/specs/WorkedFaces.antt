-- Worked examples of faces and stages, with their numbers written out.
use Rattle.std.specs.Prelude.{◌≡◌, ℕ, ◌-◌, pos, true, false, List, [], ◌∷◌, ◌++◌, codes, map, replicate, length}
use Rattle.problem_set.specs.Settings.{Settings}
use Rattle.mesh_settings.specs.declared.words.Mode.TheVariants.{Fixed}
use Rattle.mesh_settings.specs.declared.words.FaceKind.TheVariants.{Periodic, Outflow, Inflow}
use Rattle.mesh_rules.specs.Look.{look}
use Rattle.mesh_rules.specs.Fields.{outside}
use Rattle.mesh_rules.specs.Faces.{face_pair, limited}
use Rattle.mesh_rules.specs.Opening.{opening_mesh}
use Rattle.mesh_rules.specs.WorkedSettings.{at, at_speed, blocks_over, cell_box, flow_in, moving_row, refined, roots_of, run_of, totals_in, two_blocks}

-- between reflecting faces 8 moves on by one part in four
abbrev pub eight : Settings
eight = record (moving_row (codes "a") false) { boxes = cell_box 0 0 0 0 8 ∷ [] }

-- a quarter of 8 is 2, of 6 it is floored to 1, and of 2 to none
abbrev pub ReflectingRow : Type 0
ReflectingRow =
    (totals_in (run_of eight 0) ≡ ((8 ∷ 0 ∷ 0 ∷ 0 ∷ []) ∷ []) ∷ [])
    × (totals_in (run_of eight 1) ≡ ((6 ∷ 2 ∷ 0 ∷ 0 ∷ []) ∷ []) ∷ [])
    × (totals_in (run_of eight 2) ≡ ((5 ∷ 3 ∷ 0 ∷ 0 ∷ []) ∷ []) ∷ [])

-- round a periodic axis what leaves at the high end comes in at the low one
abbrev pub PeriodicRow : Type 0
PeriodicRow =
    let p = record eight { shape = roots_of 1 1 1 1 true; faces = replicate 6 Periodic; boxes = cell_box 0 3 0 0 8 ∷ [] } in
    totals_in (run_of p 1) ≡ ((2 ∷ 0 ∷ 0 ∷ 6 ∷ []) ∷ []) ∷ []

-- 4 and 8, of which one part in two moves on: by the first order 2 and 4 do; by the second order the 4 count for 6 at the face
-- to the 8, and 3 of them move on
abbrev pub rising : ℕ → Settings
rising order = record eight { denominator = 2; boxes = cell_box 0 0 0 0 4 ∷ cell_box 0 1 0 0 8 ∷ []; moves = record (at_speed (pos 1) (pos 0) (pos 0)) { order = order } ∷ [] }

abbrev pub SecondOrder : Type 0
SecondOrder = (limited 0 4 8 ≡ 6) × (limited 8 4 0 ≡ 2) × (limited 4 8 0 ≡ 8)
    × (totals_in (run_of (rising 1) 1) ≡ ((2 ∷ 6 ∷ 4 ∷ 0 ∷ []) ∷ []) ∷ [])
    × (totals_in (run_of (rising 2) 1) ≡ ((1 ∷ 7 ∷ 4 ∷ 0 ∷ []) ∷ []) ∷ [])

-- a coarse block with 5 in its last cell beside finer blocks: 2 of the 5 stand next to them, and of these nothing passes
abbrev pub beside_finer : Settings
beside_finer = record (two_blocks (moving_row (codes "a_0") true)) { denominator = 5; mode = Fixed; levels = 2; statics = refined 1 4 7 0 0 ∷ []; boxes = cell_box 0 3 0 0 5 ∷ [] }

-- the finer block beside them is sent the field and keeps it
abbrev pub GradedRow : Type 0
GradedRow = let m = opening_mesh beside_finer in
    (map (look m 0) (at 1 6 0 0 ∷ at 1 7 0 0 ∷ []) ≡ 3 ∷ 2 ∷ [])
    × (face_pair beside_finer m 0 (at 0 3 0 0) 0 true ≡ record { right = 0; left = 0 })
    × (totals_in (run_of beside_finer 1) ≡ ((0 ∷ 0 ∷ 0 ∷ 5 ∷ []) ∷ []) ∷ ((0 ∷ 0 ∷ 0 ∷ 0 ∷ []) ∷ []) ∷ ((0 ∷ 0 ∷ 0 ∷ 0 ∷ []) ∷ []) ∷ [])
    × (blocks_over beside_finer 0 1 ≡ 1 ∷ 2 ∷ [])

-- 8 stand outside of the low face, the high face lets out
abbrev pub open_row : Settings
open_row = record (moving_row (codes "a_0") true) {
  faces = Inflow ∷ Outflow ∷ replicate 4 Periodic;
  moves = record (at_speed (pos 1) (pos 0) (pos 0)) { entry = 8 ∷ replicate 5 0 } ∷ [];
}

-- 2 of the 8 outside come in with each cycle; where 8 stand in the last cell, first 2 and then 1 go out of it
abbrev pub OpenRow : Type 0
OpenRow = let full = record open_row { boxes = cell_box 0 3 0 0 8 ∷ [] } in
    (blocks_over open_row 0 1 ≡ 0 ∷ 1 ∷ [])
    × (totals_in (run_of open_row 1) ≡ ((2 ∷ 0 ∷ 0 ∷ 0 ∷ []) ∷ []) ∷ [])
    × (flow_in 0 (run_of open_row 1) ≡ record { inflow = 2; outflow = 0; made = 0; used = 0 })
    × (totals_in (run_of full 1) ≡ ((2 ∷ 0 ∷ 0 ∷ 6 ∷ []) ∷ []) ∷ [])
    × (flow_in 0 (run_of full 1) ≡ record { inflow = 2; outflow = 2; made = 0; used = 0 })
    × (totals_in (run_of full 2) ≡ ((4 ∷ 0 ∷ 0 ∷ 5 ∷ []) ∷ []) ∷ [])
    × (flow_in 0 (run_of full 2) ≡ record { inflow = 2; outflow = 1; made = 0; used = 0 })

-- 9 stand outside of a face whose block is refined to level 1: 4 at each cell, of which two parts in four come in
abbrev pub FinerInflow : Type 0
FinerInflow =
    let p = record open_row { mode = Fixed; levels = 2; statics = refined 1 0 3 0 0 ∷ []; moves = record (at_speed (pos 1) (pos 0) (pos 0)) { entry = 9 ∷ replicate 5 0 } ∷ [] } in
    (outside p 0 0 false 0 ≡ 9) × (outside p 0 0 false 1 ≡ 4)
    × (totals_in (run_of p 1) ≡ ((2 ∷ 0 ∷ 0 ∷ 0 ∷ []) ∷ []) ∷ ((0 ∷ 0 ∷ 0 ∷ 0 ∷ []) ∷ []) ∷ [])
    × (flow_in 0 (run_of p 1) ≡ record { inflow = 2; outflow = 0; made = 0; used = 0 })

-- two by two root blocks, all but the first refined to level 1, with 6 in the first one's cell at the corner where all four meet
abbrev pub corner : Settings
corner = record beside_finer {
  shape = roots_of 2 2 2 1 false;
  size = 8 ∷ 8 ∷ 1 ∷ [];
  cells = 4 ∷ 4 ∷ 1 ∷ [];
  denominator = 4;
  moves = at_speed (pos 1) (pos 1) (pos 0) ∷ [];
  statics = refined 1 4 7 0 7 ∷ refined 1 0 3 4 7 ∷ [];
  boxes = cell_box 0 3 3 0 6 ∷ [];
}

-- its shares are 2 2 1 1; 1 of the 6 goes to the finer cell beside a share of 2, none up; the finer block on the right and
-- the one above are both sent the field
abbrev pub CornerStage : Type 0
CornerStage = let m = opening_mesh corner in
    (length m.leaves ≡ 13)
    × (map (look m 0) (at 1 6 6 0 ∷ at 1 7 6 0 ∷ at 1 6 7 0 ∷ at 1 7 7 0 ∷ []) ≡ 2 ∷ 2 ∷ 1 ∷ 1 ∷ [])
    × (face_pair corner m 0 (at 0 3 3 0) 0 true ≡ record { right = 1; left = 0 })
    × (face_pair corner m 0 (at 0 3 3 0) 1 true ≡ record { right = 0; left = 0 })
    × (totals_in (run_of corner 1) ≡ (block_with 15 5 ∷ []) ∷ zeros ∷ zeros ∷ (block_with 8 1 ∷ []) ∷ replicate 9 zeros)
    × (blocks_over corner 0 1 ≡ 1 ∷ 3 ∷ [])
  where
    block_with : ℕ → ℕ → List ℕ
    block_with place total = replicate place 0 ++ total ∷ replicate (15 - place) 0

    zeros : List (List ℕ)
    zeros = replicate 16 0 ∷ []

-- one block of 4 by 4 by 4 cells, 8 in the first, of which one part in four moves along x3
abbrev pub AlongThirdAxis : Type 0
AlongThirdAxis =
    let p = record eight { shape = roots_of 3 1 1 1 false; size = 4 ∷ 4 ∷ 4 ∷ []; cells = 4 ∷ 4 ∷ 4 ∷ []; moves = at_speed (pos 0) (pos 0) (pos 1) ∷ [] } in
    totals_in (run_of p 1) ≡ ((6 ∷ replicate 15 0 ++ 2 ∷ replicate 47 0) ∷ []) ∷ []
