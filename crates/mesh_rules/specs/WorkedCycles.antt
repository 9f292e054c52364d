-- Worked examples of what is kept where and dropped, of reactions and of trees that change, with their numbers written out.
use Rattle.std.specs.Prelude.{◌≡◌, ℕ, pos, true, List, [], ◌∷◌, codes}
use Rattle.problem_set.specs.Settings.{Settings}
use Rattle.mesh_settings.specs.declared.words.Mode.TheVariants.{Adaptive}
use Rattle.mesh_settings.specs.declared.words.Method.{Method}
use Rattle.mesh_settings.specs.declared.words.Method.TheVariants.{Peak, Jump}
use Rattle.deck_entries.specs.declared.entries.Criterion.{Criterion}
use Rattle.mesh_rules.specs.Mask.{Slot, absent, slot_at}
use Rattle.mesh_rules.specs.Run.{Outcome, running, too_many_at, too_many_at_start}
use Rattle.mesh_rules.specs.WorkedSettings.{at, at_speed, blocks_in, blocks_over, cell_box, drop_in, field, flow_in, leaves_in, moving_row, refined, row, run_of, staying, totals_in, two_blocks}

-- two blocks with an amount in the last cell of the left one, of which one part in four moves on
abbrev pub beside : ℕ → Settings
beside amount = record (two_blocks (moving_row (codes "a_0") true)) { boxes = cell_box 0 3 0 0 amount ∷ [] }

abbrev pub slot_in : ℕ → ℕ → Outcome → Slot
slot_in leaf f (running r) = slot_at r.state.mask leaf f
slot_in leaf f too_many_at_start = absent
slot_in leaf f (too_many_at _ _) = absent

-- of 1 nothing flows, but the right block is sent it, keeps it, and frees it after five checks at which it was all zero;
-- then it is sent again
abbrev pub SentAndFreed : Type 0
SentAndFreed =
    (blocks_over (beside 1) 0 10 ≡ 1 ∷ 2 ∷ 2 ∷ 2 ∷ 2 ∷ 1 ∷ 2 ∷ 2 ∷ 2 ∷ 2 ∷ 1 ∷ [])
    × (slot_in 1 0 (run_of (beside 1) 3) ≡ record { kept = true; idle = 3 })
    × (slot_in 0 0 (run_of (beside 1) 3) ≡ record { kept = true; idle = 0 })

-- with a threshold of 1 it is not even kept there
abbrev pub BelowThreshold : Type 0
BelowThreshold = let p = record (beside 1) { alloc_threshold = 1 } in
    (blocks_over p 0 3 ≡ 1 ∷ 1 ∷ 1 ∷ 1 ∷ []) × (drop_in 0 (run_of p 3) ≡ 0)

-- of 8, 2 flow into the right block; with a threshold of 8 it does not keep them, and they are dropped; with 7 it keeps them
abbrev pub DroppedInStage : Type 0
DroppedInStage =
    let high = record (beside 8) { alloc_threshold = 8 } in
    let low = record (beside 8) { alloc_threshold = 7 } in
    (totals_in (run_of high 1) ≡ ((0 ∷ 0 ∷ 0 ∷ 6 ∷ []) ∷ []) ∷ ((0 ∷ 0 ∷ 0 ∷ 0 ∷ []) ∷ []) ∷ [])
    × (drop_in 0 (run_of high 1) ≡ 2)
    × (blocks_in 0 (run_of high 1) ≡ 1)
    × (totals_in (run_of low 1) ≡ ((0 ∷ 0 ∷ 0 ∷ 6 ∷ []) ∷ []) ∷ ((2 ∷ 0 ∷ 0 ∷ 0 ∷ []) ∷ []) ∷ [])
    × (drop_in 0 (run_of low 1) ≡ 0)
    × (blocks_in 0 (run_of low 1) ≡ 2)

-- the right block keeps the 2, but 2 is idle where the threshold of the check is 2: it frees them at the first check
abbrev pub DroppedAtCheck : Type 0
DroppedAtCheck = let p = record (beside 8) { dealloc_threshold = 2; dealloc_count = 1 } in
    (totals_in (run_of p 1) ≡ ((0 ∷ 0 ∷ 0 ∷ 6 ∷ []) ∷ []) ∷ ((0 ∷ 0 ∷ 0 ∷ 0 ∷ []) ∷ []) ∷ [])
    × (drop_in 0 (run_of p 1) ≡ 2)
    × (blocks_in 0 (run_of p 1) ≡ 1)

-- two sparse fields that stay where they are, and a reaction that turns a tenth of a_0 into b_0 in each cycle
abbrev pub reacting : ℕ → Settings
reacting amount = record row {
  fields = record { packages = []; fields = field (codes "a_0") (staying true) ∷ field (codes "b_0") (staying true) ∷ [] };
  moves = at_speed (pos 0) (pos 0) (pos 0) ∷ at_speed (pos 0) (pos 0) (pos 0) ∷ [];
  reactions = record { from = 0; to = 1; num = 1; den = 10 } ∷ [];
  boxes = cell_box 0 0 0 0 amount ∷ [];
}

-- nothing of 9, one of 10
abbrev pub Reacts : Type 0
Reacts =
    (totals_in (run_of (reacting 9) 1) ≡ ((9 ∷ 0 ∷ 0 ∷ 0 ∷ []) ∷ (0 ∷ 0 ∷ 0 ∷ 0 ∷ []) ∷ []) ∷ [])
    × (blocks_in 1 (run_of (reacting 9) 1) ≡ 0)
    × (totals_in (run_of (reacting 10) 1) ≡ ((9 ∷ 0 ∷ 0 ∷ 0 ∷ []) ∷ (1 ∷ 0 ∷ 0 ∷ 0 ∷ []) ∷ []) ∷ [])
    × (flow_in 0 (run_of (reacting 10) 1) ≡ record { inflow = 0; outflow = 0; made = 0; used = 1 })
    × (flow_in 1 (run_of (reacting 10) 1) ≡ record { inflow = 0; outflow = 0; made = 1; used = 0 })
    × (blocks_in 1 (run_of (reacting 10) 1) ≡ 1)

-- a second reaction turns all of b_0 back: both fields have made and used, and b_0 is kept nowhere
abbrev pub ReactsBack : Type 0
ReactsBack =
    let p = record (reacting 10) { reactions = record { from = 0; to = 1; num = 1; den = 10 } ∷ record { from = 1; to = 0; num = 1; den = 1 } ∷ [] } in
    (totals_in (run_of p 1) ≡ ((10 ∷ 0 ∷ 0 ∷ 0 ∷ []) ∷ (0 ∷ 0 ∷ 0 ∷ 0 ∷ []) ∷ []) ∷ [])
    × (flow_in 0 (run_of p 1) ≡ record { inflow = 0; outflow = 0; made = 1; used = 1 })
    × (flow_in 1 (run_of p 1) ≡ record { inflow = 0; outflow = 0; made = 1; used = 1 })
    × (blocks_in 1 (run_of p 1) ≡ 0)

-- the one b_0 that is made is not above a threshold of 1, and is dropped
abbrev pub DroppedAfterReaction : Type 0
DroppedAfterReaction = let p = record (reacting 10) { alloc_threshold = 1 } in
    (totals_in (run_of p 1) ≡ ((9 ∷ 0 ∷ 0 ∷ 0 ∷ []) ∷ (0 ∷ 0 ∷ 0 ∷ 0 ∷ []) ∷ []) ∷ [])
    × (flow_in 1 (run_of p 1) ≡ record { inflow = 0; outflow = 0; made = 1; used = 0 })
    × (drop_in 1 (run_of p 1) ≡ 1)
    × (blocks_in 1 (run_of p 1) ≡ 0)

-- a criterion of the first field
abbrev pub by : Method → ℕ → ℕ → List Criterion
by method refine derefine = record { field = 0; method = method; refine_tol = refine; derefine_tol = derefine; max_level = 1 } ∷ []

-- a block that is measured, and a field that does not move
abbrev pub adaptive : List Criterion → Settings
adaptive criteria = record (moving_row (codes "a_0") true) { moves = at_speed (pos 0) (pos 0) (pos 0) ∷ []; mode = Adaptive; levels = 2; criteria = criteria }

-- with 10 in its first cell a block that is refined above 9 splits in cycle 1, and the 10 are shared as 5 and 5;
-- the right half holds none of it and is freed of it in cycle 6
abbrev pub PeakSplits : Type 0
PeakSplits = let p = record (adaptive (by Peak 9 5)) { boxes = cell_box 0 0 0 0 10 ∷ [] } in
    (leaves_in (run_of p 1) ≡ at 1 0 0 0 ∷ at 1 1 0 0 ∷ [])
    × (totals_in (run_of p 1) ≡ ((5 ∷ 5 ∷ 0 ∷ 0 ∷ []) ∷ []) ∷ ((0 ∷ 0 ∷ 0 ∷ 0 ∷ []) ∷ []) ∷ [])
    × (blocks_over p 0 6 ≡ 1 ∷ 2 ∷ 2 ∷ 2 ∷ 2 ∷ 2 ∷ 1 ∷ [])

-- 3 8 8 3 jumps by 5, which is above 4 and not above 5
abbrev pub JumpSplits : Type 0
JumpSplits =
    let boxes = cell_box 0 0 0 0 3 ∷ cell_box 0 1 0 0 8 ∷ cell_box 0 2 0 0 8 ∷ cell_box 0 3 0 0 3 ∷ [] in
    (leaves_in (run_of (record (adaptive (by Jump 4 0)) { boxes = boxes }) 1) ≡ at 1 0 0 0 ∷ at 1 1 0 0 ∷ [])
    × (leaves_in (run_of (record (adaptive (by Jump 5 0)) { boxes = boxes }) 1) ≡ at 0 0 0 0 ∷ [])

-- two blocks in a row, the right one refined at the start, whose two leaves wish to merge at once
abbrev pub merging : ℕ → Settings
merging tol = record (two_blocks (adaptive (by Peak 100 tol))) { derefine_count = 1; statics = refined 1 4 7 0 0 ∷ [] }

-- the merged block keeps what one of its leaves kept, here 2 in root cell 6
abbrev pub MaskOverMerge : Type 0
MaskOverMerge = let p = record (merging 3) { boxes = cell_box 0 6 0 0 2 ∷ [] } in
    (totals_in (run_of p 0) ≡ ((0 ∷ 0 ∷ 0 ∷ 0 ∷ []) ∷ []) ∷ ((0 ∷ 0 ∷ 0 ∷ 0 ∷ []) ∷ []) ∷ ((1 ∷ 1 ∷ 0 ∷ 0 ∷ []) ∷ []) ∷ [])
    × (totals_in (run_of p 1) ≡ ((0 ∷ 0 ∷ 0 ∷ 0 ∷ []) ∷ []) ∷ ((0 ∷ 0 ∷ 2 ∷ 0 ∷ []) ∷ []) ∷ [])
    × (slot_in 0 0 (run_of p 1) ≡ absent)
    × (slot_in 1 0 (run_of p 1) ≡ record { kept = true; idle = 0 })

-- it does not keep what another root kept: a root has no parent
abbrev pub RootHasNoParent : Type 0
RootHasNoParent = let p = record (merging 1) { boxes = cell_box 0 0 0 0 10 ∷ [] } in
    (leaves_in (run_of p 1) ≡ at 0 0 0 0 ∷ at 0 1 0 0 ∷ [])
    × (blocks_over p 0 1 ≡ 1 ∷ 1 ∷ [])
