-- For the code: what is made zero of the lists of a field, and how much that is.
use Rattle.std.specs.Prelude.{◌≡◌, ℕ, Bool, cond, ◌||◌, not, List, [], length, replicate, sum}
use Rattle.std.specs.List.{slice_index_or}
use Rattle.problem_set.specs.Settings.{Settings}
use Rattle.mesh_rules.specs.Sums.{sum_to}
use Rattle.mesh_rules.specs.Fields.{is_sparse}
use Rattle.dense_mesh.specs.declared.totals.Slot.{Slot}
use Rattle.dense_mask.specs.SlotSteps.{slot_on}
use Rattle.dense_mask.specs.Steps.{IsDoneTo}

-- whether a field stays on a leaf, by its slots
abbrev pub stays_on : Settings → ℕ → List Slot → ℕ → Bool
stays_on p f slots leaf = not (is_sparse p f) || (slot_on slots leaf).kept

-- what is left of a block's totals
abbrev pub left_of : Bool → List ℕ → List ℕ
left_of stays cells = cond stays cells (replicate (length cells) 0)

-- the blocks of a field of which only what stays is left, all or the first so many
abbrev pub AreCutTo : (ℕ → Bool) → ℕ → List (List ℕ) → List (List ℕ) → Type 0
AreCutTo stays n old new = IsDoneTo (λ leaf cells left. left ≡ left_of (stays leaf) cells) [] n old new

abbrev pub AreCut : (ℕ → Bool) → List (List ℕ) → List (List ℕ) → Type 0
AreCut stays old new = AreCutTo stays (length old) old new

-- how much was made zero on the first so many leaves
abbrev pub dropped_to : (ℕ → Bool) → List (List ℕ) → ℕ → ℕ
dropped_to stays list n = sum_to n (λ leaf. cond (stays leaf) 0 (sum (slice_index_or list leaf [])))
