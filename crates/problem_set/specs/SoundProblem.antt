-- What holds of the fields and of the lists of a problem, and of its rates and its bound.
use Rattle.std.specs.Prelude.{◌≡◌, ◌≤◌, ◌-◌, ◌*◌, ℕ, List, length, All}
use Rattle.std.specs.List.{zip}
use Rattle.package_fields.specs.Fields.{Registered, IsSound}
use Rattle.package_fields.specs.declared.field.Field.{Field}
use Rattle.deck_entries.specs.declared.entries.Moves.{Moves}
use Rattle.deck_entries.specs.declared.entries.StaticAt.{StaticAt}
use Rattle.deck_entries.specs.declared.entries.StartBox.{StartBox}
use Rattle.deck_entries.specs.declared.entries.Reaction.{Reaction}
use Rattle.deck_entries.specs.declared.entries.Criterion.{Criterion}
use Rattle.deck_entries.specs.SoundEntries.{IsMoves, IsStatic, IsBox, IsReaction, IsCriterion}
use Rattle.problem_set.specs.Rates.{rate_sum, bound}
use Rattle.mesh_settings.specs.declared.words.FaceKind.{FaceKind}
use Rattle.mesh_settings.specs.Limits.{greatest_total, most_statics, most_boxes, most_reactions, most_criteria}

-- the fields, and how each moves
pub record AreFields (fields : Registered) (moves : List Moves) : Type 0 where
  pub fields_sound : IsSound fields.packages fields.fields
  pub same_length : length moves ≡ length fields.fields
  pub moves_sound : All IsMoves moves

-- the blocks of the kinds that come in any number
pub record AreEntries (size : List ℕ) (levels fields : ℕ) (statics : List StaticAt) (boxes : List StartBox) (reactions : List Reaction) (criteria : List Criterion) : Type 0 where
  pub few_statics : length statics ≤ most_statics
  pub few_boxes : length boxes ≤ most_boxes
  pub few_reactions : length reactions ≤ most_reactions
  pub few_criteria : length criteria ≤ most_criteria
  pub statics_sound : All (IsStatic size levels) statics
  pub boxes_sound : All (IsBox size fields) boxes
  pub reactions_sound : All (IsReaction fields) reactions
  pub criteria_sound : All (IsCriterion levels fields) criteria

-- rates with a sum of at most the denominator; three halves of it by a scheme of order 2
pub record IsFittingSum (order sum denominator : ℕ) : Type 0 where
  pub once : sum ≤ denominator
  pub second : order ≡ 2 → 3 * sum ≤ 2 * denominator

-- the rates of each field at the finest level leave every total at least 0
abbrev pub HaveFittingRates : ℕ → ℕ → ℕ → List Field → List Moves → Type 0
HaveFittingRates dims levels denominator fields moves =
    All (λ (p : Field × Moves). IsFittingSum p.1.order (rate_sum dims (levels - 1) p.0 p.1) denominator) (zip fields moves)

-- the opening sum and all that may come in keep within the greatest total
abbrev pub HasBound : ℕ → List ℕ → List FaceKind → ℕ → ℕ → List Field → List Moves → List StartBox → Type 0
HasBound dims size faces nlim nstages fields moves boxes =
    bound dims size faces nlim nstages fields moves boxes ≤ greatest_total
