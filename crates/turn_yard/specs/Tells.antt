-- What a value behind the turn tells of itself, as one record.
use Rattle.std.specs.Prelude.{ℕ, List}
use Rattle.turn_yard.specs.History.{Entry}

pub record Tells (T : Type 0) : Type 0 where
  pub entries : T → List Entry
  pub origin : T → List ℕ
  pub marks : T → List ℕ

abbrev pub tells : {T : Type 0} → (T → List Entry) → (T → List ℕ) → (T → List ℕ) → Tells T
tells entries origin marks = record { entries = entries; origin = origin; marks = marks }
