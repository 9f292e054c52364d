-- Histories, the entries of one seat in them, and marks that never fall.
use Rattle.std.specs.Prelude.{◌≡◌, ℕ, ◌+◌, ◌<◌, ◌≤◌, ◌⊎◌, Bool, true, false, ◌==◌, List, [], ◌∷◌, ◌++◌, length, drop, slice_index, slice_set, Option, Some, None}
use Rattle.std.specs.List.{filter}

-- an entry is a list of numbers, the first of which is the number of the seat that made it
abbrev pub Entry : Type 0
Entry = List ℕ

-- the entry bears the number
abbrev pub bears : ℕ → Entry → Bool
bears number [] = false
bears number (first ∷ rest) = first == number

-- the entries of a history that bear the number
abbrev pub entries_of : ℕ → List Entry → List Entry
entries_of number history = filter (bears number) history

-- the history begins with what was seen
abbrev pub StartsWith : List Entry → List Entry → Type 0
StartsWith history seen = (later : List Entry) × (history ≡ seen ++ later)

-- what a history has beyond what was seen of it
abbrev pub added_to : List Entry → List Entry → List Entry
added_to seen history = drop (length seen) history

-- nothing was added, or one entry which bears the number
abbrev pub AddsAtMostOne : ℕ → List Entry → List Entry → Type 0
AddsAtMostOne number seen history = (history ≡ seen) ⊎ ((entry : Entry) × (history ≡ seen ++ entry ∷ []) × (bears number entry ≡ true))

-- as many marks, each at most the later one
pub record NoneFalls (before now : List ℕ) : Type 0 where
  pub count : length before ≡ length now
  pub each : (p : ℕ) → p < length now → slice_index before p ≤ slice_index now p

-- the marks are as before, but that of the named partition may have risen
abbrev pub OnlyRises : Option ℕ → List ℕ → List ℕ → Type 0
OnlyRises None before now = now ≡ before
OnlyRises (Some p) before now = (p < length before) × ((mark : ℕ) × (slice_index before p ≤ mark) × (now ≡ slice_set before p mark))
