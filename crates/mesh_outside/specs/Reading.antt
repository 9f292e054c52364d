-- What the reading of a whole input gives.
use Rattle.std.specs.Prelude.{◌≡◌, ℕ, ◌+◌, ◌≤◌, ◌⊎◌, List, ◌++◌, length, take, drop, Option, Some, None}
use Rattle.mesh_outside.specs.declared.files.File.{File}
use Rattle.mesh_outside.specs.Files.{input_of}

-- the bytes under a name, or the first limit + 1 of them where they are more
abbrev pub IsInput : Option (List ℕ) → ℕ → List ℕ → Type 0
IsInput None limit bytes = ⊥
IsInput (Some all) limit bytes = bytes ≡ take (limit + 1) all

-- what a whole reading gives, where the depot tells its inputs
abbrev pub ReadsInput : Option (List File) → List ℕ → ℕ → List ℕ → Type 0
ReadsInput None name limit bytes = Unit {0}
ReadsInput (Some files) name limit bytes = IsInput (input_of files name) limit bytes

-- some of the bytes that follow those read so far, and none only where there is no room or nothing follows
pub record Follows (all before after : List ℕ) (room count : ℕ) : Type 0 where
  pub in_file : count ≤ length (drop (length before) all)
  pub added : after ≡ before ++ take count (drop (length before) all)
  pub empty : count ≡ 0 → (room ≡ 0) ⊎ (length all ≤ length before)

-- a read behind the bytes read so far
abbrev pub ReadsMoreOf : Option (List ℕ) → List ℕ → List ℕ → ℕ → ℕ → Type 0
ReadsMoreOf None before after room count = ⊥
ReadsMoreOf (Some all) before after room count = Follows all before after room count

-- the same, where the depot tells its inputs
abbrev pub ReadsMore : Option (List File) → List ℕ → List ℕ → List ℕ → ℕ → ℕ → Type 0
ReadsMore None name before after room count = Unit {0}
ReadsMore (Some files) name before after room count = ReadsMoreOf (input_of files name) before after room count
