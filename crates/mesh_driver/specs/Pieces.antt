-- For the code: bytes that go from a buffer to the unfinished file.
use Rattle.std.specs.Prelude.{◌≡◌, ℕ, List, ◌++◌, Option}
use Rattle.std.specs.Option.{option_map}
use Rattle.mesh_outside.specs.declared.files.Gained.{Gained}
use Rattle.mesh_outside.specs.Gained.{appended}

-- the first bytes of a buffer went to the file, and the others stay
pub record Passes (before after : List ℕ) (old new : Option (List Gained)) : Type 0 where
  pub gone : List ℕ
  pub together : gone ++ after ≡ before
  pub is : new ≡ option_map (appended gone) old
