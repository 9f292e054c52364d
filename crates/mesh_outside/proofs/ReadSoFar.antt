-- What was read of an input so far.
use Rattle.std.proofs.Common.{◌≡◌, ℕ, List, [], length, take, Option, Some, None, refl}
use Rattle.mesh_outside.specs.declared.files.File.{File}
use Rattle.mesh_outside.specs.Files.{input_of}

-- the bytes are a prefix of an input, and of an absent one there are none
abbrev pub IsReadOf : Option (List ℕ) → List ℕ → Type 0
IsReadOf None bytes = bytes ≡ []
IsReadOf (Some all) bytes = bytes ≡ take (length bytes) all

-- the same, where the depot tells its inputs
abbrev pub IsRead : Option (List File) → List ℕ → List ℕ → Type 0
IsRead None name bytes = Unit {0}
IsRead (Some files) name bytes = IsReadOf (input_of files name) bytes

pub IsRead-nil : (inputs : Option (List File)) (name : List ℕ) → IsRead inputs name []
IsRead-nil None name = tt
IsRead-nil (Some files) name = of (input_of files name)
  where
    of : (input : Option (List ℕ)) → IsReadOf input []
    of None = refl
    of (Some all) = refl
