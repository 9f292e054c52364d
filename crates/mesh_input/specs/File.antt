-- What the file of a name gives with the overrides.
use Rattle.std.specs.Prelude.{◌≡◌, ℕ, List, Option, Some, None, Result, Ok, Err}
use Rattle.input_file.specs.Texts.{Text}
use Rattle.mesh_outside.specs.declared.files.File.{File}
use Rattle.mesh_outside.specs.Files.{input_of}
use Rattle.mesh_input.specs.declared.input.Input.{Input}
use Rattle.mesh_input.specs.declared.fault.Refusal.{Refusal}
use Rattle.mesh_input.specs.declared.fault.InputFault.{InputFault}
use Rattle.mesh_input.specs.declared.fault.InputFault.TheVariants.{Refused, ReadFault, NoMemory}
use Rattle.mesh_input.specs.Input.{SeenInput, accepted_input, seen_input}

-- the file of this name has these bytes, where the depot tells its inputs
abbrev pub HasInput : Option (List File) → List ℕ → List ℕ → Type 0
HasInput None name bytes = Unit {0}
HasInput (Some files) name bytes = input_of files name ≡ Some bytes

-- this is what the file of this name gives with the overrides
pub record Gives (inputs : Option (List File)) (name : List ℕ) (overrides : List Text)
    (given : Result SeenInput Refusal) : Type 0 where
  pub bytes : List ℕ
  pub are_there : HasInput inputs name bytes
  pub given_is : accepted_input bytes overrides ≡ given

-- what is answered of a file is what its bytes give; a fault of reading and want of memory say nothing of them
abbrev pub AnswersFile : Option (List File) → List ℕ → List Text → Result Input InputFault → Type 0
AnswersFile inputs name overrides (Ok input) = Gives inputs name overrides (Ok (seen_input input))
AnswersFile inputs name overrides (Err (Refused refusal)) = Gives inputs name overrides (Err refusal)
AnswersFile inputs name overrides (Err ReadFault) = Unit {0}
AnswersFile inputs name overrides (Err NoMemory) = Unit {0}
