-- A file that is fed to a reader of decks piece by piece.
use Rattle.std.specs.Prelude.{◌≡◌, ℕ, List, [], length, take, Option, Some, None}
use Rattle.input_file.specs.declared.pieces.DeckReader.{DeckReader}
use Rattle.input_file.specs.Pieces.{HasRead}
use Rattle.mesh_outside.specs.declared.files.File.{File}
use Rattle.mesh_outside.specs.Files.{input_of}
use Rattle.mesh_outside.specs.Reading.{ReadsInput}

-- the bytes begin a file; of an absent one there are none
abbrev pub BeginsOf : Option (List ℕ) → List ℕ → Type 0
BeginsOf None bytes = bytes ≡ []
BeginsOf (Some all) bytes = bytes ≡ take (length bytes) all

-- the bytes begin the file of this name, where the depot tells its inputs
abbrev pub Begins : Option (List File) → List ℕ → List ℕ → Type 0
Begins None name bytes = Unit {0}
Begins (Some files) name bytes = BeginsOf (input_of files name) bytes

-- the reader has read so many bytes of the file of this name
pub record HasReadFront (inputs : Option (List File)) (name : List ℕ) (reader : DeckReader) (count : ℕ) : Type 0 where
  pub bytes : List ℕ
  pub were_fed : HasRead reader bytes
  pub begin_it : Begins inputs name bytes
  pub length_is : length bytes ≡ count

-- the reader has read the file of this name, or of a longer one than the limit one byte more than that
pub record HasReadFile (inputs : Option (List File)) (name : List ℕ) (limit : ℕ) (reader : DeckReader) : Type 0 where
  pub bytes : List ℕ
  pub were_fed : HasRead reader bytes
  pub are_it : ReadsInput inputs name limit bytes
