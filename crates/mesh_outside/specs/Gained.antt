-- Files that a depot gains: begun, appended to and finished, one at a time.
use Rattle.std.specs.Prelude.{◌≡◌, ℕ, ◌-◌, ◌⊎◌, Bool, true, false, List, [], ◌∷◌, ◌++◌, length, take, drop, map, Option}
use Rattle.std.specs.Prelude.{All, IsTrue}
use Rattle.std.specs.Option.{option_map}
use Rattle.mesh_outside.specs.declared.files.Gained.{Gained}

-- no file is unfinished
abbrev pub IsClosed : List Gained → Type 0
IsClosed files = All (λ file. IsTrue file.whole) files

-- the last file is unfinished
abbrev pub IsOpen : List Gained → Type 0
IsOpen files = (others : List Gained) × (last : Gained) × (files ≡ others ++ last ∷ []) × (last.whole ≡ false)

-- a file with this name and these bytes, finished or not
abbrev pub file_with : List ℕ → List ℕ → Bool → Gained
file_with name bytes whole = record { name = name; bytes = bytes; whole = whole }

-- one file more, empty and unfinished
abbrev pub begun : List ℕ → List Gained → List Gained
begun name files = files ++ file_with name [] false ∷ []

-- the files with the last one changed
abbrev pub with_last : (Gained → Gained) → List Gained → List Gained
with_last change files = take (length files - 1) files ++ map change (drop (length files - 1) files)

-- the last file has these bytes more
abbrev pub appended : List ℕ → List Gained → List Gained
appended bytes files = with_last (λ last. record last { bytes = last.bytes ++ bytes }) files

-- the last file is finished
abbrev pub finished : List Gained → List Gained
finished files = with_last (λ last. record last { whole = true }) files

-- the last file has some of the first of these bytes more
pub record AppendsPrefix (bytes : List ℕ) (old new : Option (List Gained)) : Type 0 where
  pub count : ℕ
  pub is : new ≡ option_map (appended (take count bytes)) old

-- these files were gained, behind what there was
abbrev pub Gains : Option (List Gained) → Option (List Gained) → List Gained → Type 0
Gains old new files = new ≡ option_map (λ before. before ++ files) old

-- a file as far as it came: a prefix of its bytes, and not finished
pub record IsPartOf (file part : Gained) : Type 0 where
  pub name : part.name ≡ file.name
  pub rest : List ℕ
  pub bytes : part.bytes ++ rest ≡ file.bytes
  pub whole : part.whole ≡ false

-- some of the first of these files, and not all
pub record AreFirst (files gained : List Gained) : Type 0 where
  pub missing : Gained
  pub others : List Gained
  pub together : gained ++ missing ∷ others ≡ files

-- some of the first of these files, and a part of the next one
pub record AreFirstAndPart (files gained : List Gained) : Type 0 where
  pub first : List Gained
  pub file : Gained
  pub part : Gained
  pub others : List Gained
  pub is_part : IsPartOf file part
  pub gained_are : gained ≡ first ++ part ∷ []
  pub files_are : files ≡ first ++ file ∷ others

-- what is there of these files where writing stopped: a prefix of them, the last one perhaps unfinished, and never all
-- of them finished
abbrev pub IsPrefix : List Gained → List Gained → Type 0
IsPrefix files gained = AreFirst files gained ⊎ AreFirstAndPart files gained

-- what was gained, behind what there was, is such a prefix
pub record GainsPrefix (old new : Option (List Gained)) (files : List Gained) : Type 0 where
  pub prefix : List Gained
  pub is_prefix : IsPrefix files prefix
  pub gained : Gains old new prefix
