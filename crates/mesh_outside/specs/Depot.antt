-- What contracts see of a depot, and what its calls say of it.
use Rattle.std.specs.Prelude.{◌≡◌, ℕ, ◌≤◌, ◌⊎◌, Bool, List, ◌++◌, length, take, drop, Option, Some, None, Result, IfOk}
use Rattle.std.specs.Prelude.{OnOk, IsTrue}
use Rattle.mesh_outside.specs.declared.fault.OutFault.{OutFault}
use Rattle.mesh_outside.specs.declared.files.File.{File}
use Rattle.mesh_outside.specs.declared.files.Gained.{Gained}
use Rattle.mesh_outside.specs.Fault.{Counts, Rose}
use Rattle.mesh_outside.specs.Files.{input_of}

-- its inputs and the files gained so far, where it tells them; how many reads of each name and how many writes have
-- failed; and whether it counts exactly
pub record DepotSeen : Type 0 where
  pub inputs : Option (List File)
  pub written : Option (List Gained)
  pub read_faults : List ℕ → ℕ
  pub write_faults : ℕ
  pub is_exact : Bool

-- where a depot counts exactly, reads of this name are counted one more where they failed; those of another name at
-- most then; and no write is counted
pub record CountsReads (name : List ℕ) (failed : Type 0) (old new : DepotSeen) : Type 0 where
  pub reads : Counts failed (old.read_faults name) (new.read_faults name)
  pub others : (other : List ℕ) → (new.read_faults other ≡ old.read_faults other) ⊎ failed
  pub writes : new.write_faults ≡ old.write_faults

-- after reads of this name: the files are as before, no count fell, and where they failed, the count of the name rose
pub record AfterReads (name : List ℕ) (failed : Type 0) (old new : DepotSeen) : Type 0 where
  pub inputs : new.inputs ≡ old.inputs
  pub written : new.written ≡ old.written
  pub is_exact : new.is_exact ≡ old.is_exact
  pub reads_later : (other : List ℕ) → old.read_faults other ≤ new.read_faults other
  pub writes_later : old.write_faults ≤ new.write_faults
  pub cause : failed → Rose (old.read_faults name) (new.read_faults name)
  pub exact : IsTrue old.is_exact → CountsReads name failed old new

-- where a depot counts exactly, writes are counted one more where they failed, and no read is counted
pub record CountsWrites (failed : Type 0) (old new : DepotSeen) : Type 0 where
  pub reads : (name : List ℕ) → new.read_faults name ≡ old.read_faults name
  pub writes : Counts failed old.write_faults new.write_faults

-- after writes: the inputs are as before, no count fell, and where they failed, the count of failed writes rose
pub record AfterWrites (failed : Type 0) (old new : DepotSeen) : Type 0 where
  pub inputs : new.inputs ≡ old.inputs
  pub is_exact : new.is_exact ≡ old.is_exact
  pub reads_later : (name : List ℕ) → old.read_faults name ≤ new.read_faults name
  pub writes_later : old.write_faults ≤ new.write_faults
  pub cause : failed → Rose old.write_faults new.write_faults
  pub exact : IsTrue old.is_exact → CountsWrites failed old new

-- a piece of a file from a place on: it stands at the start of the buffer, the rest of which stays,
-- and it is empty only where the buffer is or where nothing is left
pub record IsPiece (bytes : List ℕ) (from : ℕ) (before after : List ℕ) (count : ℕ) : Type 0 where
  pub in_file : count ≤ length (drop from bytes)
  pub start : after ≡ take count (drop from bytes) ++ drop count before
  pub empty : count ≡ 0 → (length before ≡ 0) ⊎ (length bytes ≤ from)

-- a read of bytes that are there gives a piece of them; of an absent name there is none
abbrev pub ReadsOf : Option (List ℕ) → ℕ → List ℕ → List ℕ → Result ℕ OutFault → Type 0
ReadsOf None from before after result = OnOk result ⊥
ReadsOf (Some bytes) from before after result = IfOk result (λ count. IsPiece bytes from before after count)

-- what a read gives, where the depot tells its inputs
abbrev pub Reads : Option (List File) → List ℕ → ℕ → List ℕ → List ℕ → Result ℕ OutFault → Type 0
Reads None name from before after result = Unit {0}
Reads (Some files) name from before after result = ReadsOf (input_of files name) from before after result
