-- What contracts see of a depot of real files.
use Rattle.std.specs.Prelude.{ℕ, Bool, true, false, List, Option, None}
use Rattle.mesh_outside.specs.Depot.{DepotSeen}

-- an input that is open: its name, and the place up to which it was read
pub record Reading : Type 0 where
  pub name : List ℕ
  pub place : ℕ

-- one of this name, read up to this place
abbrev pub read_to : List ℕ → ℕ → Reading
read_to name place = record { name = name; place = place }

-- the input that is open; whether a file is open for writing; and how many
-- reads and how many writes have failed
pub record FileState : Type 0 where
  pub reading : Option Reading
  pub is_writing : Bool
  pub failed_reads : ℕ
  pub failed_writes : ℕ

-- no file is open, and nothing has failed
abbrev pub opening : FileState
opening = record { reading = None; is_writing = false; failed_reads = 0; failed_writes = 0 }

-- the depot as any: it tells nothing of content, and counts exactly; a failed read counts for every name
abbrev pub seen_files : FileState → DepotSeen
seen_files d = record {
  inputs = None;
  written = None;
  read_faults = λ name. d.failed_reads;
  write_faults = d.failed_writes;
  is_exact = true;
}
