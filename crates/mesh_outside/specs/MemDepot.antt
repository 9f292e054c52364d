-- What a memory depot holds, and which of its calls fail.
use Rattle.std.specs.Prelude.{◌≡◌, ℕ, ◌+◌, ◌-◌, Bool, true, false, List, [], length, min, Some, Contains, Result, Err}
use Rattle.std.specs.Option.{option_map_or}
use Rattle.mesh_outside.specs.declared.fail.Fail.{Fail}
use Rattle.mesh_outside.specs.declared.fail.Fail.TheVariants.{Read}
use Rattle.mesh_outside.specs.declared.fault.OutFault.{OutFault}
use Rattle.mesh_outside.specs.declared.fault.OutFault.TheVariants.{Failed}
use Rattle.mesh_outside.specs.declared.files.File.{File}
use Rattle.mesh_outside.specs.declared.files.Gained.{Gained}
use Rattle.mesh_outside.specs.Depot.{DepotSeen}
use Rattle.mesh_outside.specs.Fault.{counted, next}
use Rattle.mesh_outside.specs.Files.{input_of}

-- its inputs, the most bytes of one read, the calls that fail, the files gained, the numbers of
-- calls so far, whether the last file had no append yet, and three counts of faults: reads that
-- were to fail, reads of absent names, and failed writes
pub record MemState : Type 0 where
  pub inputs : List File
  pub piece : ℕ
  pub fails : List Fail
  pub written : List Gained
  pub reads : ℕ
  pub begins : ℕ
  pub finishes : ℕ
  pub is_fresh : Bool
  pub failed_reads : ℕ
  pub absent_reads : ℕ
  pub failed_writes : ℕ

-- a depot of which no call was made
abbrev pub opening : List File → ℕ → List Fail → MemState
opening inputs piece fails = record {
  inputs = inputs;
  piece = piece;
  fails = fails;
  written = [];
  reads = 0;
  begins = 0;
  finishes = 0;
  is_fresh = false;
  failed_reads = 0;
  absent_reads = 0;
  failed_writes = 0;
}

-- a call answers that it failed exactly for this cause
pub record FailsExactly {T : Type 0} (result : Result T OutFault) (cause : Type 0) : Type 0 where
  pub fails : cause → result ≡ Err Failed
  pub only : result ≡ Err Failed → cause

-- how many bytes a read takes of a file: as many as are left and as fit, at most a piece
abbrev pub piece_of : ℕ → List ℕ → ℕ → ℕ → ℕ
piece_of most bytes from room = min most (min room (length bytes - from))

-- the failed reads of a name: those that were to fail, and of an absent name also those of absent names
abbrev pub read_faults_of : MemState → List ℕ → ℕ
read_faults_of d name = option_map_or (λ bytes. d.failed_reads) (input_of d.inputs name)
    (d.failed_reads + d.absent_reads)

-- the depot as any
abbrev pub seen_mem : MemState → DepotSeen
seen_mem d = record {
  inputs = Some d.inputs;
  written = Some d.written;
  read_faults = read_faults_of d;
  write_faults = d.failed_writes;
  is_exact = true;
}

-- the two counters of failed reads after a read of this name: that of the reads that were to fail, or that of absent
-- names, is the next one where the read failed, and else both are as before
pub record CountsRead {T : Type 0} (name : List ℕ) (result : Result T OutFault) (old new : MemState) : Type 0 where
  pub told : Contains old.fails (Read (next old.reads))
      → (new.failed_reads ≡ next old.failed_reads) × (new.absent_reads ≡ old.absent_reads)
  pub untold : (Contains old.fails (Read (next old.reads)) → ⊥)
      → (new.failed_reads ≡ old.failed_reads) × (new.absent_reads ≡ counted result old.absent_reads)
