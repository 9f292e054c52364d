-- What a depot holds of which no call fails but the read of an absent name.
use Rattle.std.specs.Prelude.{ℕ, true, List, [], Some}
use Rattle.std.specs.Option.{option_map_or}
use Rattle.mesh_outside.specs.declared.files.File.{File}
use Rattle.mesh_outside.specs.declared.files.Gained.{Gained}
use Rattle.mesh_outside.specs.Depot.{DepotSeen}
use Rattle.mesh_outside.specs.Files.{input_of}

-- its inputs, the most bytes of one read, the files gained, and the number of reads of absent names
pub record SureState : Type 0 where
  pub inputs : List File
  pub piece : ℕ
  pub written : List Gained
  pub absent_reads : ℕ

-- a depot of which no call was made
abbrev pub opening : List File → ℕ → SureState
opening inputs piece = record { inputs = inputs; piece = piece; written = []; absent_reads = 0 }

-- the failed reads of a name: none of one that is there
abbrev pub read_faults_of : SureState → List ℕ → ℕ
read_faults_of d name = option_map_or (λ bytes. 0) (input_of d.inputs name) d.absent_reads

-- the depot as any
abbrev pub seen_sure : SureState → DepotSeen
seen_sure d = record {
  inputs = Some d.inputs;
  written = Some d.written;
  read_faults = read_faults_of d;
  write_faults = 0;
  is_exact = true;
}
