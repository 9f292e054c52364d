-- What a depot has gained where a run stopped before its last file was written.
use Rattle.std.specs.Prelude.{◌≡◌, ℕ, ◌≤◌, ◌⊎◌, List, Option}
use Rattle.problem_set.specs.Settings.{Settings}
use Rattle.mesh_rules.specs.Run.{too_many_at, too_many_at_start}
use Rattle.dense_model.specs.RunFiles.{IsRunning, run_of}
use Rattle.mesh_outside.specs.declared.files.Gained.{Gained}
use Rattle.mesh_outside.specs.Gained.{Gains, GainsPrefix}
use Rattle.mesh_driver.specs.declared.fault.DriveFault.{DriveFault}
use Rattle.mesh_driver.specs.declared.fault.DriveFault.TheVariants.{WriteFault, NoMemory, TooManyAtStart, TooManyBlocks}
use Rattle.mesh_driver.specs.Files.{files_at, files_of}

-- the run of a problem does not complete: it stops where a tree has too many leaves
abbrev pub NeverCompletes : Settings → Type 0
NeverCompletes p = IsRunning (run_of p p.nlim) → ⊥

-- what was gained of the files of a run by why it stopped. Where a tree has too many leaves these are all files of the run, those
-- of the cycles before; where memory ran out a prefix of them, and all of them only where the run would not complete
abbrev pub Stops : Settings → List ℕ → Option (List Gained) → Option (List Gained) → DriveFault → Type 0
Stops p prefix old new WriteFault = GainsPrefix old new (files_of p prefix)
Stops p prefix old new NoMemory = GainsPrefix old new (files_of p prefix) ⊎ (Gains old new (files_of p prefix) × NeverCompletes p)
Stops p prefix old new TooManyAtStart = Gains old new (files_of p prefix) × (run_of p 0 ≡ too_many_at_start)
Stops p prefix old new (TooManyBlocks cycle leaves) = Gains old new (files_of p prefix) × (cycle ≤ p.nlim) × (run_of p cycle ≡ too_many_at cycle leaves)

-- For the code: what was gained of some files where writing them stopped
abbrev pub StopsWriting : List Gained → Option (List Gained) → Option (List Gained) → DriveFault → Type 0
StopsWriting files old new WriteFault = GainsPrefix old new files
StopsWriting files old new NoMemory = GainsPrefix old new files
StopsWriting files old new TooManyAtStart = ⊥
StopsWriting files old new (TooManyBlocks cycle leaves) = ⊥

-- where writing them, or what follows it, stopped
abbrev pub StopsAmong : List Gained → Option (List Gained) → Option (List Gained) → DriveFault → Type 0
StopsAmong files old new WriteFault = GainsPrefix old new files
StopsAmong files old new NoMemory = GainsPrefix old new files ⊎ Gains old new files
StopsAmong files old new TooManyAtStart = ⊥
StopsAmong files old new (TooManyBlocks cycle leaves) = ⊥

-- what was gained of the files of a cycle where the run stopped in it
abbrev pub StopsIn : Settings → List ℕ → ℕ → Option (List Gained) → Option (List Gained) → DriveFault → Type 0
StopsIn p prefix n old new WriteFault = GainsPrefix old new (files_at p prefix n)
StopsIn p prefix n old new NoMemory = (new ≡ old) ⊎ (GainsPrefix old new (files_at p prefix n) ⊎ Gains old new (files_at p prefix n))
StopsIn p prefix n old new TooManyAtStart = ⊥
StopsIn p prefix n old new (TooManyBlocks cycle leaves) = (new ≡ old) × (cycle ≡ n) × (run_of p n ≡ too_many_at n leaves)
