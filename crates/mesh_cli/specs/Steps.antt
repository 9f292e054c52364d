-- How the steps of a call end, and what its depot has gained then.
use Rattle.std.specs.Prelude.{◌≡◌, ◌≢◌, ℕ, ◌⊎◌, List, Option, Result, Ok, Err, IsTrue}
use Rattle.problem_set.specs.Settings.{Settings}
use Rattle.mesh_outside.specs.declared.files.Gained.{Gained}
use Rattle.mesh_outside.specs.Depot.{DepotSeen, AfterReads, AfterWrites}
use Rattle.mesh_outside.specs.Fault.{Counts, Rose}
use Rattle.mesh_outside.specs.Gained.{Gains}
use Rattle.dense_model.specs.RunFiles.{IsRunning, run_of}
use Rattle.mesh_words.specs.Arguments.{Arguments, Source, from_file, from_seed}
use Rattle.mesh_words.specs.declared.fault.UsageFault.{UsageFault}
use Rattle.mesh_words.specs.declared.fault.UsageFault.TheVariants as usage_fault
use Rattle.mesh_input.specs.declared.fault.InputFault.{InputFault}
use Rattle.mesh_input.specs.declared.fault.InputFault.TheVariants as input_fault
use Rattle.mesh_outcome.specs.declared.outcome.Outcome.{Outcome}
use Rattle.mesh_outcome.specs.declared.outcome.Outcome.TheVariants.{Done, Listed, Usage, Refused, ReadFault, WriteFault}
use Rattle.mesh_outcome.specs.declared.outcome.Outcome.TheVariants.{NoMemory, TooManyAtStart, TooManyBlocks}
use Rattle.mesh_driver.specs.declared.fault.DriveFault.TheVariants as stop
use Rattle.mesh_driver.specs.Files.{end_of, files_of}
use Rattle.mesh_driver.specs.Stops.{Stops}
use Rattle.mesh_cli.specs.Verdicts.{Verdict, runs, lists, refused, ComesTo}

-- how a call ends whose words are refused
abbrev pub outcome_of_usage : UsageFault → Outcome
outcome_of_usage usage_fault.NoMemory = NoMemory
outcome_of_usage fault = Usage fault

-- how a call ends that has no input
abbrev pub outcome_of_fault : InputFault → Outcome
outcome_of_fault (input_fault.Refused refusal) = Refused refusal
outcome_of_fault input_fault.ReadFault = ReadFault
outcome_of_fault input_fault.NoMemory = NoMemory

-- the run of a problem: it completed with all its files, or stopped
abbrev pub RunEnds : Settings → List ℕ → Outcome → Option (List Gained) → Option (List Gained) → Type 0
RunEnds p prefix (Done cycles blocks total) old new =
    (record { cycles = cycles; blocks = blocks; total = total } ≡ end_of p) × Gains old new (files_of p prefix) × IsRunning (run_of p p.nlim)
RunEnds p prefix WriteFault old new = Stops p prefix old new stop.WriteFault
RunEnds p prefix NoMemory old new = Stops p prefix old new stop.NoMemory
RunEnds p prefix TooManyAtStart old new = Stops p prefix old new stop.TooManyAtStart
RunEnds p prefix (TooManyBlocks cycle leaves) old new = Stops p prefix old new (stop.TooManyBlocks cycle leaves)
RunEnds p prefix (Listed deck) old new = ⊥
RunEnds p prefix (Usage fault) old new = ⊥
RunEnds p prefix (Refused refusal) old new = ⊥
RunEnds p prefix ReadFault old new = ⊥

-- a problem that is run ends as its run does; where a deck is listed, or an input refused, nothing is gained
abbrev pub EndsBy : List ℕ → Verdict → Outcome → Option (List Gained) → Option (List Gained) → Type 0
EndsBy prefix (runs p) outcome old new = RunEnds p prefix outcome old new
EndsBy prefix (lists deck) outcome old new = (outcome ≡ Listed deck) × (new ≡ old)
EndsBy prefix (refused refusal) outcome old new = (outcome ≡ Refused refusal) × (new ≡ old)

-- the file was not read, or memory ran out before its input was accepted: nothing is gained
abbrev pub EndsUnread : Outcome → Option (List Gained) → Option (List Gained) → Type 0
EndsUnread ReadFault old new = new ≡ old
EndsUnread NoMemory old new = new ≡ old
EndsUnread (Done cycles blocks total) old new = ⊥
EndsUnread (Listed deck) old new = ⊥
EndsUnread (Usage fault) old new = ⊥
EndsUnread (Refused refusal) old new = ⊥
EndsUnread WriteFault old new = ⊥
EndsUnread TooManyAtStart old new = ⊥
EndsUnread (TooManyBlocks cycle leaves) old new = ⊥

-- the call ended as what its arguments and the file come to says
pub record EndsJudged (arguments : Arguments) (outcome : Outcome) (old new : DepotSeen) : Type 0 where
  pub verdict : Verdict
  pub comes_to : ComesTo old.inputs arguments verdict
  pub ends : EndsBy arguments.prefix verdict outcome old.written new.written

-- how a call with these arguments ended
abbrev pub EndsAccepted : Arguments → Outcome → DepotSeen → DepotSeen → Type 0
EndsAccepted arguments outcome old new =
    EndsUnread outcome old.written new.written ⊎ EndsJudged arguments outcome old new

-- how a call ended: words that are refused end it, with nothing gained
abbrev pub EndsWith : Result Arguments UsageFault → Outcome → DepotSeen → DepotSeen → Type 0
EndsWith (Ok arguments) outcome old new = EndsAccepted arguments outcome old new
EndsWith (Err fault) outcome old new = ((outcome ≡ Usage fault) ⊎ (outcome ≡ NoMemory)) × (new.written ≡ old.written)

-- where a depot counts exactly, a call counts one read of its input more where it ended by a fault of reading, those of
-- another file at most then, and one write more where it ended by a fault of writing
pub record CountsCall (input : List ℕ) (outcome : Outcome) (old new : DepotSeen) : Type 0 where
  pub reads : Counts (outcome ≡ ReadFault) (old.read_faults input) (new.read_faults input)
  pub others : (other : List ℕ) → (new.read_faults other ≡ old.read_faults other) ⊎ (outcome ≡ ReadFault)
  pub writes : Counts (outcome ≡ WriteFault) old.write_faults new.write_faults

-- after a call with this input: the inputs are as before, and each fault has its cause
pub record AfterInput (input : List ℕ) (outcome : Outcome) (old new : DepotSeen) : Type 0 where
  pub inputs : new.inputs ≡ old.inputs
  pub read_cause : outcome ≡ ReadFault → Rose (old.read_faults input) (new.read_faults input)
  pub write_cause : outcome ≡ WriteFault → Rose old.write_faults new.write_faults
  pub exact : IsTrue old.is_exact → CountsCall input outcome old new

-- after a call with this source: no file is read for a seed
abbrev pub AfterSource : Source → Outcome → DepotSeen → DepotSeen → Type 0
AfterSource (from_file name) outcome old new = AfterInput name outcome old new
AfterSource (from_seed seed large) outcome old new = AfterWrites (outcome ≡ WriteFault) old new × (outcome ≢ ReadFault)

-- after the source of a call was taken: a file was read, or nothing was called
abbrev pub AfterTaking : Source → Type 0 → DepotSeen → DepotSeen → Type 0
AfterTaking (from_file name) failed old new = AfterReads name failed old new
AfterTaking (from_seed seed large) failed old new = (new ≡ old) × (failed → ⊥)

-- after a call; words that are refused leave the depot as it was
abbrev pub AfterCall : Result Arguments UsageFault → Outcome → DepotSeen → DepotSeen → Type 0
AfterCall (Ok arguments) outcome old new = AfterSource arguments.source outcome old new
AfterCall (Err fault) outcome old new = new ≡ old
