-- What a call of the program promises: how it ended, that this was told, and when each status comes.
use Rattle.std.specs.Prelude.{◌≡◌, ℕ, ◌⊎◌, List, Option, Some, None, Result, Ok, Err, IsTrue}
use Rattle.input_file.specs.Texts.{Text}
use Rattle.mesh_outside.specs.declared.files.File.{File}
use Rattle.mesh_outside.specs.Depot.{DepotSeen}
use Rattle.mesh_outside.specs.Fault.{Counts, Rose}
use Rattle.mesh_outside.specs.Files.{input_of}
use Rattle.mesh_outside.specs.Sink.{SinkSeen}
use Rattle.input_file.specs.Blocks.{Blocks}
use Rattle.deck_generator.specs.Generated.{generated}
use Rattle.mesh_input.specs.declared.fault.Refusal.{Refusal}
use Rattle.mesh_input.specs.Input.{deck_read}
use Rattle.mesh_rules.specs.Run.{Outcome as Run, running, too_many_at, too_many_at_start}
use Rattle.dense_model.specs.RunFiles.{run_of}
use Rattle.mesh_words.specs.Arguments.{Arguments, Source, from_file, from_seed, arguments_of}
use Rattle.mesh_words.specs.declared.fault.UsageFault.{UsageFault}
use Rattle.mesh_outcome.specs.declared.outcome.Outcome.{Outcome}
use Rattle.mesh_outcome.specs.declared.status.Status.{Status}
use Rattle.mesh_outcome.specs.declared.status.Status.TheVariants as status
use Rattle.mesh_outcome.specs.Printing.{Tells}
use Rattle.mesh_cli.specs.Steps.{EndsWith}
use Rattle.mesh_cli.specs.Verdicts.{Verdict, runs, lists, refused, verdict}

-- what contracts see of the outside of a call: the depot and the sink
pub record Outside : Type 0 where
  pub depot : DepotSeen
  pub sink : SinkSeen

-- this depot and this sink
abbrev pub outside : DepotSeen → SinkSeen → Outside
outside depot sink = record { depot = depot; sink = sink }

-- the count of read faults of a file rose, where the source is one
abbrev pub SourceRose : Source → DepotSeen → DepotSeen → Type 0
SourceRose (from_file name) before after = Rose (before.read_faults name) (after.read_faults name)
SourceRose (from_seed seed large) before after = ⊥

-- the count of read faults of the file that the words name rose
abbrev pub NamedRose : Result Arguments UsageFault → DepotSeen → DepotSeen → Type 0
NamedRose (Ok arguments) before after = SourceRose arguments.source before after
NamedRose (Err fault) before after = ⊥

-- each status of a fault comes only where the count of such faults rose in the call
pub record HasCauses (arguments : Result Arguments UsageFault) (answered : Status)
    (before after : Outside) : Type 0 where
  pub read : answered ≡ status.ReadFault → NamedRose arguments before.depot after.depot
  pub write : answered ≡ status.WriteFault → Rose before.depot.write_faults after.depot.write_faults
  pub print : answered ≡ status.PrintFault → Rose before.sink.faults after.sink.faults

-- each count that changed is told by the status: that of its fault, or that of a print which failed to tell it
pub record TellsCounts (answered : Status) (before after : Outside) : Type 0 where
  pub reads : (name : List ℕ) → (after.depot.read_faults name ≡ before.depot.read_faults name)
      ⊎ ((answered ≡ status.ReadFault) ⊎ (answered ≡ status.PrintFault))
  pub writes : (after.depot.write_faults ≡ before.depot.write_faults)
      ⊎ ((answered ≡ status.WriteFault) ⊎ (answered ≡ status.PrintFault))
  pub prints : Counts (answered ≡ status.PrintFault) before.sink.faults after.sink.faults

-- both count exactly, and the sink takes no memory
pub record AreExact (before : Outside) : Type 0 where
  pub depot : IsTrue before.depot.is_exact
  pub sink : IsTrue before.sink.is_exact
  pub no_memory : IsTrue before.sink.takes_no_memory

-- the status that a run calls for
abbrev pub status_of_run : Run → Status
status_of_run (running reached) = status.Done
status_of_run too_many_at_start = status.TooManyBlocks
status_of_run (too_many_at cycle leaves) = status.TooManyBlocks

-- the status that a verdict calls for
abbrev pub status_for : Verdict → Status
status_for (runs p) = status_of_run (run_of p p.nlim)
status_for (lists deck) = status.Done
status_for (refused refusal) = status.Refused

-- the status is this one, or memory ran out
abbrev pub IsOrNoMemory : Status → Status → Type 0
IsOrNoMemory wanted answered = (answered ≡ wanted) ⊎ (answered ≡ status.NoMemory)

-- no count of faults rose: neither that of reads of the source, nor that of writes, nor that of prints
pub record NoneRose (source : Source) (before after : Outside) : Type 0 where
  pub read : SourceRose source before.depot after.depot → ⊥
  pub write : Rose before.depot.write_faults after.depot.write_faults → ⊥
  pub print : Rose before.sink.faults after.sink.faults → ⊥

-- where no count of faults rose, arguments end with the status of what they come to with a deck
abbrev pub CompletesWith : Arguments → Result Blocks Refusal → Status → Outside → Outside → Type 0
CompletesWith arguments deck answered before after =
    NoneRose arguments.source before after → IsOrNoMemory (status_for (verdict arguments deck)) answered

-- so do those of a file that is told
abbrev pub CompletesFile : Arguments → List ℕ → Option (List File) → Status → Outside → Outside → Type 0
CompletesFile arguments name None answered before after = Unit {0}
CompletesFile arguments name (Some files) answered before after =
    (bytes : List ℕ) → input_of files name ≡ Some bytes → CompletesWith arguments (deck_read bytes) answered before after

-- and those of a seed
abbrev pub CompletesSource : Source → Arguments → Option (List File) → Status → Outside → Outside → Type 0
CompletesSource (from_file name) arguments inputs answered before after = CompletesFile arguments name inputs answered before after
CompletesSource (from_seed seed large) arguments inputs answered before after =
    CompletesWith arguments (Ok (generated seed large)) answered before after

-- words that are refused end with the status of usage where the count of failed prints did not rise
abbrev pub Completes : Result Arguments UsageFault → Status → Outside → Outside → Type 0
Completes (Ok arguments) answered before after =
    CompletesSource arguments.source arguments before.depot.inputs answered before after
Completes (Err fault) answered before after =
    (Rose before.sink.faults after.sink.faults → ⊥) → IsOrNoMemory status.Usage answered

-- a call with these words: it ended with an outcome, which was told; each fault has its cause, and where counts are
-- exact each count that rose is told; where none rose, it completed; and the inputs are as before
pub record Ends (words : List Text) (before after : Outside) (answered : Status) : Type 0 where
  pub outcome : Outcome
  pub ended : EndsWith (arguments_of words) outcome before.depot after.depot
  pub told : Tells outcome answered before.sink.printed after.sink.printed
  pub causes : HasCauses (arguments_of words) answered before after
  pub counts : AreExact before → TellsCounts answered before after
  pub completes : Completes (arguments_of words) answered before after
  pub inputs : after.depot.inputs ≡ before.depot.inputs
