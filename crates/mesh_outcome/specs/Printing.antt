-- What is printed of an outcome, and the status then.
use Rattle.std.specs.Prelude.{◌≡◌, ℕ, ◌≤◌, ◌⊎◌, List, ◌++◌, codes, Option, IsTrue}
use Rattle.std.specs.Option.{option_map}
use Rattle.mesh_outside.specs.Fault.{Counts, Rose}
use Rattle.mesh_outside.specs.Sink.{SinkSeen, PrintsPrefix}
use Rattle.mesh_outcome.specs.declared.outcome.Outcome.{Outcome}
use Rattle.mesh_outcome.specs.declared.status.Status.{Status}
use Rattle.mesh_outcome.specs.declared.status.Status.TheVariants.{NoMemory, PrintFault}
use Rattle.mesh_outcome.specs.Lines.{IsFixed, line, text_of}
use Rattle.mesh_outcome.specs.Outcome.{status_of}

-- the whole text was printed, and the status is its own
pub record PrintsAll (text : List ℕ) (own status : Status) (old new : Option (List ℕ)) : Type 0 where
  pub status_is : status ≡ own
  pub printed : new ≡ option_map (λ before. before ++ text) old

-- printing stopped: a prefix of the text was printed, and the status is that of printing
pub record PrintsPart (text : List ℕ) (status : Status) (old new : Option (List ℕ)) : Type 0 where
  pub status_is : (status ≡ PrintFault) ⊎ (status ≡ NoMemory)
  pub printed : PrintsPrefix text old new

-- a text of an own status was printed
abbrev pub Prints : List ℕ → Status → Status → Option (List ℕ) → Option (List ℕ) → Type 0
Prints text own status old new = PrintsAll text own status old new ⊎ PrintsPart text status old new

-- what is told of an outcome: its own text, or that no memory was left for that
abbrev pub Tells : Outcome → Status → Option (List ℕ) → Option (List ℕ) → Type 0
Tells outcome status old new = Prints (text_of outcome) (status_of outcome) status old new
    ⊎ Prints (line (codes "no memory")) NoMemory status old new

-- after the text of a status was printed: the count of failed prints did not fall, and rose where the status is that of
-- printing; where the sink counts exactly, it rose there alone; and where the sink takes no memory, no other status
-- comes
pub record AfterText (own status : Status) (old new : SinkSeen) : Type 0 where
  pub later : old.faults ≤ new.faults
  pub cause : status ≡ PrintFault → Rose old.faults new.faults
  pub exact : IsTrue old.is_exact → Counts (status ≡ PrintFault) old.faults new.faults
  pub memory : IsTrue old.takes_no_memory → (status ≡ own) ⊎ (status ≡ PrintFault)

-- the same after an outcome was told, where its line takes no memory
pub record AfterReport (outcome : Outcome) (status : Status) (old new : SinkSeen) : Type 0 where
  pub later : old.faults ≤ new.faults
  pub cause : status ≡ PrintFault → Rose old.faults new.faults
  pub exact : IsTrue old.is_exact → Counts (status ≡ PrintFault) old.faults new.faults
  pub memory : IsTrue old.takes_no_memory → IsFixed outcome → (status ≡ status_of outcome) ⊎ (status ≡ PrintFault)
