-- What a call promises, from how it ended and what was told of it.
use Rattle.std.proofs.Common.{◌≡◌, IsTrue, Bool, ℕ, ◌⊎◌, inl, inr, List, Option, Some, None, Result, Ok, Err, refl, sym, ◌∙◌, ap, subst}
use Rattle.mesh_outside.specs.declared.files.File.{File}
use Rattle.mesh_outside.specs.declared.files.Gained.{Gained}
use Rattle.mesh_outside.specs.Depot.{DepotSeen}
use Rattle.mesh_outside.specs.Fault.{Counts, Rose}
use Rattle.mesh_outside.specs.Files.{input_of}
use Rattle.input_file.specs.Blocks.{Blocks}
use Rattle.deck_generator.specs.Generated.{generated}
use Rattle.mesh_input.specs.declared.fault.Refusal.{Refusal as InputRefusal}
use Rattle.mesh_input.specs.Input.{deck_read}
use Rattle.mesh_words.specs.Arguments.{Arguments, Source, from_file, from_seed}
use Rattle.mesh_words.specs.declared.fault.UsageFault.{UsageFault}
use Rattle.mesh_outcome.specs.declared.outcome.Outcome.{Outcome}
use Rattle.mesh_outcome.specs.declared.outcome.Outcome.TheVariants.{Done, Listed, Usage, Refused, ReadFault, WriteFault, NoMemory, TooManyAtStart, TooManyBlocks}
use Rattle.mesh_outcome.specs.declared.status.Status.{Status}
use Rattle.mesh_outcome.specs.declared.status.Status.TheVariants as status
use Rattle.mesh_outcome.specs.Lines.{IsFixed}
use Rattle.mesh_outcome.specs.Outcome.{status_of}
use Rattle.mesh_outcome.specs.Printing.{AfterReport, Tells}
use Rattle.mesh_cli.specs.Steps.{AfterCall, AfterSource, EndsAccepted, EndsBy, EndsUnread, EndsWith}
use Rattle.mesh_cli.specs.TopCall.{AreExact, Completes, CompletesSource, CompletesWith, HasCauses, IsOrNoMemory, Outside, SourceRose, TellsCounts, status_for, status_of_run}
use Rattle.mesh_driver.proofs.Stopped.{ends_at_cycle, ends_at_start}
use Rattle.mesh_cli.specs.Verdicts.{Verdict, runs, lists, refused, verdict, verdict_by, GivesDeck}

-- a status that was told is the outcome's own, or that of printing, or that of memory
told_status : (o : Outcome) (s : Status) (old new : Option (List ℕ)) → Tells o s old new → (s ≡ status_of o) ⊎ ((s ≡ status.PrintFault) ⊎ (s ≡ status.NoMemory))
told_status o s old new (inl (inl whole)) = inl whole.status_is
told_status o s old new (inl (inr part)) = inr part.status_is
told_status o s old new (inr (inl whole)) = inr (inr whole.status_is)
told_status o s old new (inr (inr part)) = inr part.status_is

-- the status of a fault of reading or writing is that of this outcome alone
of_reading : (o : Outcome) → status_of o ≡ status.ReadFault → o ≡ ReadFault
of_reading (Done cycles blocks total) is = cc
of_reading (Listed deck) is = cc
of_reading (Usage fault) is = cc
of_reading (Refused refusal) is = cc
of_reading ReadFault is = refl
of_reading WriteFault is = cc
of_reading NoMemory is = cc
of_reading TooManyAtStart is = cc
of_reading (TooManyBlocks cycle leaves) is = cc

of_writing : (o : Outcome) → status_of o ≡ status.WriteFault → o ≡ WriteFault
of_writing (Done cycles blocks total) is = cc
of_writing (Listed deck) is = cc
of_writing (Usage fault) is = cc
of_writing (Refused refusal) is = cc
of_writing ReadFault is = cc
of_writing WriteFault is = refl
of_writing NoMemory is = cc
of_writing TooManyAtStart is = cc
of_writing (TooManyBlocks cycle leaves) is = cc

told_reading : (o : Outcome) (s : Status) → (s ≡ status_of o) ⊎ ((s ≡ status.PrintFault) ⊎ (s ≡ status.NoMemory)) → s ≡ status.ReadFault → o ≡ ReadFault
told_reading o s (inl own) is = of_reading o (sym own ∙ is)
told_reading o s (inr (inl e)) is = let d : status.PrintFault ≡ status.ReadFault = sym e ∙ is in absurd (cc)
told_reading o s (inr (inr e)) is = let d : status.NoMemory ≡ status.ReadFault = sym e ∙ is in absurd (cc)

told_writing : (o : Outcome) (s : Status) → (s ≡ status_of o) ⊎ ((s ≡ status.PrintFault) ⊎ (s ≡ status.NoMemory)) → s ≡ status.WriteFault → o ≡ WriteFault
told_writing o s (inl own) is = of_writing o (sym own ∙ is)
told_writing o s (inr (inl e)) is = let d : status.PrintFault ≡ status.WriteFault = sym e ∙ is in absurd (cc)
told_writing o s (inr (inr e)) is = let d : status.NoMemory ≡ status.WriteFault = sym e ∙ is in absurd (cc)

-- words that are refused end with no fault of reading or writing
usage_only : (o p : Outcome) (fault : UsageFault) → (o ≡ Usage fault) ⊎ (o ≡ NoMemory) → o ≡ p → (p ≡ Usage fault) ⊎ (p ≡ NoMemory)
usage_only o p fault (inl e) is = inl (sym is ∙ e)
usage_only o p fault (inr e) is = inr (sym is ∙ e)

no_reading : (fault : UsageFault) → (ReadFault ≡ Usage fault) ⊎ (ReadFault ≡ NoMemory) → ⊥
no_reading fault (inl e) = cc
no_reading fault (inr e) = cc

no_writing : (fault : UsageFault) → (WriteFault ≡ Usage fault) ⊎ (WriteFault ≡ NoMemory) → ⊥
no_writing fault (inl e) = cc
no_writing fault (inr e) = cc

-- a fault of reading has its cause in the source, and one of writing its own
source_read : (source : Source) (o : Outcome) (before after : DepotSeen) → AfterSource source o before after → o ≡ ReadFault → SourceRose source before after
source_read (from_file name) o before after call is = call.read_cause is
source_read (from_seed seed large) o before after call is = call.1 is

source_write : (source : Source) (o : Outcome) (before after : DepotSeen) → AfterSource source o before after → o ≡ WriteFault → Rose before.write_faults after.write_faults
source_write (from_file name) o before after call is = call.write_cause is
source_write (from_seed seed large) o before after call is = call.0.cause is

-- each status of a fault has its cause
pub causes : (arguments : Result Arguments UsageFault) (o : Outcome) (s : Status) (before after : Outside) → EndsWith arguments o before.depot after.depot → AfterCall arguments o before.depot after.depot → Tells o s before.sink.printed after.sink.printed → AfterReport o s before.sink after.sink → HasCauses arguments s before after
causes (Ok a) o s before after ended call told report = record {
  read = λ is. source_read a.source o before.depot after.depot call (told_reading o s (told_status o s _ _ told) is);
  write = λ is. source_write a.source o before.depot after.depot call (told_writing o s (told_status o s _ _ told) is);
  print = report.cause;
}
causes (Err fault) o s before after ended call told report = record {
  read = λ is. no_reading fault (usage_only o ReadFault fault ended.0 (told_reading o s (told_status o s _ _ told) is));
  write = λ is. absurd (no_writing fault (usage_only o WriteFault fault ended.0 (told_writing o s (told_status o s _ _ told) is)));
  print = report.cause;
}

-- a fault of reading or writing is told, unless that fails
fault_told : (o p : Outcome) (s : Status) → o ≡ p → IsFixed p → (IsFixed o → (s ≡ status_of o) ⊎ (s ≡ status.PrintFault)) → (s ≡ status_of p) ⊎ (s ≡ status.PrintFault)
fault_told o p s is fixed told =
    let P : Outcome → Type 0 = λ q. (IsFixed q → (s ≡ status_of q) ⊎ (s ≡ status.PrintFault)) in
    subst P is told fixed

reads_told : (o : Outcome) (s : Status) (a b : ℕ) → (b ≡ a) ⊎ (o ≡ ReadFault) → (IsFixed o → (s ≡ status_of o) ⊎ (s ≡ status.PrintFault)) → (b ≡ a) ⊎ ((s ≡ status.ReadFault) ⊎ (s ≡ status.PrintFault))
reads_told o s a b (inl same) told = inl same
reads_told o s a b (inr is) told = inr (fault_told o ReadFault s is tt told)

writes_told : (o : Outcome) (s : Status) (a b : ℕ) → Counts (o ≡ WriteFault) a b → (IsFixed o → (s ≡ status_of o) ⊎ (s ≡ status.PrintFault)) → (b ≡ a) ⊎ ((s ≡ status.WriteFault) ⊎ (s ≡ status.PrintFault))
writes_told o s a b (inl p) told = inr (fault_told o WriteFault s p.0 tt told)
writes_told o s a b (inr p) told = inl p.1

-- where a depot counts exactly, the counts of reads stand, or reading failed
source_reads : (source : Source) (o : Outcome) (before after : DepotSeen) → AfterSource source o before after → IsTrue before.is_exact → (name : List ℕ) → (after.read_faults name ≡ before.read_faults name) ⊎ (o ≡ ReadFault)
source_reads (from_file input) o before after call e name = (call.exact e).others name
source_reads (from_seed seed large) o before after call e name = inl ((call.0.exact e).reads name)

source_writes : (source : Source) (o : Outcome) (before after : DepotSeen) → AfterSource source o before after → IsTrue before.is_exact → Counts (o ≡ WriteFault) before.write_faults after.write_faults
source_writes (from_file input) o before after call e = (call.exact e).writes
source_writes (from_seed seed large) o before after call e = (call.0.exact e).writes

-- each count that rose is told
pub counts : (arguments : Result Arguments UsageFault) (o : Outcome) (s : Status) (before after : Outside) → AfterCall arguments o before.depot after.depot → AfterReport o s before.sink after.sink → AreExact before → TellsCounts s before after
counts (Ok a) o s before after call report exact = record {
  reads = λ name. reads_told o s _ _ (source_reads a.source o before.depot after.depot call exact.depot name) (report.memory exact.no_memory);
  writes = writes_told o s _ _ (source_writes a.source o before.depot after.depot call exact.depot) (report.memory exact.no_memory);
  prints = report.exact exact.sink;
}
counts (Err fault) o s before after call report exact = record {
  reads = λ name. inl (ap (λ (d : DepotSeen). d.read_faults name) call);
  writes = inl (ap (λ (d : DepotSeen). d.write_faults) call);
  prints = report.exact exact.sink;
}

-- the inputs are as before
pub inputs_stay : (arguments : Result Arguments UsageFault) (o : Outcome) (old new : DepotSeen) → AfterCall arguments o old new → new.inputs ≡ old.inputs
inputs_stay (Ok a) o old new call = by a.source call
  where
    by : (source : Source) → AfterSource source o old new → new.inputs ≡ old.inputs
    by (from_file name) c = c.inputs
    by (from_seed seed large) c = c.0.inputs
inputs_stay (Err fault) o old new call = ap (λ (d : DepotSeen). d.inputs) call

-- how a verdict ends a call where no write failed
verdict_ends : (prefix : List ℕ) (v : Verdict) (o : Outcome) (old new : Option (List Gained)) → EndsBy prefix v o old new → (o ≡ WriteFault → ⊥) → IsOrNoMemory (status_for v) (status_of o)
verdict_ends prefix (runs p) (Done cycles blocks total) old new ends none = inl (sym (ap status_of_run ends.2.1))
verdict_ends prefix (runs p) (Listed deck) old new ends none = absurd ends
verdict_ends prefix (runs p) (Usage fault) old new ends none = absurd ends
verdict_ends prefix (runs p) (Refused refusal) old new ends none = absurd ends
verdict_ends prefix (runs p) ReadFault old new ends none = absurd ends
verdict_ends prefix (runs p) WriteFault old new ends none = absurd (none refl)
verdict_ends prefix (runs p) NoMemory old new ends none = inr refl
verdict_ends prefix (runs p) TooManyAtStart old new ends none = inl (sym (ap status_of_run (ends_at_start p ends.1)))
verdict_ends prefix (runs p) (TooManyBlocks cycle leaves) old new ends none = inl (sym (ap status_of_run (ends_at_cycle p cycle leaves ends.1 ends.2)))
verdict_ends prefix (lists deck) o old new ends none = inl (ap status_of ends.0)
verdict_ends prefix (refused r) o old new ends none = inl (ap status_of ends.0)

-- how arguments end a call where nothing failed, whose source gives this deck alone
deck_ends : (arguments : Arguments) (o : Outcome) (old new : DepotSeen) (deck : Result Blocks InputRefusal) → ((d : Result Blocks InputRefusal) → GivesDeck old.inputs arguments.source d → d ≡ deck) → EndsAccepted arguments o old new → (o ≡ ReadFault → ⊥) → (o ≡ WriteFault → ⊥) → IsOrNoMemory (status_for (verdict arguments deck)) (status_of o)
deck_ends arguments o old new deck alone (inl unread) no_read no_write = of o unread no_read
  where
    of : (p : Outcome) → EndsUnread p old.written new.written → (p ≡ ReadFault → ⊥) → IsOrNoMemory (status_for (verdict arguments deck)) (status_of p)
    of (Done cycles blocks total) h none = absurd h
    of (Listed d) h none = absurd h
    of (Usage fault) h none = absurd h
    of (Refused refusal) h none = absurd h
    of ReadFault h none = absurd (none refl)
    of WriteFault h none = absurd h
    of NoMemory h none = inr refl
    of TooManyAtStart h none = absurd h
    of (TooManyBlocks cycle leaves) h none = absurd h
deck_ends arguments o old new deck alone (inr j) no_read no_write =
    let g = j.comes_to.is_given in
    let v_is : j.verdict ≡ verdict arguments deck = sym j.comes_to.verdict_is ∙ ap (verdict_by arguments) (sym g.given_is) ∙ ap (verdict arguments) (alone g.deck g.is_deck) in
    let P : Verdict → Type 0 = λ v. IsOrNoMemory (status_for v) (status_of o) in
    subst P v_is (verdict_ends arguments.prefix j.verdict o old.written new.written j.ends no_write)

-- a file that is told gives one deck
one_deck : (inputs : Option (List File)) (files : List File) (name bytes : List ℕ) (source : Source) (d : Result Blocks InputRefusal) → inputs ≡ Some files → source ≡ from_file name → input_of files name ≡ Some bytes → GivesDeck inputs source d → d ≡ deck_read bytes
one_deck inputs files name bytes source d told e there given =
    let P : Option (List File) → Type 0 = λ i. GivesDeck i (from_file name) d in
    let g = subst P told (subst (λ (s : Source). GivesDeck inputs s d) e given) in
    let same_input : Some g.0 ≡ Some bytes = sym g.1.0 ∙ there in
    let same : g.0 ≡ bytes = cc in
    sym g.1.1 ∙ ap deck_read same

-- a seed gives one deck
seed_deck : (inputs : Option (List File)) (seed : ℕ) (large : Bool) (source : Source) (d : Result Blocks InputRefusal) → source ≡ from_seed seed large → GivesDeck inputs source d → d ≡ Ok (generated seed large)
seed_deck inputs seed large source d e given = subst (λ (s : Source). GivesDeck inputs s d) e given

-- the outcome's own status was told where no print failed
told_own : (o : Outcome) (s wanted : Status) → (s ≡ status_of o) ⊎ ((s ≡ status.PrintFault) ⊎ (s ≡ status.NoMemory)) → (s ≡ status.PrintFault → ⊥) → IsOrNoMemory wanted (status_of o) → IsOrNoMemory wanted s
told_own o s wanted (inl own) no_print (inl is) = inl (own ∙ is)
told_own o s wanted (inl own) no_print (inr is) = inr (own ∙ is)
told_own o s wanted (inr (inl e)) no_print h = absurd (no_print e)
told_own o s wanted (inr (inr e)) no_print h = inr e

usage_told : (o : Outcome) (fault : UsageFault) → (o ≡ Usage fault) ⊎ (o ≡ NoMemory) → IsOrNoMemory status.Usage (status_of o)
usage_told o fault (inl e) = inl (ap status_of e)
usage_told o fault (inr e) = inr (ap status_of e)

-- a call completes where nothing failed
pub completes : (arguments : Result Arguments UsageFault) (o : Outcome) (s : Status) (before after : Outside) → EndsWith arguments o before.depot after.depot → AfterCall arguments o before.depot after.depot → Tells o s before.sink.printed after.sink.printed → AfterReport o s before.sink after.sink → Completes arguments s before after
completes (Err fault) o s before after ended call told report =
    λ no_print. told_own o s status.Usage (told_status o s _ _ told) (λ e. no_print (report.cause e)) (usage_told o fault ended.0)
completes (Ok arguments) o s before after ended call told report = by arguments.source refl before.depot.inputs refl
  where
    own : (deck : Result Blocks InputRefusal) → ((d : Result Blocks InputRefusal) → GivesDeck before.depot.inputs arguments.source d → d ≡ deck) → CompletesWith arguments deck s before after
    own deck alone = λ none.
        told_own o s (status_for (verdict arguments deck)) (told_status o s _ _ told) (λ e. none.print (report.cause e))
        (deck_ends arguments o before.depot after.depot deck alone ended (λ e. none.read (source_read arguments.source o before.depot after.depot call e)) (λ e. none.write (source_write arguments.source o before.depot after.depot call e)))

    by : (source : Source) → arguments.source ≡ source → (inputs : Option (List File)) → before.depot.inputs ≡ inputs → CompletesSource source arguments inputs s before after
    by (from_file name) e None told_by = tt
    by (from_file name) e (Some files) told_by = λ bytes there. own (deck_read bytes) (λ d given. one_deck before.depot.inputs files name bytes arguments.source d told_by e there given)
    by (from_seed seed large) e inputs told_by = own (Ok (generated seed large)) (λ d given. seed_deck before.depot.inputs seed large arguments.source d e given)
