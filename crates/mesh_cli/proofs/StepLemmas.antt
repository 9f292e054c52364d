-- How a call ends, step by step.
use Rattle.std.proofs.Common.{◌≡◌, ◌≢◌, ℕ, ◌≤◌, ◌⊎◌, inl, inr, Bool, IsTrue, List, Option, Result, Ok, Err, refl, sym, ◌∙◌, ap, subst, arith}
use Rattle.mesh_outside.specs.declared.files.File.{File}
use Rattle.mesh_outside.specs.declared.files.Gained.{Gained}
use Rattle.mesh_outside.specs.Depot.{DepotSeen, AfterReads, AfterWrites}
use Rattle.mesh_outside.specs.Fault.{Counts, Rose}
use Rattle.deck_generator.specs.Generated.{generated}
use Rattle.mesh_words.specs.Arguments.{Arguments, Source, from_file, from_seed}
use Rattle.mesh_words.specs.declared.fault.UsageFault.{UsageFault}
use Rattle.mesh_words.specs.declared.fault.UsageFault.TheVariants as usage_fault
use Rattle.mesh_input.specs.declared.input.Input.{Input}
use Rattle.mesh_input.specs.declared.fault.Refusal.{Refusal}
use Rattle.mesh_input.specs.declared.fault.InputFault.{InputFault}
use Rattle.mesh_input.specs.declared.fault.InputFault.TheVariants as input_fault
use Rattle.mesh_outcome.specs.declared.outcome.Outcome.{Outcome}
use Rattle.mesh_outcome.specs.declared.outcome.Outcome.TheVariants.{Usage, ReadFault, WriteFault, NoMemory}
use Rattle.mesh_input.specs.Input.{Answers, SeenInput, deck_read, input_with, seen_input}
use Rattle.mesh_input.specs.File.{AnswersFile, Gives}
use Rattle.mesh_cli.specs.Steps.{AfterCall, AfterInput, AfterSource, AfterTaking, EndsAccepted, EndsBy, EndsWith, outcome_of_fault, outcome_of_usage}
use Rattle.mesh_cli.specs.Verdicts.{AnswersSource, GivesDeck, GivesInput, refused, verdict_on}

-- an input that was accepted decides how the call ends
pub input_ends : (arguments : Arguments) (i : SeenInput) (outcome : Outcome) (old mid new : DepotSeen) → GivesInput old.inputs arguments (Ok i) → mid.written ≡ old.written → EndsBy arguments.prefix (verdict_on arguments i) outcome mid.written new.written → EndsAccepted arguments outcome old new
input_ends arguments i outcome old mid new gives same ends =
    let P : Option (List Gained) → Type 0 = λ w. EndsBy arguments.prefix (verdict_on arguments i) outcome w new.written in
    inr (record {
      verdict = verdict_on arguments i;
      comes_to = record { given = Ok i; is_given = gives; verdict_is = refl };
      ends = subst P same ends;
    })

-- a call that has no input
pub fault_ends : (arguments : Arguments) (fault : InputFault) (outcome : Outcome) (old new : DepotSeen) → outcome ≡ outcome_of_fault fault → AnswersSource old.inputs arguments (Err fault) → new.written ≡ old.written → EndsAccepted arguments outcome old new
fault_ends arguments fault outcome old new is told same =
    let P : Outcome → Type 0 = λ o. EndsAccepted arguments o old new in
    subst P (sym is) (by fault told)
  where
    by : (f : InputFault) → AnswersSource old.inputs arguments (Err f) → EndsAccepted arguments (outcome_of_fault f) old new
    by (input_fault.Refused r) gives = inr (record { verdict = refused r; comes_to = record { given = Err r; is_given = gives; verdict_is = refl }; ends = (refl, same) })
    by input_fault.ReadFault _ = inl same
    by input_fault.NoMemory _ = inl same

-- what a file answers is what its source does
pub file_answers : (inputs : Option (List File)) (arguments : Arguments) (name : List ℕ) (result : Result Input InputFault) → arguments.source ≡ from_file name → AnswersFile inputs name arguments.overrides result → AnswersSource inputs arguments result
file_answers inputs arguments name result e told = by result told
  where
    gives : (given : Result SeenInput Refusal) → Gives inputs name arguments.overrides given → GivesInput inputs arguments given
    gives given g = record { deck = deck_read g.bytes; is_deck = subst (λ (s : Source). GivesDeck inputs s (deck_read g.bytes)) (sym e) (g.bytes, (g.are_there, refl)); given_is = g.given_is }

    by : (r : Result Input InputFault) → AnswersFile inputs name arguments.overrides r → AnswersSource inputs arguments r
    by (Ok input) t = gives (Ok (seen_input input)) t
    by (Err (input_fault.Refused r)) t = gives (Err r) t
    by (Err input_fault.ReadFault) t = tt
    by (Err input_fault.NoMemory) t = tt

-- what a seed answers is what its source does
pub seed_answers : (inputs : Option (List File)) (arguments : Arguments) (seed : ℕ) (large : Bool) (result : Result Input InputFault) → arguments.source ≡ from_seed seed large → Answers seen_input result (input_with (generated seed large) arguments.overrides) → AnswersSource inputs arguments result
seed_answers inputs arguments seed large result e told = by result told
  where
    gives : (given : Result SeenInput Refusal) → input_with (generated seed large) arguments.overrides ≡ given → GivesInput inputs arguments given
    gives given g = record { deck = Ok (generated seed large); is_deck = subst (λ (s : Source). GivesDeck inputs s (Ok (generated seed large))) (sym e) refl; given_is = g }

    by : (r : Result Input InputFault) → Answers seen_input r (input_with (generated seed large) arguments.overrides) → AnswersSource inputs arguments r
    by (Ok input) t = gives (Ok (seen_input input)) t
    by (Err (input_fault.Refused r)) t = gives (Err r) t
    by (Err input_fault.ReadFault) t = tt
    by (Err input_fault.NoMemory) t = tt

-- a seed answers no fault of reading
pub seed_reads_nothing : (result : Result Input InputFault) (given : Result SeenInput Refusal) → Answers seen_input result given → result ≡ Err input_fault.ReadFault → ⊥
seed_reads_nothing (Ok input) given told is = cc
seed_reads_nothing (Err (input_fault.Refused r)) given told is = cc
seed_reads_nothing (Err input_fault.ReadFault) given told is = absurd told
seed_reads_nothing (Err input_fault.NoMemory) given told is = cc

-- a call whose words are refused
pub usage_ends : (told : Result Arguments UsageFault) (fault : UsageFault) (outcome : Outcome) (d : DepotSeen) → outcome ≡ outcome_of_usage fault → (fault ≡ usage_fault.NoMemory) ⊎ (told ≡ Err fault) → EndsWith told outcome d d
usage_ends told fault outcome d is known =
    let P : Outcome → Type 0 = λ o. EndsWith told o d d in
    subst P (sym is) (by fault known)
  where
    no_memory : (t : Result Arguments UsageFault) → EndsWith t NoMemory d d
    no_memory (Ok arguments) = inl refl
    no_memory (Err f) = (inr refl, refl)

    refused_by : (f : UsageFault) → told ≡ Err f → EndsWith told (Usage f) d d
    refused_by f e =
        let Q : Result Arguments UsageFault → Type 0 = λ t. EndsWith t (Usage f) d d in
        subst Q (sym e) (inl refl, refl)

    by : (f : UsageFault) → (f ≡ usage_fault.NoMemory) ⊎ (told ≡ Err f) → EndsWith told (outcome_of_usage f) d d
    by usage_fault.NotTheCommand (inl e) = cc
    by usage_fault.NotTheCommand (inr e) = refused_by usage_fault.NotTheCommand e
    by usage_fault.NoInput (inl e) = cc
    by usage_fault.NoInput (inr e) = refused_by usage_fault.NoInput e
    by usage_fault.TwoInputs (inl e) = cc
    by usage_fault.TwoInputs (inr e) = refused_by usage_fault.TwoInputs e
    by usage_fault.Large (inl e) = cc
    by usage_fault.Large (inr e) = refused_by usage_fault.Large e
    by usage_fault.Workers (inl e) = cc
    by usage_fault.Workers (inr e) = refused_by usage_fault.Workers e
    by usage_fault.Seed (inl e) = cc
    by usage_fault.Seed (inr e) = refused_by usage_fault.Seed e
    by usage_fault.Prefix (inl e) = cc
    by usage_fault.Prefix (inr e) = refused_by usage_fault.Prefix e
    by usage_fault.NotBuilt (inl e) = cc
    by usage_fault.NotBuilt (inr e) = refused_by usage_fault.NotBuilt e
    by usage_fault.NoMemory h = no_memory told

-- a count of calls that did not fail stands
stands : (f : Type 0) (a b : ℕ) → Counts f a b → (f → ⊥) → b ≡ a
stands f a b (inl p) fine = absurd (fine p.0)
stands f a b (inr p) fine = p.1

stands_still : (f : Type 0) (a b : ℕ) → (b ≡ a) ⊎ f → (f → ⊥) → b ≡ a
stands_still f a b (inl p) fine = p
stands_still f a b (inr x) fine = absurd (fine x)

rose_since : (a b c : ℕ) → a ≤ b → Rose b c → Rose a c
rose_since a b c later rose = omega arith

-- a file that was read, and then writes
pub input_after : (input : List ℕ) (outcome : Outcome) (f : Type 0) (a b c : DepotSeen) → AfterReads input f a b → (f → ⊥) → AfterWrites (outcome ≡ WriteFault) b c → outcome ≢ ReadFault → AfterInput input outcome a c
input_after input outcome f a b c r fine w other = record {
  inputs = w.inputs ∙ r.inputs;
  read_cause = λ is. absurd (other is);
  write_cause = λ is. rose_since _ _ _ r.writes_later (w.cause is);
  exact = λ e.
      let P : Bool → Type 0 = IsTrue in
      let Q : ℕ → Type 0 = λ n. Counts (outcome ≡ WriteFault) n c.write_faults in
      let d = r.exact e in
      let k = w.exact (subst P (sym r.is_exact) e) in
      record {
        reads = inr (other, k.reads input ∙ stands f _ _ d.reads fine);
        others = λ name. inl (k.reads name ∙ stands_still f _ _ (d.others name) fine);
        writes = subst Q d.writes k.writes;
      };
}

-- the counts of reads that failed where the outcome says so
counts_as : (f h : Type 0) (a b : ℕ) → Counts f a b → (f → h) → (h → f) → Counts h a b
counts_as f h a b (inl p) to from = inl (to p.0, p.1)
counts_as f h a b (inr p) to from = inr (λ x. p.0 (from x), p.1)

others_as : (f h : Type 0) (a b : ℕ) → (b ≡ a) ⊎ f → (f → h) → (b ≡ a) ⊎ h
others_as f h a b (inl p) to = inl p
others_as f h a b (inr x) to = inr (to x)

-- a file that could not be read, or gave no input
no_input_after : (input : List ℕ) (outcome : Outcome) (f : Type 0) (a b : DepotSeen) → AfterReads input f a b → (f → outcome ≡ ReadFault) → (outcome ≡ ReadFault → f) → outcome ≢ WriteFault → AfterInput input outcome a b
no_input_after input outcome f a b r to from other = record {
  inputs = r.inputs;
  read_cause = λ is. r.cause (from is);
  write_cause = λ is. absurd (other is);
  exact = λ e.
      let d = r.exact e in
      record {
        reads = counts_as f _ _ _ d.reads to from;
        others = λ name. others_as f _ _ _ (d.others name) to;
        writes = inr (other, d.writes);
      };
}

pub fault_after : (input : List ℕ) (fault : InputFault) (outcome : Outcome) (a b : DepotSeen) → outcome ≡ outcome_of_fault fault → AfterReads input (◌≡◌ {A = Result Input InputFault} (Err fault) (Err input_fault.ReadFault)) a b → AfterInput input outcome a b
fault_after input fault outcome a b is after =
    let P : Outcome → Type 0 = λ o. AfterInput input o a b in
    subst P (sym is) (by fault after)
  where
    by : (f : InputFault) → AfterReads input (◌≡◌ {A = Result Input InputFault} (Err f) (Err input_fault.ReadFault)) a b → AfterInput input (outcome_of_fault f) a b
    by (input_fault.Refused r) p = no_input_after input _ _ a b p (λ e. cc) (λ e. cc) (λ e. cc)
    by input_fault.ReadFault p = no_input_after input _ _ a b p (λ _. refl) (λ _. refl) (λ e. cc)
    by input_fault.NoMemory p = no_input_after input _ _ a b p (λ e. cc) (λ e. cc) (λ e. cc)

-- a source that was taken leaves the files as they were
pub taken_written : (source : Source) (f : Type 0) (a b : DepotSeen) → AfterTaking source f a b → b.written ≡ a.written
taken_written (from_file name) f a b t = t.written
taken_written (from_seed seed large) f a b t = ap (λ (d : DepotSeen). d.written) t.0

-- a source that was taken, and then writes
pub source_after : (source : Source) (outcome : Outcome) (f : Type 0) (a b c : DepotSeen) → AfterTaking source f a b → (f → ⊥) → AfterWrites (outcome ≡ WriteFault) b c → outcome ≢ ReadFault → AfterSource source outcome a c
source_after (from_file name) outcome f a b c t fine w other = input_after name outcome f a b c t fine w other
source_after (from_seed seed large) outcome f a b c t fine w other = (subst (λ (d : DepotSeen). AfterWrites (outcome ≡ WriteFault) d c) t.0 w, other)

-- nothing was written
no_writes : (f : Type 0) (d : DepotSeen) → (f → ⊥) → AfterWrites f d d
no_writes f d none = record {
  inputs = refl;
  is_exact = refl;
  reads_later = λ name. omega arith;
  writes_later = omega arith;
  cause = λ x. absurd (none x);
  exact = λ e. record { reads = λ name. refl; writes = inr (none, refl) };
}

-- a source that gave no input
pub source_fault_after : (source : Source) (fault : InputFault) (outcome : Outcome) (a b : DepotSeen) → outcome ≡ outcome_of_fault fault → AfterTaking source (◌≡◌ {A = Result Input InputFault} (Err fault) (Err input_fault.ReadFault)) a b → AfterSource source outcome a b
source_fault_after (from_file name) fault outcome a b is t = fault_after name fault outcome a b is t
source_fault_after (from_seed seed large) fault outcome a b is t =
    let P : Outcome → Type 0 = λ o. AfterWrites (o ≡ WriteFault) a b × (o ≢ ReadFault) in
    let Q : DepotSeen → Type 0 = λ d. AfterWrites (outcome_of_fault fault ≡ WriteFault) a d in
    let n = other fault t.1 in
    subst P (sym is) (subst Q (sym t.0) (no_writes (outcome_of_fault fault ≡ WriteFault) a n.0), n.1)
  where
    other : (f : InputFault) → (◌≡◌ {A = Result Input InputFault} (Err f) (Err input_fault.ReadFault) → ⊥) → (outcome_of_fault f ≢ WriteFault) × (outcome_of_fault f ≢ ReadFault)
    other (input_fault.Refused r) none = (λ e. cc, λ e. cc)
    other input_fault.ReadFault none = absurd (none refl)
    other input_fault.NoMemory none = (λ e. cc, λ e. cc)

-- a depot that was not called
untouched : (input : List ℕ) (outcome : Outcome) (d : DepotSeen) → outcome ≢ ReadFault → outcome ≢ WriteFault → AfterInput input outcome d d
untouched input outcome d read write = record {
  inputs = refl;
  read_cause = λ is. absurd (read is);
  write_cause = λ is. absurd (write is);
  exact = λ e. record { reads = inr (read, refl); others = λ name. inl refl; writes = inr (write, refl) };
}

-- words that are refused are no fault of reading or writing
usage_is_other : (f : UsageFault) → (outcome_of_usage f ≢ ReadFault) × (outcome_of_usage f ≢ WriteFault)
usage_is_other usage_fault.NotTheCommand = (λ e. cc, λ e. cc)
usage_is_other usage_fault.NoInput = (λ e. cc, λ e. cc)
usage_is_other usage_fault.TwoInputs = (λ e. cc, λ e. cc)
usage_is_other usage_fault.Large = (λ e. cc, λ e. cc)
usage_is_other usage_fault.Workers = (λ e. cc, λ e. cc)
usage_is_other usage_fault.Seed = (λ e. cc, λ e. cc)
usage_is_other usage_fault.Prefix = (λ e. cc, λ e. cc)
usage_is_other usage_fault.NotBuilt = (λ e. cc, λ e. cc)
usage_is_other usage_fault.NoMemory = (λ e. cc, λ e. cc)

pub usage_after : (told : Result Arguments UsageFault) (fault : UsageFault) (outcome : Outcome) (d : DepotSeen) → outcome ≡ outcome_of_usage fault → AfterCall told outcome d d
usage_after told fault outcome d is =
    let P : Outcome → Type 0 = λ o. AfterCall told o d d in
    subst P (sym is) (of told)
  where
    by : (source : Source) → AfterSource source (outcome_of_usage fault) d d
    by (from_file name) = untouched name _ d (usage_is_other fault).0 (usage_is_other fault).1
    by (from_seed seed large) = (no_writes (outcome_of_usage fault ≡ WriteFault) d (usage_is_other fault).1, (usage_is_other fault).0)

    of : (t : Result Arguments UsageFault) → AfterCall t (outcome_of_usage fault) d d
    of (Ok arguments) = by arguments.source
    of (Err f) = refl
