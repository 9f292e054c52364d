-- One step after another: the first that stops decides.
use Rattle.std.proofs.Common.{◌≡◌, ℕ, ◌⊎◌, inl, inr, List, Result, Ok, Err, sym, ◌∙◌, ap, subst}
use Rattle.input_file.specs.Texts.{Text}
use Rattle.input_file.specs.Blocks.{Blocks}
use Rattle.input_file.specs.Decks.{and_then}
use Rattle.input_file.specs.declared.fault.DeckFault.{DeckFault}
use Rattle.input_file.specs.declared.fault.DeckFault.TheVariants as deck_fault
use Rattle.problem_set.specs.Settings.{Settings}
use Rattle.deck_values.specs.declared.fault.ProblemFault.{ProblemFault}
use Rattle.deck_values.specs.declared.fault.ProblemFault.TheVariants as problem_fault
use Rattle.mesh_input.specs.declared.fault.Refusal.{Refusal}
use Rattle.mesh_input.specs.declared.fault.InputFault.{InputFault}
use Rattle.mesh_input.specs.declared.fault.InputFault.TheVariants.{Refused, ReadFault, NoMemory}
use Rattle.mesh_input.specs.Fault.{stop_of_deck, stop_of_override, stop_of_problem}
use Rattle.mesh_input.specs.Input.{accepted_input, input_of_deck, deck_read, or_deck_fault, or_override_fault, or_problem_fault, overridden_by, problem_read}
use Rattle.mesh_input.specs.Input.{Answers}

-- a fault of the bytes stops the call as it should
pub deck_stops : {T : Type 0} (view : T → Blocks) (given : Result Blocks DeckFault) (fault : DeckFault) (stop : InputFault) → stop ≡ stop_of_deck fault → (fault ≡ deck_fault.NoMemory) ⊎ (given ≡ Err fault) → Answers view (Err stop) (or_deck_fault given)
deck_stops view given fault stop is told =
    let P : InputFault → Type 0 = λ s. Answers view (Err s) (or_deck_fault given) in
    subst P (sym is) (by fault told)
  where
    by : (f : DeckFault) → (f ≡ deck_fault.NoMemory) ⊎ (given ≡ Err f) → Answers view (Err (stop_of_deck f)) (or_deck_fault given)
    by (deck_fault.Syntax n) (inl e) = cc
    by (deck_fault.Syntax n) (inr e) = ap or_deck_fault e
    by (deck_fault.NoBlock n) (inl e) = cc
    by (deck_fault.NoBlock n) (inr e) = ap or_deck_fault e
    by (deck_fault.NotText n) (inl e) = cc
    by (deck_fault.NotText n) (inr e) = ap or_deck_fault e
    by deck_fault.BadOverride (inl e) = cc
    by deck_fault.BadOverride (inr e) = ap or_deck_fault e
    by deck_fault.TooLong (inl e) = cc
    by deck_fault.TooLong (inr e) = ap or_deck_fault e
    by deck_fault.NoMemory h = tt

-- a word that is no override stops the call as it should
pub override_stops : {T : Type 0} (view : T → Blocks) (number : ℕ) (given : Result Blocks DeckFault) (fault : DeckFault) (stop : InputFault) → stop ≡ stop_of_override number fault → (fault ≡ deck_fault.NoMemory) ⊎ (given ≡ Err fault) → Answers view (Err stop) (or_override_fault number given)
override_stops view number given fault stop is told =
    let P : InputFault → Type 0 = λ s. Answers view (Err s) (or_override_fault number given) in
    subst P (sym is) (by fault told)
  where
    by : (f : DeckFault) → (f ≡ deck_fault.NoMemory) ⊎ (given ≡ Err f) → Answers view (Err (stop_of_override number f)) (or_override_fault number given)
    by (deck_fault.Syntax n) (inl e) = cc
    by (deck_fault.Syntax n) (inr e) = ap (or_override_fault number) e
    by (deck_fault.NoBlock n) (inl e) = cc
    by (deck_fault.NoBlock n) (inr e) = ap (or_override_fault number) e
    by (deck_fault.NotText n) (inl e) = cc
    by (deck_fault.NotText n) (inr e) = ap (or_override_fault number) e
    by deck_fault.BadOverride (inl e) = cc
    by deck_fault.BadOverride (inr e) = ap (or_override_fault number) e
    by deck_fault.TooLong (inl e) = cc
    by deck_fault.TooLong (inr e) = ap (or_override_fault number) e
    by deck_fault.NoMemory h = tt

-- a fault of the problem stops the call as it should
pub problem_stops : {T : Type 0} (view : T → Settings) (given : Result Settings ProblemFault) (fault : ProblemFault) (stop : InputFault) → stop ≡ stop_of_problem fault → (fault ≡ problem_fault.NoMemory) ⊎ (given ≡ Err fault) → Answers view (Err stop) (or_problem_fault given)
problem_stops view given fault stop is told =
    let P : InputFault → Type 0 = λ s. Answers view (Err s) (or_problem_fault given) in
    subst P (sym is) (by fault told)
  where
    by : (f : ProblemFault) → (f ≡ problem_fault.NoMemory) ⊎ (given ≡ Err f) → Answers view (Err (stop_of_problem f)) (or_problem_fault given)
    by (problem_fault.Missing b n) (inl e) = cc
    by (problem_fault.Missing b n) (inr e) = ap or_problem_fault e
    by (problem_fault.BadValue b n) (inl e) = cc
    by (problem_fault.BadValue b n) (inr e) = ap or_problem_fault e
    by (problem_fault.Limit b n v) (inl e) = cc
    by (problem_fault.Limit b n v) (inr e) = ap or_problem_fault e
    by (problem_fault.Rates l n) (inl e) = cc
    by (problem_fault.Rates l n) (inr e) = ap or_problem_fault e
    by (problem_fault.Bound n) (inl e) = cc
    by (problem_fault.Bound n) (inr e) = ap or_problem_fault e
    by (problem_fault.Fields f) (inl e) = cc
    by (problem_fault.Fields f) (inr e) = ap or_problem_fault e
    by problem_fault.NoMemory h = tt

-- what stops the first of two steps stops both
pub first_stops : {T U V W : Type 0} (view : T → V) (later : U → W) (given : Result V Refusal) (next : V → Result W Refusal) (stop : InputFault) → Answers view (Err stop) given → Answers later (Err stop) (and_then given next)
first_stops view later given next (Refused r) told = ap (λ v. and_then v next) told
first_stops view later given next ReadFault told = absurd told
first_stops view later given next NoMemory told = tt

-- after a first step that goes on, the second decides
pub second_stops : {U V W : Type 0} (later : U → W) (given : Result V Refusal) (next : V → Result W Refusal) (x : V) (stop : InputFault) → given ≡ Ok x → Answers later (Err stop) (next x) → Answers later (Err stop) (and_then given next)
second_stops {V = V} later given next x stop is told =
    let P : Result V Refusal → Type 0 = λ v. Answers later (Err stop) (and_then v next) in
    subst P (sym is) told

-- all three steps go on
pub all_accepted : (bytes : List ℕ) (words : List Text) (d e : Blocks) (p : Settings) → deck_read bytes ≡ Ok d → overridden_by 1 d words ≡ Ok e → problem_read e ≡ Ok p → accepted_input bytes words ≡ Ok (record { deck = e; problem = p })
all_accepted bytes words d e p first second third =
    ap (λ (v : Result Blocks Refusal). and_then v (λ w. and_then (overridden_by 1 w words) input_of_deck)) first
    ∙ ap (λ (v : Result Blocks Refusal). and_then v input_of_deck) second
    ∙ ap (λ (v : Result Settings Refusal). and_then v (λ w. Ok (record { deck = e; problem = w }))) third
