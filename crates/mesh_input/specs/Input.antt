-- The input that bytes and overrides give, or the first fault: that of the bytes, then that of the first word that is
-- no override, then that of the problem.
use Rattle.std.specs.Prelude.{◌≡◌, ℕ, ◌+◌, List, [], ◌∷◌, Result, Ok, Err}
use Rattle.input_file.specs.Texts.{Text}
use Rattle.input_file.specs.Blocks.{Blocks}
use Rattle.input_file.specs.Decks.{and_then, deck}
use Rattle.input_file.specs.Overrides.{overridden}
use Rattle.input_file.specs.declared.fault.DeckFault.{DeckFault}
use Rattle.deck_values.specs.declared.fault.ProblemFault.{ProblemFault}
use Rattle.problem_set.specs.Settings.{Settings}
use Rattle.problem_set.specs.Problems.{problem}
use Rattle.problem_set.specs.SettingsOf.{settings_of}
use Rattle.mesh_input.specs.declared.input.Input.{Input}
use Rattle.mesh_input.specs.declared.fault.Refusal.{Refusal}
use Rattle.mesh_input.specs.declared.fault.Refusal.TheVariants.{Deck, Override, Problem}
use Rattle.mesh_input.specs.declared.fault.InputFault.{InputFault}
use Rattle.mesh_input.specs.declared.fault.InputFault.TheVariants.{Refused, ReadFault, NoMemory}

-- a deck with its overrides, and the problem that it gives
pub record SeenInput : Type 0 where
  pub deck : Blocks
  pub problem : Settings

-- a deck, or the fault of its bytes
abbrev pub or_deck_fault : Result Blocks DeckFault → Result Blocks Refusal
or_deck_fault (Ok d) = Ok d
or_deck_fault (Err fault) = Err (Deck fault)

-- a deck with the override of this number, or that it is none
abbrev pub or_override_fault : ℕ → Result Blocks DeckFault → Result Blocks Refusal
or_override_fault number (Ok d) = Ok d
or_override_fault number (Err fault) = Err (Override number)

-- a problem, or the fault of its deck
abbrev pub or_problem_fault : Result Settings ProblemFault → Result Settings Refusal
or_problem_fault (Ok p) = Ok p
or_problem_fault (Err fault) = Err (Problem fault)

-- a deck with overrides in their order, where the first has this number; the first word that is none decides
abbrev pub overridden_by : ℕ → Blocks → List Text → Result Blocks Refusal
overridden_by number d [] = Ok d
overridden_by number d (word ∷ words) =
    and_then (or_override_fault number (overridden d word)) (λ e. overridden_by (number + 1) e words)

-- the deck of bytes
abbrev pub deck_read : List ℕ → Result Blocks Refusal
deck_read bytes = or_deck_fault (deck bytes)

-- the problem of a deck
abbrev pub problem_read : Blocks → Result Settings Refusal
problem_read d = or_problem_fault (problem d)

-- the input that a deck gives
abbrev pub input_of_deck : Blocks → Result SeenInput Refusal
input_of_deck d = and_then (problem_read d) (λ p. Ok (record { deck = d; problem = p }))

-- the input that a deck and overrides give; overrides are counted from 1
abbrev pub input_with : Blocks → List Text → Result SeenInput Refusal
input_with d overrides = and_then (overridden_by 1 d overrides) input_of_deck

-- the input that bytes and overrides give
abbrev pub accepted_input : List ℕ → List Text → Result SeenInput Refusal
accepted_input bytes overrides = and_then (deck_read bytes) (λ d. input_with d overrides)

-- what is answered, seen by `view`, is what the definition gives; want of memory alone is free
abbrev pub Answers : {T V : Type 0} → (T → V) → Result T InputFault → Result V Refusal → Type 0
Answers view (Ok x) given = given ≡ Ok (view x)
Answers view (Err (Refused refusal)) given = given ≡ Err refusal
Answers view (Err ReadFault) given = ⊥
Answers view (Err NoMemory) given = Unit {0}

-- an input as contracts see it
abbrev pub seen_input : Input → SeenInput
seen_input input = record { deck = input.deck; problem = settings_of input.problem }
