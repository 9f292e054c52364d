-- What accepted words come to, with the file that they name or the deck of their seed.
use Rattle.std.specs.Prelude.{◌≡◌, ℕ, Bool, false, List, Option, Result, Ok, Err, if◌then◌else◌}
use Rattle.problem_set.specs.Settings.{Settings}
use Rattle.input_file.specs.Blocks.{Blocks}
use Rattle.mesh_outside.specs.declared.files.File.{File}
use Rattle.input_file.specs.Decks.{and_then}
use Rattle.deck_generator.specs.Generated.{generated}
use Rattle.mesh_words.specs.Arguments.{Arguments, Source, from_file, from_seed}
use Rattle.mesh_input.specs.declared.fault.Refusal.{Refusal}
use Rattle.mesh_input.specs.declared.fault.Refusal.TheVariants.{NotBuilt}
use Rattle.mesh_input.specs.Input.{SeenInput, deck_read, input_with, seen_input}
use Rattle.mesh_input.specs.declared.input.Input.{Input}
use Rattle.mesh_input.specs.declared.fault.InputFault.{InputFault}
use Rattle.mesh_input.specs.declared.fault.InputFault.TheVariants.{Refused, ReadFault, NoMemory}
use Rattle.mesh_input.specs.File.{HasInput}

-- the problem is run, the deck is listed, or the input is refused
pub data Verdict : Type 0 where
  runs : Settings → Verdict
  lists : Blocks → Verdict
  refused : Refusal → Verdict

-- whether the large deck of a seed is asked for
abbrev pub is_large : Source → Bool
is_large (from_file name) = false
is_large (from_seed seed large) = large

-- what an accepted input comes to: where it is not listed, its problem is run; the large deck of a seed is not run yet
abbrev pub verdict_on : Arguments → SeenInput → Verdict
verdict_on arguments input =
    if arguments.prints_deck then lists input.deck
    else (if is_large arguments.source then refused NotBuilt else runs input.problem)

-- what the deck, the overrides and the problem come to; their first fault refuses the input
abbrev pub verdict_by : Arguments → Result SeenInput Refusal → Verdict
verdict_by arguments (Ok input) = verdict_on arguments input
verdict_by arguments (Err refusal) = refused refusal

-- the deck that a source gives, or the fault of its bytes: of a file those that it has, where the depot tells its inputs
abbrev pub GivesDeck : Option (List File) → Source → Result Blocks Refusal → Type 0
GivesDeck inputs (from_file name) deck = (bytes : List ℕ) × (HasInput inputs name bytes × (deck_read bytes ≡ deck))
GivesDeck inputs (from_seed seed large) deck = deck ≡ Ok (generated seed large)

-- the input that a deck and the overrides of the words give, or the first fault
abbrev pub input_by : Arguments → Result Blocks Refusal → Result SeenInput Refusal
input_by arguments deck = and_then deck (λ d. input_with d arguments.overrides)

-- this is what the source and the overrides of accepted words give
pub record GivesInput (inputs : Option (List File)) (arguments : Arguments) (given : Result SeenInput Refusal) : Type 0 where
  pub deck : Result Blocks Refusal
  pub is_deck : GivesDeck inputs arguments.source deck
  pub given_is : input_by arguments deck ≡ given

-- what accepted words come to with a deck
abbrev pub verdict : Arguments → Result Blocks Refusal → Verdict
verdict arguments deck = verdict_by arguments (input_by arguments deck)

-- this is what accepted words come to
pub record ComesTo (inputs : Option (List File)) (arguments : Arguments) (v : Verdict) : Type 0 where
  pub given : Result SeenInput Refusal
  pub is_given : GivesInput inputs arguments given
  pub verdict_is : verdict_by arguments given ≡ v

-- what is answered of accepted words is what their source gives; a fault of reading and want of memory say nothing of it
abbrev pub AnswersSource : Option (List File) → Arguments → Result Input InputFault → Type 0
AnswersSource inputs arguments (Ok input) = GivesInput inputs arguments (Ok (seen_input input))
AnswersSource inputs arguments (Err (Refused refusal)) = GivesInput inputs arguments (Err refusal)
AnswersSource inputs arguments (Err ReadFault) = Unit {0}
AnswersSource inputs arguments (Err NoMemory) = Unit {0}
