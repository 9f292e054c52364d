-- What the words of a command line say.
use Rattle.std.specs.Prelude.{ℕ, Bool, List, Option, Some, None, Result, Ok, Err, codes, unwrap_or, if◌then◌else◌}
use Rattle.std.specs.Option.{option_map_or}
use Rattle.std.specs.Str.Parse.{digits_value}
use Rattle.clap.specs.Words.{Row, Text, matches_of}
use Rattle.mesh_words.specs.Command.{command, are_taken}
use Rattle.mesh_words.specs.RawArguments.{RawArguments, raw_of, overrides_by, first_fault}
use Rattle.mesh_words.specs.declared.fault.UsageFault.{UsageFault}
use Rattle.mesh_words.specs.declared.fault.UsageFault.TheVariants.{NotTheCommand, NoInput}

-- where the deck comes from: the file of a name, or a seed, large or small
pub data Source : Type 0 where
  from_file : Text → Source
  from_seed : ℕ → Bool → Source

-- where the deck comes from, the prefix of the files' names, the number of workers, whether the deck is printed, the overrides
pub record Arguments : Type 0 where
  pub source : Source
  pub prefix : Text
  pub workers : ℕ
  pub prints_deck : Bool
  pub overrides : List Text

-- the seed, if there is one
abbrev pub seed_of : Option Text → Bool → Option Source
seed_of None large = None
seed_of (Some text) large = Some (from_seed (digits_value 10 text) large)

-- the file, or else the seed
abbrev pub source_by : Option Text → Option Text → Bool → Option Source
source_by (Some name) seed large = Some (from_file name)
source_by None seed large = seed_of seed large

abbrev pub source_of : RawArguments → Option Source
source_of raw = source_by raw.input raw.seed raw.large

-- the arguments with this source: the prefix is `mesh` and there is one worker where the words do not say
abbrev pub arguments_with : RawArguments → List Text → Option Source → Result Arguments UsageFault
arguments_with raw overrides None = Err NoInput
arguments_with raw overrides (Some source) = Ok (record {
  source = source;
  prefix = unwrap_or raw.prefix (codes "mesh");
  workers = option_map_or (digits_value 10) raw.workers 1;
  prints_deck = raw.prints_deck;
  overrides = overrides;
})

-- the arguments, or the first fault
abbrev pub arguments_or : RawArguments → List Text → Option UsageFault → Result Arguments UsageFault
arguments_or raw overrides (Some fault) = Err fault
arguments_or raw overrides None = arguments_with raw overrides (source_of raw)

-- the arguments in rows of the command, or the first fault
abbrev pub arguments_of_rows : List Row → Result Arguments UsageFault
arguments_of_rows rows = arguments_or (raw_of rows) (overrides_by rows) (first_fault (raw_of rows))

-- the arguments in some words, or why they are refused: first where they are not those of the command, then by the first rule
abbrev pub arguments_of : List Text → Result Arguments UsageFault
arguments_of words = if are_taken words then arguments_of_rows (matches_of command words) else Err NotTheCommand
