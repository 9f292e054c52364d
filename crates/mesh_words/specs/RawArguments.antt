-- The options and flags of a command line, not yet tested, and the first rule that refuses them.
use Rattle.std.specs.Prelude.{◌&&◌, Bool, true, not, List, [], Option, Some, None, is_none, is_some, codes, unwrap_or, if◌then◌else◌}
use Rattle.std.specs.Option.{option_map_or}
use Rattle.clap.specs.Words.{Row, Text, first_of, all_of}
use Rattle.mesh_words.specs.Command.{is_set}
use Rattle.mesh_words.specs.Numbers.{is_workers, is_seed, is_prefix}
use Rattle.mesh_words.specs.declared.fault.UsageFault.{UsageFault}
use Rattle.mesh_words.specs.declared.fault.UsageFault.TheVariants.{NoInput, TwoInputs, Large, Workers, Seed, Prefix, NotBuilt}

-- the values of the options, and which flags are given
pub record RawArguments : Type 0 where
  pub input : Option Text
  pub seed : Option Text
  pub workers : Option Text
  pub prefix : Option Text
  pub large : Bool
  pub events : Bool
  pub prints_deck : Bool

-- the options and flags as they were read
abbrev pub raw_of : List Row → RawArguments
raw_of rows = record {
  input = first_of (codes "input") rows;
  seed = first_of (codes "generate") rows;
  workers = first_of (codes "workers") rows;
  prefix = first_of (codes "prefix") rows;
  large = is_set (codes "large") rows;
  events = is_set (codes "events") rows;
  prints_deck = is_set (codes "print") rows;
}

-- the overrides in their order
abbrev pub overrides_by : List Row → List Text
overrides_by rows = unwrap_or (all_of (codes "overrides") rows) []

-- the value is absent or passes the test
abbrev pub passes : (Text → Bool) → Option Text → Bool
passes test value = option_map_or test value true

-- the first rule on the values that refuses the arguments: -w, -g and -d in this order, and what is not built yet
abbrev pub first_bad_value : RawArguments → Option UsageFault
first_bad_value raw =
    if not (passes is_workers raw.workers) then Some Workers
    else (if not (passes is_seed raw.seed) then Some Seed
    else (if not (passes is_prefix raw.prefix) then Some Prefix
    else (if raw.events then Some NotBuilt
    else None)))

-- the first rule that refuses the arguments: the rules on the inputs come before those on the values
abbrev pub first_fault : RawArguments → Option UsageFault
first_fault raw =
    if is_none raw.input && is_none raw.seed then Some NoInput
    else (if is_some raw.input && is_some raw.seed then Some TwoInputs
    else (if raw.large && is_none raw.seed then Some Large
    else first_bad_value raw))
