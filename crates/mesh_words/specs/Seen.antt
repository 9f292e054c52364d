-- What is answered, as contracts see it.
use Rattle.std.specs.Prelude.{◌≡◌, ◌⊎◌, ◌<◌, ◌^◌, Result, Ok, Err, map, option_map}
use Rattle.mesh_words.specs.RawArguments.{RawArguments}
use Rattle.mesh_words.specs.Arguments.{Arguments, Source, from_file, from_seed}
use Rattle.mesh_words.specs.declared.arguments.Source.{Source as words_source}
use Rattle.mesh_words.specs.declared.arguments.Source.TheVariants.{File, Seed}
use Rattle.mesh_words.specs.declared.raw_arguments.RawArguments.{RawArguments as raw_arguments}
use Rattle.mesh_words.specs.declared.arguments.Arguments.{Arguments as arguments}
use Rattle.mesh_words.specs.declared.fault.UsageFault.{UsageFault}
use Rattle.mesh_words.specs.declared.fault.UsageFault.TheVariants.{NoMemory}

-- raw arguments, with their texts by their bytes
abbrev pub seen_raw : raw_arguments → RawArguments
seen_raw raw = record {
  input = option_map (λ t. t.now) raw.input;
  seed = option_map (λ t. t.now) raw.seed;
  workers = option_map (λ t. t.now) raw.workers;
  prefix = option_map (λ t. t.now) raw.prefix;
  large = raw.large;
  events = raw.events;
  prints_deck = raw.prints_deck;
}

-- a source, with its text by its bytes
abbrev pub seen_source : words_source → Source
seen_source (File name) = from_file name.now
seen_source (Seed seed large) = from_seed seed large

-- a seed is below 2 ^ 31
abbrev pub HasSeed : words_source → Type 0
HasSeed (File name) = Unit {0}
HasSeed (Seed seed large) = seed < 2 ^ 31

-- arguments, with their texts by their bytes
abbrev pub seen_arguments : arguments → Arguments
seen_arguments a = record {
  source = seen_source a.source;
  prefix = a.prefix.now;
  workers = a.workers;
  prints_deck = a.prints_deck;
  overrides = map (λ t. t.now) a.overrides.items;
}

-- what is answered, seen by `view`, is what the definition gives; want of memory alone is free
abbrev pub Answers : {T V : Type 0} → (T → V) → Result T UsageFault → Result V UsageFault → Type 0
Answers view (Ok x) told = told ≡ Ok (view x)
Answers view (Err e) told = (e ≡ NoMemory) ⊎ (told ≡ Err e)
