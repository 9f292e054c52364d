-- The command of the program, and what its words give.
use Rattle.std.specs.Prelude.{ℕ, Bool, true, false, List, [], ◌∷◌, Some, codes}
use Rattle.std.specs.Option.{option_map_or}
use Rattle.std.specs.Str.{bytes_eq}
use Rattle.clap.specs.Lexer.{usize_max}
use Rattle.clap.specs.Words.{App, Kinds, Row, Rule, Text, new_app, new_rule, with_rule, fault_of, first_of}
use Rattle.clap.specs.declared.builder.action.ArgAction.TheVariants.{SetTrue}

-- an option with one value, by its letter
abbrev pub option_rule : Text → ℕ → Rule
option_rule id letter = record (new_rule id) { short = Some letter }

-- a flag, by its letter
abbrev pub flag_rule : Text → ℕ → Rule
flag_rule id letter = record (new_rule id) { short = Some letter; action = Some SetTrue }

-- the words that are left: any number of overrides
abbrev pub overrides_rule : Rule
overrides_rule = record (new_rule (codes "overrides")) {
  range = Some (record {
    start_inclusive = 0;
    end_inclusive = usize_max;
  });
}

-- a command with no argument, without the program's name among its words and without help and version flags
abbrev pub bare : App
bare = record (new_app (codes "parthenon_whole")) {
  top = record ((new_app (codes "parthenon_whole")).top) {
    no_binary_name = true;
    disable_help_flag = true;
    disable_version_flag = true;
  };
}

-- with the inputs: -i FILE, -g N and -l
abbrev pub with_inputs : App → App
with_inputs a = with_rule (with_rule (with_rule a (option_rule (codes "input") 105)) (option_rule
    (codes "generate") 103)) (flag_rule (codes "large") 108)

-- with the values of a run: -w N and -d PREFIX
abbrev pub with_values : App → App
with_values a = with_rule (with_rule a (option_rule (codes "workers") 119)) (option_rule (codes "prefix") 100)

-- with the flags -t and -n, and the overrides
abbrev pub with_rest : App → App
with_rest a = with_rule (with_rule (with_rule a (flag_rule (codes "events") 116)) (flag_rule
    (codes "print") 110)) overrides_rule

-- the command: `(-i FILE | -g N [-l]) [-w N] [-d PREFIX] [-t] [-n] [block/name=value ..]`
unfoldable pub command : App
command = with_rest (with_values (with_inputs bare))

-- no kind of error is named
abbrev pub names_none : Kinds → Bool
names_none [] = true
names_none (k ∷ kinds) = false

-- the words are those of the command: clap names no kind of error for them
abbrev pub are_taken : List Text → Bool
are_taken words = names_none (fault_of command words)

-- a flag is given
abbrev pub is_set : Text → List Row → Bool
is_set id rows = option_map_or (λ t. bytes_eq t (codes "true")) (first_of id rows) false
