-- Override words: `block/key=value`.
use Rattle.std.specs.Prelude.{◌&&◌, Option, Some, None, Result, Ok, Err, cond}
use Rattle.std.specs.List.{list_any, before_first, after_first, before_last, after_last}
use Rattle.input_file.specs.Texts.{Text, is_equals, is_slash, trimmed, is_block_name, is_key, is_value}
use Rattle.input_file.specs.Blocks.{Blocks, set}
use Rattle.input_file.specs.declared.fault.DeckFault.{DeckFault}
use Rattle.input_file.specs.declared.fault.DeckFault.TheVariants.{BadOverride}

-- what an override word says: the value of a key in a block
pub record Override : Type 0 where
  pub block : Text
  pub key : Text
  pub value : Text

-- an override of these three texts, if they are well formed
abbrev pub override_if_formed : Text → Text → Text → Option Override
override_if_formed block key value = cond (is_block_name block && is_key key && is_value value) (Some (record { block = block; key = key; value = value })) None

-- an override by what stands before and after the first `=`: the block and the key stand around the last `/` before it
abbrev pub override_around : Text → Text → Option Override
override_around path value = cond (list_any is_slash path) (override_if_formed (trimmed (before_last is_slash path)) (trimmed (after_last is_slash path)) (trimmed value)) None

-- the override that a word is, if it is of that form
abbrev pub override_of : Text → Option Override
override_of word = cond (list_any is_equals word) (override_around (before_first is_equals word) (after_first is_equals word)) None

-- the deck with an override set, or the fault where there is none
abbrev pub with_override : Blocks → Option Override → Result Blocks DeckFault
with_override d None = Err BadOverride
with_override d (Some o) = Ok (set d o.block o.key o.value)

-- the deck with the override that a word is, or the fault where the word is none
abbrev pub overridden : Blocks → Text → Result Blocks DeckFault
overridden d word = with_override d (override_of word)
