-- What the keys of a generated deck are set to.
use Rattle.std.specs.Prelude.{◌++◌, ◌-◌, ℕ, List, map, codes, Bool, true}
use Rattle.std.specs.List.{range_with_len, join_with_byte}
use Rattle.std.specs.Fmt.{decimal}
use Rattle.input_file.specs.Texts.{Text, is_value}
use Rattle.deck_generator.specs.declared.values.Value.{Value}
use Rattle.deck_generator.specs.declared.values.Value.TheVariants.{Word, Number, Negative, Label, NumbersBelow}

-- the label of the field of the pool with a number, as `s_3`
abbrev pub field_label : ℕ → Text
field_label n = codes "s_" ++ decimal n

-- the numbers below a count, with commas between them, as `0,1,2`
abbrev pub numbers_below : ℕ → Text
numbers_below count = join_with_byte 44 (map decimal (range_with_len 0 count))

-- a number with a `-` before it
abbrev pub negative_text : ℕ → Text
negative_text n = codes "-" ++ decimal n

-- the text of a value
abbrev pub value_text : Value → Text
value_text (Word word) = word.now
value_text (Number n) = decimal n
value_text (Negative n) = negative_text n
value_text (Label n) = field_label n
value_text (NumbersBelow count) = numbers_below count

-- a value that may stand in a deck: words may not, where they are not well formed
abbrev pub is_formed : Value → Bool
is_formed (Word word) = is_value word.now
is_formed (Number n) = true
is_formed (Negative n) = true
is_formed (Label n) = true
is_formed (NumbersBelow count) = true
