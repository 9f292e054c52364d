-- Why words or an input are refused, as it is printed.
use Rattle.std.specs.Prelude.{ℕ, List, ◌++◌, codes}
use Rattle.std.specs.Fmt.{decimal, signed_decimal}
use Rattle.input_file.specs.declared.fault.DeckFault.{DeckFault}
use Rattle.input_file.specs.declared.fault.DeckFault.TheVariants as deck_fault
use Rattle.package_fields.specs.declared.fault.FieldFault.{FieldFault}
use Rattle.package_fields.specs.declared.fault.FieldFault.TheVariants as field_fault
use Rattle.deck_values.specs.declared.fault.ProblemFault.{ProblemFault}
use Rattle.deck_values.specs.declared.fault.ProblemFault.TheVariants as problem_fault
use Rattle.mesh_words.specs.declared.fault.UsageFault.{UsageFault}
use Rattle.mesh_words.specs.declared.fault.UsageFault.TheVariants as usage_fault
use Rattle.mesh_input.specs.declared.fault.Refusal.{Refusal}
use Rattle.mesh_input.specs.declared.fault.Refusal.TheVariants as refusal

-- which rule refuses the words
abbrev pub usage_words : UsageFault → List ℕ
usage_words usage_fault.NotTheCommand = codes "words"
usage_words usage_fault.NoInput = codes "no input"
usage_words usage_fault.TwoInputs = codes "two inputs"
usage_words usage_fault.Large = codes "-l"
usage_words usage_fault.Workers = codes "-w"
usage_words usage_fault.Seed = codes "-g"
usage_words usage_fault.Prefix = codes "-d"
usage_words usage_fault.NotBuilt = codes "not built"
usage_words usage_fault.NoMemory = codes "no memory"

-- what is wrong with the bytes: lines are counted from 1, bytes from 0
abbrev pub deck_words : DeckFault → List ℕ
deck_words (deck_fault.Syntax number) = codes "line " ++ (decimal number ++ codes " syntax")
deck_words (deck_fault.NoBlock number) = codes "line " ++ (decimal number ++ codes " no block")
deck_words (deck_fault.NotText place) = codes "byte " ++ (decimal place ++ codes " not text")
deck_words deck_fault.BadOverride = codes "override"
deck_words deck_fault.TooLong = codes "too long"
deck_words deck_fault.NoMemory = codes "no memory"

-- what is wrong with the fields
abbrev pub field_words : FieldFault → List ℕ
field_words (field_fault.Twice name) = codes "field twice " ++ name
field_words (field_fault.BadFlags name) = codes "field flags " ++ name
field_words (field_fault.TooMany count) = codes "fields " ++ decimal count
field_words field_fault.NoMemory = codes "no memory"

-- a block and a key in it
abbrev pub place_words : List ℕ → List ℕ → List ℕ
place_words block key = block ++ (codes " " ++ key)

-- what is wrong with the problem
abbrev pub problem_words : ProblemFault → List ℕ
problem_words (problem_fault.Missing block name) = codes "missing " ++ place_words block name
problem_words (problem_fault.BadValue block name) = codes "value " ++ place_words block name
problem_words (problem_fault.Limit block name value) = codes "limit " ++ (block ++ (codes " " ++ (name ++
    (codes " = " ++ signed_decimal value))))
problem_words (problem_fault.Rates label total) = codes "rates " ++ (label ++ (codes " sum " ++ decimal total))
problem_words (problem_fault.Bound total) = codes "bound " ++ decimal total
problem_words (problem_fault.Fields fault) = field_words fault
problem_words problem_fault.NoMemory = codes "no memory"

-- why the input is refused
abbrev pub refusal_words : Refusal → List ℕ
refusal_words (refusal.Deck fault) = deck_words fault
refusal_words (refusal.Override number) = codes "override " ++ decimal number
refusal_words (refusal.Problem fault) = problem_words fault
refusal_words refusal.NotBuilt = codes "not built"
