-- What is read at a key of a block.
use Rattle.std.specs.Prelude.{◌==◌, ◌&&◌, ◌||◌, nat_le, unsigned_abs, ℕ, ℤ, pos, Bool, List, Option, Some, None, Result}
use Rattle.std.specs.Str.{bytes_eq}
use Rattle.std.specs.Map.{lookup}
use Rattle.input_file.specs.Texts.{Text}
use Rattle.input_file.specs.Blocks.{Blocks, entry}
use Rattle.deck_values.specs.declared.fault.ProblemFault.{ProblemFault}
use Rattle.deck_values.specs.declared.fault.ProblemFault.TheVariants.{Missing, BadValue, Limit}
use Rattle.deck_values.specs.Reading.{◌>>=◌, or_fault, only_if}
use Rattle.deck_values.specs.Numbers.{number_of, signed_of}

-- what a word stands for
abbrev pub named : {A : Type 0} → List (Text × A) → Text → Option A
named words text = lookup (bytes_eq text) words

-- what a text is by its form; where it is absent, the default; where there is none, it is missing
abbrev pub as_form : {A : Type 0} → (Text → Option A) → Text → Text → Option A → Option Text → Result A ProblemFault
as_form form block key default (Some text) = or_fault (form text) (BadValue block key)
as_form form block key default None = or_fault default (Missing block key)

-- what is read at a key by its form
abbrev pub value_at : {A : Type 0} → (Text → Option A) → Blocks → Text → Text → Option A → Result A ProblemFault
value_at form d block key default = as_form form block key default (entry d block key)

-- a number from the least to the greatest
unfoldable pub number : Blocks → Text → Text → ℕ → ℕ → Option ℕ → Result ℕ ProblemFault
number d block key least greatest default = do
  n ← value_at number_of d block key default
  only_if (nat_le least n && nat_le n greatest) n (Limit block key (pos n))

-- 1, or a number from the least to the greatest
unfoldable pub number_or_one : Blocks → Text → Text → ℕ → ℕ → Option ℕ → Result ℕ ProblemFault
number_or_one d block key least greatest default = do
  n ← value_at number_of d block key default
  only_if (n == 1 || (nat_le least n && nat_le n greatest)) n (Limit block key (pos n))

-- a signed number that is allowed
unfoldable pub signed : Blocks → Text → Text → (ℤ → Bool) → Option ℤ → Result ℤ ProblemFault
signed d block key allowed default = do
  z ← value_at signed_of d block key default
  only_if (allowed z) z (Limit block key z)

-- a signed number is at most so large in amount
abbrev pub is_within : ℕ → ℤ → Bool
is_within greatest z = nat_le (unsigned_abs z) greatest
