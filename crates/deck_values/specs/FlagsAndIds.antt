-- The lists that keys of a field block are set to: flags and ids.
use Rattle.std.specs.Prelude.{◌==◌, nat_le, if◌then◌else◌, ℕ, Bool, List, [], ◌∷◌, Option, Some, None, option_and_then, option_map, codes}
use Rattle.std.specs.List.{list_any, slice_split}
use Rattle.std.specs.Ordering.{nat_cmp}
use Rattle.std.specs.BTreeSet.{insert_key}
use Rattle.input_file.specs.Texts.{Text, without_leading_by, without_trailing_by}
use Rattle.package_fields.specs.declared.flag.Flag.{Flag}
use Rattle.package_fields.specs.declared.flag.Flag.TheVariants.{Cell, Independent, Derived, OneCopy, FillGhost, WithFluxes, Sparse}
use Rattle.deck_values.specs.Numbers.{number_of}
use Rattle.deck_values.specs.BlockReader.{named}

-- the texts between commas
abbrev pub items_of : Text → List Text
items_of text = slice_split (λ b. b == 44) text

-- a space
abbrev pub is_space : ℕ → Bool
is_space b = b == 32

-- the text without the spaces at both ends
abbrev pub without_spaces : Text → Text
without_spaces text = without_trailing_by is_space (without_leading_by is_space text)

-- what each item stands for, where each stands for something
abbrev pub each_some : {A B : Type 0} → (A → Option B) → List A → Option (List B)
each_some f [] = Some []
each_some f (x ∷ xs) = option_and_then (λ y. option_map (λ ys. y ∷ ys) (each_some f xs)) (f x)

-- the flags by their names
abbrev pub flag_named : Text → Option Flag
flag_named =
    named ((codes "Cell", Cell) ∷ (codes "Independent", Independent) ∷ (codes "Derived", Derived) ∷ (codes "OneCopy", OneCopy) ∷ (codes "FillGhost", FillGhost) ∷ (codes "WithFluxes", WithFluxes) ∷ (codes "Sparse", Sparse) ∷ [])

-- a flag, with spaces around it dropped
abbrev pub flag_of : Text → Option Flag
flag_of item = flag_named (without_spaces item)

-- flags between commas
unfoldable pub flags_of : Text → Option (List Flag)
flags_of text = each_some flag_of (items_of text)

-- the greatest number of a field in its pool
abbrev pub greatest_id : ℕ
greatest_id = 65535

-- the number of a field in its pool
abbrev pub id_of : Text → Option ℕ
id_of item = option_and_then (λ n. if nat_le n greatest_id then Some n else None) (number_of item)

-- numbers, each put at its place among those that rise before it; none where one is there twice
abbrev pub rising_after : List ℕ → List ℕ → Option (List ℕ)
rising_after risen [] = Some risen
rising_after risen (n ∷ ns) = if list_any (λ m. n == m) risen then None else rising_after (insert_key nat_cmp risen n) ns

-- different ids between commas, by rising number
unfoldable pub ids_of : Text → Option (List ℕ)
ids_of text = option_and_then (rising_after []) (each_some id_of (items_of text))
