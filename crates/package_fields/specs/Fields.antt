use Rattle.std.specs.Prelude.{◌≡◌, ◌≤◌, ℕ, Bool, true, List, length, map, All}
use Rattle.std.specs.List.{list_any, IsDistinct}
use Rattle.std.specs.Str.{bytes_eq}
use Rattle.package_fields.specs.declared.field.Field.{Field}
use Rattle.package_fields.specs.Flags.{permitted}

-- the names of the packages that were added, and their fields by number
pub record Registered : Type 0 where
  pub packages : List (List ℕ)
  pub fields : List Field

-- the labels of some fields, in order
abbrev pub labels : List Field → List (List ℕ)
labels fields = map (λ f. f.label) fields

-- whether a name is among some names
abbrev pub is_among : List (List ℕ) → List ℕ → Bool
is_among names name = list_any (bytes_eq name) names

-- whether a label is that of one of some fields
abbrev pub has_label : List Field → List ℕ → Bool
has_label fields label = list_any (λ f. bytes_eq label f.label) fields

-- labels differ, so do the names of packages, flag sets are permitted, and there are at most 256 fields
pub record IsSound (packages : List (List ℕ)) (fields : List Field) : Type 0 where
  pub packages_differ : IsDistinct bytes_eq packages
  pub labels_differ : IsDistinct bytes_eq (labels fields)
  pub all_permitted : All (λ f. permitted f.flags ≡ true) fields
  pub few : length fields ≤ 256
