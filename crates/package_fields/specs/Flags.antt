use Rattle.std.specs.Prelude.{◌==◌, ◌&&◌, ◌||◌, if◌then◌else◌, not, ℕ, Bool, List, count_by}
use Rattle.std.specs.List.{list_any, list_all}
use Rattle.package_fields.specs.declared.flag.Flag.{Flag}
use Rattle.package_fields.specs.declared.flag.Flag.TheVariants.{Cell, Independent, Derived, OneCopy, FillGhost, WithFluxes, Sparse}

-- the place of a flag in the list of all flags
abbrev pub number_of : Flag → ℕ
number_of Cell = 0
number_of Independent = 1
number_of Derived = 2
number_of OneCopy = 3
number_of FillGhost = 4
number_of WithFluxes = 5
number_of Sparse = 6

-- whether both are the same flag
abbrev pub same_flag : Flag → Flag → Bool
same_flag a b = number_of a == number_of b

-- whether a flag is given
abbrev pub has : Flag → List Flag → Bool
has flag flags = list_any (λ f. same_flag f flag) flags

-- whether no flag is given twice
abbrev pub none_twice : List Flag → Bool
none_twice flags = list_all (λ f. count_by (λ g. same_flag g f) flags == 1) flags

-- whether exactly one of the two holds
abbrev pub one_of : Bool → Bool → Bool
one_of a b = if a then not b else b

-- whether a field may have these flags together
abbrev pub permitted : List Flag → Bool
permitted flags =
    none_twice flags && has Cell flags && one_of (has Independent flags) (has OneCopy flags)
    && not (has Derived flags)
    && (not (has WithFluxes flags) || (has Independent flags && has FillGhost flags))
