-- Where a place stands in a pack.
use Rattle.std.specs.Prelude.{◌≡◌, ℕ, Bool, ◌&&◌, ◌==◌, List, Some, IfSome, IfNone, Option, slice_get}
use Rattle.sparse_pool.specs.declared.place.Place.{Place}

-- whether both are the same place
abbrev pub same_place : Place → Place → Bool
same_place a b = b.block == a.block && b.field == a.field

-- an answer that is a number at which a place is listed, or nothing where it is listed at no number
pub record IsIndex (places : List Place) (at : Place) (answer : Option ℕ) : Type 0 where
  pub found : IfSome answer (λ i. slice_get places i ≡ Some at)
  pub absent : IfNone answer ((i : ℕ) → slice_get places i ≡ Some at → ⊥)
