-- The worked places, computed.
use Rattle.std.proofs.Common.{◌≡◌, [], ◌∷◌, refl}
use Rattle.block_layout.specs.declared.layout.Layout.{Layout}
use Rattle.block_geometry.specs.Laws.{PlaneOfFour, RowOfFour, WorkedPlaces}

row_of_four : (l : Layout) → l.dims ≡ 1 → l.cells ≡ 4 ∷ 1 ∷ 1 ∷ [] → RowOfFour l
row_of_four l d c = rw d (rw c (refl, refl, refl, refl, refl))

plane_of_four : (l : Layout) → l.dims ≡ 2 → l.cells ≡ 4 ∷ 4 ∷ 1 ∷ [] → PlaneOfFour l
plane_of_four l d c = rw d (rw c (refl, refl, refl))

pub worked_places : WorkedPlaces
worked_places = record { row = row_of_four; plane = plane_of_four }
