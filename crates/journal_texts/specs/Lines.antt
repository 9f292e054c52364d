-- The lines of events.
use Rattle.std.specs.Prelude.{ℕ, ◌<◌, ◌^◌, List, ◌∷◌, ◌++◌, codes}
use Rattle.std.specs.List.{flat_map}
use Rattle.std.specs.Fmt.{decimal}
use Rattle.mesh_rules.specs.Texts.{line, named, three}
use Rattle.cycle_rounds.specs.Events.{Each}
use Rattle.sparse_pool.specs.declared.place.Place.{Place}
use Rattle.cycle_events.specs.declared.event.Event.{Event}
use Rattle.cycle_events.specs.declared.event.Event.TheVariants.{Take, Give, Deliver}

-- a place behind a space: ` 3.1` is field 1 on block 3
abbrev pub place_text : Place → List ℕ
place_text at = 32 ∷ decimal at.block ++ named (codes ".") at.field

abbrev pub places_text : List Place → List ℕ
places_text places = flat_map place_text places

-- the line of an event: `take 1 0 2 0.0 3.1` is seat 1 with task 2 of list 0 and two places, `give 1 0 2 made freed 3.1`
-- is its work, which frees a place, `deliver 0 7 made 3.1` is seat 0 with letter 7, which makes one
abbrev pub event_line : Event → List ℕ
event_line (Take seat list task places) = line (three (codes "take ") seat list task ++ places_text places)
event_line (Give seat list task made freed) =
    line (three (codes "give ") seat list task
    ++ codes " made" ++ places_text made ++ codes " freed" ++ places_text freed)
event_line (Deliver seat letter made) =
    line (named (codes "deliver ") seat ++ named (codes " ") letter ++ codes " made" ++ places_text made)

-- an event whose numbers are below 2^32
abbrev pub IsPlaceOfWords : Place → Type 0
IsPlaceOfWords at = (at.block < 2 ^ 32) × (at.field < 2 ^ 32)

abbrev pub IsOfWords : Event → Type 0
IsOfWords (Take seat list task places) =
    (seat < 2 ^ 32) × (list < 2 ^ 32) × (task < 2 ^ 32) × Each IsPlaceOfWords places
IsOfWords (Give seat list task made freed) =
    (seat < 2 ^ 32) × (list < 2 ^ 32) × (task < 2 ^ 32) × Each IsPlaceOfWords made × Each IsPlaceOfWords freed
IsOfWords (Deliver seat letter made) = (seat < 2 ^ 32) × (letter < 2 ^ 32) × Each IsPlaceOfWords made
