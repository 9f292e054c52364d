-- The rows of boxes, and the indices of their numbers.
use Rattle.std.proofs.Common.{◌≡◌, ℕ, List, slice_index, ap, subst, sym, ◌∙◌}
use Rattle.strided_rows.specs.declared.planes.Planes.{Planes}
use Rattle.cell_boxes.specs.declared.boxes.BoxIn.{BoxIn}
use Rattle.cell_boxes.specs.Boxes.{StaysOffBox}
use Rattle.cell_boxes.specs.Planes.{planes_of}
use Rattle.cell_boxes.proofs.Rows.{address_is, index}
use Rattle.row_updates.specs.Numbers.{Numbers}
use Rattle.row_updates.specs.Steps.{PlaneSources, PlanesDone, PlanesStay, TakesPlanes, in_plane, plane_numbers}
use Rattle.box_updates.specs.Boxes.{IsUpdated, Sources, TakesBox, numbers_in}

-- the rows of the boxes that are read
abbrev pub planes_from : Sources → PlaneSources
planes_from from = record {
  one = from.one;
  first = planes_of from.first;
  second = planes_of from.second;
  other = from.other;
  third = planes_of from.third;
  fourth = planes_of from.fourth;
}

-- the numbers at an index, by its rows
numbers_are : (own : List ℕ) (at : BoxIn) (from : Sources) (i : List ℕ)
    → plane_numbers (planes_from from) (slice_index i 2) (slice_index i 1) (slice_index i 0) (slice_index own (in_plane (planes_of at) (slice_index i 2) (slice_index i 1) (slice_index i 0))) ≡ numbers_in own at from i
numbers_are own at from i =
    let o = ap (slice_index own) (address_is at i) in
    let f = ap (slice_index from.one) (address_is from.first i) in
    let s = ap (slice_index from.one) (address_is from.second i) in
    let t = ap (slice_index from.other) (address_is from.third i) in
    let u = ap (slice_index from.other) (address_is from.fourth i) in
    cc

-- planes that are done are a box that is done
done_by_planes : (gives : Numbers → ℕ) (extents old new : List ℕ) (at : BoxIn) (from : Sources)
    → PlanesDone gives (planes_from from) (slice_index extents 0) (slice_index extents 1) (slice_index extents 2) (planes_of at) old new → IsUpdated gives extents old at from new
done_by_planes gives extents old new at from done i w =
    ap (slice_index new) (address_is at i)
    ∙ done (slice_index i 2) (slice_index i 1) (slice_index i 0) w.along3 w.along2 w.along1
    ∙ ap gives (numbers_are old at from i)

pub box_done : (gives : Numbers → ℕ) (extents old new : List ℕ) (at : BoxIn) (from : Sources) (rows a b c d : Planes)
    → rows ≡ planes_of at → a ≡ planes_of from.first → b ≡ planes_of from.second → c ≡ planes_of from.third → d ≡ planes_of from.fourth
    → PlanesDone gives (record { one = from.one; first = a; second = b; other = from.other; third = c; fourth = d }) (slice_index extents 0) (slice_index extents 1) (slice_index extents 2) rows old new
    → IsUpdated gives extents old at from new
box_done gives extents old new at from rows a b c d p pa pb pc pd done =
    let same : (let x : PlaneSources = record { one = from.one; first = a; second = b; other = from.other; third = c; fourth = d } in x) ≡ planes_from from = cc in
    done_by_planes gives extents old new at from
    (subst (λ (v : PlaneSources). PlanesDone gives v (slice_index extents 0) (slice_index extents 1) (slice_index extents 2) (planes_of at) old new) same
    (subst (λ (v : Planes). PlanesDone gives (record { one = from.one; first = a; second = b; other = from.other; third = c; fourth = d }) (slice_index extents 0) (slice_index extents 1) (slice_index extents 2) v old new) p done))

-- what no index has, no row has
pub box_stays : (extents old new : List ℕ) (at : BoxIn) (rows : Planes) → rows ≡ planes_of at
    → PlanesStay (slice_index extents 0) (slice_index extents 1) (slice_index extents 2) rows old new → StaysOffBox extents at old new
box_stays extents old new at rows p stays n off =
    subst (λ (v : Planes). PlanesStay (slice_index extents 0) (slice_index extents 1) (slice_index extents 2) v old new) p stays n
    (λ plane row k hp hr hk e. off (index k row plane) (record { along1 = hk; along2 = hr; along3 = hp }) (e ∙ sym (address_is at (index k row plane))))

-- what is taken at each index is taken in each row
pub box_taken : (takes : Numbers → Type 0) (extents old : List ℕ) (at : BoxIn) (from : Sources) → TakesBox takes extents old at from
    → TakesPlanes takes (planes_from from) (slice_index extents 0) (slice_index extents 1) (slice_index extents 2) (planes_of at) old
box_taken takes extents old at from taken plane row k hp hr hk =
    subst takes (sym (numbers_are old at from (index k row plane))) (taken (index k row plane) (record { along1 = hk; along2 = hr; along3 = hp }))
