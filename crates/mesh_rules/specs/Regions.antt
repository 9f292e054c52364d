-- What a leaf is sent across a side: the cells of one part of a letter, by sender.
use Rattle.std.specs.Prelude.{◌==◌, ℕ, ◌+◌, ◌-◌, ◌*◌, ◌/◌, Bool, cond, not, nat_lt, List, [], ◌∷◌, map}
use Rattle.std.specs.List.{flat_map, range_with_len}
use Rattle.morton_order.specs.declared.space.Loc.{Loc}
use Rattle.morton_order.specs.Space.{axis_of, factor}
use Rattle.block_tree.specs.Behind.{Behind, behind, outside, same, coarse, fine}
use Rattle.mesh_rules.specs.Mesh.{Mesh, cells_along, is_inner}
use Rattle.mesh_rules.specs.Look.{look}

-- the leaves behind a side of a leaf: those that send to it across this side
abbrev pub leaves_in : Behind → List Loc
leaves_in outside = []
leaves_in (same o) = o ∷ []
leaves_in (coarse o) = o ∷ []
leaves_in (fine os) = os

abbrev pub senders : Mesh → Loc → ℕ → Bool → List Loc
senders m to axis high = leaves_in (behind m.shape (is_inner m) to axis high)

-- what a sender is to its receiver
pub data Sender : Type 0 where
  same_level : Sender
  finer : Sender
  coarser : Sender

abbrev pub sender_by : Bool → Bool → Sender
sender_by finer_test coarser_test = cond finer_test finer (cond coarser_test coarser same_level)

abbrev pub sender_of : Loc → Loc → Sender
sender_of from to = sender_by (nat_lt to.level from.level) (nat_lt from.level to.level)

-- cells in a row along an axis: the first of them, and how many
pub record Span : Type 0 where
  pub first : ℕ
  pub len : ℕ

-- so many cells at the low or the high end of a row
abbrev pub at_end : Bool → ℕ → Span → Span
at_end high count row = record { first = cond high (row.first + row.len - count) row.first; len = count }

-- what a block covers along an axis: of its own level's cells, and of those of the next coarser level
abbrev pub own_span : Mesh → Loc → ℕ → Span
own_span m l axis = record { first = axis_of l axis * cells_along m axis; len = cells_along m axis }

abbrev pub coarse_span : Mesh → Loc → ℕ → Span
coarse_span m l axis =
    let half = cells_along m axis / factor m.shape.dims axis in
    record { first = axis_of l axis * half; len = half }

-- the cells that are sent from a leaf to one across a side of the receiver, along any axis. Of a sender of the same level they
-- are its two layers next to the face; of a finer one, on the receiver's level, the two layers next to the face, over the part of
-- the face that the sender covers; of a coarser one, on the sender's level, its one layer next to the face, over the part of the
-- face that the receiver covers
abbrev pub sent_span : Sender → Mesh → Loc → Loc → ℕ → Bool → ℕ → Span
sent_span same_level m from to axis high along = cond (along == axis) (at_end (not high) 2 (own_span m from along)) (own_span m from along)
sent_span finer m from to axis high along = cond (along == axis) (at_end (not high) 2 (coarse_span m from along)) (coarse_span m from along)
sent_span coarser m from to axis high along = cond (along == axis) (at_end (not high) 1 (own_span m from along)) (coarse_span m to along)

-- the level of these cells
abbrev pub sent_level : Sender → Loc → Loc → ℕ
sent_level same_level from to = to.level
sent_level finer from to = to.level
sent_level coarser from to = from.level

-- the cells of a box, x1 fastest
abbrev pub cells_in : ℕ → Span → Span → Span → List Loc
cells_in level s1 s2 s3 = flat_map (λ z. flat_map (λ y. map (λ x. record { level = level; l1 = x; l2 = y; l3 = z }) (range_with_len s1.first s1.len)) (range_with_len s2.first s2.len)) (range_with_len s3.first s3.len)

-- the cells that are sent from a leaf to one across a side of the receiver, x1 fastest
abbrev pub sent_cells : Mesh → Loc → Loc → ℕ → Bool → List Loc
sent_cells m from to axis high =
    let how = sender_of from to in
    cells_in (sent_level how from to) (sent_span how m from to axis high 0) (sent_span how m from to axis high 1) (sent_span how m from to axis high 2)

-- a field's part of what is sent: the looks in these cells, which of a finer sender are sums of its own
abbrev pub region : Mesh → ℕ → Loc → Loc → ℕ → Bool → List ℕ
region m f from to axis high = map (look m f) (sent_cells m from to axis high)
