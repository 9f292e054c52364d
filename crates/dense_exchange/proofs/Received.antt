-- What a sender sends, and the lists in which it was received.
use Rattle.std.proofs.Common.{◌≡◌, inl, inr, ℕ, ◌^◌, ◌<◌, ◌≤◌, Bool, not, List, [], All, length, refl, arith, ap, subst, sym, ◌∙◌, lit<}
use Rattle.std.specs.Prelude.{slice_set}
use Rattle.std.proofs.lemmas.Bool.{cases_eq}
use Rattle.std.proofs.lemmas.List.{get_or-set_other, get_or-set_same, length-set}
use Rattle.std.proofs.lemmas.List.FromFn.{length-map-range_with_len}
use Rattle.morton_order.specs.declared.space.Side.{Side}
use Rattle.block_tree.specs.Behind.{Behind, Names}
use Rattle.mesh_num.specs.Share.{share}
use Rattle.mesh_laws.proofs.Looks.{some_parts}
use Rattle.mesh_rules.specs.Mesh.{total_of}
use Rattle.block_layout.specs.declared.layout.Layout.{Layout}
use Rattle.block_layout.specs.Indices.{count_of, index_of, number_of}
use Rattle.block_layout.specs.Layouts.{len}
use Rattle.block_layout.specs.Regions.{Region}
use Rattle.block_geometry.specs.Contents.{HasInterior}
use Rattle.block_regions.specs.Written.{HasRegion, StaysOffRegion}
use Rattle.restrict_prolong.specs.Refined.{at_index, coarsened, factors, part_number}
use Rattle.ghost_buffers.specs.declared.part.How.{How}
use Rattle.ghost_buffers.specs.declared.part.How.TheVariants.{Same, Finer, Coarser}
use Rattle.ghost_buffers.specs.Ghosts.{ghost_cell, received}
use Rattle.ghost_buffers.specs.Parts.{PartBelow, part_cell, part_extents, part_of}
use Rattle.dense_mesh.specs.Ghosts.{list_at}
use Rattle.letter_laws.specs.Ghosts.{IsGiven}
use Rattle.letter_laws.proofs.Bounds.{parts_below, regions_bounded, written_below}
use Rattle.letter_laws.proofs.CoarserLevel.{coarser_sends}
use Rattle.letter_laws.proofs.FinerLevel.{finer_sends}
use Rattle.letter_laws.proofs.SameLevel.{same_sends}
use Rattle.letter_laws.proofs.Stays.{interior_stays}
use Rattle.std.proofs.lemmas.List.Elements.{All-from_get_or, All-get_or}
use Rattle.dense_exchange.specs.declared.field_mesh.FieldMesh.{FieldMesh}
use Rattle.dense_exchange.specs.FieldMeshes.{CanExchange, HoldOwn, block_on, leaf_count, leaf_on, mesh_in}
use Rattle.dense_exchange.specs.Sides.{IsReceived, IsSender, OthersStay, behind_leaf, sent_to}
use Rattle.dense_exchange.proofs.OnMeshes.{item_below, share_below, side_of, total_small}

-- the setting of a sender and a receiver
pub record Meet (e : FieldMesh) (how : How) (half : ℕ) (side : Side) (from to : ℕ) (ghosts : List (List ℕ)) : Type 0 where
  pub on : CanExchange e
  pub used : side.axis < e.layout.now.dims
  pub from_few : from < leaf_count e
  pub to_few : to < leaf_count e
  pub sender : IsSender e how half side from to
  pub held : HoldOwn e ghosts

-- a finer sender's sums are small
pub sums_small : (e : FieldMesh) (how : How) (half : ℕ) (side : Side) (from to : ℕ) (ghosts : List (List ℕ)) → Meet e how half side from to ghosts → PartBelow (2 ^ 62) how e.layout.now side.axis (not side.high) half (list_at ghosts from)
sums_small e Same half side from to ghosts x = tt
sums_small e Finer half side from to ghosts x =
    let (os, is, among, number) = x.sender in
    parts_below (block_on e to) side.axis side.high os (leaf_on e from) half (2 ^ 62) (list_at ghosts from) (side_of e to side.axis x.on x.to_few x.used) is among (x.held.own from x.from_few) (total_small e x.on)
sums_small e Coarser half side from to ghosts x = tt

-- what a sender makes is the region
pub part_is : (e : FieldMesh) (how : How) (half : ℕ) (side : Side) (from to : ℕ) (ghosts : List (List ℕ)) → Meet e how half side from to ghosts → part_of how e.layout.now side.axis (not side.high) half (list_at ghosts from) ≡ sent_to e side from to
part_is e Same half side from to ghosts x =
    same_sends (block_on e to) side.axis side.high (leaf_on e from) half (list_at ghosts from) (side_of e to side.axis x.on x.to_few x.used) x.sender (x.held.own from x.from_few)
part_is e Finer half side from to ghosts x =
    let (os, is, among, number) = x.sender in
    finer_sends (block_on e to) side.axis side.high os (leaf_on e from) half (list_at ghosts from) (side_of e to side.axis x.on x.to_few x.used) is among (x.held.own from x.from_few)
part_is e Coarser half side from to ghosts x =
    ap (λ v. part_of Coarser e.layout.now side.axis (not side.high) v (list_at ghosts from)) x.sender.1
    ∙ coarser_sends (block_on e to) side.axis side.high (leaf_on e from) (list_at ghosts from) (side_of e to side.axis x.on x.to_few x.used) x.sender.0 (x.held.own from x.from_few)

pub part_long : (how : How) (l : Layout) (axis : ℕ) (high : Bool) (half : ℕ) (cells : List ℕ) → length (part_of how l axis high half cells) ≡ count_of (part_extents how l axis)
part_long how l axis high half cells = length-map-range_with_len (λ k. part_cell how l axis high half cells (index_of (part_extents how l axis) k)) 0 (count_of (part_extents how l axis))

-- the sender stands behind the side
named : (e : FieldMesh) (how : How) (half : ℕ) (side : Side) (from to : ℕ) → IsSender e how half side from to → Names (behind_leaf e side to) (leaf_on e from)
named e Same half side from to is = subst (λ (v : Behind). Names v (leaf_on e from)) (sym is) refl
named e Finer half side from to (os, is, among, number) = subst (λ (v : Behind). Names v (leaf_on e from)) (sym is) among
named e Coarser half side from to (is, number) = subst (λ (v : Behind). Names v (leaf_on e from)) (sym is) refl

all_below : (xs : List ℕ) (top bound : ℕ) → top < bound → All (λ total. total ≤ top) xs → All (λ total. total < bound) xs
all_below xs top bound h all = All-from_get_or (λ total. total < bound) xs 0 (λ i few. let one = All-get_or (λ total. total ≤ top) xs i 0 few all in omega (arith, one, h))

pub sent_small : (e : FieldMesh) (how : How) (half : ℕ) (side : Side) (from to : ℕ) (ghosts : List (List ℕ)) → Meet e how half side from to ghosts → All (λ total. total < 2 ^ 62) (sent_to e side from to)
sent_small e how half side from to ghosts x =
    all_below (sent_to e side from to) (total_of (mesh_in e) e.field) (2 ^ 62) (total_small e x.on)
    (regions_bounded (block_on e to) side.axis side.high (leaf_on e from) (side_of e to side.axis x.on x.to_few x.used) (named e how half side from to x.sender))

-- what a part of small totals gives is small
pub given_small : (how : How) (l : Layout) (axis : ℕ) (part : List ℕ) (bound : ℕ) (i : List ℕ) → 0 < bound → All (λ total. total < bound) part → ghost_cell how l axis part i < bound
given_small Same l axis part bound i some all = item_below part bound (number_of (part_extents Same l axis) i) some all
given_small Finer l axis part bound i some all = item_below part bound (number_of (part_extents Finer l axis) i) some all
given_small Coarser l axis part bound i some all =
    let u : List ℕ = coarsened (factors l.dims) i in
    let q : ℕ = at_index (part_extents Coarser l axis) part u in
    let two = share_below q (count_of (factors l.dims)) (part_number (factors l.dims) i) (some_parts l.dims) in
    below (share q (count_of (factors l.dims)) (part_number (factors l.dims) i)) q bound two (item_below part bound (number_of (part_extents Coarser l axis) u) some all)
  where
    below : (a c bound : ℕ) → a ≤ c → c < bound → a < bound
    below a c bound h k = omega arith

-- one list of many is written
pub written_at : (lists : List (List ℕ)) (to : ℕ) (new : List ℕ) → to < length lists → list_at (slice_set lists to new) to ≡ new
written_at lists to new few = get_or-set_same lists to new [] few

pub others_at : (lists : List (List ℕ)) (to : ℕ) (new : List ℕ) → OthersStay to lists (slice_set lists to new)
others_at lists to new leaf differ = get_or-set_other lists to leaf new [] differ

-- a leaf's list that is written among its ghosts, by small totals, holds its own cells
pub still_held : (e : FieldMesh) (to : ℕ) (ghosts : List (List ℕ)) (new : List ℕ) → CanExchange e → to < leaf_count e → HoldOwn e ghosts → length new ≡ length (list_at ghosts to) → All (λ total. total < 2 ^ 62) new → HasInterior (block_on e to) new →
    HoldOwn e (slice_set ghosts to new)
still_held e to ghosts new on few held long small own =
    let lists = held.lists in
    let within : to < length ghosts = subst (λ v. to < v) (sym lists.count) few in
    let by : (P : ℕ → List ℕ → Type 0) → P to new → ((leaf : ℕ) → leaf < leaf_count e → P leaf (list_at ghosts leaf)) → (leaf : ℕ) → leaf < leaf_count e → P leaf (list_at (slice_set ghosts to new) leaf) =
    λ P here there leaf less. elim (cases_eq leaf to) [
      | inl is ↦ subst (λ v. P v (list_at (slice_set ghosts to new) v)) (sym is) (subst (P to) (sym (written_at ghosts to new within)) here)
      | inr differ ↦ subst (P leaf) (sym (others_at ghosts to new leaf differ)) (there leaf less)
    ] in
    record {
      lists = record {
        count = length-set ghosts to new ∙ lists.count;
        sizes = by (λ leaf list. length list ≡ len e.layout.now) (long ∙ lists.sizes to few) lists.sizes;
        small = by (λ leaf list. All (λ total. total < 2 ^ 62) list) small lists.small;
      };
      own = by (λ leaf list. HasInterior (block_on e leaf) list) own held.own;
    }

-- what was received
pub received_is : (e : FieldMesh) (how : How) (half : ℕ) (side : Side) (from to : ℕ) (ghosts : List (List ℕ)) (part new : List ℕ) → Meet e how half side from to ghosts → part ≡ sent_to e side from to → length new ≡ length (list_at ghosts to) →
    HasRegion e.layout.now (received how e.layout.now side.axis side.high half) (ghost_cell how e.layout.now side.axis part) new → StaysOffRegion e.layout.now (received how e.layout.now side.axis side.high half) (list_at ghosts to) new →
    IsReceived e how half side from to ghosts (slice_set ghosts to new)
received_is e how half side from to ghosts part new x is long has stays =
    let l : Layout = e.layout.now in
    let r : Region = received how l side.axis side.high half in
    let b = block_on e to in
    let within : to < length ghosts = subst (λ v. to < v) (sym x.held.lists.count) x.to_few in
    let given : HasRegion l r (ghost_cell how l side.axis (sent_to e side from to)) new = subst (λ (v : List ℕ). HasRegion l r (ghost_cell how l side.axis v) new) is has in
    let small : All (λ total. total < 2 ^ 62) new =
    written_below l r (ghost_cell how l side.axis (sent_to e side from to)) (2 ^ 62) (list_at ghosts to) new long given stays
    (λ i w. given_small how l side.axis (sent_to e side from to) (2 ^ 62) i (lit< tt) (sent_small e how half side from to ghosts x)) (x.held.lists.small to x.to_few) in
    let own : HasInterior b new = interior_stays b how side.axis side.high half (list_at ghosts to) new (side_of e to side.axis x.on x.to_few x.used) stays (x.held.own to x.to_few) in
    let at = written_at ghosts to new within in
    record {
      held = still_held e to ghosts new x.on x.to_few x.held long small own;
      others = others_at ghosts to new;
      given = subst (λ (v : List ℕ). IsGiven how b side.axis side.high half (sent_to e side from to) v) (sym at) given;
      stays = subst (λ (v : List ℕ). StaysOffRegion l r (list_at ghosts to) v) (sym at) stays;
    }
