-- What is seen of a store.
use Rattle.std.proofs.Common.{◌≡◌, ◌∙◌, sym, ap, subst, refl, ℕ, ◌+◌, ◌*◌, ◌-◌, ◌<◌, ◌≤◌, ◌&&◌, Bool, true, is_some, min, Option, None, Some, List, [], map, replicate, slice_index, arith}
use Rattle.std.specs.Option.{option_map}
use Rattle.std.proofs.lemmas.List.{ext_get_or, get_or-map, get_or-replicate, length-map, length-replicate}
use Rattle.std.proofs.lemmas.List.Sums.{count_by-le-length, get_or-le-sum_by}
use Rattle.slab.specs.Slab.{Slab, get, slab_len, with_value}
use Rattle.sparse_pool.specs.declared.place.Place.{Place}
use Rattle.cell_block.specs.State.{Entry, count_in, entry_in, with_entry}
use Rattle.alloc_epochs.specs.declared.finding.KeyedField.{KeyedField}
use Rattle.cell_block.specs.Partitions.{IsNextOn, IsNoneOnFrom, IsOnShelves, IsPlace, OnShelves, key_on, keyed_in, keyed_on, lists_of, nothing_on}
use Rattle.alloc_epochs.specs.Shelf.{place_on}
use Rattle.cell_block.specs.Store.{AreKept, AreTied, IsNextKept, IsNoneKept, IsPlaced, Placed, entry_of, entry_under, keys_with, listed_in, listed_on_block, nothing_placed, placed, room_in, with_come}
use Rattle.cell_block.specs.declared.kept.Kept.{Kept}
use Rattle.cell_block.proofs.Tables.{count_same}
use Rattle.cell_block.proofs.PartitionLists.{filter_same, flat_same}
use Rattle.cell_block.proofs.Grids.{has_at, mapped_at, mapped_rows, one_if, row_of}
use Rattle.cell_block.proofs.KeptPlaces.{kept_changed, under}
use Rattle.cell_block.proofs.KeptChanges.{Came, changed_on, spare_is}

-- what is seen at a place
pub seen_at : (s : OnShelves) (slab : Slab Kept) (at : Place) (v : Placed) → placed s slab ≡ v → entry_in v.places at ≡ entry_under slab (key_on s.keys at)
seen_at s slab at v is = ap (λ (w : Placed). entry_in w.places at) (sym is) ∙ mapped_at (entry_under slab) s.keys at refl

-- where nothing is seen there is no key
none_of : (s : OnShelves) (slab : Slab Kept) (at : Place) (o : Option ℕ) → AreTied s slab → key_on s.keys at ≡ o → entry_under slab o ≡ None → o ≡ None
none_of s slab at None tied e none = refl
none_of s slab at (Some key) tied e none =
    let u = under s slab at key tied e in
    let clash : Some (entry_of u.it) ≡ None = sym (ap (option_map entry_of) u.got) ∙ none in absurd (cc)

pub key_absent : (s : OnShelves) (slab : Slab Kept) (at : Place) (v : Placed) → placed s slab ≡ v → AreTied s slab → entry_in v.places at ≡ None → key_on s.keys at ≡ None
key_absent s slab at v is tied none = none_of s slab at (key_on s.keys at) tied refl (sym (seen_at s slab at v is) ∙ none)

-- the room for one more
pub has_room : (s : OnShelves) (slab : Slab Kept) (list : ℕ) (v : Placed) → placed s slab ≡ v → 1 ≤ slice_index v.spares list → slab_len slab + 1 ≤ slab.capacity
has_room s slab list v is room =
    let there : 1 ≤ slice_index (map (min (room_in slab)) s.spares) list = subst (λ (w : Placed). 1 ≤ slice_index w.spares list) (sym is) room in
    omega (arith, there, spare_is (room_in slab) s.spares list)

-- how many blocks have a field
pub count_few : (s : OnShelves) (f : ℕ) → IsOnShelves s → keys_with s.keys f ≤ 65536
count_few s f shape = omega (arith, count_by-le-length (has_at f) s.keys, shape.blocks, shape.few_leaves)

pub count_some : (s : OnShelves) (at : Place) (key : ℕ) → IsOnShelves s → IsPlace s at → key_on s.keys at ≡ Some key → 1 ≤ keys_with s.keys at.field
count_some s at key shape place e =
    let one : one_if (has_at at.field (row_of s.keys at.block)) ≡ one_if true = ap (λ (o : Option ℕ). one_if (is_some o)) e in
    omega (arith, get_or-le-sum_by (λ (r : List (Option ℕ)). one_if (has_at at.field r)) s.keys at.block [] (omega (arith, shape.blocks, place.block)), one)

-- a store in which what is kept under one key changed
pub value_changed : (s : OnShelves) (slab slab' : Slab Kept) (counts : List ℕ) (at : Place) (key : ℕ) (kept new : Kept) (f : Entry → Entry) (v : Placed) → placed s slab ≡ v → IsOnShelves s
    → AreKept s slab counts → key_on s.keys at ≡ Some key → get slab key ≡ Some kept → new.at ≡ kept.at → slab' ≡ with_value slab key new → entry_of new ≡ f (entry_of kept)
    → placed s slab' ≡ record v { places = with_entry v.places at (option_map f (entry_in v.places at)) }
value_changed s slab slab' counts at key kept new f v is shape are here was own written as_f =
    let changed = kept_changed s slab counts at key kept new shape are here was own in
    let P = λ (w : Placed). placed s slab' ≡ record w { places = with_entry w.places at (option_map f (entry_in w.places at)) } in
    let old = map (map (entry_under slab)) s.keys in
    let seen : entry_in old at ≡ Some (entry_of kept) = mapped_at (entry_under slab) s.keys at refl ∙ ap (entry_under slab) here ∙ ap (option_map entry_of) was in
    subst P is (
    ap (placed s) written
    ∙ ap (λ (ps : List (List (Option Entry))). record (placed s (with_value slab key new)) { places = ps }) changed.places
    ∙ ap (λ (n : ℕ). record (placed s slab) { places = with_entry old at (Some (entry_of new)); spares = map (min n) s.spares }) changed.room
    ∙ ap (λ (o : Option Entry). record (placed s slab) { places = with_entry old at o }) (ap Some as_f ∙ sym (ap (option_map f) seen)))

pub still_kept : (s : OnShelves) (slab slab' : Slab Kept) (counts : List ℕ) (at : Place) (key : ℕ) (kept new : Kept) → IsOnShelves s
    → AreKept s slab counts → key_on s.keys at ≡ Some key → get slab key ≡ Some kept → new.at ≡ kept.at → slab' ≡ with_value slab key new → AreKept s slab' counts
still_kept s slab slab' counts at key kept new shape are here was own written =
    subst (λ (w : Slab Kept). AreKept s w counts) (sym written) (kept_changed s slab counts at key kept new shape are here was own).are

-- a store in which a place came or went
pub value_came : (s s' : OnShelves) (slab slab' : Slab Kept) (counts : List ℕ) (at : Place) (key : Option ℕ) (e : Option Entry) (v : Placed) → placed s slab ≡ v → s' ≡ changed_on s at key s'.spares
    → Came s slab slab' counts at key s'.spares e → placed s' slab' ≡ record (with_come v at e) { spares = map (min (room_in slab')) s'.spares }
value_came s s' slab slab' counts at key e v is changed came =
    let P = λ (w : Placed). placed s' slab' ≡ record (with_come w at e) { spares = map (min (room_in slab')) s'.spares } in
    subst P is (
    ap (λ (x : OnShelves). placed x slab') changed
    ∙ ap (λ (ps : List (List (Option Entry))). record (placed (changed_on s at key s'.spares) slab') { places = ps }) came.places)

-- nothing is kept at first
pub new_value : (slab : Slab Kept) (size leaves fields : ℕ) → slab.slots ≡ [] → placed (nothing_on size leaves fields) slab ≡ nothing_placed size leaves fields
new_value slab size leaves fields empty =
    let n = lists_of size leaves in
    let keys : List (Option ℕ) = replicate fields None in
    let entries : List (Option Entry) = replicate fields None in
    let row : map (entry_under slab) keys ≡ entries = map_replicate (entry_under slab) fields None in
    let rows : map (map (entry_under slab)) (replicate leaves keys) ≡ replicate leaves entries = map_replicate (map (entry_under slab)) leaves keys ∙ ap (λ (r : List (Option Entry)). replicate leaves r) row in
    let spares : map (min (room_in slab)) (replicate n 0) ≡ replicate n 0 = map_replicate (min (room_in slab)) n 0 ∙ ap (λ (k : ℕ). replicate n k) (omega arith) in
    ap (λ (ps : List (List (Option Entry))). record (placed (nothing_on size leaves fields) slab) { places = ps }) rows
    ∙ ap (λ (ns : List ℕ). record (nothing_placed size leaves fields) { spares = ns }) spares
  where
    map_replicate : {X Y : Type 0} (f : X → Y) (n : ℕ) (x : X) → map f (replicate n x) ≡ replicate n (f x)
    map_replicate f n x = ext_get_or (f x) (map f (replicate n x)) (replicate n (f x)) (length-map (replicate n x) f ∙ length-replicate n x ∙ sym (length-replicate n (f x)))
        (λ k lt. let below : k < n = omega (arith, lt, length-map (replicate n x) f, length-replicate n x) in
        get_or-map f (replicate n x) k x (f x) (omega (arith, below, length-replicate n x)) ∙ ap f (get_or-replicate n k x x below) ∙ sym (get_or-replicate n k (f x) (f x) below))

-- the shapes of what is seen
pub placed_shape : (s : OnShelves) (slab : Slab Kept) (v : Placed) → placed s slab ≡ v → IsOnShelves s → IsPlaced v
placed_shape s slab v is shape = subst IsPlaced is (record {
  some = shape.some;
  few_leaves = shape.few_leaves;
  few_fields = shape.few_fields;
  blocks = length-map s.keys (map (entry_under slab)) ∙ shape.blocks;
  rows = λ b lt. mapped_rows (entry_under slab) s.keys b (omega (arith, lt, shape.blocks)) ∙ shape.rows b lt;
  epochs_long = shape.epochs_long;
  spares_long = length-map s.spares (min (room_in slab)) ∙ shape.spares_long;
})

-- on how many blocks a field is seen
is_seen : (s : OnShelves) (slab : Slab Kept) (at : Place) (o : Option ℕ) → AreTied s slab → key_on s.keys at ≡ o → is_some (entry_under slab o) ≡ is_some o
is_seen s slab at None tied e = refl
is_seen s slab at (Some key) tied e = ap (λ (k : Option Kept). is_some (option_map entry_of k)) (under s slab at key tied e).got

pub seen_some : (s : OnShelves) (slab : Slab Kept) (at : Place) (v : Placed) → placed s slab ≡ v → AreTied s slab → is_some (entry_in v.places at) ≡ is_some (key_on s.keys at)
seen_some s slab at v is tied = ap (λ (o : Option Entry). is_some o) (seen_at s slab at v is) ∙ is_seen s slab at (key_on s.keys at) tied refl

pub count_seen : (s : OnShelves) (slab : Slab Kept) (f : ℕ) (v : Placed) → placed s slab ≡ v → AreTied s slab → keys_with s.keys f ≡ count_in v.places f
count_seen s slab f v is tied =
    let seen = map (map (entry_under slab)) s.keys in
    count_same (has_at f) (has_at f) s.keys seen [] [] (sym (length-map s.keys (map (entry_under slab))))
    (λ b lt. sym (seen_some s slab (record { block = b; field = f }) (placed s slab) refl tied))
    ∙ ap (λ (w : Placed). count_in w.places f) is

-- what is listed of a partition is what is seen of it
pub listed_seen : (s : OnShelves) (slab : Slab Kept) (list : ℕ) (passes : ℕ → Bool) (v : Placed) → placed s slab ≡ v → AreTied s slab → keyed_in s list passes ≡ listed_in v list passes
listed_seen s slab list passes v is tied =
    let w = placed s slab in
    flat_same (keyed_on s passes) (listed_on_block w passes) (list * s.size) (min s.size (s.leaves - list * s.size)) (λ block above below.
    filter_same (λ (at : Place). is_some (key_on s.keys at) && passes at.field) (λ (at : Place). is_some (entry_in w.places at) && passes at.field) (place_on block) 0 s.fields (λ f.
    ap (λ (b : Bool). b && passes f) (sym (seen_some s slab (place_on block f) w refl tied))))
    ∙ ap (λ (x : Placed). listed_in x list passes) is

-- a slab with more room
pub roomier : (slab new : Slab Kept) → new ≡ record slab { capacity = new.capacity } → slab.capacity ≤ new.capacity → room_in slab ≤ room_in new + 0
roomier slab new rest more =
    let same : slab_len new ≡ slab_len slab = ap (λ (x : Slab Kept). slab_len x) rest in
    omega (arith, same, more)

-- the next field of which something is kept, and that there is none
pub next_seen : (s : OnShelves) (slab : Slab Kept) (block from : ℕ) (next : KeyedField) (v : Placed) → placed s slab ≡ v → AreTied s slab → IsNextOn s block from next → IsNextKept v block from next.field
next_seen s slab block from next v is tied found = record {
  after = found.after;
  within = subst (λ (w : Placed). next.field < w.fields) is found.within;
  there = seen_some s slab (place_on block next.field) v is tied ∙ ap (λ (o : Option ℕ). is_some o) found.has_key;
  first = λ f low high. seen_some s slab (place_on block f) v is tied ∙ ap (λ (o : Option ℕ). is_some o) (found.first f low high);
}

pub none_seen : (s : OnShelves) (slab : Slab Kept) (block from : ℕ) (v : Placed) → placed s slab ≡ v → AreTied s slab → IsNoneOnFrom s block from → IsNoneKept v block from
none_seen s slab block from v is tied none f low high =
    seen_some s slab (place_on block f) v is tied ∙ ap (λ (o : Option ℕ). is_some o) (none f low (subst (λ (w : Placed). f < w.fields) (sym is) high))
