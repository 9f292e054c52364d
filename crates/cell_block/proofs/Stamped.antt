-- The stamps of a block, raised from the first of its fields to the last.
use Rattle.std.proofs.Common.{◌≡◌, ◌≢◌, ◌∙◌, sym, ap, subst, refl, inl, inr, ℕ, ◌+◌, ◌-◌, ◌<◌, ◌≤◌, ◌^◌, ◌&&◌, Bool, true, false, cond, is_some, nat_eq, nat_lt, min, Option, None, Some, List, [], length, map, slice_index_or, slice_set, arith}
use Rattle.std.specs.Prelude.{IsSomeAnd, unwrap_or}
use Rattle.std.specs.Option.{ForSome, option_and_then, option_map}
use Rattle.std.proofs.lemmas.Bool.{cases_eq, cases_lt, lt-ltb, le-ltb, cond-true, cond-false}
use Rattle.std.proofs.lemmas.Bool.Decides.{nat_tests}
use Rattle.std.proofs.lemmas.List.{get_or-map, get_or-set_same, get_or-set_other, length-map, length-set}
use Rattle.slab.specs.Slab.{Slab, Updates, get, with_value}
use Rattle.slab.proofs.SlabLemmas.{Updates-with_value}
use Rattle.sparse_pool.specs.declared.place.Place.{Place}
use Rattle.alloc_epochs.specs.declared.finding.KeyedField.{KeyedField}
use Rattle.alloc_epochs.specs.Shelf.{place_on}
use Rattle.field_bufs.specs.declared.buf.FieldBuf.{FieldBuf}
use Rattle.cell_block.specs.State.{Entry, buffer_in, stamped_entry, stamps_raised}
use Rattle.cell_block.specs.Partitions.{IsNextOn, IsNoneOnFrom, IsOnShelves, OnShelves, key_on}
use Rattle.cell_block.specs.Store.{AreKept, AreStamped, AreTied, HaveRoomForStamp, Placed, entry_of, entry_under, placed, room_in, stamped_below, stamped_kept}
use Rattle.cell_block.specs.declared.kept.Kept.{Kept}
use Rattle.cell_block.proofs.Grids.{mapped_at, mapped_rows, row_of, same_grids}
use Rattle.cell_block.proofs.KeptPlaces.{Under, key_place, some_same, under}
use Rattle.cell_block.proofs.KeptStates.{seen_at}

-- whether a field of a block lies below another
abbrev is_below : ℕ → ℕ → Place → Bool
is_below block f at = nat_eq at.block block && nat_lt at.field f

eq_true : (a b : ℕ) → a ≡ b → nat_eq a b ≡ true
eq_true a b e = grind (arith, nat_tests)

eq_false : (a b : ℕ) → a ≢ b → nat_eq a b ≡ false
eq_false a b ne = grind (arith, nat_tests)

below_true : (block f : ℕ) (at : Place) → at.block ≡ block → at.field < f → is_below block f at ≡ true
below_true block f at e lt = ap (λ (b : Bool). b && nat_lt at.field f) (eq_true at.block block e) ∙ lt-ltb at.field f lt

below_past : (block f : ℕ) (at : Place) → f ≤ at.field → at.block ≡ block → is_below block f at ≡ false
below_past block f at le e = ap (λ (b : Bool). b && nat_lt at.field f) (eq_true at.block block e) ∙ le-ltb at.field f le

below_other : (block f : ℕ) (at : Place) → at.block ≢ block → is_below block f at ≡ false
below_other block f at ne = ap (λ (b : Bool). b && nat_lt at.field f) (eq_false at.block block ne)

-- what is so below a field is so below the one after the next that is kept, but for that one
below_next : (block from n : ℕ) (at : Place) → from ≤ n → (at.block ≡ block → from ≤ at.field → at.field ≤ n → ⊥) → is_below block from at ≡ is_below block (n + 1) at
below_next block from n at more none = elim (cases_eq at.block block) [
  | inl e ↦ elim (cases_lt at.field from) [
    | inl lt ↦ below_true block from at e lt ∙ sym (below_true block (n + 1) at e (omega (arith, lt, more)))
    | inr le ↦ elim (cases_lt n at.field) [
      | inl past ↦ below_past block from at le e ∙ sym (below_past block (n + 1) at (omega (arith, past)) e)
      | inr within ↦ absurd (none e le within)
    ]
  ]
  | inr ne ↦ below_other block from at ne ∙ sym (below_other block (n + 1) at ne)
]

abbrev no_kept : Option Kept
no_kept = None

abbrev no_number : Option ℕ
no_number = None

number_same : (a b : ℕ) → Some a ≡ Some b → a ≡ b
number_same a b e = let keep : Option ℕ → ℕ = λ o. unwrap_or o a in ap keep e

-- what is kept under another key than that of the next field
same_below : (s : OnShelves) (old : Slab Kept) (block from key : ℕ) (next : KeyedField) (o : Option Kept) → AreTied s old → IsNextOn s block from next → get old key ≡ o → key ≢ next.key
    → option_map (stamped_below block from) o ≡ option_map (stamped_below block (next.field + 1)) o
same_below s old block from key next None tied is e ne = refl
same_below s old block from key next (Some k) tied is e ne =
    let here : key_on s.keys k.at ≡ Some key = tied.keyed key k e in
    let moved : k.at.block ≡ block → key_on s.keys (place_on block k.at.field) ≡ Some key = λ b. sym (ap (λ (n : ℕ). key_on s.keys (place_on n k.at.field)) b) ∙ here in
    let none : k.at.block ≡ block → from ≤ k.at.field → k.at.field ≤ next.field → ⊥ = λ b above below. elim (cases_eq k.at.field next.field) [
      | inl f ↦ ne (number_same key next.key (sym (moved b) ∙ ap (λ (n : ℕ). key_on s.keys (place_on block n)) f ∙ is.has_key))
      | inr far ↦ absurd (let clash : no_number ≡ Some key = sym (is.first k.at.field above (omega (arith, below, far))) ∙ moved b in cc)
    ] in
    ap (λ (b : Bool). Some (cond b (stamped_kept k) k)) (below_next block from next.field k.at is.after none)

-- one field more is stamped
pub more_stamped : (s : OnShelves) (old now new : Slab Kept) (block from : ℕ) (next : KeyedField) (it : Kept) → AreTied s old → IsNextOn s block from next
    → get old next.key ≡ Some it → it.at ≡ place_on block next.field → new ≡ with_value now next.key (stamped_kept it) → is_some (get now next.key) ≡ true
    → ((key : ℕ) → get now key ≡ option_map (stamped_below block from) (get old key))
    → (key : ℕ) → get new key ≡ option_map (stamped_below block (next.field + 1)) (get old key)
more_stamped s old now new block from next it tied is was own written present each key =
    let updates : Updates now new next.key (Some (stamped_kept it)) = subst (λ (w : Slab Kept). Updates now w next.key (Some (stamped_kept it))) (sym written) (Updates-with_value now next.key (stamped_kept it) present) in
    elim (cases_eq key next.key) [
      | inl e ↦
          let whole : stamped_below block (next.field + 1) it ≡ stamped_kept it = cond-true (is_below block (next.field + 1) it.at) (stamped_kept it) it (below_true block (next.field + 1) it.at (ap (λ (p : Place). p.block) own) (omega (arith, ap (λ (p : Place). p.field) own))) in
          ap (get new) e ∙ updates.changed ∙ ap Some (sym whole) ∙ sym (ap (option_map (stamped_below block (next.field + 1))) (ap (get old) e ∙ was))
      | inr ne ↦ updates.others key ne ∙ each key ∙ same_below s old block from key next (get old key) tied is refl ne
    ]

-- what is kept under the key of the next field, before and now
pub next_kept : (s : OnShelves) (old now : Slab Kept) (block from : ℕ) (next : KeyedField) → AreTied s old → IsNextOn s block from next
    → ((key : ℕ) → get now key ≡ option_map (stamped_below block from) (get old key)) → (u : Under old next.key (place_on block next.field)) × (get now next.key ≡ Some u.it)
next_kept s old now block from next tied is each =
    let u = under s old (place_on block next.field) next.key tied is.has_key in
    let still : stamped_below block from u.it ≡ u.it = cond-false (is_below block from u.it.at) (stamped_kept u.it) u.it
    (below_past block from u.it.at (omega (arith, is.after, ap (λ (p : Place). p.field) u.own)) (ap (λ (p : Place). p.block) u.own)) in
    (u, each next.key ∙ ap (option_map (stamped_below block from)) u.got ∙ ap Some still)

-- all fields are stamped
pub all_stamped : (s : OnShelves) (old now : Slab Kept) (block from : ℕ) → IsOnShelves s → AreTied s old → IsNoneOnFrom s block from → room_in now ≡ room_in old
    → ((key : ℕ) → get now key ≡ option_map (stamped_below block from) (get old key)) → AreStamped block old now
all_stamped s old now block from shape tied none room each = record {
  room = room;
  others = λ key k e ne. each key ∙ ap (option_map (stamped_below block from)) e ∙ ap Some (cond-false (is_below block from k.at) (stamped_kept k) k (below_other block from k.at ne));
  block_ones = λ key k e is.
      let here : key_on s.keys k.at ≡ Some key = tied.keyed key k e in
      let place = key_place s k.at key shape here in
      let below : k.at.field < from = elim (cases_lt k.at.field from) [
        | inl lt ↦ lt
        | inr le ↦ absurd (let clash : no_number ≡ Some key = sym (none k.at.field le place.field) ∙ sym (ap (λ (n : ℕ). key_on s.keys (place_on n k.at.field)) is) ∙ here in cc)
      ] in
      each key ∙ ap (option_map (stamped_below block from)) e ∙ ap Some (cond-true (is_below block from k.at) (stamped_kept k) k (below_true block from k.at is below));
  nothing = λ key e. each key ∙ ap (option_map (stamped_below block from)) e;
}

-- each stamp of a block's buffers can rise where those that are seen can
some_bound : (o : Option FieldBuf) → ((buf : FieldBuf) → o ≡ Some buf → buf.stamp < 2 ^ 32 - 1) → ForSome o (λ buf. buf.stamp < 2 ^ 32 - 1)
some_bound o each = λ buf e. each buf e

pub room_for_stamp : (s : OnShelves) (slab : Slab Kept) (block : ℕ) (v : Placed) → placed s slab ≡ v → AreTied s slab
    → ((f : ℕ) (buf : FieldBuf) → buffer_in v.places (place_on block f) ≡ Some buf → buf.stamp < 2 ^ 32 - 1) → HaveRoomForStamp block slab
room_for_stamp s slab block v is tied each key k e here =
    let own : key_on s.keys (place_on block k.at.field) ≡ Some key = sym (ap (λ (n : ℕ). key_on s.keys (place_on n k.at.field)) here) ∙ tied.keyed key k e in
    some_bound k.buf (λ buf is_buf. each k.at.field buf (
    ap (option_and_then (λ (x : Entry). x.buf)) (seen_at s slab (place_on block k.at.field) v is ∙ ap (entry_under slab) own ∙ ap (option_map entry_of) e) ∙ is_buf))

-- what is kept then
stamped_tied : (s : OnShelves) (old new : Slab Kept) (block : ℕ) → AreTied s old → AreStamped block old new → AreTied s new
stamped_tied s old new block tied stamped = record {
  kept = λ at key e.
      let u = under s old at key tied e in
      elim (cases_eq u.it.at.block block) [
        | inl is ↦ subst (λ (o : Option Kept). IsSomeAnd o (λ k. k.at ≡ at)) (sym (stamped.block_ones key u.it u.got is)) u.own
        | inr ne ↦ subst (λ (o : Option Kept). IsSomeAnd o (λ k. k.at ≡ at)) (sym (stamped.others key u.it u.got ne)) u.own
      ];
  keyed = λ key x e. found s old new block key x (get old key) tied stamped refl e;
}
  where
    found : (s : OnShelves) (old new : Slab Kept) (block key : ℕ) (x : Kept) (o : Option Kept) → AreTied s old → AreStamped block old new → get old key ≡ o → get new key ≡ Some x → key_on s.keys x.at ≡ Some key
    found s old new block key x None tied stamped was is = absurd (let clash : no_kept ≡ Some x = sym (stamped.nothing key was) ∙ is in cc)
    found s old new block key x (Some k) tied stamped was is = elim (cases_eq k.at.block block) [
      | inl here ↦
          let one : x ≡ stamped_kept k = some_same x (stamped_kept k) (sym is ∙ stamped.block_ones key k was here) in
          ap (λ (y : Kept). key_on s.keys y.at) one ∙ tied.keyed key k was
      | inr ne ↦
          let one : x ≡ k = some_same x k (sym is ∙ stamped.others key k was ne) in
          ap (λ (y : Kept). key_on s.keys y.at) one ∙ tied.keyed key k was
    ]

pub stamped_are : (s : OnShelves) (old new : Slab Kept) (counts : List ℕ) (block : ℕ) → AreKept s old counts → AreStamped block old new → AreKept s new counts
stamped_are s old new counts block are stamped = record { tied = stamped_tied s old new block are.tied stamped; fields = are.fields; counted = are.counted }

-- what is seen at a place of the block, and at others
here_entry : (s : OnShelves) (old new : Slab Kept) (block : ℕ) (at : Place) (o : Option ℕ) → AreTied s old → AreStamped block old new → key_on s.keys at ≡ o → at.block ≡ block
    → entry_under new o ≡ option_map stamped_entry (entry_under old o)
here_entry s old new block at None tied stamped e is = refl
here_entry s old new block at (Some key) tied stamped e is =
    let u = under s old at key tied e in
    ap (option_map entry_of) (stamped.block_ones key u.it u.got (ap (λ (p : Place). p.block) u.own ∙ is))
    ∙ sym (ap (λ (k : Option Kept). option_map stamped_entry (option_map entry_of k)) u.got)

other_entry : (s : OnShelves) (old new : Slab Kept) (block : ℕ) (at : Place) (o : Option ℕ) → AreTied s old → AreStamped block old new → key_on s.keys at ≡ o → at.block ≢ block
    → entry_under new o ≡ entry_under old o
other_entry s old new block at None tied stamped e ne = refl
other_entry s old new block at (Some key) tied stamped e ne =
    let u = under s old at key tied e in
    ap (option_map entry_of) (stamped.others key u.it u.got (λ is. ne (sym (ap (λ (p : Place). p.block) u.own) ∙ is)) ∙ sym u.got)

stamped_places : (s : OnShelves) (old new : Slab Kept) (block : ℕ) → IsOnShelves s → AreTied s old → AreStamped block old new → block < s.leaves
    → map (map (entry_under new)) s.keys ≡ stamps_raised (map (map (entry_under old)) s.keys) block
stamped_places s old new block shape tied stamped lt =
    let seen = map (map (entry_under old)) s.keys in
    let row = map (option_map stamped_entry) (row_of seen block) in
    let long : length seen ≡ s.leaves = length-map s.keys (map (entry_under old)) ∙ shape.blocks in
    let rows : (b : ℕ) → b < s.leaves → length (row_of seen b) ≡ s.fields = λ b less. mapped_rows (entry_under old) s.keys b (omega (arith, less, shape.blocks)) ∙ shape.rows b less in
    let there : block < length seen = omega (arith, long, lt) in
    same_grids (map (map (entry_under new)) s.keys) (slice_set seen block row) s.leaves s.fields
    (length-map s.keys (map (entry_under new)) ∙ shape.blocks)
    (length-set seen block row ∙ long)
    (λ b less. mapped_rows (entry_under new) s.keys b (omega (arith, less, shape.blocks)) ∙ shape.rows b less)
    (λ b less. elim (cases_eq b block) [
      | inl e ↦ ap (λ (n : ℕ). length (slice_index_or (slice_set seen block row) n [])) e ∙ ap (λ (r : List (Option Entry)). length r) (get_or-set_same seen block row [] there)
          ∙ length-map (row_of seen block) (option_map stamped_entry) ∙ rows block lt
      | inr ne ↦ ap (λ (r : List (Option Entry)). length r) (get_or-set_other seen block b row [] ne) ∙ rows b less
    ])
    (λ at b f. elim (cases_eq at.block block) [
      | inl e ↦
          let in_row : at.field < length (row_of seen block) = omega (arith, rows block lt, f) in
          mapped_at (entry_under new) s.keys at refl
          ∙ here_entry s old new block at (key_on s.keys at) tied stamped refl e
          ∙ sym (ap (option_map stamped_entry) (mapped_at (entry_under old) s.keys at refl))
          ∙ ap (λ (n : ℕ). option_map stamped_entry (slice_index_or (row_of seen n) at.field None)) e
          ∙ sym (get_or-map (option_map stamped_entry) (row_of seen block) at.field None None in_row)
          ∙ sym (ap (λ (r : List (Option Entry)). slice_index_or r at.field None) (get_or-set_same seen block row [] there))
          ∙ sym (ap (λ (n : ℕ). slice_index_or (slice_index_or (slice_set seen block row) n []) at.field None) e)
      | inr ne ↦ mapped_at (entry_under new) s.keys at refl
          ∙ other_entry s old new block at (key_on s.keys at) tied stamped refl ne
          ∙ sym (mapped_at (entry_under old) s.keys at refl)
          ∙ sym (ap (λ (r : List (Option Entry)). slice_index_or r at.field None) (get_or-set_other seen block at.block row [] ne))
    ])

pub stamped_value : (s : OnShelves) (old new : Slab Kept) (block : ℕ) (v : Placed) → placed s old ≡ v → IsOnShelves s → AreTied s old → AreStamped block old new → block < v.leaves
    → placed s new ≡ record v { places = stamps_raised v.places block }
stamped_value s old new block v is shape tied stamped lt =
    let P = λ (w : Placed). block < w.leaves → placed s new ≡ record w { places = stamps_raised w.places block } in
    subst P is (λ within.
    ap (λ (ps : List (List (Option Entry))). record (placed s new) { places = ps }) (stamped_places s old new block shape tied stamped within)
    ∙ ap (λ (n : ℕ). record (placed s old) { places = stamps_raised (map (map (entry_under old)) s.keys) block; spares = map (min n) s.spares }) stamped.room) lt
