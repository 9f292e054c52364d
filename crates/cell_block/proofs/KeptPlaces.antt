-- What is kept at each place, where one place changed.
use Rattle.std.proofs.Common.{◌≡◌, ◌≢◌, ◌∙◌, sym, ap, subst, refl, inl, inr, ℕ, ◌-◌, ◌<◌, true, is_some, Option, None, Some, List, [], length, map, slice_index_or, arith}
use Rattle.std.specs.Prelude.{IsSomeAnd, unwrap_or}
use Rattle.std.proofs.lemmas.List.Sums.{sum_by-set}
use Rattle.std.specs.Option.{option_map}
use Rattle.std.proofs.lemmas.Bool.{cases_eq, cases_lt}
use Rattle.std.proofs.lemmas.List.{get_or_past, length-map}
use Rattle.slab.proofs.SlabLemmas.{ContainsKey-within, Updates-with_value}
use Rattle.slab.specs.Slab.{Slab, Updates, get, slab_len, with_value}
use Rattle.sparse_pool.specs.declared.place.Place.{Place}
use Rattle.cell_block.specs.State.{Entry, with_entry}
use Rattle.cell_block.specs.Partitions.{IsOnShelves, IsPlace, OnShelves, key_on, with_key_on}
use Rattle.cell_block.specs.Store.{AreKept, AreTied, room_in, entry_of, entry_under}
use Rattle.cell_block.specs.declared.kept.Kept.{Kept}
use Rattle.cell_block.proofs.Grids.{at_place, cases_place, mapped_at, mapped_rows, one_if, put_at, put_long, put_other, put_rows, put_same, row_of, same_grids}

abbrev no_key_yet : Option ℕ
no_key_yet = None

pub some_same : (a b : Kept) → Some a ≡ Some b → a ≡ b
some_same a b e = let keep : Option Kept → Kept = λ o. unwrap_or o a in ap keep e

-- what is kept under the key of a place, where there is one
pub record Under (slab : Slab Kept) (key : ℕ) (at : Place) : Type 0 where
  pub it : Kept
  pub got : get slab key ≡ Some it
  pub own : it.at ≡ at

under_some : (o : Option Kept) (slab : Slab Kept) (key : ℕ) (at : Place) → get slab key ≡ o → IsSomeAnd o (λ k. k.at ≡ at) → Under slab key at
under_some None slab key at is h = absurd (h)
under_some (Some k) slab key at is h = record { it = k; got = is; own = h }

pub under : (s : OnShelves) (slab : Slab Kept) (at : Place) (key : ℕ) → AreTied s slab → key_on s.keys at ≡ Some key → Under slab key at
under s slab at key tied e = under_some (get slab key) slab key at refl (tied.kept at key e)

-- a place with a key is one of the lists
pub key_place : (s : OnShelves) (at : Place) (key : ℕ) → IsOnShelves s → key_on s.keys at ≡ Some key → IsPlace s at
key_place s at key shape e =
    let block : at.block < s.leaves = elim (cases_lt at.block s.leaves) [
      | inl h ↦ h
      | inr past ↦ absurd (let clash : no_key_yet ≡ Some key = sym (ap (λ (r : List (Option ℕ)). slice_index_or r at.field None) (get_or_past s.keys at.block [] (omega (arith, past, shape.blocks)))) ∙ e in cc)
    ] in
    let field : at.field < s.fields = elim (cases_lt at.field s.fields) [
      | inl h ↦ h
      | inr past ↦ absurd (let clash : no_key_yet ≡ Some key = sym (get_or_past (row_of s.keys at.block) at.field None (omega (arith, past, shape.rows at.block block))) ∙ e in cc)
    ] in
    record { block = block; field = field }

-- lists of keys of one shape
pub record HasShape (keys : List (List (Option ℕ))) (leaves fields : ℕ) : Type 0 where
  pub blocks : length keys ≡ leaves
  pub rows : (block : ℕ) → block < leaves → length (row_of keys block) ≡ fields

-- what is kept at each place, where one place changed
pub places_put : (keys keys' : List (List (Option ℕ))) (slab slab' : Slab Kept) (at : Place) (leaves fields : ℕ) (e : Option Entry) → HasShape keys leaves fields → HasShape keys' leaves fields
    → at.block < leaves → at.field < fields → entry_under slab' (key_on keys' at) ≡ e
    → ((other : Place) → other ≢ at → entry_under slab' (key_on keys' other) ≡ entry_under slab (key_on keys other))
    → map (map (entry_under slab')) keys' ≡ with_entry (map (map (entry_under slab)) keys) at e
places_put keys keys' slab slab' at leaves fields e shape shape' block field here others =
    let old = map (map (entry_under slab)) keys in
    let new = map (map (entry_under slab')) keys' in
    let long : length old ≡ leaves = length-map keys (map (entry_under slab)) ∙ shape.blocks in
    let rows : (b : ℕ) → b < leaves → length (row_of old b) ≡ fields = λ b lt. mapped_rows (entry_under slab) keys b (omega (arith, lt, shape.blocks)) ∙ shape.rows b lt in
    same_grids new (put_at old at e) leaves fields
    (length-map keys' (map (entry_under slab')) ∙ shape'.blocks)
    (put_long old at e ∙ long)
    (λ b lt. mapped_rows (entry_under slab') keys' b (omega (arith, lt, shape'.blocks)) ∙ shape'.rows b lt)
    (λ b lt. put_rows old at e b ∙ rows b lt)
    (λ p b f. elim (cases_place p at) [
      | inl is ↦ ap (at_place new) is ∙ mapped_at (entry_under slab') keys' at refl ∙ here
          ∙ sym (put_same old at e (omega (arith, block, long)) (omega (arith, field, rows at.block block))) ∙ sym (ap (at_place (put_at old at e)) is)
      | inr ne ↦ mapped_at (entry_under slab') keys' p refl ∙ others p ne ∙ sym (mapped_at (entry_under slab) keys p refl)
          ∙ sym (put_other old at p e (omega (arith, block, long)) ne)
    ])

-- the shape of keys of which one changed
pub keys_put_shape : (s : OnShelves) (at : Place) (key : Option ℕ) → IsOnShelves s → HasShape (with_key_on s.keys at key) s.leaves s.fields
keys_put_shape s at key shape = record {
  blocks = put_long s.keys at key ∙ shape.blocks;
  rows = λ b lt. put_rows s.keys at key b ∙ shape.rows b lt;
}

pub keys_shape : (s : OnShelves) → IsOnShelves s → HasShape s.keys s.leaves s.fields
keys_shape s shape = record { blocks = shape.blocks; rows = shape.rows }

-- a key that another place has is not that of a place
pub keys_differ : (s : OnShelves) (slab : Slab Kept) (at other : Place) (key k : ℕ) → AreTied s slab → key_on s.keys at ≡ Some key → key_on s.keys other ≡ Some k → other ≢ at → k ≢ key
keys_differ s slab at other key k tied here there ne = λ e.
    let a = under s slab at key tied here in
    let b = under s slab other key tied (there ∙ ap Some e) in
    let same : Some b.it ≡ Some a.it = sym b.got ∙ a.got in
    let one : b.it ≡ a.it = some_same b.it a.it same in
    ne (sym b.own ∙ ap (λ (x : Kept). x.at) one ∙ a.own)

-- what is kept at other places, where one key changed
pub others_same : (s : OnShelves) (slab slab' : Slab Kept) (key : ℕ) (slot : Option Kept) (o : Option ℕ) → Updates slab slab' key slot → ((k : ℕ) → o ≡ Some k → k ≢ key) → entry_under slab' o ≡ entry_under slab o
others_same s slab slab' key slot None updates apart = refl
others_same s slab slab' key slot (Some k) updates apart = ap (λ (x : Option Kept). option_map entry_of x) (updates.others k (apart k refl))

-- what is kept under one key changed, and stays of its place
pub record Changed (s : OnShelves) (slab slab' : Slab Kept) (counts : List ℕ) (at : Place) (e : Entry) : Type 0 where
  pub places : map (map (entry_under slab')) s.keys ≡ with_entry (map (map (entry_under slab)) s.keys) at (Some e)
  pub are : AreKept s slab' counts
  pub room : room_in slab' ≡ room_in slab

kept_still : (s : OnShelves) (slab slab' : Slab Kept) (key : ℕ) (kept new : Kept) → AreTied s slab → Updates slab slab' key (Some new) → get slab key ≡ Some kept → new.at ≡ kept.at → AreTied s slab'
kept_still s slab slab' key kept new tied updates was at_same = record {
  kept = λ at k e. elim (cases_eq k key) [
    | inl is ↦
        let a = under s slab at k tied e in
        let one : a.it ≡ kept = some_same a.it kept (sym a.got ∙ ap (get slab) is ∙ was) in
        subst (λ (o : Option Kept). IsSomeAnd o (λ x. x.at ≡ at)) (sym (ap (get slab') is ∙ updates.changed)) (at_same ∙ sym (ap (λ (x : Kept). x.at) one) ∙ a.own)
    | inr ne ↦ subst (λ (o : Option Kept). IsSomeAnd o (λ x. x.at ≡ at)) (sym (updates.others k ne)) (tied.kept at k e)
  ];
  keyed = λ k x e. elim (cases_eq k key) [
    | inl is ↦
        let one : x ≡ new = some_same x new (sym e ∙ ap (get slab') is ∙ updates.changed) in
        ap (key_on s.keys) (ap (λ (y : Kept). y.at) one ∙ at_same) ∙ tied.keyed key kept was ∙ ap Some (sym is)
    | inr ne ↦ tied.keyed k x (sym (updates.others k ne) ∙ e)
  ];
}

pub len_same : (slab : Slab Kept) (key : ℕ) (kept new : Kept) → get slab key ≡ Some kept → room_in (with_value slab key new) ≡ room_in slab
len_same slab key kept new was =
    let there : key < length slab.slots = ContainsKey-within slab key (ap (λ (o : Option Kept). is_some o) was) in
    let sum = sum_by-set (λ (o : Option Kept). one_if (is_some o)) slab.slots key (Some new) None there in
    let one : one_if (is_some (slice_index_or slab.slots key None)) ≡ one_if true = ap (λ (o : Option Kept). one_if (is_some o)) was in
    let same : slab_len (with_value slab key new) ≡ slab_len slab = omega (arith, sum, one) in
    ap (λ (n : ℕ). slab.capacity - n) same

pub kept_changed : (s : OnShelves) (slab : Slab Kept) (counts : List ℕ) (at : Place) (key : ℕ) (kept new : Kept) → IsOnShelves s → AreKept s slab counts
    → key_on s.keys at ≡ Some key → get slab key ≡ Some kept → new.at ≡ kept.at → Changed s slab (with_value slab key new) counts at (entry_of new)
kept_changed s slab counts at key kept new shape are here was at_same =
    let slab' = with_value slab key new in
    let updates = Updates-with_value slab key new (ap (λ (o : Option Kept). is_some o) was) in
    let place = key_place s at key shape here in
    record {
      places = places_put s.keys s.keys slab slab' at s.leaves s.fields (Some (entry_of new)) (keys_shape s shape) (keys_shape s shape) place.block place.field
          (ap (entry_under slab') here ∙ ap (option_map entry_of) updates.changed)
          (λ other ne. others_same s slab slab' key (Some new) (key_on s.keys other) updates (λ k e. keys_differ s slab at other key k are.tied here e ne));
      are = record { tied = kept_still s slab slab' key kept new are.tied updates was at_same; fields = are.fields; counted = are.counted };
      room = len_same slab key kept new was;
    }
