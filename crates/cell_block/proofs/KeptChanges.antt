-- What is kept, where a place came or went, and how many more can come.
use Rattle.std.proofs.Common.{◌≡◌, ◌≢◌, ◌∙◌, sym, ap, subst, inl, inr, ℕ, ◌+◌, ◌<◌, ◌≤◌, is_some, min, Option, None, Some, List, length, map, slice_index, slice_set, arith}
use Rattle.std.specs.Prelude.{IsSomeAnd, unwrap_or}
use Rattle.std.specs.Option.{option_map}
use Rattle.std.proofs.lemmas.Bool.{cases_eq, cases_lt}
use Rattle.std.proofs.lemmas.List.{get_or_past, get_or-map, get_or-set_same, get_or-set_other, length-map, length-set}
use Rattle.slab.specs.Slab.{Slab, Updates, get}
use Rattle.sparse_pool.specs.declared.place.Place.{Place}
use Rattle.cell_block.specs.State.{Entry, with_entry}
use Rattle.cell_block.specs.Partitions.{IsOnShelves, IsPlace, OnShelves, key_on, with_key_on, with_place_on}
use Rattle.cell_block.specs.Store.{AreKept, entry_of, entry_under, keys_with}
use Rattle.cell_block.specs.declared.kept.Kept.{Kept}
use Rattle.cell_block.proofs.Grids.{cases_place, count_put, count_put_other, one_if, put_other, put_same}
use Rattle.cell_block.proofs.KeptPlaces.{keys_differ, keys_put_shape, keys_shape, others_same, places_put, some_same, under}

abbrev no_kept : Option Kept
no_kept = None

abbrev no_number : Option ℕ
no_number = None

-- the shelves with one key changed
abbrev pub changed_on : OnShelves → Place → Option ℕ → List ℕ → OnShelves
changed_on s at key spares = record (with_place_on s at key) { spares = spares }

-- a place came or went: what is kept at each place, and that all is kept as it has to be
pub record Came (s : OnShelves) (slab slab' : Slab Kept) (counts : List ℕ) (at : Place) (key : Option ℕ) (spares : List ℕ) (e : Option Entry) : Type 0 where
  pub places : map (map (entry_under slab')) (with_key_on s.keys at key) ≡ with_entry (map (map (entry_under slab)) s.keys) at e
  pub are : AreKept (changed_on s at key spares) slab' counts

-- the numbers of blocks, where one rose or fell
counts_changed : (s : OnShelves) (counts : List ℕ) (at : Place) (key : Option ℕ) (n : ℕ) → IsOnShelves s → IsPlace s at → length counts ≡ s.fields
    → ((f : ℕ) → f < s.fields → slice_index counts f ≡ keys_with s.keys f)
    → n + one_if (is_some (key_on s.keys at)) ≡ slice_index counts at.field + one_if (is_some key)
    → (f : ℕ) → f < s.fields → slice_index (slice_set counts at.field n) f ≡ keys_with (with_key_on s.keys at key) f
counts_changed s counts at key n shape place long counted step f lt = elim (cases_eq f at.field) [
  | inl e ↦
      let put : slice_index (slice_set counts at.field n) at.field ≡ n = get_or-set_same counts at.field n 0 (omega (arith, long, place.field)) in
      let whole = count_put s.keys at key (omega (arith, shape.blocks, place.block)) (omega (arith, shape.rows at.block place.block, place.field)) in
      let before = counted at.field place.field in
      let same : n ≡ keys_with (with_key_on s.keys at key) at.field = omega (arith, whole, before, step) in
      ap (λ (k : ℕ). slice_index (slice_set counts at.field n) k) e ∙ put ∙ same ∙ ap (keys_with (with_key_on s.keys at key)) (sym e)
  | inr ne ↦ get_or-set_other counts at.field f n 0 ne ∙ counted f lt ∙ sym (count_put_other s.keys at key f (omega (arith, shape.blocks, place.block)) ne)
]

-- a place came
pub added : (s : OnShelves) (slab slab' : Slab Kept) (counts spares : List ℕ) (at : Place) (key n : ℕ) (kept : Kept) → IsOnShelves s → AreKept s slab counts → IsPlace s at
    → key_on s.keys at ≡ None → get slab key ≡ None → Updates slab slab' key (Some kept) → kept.at ≡ at → n ≡ slice_index counts at.field + 1
    → Came s slab slab' (slice_set counts at.field n) at (Some key) spares (Some (entry_of kept))
added s slab slab' counts spares at key n kept shape are place absent vacant updates own more =
    let keys' = with_key_on s.keys at (Some key) in
    let block : at.block < length s.keys = omega (arith, shape.blocks, place.block) in
    let here : key_on keys' at ≡ Some key = put_same s.keys at (Some key) block (omega (arith, shape.rows at.block place.block, place.field)) in
    let other_key : (p : Place) → p ≢ at → key_on keys' p ≡ key_on s.keys p = λ p ne. put_other s.keys at p (Some key) block ne in
    let apart : (p : Place) (k : ℕ) → key_on s.keys p ≡ Some k → k ≢ key = λ p k e is.
    let u = under s slab p k are.tied e in
    let clash : no_kept ≡ Some u.it = sym vacant ∙ sym (ap (get slab) is) ∙ u.got in absurd (cc) in
    record {
      places = places_put s.keys keys' slab slab' at s.leaves s.fields (Some (entry_of kept)) (keys_shape s shape) (keys_put_shape s at (Some key) shape) place.block place.field
          (ap (entry_under slab') here ∙ ap (option_map entry_of) updates.changed)
          (λ p ne. ap (entry_under slab') (other_key p ne) ∙ others_same s slab slab' key (Some kept) (key_on s.keys p) updates (λ k e. apart p k e));
      are = record {
        tied = record {
          kept = λ p k e. elim (cases_place p at) [
            | inl is ↦
                let one : Some k ≡ Some key = sym e ∙ ap (key_on keys') is ∙ here in
                let got : get slab' k ≡ Some kept = ap (λ (o : Option ℕ). entry_key slab' o) one ∙ updates.changed in
                subst (λ (o : Option Kept). IsSomeAnd o (λ x. x.at ≡ p)) (sym got) (own ∙ sym is)
            | inr ne ↦
                let old : key_on s.keys p ≡ Some k = sym (other_key p ne) ∙ e in
                subst (λ (o : Option Kept). IsSomeAnd o (λ x. x.at ≡ p)) (sym (updates.others k (apart p k old))) (are.tied.kept p k old)
          ];
          keyed = λ k x e. elim (cases_eq k key) [
            | inl is ↦
                let one : x ≡ kept = some_same x kept (sym e ∙ ap (get slab') is ∙ updates.changed) in
                ap (key_on keys') (ap (λ (y : Kept). y.at) one ∙ own) ∙ here ∙ ap Some (sym is)
            | inr ne ↦
                let old : key_on s.keys x.at ≡ Some k = are.tied.keyed k x (sym (updates.others k ne) ∙ e) in
                let far : x.at ≢ at = λ is. (let clash : no_number ≡ Some k = sym absent ∙ sym (ap (key_on s.keys) is) ∙ old in absurd (cc)) in
                other_key x.at far ∙ old
          ];
        };
        fields = length-set counts at.field n ∙ are.fields;
        counted = counts_changed s counts at (Some key) n shape place are.fields are.counted (omega (arith, more, ap (λ (o : Option ℕ). one_if (is_some o)) absent));
      };
    }
  where
    entry_key : Slab Kept → Option ℕ → Option Kept
    entry_key slab None = None
    entry_key slab (Some k) = get slab k

-- a place went
pub released : (s : OnShelves) (slab slab' : Slab Kept) (counts spares : List ℕ) (at : Place) (key n : ℕ) → IsOnShelves s → AreKept s slab counts → IsPlace s at
    → key_on s.keys at ≡ Some key → Updates slab slab' key None → n + 1 ≡ slice_index counts at.field
    → Came s slab slab' (slice_set counts at.field n) at None spares None
released s slab slab' counts spares at key n shape are place present updates less =
    let keys' = with_key_on s.keys at None in
    let block : at.block < length s.keys = omega (arith, shape.blocks, place.block) in
    let here : key_on keys' at ≡ None = put_same s.keys at None block (omega (arith, shape.rows at.block place.block, place.field)) in
    let other_key : (p : Place) → p ≢ at → key_on keys' p ≡ key_on s.keys p = λ p ne. put_other s.keys at p None block ne in
    let apart : (p : Place) (k : ℕ) → p ≢ at → key_on s.keys p ≡ Some k → k ≢ key = λ p k ne e. keys_differ s slab at p key k are.tied present e ne in
    record {
      places = places_put s.keys keys' slab slab' at s.leaves s.fields None (keys_shape s shape) (keys_put_shape s at None shape) place.block place.field
          (ap (entry_under slab') here)
          (λ p ne. ap (entry_under slab') (other_key p ne) ∙ others_same s slab slab' key None (key_on s.keys p) updates (λ k e. apart p k ne e));
      are = record {
        tied = record {
          kept = λ p k e. elim (cases_place p at) [
            | inl is ↦ absurd (let clash : no_number ≡ Some k = sym here ∙ sym (ap (key_on keys') is) ∙ e in cc)
            | inr ne ↦
                let old : key_on s.keys p ≡ Some k = sym (other_key p ne) ∙ e in
                subst (λ (o : Option Kept). IsSomeAnd o (λ x. x.at ≡ p)) (sym (updates.others k (apart p k ne old))) (are.tied.kept p k old)
          ];
          keyed = λ k x e. elim (cases_eq k key) [
            | inl is ↦ absurd (let clash : no_kept ≡ Some x = sym updates.changed ∙ sym (ap (get slab') is) ∙ e in cc)
            | inr ne ↦
                let old : key_on s.keys x.at ≡ Some k = are.tied.keyed k x (sym (updates.others k ne) ∙ e) in
                let far : x.at ≢ at = λ is. ne (some_number k key (sym old ∙ ap (key_on s.keys) is ∙ present)) in
                other_key x.at far ∙ old
          ];
        };
        fields = length-set counts at.field n ∙ are.fields;
        counted = counts_changed s counts at None n shape place are.fields are.counted (omega (arith, less, ap (λ (o : Option ℕ). one_if (is_some o)) present));
      };
    }
  where
    some_number : (a b : ℕ) → Some a ≡ Some b → a ≡ b
    some_number a b e = let keep : Option ℕ → ℕ = λ o. unwrap_or o a in ap keep e

-- the room of a partition: what its shelf and the slab both have
pub spare_is : (room : ℕ) (spares : List ℕ) (list : ℕ) → slice_index (map (min room) spares) list ≡ min room (slice_index spares list)
spare_is room spares list = elim (cases_lt list (length spares)) [
  | inl lt ↦ get_or-map (min room) spares list 0 0 lt
  | inr past ↦ get_or_past (map (min room) spares) list 0 (omega (arith, past, length-map spares (min room))) ∙ (let none : slice_index spares list ≡ 0 = get_or_past spares list 0 past in omega (arith, none))
]

pub spares_less : (room room' more : ℕ) (spares spares' : List ℕ) → room ≤ room' + more → ((list : ℕ) → slice_index spares list ≤ slice_index spares' list + more)
    → (list : ℕ) → slice_index (map (min room) spares) list ≤ slice_index (map (min room') spares') list + more
spares_less room room' more spares spares' rooms each list = omega (arith, rooms, each list, spare_is room spares list, spare_is room' spares' list)
