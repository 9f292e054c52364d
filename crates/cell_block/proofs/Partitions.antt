-- The shelves of all partitions, seen as one.
use Rattle.std.proofs.Common.{◌≡◌, ◌∙◌, sym, ap, subst, inl, inr, ℕ, ◌+◌, ◌*◌, ◌-◌, ◌/◌, ◌<◌, ◌≤◌, true, is_some, nat_lt, Option, None, List, [], length, slice_index, slice_index_or, slice_set, arith}
use Rattle.std.proofs.Math.Nat.{div-mul-le_self, lt-div-mul-add}
use Rattle.std.proofs.lemmas.Nat.{le-div}
use Rattle.std.proofs.lemmas.Bool.{false≢true, cases_eq, cases_lt, le-ltb, cond-false}
use Rattle.std.proofs.lemmas.List.{get_or_past, get_or_read, get_or-map, get_or-set_same, get_or-set_other, length-map, length-set}
use Rattle.mesh_rules.specs.Sums.{table}
use Rattle.sparse_pool.specs.declared.place.Place.{Place}
use Rattle.alloc_epochs.specs.Shelf.{IsOn, Shelved, key_at, keys_of}
use Rattle.cell_block.specs.Partitions.{AreShelves, IsChanged, IsOnShelves, IsPlace, IsShelfOf, OnShelves, key_on, lists_of, no_shelf, on_shelves, row_on, shelf_of}
use Rattle.cell_block.proofs.Tables.{table_at, table_length}

abbrev pub no_key : Option ℕ
no_key = None

-- where a leaf lies in its partition
pub record InList (size leaves block : ℕ) : Type 0 where
  pub from : block / size * size ≤ block
  pub below : block < block / size * size + size
  pub list : block / size < lists_of size leaves

pub in_list : (size leaves block : ℕ) → 1 ≤ size → block < leaves → InList size leaves block
in_list size leaves block some within =
    let from = div-mul-le_self block size in
    let below = lt-div-mul-add {a = block} {b = size} (omega arith) in
    let list : block / size + 1 ≤ (leaves + size - 1) / size = le-div (block / size + 1) (leaves + size - 1) size (omega arith) (omega (arith, from, below)) in
    record { from = from; below = below; list = omega (arith, list) }

-- the shelf of a leaf
pub shelf_at : (size leaves fields : ℕ) (shelves : List Shelved) (block : ℕ) → AreShelves size leaves fields shelves → block < leaves
    → IsShelfOf size leaves fields (block / size) (shelf_of size shelves block)
shelf_at size leaves fields shelves block are within =
    are.each (block / size) (omega (arith, are.count, (in_list size leaves block are.some within).list))

-- its row there
pub row_is : (size leaves fields : ℕ) (shelves : List Shelved) (block : ℕ) → AreShelves size leaves fields shelves → block < leaves
    → row_on size shelves block ≡ slice_index_or (shelf_of size shelves block).keys (block - block / size * size) []
row_is size leaves fields shelves block are within =
    let s = shelf_of size shelves block in
    let is = shelf_at size leaves fields shelves block are within in
    let at = in_list size leaves block are.some within in
    cond-false (nat_lt block s.first) [] (slice_index_or s.keys (block - s.first) []) (le-ltb block s.first (omega (arith, is.first, at.from)))
    ∙ ap (λ (n : ℕ). slice_index_or s.keys (block - n) []) is.first

-- the number of a row is one of the shelf
pub row_within : (size leaves fields : ℕ) (shelves : List Shelved) (block : ℕ) → AreShelves size leaves fields shelves → block < leaves
    → block - block / size * size < length (shelf_of size shelves block).keys
row_within size leaves fields shelves block are within =
    let is = shelf_at size leaves fields shelves block are within in
    let at = in_list size leaves block are.some within in
    omega (arith, is.blocks, at.from, at.below, within)

-- the key that the shelf of a leaf has
pub key_is : (size leaves fields : ℕ) (shelves : List Shelved) (at : Place) → at.block < leaves
    → key_at (shelf_of size shelves at.block) at ≡ key_on (on_shelves size leaves fields shelves).keys at
key_is size leaves fields shelves at within =
    sym (ap (λ (row : List (Option ℕ)). slice_index_or row at.field None) (table_at leaves (row_on size shelves) at.block [] within))

pub no_key_past : (size leaves fields : ℕ) (shelves : List Shelved) (at : Place) → leaves ≤ at.block
    → key_on (on_shelves size leaves fields shelves).keys at ≡ None
no_key_past size leaves fields shelves at past =
    ap (λ (row : List (Option ℕ)). slice_index_or row at.field None) (get_or_past (table leaves (row_on size shelves)) at.block [] (omega (arith, table_length leaves (row_on size shelves))))

-- a place that there is stands on its shelf
pub place_is_on : (size leaves fields : ℕ) (shelves : List Shelved) (at : Place) → AreShelves size leaves fields shelves → at.block < leaves → at.field < fields
    → IsOn (shelf_of size shelves at.block) at
place_is_on size leaves fields shelves at are within field =
    let is = shelf_at size leaves fields shelves at.block are within in
    let here = in_list size leaves at.block are.some within in
    let row = row_within size leaves fields shelves at.block are within in
    record {
      from_first = omega (arith, is.first, here.from);
      block = omega (arith, is.first, here.from, row);
      field = omega (arith, is.numbers, field);
    }

-- a key stands at a place that there is
pub key_within : (size leaves fields : ℕ) (shelves : List Shelved) (at : Place) (s : OnShelves) → on_shelves size leaves fields shelves ≡ s → AreShelves size leaves fields shelves
    → is_some (key_on s.keys at) ≡ true → IsPlace s at
key_within size leaves fields shelves at s is are =
    let P = λ (v : OnShelves). is_some (key_on v.keys at) ≡ true → IsPlace v at in
    subst P is (λ e.
    let block : at.block < leaves = elim (cases_lt at.block leaves) [
      | inl h ↦ h
      | inr past ↦ absurd (false≢true (sym (ap (λ (o : Option ℕ). is_some o) (no_key_past size leaves fields shelves at past)) ∙ e))
    ] in
    let row = row_is size leaves fields shelves at.block are block in
    let i = at.block - at.block / size * size in
    let long = (shelf_at size leaves fields shelves at.block are block).rows i (row_within size leaves fields shelves at.block are block) in
    let field : at.field < fields = elim (cases_lt at.field fields) [
      | inl h ↦ h
      | inr past ↦ absurd (false≢true (
          sym (ap (λ (r : List (Option ℕ)). is_some (slice_index_or r at.field no_key)) row
          ∙ ap (λ (o : Option ℕ). is_some o) (get_or_past (slice_index_or (shelf_of size shelves at.block).keys i []) at.field None (omega (arith, long, past))))
          ∙ ap (λ (o : Option ℕ). is_some o) (key_is size leaves fields shelves at block) ∙ e))
    ] in
    record { block = block; field = field })

-- the shelves with that one are still those of the partitions
changed_shelf : (size leaves fields : ℕ) (shelves : List Shelved) (at : Place) (key : Option ℕ) (new : Shelved) → AreShelves size leaves fields shelves → at.block < leaves → at.field < fields
    → IsChanged (shelf_of size shelves at.block) new at key → IsShelfOf size leaves fields (at.block / size) new
changed_shelf size leaves fields shelves at key new are block field changed =
    let s = shelf_of size shelves at.block in
    let is = shelf_at size leaves fields shelves at.block are block in
    let i = at.block - s.first in
    let row = slice_set (keys_of s at.block) at.field key in
    let long : length new.keys ≡ length s.keys = ap (λ (ks : List (List (Option ℕ))). length ks) changed.keys ∙ length-set s.keys i row in
    let here : row_on size shelves at.block ≡ slice_index_or s.keys (at.block - at.block / size * size) [] = row_is size leaves fields shelves at.block are block in
    let row_long : length row ≡ fields = length-set (keys_of s at.block) at.field key ∙ ap (λ (ks : List (Option ℕ)). length ks) here ∙ is.rows (at.block - at.block / size * size) (row_within size leaves fields shelves at.block are block) in
    record {
      first = changed.first ∙ is.first;
      numbers = changed.numbers ∙ is.numbers;
      blocks = long ∙ is.blocks;
      rows = λ r lt. elim (cases_eq r i) [
        | inl e ↦ ap (λ (ks : List (List (Option ℕ))). length (slice_index_or ks r [])) changed.keys
            ∙ ap (λ (n : ℕ). length (slice_index_or (slice_set s.keys i row) n [])) e
            ∙ ap (λ (ks : List (Option ℕ)). length ks) (get_or-set_same s.keys i row [] (omega (arith, long, lt, e)))
            ∙ row_long
        | inr ne ↦ ap (λ (ks : List (List (Option ℕ))). length (slice_index_or ks r [])) changed.keys
            ∙ ap (λ (ks : List (Option ℕ)). length ks) (get_or-set_other s.keys i r row [] ne)
            ∙ is.rows r (omega (arith, long, lt))
      ];
    }

pub changed_are : (size leaves fields : ℕ) (shelves : List Shelved) (at : Place) (key : Option ℕ) (new : Shelved) → AreShelves size leaves fields shelves → at.block < leaves → at.field < fields
    → IsChanged (shelf_of size shelves at.block) new at key → AreShelves size leaves fields (slice_set shelves (at.block / size) new)
changed_are size leaves fields shelves at key new are block field changed =
    let i = at.block / size in
    let there : i < length shelves = omega (arith, are.count, (in_list size leaves at.block are.some block).list) in
    record {
      some = are.some;
      most = are.most;
      few_leaves = are.few_leaves;
      few_fields = are.few_fields;
      count = length-set shelves i new ∙ are.count;
      each = λ list lt. elim (cases_eq list i) [
        | inl e ↦ subst (λ (n : ℕ). IsShelfOf size leaves fields n (slice_index_or (slice_set shelves i new) n no_shelf)) (sym e)
            (subst (λ (s : Shelved). IsShelfOf size leaves fields i s) (sym (get_or-set_same shelves i new no_shelf there)) (changed_shelf size leaves fields shelves at key new are block field changed))
        | inr ne ↦ subst (λ (s : Shelved). IsShelfOf size leaves fields list s) (sym (get_or-set_other shelves i list new no_shelf ne)) (are.each list (omega (arith, length-set shelves i new, lt)))
      ];
    }

-- the shelf of a place that there is, where it was read
pub record IsReady (s : OnShelves) (size : ℕ) (shelves : List Shelved) (shelf : Shelved) (at : Place) : Type 0 where
  pub read : shelf ≡ shelf_of size shelves at.block
  pub on : IsOn shelf at
  pub key : key_at shelf at ≡ key_on s.keys at
  pub spare : shelf.spare ≡ slice_index s.spares (at.block / s.size)
  pub epoch : shelf.epoch ≡ slice_index s.epochs (at.block / s.size)

pub is_ready : (size leaves fields : ℕ) (shelves : List Shelved) (at : Place) (shelf : Shelved) (s : OnShelves) → on_shelves size leaves fields shelves ≡ s → AreShelves size leaves fields shelves
    → IsPlace s at → shelf ≡ slice_index_or shelves (at.block / size) shelf → IsReady s size shelves shelf at
is_ready size leaves fields shelves at shelf s is are place found =
    let P = λ (v : OnShelves). IsPlace v at → IsReady v size shelves shelf at in
    subst P is (λ here.
    let there : at.block / size < length shelves = omega (arith, are.count, (in_list size leaves at.block are.some here.block).list) in
    let read = get_or_read shelves (at.block / size) shelf there found no_shelf in
    record {
      read = read;
      on = subst (λ (v : Shelved). IsOn v at) (sym read) (place_is_on size leaves fields shelves at are here.block here.field);
      key = ap (λ (v : Shelved). key_at v at) read ∙ key_is size leaves fields shelves at here.block;
      spare = ap (λ (v : Shelved). v.spare) read ∙ sym (get_or-map (λ (v : Shelved). v.spare) shelves (at.block / size) no_shelf 0 there);
      epoch = ap (λ (v : Shelved). v.epoch) read ∙ sym (get_or-map (λ (v : Shelved). v.epoch) shelves (at.block / size) no_shelf 0 there);
    }) place

-- the shapes of the lists that are seen
pub on_shelves_shape : (size leaves fields : ℕ) (shelves : List Shelved) (s : OnShelves) → on_shelves size leaves fields shelves ≡ s → AreShelves size leaves fields shelves → IsOnShelves s
on_shelves_shape size leaves fields shelves s is are =
    subst IsOnShelves is (record {
      some = are.some;
      few_leaves = are.few_leaves;
      few_fields = are.few_fields;
      blocks = table_length leaves (row_on size shelves);
      rows = λ b lt. ap (λ (r : List (Option ℕ)). length r) (table_at leaves (row_on size shelves) b [] lt ∙ row_is size leaves fields shelves b are lt)
          ∙ (shelf_at size leaves fields shelves b are lt).rows (b - b / size * size) (row_within size leaves fields shelves b are lt);
      epochs_long = length-map shelves (λ (v : Shelved). v.epoch) ∙ are.count;
      spares_long = length-map shelves (λ (v : Shelved). v.spare) ∙ are.count;
    })
