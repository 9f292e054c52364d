-- The shelves of all partitions, of which one place came or went.
use Rattle.std.proofs.Common.{◌≡◌, ◌≢◌, ◌∙◌, sym, ap, subst, inl, inr, ℕ, ◌+◌, ◌*◌, ◌-◌, ◌/◌, ◌<◌, ◌≤◌, Option, List, [], length, map, slice_index, slice_index_or, slice_set, arith}
use Rattle.std.proofs.lemmas.Bool.{cases_eq, cases_lt}
use Rattle.std.proofs.lemmas.List.{get_or_past, get_or-map, get_or-set_same, get_or-set_other, length-map, length-set, map-set}
use Rattle.mesh_rules.specs.Sums.{table}
use Rattle.sparse_pool.specs.declared.place.Place.{Place}
use Rattle.alloc_epochs.specs.Shelf.{Shelved, keys_of}
use Rattle.cell_block.specs.Partitions.{AreShelves, IsChanged, IsPlace, OnShelves, no_shelf, on_shelves, row_on, shelf_of, with_key_on, with_place_on}
use Rattle.cell_block.proofs.Tables.{table_at, table_by, table_length}
use Rattle.cell_block.proofs.Partitions.{changed_are, in_list, row_is, row_within, shelf_at}

-- the shelf that changed
put_shelf : (size leaves fields : ℕ) (shelves : List Shelved) (at : Place) (new : Shelved) → AreShelves size leaves fields shelves → at.block < leaves
    → shelf_of size (slice_set shelves (at.block / size) new) at.block ≡ new
put_shelf size leaves fields shelves at new are block =
    get_or-set_same shelves (at.block / size) new no_shelf (omega (arith, are.count, (in_list size leaves at.block are.some block).list))

-- its row
changed_row : (size leaves fields : ℕ) (shelves : List Shelved) (at : Place) (key : Option ℕ) (new : Shelved) → AreShelves size leaves fields shelves → at.block < leaves → at.field < fields
    → IsChanged (shelf_of size shelves at.block) new at key → row_on size (slice_set shelves (at.block / size) new) at.block ≡ slice_set (row_on size shelves at.block) at.field key
changed_row size leaves fields shelves at key new are block field changed =
    let s = shelf_of size shelves at.block in
    let i = at.block - at.block / size * size in
    let row = slice_set (keys_of s at.block) at.field key in
    let is = shelf_at size leaves fields shelves at.block are block in
    row_is size leaves fields (slice_set shelves (at.block / size) new) at.block (changed_are size leaves fields shelves at key new are block field changed) block
    ∙ ap (λ (v : Shelved). slice_index_or v.keys i []) (put_shelf size leaves fields shelves at new are block)
    ∙ ap (λ (ks : List (List (Option ℕ))). slice_index_or ks i []) changed.keys
    ∙ ap (λ (n : ℕ). slice_index_or (slice_set s.keys (at.block - n) row) i []) is.first
    ∙ get_or-set_same s.keys i row [] (row_within size leaves fields shelves at.block are block)

-- the rows of other blocks
other_row : (size leaves fields : ℕ) (shelves : List Shelved) (at : Place) (key : Option ℕ) (new : Shelved) (block : ℕ) → AreShelves size leaves fields shelves → at.block < leaves → at.field < fields
    → IsChanged (shelf_of size shelves at.block) new at key → block < leaves → block ≢ at.block → row_on size (slice_set shelves (at.block / size) new) block ≡ row_on size shelves block
other_row size leaves fields shelves at key new block are within field changed lt ne = elim (cases_eq (block / size) (at.block / size)) [
  | inl e ↦
      let s = shelf_of size shelves at.block in
      let i = block - block / size * size in
      let row = slice_set (keys_of s at.block) at.field key in
      let is = shelf_at size leaves fields shelves at.block are within in
      let here = in_list size leaves at.block are.some within in
      let there = in_list size leaves block are.some lt in
      let first : s.first ≡ block / size * size = is.first ∙ ap (λ (n : ℕ). n * size) (sym e) in
      let apart : i ≢ at.block - s.first = λ same. ne (omega (arith, same, first, is.first, here.from, there.from)) in
      row_is size leaves fields (slice_set shelves (at.block / size) new) block (changed_are size leaves fields shelves at key new are within field changed) lt
      ∙ ap (λ (n : ℕ). slice_index_or (slice_index_or (slice_set shelves (at.block / size) new) n no_shelf).keys i []) e
      ∙ ap (λ (v : Shelved). slice_index_or v.keys i []) (put_shelf size leaves fields shelves at new are within)
      ∙ ap (λ (ks : List (List (Option ℕ))). slice_index_or ks i []) changed.keys
      ∙ get_or-set_other s.keys (at.block - s.first) i row [] apart
      ∙ ap (λ (n : ℕ). slice_index_or (slice_index_or shelves n no_shelf).keys i []) (sym e)
      ∙ sym (row_is size leaves fields shelves block are lt)
  | inr far ↦ ap (λ (s : Shelved). keys_of s block) (get_or-set_other shelves (at.block / size) (block / size) new no_shelf far)
]

-- the keys
pub keys_changed : (size leaves fields : ℕ) (shelves : List Shelved) (at : Place) (key : Option ℕ) (new : Shelved) → AreShelves size leaves fields shelves → at.block < leaves → at.field < fields
    → IsChanged (shelf_of size shelves at.block) new at key
    → table leaves (row_on size (slice_set shelves (at.block / size) new)) ≡ with_key_on (table leaves (row_on size shelves)) at key
keys_changed size leaves fields shelves at key new are block field changed =
    let all = table leaves (row_on size shelves) in
    let row = slice_set (slice_index_or all at.block []) at.field key in
    let old : slice_index_or all at.block [] ≡ row_on size shelves at.block = table_at leaves (row_on size shelves) at.block [] block in
    sym (table_by (slice_set all at.block row) leaves (row_on size (slice_set shelves (at.block / size) new)) []
    (length-set all at.block row ∙ table_length leaves (row_on size shelves))
    (λ b lt. elim (cases_eq b at.block) [
      | inl e ↦ ap (λ (n : ℕ). slice_index_or (slice_set all at.block row) n []) e
          ∙ get_or-set_same all at.block row [] (omega (arith, block, table_length leaves (row_on size shelves)))
          ∙ ap (λ (ks : List (Option ℕ)). slice_set ks at.field key) old
          ∙ sym (changed_row size leaves fields shelves at key new are block field changed)
          ∙ ap (λ (n : ℕ). row_on size (slice_set shelves (at.block / size) new) n) (sym e)
      | inr ne ↦ get_or-set_other all at.block b row [] ne
          ∙ table_at leaves (row_on size shelves) b [] lt
          ∙ sym (other_row size leaves fields shelves at key new b are block field changed lt ne)
    ]))

-- what is seen of the shelves
pub changed_value : (size leaves fields : ℕ) (shelves : List Shelved) (at : Place) (key : Option ℕ) (new : Shelved) (s : OnShelves) → on_shelves size leaves fields shelves ≡ s
    → AreShelves size leaves fields shelves → IsPlace s at → IsChanged (shelf_of size shelves at.block) new at key
    → on_shelves size leaves fields (slice_set shelves (at.block / size) new) ≡ record (with_place_on s at key) { spares = map (λ (v : Shelved). v.spare) (slice_set shelves (at.block / size) new) }
changed_value size leaves fields shelves at key new s is are place changed =
    let i = at.block / size in
    let P = λ (v : OnShelves). IsPlace v at
    → on_shelves size leaves fields (slice_set shelves i new) ≡ record (with_place_on v at key) { spares = map (λ (w : Shelved). w.spare) (slice_set shelves i new) } in
    subst P is (λ here.
    let there : i < length shelves = omega (arith, are.count, (in_list size leaves at.block are.some here.block).list) in
    let epochs : map (λ (v : Shelved). v.epoch) (slice_set shelves i new) ≡ slice_set (map (λ (v : Shelved). v.epoch) shelves) i (slice_index (map (λ (v : Shelved). v.epoch) shelves) i + 1) =
    map-set (λ (v : Shelved). v.epoch) shelves i new
    ∙ ap (λ (n : ℕ). slice_set (map (λ (v : Shelved). v.epoch) shelves) i n) (changed.epoch ∙ ap (λ (n : ℕ). n + 1) (sym (get_or-map (λ (v : Shelved). v.epoch) shelves i no_shelf 0 there))) in
    ap (λ (ks : List (List (Option ℕ))). record (on_shelves size leaves fields (slice_set shelves i new)) { keys = ks }) (keys_changed size leaves fields shelves at key new are here.block here.field changed)
    ∙ ap (λ (es : List ℕ). record (on_shelves size leaves fields (slice_set shelves i new)) { keys = with_key_on (table leaves (row_on size shelves)) at key; epochs = es }) epochs) place

-- the room of partitions, where one shelf is put in the place of one with at most so much more
pub spares_put : (shelves : List Shelved) (i more list : ℕ) (new : Shelved) → i < length shelves → (slice_index_or shelves i no_shelf).spare ≤ new.spare + more
    → slice_index (map (λ (v : Shelved). v.spare) shelves) list ≤ slice_index (map (λ (v : Shelved). v.spare) (slice_set shelves i new)) list + more
spares_put shelves i more list new there room =
    let spare = λ (v : Shelved). v.spare in
    elim (cases_lt list (length shelves)) [
      | inl lt ↦ elim (cases_eq list i) [
        | inl e ↦ omega (
          arith,
          room,
          get_or-map spare shelves list no_shelf 0 lt,
          get_or-map spare (slice_set shelves i new) list no_shelf 0 (omega (arith, lt, length-set shelves i new)),
          ap (λ (n : ℕ). (slice_index_or shelves n no_shelf).spare) e,
          ap (λ (n : ℕ). (slice_index_or (slice_set shelves i new) n no_shelf).spare) e,
          ap (λ (v : Shelved). v.spare) (get_or-set_same shelves i new no_shelf there),
        )
        | inr ne ↦ omega (
          arith,
          get_or-map spare shelves list no_shelf 0 lt,
          get_or-map spare (slice_set shelves i new) list no_shelf 0 (omega (arith, lt, length-set shelves i new)),
          ap (λ (v : Shelved). v.spare) (get_or-set_other shelves i list new no_shelf ne),
        )
      ]
      | inr past ↦ omega (arith, get_or_past (map spare shelves) list 0 (omega (arith, past, length-map shelves spare)))
    ]

pub spares_changed : (size leaves fields : ℕ) (shelves : List Shelved) (at : Place) (more list : ℕ) (shelf new : Shelved) (s : OnShelves) → on_shelves size leaves fields shelves ≡ s
    → AreShelves size leaves fields shelves → at.block < leaves → shelf ≡ shelf_of size shelves at.block → shelf.spare ≤ new.spare + more
    → slice_index s.spares list ≤ slice_index (map (λ (v : Shelved). v.spare) (slice_set shelves (at.block / size) new)) list + more
spares_changed size leaves fields shelves at more list shelf new s is are block read room =
    let i = at.block / size in
    let all = map (λ (v : Shelved). v.spare) (slice_set shelves i new) in
    subst (λ (v : OnShelves). slice_index v.spares list ≤ slice_index all list + more) is
    (spares_put shelves i more list new (omega (arith, are.count, (in_list size leaves at.block are.some block).list)) (omega (arith, ap (λ (v : Shelved). v.spare) read, room)))
