-- The mesh state with which filling starts: zeros of the fields that no block may go without.
use Rattle.std.proofs.Common.{◌≡◌, ◌⊎◌, ℕ, ◌<◌, Bool, true, false, ◌&&◌, cond, Option, Some, None, List, [], is_none, is_some, length, replicate, slice_index, refl, arith, ap, subst, sym, ◌∙◌, sum, inl, inr}
use Rattle.std.specs.List.{slice_index_or}
use Rattle.std.specs.Option.{option_and_then}
use Rattle.std.proofs.lemmas.Bool.{cases_lt, false≢true}
use Rattle.std.proofs.lemmas.List.{get_or_past}
use Rattle.block_tree.specs.Blocks.{TreeOfBlocks, leaves}
use Rattle.block_layout.specs.declared.layout.Layout.{Layout}
use Rattle.block_layout.specs.Faces.{face_count}
use Rattle.block_layout.specs.Layouts.{len}
use Rattle.field_bufs.specs.Buffers.{zeros}
use Rattle.sparse_pool.specs.declared.place.Place.{Place}
use Rattle.alloc_epochs.specs.Shelf.{place_on}
use Rattle.field_bufs.specs.declared.buf.FieldBuf.{FieldBuf}
use Rattle.problem_set.specs.Settings.{Settings}
use Rattle.mesh_rules.specs.Due.{partition_count, partition_size}
use Rattle.mesh_rules.specs.Fields.{field_count, is_sparse}
use Rattle.mesh_rules.specs.Sums.{table}
use Rattle.dense_mesh.proofs.Tables.{table_at, table_length}
use Rattle.cell_block.specs.State.{Entry, HasLayout, IsIn, IsStored, Stored, buffer_at, entry_at, entry_in, epoch_at, leaf_count}
use Rattle.cell_block.specs.Rules.{IsWhole, opening_entry, opening_stored}
use Rattle.remesh.proofs.Nothing.{zeros_at}

-- what is kept at first
pub record IsOpened (p : Settings) (l : Layout) (t : TreeOfBlocks) (m : Stored) : Type 0 where
  pub tree : m.tree ≡ t
  pub dims : m.dims ≡ p.shape.dims
  pub cells : m.cells ≡ p.cells
  pub fields : m.fields ≡ field_count p
  pub size : m.size ≡ partition_size p.pack_size (length (leaves t))
  pub counters : m.counters ≡ replicate (length (leaves t)) 0
  pub entries : (k f : ℕ) → k < length (leaves t) → f < field_count p → entry_at m (place_on k f) ≡ opening_entry p l k f
  pub beyond : (at : Place) → (IsIn m at → ⊥) → entry_at m at ≡ None
  pub epochs : (list : ℕ) → epoch_at m list ≡ 0

pub opened : (p : Settings) (l : Layout) (t : TreeOfBlocks) (m : Stored) → m ≡ opening_stored p l t m.spares → IsOpened p l t m
opened p l t m is =
    let n = length (leaves t) in
    let rows : ℕ → List (Option Entry) = λ k. table (field_count p) (opening_entry p l k) in
    let tree = ap (λ (s : Stored). s.tree) is in
    let fields = ap (λ (s : Stored). s.fields) is in
    let places : m.places ≡ table n rows = ap (λ (s : Stored). s.places) is in
    let row : (k : ℕ) → k < n → slice_index_or m.places k [] ≡ rows k = λ k small. ap (λ (v : List (List (Option Entry))). slice_index_or v k []) places ∙ table_at n rows k [] small in
    record {
      tree = tree;
      dims = ap (λ (s : Stored). s.dims) is;
      cells = ap (λ (s : Stored). s.cells) is;
      fields = fields;
      size = ap (λ (s : Stored). s.size) is;
      counters = ap (λ (s : Stored). s.counters) is;
      entries = λ k f small some. ap (λ (v : List (Option Entry)). slice_index_or v f None) (row k small) ∙ table_at (field_count p) (opening_entry p l k) f None some;
      beyond = λ at off. elim (cases_lt at.block n) [
        | inl low ↦ elim (cases_lt at.field (field_count p)) [
          | inl few ↦ absurd (off (record { block = subst (λ (v : TreeOfBlocks). at.block < length (leaves v)) (sym tree) low; field = omega (arith, fields, few) }))
          | inr many ↦ ap (λ (v : List (Option Entry)). slice_index_or v at.field None) (row at.block low) ∙ get_or_past (rows at.block) at.field None (omega (arith, many, table_length (field_count p) (opening_entry p l at.block)))
        ]
        | inr high ↦
            ap (λ (v : List (List (Option Entry))). slice_index_or (slice_index_or v at.block []) at.field None) places
            ∙ ap (λ (v : List (Option Entry)). slice_index_or v at.field None) (get_or_past (table n rows) at.block [] (omega (arith, high, table_length n rows)))
      ];
      epochs = λ list. ap (λ (s : Stored). slice_index s.epochs list) is ∙ zeros_at (partition_count p n) list;
    }

-- the buffer of zeros
opening_entry_of : Settings → Layout → ℕ → ℕ → Option Entry
opening_entry_of p l k f = Some (record { idle = 0; buf = Some (zeros (len l) (face_count l) k f 0) })

-- whether an entry is of a field that is lent
lent_in : Option Entry → Bool
lent_in o = is_some o && is_none (option_and_then (λ (e : Entry). e.buf) o)

opening_home : (p : Settings) (l : Layout) (k f : ℕ) → lent_in (opening_entry p l k f) ≡ false
unfolding lent_in opening_entry_of
opening_home p l k f = by (is_sparse p f)
  where
    by : (b : Bool) → lent_in (cond b None (opening_entry_of p l k f)) ≡ false
    by true = refl
    by false = refl

-- whether a place is one
is_in_or_not : (m : Stored) (at : Place) → IsIn m at ⊎ (IsIn m at → ⊥)
is_in_or_not m at = elim (cases_lt at.block (leaf_count m)) [
  | inl low ↦ elim (cases_lt at.field m.fields) [
    | inl few ↦ inl (record { block = low; field = few })
    | inr many ↦ inr (λ inside. omega (arith, many, inside.field))
  ]
  | inr high ↦ inr (λ inside. omega (arith, high, inside.block))
]

pub opened_whole : (p : Settings) (l : Layout) (t : TreeOfBlocks) (m : Stored) → IsOpened p l t m → IsWhole m
unfolding lent_in
opened_whole p l t m is at = elim (is_in_or_not m at) [
  | inl inside ↦
      let low : at.block < length (leaves t) = subst (λ (v : TreeOfBlocks). at.block < length (leaves v)) is.tree inside.block in
      ap lent_in (is.entries at.block at.field low (omega (arith, is.fields, inside.field))) ∙ opening_home p l at.block at.field
  | inr off ↦ ap lent_in (is.beyond at off)
]

-- a sparse field is not allocated
pub opened_absent : (p : Settings) (l : Layout) (t : TreeOfBlocks) (m : Stored) → IsOpened p l t m → (k f : ℕ) → k < length (leaves t) → f < field_count p → is_sparse p f ≡ true → entry_at m (place_on k f) ≡ None
unfolding opening_entry_of
opened_absent p l t m is k f small some sparse = is.entries k f small some ∙ ap (λ (b : Bool). cond b None (opening_entry_of p l k f)) sparse

-- a buffer is at a place
pub buffer_inside : (s : Stored) (at : Place) (buf : FieldBuf) → IsStored s → buffer_at s at ≡ Some buf → IsIn s at
buffer_inside s at buf kept there = elim (is_in_or_not s at) [
  | inl inside ↦ inside
  | inr off ↦ absurd (none_some (sym (ap (λ (o : Option Entry). option_and_then (λ (e : Entry). e.buf) o) (empty off)) ∙ there))
]
  where
    none_some : None ≡ Some buf → ⊥
    none_some e = cc

    empty : (IsIn s at → ⊥) → entry_at s at ≡ None
    empty off = elim (cases_lt at.block (leaf_count s)) [
      | inl low ↦ elim (cases_lt at.field s.fields) [
        | inl few ↦ absurd (off (record { block = low; field = few }))
        | inr many ↦ get_or_past (slice_index_or s.places at.block []) at.field None (omega (arith, many, kept.fields at.block low))
      ]
      | inr high ↦ ap (λ (v : List (Option Entry)). slice_index_or v at.field None) (get_or_past s.places at.block [] (omega (arith, high, kept.blocks)))
    ]
