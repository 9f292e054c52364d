-- Each buffer stays at its place, and what each mesh state keeps.
use Rattle.std.proofs.Common.{◌≡◌, ◌⊎◌, ◌∙◌, sym, ap, subst, refl, inl, inr, ℕ, ◌*◌, ◌-◌, min, Option, None, Some, List, [], length, map, slice_index_or, slice_set, arith}
use Rattle.std.specs.Prelude.{Bool, flat_map, unwrap_or}
use Rattle.std.specs.List.{range_with_len}
use Rattle.std.specs.Option.{option_and_then, option_map}
use Rattle.std.proofs.lemmas.Bool.{cases_eq, cases_lt}
use Rattle.std.proofs.lemmas.List.{get_or_past, get_or-map, get_or-set_same, get_or-set_other, length-map, length-set}
use Rattle.block_layout.specs.declared.layout.Layout.{Layout}
use Rattle.block_tree.specs.Blocks.{IsBlockTree, TreeOfBlocks}
use Rattle.sparse_pool.specs.declared.place.Place.{Place}
use Rattle.field_bufs.specs.declared.buf.FieldBuf.{FieldBuf}
use Rattle.field_bufs.specs.Buffers.{HasSizes}
use Rattle.cell_block.specs.State.{Entry, Fits, IsStored, Stored, buffer_in, buffer_set, entry_in, idle_set, listed, place_of, stamped, stamped_entry, stamps_raised, with_entry}
use Rattle.cell_block.specs.Partitions.{lists_of}
use Rattle.cell_block.specs.Store.{IsPlaced, Placed, listed_in, listed_on_block}
use Rattle.cell_block.specs.Whole.{AreBuffers, AreStored, stored}
use Rattle.cell_block.proofs.Grids.{at_place, cases_place, put_at, put_other, put_same, row_of}
use Rattle.cell_block.proofs.Layouts.{sizes_like}

abbrev pub no_buf : Option FieldBuf
no_buf = None

-- lists with a changed place have at each place what they had, or at that place the new thing
pub put_cases : {X : Type 0} (xs : List (List (Option X))) (at p : Place) (x : Option X) → (at_place (put_at xs at x) p ≡ at_place xs p) ⊎ ((p ≡ at) × (at_place (put_at xs at x) p ≡ x))
put_cases {X} xs at p x =
    let row = slice_set (row_of xs at.block) at.field x in
    elim (cases_lt at.block (length xs)) [
      | inl block ↦ elim (cases_place p at) [
        | inl is ↦ elim (cases_lt at.field (length (row_of xs at.block))) [
          | inl field ↦ inr (is, ap (at_place (put_at xs at x)) is ∙ put_same xs at x block field)
          | inr past ↦ inl (
              ap (at_place (put_at xs at x)) is
              ∙ ap (λ (r : List (Option X)). slice_index_or r at.field None) (get_or-set_same xs at.block row [] block)
              ∙ get_or_past row at.field None (omega (arith, past, length-set (row_of xs at.block) at.field x))
              ∙ sym (get_or_past (row_of xs at.block) at.field None past)
              ∙ sym (ap (at_place xs) is))
        ]
        | inr ne ↦ inl (put_other xs at p x block ne)
      ]
      | inr past ↦ elim (cases_eq p.block at.block) [
        | inl e ↦ inl (ap (λ (r : List (Option X)). slice_index_or r p.field None)
            (get_or_past (slice_set xs at.block row) p.block [] (omega (arith, past, e, length-set xs at.block row)) ∙ sym (get_or_past xs p.block [] (omega (arith, past, e)))))
        | inr ne ↦ inl (ap (λ (r : List (Option X)). slice_index_or r p.field None) (get_or-set_other xs at.block p.block row [] ne))
      ]
    ]

-- the buffer that is kept with something
abbrev pub buf_of : Option Entry → Option FieldBuf
buf_of e = option_and_then (λ (x : Entry). x.buf) e

-- a buffer may stand at a place
pub record MayStand (l : Layout) (at : Place) (buf : FieldBuf) : Type 0 where
  pub own : place_of buf ≡ at
  pub fit : HasSizes l buf

pub may_stand : (l : Layout) (places : List (List (Option Entry))) (at : Place) (buf : FieldBuf) → AreBuffers l places → buffer_in places at ≡ Some buf → MayStand l at buf
may_stand l places at buf are e = record { own = are.own at buf e; fit = are.fit at buf e }

pub buffers_by : (l : Layout) (places : List (List (Option Entry))) → ((at : Place) (buf : FieldBuf) → buffer_in places at ≡ Some buf → MayStand l at buf) → AreBuffers l places
buffers_by l places each = record { own = λ at buf e. (each at buf e).own; fit = λ at buf e. (each at buf e).fit }

-- the buffers with one changed
pub buffers_put : (l : Layout) (places : List (List (Option Entry))) (at : Place) (e : Option Entry) → AreBuffers l places → ((buf : FieldBuf) → buf_of e ≡ Some buf → MayStand l at buf) → AreBuffers l (with_entry places at e)
buffers_put l places at e are new = buffers_by l (with_entry places at e) (λ p buf is. elim (put_cases places at p e) [
  | inl same ↦ may_stand l places p buf are (sym (ap buf_of same) ∙ is)
  | inr here ↦ subst (λ (q : Place). MayStand l q buf) (sym here.0) (new buf (sym (ap buf_of here.1) ∙ is))
])

-- what is kept with another buffer, or another idle count
set_buf : (o : Option Entry) (b : Option FieldBuf) (buf : FieldBuf) → buf_of (option_map (λ (e : Entry). record e { buf = b }) o) ≡ Some buf → b ≡ Some buf
set_buf None b buf e = absurd (let clash : no_buf ≡ Some buf = e in cc)
set_buf (Some x) b buf e = e

same_buf : (o : Option Entry) (n : ℕ) → buf_of (option_map (λ (e : Entry). record e { idle = n }) o) ≡ buf_of o
same_buf None n = refl
same_buf (Some x) n = refl

pub buffers_set : (l : Layout) (places : List (List (Option Entry))) (at : Place) (b : Option FieldBuf) → AreBuffers l places → ((buf : FieldBuf) → b ≡ Some buf → MayStand l at buf) → AreBuffers l (buffer_set places at b)
buffers_set l places at b are new = buffers_put l places at (option_map (λ (e : Entry). record e { buf = b }) (entry_in places at)) are (λ buf e. new buf (set_buf (entry_in places at) b buf e))

pub buffers_idle : (l : Layout) (places : List (List (Option Entry))) (at : Place) (n : ℕ) → AreBuffers l places → AreBuffers l (idle_set places at n)
buffers_idle l places at n are = buffers_put l places at (option_map (λ (e : Entry). record e { idle = n }) (entry_in places at)) are
    (λ buf e. may_stand l places at buf are (sym (same_buf (entry_in places at) n) ∙ e))

-- no buffer, and one
pub none_stands : (l : Layout) (at : Place) (buf : FieldBuf) → no_buf ≡ Some buf → MayStand l at buf
none_stands l at buf e = absurd (cc)

pub one_stands : (l : Layout) (at : Place) (it buf : FieldBuf) → MayStand l at it → Some it ≡ Some buf → MayStand l at buf
one_stands l at it buf stands e = subst (MayStand l at) (let keep : Option FieldBuf → FieldBuf = λ o. unwrap_or o it in ap keep e) stands

-- the buffers of a block, stamped once more
stamped_buf : (l : Layout) (at : Place) (o : Option Entry) (buf : FieldBuf) → ((x : FieldBuf) → buf_of o ≡ Some x → MayStand l at x) → buf_of (option_map stamped_entry o) ≡ Some buf → MayStand l at buf
stamped_buf l at None buf old e = none_stands l at buf e
stamped_buf l at (Some x) buf old e = of_buf l at x.buf buf old e
  where
    of_buf : (l : Layout) (at : Place) (b : Option FieldBuf) (buf : FieldBuf) → ((y : FieldBuf) → b ≡ Some y → MayStand l at y) → option_map stamped b ≡ Some buf → MayStand l at buf
    of_buf l at None buf old e = none_stands l at buf e
    of_buf l at (Some y) buf old e =
        let was = old y refl in
        one_stands l at (stamped y) buf (record { own = was.own; fit = record { cells = was.fit.cells; right = was.fit.right; left = was.fit.left } }) e

pub buffers_stamped : (l : Layout) (places : List (List (Option Entry))) (block : ℕ) → AreBuffers l places → AreBuffers l (stamps_raised places block)
buffers_stamped l places block are = buffers_by l (stamps_raised places block) (λ at buf e.
    let row = map (option_map stamped_entry) (row_of places block) in
    elim (cases_eq at.block block) [
      | inl is ↦ elim (cases_lt block (length places)) [
        | inl there ↦ elim (cases_lt at.field (length (row_of places block))) [
          | inl field ↦
              let here : entry_in (stamps_raised places block) at ≡ option_map stamped_entry (entry_in places at) =
              ap (λ (n : ℕ). slice_index_or (slice_index_or (slice_set places block row) n []) at.field None) is
              ∙ ap (λ (r : List (Option Entry)). slice_index_or r at.field None) (get_or-set_same places block row [] there)
              ∙ get_or-map (option_map stamped_entry) (row_of places block) at.field None None field
              ∙ ap (λ (n : ℕ). option_map stamped_entry (slice_index_or (row_of places n) at.field None)) (sym is) in
              stamped_buf l at (entry_in places at) buf (λ x f. may_stand l places at x are f) (sym (ap buf_of here) ∙ e)
          | inr past ↦
              let none : entry_in (stamps_raised places block) at ≡ None =
              ap (λ (n : ℕ). slice_index_or (slice_index_or (slice_set places block row) n []) at.field None) is
              ∙ ap (λ (r : List (Option Entry)). slice_index_or r at.field None) (get_or-set_same places block row [] there)
              ∙ get_or_past row at.field None (omega (arith, past, length-map (row_of places block) (option_map stamped_entry))) in
              none_stands l at buf (sym (ap buf_of none) ∙ e)
        ]
        | inr past ↦
            let none : entry_in (stamps_raised places block) at ≡ None =
            ap (λ (r : List (Option Entry)). slice_index_or r at.field None) (get_or_past (slice_set places block row) at.block [] (omega (arith, past, is, length-set places block row))) in
            none_stands l at buf (sym (ap buf_of none) ∙ e)
      ]
      | inr ne ↦
          let same : entry_in (stamps_raised places block) at ≡ entry_in places at = ap (λ (r : List (Option Entry)). slice_index_or r at.field None) (get_or-set_other places block at.block row [] ne) in
          may_stand l places at buf are (sym (ap buf_of same) ∙ e)
    ])

-- the parts still fit
pub still_stored : (t : TreeOfBlocks) (l : Layout) (s new : Placed) (counters : List ℕ) (places : List (List (Option Entry))) → AreStored t l s counters → new.leaves ≡ s.leaves → new.places ≡ places → AreBuffers l places → AreStored t l new counters
still_stored t l s new counters places are rows is buffers = record {
  leaf_rows = rows ∙ are.leaf_rows;
  counters_long = are.counters_long;
  buffers = subst (AreBuffers l) (sym is) buffers;
}

-- a layout with the axes and the cells of a state's blocks
pub fits : (t : TreeOfBlocks) (l : Layout) (s : Placed) (counters : List ℕ) (v : Stored) (buf : FieldBuf) → stored t l s counters ≡ v → HasSizes l buf → Fits v buf
fits t l s counters v buf is sizes = subst (λ (w : Stored). Fits w buf) is (λ other has. sizes_like l other buf has.dims has.cells sizes)

pub own_fits : (t : TreeOfBlocks) (l : Layout) (s : Placed) (counters : List ℕ) (v : Stored) (buf : FieldBuf) → stored t l s counters ≡ v → Fits v buf → HasSizes l buf
own_fits t l s counters v buf is fit = (subst (λ (w : Stored). Fits w buf) (sym is) fit) l (record { dims = refl; cells = refl })

-- what each mesh state keeps
pub is_stored : (t : TreeOfBlocks) (l : Layout) (s : Placed) (counters : List ℕ) (v : Stored) → stored t l s counters ≡ v → IsBlockTree t → IsPlaced s → AreStored t l s counters → IsStored v
is_stored t l s counters v is tree shape are =
    let w = stored t l s counters in
    subst IsStored is (record {
      tree = tree;
      few_fields = shape.few_fields;
      some_leaves = shape.some;
      blocks = shape.blocks ∙ are.leaf_rows;
      fields = λ b lt. shape.rows b (omega (arith, lt, are.leaf_rows));
      own = are.buffers.own;
      fit = λ at buf e. fits t l s counters w buf refl (are.buffers.fit at buf e);
      counters = are.counters_long;
      epochs = shape.epochs_long ∙ ap (lists_of s.size) are.leaf_rows;
      spares = shape.spares_long ∙ ap (lists_of s.size) are.leaf_rows;
    })

-- what is listed
pub listed_whole : (t : TreeOfBlocks) (l : Layout) (s : Placed) (counters : List ℕ) (v : Stored) (list : ℕ) (passes : ℕ → Bool) → stored t l s counters ≡ v → AreStored t l s counters → listed_in s list passes ≡ listed v list passes
listed_whole t l s counters v list passes is are =
    subst (λ (w : Stored). listed_in s list passes ≡ listed w list passes) is
    (ap (λ (n : ℕ). flat_map (listed_on_block s passes) (range_with_len (list * s.size) (min s.size (n - list * s.size)))) are.leaf_rows)
