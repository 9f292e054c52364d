-- Blocks of the opening mesh state, one after another.
use Rattle.std.proofs.Common.{◌≡◌, ◌≢◌, ℕ, zero, suc, ◌+◌, ◌*◌, ◌<◌, ◌≤◌, ◌^◌, Bool, true, false, ◌&&◌, ◌||◌, not, cond, nat_le, Option, Some, None, List, [], ◌∷◌, is_some, length, replicate, slice_index, refl, arith, ap, subst, sym, ◌∙◌, sum, inl, inr}
use Rattle.std.proofs.lemmas.Bool.{cases_eq, cases_lt, false≢true}
use Rattle.std.proofs.lemmas.Bool.Decides.{nat_tests}
use Rattle.std.proofs.lemmas.List.{length-replicate}
use Rattle.morton_order.specs.declared.space.Loc.{Loc}
use Rattle.block_tree.specs.Blocks.{TreeOfBlocks, leaves}
use Rattle.block_layout.specs.declared.layout.Layout.{Layout}
use Rattle.block_layout.specs.Faces.{face_count}
use Rattle.block_layout.specs.Indices.{count_of}
use Rattle.block_layout.specs.Layouts.{interior_len, len}
use Rattle.block_layout.specs.Regions.{cell_place, interior}
use Rattle.sparse_pool.specs.declared.place.Place.{Place}
use Rattle.sparse_pool.specs.Idle.{idle}
use Rattle.alloc_epochs.specs.Shelf.{place_on}
use Rattle.field_bufs.specs.declared.buf.FieldBuf.{FieldBuf}
use Rattle.field_bufs.specs.Buffers.{zeros}
use Rattle.problem_set.specs.Settings.{Settings}
use Rattle.deck_entries.specs.declared.entries.StartBox.{StartBox}
use Rattle.mesh_rules.specs.Fields.{field_count, is_sparse}
use Rattle.dense_mesh.proofs.Tables.{table_by, table_length}
use Rattle.dense_remesh.specs.StartBoxes.{opening_list}
use Rattle.dense_remesh.proofs.Spreads.{empty_list}
use Rattle.cell_block.specs.State.{Entry, HasLayout, IsStored, Stored, entry_at, leaf_count}
use Rattle.cell_block.specs.Rules.{IsLayoutFor, IsWhole, interior_in, interior_of, opening_entry}
use Rattle.remesh.specs.Carries.{buffer_of, idle_of_entry}
use Rattle.remesh.specs.Leaves.{leaf_on}
use Rattle.remesh.specs.Openings.{AreFieldsOpened, CanOpen, IsBlockOpened, IsFilledWith, IsOpenEntry, IsOpenedTo, boxes_of_field}
use Rattle.remesh.specs.Stores.{IsSameFrame}
use Rattle.remesh.proofs.Filled.{same_twice}
use Rattle.remesh.proofs.Nothing.{zeros_at}
use Rattle.remesh.proofs.Opened.{IsOpened, opened_whole}

-- a list with nothing above zero has zeros
idle_zeros : (xs : List ℕ) → idle xs 0 ≡ true → xs ≡ replicate (length xs) 0
idle_zeros [] h = refl
idle_zeros (x ∷ xs) h =
    let none : x ≡ 0 = zero_if x (left (nat_le x 0) (idle xs 0) h) in
    ap (λ k. k ∷ xs) none ∙ ap (λ (v : List ℕ). 0 ∷ v) (idle_zeros xs (right (nat_le x 0) (idle xs 0) h))
  where
    left : (a b : Bool) → (a && b) ≡ true → a ≡ true
    left true b h = refl
    left false b h = absurd (false≢true h)

    right : (a b : Bool) → (a && b) ≡ true → b ≡ true
    right true b h = h
    right false b h = absurd (false≢true h)

    zero_if : (n : ℕ) → nat_le n 0 ≡ true → n ≡ 0
    zero_if n h = grind (arith, nat_tests)

zeros_idle : (n : ℕ) → idle (replicate n 0) 0 ≡ true
zeros_idle zero = refl
zeros_idle (suc n) = zeros_idle n

-- where no box meets a block it has zeros
pub no_box_idle : (l : Layout) (boxes near : List StartBox) (at : Loc) → near ≡ [] → opening_list l.dims l.cells near at ≡ opening_list l.dims l.cells boxes at → idle (opening_list l.dims l.cells boxes at) 0 ≡ true
no_box_idle l boxes near at none same =
    ap (λ (v : List ℕ). idle v 0) (sym (empty_list l.dims l.cells at ∙ ap (λ (b : List StartBox). opening_list l.dims l.cells b at) (sym none) ∙ same)) ∙ zeros_idle (count_of l.cells)

same_frame : (s : Stored) → IsSameFrame s s
same_frame s = record { tree = refl; dims = refl; cells = refl; fields = refl; size = refl }

-- a block into which boxes put nothing
pub nothing_opened : (l : Layout) (at : Place) (boxes : List StartBox) (s : Stored) → IsWhole s → idle (opening_list l.dims l.cells boxes (leaf_on s.tree at.block)) 0 ≡ true → IsBlockOpened l at boxes s s
nothing_opened l at boxes s whole none = record {
  frame = same_frame s;
  whole = whole;
  counters = refl;
  here = record { same = λ _. refl; changed = λ some. absurd (false≢true (sym some ∙ none)) };
  others = λ other differ. refl;
  epochs = λ list. omega arith;
}

-- and one into which they put something
pub something_opened : (l : Layout) (at : Place) (boxes : List StartBox) (own : List ℕ) (old new : Stored) → IsWhole new → own ≡ opening_list l.dims l.cells boxes (leaf_on old.tree at.block) → idle own 0 ≡ false → IsFilledWith l at own old new →
    IsBlockOpened l at boxes old new
something_opened l at boxes own old new whole is some filled =
    let e : Entry = record { idle = 0; buf = Some filled.buffer } in
    let list : List ℕ = opening_list l.dims l.cells boxes (leaf_on old.tree at.block) in
    let above : idle list 0 ≡ false = ap (λ (v : List ℕ). idle v 0) (sym is) ∙ some in
    record {
      frame = filled.fills.frame;
      whole = whole;
      counters = filled.fills.counters;
      here = record {
        same = λ none. absurd (false≢true (sym above ∙ none));
        changed = λ _ sparse. record {
          own = ap (λ (o : Option Entry). interior_in l (buffer_of o)) filled.fills.here ∙ filled.own_is ∙ is;
          kept = ap (λ (o : Option Entry). is_some o) filled.fills.here ∙ sym (ap (λ (b : Bool). not sparse || not b) above ∙ or_true (not sparse));
          never_idle = ap idle_of_entry filled.fills.here;
          stamps = λ buf there. ap (λ (b : FieldBuf). b.stamp) (some_same buf filled.buffer (sym there ∙ ap buffer_of filled.fills.here)) ∙ filled.stamp_is;
        };
      };
      others = filled.fills.others;
      epochs = filled.fills.epochs;
    }
  where
    or_true : (b : Bool) → (b || true) ≡ true
    or_true true = refl
    or_true false = refl

    some_same : (a b : FieldBuf) → Some a ≡ Some b → a ≡ b
    some_same a b e = cc

-- an entry as it was at first is that of a block into which boxes put nothing
interior_zeros : (l : Layout) → interior_of l (replicate (len l) 0) ≡ replicate (interior_len l) 0
interior_zeros l = sym (table_by (replicate (interior_len l) 0) (interior_len l) (λ k. slice_index (replicate (len l) 0) (cell_place l (interior l) k)) 0 (length-replicate (interior_len l) 0)
    (λ k small. zeros_at (interior_len l) k ∙ sym (zeros_at (len l) (cell_place l (interior l) k))))

abbrev first_entry : Bool → Layout → ℕ → ℕ → Option Entry
first_entry sparse l k f = cond sparse None (Some (record { idle = 0; buf = Some (zeros (len l) (face_count l) k f 0) }))

still_open : (sparse : Bool) (l : Layout) (k f : ℕ) (boxes : List StartBox) (at : Loc) → idle (opening_list l.dims l.cells boxes at) 0 ≡ true → IsOpenEntry l sparse boxes at (first_entry sparse l k f)
still_open sparse l k f boxes at none =
    let list : List ℕ = opening_list l.dims l.cells boxes at in
    let zero_list : list ≡ replicate (interior_len l) 0 = idle_zeros list none ∙ ap (λ n. replicate n 0) (table_length (count_of l.cells) _) in
    record {
      own = by_own sparse ∙ sym zero_list;
      kept = by_kept sparse ∙ sym (ap (λ (b : Bool). not sparse || not b) none);
      never_idle = by_idle sparse;
      stamps = by_stamp sparse;
    }
  where
    by_own : (b : Bool) → interior_in l (buffer_of (first_entry b l k f)) ≡ replicate (interior_len l) 0
    by_own true = refl
    by_own false = interior_zeros l

    by_kept : (b : Bool) → is_some (first_entry b l k f) ≡ (not b || false)
    by_kept true = refl
    by_kept false = refl

    by_idle : (b : Bool) → idle_of_entry (first_entry b l k f) ≡ 0
    by_idle true = refl
    by_idle false = refl

    some_same : (a b : FieldBuf) → Some a ≡ Some b → a ≡ b
    some_same a b e = cc

    none_some : (b : FieldBuf) → None ≡ Some b → ⊥
    none_some b e = cc

    by_stamp : (b : Bool) (buf : FieldBuf) → buffer_of (first_entry b l k f) ≡ Some buf → buf.stamp ≡ 0
    by_stamp true buf h = absurd (none_some buf h)
    by_stamp false buf h = ap (λ (b : FieldBuf). b.stamp) (sym (some_same (zeros (len l) (face_count l) k f 0) buf h))

pub still_opened : (p : Settings) (l : Layout) (k f : ℕ) (boxes : List StartBox) (at : Loc) (e : Option Entry) → e ≡ opening_entry p l k f → idle (opening_list l.dims l.cells boxes at) 0 ≡ true → IsOpenEntry l (is_sparse p f) boxes at e
still_opened p l k f boxes at e is none = subst (IsOpenEntry l (is_sparse p f) boxes at) (sym is) (still_open (is_sparse p f) l k f boxes at none)

-- a field of which no box has anything
pub no_boxes_opened : (p : Settings) (l : Layout) (f : ℕ) (boxes : List StartBox) (m : Stored) → CanOpen p l f m → boxes ≡ [] → IsOpenedTo p l f boxes m m (leaf_count m)
no_boxes_opened p l f boxes m can none = record {
  frame = same_frame m;
  whole = can.whole;
  counters = refl;
  here = λ k small. still_opened p l k f boxes (leaf_on m.tree k) (entry_at m (place_on k f)) (can.entries k small) (no_box_idle l boxes boxes (leaf_on m.tree k) none refl);
  later = λ k high. refl;
  others = λ at differ. refl;
  epochs = λ list. omega arith;
}

pub none_opened : (p : Settings) (l : Layout) (f : ℕ) (boxes : List StartBox) (m : Stored) → IsWhole m → IsOpenedTo p l f boxes m m 0
none_opened p l f boxes m whole = record {
  frame = same_frame m;
  whole = whole;
  counters = refl;
  here = λ k small. absurd (omega arith);
  later = λ k high. refl;
  others = λ at differ. refl;
  epochs = λ list. omega arith;
}

-- one block more
pub block_opened : (p : Settings) (l : Layout) (f : ℕ) (boxes : List StartBox) (start now new : Stored) (k : ℕ) → CanOpen p l f start → k < leaf_count start → IsOpenedTo p l f boxes start now k → IsBlockOpened l (place_on k f) boxes now new →
    IsOpenedTo p l f boxes start new (k + 1)
block_opened p l f boxes start now new k can small done block = record {
  frame = same_twice start now new done.frame block.frame;
  whole = block.whole;
  counters = block.counters ∙ done.counters;
  here = λ j less. elim (cases_lt j k) [
    | inl low ↦
        let apart : place_on j f ≢ place_on k f = λ e. omega (arith, low, ap (λ (v : Place). v.block) e) in
        subst (IsOpenEntry l (is_sparse p f) boxes (leaf_on start.tree j)) (sym (block.others (place_on j f) apart)) (done.here j low)
    | inr most ↦
        let same : j ≡ k = omega (arith, less, most) in
        subst (λ i. IsOpenEntry l (is_sparse p f) boxes (leaf_on start.tree i) (entry_at new (place_on i f))) (sym same) last
  ];
  later = λ j high.
      let apart : place_on j f ≢ place_on k f = λ e. omega (arith, high, ap (λ (v : Place). v.block) e) in
      block.others (place_on j f) apart ∙ done.later j (omega (arith, high));
  others = λ at differ. block.others at (λ e. differ (ap (λ (v : Place). v.field) e)) ∙ done.others at differ;
  epochs = λ list. omega (arith, block.epochs list, done.epochs list);
}
  where
    list : List ℕ
    list = opening_list l.dims l.cells boxes (leaf_on now.tree k)

    by : (b : Bool) → idle list 0 ≡ b → IsOpenEntry l (is_sparse p f) boxes (leaf_on now.tree k) (entry_at new (place_on k f))
    by true e = still_opened p l k f boxes (leaf_on now.tree k) (entry_at new (place_on k f)) (block.here.same e ∙ done.later k (omega arith) ∙ can.entries k small) e
    by false e = block.here.changed e (is_sparse p f)

    last : IsOpenEntry l (is_sparse p f) boxes (leaf_on start.tree k) (entry_at new (place_on k f))
    last = subst (λ (t : TreeOfBlocks). IsOpenEntry l (is_sparse p f) boxes (leaf_on t k) (entry_at new (place_on k f))) done.frame.tree (by (idle list 0) refl)

-- one field more
pub field_opened : (p : Settings) (l : Layout) (boxes : List StartBox) (start now new : Stored) (f : ℕ) → leaf_count start ≤ 65536 → AreFieldsOpened p l boxes start now f → IsOpenedTo p l f (boxes_of_field boxes f) now new (leaf_count now) →
    AreFieldsOpened p l boxes start new (f + 1)
field_opened p l boxes start now new f few done field =
    let count : leaf_count now ≡ leaf_count start = ap (λ (t : TreeOfBlocks). length (leaves t)) done.frame.tree in
    record {
      frame = same_twice start now new done.frame field.frame;
      whole = field.whole;
      counters = field.counters ∙ done.counters;
      here = λ k g small less. elim (cases_lt g f) [
        | inl low ↦ subst (IsOpenEntry l (is_sparse p g) (boxes_of_field boxes g) (leaf_on start.tree k)) (sym (field.others (place_on k g) (λ e. omega (arith, low, e)))) (done.here k g small low)
        | inr most ↦
            let same : g ≡ f = omega (arith, less, most) in
            subst (λ h. IsOpenEntry l (is_sparse p h) (boxes_of_field boxes h) (leaf_on start.tree k) (entry_at new (place_on k h))) (sym same)
            (subst (λ (t : TreeOfBlocks). IsOpenEntry l (is_sparse p f) (boxes_of_field boxes f) (leaf_on t k) (entry_at new (place_on k f))) done.frame.tree (field.here k (omega (arith, small, count))))
      ];
      later = λ k g high. field.others (place_on k g) (λ e. omega (arith, high, e)) ∙ done.later k g (omega (arith, high));
      epochs = λ list. omega (arith, field.epochs list, done.epochs list, count, few);
    }

-- at first none was opened
pub none_of_fields : (p : Settings) (l : Layout) (t : TreeOfBlocks) (boxes : List StartBox) (start : Stored) → IsOpened p l t start → AreFieldsOpened p l boxes start start 0
none_of_fields p l t boxes start first = record {
  frame = same_frame start;
  whole = opened_whole p l t start first;
  counters = refl;
  here = λ k f small less. absurd (omega arith);
  later = λ k f high. refl;
  epochs = λ list. omega (arith, first.epochs list);
}

-- the next field can be
pub can_open : (p : Settings) (l : Layout) (t : TreeOfBlocks) (boxes : List StartBox) (start now : Stored) (f : ℕ) → IsLayoutFor p l → IsOpened p l t start → f < field_count p → f < 256 → AreFieldsOpened p l boxes start now f → CanOpen p l f now
can_open p l t boxes start now f layout first some few done =
    let count : leaf_count now ≡ length (leaves t) = ap (λ (v : TreeOfBlocks). length (leaves v)) (done.frame.tree ∙ first.tree) in
    record {
      layout_is = record { dims = layout.dims ∙ sym first.dims ∙ sym done.frame.dims; cells = layout.cells ∙ sym first.cells ∙ sym done.frame.cells };
      field = omega (arith, some, first.fields, done.frame.fields);
      whole = done.whole;
      entries = λ k small. done.later k f (omega arith) ∙ first.entries k f (omega (arith, small, count)) some;
      epochs = λ list. omega (arith, done.epochs list, few);
    }
