-- Places of a mesh state that are filled.
use Rattle.std.proofs.Common.{◌≡◌, ◌≢◌, ℕ, ◌+◌, ◌<◌, ◌≤◌, Bool, true, false, ◌&&◌, Option, Some, None, List, [], is_none, is_some, length, slice_index, set, unwrap_or, refl, arith, ap, sym, subst, ◌∙◌, sum, inl, inr, get_or-set_other, get_or-set_same, lt-length-set}
use Rattle.std.specs.List.{slice_index_or, slice_set}
use Rattle.std.specs.Option.{option_and_then, option_map}
use Rattle.std.proofs.lemmas.Bool.{cases_eq, cases_lt, false≢true}
use Rattle.block_tree.specs.Blocks.{TreeOfBlocks, leaves}
use Rattle.sparse_pool.specs.declared.place.Place.{Place}
use Rattle.alloc_epochs.specs.Shelf.{place_on}
use Rattle.field_bufs.specs.declared.buf.FieldBuf.{FieldBuf}
use Rattle.cell_block.specs.State.{Entry, IsIn, IsStored, Stored, buffer_at, entry_at, entry_in, epoch_at, idle_at, is_allocated, is_lent, list_of, place_of, with_buffer, with_change, with_entry, with_idle}
use Rattle.cell_block.specs.Rules.{IsWhole}
use Rattle.remesh.specs.Stores.{Fills, IsSameFrame}
use Rattle.remesh.proofs.Entries.{entry_here, entry_other, replaced, same_or_other}

pub same_twice : (a b c : Stored) → IsSameFrame a b → IsSameFrame b c → IsSameFrame a c
same_twice a b c x y = record { tree = y.tree ∙ x.tree; dims = y.dims ∙ x.dims; cells = y.cells ∙ x.cells; fields = y.fields ∙ x.fields; size = y.size ∙ x.size }

-- where a place stands
pub record Stands (s : Stored) (at : Place) : Type 0 where
  pub row : at.block < length s.places
  pub column : at.field < length (slice_index_or s.places at.block [])

pub stands : (s : Stored) (at : Place) → IsStored s → IsIn s at → Stands s at
stands s at kept inside = record { row = omega (arith, kept.blocks, inside.block); column = omega (arith, kept.fields at.block inside.block, inside.field) }

-- one more in a list of numbers
raised : (xs : List ℕ) (i k : ℕ) → i < length xs → slice_index (set xs i (slice_index xs i + 1)) k ≤ slice_index xs k + 1
raised xs i k inside = elim (cases_eq k i) [
  | inl same ↦
      let e = get_or-set_same xs i (slice_index xs i + 1) 0 inside in
      subst (λ j. slice_index (set xs i (slice_index xs i + 1)) j ≤ slice_index xs j + 1) (sym same) (omega (arith, e))
  | inr other ↦ let e = get_or-set_other xs i k (slice_index xs i + 1) 0 other in omega (arith, e)
]

-- a place that was not allocated
pub allocated_fills : (s new : Stored) (spares : List ℕ) (buf : FieldBuf) → Stands s (place_of buf) → list_of s buf.block < length s.epochs →
    new ≡ record (with_change (record s { spares = spares }) (place_of buf) (Some (record { idle = 0; buf = Some buf }))) { spares = new.spares } → Fills s new (place_of buf) buf 0
allocated_fills s new spares buf at list is =
    let places : new.places ≡ with_entry s.places (place_of buf) (Some (record { idle = 0; buf = Some buf })) = ap (λ (v : Stored). v.places) is in
    let epochs : new.epochs ≡ set s.epochs (list_of s buf.block) (slice_index s.epochs (list_of s buf.block) + 1) = ap (λ (v : Stored). v.epochs) is in
    record {
      frame = record {
        tree = ap (λ (v : Stored). v.tree) is;
        dims = ap (λ (v : Stored). v.dims) is;
        cells = ap (λ (v : Stored). v.cells) is;
        fields = ap (λ (v : Stored). v.fields) is;
        size = ap (λ (v : Stored). v.size) is;
      };
      here = ap (λ (v : List (List (Option Entry))). entry_in v (place_of buf)) places ∙ entry_here s.places (place_of buf) (Some (record { idle = 0; buf = Some buf })) at.row at.column;
      others = λ other differ. ap (λ (v : List (List (Option Entry))). entry_in v other) places ∙ entry_other s.places (place_of buf) other (Some (record { idle = 0; buf = Some buf })) at.row differ;
      counters = ap (λ (v : Stored). v.counters) is;
      epochs = λ k. subst (λ (v : List ℕ). slice_index v k ≤ slice_index s.epochs k + 1) (sym epochs) (raised s.epochs (list_of s buf.block) k list);
    }

-- a place whose entry is another now
pub record IsChanged (old new : Stored) (at : Place) (e : Option Entry) : Type 0 where
  pub frame : IsSameFrame old new
  pub here : entry_at new at ≡ e
  pub others : (other : Place) → other ≢ at → entry_at new other ≡ entry_at old other
  pub counters : new.counters ≡ old.counters
  pub epochs : new.epochs ≡ old.epochs
  pub stands : Stands new at

changed : (s : Stored) (at : Place) (e : Option Entry) → Stands s at → IsChanged s (record s { places = with_entry s.places at e }) at e
changed s at e there = record {
  frame = record { tree = refl; dims = refl; cells = refl; fields = refl; size = refl };
  here = entry_here s.places at e there.row there.column;
  others = λ other differ. entry_other s.places at other e there.row differ;
  counters = refl;
  epochs = refl;
  stands = record { row = lt-length-set s.places at.block (set (slice_index_or s.places at.block []) at.field e) there.row; column = column };
}
  where
    column : at.field < length (slice_index_or (with_entry s.places at e) at.block [])
    column = subst (λ (v : List (Option Entry)). at.field < length v) (sym (get_or-set_same s.places at.block (set (slice_index_or s.places at.block []) at.field e) [] there.row))
        (lt-length-set (slice_index_or s.places at.block []) at.field e there.column)

pub changed_by : (s new : Stored) (at : Place) (e : Option Entry) → Stands s at → new ≡ record s { places = with_entry s.places at e } → IsChanged s new at e
changed_by s new at e there is = subst (λ (v : Stored). IsChanged s v at e) (sym is) (changed s at e there)

-- an entry by which a field is there and at home
is_home : (o : Option Entry) → is_some o ≡ true → (is_some o && is_none (option_and_then (λ (e : Entry). e.buf) o)) ≡ false → is_some (option_and_then (λ (e : Entry). e.buf) o) ≡ true
is_home None h k = absurd (false≢true h)
is_home (Some e) h k = by e.buf k
  where
    by : (b : Option FieldBuf) → is_none b ≡ false → is_some b ≡ true
    by None h = absurd (false≢true (sym h))
    by (Some x) h = refl

pub home : (s : Stored) (at : Place) → is_allocated s at ≡ true → is_lent s at ≡ false → is_some (buffer_at s at) ≡ true
home s at there lent = is_home (entry_at s at) there lent

pub absent : (s : Stored) (at : Place) → is_allocated s at ≡ false → entry_at s at ≡ None
absent s at h = by (entry_at s at) h
  where
    by : (o : Option Entry) → is_some o ≡ false → o ≡ None
    by None h = refl
    by (Some e) h = absurd (false≢true (sym h))

pub no_idle : (s : Stored) (at : Place) → entry_at s at ≡ None → idle_at s at ≡ 0
no_idle s at h = ap (λ (o : Option Entry). unwrap_or (option_map (λ (e : Entry). e.idle) o) 0) h

-- a place whose buffer is lent
pub lent_there : (s mid : Stored) (at : Place) → Stands s at → is_some (buffer_at s at) ≡ true → mid ≡ with_buffer s at None → is_lent mid at ≡ true
lent_there s mid at there some is =
    let c = changed_by s mid at (option_map (λ (e : Entry). record e { buf = None }) (entry_at s at)) there is in
    ap (λ (o : Option Entry). is_some o && is_none (option_and_then (λ (e : Entry). e.buf) o)) c.here ∙ by (entry_at s at) some
  where
    by : (o : Option Entry) → is_some (option_and_then (λ (e : Entry). e.buf) o) ≡ true →
        (is_some (option_map (λ (e : Entry). record e { buf = None }) o) && is_none (option_and_then (λ (e : Entry). e.buf) (option_map (λ (e : Entry). record e { buf = None }) o))) ≡ true
    by None h = absurd (false≢true h)
    by (Some e) h = refl

-- a place whose buffer was replaced
pub replaced_fills : (s mid new : Stored) (buf : FieldBuf) → Stands s (place_of buf) → is_some (buffer_at s (place_of buf)) ≡ true → mid ≡ with_buffer s (place_of buf) None → new ≡ with_buffer mid (place_of buf) (Some buf) →
    Fills s new (place_of buf) buf (idle_at s (place_of buf))
replaced_fills s mid new buf there some one two =
    let at : Place = place_of buf in
    let a = changed_by s mid at (option_map (λ (e : Entry). record e { buf = None }) (entry_at s at)) there one in
    let b = changed_by mid new at (option_map (λ (e : Entry). record e { buf = Some buf }) (entry_at mid at)) a.stands two in
    record {
      frame = same_twice s mid new a.frame b.frame;
      here = b.here ∙ ap (λ (o : Option Entry). option_map (λ (e : Entry). record e { buf = Some buf }) o) a.here ∙ replaced buf (entry_at s at) some;
      others = λ other differ. b.others other differ ∙ a.others other differ;
      counters = b.counters ∙ a.counters;
      epochs = λ k. let e = ap (λ (v : List ℕ). slice_index v k) (b.epochs ∙ a.epochs) in omega (arith, e);
    }

-- a place that was filled, whose idle count was set
pub idle_fills : (s mid new : Stored) (at : Place) (buf : FieldBuf) (before idle : ℕ) → Fills s mid at buf before → Stands mid at → new ≡ with_idle mid at idle → Fills s new at buf idle
idle_fills s mid new at buf before idle a there is =
    let b = changed_by mid new at (option_map (λ (e : Entry). record e { idle = idle }) (entry_at mid at)) there is in
    record {
      frame = same_twice s mid new a.frame b.frame;
      here = b.here ∙ ap (λ (o : Option Entry). option_map (λ (e : Entry). record e { idle = idle }) o) a.here;
      others = λ other differ. b.others other differ ∙ a.others other differ;
      counters = b.counters ∙ a.counters;
      epochs = λ k. let e = ap (λ (v : List ℕ). slice_index v k) b.epochs in omega (arith, e, a.epochs k);
    }

-- where nothing was lent nothing is
pub filled_whole : (s new : Stored) (at : Place) (buf : FieldBuf) (idle : ℕ) → Fills s new at buf idle → IsWhole s → IsWhole new
filled_whole s new at buf idle fills whole other = elim (same_or_other other at) [
  | inl same ↦ ap (λ (v : Place). is_lent new v) same ∙ ap (λ (o : Option Entry). is_some o && is_none (option_and_then (λ (e : Entry). e.buf) o)) fills.here
  | inr differ ↦ ap (λ (o : Option Entry). is_some o && is_none (option_and_then (λ (e : Entry). e.buf) o)) (fills.others other differ) ∙ whole other
]

pub in_frame : (s m : Stored) (at : Place) → IsSameFrame s m → IsIn s at → IsIn m at
in_frame s m at frame inside = record {
  block = subst (λ (t : TreeOfBlocks). at.block < length (leaves t)) (sym frame.tree) inside.block;
  field = subst (λ n. at.field < n) (sym frame.fields) inside.field;
}
