-- A block's own totals copied, and a fresh buffer at its place.
use Rattle.std.proofs.Common.{◌≡◌, ◌∙◌, sym, ap, subst, refl, inl, ℕ, ◌&&◌, true, false, Option, None, Some, IsSome, is_some, is_none, List, replicate, slice_index, zero-add}
use Rattle.std.proofs.lemmas.Bool.{false≢true}
use Rattle.sparse_pool.specs.declared.place.Place.{Place}
use Rattle.block_layout.specs.declared.layout.Layout.{Layout}
use Rattle.block_layout.specs.Faces.{face_count}
use Rattle.block_layout.specs.Indices.{IsWithin, added, index_of}
use Rattle.block_layout.specs.Layouts.{interior_len, len, place}
use Rattle.block_layout.specs.Regions.{cell_place, interior}
use Rattle.block_layout.proofs.Boxes.{index_below}
use Rattle.cell_boxes.specs.declared.boxes.BoxIn.{BoxIn}
use Rattle.cell_boxes.specs.Boxes.{StaysOffBox, address}
use Rattle.field_bufs.specs.declared.buf.FieldBuf.{FieldBuf}
use Rattle.cell_block.specs.State.{Entry, HasLayout, Stored, buffer_at, buffer_set, entry_at, entry_in, place_of, with_buffer}
use Rattle.cell_block.specs.Rules.{interior_of}
use Rattle.cell_block.specs.Whole.{extents_of, interior_box}
use Rattle.cell_block.proofs.Layouts.{like}
use Rattle.cell_block.proofs.Tables.{table_same}
use Rattle.cycle_stores.specs.Stores.{Grid}
use Rattle.cycle_stores.specs.Openings.{IsFresh, IsFreshAt, IsFreshPlace}
use Rattle.cycle_stores.proofs.Folds.{entry_here, entry_other}
use Rattle.cycle_stores.proofs.Uses.{back_entry, buf_of, idle_of, is_out_of, lent_entry}

-- where the interior was copied, the own totals are the same
pub interior_copied : (l : Layout) (from new : List ℕ) (b : BoxIn) → b ≡ interior_box l
    → ((i : List ℕ) → IsWithin (extents_of l) i → slice_index new (address b i) ≡ slice_index from (address b i)) → interior_of l new ≡ interior_of l from
interior_copied l from new b is copied =
    let n = extents_of l in
    table_same (interior_len l) (λ k. slice_index new (cell_place l (interior l) k)) (λ k. slice_index from (cell_place l (interior l) k)) 0
    (λ k h.
    let i = index_of n k in
    let at = zero-add (place l (added (interior l).low i)) in
    ap (slice_index new) (sym at)
    ∙ subst (λ (box : BoxIn). slice_index new (address box i) ≡ slice_index from (address box i)) is (copied i (index_below n k h))
    ∙ ap (slice_index from) at)

-- a buffer is fresh by the axes and the cells of the layout alone
fresh_like : (l other : Layout) (was buf : FieldBuf) → other.dims ≡ l.dims → other.cells ≡ l.cells → IsFresh l was buf → IsFresh other was buf
fresh_like l other was buf dims cells f =
    let faces = like face_count l other dims cells (λ s. refl) in
    record {
      place = f.place;
      stamp = f.stamp;
      own = like (λ (v : Layout). interior_of v buf.cells) l other dims cells (λ s. refl) ∙ f.own ∙ sym (like (λ (v : Layout). interior_of v was.cells) l other dims cells (λ s. refl));
      rest = subst (λ (e : List ℕ). StaysOffBox e (interior_box other) (replicate (len other) 0) buf.cells) (sym (like extents_of l other dims cells (λ s. refl)))
          (subst (λ (b : BoxIn). StaysOffBox (extents_of l) b (replicate (len other) 0) buf.cells) (sym (like interior_box l other dims cells (λ s. refl)))
          (subst (λ (n : ℕ). StaysOffBox (extents_of l) (interior_box l) (replicate n 0) buf.cells) (sym (like len l other dims cells (λ s. refl))) f.rest));
      right = f.right ∙ ap (λ (n : ℕ). replicate n 0) (sym faces);
      left = f.left ∙ ap (λ (n : ℕ). replicate n 0) (sym faces);
    }

abbrev no_buf : Option FieldBuf
no_buf = None

same_buf : (a b : FieldBuf) → Some a ≡ Some b → a ≡ b
same_buf a b e = cc

-- a fresh buffer stands where another one stood
fresh_at : (old new : Stored) (at : Place) (was buf : FieldBuf) (l : Layout) (o : Option Entry) → entry_at old at ≡ o → entry_at new at ≡ back_entry buf (lent_entry at o) → buf_of o ≡ Some was
    → HasLayout old l → IsFresh l was buf → IsFreshAt old new at
fresh_at old new at was buf l None before now has layout f = absurd (let clash : no_buf ≡ Some was = has in cc)
fresh_at old new at was buf l (Some e) before now has layout f = record {
  allocated = ap (λ (o : Option Entry). is_some o) now ∙ sym (ap (λ (o : Option Entry). is_some o) before);
  home = ap is_out_of now ∙ sym (ap is_out_of before ∙ ap (λ (b : Option FieldBuf). true && is_none b) has);
  idle = ap idle_of now ∙ sym (ap idle_of before);
  fresh = λ other first last h w n.
      let old_is = same_buf was first (sym has ∙ sym (ap buf_of before) ∙ w) in
      let new_is = same_buf buf last (sym (ap buf_of now) ∙ n) in
      subst (λ (b : FieldBuf). IsFresh other b last) old_is
      (subst (λ (b : FieldBuf). IsFresh other was b) new_is
      (fresh_like l other was buf (h.dims ∙ sym layout.dims) (h.cells ∙ sym layout.cells) f));
}

pub fresh_place : (old mid new : Stored) (at : Place) (was buf : FieldBuf) (l : Layout) → buffer_at old at ≡ Some was → place_of was ≡ at → mid ≡ with_buffer old at None → HasLayout mid l
    → IsFresh l was buf → new ≡ with_buffer mid (place_of buf) (Some buf) → IsFreshPlace old new at
fresh_place old mid new at was buf l has own lent layout f back =
    let gone = buffer_set old.places at None in
    let grid = buffer_set gone at (Some buf) in
    let whole : new ≡ record old { places = grid } =
    back ∙ ap (λ (p : Place). with_buffer mid p (Some buf)) (f.place ∙ own) ∙ ap (λ (s : Stored). with_buffer s at (Some buf)) lent in
    let same : HasLayout old l = record { dims = layout.dims ∙ ap (λ (s : Stored). s.dims) lent; cells = layout.cells ∙ ap (λ (s : Stored). s.cells) lent } in
    record {
      mesh = whole ∙ ap (λ (g : Grid). record old { places = g }) (sym (ap (λ (s : Stored). s.places) whole));
      here = fresh_at old new at was buf l (entry_at old at) refl
          (ap (λ (s : Stored). entry_at s at) whole ∙ entry_here gone at (back_entry buf) (inl refl) ∙ ap (back_entry buf) (entry_here old.places at (lent_entry at) (inl refl)))
          has same f;
      others = λ p ne. ap (λ (s : Stored). entry_at s p) whole ∙ entry_other gone at p (back_entry buf (entry_in gone at)) ne ∙ entry_other old.places at p (lent_entry at (entry_in old.places at)) ne;
    }

-- what is allocated and not lent has its buffer
by_entry : (o : Option Entry) → is_some o ≡ true → is_out_of o ≡ false → IsSome (buf_of o)
by_entry None there home = absurd (false≢true there)
by_entry (Some e) there home = by_buf e.buf home
  where
    by_buf : (b : Option FieldBuf) → (true && is_none b) ≡ false → IsSome b
    by_buf None home = absurd (false≢true (sym home))
    by_buf (Some x) home = refl

pub has_buffer : (s : Stored) (at : Place) → is_some (entry_at s at) ≡ true → is_out_of (entry_at s at) ≡ false → IsSome (buffer_at s at)
has_buffer s at there home = by_entry (entry_at s at) there home
