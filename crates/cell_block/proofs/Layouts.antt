-- What follows from the axes and the cells of a layout alone, and the interior that is written.
use Rattle.std.proofs.Common.{◌≡◌, ◌∙◌, sym, ap, subst, refl, ℕ, ◌+◌, ◌*◌, List, length, slice_index, zero-add, arith}
use Rattle.std.proofs.lemmas.List.FromFn.{fill_by_all}
use Rattle.block_layout.specs.declared.layout.Layout.{Layout}
use Rattle.block_layout.specs.Faces.{face_count}
use Rattle.block_layout.specs.Indices.{IsWithin, added, count_of, index_of, number_of}
use Rattle.block_layout.specs.Layouts.{interior_len, len, place}
use Rattle.block_layout.specs.Regions.{cell_place, interior}
use Rattle.block_layout.specs.Sizes.{IsLayout}
use Rattle.block_layout.proofs.Boxes.{index_below, index_number}
use Rattle.block_regions.specs.Rows.{whole_box}
use Rattle.cell_boxes.specs.declared.boxes.BoxIn.{BoxIn}
use Rattle.cell_boxes.specs.Boxes.{address}
use Rattle.field_bufs.specs.declared.buf.FieldBuf.{FieldBuf}
use Rattle.field_bufs.specs.Buffers.{HasSizes}
use Rattle.cell_block.specs.Rules.{interior_of}
use Rattle.cell_block.specs.Whole.{extents_of, interior_box}

-- what does not ask why the layout is sound
pub like : {X : Type 0} (f : Layout → X) (l other : Layout) → other.dims ≡ l.dims → other.cells ≡ l.cells
    → ((s : IsLayout l.dims l.cells) → f (record { dims = l.dims; cells = l.cells; sound = s }) ≡ f l) → f other ≡ f l
like f l other dims cells same =
    let at : (d : ℕ) (c : List ℕ) → Type 0 = λ d c. (s : IsLayout d c) → f (record { dims = d; cells = c; sound = s }) ≡ f l in
    (subst (λ (d : ℕ). at d other.cells) (sym dims) (subst (λ (c : List ℕ). at l.dims c) (sym cells) same)) other.sound

pub sizes_like : (l other : Layout) (buf : FieldBuf) → other.dims ≡ l.dims → other.cells ≡ l.cells → HasSizes l buf → HasSizes other buf
sizes_like l other buf dims cells sizes =
    let faces = like face_count l other dims cells (λ s. refl) in
    record {
      cells = sizes.cells ∙ sym (like len l other dims cells (λ s. refl));
      right = sizes.right ∙ sym faces;
      left = sizes.left ∙ sym faces;
    }

-- the place in a whole list
whole_address : (e i : List ℕ) → address (whole_box e) i ≡ number_of e i
whole_address e i = at_corner (slice_index i 0) (slice_index i 1) (slice_index i 2) (slice_index e 0) (slice_index e 1)
  where
    at_corner : (x y z n m : ℕ) → 0 + (0 + x + n * (0 + y + m * (0 + z))) ≡ x + n * (y + m * z)
    at_corner x y z n m = omega arith

-- the interior without its ghosts
pub interior_written : (l : Layout) (cells new e : List ℕ) (from into : BoxIn) → e ≡ extents_of l → from ≡ interior_box l → into ≡ whole_box e → length new ≡ count_of l.cells
    → ((i : List ℕ) → IsWithin e i → slice_index new (address into i) ≡ slice_index cells (address from i)) → new ≡ interior_of l cells
interior_written l cells new e from into is from_is into_is long copied =
    let n = extents_of l in
    fill_by_all (λ k. slice_index cells (cell_place l (interior l) k)) new (interior_len l) 0 long
    (λ k h.
    let i = index_of n k in
    ap (slice_index new) (sym (whole_address n i ∙ index_number n k))
    ∙ ap (λ (b : BoxIn). slice_index new (address b i)) (sym (into_is ∙ ap whole_box is))
    ∙ copied i (subst (λ (v : List ℕ). IsWithin v i) (sym is) (index_below n k h))
    ∙ ap (λ (b : BoxIn). slice_index cells (address b i)) from_is
    ∙ ap (slice_index cells) (zero-add (place l (added (interior l).low i))))
