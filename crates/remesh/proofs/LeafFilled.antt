-- A leaf whose fields are filled one after another.
use Rattle.std.proofs.Common.{◌≡◌, ◌≢◌, ℕ, ◌<◌, false, List, [], ◌∷◌, ◌++◌, refl, arith, ap, sym, subst, ◌∙◌, sum, inl, inr}
use Rattle.std.proofs.lemmas.Bool.{cases_eq}
use Rattle.sparse_pool.specs.declared.place.Place.{Place}
use Rattle.alloc_epochs.specs.Shelf.{place_on}
use Rattle.field_bufs.specs.declared.buf.FieldBuf.{FieldBuf}
use Rattle.field_bufs.specs.Buffers.{HasSizes}
use Rattle.block_layout.specs.declared.layout.Layout.{Layout}
use Rattle.cell_block.specs.State.{Fits, HasLayout, Stored, entry_at, place_of}
use Rattle.remesh.specs.Leaves.{LeafOf}
use Rattle.remesh.specs.Fields.{IsOnLeaf, IsPlaceOf, has_buffer, idle_on}
use Rattle.remesh.specs.Stores.{Fills}
use Rattle.remesh.proofs.Buffers.{has_not_more}
use Rattle.remesh.proofs.Entries.{same_place}
use Rattle.remesh.proofs.Layouts.{same_sizes}

-- a field more is filled
pub field_filled : (n : LeafOf) (fields : ℕ) (now new : Stored) (bufs rest : List FieldBuf) (buf : FieldBuf) → bufs ≡ rest ++ buf ∷ [] → IsOnLeaf n buf → Fills now new (place_of buf) buf (idle_on n buf.field) →
    ((f : ℕ) → f < fields → has_buffer bufs f ≡ false → IsPlaceOf n f (entry_at now (place_on n.number f))) →
    (f : ℕ) → f < fields → has_buffer rest f ≡ false → IsPlaceOf n f (entry_at new (place_on n.number f))
field_filled n fields now new bufs rest buf is on fills before f small none = elim (cases_eq buf.field f) [
  | inl same ↦
      let here : place_on n.number f ≡ place_of buf = same_place (place_on n.number f) (place_of buf) (sym on.block_is) (sym same) in
      subst (IsPlaceOf n f) (sym (ap (entry_at new) here ∙ fills.here)) (record { buffer = buf; buf_is = refl; idle_is = ap (idle_on n) same; field_is = same; on_leaf = on })
  | inr differ ↦
      let apart : place_on n.number f ≢ place_of buf = λ e. differ (sym (ap (λ (v : Place). v.field) e)) in
      subst (IsPlaceOf n f) (sym (fills.others (place_on n.number f) apart)) (before f small (ap (λ (v : List FieldBuf). has_buffer v f) is ∙ has_not_more rest buf f none differ))
]

-- other leaves are not
pub others_stay : (n : LeafOf) (start now new : Stored) (buf : FieldBuf) → IsOnLeaf n buf → Fills now new (place_of buf) buf (idle_on n buf.field) →
    ((at : Place) → at.block ≢ n.number → entry_at now at ≡ entry_at start at) → (at : Place) → at.block ≢ n.number → entry_at new at ≡ entry_at start at
others_stay n start now new buf on fills before at differ = fills.others at (λ e. differ (ap (λ (v : Place). v.block) e ∙ on.block_is)) ∙ before at differ

-- a buffer of the leaf fits into a mesh state of the same blocks
pub fits_there : (n : LeafOf) (m : Stored) (buf : FieldBuf) → HasLayout m n.layout → IsOnLeaf n buf → Fits m buf
fits_there n m buf has on l other = same_sizes n.layout l buf (has.dims ∙ sym other.dims) (has.cells ∙ sym other.cells) on.sizes
