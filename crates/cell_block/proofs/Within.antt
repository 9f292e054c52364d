-- What is allocated is at a place that there is.
use Rattle.std.proofs.Common.{◌≡◌, ◌∙◌, sym, ap, refl, inl, inr, ◌<◌, Option, None, Some, List, [], slice_index_or, arith}
use Rattle.std.specs.Option.{option_and_then}
use Rattle.std.proofs.lemmas.Bool.{cases_lt}
use Rattle.std.proofs.lemmas.List.{get_or_past}
use Rattle.sparse_pool.specs.declared.place.Place.{Place}
use Rattle.field_bufs.specs.declared.buf.FieldBuf.{FieldBuf}
use Rattle.cell_block.specs.State.{Entry, IsIn, IsStored, Stored, buffer_at, entry_at, leaf_count}

abbrev no_entry : Option Entry
no_entry = None

abbrev no_buf : Option FieldBuf
no_buf = None

pub entry_within : (s : Stored) (at : Place) (e : Entry) → IsStored s → entry_at s at ≡ Some e → IsIn s at
entry_within s at e stored is =
    let block : at.block < leaf_count s = elim (cases_lt at.block (leaf_count s)) [
      | inl lt ↦ lt
      | inr past ↦ absurd (let clash : no_entry ≡ Some e = sym (ap (λ (r : List (Option Entry)). slice_index_or r at.field None) (get_or_past s.places at.block [] (omega (arith, past, stored.blocks)))) ∙ is in cc)
    ] in
    let field : at.field < s.fields = elim (cases_lt at.field s.fields) [
      | inl lt ↦ lt
      | inr past ↦ absurd (let clash : no_entry ≡ Some e = sym (get_or_past (slice_index_or s.places at.block []) at.field None (omega (arith, past, stored.fields at.block block))) ∙ is in cc)
    ] in
    record { block = block; field = field }

by_entry : (s : Stored) (at : Place) (buf : FieldBuf) (o : Option Entry) → IsStored s → entry_at s at ≡ o → option_and_then (λ (e : Entry). e.buf) o ≡ Some buf → IsIn s at
by_entry s at buf None stored e none = absurd (let clash : no_buf ≡ Some buf = none in cc)
by_entry s at buf (Some x) stored e some = entry_within s at x stored e

-- so is each buffer
pub buffer_within : (s : Stored) (at : Place) (buf : FieldBuf) → IsStored s → buffer_at s at ≡ Some buf → IsIn s at
buffer_within s at buf stored is = by_entry s at buf (entry_at s at) stored refl is
