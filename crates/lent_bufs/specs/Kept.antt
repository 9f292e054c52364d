-- Which buffers are at kept places.
use Rattle.std.specs.Prelude.{◌≡◌, ℕ, Bool, false, cond, nat_lt, List, map, filter, length}
use Rattle.std.specs.List.{list_any, slice_index_or}
use Rattle.sparse_pool.specs.declared.place.Place.{Place}
use Rattle.field_bufs.specs.declared.buf.FieldBuf.{FieldBuf}
use Rattle.pack_cache.specs.Packs.{same_place}
use Rattle.lent_bufs.specs.Buffers.{place_of}

-- whether a place is among some
abbrev pub is_among : List Place → ℕ → ℕ → Bool
is_among places b f = list_any (same_place (record { block = b; field = f })) places

-- the places of some of these buffers, in the order of the buffers
abbrev pub AreKeptOf : List FieldBuf → List Place → Type 0
AreKeptOf bufs kept = kept ≡ filter (λ at. is_among kept at.block at.field) (map place_of bufs)

-- whether the place at a number of a list is this one
abbrev pub is_here : List Place → ℕ → ℕ → ℕ → Bool
is_here places n b f = cond (nat_lt n (length places))
    (same_place (record { block = b; field = f }) (slice_index_or places n (record { block = 0; field = 0 }))) false
