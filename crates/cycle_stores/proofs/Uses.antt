-- What stands at a place once buffers were lent, came back, came and went.
use Rattle.std.proofs.Common.{◌≡◌, ◌≢◌, ◌⊎◌, ◌∙◌, sym, ap, subst, refl, inl, inr, ℕ, zero, suc, ◌+◌, ◌<◌, ◌≤◌, ◌&&◌, not, cond, Bool, true, false, Option, None, Some, IsSome, is_some, is_none, unwrap_or, List, [], ◌∷◌, length, map, slice_index_or, slice_set, arith}
use Rattle.std.specs.List.{filter}
use Rattle.std.specs.Option.{option_and_then, option_map}
use Rattle.std.proofs.lemmas.Bool.{cases_eq, cases_lt, or_parts}
use Rattle.std.proofs.lemmas.List.{get_or_past, get_or-map, get_or-set_same, get_or-set_other, length-map, length-set}
use Rattle.sparse_pool.specs.declared.place.Place.{Place}
use Rattle.field_bufs.specs.declared.buf.FieldBuf.{FieldBuf}
use Rattle.cell_block.specs.State.{Entry, buffer_in, buffer_set, entry_in, idle_set, place_of, stamped_entry, stamps_raised, with_entry}
use Rattle.cycle_stores.specs.Stores.{CanLend, Grid, is_among, lent_in, taken_in}
use Rattle.cycle_stores.specs.Gives.{CanCount, back_in, counted_in, filled_in, freed_in, is_there, made_in, new_in, raised_in}
use Rattle.pack_cache.specs.Packs.{same_place}
use Rattle.cell_block.proofs.Grids.{row_of}
use Rattle.cycle_stores.proofs.Folds.{AreApart, Can, differ, entry_other, fold}

-- the buffer in what stands at a place, its idle count, and whether it is lent
abbrev pub buf_of : Option Entry → Option FieldBuf
buf_of o = option_and_then (λ (e : Entry). e.buf) o

abbrev pub idle_of : Option Entry → ℕ
idle_of o = unwrap_or (option_map (λ (e : Entry). e.idle) o) 0

abbrev pub is_out_of : Option Entry → Bool
is_out_of o = is_some o && is_none (buf_of o)

-- what each change makes of it
abbrev pub lent_entry : Place → Option Entry → Option Entry
lent_entry at o = option_map (λ (e : Entry). record e { buf = None }) o

abbrev pub back_entry : FieldBuf → Option Entry → Option Entry
back_entry buf o = option_map (λ (e : Entry). record e { buf = Some buf }) o

abbrev pub counted_entry : (Place → ℕ) → FieldBuf → Option Entry → Option Entry
counted_entry count buf o = option_map (λ (e : Entry). record e { idle = count (place_of buf) }) o

abbrev pub made_entry : FieldBuf → Option Entry → Option Entry
made_entry buf o = Some (record { idle = idle_of o; buf = Some buf })

abbrev pub freed_entry : Place → Option Entry → Option Entry
freed_entry at o = None

abbrev pub own : Place → Place
own at = at

pub own_map : (places : List Place) → map own places ≡ places
own_map [] = refl
own_map (at ∷ rest) = ap (λ (ps : List Place). at ∷ ps) (own_map rest)

-- the changes of the store are such changes
pub lent_is : (grid : Grid) (places : List Place) → lent_in grid places ≡ fold own lent_entry grid places
lent_is grid [] = refl
lent_is grid (at ∷ rest) = lent_is (buffer_set grid at None) rest

pub back_is : (grid : Grid) (bufs : List FieldBuf) → back_in grid bufs ≡ fold place_of back_entry grid bufs
back_is grid [] = refl
back_is grid (buf ∷ rest) = back_is (buffer_set grid (place_of buf) (Some buf)) rest

pub counted_is : (count : Place → ℕ) (grid : Grid) (bufs : List FieldBuf) → counted_in grid bufs (map count (map place_of bufs)) ≡ fold place_of (counted_entry count) grid bufs
counted_is count grid [] = refl
counted_is count grid (buf ∷ rest) = counted_is count (idle_set grid (place_of buf) (count (place_of buf))) rest

pub made_is : (grid : Grid) (bufs : List FieldBuf) → made_in grid bufs ≡ fold place_of made_entry grid bufs
made_is grid [] = refl
made_is grid (buf ∷ rest) = made_is (filled_in grid buf) rest

pub freed_is : (grid : Grid) (places : List Place) → freed_in grid places ≡ fold own freed_entry grid places
freed_is grid [] = refl
freed_is grid (at ∷ rest) = freed_is (with_entry grid at None) rest

-- no count changes anything
pub counted_none : (grid : Grid) (bufs : List FieldBuf) → counted_in grid bufs [] ≡ grid
counted_none grid [] = refl
counted_none grid (buf ∷ rest) = refl

-- what they need
pub can_lend : (grid : Grid) (places : List Place) → Can own lent_entry (λ _ o. IsSome (buf_of o)) grid places → CanLend grid places
can_lend grid [] can = tt
can_lend grid (at ∷ rest) can = (can.0, can_lend (buffer_set grid at None) rest can.1)

pub can_count : (count : Place → ℕ) (grid : Grid) (bufs : List FieldBuf) → Can place_of (counted_entry count) (λ _ o. is_some o ≡ true) grid bufs → CanCount grid bufs (map count (map place_of bufs))
can_count count grid [] can = tt
can_count count grid (buf ∷ rest) can = (can.0, can_count count (idle_set grid (place_of buf) (count (place_of buf))) rest can.1)

pub can_count_none : (grid : Grid) (bufs : List FieldBuf) → CanCount grid bufs []
can_count_none grid [] = tt
can_count_none grid (buf ∷ rest) = tt

-- the buffers that are lent, where no place stands twice
same_buffers : (grid : Grid) (at : Place) (x : Option Entry) (rest : List Place) → is_among rest at ≡ false → map (buffer_in (with_entry grid at x)) rest ≡ map (buffer_in grid) rest
same_buffers grid at x [] off = refl
same_buffers grid at x (p ∷ rest) off =
    let n = or_parts (same_place at p) (is_among rest at) off in
    let ne : p ≢ at = λ e. differ at p n.0 (sym e) in
    ap (λ (b : Option FieldBuf). b ∷ map (buffer_in (with_entry grid at x)) rest) (ap buf_of (entry_other grid at p x ne))
    ∙ ap (λ (bs : List (Option FieldBuf)). buffer_in grid p ∷ bs) (same_buffers grid at x rest n.1)

pub taken_apart : (grid : Grid) (places : List Place) → AreApart places → taken_in grid places ≡ map (buffer_in grid) places
taken_apart grid [] apart = refl
taken_apart grid (at ∷ rest) apart = ap (λ (bs : List (Option FieldBuf)). buffer_in grid at ∷ bs)
    (taken_apart (buffer_set grid at None) rest apart.1 ∙ same_buffers grid at (lent_entry at (entry_in grid at)) rest apart.0)

-- how many come where nothing stood
abbrev pub is_free : Grid → Place → Bool
is_free grid at = not (is_there grid at)

same_free : (grid : Grid) (at : Place) (x : Option Entry) (rest : List Place) → is_among rest at ≡ false → filter (is_free (with_entry grid at x)) rest ≡ filter (is_free grid) rest
same_free grid at x [] off = refl
same_free grid at x (p ∷ rest) off =
    let n = or_parts (same_place at p) (is_among rest at) off in
    let ne : p ≢ at = λ e. differ at p n.0 (sym e) in
    let later = same_free grid at x rest n.1 in
    ap (λ (b : Bool). cond b (p ∷ filter (is_free (with_entry grid at x)) rest) (filter (is_free (with_entry grid at x)) rest)) (ap (λ (o : Option Entry). not (is_some o)) (entry_other grid at p x ne))
    ∙ ap (λ (ps : List Place). cond (is_free grid p) (p ∷ ps) ps) later

one_more : (b : Bool) (at : Place) (ps : List Place) (n : ℕ) → n ≡ length ps → cond b 0 1 + n ≡ length (cond (not b) (at ∷ ps) ps)
one_more true at ps n e = omega (arith, e)
one_more false at ps n e = omega (arith, e)

pub new_free : (grid : Grid) (bufs : List FieldBuf) → AreApart (map place_of bufs) → new_in grid bufs ≡ length (filter (is_free grid) (map place_of bufs))
new_free grid [] apart = refl
new_free grid (buf ∷ rest) apart =
    let at = place_of buf in
    one_more (is_there grid at) at (filter (is_free grid) (map place_of rest)) (new_in (filled_in grid buf) rest)
    (new_free (filled_in grid buf) rest apart.1 ∙ ap (λ (ps : List Place). length ps) (same_free grid at (made_entry buf (entry_in grid at)) (map place_of rest) apart.0))

-- stamps that rose: of a block, and of blocks that follow one another
pub stamped_other : (grid : Grid) (block : ℕ) (p : Place) → p.block ≢ block → entry_in (stamps_raised grid block) p ≡ entry_in grid p
stamped_other grid block p ne = ap (λ (r : List (Option Entry)). slice_index_or r p.field None) (get_or-set_other grid block p.block (map (option_map stamped_entry) (row_of grid block)) [] ne)

stamped_at : (grid : Grid) (block f : ℕ) → entry_in (stamps_raised grid block) (record { block = block; field = f }) ≡ option_map stamped_entry (entry_in grid (record { block = block; field = f }))
stamped_at grid block f =
    let row = map (option_map stamped_entry) (row_of grid block) in
    elim (cases_lt block (length grid)) [
      | inl there ↦ ap (λ (r : List (Option Entry)). slice_index_or r f None) (get_or-set_same grid block row [] there)
          ∙ elim (cases_lt f (length (row_of grid block))) [
            | inl field ↦ get_or-map (option_map stamped_entry) (row_of grid block) f None None field
            | inr past ↦ get_or_past row f None (omega (arith, past, length-map (row_of grid block) (option_map stamped_entry)))
                ∙ sym (ap (option_map stamped_entry) (get_or_past (row_of grid block) f None past))
          ]
      | inr past ↦ ap (λ (r : List (Option Entry)). slice_index_or r f None) (get_or_past (slice_set grid block row) block [] (omega (arith, past, length-set grid block row)))
          ∙ sym (ap (λ (r : List (Option Entry)). option_map stamped_entry (slice_index_or r f None)) (get_or_past grid block [] past))
    ]

pub stamped_here : (grid : Grid) (block : ℕ) (p : Place) → p.block ≡ block → entry_in (stamps_raised grid block) p ≡ option_map stamped_entry (entry_in grid p)
stamped_here grid block p e = subst (λ (b : ℕ). entry_in (stamps_raised grid b) p ≡ option_map stamped_entry (entry_in grid p)) e (stamped_at grid p.block p.field)

pub raised_outside : (grid : Grid) (first n : ℕ) (p : Place) → (p.block < first) ⊎ (first + n ≤ p.block) → entry_in (raised_in grid first n) p ≡ entry_in grid p
raised_outside grid first zero p out = refl
raised_outside grid first (suc n) p out = elim out [
  | inl before ↦ stamped_other (raised_in grid first n) (first + n) p (omega (arith, before)) ∙ raised_outside grid first n p (inl before)
  | inr past ↦ stamped_other (raised_in grid first n) (first + n) p (omega (arith, past)) ∙ raised_outside grid first n p (inr (omega (arith, past)))
]

pub raised_inside : (grid : Grid) (first n : ℕ) (p : Place) → first ≤ p.block → p.block < first + n → entry_in (raised_in grid first n) p ≡ option_map stamped_entry (entry_in grid p)
raised_inside grid first zero p from upto = absurd (omega (arith, from, upto))
raised_inside grid first (suc n) p from upto = elim (cases_eq p.block (first + n)) [
  | inl last ↦ stamped_here (raised_in grid first n) (first + n) p last
      ∙ ap (option_map stamped_entry) (raised_outside grid first n p (inr (omega (arith, last))))
  | inr ne ↦ stamped_other (raised_in grid first n) (first + n) p ne ∙ raised_inside grid first n p from (omega (arith, upto, ne))
]
