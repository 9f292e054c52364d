-- What is kept in places of which one was filled.
use Rattle.std.proofs.Common.{◌≡◌, ◌≢◌, ◌⊎◌, ℕ, ◌<◌, Bool, true, Option, Some, None, List, [], is_some, length, unwrap_or, set, refl, arith, ap, sym, subst, ◌∙◌, sum, inl, inr, get_or-set_other, get_or-set_same}
use Rattle.std.specs.List.{slice_index_or}
use Rattle.std.specs.Option.{option_and_then, option_map}
use Rattle.std.proofs.lemmas.Bool.{cases_eq}
use Rattle.sparse_pool.specs.declared.place.Place.{Place}
use Rattle.field_bufs.specs.declared.buf.FieldBuf.{FieldBuf}
use Rattle.cell_block.specs.State.{Entry, entry_in, with_entry}

pub same_place : (a b : Place) → a.block ≡ b.block → a.field ≡ b.field → a ≡ b
same_place a b x y = of_parts a.block a.field b.block b.field x y
  where
    of_parts : (k f l g : ℕ) → k ≡ l → f ≡ g → ◌≡◌ {A = Place} (record { block = k; field = f }) (record { block = l; field = g })
    of_parts k f l g x y = cc

pub same_or_other : (a b : Place) → (a ≡ b) ⊎ (a ≢ b)
same_or_other a b = elim (cases_eq a.block b.block) [
  | inl block ↦ elim (cases_eq a.field b.field) [
    | inl field ↦ inl (same_place a b block field)
    | inr differ ↦ inr (λ e. differ (ap (λ (v : Place). v.field) e))
  ]
  | inr differ ↦ inr (λ e. differ (ap (λ (v : Place). v.block) e))
]

-- the place itself
pub entry_here : (places : List (List (Option Entry))) (at : Place) (e : Option Entry) → at.block < length places → at.field < length (slice_index_or places at.block []) → entry_in (with_entry places at e) at ≡ e
entry_here places at e block field =
    ap (λ (row : List (Option Entry)). slice_index_or row at.field None) (get_or-set_same places at.block (set (slice_index_or places at.block []) at.field e) [] block)
    ∙ get_or-set_same (slice_index_or places at.block []) at.field e None field

-- any other
pub entry_other : (places : List (List (Option Entry))) (at other : Place) (e : Option Entry) → at.block < length places → other ≢ at → entry_in (with_entry places at e) other ≡ entry_in places other
entry_other places at other e block differ = elim (cases_eq other.block at.block) [
  | inl same ↦
      let apart : other.field ≢ at.field = λ f. differ (same_place other at same f) in
      let row : List (Option Entry) = slice_index_or places at.block [] in
      ap (λ k. slice_index_or (slice_index_or (with_entry places at e) k []) other.field None) same
      ∙ ap (λ (v : List (Option Entry)). slice_index_or v other.field None) (get_or-set_same places at.block (set row at.field e) [] block)
      ∙ get_or-set_other row at.field other.field e None apart
      ∙ ap (λ k. slice_index_or (slice_index_or places k []) other.field None) (sym same)
  | inr apart ↦ ap (λ (v : List (Option Entry)). slice_index_or v other.field None) (get_or-set_other places at.block other.block (set (slice_index_or places at.block []) at.field e) [] apart)
]

-- an entry whose buffer was lent and put back changed
pub replaced : (buf : FieldBuf) (o : Option Entry) → is_some (option_and_then (λ (e : Entry). e.buf) o) ≡ true →
    option_map (λ (e : Entry). record e { buf = Some buf }) (option_map (λ (e : Entry). record e { buf = None }) o) ≡ Some (record { idle = unwrap_or (option_map (λ (e : Entry). e.idle) o) 0; buf = Some buf })
replaced buf None h = cc
replaced buf (Some e) h = refl
