-- What a change at one place makes of a store.
use Rattle.std.proofs.Common.{◌≡◌, ◌∙◌, sym, ap, subst, refl, inl, inr, ℕ, ◌+◌, ◌/◌, ◌<◌, cond, Bool, true, false, Option, None, Some, is_some, List, [], length, slice_index, slice_set, arith}
use Rattle.std.proofs.lemmas.Bool.{cases_lt, false≢true}
use Rattle.std.proofs.lemmas.List.{get_or-set_same, get_or-set_other, set-set, set_past}
use Rattle.sparse_pool.specs.declared.place.Place.{Place}
use Rattle.field_bufs.specs.declared.buf.FieldBuf.{FieldBuf}
use Rattle.cell_block.specs.State.{Entry, IsStored, Stored, buffer_set, entry_at, entry_in, epoch_at, leaf_count, list_of, place_of, with_buffer, with_change, with_entry}
use Rattle.cycle_stores.specs.Stores.{Grid}
use Rattle.cycle_stores.specs.Gives.{IsChangedTo, filled_in, is_there}
use Rattle.cell_block.proofs.Grids.{row_of}
use Rattle.cell_block.proofs.Partitions.{in_list}
use Rattle.cycle_stores.proofs.Folds.{entry_here}
use Rattle.cycle_stores.proofs.Uses.{back_entry, lent_entry, made_entry}

-- one change after another at one place
pub entry_twice : (grid : Grid) (at : Place) (x y : Option Entry) → with_entry (with_entry grid at x) at y ≡ with_entry grid at y
entry_twice grid at x y =
    let row = row_of grid at.block in
    let first = slice_set row at.field x in
    elim (cases_lt at.block (length grid)) [
      | inl lt ↦ ap (λ (r : List (Option Entry)). slice_set (slice_set grid at.block first) at.block (slice_set r at.field y)) (get_or-set_same grid at.block first [] lt)
          ∙ set-set grid at.block first (slice_set first at.field y)
          ∙ ap (λ (r : List (Option Entry)). slice_set grid at.block r) (set-set row at.field x y)
      | inr past ↦ ap (λ (g : Grid). with_entry g at y) (set_past grid at.block first past)
    ]

-- a buffer in the place of another one
back_made : (o : Option Entry) (at : Place) (buf : FieldBuf) → is_some o ≡ true → back_entry buf (lent_entry at o) ≡ made_entry buf o
back_made None at buf is = absurd (false≢true is)
back_made (Some e) at buf is = refl

pub filled_there : (grid : Grid) (buf : FieldBuf) → is_there grid (place_of buf) ≡ true → buffer_set (buffer_set grid (place_of buf) None) (place_of buf) (Some buf) ≡ filled_in grid buf
filled_there grid buf there =
    let at = place_of buf in
    let lent = buffer_set grid at None in
    ap (λ (o : Option Entry). with_entry lent at (back_entry buf o)) (entry_here grid at (lent_entry at) (inl refl))
    ∙ entry_twice grid at (lent_entry at (entry_in grid at)) (back_entry buf (lent_entry at (entry_in grid at)))
    ∙ ap (λ (o : Option Entry). with_entry grid at o) (back_made (entry_in grid at) at buf there)

-- other things at the places alone, with no place that came or went
pub only_places : (old new : Stored) (list : ℕ) (grid : Grid) → new ≡ record old { places = grid } → IsChangedTo list 0 old new grid
only_places old new list grid is = record {
  mesh = is ∙ ap (λ (s : Stored). record old { places = grid; epochs = s.epochs; spares = s.spares }) (sym is);
  epoch = ap (λ (s : Stored). epoch_at s list) is ∙ omega arith;
  others = λ other ne. ap (λ (s : Stored). epoch_at s other) is;
}

-- a place came or went
pub one_change : (old new : Stored) (list : ℕ) (at : Place) (x : Option Entry) → IsStored old → at.block < leaf_count old → at.block / old.size ≡ list
    → new ≡ record (with_change old at x) { spares = new.spares } → IsChangedTo list 1 old new (with_entry old.places at x)
one_change old new list at x stored within own is =
    let l = list_of old at.block in
    let long : l < length old.epochs = (let lists = (in_list old.size (leaf_count old) at.block stored.some_leaves within).list in omega (arith, lists, stored.epochs)) in
    let n = epoch_at old l + 1 in
    record {
      mesh = is ∙ ap (λ (es : List ℕ). record old { places = with_entry old.places at x; epochs = es; spares = new.spares }) (sym (ap (λ (s : Stored). s.epochs) is));
      epoch = ap (λ (s : Stored). epoch_at s list) is ∙ ap (λ (k : ℕ). slice_index (slice_set old.epochs l n) k) (sym own)
          ∙ get_or-set_same old.epochs l n 0 long ∙ ap (λ (k : ℕ). epoch_at old k + 1) own;
      others = λ other ne. ap (λ (s : Stored). epoch_at s other) is ∙ get_or-set_other old.epochs l other n 0 (λ e. ne (e ∙ own));
    }

-- a buffer came to its place, where another one stood, and where nothing stood
pub filled_again : (old mid new : Stored) (list : ℕ) (at : Place) (buf : FieldBuf) → at ≡ place_of buf → is_some (entry_at old at) ≡ true
    → mid ≡ with_buffer old at None → new ≡ with_buffer mid (place_of buf) (Some buf) → IsChangedTo list (cond (is_there old.places (place_of buf)) 0 1) old new (filled_in old.places buf)
filled_again old mid new list at buf own there lent back =
    let p = place_of buf in
    let has : is_there old.places p ≡ true = ap (λ (q : Place). is_some (entry_at old q)) (sym own) ∙ there in
    let whole : new ≡ record old { places = filled_in old.places buf } =
    back ∙ ap (λ (s : Stored). with_buffer s p (Some buf)) (lent ∙ ap (λ (q : Place). with_buffer old q None) own)
    ∙ ap (λ (g : Grid). record old { places = g }) (filled_there old.places buf has) in
    subst (λ (b : Bool). IsChangedTo list (cond b 0 1) old new (filled_in old.places buf)) (sym has) (only_places old new list (filled_in old.places buf) whole)

none_of : (o : Option Entry) → is_some o ≡ false → o ≡ None
none_of None e = refl
none_of (Some x) e = absurd (false≢true (sym e))

pub absent_at : (s : Stored) (at p : Place) → at ≡ p → is_some (entry_at s at) ≡ false → entry_at s p ≡ None
absent_at s at p own none = none_of (entry_at s p) (ap (λ (q : Place). is_some (entry_at s q)) (sym own) ∙ none)

pub filled_new : (old new : Stored) (list : ℕ) (at : Place) (buf : FieldBuf) → IsStored old → buf.block < leaf_count old → buf.block / old.size ≡ list → at ≡ place_of buf → is_some (entry_at old at) ≡ false
    → new ≡ record (with_change old (place_of buf) (Some (record { idle = 0; buf = Some buf }))) { spares = new.spares }
    → IsChangedTo list (cond (is_there old.places (place_of buf)) 0 1) old new (filled_in old.places buf)
filled_new old new list at buf stored within same own absent added =
    let p = place_of buf in
    let none : entry_in old.places p ≡ None = absent_at old at p own absent in
    let first : Option Entry = Some (record { idle = 0; buf = Some buf }) in
    let grid : with_entry old.places p first ≡ filled_in old.places buf = ap (λ (o : Option Entry). with_entry old.places p (made_entry buf o)) (sym none) in
    subst (λ (b : Bool). IsChangedTo list (cond b 0 1) old new (filled_in old.places buf)) (sym (ap (λ (o : Option Entry). is_some o) none))
    (subst (λ (g : Grid). IsChangedTo list 1 old new g) grid (one_change old new list p first stored within same added))
