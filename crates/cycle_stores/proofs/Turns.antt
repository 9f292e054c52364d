-- How far a store has come while things are taken in one after another.
use Rattle.std.proofs.Common.{◌≡◌, ◌∙◌, sym, ap, subst, refl, inl, inr, ℕ, suc, ◌+◌, ◌-◌, ◌/◌, ◌<◌, ◌≤◌, ◌^◌, cond, Bool, true, false, None, Some, List, [], ◌∷◌, length, drop, min, arith}
use Rattle.std.proofs.lemmas.Bool.{cases_lt}
use Rattle.std.proofs.lemmas.List.{drop_all}
use Rattle.sparse_pool.specs.declared.place.Place.{Place}
use Rattle.alloc_epochs.specs.Shelf.{place_on}
use Rattle.field_bufs.specs.declared.buf.FieldBuf.{FieldBuf}
use Rattle.cell_block.specs.State.{Fits, Stored, buffer_at, buffer_set, entry_in, epoch_at, leaf_count, place_of, stamps_raised, with_buffer, with_entry, with_stamps}
use Rattle.cycle_stores.specs.Stores.{Grid}
use Rattle.cycle_stores.specs.declared.left.Left.{Left}
use Rattle.cycle_stores.specs.Gives.{AreLowStamps, CanComeBack, CanFree, CanMake, IsChangedTo, back_by, changed_in, counted_by, counted_in, filled_in, is_there, made_by, made_in, new_in, raised_in}
use Rattle.cycle_stores.proofs.Uses.{buf_of, counted_none, raised_outside}

-- the stamps of one block more
raised_next : (grid : Grid) (first n : ℕ) → raised_in grid first (n + 1) ≡ stamps_raised (raised_in grid first n) (first + n)
raised_next grid first n = let e : n + 1 ≡ suc n = omega arith in ap (raised_in grid first) e

pub raised_more : (init state new : Stored) (first n : ℕ) → state ≡ record init { places = raised_in init.places first n } → new ≡ with_stamps state (first + n)
    → new ≡ record init { places = raised_in init.places first (n + 1) }
raised_more init state new first n is raised =
    raised ∙ ap (λ (s : Stored). with_stamps s (first + n)) is ∙ ap (λ (g : Grid). record init { places = g }) (sym (raised_next init.places first n))

pub low_stamp : (init state : Stored) (first n : ℕ) → state ≡ record init { places = raised_in init.places first n } → AreLowStamps init.places
    → (f : ℕ) (buf : FieldBuf) → buffer_at state (place_on (first + n) f) ≡ Some buf → buf.stamp < 2 ^ 32 - 1
low_stamp init state first n is low f buf e =
    let at : Place = place_on (first + n) f in
    let before : buf_of (entry_in (raised_in init.places first n) at) ≡ Some buf = ap (λ (s : Stored). buffer_at s at) (sym is) ∙ e in
    low at buf (ap buf_of (sym (raised_outside init.places first n at (inr (omega arith)))) ∙ before)

-- no idle count is left
no_bufs : (grid : Grid) (counts : List ℕ) → counted_in grid [] counts ≡ grid
no_bufs grid [] = refl
no_bufs grid (n ∷ counts) = refl

pub counted_all : (init state : Stored) (bufs : List FieldBuf) (counts : List ℕ) (n : ℕ) → min (length bufs) (length counts) ≤ n
    → state ≡ record init { places = state.places } → counted_in state.places (drop n bufs) (drop n counts) ≡ counted_in init.places bufs counts
    → state ≡ record init { places = counted_in init.places bufs counts }
counted_all init state bufs counts n all is counted =
    let same : counted_in state.places (drop n bufs) (drop n counts) ≡ state.places = elim (cases_lt n (length bufs)) [
      | inl lt ↦ ap (λ (cs : List ℕ). counted_in state.places (drop n bufs) cs) (drop_all n counts (omega (arith, lt, all))) ∙ counted_none state.places (drop n bufs)
      | inr past ↦ ap (λ (bs : List FieldBuf). counted_in state.places bs (drop n counts)) (drop_all n bufs past) ∙ no_bufs state.places (drop n counts)
    ] in
    is ∙ ap (λ (g : Grid). record init { places = g }) (sym same ∙ counted)

-- what is asked of things is asked alike of a state that differs in its places
pub back_like : (s t : Stored) (grid : Grid) (bufs : List FieldBuf) → t.dims ≡ s.dims → t.cells ≡ s.cells → CanComeBack s grid bufs → CanComeBack t grid bufs
back_like s t grid [] dims cells can = tt
back_like s t grid (buf ∷ rest) dims cells can =
    (can.0, λ l has. can.1 l (record { dims = has.dims ∙ dims; cells = has.cells ∙ cells }), back_like s t (buffer_set grid (place_of buf) (Some buf)) rest dims cells can.2)

-- the same mesh, with other things at its places
pub record IsAlike (s t : Stored) : Type 0 where
  pub leaf_number : leaf_count t ≡ leaf_count s
  pub fields : t.fields ≡ s.fields
  pub size : t.size ≡ s.size
  pub dims : t.dims ≡ s.dims
  pub cells : t.cells ≡ s.cells

pub alike : (s t : Stored) (grid : Grid) (epochs spares : List ℕ) → t ≡ record s { places = grid; epochs = epochs; spares = spares } → IsAlike s t
alike s t grid epochs spares is = record {
  leaf_number = ap (λ (v : Stored). leaf_count v) is;
  fields = ap (λ (v : Stored). v.fields) is;
  size = ap (λ (v : Stored). v.size) is;
  dims = ap (λ (v : Stored). v.dims) is;
  cells = ap (λ (v : Stored). v.cells) is;
}

pub make_like : (s t : Stored) (list : ℕ) (grid : Grid) (bufs : List FieldBuf) → IsAlike s t → CanMake s list grid bufs → CanMake t list grid bufs
make_like s t list grid [] like can = tt
make_like s t list grid (buf ∷ rest) like can = (
  record { block = omega (arith, can.0.block, like.leaf_number); field = omega (arith, can.0.field, like.fields) },
  ap (λ n. buf.block / n) like.size ∙ can.1,
  λ l has. can.2 l (record { dims = has.dims ∙ like.dims; cells = has.cells ∙ like.cells }),
  can.3,
  make_like s t list (filled_in grid buf) rest like can.4,
)

pub free_like : (s t : Stored) (list : ℕ) (grid : Grid) (places : List Place) → t.size ≡ s.size → CanFree s list grid places → CanFree t list grid places
free_like s t list grid [] size can = tt
free_like s t list grid (at ∷ rest) size can = (can.0, ap (λ n. at.block / n) size ∙ can.1, free_like s t list (with_entry grid at None) rest size can.2)

-- no more come where nothing stood than come
pub new_most : (grid : Grid) (bufs : List FieldBuf) → new_in grid bufs ≤ length bufs
new_most grid [] = omega arith
new_most grid (buf ∷ rest) = one_if (is_there grid (place_of buf)) (new_in (filled_in grid buf) rest) (length rest) (new_most (filled_in grid buf) rest)
  where
    one_if : (b : Bool) (n m : ℕ) → n ≤ m → cond b 0 1 + n ≤ suc m
    one_if true n m le = omega (arith, le)
    one_if false n m le = omega (arith, le)

-- what is left of a lease is ready to be taken in, step by step
pub back_ready : (s mid new : Stored) (left : Left) (bufs : List FieldBuf) (counts : List ℕ) → mid ≡ record s { places = changed_in s left } → new ≡ record mid { places = counted_in mid.places bufs counts }
    → bufs ≡ left.bufs → counts ≡ left.counts → CanComeBack s (counted_by s left) left.bufs → CanComeBack new new.places left.bufs
back_ready s mid new left bufs counts changed counted bufs_are counts_are can =
    let whole : new ≡ record s { places = counted_by s left } =
    counted ∙ ap (λ (v : Stored). record v { places = counted_in v.places bufs counts }) changed
    ∙ ap (λ (bs : List FieldBuf). record s { places = counted_in (changed_in s left) bs counts }) bufs_are
    ∙ ap (λ (ns : List ℕ). record s { places = counted_in (changed_in s left) left.bufs ns }) counts_are in
    subst (λ (g : Grid). CanComeBack new g left.bufs) (sym (ap (λ (v : Stored). v.places) whole))
    (back_like s new (counted_by s left) left.bufs (ap (λ (v : Stored). v.dims) whole) (ap (λ (v : Stored). v.cells) whole) can)

pub make_ready : (s new : Stored) (left : Left) (made : List FieldBuf) → new ≡ record s { places = back_by s left } → made ≡ left.made → CanMake s left.list (back_by s left) left.made → CanMake new left.list new.places made
make_ready s new left made back is can =
    subst (λ (bs : List FieldBuf). CanMake new left.list new.places bs) (sym is)
    (subst (λ (g : Grid). CanMake new left.list g left.made) (sym (ap (λ (v : Stored). v.places) back))
    (make_like s new left.list (back_by s left) left.made (alike s new (back_by s left) s.epochs s.spares back) can))

pub record FreesReady (last : Stored) (list : ℕ) (places : List Place) : Type 0 where
  pub can : CanFree last list last.places places
  pub epoch : epoch_at last list + length places < 2 ^ 64

pub frees_ready : (s new last : Stored) (left : Left) (made : List FieldBuf) (freed places : List Place) → new ≡ record s { places = back_by s left } → made ≡ left.made
    → IsChangedTo left.list (new_in new.places made) new last (made_in new.places made) → places ≡ freed → CanFree s left.list (made_by s left) freed
    → epoch_at s left.list + length left.made + length freed < 2 ^ 64 → FreesReady last left.list places
frees_ready s new last left made freed places back is c freed_are can epoch =
    let grid : last.places ≡ made_by s left = ap (λ (v : Stored). v.places) c.mesh ∙ ap (λ (v : Stored). made_in v.places made) back ∙ ap (λ (bs : List FieldBuf). made_in (back_by s left) bs) is in
    let size : last.size ≡ s.size = ap (λ (v : Stored). v.size) c.mesh ∙ ap (λ (v : Stored). v.size) back in
    record {
      can = subst (λ (ps : List Place). CanFree last left.list last.places ps) (sym freed_are)
          (subst (λ (g : Grid). CanFree last left.list g freed) (sym grid) (free_like s last left.list (made_by s left) freed size can));
      epoch = (
          let most = new_most new.places made in
          let same : length made ≡ length left.made = ap (λ (bs : List FieldBuf). length bs) is in
          let before : epoch_at new left.list ≡ epoch_at s left.list = ap (λ (v : Stored). epoch_at v left.list) back in
          let frees : length places ≡ length freed = ap (λ (ps : List Place). length ps) freed_are in
          let rose = c.epoch in
          omega (arith, most, same, before, frees, rose, epoch));
    }

-- a buffer fits where another one was lent
pub fits_lent : (s mid : Stored) (at : Place) (buf : FieldBuf) → mid ≡ with_buffer s at None → Fits s buf → Fits mid buf
fits_lent s mid at buf lent fits l has = fits l (record { dims = has.dims ∙ ap (λ (v : Stored). v.dims) lent; cells = has.cells ∙ ap (λ (v : Stored). v.cells) lent })
