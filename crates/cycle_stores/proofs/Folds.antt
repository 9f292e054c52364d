-- What stands at a place once each of a list of things changed its own place.
use Rattle.std.proofs.Common.{◌≡◌, ◌≢◌, ◌⊎◌, ◌∙◌, sym, ap, subst, refl, inl, inr, ◌<◌, ◌||◌, Bool, true, false, Option, None, List, [], ◌∷◌, length, map, slice_index_or, arith}
use Rattle.std.proofs.lemmas.Bool.{cases_Bool, cases_lt, false≢true, or_parts}
use Rattle.std.proofs.lemmas.Bool.Decides.{nat_tests}
use Rattle.std.proofs.lemmas.List.{get_or_past}
use Rattle.sparse_pool.specs.declared.place.Place.{Place}
use Rattle.cell_block.specs.State.{Entry, entry_in, with_entry}
use Rattle.cycle_stores.specs.Stores.{Grid, is_among}
use Rattle.pack_cache.specs.Packs.{same_place}
use Rattle.cycle_rounds.specs.Events.{Each}
use Rattle.cell_block.proofs.Buffers.{put_cases}
use Rattle.cell_block.proofs.Grids.{cases_place, one_place, put_long, put_rows, put_same, row_of}

-- at another place
pub entry_other : (grid : Grid) (at p : Place) (x : Option Entry) → p ≢ at → entry_in (with_entry grid at x) p ≡ entry_in grid p
entry_other grid at p x ne = elim (put_cases grid at p x) [
  | inl same ↦ same
  | inr here ↦ absurd (ne here.0)
]

-- a change that writes: it makes nothing of nothing, or its place is one of the lists
abbrev pub Writes : Grid → Place → (Option Entry → Option Entry) → Type 0
Writes grid at g = (g None ≡ None) ⊎ ((at.block < length grid) × (at.field < length (row_of grid at.block)))

pub writes_kept : (grid : Grid) (q at : Place) (x : Option Entry) (g : Option Entry → Option Entry) → Writes grid at g → Writes (with_entry grid q x) at g
writes_kept grid q at x g w = elim w [
  | inl none ↦ inl none
  | inr within ↦ inr (omega (arith, within.0, put_long grid q x), omega (arith, within.1, put_rows grid q x at.block))
]

-- at its own place
pub entry_here : (grid : Grid) (at : Place) (g : Option Entry → Option Entry) → Writes grid at g → entry_in (with_entry grid at (g (entry_in grid at))) at ≡ g (entry_in grid at)
entry_here grid at g w = elim (cases_lt at.block (length grid)) [
  | inl block ↦ elim (cases_lt at.field (length (row_of grid at.block))) [
    | inl field ↦ put_same grid at (g (entry_in grid at)) block field
    | inr past ↦ elim w [
      | inl none ↦ out grid at g none (get_or_past (row_of grid at.block) at.field None past)
      | inr within ↦ absurd (omega (arith, within.1, past))
    ]
  ]
  | inr past ↦ elim w [
    | inl none ↦ out grid at g none (ap (λ (r : List (Option Entry)). slice_index_or r at.field None) (get_or_past grid at.block [] past))
    | inr within ↦ absurd (omega (arith, within.0, past))
  ]
]
  where
    out : (grid : Grid) (at : Place) (g : Option Entry → Option Entry) → g None ≡ None → entry_in grid at ≡ None → entry_in (with_entry grid at (g (entry_in grid at))) at ≡ g (entry_in grid at)
    out grid at g none was = elim (put_cases grid at at (g (entry_in grid at))) [
      | inl same ↦ same ∙ was ∙ sym none ∙ ap g (sym was)
      | inr here ↦ here.1
    ]

-- places that are one, and places that are among some
pub same_is : (p at : Place) → same_place p at ≡ true → p ≡ at
same_is p at e = one_place p at (grind (arith, nat_tests)) (grind (arith, nat_tests))

pub is_same : (p : Place) → same_place p p ≡ true
is_same p = grind (arith, nat_tests)

pub differ : (p at : Place) → same_place p at ≡ false → p ≢ at
differ p at off e = false≢true (sym off ∙ ap (same_place p) (sym e) ∙ is_same p)

pub not_same : (p at : Place) → p ≢ at → same_place p at ≡ false
not_same p at ne = elim (cases_Bool (same_place p at)) [
  | inl e ↦ absurd (ne (same_is p at e))
  | inr e ↦ e
]

pub or_rest : (x y : Bool) → x ≡ false → (x || y) ≡ true → y ≡ true
or_rest true y off e = absurd (false≢true (sym off))
or_rest false y off e = e

pub among_rest : (p at : Place) (rest : List Place) → p ≢ at → is_among (at ∷ rest) p ≡ true → is_among rest p ≡ true
among_rest p at rest ne e = or_rest (same_place p at) (is_among rest p) (not_same p at ne) e

-- no place stands twice
abbrev pub AreApart : List Place → Type 0
AreApart [] = Unit {0}
AreApart (at ∷ rest) = (is_among rest at ≡ false) × AreApart rest

module _ {A : Type 0} (place : A → Place) (up : A → Option Entry → Option Entry) where
  -- each changes its place, one after another
  abbrev pub fold : Grid → List A → Grid
  fold grid [] = grid
  fold grid (x ∷ rest) = fold (with_entry grid (place x) (up x (entry_in grid (place x)))) rest

  -- what each needs when its turn comes
  abbrev pub Can : (A → Option Entry → Type 0) → Grid → List A → Type 0
  Can C grid [] = Unit {0}
  Can C grid (x ∷ rest) = C x (entry_in grid (place x)) × Can C (with_entry grid (place x) (up x (entry_in grid (place x)))) rest

  pub fold_other : (grid : Grid) (xs : List A) (p : Place) → is_among (map place xs) p ≡ false → entry_in (fold grid xs) p ≡ entry_in grid p
  fold_other grid [] p off = refl
  fold_other grid (x ∷ rest) p off =
      let n = or_parts (same_place p (place x)) (is_among (map place rest) p) off in
      let next = with_entry grid (place x) (up x (entry_in grid (place x))) in
      fold_other next rest p n.1 ∙ entry_other grid (place x) p (up x (entry_in grid (place x))) (differ p (place x) n.0)

  -- the one that changes a place
  pub record Changed (P : A → Type 0) (grid new : Grid) (p : Place) : Type 0 where
    pub it : A
    pub has : P it
    pub own : place it ≡ p
    pub entry : entry_in new p ≡ up it (entry_in grid p)

  pub fold_here : (P : A → Type 0) (grid : Grid) (xs : List A) (p : Place) → Each P xs → Each (λ (x : A). Writes grid (place x) (up x)) xs → AreApart (map place xs) → is_among (map place xs) p ≡ true
      → Changed P grid (fold grid xs) p
  fold_here P grid [] p has writes apart is = absurd (false≢true is)
  fold_here P grid (x ∷ rest) p has writes apart is =
      let next = with_entry grid (place x) (up x (entry_in grid (place x))) in
      elim (cases_place p (place x)) [
        | inl e ↦ record {
          it = x;
          has = has.0;
          own = sym e;
          entry = fold_other next rest p (ap (is_among (map place rest)) e ∙ apart.0)
              ∙ (ap (entry_in next) e ∙ entry_here grid (place x) (up x) writes.0 ∙ ap (λ (q : Place). up x (entry_in grid q)) (sym e));
        }
        | inr ne ↦
            let later = fold_here P next rest p has.1 (still grid x rest writes.1) apart.1 (among_rest p (place x) (map place rest) ne is) in
            record {
              it = later.it;
              has = later.has;
              own = later.own;
              entry = later.entry ∙ ap (up later.it) (entry_other grid (place x) p (up x (entry_in grid (place x))) ne);
            }
      ]
    where
      still : (grid : Grid) (x : A) (rest : List A) → Each (λ (y : A). Writes grid (place y) (up y)) rest → Each (λ (y : A). Writes (with_entry grid (place x) (up x (entry_in grid (place x)))) (place y) (up y)) rest
      still grid x [] w = tt
      still grid x (y ∷ more) w = (writes_kept grid (place x) (place y) (up x (entry_in grid (place x))) (up y) w.0, still grid x more w.1)

  -- what each needs at first it has when its turn comes
  moved : (C : A → Option Entry → Type 0) (grid : Grid) (x : A) (rest : List A) → is_among (map place rest) (place x) ≡ false → Each (λ (y : A). C y (entry_in grid (place y))) rest
      → Each (λ (y : A). C y (entry_in (with_entry grid (place x) (up x (entry_in grid (place x)))) (place y))) rest
  moved C grid x [] off each = tt
  moved C grid x (y ∷ more) off each =
      let n = or_parts (same_place (place x) (place y)) (is_among (map place more) (place x)) off in
      let ne : place y ≢ place x = λ e. differ (place x) (place y) n.0 (sym e) in
      (subst (C y) (sym (entry_other grid (place x) (place y) (up x (entry_in grid (place x))) ne)) each.0, moved C grid x more n.1 each.1)

  pub can_all : (C : A → Option Entry → Type 0) (grid : Grid) (xs : List A) → AreApart (map place xs) → Each (λ (y : A). C y (entry_in grid (place y))) xs → Can C grid xs
  can_all C grid [] apart each = tt
  can_all C grid (x ∷ rest) apart each =
      (each.0, can_all C (with_entry grid (place x) (up x (entry_in grid (place x)))) rest apart.1 (moved C grid x rest apart.0 each.1))
