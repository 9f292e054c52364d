-- The set of ready lists, as a number is put in or taken out.
use Rattle.std.proofs.Common.{◌≡◌, ◌≢◌, ◌∙◌, sym, ap, subst, refl, inl, inr, ℕ, zero, suc, ◌+◌, ◌-◌, ◌<◌, ◌≤◌, Bool, true, false, cond, Option, Some, None, is_some, List, [], ◌∷◌, ◌++◌, length, map, replicate, take, slice_index_or, slice_set, count_by, arith}
use Rattle.std.proofs.Math.ListN.{get_or-map}
use Rattle.std.proofs.Math.Seq.{map-set_same}
use Rattle.std.proofs.lemmas.Bool.{cases_eq, cases_lt}
use Rattle.std.proofs.lemmas.List.{get_or-set_other, get_or-replicate, get_or-set_same, get_or-take, get_or_past, length-append, length-map, length-replicate, length-set, length-take-le, map-set, set-get_or}
use Rattle.std.proofs.lemmas.List.Sums.{count_by-le-length, sum_by-set}
use Rattle.cycle_tables.specs.Inside.{IsReadySet, key_of}
use Rattle.cycle_tables.proofs.Entries.{AtEnd, at_end, in_range, is_there, not_there, same_value, still_there, was_read}
use Rattle.cycle_tables.proofs.Entries.AtEnd.{before, here, past}

abbrev pub no_number : Option ℕ
no_number = None

-- how many numbers are in the set, once one place changed
one_place : (places : List (Option ℕ)) (n : ℕ) (o : Option ℕ) → n < length places → count_by is_some (slice_set places n o) + cond (is_some (key_of places n)) 1 0 ≡ count_by is_some places + cond (is_some o) 1 0
one_place places n o h = sum_by-set (λ (v : Option ℕ). cond (is_some v) 1 0) places n o None h

one : (o : Option ℕ) (k : ℕ) → o ≡ Some k → ◌≡◌ {A = ℕ} (cond (is_some o) 1 0) 1
one o k e = ap (λ (v : Option ℕ). cond (is_some v) 1 0) e

none : (o : Option ℕ) → o ≡ None → ◌≡◌ {A = ℕ} (cond (is_some o) 1 0) 0
none o e = ap (λ (v : Option ℕ). cond (is_some v) 1 0) e

-- what is in the set
pub flag_at : (places : List (Option ℕ)) (n : ℕ) → slice_index_or (map is_some places) n false ≡ is_some (key_of places n)
flag_at places n = get_or-map is_some places n None

-- a number that is put in has room
pub has_room : (places : List (Option ℕ)) (stack : List ℕ) (room n : ℕ) → IsReadySet places stack room → n < length places → key_of places n ≡ None → length stack < room
has_room places stack room n s h e =
    let a = one_place places n (Some 0) h in
    let b = none (key_of places n) e in
    let c = count_by-le-length is_some (slice_set places n (Some 0)) in
    let l : length (slice_set places n (Some 0)) ≡ length places = length-set places n (Some 0) in
    let d = s.counted in let r = s.bounded in
    omega arith

pub inserted : (places : List (Option ℕ)) (stack : List ℕ) (room n : ℕ) → IsReadySet places stack room → n < length places → key_of places n ≡ None → IsReadySet (slice_set places n (Some (length stack))) (stack ++ n ∷ []) room
inserted places stack room n s h free = record {
  stacked = λ i k e. stacked i k e;
  placed = λ k l. placed k l (at_end stack n 0 k);
  counted = (let a = one_place places n (Some (length stack)) h in let b = none (key_of places n) free in let c : length (stack ++ n ∷ []) ≡ length stack + 1 = length-append stack (n ∷ []) in let d = s.counted in omega arith);
  bounded = (let l : length (slice_set places n (Some (length stack))) ≡ length places = length-set places n (Some (length stack)) in let r = s.bounded in omega arith);
}
  where
    longer : length (stack ++ n ∷ []) ≡ length stack + 1
    longer = length-append stack (n ∷ [])

    here_is : slice_index_or (stack ++ n ∷ []) (length stack) 0 ≡ n
    here_is = by (at_end stack n 0 (length stack))
      where
        by : AtEnd stack n 0 (length stack) → slice_index_or (stack ++ n ∷ []) (length stack) 0 ≡ n
        by (before l e) = absurd (omega arith)
        by (here l e) = e
        by (past l e) = absurd (omega arith)

    old_is : (k : ℕ) → k < length stack → slice_index_or (stack ++ n ∷ []) k 0 ≡ slice_index_or stack k 0
    old_is k h = by (at_end stack n 0 k)
      where
        by : AtEnd stack n 0 k → slice_index_or (stack ++ n ∷ []) k 0 ≡ slice_index_or stack k 0
        by (before l e) = e
        by (here l e) = absurd (omega arith)
        by (past l e) = absurd (omega arith)

    stacked : (i k : ℕ) → key_of (slice_set places n (Some (length stack))) i ≡ Some k → (k < length (stack ++ n ∷ [])) × (slice_index_or (stack ++ n ∷ []) k 0 ≡ i)
    stacked i k e = elim (cases_eq i n) [
      | inl same ↦ (
          let at : length stack ≡ k = same_value (length stack) k (sym (get_or-set_same places n (Some (length stack)) None h) ∙ ap (λ j. key_of (slice_set places n (Some (length stack))) j) (sym same) ∙ e) in
          let l = longer in (omega arith, ap (λ j. slice_index_or (stack ++ n ∷ []) j 0) (sym at) ∙ here_is ∙ sym same))
      | inr ne ↦ (
          let o = s.stacked i k (sym (get_or-set_other places n i (Some (length stack)) None ne) ∙ e) in
          let low = o.0 in let l = longer in (omega arith, old_is k low ∙ o.1))
    ]

    placed : (k : ℕ) → k < length (stack ++ n ∷ []) → AtEnd stack n 0 k → key_of (slice_set places n (Some (length stack))) (slice_index_or (stack ++ n ∷ []) k 0) ≡ Some k
    placed k l (before low e) =
        let was = s.placed k low in
        let other : slice_index_or stack k 0 ≢ n = λ same. not_there k (sym free ∙ ap (key_of places) (sym same) ∙ was) in
        ap (key_of (slice_set places n (Some (length stack)))) e ∙ get_or-set_other places n (slice_index_or stack k 0) (Some (length stack)) None other ∙ was
    placed k l (here at e) = ap (key_of (slice_set places n (Some (length stack)))) e ∙ get_or-set_same places n (Some (length stack)) None h ∙ ap (λ (j : ℕ). Some j) (sym at)
    placed k l (past high e) = absurd (let m = longer in omega arith)

pub inserted_flags : (places : List (Option ℕ)) (n k : ℕ) → map is_some (slice_set places n (Some k)) ≡ slice_set (map is_some places) n true
inserted_flags places n k = map-set is_some places n (Some k)

-- the last number of the stack comes to the place of one that is taken out
module _ (places : List (Option ℕ)) (stack : List ℕ) (room n place : ℕ) (s : IsReadySet places stack room) (is : key_of places n ≡ Some place) where
  abbrev last : ℕ
  last = length stack - 1

  abbrev moved : ℕ
  moved = slice_index_or stack last 0

  abbrev places1 : List (Option ℕ)
  places1 = slice_set places moved (Some place)

  abbrev places2 : List (Option ℕ)
  places2 = slice_set places1 n None

  abbrev stack1 : List ℕ
  stack1 = slice_set stack place moved

  n_in : n < length places
  n_in = in_range places n place is

  place_in : place < length stack
  place_in = (s.stacked n place is).0

  n_at : slice_index_or stack place 0 ≡ n
  n_at = (s.stacked n place is).1

  moved_at : key_of places moved ≡ Some last
  moved_at = s.placed last (let h = place_in in omega arith)

  pub moved_in : moved < length places
  moved_in = in_range places moved last moved_at

  same_length : length places2 ≡ length places
  same_length = length-set places1 n None ∙ length-set places moved (Some place)

  -- another number than the one that is taken out
  kept : (i k : ℕ) → key_of places2 i ≡ Some k → (i ≢ n) × (key_of places1 i ≡ Some k)
  kept i k e = still_there places1 n i k e

  stacked2 : (i k : ℕ) → key_of places2 i ≡ Some k → (k < last) × (slice_index_or stack1 k 0 ≡ i)
  stacked2 i k e = elim (cases_eq i moved) [
    | inl same ↦ (
        let at : place ≡ k = same_value place k (sym (get_or-set_same places moved (Some place) None moved_in) ∙ ap (key_of places1) (sym same) ∙ (kept i k e).1) in
        let ne : place ≢ last = λ l. (kept i k e).0 (same ∙ ap (λ j. slice_index_or stack j 0) (sym l) ∙ n_at) in
        let p = place_in in (omega arith, ap (λ j. slice_index_or stack1 j 0) (sym at) ∙ get_or-set_same stack place moved 0 p ∙ sym same))
    | inr ne ↦ (
        let o = s.stacked i k (sym (get_or-set_other places moved i (Some place) None ne) ∙ (kept i k e).1) in
        let low = o.0 in
        let not_last : k ≢ last = λ l. ne (sym o.1 ∙ ap (λ j. slice_index_or stack j 0) l) in
        let not_place : k ≢ place = λ l. (kept i k e).0 (sym o.1 ∙ ap (λ j. slice_index_or stack j 0) l ∙ n_at) in
        (omega arith, get_or-set_other stack place k moved 0 not_place ∙ o.1))
  ]

  placed2 : (k : ℕ) → k < last → key_of places2 (slice_index_or stack1 k 0) ≡ Some k
  placed2 k low = elim (cases_eq k place) [
    | inl same ↦ (
        let at : slice_index_or stack1 k 0 ≡ moved = ap (λ j. slice_index_or stack1 j 0) same ∙ get_or-set_same stack place moved 0 place_in in
        let ne : moved ≢ n = λ e. (let l : last ≡ place = same_value last place (sym moved_at ∙ ap (key_of places) e ∙ is) in omega arith) in
        ap (key_of places2) at ∙ get_or-set_other places1 n moved None None ne ∙ get_or-set_same places moved (Some place) None moved_in ∙ ap (λ (j : ℕ). Some j) (sym same))
    | inr ne ↦ (
        let at : slice_index_or stack1 k 0 ≡ slice_index_or stack k 0 = get_or-set_other stack place k moved 0 ne in
        let was = s.placed k (omega arith) in
        let not_n : slice_index_or stack k 0 ≢ n = λ e. ne (same_value k place (sym was ∙ ap (key_of places) e ∙ is)) in
        let not_moved : slice_index_or stack k 0 ≢ moved = λ e. (let l : k ≡ last = same_value k last (sym was ∙ ap (key_of places) e ∙ moved_at) in omega arith) in
        ap (key_of places2) at ∙ get_or-set_other places1 n (slice_index_or stack k 0) None None not_n ∙ get_or-set_other places moved (slice_index_or stack k 0) (Some place) None not_moved ∙ was)
  ]

  n_there : (k : ℕ) × (key_of places1 n ≡ Some k)
  n_there = elim (cases_eq n moved) [
    | inl same ↦ (place, ap (key_of places1) same ∙ get_or-set_same places moved (Some place) None moved_in)
    | inr ne ↦ (place, get_or-set_other places moved n (Some place) None ne ∙ is)
  ]

  pub removed : IsReadySet places2 (take last stack1) room
  removed = record {
    stacked = λ i k e. (let o = stacked2 i k e in let h = o.0 in let l = taken_length in (omega arith, get_or-take last stack1 k 0 h ∙ o.1));
    placed = λ k h. (let l = taken_length in let low : k < last = omega arith in ap (key_of places2) (get_or-take last stack1 k 0 low) ∙ placed2 k low);
    counted = (
        let a = one_place places moved (Some place) moved_in in
        let b = one (key_of places moved) last moved_at in
        let l : length places1 ≡ length places = length-set places moved (Some place) in
        let h = n_in in
        let c = one_place places1 n None (omega arith) in
        let d = one (key_of places1 n) n_there.0 n_there.1 in
        let t = taken_length in let e = s.counted in let p = place_in in
        omega arith);
    bounded = (let l = same_length in let r = s.bounded in omega arith);
  }
    where
      taken_length : length (take last stack1) ≡ last
      taken_length = length-take-le last stack1 (let l : length stack1 ≡ length stack = length-set stack place moved in omega arith)

  pub removed_flags : map is_some places2 ≡ slice_set (map is_some places) n false
  removed_flags =
      map-set is_some places1 n None
      ∙ ap (λ (fs : List Bool). slice_set fs n false) (map-set_same is_some places moved (Some place) None (sym (is_there (key_of places moved) last moved_at)))

-- the same in the words of the code: the length of the stack, and the last number as it was read
pub record Removed (places : List (Option ℕ)) (stack : List ℕ) (room n place len m : ℕ) : Type 0 where
  pub in_stack : place < length stack
  pub in_places : m < length places
  pub set : IsReadySet (slice_set (slice_set places m (Some place)) n None) (take (len - 1) (slice_set stack place m)) room
  pub flags : map is_some (slice_set (slice_set places m (Some place)) n None) ≡ slice_set (map is_some places) n false

pub removed_is : (places : List (Option ℕ)) (stack : List ℕ) (room n place len m : ℕ) → IsReadySet places stack room → key_of places n ≡ Some place → len ≡ length stack → m ≡ slice_index_or stack (len - 1) m → Removed places stack room n place len m
removed_is places stack room n place len m s is e read =
    let low : place < length stack = (s.stacked n place is).0 in
    let at : slice_index_or stack (len - 1) 0 ≡ m = was_read stack (len - 1) m 0 (omega arith) read in
    subst (λ j. Removed places stack room n place len j) at (subst (λ l. Removed places stack room n place l (slice_index_or stack (l - 1) 0)) (sym e) (record {
      in_stack = low;
      in_places = moved_in places stack room n place s is;
      set = removed places stack room n place s is;
      flags = removed_flags places stack room n place s is;
    }))

-- a number that is in the set, or out of it, as it is to be
pub flag_kept : (places : List (Option ℕ)) (n : ℕ) (b : Bool) → is_some (key_of places n) ≡ b → map is_some places ≡ slice_set (map is_some places) n b
flag_kept places n b h = sym (ap (λ (v : Bool). slice_set (map is_some places) n v) (sym (flag_at places n ∙ h)) ∙ set-get_or (map is_some places) n false)

-- some number of the set, or none where it is empty
pub some_flag : (places : List (Option ℕ)) (stack : List ℕ) (room k : ℕ) → IsReadySet places stack room → k < length stack → slice_index_or (map is_some places) (slice_index_or stack k 0) false ≡ true
some_flag places stack room k s h = flag_at places (slice_index_or stack k 0) ∙ is_there (key_of places (slice_index_or stack k 0)) k (s.placed k h)

pub no_flag : (places : List (Option ℕ)) (stack : List ℕ) (room : ℕ) → IsReadySet places stack room → length stack ≡ 0 → (i : ℕ) → slice_index_or (map is_some places) i false ≡ false
no_flag places stack room s e i = flag_at places i ∙ by (key_of places i) refl
  where
    by : (o : Option ℕ) → key_of places i ≡ o → is_some o ≡ false
    by None h = refl
    by (Some k) h = absurd (let low = (s.stacked i k h).0 in omega arith)

-- the set of no number
pub no_places : (n room : ℕ) → n ≤ room → IsReadySet (replicate n None) [] room
no_places n room h = record {
  stacked = λ i k e. absurd (not_there k (sym (nowhere i) ∙ e));
  placed = λ k l. absurd (omega arith);
  counted = none_counted n;
  bounded = (let l : length (replicate n no_number) ≡ n = length-replicate n no_number in omega arith);
}
  where
    nowhere : (i : ℕ) → key_of (replicate n None) i ≡ None
    nowhere i = elim (cases_lt i n) [ inl low ↦ get_or-replicate n i None None low | inr high ↦ get_or_past (replicate n None) i None (let l : length (replicate n no_number) ≡ n = length-replicate n no_number in omega arith) ]

    none_counted : (m : ℕ) → 0 ≡ count_by is_some (replicate m no_number)
    none_counted zero = refl
    none_counted (suc m) = none_counted m

pub no_flags : (n : ℕ) → map is_some (replicate n no_number) ≡ replicate n false
no_flags zero = refl
no_flags (suc n) = ap (λ (fs : List Bool). false ∷ fs) (no_flags n)

-- a number below the bound has a place
pub number_in : (places : List (Option ℕ)) (n : ℕ) (flags : List Bool) → map is_some places ≡ flags → n < length flags → n < length places
number_in places n flags e h = let l : length (map is_some places) ≡ length places = length-map places is_some in let m : length (map is_some places) ≡ length flags = ap (λ (v : List Bool). length v) e in omega arith

-- the same set, in other words
pub same_set : (places : List (Option ℕ)) (stack other : List ℕ) (room more : ℕ) → other ≡ stack → more ≡ room → IsReadySet places stack room → IsReadySet places other more
same_set places stack other room more e f s = subst (λ xs. IsReadySet places xs more) (sym e) (subst (λ r. IsReadySet places stack r) (sym f) s)

pub inserted_is : (places : List (Option ℕ)) (stack other : List ℕ) (room more n len : ℕ) → IsReadySet places stack room → n < length places → key_of places n ≡ None → len ≡ length stack → other ≡ stack ++ n ∷ [] → more ≡ room → IsReadySet (slice_set places n (Some len)) other more
inserted_is places stack other room more n len s h free e f k =
    same_set (slice_set places n (Some len)) (stack ++ n ∷ []) other room more f k (subst (λ l. IsReadySet (slice_set places n (Some l)) (stack ++ n ∷ []) room) (sym e) (inserted places stack room n s h free))

pub first_flag : (places : List (Option ℕ)) (stack : List ℕ) (room len i : ℕ) → IsReadySet places stack room → len ≡ length stack → 0 < len → i ≡ slice_index_or stack (len - 1) i → slice_index_or (map is_some places) i false ≡ true
first_flag places stack room len i s e h read =
    subst (λ j. slice_index_or (map is_some places) j false ≡ true) (was_read stack (len - 1) i 0 (omega arith) read) (some_flag places stack room (len - 1) s (omega arith))
