-- Places by block and field: their order, and how many belong to a list.
use Rattle.std.proofs.Common.{◌≡◌, ℕ, zero, suc, ◌+◌, ◌<◌, ◌≤◌, Bool, true, false, cond, ◌&&◌, List, [], ◌∷◌, ◌++◌, map, filter, count_by, sum_by, refl, arith, ap, sym, ◌∙◌}
use Rattle.std.specs.List.{flat_map, range_with_len}
use Rattle.std.proofs.lemmas.List.Sums.{sum_by-cons}
use Rattle.cycle_rounds.proofs.Lists.{count_append, count_cons, none_if, same_if}
use Rattle.sparse_rounds.specs.Epochs.{Size}
use Rattle.sparse_pool.specs.declared.place.Place.{Place}
use Rattle.cycle_events.specs.Places.{places_where}

-- the places of a block
abbrev pub on_block : ℕ → ℕ → (ℕ → Bool) → List Place
on_block b fields test = map (λ f. record { block = b; field = f }) (filter test (range_with_len 0 fields))

-- how many places of some fields of a block pass a test
count_first : (q : Place → Bool) (b : ℕ) (test : ℕ → Bool) (f : ℕ) (fs : List ℕ) (v : Bool) → test f ≡ v →
    count_by q (map (λ f. record { block = b; field = f }) (filter test (f ∷ fs)))
    ≡ cond (test f && q (record { block = b; field = f })) 1 0 + count_by q (map (λ f. record { block = b; field = f }) (filter test fs))
count_first q b test f fs true e =
    ap (λ (v : Bool). count_by q (map (λ f. record { block = b; field = f }) (cond v (f ∷ filter test fs) (filter test fs)))) e
    ∙ (count_cons q (record { block = b; field = f }) (map (λ f. record { block = b; field = f }) (filter test fs))
    ∙ (let d = same_if (test f && q (record { block = b; field = f })) (q (record { block = b; field = f })) (ap (λ (v : Bool). v && q (record { block = b; field = f })) e) in omega arith))
count_first q b test f fs false e =
    ap (λ (v : Bool). count_by q (map (λ f. record { block = b; field = f }) (cond v (f ∷ filter test fs) (filter test fs)))) e
    ∙ (let d = none_if (test f && q (record { block = b; field = f })) (ap (λ (v : Bool). v && q (record { block = b; field = f })) e) in omega arith)

count_on : (q : Place → Bool) (b : ℕ) (test : ℕ → Bool) (fs : List ℕ) →
    count_by q (map (λ f. record { block = b; field = f }) (filter test fs)) ≡ count_by (λ f. test f && q (record { block = b; field = f })) fs
count_on q b test [] = refl
count_on q b test (f ∷ fs) =
    let first = count_first q b test f fs (test f) refl in
    let rest = count_on q b test fs in
    let all = count_cons (λ f. test f && q (record { block = b; field = f })) f fs in
    omega arith

-- how many places pass a test, block by block
pub count_places : (q : Place → Bool) (size : Size) (test : ℕ → ℕ → Bool) →
    count_by q (places_where size test) ≡ sum_by (λ b. count_by (λ f. test b f && q (record { block = b; field = f })) (range_with_len 0 size.fields)) (range_with_len 0 size.blocks)
count_places q size test = over (range_with_len 0 size.blocks)
  where
    over : (bs : List ℕ) → count_by q (flat_map (λ b. on_block b size.fields (test b)) bs)
        ≡ sum_by (λ b. count_by (λ f. test b f && q (record { block = b; field = f })) (range_with_len 0 size.fields)) bs
    over [] = refl
    over (b ∷ bs) =
        count_append q (on_block b size.fields (test b)) (flat_map (λ b. on_block b size.fields (test b)) bs)
        ∙ ((let a = count_on q b (test b) (range_with_len 0 size.fields) in let d = over bs in omega arith)
        ∙ sym (sum_by-cons (λ b. count_by (λ f. test b f && q (record { block = b; field = f })) (range_with_len 0 size.fields)) b bs))

-- a sum that is two others' term by term, or all zero
pub sum_of_two : (h f g : ℕ → ℕ) → ((i : ℕ) → h i ≡ f i + g i) → (xs : List ℕ) → sum_by h xs ≡ sum_by f xs + sum_by g xs
sum_of_two h f g e [] = refl
sum_of_two h f g e (x ∷ xs) =
    let a = sum_by-cons h x xs in let b = sum_by-cons f x xs in let d = sum_by-cons g x xs in let k = e x in let r = sum_of_two h f g e xs in omega arith

-- tests that agree have the same places
filter_same : (q t : ℕ → Bool) (a n : ℕ) → ((i : ℕ) → a ≤ i → i < a + n → q i ≡ t i) → filter q (range_with_len a n) ≡ filter t (range_with_len a n)
filter_same q t a zero h = refl
filter_same q t a (suc n) h =
    ap (λ (v : Bool). cond v (a ∷ filter q (range_with_len (a + 1) n)) (filter q (range_with_len (a + 1) n))) (h a (omega arith) (omega arith))
    ∙ ap (λ (v : List ℕ). cond (t a) (a ∷ v) v) (filter_same q t (a + 1) n (λ i low high. h i (omega arith) (omega arith)))

pub same_places : (size : Size) (q t : ℕ → ℕ → Bool) → ((b f : ℕ) → b < size.blocks → f < size.fields → q b f ≡ t b f) → places_where size q ≡ places_where size t
same_places size q t h = over 0 size.blocks (λ b f low high lower. h b f (omega arith) lower)
  where
    over : (a n : ℕ) → ((b f : ℕ) → a ≤ b → b < a + n → f < size.fields → q b f ≡ t b f) →
        flat_map (λ b. on_block b size.fields (q b)) (range_with_len a n) ≡ flat_map (λ b. on_block b size.fields (t b)) (range_with_len a n)
    over a zero e = refl
    over a (suc n) e =
        ap (λ (v : List ℕ). map (λ f. record { block = a; field = f }) v ++ flat_map (λ b. on_block b size.fields (q b)) (range_with_len (a + 1) n))
        (filter_same (q a) (t a) 0 size.fields (λ f low high. e a f (omega arith) (omega arith) (omega arith)))
        ∙ ap (λ (v : List Place). on_block a size.fields (t a) ++ v) (over (a + 1) n (λ b f low high lower. e b f (omega arith) (omega arith) lower))

-- a test that holds nowhere has none
pub no_places : (size : Size) (q : ℕ → ℕ → Bool) → ((b f : ℕ) → q b f ≡ false) → places_where size q ≡ []
no_places size q h = over (range_with_len 0 size.blocks)
  where
    none : (b : ℕ) (fs : List ℕ) → filter (q b) fs ≡ []
    none b [] = refl
    none b (f ∷ fs) = ap (λ (v : Bool). cond v (f ∷ filter (q b) fs) (filter (q b) fs)) (h b f) ∙ none b fs

    over : (bs : List ℕ) → flat_map (λ b. on_block b size.fields (q b)) bs ≡ []
    over [] = refl
    over (b ∷ bs) = ap (λ (v : List ℕ). map (λ f. record { block = b; field = f }) v ++ flat_map (λ b. on_block b size.fields (q b)) bs) (none b (range_with_len 0 size.fields)) ∙ over bs
