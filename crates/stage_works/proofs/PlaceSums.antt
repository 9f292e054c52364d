-- Places that pass a test: what holds of each, and sums over them.
use Rattle.std.proofs.Common.{◌≡◌, ◌==◌, ℕ, zero, suc, ◌+◌, ◌<◌, ◌≤◌, Bool, true, false, cond, ◌&&◌, ◌||◌, List, [], ◌∷◌, ◌++◌, map, filter, length, refl, arith, ap, subst, sym, ◌∙◌, inl, inr}
use Rattle.std.specs.List.{flat_map, list_any, range_with_len, slice_index_or}
use Rattle.std.proofs.lemmas.Bool.{cases_eq, eq-eqb, ne_eqb}
use Rattle.sparse_pool.specs.declared.place.Place.{Place}
use Rattle.pack_cache.specs.Packs.{same_place}
use Rattle.mesh_rules.specs.Sums.{sum_over, sum_to}
use Rattle.mesh_laws.proofs.Grids.{sum_over-flat, sum_over-range, sum_zero}
use Rattle.mesh_laws.proofs.Totals.{sum_to-same}
use Rattle.sparse_rounds.specs.Epochs.{Size}
use Rattle.cycle_rounds.specs.Events.{Each}
use Rattle.cycle_events.specs.Places.{places_where}
use Rattle.lent_bufs.proofs.Keeps.{is_same, same_is}

abbrev pub at_place : ℕ → ℕ → Place
at_place b f = record { block = b; field = f }

-- each of them
each_append : (P : Place → Type 0) (xs ys : List Place) → Each P xs → Each P ys → Each P (xs ++ ys)
each_append P [] ys h k = k
each_append P (x ∷ xs) ys h k = (h.0, each_append P xs ys h.1 k)

each_field : (P : Place → Type 0) (test : ℕ → Bool) (b a n : ℕ) → ((f : ℕ) → f < a + n → test f ≡ true → P (at_place b f)) → Each P (map (at_place b) (filter test (range_with_len a n)))
each_field P test b a zero h = tt
each_field P test b a (suc n) h = by (test a) refl (each_field P test b (a + 1) n (λ f small passes. h f (omega arith) passes))
  where
    by : (t : Bool) → test a ≡ t → Each P (map (at_place b) (filter test (range_with_len (a + 1) n))) → Each P (map (at_place b) (cond t (a ∷ filter test (range_with_len (a + 1) n)) (filter test (range_with_len (a + 1) n))))
    by true e rest = (h a (omega arith) e, rest)
    by false e rest = rest

each_block : (P : Place → Type 0) (test : ℕ → ℕ → Bool) (fields a n : ℕ) → ((b f : ℕ) → b < a + n → f < fields → test b f ≡ true → P (at_place b f)) →
    Each P (flat_map (λ b. map (at_place b) (filter (test b) (range_with_len 0 fields))) (range_with_len a n))
each_block P test fields a zero h = tt
each_block P test fields a (suc n) h =
    each_append P (map (at_place a) (filter (test a) (range_with_len 0 fields))) (flat_map (λ b. map (at_place b) (filter (test b) (range_with_len 0 fields))) (range_with_len (a + 1) n))
    (each_field P (test a) a 0 fields (λ f small passes. h a f (omega arith) (omega arith) passes))
    (each_block P test fields (a + 1) n (λ b f low small passes. h b f (omega arith) small passes))

pub each_place : (P : Place → Type 0) (size : Size) (test : ℕ → ℕ → Bool) → ((b f : ℕ) → b < size.blocks → f < size.fields → test b f ≡ true → P (at_place b f)) → Each P (places_where size test)
each_place P size test h = each_block P test size.fields 0 size.blocks (λ b f low small passes. h b f (omega arith) small passes)

pub each_at : (P : Place → Type 0) (xs : List Place) (k : ℕ) (d : Place) → Each P xs → k < length xs → P (slice_index_or xs k d)
each_at P [] k d h small = absurd (omega arith)
each_at P (x ∷ xs) zero d h small = h.0
each_at P (x ∷ xs) (suc k) d h small = each_at P xs k d h.1 (omega arith)

-- sums over them
over_filtered : (g : Place → ℕ) (b : ℕ) (p : ℕ → Bool) (xs : List ℕ) → sum_over (map (at_place b) (filter p xs)) g ≡ sum_over xs (λ f. cond (p f) (g (at_place b f)) 0)
over_filtered g b p [] = refl
over_filtered g b p (x ∷ xs) = by (p x) ∙ ap (λ (v : ℕ). cond (p x) (g (at_place b x)) 0 + v) (over_filtered g b p xs)
  where
    by : (t : Bool) → sum_over (map (at_place b) (cond t (x ∷ filter p xs) (filter p xs))) g ≡ cond t (g (at_place b x)) 0 + sum_over (map (at_place b) (filter p xs)) g
    by true = refl
    by false = omega arith

pick : (n f : ℕ) (h : ℕ → ℕ) → f < n → sum_to n (λ i. cond (f == i) (h i) 0) ≡ h f
pick zero f h small = absurd (omega arith)
pick (suc n) f h small = elim (cases_eq f n) [
  | inl e ↦
      let a : sum_to n (λ i. cond (f == i) (h i) 0) ≡ 0 = sum_zero n (λ i. cond (f == i) (h i) 0) (λ i less. ap (λ (t : Bool). cond t (h i) 0) (ne_eqb f i (λ q. absurd (omega arith)))) in
      let b : cond (f == n) (h n) 0 ≡ h n = ap (λ (t : Bool). cond t (h n) 0) (eq-eqb f n e) in
      let d : h n ≡ h f = ap h (sym e) in
      omega arith
  | inr ne ↦
      let a : sum_to n (λ i. cond (f == i) (h i) 0) ≡ h f = pick n f h (omega arith) in
      let b : cond (f == n) (h n) 0 ≡ 0 = ap (λ (t : Bool). cond t (h n) 0) (ne_eqb f n ne) in
      omega arith
]

turned : (s t : Bool) (v : ℕ) → cond s (cond t v 0) 0 ≡ cond t (cond s v 0) 0
turned true t v = refl
turned false true v = refl
turned false false v = refl

pub field_of_places : (size : Size) (test : ℕ → ℕ → Bool) (f : ℕ) (g : ℕ → ℕ → ℕ) → f < size.fields →
    sum_over (places_where size test) (λ at. cond (f == at.field) (g at.block at.field) 0) ≡ sum_to size.blocks (λ b. cond (test b f) (g b f) 0)
field_of_places size test f g small =
    let each : Place → ℕ = λ at. cond (f == at.field) (g at.block at.field) 0 in
    let row : ℕ → ℕ = λ b. sum_over (map (at_place b) (filter (test b) (range_with_len 0 size.fields))) each in
    sum_over-flat (λ b. map (at_place b) (filter (test b) (range_with_len 0 size.fields))) (range_with_len 0 size.blocks) each
    ∙ sum_over-range 0 size.blocks row
    ∙ sum_to-same size.blocks (λ i. row (0 + i)) (λ b. cond (test b f) (g b f) 0) (λ i less.
    ap row (let e : 0 + i ≡ i = omega arith in e)
    ∙ over_filtered each i (test i) (range_with_len 0 size.fields)
    ∙ sum_over-range 0 size.fields (λ q. cond (test i q) (cond (f == q) (g i q) 0) 0)
    ∙ sum_to-same size.fields (λ q. cond (test i (0 + q)) (cond (f == (0 + q)) (g i (0 + q)) 0) 0) (λ q. cond (f == q) (cond (test i q) (g i q) 0) 0) (λ q few.
    ap (λ (v : ℕ). cond (test i v) (cond (f == v) (g i v) 0) 0) (let e : 0 + q ≡ q = omega arith in e) ∙ turned (test i q) (f == q) (g i q))
    ∙ pick size.fields f (λ q. cond (test i q) (g i q) 0) small)

-- a place is among those that pass a test exactly where it passes, if it is among them all
pub among_filtered : (p : Place → Bool) (at : Place) (xs : List Place) → list_any (same_place at) (filter p xs) ≡ (list_any (same_place at) xs && p at)
among_filtered p at [] = refl
among_filtered p at (x ∷ xs) = by (among_filtered p at xs) (p x) refl (same_place at x) refl
  where
    by : list_any (same_place at) (filter p xs) ≡ (list_any (same_place at) xs && p at) → (t : Bool) → p x ≡ t → (s : Bool) → same_place at x ≡ s → list_any (same_place at) (cond t (x ∷ filter p xs) (filter p xs)) ≡ ((s || list_any (same_place at) xs) && p at)
    by rest true e true g = ap (λ (v : Bool). v || list_any (same_place at) (filter p xs)) g ∙ sym (ap p (same_is at x g) ∙ e)
    by rest true e false g = ap (λ (v : Bool). v || list_any (same_place at) (filter p xs)) g ∙ rest
    by rest false e true g = rest ∙ never (list_any (same_place at) xs) (p at) (ap p (same_is at x g) ∙ e)
      where
        never : (u v : Bool) → v ≡ false → (u && v) ≡ v
        never true v h = refl
        never false v h = sym h
    by rest false e false g = rest

pub listed_any : (xs : List Place) (k : ℕ) (d : Place) → k < length xs → list_any (same_place (slice_index_or xs k d)) xs ≡ true
listed_any [] k d h = absurd (omega arith)
listed_any (x ∷ xs) zero d h = ap (λ (v : Bool). v || list_any (same_place x) xs) (is_same x)
listed_any (x ∷ xs) (suc k) d h = ap (λ (v : Bool). same_place (slice_index_or xs k d) x || v) (listed_any xs k d (omega arith)) ∙ last (same_place (slice_index_or xs k d) x)
  where
    last : (v : Bool) → (v || true) ≡ true
    last true = refl
    last false = refl
