-- The masked serial run: what is kept and touched, and that nothing gives nothing where nothing is.
use Rattle.std.proofs.Common.{◌≡◌, ℕ, zero, suc, ◌+◌, ◌-◌, ◌≤◌, ◌==◌, Bool, true, false, cond, not, ◌&&◌, ◌||◌, inl, inr, List, [], ◌∷◌, refl, arith, ap, sym, ◌∙◌, eq-eqb}
use Rattle.std.specs.List.{list_any}
use Rattle.std.proofs.lemmas.Bool.{and_from, and_parts, false≢true, false_from_ne_true, not_from_false, or_cases, or_left, or_parts, or_right, true≢false, true_from_ne_false}
use Rattle.sparse_rounds.specs.Kernels.{AreKernels, Kernels, SameParts, ghosts_of, own_pairs, pairs_of}
use Rattle.sparse_rounds.specs.Masked.{IsStart, Run, is_called, is_sent, kept_next, run_at, staged, touched}

pub if_true : {A : Type 0} (b : Bool) (x y : A) → b ≡ true → cond b x y ≡ x
if_true b x y e = ap (λ (v : Bool). cond v x y) e

pub if_false : {A : Type 0} (b : Bool) (x y : A) → b ≡ false → cond b x y ≡ y
if_false b x y e = ap (λ (v : Bool). cond v x y) e

-- tests that agree on what is there
pub any_in : {X : Type 0} (same : X → X → Bool) → ((x : X) → same x x ≡ true) → (q t : X → Bool) (xs : List X) → ((x : X) → list_any (same x) xs ≡ true → q x ≡ t x) → list_any q xs ≡ list_any t xs
any_in same is_same q t [] h = refl
any_in same is_same q t (x ∷ xs) h =
    ap (λ (v : Bool). v || list_any q xs) (h x (or_left (same x x) (list_any (same x) xs) (is_same x)))
    ∙ ap (λ (v : Bool). t x || v) (any_in same is_same q t xs (λ y k. h y (or_right (same y x) (list_any (same y) xs) k)))

-- one that is there and passes
pub any_there : {X : Type 0} (same : X → X → Bool) → ((x y : X) → same x y ≡ true → x ≡ y) → (q : X → Bool) (x : X) (xs : List X) → list_any (same x) xs ≡ true → q x ≡ true → list_any q xs ≡ true
any_there same same_is q x [] h k = absurd (false≢true h)
any_there same same_is q x (y ∷ ys) h k = elim (or_cases (same x y) (list_any (same x) ys) h) [
  | inl e ↦ or_left (q y) (list_any q ys) (ap q (sym (same_is x y e)) ∙ k)
  | inr e ↦ or_right (q y) (list_any q ys) (any_there same same_is q x ys e k)
]

module _ {X V G F P W : Type 0} (k : Kernels X V G F P W) (laws : AreKernels k) (start : Run V) (is : IsStart k start) where
  pub rest_zero : (n b f : ℕ) → (run_at k start n).kept b f ≡ false → (run_at k start n).mesh b f ≡ k.no_cells
  rest_zero zero b f h = is.rest_zero b f h
  rest_zero (suc n) b f h = if_false (kept_next k (run_at k start n) b f) (staged k (run_at k start n).mesh b f) k.no_cells h

  pub others_kept : (n b f : ℕ) → k.is_sparse f ≡ false → (run_at k start n).kept b f ≡ true
  others_kept zero b f h = is.others_kept b f h
  others_kept (suc n) b f h = or_left ((run_at k start n).kept b f) (is_called k (λ x. k.region x ((run_at k start n).mesh (k.from x) f)) b f) (others_kept n b f h)

  -- what calls is no blank
  not_blank : (x : X) (v : V) → k.calls (k.region x v) ≡ true → k.is_blank (k.region x v) ≡ false
  not_blank x v h = false_from_ne_true (k.is_blank (k.region x v)) (λ e. false≢true (sym (laws.none_calls_not x) ∙ sym (ap k.calls (laws.blank_is_none x v e)) ∙ h))

  any_sent : (mesh : ℕ → ℕ → V) (b f : ℕ) (xs : List X) → list_any (λ x. k.to x == b && k.calls (k.region x (mesh (k.from x) f))) xs ≡ true → list_any (λ x. k.to x == b && not (k.is_blank (k.region x (mesh (k.from x) f)))) xs ≡ true
  any_sent mesh b f [] h = h
  any_sent mesh b f (x ∷ xs) h = elim (or_cases (k.to x == b && k.calls (k.region x (mesh (k.from x) f))) (list_any (λ y. k.to y == b && k.calls (k.region y (mesh (k.from y) f))) xs) h) [
    | inl e ↦ (let p = and_parts (k.to x == b) (k.calls (k.region x (mesh (k.from x) f))) e in or_left (k.to x == b && not (k.is_blank (k.region x (mesh (k.from x) f)))) (list_any (λ y. k.to y == b && not (k.is_blank (k.region y (mesh (k.from y) f)))) xs)
        (and_from (k.to x == b) (not (k.is_blank (k.region x (mesh (k.from x) f)))) p.0 (not_from_false (k.is_blank (k.region x (mesh (k.from x) f))) (not_blank x (mesh (k.from x) f) p.1))))
    | inr e ↦ or_right (k.to x == b && not (k.is_blank (k.region x (mesh (k.from x) f)))) (list_any (λ y. k.to y == b && not (k.is_blank (k.region y (mesh (k.from y) f)))) xs) (any_sent mesh b f xs e)
  ]

  -- what is called for is touched
  called_touched : (mesh : ℕ → ℕ → V) (b f : ℕ) → is_called k (λ x. k.region x (mesh (k.from x) f)) b f ≡ true → (k.is_sparse f && (k.has_ghosts f && (k.flows_in b f || is_sent k mesh b f))) ≡ true
  called_touched mesh b f h =
      let sent = list_any (λ x. k.to x == b && k.calls (k.region x (mesh (k.from x) f))) k.ghost_due in
      let p = and_parts (k.is_sparse f) (k.has_ghosts f && (k.inflow_calls b f || sent)) h in
      let q = and_parts (k.has_ghosts f) (k.inflow_calls b f || sent) p.1 in
      and_from (k.is_sparse f) (k.has_ghosts f && (k.flows_in b f || is_sent k mesh b f)) p.0 (and_from (k.has_ghosts f) (k.flows_in b f || is_sent k mesh b f) q.0 (elim (or_cases (k.inflow_calls b f) sent q.1) [
        | inl e ↦ or_left (k.flows_in b f) (is_sent k mesh b f) (laws.calls_flow_in b f e)
        | inr e ↦ or_right (k.flows_in b f) (is_sent k mesh b f) (any_sent mesh b f k.ghost_due e)
      ]))

  pub kept_touched : (n b f : ℕ) → (run_at k start n).kept b f ≡ true → touched k start n b f ≡ true
  kept_touched zero b f h = h
  kept_touched (suc n) b f h = elim (or_cases ((run_at k start n).kept b f) (is_called k (λ x. k.region x ((run_at k start n).mesh (k.from x) f)) b f) h) [
    | inl e ↦ or_left (touched k start n b f) (k.is_sparse f && (k.has_ghosts f && (k.flows_in b f || is_sent k (run_at k start n).mesh b f))) (kept_touched n b f e)
    | inr e ↦ or_right (touched k start n b f) (k.is_sparse f && (k.has_ghosts f && (k.flows_in b f || is_sent k (run_at k start n).mesh b f))) (called_touched (run_at k start n).mesh b f e)
  ]

  pub unkept : (n b f : ℕ) → touched k start n b f ≡ false → (run_at k start n).kept b f ≡ false
  unkept n b f h = false_from_ne_true ((run_at k start n).kept b f) (λ e. true≢false (sym (kept_touched n b f e) ∙ h))

  pub untouched_zero : (n b f : ℕ) → touched k start n b f ≡ false → (run_at k start n).mesh b f ≡ k.no_cells
  untouched_zero n b f h = rest_zero n b f (unkept n b f h)

  pub touched_more : (n m b f : ℕ) → touched k start n b f ≡ true → touched k start (m + n) b f ≡ true
  touched_more n zero b f h = again (0 + n) n refl_zero h
    where
      refl_zero : 0 + n ≡ n
      refl_zero = omega arith

      again : (i j : ℕ) → i ≡ j → touched k start j b f ≡ true → touched k start i b f ≡ true
      again i j e g = ap (λ v. touched k start v b f) e ∙ g
  touched_more n (suc m) b f h = again (suc m + n) (suc (m + n)) one_more (or_left (touched k start (m + n) b f) (k.is_sparse f && (k.has_ghosts f && (k.flows_in b f || is_sent k (run_at k start (m + n)).mesh b f))) (touched_more n m b f h))
    where
      one_more : suc m + n ≡ suc (m + n)
      one_more = omega arith

      again : (i j : ℕ) → i ≡ j → touched k start j b f ≡ true → touched k start i b f ≡ true
      again i j e g = ap (λ v. touched k start v b f) e ∙ g

  pub touched_on : (n m b f : ℕ) → n ≤ m → touched k start n b f ≡ true → touched k start m b f ≡ true
  touched_on n m b f l h = ap (λ v. touched k start v b f) (split n m l) ∙ touched_more n (m - n) b f h
    where
      split : (n m : ℕ) → n ≤ m → m ≡ (m - n) + n
      split n m l = omega arith

  pub others_touched : (n b f : ℕ) → k.is_sparse f ≡ false → touched k start n b f ≡ true
  others_touched n b f h = kept_touched n b f (others_kept n b f h)

  pub untouched_sparse : (n b f : ℕ) → touched k start n b f ≡ false → k.is_sparse f ≡ true
  untouched_sparse n b f h = true_from_ne_false (k.is_sparse f) (λ e. true≢false (sym (others_touched n b f e) ∙ h))

  -- where nothing is sent, the parts that are due are no parts
  pub unsent_part : (mesh : ℕ → ℕ → V) (b f : ℕ) → is_sent k mesh b f ≡ false → SameParts k.same k.to k.ghost_due b (λ x. k.region x (mesh (k.from x) f)) k.no_part
  unsent_part mesh b f h x s = laws.blank_is_none x (mesh (k.from x) f) (true_from_ne_false (k.is_blank (k.region x (mesh (k.from x) f))) (λ e.
      true≢false (sym (any_there k.same laws.same_is (λ y. k.to y == b && not (k.is_blank (k.region y (mesh (k.from y) f)))) x k.ghost_due s.is_due
      (and_from (k.to x == b) (not (k.is_blank (k.region x (mesh (k.from x) f)))) (eq-eqb (k.to x) b s.is_to) (not_from_false (k.is_blank (k.region x (mesh (k.from x) f))) e))) ∙ h)))

  pub no_ghosts_from : (mesh : ℕ → ℕ → V) (b f : ℕ) → k.flows_in b f ≡ false → is_sent k mesh b f ≡ false → ghosts_of k mesh b f ≡ k.no_ghosts
  no_ghosts_from mesh b f e h = laws.ghosts_of_none b f (λ x. k.region x (mesh (k.from x) f)) e (unsent_part mesh b f h)

  -- what is still untouched after an exchange
  pub record Untouched (n b f : ℕ) : Type 0 where
    pub before : touched k start n b f ≡ false
    pub sparse : k.is_sparse f ≡ true
    pub quiet : k.has_ghosts f ≡ true → (k.flows_in b f ≡ false) × (is_sent k (run_at k start n).mesh b f ≡ false)

  pub untouched_is : (n b f : ℕ) → touched k start (suc n) b f ≡ false → Untouched n b f
  untouched_is n b f h =
      let p = or_parts (touched k start n b f) (k.is_sparse f && (k.has_ghosts f && (k.flows_in b f || is_sent k (run_at k start n).mesh b f))) h in
      record {
        before = p.0;
        sparse = untouched_sparse n b f p.0;
        quiet = λ g. or_parts (k.flows_in b f) (is_sent k (run_at k start n).mesh b f) (both (k.is_sparse f) (k.has_ghosts f) (k.flows_in b f || is_sent k (run_at k start n).mesh b f) (untouched_sparse n b f p.0) g p.1);
      }
    where
      both : (s g t : Bool) → s ≡ true → g ≡ true → (s && (g && t)) ≡ false → t ≡ false
      both true true t e d h = h
      both true false t e d h = absurd (false≢true d)
      both false g t e d h = absurd (false≢true e)

  pub no_ghosts_there : (n b f : ℕ) → touched k start (suc n) b f ≡ false → k.has_ghosts f ≡ true → ghosts_of k (run_at k start n).mesh b f ≡ k.no_ghosts
  no_ghosts_there n b f h g = let q = (untouched_is n b f h).quiet g in no_ghosts_from (run_at k start n).mesh b f q.0 q.1

  pub no_cells_there : (n b f : ℕ) → touched k start (suc n) b f ≡ false → (run_at k start n).mesh b f ≡ k.no_cells
  no_cells_there n b f h = untouched_zero n b f (untouched_is n b f h).before

  pub no_own_there : (n b f : ℕ) → touched k start (suc n) b f ≡ false → k.has_fluxes f ≡ true → own_pairs k (run_at k start n).mesh b f ≡ k.no_pairs
  no_own_there n b f h g =
      ap (λ v. k.fluxes b f v (ghosts_of k (run_at k start n).mesh b f)) (no_cells_there n b f h)
      ∙ ap (k.fluxes b f k.no_cells) (no_ghosts_there n b f h (laws.fluxes_need_ghosts f g)) ∙ laws.no_flux b f

  pub no_sums_there : (n b f : ℕ) → touched k start (suc n) b f ≡ false → k.has_fluxes f ≡ true → SameParts k.same k.to k.flux_due b (λ x. k.flux_sums x (own_pairs k (run_at k start n).mesh (k.from x) f)) k.no_part
  no_sums_there n b f h g = laws.sums_of_none (run_at k start n).mesh b f g (no_cells_there n b f h) (no_ghosts_there n b f h (laws.fluxes_need_ghosts f g))

  pub no_pairs_there : (n b f : ℕ) → touched k start (suc n) b f ≡ false → k.has_fluxes f ≡ true → pairs_of k (run_at k start n).mesh b f ≡ k.no_pairs
  no_pairs_there n b f h g =
      ap (λ v. k.corrected b f v (λ x. k.flux_sums x (own_pairs k (run_at k start n).mesh (k.from x) f))) (no_own_there n b f h g)
      ∙ laws.pairs_of_none b f (λ x. k.flux_sums x (own_pairs k (run_at k start n).mesh (k.from x) f)) (no_sums_there n b f h g)

  pub no_stage_there : (n b f : ℕ) → touched k start (suc n) b f ≡ false → k.has_fluxes f ≡ true → staged k (run_at k start n).mesh b f ≡ k.no_cells
  no_stage_there n b f h g =
      if_true (k.has_fluxes f) (k.update b f ((run_at k start n).mesh b f) (pairs_of k (run_at k start n).mesh b f)) ((run_at k start n).mesh b f) g
      ∙ ap (λ v. k.update b f v (pairs_of k (run_at k start n).mesh b f)) (no_cells_there n b f h) ∙ ap (k.update b f k.no_cells) (no_pairs_there n b f h g) ∙ laws.no_update b f
