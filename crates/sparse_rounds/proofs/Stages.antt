-- The work of a stage's tasks keeps the agreement with the masked run.
use Rattle.std.proofs.Common.{◌≡◌, ℕ, suc, ◌+◌, ◌<◌, ◌==◌, Bool, true, false, cond, ◌&&◌, ◌||◌, inl, inr, Some, is_some, refl, arith, ap, sym, ◌∙◌}
use Rattle.std.specs.List.{list_any}
use Rattle.std.proofs.lemmas.Bool.{and_from, and_parts, eqb-true, false≢true, false_from_ne_true, or_cases, or_left, or_parts, or_right, true≢false}
use Rattle.sparse_rounds.specs.Kernels.{AreKernels, Kernels, SameParts, ghosts_of, own_pairs, pairs_of}
use Rattle.sparse_rounds.specs.Masked.{IsStart, Run, is_called, is_sent, kept_next, run_at, staged, touched}
use Rattle.sparse_rounds.specs.Sparse.{Buf, Local, filled, fixed, fluxed, free, nothing, read, updated, updated_cells}
use Rattle.sparse_rounds.specs.Agreement.{StageAgrees, WasAbsent}
use Rattle.sparse_rounds.proofs.Runs.{any_in, if_false, if_true, no_cells_there, no_ghosts_from, no_own_there, no_pairs_there, no_stage_there, rest_zero, touched_on, unkept, untouched_sparse, untouched_zero}

-- what a lease says of one place, with the flag of its task
pub record Lent {X V G F P W : Type 0} (k : Kernels X V G F P W) (start : Run V) (n j : ℕ) (flag : Bool) (l : Local V G F W) (b f : ℕ) : Type 0 where
  pub lent : l.leased b f ≡ true → (is_some (l.bufs b f) ≡ true) × (flag ≡ true)
  pub rest : l.leased b f ≡ false → flag ≡ true → WasAbsent k start n j l b f

module _ {X V G F P W : Type 0} (k : Kernels X V G F P W) (laws : AreKernels k) (start : Run V) (is : IsStart k start) (n : ℕ) (l : Local V G F W) (b f : ℕ) where
  -- to send, and to post
  pub send_agrees : StageAgrees k start n 0 l b f → StageAgrees k start n 1 (free l) b f
  send_agrees h = let s = h.sums in record {
    cells = h.cells;
    ghosts = λ t. absurd (omega arith);
    own_pairs = λ t. absurd (omega arith);
    pairs = λ t. absurd (omega arith);
    kept = λ t. h.kept (omega arith);
    kept_filled = λ t. absurd (omega arith);
    sums = record { idle = s.idle; dropped = s.dropped; inflow = s.inflow; outflow = s.outflow; made = s.made; used = s.used };
    there = λ t. h.there (omega arith);
    there_filled = λ t. absurd (omega arith);
    only_there = h.only_there;
  }

  pub post_agrees : StageAgrees k start n 3 l b f → StageAgrees k start n 4 (free l) b f
  post_agrees h = let s = h.sums in record {
    cells = h.cells;
    ghosts = λ t. h.ghosts (omega arith);
    own_pairs = λ t u. h.own_pairs (omega arith) (omega arith);
    pairs = λ t. absurd (omega arith);
    kept = λ t. absurd (omega arith);
    kept_filled = λ t. h.kept_filled (omega arith);
    sums = record { idle = s.idle; dropped = s.dropped; inflow = s.inflow; outflow = s.outflow; made = s.made; used = s.used };
    there = λ t. absurd (omega arith);
    there_filled = λ t. h.there_filled (omega arith);
    only_there = h.only_there;
  }

  -- to fill
  abbrev flows_here : Bool
  flows_here = k.is_sparse f && (k.has_ghosts f && k.flows_in b f)

  fill_cells : StageAgrees k start n 1 l b f → Lent k start n 1 (k.has_ghosts f) l b f → (g : G) (lent flows : Bool) → l.leased b f ≡ lent → (k.is_sparse f && (k.has_ghosts f && k.flows_in b f)) ≡ flows →
      (read k (cond (lent || flows) (Some (record (cond lent (read k (l.bufs b f)) (nothing k)) { ghosts = g })) (l.bufs b f))).cells ≡ (run_at k start n).mesh b f
  fill_cells h t g true flows e d = h.cells
  fill_cells h t g false true e d =
      let p = and_parts (k.is_sparse f) (k.has_ghosts f && k.flows_in b f) d in
      let q = and_parts (k.has_ghosts f) (k.flows_in b f) p.1 in
      sym (untouched_zero k laws start is n b f ((t.rest e q.0).untouched (omega arith)))
  fill_cells h t g false false e d = h.cells

  -- nothing flows in where a place that was absent is not made
  no_inflow_there : touched k start n b f ≡ false → k.has_ghosts f ≡ true → (k.is_sparse f && (k.has_ghosts f && k.flows_in b f)) ≡ false → k.flows_in b f ≡ false
  no_inflow_there u g d = false_from_ne_true (k.flows_in b f) (λ e. true≢false (sym (and_from (k.is_sparse f) (k.has_ghosts f && k.flows_in b f) (untouched_sparse k laws start is n b f u) (and_from (k.has_ghosts f) (k.flows_in b f) g e)) ∙ d))

  fill_ghosts : Lent k start n 1 (k.has_ghosts f) l b f → k.has_ghosts f ≡ true → (g : G) → g ≡ ghosts_of k (run_at k start n).mesh b f → (lent flows : Bool) → l.leased b f ≡ lent → (k.is_sparse f && (k.has_ghosts f && k.flows_in b f)) ≡ flows →
      (read k (cond (lent || flows) (Some (record (cond lent (read k (l.bufs b f)) (nothing k)) { ghosts = g })) (l.bufs b f))).ghosts ≡ ghosts_of k (run_at k start n).mesh b f
  fill_ghosts t has g right true flows e d = right
  fill_ghosts t has g right false true e d = right
  fill_ghosts t has g right false false e d =
      let a = t.rest e has in
      let u = a.untouched (omega arith) in
      a.ghosts ∙ sym (no_ghosts_from k laws start is (run_at k start n).mesh b f (no_inflow_there u has d) (a.unsent refl))

  called_same_by : (c d : X → P) → (k.has_ghosts f ≡ true → SameParts k.same k.to k.ghost_due b c d) → (has : Bool) → k.has_ghosts f ≡ has →
      (k.is_sparse f && (has && (k.inflow_calls b f || list_any (λ x. k.to x == b && k.calls (c x)) k.ghost_due))) ≡ (k.is_sparse f && (has && (k.inflow_calls b f || list_any (λ x. k.to x == b && k.calls (d x)) k.ghost_due)))
  called_same_by c d h false e = refl
  called_same_by c d h true e = ap (λ (v : Bool). k.is_sparse f && (k.inflow_calls b f || v)) (any_in k.same laws.is_same (λ x. k.to x == b && k.calls (c x)) (λ x. k.to x == b && k.calls (d x)) k.ghost_due (λ x due. part x due (k.to x == b) refl))
    where
      part : (x : X) → list_any (k.same x) k.ghost_due ≡ true → (to : Bool) → (k.to x == b) ≡ to → (to && k.calls (c x)) ≡ (to && k.calls (d x))
      part x due true g = ap k.calls (h e x (record { is_due = due; is_to = eqb-true (k.to x) b g }))
      part x due false g = refl

  called_same : (c d : X → P) → (k.has_ghosts f ≡ true → SameParts k.same k.to k.ghost_due b c d) → is_called k c b f ≡ is_called k d b f
  called_same c d h = called_same_by c d h (k.has_ghosts f) refl

  fill_there : StageAgrees k start n 1 l b f → Lent k start n 1 (k.has_ghosts f) l b f → touched k start (suc n) b f ≡ true → (u : Buf V G F) (lent flows : Bool) → l.leased b f ≡ lent → (k.is_sparse f && (k.has_ghosts f && k.flows_in b f)) ≡ flows → is_some (cond (lent || flows) (Some u) (l.bufs b f)) ≡ true
  fill_there h t is_touched u true flows e d = refl
  fill_there h t is_touched u false true e d = refl
  fill_there h t is_touched u false false e d = elim (or_cases (touched k start n b f) (k.is_sparse f && (k.has_ghosts f && (k.flows_in b f || is_sent k (run_at k start n).mesh b f))) is_touched) [
    | inl old ↦ h.there (omega arith) old
    | inr new ↦ (
        let p = and_parts (k.is_sparse f) (k.has_ghosts f && (k.flows_in b f || is_sent k (run_at k start n).mesh b f)) new in
        let q = and_parts (k.has_ghosts f) (k.flows_in b f || is_sent k (run_at k start n).mesh b f) p.1 in
        elim (or_cases (k.flows_in b f) (is_sent k (run_at k start n).mesh b f) q.1) [
          | inl v ↦ absurd (true≢false (sym (and_from (k.is_sparse f) (k.has_ghosts f && k.flows_in b f) p.0 (and_from (k.has_ghosts f) (k.flows_in b f) q.0 v)) ∙ d))
          | inr v ↦ absurd (true≢false (sym v ∙ (t.rest e q.0).unsent refl))
        ])
  ]

  fill_only : n < k.stages → StageAgrees k start n 1 l b f → Lent k start n 1 (k.has_ghosts f) l b f → (u : Buf V G F) (lent flows : Bool) → l.leased b f ≡ lent → (k.is_sparse f && (k.has_ghosts f && k.flows_in b f)) ≡ flows → is_some (cond (lent || flows) (Some u) (l.bufs b f)) ≡ true → touched k start k.stages b f ≡ true
  fill_only low h t u true flows e d some = h.only_there (t.lent e).0
  fill_only low h t u false true e d some =
      let p = and_parts (k.is_sparse f) (k.has_ghosts f && k.flows_in b f) d in
      let q = and_parts (k.has_ghosts f) (k.flows_in b f) p.1 in
      touched_on k laws start is (suc n) k.stages b f low (or_right (touched k start n b f) (k.is_sparse f && (k.has_ghosts f && (k.flows_in b f || is_sent k (run_at k start n).mesh b f)))
      (and_from (k.is_sparse f) (k.has_ghosts f && (k.flows_in b f || is_sent k (run_at k start n).mesh b f)) p.0 (and_from (k.has_ghosts f) (k.flows_in b f || is_sent k (run_at k start n).mesh b f) q.0 (or_left (k.flows_in b f) (is_sent k (run_at k start n).mesh b f) q.1))))
  fill_only low h t u false false e d some = h.only_there some

  pub fill_agrees : n < k.stages → (content : X → ℕ → P) → (k.has_ghosts f ≡ true → SameParts k.same k.to k.ghost_due b (λ x. content x f) (λ x. k.region x ((run_at k start n).mesh (k.from x) f))) → StageAgrees k start n 1 l b f → Lent k start n 1 (k.has_ghosts f) l b f → StageAgrees k start n 2 (filled k content l) b f
  fill_agrees low content parts h t = let s = h.sums in record {
    cells = fill_cells h t (k.ghosts b f (λ x. content x f)) (l.leased b f) flows_here refl refl;
    ghosts = λ _ has. fill_ghosts t has (k.ghosts b f (λ x. content x f)) (laws.ghosts_read b f (λ x. content x f) (λ x. k.region x ((run_at k start n).mesh (k.from x) f)) (parts has)) (l.leased b f) flows_here refl refl;
    own_pairs = λ t. absurd (omega arith);
    pairs = λ t. absurd (omega arith);
    kept = λ t. absurd (omega arith);
    kept_filled = λ _. ap (λ (v : Bool). v || is_called k (λ x. content x f) b f) (h.kept (omega arith)) ∙ ap (λ (v : Bool). (run_at k start n).kept b f || v) (called_same (λ x. content x f) (λ x. k.region x ((run_at k start n).mesh (k.from x) f)) parts);
    sums = record { idle = s.idle; dropped = s.dropped; inflow = s.inflow; outflow = s.outflow; made = s.made; used = s.used };
    there = λ t. absurd (omega arith);
    there_filled = λ _ is_touched. fill_there h t is_touched (record (cond (l.leased b f) (read k (l.bufs b f)) (nothing k)) { ghosts = k.ghosts b f (λ x. content x f) }) (l.leased b f) flows_here refl refl;
    only_there = fill_only low h t (record (cond (l.leased b f) (read k (l.bufs b f)) (nothing k)) { ghosts = k.ghosts b f (λ x. content x f) }) (l.leased b f) flows_here refl refl;
  }

  -- a place whose pairs are written
  written_cells : (pairs : F) (lent : Bool) → (read k (cond lent (Some (record (read k (l.bufs b f)) { pairs = pairs })) (l.bufs b f))).cells ≡ (read k (l.bufs b f)).cells
  written_cells pairs true = refl
  written_cells pairs false = refl

  written_ghosts : (pairs : F) (lent : Bool) → (read k (cond lent (Some (record (read k (l.bufs b f)) { pairs = pairs })) (l.bufs b f))).ghosts ≡ (read k (l.bufs b f)).ghosts
  written_ghosts pairs true = refl
  written_ghosts pairs false = refl

  written_pairs : (pairs right : F) (lent : Bool) → (lent ≡ true → pairs ≡ right) → (lent ≡ false → (read k (l.bufs b f)).pairs ≡ right) → (read k (cond lent (Some (record (read k (l.bufs b f)) { pairs = pairs })) (l.bufs b f))).pairs ≡ right
  written_pairs pairs right true e d = e refl
  written_pairs pairs right false e d = d refl

  written_there : (u : Buf V G F) (lent : Bool) → is_some (l.bufs b f) ≡ true → is_some (cond lent (Some u) (l.bufs b f)) ≡ true
  written_there u true h = refl
  written_there u false h = h

  written_only : (u : Buf V G F) (lent : Bool) → (lent ≡ true → is_some (l.bufs b f) ≡ true) → is_some (cond lent (Some u) (l.bufs b f)) ≡ true → is_some (l.bufs b f) ≡ true
  written_only u true e h = e refl
  written_only u false e h = h

  -- to compute fluxes
  pub flux_agrees : StageAgrees k start n 2 l b f → Lent k start n 2 (k.has_fluxes f) l b f → StageAgrees k start n 3 (fluxed k l) b f
  flux_agrees h t = let s = h.sums in record {
    cells = written_cells mine (l.leased b f) ∙ h.cells;
    ghosts = λ _ has. written_ghosts mine (l.leased b f) ∙ h.ghosts (omega arith) has;
    own_pairs = λ _ _ has. written_pairs mine (own_pairs k (run_at k start n).mesh b f) (l.leased b f)
        (λ _. ap (λ v. k.fluxes b f v (read k (l.bufs b f)).ghosts) h.cells ∙ ap (k.fluxes b f ((run_at k start n).mesh b f)) (h.ghosts (omega arith) (laws.fluxes_need_ghosts f has)))
        (λ e. (t.rest e has).pairs ∙ sym (no_own_there k laws start is n b f ((t.rest e has).untouched_filled (omega arith)) has));
    pairs = λ t. absurd (omega arith);
    kept = λ t. absurd (omega arith);
    kept_filled = λ _. h.kept_filled (omega arith);
    sums = record { idle = s.idle; dropped = s.dropped; inflow = s.inflow; outflow = s.outflow; made = s.made; used = s.used };
    there = λ t. absurd (omega arith);
    there_filled = λ _ u. written_there (record (read k (l.bufs b f)) { pairs = mine }) (l.leased b f) (h.there_filled (omega arith) u);
    only_there = λ some. h.only_there (written_only (record (read k (l.bufs b f)) { pairs = mine }) (l.leased b f) (λ e. (t.lent e).0) some);
  }
    where
      mine : F
      mine = k.fluxes b f (read k (l.bufs b f)).cells (read k (l.bufs b f)).ghosts

  -- to correct them
  pub fix_agrees : (content : X → ℕ → P) → (k.has_fluxes f ≡ true → SameParts k.same k.to k.flux_due b (λ x. content x f) (λ x. k.flux_sums x (own_pairs k (run_at k start n).mesh (k.from x) f))) → StageAgrees k start n 4 l b f → Lent k start n 4 (k.has_fluxes f) l b f → StageAgrees k start n 5 (fixed k content l) b f
  fix_agrees content parts h t = let s = h.sums in record {
    cells = written_cells mine (l.leased b f) ∙ h.cells;
    ghosts = λ _ has. written_ghosts mine (l.leased b f) ∙ h.ghosts (omega arith) has;
    own_pairs = λ _ t. absurd (omega arith);
    pairs = λ _ has. written_pairs mine (pairs_of k (run_at k start n).mesh b f) (l.leased b f)
        (λ _. ap (λ v. k.corrected b f v (λ x. content x f)) (h.own_pairs (omega arith) (omega arith) has) ∙ laws.pairs_read b f (own_pairs k (run_at k start n).mesh b f) (λ x. content x f) (λ x. k.flux_sums x (own_pairs k (run_at k start n).mesh (k.from x) f)) (parts has))
        (λ e. (t.rest e has).pairs ∙ sym (no_pairs_there k laws start is n b f ((t.rest e has).untouched_filled (omega arith)) has));
    kept = λ t. absurd (omega arith);
    kept_filled = λ _. h.kept_filled (omega arith);
    sums = record { idle = s.idle; dropped = s.dropped; inflow = s.inflow; outflow = s.outflow; made = s.made; used = s.used };
    there = λ t. absurd (omega arith);
    there_filled = λ _ u. written_there (record (read k (l.bufs b f)) { pairs = mine }) (l.leased b f) (h.there_filled (omega arith) u);
    only_there = λ some. h.only_there (written_only (record (read k (l.bufs b f)) { pairs = mine }) (l.leased b f) (λ e. (t.lent e).0) some);
  }
    where
      mine : F
      mine = k.corrected b f (read k (l.bufs b f)).pairs (λ x. content x f)

  -- to update: what is lent
  updated_is : StageAgrees k start n 5 l b f → k.has_fluxes f ≡ true → updated_cells k l b f ≡ staged k (run_at k start n).mesh b f
  updated_is h has = ap (λ v. k.update b f v (read k (l.bufs b f)).pairs) h.cells ∙ ap (k.update b f ((run_at k start n).mesh b f)) (h.pairs (omega arith) has)
      ∙ sym (if_true (k.has_fluxes f) (k.update b f ((run_at k start n).mesh b f) (pairs_of k (run_at k start n).mesh b f)) ((run_at k start n).mesh b f) has)

  -- and what is not: the run changes nothing there, and drops nothing
  rest_by : Lent k start n 5 (k.has_fluxes f) l b f → l.leased b f ≡ false → (has kept : Bool) → k.has_fluxes f ≡ has → kept_next k (run_at k start n) b f ≡ kept →
      (cond kept (staged k (run_at k start n).mesh b f) k.no_cells ≡ (run_at k start n).mesh b f) × (cond kept 0 (k.amount (staged k (run_at k start n).mesh b f)) ≡ 0)
  rest_by t e true kept has h =
      let u = (t.rest e has).untouched_filled (omega arith) in
      let off : kept ≡ false = sym h ∙ unkept k laws start is (suc n) b f u in
      let z = no_stage_there k laws start is n b f u has in (
        if_false kept (staged k (run_at k start n).mesh b f) k.no_cells off ∙ sym (no_cells_there k laws start is n b f u),
        if_false kept 0 (k.amount (staged k (run_at k start n).mesh b f)) off ∙ ap k.amount z ∙ laws.no_amount,
      )
  rest_by t e false true has h = (if_false (k.has_fluxes f) (k.update b f ((run_at k start n).mesh b f) (pairs_of k (run_at k start n).mesh b f)) ((run_at k start n).mesh b f) has, refl)
  rest_by t e false false has h =
      let old = (or_parts ((run_at k start n).kept b f) (is_called k (λ x. k.region x ((run_at k start n).mesh (k.from x) f)) b f) h).0 in
      let z = rest_zero k laws start is n b f old in
      (sym z, ap k.amount (if_false (k.has_fluxes f) (k.update b f ((run_at k start n).mesh b f) (pairs_of k (run_at k start n).mesh b f)) ((run_at k start n).mesh b f) has ∙ z) ∙ laws.no_amount)

  update_cells : StageAgrees k start n 5 l b f → Lent k start n 5 (k.has_fluxes f) l b f → (lent : Bool) → l.leased b f ≡ lent →
      (read k (cond lent (Some (record (read k (l.bufs b f)) { cells = cond (l.kept b f) (updated_cells k l b f) k.no_cells })) (l.bufs b f))).cells ≡ (run_at k start (suc n)).mesh b f
  update_cells h t true e = ap (λ (v : Bool). cond v (updated_cells k l b f) k.no_cells) (h.kept_filled (omega arith)) ∙ ap (λ (v : V). cond (kept_next k (run_at k start n) b f) v k.no_cells) (updated_is h (t.lent e).1)
  update_cells h t false e = h.cells ∙ sym (rest_by t e (k.has_fluxes f) (kept_next k (run_at k start n) b f) refl refl).0

  update_dropped : StageAgrees k start n 5 l b f → Lent k start n 5 (k.has_fluxes f) l b f → (lent : Bool) → l.leased b f ≡ lent → cond lent (cond (l.kept b f) 0 (k.amount (updated_cells k l b f))) 0 ≡ cond (kept_next k (run_at k start n) b f) 0 (k.amount (staged k (run_at k start n).mesh b f))
  update_dropped h t true e = ap (λ (v : Bool). cond v 0 (k.amount (updated_cells k l b f))) (h.kept_filled (omega arith)) ∙ ap (λ (v : V). cond (kept_next k (run_at k start n) b f) 0 (k.amount v)) (updated_is h (t.lent e).1)
  update_dropped h t false e = sym (rest_by t e (k.has_fluxes f) (kept_next k (run_at k start n) b f) refl refl).1

  flow_agrees : (flow : F → ℕ) → flow k.no_pairs ≡ 0 → StageAgrees k start n 5 l b f → Lent k start n 5 (k.has_fluxes f) l b f → (lent has : Bool) → l.leased b f ≡ lent → k.has_fluxes f ≡ has → cond lent (flow (read k (l.bufs b f)).pairs) 0 ≡ cond has (flow (pairs_of k (run_at k start n).mesh b f)) 0
  flow_agrees flow z h t true true e has = ap flow (h.pairs (omega arith) has)
  flow_agrees flow z h t true false e has = absurd (false≢true (sym has ∙ (t.lent e).1))
  flow_agrees flow z h t false true e has = sym (ap flow (no_pairs_there k laws start is n b f ((t.rest e has).untouched_filled (omega arith)) has) ∙ z)
  flow_agrees flow z h t false false e has = refl

  plus_same : (a b c d : ℕ) → a ≡ b → c ≡ d → a + c ≡ b + d
  plus_same a b c d e g = omega arith

  pub update_agrees : StageAgrees k start n 5 l b f → Lent k start n 5 (k.has_fluxes f) l b f → StageAgrees k start (suc n) 0 (updated k l) b f
  update_agrees h t = let s = h.sums in record {
    cells = update_cells h t (l.leased b f) refl;
    ghosts = λ t. absurd (omega arith);
    own_pairs = λ t. absurd (omega arith);
    pairs = λ t. absurd (omega arith);
    kept = λ _. h.kept_filled (omega arith);
    kept_filled = λ t. absurd (omega arith);
    sums = record {
      idle = s.idle;
      dropped = plus_same (l.dropped b f) ((run_at k start n).dropped b f) (cond (l.leased b f) (cond (l.kept b f) 0 (k.amount (updated_cells k l b f))) 0) (cond (kept_next k (run_at k start n) b f) 0 (k.amount (staged k (run_at k start n).mesh b f))) s.dropped (update_dropped h t (l.leased b f) refl);
      inflow = plus_same (l.inflow b f) ((run_at k start n).inflow b f) (cond (l.leased b f) (k.inflow b f (read k (l.bufs b f)).pairs) 0) (cond (k.has_fluxes f) (k.inflow b f (pairs_of k (run_at k start n).mesh b f)) 0) s.inflow (flow_agrees (k.inflow b f) (laws.no_inflow b f) h t (l.leased b f) (k.has_fluxes f) refl refl);
      outflow = plus_same (l.outflow b f) ((run_at k start n).outflow b f) (cond (l.leased b f) (k.outflow b f (read k (l.bufs b f)).pairs) 0) (cond (k.has_fluxes f) (k.outflow b f (pairs_of k (run_at k start n).mesh b f)) 0) s.outflow (flow_agrees (k.outflow b f) (laws.no_outflow b f) h t (l.leased b f) (k.has_fluxes f) refl refl);
      made = s.made;
      used = s.used;
    };
    there = λ _ u. written_there (record (read k (l.bufs b f)) { cells = cond (l.kept b f) (updated_cells k l b f) k.no_cells }) (l.leased b f) (h.there_filled (omega arith) u);
    there_filled = λ t. absurd (omega arith);
    only_there = λ some. h.only_there (written_only (record (read k (l.bufs b f)) { cells = cond (l.kept b f) (updated_cells k l b f) k.no_cells }) (l.leased b f) (λ e. (t.lent e).0) some);
  }
