-- The work of the tail's tasks keeps the agreement with the masked run.
use Rattle.std.proofs.Common.{◌≡◌, ℕ, ◌+◌, Bool, true, false, cond, not, ◌&&◌, ◌||◌, Option, Some, None, is_some, refl, arith, ap, sym, ◌∙◌}
use Rattle.std.proofs.lemmas.Bool.{and_parts, false≢true}
use Rattle.sparse_rounds.specs.Kernels.{Kernels}
use Rattle.sparse_rounds.specs.Masked.{Run, after_check, idle_next, is_freed, kept_checked, kept_reacted, reacted_run, run_at, touched}
use Rattle.sparse_rounds.specs.Sparse.{Buf, Local, checked, keeps_checked, keeps_reacted, lent_cells, read, reacted, tagged, with_cells}
use Rattle.sparse_rounds.specs.Agreement.{RunAgrees, StageAgrees}

module _ {X V G F P W : Type 0} (k : Kernels X V G F P W) (start : Run V) (l : Local V G F W) (b : ℕ) where
  lent_by : (o : Option (Buf V G F)) → cond (is_some o) (read k o).cells k.no_cells ≡ (read k o).cells
  lent_by None = refl
  lent_by (Some u) = refl

  -- in the tail a task is lent all that there is
  pub lent_is : (f : ℕ) → l.leased b f ≡ is_some (l.bufs b f) → lent_cells k l b f ≡ (read k (l.bufs b f)).cells
  lent_is f e = ap (λ (v : Bool). cond v (read k (l.bufs b f)).cells k.no_cells) e ∙ lent_by (l.bufs b f)

  pub lent_all : (r : Run V) → ((f : ℕ) → l.leased b f ≡ is_some (l.bufs b f)) → ((f : ℕ) → (read k (l.bufs b f)).cells ≡ r.mesh b f) → lent_cells k l b ≡ r.mesh b
  lent_all r e h = λ i f. (lent_is f (e f) ∙ h f) i

  cells_with : (kept : Bool) (v : V) (o : Option (Buf V G F)) → (read k (with_cells k kept v o)).cells ≡ cond kept v k.no_cells
  cells_with true v o = refl
  cells_with false v None = refl
  cells_with false v (Some u) = refl

  there_with : (kept : Bool) (v : V) (o : Option (Buf V G F)) → kept ≡ true → is_some (with_cells k kept v o) ≡ true
  there_with true v o h = refl
  there_with false v o h = absurd (false≢true h)

  plus_same : (a b c d : ℕ) → a ≡ b → c ≡ d → a + c ≡ b + d
  plus_same a b c d e g = omega arith

  pub react_agrees : ((f : ℕ) → l.leased b f ≡ is_some (l.bufs b f)) → ((f : ℕ) → StageAgrees k start k.stages 0 l b f) → (f : ℕ) → RunAgrees k (reacted_run k start) (reacted k l) b f
  react_agrees e h f =
      let s = (h f).sums in
      record {
        cells = cells_with (keeps_reacted k l b f) (k.react b (lent_cells k l b) f) (l.bufs b f) ∙ ap (λ (v : Bool). cond v (k.react b (lent_cells k l b) f) k.no_cells) keeps ∙ ap (λ (v : ℕ → V). cond (kept_reacted k r b f) (k.react b v f) k.no_cells) same;
        kept = keeps;
        sums = record {
          idle = s.idle;
          dropped = plus_same (l.dropped b f) (r.dropped b f) (cond (keeps_reacted k l b f) 0 (k.amount (k.react b (lent_cells k l b) f))) (cond (kept_reacted k r b f) 0 (k.amount (k.react b (r.mesh b) f))) s.dropped
              (ap (λ (v : Bool). cond v 0 (k.amount (k.react b (lent_cells k l b) f))) keeps ∙ ap (λ (v : ℕ → V). cond (kept_reacted k r b f) 0 (k.amount (k.react b v f))) same);
          inflow = s.inflow;
          outflow = s.outflow;
          made = plus_same (l.made b f) (r.made b f) (k.made b (lent_cells k l b) f) (k.made b (r.mesh b) f) s.made (ap (λ (v : ℕ → V). k.made b v f) same);
          used = plus_same (l.used b f) (r.used b f) (k.used b (lent_cells k l b) f) (k.used b (r.mesh b) f) s.used (ap (λ (v : ℕ → V). k.used b v f) same);
        };
        there = λ t. there_with (keeps_reacted k l b f) (k.react b (lent_cells k l b) f) (l.bufs b f) (keeps ∙ t);
      }
    where
      r : Run V
      r = run_at k start k.stages

      same : lent_cells k l b ≡ (run_at k start k.stages).mesh b
      same = lent_all (run_at k start k.stages) e (λ g. (h g).cells)

      keeps : keeps_reacted k l b f ≡ kept_reacted k (run_at k start k.stages) b f
      keeps = ap (λ (v : Bool). v || (k.is_sparse f && k.cells_call (k.react b (lent_cells k l b) f))) ((h f).kept (omega arith)) ∙ ap (λ (v : ℕ → V). (run_at k start k.stages).kept b f || (k.is_sparse f && k.cells_call (k.react b v f))) same

  same_answer : (x y : Bool) → (x ≡ true → y ≡ true) → (y ≡ true → x ≡ true) → x ≡ y
  same_answer true true g h = refl
  same_answer true false g h = sym (g refl)
  same_answer false true g h = h refl
  same_answer false false g h = refl

  -- from the end of the stages a buffer is there exactly where the exchanges called for one
  pub buffers_are : (f : ℕ) → StageAgrees k start k.stages 0 l b f → is_some (l.bufs b f) ≡ touched k start k.stages b f
  buffers_are f h = same_answer (is_some (l.bufs b f)) (touched k start k.stages b f) h.only_there (h.there (omega arith))

  some_with : (kept : Bool) (v : V) (o : Option (Buf V G F)) → is_some (with_cells k kept v o) ≡ (is_some o || kept)
  some_with true v None = refl
  some_with true v (Some u) = refl
  some_with false v None = refl
  some_with false v (Some u) = refl

  pub react_buffers : ((f : ℕ) → l.leased b f ≡ is_some (l.bufs b f)) → ((f : ℕ) → StageAgrees k start k.stages 0 l b f) → (f : ℕ) → is_some ((reacted k l).bufs b f) ≡ (touched k start k.stages b f || (reacted_run k start).kept b f)
  react_buffers e h f =
      some_with (keeps_reacted k l b f) (k.react b (lent_cells k l b) f) (l.bufs b f)
      ∙ ap (λ (v : Bool). v || keeps_reacted k l b f) (buffers_are f (h f))
      ∙ ap (λ (v : Bool). touched k start k.stages b f || v) (react_agrees e h f).kept

  pub tag_agrees : (r : Run V) (f : ℕ) → RunAgrees k r l b f → RunAgrees k r (tagged k l) b f
  tag_agrees r f h = let s = h.sums in record {
    cells = h.cells;
    kept = h.kept;
    sums = record { idle = s.idle; dropped = s.dropped; inflow = s.inflow; outflow = s.outflow; made = s.made; used = s.used };
    there = h.there;
  }

  pub tag_wishes : (r : Run V) → ((f : ℕ) → l.leased b f ≡ is_some (l.bufs b f)) → ((f : ℕ) → RunAgrees k r l b f) → (tagged k l).wishes b ≡ Some (k.wish b (r.mesh b))
  tag_wishes r e h = ap (λ (v : ℕ → V). Some (k.wish b v)) (lent_all r e (λ f. (h f).cells))

  -- to check
  keeps_same : (r : Run V) (f : ℕ) → l.leased b f ≡ is_some (l.bufs b f) → RunAgrees k r l b f → keeps_checked k l b f ≡ kept_checked k r b f
  keeps_same r f e h =
      ap (λ (v : V). l.kept b f && not (is_freed k v (l.kept b f) (l.idle b f) f)) (lent_is f e ∙ h.cells)
      ∙ ap (λ (v : Bool). v && not (is_freed k (r.mesh b f) v (l.idle b f) f)) h.kept
      ∙ ap (λ v. r.kept b f && not (is_freed k (r.mesh b f) (r.kept b f) v f)) h.sums.idle

  checked_cells : (kept : Bool) (v : V) (o : Option (Buf V G F)) → (read k o).cells ≡ v → (read k (cond kept o None)).cells ≡ cond kept v k.no_cells
  checked_cells true v o h = h
  checked_cells false v o h = refl

  checked_there : (kept right : Bool) (o : Option (Buf V G F)) → kept ≡ right → (right ≡ true → is_some o ≡ true) → is_some (cond kept o None) ≡ right
  checked_there true right o e h = h (sym e) ∙ e
  checked_there false right o e h = e

  was_kept : (r : Run V) (f : ℕ) → RunAgrees k r l b f → kept_checked k r b f ≡ true → is_some (l.bufs b f) ≡ true
  was_kept r f h t = h.there (and_parts (r.kept b f) (not (is_freed k (r.mesh b f) (r.kept b f) (r.idle b f) f)) t).0

  pub check_there : (r : Run V) (f : ℕ) → l.leased b f ≡ is_some (l.bufs b f) → RunAgrees k r l b f → is_some ((checked k l).bufs b f) ≡ kept_checked k r b f
  check_there r f e h = checked_there (keeps_checked k l b f) (kept_checked k r b f) (l.bufs b f) (keeps_same r f e h) (was_kept r f h)

  pub check_agrees : (r : Run V) (f : ℕ) → l.leased b f ≡ is_some (l.bufs b f) → RunAgrees k r l b f → RunAgrees k (after_check k r) (checked k l) b f
  check_agrees r f e h =
      let s = h.sums in
      record {
        cells = checked_cells (keeps_checked k l b f) (r.mesh b f) (l.bufs b f) h.cells ∙ ap (λ (v : Bool). cond v (r.mesh b f) k.no_cells) (keeps_same r f e h);
        kept = keeps_same r f e h;
        sums = record {
          idle = ap (λ (v : V). idle_next k v (l.kept b f) (l.idle b f) f) (lent_is f e ∙ h.cells) ∙ ap (λ (v : Bool). idle_next k (r.mesh b f) v (l.idle b f) f) h.kept ∙ ap (λ v. idle_next k (r.mesh b f) (r.kept b f) v f) s.idle;
          dropped = plus_same (l.dropped b f) (r.dropped b f) (cond (keeps_checked k l b f) 0 (k.amount (lent_cells k l b f))) (cond (kept_checked k r b f) 0 (k.amount (r.mesh b f))) s.dropped
              (ap (λ (v : Bool). cond v 0 (k.amount (lent_cells k l b f))) (keeps_same r f e h) ∙ ap (λ (v : V). cond (kept_checked k r b f) 0 (k.amount v)) (lent_is f e ∙ h.cells));
          inflow = s.inflow;
          outflow = s.outflow;
          made = s.made;
          used = s.used;
        };
        there = λ t. check_there r f e h ∙ t;
      }
