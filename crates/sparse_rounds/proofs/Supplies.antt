-- What the machine of sparse buffers supplies to the round protocol: its lists and letters agree with the masked serial run.
use Rattle.std.proofs.Common.{◌≡◌, ℕ, zero, suc, ◌+◌, ◌-◌, ◌*◌, ◌/◌, ◌%◌, ◌<◌, ◌≤◌, ◌==◌, Bool, true, false, cond, not, ◌&&◌, ◌||◌, inl, inr, Option, Some, None, is_some, List, [], ◌∷◌, refl, arith, ap, sym, subst, ◌∙◌, eq-eqb}
use Rattle.std.specs.List.{list_any}
use Rattle.std.proofs.lemmas.Bool.{and_from, and_parts, cases_lt, eqb-true, false≢true, false_from_ne_true, not-true, not_from_false, or_left, or_right, true≢false}
use Rattle.cycle_rounds.specs.Plan.{all_tasks, is_due}
use Rattle.cycle_rounds.proofs.Carried.{Carries}
use Rattle.sparse_rounds.specs.Kernels.{AreKernels, Kernels, SameParts, own_pairs}
use Rattle.sparse_rounds.specs.Masked.{IsStart, Run, checked_run, is_sent, reacted_run, run_at, touched}
use Rattle.sparse_rounds.specs.Sparse.{Buf, Local, arrived, begin_with, has_flag, lease_of, letter_of, makes, nothing, plan_of, read, sparse, stage_work, tail_work, work_of}
use Rattle.sparse_rounds.specs.Agreement.{Agrees, LetterAgrees, RunAgrees, StageAgrees, StageLease, WasAbsent}
use Rattle.sparse_rounds.proofs.Runs.{any_there, if_false, if_true, no_own_there, touched_on, untouched_sparse, untouched_zero}
use Rattle.sparse_rounds.proofs.Clock.{due_fluxes, due_ghosts, even_round, flag_of_all, flag_of_fluxes, flag_of_ghosts, odd_round, work_in_stage, work_in_tail}
use Rattle.sparse_rounds.proofs.Stages.{Lent, fill_agrees, fix_agrees, flux_agrees, post_agrees, send_agrees, update_agrees}
use Rattle.sparse_rounds.proofs.Tail.{check_agrees, check_there, react_agrees, react_buffers, tag_agrees, tag_wishes}

none_is : {A : Type 0} (o : Option A) → is_some o ≡ false → o ≡ None
none_is None h = refl
none_is (Some a) h = absurd (true≢false h)

clash : (b : Bool) → b ≡ false → b ≡ true → ⊥
clash b e h = true≢false (sym h ∙ e)

-- one that is there and passes
any_member_at : {X : Type 0} (q : X → Bool) (same : X → X → Bool) → ((x : X) → same x x ≡ true) → (x : X) (xs : List X) → (list_any q xs ≡ true → (y : X) × (q y ≡ true) × (list_any (same y) xs ≡ true)) → (b : Bool) → q x ≡ b → (b || list_any q xs) ≡ true → (y : X) × (q y ≡ true) × (list_any (same y) (x ∷ xs) ≡ true)
any_member_at q same is_same x xs again true e h = (x, e, or_left (same x x) (list_any (same x) xs) (is_same x))
any_member_at q same is_same x xs again false e h = let a = again h in (a.0, a.1, or_right (same a.0 x) (list_any (same a.0) xs) a.2)

any_member : {X : Type 0} (q : X → Bool) (same : X → X → Bool) → ((x : X) → same x x ≡ true) → (xs : List X) → list_any q xs ≡ true → (y : X) × (q y ≡ true) × (list_any (same y) xs ≡ true)
any_member q same is_same [] h = absurd (false≢true h)
any_member q same is_same (x ∷ xs) h = any_member_at q same is_same x xs (any_member q same is_same xs) (q x) refl h

module _ {X V G F P W : Type 0} (k : Kernels X V G F P W) (laws : AreKernels k) (start : Run V) (is : IsStart k start) where
  -- what is carried
  abbrev pub Good : ℕ → ℕ → Bool → Local V G F W → Type 0
  Good i g out l = (b f : ℕ) → k.owner b ≡ i → Agrees k start g out l b f

  abbrev pub Came : ℕ → X → Local V G F W → Type 0
  Came r x l = (n f : ℕ) → r ≡ 2 * n → k.is_sparse f ≡ true → k.has_ghosts f ≡ true → k.is_blank (k.region x ((run_at k start n).mesh (k.from x) f)) ≡ false → is_some (l.bufs (k.to x) f) ≡ true

  -- a record of agreement, where what it reads is the same
  restage : (n j : ℕ) (l : Local V G F W) (leased : ℕ → ℕ → Bool) (b f : ℕ) → StageAgrees k start n j l b f → StageAgrees k start n j (record l { leased = leased }) b f
  restage n j l leased b f h = let s = h.sums in record {
    cells = h.cells;
    ghosts = h.ghosts;
    own_pairs = h.own_pairs;
    pairs = h.pairs;
    kept = h.kept;
    kept_filled = h.kept_filled;
    sums = record { idle = s.idle; dropped = s.dropped; inflow = s.inflow; outflow = s.outflow; made = s.made; used = s.used };
    there = h.there;
    there_filled = h.there_filled;
    only_there = h.only_there;
  }

  rerun : (r : Run V) (l : Local V G F W) (leased : ℕ → ℕ → Bool) (b f : ℕ) → RunAgrees k r l b f → RunAgrees k r (record l { leased = leased }) b f
  rerun r l leased b f h = let s = h.sums in record {
    cells = h.cells;
    kept = h.kept;
    sums = record { idle = s.idle; dropped = s.dropped; inflow = s.inflow; outflow = s.outflow; made = s.made; used = s.used };
    there = h.there;
  }

  -- as the cycle starts
  first_cells : (b f : ℕ) (kept : Bool) → start.kept b f ≡ kept → (read k (cond kept (Some (record (nothing k) { cells = start.mesh b f })) None)).cells ≡ start.mesh b f
  first_cells b f true e = refl
  first_cells b f false e = sym (is.rest_zero b f e)

  first_there : (u : Buf V G F) (kept : Bool) → is_some (cond kept (Some u) None) ≡ kept
  first_there u true = refl
  first_there u false = refl

  first_stage : (b f n j : ℕ) → 0 ≡ 6 * n + j → StageAgrees k start n j (begin_with k start) b f
  first_stage b f zero zero e = record {
    cells = first_cells b f (start.kept b f) refl;
    ghosts = λ t. absurd (omega arith);
    own_pairs = λ t. absurd (omega arith);
    pairs = λ t. absurd (omega arith);
    kept = λ _. refl;
    kept_filled = λ t. absurd (omega arith);
    sums = record { idle = refl; dropped = refl; inflow = refl; outflow = refl; made = refl; used = refl };
    there = λ _ t. first_there (record (nothing k) { cells = start.mesh b f }) (start.kept b f) ∙ t;
    there_filled = λ t. absurd (omega arith);
    only_there = λ t. touched_on k laws start is 0 k.stages b f (omega arith) (sym (first_there (record (nothing k) { cells = start.mesh b f }) (start.kept b f)) ∙ t);
  }
  first_stage b f zero (suc j) e = absurd (omega arith)
  first_stage b f (suc n) j e = absurd (omega arith)

  first_agrees : (b f : ℕ) → Agrees k start 0 false (begin_with k start) b f
  first_agrees b f = record {
    stage = λ n j e h low. first_stage b f n j e;
    lease = λ n j e h low t. absurd (false≢true t);
    lease_all = λ h t. absurd (false≢true t);
    reacted = λ h. absurd (omega arith);
    buffers = λ h. absurd (omega arith);
    wished = λ h. absurd (omega arith);
    checked = λ h. absurd (omega arith);
  }

  -- a task is taken
  absent_is : (b c : Bool) → (b && c) ≡ false → c ≡ true → b ≡ false
  absent_is false c h e = refl
  absent_is true c h e = absurd (clash c h e)

  all_lent : (b c : Bool) → c ≡ true → (b && c) ≡ b
  all_lent true c e = e
  all_lent false c e = refl

  take_lease : (i g : ℕ) (l : Local V G F W) (b f n j : ℕ) → k.owner b ≡ i → g ≡ 6 * n + j → j < 6 → g < 6 * k.stages → StageAgrees k start n j l b f →
      ((r : ℕ) (x : X) → r < 2 * k.stages → g ≡ 3 * r + 1 → is_due (plan_of k) r x ≡ true → k.owner (k.to x) ≡ i → Came r x l) → StageLease k start g n j (lease_of k g l) b f
  take_lease i g l b f n j own e h low s come = record {
    lent = λ t. and_parts (is_some (l.bufs b f)) (has_flag k g f) t;
    rest = λ t flag. rest (absent_is (is_some (l.bufs b f)) (has_flag k g f) t flag) flag;
  }
    where
      sent : j ≡ 1 → k.has_ghosts f ≡ true → touched k start n b f ≡ false → is_sent k (run_at k start n).mesh b f ≡ true → is_some (l.bufs b f) ≡ true
      sent one has u t =
          let a = any_member (λ x. k.to x == b && not (k.is_blank (k.region x ((run_at k start n).mesh (k.from x) f)))) k.same laws.is_same k.ghost_due t in
          let p = and_parts (k.to a.0 == b) (not (k.is_blank (k.region a.0 ((run_at k start n).mesh (k.from a.0) f)))) a.1 in
          let to = eqb-true (k.to a.0) b p.0 in
          subst (λ v. is_some (l.bufs v f) ≡ true) to
          (come (2 * n) a.0 (omega arith) (omega arith) (due_ghosts k (2 * n) n a.0 refl ∙ a.2) (ap k.owner to ∙ own) n f refl (untouched_sparse k laws start is n b f u) has (not-true (k.is_blank (k.region a.0 ((run_at k start n).mesh (k.from a.0) f))) p.1))

      untouched : is_some (l.bufs b f) ≡ false → j < 2 → touched k start n b f ≡ false
      untouched absent two = false_from_ne_true (touched k start n b f) (λ u. clash (is_some (l.bufs b f)) absent (s.there two u))

      rest : is_some (l.bufs b f) ≡ false → has_flag k g f ≡ true → WasAbsent k start n j (lease_of k g l) b f
      rest absent flag = record {
        untouched = untouched absent;
        unsent = λ one. false_from_ne_true (is_sent k (run_at k start n).mesh b f) (λ t. clash (is_some (l.bufs b f)) absent (sent one (sym (flag_of_ghosts k g n j f e (omega arith) low) ∙ flag) (untouched absent (omega arith)) t));
        untouched_filled = λ two. false_from_ne_true (touched k start (suc n) b f) (λ u. clash (is_some (l.bufs b f)) absent (s.there_filled two u));
        ghosts = ap (λ (o : Option (Buf V G F)). (read k o).ghosts) (none_is (l.bufs b f) absent);
        pairs = ap (λ (o : Option (Buf V G F)). (read k o).pairs) (none_is (l.bufs b f) absent);
      }

  take_agrees : (i g : ℕ) (l : Local V G F W) (b f : ℕ) → k.owner b ≡ i → Agrees k start g false l b f → ((r : ℕ) (x : X) → r < 2 * k.stages → g ≡ 3 * r + 1 → is_due (plan_of k) r x ≡ true → k.owner (k.to x) ≡ i → Came r x l) → Agrees k start g true (lease_of k g l) b f
  take_agrees i g l b f own a come = record {
    stage = λ n j e h low. restage n j l (λ b f. is_some (l.bufs b f) && has_flag k g f) b f (a.stage n j e h low);
    lease = λ n j e h low _. take_lease i g l b f n j own e h low (a.stage n j e h (omega arith)) come;
    lease_all = λ high _. all_lent (is_some (l.bufs b f)) (has_flag k g f) (flag_of_all k g f high);
    reacted = λ u v. rerun (reacted_run k start) l (λ b f. is_some (l.bufs b f) && has_flag k g f) b f (a.reacted u v);
    buffers = a.buffers;
    wished = a.wished;
    checked = λ u. (rerun (checked_run k start) l (λ b f. is_some (l.bufs b f) && has_flag k g f) b f (a.checked u).0, (a.checked u).1);
  }

  -- the work on a task is given
  next_agrees : (g n j : ℕ) (l : Local V G F W) (b f : ℕ) → g ≡ 6 * n + j → j < 6 → g ≤ 6 * k.stages → StageAgrees k start n j l b f → Agrees k start g false l b f
  next_agrees g n j l b f e h low s = record {
    stage = λ m i d t _. subst (λ v. StageAgrees k start v i l b f) (same_stage m i d t) (subst (λ v. StageAgrees k start n v l b f) (same_task m i d t) s);
    lease = λ _ _ _ _ _ t. absurd (false≢true t);
    lease_all = λ _ t. absurd (false≢true t);
    reacted = λ t. absurd (omega arith);
    buffers = λ t. absurd (omega arith);
    wished = λ t. absurd (omega arith);
    checked = λ t. absurd (omega arith);
  }
    where
      same_stage : (m i : ℕ) → g ≡ 6 * m + i → i < 6 → n ≡ m
      same_stage m i d t = omega arith

      same_task : (m i : ℕ) → g ≡ 6 * m + i → i < 6 → j ≡ i
      same_task m i d t = omega arith

  as_lent : (g n j : ℕ) (flag : Bool) (l : Local V G F W) (b f : ℕ) → has_flag k g f ≡ flag → StageLease k start g n j l b f → Lent k start n j flag l b f
  as_lent g n j flag l b f e t = record { lent = λ u. let v = t.lent u in (v.0, sym e ∙ v.1); rest = λ u v. t.rest u (e ∙ v) }

  -- what the letters hold that a task reads
  abbrev Contents : ℕ → ℕ → (X → ℕ → P) → Type 0
  Contents i g content = (r : ℕ) (x : X) → r < 2 * k.stages → g ≡ 3 * r + 1 → is_due (plan_of k) r x ≡ true → k.owner (k.to x) ≡ i → LetterAgrees k start r x (content x)

  ghost_parts : (i g n : ℕ) (content : X → ℕ → P) (b f : ℕ) → Contents i g content → k.owner b ≡ i → g ≡ 6 * n + 1 → g < 6 * k.stages → k.has_ghosts f ≡ true → SameParts k.same k.to k.ghost_due b (λ x. content x f) (λ x. k.region x ((run_at k start n).mesh (k.from x) f))
  ghost_parts i g n content b f c own e low has x s = (c (2 * n) x (omega arith) (omega arith) (due_ghosts k (2 * n) n x refl ∙ s.is_due) (ap k.owner s.is_to ∙ own)).ghosts n f refl has

  flux_parts : (i g n : ℕ) (content : X → ℕ → P) (b f : ℕ) → Contents i g content → k.owner b ≡ i → g ≡ 6 * n + 4 → g < 6 * k.stages → k.has_fluxes f ≡ true → SameParts k.same k.to k.flux_due b (λ x. content x f) (λ x. k.flux_sums x (own_pairs k (run_at k start n).mesh (k.from x) f))
  flux_parts i g n content b f c own e low has x s = (c (2 * n + 1) x (omega arith) (omega arith) (due_fluxes k (2 * n + 1) n x refl ∙ s.is_due) (ap k.owner s.is_to ∙ own)).fluxes n f refl has

  stage_gives : (i g n j : ℕ) (content : X → ℕ → P) (l : Local V G F W) (b f : ℕ) → Contents i g content → k.owner b ≡ i → g ≡ 6 * n + j → j < 6 → g < 6 * k.stages → StageAgrees k start n j l b f → StageLease k start g n j l b f → Agrees k start (g + 1) false (stage_work k j content l) b f
  stage_gives i g n zero content l b f c own e h low s t = next_agrees (g + 1) n 1 (stage_work k 0 content l) b f (omega arith) (omega arith) (omega arith) (send_agrees k laws start is n l b f s)
  stage_gives i g n (suc zero) content l b f c own e h low s t = next_agrees (g + 1) n 2 (stage_work k 1 content l) b f (omega arith) (omega arith) (omega arith)
      (fill_agrees k laws start is n l b f (omega arith) content (ghost_parts i g n content b f c own e low) s (as_lent g n 1 (k.has_ghosts f) l b f (flag_of_ghosts k g n 1 f e (omega arith) low) t))
  stage_gives i g n (suc (suc zero)) content l b f c own e h low s t = next_agrees (g + 1) n 3 (stage_work k 2 content l) b f (omega arith) (omega arith) (omega arith)
      (flux_agrees k laws start is n l b f s (as_lent g n 2 (k.has_fluxes f) l b f (flag_of_fluxes k g n 2 f e (omega arith) (omega arith) low) t))
  stage_gives i g n (suc (suc (suc zero))) content l b f c own e h low s t = next_agrees (g + 1) n 4 (stage_work k 3 content l) b f (omega arith) (omega arith) (omega arith) (post_agrees k laws start is n l b f s)
  stage_gives i g n (suc (suc (suc (suc zero)))) content l b f c own e h low s t = next_agrees (g + 1) n 5 (stage_work k 4 content l) b f (omega arith) (omega arith) (omega arith)
      (fix_agrees k laws start is n l b f content (flux_parts i g n content b f c own e low) s (as_lent g n 4 (k.has_fluxes f) l b f (flag_of_fluxes k g n 4 f e (omega arith) (omega arith) low) t))
  stage_gives i g n (suc (suc (suc (suc (suc zero))))) content l b f c own e h low s t = next_agrees (g + 1) (suc n) 0 (stage_work k 5 content l) b f (omega arith) (omega arith) (omega arith)
      (update_agrees k laws start is n l b f s (as_lent g n 5 (k.has_fluxes f) l b f (flag_of_fluxes k g n 5 f e (omega arith) (omega arith) low) t))
  stage_gives i g n (suc (suc (suc (suc (suc (suc j)))))) content l b f c own e h low s t = absurd (omega arith)

  tail_gives : (i g t : ℕ) (l : Local V G F W) (b f : ℕ) → k.owner b ≡ i → g ≡ 6 * k.stages + t → t < 3 → Good i g true l → Agrees k start (g + 1) false (tail_work k t l) b f
  tail_gives i g zero l b f own e h good = record {
    stage = λ n j d u v. absurd (omega arith);
    lease = λ _ _ _ _ _ u. absurd (false≢true u);
    lease_all = λ _ u. absurd (false≢true u);
    reacted = λ _ _. react_agrees k start l b (λ f. (good b f own).lease_all (omega arith) refl) (λ f. (good b f own).stage k.stages 0 e (omega arith) (omega arith)) f;
    buffers = λ _ _. react_buffers k start l b (λ f. (good b f own).lease_all (omega arith) refl) (λ f. (good b f own).stage k.stages 0 e (omega arith) (omega arith)) f;
    wished = λ u. absurd (omega arith);
    checked = λ u. absurd (omega arith);
  }
  tail_gives i g (suc zero) l b f own e h good = record {
    stage = λ n j d u v. absurd (omega arith);
    lease = λ _ _ _ _ _ u. absurd (false≢true u);
    lease_all = λ _ u. absurd (false≢true u);
    reacted = λ _ _. tag_agrees k start l b (reacted_run k start) f ((good b f own).reacted (omega arith) (omega arith));
    buffers = λ _ _. (good b f own).buffers (omega arith) (omega arith);
    wished = λ _. tag_wishes k start l b (reacted_run k start) (λ f. (good b f own).lease_all (omega arith) refl) (λ f. (good b f own).reacted (omega arith) (omega arith));
    checked = λ u. absurd (omega arith);
  }
  tail_gives i g (suc (suc zero)) l b f own e h good = record {
    stage = λ n j d u v. absurd (omega arith);
    lease = λ _ _ _ _ _ u. absurd (false≢true u);
    lease_all = λ _ u. absurd (false≢true u);
    reacted = λ _ u. absurd (omega arith);
    buffers = λ _ u. absurd (omega arith);
    wished = λ _. (good b f own).wished (omega arith);
    checked = λ _. (
      check_agrees k start l b (reacted_run k start) f ((good b f own).lease_all (omega arith) refl) ((good b f own).reacted (omega arith) (omega arith)),
      check_there k start l b (reacted_run k start) f ((good b f own).lease_all (omega arith) refl) ((good b f own).reacted (omega arith) (omega arith)),
    );
  }
  tail_gives i g (suc (suc (suc t))) l b f own e h good = absurd (omega arith)

  give_agrees : (i g : ℕ) (content : X → ℕ → P) (l : Local V G F W) → g < all_tasks (plan_of k) → Good i g true l → Contents i g content → Good i (g + 1) false (work_of k g content l)
  give_agrees i g content l more good c b f own = elim (cases_lt g (6 * k.stages)) [
    | inl low ↦ subst (λ (v : Local V G F W). Agrees k start (g + 1) false v b f) (sym (work_in_stage k g (g / 6) (g % 6) content l (omega arith) (omega arith) low))
        (stage_gives i g (g / 6) (g % 6) content l b f c own (omega arith) (omega arith) low ((good b f own).stage (g / 6) (g % 6) (omega arith) (omega arith) (omega arith)) ((good b f own).lease (g / 6) (g % 6) (omega arith) (omega arith) low refl))
    | inr high ↦ subst (λ (v : Local V G F W). Agrees k start (g + 1) false v b f) (sym (work_in_tail k g (g - 6 * k.stages) content l (omega arith)))
        (tail_gives i g (g - 6 * k.stages) l b f own (omega arith) (omega arith) good)
  ]

  -- a letter is sent
  sent_ghosts : (r n : ℕ) (x : X) (l : Local V G F W) (f : ℕ) → r < 2 * k.stages → r ≡ 2 * n → k.has_ghosts f ≡ true → Agrees k start (3 * r) true l (k.from x) f → (lent : Bool) → l.leased (k.from x) f ≡ lent →
      cond lent (cond (r % 2 == 0) (k.region x (read k (l.bufs (k.from x) f)).cells) (k.flux_sums x (read k (l.bufs (k.from x) f)).pairs)) (k.no_part x) ≡ k.region x ((run_at k start n).mesh (k.from x) f)
  sent_ghosts r n x l f low e has a true h = if_true (r % 2 == 0) (k.region x (read k (l.bufs (k.from x) f)).cells) (k.flux_sums x (read k (l.bufs (k.from x) f)).pairs) (even_round k r n e) ∙ ap (k.region x) (a.stage n 0 (omega arith) (omega arith) (omega arith)).cells
  sent_ghosts r n x l f low e has a false h =
      let t = (a.lease n 0 (omega arith) (omega arith) (omega arith) refl).rest h (flag_of_ghosts k (3 * r) n 0 f (omega arith) (omega arith) (omega arith) ∙ has) in
      sym (ap (k.region x) (untouched_zero k laws start is n (k.from x) f (t.untouched (omega arith))) ∙ laws.nothing_sent x)

  sent_fluxes : (r n : ℕ) (x : X) (l : Local V G F W) (f : ℕ) → r < 2 * k.stages → r ≡ 2 * n + 1 → k.has_fluxes f ≡ true → Agrees k start (3 * r) true l (k.from x) f → (lent : Bool) → l.leased (k.from x) f ≡ lent →
      cond lent (cond (r % 2 == 0) (k.region x (read k (l.bufs (k.from x) f)).cells) (k.flux_sums x (read k (l.bufs (k.from x) f)).pairs)) (k.no_part x) ≡ k.flux_sums x (own_pairs k (run_at k start n).mesh (k.from x) f)
  sent_fluxes r n x l f low e has a true h = if_false (r % 2 == 0) (k.region x (read k (l.bufs (k.from x) f)).cells) (k.flux_sums x (read k (l.bufs (k.from x) f)).pairs) (odd_round k r n e)
      ∙ ap (k.flux_sums x) ((a.stage n 3 (omega arith) (omega arith) (omega arith)).own_pairs (omega arith) (omega arith) has)
  sent_fluxes r n x l f low e has a false h =
      let t = (a.lease n 3 (omega arith) (omega arith) (omega arith) refl).rest h (flag_of_fluxes k (3 * r) n 3 f (omega arith) (omega arith) (omega arith) (omega arith) ∙ has) in
      sym (ap (k.flux_sums x) (no_own_there k laws start is n (k.from x) f (t.untouched_filled (omega arith)) has) ∙ laws.no_sums x)

  sent_agrees : (i r : ℕ) (x : X) (l : Local V G F W) → r < 2 * k.stages → k.owner (k.from x) ≡ i → Good i (3 * r) true l → LetterAgrees k start r x (letter_of k r x l)
  sent_agrees i r x l low own good = record {
    ghosts = λ n f e has. sent_ghosts r n x l f low e has (good (k.from x) f own) (l.leased (k.from x) f) refl;
    fluxes = λ n f e has. sent_fluxes r n x l f low e has (good (k.from x) f own) (l.leased (k.from x) f) refl;
  }

  -- a letter comes
  record Makes (r : ℕ) (x : X) (content : ℕ → P) (l : Local V G F W) (b f : ℕ) : Type 0 where
    even : (r % 2 == 0) ≡ true
    block : b ≡ k.to x
    absent : is_some (l.bufs b f) ≡ false
    sparse : k.is_sparse f ≡ true
    has : k.has_ghosts f ≡ true
    more : k.is_blank (content f) ≡ false

  makes_is : (r : ℕ) (x : X) (content : ℕ → P) (l : Local V G F W) (b f : ℕ) → makes k r x content l b f ≡ true → Makes r x content l b f
  makes_is r x content l b f h =
      let p = and_parts (r % 2 == 0) (b == k.to x && (not (is_some (l.bufs b f)) && (k.is_sparse f && (k.has_ghosts f && not (k.is_blank (content f)))))) h in
      let q = and_parts (b == k.to x) (not (is_some (l.bufs b f)) && (k.is_sparse f && (k.has_ghosts f && not (k.is_blank (content f))))) p.1 in
      let u = and_parts (not (is_some (l.bufs b f))) (k.is_sparse f && (k.has_ghosts f && not (k.is_blank (content f)))) q.1 in
      let v = and_parts (k.is_sparse f) (k.has_ghosts f && not (k.is_blank (content f))) u.1 in
      let w = and_parts (k.has_ghosts f) (not (k.is_blank (content f))) v.1 in
      record { even = p.0; block = eqb-true b (k.to x) q.0; absent = not-true (is_some (l.bufs b f)) u.0; sparse = v.0; has = w.0; more = not-true (k.is_blank (content f)) w.1 }

  -- what is read stays, and what is there stays
  read_same : (o : Option (Buf V G F)) (b : Bool) → (b ≡ true → is_some o ≡ false) → read k (cond b (Some (nothing k)) o) ≡ read k o
  read_same None true h = refl
  read_same (Some u) true h = absurd (true≢false (h refl))
  read_same o false h = refl

  still_there : (u : Buf V G F) (o : Option (Buf V G F)) (b : Bool) → is_some o ≡ true → is_some (cond b (Some u) o) ≡ true
  still_there u o true h = refl
  still_there u o false h = h

  come_touched : (r : ℕ) (x : X) (content : ℕ → P) (l : Local V G F W) (b f : ℕ) → r < 2 * k.stages → is_due (plan_of k) r x ≡ true → LetterAgrees k start r x content → Makes r x content l b f → touched k start k.stages b f ≡ true
  come_touched r x content l b f low due holds mk =
      let n = r / 2 in
      let even = eqb-true (r % 2) 0 mk.even in
      let e : r ≡ 2 * (r / 2) = omega arith in
      let nb : k.is_blank (k.region x ((run_at k start n).mesh (k.from x) f)) ≡ false = ap k.is_blank (sym (holds.ghosts n f e mk.has)) ∙ mk.more in
      let sent = any_there k.same laws.same_is (λ y. k.to y == b && not (k.is_blank (k.region y ((run_at k start n).mesh (k.from y) f)))) x k.ghost_due (sym (due_ghosts k r n x e) ∙ due)
      (and_from (k.to x == b) (not (k.is_blank (k.region x ((run_at k start n).mesh (k.from x) f)))) (eq-eqb (k.to x) b (sym mk.block)) (not_from_false (k.is_blank (k.region x ((run_at k start n).mesh (k.from x) f))) nb)) in
      touched_on k laws start is (suc n) k.stages b f (omega arith) (or_right (touched k start n b f) (k.is_sparse f && (k.has_ghosts f && (k.flows_in b f || is_sent k (run_at k start n).mesh b f)))
      (and_from (k.is_sparse f) (k.has_ghosts f && (k.flows_in b f || is_sent k (run_at k start n).mesh b f)) mk.sparse (and_from (k.has_ghosts f) (k.flows_in b f || is_sent k (run_at k start n).mesh b f) mk.has (or_right (k.flows_in b f) (is_sent k (run_at k start n).mesh b f) sent))))

  come_only : (r : ℕ) (x : X) (content : ℕ → P) (l : Local V G F W) (b f : ℕ) → (Makes r x content l b f → touched k start k.stages b f ≡ true) → (is_some (l.bufs b f) ≡ true → touched k start k.stages b f ≡ true) → (mk : Bool) → makes k r x content l b f ≡ mk → is_some (cond mk (Some (nothing k)) (l.bufs b f)) ≡ true → touched k start k.stages b f ≡ true
  come_only r x content l b f new old true e some = new (makes_is r x content l b f e)
  come_only r x content l b f new old false e some = old some

  come_stage : (r : ℕ) (x : X) (content : ℕ → P) (l : Local V G F W) (b f n j : ℕ) → r < 2 * k.stages → is_due (plan_of k) r x ≡ true → LetterAgrees k start r x content → StageAgrees k start n j l b f → StageAgrees k start n j (arrived k r x content l) b f
  come_stage r x content l b f n j low due holds h = let s = h.sums in record {
    cells = ap (λ (u : Buf V G F). u.cells) same ∙ h.cells;
    ghosts = λ t has. ap (λ (u : Buf V G F). u.ghosts) same ∙ h.ghosts t has;
    own_pairs = λ t v has. ap (λ (u : Buf V G F). u.pairs) same ∙ h.own_pairs t v has;
    pairs = λ t has. ap (λ (u : Buf V G F). u.pairs) same ∙ h.pairs t has;
    kept = h.kept;
    kept_filled = h.kept_filled;
    sums = record { idle = s.idle; dropped = s.dropped; inflow = s.inflow; outflow = s.outflow; made = s.made; used = s.used };
    there = λ t v. still_there (nothing k) (l.bufs b f) (makes k r x content l b f) (h.there t v);
    there_filled = λ t v. still_there (nothing k) (l.bufs b f) (makes k r x content l b f) (h.there_filled t v);
    only_there = come_only r x content l b f (come_touched r x content l b f low due holds) h.only_there (makes k r x content l b f) refl;
  }
    where
      same : read k (cond (makes k r x content l b f) (Some (nothing k)) (l.bufs b f)) ≡ read k (l.bufs b f)
      same = read_same (l.bufs b f) (makes k r x content l b f) (λ e. (makes_is r x content l b f e).absent)

  come_lease : (r : ℕ) (x : X) (content : ℕ → P) (l : Local V G F W) (b f g n j : ℕ) → StageLease k start g n j l b f → StageLease k start g n j (arrived k r x content l) b f
  come_lease r x content l b f g n j t = record {
    lent = λ u. let v = t.lent u in (still_there (nothing k) (l.bufs b f) (makes k r x content l b f) v.0, v.1);
    rest = λ u v. let w = t.rest u v in record {
      untouched = w.untouched;
      unsent = w.unsent;
      untouched_filled = w.untouched_filled;
      ghosts = ap (λ (o : Buf V G F). o.ghosts) same ∙ w.ghosts;
      pairs = ap (λ (o : Buf V G F). o.pairs) same ∙ w.pairs;
    };
  }
    where
      same : read k (cond (makes k r x content l b f) (Some (nothing k)) (l.bufs b f)) ≡ read k (l.bufs b f)
      same = read_same (l.bufs b f) (makes k r x content l b f) (λ e. (makes_is r x content l b f e).absent)

  come_agrees : (g : ℕ) (out : Bool) (r : ℕ) (x : X) (content : ℕ → P) (l : Local V G F W) (b f : ℕ) → r < 2 * k.stages → is_due (plan_of k) r x ≡ true → g < 3 * r + 2 → LetterAgrees k start r x content → Agrees k start g out l b f → Agrees k start g out (arrived k r x content l) b f
  come_agrees g out r x content l b f low due unread holds a = record {
    stage = λ n j e h w. come_stage r x content l b f n j low due holds (a.stage n j e h w);
    lease = λ n j e h w t. come_lease r x content l b f g n j (a.lease n j e h w t);
    lease_all = λ h. absurd (omega arith);
    reacted = λ h. absurd (omega arith);
    buffers = λ h. absurd (omega arith);
    wished = λ h. absurd (omega arith);
    checked = λ h. absurd (omega arith);
  }

  -- what has come
  made_there : (u : Buf V G F) (o : Option (Buf V G F)) (b : Bool) → (is_some o ≡ false → b ≡ true) → is_some (cond b (Some u) o) ≡ true
  made_there u None b h = ap (λ (v : Bool). is_some (cond v (Some u) None)) (h refl)
  made_there u (Some w) true h = refl
  made_there u (Some w) false h = refl

  has_come : (r : ℕ) (x : X) (content : ℕ → P) (l : Local V G F W) → LetterAgrees k start r x content → Came r x (arrived k r x content l)
  has_come r x content l holds n f e sp has more = made_there (nothing k) (l.bufs (k.to x) f) (makes k r x content l (k.to x) f) (λ absent.
      and_from (r % 2 == 0) (k.to x == k.to x && (not (is_some (l.bufs (k.to x) f)) && (k.is_sparse f && (k.has_ghosts f && not (k.is_blank (content f)))))) (even_round k r n e)
      (and_from (k.to x == k.to x) (not (is_some (l.bufs (k.to x) f)) && (k.is_sparse f && (k.has_ghosts f && not (k.is_blank (content f))))) (eq-eqb (k.to x) (k.to x) refl)
      (and_from (not (is_some (l.bufs (k.to x) f))) (k.is_sparse f && (k.has_ghosts f && not (k.is_blank (content f)))) (not_from_false (is_some (l.bufs (k.to x) f)) absent)
      (and_from (k.is_sparse f) (k.has_ghosts f && not (k.is_blank (content f))) sp
      (and_from (k.has_ghosts f) (not (k.is_blank (content f))) has (not_from_false (k.is_blank (content f)) (ap k.is_blank (holds.ghosts n f e has) ∙ more)))))))

  work_there : (j : ℕ) (content : X → ℕ → P) (l : Local V G F W) (b f : ℕ) → is_some (l.bufs b f) ≡ true → is_some ((stage_work k j content l).bufs b f) ≡ true
  work_there zero content l b f h = h
  work_there (suc zero) content l b f h = still_there (record (cond (l.leased b f) (read k (l.bufs b f)) (nothing k)) { ghosts = k.ghosts b f (λ x. content x f) }) (l.bufs b f) (l.leased b f || (k.is_sparse f && (k.has_ghosts f && k.flows_in b f))) h
  work_there (suc (suc zero)) content l b f h = still_there (record (read k (l.bufs b f)) { pairs = k.fluxes b f (read k (l.bufs b f)).cells (read k (l.bufs b f)).ghosts }) (l.bufs b f) (l.leased b f) h
  work_there (suc (suc (suc zero))) content l b f h = h
  work_there (suc (suc (suc (suc zero)))) content l b f h = still_there (record (read k (l.bufs b f)) { pairs = k.corrected b f (read k (l.bufs b f)).pairs (λ x. content x f) }) (l.bufs b f) (l.leased b f) h
  work_there (suc (suc (suc (suc (suc j))))) content l b f h = still_there (record (read k (l.bufs b f)) { cells = cond (l.kept b f) (k.update b f (read k (l.bufs b f)).cells (read k (l.bufs b f)).pairs) k.no_cells }) (l.bufs b f) (l.leased b f) h

  pub supplies : Carries (plan_of k) (sparse k start) Good Came (LetterAgrees k start)
  supplies = record {
    begins = λ i b f own. first_agrees b f;
    takes = λ i g l more good come b f own. take_agrees i g l b f own (good b f own) come;
    gives = λ i g content l more good c. give_agrees i g content l more good c;
    sends = λ i r x l low due own good. sent_agrees i r x l low own good;
    comes = λ g out r x content l low due unread _ good holds b f own. come_agrees g out r x content l b f low due unread holds (good b f own);
    came = λ r x content l low due holds. has_come r x content l holds;
    still_come = λ r x l q y content h n f e sp has more. still_there (nothing k) (l.bufs (k.to x) f) (makes k q y content l (k.to x) f) (h n f e sp has more);
    still_taken = λ r x l g h. h;
    still_given = λ r x l g content low unread h n f e sp has more. ap (λ (v : Local V G F W). is_some (v.bufs (k.to x) f)) (work_in_stage k g (g / 6) (g % 6) content l (omega arith) (omega arith) (omega arith)) ∙ work_there (g % 6) content l (k.to x) f (h n f e sp has more);
  }
