-- Which task a count of given tasks stands before.
use Rattle.std.proofs.Common.{◌≡◌, ℕ, ◌+◌, ◌-◌, ◌*◌, ◌%◌, ◌<◌, ◌≤◌, ◌==◌, Bool, true, false, cond, nat_lt, arith, ap, ◌∙◌, eq-eqb, count_by}
use Rattle.std.specs.List.{list_any}
use Rattle.std.proofs.lemmas.Bool.{le-ltb, lt-ltb, ne_eqb}
use Rattle.cycle_rounds.specs.Plan.{IsPlan, is_due}
use Rattle.sparse_rounds.specs.Kernels.{AreKernels, Kernels}
use Rattle.sparse_rounds.specs.Sparse.{Local, has_flag, plan_of, stage_work, tail_work, work_of}

module _ {X V G F P W : Type 0} (k : Kernels X V G F P W) where
  sixth : (g n j : ℕ) → g ≡ 6 * n + j → j < 6 → g % 6 ≡ j
  sixth g n j e h = omega arith

  pub flag_of_ghosts : (g n j f : ℕ) → g ≡ 6 * n + j → j < 2 → g < 6 * k.stages → has_flag k g f ≡ k.has_ghosts f
  flag_of_ghosts g n j f e h low =
      ap (λ (v : Bool). cond v (cond (nat_lt (g % 6) 2) (k.has_ghosts f) (k.has_fluxes f)) true) (lt-ltb g (6 * k.stages) low)
      ∙ ap (λ (v : Bool). cond v (k.has_ghosts f) (k.has_fluxes f)) (lt-ltb (g % 6) 2 (let a = sixth g n j e (omega arith) in omega arith))

  pub flag_of_fluxes : (g n j f : ℕ) → g ≡ 6 * n + j → 2 ≤ j → j < 6 → g < 6 * k.stages → has_flag k g f ≡ k.has_fluxes f
  flag_of_fluxes g n j f e l h low =
      ap (λ (v : Bool). cond v (cond (nat_lt (g % 6) 2) (k.has_ghosts f) (k.has_fluxes f)) true) (lt-ltb g (6 * k.stages) low)
      ∙ ap (λ (v : Bool). cond v (k.has_ghosts f) (k.has_fluxes f)) (le-ltb (g % 6) 2 (let a = sixth g n j e h in omega arith))

  pub flag_of_all : (g f : ℕ) → 6 * k.stages ≤ g → has_flag k g f ≡ true
  flag_of_all g f high = ap (λ (v : Bool). cond v (cond (nat_lt (g % 6) 2) (k.has_ghosts f) (k.has_fluxes f)) true) (le-ltb g (6 * k.stages) high)

  pub work_in_stage : (g n j : ℕ) (content : X → ℕ → P) (l : Local V G F W) → g ≡ 6 * n + j → j < 6 → g < 6 * k.stages → work_of k g content l ≡ stage_work k j content l
  work_in_stage g n j content l e h low =
      ap (λ (v : Bool). cond v (stage_work k (g % 6) content l) (tail_work k (g - 6 * k.stages) l)) (lt-ltb g (6 * k.stages) low)
      ∙ ap (λ v. stage_work k v content l) (sixth g n j e h)

  pub work_in_tail : (g t : ℕ) (content : X → ℕ → P) (l : Local V G F W) → g ≡ 6 * k.stages + t → work_of k g content l ≡ tail_work k t l
  work_in_tail g t content l e =
      ap (λ (v : Bool). cond v (stage_work k (g % 6) content l) (tail_work k (g - 6 * k.stages) l)) (le-ltb g (6 * k.stages) (omega arith))
      ∙ ap (λ v. tail_work k v l) (past g t e)
    where
      past : (g t : ℕ) → g ≡ 6 * k.stages + t → g - 6 * k.stages ≡ t
      past g t e = omega arith

  -- the rounds of a stage
  pub even_round : (r n : ℕ) → r ≡ 2 * n → (r % 2 == 0) ≡ true
  even_round r n e = eq-eqb (r % 2) 0 (omega arith)

  pub odd_round : (r n : ℕ) → r ≡ 2 * n + 1 → (r % 2 == 0) ≡ false
  odd_round r n e = ne_eqb (r % 2) 0 (λ z. omega arith)

  pub due_ghosts : (r n : ℕ) (x : X) → r ≡ 2 * n → is_due (plan_of k) r x ≡ list_any (k.same x) k.ghost_due
  due_ghosts r n x e = ap (λ (v : Bool). list_any (k.same x) (cond v k.ghost_due k.flux_due)) (even_round r n e)

  pub due_fluxes : (r n : ℕ) (x : X) → r ≡ 2 * n + 1 → is_due (plan_of k) r x ≡ list_any (k.same x) k.flux_due
  due_fluxes r n x e = ap (λ (v : Bool). list_any (k.same x) (cond v k.ghost_due k.flux_due)) (odd_round r n e)

  due_once : (b : Bool) (x : X) → AreKernels k → count_by (k.same x) (cond b k.ghost_due k.flux_due) ≤ 1
  due_once true x laws = laws.ghost_once x
  due_once false x laws = laws.flux_once x

  pub is_plan : AreKernels k → IsPlan (plan_of k)
  is_plan laws = record {
    same_is = laws.same_is;
    is_same = laws.is_same;
    once = λ r x. due_once (r % 2 == 0) x laws;
    sender = λ r x h. laws.owned (k.from x);
    reader = λ r x h. laws.owned (k.to x);
  }
