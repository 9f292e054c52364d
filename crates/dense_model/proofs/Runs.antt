-- A run, cycle by cycle.
use Rattle.std.proofs.Common.{◌≡◌, ◌∙◌, ℕ, zero, suc, ◌+◌, ◌-◌, ◌*◌, ◌^◌, ◌<◌, ◌≤◌, Bool, true, false, cond, nat_le, length, ap, arith, refl, subst, sym, ⊎_elim}
use Rattle.std.proofs.Math.Nat.{mul-le-mul_left}
use Rattle.std.proofs.lemmas.Bool.{cases_lt}
use Rattle.std.proofs.lemmas.Bool.Decides.{nat_tests}
use Rattle.block_tree.specs.Leaves.{leaves_of}
use Rattle.problem_set.specs.Settings.{Settings}
use Rattle.problem_set.specs.declared.problem.Problem.{Problem}
use Rattle.problem_set.specs.SettingsOf.{settings_of}
use Rattle.mesh_rules.specs.Sums.{sum_to}
use Rattle.mesh_rules.specs.Fit.{IsFit, IsMeshOf, sum_of_all}
use Rattle.mesh_rules.specs.Opening.{opening_state, opening_tree}
use Rattle.mesh_rules.specs.Reaction.{kernel_of}
use Rattle.mesh_rules.specs.Cycle.{State, settled, tags_of}
use Rattle.mesh_rules.specs.Files.{lines_of_cycle, of_running}
use Rattle.mesh_rules.specs.Texts.{history_lines}
use Rattle.mesh_rules.specs.Remesh.{next_tree}
use Rattle.mesh_rules.specs.Run.{Reached, cycled, end_on_tree, leaf_limit, next_outcome, opened, reached, remeshed, remeshes_at, run, run_from, running, start_of, too_many_at, too_many_at_start}
use Rattle.run_laws.proofs.CycleBounds.{most_inflow}
use Rattle.run_laws.proofs.RunBounds.{sum_at}
use Rattle.run_laws.proofs.RunFits.{runs_fit}
use Rattle.run_laws.proofs.RunTrees.{run_stands}
use Rattle.dense_model.specs.declared.fault.DenseFault.{DenseFault}
use Rattle.dense_model.specs.declared.fault.DenseFault.TheVariants.{NoMemory, TooManyAtStart, TooManyBlocks}
use Rattle.dense_model.specs.Next.{StopsCycle}
use Rattle.dense_model.specs.RunFiles.{CannotGoOn, run_of}
use Rattle.dense_model.proofs.Reactions.{problem_laws}

-- the next cycle of a run that goes on
pub run_next : (q : Settings) (n : ℕ) (r : Reached) → run_of q n ≡ running r → run_of q (n + 1) ≡ cycled q (kernel_of q) (n + 1) r.state
unfolding run_of run run_from
run_next q n r e =
    let s : n + 1 ≡ suc n = omega arith in
    let z : 0 + suc n ≡ n + 1 = omega arith in
    ap (run_of q) s ∙ ap (next_outcome q (kernel_of q) (0 + suc n)) e ∙ ap (λ k. cycled q (kernel_of q) k r.state) z

-- before its first cycle
pub run_opens : (q : Settings) → run_of q 0 ≡ opened q
unfolding run_of run run_from
run_opens q = refl

few_test : (a b : ℕ) → a ≤ b → nat_le a b ≡ true
few_test a b h = grind (arith, nat_tests)

many_test : (a b : ℕ) → b < a → nat_le a b ≡ false
many_test a b h = grind (arith, nat_tests)

pub opens_running : (q : Settings) → length (leaves_of q.shape (opening_tree q)) ≤ leaf_limit → run_of q 0 ≡ running (start_of q (opening_state q))
opens_running q few = run_opens q ∙ ap (λ (b : Bool). cond b (running (start_of q (opening_state q))) too_many_at_start) (few_test (length (leaves_of q.shape (opening_tree q))) leaf_limit few)

pub opens_stopped : (q : Settings) → leaf_limit < length (leaves_of q.shape (opening_tree q)) → run_of q 0 ≡ too_many_at_start
opens_stopped q many = run_opens q ∙ ap (λ (b : Bool). cond b (running (start_of q (opening_state q))) too_many_at_start) (many_test (length (leaves_of q.shape (opening_tree q))) leaf_limit many)

-- each mesh of a run stands on a tree of the problem, and its totals keep within the bound
pub reached_mesh : (p : Problem) (n : ℕ) (r : Reached) → run_of (settings_of p) n ≡ running r → IsMeshOf (settings_of p) r.state.mesh
unfolding run_of
reached_mesh p n r e = run_stands p (kernel_of (settings_of p)) n r e

pub reached_bound : (p : Problem) (n : ℕ) (r : Reached) → n ≤ p.nlim → run_of (settings_of p) n ≡ running r → sum_of_all (settings_of p) r.state.mesh ≤ 2 ^ 62 - 1
unfolding run_of
reached_bound p n r within e =
    let at = sum_at p (kernel_of (settings_of p)) (problem_laws p) n r e in
    let all = p.totals_fit in
    let one : most_inflow p * (p.nlim * p.nstages) ≡ most_inflow p * p.nstages * p.nlim = grind arith in
    let le = mul-le-mul_left (most_inflow p * p.nstages) within in
    omega (arith, at, all, one, le)

-- a state of a run that goes on is fit
pub reached_fit : (p : Problem) (n : ℕ) (r : Reached) → n < p.nlim → run_of (settings_of p) n ≡ running r → IsFit (settings_of p) r.state
unfolding run_of
reached_fit p n r more e = runs_fit p (kernel_of (settings_of p)) n r (problem_laws p) more e

-- a part of a sum
pub next_le : (n k : ℕ) (each : ℕ → ℕ) → k < n → sum_to k each + each k ≤ sum_to n each
next_le zero k each h = absurd (omega (arith, h))
next_le (suc n) k each h = ⊎_elim (λ (below : k < n). omega (arith, next_le n k each below)) (λ (here : n ≤ k). let e : k ≡ n = omega (arith, here, h) in subst (λ i. sum_to i each + each i ≤ sum_to n each + each n) (sym e) (omega arith)) (cases_lt k n)

-- how a cycle ends: on the same tree, on the next one, or stopped by it
pub cycle_stays : (q : Settings) (cycle : ℕ) (s : State) → remeshes_at q cycle ≡ false → cycled q (kernel_of q) cycle s ≡ running (reached q (kernel_of q) s (settled q (kernel_of q) s))
cycle_stays q cycle s none =
    let k = kernel_of q in
    ap (λ (b : Bool). cond b (end_on_tree q k cycle s (settled q k s) (next_tree q s.mesh (tags_of q k s))) (running (reached q k s (settled q k s)))) none

pub cycle_moves : (q : Settings) (cycle : ℕ) (s : State) → remeshes_at q cycle ≡ true → length (leaves_of s.mesh.shape (next_tree q s.mesh (tags_of q (kernel_of q) s))) ≤ leaf_limit
    → cycled q (kernel_of q) cycle s ≡ running (reached q (kernel_of q) s (remeshed q (settled q (kernel_of q) s) (next_tree q s.mesh (tags_of q (kernel_of q) s))))
cycle_moves q cycle s due few =
    let k = kernel_of q in
    let inner = next_tree q s.mesh (tags_of q k s) in
    let n = length (leaves_of s.mesh.shape inner) in
    ap (λ (b : Bool). cond b (end_on_tree q k cycle s (settled q k s) inner) (running (reached q k s (settled q k s)))) due
    ∙ ap (λ (b : Bool). cond b (running (reached q k s (remeshed q (settled q k s) inner))) (too_many_at cycle n)) (few_test n leaf_limit few)

pub cycle_stops : (q : Settings) (cycle : ℕ) (s : State) (count : ℕ) → remeshes_at q cycle ≡ true → count ≡ length (leaves_of s.mesh.shape (next_tree q s.mesh (tags_of q (kernel_of q) s))) → leaf_limit < count
    → cycled q (kernel_of q) cycle s ≡ too_many_at cycle count
cycle_stops q cycle s count due is many =
    let k = kernel_of q in
    let inner = next_tree q s.mesh (tags_of q k s) in
    let n = length (leaves_of s.mesh.shape inner) in
    ap (λ (b : Bool). cond b (end_on_tree q k cycle s (settled q k s) inner) (running (reached q k s (settled q k s)))) due
    ∙ ap (λ (b : Bool). cond b (running (reached q k s (remeshed q (settled q k s) inner))) (too_many_at cycle n)) (many_test n leaf_limit (omega (arith, is, many)))
    ∙ ap (too_many_at cycle) (sym is)

-- a cycle that stops the run
pub stops_run : (q : Settings) (n : ℕ) (r : Reached) → run_of q n ≡ running r → (fault : DenseFault) → StopsCycle q r.state (n + 1) fault → CannotGoOn (record { problem = q; cycle = n }) fault
stops_run q n r runs NoMemory h = h
stops_run q n r runs TooManyAtStart h = h
stops_run q n r runs (TooManyBlocks at count) h = (h.0, ap (run_of q) h.0 ∙ run_next q n r runs ∙ h.1)

-- the lines of a cycle of a run that goes on
pub lines_are : (q : Settings) (n : ℕ) (r : Reached) → run_of q n ≡ running r → history_lines q n r ≡ lines_of_cycle q (kernel_of q) n
unfolding run_of
lines_are q n r runs = sym (ap (of_running (history_lines q n)) runs)
