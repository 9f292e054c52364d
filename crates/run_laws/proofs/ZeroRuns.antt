-- At zero thresholds a run is that which knows of no mask.
use Rattle.std.proofs.Common.{◌≡◌, ℕ, zero, suc, ◌+◌, ◌<◌, Bool, true, false, cond, ◌||◌, not, nat_le, List, length, refl, arith, ap, subst, sym, ◌∙◌}
use Rattle.std.specs.List.{slice_index_or}
use Rattle.std.proofs.lemmas.List.{get_or-replicate}
use Rattle.block_tree.specs.Leaves.{leaves_of}
use Rattle.package_fields.specs.Kernel.{Reacted}
use Rattle.problem_set.specs.Settings.{Settings}
use Rattle.problem_set.specs.SettingsOf.{settings_of}
use Rattle.mesh_rules.specs.Sums.{table}
use Rattle.mesh_rules.specs.Mesh.{Mesh}
use Rattle.mesh_rules.specs.Fields.{field_count}
use Rattle.mesh_rules.specs.Tags.{counters_after, tags_after}
use Rattle.mesh_rules.specs.Remesh.{carried_counters, next_tree, remap}
use Rattle.mesh_rules.specs.Cycle.{State, checked, drop_of, reacted_to, settled, tags_of}
use Rattle.mesh_rules.specs.Unmasked.{dense_reacted}
use Rattle.mesh_rules.specs.Run.{Outcome, Reached, cycled, leaf_limit, next_outcome, opened, reached, remeshed, remeshes_at, run, run_from, running, too_many_at, too_many_at_start}
use Rattle.run_laws.specs.ZeroThresholds.{DenseState, IsDenseRun, ZeroThresholdRunsAreDense, ZeroThresholdRunsStopAlike, dense_leaves, dense_run}
use Rattle.run_laws.proofs.RunFits.{runs_fit}
use Rattle.run_laws.proofs.RunTrees.{starts_from, table_at}
use Rattle.run_laws.proofs.ZeroThresholds.{zero_thresholds}

-- what comes before a cycle that goes on
record ComesOn (q : Settings) (react : List ℕ → Reacted) (c : ℕ) (r : Reached) : Type 0 where
  before : Reached
  runs : run q react c ≡ running before
  leads : cycled q react (suc c) before.state ≡ running r

comes_on : (q : Settings) (react : List ℕ → Reacted) (c : ℕ) (r : Reached) → run q react (suc c) ≡ running r → ComesOn q react c r
unfolding run run_from
comes_on q react c r e = by (run_from q react 0 (opened q) c) refl e
  where
    number : 0 + suc c ≡ suc c
    number = omega arith

    by : (o : Outcome) → run_from q react 0 (opened q) c ≡ o → next_outcome q react (0 + suc c) o ≡ running r → ComesOn q react c r
    by (running before) is h = record { before = before; runs = is; leads = subst (λ (k : ℕ). cycled q react k before.state ≡ running r) number h }
    by too_many_at_start is h = cc
    by (too_many_at at leaves) is h = cc

-- where a cycle leads that starts with a mesh and counters, by the mesh after its reaction and the one after its check
abbrev led_to : Settings → Bool → Mesh → List ℕ → Mesh → Mesh → DenseState
led_to q remeshes m counters after end =
    let next = next_tree q m (tags_after q after counters) in
    cond remeshes
    (record { mesh = remap end (field_count q) next; counters = carried_counters end (counters_after q after counters) (leaves_of end.shape next) })
    (record { mesh = end; counters = counters_after q after counters })

record Ends (q : Settings) (react : List ℕ → Reacted) (remeshes : Bool) (s : State) (r : Reached) : Type 0 where
  mesh : r.state.mesh ≡ (led_to q remeshes s.mesh s.counters (reacted_to q react s).mesh (checked q react s).mesh).mesh
  counters : r.state.counters ≡ (led_to q remeshes s.mesh s.counters (reacted_to q react s).mesh (checked q react s).mesh).counters
  drops : r.drops ≡ table (field_count q) (drop_of q react s)

goes_on : (x r : Reached) → running x ≡ running r → r ≡ x
goes_on x r e = cc

ends : (q : Settings) (react : List ℕ → Reacted) (k : ℕ) (s : State) (r : Reached) → cycled q react k s ≡ running r → Ends q react (remeshes_at q k) s r
ends q react k s r e = by (remeshes_at q k) (nat_le (length (leaves_of s.mesh.shape (next_tree q s.mesh (tags_of q react s)))) leaf_limit) e
  where
    by : (a b : Bool)
        → cond a (cond b (running (reached q react s (remeshed q (settled q react s) (next_tree q s.mesh (tags_of q react s))))) (too_many_at k (length (leaves_of s.mesh.shape (next_tree q s.mesh (tags_of q react s)))))) (running (reached q react s (settled q react s))) ≡ running r → Ends q react a s r
    by true true h = subst (λ (x : Reached). Ends q react true s x) (sym (goes_on _ r h)) (record { mesh = refl; counters = refl; drops = refl })
    by true false h = cc
    by false b h = subst (λ (x : Reached). Ends q react false s x) (sym (goes_on _ r h)) (record { mesh = refl; counters = refl; drops = refl })

pub runs_dense : ZeroThresholdRunsAreDense
unfolding dense_run
runs_dense p react zero r thresholds laws most e =
    let q = settings_of p in
    let is = starts_from p react r e in
    let none : ℕ = 0 in
    subst (λ (x : Reached). IsDenseRun q react 0 x) (sym is) (record {
      mesh = refl;
      counters = refl;
      drops = λ f within. get_or-replicate (field_count q) f none none within;
    })
runs_dense p react (suc c) r thresholds laws most e =
    let q = settings_of p in
    let from = comes_on q react c r e in
    let s = from.before.state in
    let below : c < p.nlim = omega arith in
    let before = runs_dense p react c from.before thresholds laws (omega arith) from.runs in
    let fit = runs_fit p react c from.before laws below from.runs in
    let same = zero_thresholds p react s thresholds fit.mesh fit.mask in
    let end = ends q react (suc c) s r from.leads in
    let a : Bool = remeshes_at q (suc c) in
    let d = dense_run q react c in
    let led : led_to q a s.mesh s.counters (reacted_to q react s).mesh (checked q react s).mesh ≡ led_to q a d.mesh d.counters (dense_reacted q react d.mesh) (dense_reacted q react d.mesh) =
    ap (λ (x : Mesh). led_to q a s.mesh s.counters x (checked q react s).mesh) same.reacted_mesh
    ∙ ap (λ (x : Mesh). led_to q a s.mesh s.counters (dense_reacted q react s.mesh) x) same.checked_mesh
    ∙ ap (λ (x : Mesh). led_to q a x s.counters (dense_reacted q react x) (dense_reacted q react x)) before.mesh
    ∙ ap (λ (x : List ℕ). led_to q a d.mesh x (dense_reacted q react d.mesh) (dense_reacted q react d.mesh)) before.counters in
    record {
      mesh = end.mesh ∙ ap (λ (x : DenseState). x.mesh) led;
      counters = end.counters ∙ ap (λ (x : DenseState). x.counters) led;
      drops = λ f within. ap (λ (xs : List ℕ). slice_index_or xs f 0) end.drops ∙ table_at (field_count q) (drop_of q react s) f 0 within ∙ same.drops f within;
    }

-- a run stops where the tree of the run without masks has too many leaves
stops_by : (a b : Bool) (x y : Reached) (stop : Outcome) → cond a (cond b (running x) stop) (running y) ≡ cond (not a || b) (running (cond a x y)) stop
stops_by true true x y stop = refl
stops_by true false x y stop = refl
stops_by false b x y stop = refl

pub runs_stop : ZeroThresholdRunsStopAlike
unfolding run run_from
runs_stop p react c r thresholds laws below e =
    let q = settings_of p in
    let s = r.state in
    let at = runs_dense p react c r thresholds laws (omega arith) e in
    let fit = runs_fit p react c r laws below e in
    let same = zero_thresholds p react s thresholds fit.mesh fit.mask in
    let d = dense_run q react c in
    let number : 0 + suc c ≡ suc c = omega arith in
    let a : Bool = remeshes_at q (suc c) in
    let next = next_tree q s.mesh (tags_of q react s) in
    let count : ℕ = length (leaves_of s.mesh.shape next) in
    let stay : Reached = reached q react s (settled q react s) in
    let move : Reached = reached q react s (remeshed q (settled q react s) next) in
    let counted : count ≡ dense_leaves q react d =
    ap (λ (x : Mesh). length (leaves_of s.mesh.shape (next_tree q s.mesh (tags_after q x s.counters)))) same.reacted_mesh
    ∙ ap (λ (x : Mesh). length (leaves_of x.shape (next_tree q x (tags_after q (dense_reacted q react x) s.counters)))) at.mesh
    ∙ ap (λ (x : List ℕ). length (leaves_of d.mesh.shape (next_tree q d.mesh (tags_after q (dense_reacted q react d.mesh) x)))) at.counters in (
      cond a move stay,
      ap (next_outcome q react (0 + suc c)) e
          ∙ ap (λ (k : ℕ). cycled q react k s) number
          ∙ stops_by a (nat_le count leaf_limit) move stay (too_many_at (suc c) count)
          ∙ ap (λ (n : ℕ). cond (not a || nat_le n leaf_limit) (running (cond a move stay)) (too_many_at (suc c) n)) counted,
    )
