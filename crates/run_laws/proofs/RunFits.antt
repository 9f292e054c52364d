-- The states of a run are fit.
use Rattle.std.proofs.Common.{◌≡◌, ℕ, zero, suc, ◌<◌, ◌≤◌, Bool, true, false, cond, List, [], ◌∷◌, length, map, All, sym, subst, arith}
use Rattle.std.specs.List.{slice_index_or}
use Rattle.std.proofs.lemmas.List.{length-map}
use Rattle.std.proofs.lemmas.List.Elements.{All-from_get_or}
use Rattle.morton_order.specs.declared.space.Loc.{Loc}
use Rattle.morton_order.specs.declared.space.Shape.{Shape}
use Rattle.package_fields.specs.Kernel.{Reacted}
use Rattle.problem_set.specs.declared.problem.Problem.{Problem}
use Rattle.problem_set.specs.SettingsOf.{settings_of}
use Rattle.block_tree.specs.Tree.{is_listed}
use Rattle.block_tree.specs.Leaves.{leaves_of}
use Rattle.mesh_rules.specs.Mesh.{Mesh, is_inner, leaf_number}
use Rattle.mesh_rules.specs.Remesh.{carried_counter, carried_counters, next_tree}
use Rattle.mesh_rules.specs.Cycle.{State, settled, tags_of}
use Rattle.mesh_rules.specs.Opening.{opening_mesh}
use Rattle.mesh_rules.specs.Run.{Reached, remeshed, run, running}
use Rattle.mesh_rules.specs.Fit.{IsMeshOf}
use Rattle.run_laws.specs.FitLaws.{RunsAreFit}
use Rattle.run_laws.proofs.CycleMeshes.{on_checked}
use Rattle.run_laws.proofs.Fits.{StateFits, opened_fits, settled_fits}
use Rattle.run_laws.proofs.NextLeaves.{Follows, next_follows}
use Rattle.run_laws.proofs.RemeshMasks.{remasked_fits, remasked_zero}
use Rattle.run_laws.proofs.RunBounds.{runs_stay}
use Rattle.run_laws.proofs.RunTrees.{LeadsTo, comes_from, mapped, moves_on, next_tree_is, run_stands, starts_from, stays_there}
use Rattle.run_laws.proofs.Slots.{origin}

-- counters that are carried stay within their limit
item_within : (limit : ℕ) (xs : List ℕ) → All (λ count. count ≤ limit) xs → (k : ℕ) → slice_index_or xs k 0 ≤ limit
item_within limit [] all k = omega arith
item_within limit (x ∷ xs) all zero = all 0 0 (omega arith)
item_within limit (x ∷ xs) all (suc k) = item_within limit xs (λ i d inside. all (suc i) d (omega (arith, inside))) k

one_within : (limit : ℕ) (m : Mesh) (counters : List ℕ) → All (λ count. count ≤ limit) counters → (l : Loc) → carried_counter m counters l ≤ limit
one_within limit m counters all l = by (is_listed m.leaves l)
  where
    by : (b : Bool) → cond b (slice_index_or counters (leaf_number m l) 0) 0 ≤ limit
    by true = item_within limit counters all (leaf_number m l)
    by false = omega arith

carried_within : (limit : ℕ) (m : Mesh) (counters : List ℕ) (leaves : List Loc) → All (λ count. count ≤ limit) counters → All (λ count. count ≤ limit) (carried_counters m counters leaves)
carried_within limit m counters leaves all =
    let g : Loc → ℕ = carried_counter m counters in
    All-from_get_or (λ count. count ≤ limit) (map g leaves) 0
    (λ i small.
    let inside : i < length leaves = omega (arith, small, length-map leaves g) in
    subst (λ (n : ℕ). n ≤ limit) (sym (mapped g leaves i origin 0 inside)) (one_within limit m counters all (slice_index_or leaves i origin)))

-- a cycle that ends on the next tree
remeshed_fits : (p : Problem) (react : List ℕ → Reacted) (s : State) → IsMeshOf (settings_of p) s.mesh → StateFits (settings_of p) s
    → StateFits (settings_of p) (remeshed (settings_of p) (settled (settings_of p) react s) (next_tree (settings_of p) s.mesh (tags_of (settings_of p) react s)))
remeshed_fits p react s of before =
    let q = settings_of p in
    let next = next_tree q s.mesh (tags_of q react s) in
    let after = settled q react s in
    let m = after.mesh in
    let on = on_checked q react s of in
    let fit = settled_fits p react s of before in
    let tree = (next_tree_is p react s of m.shape on.shape).0 in
    let here = subst (λ (sh : Shape). Follows sh (is_inner s.mesh) next) (sym on.shape) (next_follows p react s of) in
    let follows = subst (λ (xs : List Loc). Follows m.shape (is_listed xs) next) (sym on.inner) here in
    record {
      mask = remasked_fits q m after.mask next on.mesh tree follows p.stepping_sound.sparsity_sound.least_count fit.mask;
      zero_outside = remasked_zero q m after.mask next on.mesh tree follows fit.zero_outside;
      counter_list = length-map (leaves_of m.shape next) (carried_counter m after.counters);
      counters = carried_within q.derefine_count m after.counters (leaves_of m.shape next) fit.counters;
    }

-- each cycle, and so the whole run
cycle_fits : (p : Problem) (react : List ℕ → Reacted) (s : State) (r : Reached) → IsMeshOf (settings_of p) s.mesh → StateFits (settings_of p) s → LeadsTo (settings_of p) react s r → StateFits (settings_of p) r.state
cycle_fits p react s r of fit (stays_there e) = subst (λ (x : Reached). StateFits (settings_of p) x.state) (sym e) (settled_fits p react s of fit)
cycle_fits p react s r of fit (moves_on few e) = subst (λ (x : Reached). StateFits (settings_of p) x.state) (sym e) (remeshed_fits p react s of fit)

run_fits : (p : Problem) (react : List ℕ → Reacted) (c : ℕ) (r : Reached) → run (settings_of p) react c ≡ running r → StateFits (settings_of p) r.state
run_fits p react zero r e =
    let q = settings_of p in
    let is = starts_from p react r e in
    let of : IsMeshOf q (opening_mesh q) = subst (λ (x : Reached). IsMeshOf q x.state.mesh) is (run_stands p react 0 r e) in
    subst (λ (x : Reached). StateFits q x.state) (sym is) (opened_fits p of)
run_fits p react (suc c) r e =
    let from = comes_from (settings_of p) react c r e in
    cycle_fits p react from.before.state r (run_stands p react c from.before from.runs) (run_fits p react c from.before from.runs) from.leads

pub runs_fit : RunsAreFit
runs_fit p react c r laws more e =
    let fit = run_fits p react c r e in
    record {
      mesh = run_stands p react c r e;
      mask = record {
        leaf_slots = fit.mask.leaf_slots;
        field_slots = fit.mask.field_slots;
        always = λ leaf f inside within h. (fit.mask.slots leaf f inside within).always h;
        zero = fit.zero_outside;
        fresh = λ leaf f inside within h. (fit.mask.slots leaf f inside within).fresh h;
        idle = λ leaf f inside within. (fit.mask.slots leaf f inside within).idle;
      };
      counter_list = fit.counter_list;
      counters = fit.counters;
      room = runs_stay p react c r laws more e;
    }
