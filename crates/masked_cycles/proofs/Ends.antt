-- Lists of events end as the cycle does, and sums over all blocks are the cycle's.
use Rattle.std.proofs.Common.{◌≡◌, ℕ, suc, ◌+◌, ◌<◌, Some, List, [], ◌∷◌, length, refl, arith, ap, ◌∙◌}
use Rattle.std.specs.List.{range_with_len, slice_index_or, sum_by}
use Rattle.std.proofs.lemmas.List.Sums.{sum_by-cons}
use Rattle.morton_order.specs.declared.space.Loc.{Loc}
use Rattle.problem_set.specs.SettingsOf.{settings_of}
use Rattle.mesh_rules.specs.declared.wish.Wish.{Wish}
use Rattle.mesh_rules.specs.Due.{Exchange}
use Rattle.mesh_rules.specs.Sums.{sum_over}
use Rattle.mesh_rules.specs.Cycle.{leaf_drop, leaf_flow}
use Rattle.sparse_rounds.specs.Masked.{checked_run}
use Rattle.sparse_rounds.proofs.Ends.{ends_masked}
use Rattle.dense_mask.proofs.Leaves.{origin}
use Rattle.cycle_kernels.specs.Pairs.{FacePairs}
use Rattle.masked_cycles.specs.Cycles.{AllSumsAgree, CheckAgrees, kernels, start_of}
use Rattle.masked_cycles.specs.Ends.{CyclesEnd}
use Rattle.masked_cycles.proofs.Starts.{starts_are_starts}
use Rattle.masked_cycles.proofs.Trees.{laws_of}
use Rattle.masked_cycles.proofs.Checking.{checks_agree}
use Rattle.masked_cycles.proofs.Wishes.{wishes_agree}

pub cycles_end : CyclesEnd
cycles_end c events b f is at history done =
    let e = ends_masked Exchange (List ℕ) (List ℕ) FacePairs (List ℕ) Wish (kernels c) (start_of c) events (laws_of c is) (starts_are_starts c is) history done b f in
    let a = checks_agree c b f is at in
    record {
      totals = e.run.cells ∙ a.holds.totals;
      buffers = e.buffers ∙ a.holds.kept;
      keeps = e.run.kept ∙ a.holds.kept;
      idles = e.run.sums.idle ∙ a.holds.idle;
      wished = e.wishes ∙ ap (λ (w : Wish). Some w) (wishes_agree c b is at.block);
      drops = e.run.sums.dropped ∙ a.dropped;
      flows_in = e.run.sums.inflow ∙ a.flows.inflow;
      flows_out = e.run.sums.outflow ∙ a.flows.outflow;
      makes = e.run.sums.made ∙ a.flows.made;
      uses = e.run.sums.used ∙ a.flows.used;
    }

-- a sum over the numbers of leaves is one over the leaves
over_leaves : (a : ℕ) (xs : List Loc) (each : ℕ → ℕ) (g : Loc → ℕ) → ((i : ℕ) → i < length xs → each (a + i) ≡ g (slice_index_or xs i origin)) → sum_by each (range_with_len a (length xs)) ≡ sum_over xs g
over_leaves a [] each g h = refl
over_leaves a (x ∷ xs) each g h =
    let z : a ≡ a + 0 = omega arith in
    let first : each a ≡ g x = ap each z ∙ h 0 (omega arith) in
    let rest = over_leaves (a + 1) xs each g (λ i few. let e : a + 1 + i ≡ a + suc i = omega arith in ap each e ∙ h (suc i) (omega arith)) in
    sum_by-cons each a (range_with_len (a + 1) (length xs)) ∙ ap (λ v. v + sum_by each (range_with_len (a + 1) (length xs))) first ∙ ap (λ v. g x + v) rest

pub sums_agree : AllSumsAgree
sums_agree c f is some = record {
  inflow = over_leaves 0 c.state.mesh.leaves (λ b. (checked_run (kernels c) (start_of c)).inflow b f) (λ l. (leaf_flow (settings_of c.problem) c.react c.state f l).inflow) (λ i few. ap (λ b. (checked_run (kernels c) (start_of c)).inflow b f) (plain i) ∙ (at i few).flows.inflow);
  outflow = over_leaves 0 c.state.mesh.leaves (λ b. (checked_run (kernels c) (start_of c)).outflow b f) (λ l. (leaf_flow (settings_of c.problem) c.react c.state f l).outflow) (λ i few. ap (λ b. (checked_run (kernels c) (start_of c)).outflow b f) (plain i) ∙ (at i few).flows.outflow);
  made = over_leaves 0 c.state.mesh.leaves (λ b. (checked_run (kernels c) (start_of c)).made b f) (λ l. (leaf_flow (settings_of c.problem) c.react c.state f l).made) (λ i few. ap (λ b. (checked_run (kernels c) (start_of c)).made b f) (plain i) ∙ (at i few).flows.made);
  used = over_leaves 0 c.state.mesh.leaves (λ b. (checked_run (kernels c) (start_of c)).used b f) (λ l. (leaf_flow (settings_of c.problem) c.react c.state f l).used) (λ i few. ap (λ b. (checked_run (kernels c) (start_of c)).used b f) (plain i) ∙ (at i few).flows.used);
  dropped = over_leaves 0 c.state.mesh.leaves (λ b. (checked_run (kernels c) (start_of c)).dropped b f) (leaf_drop (settings_of c.problem) c.react c.state f) (λ i few. ap (λ b. (checked_run (kernels c) (start_of c)).dropped b f) (plain i) ∙ (at i few).dropped);
}
  where
    plain : (n : ℕ) → 0 + n ≡ n
    plain n = omega arith

    at : (i : ℕ) → i < length c.state.mesh.leaves → CheckAgrees c i f
    at i few = checks_agree c i f is (record { block = few; field = some })
