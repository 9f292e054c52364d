-- Buffers and letters have what the meshes of the rules say.
use Rattle.std.proofs.Common.{◌≡◌, ℕ, suc, ◌<◌, List, [], ◌∷◌, ◌++◌, length, ap, subst, sym, ◌∙◌}
use Rattle.morton_order.specs.declared.space.Loc.{Loc}
use Rattle.problem_set.specs.SettingsOf.{settings_of}
use Rattle.mesh_rules.specs.declared.wish.Wish.{Wish}
use Rattle.mesh_rules.specs.Due.{Exchange, flux_region}
use Rattle.mesh_rules.specs.Fields.{field_count}
use Rattle.mesh_rules.specs.Mesh.{Mesh}
use Rattle.mesh_rules.specs.Regions.{region}
use Rattle.run_laws.proofs.CycleMeshes.{on_staged}
use Rattle.block_geometry.specs.Blocks.{FieldBlock, IsFieldBlock}
use Rattle.block_geometry.specs.Contents.{HasOwnPairs, HasPairs, SeesAround}
use Rattle.ghost_laws.specs.Layers.{on_block}
use Rattle.flux_regions.proofs.Regions.{flux_parts_are_regions}
use Rattle.cycle_rounds.specs.Events.{Each, Letter}
use Rattle.sparse_rounds.specs.Kernels.{Kernels, ghosts_of, own_pairs, pairs_of}
use Rattle.sparse_rounds.specs.Masked.{reacted_run, run_at}
use Rattle.sparse_rounds.specs.Sparse.{Local}
use Rattle.sparse_rounds.specs.Agreement.{LetterAgrees, RunAgrees, StageAgrees}
use Rattle.sparse_rounds.specs.Laws.{reached}
use Rattle.sparse_rounds.proofs.Ends.{letters_stay_true, stays_masked}
use Rattle.cycle_kernels.specs.Blocks.{CycleMesh, leaf_at}
use Rattle.cycle_kernels.specs.Kernels.{kernels_of}
use Rattle.cycle_kernels.specs.Lists.{with_ghosts}
use Rattle.cycle_kernels.specs.Pairs.{FacePairs, sums_sent}
use Rattle.cycle_kernel_laws.proofs.Sees.{ghosts_see}
use Rattle.kernel_stages.specs.Letters.{IsDue, IsFluxDue}
use Rattle.kernel_stages.specs.Stages.{HasTotals}
use Rattle.kernel_stages.proofs.Senders.{block_on, block_sound, hold_mesh}
use Rattle.kernel_stages.proofs.Corrected.{FromChild, from_child, sums_are}
use Rattle.kernel_stages.proofs.Stages.{own_have, pairs_have, regions_are, sound_of}
use Rattle.masked_cycles.specs.Cycles.{Cycle, IsCycle, IsPlace, cycle_mesh, kernels, start_of}
use Rattle.masked_cycles.specs.States.{LetterHolds, LettersHold, ReactionHolds, StageHolds, StatesHold, block_of_stage, held, mesh_of_stage, right_then_left}
use Rattle.masked_cycles.proofs.Starts.{starts_are_starts}
use Rattle.masked_cycles.proofs.Trees.{kernels_same, laws_of, mesh_with, same_staged, staged_ready}
use Rattle.masked_cycles.proofs.Staging.{leaf_same, stages_agree}
use Rattle.masked_cycles.proofs.Reacting.{reactions_agree}

abbrev MeshKernels : Type 0
MeshKernels = Kernels Exchange (List ℕ) (List ℕ) FacePairs (List ℕ) Wish

-- the mesh of a stage, and the totals that the run has of it
abbrev stage_mesh : Cycle → ℕ → CycleMesh
stage_mesh c n = mesh_with c (mesh_of_stage c n)

abbrev run_mesh : Cycle → ℕ → ℕ → ℕ → List ℕ
run_mesh c n = (run_at (kernels c) (start_of c) n).mesh

leaves_of : (c : Cycle) (n : ℕ) → IsCycle c → (mesh_of_stage c n).leaves ≡ c.state.mesh.leaves
leaves_of c n is = (on_staged (settings_of c.problem) c.state is.fit.mesh n).leaves

few_of : (c : Cycle) (n b : ℕ) → IsCycle c → b < length c.state.mesh.leaves → b < length (mesh_of_stage c n).leaves
few_of c n b is few = subst (λ (v : List Loc). b < length v) (sym (leaves_of c n is)) few

has_totals : (c : Cycle) (n : ℕ) → IsCycle c → HasTotals (stage_mesh c n) (run_mesh c n)
has_totals c n is b f few some = (stages_agree c n b f is (record { block = subst (λ (v : List Loc). b < length v) (leaves_of c n is) few; field = some })).holds.totals

same_kernels : (c : Cycle) (n : ℕ) → kernels_of (stage_mesh c n) ≡ kernels c
same_kernels c n = kernels_same c (mesh_of_stage c n) (same_staged (settings_of c.problem) c.state n)

-- a block of it
at_leaf : (c : Cycle) (n b f : ℕ) → IsCycle c → (P : FieldBlock → Type 0) → P (block_on (stage_mesh c n) f b) → P (block_of_stage c n b f)
at_leaf c n b f is P h =
    subst (λ (v : Loc). P (record { settings = settings_of c.problem; mesh = mesh_of_stage c n; field = f; leaf = v; layout = c.layout })) (leaf_same c (mesh_of_stage c n) b (leaves_of c n is)) h

ghosts_are : (c : Cycle) (n b f : ℕ) → IsCycle c → IsPlace c b f → SeesAround (block_of_stage c n b f) (with_ghosts c.layout (run_mesh c n b f) (ghosts_of (kernels c) (run_mesh c n) b f))
ghosts_are c n b f is at =
    let w = stage_mesh c n in
    let ready = staged_ready c n is in
    at_leaf c n b f is (λ v. SeesAround v (with_ghosts c.layout (run_mesh c n b f) (ghosts_of (kernels c) (run_mesh c n) b f)))
    (subst (λ (k : MeshKernels). SeesAround (block_on w f b) (with_ghosts c.layout (run_mesh c n b f) (ghosts_of k (run_mesh c n) b f))) (same_kernels c n)
    (ghosts_see w w.mesh.totals f b (λ b. run_mesh c n b f) ready.cycle (hold_mesh w (run_mesh c n) f (sound_of w ready) (has_totals c n is) at.field) (few_of c n b is at.block)))

own_are : (c : Cycle) (n b f : ℕ) → IsCycle c → IsPlace c b f → HasOwnPairs (block_of_stage c n b f) (own_pairs (kernels c) (run_mesh c n) b f).right (own_pairs (kernels c) (run_mesh c n) b f).left
own_are c n b f is at =
    let w = stage_mesh c n in
    at_leaf c n b f is (λ v. HasOwnPairs v (own_pairs (kernels c) (run_mesh c n) b f).right (own_pairs (kernels c) (run_mesh c n) b f).left)
    (subst (λ (k : MeshKernels). HasOwnPairs (block_on w f b) (own_pairs k (run_mesh c n) b f).right (own_pairs k (run_mesh c n) b f).left) (same_kernels c n)
    (own_have w (run_mesh c n) f (staged_ready c n is) (has_totals c n is) at.field b (few_of c n b is at.block)))

pairs_are : (c : Cycle) (n b f : ℕ) → IsCycle c → IsPlace c b f → HasPairs (block_of_stage c n b f) (pairs_of (kernels c) (run_mesh c n) b f).right (pairs_of (kernels c) (run_mesh c n) b f).left
pairs_are c n b f is at =
    let w = stage_mesh c n in
    at_leaf c n b f is (λ v. HasPairs v (pairs_of (kernels c) (run_mesh c n) b f).right (pairs_of (kernels c) (run_mesh c n) b f).left)
    (subst (λ (k : MeshKernels). HasPairs (block_on w f b) (pairs_of k (run_mesh c n) b f).right (pairs_of k (run_mesh c n) b f).left) (same_kernels c n)
    (pairs_have w (run_mesh c n) b f (staged_ready c n is) (has_totals c n is) (few_of c n b is at.block) at.field))

-- a list in a stage
stage_holds : (c : Cycle) (n j : ℕ) (l : Local (List ℕ) (List ℕ) FacePairs Wish) (b f : ℕ) → IsCycle c → IsPlace c b f → StageAgrees (kernels c) (start_of c) n j l b f → StageHolds c n j l b f
stage_holds c n j l b f is at a =
    let r = stages_agree c n b f is at in
    let next = stages_agree c (suc n) b f is at in
    record {
      totals = a.cells ∙ r.holds.totals;
      ghosts = λ h g.
          subst (λ (v : List ℕ). SeesAround (block_of_stage c n b f) (with_ghosts c.layout v (held c l b f).ghosts)) (sym a.cells)
          (subst (λ (v : List ℕ). SeesAround (block_of_stage c n b f) (with_ghosts c.layout (run_mesh c n b f) v)) (sym (a.ghosts h g)) (ghosts_are c n b f is at));
      own_pairs = λ h k g. subst (λ (v : FacePairs). HasOwnPairs (block_of_stage c n b f) v.right v.left) (sym (a.own_pairs h k g)) (own_are c n b f is at);
      pairs = λ h g. subst (λ (v : FacePairs). HasPairs (block_of_stage c n b f) v.right v.left) (sym (a.pairs h g)) (pairs_are c n b f is at);
      keeps = λ h. a.kept h ∙ r.holds.kept;
      keeps_filled = λ h. a.kept_filled h ∙ next.holds.kept;
      idles = a.sums.idle ∙ r.holds.idle;
      drops = a.sums.dropped ∙ r.dropped;
      flows_in = a.sums.inflow ∙ r.inflow;
      flows_out = a.sums.outflow ∙ r.outflow;
    }

-- and after its reaction
reaction_holds : (c : Cycle) (l : Local (List ℕ) (List ℕ) FacePairs Wish) (b f : ℕ) → IsCycle c → IsPlace c b f → RunAgrees (kernels c) (reacted_run (kernels c) (start_of c)) l b f → ReactionHolds c l b f
reaction_holds c l b f is at a =
    let r = reactions_agree c b f is at in
    record {
      totals = a.cells ∙ r.holds.totals;
      keeps = a.kept ∙ r.holds.kept;
      idles = a.sums.idle ∙ r.holds.idle;
      flows_in = a.sums.inflow ∙ r.flows.inflow;
      flows_out = a.sums.outflow ∙ r.flows.outflow;
      makes = a.sums.made ∙ r.flows.made;
      uses = a.sums.used ∙ r.flows.used;
    }

pub states_hold : StatesHold
states_hold c events b f is at history =
    let a = stays_masked Exchange (List ℕ) (List ℕ) FacePairs (List ℕ) Wish (kernels c) (start_of c) events (laws_of c is) (starts_are_starts c is) history b f in
    let l = (reached (kernels c) (start_of c) events).local ((kernels c).owner b) in
    record {
      stages = λ n j g few most. stage_holds c n j l b f is at (a.stage n j g few most);
      reaction = λ h k. reaction_holds c l b f is at (a.reacted h k);
    }

-- letters
due_in_stage : (c : Cycle) (n : ℕ) (x : Exchange) → IsDue c.state.mesh x → IsDue (mesh_of_stage c n) x
due_in_stage c n x d = subst (λ (m : Mesh). IsDue m x) (sym (same_staged (settings_of c.problem) c.state n)) (record { from_few = d.from_few; to_few = d.to_few; used = d.used; names = d.names })

flux_in_stage : (c : Cycle) (n : ℕ) (x : Exchange) → IsFluxDue c.state.mesh x → IsFluxDue (mesh_of_stage c n) x
flux_in_stage c n x d =
    subst (λ (m : Mesh). IsFluxDue m x) (sym (same_staged (settings_of c.problem) c.state n))
    (record { due = record { from_few = d.due.from_few; to_few = d.due.to_few; used = d.due.used; names = d.due.names }; finer = d.finer; is = d.is })

sums_in_stage : (c : Cycle) (n f : ℕ) (x : Exchange) → IsCycle c → f < field_count (settings_of c.problem) → IsFluxDue c.state.mesh x →
    sums_sent (stage_mesh c n) x (own_pairs (kernels_of (stage_mesh c n)) (run_mesh c n) x.from f) ≡ right_then_left (flux_region (settings_of c.problem) (mesh_of_stage c n) f (leaf_at (stage_mesh c n) x.from) (leaf_at (stage_mesh c n) x.to) x.axis x.high)
sums_in_stage c n f x is some due =
    let w = stage_mesh c n in
    let sound = sound_of w (staged_ready c n is) in
    let d = flux_in_stage c n x due in
    let pairs : FacePairs = own_pairs (kernels_of w) (run_mesh c n) x.from f in
    let from : FromChild w x f = from_child w x f sound d in
    let B : FieldBlock = block_on w f x.to in
    let own : HasOwnPairs (on_block B (leaf_at w x.from)) pairs.right pairs.left = own_have w (run_mesh c n) f (staged_ready c n is) (has_totals c n is) some x.from d.due.from_few in
    sums_are w x pairs sound d
    ∙ flux_parts_are_regions B x.axis x.high from.at from.j pairs.right pairs.left from.next from.meets
    (subst (λ (v : Loc). IsFieldBlock (on_block B v)) (sym from.is) (block_sound w f x.from sound d.due.from_few))
    (subst (λ (v : Loc). HasOwnPairs (on_block B v) pairs.right pairs.left) (sym from.is) own)
    ∙ ap (λ (v : Loc). right_then_left (flux_region (settings_of c.problem) (mesh_of_stage c n) f v (leaf_at w x.to) x.axis x.high)) from.is

letter_holds : (c : Cycle) (round : ℕ) (x : Exchange) (content : ℕ → List ℕ) → IsCycle c → LetterAgrees (kernels c) (start_of c) round x content → LetterHolds c round x content
letter_holds c round x content is a = record {
  regions = λ n f e some ghosted due.
      let w = stage_mesh c n in
      let sound = sound_of w (staged_ready c n is) in
      a.ghosts n f e ghosted
      ∙ subst (λ (k : MeshKernels). k.region x (run_mesh c n x.from f) ≡ region (mesh_of_stage c n) f (leaf_at w x.from) (leaf_at w x.to) x.axis x.high) (same_kernels c n) (regions_are w (run_mesh c n) f sound (has_totals c n is) some x (due_in_stage c n x due))
      ∙ ap (λ (o : Loc). region (mesh_of_stage c n) f o (leaf_at w x.to) x.axis x.high) (leaf_same c (mesh_of_stage c n) x.from (leaves_of c n is))
      ∙ ap (λ (o : Loc). region (mesh_of_stage c n) f (leaf_at (cycle_mesh c) x.from) o x.axis x.high) (leaf_same c (mesh_of_stage c n) x.to (leaves_of c n is));
  sums = λ n f e some fluxed due.
      let w = stage_mesh c n in
      let p = settings_of c.problem in
      a.fluxes n f e fluxed
      ∙ subst (λ (k : MeshKernels). k.flux_sums x (own_pairs k (run_mesh c n) x.from f) ≡ right_then_left (flux_region p (mesh_of_stage c n) f (leaf_at w x.from) (leaf_at w x.to) x.axis x.high)) (same_kernels c n) (sums_in_stage c n f x is some due)
      ∙ ap (λ (o : Loc). right_then_left (flux_region p (mesh_of_stage c n) f o (leaf_at w x.to) x.axis x.high)) (leaf_same c (mesh_of_stage c n) x.from (leaves_of c n is))
      ∙ ap (λ (o : Loc). right_then_left (flux_region p (mesh_of_stage c n) f (leaf_at (cycle_mesh c) x.from) o x.axis x.high)) (leaf_same c (mesh_of_stage c n) x.to (leaves_of c n is));
}

each_holds : (c : Cycle) (letters : List (Letter Exchange (ℕ → List ℕ))) → IsCycle c → Each (λ (l : Letter Exchange (ℕ → List ℕ)). LetterAgrees (kernels c) (start_of c) l.round l.of l.content) letters →
    Each (λ (l : Letter Exchange (ℕ → List ℕ)). LetterHolds c l.round l.of l.content) letters
each_holds c [] is h = tt
each_holds c (x ∷ xs) is h = (letter_holds c x.round x.of x.content is h.0, each_holds c xs is h.1)

pub letters_hold : LettersHold
letters_hold c events is history =
    each_holds c ((reached (kernels c) (start_of c) events).wire ++ (reached (kernels c) (start_of c) events).mail) is
    (letters_stay_true Exchange (List ℕ) (List ℕ) FacePairs (List ℕ) Wish (kernels c) (start_of c) events (laws_of c is) (starts_are_starts c is) history)
