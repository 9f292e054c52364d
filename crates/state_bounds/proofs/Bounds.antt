-- The kernels of blocks may be called on the buffers of a stage, and before the reaction.
use Rattle.std.proofs.Common.{◌≡◌, ℕ, ◌*◌, ◌^◌, ◌<◌, ◌≤◌, Bool, true, not, All, List, refl, arith, ap, subst, sym, ◌∙◌, slice_index, map, is_some}
use Rattle.std.specs.List.{list_any}
use Rattle.morton_order.specs.declared.space.Loc.{Loc}
use Rattle.problem_set.specs.SettingsOf.{settings_of}
use Rattle.mesh_rules.specs.declared.wish.Wish.{Wish}
use Rattle.mesh_rules.specs.Due.{Exchange, ghost_letters}
use Rattle.mesh_rules.specs.Fields.{field_count}
use Rattle.mesh_rules.specs.Mesh.{Mesh, stored, total_of, totals_on}
use Rattle.mesh_rules.specs.Stage.{staged}
use Rattle.run_laws.proofs.CycleMeshes.{on_staged}
use Rattle.run_laws.proofs.Inflows.{sum_to_le}
use Rattle.block_layout.specs.Indices.{IsWithin, index_of, number_of}
use Rattle.block_layout.specs.Layouts.{interior_len}
use Rattle.block_layout.proofs.Boxes.{index_below, index_number}
use Rattle.block_geometry.specs.Contents.{HasPairs}
use Rattle.ghost_buffers.specs.declared.part.How.{How}
use Rattle.ghost_buffers.specs.declared.part.How.TheVariants.{Same, Finer, Coarser}
use Rattle.ghost_buffers.specs.Parts.{PartBelow}
use Rattle.transport_kernel.specs.Update.{CanPass, listed}
use Rattle.sparse_rounds.specs.Kernels.{ghosts_of, own_pairs}
use Rattle.sparse_rounds.specs.Sparse.{Buf}
use Rattle.sparse_rounds.specs.Agreement.{Agrees, StageAgrees}
use Rattle.sparse_rounds.proofs.Ends.{stays_masked}
use Rattle.cycle_kernels.specs.Blocks.{CycleMesh}
use Rattle.cycle_kernels.specs.Lists.{with_ghosts}
use Rattle.cycle_kernels.specs.Letters.{how_sent, part_by, same_letter}
use Rattle.cycle_kernels.specs.Pairs.{FacePairs}
use Rattle.cycle_kernel_bounds.proofs.Exchanges.{ghosts_are_small, parts_may_be_filled}
use Rattle.cycle_kernel_bounds.proofs.Stages.{sums_may_be_gathered, updates_may_pass}
use Rattle.kernel_stages.proofs.Places.{stored_at_index}
use Rattle.masked_cycles.specs.Cycles.{Cycle, IsCycle, IsPlace, cycle_mesh, kernels, start_of}
use Rattle.masked_cycles.specs.States.{StageHolds, block_of_stage, held, mesh_of_stage}
use Rattle.masked_cycles.proofs.Staging.{leaf_same}
use Rattle.masked_cycles.proofs.Starts.{starts_are_starts}
use Rattle.masked_cycles.proofs.States.{states_hold}
use Rattle.masked_cycles.proofs.Trees.{laws_of, mesh_with, same_staged}
use Rattle.cycle_events.specs.declared.event.Event.{Event}
use Rattle.cycle_events.specs.Cycles.{forget, opening}
use Rattle.cycle_events.specs.Journals.{IsJournal}
use Rattle.cycle_events.proofs.Histories.{history_is}
use Rattle.mesh_journals.specs.Cycles.{local_of, mesh_state, on_mesh}
use Rattle.state_bounds.specs.Bounds.{CellsAreSmall, HasSmallSums, MayBeSent, StagesMayGoOn}
use Rattle.state_bounds.proofs.Stages.{MeshKernels, few_then, hold_bounded, in_stage, kernels_then, same_leaves, totals_then}
use Rattle.state_bounds.proofs.Totals.{all_before, cell_counts, field_after}

-- what holds on the mesh of a stage holds on that of the cycle, where it does not speak of totals
on_first : (c : Cycle) (n : ℕ) (P : CycleMesh → Type 0) → P (in_stage c n) → P (mesh_with c (record c.state.mesh { totals = (mesh_of_stage c n).totals }))
on_first c n P h = subst (λ (m : Mesh). P (mesh_with c m)) (same_staged (settings_of c.problem) c.state n) h

on_stage : (c : Cycle) (n : ℕ) (P : CycleMesh → Type 0) → P (mesh_with c (record c.state.mesh { totals = (mesh_of_stage c n).totals })) → P (in_stage c n)
on_stage c n P h = subst (λ (m : Mesh). P (mesh_with c m)) (sym (same_staged (settings_of c.problem) c.state n)) h

-- which part of a side a letter covers is told by the tree alone
part_same : (how : How) (c : Cycle) (t : List (List (List ℕ))) (x : Exchange) → part_by how (mesh_with c (record c.state.mesh { totals = t })) x ≡ part_by how (cycle_mesh c) x
part_same Same c t x = refl
part_same Finer c t x = refl
part_same Coarser c t x = refl

may_send : (c : Cycle) (n f : ℕ) (x : Exchange) → IsCycle c → n ≤ c.problem.nstages → f < field_count (settings_of c.problem) → list_any (same_letter x) (ghost_letters c.state.mesh) ≡ true → MayBeSent c x (totals_then c n x.from f)
may_send c n f x is most some due rest =
    let how : How = how_sent (cycle_mesh c) x in
    subst (λ (part : ℕ). PartBelow (2 ^ 62) how c.layout x.axis (not x.high) part (with_ghosts c.layout (totals_then c n x.from f) rest)) (part_same how c (mesh_of_stage c n).totals x)
    (on_first c n (λ (w : CycleMesh). PartBelow (2 ^ 62) (how_sent w x) c.layout x.axis (not x.high) (part_by (how_sent w x) w x) (with_ghosts c.layout (totals_then c n x.from f) rest))
    (parts_may_be_filled (in_stage c n) (mesh_of_stage c n).totals f (λ b. totals_then c n b f) x rest (hold_bounded c n f is most some)
    (on_stage c n (λ (w : CycleMesh). list_any (same_letter x) (ghost_letters w.mesh) ≡ true) due)))

small_then : (c : Cycle) (n b f : ℕ) → IsCycle c → n ≤ c.problem.nstages → IsPlace c b f → All (λ total. total < 2 ^ 62) (with_ghosts c.layout (totals_then c n b f) (ghosts_of (kernels c) (totals_then c n) b f))
small_then c n b f is most at =
    subst (λ (k : MeshKernels). All (λ total. total < 2 ^ 62) (with_ghosts c.layout (totals_then c n b f) (ghosts_of k (totals_then c n) b f))) (kernels_then c n)
    (ghosts_are_small (in_stage c n) (mesh_of_stage c n).totals f b (λ b. totals_then c n b f) (hold_bounded c n f is most at.field) (few_then c n b is at.block))

small_sums : (c : Cycle) (n b f axis : ℕ) (high : Bool) → IsCycle c → n ≤ c.problem.nstages → IsPlace c b f → axis < c.layout.dims → HasSmallSums c.layout axis high (own_pairs (kernels c) (totals_then c n) b f)
small_sums c n b f axis high is most at used =
    subst (λ (k : MeshKernels). HasSmallSums c.layout axis high (own_pairs k (totals_then c n) b f)) (kernels_then c n)
    (let small = sums_may_be_gathered (in_stage c n) (mesh_of_stage c n).totals f b axis high (λ b. totals_then c n b f) (hold_bounded c n f is most at.field) (few_then c n b is at.block) used in
    record { right = small.right; left = small.left })

-- by the pairs of the mesh no cell pays more than it has
may_pass : (c : Cycle) (n b f : ℕ) (rest : List ℕ) (pairs : FacePairs) → IsCycle c → n < c.problem.nstages → IsPlace c b f → HasPairs (block_of_stage c n b f) pairs.right pairs.left →
    CanPass c.layout (listed c.layout pairs.right) (listed c.layout pairs.left) (with_ghosts c.layout (totals_then c n b f) rest)
may_pass c n b f rest pairs is more at has =
    let p = settings_of c.problem in
    let m = mesh_of_stage c n in
    updates_may_pass (in_stage c n) m.totals f b (λ b. totals_then c n b f) rest pairs.right pairs.left (hold_bounded c n f is (omega (arith, more)) at.field) (few_then c n b is at.block)
    (subst (λ (o : Loc). HasPairs (record { settings = p; mesh = m; field = f; leaf = o; layout = c.layout }) pairs.right pairs.left) (sym (leaf_same c m b (same_leaves c n is))) has)
    (λ i inside.
    let cells : IsWithin m.cells i = subst (λ (v : List ℕ). IsWithin v i) (is.layout.cells ∙ sym (on_staged p c.state is.fit.mesh n).cells) inside in
    let counts = cell_counts m (staged p m f) b i (few_then c n b is at.block) cells in
    let after = field_after c n f is more at.field in
    omega (arith, counts, after))

-- the state agrees with the run
agrees : (c : Cycle) (events : List Event) (b f : ℕ) → IsCycle c → IsJournal (on_mesh c) events → Agrees (kernels c) (start_of c) ((mesh_state c events).given ((kernels c).owner b)) (is_some ((mesh_state c events).out ((kernels c).owner b))) (local_of c (mesh_state c events) b) b f
agrees c events b f is h =
    stays_masked Exchange (List ℕ) (List ℕ) FacePairs (List ℕ) Wish (kernels c) (start_of c) (map forget events) (laws_of c is) (starts_are_starts c is) (history_is (on_mesh c) (opening (on_mesh c)) events h.legal) b f

pub stages_may_go_on : StagesMayGoOn
stages_may_go_on c events n j b f is at h given few more =
    let l = local_of c (mesh_state c events) b in
    let u : Buf (List ℕ) (List ℕ) FacePairs = held c l b f in
    let most : n ≤ c.problem.nstages = omega (arith, more) in
    let far : (mesh_state c events).given ((kernels c).owner b) ≤ 6 * c.problem.nstages = omega (arith, given, few, more) in
    let a : StageAgrees (kernels c) (start_of c) n j l b f = (agrees c events b f is h).stage n j given few far in
    let s : StageHolds c n j l b f = (states_hold c (map forget events) b f is at (history_is (on_mesh c) (opening (on_mesh c)) events h.legal)).stages n j given few far in
    record {
      parts = λ x due from. subst (MayBeSent c x) (ap (λ (v : ℕ). totals_then c n v f) from ∙ sym a.cells) (may_send c n f x is most at.field due);
      small = λ two ghosted.
          subst (λ (v : List ℕ). All (λ total. total < 2 ^ 62) (with_ghosts c.layout v u.ghosts)) (sym a.cells)
          (subst (λ (v : List ℕ). All (λ total. total < 2 ^ 62) (with_ghosts c.layout (totals_then c n b f) v)) (sym (a.ghosts two ghosted)) (small_then c n b f is most at));
      sums = λ three four fluxed axis high used. subst (HasSmallSums c.layout axis high) (sym (a.own_pairs three four fluxed)) (small_sums c n b f axis high is most at used);
      passes = λ five fluxed.
          subst (λ (v : List ℕ). CanPass c.layout (listed c.layout u.pairs.right) (listed c.layout u.pairs.left) (with_ghosts c.layout v u.ghosts)) (sym a.cells)
          (may_pass c n b f u.ghosts u.pairs is more at (s.pairs five fluxed));
    }

-- the totals of a cell
cell_small : (c : Cycle) (b f k : ℕ) → IsCycle c → IsPlace c b f → k < interior_len c.layout → slice_index (totals_on (mesh_of_stage c c.problem.nstages) b f) k ≤ total_of (mesh_of_stage c c.problem.nstages) f
cell_small c b f k is at few =
    let m = mesh_of_stage c c.problem.nstages in
    let on = on_staged (settings_of c.problem) c.state is.fit.mesh c.problem.nstages in
    let same : c.layout.cells ≡ m.cells = is.layout.cells ∙ sym on.cells in
    let i : List ℕ = index_of m.cells k in
    let inside : IsWithin m.cells i = subst (λ (v : List ℕ). IsWithin v (index_of v k)) same (index_below c.layout.cells k few) in
    let there = stored_at_index m on.mesh f b i (few_then c c.problem.nstages b is at.block) inside in
    let number : slice_index (totals_on m b f) (number_of m.cells i) ≡ slice_index (totals_on m b f) k = ap (slice_index (totals_on m b f)) (index_number m.cells k) in
    let counts = cell_counts m (stored m f) b i (few_then c c.problem.nstages b is at.block) inside in
    omega (arith, there, number, counts)

pub cells_are_small : CellsAreSmall
cells_are_small c events b k is block h given few =
    let fields = field_count (settings_of c.problem) in
    let l = local_of c (mesh_state c events) b in
    let least = sum_to_le fields (λ f. slice_index (held c l b f).cells k) (total_of (mesh_of_stage c c.problem.nstages)) (λ f some.
    let at : IsPlace c b f = record { block = block; field = some } in
    let s : StageHolds c c.problem.nstages 0 l b f = (states_hold c (map forget events) b f is at (history_is (on_mesh c) (opening (on_mesh c)) events h.legal)).stages c.problem.nstages 0 (omega (arith, given)) (omega arith) (omega (arith, given)) in
    let totals = ap (λ (v : List ℕ). slice_index v k) s.totals in
    let small = cell_small c b f k is at few in
    omega (arith, totals, small)) in
    let all = all_before c c.problem.nstages is (omega arith) in
    omega (arith, least, all)
