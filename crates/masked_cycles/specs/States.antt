-- At every point of a cycle, after any list of events, buffers and letters have what the meshes of the rules say.
use Rattle.std.specs.Prelude.{◌≡◌, ℕ, suc, ◌+◌, ◌*◌, ◌<◌, ◌≤◌, true, List, map, ◌++◌}
use Rattle.mesh_rules.specs.declared.wish.Wish.{Wish}
use Rattle.mesh_rules.specs.Due.{Exchange, flux_region}
use Rattle.mesh_rules.specs.Faces.{Pair}
use Rattle.mesh_rules.specs.Fields.{field_count, has_fluxes, has_ghosts}
use Rattle.mesh_rules.specs.Mask.{Slot, slot_at}
use Rattle.mesh_rules.specs.Mesh.{Mesh, totals_on}
use Rattle.mesh_rules.specs.Regions.{region}
use Rattle.mesh_rules.specs.Sums.{sum_to}
use Rattle.block_geometry.specs.Blocks.{FieldBlock}
use Rattle.block_geometry.specs.Contents.{HasOwnPairs, HasPairs, SeesAround}
use Rattle.cycle_rounds.specs.Events.{Each, Event, IsHistory, Letter}
use Rattle.sparse_rounds.specs.Sparse.{Buf, Local, plan_of, read, sparse}
use Rattle.sparse_rounds.specs.Laws.{reached}
use Rattle.cycle_kernels.specs.Lists.{with_ghosts}
use Rattle.cycle_kernels.specs.Pairs.{FacePairs}
use Rattle.kernel_stages.specs.Letters.{IsDue, IsFluxDue}
use Rattle.masked_cycles.specs.Cycles.{Cycle, IsCycle, IsPlace, held_after, held_reacted, kernels, leaf, settings}
use Rattle.masked_cycles.specs.Cycles.{leaf_flow, stage_drop, stage_inflow, stage_outflow, start_of}

-- what a list of tasks has of a field on a block
abbrev pub held : Cycle → Local (List ℕ) (List ℕ) FacePairs Wish → ℕ → ℕ → Buf (List ℕ) (List ℕ) FacePairs
held c l b f = read (kernels c) (l.bufs b f)

-- a buffer's list with its ghosts
abbrev pub list_of : Cycle → Buf (List ℕ) (List ℕ) FacePairs → List ℕ
list_of c u = with_ghosts c.layout u.cells u.ghosts

-- the mesh that a stage starts with, and a field on a block of it
abbrev pub mesh_of_stage : Cycle → ℕ → Mesh
mesh_of_stage c n = (held_after c n).mesh

abbrev pub block_of_stage : Cycle → ℕ → ℕ → ℕ → FieldBlock
block_of_stage c n b f = record {
  settings = settings c;
  mesh = mesh_of_stage c n;
  field = f;
  leaf = leaf c b;
  layout = c.layout;
}

abbrev pub slot_after : Cycle → ℕ → ℕ → ℕ → Slot
slot_after c n b f = slot_at (held_after c n).mask b f

-- ghosts are the look, and pairs are the mesh's: at first but those behind which finer cells are stored, then all
abbrev pub SeesStage : Cycle → ℕ → ℕ → ℕ → Buf (List ℕ) (List ℕ) FacePairs → Type 0
SeesStage c n b f u = SeesAround (block_of_stage c n b f) (list_of c u)

abbrev pub HasOwnOf : Cycle → ℕ → ℕ → ℕ → Buf (List ℕ) (List ℕ) FacePairs → Type 0
HasOwnOf c n b f u = HasOwnPairs (block_of_stage c n b f) u.pairs.right u.pairs.left

abbrev pub HasAllOf : Cycle → ℕ → ℕ → ℕ → Buf (List ℕ) (List ℕ) FacePairs → Type 0
HasAllOf c n b f u = HasPairs (block_of_stage c n b f) u.pairs.right u.pairs.left

-- in stage n, once j of its six tasks were given: the totals of its mesh, ghosts, pairs, what is kept, and what was
-- dropped and has flowed before
pub record StageHolds (c : Cycle) (n j : ℕ) (l : Local (List ℕ) (List ℕ) FacePairs Wish) (b f : ℕ) : Type 0 where
  pub totals : (held c l b f).cells ≡ totals_on (mesh_of_stage c n) b f
  pub ghosts : 2 ≤ j → has_ghosts (settings c) f ≡ true → SeesStage c n b f (held c l b f)
  pub own_pairs : 3 ≤ j → j ≤ 4 → has_fluxes (settings c) f ≡ true → HasOwnOf c n b f (held c l b f)
  pub pairs : 5 ≤ j → has_fluxes (settings c) f ≡ true → HasAllOf c n b f (held c l b f)
  pub keeps : j < 2 → l.kept b f ≡ (slot_after c n b f).kept
  pub keeps_filled : 2 ≤ j → l.kept b f ≡ (slot_after c (suc n) b f).kept
  pub idles : l.idle b f ≡ (slot_after c n b f).idle
  pub drops : l.dropped b f ≡ sum_to n (stage_drop c b f)
  pub flows_in : l.inflow b f ≡ sum_to n (stage_inflow c b f)
  pub flows_out : l.outflow b f ≡ sum_to n (stage_outflow c b f)

-- after its reaction: the totals and the mask of the cycle then, and all that flows in it
pub record ReactionHolds (c : Cycle) (l : Local (List ℕ) (List ℕ) FacePairs Wish) (b f : ℕ) : Type 0 where
  pub totals : (held c l b f).cells ≡ totals_on (held_reacted c).mesh b f
  pub keeps : l.kept b f ≡ (slot_at (held_reacted c).mask b f).kept
  pub idles : l.idle b f ≡ (slot_at (held_reacted c).mask b f).idle
  pub flows_in : l.inflow b f ≡ (leaf_flow c b f).inflow
  pub flows_out : l.outflow b f ≡ (leaf_flow c b f).outflow
  pub makes : l.made b f ≡ (leaf_flow c b f).made
  pub uses : l.used b f ≡ (leaf_flow c b f).used

-- a list of tasks that has given g of them
pub record HoldsAfter (c : Cycle) (g : ℕ) (l : Local (List ℕ) (List ℕ) FacePairs Wish) (b f : ℕ) : Type 0 where
  pub stages : (n j : ℕ) → g ≡ 6 * n + j → j < 6 → g ≤ 6 * c.problem.nstages → StageHolds c n j l b f
  pub reaction : 6 * c.problem.nstages < g → g < 6 * c.problem.nstages + 3 → ReactionHolds c l b f

abbrev pub StatesHold : Type 0
StatesHold = (c : Cycle) (events : List Event) (b f : ℕ) → IsCycle c → IsPlace c b f →
    IsHistory (plan_of (kernels c)) (sparse (kernels c) (start_of c)) events →
    let s = reached (kernels c) (start_of c) events in
    HoldsAfter c (s.given ((kernels c).owner b)) (s.local ((kernels c).owner b)) b f

-- what the rules say that a letter has of a field: the region of a ghost letter, and the pairs of a flux letter, first
-- what passes to the right
abbrev pub region_of : Cycle → ℕ → ℕ → Exchange → List ℕ
region_of c n f x = region (mesh_of_stage c n) f (leaf c x.from) (leaf c x.to) x.axis x.high

abbrev pub pairs_of : Cycle → ℕ → ℕ → Exchange → List Pair
pairs_of c n f x = flux_region (settings c) (mesh_of_stage c n) f (leaf c x.from) (leaf c x.to) x.axis x.high

abbrev pub right_then_left : List Pair → List ℕ
right_then_left pairs = map (λ (y : Pair). y.right) pairs ++ map (λ (y : Pair). y.left) pairs

-- a letter of a round has that for the mesh of its stage
pub record LetterHolds (c : Cycle) (round : ℕ) (x : Exchange) (content : ℕ → List ℕ) : Type 0 where
  pub regions : (n f : ℕ) → round ≡ 2 * n → f < field_count (settings c) → has_ghosts (settings c) f ≡ true →
      IsDue c.state.mesh x → content f ≡ region_of c n f x
  pub sums : (n f : ℕ) → round ≡ 2 * n + 1 → f < field_count (settings c) → has_fluxes (settings c) f ≡ true →
      IsFluxDue c.state.mesh x → content f ≡ right_then_left (pairs_of c n f x)

abbrev pub LettersHold : Type 0
LettersHold = (c : Cycle) (events : List Event) → IsCycle c →
    IsHistory (plan_of (kernels c)) (sparse (kernels c) (start_of c)) events →
    let s = reached (kernels c) (start_of c) events in
    Each (λ (l : Letter Exchange (ℕ → List ℕ)). LetterHolds c l.round l.of l.content) (s.wire ++ s.mail)
