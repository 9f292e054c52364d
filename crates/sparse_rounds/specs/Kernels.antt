-- The kernels of a cycle, and what the layers below have to supply of them: that nothing gives nothing, and that a kernel reads its
-- own block, its ghosts and its letters.
use Rattle.std.specs.Prelude.{◌≡◌, ℕ, ◌<◌, ◌≤◌, Bool, true, false, List, count_by}
use Rattle.std.specs.List.{list_any}

-- X is what a letter is about; V the cells of a field on a block, G its ghosts, F the flux pairs of its faces; P a part of a letter,
-- which is one field's; W what a block wishes of the next mesh. Blocks and fields are numbers; of what there is no block or no
-- field of, all is nothing
pub record Kernels (X V G F P W : Type 0) : Type 0 where
  pub lists : ℕ
  pub stages : ℕ
  -- the list of a block
  pub owner : ℕ → ℕ
  pub is_sparse : ℕ → Bool
  pub has_ghosts : ℕ → Bool
  pub has_fluxes : ℕ → Bool
  -- the letters that are due in each stage, and the blocks that they come from and go to
  pub ghost_due : List X
  pub flux_due : List X
  pub same : X → X → Bool
  pub from : X → ℕ
  pub to : X → ℕ
  pub no_cells : V
  pub no_ghosts : G
  pub no_pairs : F
  pub no_part : X → P
  -- what is sent of cells; whether it is all zero, and whether something in it is above the threshold of allocation
  pub region : X → V → P
  pub is_blank : P → Bool
  pub calls : P → Bool
  -- whether something flows into a block from outside, and whether it is above the threshold
  pub flows_in : ℕ → ℕ → Bool
  pub inflow_calls : ℕ → ℕ → Bool
  -- the ghosts of a block and field, from the parts that it is sent
  pub ghosts : ℕ → ℕ → (X → P) → G
  pub fluxes : ℕ → ℕ → V → G → F
  pub flux_sums : X → F → P
  pub corrected : ℕ → ℕ → F → (X → P) → F
  pub update : ℕ → ℕ → V → F → V
  pub inflow : ℕ → ℕ → F → ℕ
  pub outflow : ℕ → ℕ → F → ℕ
  -- the reaction of a block's fields, and what it makes and uses of each
  pub react : ℕ → (ℕ → V) → ℕ → V
  pub made : ℕ → (ℕ → V) → ℕ → ℕ
  pub used : ℕ → (ℕ → V) → ℕ → ℕ
  -- whether a cell is above the threshold of allocation, and whether none is above that of freeing
  pub cells_call : V → Bool
  pub is_idle : V → Bool
  pub idle_limit : ℕ
  pub wish : ℕ → (ℕ → V) → W
  -- what cells hold in all
  pub amount : V → ℕ

-- a part that is due to a block
pub record IsSentTo {X : Type 0} (same : X → X → Bool) (to : X → ℕ) (due : List X) (b : ℕ) (x : X) : Type 0 where
  pub is_due : list_any (same x) due ≡ true
  pub is_to : to x ≡ b

-- two tables of parts agree on what is due to a block; and what is due to it is no part
abbrev pub SameParts : {X P : Type 0} → (X → X → Bool) → (X → ℕ) → List X → ℕ → (X → P) → (X → P) → Type 0
SameParts {X} same to due b c d = (x : X) → IsSentTo same to due b x → c x ≡ d x

-- the ghosts that a block and field have on a mesh; its fluxes from its own cells; and its pairs, corrected by finer blocks' sums
abbrev pub ghosts_of : {X V G F P W : Type 0} → Kernels X V G F P W → (ℕ → ℕ → V) → ℕ → ℕ → G
ghosts_of k mesh b f = k.ghosts b f (λ x. k.region x (mesh (k.from x) f))

abbrev pub own_pairs : {X V G F P W : Type 0} → Kernels X V G F P W → (ℕ → ℕ → V) → ℕ → ℕ → F
own_pairs k mesh b f = k.fluxes b f (mesh b f) (ghosts_of k mesh b f)

abbrev pub pairs_of : {X V G F P W : Type 0} → Kernels X V G F P W → (ℕ → ℕ → V) → ℕ → ℕ → F
pairs_of k mesh b f = k.corrected b f (own_pairs k mesh b f) (λ x. k.flux_sums x (own_pairs k mesh (k.from x) f))

-- what the layers below supply
pub record AreKernels {X V G F P W : Type 0} (k : Kernels X V G F P W) : Type 0 where
  -- letters are told apart, and each is due once; a block belongs to a list
  pub same_is : (x y : X) → k.same x y ≡ true → x ≡ y
  pub is_same : (x : X) → k.same x x ≡ true
  pub ghost_once : (x : X) → count_by (k.same x) k.ghost_due ≤ 1
  pub flux_once : (x : X) → count_by (k.same x) k.flux_due ≤ 1
  pub owned : (b : ℕ) → k.owner b < k.lists
  pub fluxes_need_ghosts : (f : ℕ) → k.has_fluxes f ≡ true → k.has_ghosts f ≡ true
  -- what is blank is no part, what is sent of nothing is no part, and no part calls
  pub blank_is_none : (x : X) (v : V) → k.is_blank (k.region x v) ≡ true → k.region x v ≡ k.no_part x
  pub nothing_sent : (x : X) → k.region x k.no_cells ≡ k.no_part x
  pub none_calls_not : (x : X) → k.calls (k.no_part x) ≡ false
  pub calls_flow_in : (b f : ℕ) → k.inflow_calls b f ≡ true → k.flows_in b f ≡ true
  -- ghosts and corrected pairs read the parts that are due to their block, and give nothing from nothing
  pub ghosts_read : (b f : ℕ) (c d : X → P) → SameParts k.same k.to k.ghost_due b c d → k.ghosts b f c ≡ k.ghosts b f d
  pub ghosts_of_none : (b f : ℕ) (c : X → P) → k.flows_in b f ≡ false → SameParts k.same k.to k.ghost_due b c k.no_part → k.ghosts b f c ≡ k.no_ghosts
  pub pairs_read : (b f : ℕ) (pairs : F) (c d : X → P) → SameParts k.same k.to k.flux_due b c d → k.corrected b f pairs c ≡ k.corrected b f pairs d
  pub pairs_of_none : (b f : ℕ) (c : X → P) → SameParts k.same k.to k.flux_due b c k.no_part → k.corrected b f k.no_pairs c ≡ k.no_pairs
  -- nothing gives nothing
  pub no_flux : (b f : ℕ) → k.fluxes b f k.no_cells k.no_ghosts ≡ k.no_pairs
  pub no_sums : (x : X) → k.flux_sums x k.no_pairs ≡ k.no_part x
  pub no_update : (b f : ℕ) → k.update b f k.no_cells k.no_pairs ≡ k.no_cells
  pub no_inflow : (b f : ℕ) → k.inflow b f k.no_pairs ≡ 0
  pub no_outflow : (b f : ℕ) → k.outflow b f k.no_pairs ≡ 0
  pub no_amount : k.amount k.no_cells ≡ 0
  -- where a block and its ghosts are nothing, the flux sums that are due to it are no part
  pub sums_of_none : (mesh : ℕ → ℕ → V) (b f : ℕ) → k.has_fluxes f ≡ true → mesh b f ≡ k.no_cells → ghosts_of k mesh b f ≡ k.no_ghosts → SameParts k.same k.to k.flux_due b (λ x. k.flux_sums x (own_pairs k mesh (k.from x) f)) k.no_part
