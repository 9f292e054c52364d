-- How the buffers of a list agree with the masked serial run, at each point of its tasks.
use Rattle.std.specs.Prelude.{◌≡◌, ℕ, suc, ◌+◌, ◌*◌, ◌<◌, ◌≤◌, Bool, true, false, ◌||◌, Some, is_some}
use Rattle.sparse_rounds.specs.Kernels.{Kernels, ghosts_of, own_pairs, pairs_of}
use Rattle.sparse_rounds.specs.Masked.{Run, checked_run, is_sent, kept_next, reacted_run, run_at, touched}
use Rattle.sparse_rounds.specs.Sparse.{Local, has_flag, read}

-- counts and sums are the run's
pub record SumsAgree {V G F W : Type 0} (r : Run V) (l : Local V G F W) (b f : ℕ) : Type 0 where
  pub idle : l.idle b f ≡ r.idle b f
  pub dropped : l.dropped b f ≡ r.dropped b f
  pub inflow : l.inflow b f ≡ r.inflow b f
  pub outflow : l.outflow b f ≡ r.outflow b f
  pub made : l.made b f ≡ r.made b f
  pub used : l.used b f ≡ r.used b f

-- in stage n, once j of its six tasks were given: cells, ghosts, pairs, what is kept, and where there is a buffer. It is there where the
-- exchanges that were read call for one, and nowhere but where those of the whole cycle do
pub record StageAgrees {X V G F P W : Type 0} (k : Kernels X V G F P W) (start : Run V) (n j : ℕ) (l : Local V G F W) (b f : ℕ) : Type 0 where
  pub cells : (read k (l.bufs b f)).cells ≡ (run_at k start n).mesh b f
  pub ghosts : 2 ≤ j → k.has_ghosts f ≡ true → (read k (l.bufs b f)).ghosts ≡ ghosts_of k (run_at k start n).mesh b f
  pub own_pairs : 3 ≤ j → j ≤ 4 → k.has_fluxes f ≡ true → (read k (l.bufs b f)).pairs ≡ own_pairs k (run_at k start n).mesh b f
  pub pairs : 5 ≤ j → k.has_fluxes f ≡ true → (read k (l.bufs b f)).pairs ≡ pairs_of k (run_at k start n).mesh b f
  pub kept : j < 2 → l.kept b f ≡ (run_at k start n).kept b f
  pub kept_filled : 2 ≤ j → l.kept b f ≡ kept_next k (run_at k start n) b f
  pub sums : SumsAgree (run_at k start n) l b f
  pub there : j < 2 → touched k start n b f ≡ true → is_some (l.bufs b f) ≡ true
  pub there_filled : 2 ≤ j → touched k start (suc n) b f ≡ true → is_some (l.bufs b f) ≡ true
  pub only_there : is_some (l.bufs b f) ≡ true → touched k start k.stages b f ≡ true

-- a field of the task's flag that a lease does not list had no buffer then: nothing was there, and nothing was sent
pub record WasAbsent {X V G F P W : Type 0} (k : Kernels X V G F P W) (start : Run V) (n j : ℕ) (l : Local V G F W) (b f : ℕ) : Type 0 where
  pub untouched : j < 2 → touched k start n b f ≡ false
  pub unsent : j ≡ 1 → is_sent k (run_at k start n).mesh b f ≡ false
  pub untouched_filled : 2 ≤ j → touched k start (suc n) b f ≡ false
  pub ghosts : (read k (l.bufs b f)).ghosts ≡ k.no_ghosts
  pub pairs : (read k (l.bufs b f)).pairs ≡ k.no_pairs

-- while the task of that number is out
pub record StageLease {X V G F P W : Type 0} (k : Kernels X V G F P W) (start : Run V) (g n j : ℕ) (l : Local V G F W) (b f : ℕ) : Type 0 where
  pub lent : l.leased b f ≡ true → (is_some (l.bufs b f) ≡ true) × (has_flag k g f ≡ true)
  pub rest : l.leased b f ≡ false → has_flag k g f ≡ true → WasAbsent k start n j l b f

-- in the tail: all of a run
pub record RunAgrees {X V G F P W : Type 0} (k : Kernels X V G F P W) (r : Run V) (l : Local V G F W) (b f : ℕ) : Type 0 where
  pub cells : (read k (l.bufs b f)).cells ≡ r.mesh b f
  pub kept : l.kept b f ≡ r.kept b f
  pub sums : SumsAgree r l b f
  pub there : r.kept b f ≡ true → is_some (l.bufs b f) ≡ true

-- a block and field of a list that has given g tasks, whose next one is out or not
pub record Agrees {X V G F P W : Type 0} (k : Kernels X V G F P W) (start : Run V) (g : ℕ) (out : Bool) (l : Local V G F W) (b f : ℕ) : Type 0 where
  pub stage : (n j : ℕ) → g ≡ 6 * n + j → j < 6 → g ≤ 6 * k.stages → StageAgrees k start n j l b f
  pub lease : (n j : ℕ) → g ≡ 6 * n + j → j < 6 → g < 6 * k.stages → out ≡ true → StageLease k start g n j l b f
  pub lease_all : 6 * k.stages ≤ g → out ≡ true → l.leased b f ≡ is_some (l.bufs b f)
  pub reacted : 6 * k.stages < g → g < 6 * k.stages + 3 → RunAgrees k (reacted_run k start) l b f
  pub buffers : 6 * k.stages < g → g < 6 * k.stages + 3 → is_some (l.bufs b f) ≡ (touched k start k.stages b f || (reacted_run k start).kept b f)
  pub wished : 6 * k.stages + 1 < g → l.wishes b ≡ Some (k.wish b ((reacted_run k start).mesh b))
  pub checked : 6 * k.stages + 2 < g → RunAgrees k (checked_run k start) l b f × (is_some (l.bufs b f) ≡ (checked_run k start).kept b f)

-- what a letter of a round holds: the regions, or the flux sums, of the mesh of its stage; a field without a part has zeros there
pub record LetterAgrees {X V G F P W : Type 0} (k : Kernels X V G F P W) (start : Run V) (r : ℕ) (x : X) (content : ℕ → P) : Type 0 where
  pub ghosts : (n f : ℕ) → r ≡ 2 * n → k.has_ghosts f ≡ true → content f ≡ k.region x ((run_at k start n).mesh (k.from x) f)
  pub fluxes : (n f : ℕ) → r ≡ 2 * n + 1 → k.has_fluxes f ≡ true → content f ≡ k.flux_sums x (own_pairs k (run_at k start n).mesh (k.from x) f)
