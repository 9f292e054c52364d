-- The sparse buffers of one list of tasks, as a machine over rounds of letters: what is leased, what is worked, what comes.
use Rattle.std.specs.Prelude.{◌==◌, ℕ, zero, suc, ◌+◌, ◌-◌, ◌*◌, ◌%◌, Bool, true, false, cond, ◌&&◌, ◌||◌, not, nat_lt, Option, Some, None, is_some}
use Rattle.cycle_rounds.specs.Plan.{Plan}
use Rattle.cycle_rounds.specs.Events.{Machine}
use Rattle.sparse_rounds.specs.Kernels.{Kernels}
use Rattle.sparse_rounds.specs.Masked.{Run, idle_next, is_called, is_freed}

-- a buffer: cells, ghosts and flux pairs of a field on a block
pub record Buf (V G F : Type 0) : Type 0 where
  pub cells : V
  pub ghosts : G
  pub pairs : F

-- what a list holds, by block and field: buffers, which of them are leased, what is kept, and its counts and sums; of its own blocks
-- alone it tells the truth
pub record Local (V G F W : Type 0) : Type 0 where
  pub bufs : ℕ → ℕ → Option (Buf V G F)
  pub leased : ℕ → ℕ → Bool
  pub kept : ℕ → ℕ → Bool
  pub idle : ℕ → ℕ → ℕ
  pub dropped : ℕ → ℕ → ℕ
  pub inflow : ℕ → ℕ → ℕ
  pub outflow : ℕ → ℕ → ℕ
  pub made : ℕ → ℕ → ℕ
  pub used : ℕ → ℕ → ℕ
  pub wishes : ℕ → Option W

-- two rounds a stage, of ghosts and of flux sums, and a tail of three tasks: to react, to tag, to check
abbrev pub plan_of : {X V G F P W : Type 0} → Kernels X V G F P W → Plan X
plan_of k = record {
  lists = k.lists;
  rounds = 2 * k.stages;
  tail = 3;
  due = λ r. cond (r % 2 == 0) k.ghost_due k.flux_due;
  same = k.same;
  from = λ x. k.owner (k.from x);
  to = λ x. k.owner (k.to x);
}

-- what a place without a buffer stands for
abbrev pub nothing : {X V G F P W : Type 0} → Kernels X V G F P W → Buf V G F
nothing k = record { cells = k.no_cells; ghosts = k.no_ghosts; pairs = k.no_pairs }

abbrev pub read : {X V G F P W : Type 0} → Kernels X V G F P W → Option (Buf V G F) → Buf V G F
read k None = nothing k
read k (Some u) = u

-- the cells that a task was lent, with zeros for what it was not
abbrev pub lent_cells : {X V G F P W : Type 0} → Kernels X V G F P W → Local V G F W → ℕ → ℕ → V
lent_cells k l b f = cond (l.leased b f) (read k (l.bufs b f)).cells k.no_cells

-- whether a field has the flag of a task: of sending and filling ghosts, of the tasks on fluxes, or of the tail
abbrev pub has_flag : {X V G F P W : Type 0} → Kernels X V G F P W → ℕ → ℕ → Bool
has_flag k g f = cond (nat_lt g (6 * k.stages)) (cond (nat_lt (g % 6) 2) (k.has_ghosts f) (k.has_fluxes f)) true

-- a task is lent the buffers that there are, of the fields that have its flag
abbrev pub lease_of : {X V G F P W : Type 0} → Kernels X V G F P W → ℕ → Local V G F W → Local V G F W
lease_of k g l = record l { leased = λ b f. is_some (l.bufs b f) && has_flag k g f }

abbrev pub free : {V G F W : Type 0} → Local V G F W → Local V G F W
free l = record l { leased = λ _ _. false }

-- to fill: the ghosts of what is lent, and of a Sparse field that is not lent and that something flows into, which makes a buffer
abbrev pub filled : {X V G F P W : Type 0} → Kernels X V G F P W → (X → ℕ → P) → Local V G F W → Local V G F W
filled k content l = record (free l) {
  bufs = λ b f. cond (l.leased b f || (k.is_sparse f && (k.has_ghosts f && k.flows_in b f)))
      (Some (record (cond (l.leased b f) (read k (l.bufs b f)) (nothing k)) { ghosts = k.ghosts b f (λ x. content x f) }))
      (l.bufs b f);
  kept = λ b f. l.kept b f || is_called k (λ x. content x f) b f;
}

-- to compute fluxes, and to correct them
abbrev pub fluxed : {X V G F P W : Type 0} → Kernels X V G F P W → Local V G F W → Local V G F W
fluxed k l = record (free l) {
  bufs = λ b f. cond (l.leased b f) (Some (record (read k (l.bufs b f)) { pairs = k.fluxes b f (read k (l.bufs b f)).cells (read k (l.bufs b f)).ghosts })) (l.bufs b f);
}

abbrev pub fixed : {X V G F P W : Type 0} → Kernels X V G F P W → (X → ℕ → P) → Local V G F W → Local V G F W
fixed k content l = record (free l) {
  bufs = λ b f. cond (l.leased b f) (Some (record (read k (l.bufs b f)) { pairs = k.corrected b f (read k (l.bufs b f)).pairs (λ x. content x f) })) (l.bufs b f);
}

-- to update: what is not kept is made zero and dropped
abbrev pub updated_cells : {X V G F P W : Type 0} → Kernels X V G F P W → Local V G F W → ℕ → ℕ → V
updated_cells k l b f = k.update b f (read k (l.bufs b f)).cells (read k (l.bufs b f)).pairs

abbrev pub updated : {X V G F P W : Type 0} → Kernels X V G F P W → Local V G F W → Local V G F W
updated k l = record (free l) {
  bufs = λ b f. cond (l.leased b f) (Some (record (read k (l.bufs b f)) { cells = cond (l.kept b f) (updated_cells k l b f) k.no_cells })) (l.bufs b f);
  dropped = λ b f. l.dropped b f + cond (l.leased b f) (cond (l.kept b f) 0 (k.amount (updated_cells k l b f))) 0;
  inflow = λ b f. l.inflow b f + cond (l.leased b f) (k.inflow b f (read k (l.bufs b f)).pairs) 0;
  outflow = λ b f. l.outflow b f + cond (l.leased b f) (k.outflow b f (read k (l.bufs b f)).pairs) 0;
}

-- to react: a field that comes to be kept has a buffer made where it had none
abbrev pub keeps_reacted : {X V G F P W : Type 0} → Kernels X V G F P W → Local V G F W → ℕ → ℕ → Bool
keeps_reacted k l b f = l.kept b f || (k.is_sparse f && k.cells_call (k.react b (lent_cells k l b) f))

abbrev pub with_cells : {X V G F P W : Type 0} → Kernels X V G F P W → Bool → V → Option (Buf V G F) → Option (Buf V G F)
with_cells k true cells o = Some (record (read k o) { cells = cells })
with_cells k false cells None = None
with_cells k false cells (Some u) = Some (record u { cells = k.no_cells })

abbrev pub reacted : {X V G F P W : Type 0} → Kernels X V G F P W → Local V G F W → Local V G F W
reacted k l = record (free l) {
  bufs = λ b f. with_cells k (keeps_reacted k l b f) (k.react b (lent_cells k l b) f) (l.bufs b f);
  kept = keeps_reacted k l;
  dropped = λ b f. l.dropped b f + cond (keeps_reacted k l b f) 0 (k.amount (k.react b (lent_cells k l b) f));
  made = λ b f. l.made b f + k.made b (lent_cells k l b) f;
  used = λ b f. l.used b f + k.used b (lent_cells k l b) f;
}

abbrev pub tagged : {X V G F P W : Type 0} → Kernels X V G F P W → Local V G F W → Local V G F W
tagged k l = record (free l) { wishes = λ b. Some (k.wish b (lent_cells k l b)) }

-- to check: what has been idle long enough is freed and dropped, and so is each buffer of a field that is not kept
abbrev pub keeps_checked : {X V G F P W : Type 0} → Kernels X V G F P W → Local V G F W → ℕ → ℕ → Bool
keeps_checked k l b f = l.kept b f && not (is_freed k (lent_cells k l b f) (l.kept b f) (l.idle b f) f)

abbrev pub checked : {X V G F P W : Type 0} → Kernels X V G F P W → Local V G F W → Local V G F W
checked k l = record (free l) {
  bufs = λ b f. cond (keeps_checked k l b f) (l.bufs b f) None;
  kept = keeps_checked k l;
  dropped = λ b f. l.dropped b f + cond (keeps_checked k l b f) 0 (k.amount (lent_cells k l b f));
  idle = λ b f. idle_next k (lent_cells k l b f) (l.kept b f) (l.idle b f) f;
}

-- the work of a stage's task, and of the tail's
abbrev pub stage_work : {X V G F P W : Type 0} → Kernels X V G F P W → ℕ → (X → ℕ → P) → Local V G F W → Local V G F W
stage_work k zero content l = free l
stage_work k (suc zero) content l = filled k content l
stage_work k (suc (suc zero)) content l = fluxed k l
stage_work k (suc (suc (suc zero))) content l = free l
stage_work k (suc (suc (suc (suc zero)))) content l = fixed k content l
stage_work k (suc (suc (suc (suc (suc _))))) content l = updated k l

abbrev pub tail_work : {X V G F P W : Type 0} → Kernels X V G F P W → ℕ → Local V G F W → Local V G F W
tail_work k zero l = reacted k l
tail_work k (suc zero) l = tagged k l
tail_work k (suc (suc _)) l = checked k l

abbrev pub work_of : {X V G F P W : Type 0} → Kernels X V G F P W → ℕ → (X → ℕ → P) → Local V G F W → Local V G F W
work_of k g content l = cond (nat_lt g (6 * k.stages)) (stage_work k (g % 6) content l) (tail_work k (g - 6 * k.stages) l)

-- a letter of ghosts has a part for each field that is lent, and makes a buffer of zeros where a part for a Sparse field without one is not
-- blank; a letter of flux sums makes none
abbrev pub letter_of : {X V G F P W : Type 0} → Kernels X V G F P W → ℕ → X → Local V G F W → ℕ → P
letter_of k r x l f = cond (l.leased (k.from x) f) (cond (r % 2 == 0) (k.region x (read k (l.bufs (k.from x) f)).cells) (k.flux_sums x (read k (l.bufs (k.from x) f)).pairs)) (k.no_part x)

abbrev pub makes : {X V G F P W : Type 0} → Kernels X V G F P W → ℕ → X → (ℕ → P) → Local V G F W → ℕ → ℕ → Bool
makes k r x content l b f = r % 2 == 0 && (b == k.to x && (not (is_some (l.bufs b f)) && (k.is_sparse f && (k.has_ghosts f && not (k.is_blank (content f))))))

abbrev pub arrived : {X V G F P W : Type 0} → Kernels X V G F P W → ℕ → X → (ℕ → P) → Local V G F W → Local V G F W
arrived k r x content l = record l { bufs = λ b f. cond (makes k r x content l b f) (Some (nothing k)) (l.bufs b f) }

-- what a list holds as a cycle starts
abbrev pub begin_with : {X V G F P W : Type 0} → Kernels X V G F P W → Run V → Local V G F W
begin_with k start = record {
  bufs = λ b f. cond (start.kept b f) (Some (record (nothing k) { cells = start.mesh b f })) None;
  leased = λ _ _. false;
  kept = start.kept;
  idle = start.idle;
  dropped = start.dropped;
  inflow = start.inflow;
  outflow = start.outflow;
  made = start.made;
  used = start.used;
  wishes = λ _. None;
}

-- the machine of sparse buffers
abbrev pub sparse : {X V G F P W : Type 0} → Kernels X V G F P W → Run V → Machine X (Local V G F W) (ℕ → P)
sparse k start = record {
  begin = λ _. begin_with k start;
  lease = λ _ g l. lease_of k g l;
  work = λ _ g content l. work_of k g content l;
  arrive = arrived k;
  letter = letter_of k;
  blank = λ x _. k.no_part x;
}
