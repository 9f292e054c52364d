-- Kernels that meet the laws: a row of blocks of one level, of one cell each, whose fields flow along it and react.
use Rattle.std.specs.Prelude.{◌≡◌, ◌==◌, ℕ, zero, suc, ◌+◌, ◌-◌, ◌/◌, Bool, true, false, cond, ◌&&◌, not, nat_lt, nat_le, List, ◌++◌, map}
use Rattle.std.specs.List.{range_with_len}
use Rattle.sparse_rounds.specs.Kernels.{AreKernels, Kernels}
use Rattle.sparse_rounds.specs.Dense.{AreZeroThresholds}

-- a row: how many blocks and stages there are, by how many blocks to a list; what flows in at its low end; the thresholds of allocation and
-- of freeing, and the count of idle checks
pub record RowOf : Type 0 where
  pub blocks : ℕ
  pub stages : ℕ
  pub inflow : ℕ → ℕ
  pub above : ℕ
  pub idle_at : ℕ
  pub idle_limit : ℕ

-- the cell of the block at a side of another, as it is sent to it
pub record Side : Type 0 where
  pub block : ℕ
  pub high : Bool

-- the cells beyond the two ends of a block; and what passes its two faces, to the right and to the left
pub record Ends : Type 0 where
  pub low : ℕ
  pub high : ℕ

pub record Passing : Type 0 where
  pub low_right : ℕ
  pub low_left : ℕ
  pub high_right : ℕ
  pub high_left : ℕ

abbrev pub same_bool : Bool → Bool → Bool
same_bool true b = b
same_bool false b = not b

abbrev pub same_side : Side → Side → Bool
same_side x y = x.block == y.block && same_bool x.high y.high

-- the block behind a side
abbrev pub behind : Side → ℕ
behind x = cond x.high (x.block + 1) (x.block - 1)

-- what is due: for each block but the first what is behind its low side, and for each but the last what is behind its high one
abbrev pub due_of : ℕ → List Side
due_of zero = map (λ b. record { block = b; high = true }) (range_with_len 0 0)
due_of (suc n) = map (λ b. record { block = b; high = false }) (range_with_len 1 n) ++ map (λ b. record { block = b; high = true }) (range_with_len 0 n)

abbrev pub ends_of : RowOf → ℕ → ℕ → (Side → ℕ) → Ends
ends_of w b f c = record {
  low = cond (b == 0) (w.inflow f) (cond (nat_lt b w.blocks) (c (record { block = b; high = false })) 0);
  high = cond (nat_lt (b + 1) w.blocks) (c (record { block = b; high = true })) 0;
}

-- a quarter of each cell passes each of its two faces
abbrev pub passing : ℕ → Ends → Passing
passing v e = record { low_right = e.low / 4; low_left = v / 4; high_right = v / 4; high_left = e.high / 4 }

abbrev pub passed : ℕ → Passing → ℕ
passed v p = (v - (p.low_left + p.high_right)) + (p.low_right + p.high_left)

-- half of the first field turns into the second
abbrev pub turned : (ℕ → ℕ) → ℕ → ℕ
turned v zero = v 0 - v 0 / 2
turned v (suc zero) = v 1 + v 0 / 2
turned v (suc (suc f)) = v (suc (suc f))

abbrev pub gained : (ℕ → ℕ) → ℕ → ℕ
gained v zero = 0
gained v (suc zero) = v 0 / 2
gained v (suc (suc f)) = 0

abbrev pub lost : (ℕ → ℕ) → ℕ → ℕ
lost v zero = v 0 / 2
lost v (suc f) = 0

-- the kernels of a row; each block is a list of its own. Fields 0 and 1 are Sparse, with ghosts and fluxes; field 2 is neither
abbrev pub moves : ℕ → Bool
moves f = nat_lt f 2

abbrev pub row_kernels : RowOf → Kernels Side ℕ Ends Passing ℕ Bool
row_kernels w = record {
  lists = w.blocks + 1;
  stages = w.stages;
  owner = λ b. cond (nat_lt b w.blocks) b w.blocks;
  is_sparse = moves;
  has_ghosts = moves;
  has_fluxes = moves;
  ghost_due = due_of w.blocks;
  flux_due = due_of 0;
  same = same_side;
  from = behind;
  to = λ x. x.block;
  no_cells = 0;
  no_ghosts = record { low = 0; high = 0 };
  no_pairs = record { low_right = 0; low_left = 0; high_right = 0; high_left = 0 };
  no_part = λ _. 0;
  region = λ _ v. v;
  is_blank = λ v. v == 0;
  calls = λ v. nat_lt w.above v;
  flows_in = λ b f. b == 0 && not (w.inflow f == 0);
  inflow_calls = λ b f. b == 0 && nat_lt w.above (w.inflow f);
  ghosts = ends_of w;
  fluxes = λ _ _ v e. passing v e;
  flux_sums = λ _ _. 0;
  corrected = λ _ _ p _. p;
  update = λ _ _ v p. passed v p;
  inflow = λ b _ p. cond (b == 0) p.low_right 0;
  outflow = λ b _ p. cond (b == 0) p.low_left 0 + cond (b + 1 == w.blocks) p.high_right 0;
  react = λ _ v f. turned v f;
  made = λ _ v f. gained v f;
  used = λ _ v f. lost v f;
  cells_call = λ v. nat_lt w.above v;
  is_idle = λ v. nat_le v w.idle_at;
  idle_limit = w.idle_limit;
  wish = λ _ v. nat_lt 100 (v 0);
  amount = λ v. v;
}

-- the kernels of every row meet the laws, and at zero thresholds those of zero thresholds
abbrev pub RowsMeetTheLaws : Type 0
RowsMeetTheLaws = (w : RowOf) → AreKernels (row_kernels w) × (w.above ≡ 0 → w.idle_at ≡ 0 → AreZeroThresholds (row_kernels w))
