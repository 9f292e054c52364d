-- Kernels that meet the laws: a coarse block beside two finer ones, with sums of finer cells, shares of coarser ones and flux sums.
use Rattle.std.specs.Prelude.{◌==◌, ℕ, zero, suc, ◌+◌, ◌-◌, ◌/◌, ◌%◌, Bool, true, false, cond, ◌&&◌, nat_lt, [], ◌∷◌}
use Rattle.sparse_rounds.specs.Kernels.{AreKernels, Kernels}
use Rattle.sparse_rounds.specs.Row.{same_bool}

-- a letter between block 0, which is coarse, and a finer block; down is from the coarse one
pub record Link : Type 0 where
  pub fine : ℕ
  pub down : Bool

-- a part: a cell, or what a finer face passes to the right and to the left; and what passes the face between the blocks
pub record Part : Type 0 where
  pub first : ℕ
  pub second : ℕ

pub record Pair : Type 0 where
  pub right : ℕ
  pub left : ℕ

abbrev pub same_link : Link → Link → Bool
same_link x y = x.fine == y.fine && same_bool x.down y.down

-- one of four shares of a coarse cell
abbrev pub quarter : ℕ → ℕ → ℕ
quarter v j = v / 4 + cond (nat_lt j (v % 4)) 1 0

-- beyond the face the coarse block has the sum of the two finer cells, and a finer block its share of the coarse one
abbrev pub beyond : ℕ → (Link → Part) → ℕ
beyond zero c = (c (record { fine = 1; down = false })).first + (c (record { fine = 2; down = false })).first
beyond (suc j) c = quarter (cond (nat_lt j 2) (c (record { fine = suc j; down = true })).first 0) j

-- a quarter of each cell passes the face, which is the coarse block's high one and the finer blocks' low one
abbrev pub across : ℕ → ℕ → ℕ → Pair
across zero v beyond = record { right = v / 4; left = beyond / 4 }
across (suc j) v beyond = record { right = beyond / 4; left = v / 4 }

-- the coarse block takes the sums of the finer ones' pairs
abbrev pub fine_sums : ℕ → Pair → (Link → Part) → Pair
fine_sums zero p c = record {
  right = (c (record { fine = 1; down = false })).first + (c (record { fine = 2; down = false })).first;
  left = (c (record { fine = 1; down = false })).second + (c (record { fine = 2; down = false })).second;
}
fine_sums (suc j) p c = p

abbrev pub moved : ℕ → ℕ → Pair → ℕ
moved zero v p = (v - p.right) + p.left
moved (suc j) v p = (v - p.left) + p.right

abbrev pub corner_kernels : ℕ → ℕ → Kernels Link ℕ ℕ Pair Part ℕ
corner_kernels above idle_limit = record {
  lists = 2;
  stages = 2;
  owner = λ b. cond (b == 0) 0 1;
  is_sparse = λ _. true;
  has_ghosts = λ _. true;
  has_fluxes = λ _. true;
  ghost_due = record { fine = 1; down = false } ∷ record { fine = 2; down = false } ∷ record { fine = 1; down = true } ∷ record { fine = 2; down = true } ∷ [];
  flux_due = record { fine = 1; down = false } ∷ record { fine = 2; down = false } ∷ [];
  same = same_link;
  from = λ x. cond x.down 0 x.fine;
  to = λ x. cond x.down x.fine 0;
  no_cells = 0;
  no_ghosts = 0;
  no_pairs = record { right = 0; left = 0 };
  no_part = λ _. record { first = 0; second = 0 };
  region = λ _ v. record { first = v; second = 0 };
  is_blank = λ p. p.first == 0;
  calls = λ p. nat_lt above p.first;
  flows_in = λ _ _. false;
  inflow_calls = λ _ _. false;
  ghosts = λ b _ c. beyond b c;
  fluxes = λ b _ v e. across b v e;
  flux_sums = λ _ p. record { first = p.right; second = p.left };
  corrected = λ b _ p c. fine_sums b p c;
  update = λ b _ v p. moved b v p;
  inflow = λ _ _ _. 0;
  outflow = λ _ _ _. 0;
  react = λ _ v f. v f;
  made = λ _ _ _. 0;
  used = λ _ _ _. 0;
  cells_call = λ v. nat_lt above v;
  is_idle = λ v. v == 0;
  idle_limit = idle_limit;
  wish = λ _ v. v 0;
  amount = λ v. v;
}

abbrev pub CornersMeetTheLaws : Type 0
CornersMeetTheLaws = (above idle_limit : ℕ) → AreKernels (corner_kernels above idle_limit)
