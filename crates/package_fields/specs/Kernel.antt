-- What a kernel makes of the totals of a cell, and the laws that it keeps.
use Rattle.std.specs.Prelude.{◌≡◌, ℕ, ◌+◌, ◌*◌, ◌<◌, ◌≤◌, List, length, replicate, slice_index, sum, map}
use Rattle.std.specs.List.{enumerate_from}
use Rattle.package_fields.specs.declared.flow.Flow.{Flow}

-- the totals of a cell by field after a kernel, and what of each field it made and used there
pub record Reacted : Type 0 where
  pub totals : List ℕ
  pub made : List ℕ
  pub used : List ℕ

-- a cell of zeros, of which nothing was made or used
abbrev pub nothing : ℕ → Reacted
nothing fields = record { totals = replicate fields 0; made = replicate fields 0; used = replicate fields 0 }

-- each list has an item for each field
pub record HasFields (fields : ℕ) (r : Reacted) : Type 0 where
  pub totals : length r.totals ≡ fields
  pub made : length r.made ≡ fields
  pub used : length r.used ≡ fields

-- what was used of a field is gone, and what was made of it has come: of 5 with 2 made and 3 used 4 remain.
-- Neither is more than 256 times what the whole cell holds.
pub record Balances (cell : List ℕ) (r : Reacted) (field : ℕ) : Type 0 where
  pub balanced : slice_index r.totals field + slice_index r.used field ≡ slice_index cell field + slice_index r.made field
  pub made_bounded : slice_index r.made field ≤ 256 * sum cell
  pub used_bounded : slice_index r.used field ≤ 256 * sum cell

-- the laws of a kernel: nothing comes of nothing, the sum over a cell is kept, and each field balances
pub record KernelLaws (fields : ℕ) (react : List ℕ → Reacted) : Type 0 where
  pub has_fields : (cell : List ℕ) → length cell ≡ fields → HasFields fields (react cell)
  pub keeps_zeros : react (replicate fields 0) ≡ nothing fields
  pub keeps_sum : (cell : List ℕ) → length cell ≡ fields → sum (react cell).totals ≡ sum cell
  pub keeps_balance : (cell : List ℕ) (field : ℕ) → length cell ≡ fields → field < fields → Balances cell (react cell) field

-- a flow with that much more made and used, and the same inflow and outflow
abbrev pub with_parts : Flow → ℕ → ℕ → Flow
with_parts flow made used = record flow { made = flow.made + made; used = flow.used + used }

-- the flows by field with what a kernel made and used in one more cell
abbrev pub with_reacted : List Flow → Reacted → List Flow
with_reacted flows r = map (λ (field, flow). with_parts flow (slice_index r.made field) (slice_index r.used field)) (enumerate_from 0 flows)
