-- The keys of time, of sparse fields and of the whole numbers.
use Rattle.std.specs.Prelude.{ℕ, Some, None, Result, Ok, codes}
use Rattle.input_file.specs.Texts.{Text}
use Rattle.input_file.specs.Blocks.{Blocks}
use Rattle.deck_values.specs.declared.fault.ProblemFault.{ProblemFault}
use Rattle.mesh_settings.specs.declared.stepping.Sparsity.{Sparsity}
use Rattle.mesh_settings.specs.declared.stepping.CycleSettings.{CycleSettings}
use Rattle.mesh_settings.specs.declared.stepping.Stepping.{Stepping}
use Rattle.deck_values.specs.Reading.{◌>>=◌}
use Rattle.deck_values.specs.BlockReader.{number}
use Rattle.mesh_settings.specs.Limits.{greatest_cycles, greatest_factor, greatest_stages, greatest_total}

-- the names of the blocks
unfoldable pub time : Text
time = codes "parthenon/time"

unfoldable pub sparse : Text
sparse = codes "parthenon/sparse"

unfoldable pub whole : Text
whole = codes "whole"

unfoldable pub nlim : Blocks → Result ℕ ProblemFault
nlim d = number d time (codes "nlim") 0 greatest_cycles None

unfoldable pub alloc_threshold : Blocks → Result ℕ ProblemFault
alloc_threshold d = number d sparse (codes "alloc_threshold") 0 greatest_total (Some 0)

unfoldable pub dealloc_threshold : Blocks → Result ℕ ProblemFault
dealloc_threshold d = number d sparse (codes "dealloc_threshold") 0 greatest_total (Some 0)

unfoldable pub dealloc_count : Blocks → Result ℕ ProblemFault
dealloc_count d = number d sparse (codes "dealloc_count") 1 greatest_cycles (Some 5)

unfoldable pub denominator : Blocks → Result ℕ ProblemFault
denominator d = number d whole (codes "denominator") 1 greatest_factor (Some 1000)

unfoldable pub nstages : Blocks → Result ℕ ProblemFault
nstages d = number d whole (codes "nstages") 1 greatest_stages (Some 1)

unfoldable pub refine_every : Blocks → Result ℕ ProblemFault
refine_every d = number d whole (codes "refine_every") 1 greatest_cycles (Some 1)

unfoldable pub dump_every : Blocks → Result ℕ ProblemFault
dump_every d = number d whole (codes "dump_every") 1 greatest_cycles (Some 10)

-- when sparse fields are allocated and freed
unfoldable pub sparsity : Blocks → Result Sparsity ProblemFault
sparsity d = do
  a ← alloc_threshold d
  z ← dealloc_threshold d
  n ← dealloc_count d
  Ok (record { alloc_threshold = a; dealloc_threshold = z; dealloc_count = n })

-- how a cycle goes on
unfoldable pub cycle_settings : Blocks → Result CycleSettings ProblemFault
cycle_settings d = do
  c ← denominator d
  n ← nstages d
  r ← refine_every d
  e ← dump_every d
  Ok (record { denominator = c; nstages = n; refine_every = r; dump_every = e })

-- all keys of the three blocks, in order
unfoldable pub stepping : Blocks → Result Stepping ProblemFault
stepping d = do
  n ← nlim d
  s ← sparsity d
  p ← cycle_settings d
  Ok (record { nlim = n; sparsity = s; cycle = p })
