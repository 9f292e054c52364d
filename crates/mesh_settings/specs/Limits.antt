-- The greatest numbers that a deck may name, and how many blocks of a kind it may have.
use Rattle.std.specs.Prelude.{ℕ}

-- a total, or an amount: 2^62 - 1
abbrev pub greatest_total : ℕ
greatest_total = 4611686018427387903

-- the cells of the mesh along an axis
abbrev pub greatest_size : ℕ
greatest_size = 4194304

-- the fewest cells of the mesh, and of a block, along an axis that is in use
abbrev pub least_cells : ℕ
least_cells = 4

-- the cells of a block along an axis
abbrev pub greatest_cells : ℕ
greatest_cells = 64

-- the root blocks of the mesh
abbrev pub greatest_roots : ℕ
greatest_roots = 65536

-- the levels of refinement
abbrev pub greatest_levels : ℕ
greatest_levels = 11

-- the tags in a row after which blocks are merged
abbrev pub greatest_derefine_count : ℕ
greatest_derefine_count = 1000

-- the leaves of a partition
abbrev pub greatest_pack : ℕ
greatest_pack = 65536

-- the cycles of a run, and those between two remeshings, dumps or frees
abbrev pub greatest_cycles : ℕ
greatest_cycles = 65535

-- the stages of a cycle
abbrev pub greatest_stages : ℕ
greatest_stages = 4

-- a denominator, a velocity, a diffusion coefficient
abbrev pub greatest_factor : ℕ
greatest_factor = 1000000000

-- the fields of a registry
abbrev pub most_fields : ℕ
most_fields = 256

-- the static boxes, opening boxes, reactions and criteria of a deck
abbrev pub most_statics : ℕ
most_statics = 256

abbrev pub most_boxes : ℕ
most_boxes = 4096

abbrev pub most_reactions : ℕ
most_reactions = 256

abbrev pub most_criteria : ℕ
most_criteria = 64
