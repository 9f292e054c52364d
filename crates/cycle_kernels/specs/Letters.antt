-- Ghost letters between blocks: the part of a field that a letter has, and the ghosts that the letters to a block give.
use Rattle.std.specs.Prelude.{◌==◌, ℕ, Bool, false, true, cond, ◌&&◌, not, List, [], ◌∷◌, replicate}
use Rattle.std.specs.List.{flat_map, range_with_len}
use Rattle.morton_order.specs.declared.space.Side.{Side}
use Rattle.morton_order.specs.Space.{child_number}
use Rattle.mesh_rules.specs.Sums.{table}
use Rattle.mesh_rules.specs.Due.{Exchange, ghost_letters}
use Rattle.mesh_rules.specs.Regions.{Sender, coarser, finer, same_level, sender_of}
use Rattle.block_layout.specs.Indices.{count_of}
use Rattle.block_layout.specs.Layouts.{len}
use Rattle.block_layout.specs.Regions.{Region, covers, ghosts}
use Rattle.ghost_buffers.specs.declared.part.How.{How}
use Rattle.ghost_buffers.specs.declared.part.How.TheVariants.{Same, Finer, Coarser}
use Rattle.ghost_buffers.specs.Parts.{part_extents, part_of}
use Rattle.ghost_buffers.specs.Ghosts.{ghost_cell, received}
use Rattle.letter_laws.specs.Sides.{side_part}
use Rattle.sparse_rounds.specs.Row.{same_bool}
use Rattle.cycle_kernels.specs.Blocks.{CycleMesh, is_domain_face, leaf_at, total_outside}
use Rattle.cycle_kernels.specs.Lists.{index_at, less, with_ghosts}

-- whether two letters are one
abbrev pub same_letter : Exchange → Exchange → Bool
same_letter x y = x.from == y.from && (x.to == y.to && (x.axis == y.axis && same_bool x.high y.high))

-- what its sender is to its receiver
abbrev pub how_by : Sender → How
how_by same_level = Same
how_by finer = Finer
how_by coarser = Coarser

abbrev pub how_sent : CycleMesh → Exchange → How
how_sent w x = how_by (sender_of (leaf_at w x.from) (leaf_at w x.to))

-- the part of the coarser block's side that the finer of the two covers; blocks of one level cover the whole side
abbrev pub part_by : How → CycleMesh → Exchange → ℕ
part_by Same w x = 0
part_by Finer w x = side_part x.axis (child_number w.mesh.shape.dims (leaf_at w x.from))
part_by Coarser w x = side_part x.axis (child_number w.mesh.shape.dims (leaf_at w x.to))

abbrev pub part_covered : CycleMesh → Exchange → ℕ
part_covered w x = part_by (how_sent w x) w x

-- zeros for a field that a letter has no part for
abbrev pub no_part : CycleMesh → Exchange → List ℕ
no_part w x = replicate (count_of (part_extents (how_sent w x) w.layout x.axis)) 0

-- a field's part of a letter, made of the totals that its sender has
abbrev pub region_sent : CycleMesh → Exchange → List ℕ → List ℕ
region_sent w x totals = part_of (how_sent w x) w.layout x.axis (not x.high) (part_covered w x) (with_ghosts w.layout totals [])

-- the ghosts of its receiver that a letter gives, and what its part gives for one of them
abbrev pub region_given : CycleMesh → Exchange → Region
region_given w x = received (how_sent w x) w.layout x.axis x.high (part_covered w x)

abbrev pub total_given : CycleMesh → Exchange → List ℕ → List ℕ → ℕ
total_given w x part i = ghost_cell (how_sent w x) w.layout x.axis part (less i (region_given w x).low)

-- the sides of a block
abbrev pub sides : ℕ → List Side
sides dims = flat_map (λ axis. record { axis = axis; high = false } ∷ record { axis = axis; high = true } ∷ []) (range_with_len 0 dims)

-- the total at an index of a block beyond a face of the domain, by the first of some sides that it lies beyond; elsewhere nothing
abbrev pub outside_at : CycleMesh → ℕ → ℕ → List Side → List ℕ → ℕ
outside_at w b f [] i = 0
outside_at w b f (side ∷ rest) i =
    cond (is_domain_face w b side.axis side.high && covers (ghosts w.layout side.axis side.high) i) (total_outside w b f side.axis side.high) (outside_at w b f rest i)

-- the ghost of a block and field at an index: what the first of some letters that gives it has for it, or what stands outside of the
-- domain; in the corners nothing
abbrev pub ghost_at : CycleMesh → ℕ → ℕ → List Exchange → (Exchange → List ℕ) → List ℕ → ℕ
ghost_at w b f [] parts i = outside_at w b f (sides w.mesh.shape.dims) i
ghost_at w b f (x ∷ rest) parts i = cond (x.to == b && covers (region_given w x) i) (total_given w x (parts x) i) (ghost_at w b f rest parts i)

-- the ghosts that a block and field have by the letters of a stage
abbrev pub ghosts_by : CycleMesh → ℕ → ℕ → (Exchange → List ℕ) → List ℕ
ghosts_by w b f parts = table (len w.layout) (λ place. ghost_at w b f (ghost_letters w.mesh) parts (index_at w.layout place))
