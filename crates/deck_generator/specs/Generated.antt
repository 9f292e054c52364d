-- The generated deck of a number.
use Rattle.std.specs.Prelude.{◌+◌, ◌*◌, ◌-◌, ◌%◌, ◌^◌, ◌++◌, ℕ, zero, suc, nat_lt, if◌then◌else◌, Bool, List, [], ◌∷◌, map, codes}
use Rattle.std.specs.List.{range_with_len}
use Rattle.std.specs.Fmt.{decimal}
use Rattle.input_file.specs.Texts.{Text}
use Rattle.input_file.specs.Blocks.{Entries, Blocks}
use Rattle.deck_generator.specs.declared.form.Form.{Form}
use Rattle.deck_generator.specs.Forms.{form_of, refinement_word}
use Rattle.deck_generator.specs.Values.{field_label, negative_text, numbers_below}

-- the next number of the sequence
abbrev pub next_drawn : ℕ → ℕ
next_drawn r = (r * 1103515245 + 12345) % 2 ^ 31

-- the numbers that are drawn from a seed, which is the first of them: of 0 come 0, 12345, 1406932606, ..
unfoldable pub drawn : ℕ → ℕ → ℕ
drawn seed zero = seed
drawn seed (suc i) = next_drawn (drawn seed i)

abbrev pub mesh_settings : Form → Entries
mesh_settings f =
    (codes "nx1", decimal f.cells) ∷ (codes "nx2", decimal f.cells)
    ∷ (codes "refinement", refinement_word f.adaptive) ∷ (codes "numlevel", decimal f.levels)
    ∷ (codes "derefine_count", codes "2") ∷ (codes "pack_size", decimal f.pack_size)
    ∷ (codes "ix1_bc", codes "periodic") ∷ (codes "ox1_bc", codes "periodic")
    ∷ (codes "ix2_bc", codes "reflecting") ∷ (codes "ox2_bc", codes "reflecting") ∷ []

abbrev pub meshblock_settings : Form → Entries
meshblock_settings f = (codes "nx1", decimal f.block_cells) ∷ (codes "nx2", decimal f.block_cells) ∷ []

abbrev pub time_settings : Form → Entries
time_settings f = (codes "nlim", decimal f.cycles) ∷ []

abbrev pub whole_settings : Entries
whole_settings = (codes "denominator", codes "64") ∷ (codes "nstages", codes "2") ∷ (codes "refine_every", codes "2") ∷ (codes "dump_every", codes "4") ∷ []

-- a speed of at most 2 either way, by a number that was drawn: `-2`, `-1`, `0`, `1` or `2`
abbrev pub speed_text : ℕ → Text
speed_text r = if nat_lt (r % 5) 2 then negative_text (2 - r % 5) else decimal (r % 5 - 2)

-- a pool of sparse fields, by the numbers that were drawn for its speeds along x1 and x2
abbrev pub field_settings : Form → ℕ → ℕ → Entries
field_settings f r1 r2 =
    (codes "flags", codes "Cell,Independent,FillGhost,WithFluxes,Sparse") ∷ (codes "ids", numbers_below f.fields)
    ∷ (codes "v1", speed_text r1) ∷ (codes "v2", speed_text r2) ∷ (codes "k", codes "1") ∷ []

-- the first cell along an axis of a box of two cells, by a number that was drawn
abbrev pub first_cell : Form → ℕ → ℕ
first_cell f r = r % (f.cells - 1)

abbrev pub box_name : ℕ → Text
box_name i = codes "box/" ++ decimal i

-- a box of two by two cells of the field with a number, by the numbers that were drawn for its places along x1 and x2
abbrev pub box_settings : Form → ℕ → ℕ → ℕ → Entries
box_settings f i r1 r2 =
    (codes "field", field_label i) ∷ (codes "lo1", decimal (first_cell f r1)) ∷ (codes "hi1", decimal (first_cell f r1 + 1))
    ∷ (codes "lo2", decimal (first_cell f r2)) ∷ (codes "hi2", decimal (first_cell f r2 + 1)) ∷ (codes "amount", decimal (1000 + i)) ∷ []

abbrev pub box_block : Form → ℕ → ℕ → Text × Entries
box_block f seed i = (box_name i, box_settings f i (drawn seed (3 + 2 * i)) (drawn seed (4 + 2 * i)))

abbrev pub reaction_settings : Entries
reaction_settings = (codes "from", codes "s_0") ∷ (codes "to", codes "s_1") ∷ (codes "num", codes "1") ∷ (codes "den", codes "10") ∷ []

abbrev pub criterion_settings : Entries
criterion_settings =
    (codes "field", codes "s_0") ∷ (codes "method", codes "peak") ∷ (codes "refine_tol", codes "500") ∷ (codes "derefine_tol", codes "50") ∷ []

-- the blocks before the boxes
abbrev pub first_blocks : Form → ℕ → Blocks
first_blocks f seed =
    (codes "parthenon/mesh", mesh_settings f) ∷ (codes "parthenon/meshblock", meshblock_settings f)
    ∷ (codes "parthenon/time", time_settings f) ∷ (codes "whole", whole_settings) ∷ (codes "field/s", field_settings f (drawn seed 1) (drawn seed 2)) ∷ []

-- the blocks behind the boxes
abbrev pub last_blocks : Blocks
last_blocks = (codes "reaction/r", reaction_settings) ∷ (codes "criterion/c", criterion_settings) ∷ []

-- the deck of a form and a seed
unfoldable pub generated_of : Form → ℕ → Blocks
generated_of f seed = first_blocks f seed ++ map (box_block f seed) (range_with_len 0 f.fields) ++ last_blocks

-- the deck of a seed, large or small
abbrev pub generated : ℕ → Bool → Blocks
generated seed large = generated_of (form_of large) seed
