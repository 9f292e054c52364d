-- The two forms of a generated deck.
use Rattle.std.specs.Prelude.{if◌then◌else◌, Bool, true, false, codes}
use Rattle.input_file.specs.Texts.{Text}
use Rattle.deck_generator.specs.declared.form.Form.{Form}

-- 8 fields on 16 root blocks of 8 by 8 cells, which are refined
abbrev pub small : Form
small = record { cells = 32; adaptive = true; levels = 2; pack_size = 3; block_cells = 8; cycles = 12; fields = 8 }

-- 256 fields on 16,384 blocks of 16 by 16 cells
abbrev pub large_form : Form
large_form = record { cells = 2048; adaptive = false; levels = 1; pack_size = 16; block_cells = 16; cycles = 4; fields = 256 }

abbrev pub form_of : Bool → Form
form_of large = if large then large_form else small

-- how the mesh is refined
abbrev pub refinement_word : Bool → Text
refinement_word adaptive = if adaptive then codes "adaptive" else codes "none"
