-- What the calls that set keys one after another leave; it serves the contracts of private calls.
use Rattle.std.specs.Prelude.{◌+◌, ◌*◌, ◌&&◌, ℕ, zero, suc, Bool, List, [], ◌∷◌, codes}
use Rattle.input_file.specs.Texts.{Text, is_key}
use Rattle.input_file.specs.Blocks.{Entries, Blocks, set}
use Rattle.deck_generator.specs.declared.form.Form.{Form}
use Rattle.deck_generator.specs.declared.values.Value.{Value}
use Rattle.deck_generator.specs.Values.{value_text, is_formed}
use Rattle.deck_generator.specs.Generated.{drawn, box_name, box_settings, mesh_settings, meshblock_settings, time_settings, whole_settings, field_settings, reaction_settings, criterion_settings}
use denote.Ref.{Bor}

-- a key and its value
abbrev pub setting_of : Bor Text × Value → Text × Text
setting_of e = (e.0.now, value_text e.1)

-- a key and a value that may stand in a deck
abbrev pub is_setting : Bor Text × Value → Bool
is_setting e = is_key e.0.now && is_formed e.1

-- the deck with keys of a block set one after another
unfoldable pub with_settings : Blocks → Text → Entries → Blocks
with_settings d name [] = d
with_settings d name (e ∷ es) = with_settings (set d name e.0 e.1) name es

-- the deck with a box for each of the first fields
unfoldable pub with_boxes : Form → ℕ → Blocks → ℕ → Blocks
with_boxes f seed d zero = d
with_boxes f seed d (suc i) = with_settings (with_boxes f seed d i) (box_name i) (box_settings f i (drawn seed (3 + 2 * i)) (drawn seed (4 + 2 * i)))

-- the deck with the blocks before the field
abbrev pub with_mesh : Form → Blocks → Blocks
with_mesh f d =
    with_settings (with_settings (with_settings (with_settings d (codes "parthenon/mesh") (mesh_settings f)) (codes "parthenon/meshblock") (meshblock_settings f)) (codes "parthenon/time") (time_settings f)) (codes "whole") whole_settings

abbrev pub with_field : Form → ℕ → Blocks → Blocks
with_field f seed d = with_settings d (codes "field/s") (field_settings f (drawn seed 1) (drawn seed 2))

-- the deck with the reaction and the criterion
abbrev pub with_rules : Blocks → Blocks
with_rules d = with_settings (with_settings d (codes "reaction/r") reaction_settings) (codes "criterion/c") criterion_settings
