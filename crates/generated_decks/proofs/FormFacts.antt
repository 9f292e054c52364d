-- What the two forms of generated decks have in common.
use Rattle.std.proofs.Common.{◌≡◌, ◌*◌, ◌/◌, ◌%◌, ◌≤◌, true, refl, arith}
use Rattle.std.specs.Prelude.{◌==◌}
use Rattle.deck_generator.specs.declared.form.Form.{Form}
use Rattle.deck_generator.specs.Forms.{small, large_form}

pub record IsUsual (f : Form) : Type 0 where
  pub fewest_cells : 4 ≤ f.cells
  pub most_cells : f.cells ≤ 65536
  pub one_level : 1 ≤ f.levels
  pub two_levels : f.levels ≤ 2
  pub least_pack : 1 ≤ f.pack_size
  pub most_pack : f.pack_size ≤ 65536
  pub fewest_block_cells : 4 ≤ f.block_cells
  pub most_block_cells : f.block_cells ≤ 64
  pub even : (f.block_cells % 2 == 0) ≡ true
  pub divides : (f.cells % f.block_cells == 0) ≡ true
  pub roots : (f.cells / f.block_cells) * (f.cells / f.block_cells) * 1 ≤ 65536
  pub few_cycles : f.cycles ≤ 65535
  pub two_fields : 2 ≤ f.fields
  pub few_fields : f.fields ≤ 256

pub small-usual : IsUsual small
small-usual = record {
  fewest_cells = omega arith;
  most_cells = omega arith;
  one_level = omega arith;
  two_levels = omega arith;
  least_pack = omega arith;
  most_pack = omega arith;
  fewest_block_cells = omega arith;
  most_block_cells = omega arith;
  even = refl;
  divides = refl;
  roots = omega arith;
  few_cycles = omega arith;
  two_fields = omega arith;
  few_fields = omega arith;
}

pub large-usual : IsUsual large_form
large-usual = record {
  fewest_cells = omega arith;
  most_cells = omega arith;
  one_level = omega arith;
  two_levels = omega arith;
  least_pack = omega arith;
  most_pack = omega arith;
  fewest_block_cells = omega arith;
  most_block_cells = omega arith;
  even = refl;
  divides = refl;
  roots = omega arith;
  few_cycles = omega arith;
  two_fields = omega arith;
  few_fields = omega arith;
}
