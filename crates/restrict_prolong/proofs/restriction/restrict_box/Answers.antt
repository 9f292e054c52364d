use Rattle.std.proofs.Common.{refl}
use Rattle.restrict_prolong.proofs.restriction.restrict_box.Goals as goal

pub write_box_rows-requires-clause-asks : goal.write_box_rows-requires-clause-asks
write_box_rows-requires-clause-asks c = λ row plane hr hp. record {
  sums = record { cells = c.requires.cells; factors = c.requires.factors; fine = refl; lies = c.requires.from; whole = refl };
  lies_in = record { row_in = hr; plane_in = hp };
  small = c.requires.small;
}

pub returns-clause-inside : goal.returns-clause-inside
returns-clause-inside c = λ i w. c.write_box_rows.ensures.inside i w
