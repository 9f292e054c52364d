use Rattle.strided_rows.proofs.Reading.{planes-inside, planes-outside, length-planes_written}
use Rattle.strided_rows.proofs.laws.written_law.Goals as goal

pub returns : goal.returns
returns c = record { inside = planes-inside; outside = planes-outside; length_stays = length-planes_written }
