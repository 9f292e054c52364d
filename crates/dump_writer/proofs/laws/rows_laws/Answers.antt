use Rattle.dump_writer.proofs.Rows.{rows_are_history, rows_are_lines, rows_have_fields}
use Rattle.dump_writer.proofs.laws.rows_laws.Goals as goal

pub returns-clause-lines : goal.returns-clause-lines
returns-clause-lines c = rows_are_lines

pub returns-clause-history : goal.returns-clause-history
returns-clause-history c = rows_are_history

pub returns-clause-fields : goal.returns-clause-fields
returns-clause-fields c = rows_have_fields
