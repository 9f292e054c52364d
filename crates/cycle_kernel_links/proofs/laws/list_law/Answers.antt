use Rattle.cycle_kernel_links.proofs.Cells.{absent_is_nothing}
use Rattle.cycle_kernel_links.proofs.Lists.{ghosts_again, own_again, whole_again}
use Rattle.cycle_kernel_links.proofs.laws.list_law.Goals as goal

pub returns-clause-lists : goal.returns-clause-lists
returns-clause-lists c = record { whole = whole_again; own = own_again; ghosts = ghosts_again }

pub returns-clause-absent : goal.returns-clause-absent
returns-clause-absent c = absent_is_nothing
