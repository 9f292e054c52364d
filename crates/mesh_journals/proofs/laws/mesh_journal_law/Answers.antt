use Rattle.mesh_journals.proofs.Ended.{journals_end_by_rules, journals_hold_rules, mesh_cycles_are_cycles, mesh_events_are_counted, meshes_are_never_stuck}
use Rattle.mesh_journals.proofs.laws.mesh_journal_law.Goals as goal

pub returns-clause-cycle : goal.returns-clause-cycle
returns-clause-cycle c = mesh_cycles_are_cycles

pub returns-clause-hold : goal.returns-clause-hold
returns-clause-hold c = journals_hold_rules

pub returns-clause-stuck : goal.returns-clause-stuck
returns-clause-stuck c = meshes_are_never_stuck

pub returns-clause-count : goal.returns-clause-count
returns-clause-count c = mesh_events_are_counted

pub returns-clause-end : goal.returns-clause-end
returns-clause-end c = journals_end_by_rules
