use Rattle.std.proofs.Common.{List, subst}
use Rattle.std.specs.Prelude.{IfErr, OnOk}
use Rattle.problem_set.specs.SettingsOf.{settings_of}
use Rattle.mesh_outside.specs.declared.files.Gained.{Gained}
use Rattle.mesh_outside.specs.Gained.{Gains}
use Rattle.mesh_driver.specs.Stops.{StopsWriting}
use Rattle.mesh_driver.proofs.Cycles.{due_files, none_due, nothing_gained}
use Rattle.mesh_driver.proofs.run.write_due_dump.Goals as goal

pub returns-then-is_dumped-clause-ok : goal.returns-then-is_dumped-clause-ok
returns-then-is_dumped-clause-ok g c =
    subst (λ (files : List Gained). OnOk c.write_dump.result (Gains (g.D.Depot.seen c.args.depot.now).written (g.D.Depot.seen c.write_dump.new.depot).written files))
    (due_files (settings_of c.args.problem.now) c.args.prefix.now c.args.run.now _ _ c.requires.same c.requires.running c.cycles.ensures.value c.is_dumped.ensures c.if-is_dumped.true)
    c.write_dump.ensures.ok

pub returns-then-is_dumped-clause-err : goal.returns-then-is_dumped-clause-err
returns-then-is_dumped-clause-err g c =
    subst (λ (files : List Gained). IfErr c.write_dump.result (StopsWriting files (g.D.Depot.seen c.args.depot.now).written (g.D.Depot.seen c.write_dump.new.depot).written))
    (due_files (settings_of c.args.problem.now) c.args.prefix.now c.args.run.now _ _ c.requires.same c.requires.running c.cycles.ensures.value c.is_dumped.ensures c.if-is_dumped.true)
    c.write_dump.ensures.err

pub returns-else-is_dumped-clause-ok : goal.returns-else-is_dumped-clause-ok
returns-else-is_dumped-clause-ok g c =
    let a = (g.D.Depot.seen c.args.depot.now).written in
    subst (λ (files : List Gained). Gains a a files)
    (none_due (settings_of c.args.problem.now) c.args.prefix.now c.args.run.now _ _ c.requires.running c.cycles.ensures.value c.is_dumped.ensures c.if-is_dumped.false)
    (nothing_gained a)
