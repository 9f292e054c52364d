use Rattle.std.proofs.Common.{◌≡◌, ◌++◌, take, drop}
use Rattle.package_fields.specs.Registered.{fields_fault}
use Rattle.package_fields.proofs.registry.check_fields.Given as goal

abbrev pub invariant-loop-i : goal.invariant-loop-i
invariant-loop-i l =
    fields_fault l.before l.fields ≡ fields_fault (l.before ++ take l.i l.fields) (drop l.i l.fields)
