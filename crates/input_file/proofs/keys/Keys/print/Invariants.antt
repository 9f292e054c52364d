use Rattle.std.proofs.Common.{◌≡◌, ◌++◌, drop}
use Rattle.std.specs.String.{string_bytes}
use Rattle.input_file.specs.Printed.{setting_lines, text_of_lines}
use Rattle.input_file.proofs.keys.Keys.print.Given as goal

abbrev pub invariant-loop-i : goal.invariant-loop-i
invariant-loop-i l = string_bytes l.text ++ text_of_lines (setting_lines (drop l.i l.self)) ≡ string_bytes l.fn.text ++ text_of_lines (setting_lines l.self)
