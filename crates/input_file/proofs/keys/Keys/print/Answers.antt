use Rattle.std.proofs.Common.{◌∙◌, refl}
use Rattle.std.specs.String.{string_bytes}
use Rattle.input_file.proofs.PrintLemmas.{setting-more, texts-at}
use Rattle.input_file.proofs.keys.Keys.print.Goals as goal

pub loop-i-preserved : goal.loop-i-preserved
loop-i-preserved c =
    setting-more c.args.self.now c.loop-i.i (string_bytes c.unwrap.result.0.now, string_bytes c.unwrap.result.1.now) (string_bytes c.loop-i.text) (string_bytes c.print_setting.new.text)
    (texts-at _ c.self.inside.map.entries c.args.self.now c.loop-i.i _ c.unwrap.result.0.now c.unwrap.result.1.now c.self.view_is c.get_index.ensures.entry (rw c.unwrap.ensures refl))
    (rw (c.as_str.ensures.value, c.as_str-in-loop-i.ensures.value) at c.in_ok-print_setting.ensures)
    ∙ c.loop-i.invariant
