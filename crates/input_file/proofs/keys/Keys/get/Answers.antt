use Rattle.std.proofs.Common.{◌≡◌, List, sym, ap, ◌∙◌, subst}
use Rattle.std.specs.Prelude.{Some, None, option_map}
use Rattle.std.specs.Str.{bytes_eq}
use Rattle.std.specs.Map.{lookup}
use Rattle.std.specs.String.{string_bytes}
use Rattle.input_file.specs.Texts.{Text}
use Rattle.input_file.proofs.EntryLemmas.{lookup-seen}
use Rattle.input_file.proofs.keys.Keys.get.Goals as goal

pub returns-in_err-value : goal.returns-in_err-value
returns-in_err-value c =
    rw c.from_residual.ensures
    (subst (λ (v : List (Text × Text)). None ≡ lookup (bytes_eq c.args.key.now) v) c.self.view_is
    (sym (lookup-seen string_bytes string_bytes c.args.key.now c.self.inside.map.entries ∙ ap (option_map string_bytes) (sym c.in_err-value.ensures.value))))

pub returns : goal.returns
returns c =
    rw c.as_str.ensures.value
    (subst (λ (v : List (Text × Text)). Some (string_bytes c.in_ok-value.value.now) ≡ lookup (bytes_eq c.args.key.now) v) c.self.view_is
    (sym (lookup-seen string_bytes string_bytes c.args.key.now c.self.inside.map.entries ∙ ap (option_map string_bytes) (sym c.in_ok-value.ensures.value))))
