use Rattle.std.proofs.Common.{◌≡◌, [], sym, ap, ◌∙◌, subst}
use Rattle.std.specs.Prelude.{None, option_map, unwrap_or}
use Rattle.std.specs.Str.{bytes_eq}
use Rattle.std.specs.Map.{lookup}
use Rattle.std.specs.String.{string_bytes}
use Rattle.input_file.specs.Blocks.{entry, Entries, Blocks}
use Rattle.input_file.proofs.EntryLemmas.{lookup-seen}
use Rattle.input_file.proofs.deck.Deck.get.Goals as goal

pub returns-in_err-keys : goal.returns-in_err-keys
returns-in_err-keys c =
    rw c.from_residual.ensures
    (subst (λ (v : Blocks). None ≡ entry v c.args.block.now c.args.key.now) c.self.view_is
    (sym (ap (λ o. lookup (bytes_eq c.args.key.now) (unwrap_or o []))
    (lookup-seen string_bytes (λ (es : Entries). es) c.args.block.now c.self.inside.blocks.entries ∙ ap (option_map (λ (es : Entries). es)) (sym c.in_err-keys.ensures.value)))))

pub returns : goal.returns
returns c =
    rw c.get-2.ensures
    (subst (λ (v : Blocks). lookup (bytes_eq c.args.key.now) c.in_ok-keys.keys.now ≡ entry v c.args.block.now c.args.key.now) c.self.view_is
    (sym (ap (λ o. lookup (bytes_eq c.args.key.now) (unwrap_or o []))
    (lookup-seen string_bytes (λ (es : Entries). es) c.args.block.now c.self.inside.blocks.entries ∙ ap (option_map (λ (es : Entries). es)) (sym c.in_ok-keys.ensures.value)))))
