use Rattle.std.proofs.Common.{◌≡◌, sym, ap, ◌∙◌, subst}
use Rattle.std.specs.Prelude.{None, option_map}
use Rattle.std.specs.Str.{bytes_eq}
use Rattle.std.specs.Map.{lookup}
use Rattle.std.specs.String.{string_bytes}
use Rattle.input_file.specs.Blocks.{Entries, Blocks}
use Rattle.input_file.proofs.EntryLemmas.{lookup-seen}
use Rattle.input_file.proofs.PlaceLemmas.{name_at-found}
use Rattle.input_file.proofs.deck.Deck.index_of.Goals as goal

pub returns-in_err-index-clause-absent : goal.returns-in_err-index-clause-absent
returns-in_err-index-clause-absent c =
    rw c.from_residual.ensures
    (subst (λ (v : Blocks). lookup (bytes_eq c.args.block.now) v ≡ None) c.self.view_is
    (lookup-seen string_bytes (λ (es : Entries). es) c.args.block.now c.self.inside.blocks.entries ∙ ap (option_map (λ (es : Entries). es)) (sym c.in_err-index.ensures.value)))

pub returns-clause-found : goal.returns-clause-found
returns-clause-found c =
    name_at-found (λ (es : Entries). es) c.self.inside.blocks.entries c.args.self.now c.in_ok-index.index c.in_ok-index.field-0-1.now c.in_ok-index.field-0-2.now c.args.block.now c.self.view_is c.in_ok-index.ensures.entry c.in_ok-index.ensures.key
