use Rattle.std.proofs.Common.{◌++◌, ◌∷◌, [], nat_eq, filter, ap, sym, ◌∙◌, List, ℕ}
use Rattle.std.specs.List.{starts_with}
use Rattle.deck_values.proofs.BlockNameLemmas.{filter_more}
use Rattle.deck_values.proofs.block_names.names_after.Goals as goal

pub loop-i-preserved : goal.loop-i-preserved
loop-i-preserved c =
    let p = λ (name : List ℕ). starts_with nat_eq name c.args.prefix.now in
    c.in_ok-push_if_begins.ensures.ok ∙ ap (λ (names : List (List ℕ)). names ++ filter p (c.block_name.result.now ∷ [])) c.loop-i.invariant ∙ sym (filter_more p c.args.deck.now c.loop-i.i c.block_name.result.now c.block_name.ensures)
