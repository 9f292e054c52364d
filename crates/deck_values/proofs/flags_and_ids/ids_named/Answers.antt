use Rattle.std.proofs.Common.{◌∙◌, ap, sym, map, Some, List, ℕ, Bor}
use Rattle.deck_values.specs.FlagsAndIds.{id_of}
use Rattle.deck_values.proofs.EachSome.{each_some_more}
use Rattle.deck_values.proofs.flags_and_ids.ids_named.Goals as goal

pub loop-i-preserved : goal.loop-i-preserved
loop-i-preserved c =
    each_some_more id_of (map (λ (x : Bor (List ℕ)). x.now) c.args.items.now) c.loop-i.i c.item_at.result.now _ c.in-Some.id c.loop-i.invariant c.item_at.ensures c.in-Some.ensures
    ∙ ap (λ (l : List ℕ). Some l) (sym c.in_ok-push-in-Some.ensures.items)
