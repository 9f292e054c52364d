use Rattle.std.proofs.Common.{rules, ◌∷◌, [], ◌++◌, List, Option, Some, ap, ◌∙◌}
use Rattle.turn_yard.proofs.Opening.{made_opens}
use Rattle.turn_yard.proofs.yard.Yard.make.Goals as goal

pub new-requires : goal.new-requires
new-requires g c = made_opens _ _ c.args.value c.args.parts _ _ (c.as_slice.ensures.value ∙ c.in_ok-words.ensures)
    (c.in_ok-push.ensures.items ∙ ap (λ (l : List (Option g.row.T.Denot)). l ++ Some c.args.value ∷ []) c.new-slots.ensures.items) c.of-first.ensures c.requires.entries c.requires.marks
