use Rattle.std.proofs.Common.{◌∙◌, ap, sym, subst, ◌++◌, ◌∷◌, [], Option, Some, List, map, ℕ}
use Rattle.cycle_tables.specs.Letters.{Sent}
use Rattle.cycle_tables.specs.Inside.{IsWire, at_key}
use Rattle.cycle_tables.proofs.Posts.{pushed_posts, pushed_wire}
use Rattle.cycle_tables.proofs.wire.Wire.push.Goals as goal

pub invariant_of-self : goal.invariant_of-self
invariant_of-self g c =
    let w = c.self.inside in let i = c.insert_reserved-key in
    subst (λ (ks : List (Option ℕ)). IsWire i.new.self ks w.first) (sym c.push_reserved.ensures.items)
    (pushed_wire w.letters i.new.self w.keys.items w.first i.result c.args.letter c.self.invariant i.ensures.was_vacant i.ensures.updates)

pub returns-clause-posts : goal.returns-clause-posts
returns-clause-posts g c =
    let w = c.self.inside in let i = c.insert_reserved-key in
    ap (λ (ks : List (Option ℕ)). map (at_key i.new.self) ks) c.push_reserved.ensures.items
    ∙ pushed_posts w.letters i.new.self w.keys.items w.first i.result c.args.letter c.self.invariant i.ensures.was_vacant i.ensures.updates
    ∙ ap (λ (v : Sent g.row.T.Denot). v.posts ++ Some c.args.letter ∷ []) c.self.view_is
