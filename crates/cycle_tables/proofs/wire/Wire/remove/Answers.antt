use Rattle.std.proofs.Common.{◌≡◌, ◌∙◌, ap, sym, subst, Option, None, is_some, true, List, ℕ, slice_set}
use Rattle.cycle_tables.specs.Letters.{Sent}
use Rattle.cycle_tables.specs.Inside.{IsFirstFrom, posted}
use Rattle.cycle_tables.proofs.Posts.{read_key, removed_posts, removed_wire}
use Rattle.cycle_tables.proofs.wire.Wire.remove.Goals as goal

pub invariant_of-self : goal.invariant_of-self
invariant_of-self g c =
    let w = c.self.inside in
    let there = subst (λ (v : Sent g.row.T.Denot). is_some (posted v.posts c.args.number) ≡ true) (sym c.self.view_is) c.requires in
    let key = read_key w.letters w.keys.items c.args.number c.index.result.now c.in-Some.key there c.index.ensures c.in-Some.is in
    let f = subst (λ (ks : List (Option ℕ)). IsFirstFrom ks w.first c.first_from-self-inside.result) c.as_slice.ensures.value c.first_from-self-inside.ensures in
    removed_wire w.letters c.remove-letter.new.self w.keys.items w.first c.args.number c.in-Some.key c.first_from-self-inside.result c.self.invariant key c.remove-letter.ensures.updates f

pub returns-clause-posts : goal.returns-clause-posts
returns-clause-posts g c =
    let w = c.self.inside in
    let there = subst (λ (v : Sent g.row.T.Denot). is_some (posted v.posts c.args.number) ≡ true) (sym c.self.view_is) c.requires in
    let key = read_key w.letters w.keys.items c.args.number c.index.result.now c.in-Some.key there c.index.ensures c.in-Some.is in
    removed_posts w.letters c.remove-letter.new.self w.keys.items w.first c.args.number c.in-Some.key c.self.invariant key c.remove-letter.ensures.updates
    ∙ ap (λ (v : Sent g.row.T.Denot). slice_set v.posts c.args.number None) c.self.view_is
