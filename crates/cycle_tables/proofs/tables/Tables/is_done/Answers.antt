use Rattle.std.proofs.Common.{◌∙◌, ◌&&◌, ap, sym, not, is_some, Bool}
use Rattle.std.proofs.lemmas.Bool.{eq-eqb}
use Rattle.cycle_tables.specs.Tables.{Protocol, is_done}
use Rattle.cycle_tables.proofs.Started.{done_is, not_done, opposite}
use Rattle.cycle_tables.proofs.tables.Tables.is_done.Goals as goal

pub returns-then-self-eq0 : goal.returns-then-self-eq0
returns-then-self-eq0 g c =
    let t = c.self.inside in
    opposite (is_some c.first.result) c.is_none.result c.is_none.ensures
    ∙ ap (λ (b : Bool). b && not (is_some c.first.result)) (sym (eq-eqb t.left 0 c.if-self-eq0.true))
    ∙ done_is t.tasks.rounds t.tasks.tail t.lists.items t.wire.posts t.mail.items t.ready t.past t.left t.leased c.self.invariant c.first.result c.first.ensures
    ∙ ap (λ (v : Protocol g.row.T.Denot). is_done v) c.self.view_is

pub returns-else-self-eq0 : goal.returns-else-self-eq0
returns-else-self-eq0 g c =
    let t = c.self.inside in
    not_done t.tasks.rounds t.tasks.tail t.lists.items t.wire.posts t.mail.items t.ready t.past t.left t.leased c.self.invariant c.if-self-eq0.false
    ∙ ap (λ (v : Protocol g.row.T.Denot). is_done v) c.self.view_is
