use Rattle.std.proofs.Common.{◌≡◌, ◌∙◌, ap, subst, sym, true, arith}
use Rattle.cycle_tables.specs.Tables.{NoneComing, Protocol, letters_of, may_take, taken}
use Rattle.cycle_tables.proofs.Marks.{free_one}
use Rattle.cycle_tables.proofs.Taken.{letters_by, taken_by, value_by}
use Rattle.cycle_tables.proofs.tables.Tables.take.Goals as goal

pub overflow_add-self : goal.overflow_add-self
overflow_add-self g c =
    let t = c.self.inside in
    let may = subst (λ (v : Protocol g.row.T.Denot). may_take v c.args.list ≡ true) (sym c.self.view_is) c.requires.may_take in
    let f = free_one t.tasks.rounds t.tasks.tail t.lists.items t.wire.posts t.mail.items c.args.list may in
    omega (arith, f, c.self.invariant.leased_is, c.self.invariant.some_lists)

pub invariant_of-self : goal.invariant_of-self
invariant_of-self g c =
    let t = c.self.inside in
    let may = subst (λ (v : Protocol g.row.T.Denot). may_take v c.args.list ≡ true) (sym c.self.view_is) c.requires.may_take in
    let none = subst (λ (v : Protocol g.row.T.Denot). NoneComing v c.args.list) (sym c.self.view_is) c.requires.none_coming in
    taken_by t.tasks.rounds t.tasks.tail t.lists.items t.wire.posts t.mail.items t.ready t.past t.left t.leased c.args.list c.args.seat c.index-state.result.now c.read_mail.new.mail.items c.set.new.self c.self.invariant may none
    c.index-state.ensures c.read_mail.ensures.mail c.set.ensures

pub returns-clause-letters : goal.returns-clause-letters
returns-clause-letters g c =
    let t = c.self.inside in
    let may = subst (λ (v : Protocol g.row.T.Denot). may_take v c.args.list ≡ true) (sym c.self.view_is) c.requires.may_take in
    letters_by t.tasks.rounds t.tasks.tail t.lists.items t.wire.posts t.mail.items t.ready t.past t.left t.leased c.args.list c.args.seat c.index-state.result.now c.read_mail.result.items may c.index-state.ensures c.read_mail.ensures.letters
    ∙ ap (λ (v : Protocol g.row.T.Denot). letters_of v c.args.list) c.self.view_is

pub returns-clause-taken : goal.returns-clause-taken
returns-clause-taken g c =
    let t = c.self.inside in
    let may = subst (λ (v : Protocol g.row.T.Denot). may_take v c.args.list ≡ true) (sym c.self.view_is) c.requires.may_take in
    value_by t.tasks.rounds t.tasks.tail t.lists.items t.wire.posts t.mail.items t.ready t.past t.left t.leased c.args.list c.args.seat c.index-state.result.now c.read_mail.new.mail.items may c.index-state.ensures c.read_mail.ensures.mail
    ∙ ap (λ (v : Protocol g.row.T.Denot). taken v c.args.list c.args.seat) c.self.view_is
