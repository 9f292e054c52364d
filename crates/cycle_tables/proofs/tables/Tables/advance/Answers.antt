use Rattle.std.proofs.Common.{◌≡◌, ◌+◌, ◌*◌, ◌<◌, ◌∙◌, ◌==◌, ap, refl, subst, sym, true, is_some, length, slice_set, None, arith}
use Rattle.cycle_tables.specs.Tables.{Protocol, state_of}
use Rattle.cycle_tables.proofs.Advanced.{advanced_by, bounds, byte_is, marks_along}
use Rattle.cycle_tables.proofs.tables.Tables.advance.Goals as goal

pub overflow_add-self : goal.overflow_add-self
overflow_add-self g c =
    let t = c.self.inside in
    let list = subst (λ (v : Protocol g.row.T.Denot). c.args.list < length v.lists) (sym c.self.view_is) c.requires.list in
    let out = subst (λ (v : Protocol g.row.T.Denot). is_some (state_of v c.args.list).out ≡ true) (sym c.self.view_is) c.requires.out in
    let b = bounds t.tasks.rounds t.tasks.tail t.lists.items t.wire.posts t.mail.items t.ready t.past t.left t.leased c.args.list c.index-state.result.now c.self.invariant list out c.index-state.ensures in
    let p = c.from-2.ensures ∙ byte_is _ in
    omega (arith, b.few_past, p, c.self.invariant.some_lists)

pub invariant_of-self : goal.invariant_of-self
invariant_of-self g c =
    let t = c.self.inside in
    let s = c.index-state.result.now in
    let list = subst (λ (v : Protocol g.row.T.Denot). c.args.list < length v.lists) (sym c.self.view_is) c.requires.list in
    let out = subst (λ (v : Protocol g.row.T.Denot). is_some (state_of v c.args.list).out ≡ true) (sym c.self.view_is) c.requires.out in
    let size : c.len.result ≡ length t.lists.items = omega (arith, c.len.ensures, t.lists.ok) in
    advanced_by t.tasks.rounds t.tasks.tail t.lists.items t.wire.posts t.mail.items t.ready c.mark.new.ready t.past t.left t.leased c.args.list c.from-2.result c.from.result s
    (t.past + c.from-2.result == c.len.result) (s.given + 1 == 3 * t.tasks.rounds)
    c.self.invariant list out c.index-state.ensures refl (c.from-2.ensures ∙ byte_is _) (c.from.ensures ∙ byte_is _) (ap (λ n. t.past + c.from-2.result == n) size)
    (marks_along t.tasks.rounds t.tasks.tail (t.past + c.from-2.result == c.len.result) (s.given + 1 == 3 * t.tasks.rounds) t.ready c.args.list
    c.as_slice.result.now (slice_set t.lists.items c.args.list (record { due = s.due; given = s.given + 1; out = None })) c.as_slice-2.result.now t.mail.items c.mark.new.ready c.as_slice.ensures.value c.as_slice-2.ensures.value
    (record { same = c.mark.ensures.length; every = c.mark.ensures.all; one = c.mark.ensures.one }))
