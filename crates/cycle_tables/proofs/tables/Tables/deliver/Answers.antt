use Rattle.std.proofs.Common.{◌≡◌, ◌∙◌, ◌==◌, ap, List, length, arith}
use Rattle.cycle_tables.specs.declared.list_state.ListState.{ListState}
use Rattle.cycle_tables.specs.Letters.{Box}
use Rattle.cycle_tables.specs.Tables.{Protocol, delivered}
use Rattle.cycle_tables.specs.Inside.{may_start}
use Rattle.cycle_tables.proofs.Delivered.{delivered_by_code, value_by_code}
use Rattle.cycle_tables.proofs.tables.Tables.deliver.Goals as goal

pub invariant_of-self : goal.invariant_of-self
invariant_of-self g c =
    let t = c.self.inside in
    delivered_by_code t.tasks.rounds t.tasks.tail t.lists.items t.wire.posts c.remove-letter.new.self.posts t.mail.items c.put_in.new.mail.items t.ready c.set.new.self t.past t.left t.leased c.args.number c.remove-letter.result c.may_start-is_ready.result c.self.invariant
    c.remove-letter.ensures.letter c.remove-letter.ensures.posts c.put_in.ensures
    (c.may_start-is_ready.ensures
    ∙ ap (λ n. may_start t.tasks.rounds t.tasks.tail (t.past == n) c.as_slice.result.now c.as_slice-2.result.now c.remove-letter.result.to) (let e : c.len.result ≡ length t.lists.items = omega (arith, c.len.ensures, t.lists.ok) in e)
    ∙ ap (λ (ls : List ListState). may_start t.tasks.rounds t.tasks.tail (t.past == length t.lists.items) ls c.as_slice-2.result.now c.remove-letter.result.to) c.as_slice.ensures.value
    ∙ ap (λ (m : List (List (Box g.row.T.Denot))). may_start t.tasks.rounds t.tasks.tail (t.past == length t.lists.items) t.lists.items m c.remove-letter.result.to) c.as_slice-2.ensures.value)
    c.set.ensures

pub returns : goal.returns
returns g c =
    let t = c.self.inside in
    value_by_code t.tasks.rounds t.tasks.tail t.lists.items t.wire.posts c.remove-letter.new.self.posts t.mail.items c.put_in.new.mail.items t.ready t.past t.left t.leased c.args.number c.remove-letter.result c.self.invariant
    c.remove-letter.ensures.letter c.remove-letter.ensures.posts c.put_in.ensures
    ∙ ap (λ (v : Protocol g.row.T.Denot). delivered v c.args.number) c.self.view_is
