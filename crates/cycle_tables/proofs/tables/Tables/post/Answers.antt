use Rattle.std.proofs.Common.{◌≡◌, ◌⊎◌, ◌/◌, ◌<◌, subst, sym, List, [], Option, length, false, All, ◌+◌, ◌≤◌, ◌^◌, ◌++◌}
use Rattle.cycle_tables.specs.declared.letter.Letter.{Letter}
use Rattle.cycle_tables.specs.declared.letter.Post.{Post}
use Rattle.cycle_tables.specs.declared.list_state.ListState.{ListState}
use Rattle.cycle_tables.specs.Letters.{Box}
use Rattle.cycle_tables.specs.Tables.{GoesTo, Protocol, is_sending, no_list, numbered, state_of}
use Rattle.cycle_tables.specs.Inside.{IsTables}
use Rattle.cycle_tables.proofs.Entries.{was_read}
use Rattle.cycle_tables.proofs.Mailed.{ok_then, posted_by_code, roomy_tables, round_room}
use Rattle.cycle_tables.proofs.tables.Tables.post.Goals as goal

pub make_room-requires-clause-round : goal.make_room-requires-clause-round
make_room-requires-clause-round g c =
    let t = c.self.inside in
    let s = c.index.result.now in
    let list = subst (λ (v : Protocol g.row.T.Denot). c.args.list < length v.lists) (sym c.self.view_is) c.requires.list in
    let at = was_read t.lists.items c.args.list s no_list list c.index.ensures in
    let sends = subst (λ (l : ListState). is_sending t.tasks.rounds l.given ≡ false → c.args.letters.items ≡ []) at (subst (λ (v : Protocol g.row.T.Denot). is_sending v.rounds (state_of v c.args.list).given ≡ false → c.args.letters.items ≡ []) (sym c.self.view_is) c.requires.sends) in
    subst (λ (qs : List (Post g.row.T.Denot)). (qs ≡ []) ⊎ All (λ (boxes : List (Box g.row.T.Denot)). s.given / 3 < length boxes) t.mail.items) (sym c.as_slice-2.ensures.value)
    (round_room t.tasks.rounds s.given c.args.letters.items t.mail.items sends c.self.invariant.each_round)

pub invariant_of-self : goal.invariant_of-self
invariant_of-self g c =
    let t = c.self.inside in
    subst (λ (ps : List (Option (Letter g.row.T.Denot))). IsTables t.tasks.rounds t.tasks.tail t.lists.items ps c.make_room.new.mail.items t.ready t.past t.left t.leased) (sym c.make_room.ensures.posts)
    (roomy_tables t.tasks.rounds t.tasks.tail t.lists.items t.wire.posts t.mail.items c.make_room.new.mail.items t.ready t.past t.left t.leased c.make_room.ensures.kept c.self.invariant)

pub invariant_of-self-2 : goal.invariant_of-self-2
invariant_of-self-2 g c =
    let t = c.self.inside in
    let s = c.index.result.now in
    let list = subst (λ (v : Protocol g.row.T.Denot). c.args.list < length v.lists) (sym c.self.view_is) c.requires.list in
    let at = was_read t.lists.items c.args.list s no_list list c.index.ensures in
    let sends = subst (λ (l : ListState). is_sending t.tasks.rounds l.given ≡ false → c.args.letters.items ≡ []) at (subst (λ (v : Protocol g.row.T.Denot). is_sending v.rounds (state_of v c.args.list).given ≡ false → c.args.letters.items ≡ []) (sym c.self.view_is) c.requires.sends) in
    let to = subst (λ (v : Protocol g.row.T.Denot). All (GoesTo (length v.lists)) c.args.letters.items) (sym c.self.view_is) c.requires.receivers in
    let few = subst (λ (v : Protocol g.row.T.Denot). length v.posts + length c.args.letters.items ≤ 2 ^ 32) (sym c.self.view_is) c.requires.numbers in
    posted_by_code t.tasks.rounds t.tasks.tail t.lists.items c.as_slice.result.now t.wire.posts c.put_on.new.wire.posts t.mail.items c.make_room.new.mail.items t.ready t.past t.left t.leased s.given c.args.letters.items c.as_slice-2.result.now c.make_room.ensures.kept
    c.self.invariant sends to few c.as_slice.ensures.value c.as_slice-2.ensures.value
    (ok_then c.make_room.result _ c.make_room.ensures.in_mail c.if-is_err.ensures.negation)
    (subst (λ (ps : List (Option (Letter g.row.T.Denot))). c.put_on.new.wire.posts ≡ ps ++ numbered (length ps) (s.given / 3) c.args.letters.items) c.make_room.ensures.posts c.put_on.ensures)
