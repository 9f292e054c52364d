use Rattle.sent_letters.proofs.Due.{across_told}
use Rattle.sent_letters.proofs.receivers.due_across.Goals as goal

pub returns-clause-letters : goal.returns-clause-letters
returns-clause-letters c =
    (across_told c.args.from.now c.args.side c.behind.result _ c.requires.block c.behind.ensures c.due_among.ensures).letters

pub returns-clause-few : goal.returns-clause-few
returns-clause-few c =
    (across_told c.args.from.now c.args.side c.behind.result _ c.requires.block c.behind.ensures c.due_among.ensures).few
