use Rattle.std.proofs.Common.{◌≡◌, ◌++◌, List, [], ◌∷◌, OnOk, arith, subst}
use Rattle.ghost_buffers.specs.declared.letter.Letter.{Letter}
use Rattle.sent_letters.specs.Sent.{MaySendTo}
use Rattle.sent_letters.proofs.Due.{any_default, each_due, over_sent}
use Rattle.sent_letters.proofs.sending.send_across.Goals as goal

pub send_letter-requires : goal.send_letter-requires
send_letter-requires c =
    each_due c.args.from.now c.args.side (c.in-One.to ∷ []) 0 c.requires.may c.requires.axis c.in-One.ensures.letters c.in-One.ensures.few (omega arith) c.requires.may.mesh.layout.dims

pub send_finer-requires : goal.send_finer-requires
send_finer-requires c k d few =
    subst (λ n. MaySendTo c.args.from.now c.args.side n) (any_default c.in-Finer.tos k 0 d few)
    (each_due c.args.from.now c.args.side c.in-Finer.tos k c.requires.may c.requires.axis c.in-Finer.ensures.letters c.in-Finer.ensures.few few c.requires.may.mesh.layout.dims)

pub returns-in-Finer : goal.returns-in-Finer
returns-in-Finer c =
    subst (λ (v : List Letter). OnOk c.send_finer.result (c.send_finer.new.sent ≡ c.args.sent.now ++ v)) (over_sent c.args.from.now c.args.side c.in-Finer.tos c.in-Finer.ensures.letters) c.send_finer.ensures
