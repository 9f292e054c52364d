use Rattle.std.proofs.Common.{◌≡◌, ◌<◌, length, subst, sym, ◌∙◌}
use Rattle.std.specs.List.{slice_index_or}
use Rattle.std.proofs.lemmas.Option.{slice_get-get_or}
use Rattle.sent_letters.proofs.Due.{finer_more}
use Rattle.sent_letters.proofs.Numbers.{some_is}
use Rattle.sent_letters.proofs.sending.send_finer.Goals as goal

pub loop-k-preserved : goal.loop-k-preserved
loop-k-preserved c =
    let tos = c.args.tos.now in
    let few : c.loop-k.k < length tos = subst (λ n. c.loop-k.k < n) c.len-k-end.ensures c.loop-k-test.true in
    let to_is : c.unwrap-to.result ≡ slice_index_or tos c.loop-k.k 0 = some_is c.unwrap-to.result (slice_index_or tos c.loop-k.k 0) (sym c.unwrap-to.ensures ∙ c.get.ensures ∙ slice_get-get_or tos c.loop-k.k 0 few) in
    finer_more c.args.from.now c.args.side tos c.loop-k.k c.unwrap-to.result c.args.sent.now c.loop-k.sent c.send_letter.new.sent few to_is c.loop-k.invariant (c.in_ok-send_letter.ensures {u = tt})
