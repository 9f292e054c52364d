use Rattle.std.proofs.Common.{◌≡◌, length, refl, arith}
use Rattle.std.proofs.lemmas.Grind.{common_steps}
use Rattle.input_file.proofs.PieceLemmas.{line-ended, unended-joined}
use Rattle.input_file.proofs.so_far.SoFar.end_line.Goals as goal

pub returns : goal.returns
returns c =
    let front : c.len.result ≡ length c.args.self.line.items = grind (arith, common_steps) in
    line-ended c.args.self _ c.args.tail.now (unended-joined c.args.self.line.items c.args.tail.now c.args.self.unended c.requires.unended) c.in_ok-found.ensures.found refl (rw front refl) c.in_ok-found.ensures.cleared
