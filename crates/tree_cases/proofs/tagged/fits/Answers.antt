use Rattle.std.proofs.Common.{◌≡◌, length, arith}
use Rattle.tree_cases.proofs.Fitting.{tags_fit}
use Rattle.tree_cases.proofs.tagged.fits.Goals as goal

pub returns : goal.returns
returns c =
    let same : length c.args.tags.now ≡ length c.leaves-leaves.result.now = omega arith in
    λ h. tags_fit c.args.tree.now c.args.tags.now c.leaves-leaves.result.now c.loop-i.i c.leaves-leaves.ensures same (omega arith) c.loop-i.invariant
