use Rattle.std.proofs.Common.{◌≡◌, ◌<◌, ℕ, Some}
use Rattle.std.specs.List.{slice_get}
use Rattle.morton_order.specs.declared.space.Loc.{Loc}
use Rattle.tree_cases.proofs.tagged.fits.Given as goal

abbrev pub invariant-loop-i : goal.invariant-loop-i
invariant-loop-i l = (k : ℕ) (at : Loc) → k < l.i → slice_get l.leaves k ≡ Some at → at.level < 10
