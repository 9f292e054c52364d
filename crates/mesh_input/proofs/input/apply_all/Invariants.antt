use Rattle.std.proofs.Common.{◌≡◌, ◌+◌, drop, map}
use Rattle.mesh_input.specs.Input.{overridden_by}
use Rattle.mesh_input.proofs.input.apply_all.Given as goal

abbrev pub invariant-loop-i : goal.invariant-loop-i
invariant-loop-i l = overridden_by 1 l.fn.deck (map (λ t. t.now) l.overrides) ≡ overridden_by (l.i + 1) l.deck (drop l.i (map (λ t. t.now) l.overrides))
