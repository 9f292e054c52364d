use Rattle.std.proofs.Common.{◌≡◌, ◌++◌, ◌∷◌, ℕ, take}
use Rattle.std.specs.List.{flat_map}
use Rattle.std.specs.Fmt.{decimal}
use Rattle.mesh_texts.proofs.block.push_others.Given as goal

abbrev pub invariant-loop-total : goal.invariant-loop-total
invariant-loop-total l = l.into.items ≡ l.initial.into.items ++ flat_map (λ (total : ℕ). 32 ∷ decimal total) (take l.total-index l.totals)
