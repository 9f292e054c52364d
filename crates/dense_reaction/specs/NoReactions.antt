-- Proof, for the laws of a reaction: where nothing reacts, the laws of a kernel hold.
use Rattle.std.proofs.Common.{◌≡◌, ◌∙◌, ◌<◌, ℕ, List, length, replicate, arith, ap, refl}
use Rattle.std.specs.Prelude.{slice_index}
use Rattle.std.proofs.lemmas.List.{get_or-replicate, length-replicate}
use Rattle.package_fields.specs.Kernel.{Balances, KernelLaws, Reacted}
use Rattle.mesh_rules.specs.Reaction.{before_reactions}

-- nothing is made or used
none_at : (k f : ℕ) → f < k → slice_index (replicate k 0) f ≡ 0
none_at k f few = get_or-replicate k f 0 0 few

unreacted_balances : (cell : List ℕ) (field : ℕ) → field < length cell → Balances cell (before_reactions cell) field
unreacted_balances cell field few =
    let none = none_at (length cell) field few in
    record { balanced = omega (arith, none); made_bounded = omega (arith, none); used_bounded = omega (arith, none) }

pub no_reaction_laws : (n : ℕ) → KernelLaws n before_reactions
no_reaction_laws n = record {
  has_fields = λ cell many. record { totals = many; made = length-replicate (length cell) 0 ∙ many; used = length-replicate (length cell) 0 ∙ many };
  keeps_zeros = ap (λ (k : ℕ). let r : Reacted = record { totals = replicate n 0; made = replicate k 0; used = replicate k 0 } in r) (length-replicate n 0);
  keeps_sum = λ cell many. refl;
  keeps_balance = λ cell field many few. unreacted_balances cell field (omega (arith, many, few));
}
