use Rattle.std.proofs.Common.{◌≡◌, ℕ, ◌+◌, ◌*◌, ◌/◌, ◌%◌, ◌<◌, sym, ◌∙◌, ap, arith}
use Rattle.std.proofs.Math.Nat.{mul-add-div, div-add-mod}

regroup : (d e r c : ℕ) → (d * e + r) * c ≡ d * (e * c) + r * c
regroup d e r c = omega arith

split_product : (q c d : ℕ) → d * (q / d * c) + q % d * c ≡ q * c
split_product q c d = sym (regroup d (q / d) (q % d) c) ∙ ap (λ n. n * c) (div-add-mod q d)

-- a total is whole multiples of d and a rest, and of the rest alone the quotient takes a floor
pub portion-split : (q c d : ℕ) → 0 < d → q / d * c + q % d * c / d ≡ q * c / d
portion-split q c d positive =
    sym (mul-add-div positive (q / d * c) (q % d * c)) ∙ ap (λ n. n / d) (split_product q c d)
