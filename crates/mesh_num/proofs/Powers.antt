use Rattle.std.proofs.Common.{ℕ, ◌*◌, ◌^◌, ◌≤◌, arith}
use Rattle.std.proofs.Math.Nat.{pow-le-pow_right}

-- no level's power is above that of the tenth level
pub power_of_two : (level : ℕ) → level ≤ 10 → 2 ^ level ≤ 1024
power_of_two level h = pow-le-pow_right (omega arith) h

pub power_of_four : (level : ℕ) → level ≤ 10 → 4 ^ level ≤ 1048576
power_of_four level h = pow-le-pow_right (omega arith) h

-- a rate's part fits, as each of its factors is bounded
pub part_at_most : (v p m : ℕ) → v ≤ 1000000000 → p ≤ m → v * p ≤ 1000000000 * m
part_at_most v p m hv hp = grind arith
