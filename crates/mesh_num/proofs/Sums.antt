use Rattle.std.proofs.Common.{◌≡◌, ℕ, zero, suc, ◌+◌, ◌*◌, ◌/◌, ◌%◌, min, sum_by, nat_lt, refl, arith}
use Rattle.std.specs.Prelude.{if◌then◌else◌}
use Rattle.std.specs.List.{range_with_len}
use Rattle.std.proofs.lemmas.Bool.Decides.{nat_tests}
use Rattle.std.proofs.lemmas.List.Sums.{sum_by-cons}
use Rattle.mesh_num.specs.Share.{share}

-- one more part: an even part e, and one more where the part is among the first r
one_more : (first rest e r a k : ℕ) → first ≡ e + (if nat_lt a r then 1 else 0)
    → rest + ((a + 1) * e + min (a + 1) r) ≡ (a + 1 + k) * e + min (a + 1 + k) r
    → first + rest + (a * e + min a r) ≡ (a + suc k) * e + min (a + suc k) r
one_more first rest e r a k is known = grind (arith, nat_tests)

-- what the parts from a on get: an even part each, and one more for each that is among the first q % n
pub sum_by-share : (q n k a : ℕ) → sum_by (share q n) (range_with_len a k) + (a * (q / n) + min a (q % n)) ≡ (a + k) * (q / n) + min (a + k) (q % n)
sum_by-share q n zero a = omega arith
sum_by-share q n (suc k) a =
    rw sum_by-cons (one_more (share q n a) (sum_by (share q n) (range_with_len (a + 1) k)) (q / n) (q % n) a k refl (sum_by-share q n k (a + 1)))
