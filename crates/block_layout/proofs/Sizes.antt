-- How large sizes and their products are.
use Rattle.std.proofs.Common.{ℕ, zero, suc, ◌+◌, ◌*◌, ◌<◌, ◌≤◌, Bool, true, false, cond, nat_lt, arith}
use Rattle.std.proofs.Math.Nat.{mul-le-mul}
use Rattle.block_layout.specs.declared.layout.Layout.{Layout}
use Rattle.block_layout.specs.Sizes.{IsCellCount, IsLayout}
use Rattle.block_layout.specs.Layouts.{cells_along}
use Rattle.block_layout.specs.Indices.{count_of}
use Rattle.block_layout.specs.Faces.{face_extents, faces_along}

pub product_at_most : (a b c m : ℕ) → a ≤ m → b ≤ m → c ≤ m → a * b * c ≤ m * m * m
product_at_most a b c m h k l = mul-le-mul (mul-le-mul h k) l

at_most_64 : (b : Bool) (n : ℕ) → n ≤ cond b 64 1 → n ≤ 64
at_most_64 b n h = grind arith

pub count_at_most : {dims axis n : ℕ} → IsCellCount dims axis n → n ≤ 64
count_at_most {dims} {axis} {n} c = at_most_64 (nat_lt axis dims) n c.most

pub cells_at_most : (l : Layout) (axis : ℕ) → IsLayout l.dims l.cells → axis < 3 → cells_along l axis ≤ 64
cells_at_most l zero s h = count_at_most s.cells1
cells_at_most l (suc zero) s h = count_at_most s.cells2
cells_at_most l (suc (suc zero)) s h = count_at_most s.cells3
cells_at_most l (suc (suc (suc a))) s h = absurd (omega arith)

under_test : (b : Bool) (n m : ℕ) → n ≤ m → cond b n 0 ≤ m
under_test true n m h = h
under_test false n m h = omega arith

pub faces_at_most : (l : Layout) (axis : ℕ) → IsLayout l.dims l.cells → axis < 3 → faces_along l axis ≤ 274625
faces_at_most l axis s h =
    let a = cells_at_most l 0 s (omega arith) in let b = cells_at_most l 1 s (omega arith) in let c = cells_at_most l 2 s (omega arith) in
    under_test (nat_lt axis l.dims) (count_of (face_extents l axis)) 274625 (by axis h a b c)
  where
    by : (x : ℕ) → x < 3 → cells_along l 0 ≤ 64 → cells_along l 1 ≤ 64 → cells_along l 2 ≤ 64 → count_of (face_extents l x) ≤ 274625
    by zero h a b c = product_at_most (cells_along l 0 + 1) (cells_along l 1) (cells_along l 2) 65 (omega arith) (omega arith) (omega arith)
    by (suc zero) h a b c = product_at_most (cells_along l 0) (cells_along l 1 + 1) (cells_along l 2) 65 (omega arith) (omega arith) (omega arith)
    by (suc (suc zero)) h a b c = product_at_most (cells_along l 0) (cells_along l 1) (cells_along l 2 + 1) 65 (omega arith) (omega arith) (omega arith)
    by (suc (suc (suc x))) h a b c = absurd (omega arith)
