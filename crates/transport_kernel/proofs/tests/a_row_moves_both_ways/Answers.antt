use Rattle.std.proofs.Common.{ℕ, zero, suc, ◌+◌, ◌<◌, ◌≤◌, ◌^◌, List, [], ◌∷◌, slice_index, arith, lit<}
use Rattle.block_layout.specs.declared.layout.Layout.{Layout}
use Rattle.block_layout.specs.Sizes.{IsLayout}
use Rattle.transport_kernel.specs.Update.{CanPass, gain, listed, loss, total_at}
use Rattle.transport_kernel.proofs.tests.a_row_moves_both_ways.Goals as goal

four : (P : ℕ → ℕ → ℕ → Type 0) → P 0 0 0 → P 1 0 0 → P 2 0 0 → P 3 0 0 → (x y z : ℕ) → x < 4 → y < 1 → z < 1 → P x y z
four P a b c d zero zero zero hx hy hz = a
four P a b c d (suc zero) zero zero hx hy hz = b
four P a b c d (suc (suc zero)) zero zero hx hy hz = c
four P a b c d (suc (suc (suc zero))) zero zero hx hy hz = d
four P a b c d (suc (suc (suc (suc x)))) y z hx hy hz = absurd (omega arith)
four P a b c d x (suc y) z hx hy hz = absurd (omega arith)
four P a b c d x y (suc z) hx hy hz = absurd (omega arith)

abbrev row : IsLayout 1 (4 ∷ 1 ∷ 1 ∷ []) → Layout
row s = record { dims = 1; cells = 4 ∷ 1 ∷ 1 ∷ []; sound = s }

can_pass : (s : IsLayout 1 (4 ∷ 1 ∷ 1 ∷ [])) → CanPass (record { dims = 1; cells = 4 ∷ 1 ∷ 1 ∷ []; sound = s })
    (listed (record { dims = 1; cells = 4 ∷ 1 ∷ 1 ∷ []; sound = s }) (0 ∷ 2 ∷ 0 ∷ 0 ∷ 0 ∷ [])) (listed (record { dims = 1; cells = 4 ∷ 1 ∷ 1 ∷ []; sound = s }) (0 ∷ 0 ∷ 0 ∷ 0 ∷ 2 ∷ []))
    (5 ∷ 5 ∷ 8 ∷ 0 ∷ 0 ∷ 3 ∷ 16 ∷ 0 ∷ [])
can_pass s = record {
  pays = λ i w. four (λ x y z. loss 1 (listed (row s) (0 ∷ 2 ∷ 0 ∷ 0 ∷ 0 ∷ [])) (listed (row s) (0 ∷ 0 ∷ 0 ∷ 0 ∷ 2 ∷ [])) (x ∷ y ∷ z ∷ []) ≤ total_at (row s) (5 ∷ 5 ∷ 8 ∷ 0 ∷ 0 ∷ 3 ∷ 16 ∷ 0 ∷ []) (x ∷ y ∷ z ∷ []))
      (omega arith) (omega arith) (omega arith) (omega arith) (slice_index i 0) (slice_index i 1) (slice_index i 2) w.along1 w.along2 w.along3;
  small = λ i w. four (λ x y z. total_at (row s) (5 ∷ 5 ∷ 8 ∷ 0 ∷ 0 ∷ 3 ∷ 16 ∷ 0 ∷ []) (x ∷ y ∷ z ∷ []) + gain 1 (listed (row s) (0 ∷ 2 ∷ 0 ∷ 0 ∷ 0 ∷ [])) (listed (row s) (0 ∷ 0 ∷ 0 ∷ 0 ∷ 2 ∷ [])) (x ∷ y ∷ z ∷ []) < 2 ^ 63)
      (omega arith) (omega arith) (omega arith) (omega arith) (slice_index i 0) (slice_index i 1) (slice_index i 2) w.along1 w.along2 w.along3;
}

pub update-requires-clause-passes : goal.update-requires-clause-passes
update-requires-clause-passes g c = can_pass _
