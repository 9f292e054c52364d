-- Blocks with buffers of small totals.
use Rattle.std.proofs.Common.{sym, subst, inl, inr, ℕ, ◌<◌, ◌^◌, List, [], ◌∷◌, slice_index, arith}
use Rattle.std.specs.Prelude.{All, sum}
use Rattle.std.proofs.lemmas.Bool.{cases_eq}
use Rattle.std.proofs.lemmas.List.Elements.{All-cons, All-head, All-nil, All-tail}
use Rattle.field_bufs.specs.declared.buf.FieldBuf.{FieldBuf}
use Rattle.field_bufs.specs.Buffers.{total_at}
use Rattle.react_kernel.specs.Blocks.{totals_at}
use Rattle.react_kernel.proofs.Buffers.{cells_here, cells_not_here}
use Rattle.kernel_cases.proofs.SmallSums.{each_small}

-- a buffer has small totals
abbrev IsSmall : FieldBuf → Type 0
IsSmall buf = All (λ t. t < 2 ^ 32) buf.cells

small_at : (bufs : List FieldBuf) (f place : ℕ) → All IsSmall bufs → total_at bufs f place < 2 ^ 32
small_at [] f place small = each_small [] place (All-nil (λ t. t < 2 ^ 32))
small_at (buf ∷ bufs) f place small = elim (cases_eq f buf.field) [
  | inl e ↦ subst (λ (cells : List ℕ). slice_index cells place < 2 ^ 32) (sym (cells_here buf bufs f e)) (each_small buf.cells place (All-head IsSmall buf bufs small))
  | inr ne ↦ subst (λ (cells : List ℕ). slice_index cells place < 2 ^ 32) (sym (cells_not_here buf bufs f ne)) (small_at bufs f place (All-tail IsSmall buf bufs small))
]

two_small : (x y : ℕ) → x < 2 ^ 32 → y < 2 ^ 32 → sum (x ∷ y ∷ []) < 2 ^ 62
two_small x y p q = omega (arith, p, q)

sums_small : (bufs : List FieldBuf) (place : ℕ) → All IsSmall bufs → sum (totals_at bufs 2 place) < 2 ^ 62
sums_small bufs place small = two_small (total_at bufs 0 place) (total_at bufs 1 place) (small_at bufs 0 place small) (small_at bufs 1 place small)

pub both_small : (low high : FieldBuf) (place : ℕ) → All (λ t. t < 2 ^ 32) low.cells → All (λ t. t < 2 ^ 32) high.cells → sum (totals_at (low ∷ high ∷ []) 2 place) < 2 ^ 62
both_small low high place small1 small2 =
    sums_small (low ∷ high ∷ []) place (All-cons IsSmall low (high ∷ []) small1 (All-cons IsSmall high [] small2 (All-nil IsSmall)))
