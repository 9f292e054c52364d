-- Places in the row of a cell.
use Rattle.std.proofs.Common.{◌≡◌, ℕ, zero, suc, ◌+◌, ◌*◌, ◌<◌, Bool, cond, List, refl, arith, ap, slice_index, ◌∙◌, sym}
use Rattle.std.proofs.lemmas.Bool.{lt-ltb}
use Rattle.block_layout.specs.declared.layout.Layout.{Layout}
use Rattle.block_layout.specs.Indices.{IsWithin, with_along}
use Rattle.block_layout.specs.Layouts.{ghost_layers, widths}
use Rattle.block_geometry.specs.Blocks.{own_place, row_place}

-- an axis in use has two layers of ghosts
pub two_layers : (l : Layout) (axis : ℕ) → axis < l.dims → ghost_layers l axis ≡ 2
two_layers l axis h = ap (λ (b : Bool). cond b 2 0) (lt-ltb axis l.dims h)

-- an index at another number along an axis
pub along_with : (axis x : ℕ) (i : List ℕ) → axis < 3 → slice_index (with_along axis x i) axis ≡ x
along_with zero x i h = refl
along_with (suc zero) x i h = refl
along_with (suc (suc zero)) x i h = refl
along_with (suc (suc (suc a))) x i h = absurd (omega arith)

pub within_with : (n i : List ℕ) (axis x : ℕ) → IsWithin n i → axis < 3 → x < slice_index n axis → IsWithin n (with_along axis x i)
within_with n i zero x w h k = record { along1 = k; along2 = w.along2; along3 = w.along3 }
within_with n i (suc zero) x w h k = record { along1 = w.along1; along2 = k; along3 = w.along3 }
within_with n i (suc (suc zero)) x w h k = record { along1 = w.along1; along2 = w.along2; along3 = k }
within_with n i (suc (suc (suc a))) x w h k = absurd (omega arith)

-- an own cell in its row
shifted : (g u : ℕ) → g ≡ 2 → g + u ≡ u + 2
shifted g u e = omega arith

pub own_row_at : (l : Layout) (axis x : ℕ) (i : List ℕ) → axis < l.dims → axis < 3 → own_place l (with_along axis x i) ≡ row_place l axis (x + 2) i
own_row_at l zero x i used h =
    ap (λ v. v + slice_index (widths l) 0 * ((ghost_layers l 1 + slice_index i 1) + slice_index (widths l) 1 * (ghost_layers l 2 + slice_index i 2))) (shifted (ghost_layers l 0) x (two_layers l 0 used))
own_row_at l (suc zero) x i used h =
    ap (λ v. (ghost_layers l 0 + slice_index i 0) + slice_index (widths l) 0 * (v + slice_index (widths l) 1 * (ghost_layers l 2 + slice_index i 2))) (shifted (ghost_layers l 1) x (two_layers l 1 used))
own_row_at l (suc (suc zero)) x i used h =
    ap (λ v. (ghost_layers l 0 + slice_index i 0) + slice_index (widths l) 0 * ((ghost_layers l 1 + slice_index i 1) + slice_index (widths l) 1 * v)) (shifted (ghost_layers l 2) x (two_layers l 2 used))
own_row_at l (suc (suc (suc a))) x i used h = absurd (omega arith)

-- an index with its own number along an axis
pub same_with : (l : Layout) (axis : ℕ) (i : List ℕ) → axis < 3 → own_place l (with_along axis (slice_index i axis) i) ≡ own_place l i
same_with l zero i h = refl
same_with l (suc zero) i h = refl
same_with l (suc (suc zero)) i h = refl
same_with l (suc (suc (suc a))) i h = absurd (omega arith)

pub own_row : (l : Layout) (axis : ℕ) (i : List ℕ) → axis < l.dims → axis < 3 → own_place l i ≡ row_place l axis (slice_index i axis + 2) i
own_row l axis i used h = sym (same_with l axis i h) ∙ own_row_at l axis (slice_index i axis) i used h

-- a row, named by another cell of it
pub row_with : (l : Layout) (axis x y : ℕ) (i : List ℕ) → axis < 3 → row_place l axis x (with_along axis y i) ≡ row_place l axis x i
row_with l zero x y i h = refl
row_with l (suc zero) x y i h = refl
row_with l (suc (suc zero)) x y i h = refl
row_with l (suc (suc (suc a))) x y i h = absurd (omega arith)
