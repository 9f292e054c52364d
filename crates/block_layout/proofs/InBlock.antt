-- Boxes of cells lie in the block with its ghosts.
use Rattle.std.proofs.Common.{◌≡◌, ℕ, zero, suc, ◌+◌, ◌-◌, ◌<◌, ◌≤◌, Bool, true, false, cond, ap, arith, slice_index}
use Rattle.std.proofs.lemmas.Bool.{lt-ltb}
use Rattle.block_layout.specs.declared.layout.Layout.{Layout}
use Rattle.block_layout.specs.Sizes.{IsLayout}
use Rattle.block_layout.specs.Indices.{with_along}
use Rattle.block_layout.specs.Layouts.{cells_along, ghost_layers}
use Rattle.block_layout.specs.Regions.{interior, layers, ghosts, inner_layers}
use Rattle.block_layout.specs.Laws.{LiesIn, RegionsLieIn}
use Rattle.block_layout.proofs.Boxes.{index_below}

-- an axis in use has two layers of ghosts
pub two_layers : (l : Layout) (axis : ℕ) → axis < l.dims → ghost_layers l axis ≡ 2
two_layers l axis h = ap (λ (b : Bool). cond b 2 0) (lt-ltb axis l.dims h)

pub interior_lies : (l : Layout) → IsLayout l.dims l.cells → LiesIn l (interior l)
interior_lies l s k h =
    let w = index_below l.cells k h in
    record { along1 = omega (arith, w.along1); along2 = omega (arith, w.along2); along3 = omega (arith, w.along3) }

pub layers_lie : (l : Layout) (axis from depth : ℕ) → IsLayout l.dims l.cells → axis < l.dims → from + depth ≤ cells_along l axis + 4 → LiesIn l (layers l axis from depth)
layers_lie l zero from depth s u h k below =
    let w = index_below (with_along 0 depth l.cells) k below in
    let e = two_layers l 0 u in
    record { along1 = omega (arith, w.along1, e); along2 = omega (arith, w.along2); along3 = omega (arith, w.along3) }
layers_lie l (suc zero) from depth s u h k below =
    let w = index_below (with_along 1 depth l.cells) k below in
    let e = two_layers l 1 u in
    record { along1 = omega (arith, w.along1); along2 = omega (arith, w.along2, e); along3 = omega (arith, w.along3) }
layers_lie l (suc (suc zero)) from depth s u h k below =
    let w = index_below (with_along 2 depth l.cells) k below in
    let e = two_layers l 2 u in
    record { along1 = omega (arith, w.along1); along2 = omega (arith, w.along2); along3 = omega (arith, w.along3, e) }
layers_lie l (suc (suc (suc a))) from depth s u h k below = absurd (omega (arith, s.most))

pub ghosts_lie : (l : Layout) (axis : ℕ) (high : Bool) → IsLayout l.dims l.cells → axis < l.dims → LiesIn l (ghosts l axis high)
ghosts_lie l axis true s u = layers_lie l axis (cells_along l axis + 2) 2 s u (omega arith)
ghosts_lie l axis false s u = layers_lie l axis 0 2 s u (omega arith)

pub inner_lie : (l : Layout) (axis : ℕ) (high : Bool) (depth : ℕ) → IsLayout l.dims l.cells → axis < l.dims → depth ≤ slice_index l.cells axis → LiesIn l (inner_layers l axis high depth)
inner_lie l axis true depth s u h = layers_lie l axis (cells_along l axis + 2 - depth) depth s u (omega arith)
inner_lie l axis false depth s u h = layers_lie l axis 2 depth s u (omega arith)

pub regions_lie : RegionsLieIn
regions_lie = record { interior = interior_lies; ghosts = ghosts_lie; layers = inner_lie }
