-- The children and the parent of a cell of a block are cells of the block's child and parent.
use Rattle.std.proofs.Common.{◌≡◌, ℕ, ◌+◌, ◌*◌, ◌/◌, ◌%◌, ◌<◌, Bool, true, false, nat_lt, List, refl, arith, ap, sym, ◌∙◌, slice_index}
use Rattle.morton_order.specs.declared.space.Loc.{Loc}
use Rattle.morton_order.specs.Space.{child, child_number, factor, parent}
use Rattle.morton_order.proofs.Touching.{same_as}
use Rattle.mesh_rules.specs.Mesh.{Mesh, cells_along}
use Rattle.block_layout.specs.Sizes.{IsLayout}
use Rattle.block_layout.specs.Indices.{IsWithin}
use Rattle.block_geometry.specs.Blocks.{cell_in}
use Rattle.ghost_laws.specs.Refined.{LiesInChild, coarser_index, finer_index, half_cells, number_in_coarser}
use Rattle.ghost_laws.proofs.Sizes.{coarse_at, coarse_below, cut, digit_at, fine_at, fine_below, sized}

digit_below : (used : Bool) (x : ℕ) → x % cut used < cut used
digit_below true x = omega arith
digit_below false x = omega arith

-- a child of a cell in the child j of a block
pub child_cell : (m : Mesh) (o : Loc) (q : List ℕ) (j k : ℕ) → IsLayout m.shape.dims m.cells → LiesInChild m j q → child m.shape.dims (cell_in m o q) k ≡ cell_in m (child m.shape.dims o j) (finer_index m q k)
child_cell m o q j k l lies =
    let d : ℕ = m.shape.dims in
    same_as (cell_in m (child d o j) (finer_index m q k)) (child d (cell_in m o q) k) refl
    (fine_at (nat_lt 0 d) (cells_along m 0) o.l1 (slice_index q 0) (j % factor d 0) (k % factor d 0) (sized d 0 (cells_along m 0) l.cells1) lies.along1)
    (fine_at (nat_lt 1 d) (cells_along m 1) o.l2 (slice_index q 1) (j / 2 % factor d 1) (k / 2 % factor d 1) (sized d 1 (cells_along m 1) l.cells2) lies.along2)
    (fine_at (nat_lt 2 d) (cells_along m 2) o.l3 (slice_index q 2) (j / 4 % factor d 2) (k / 4 % factor d 2) (sized d 2 (cells_along m 2) l.cells3) lies.along3)

pub finer_within : (m : Mesh) (q : List ℕ) (k : ℕ) → IsLayout m.shape.dims m.cells → IsWithin m.cells (finer_index m q k)
finer_within m q k l =
    let d : ℕ = m.shape.dims in
    record {
      along1 = fine_below (nat_lt 0 d) (cells_along m 0) (slice_index q 0) (k % factor d 0) (sized d 0 (cells_along m 0) l.cells1) (digit_below (nat_lt 0 d) k);
      along2 = fine_below (nat_lt 1 d) (cells_along m 1) (slice_index q 1) (k / 2 % factor d 1) (sized d 1 (cells_along m 1) l.cells2) (digit_below (nat_lt 1 d) (k / 2));
      along3 = fine_below (nat_lt 2 d) (cells_along m 2) (slice_index q 2) (k / 4 % factor d 2) (sized d 2 (cells_along m 2) l.cells3) (digit_below (nat_lt 2 d) (k / 4));
    }

-- which half a location is
half_number : (a b c : Bool) (x y z : ℕ) → ((x % cut a + 2 * (y % cut b) + 4 * (z % cut c)) % cut a ≡ x % cut a)
    × ((x % cut a + 2 * (y % cut b) + 4 * (z % cut c)) / 2 % cut b ≡ y % cut b) × ((x % cut a + 2 * (y % cut b) + 4 * (z % cut c)) / 4 % cut c ≡ z % cut c)
half_number true true true x y z = (omega arith, omega arith, omega arith)
half_number true true false x y z = (omega arith, omega arith, omega arith)
half_number true false true x y z = (omega arith, omega arith, omega arith)
half_number true false false x y z = (omega arith, omega arith, omega arith)
half_number false true true x y z = (omega arith, omega arith, omega arith)
half_number false true false x y z = (omega arith, omega arith, omega arith)
half_number false false true x y z = (omega arith, omega arith, omega arith)
half_number false false false x y z = (omega arith, omega arith, omega arith)

-- the parent of a cell of a block
pub parent_cell : (m : Mesh) (o : Loc) (q : List ℕ) → IsLayout m.shape.dims m.cells → parent m.shape.dims (cell_in m o q) ≡ cell_in m (parent m.shape.dims o) (coarser_index m (child_number m.shape.dims o) q)
parent_cell m o q l =
    let d : ℕ = m.shape.dims in
    let e = half_number (nat_lt 0 d) (nat_lt 1 d) (nat_lt 2 d) o.l1 o.l2 o.l3 in
    same_as (cell_in m (parent d o) (coarser_index m (child_number d o) q)) (parent d (cell_in m o q)) refl
    (coarse_at (nat_lt 0 d) (cells_along m 0) o.l1 (slice_index q 0) (sized d 0 (cells_along m 0) l.cells1)
    ∙ ap (λ h. o.l1 / factor d 0 * cells_along m 0 + (h * half_cells m 0 + slice_index q 0 / factor d 0)) (sym e.0))
    (coarse_at (nat_lt 1 d) (cells_along m 1) o.l2 (slice_index q 1) (sized d 1 (cells_along m 1) l.cells2)
    ∙ ap (λ h. o.l2 / factor d 1 * cells_along m 1 + (h * half_cells m 1 + slice_index q 1 / factor d 1)) (sym e.1))
    (coarse_at (nat_lt 2 d) (cells_along m 2) o.l3 (slice_index q 2) (sized d 2 (cells_along m 2) l.cells3)
    ∙ ap (λ h. o.l3 / factor d 2 * cells_along m 2 + (h * half_cells m 2 + slice_index q 2 / factor d 2)) (sym e.2))

pub coarser_within : (m : Mesh) (j : ℕ) (q : List ℕ) → IsLayout m.shape.dims m.cells → IsWithin m.cells q → IsWithin m.cells (coarser_index m j q)
coarser_within m j q l w =
    let d : ℕ = m.shape.dims in
    record {
      along1 = coarse_below (nat_lt 0 d) (cells_along m 0) (slice_index q 0) (j % factor d 0) (sized d 0 (cells_along m 0) l.cells1) (digit_below (nat_lt 0 d) j) w.along1;
      along2 = coarse_below (nat_lt 1 d) (cells_along m 1) (slice_index q 1) (j / 2 % factor d 1) (sized d 1 (cells_along m 1) l.cells2) (digit_below (nat_lt 1 d) (j / 2)) w.along2;
      along3 = coarse_below (nat_lt 2 d) (cells_along m 2) (slice_index q 2) (j / 4 % factor d 2) (sized d 2 (cells_along m 2) l.cells3) (digit_below (nat_lt 2 d) (j / 4)) w.along3;
    }

-- which of its parent's cells a cell of a block is
pub number_of_cell : (m : Mesh) (o : Loc) (q : List ℕ) → IsLayout m.shape.dims m.cells → child_number m.shape.dims (cell_in m o q) ≡ number_in_coarser m.shape.dims q
number_of_cell m o q l =
    let d : ℕ = m.shape.dims in
    together ((o.l1 * cells_along m 0 + slice_index q 0) % factor d 0) ((o.l2 * cells_along m 1 + slice_index q 1) % factor d 1) ((o.l3 * cells_along m 2 + slice_index q 2) % factor d 2)
    (slice_index q 0 % factor d 0) (slice_index q 1 % factor d 1) (slice_index q 2 % factor d 2)
    (digit_at (nat_lt 0 d) (cells_along m 0) o.l1 (slice_index q 0) (sized d 0 (cells_along m 0) l.cells1))
    (digit_at (nat_lt 1 d) (cells_along m 1) o.l2 (slice_index q 1) (sized d 1 (cells_along m 1) l.cells2))
    (digit_at (nat_lt 2 d) (cells_along m 2) o.l3 (slice_index q 2) (sized d 2 (cells_along m 2) l.cells3))
  where
    together : (a b c x y z : ℕ) → a ≡ x → b ≡ y → c ≡ z → a + 2 * b + 4 * c ≡ x + 2 * y + 4 * z
    together a b c x y z e f g = omega arith
