-- A face is closed just where the face of the domain reflects.
use Rattle.std.proofs.Common.{◌≡◌, ◌==◌, ◌&&◌, ◌||◌, ℕ, ◌+◌, ◌-◌, ◌<◌, Bool, true, false, cond, not, Option, Some, None, List, refl, arith, ap, subst, sym, ◌∙◌, slice_index, inl, inr}
use Rattle.std.specs.Option.{option_map}
use Rattle.std.proofs.lemmas.Bool.{cases_lt, cases_eq}
use Rattle.std.proofs.lemmas.Bool.Decides.{nat_tests}
use Rattle.morton_order.specs.declared.space.Loc.{Loc}
use Rattle.morton_order.specs.Neighbours.{across}
use Rattle.mesh_settings.specs.declared.words.FaceKind.{FaceKind}
use Rattle.mesh_settings.specs.declared.words.FaceKind.TheVariants.{Periodic, Outflow, Reflecting, Inflow}
use Rattle.mesh_rules.specs.Mesh.{cells_along}
use Rattle.mesh_rules.specs.Fields.{kind_at}
use Rattle.mesh_rules.specs.Faces.{cell_across}
use Rattle.block_layout.specs.declared.layout.Layout.{Layout}
use Rattle.block_layout.specs.Indices.{IsWithin, with_along}
use Rattle.block_layout.specs.Layouts.{cells_along as layout_cells}
use Rattle.block_geometry.specs.Blocks.{FieldBlock, IsFieldBlock, cell_in, end_of}
use Rattle.block_geometry.proofs.Cells.{across_beyond, across_down, across_up, within_along}
use Rattle.block_geometry.proofs.Rows.{along_with}
use Rattle.block_geometry.proofs.Seen.{same_cells, three_axes}
use Rattle.upwind_fluxes.specs.Fluxes.{is_closed, is_closed_side}
use Rattle.block_laws.specs.Rates.{ClosesReflecting, reflects}

-- a face between two cells of a block is open, one at a side is closed as the side is
between : (low high : Bool) (x n : ℕ) → 0 < x → x < n → ((low && (x == 0)) || (high && (x == n))) ≡ false
between low high x n h k = grind (arith, nat_tests)

at_low : (low high : Bool) (x n : ℕ) → x ≡ 0 → 0 < n → ((low && (x == 0)) || (high && (x == n))) ≡ low
at_low low high x n h k = grind (arith, nat_tests)

at_high : (low high : Bool) (x n : ℕ) → x ≡ n → 0 < n → ((low && (x == 0)) || (high && (x == n))) ≡ high
at_high low high x n h k = grind (arith, nat_tests)

-- what lies across does not reflect
pub reflects_some : (kind : FaceKind) (o : Loc) → reflects kind (Some o) ≡ false
reflects_some Reflecting o = refl
reflects_some Periodic o = refl
reflects_some Outflow o = refl
reflects_some Inflow o = refl

reflects_mapped : (kind : FaceKind) (g : Loc → Loc) (o : Option Loc) → reflects kind (option_map g o) ≡ reflects kind o
reflects_mapped kind g None = refl
reflects_mapped kind g (Some o) = reflects_some kind (g o) ∙ sym (reflects_some kind o)

-- the face at a side of a cell
abbrev face_at : List ℕ → ℕ → Bool → ℕ
face_at i axis high = slice_index i axis + cond high 1 0

-- the test of a face, by its number along the axis
by_number : (l : Layout) (closed : List Bool) (axis x : ℕ) (i : List ℕ) → axis < 3 →
    is_closed l closed axis (with_along axis x i) ≡ ((is_closed_side closed axis false && (x == 0)) || (is_closed_side closed axis true && (x == layout_cells l axis)))
by_number l closed axis x i h = ap (λ y. (is_closed_side closed axis false && (y == 0)) || (is_closed_side closed axis true && (y == layout_cells l axis))) (along_with axis x i h)

-- a block with a cell of it and an axis in use
pub record CellOf (b : FieldBlock) (closed : List Bool) (i : List ℕ) (axis : ℕ) : Type 0 where
  pub sound : IsFieldBlock b
  pub closes : ClosesReflecting b closed
  pub within : IsWithin b.layout.cells i
  pub used : axis < b.layout.dims

beyond_side : (b : FieldBlock) (closed : List Bool) (i : List ℕ) (axis : ℕ) (high : Bool) → CellOf b closed i axis → slice_index i axis ≡ end_of (layout_cells b.layout axis) high →
    is_closed_side closed axis high ≡ reflects (kind_at b.settings axis high) (cell_across b.mesh (cell_in b.mesh b.leaf i) axis high)
beyond_side b closed i axis high s at =
    let h = three_axes b axis s.sound s.used in
    let e = across_beyond b.mesh b.leaf i axis high s.sound.mesh s.sound.leaf.inside h (at ∙ ap (λ n. end_of n high) (same_cells b axis s.sound)) in
    s.closes axis high s.used
    ∙ sym (ap (reflects (kind_at b.settings axis high)) e ∙ reflects_mapped (kind_at b.settings axis high) (λ o. cell_in b.mesh o (with_along axis (end_of (cells_along b.mesh axis) (not high)) i)) (across b.mesh.shape b.leaf axis high))

pub closed_is : (b : FieldBlock) (closed : List Bool) (i : List ℕ) (axis : ℕ) (high : Bool) → CellOf b closed i axis →
    is_closed b.layout closed axis (with_along axis (face_at i axis high) i) ≡ reflects (kind_at b.settings axis high) (cell_across b.mesh (cell_in b.mesh b.leaf i) axis high)
closed_is b closed i axis true s =
    let h = three_axes b axis s.sound s.used in
    let u : ℕ = slice_index i axis in
    let n : ℕ = layout_cells b.layout axis in
    let below = within_along b.layout.cells i axis s.within h in
    by_number b.layout closed axis (u + 1) i h
    ∙ elim (cases_lt (u + 1) n) [
      | inl room ↦
          let e = across_up b.mesh b.leaf i axis s.sound.leaf.inside h (subst (λ t. u + 1 < t) (same_cells b axis s.sound) room) in
          between (is_closed_side closed axis false) (is_closed_side closed axis true) (u + 1) n (omega arith) room
          ∙ sym (ap (reflects (kind_at b.settings axis true)) e ∙ reflects_some (kind_at b.settings axis true) (cell_in b.mesh b.leaf (with_along axis (u + 1) i)))
      | inr last ↦ at_high (is_closed_side closed axis false) (is_closed_side closed axis true) (u + 1) n (omega arith) (omega arith) ∙ beyond_side b closed i axis true s (omega arith)
    ]
closed_is b closed i axis false s =
    let h = three_axes b axis s.sound s.used in
    let u : ℕ = slice_index i axis in
    let n : ℕ = layout_cells b.layout axis in
    let below = within_along b.layout.cells i axis s.within h in
    by_number b.layout closed axis (u + 0) i h
    ∙ elim (cases_eq u 0) [
      | inl first ↦ at_low (is_closed_side closed axis false) (is_closed_side closed axis true) (u + 0) n (omega arith) (omega arith) ∙ beyond_side b closed i axis false s first
      | inr later ↦
          let x : ℕ = u - 1 in
          let e = across_down b.mesh b.leaf i axis x h (omega arith) in
          between (is_closed_side closed axis false) (is_closed_side closed axis true) (u + 0) n (omega arith) (omega arith)
          ∙ sym (ap (reflects (kind_at b.settings axis false)) e ∙ reflects_some (kind_at b.settings axis false) (cell_in b.mesh b.leaf (with_along axis x i)))
    ]
