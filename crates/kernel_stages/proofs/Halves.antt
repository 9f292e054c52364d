-- Which of the finer leaves behind a side stands beside a cell.
use Rattle.std.proofs.Common.{◌≡◌, ℕ, ◌+◌, ◌*◌, ◌/◌, ◌%◌, ◌<◌, Bool, List, Contains, arith, ap, subst, sym, ◌∙◌, slice_index}
use Rattle.morton_order.specs.declared.space.Loc.{Loc}
use Rattle.morton_order.specs.Space.{child, child_number, factor, parts}
use Rattle.block_tree.specs.Behind.{fine}
use Rattle.block_tree.proofs.Behinds.{number_of_child}
use Rattle.mesh_rules.specs.Mesh.{Mesh}
use Rattle.block_layout.specs.Indices.{IsWithin}
use Rattle.block_geometry.specs.Blocks.{FieldBlock, IsAtSide}
use Rattle.block_geometry.proofs.Seen.{three_axes}
use Rattle.ghost_laws.specs.Given.{IsBeside}
use Rattle.ghost_laws.specs.Layers.{across_index}
use Rattle.ghost_laws.specs.Refined.{LiesInChild, child_at, half_cells}
use Rattle.ghost_laws.proofs.Layers.{sizes, used_in, within_across}
use Rattle.ghost_laws.proofs.Meeting.{sender_half, two_parts}
use Rattle.ghost_laws.proofs.Senders.{lies_in_child}
use Rattle.letter_laws.specs.Sides.{IsSide, behind_side}
use Rattle.letter_laws.proofs.Behinds.{child_among, fine_met}
use Rattle.letter_laws.proofs.FinerHalves.{halves_below, side_at_half}

-- some finer leaf stands beside each cell at a side that has finer leaves behind it
pub record FinerBeside (b : FieldBlock) (axis : ℕ) (high : Bool) (os : List Loc) (i : List ℕ) : Type 0 where
  pub at : Loc
  pub among : Contains os at
  pub lies : LiesInChild b.mesh (child_number b.mesh.shape.dims at) (across_index b.mesh axis high 0 i)

pub finer_beside : (b : FieldBlock) (axis : ℕ) (high : Bool) (os : List Loc) (i : List ℕ) → IsSide b axis → behind_side b axis high ≡ fine os → IsWithin b.layout.cells i → IsAtSide b.layout axis high i → FinerBeside b axis high os i
finer_beside b axis high os i side is w at =
    let m : Mesh = b.mesh in
    let D : ℕ = m.shape.dims in
    let shape = side.sound.mesh.shape in
    let h = three_axes b axis side.sound side.used in
    let beside : IsBeside b axis high i = record { sound = side.sound; used = side.used; within = w; at = at } in
    let x = fine_met b axis high os is in
    let q : List ℕ = across_index m axis high 0 i in
    let j : ℕ = child_at m q in
    let lies : LiesInChild m j q = lies_in_child m q (sizes b side.sound) (within_across b axis high i 0 beside (omega arith)) in
    let half = sender_half b axis high j i 0 beside (omega arith) lies in
    let made : j ≡ j % factor D 0 + 2 * (j / 2 % factor D 1) + 4 * (j / 4 % factor D 2) =
    ap (λ v. v + 2 * (slice_index q 1 / half_cells m 1) + 4 * (slice_index q 2 / half_cells m 2)) lies.along1
    ∙ ap (λ v. j % factor D 0 + 2 * v + 4 * (slice_index q 2 / half_cells m 2)) lies.along2
    ∙ ap (λ v. j % factor D 0 + 2 * (j / 2 % factor D 1) + 4 * v) lies.along3 in
    let few : j < parts D = subst (λ v. v < parts D) (sym made) (halves_below D j shape.least shape.most) in
    record {
      at = child D x.at j;
      among = child_among b axis high os j x few (side_at_half D axis j high h (two_parts D axis (used_in b axis side.sound side.used)) half);
      lies = subst (λ v. LiesInChild m v q) (sym (number_of_child D x.at j shape.most shape.least few)) lies;
    }
