-- What the shares of a parent's list, and the sums over the children's lists, are on a mesh.
use Rattle.std.proofs.Common.{◌≡◌, ℕ, zero, suc, ◌+◌, ◌*◌, ◌/◌, ◌%◌, ◌<◌, ◌≤◌, true, Option, List, [], ◌∷◌, slice_index, arith, ap, subst, sym, ◌∙◌}
use Rattle.std.proofs.Math.Nat.{div-add-mod'}
use Rattle.std.proofs.lemmas.Nat.{div-mul-add, mod-mul-add}
use Rattle.mesh_num.specs.Share.{share}
use Rattle.morton_order.specs.declared.space.Loc.{Loc}
use Rattle.morton_order.specs.Space.{child, child_number, factor, parent, parts}
use Rattle.morton_order.proofs.Family.{parent-child}
use Rattle.block_tree.specs.Tree.{IsLeaf}
use Rattle.block_tree.proofs.Ancestors.{node_parent}
use Rattle.mesh_rules.specs.Sums.{sum_to}
use Rattle.mesh_rules.specs.Mesh.{IsMesh, Mesh, OnLeaf, block_of, is_inner}
use Rattle.mesh_rules.specs.Look.{look}
use Rattle.mesh_laws.proofs.Looks.{look_law, no_node}
use Rattle.mesh_laws.proofs.Totals.{sum_to-same}
use Rattle.block_layout.specs.declared.layout.Layout.{Layout}
use Rattle.block_layout.specs.Sizes.{IsCellCount, IsLayout}
use Rattle.block_layout.specs.Indices.{IsWithin, added, number_of}
use Rattle.block_layout.specs.Laws.{IsSame}
use Rattle.block_layout.proofs.Boxes.{mod_below, positive}
use Rattle.block_geometry.specs.Blocks.{IsLayoutOf, cell_in}
use Rattle.block_geometry.proofs.Cells.{block_of_cell_in}
use Rattle.ghost_laws.specs.Refined.{LiesInChild, child_at, coarser_index, finer_index, half_cells, number_in_coarser}
use Rattle.ghost_laws.proofs.Refined.{child_cell, coarser_within, finer_within, number_of_cell, parent_cell}
use Rattle.ghost_laws.proofs.Senders.{lies_in_child}
use Rattle.cell_boxes.specs.Boxes.{address}
use Rattle.block_regions.specs.Rows.{whole_box}
use Rattle.restrict_prolong.specs.Refined.{coarsened, factors, part_index, part_number, sum_in}
use Rattle.restrict_prolong.specs.Boxes.{at_box}
use Rattle.restrict_prolong.proofs.Halves.{factor_least, half_twice}
use Rattle.restrict_prolong.proofs.Wholes.{whole_address}
use Rattle.dense_remesh.specs.Parts.{HasChildSums, HasParentShares, child_list, half_along, part_box, part_low}
use Rattle.dense_remesh.specs.Parts.{half_cells as halves}
use Rattle.dense_remesh.proofs.Halves.{part_place, part_within}
use Rattle.dense_remesh.proofs.LeafLists.{HasLooks, same_cell, same_place}

-- a mesh's blocks have a layout
pub mesh_layout : (m : Mesh) (l : Layout) → IsLayoutOf m l → IsLayout m.shape.dims m.cells
mesh_layout m l of = subst (λ d. IsLayout d m.cells) of.dims (subst (λ (n : List ℕ). IsLayout l.dims n) of.cells l.sound)

-- the index of the k-th fine cell in a cell, along each axis
record FineIs (dims : ℕ) (n i : List ℕ) (k : ℕ) (p : List ℕ) : Type 0 where
  along1 : slice_index p 0 ≡ factor dims 0 * (slice_index i 0 % (slice_index n 0 / factor dims 0)) + k % factor dims 0
  along2 : slice_index p 1 ≡ factor dims 1 * (slice_index i 1 % (slice_index n 1 / factor dims 1)) + k / 2 % factor dims 1
  along3 : slice_index p 2 ≡ factor dims 2 * (slice_index i 2 % (slice_index n 2 / factor dims 2)) + k / 4 % factor dims 2

-- the number of a part, two ways
same_part : (dims x y z : ℕ) → 1 ≤ dims → dims ≤ 3 →
    x % factor dims 0 + factor dims 0 * (y % factor dims 1 + factor dims 1 * (z % factor dims 2)) ≡ x % factor dims 0 + 2 * (y % factor dims 1) + 4 * (z % factor dims 2)
same_part zero x y z a b = absurd (omega arith)
same_part (suc zero) x y z a b = omega arith
same_part (suc (suc zero)) x y z a b = omega arith
same_part (suc (suc (suc zero))) x y z a b = omega arith
same_part (suc (suc (suc (suc d)))) x y z a b = absurd (omega arith)

-- the halves of a part, two ways
pub record SameHalves (dims k : ℕ) : Type 0 where
  pub second : k / factor dims 0 % factor dims 1 ≡ k / 2 % factor dims 1
  pub third : k / factor dims 0 / factor dims 1 ≡ k / 4 % factor dims 2

same_halves : (dims k : ℕ) → 1 ≤ dims → dims ≤ 3 → k < parts dims → SameHalves dims k
same_halves zero k a b h = absurd (omega arith)
same_halves (suc zero) k a b h = record { second = omega arith; third = omega arith }
same_halves (suc (suc zero)) k a b h = record { second = omega arith; third = omega arith }
same_halves (suc (suc (suc zero))) k a b h = record { second = omega arith; third = omega arith }
same_halves (suc (suc (suc (suc d)))) k a b h = absurd (omega arith)

-- where the coarser cell of a cell of a child lies in the block
coarse_number : ℕ → List ℕ → ℕ → List ℕ → ℕ
coarse_number d n j q =
    (j % factor d 0 * (slice_index n 0 / factor d 0) + slice_index q 0 / factor d 0)
    + slice_index n 0 * ((j / 2 % factor d 1 * (slice_index n 1 / factor d 1) + slice_index q 1 / factor d 1)
    + slice_index n 1 * (j / 4 % factor d 2 * (slice_index n 2 / factor d 2) + slice_index q 2 / factor d 2))

coarse_place : (m : Mesh) (l : Layout) (j : ℕ) (q : List ℕ) → IsLayoutOf m l → address (part_box l j) (coarsened (factors l.dims) q) ≡ number_of m.cells (coarser_index m j q)
unfolding coarse_number
coarse_place m l j q of =
    part_place l j (coarsened (factors l.dims) q) ∙ ap (λ d. coarse_number d l.cells j q) of.dims ∙ ap (λ (n : List ℕ). coarse_number m.shape.dims n j q) of.cells

-- the shares of the parent's list are the looks
pub shares_are_looks : (m : Mesh) (l : Layout) (f : ℕ) (at : Loc) (coarse new : List ℕ) → IsMesh m → IsLayoutOf m l → 1 ≤ at.level → IsLeaf m.shape (is_inner m) (parent m.shape.dims at) →
    HasLooks m f (parent m.shape.dims at) coarse → HasParentShares l coarse (child_number l.dims at) new → HasLooks m f at new
shares_are_looks m l f at coarse new mesh of deep leaf has shared = λ q w.
    let d : ℕ = m.shape.dims in
    let fit = mesh_layout m l of in
    let c : Loc = cell_in m at q in
    let j : ℕ = child_number d at in
    let r : List ℕ = coarser_index m j q in
    let up = parent_cell m at q fit in
    let below = coarser_within m j q fit w in
    let in_list : IsWithin l.cells q = subst (λ (n : List ℕ). IsWithin n q) (sym of.cells) w in
    let on : OnLeaf m (parent d c) = subst (λ (v : Loc). IsLeaf m.shape (is_inner m) (block_of m v)) (sym up)
    (subst (λ (v : Loc). IsLeaf m.shape (is_inner m) v) (sym (block_of_cell_in m (parent d at) r below)) leaf) in
    let seen : look m f c ≡ share (slice_index coarse (number_of m.cells r)) (parts d) (number_in_coarser d q) =
    (look_law m f c mesh).coarser (no_node m c deep on)
    ∙ ap (λ t. share t (parts d) (child_number d c)) (ap (look m f) up ∙ sym (has r below))
    ∙ ap (share (slice_index coarse (number_of m.cells r)) (parts d)) (number_of_cell m at q fit) in
    let place : slice_index new (number_of m.cells q) ≡ at_box new (whole_box l.cells) q = ap (slice_index new) (ap (λ (n : List ℕ). number_of n q) (sym of.cells) ∙ sym (whole_address l.cells q)) in
    let number : child_number l.dims at ≡ j = ap (λ v. child_number v at) of.dims in
    place
    ∙ shared q in_list
    ∙ ap (λ v. share (slice_index coarse v) (parts l.dims) (part_number (factors l.dims) q)) (ap (λ v. address (part_box l v) (coarsened (factors l.dims) q)) number ∙ coarse_place m l j q of)
    ∙ ap (share (slice_index coarse (number_of m.cells r)) (parts l.dims)) (same_part l.dims (slice_index q 0) (slice_index q 1) (slice_index q 2) l.sound.least l.sound.most)
    ∙ ap (λ v. share (slice_index coarse (number_of m.cells r)) (parts v) (number_in_coarser v q)) of.dims
    ∙ sym seen

-- a cell of the part that a child covers lies in the child
record LiesIn (dims : ℕ) (n : List ℕ) (j : ℕ) (i : List ℕ) : Type 0 where
  along1 : slice_index i 0 / (slice_index n 0 / factor dims 0) ≡ j % factor dims 0
  along2 : slice_index i 1 / (slice_index n 1 / factor dims 1) ≡ j / 2 % factor dims 1
  along3 : slice_index i 2 / (slice_index n 2 / factor dims 2) ≡ j / 4 % factor dims 2

in_child : (m : Mesh) (l : Layout) (j : ℕ) (r : List ℕ) → IsLayoutOf m l → IsWithin (halves l) r → LiesInChild m j (added (part_low l j) r)
in_child m l j r of w =
    let i : List ℕ = added (part_low l j) r in
    let lies : LiesIn l.dims l.cells j i = record {
      along1 = div-mul-add (j % factor l.dims 0) (half_along l 0) (slice_index r 0) w.along1;
      along2 = div-mul-add (j / 2 % factor l.dims 1) (half_along l 1) (slice_index r 1) w.along2;
      along3 = div-mul-add (j / 4 % factor l.dims 2) (half_along l 2) (slice_index r 2) w.along3;
    } in
    let same : LiesIn m.shape.dims m.cells j i = subst (λ d. LiesIn d m.cells j i) of.dims (subst (λ (n : List ℕ). LiesIn l.dims n j i) of.cells lies) in
    record { along1 = same.along1; along2 = same.along2; along3 = same.along3 }

-- the fine cells in it, two ways
finer_same : (m : Mesh) (l : Layout) (j k : ℕ) (r : List ℕ) → IsLayoutOf m l → IsWithin (halves l) r → k < parts l.dims →
    IsSame (part_index (factors l.dims) r k) (finer_index m (added (part_low l j) r) k)
finer_same m l j k r of w small =
    let i : List ℕ = added (part_low l j) r in
    let same = same_halves l.dims k l.sound.least l.sound.most small in
    let fine : FineIs l.dims l.cells i k (part_index (factors l.dims) r k) = record {
      along1 = ap (λ v. factor l.dims 0 * v + k % factor l.dims 0) (sym (mod-mul-add (j % factor l.dims 0) (half_along l 0) (slice_index r 0) w.along1));
      along2 = ap (λ v. factor l.dims 1 * v + k / factor l.dims 0 % factor l.dims 1) (sym (mod-mul-add (j / 2 % factor l.dims 1) (half_along l 1) (slice_index r 1) w.along2))
          ∙ ap (λ v. factor l.dims 1 * (slice_index i 1 % half_along l 1) + v) same.second;
      along3 = ap (λ v. factor l.dims 2 * v + k / factor l.dims 0 / factor l.dims 1) (sym (mod-mul-add (j / 4 % factor l.dims 2) (half_along l 2) (slice_index r 2) w.along3))
          ∙ ap (λ v. factor l.dims 2 * (slice_index i 2 % half_along l 2) + v) same.third;
    } in
    let on : FineIs m.shape.dims m.cells i k (part_index (factors l.dims) r k) = subst (λ d. FineIs d m.cells i k (part_index (factors l.dims) r k)) of.dims (subst (λ (n : List ℕ). FineIs l.dims n i k (part_index (factors l.dims) r k)) of.cells fine) in
    record { along1 = on.along1; along2 = on.along2; along3 = on.along3 }

-- the sum over what a child's list has in a cell of the block is the look there
pub sum_is_look : (m : Mesh) (l : Layout) (f : ℕ) (at : Loc) (j : ℕ) (fine r : List ℕ) → IsMesh m → IsLayoutOf m l → IsLeaf m.shape (is_inner m) (child m.shape.dims at j) → HasLooks m f (child m.shape.dims at j) fine →
    IsWithin (halves l) r → sum_in (factors l.dims) (at_box fine (whole_box l.cells)) r ≡ look m f (cell_in m at (added (part_low l j) r))
sum_is_look m l f at j fine r mesh of leaf has w =
    let d : ℕ = m.shape.dims in
    let i : List ℕ = added (part_low l j) r in
    let c : Loc = cell_in m at i in
    let fit = mesh_layout m l of in
    let lies = in_child m l j r of w in
    let inside : IsWithin m.cells i = subst (λ (n : List ℕ). IsWithin n i) of.cells (part_within l j r w) in
    let deep : 1 ≤ (child d at j).level = omega arith in
    let above : is_inner m at ≡ true = ap (is_inner m) (sym (parent-child d at j)) ∙ node_parent m.shape (is_inner m) (child d at j) deep leaf.node in
    let inner : is_inner m (block_of m c) ≡ true = ap (is_inner m) (block_of_cell_in m at i inside) ∙ above in
    sum_to-same (parts l.dims) (λ k. at_box fine (whole_box l.cells) (part_index (factors l.dims) r k)) (λ k. look m f (child d c k))
    (λ k small.
    ap (slice_index fine) (whole_address l.cells (part_index (factors l.dims) r k) ∙ ap (λ (n : List ℕ). number_of n (part_index (factors l.dims) r k)) of.cells ∙ same_place m.cells (part_index (factors l.dims) r k) (finer_index m i k) (finer_same m l j k r of w small))
    ∙ has (finer_index m i k) (finer_within m i k fit)
    ∙ ap (look m f) (sym (child_cell m at i j k fit lies)))
    ∙ ap (λ v. sum_to (parts v) (λ k. look m f (child d c k))) of.dims
    ∙ sym ((look_law m f c mesh).finer inner)

-- the child that a cell lies in, and the cell's index in the part that it covers
child_below : (dims a b c : ℕ) → 1 ≤ dims → dims ≤ 3 → a < factor dims 0 → b < factor dims 1 → c < factor dims 2 → a + 2 * b + 4 * c < parts dims
child_below zero a b c h k x y z = absurd (omega arith)
child_below (suc zero) a b c h k x y z = omega arith
child_below (suc (suc zero)) a b c h k x y z = omega arith
child_below (suc (suc (suc zero))) a b c h k x y z = omega arith
child_below (suc (suc (suc (suc d)))) a b c h k x y z = absurd (omega arith)

-- half of a block has cells
some_half : (dims axis n : ℕ) → IsCellCount dims axis n → 1 ≤ n / factor dims axis
some_half dims axis n is =
    let whole = half_twice dims axis n is in
    let some = is.least in
    let p : 0 < n / factor dims axis = positive (n / factor dims axis) (factor dims axis) 0 (omega arith) in
    omega arith

half_same : (m : Mesh) (l : Layout) (axis : ℕ) → IsLayoutOf m l → half_along l axis ≡ half_cells m axis
half_same m l axis of = ap (λ d. slice_index l.cells axis / factor d axis) of.dims ∙ ap (λ (n : List ℕ). slice_index n axis / factor m.shape.dims axis) of.cells

-- a coordinate from the half that it lies in
whole_again : (e d axis j x h k : ℕ) → e ≡ d → h ≡ k → x / k ≡ j % factor d axis → j % factor e axis * h + x % k ≡ x
whole_again e d axis j x h k same half lies =
    ap (λ v. j % factor v axis * h + x % k) same ∙ ap (λ v. j % factor d axis * v + x % k) half ∙ ap (λ v. v * k + x % k) (sym lies) ∙ div-add-mod' x k

-- the sums over the lists of all children are the looks
pub sums_are_looks : (m : Mesh) (l : Layout) (f : ℕ) (at : Loc) (field : List (List ℕ)) (numbers : List (Option ℕ)) (new : List ℕ) → IsMesh m → IsLayoutOf m l →
    ((j : ℕ) → j < parts m.shape.dims → IsLeaf m.shape (is_inner m) (child m.shape.dims at j) × HasLooks m f (child m.shape.dims at j) (child_list field numbers j)) →
    HasChildSums l field numbers (parts l.dims) new → HasLooks m f at new
sums_are_looks m l f at field numbers new mesh of each summed = λ q w.
    let d : ℕ = m.shape.dims in
    let fit = mesh_layout m l of in
    let j : ℕ = child_at m q in
    let lies = lies_in_child m q fit w in
    let below : (axis x : ℕ) → x % factor d axis < factor d axis = λ axis x. mod_below x (factor d axis) (factor_least d axis) in
    let few : j < parts d = child_below d (slice_index q 0 / half_cells m 0) (slice_index q 1 / half_cells m 1) (slice_index q 2 / half_cells m 2) mesh.shape.least mesh.shape.most
    (subst (λ v. v < factor d 0) (sym lies.along1) (below 0 j)) (subst (λ v. v < factor d 1) (sym lies.along2) (below 1 (j / 2))) (subst (λ v. v < factor d 2) (sym lies.along3) (below 2 (j / 4))) in
    let r : List ℕ = (slice_index q 0 % half_cells m 0) ∷ (slice_index q 1 % half_cells m 1) ∷ (slice_index q 2 % half_cells m 2) ∷ [] in
    let within : IsWithin (halves l) r = record {
      along1 = subst (λ v. slice_index q 0 % v < half_along l 0) (half_same m l 0 of) (mod_below (slice_index q 0) (half_along l 0) (some_half l.dims 0 (slice_index l.cells 0) l.sound.cells1));
      along2 = subst (λ v. slice_index q 1 % v < half_along l 1) (half_same m l 1 of) (mod_below (slice_index q 1) (half_along l 1) (some_half l.dims 1 (slice_index l.cells 1) l.sound.cells2));
      along3 = subst (λ v. slice_index q 2 % v < half_along l 2) (half_same m l 2 of) (mod_below (slice_index q 2) (half_along l 2) (some_half l.dims 2 (slice_index l.cells 2) l.sound.cells3));
    } in
    let same : IsSame (added (part_low l j) r) q = record {
      along1 = whole_again l.dims d 0 j (slice_index q 0) (half_along l 0) (half_cells m 0) of.dims (half_same m l 0 of) lies.along1;
      along2 = whole_again l.dims d 1 (j / 2) (slice_index q 1) (half_along l 1) (half_cells m 1) of.dims (half_same m l 1 of) lies.along2;
      along3 = whole_again l.dims d 2 (j / 4) (slice_index q 2) (half_along l 2) (half_cells m 2) of.dims (half_same m l 2 of) lies.along3;
    } in
    let less : j < parts l.dims = subst (λ v. j < parts v) (sym of.dims) few in
    let place : slice_index new (number_of m.cells q) ≡ at_box new (part_box l j) r =
    ap (slice_index new) (ap (λ (n : List ℕ). number_of n q) (sym of.cells) ∙ sym (same_place l.cells (added (part_low l j) r) q same) ∙ sym (part_place l j r)) in
    let e = each j few in
    place ∙ summed j less r within ∙ sum_is_look m l f at j (child_list field numbers j) r mesh of e.0 e.1 within ∙ ap (look m f) (same_cell m at (added (part_low l j) r) q same)
