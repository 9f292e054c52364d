-- Flux parts are regions of pairs.
use Rattle.std.proofs.Common.{◌≡◌, ℕ, Bool, not, Some, List, [], ◌∷◌, ◌++◌, map, refl, ap, subst, sym, ◌∙◌}
use Rattle.morton_order.specs.declared.space.Loc.{Loc}
use Rattle.morton_order.specs.Space.{axis_of, child}
use Rattle.morton_order.specs.Neighbours.{across}
use Rattle.morton_order.proofs.Crossing.{across-moved}
use Rattle.mesh_rules.specs.Due.{flux_span}
use Rattle.mesh_rules.specs.Faces.{Pair, face_pair}
use Rattle.mesh_rules.specs.Mesh.{Mesh}
use Rattle.mesh_rules.specs.Regions.{cells_in}
use Rattle.block_layout.specs.declared.layout.Layout.{Layout}
use Rattle.block_layout.specs.Indices.{IsWithin}
use Rattle.block_geometry.specs.Blocks.{FieldBlock, IsFieldBlock, IsLayoutOf}
use Rattle.block_geometry.specs.Contents.{HasOwnPairs, pair_of}
use Rattle.block_geometry.proofs.Seen.{three_axes}
use Rattle.ghost_laws.specs.Given.{IsBeside}
use Rattle.ghost_laws.specs.Layers.{on_block}
use Rattle.ghost_laws.proofs.Layers.{sizes}
use Rattle.flux_laws.proofs.AtSide.{finer_at_side}
use Rattle.flux_laws.proofs.Corrected.{coarse_pairs}
use Rattle.flux_correct.specs.Sums.{coarse_extents, flux_sum, flux_sums}
use Rattle.correction_laws.specs.Replaced.{IsNextTo, part_of}
use Rattle.correction_laws.proofs.Covered.{InHalf, shaped}
use Rattle.correction_laws.proofs.Others.{AtSide}
use Rattle.correction_laws.proofs.PartSums.{sum_behind}
use Rattle.letter_laws.proofs.Boxes.{box_is}
use Rattle.flux_regions.specs.Regions.{FluxPartsAreRegions, pairs_from}
use Rattle.flux_regions.proofs.Faces.{face_cell, face_cell_in, named_cell, named_extents, part_again}

abbrev of_layout : FieldBlock → FieldBlock
of_layout b = record b { mesh = shaped b.layout b.mesh }

shaped_is : (l : Layout) (m : Mesh) → IsLayoutOf m l → shaped l m ≡ m
shaped_is l m is =
    ap (λ d. record m { shape = record m.shape { dims = d }; cells = l.cells }) is.dims
    ∙ ap (λ c. record m { cells = c }) is.cells

mapped : {X Y Z : Type 0} (f : Y → Z) (g : X → Y) (xs : List X) → map f (map g xs) ≡ map (λ x. f (g x)) xs
mapped f g [] = refl
mapped f g (x ∷ xs) = ap (λ v. f (g x) ∷ v) (mapped f g xs)

-- the law for one block
abbrev IsRegionOf : FieldBlock → Type 0
IsRegionOf b = (axis : ℕ) (high : Bool) (o : Loc) (j : ℕ) (right left : List ℕ) → IsNextTo b axis high j → across b.mesh.shape b.leaf axis high ≡ Some o →
    IsFieldBlock (on_block b (child b.mesh.shape.dims o j)) → HasOwnPairs (on_block b (child b.mesh.shape.dims o j)) right left →
    part_of b axis high right left ≡ map (λ x. x.right) (pairs_from b axis high (child b.mesh.shape.dims o j)) ++ map (λ x. x.left) (pairs_from b axis high (child b.mesh.shape.dims o j))

-- a sum of the part is the pair of the cell
record SumIs (b : FieldBlock) (axis : ℕ) (high : Bool) (j : ℕ) (right left u : List ℕ) : Type 0 where
  rights : flux_sum b.layout axis (not high) right u ≡ (pair_of (of_layout b) (face_cell b.layout axis high j u) axis high).right
  lefts : flux_sum b.layout axis (not high) left u ≡ (pair_of (of_layout b) (face_cell b.layout axis high j u) axis high).left

sum_is : (b : FieldBlock) (axis : ℕ) (high : Bool) (o : Loc) (j : ℕ) (right left u : List ℕ) → IsNextTo (of_layout b) axis high j → IsFieldBlock (on_block (of_layout b) (child b.layout.dims o j)) →
    HasOwnPairs (on_block (of_layout b) (child b.layout.dims o j)) right left → AtSide b.layout axis high j → across (of_layout b).mesh.shape b.leaf axis high ≡ Some o → IsWithin (coarse_extents b.layout axis) u → SumIs b axis high j right left u
sum_is b axis high o j right left u next finer own side meets w =
    let l : Layout = b.layout in
    let v : FieldBlock = of_layout b in
    let i : List ℕ = face_cell l axis high j u in
    let h : InHalf l b.mesh axis high j i = face_cell_in l b.mesh axis high j u side w in
    let beside : IsBeside v axis high i = record { sound = next.sound; used = next.used; within = h.within; at = h.at } in
    let pair = coarse_pairs v axis high o j i right left beside meets finer own h.lies in
    let again = part_again l axis high j u side w in
    let stand = λ (k : ℕ). finer_at_side v axis high i k beside in
    record {
      rights = ap (flux_sum l axis (not high) right) (sym again) ∙ sum_behind l b.mesh axis high j i right h next.used stand ∙ sym (ap (λ (x : Pair). x.right) pair);
      lefts = ap (flux_sum l axis (not high) left) (sym again) ∙ sum_behind l b.mesh axis high j i left h next.used stand ∙ sym (ap (λ (x : Pair). x.left) pair);
    }

two_parts : (a b c d : List ℕ) → a ≡ c → b ≡ d → a ++ b ≡ c ++ d
two_parts a b c d e f = cc

of_layout_region : (b : FieldBlock) → IsRegionOf (of_layout b)
of_layout_region b axis high o j right left next meets finer own =
    let l : Layout = b.layout in
    let v : FieldBlock = of_layout b in
    let m : Mesh = v.mesh in
    let from : Loc = child l.dims o j in
    let fit = sizes v next.sound in
    let side : AtSide l axis high j = record { fit = fit; used = next.used; child = next.child; half = next.half } in
    let h = three_axes v axis next.sound next.used in
    let moves = across-moved m.shape b.leaf o axis high meets in
    let s0 = flux_span m from b.leaf axis high 0 in
    let s1 = flux_span m from b.leaf axis high 1 in
    let s2 = flux_span m from b.leaf axis high 2 in
    let extents = named_extents l b.mesh axis high from b.leaf fit h in
    let pair : Loc → Pair = λ c. face_pair b.settings m b.field c axis high in
    let cell = λ (u : List ℕ) (w : IsWithin (coarse_extents l axis) u). named_cell l b.mesh axis high o b.leaf j (axis_of o axis) u side moves w in
    let sum = λ (u : List ℕ) (w : IsWithin (coarse_extents l axis) u). sum_is b axis high o j right left u next finer own side meets w in
    two_parts (flux_sums l axis (not high) right) (flux_sums l axis (not high) left) _ _
    (box_is b.leaf.level s0 s1 s2 (coarse_extents l axis) (λ c. (pair c).right) (flux_sum l axis (not high) right) extents (λ u w. (sum u w).rights ∙ ap (λ (c : Loc). (pair c).right) (sym (cell u w)))
    ∙ sym (mapped (λ (x : Pair). x.right) pair (cells_in b.leaf.level s0 s1 s2)))
    (box_is b.leaf.level s0 s1 s2 (coarse_extents l axis) (λ c. (pair c).left) (flux_sum l axis (not high) left) extents (λ u w. (sum u w).lefts ∙ ap (λ (c : Loc). (pair c).left) (sym (cell u w)))
    ∙ sym (mapped (λ (x : Pair). x.left) pair (cells_in b.leaf.level s0 s1 s2)))

pub flux_parts_are_regions : FluxPartsAreRegions
flux_parts_are_regions b axis high o j right left next meets finer own =
    subst (λ (m : Mesh). IsRegionOf (record b { mesh = m })) (shaped_is b.layout b.mesh next.sound.layout) (of_layout_region b) axis high o j right left next meets finer own
