-- Where a block and its ghosts are nothing, the flux sums that are due to it are no part.
use Rattle.std.proofs.Common.{◌≡◌, ◌==◌, inl, inr, ℕ, zero, suc, ◌+◌, ◌-◌, ◌*◌, ◌/◌, ◌%◌, ◌<◌, ◌≤◌, Bool, true, false, ◌&&◌, cond, not, Some, List, [], ◌∷◌, length, refl, arith, ap, subst, sym, ◌∙◌, slice_index}
use Rattle.std.specs.List.{list_any, slice_index_or}
use Rattle.std.proofs.lemmas.Bool.{and_from, cases_lt, eq-eqb}
use Rattle.std.proofs.lemmas.List.{get_or_past, length-append}
use Rattle.std.proofs.lemmas.List.FromFn.{get_or-map-range_with_len}
use Rattle.std.proofs.lemmas.Nat.{mod-mul-add}
use Rattle.morton_order.specs.declared.space.Loc.{Loc}
use Rattle.morton_order.specs.Space.{child, child_number, factor, parts}
use Rattle.morton_order.specs.Neighbours.{across}
use Rattle.block_tree.proofs.Behinds.{number_of_child}
use Rattle.mesh_rules.specs.Due.{Exchange, flux_letters}
use Rattle.mesh_rules.specs.Faces.{Pair, seen_next}
use Rattle.mesh_rules.specs.Mesh.{Mesh, block_of, block_size, cells_along, is_inner, leaf_number, place_of, stored, totals_on}
use Rattle.mesh_rules.specs.Sums.{table}
use Rattle.mesh_laws.specs.PayLaws.{inwards, outwards}
use Rattle.mesh_laws.proofs.Pays.{nothing_from_nothing}
use Rattle.block_layout.specs.declared.layout.Layout.{Layout}
use Rattle.block_layout.specs.Indices.{IsWithin, added, count_of, index_of, number_of}
use Rattle.block_layout.specs.Layouts.{interior_len, len}
use Rattle.block_layout.specs.Faces.{face_number, face_of}
use Rattle.block_layout.specs.Regions.{Region, covers}
use Rattle.block_layout.proofs.Boxes.{index_below, index_number, number_bound}
use Rattle.block_geometry.specs.Blocks.{FieldBlock, IsAtSide, IsLayoutOf, cell_in, ghost_place}
use Rattle.block_geometry.specs.Contents.{HasOwnPairs, SeesAround, pair_of}
use Rattle.block_geometry.proofs.Cells.{block_of_cell_in, cell_inside}
use Rattle.block_geometry.proofs.Seen.{on_leaf}
use Rattle.ghost_laws.specs.Given.{IsBeside}
use Rattle.ghost_laws.specs.Layers.{across_index, on_block}
use Rattle.ghost_laws.specs.Refined.{LiesInChild, halves_of}
use Rattle.flux_correct.specs.Sums.{coarse_extents, flux_in, flux_part, flux_sums}
use Rattle.flux_correct.specs.Corrected.{covered}
use Rattle.flux_laws.specs.Corrected.{HaveOwnPairs}
use Rattle.correction_laws.specs.Replaced.{Covers, IsNextTo, IsReplaced, Lists, half_of, part_of}
use Rattle.correction_laws.proofs.Covered.{part_face, shaped}
use Rattle.correction_laws.proofs.Others.{AtSide}
use Rattle.correction_laws.proofs.Replaced.{replaced_gain_pairs}
use Rattle.flux_regions.proofs.Faces.{face_cell, face_cell_in, part_again}
use Rattle.letter_laws.specs.Sides.{side_part}
use Rattle.letter_laws.proofs.Behinds.{child_of, fine_met}
use Rattle.letter_laws.proofs.Boxes.{table_at}
use Rattle.upwind_fluxes.specs.declared.donor.Donor.{Donor}
use Rattle.upwind_fluxes.specs.declared.donor.Donor.TheVariants.{Below, Above}
use Rattle.cycle_kernels.specs.Blocks.{CycleMesh, block_count, leaf_at}
use Rattle.cycle_kernels.specs.Laws.{IsCycleMesh}
use Rattle.cycle_kernels.specs.Lists.{with_ghosts}
use Rattle.cycle_kernels.specs.Letters.{no_part, part_by, part_covered, same_letter}
use Rattle.cycle_kernels.specs.Pairs.{corrected_at, face_list, faces_corrected, first_sum, sum_given, sums_sent}
use Rattle.cycle_kernels.proofs.Tables.{AllZero, table_long, zero_here, zeros, zeros_by}
use Rattle.cycle_kernels.proofs.Zeros.{zero_list}
use Rattle.cycle_kernel_laws.specs.Shown.{HoldMesh, block_with, ghosts_from, mesh_with, pairs_from}
use Rattle.cycle_kernel_laws.proofs.Apart.{axis_three, sent_by_finer, used_here}
use Rattle.cycle_kernel_laws.proofs.Due.{IsFluxLink, IsLink, flux_link, leaf_here, numbered_leaf}
use Rattle.cycle_kernel_laws.proofs.Given.{added_covered, less_again}
use Rattle.cycle_kernel_laws.proofs.OwnPairs.{are_own_pairs, face_at}
use Rattle.cycle_kernel_laws.proofs.Sees.{block_is, ghosts_see, leaf_again, mesh_is}
use Rattle.cycle_kernel_laws.proofs.FineSides.{covered_within, fine_side, finer_sends, no_part_is}

-- a mesh that has the totals of lists by block and field
abbrev totals_of : CycleMesh → (ℕ → ℕ → List ℕ) → ℕ → List (List (List ℕ))
totals_of w mesh f = table (block_count w) (λ b. table (f + 1) (λ g. table (block_size w.mesh) (λ k. slice_index (mesh b g) k)))

place_in_block : (m : Mesh) (l : Loc) (q : List ℕ) → IsWithin m.cells q → place_of m (cell_in m l q) ≡ number_of m.cells q
place_in_block m l q w =
    ap (λ v. v + cells_along m 0 * ((l.l2 * cells_along m 1 + slice_index q 1) % cells_along m 1 + cells_along m 1 * ((l.l3 * cells_along m 2 + slice_index q 2) % cells_along m 2))) (mod-mul-add l.l1 (cells_along m 0) (slice_index q 0) w.along1)
    ∙ ap (λ v. slice_index q 0 + cells_along m 0 * (v + cells_along m 1 * ((l.l3 * cells_along m 2 + slice_index q 2) % cells_along m 2))) (mod-mul-add l.l2 (cells_along m 1) (slice_index q 1) w.along2)
    ∙ ap (λ v. slice_index q 0 + cells_along m 0 * (slice_index q 1 + cells_along m 1 * v)) (mod-mul-add l.l3 (cells_along m 2) (slice_index q 2) w.along3)

item_at : {X : Type 0} (n : ℕ) (g : ℕ → X) (k : ℕ) (d : X) → k < n → slice_index_or (table n g) k d ≡ g k
item_at n g k d few = get_or-map-range_with_len g 0 n k k d few (omega arith)

holds : (w : CycleMesh) (mesh : ℕ → ℕ → List ℕ) (f : ℕ) → IsCycleMesh w → HoldMesh w (totals_of w mesh f) f (λ b. mesh b f)
holds w mesh f is b i few inside =
    let m : Mesh = mesh_with w (totals_of w mesh f) in
    let within : IsWithin m.cells i = subst (λ (n : List ℕ). IsWithin n i) is.layout.cells inside in
    let number : number_of w.layout.cells i ≡ number_of m.cells i = ap (λ (n : List ℕ). number_of n i) is.layout.cells in
    let here : block_of m (cell_in m (leaf_at w b) i) ≡ leaf_at w b = block_of_cell_in m (leaf_at w b) i within in
    let leaf : leaf_number m (block_of m (cell_in m (leaf_at w b) i)) ≡ b = ap (leaf_number m) here ∙ leaf_again w.mesh b is.mesh few in
    let at : place_of m (cell_in m (leaf_at w b) i) ≡ number_of m.cells i = place_in_block m (leaf_at w b) i within in
    ap (slice_index (mesh b f)) number
    ∙ sym (table_at (block_size w.mesh) (λ k. slice_index (mesh b f) k) (number_of m.cells i) (number_bound m.cells i within))
    ∙ sym (ap (λ (v : List ℕ). slice_index v (number_of m.cells i)) (item_at (f + 1) (λ g. table (block_size w.mesh) (λ k. slice_index (mesh b g) k)) f [] (omega arith)))
    ∙ sym (ap (λ (v : List (List ℕ)). slice_index (slice_index_or v f []) (number_of m.cells i)) (item_at (block_count w) (λ b. table (f + 1) (λ g. table (block_size w.mesh) (λ k. slice_index (mesh b g) k))) b [] few))
    ∙ sym (ap (λ n. slice_index (totals_on m n f) (number_of m.cells i)) leaf)
    ∙ sym (ap (slice_index (totals_on m (leaf_number m (block_of m (cell_in m (leaf_at w b) i))) f)) at)

-- a pair of nothing
no_out : (high : Bool) (x : Pair) → outwards high x ≡ 0 → inwards high x ≡ 0 → (x.right ≡ 0) × (x.left ≡ 0)
no_out true x a b = (a, b)
no_out false x a b = (b, a)

-- the pairs of a block that is nothing, with ghosts that are nothing
pub no_pair_at : (w : CycleMesh) (totals : List (List (List ℕ))) (f b axis : ℕ) (high : Bool) (i cells : List ℕ) → IsCycleMesh w → b < block_count w → axis < w.layout.dims → IsWithin w.layout.cells i → IsAtSide w.layout axis high i →
    AllZero cells → SeesAround (block_with w totals f b) cells → stored (mesh_with w totals) f (cell_in (mesh_with w totals) (leaf_at w b) i) ≡ 0 →
    ((pair_of (block_with w totals f b) i axis high).right ≡ 0) × ((pair_of (block_with w totals f b) i axis high).left ≡ 0)
no_pair_at w totals f b axis high i cells is few used inside at none sees own =
    let t : FieldBlock = block_with w totals f b in
    let m : Mesh = mesh_with w totals in
    let sound = block_is w totals f b is few in
    let within : IsWithin m.cells i = subst (λ (n : List ℕ). IsWithin n i) is.layout.cells inside in
    let nothing = nothing_from_nothing w.settings m f (cell_in m (leaf_at w b) i) axis high is.denominator (mesh_is w totals is) (cell_inside m (leaf_at w b) i (leaf_here w.mesh b is.mesh few).inside within) (on_leaf t i sound inside) (subst (λ d. axis < d) is.layout.dims used) in
    let seen : seen_next w.settings m f (cell_in m (leaf_at w b) i) axis high ≡ 0 = sym (sees axis high used i inside at).next ∙ none (ghost_place w.layout axis high 0 i) in
    no_out high (pair_of t i axis high) (nothing.leaves own) (nothing.enters seen)

-- a list corrected by one letter has its sums
abbrev pub by_one : CycleMesh → Exchange → Donor → (Exchange → List ℕ) → List ℕ
by_one w x donor parts = face_list w.layout (corrected_at w x.to donor [] (x ∷ []) parts)

one_sum : (w : CycleMesh) (x : Exchange) (donor : Donor) (parts : Exchange → List ℕ) (u : List ℕ) → IsCycleMesh w → x.axis < w.mesh.shape.dims → IsWithin (coarse_extents w.layout x.axis) u →
    flux_in w.layout x.axis (faces_corrected w x) (by_one w x donor parts) u ≡ slice_index (parts x) (first_sum w.layout donor x.axis + number_of (coarse_extents w.layout x.axis) u)
one_sum w x donor parts u is used inside =
    let l : Layout = w.layout in
    let r : Region = faces_corrected w x in
    let v : List ℕ = added r.low u in
    let h = axis_three w x.axis is used in
    let test : (x.to == x.to && (x.axis == x.axis && covers r v)) ≡ true =
    and_from (x.to == x.to) (x.axis == x.axis && covers r v) (eq-eqb x.to x.to refl) (and_from (x.axis == x.axis) (covers r v) (eq-eqb x.axis x.axis refl) (added_covered r u inside)) in
    face_at l (corrected_at w x.to donor [] (x ∷ []) parts) x.axis v (used_here w x.axis is used) h (covered_within l x.axis x.high (part_covered w x) u h l.sound inside)
    ∙ ap (λ (t : Bool). cond t (sum_given w donor x (parts x) v) (corrected_at w x.to donor [] [] parts x.axis v)) test
    ∙ ap (λ (q : List ℕ). slice_index (parts x) (first_sum l donor x.axis + number_of (coarse_extents l x.axis) q)) (less_again r.low u)

-- the two names of the part of a side
pub same_part : (axis j : ℕ) → side_part axis j ≡ half_of axis j
same_part zero j = refl
same_part (suc zero) j = refl
same_part (suc (suc axis)) j = refl

-- a child from its halves
whole_child : (d j : ℕ) → 1 ≤ d → d ≤ 3 → j < parts d → slice_index (halves_of d j) 0 + 2 * slice_index (halves_of d j) 1 + 4 * slice_index (halves_of d j) 2 ≡ j
whole_child zero j least most few = absurd (omega arith)
whole_child (suc zero) j least most few = omega arith
whole_child (suc (suc zero)) j least most few = omega arith
whole_child (suc (suc (suc zero))) j least most few = omega arith
whole_child (suc (suc (suc (suc d)))) j least most few = absurd (omega arith)

shaped_is : (l : Layout) (m : Mesh) → IsLayoutOf m l → shaped l m ≡ m
shaped_is l m is =
    ap (λ d. record m { shape = record m.shape { dims = d }; cells = l.cells }) is.dims
    ∙ ap (λ (c : List ℕ). record m { cells = c }) is.cells

-- the cell whose face a sum of the part is about
pub record IsFaceCell (w : CycleMesh) (totals : List (List (List ℕ))) (f : ℕ) (x : Exchange) (j : ℕ) (u : List ℕ) : Type 0 where
  pub covers : Covers (block_with w totals f x.to) x.axis x.high j (face_cell w.layout x.axis x.high j u)
  pub at : face_number w.layout x.axis (added (covered w.layout x.axis x.high (half_of x.axis j)).low u) ≡ face_of w.layout (face_cell w.layout x.axis x.high j u) x.axis x.high

face_cell_is : (w : CycleMesh) (totals : List (List (List ℕ))) (f : ℕ) (x : Exchange) (j : ℕ) (u : List ℕ) → IsCycleMesh w → IsLink w x → AtSide w.layout x.axis x.high j → IsWithin (coarse_extents w.layout x.axis) u → IsFaceCell w totals f x j u
face_cell_is w totals f x j u is link side inside =
    let l : Layout = w.layout in
    let m : Mesh = mesh_with w totals in
    let b : FieldBlock = block_with w totals f x.to in
    let i : List ℕ = face_cell l x.axis x.high j u in
    let half = face_cell_in l m x.axis x.high j u side inside in
    let lies : LiesInChild m j (across_index m x.axis x.high 0 i) = subst (λ (v : Mesh). LiesInChild v j (across_index v x.axis x.high 0 i)) (shaped_is l m (record { dims = is.layout.dims; cells = is.layout.cells })) half.lies in
    let few : j < parts w.mesh.shape.dims = subst (λ d. j < parts d) is.layout.dims side.child in
    let beside : IsBeside b x.axis x.high i = record { sound = block_is w totals f x.to is link.few_to; used = side.used; within = half.within; at = half.at } in
    record {
      covers = record {
        beside = beside;
        child = ap (λ v. v + 2 * (slice_index (across_index m x.axis x.high 0 i) 1 / (cells_along m 1 / factor m.shape.dims 1)) + 4 * (slice_index (across_index m x.axis x.high 0 i) 2 / (cells_along m 2 / factor m.shape.dims 2))) lies.along1
            ∙ ap (λ v. slice_index (halves_of m.shape.dims j) 0 + 2 * v + 4 * (slice_index (across_index m x.axis x.high 0 i) 2 / (cells_along m 2 / factor m.shape.dims 2))) lies.along2
            ∙ ap (λ v. slice_index (halves_of m.shape.dims j) 0 + 2 * slice_index (halves_of m.shape.dims j) 1 + 4 * v) lies.along3
            ∙ whole_child w.mesh.shape.dims j is.mesh.shape.least is.mesh.shape.most few;
      };
      at = sym (ap (λ (v : List ℕ). face_number l x.axis (added (covered l x.axis x.high (half_of x.axis j)).low v)) (part_again l x.axis x.high j u side inside))
          ∙ ap (face_number l x.axis) (part_face l m x.axis x.high j i half);
    }

-- each sum of the part is nothing
record NoSums (l : Layout) (axis : ℕ) (part : List ℕ) : Type 0 where
  right : (u : List ℕ) → IsWithin (coarse_extents l axis) u → slice_index part (0 + number_of (coarse_extents l axis) u) ≡ 0
  left : (u : List ℕ) → IsWithin (coarse_extents l axis) u → slice_index part (count_of (coarse_extents l axis) + number_of (coarse_extents l axis) u) ≡ 0

no_numbers : (l : Layout) (axis : ℕ) (right left : List ℕ) (high : Bool) → NoSums l axis (flux_part l axis high right left) → flux_part l axis high right left ≡ zeros (count_of (coarse_extents l axis) + count_of (coarse_extents l axis))
no_numbers l axis right left high none = zeros_by part (n + n) long each
  where
    e : List ℕ
    e = coarse_extents l axis

    n : ℕ
    n = count_of (coarse_extents l axis)

    part : List ℕ
    part = flux_part l axis high right left

    long : length (flux_part l axis high right left) ≡ count_of (coarse_extents l axis) + count_of (coarse_extents l axis)
    long = length-append (flux_sums l axis high right) (flux_sums l axis high left) ∙ ap (λ v. v + length (flux_sums l axis high left)) (table_long _ _) ∙ ap (λ v. count_of (coarse_extents l axis) + v) (table_long _ _)

    each : AllZero (flux_part l axis high right left)
    each k = elim (cases_lt k (count_of (coarse_extents l axis))) [
      | inl few ↦ ap (slice_index (flux_part l axis high right left)) (let e : k ≡ 0 + number_of (coarse_extents l axis) (index_of (coarse_extents l axis) k) = sym (index_number (coarse_extents l axis) k) ∙ omega arith in e) ∙ none.right (index_of (coarse_extents l axis) k) (index_below (coarse_extents l axis) k few)
      | inr more ↦ later k more
    ]
      where
        later : (k : ℕ) → count_of (coarse_extents l axis) ≤ k → slice_index (flux_part l axis high right left) k ≡ 0
        later k more = elim (cases_lt (k - count_of (coarse_extents l axis)) (count_of (coarse_extents l axis))) [
          | inl few ↦
              let q : ℕ = k - count_of (coarse_extents l axis) in
              let at : k ≡ count_of (coarse_extents l axis) + number_of (coarse_extents l axis) (index_of (coarse_extents l axis) q) = let again = index_number (coarse_extents l axis) q in omega (arith, again) in
              ap (slice_index (flux_part l axis high right left)) at ∙ none.left (index_of (coarse_extents l axis) q) (index_below (coarse_extents l axis) q few)
          | inr past ↦ get_or_past (flux_part l axis high right left) k 0 (omega (arith, long))
        ]

-- the lists of all leaves
abbrev rights_of : CycleMesh → (ℕ → List ℕ) → ℕ → Loc → List ℕ
rights_of w lists f q = (pairs_from w lists (leaf_number w.mesh q) f).right

abbrev lefts_of : CycleMesh → (ℕ → List ℕ) → ℕ → Loc → List ℕ
lefts_of w lists f q = (pairs_from w lists (leaf_number w.mesh q) f).left

have_pairs : (w : CycleMesh) (totals : List (List (List ℕ))) (f b : ℕ) (lists : ℕ → List ℕ) → IsCycleMesh w → HoldMesh w totals f lists → HaveOwnPairs (block_with w totals f b) (rights_of w lists f) (lefts_of w lists f)
have_pairs w totals f b lists is hold q leaf =
    let at = numbered_leaf w.mesh q is.mesh leaf in
    subst (λ (v : Loc). HasOwnPairs (on_block (block_with w totals f b) v) (rights_of w lists f q) (lefts_of w lists f q)) at.is (are_own_pairs w totals f (leaf_number w.mesh q) lists is hold at.few)

-- a finer leaf behind a side of a block
pub record IsFinerAt (w : CycleMesh) (x : Exchange) (o : Loc) (j : ℕ) : Type 0 where
  pub link : IsLink w x
  pub meets : across w.mesh.shape (leaf_at w x.to) x.axis x.high ≡ Some o
  pub inner : is_inner w.mesh o ≡ true
  pub side : AtSide w.layout x.axis x.high j
  pub is : child w.mesh.shape.dims o j ≡ leaf_at w x.from
  pub part : part_covered w x ≡ half_of x.axis j

pub next_to : (w : CycleMesh) (totals : List (List (List ℕ))) (f : ℕ) (x : Exchange) (o : Loc) (j : ℕ) → IsCycleMesh w → IsFinerAt w x o j → IsNextTo (block_with w totals f x.to) x.axis x.high j
next_to w totals f x o j is at = record { sound = block_is w totals f x.to is at.link.few_to; used = at.side.used; child = subst (λ d. j < parts d) is.layout.dims at.side.child; half = at.side.half }

-- the lists that have its sums have the mesh's pairs at the faces that it covers
replaced_by_one : (w : CycleMesh) (totals : List (List (List ℕ))) (f : ℕ) (x : Exchange) (part : List ℕ) (o : Loc) (j : ℕ) → IsCycleMesh w → IsFinerAt w x o j →
    IsReplaced (block_with w totals f x.to) x.axis x.high j part (record { right = by_one w x Below (λ _. part); left = by_one w x Above (λ _. part) }) (record { right = by_one w x Below (λ _. part); left = by_one w x Above (λ _. part) })
replaced_by_one w totals f x part o j is at = record {
  rights = record {
    sums = λ u inside. subst (λ half. flux_in w.layout x.axis (covered w.layout x.axis x.high half) (by_one w x Below (λ _. part)) u ≡ slice_index part (0 + number_of (coarse_extents w.layout x.axis) u)) at.part (one_sum w x Below (λ _. part) u is at.link.used inside);
    others = λ n off. refl;
  };
  lefts = record {
    sums = λ u inside. subst (λ half. flux_in w.layout x.axis (covered w.layout x.axis x.high half) (by_one w x Above (λ _. part)) u ≡ slice_index part (count_of (coarse_extents w.layout x.axis) + number_of (coarse_extents w.layout x.axis) u)) at.part
        (one_sum w x Above (λ _. part) u is at.link.used inside);
    others = λ n off. refl;
  };
}

-- a block that is nothing, with ghosts that are nothing
record IsNothing (w : CycleMesh) (totals : List (List (List ℕ))) (f b : ℕ) (cells : List ℕ) : Type 0 where
  few : b < block_count w
  zero_cells : AllZero cells
  sees : SeesAround (block_with w totals f b) cells
  own : (i : List ℕ) → IsWithin w.layout.cells i → stored (mesh_with w totals) f (cell_in (mesh_with w totals) (leaf_at w b) i) ≡ 0

part_none : (w : CycleMesh) (totals : List (List (List ℕ))) (f : ℕ) (x : Exchange) (lists : ℕ → List ℕ) (cells : List ℕ) (o : Loc) (j : ℕ) → IsCycleMesh w → HoldMesh w totals f lists → IsFinerAt w x o j → IsNothing w totals f x.to cells →
    NoSums w.layout x.axis (part_of (block_with w totals f x.to) x.axis x.high (rights_of w lists f (child w.mesh.shape.dims o j)) (lefts_of w lists f (child w.mesh.shape.dims o j)))
part_none w totals f x lists cells o j is hold at none =
    let l : Layout = w.layout in
    let b : FieldBlock = block_with w totals f x.to in
    let part : List ℕ = part_of b x.axis x.high (rights_of w lists f (child w.mesh.shape.dims o j)) (lefts_of w lists f (child w.mesh.shape.dims o j)) in
    let new : Lists = record { right = by_one w x Below (λ _. part); left = by_one w x Above (λ _. part) } in
    let replaced = replaced_by_one w totals f x part o j is at in
    let gains = replaced_gain_pairs b x.axis x.high o j (rights_of w lists f) (lefts_of w lists f) new new (next_to w totals f x o j is at) at.meets at.inner (have_pairs w totals f x.to lists is hold) replaced in
    let no_pair : (u : List ℕ) → IsWithin (coarse_extents l x.axis) u →
    ((pair_of b (face_cell l x.axis x.high j u) x.axis x.high).right ≡ 0) × ((pair_of b (face_cell l x.axis x.high j u) x.axis x.high).left ≡ 0) =
    λ u inside.
    let beside = (face_cell_is w totals f x j u is at.link at.side inside).covers.beside in
    no_pair_at w totals f x.to x.axis x.high (face_cell l x.axis x.high j u) cells is none.few at.side.used beside.within beside.at none.zero_cells none.sees (none.own (face_cell l x.axis x.high j u) beside.within) in
    record {
      right = λ u inside.
          let cell = face_cell_is w totals f x j u is at.link at.side inside in
          let pair = gains.covered (face_cell l x.axis x.high j u) cell.covers in
          sym (replaced.rights.sums u inside) ∙ ap (slice_index new.right) cell.at ∙ pair.0 ∙ (no_pair u inside).0;
      left = λ u inside.
          let cell = face_cell_is w totals f x j u is at.link at.side inside in
          let pair = gains.covered (face_cell l x.axis x.high j u) cell.covers in
          sym (replaced.lefts.sums u inside) ∙ ap (slice_index new.left) cell.at ∙ pair.1 ∙ (no_pair u inside).1;
    }

-- the sender of a flux letter is one
pub record IsFiner (w : CycleMesh) (x : Exchange) : Type 0 where
  pub across_it : Loc
  pub number : ℕ
  pub at : IsFinerAt w x across_it number

pub finer_at : (w : CycleMesh) (x : Exchange) → IsCycleMesh w → IsFluxLink w x → IsFiner w x
finer_at w x is flux =
    let D : ℕ = w.mesh.shape.dims in
    let link = flux.link in
    let b : FieldBlock = block_with w [] 0 x.to in
    let side = fine_side w x is flux in
    let met = fine_met b x.axis x.high side.leaves side.behind_is in
    let c = child_of b x.axis x.high side.leaves (leaf_at w x.from) met side.among in
    let number : child_number D (leaf_at w x.from) ≡ c.j = ap (child_number D) (sym c.is) ∙ number_of_child D met.at c.j is.mesh.shape.most is.mesh.shape.least c.few in
    record {
      across_it = met.at;
      number = c.j;
      at = record {
        link = link;
        meets = met.meets;
        inner = met.inner_is;
        side = record { fit = w.layout.sound; used = used_here w x.axis is link.used; child = subst (λ d. c.j < parts d) (sym is.layout.dims) c.few; half = c.half };
        is = c.is;
        part = ap (λ how. part_by how w x) (sent_by_finer w x (finer_sends w x is flux)) ∙ ap (side_part x.axis) number ∙ same_part x.axis c.j;
      };
    }

part_of_sender : (w : CycleMesh) (x : Exchange) (lists : ℕ → List ℕ) (f : ℕ) (from : Loc) → leaf_number w.mesh from ≡ x.from →
    flux_part w.layout x.axis (not x.high) (rights_of w lists f from) (lefts_of w lists f from) ≡ flux_part w.layout x.axis (not x.high) (pairs_from w lists x.from f).right (pairs_from w lists x.from f).left
part_of_sender w x lists f from e = ap (λ n. flux_part w.layout x.axis (not x.high) (pairs_from w lists n f).right (pairs_from w lists n f).left) e

pub sums_of_none : (w : CycleMesh) (mesh : ℕ → ℕ → List ℕ) (f : ℕ) (x : Exchange) → IsCycleMesh w → mesh x.to f ≡ zeros (interior_len w.layout) → ghosts_from w (λ b. mesh b f) x.to f ≡ zeros (len w.layout) → list_any (same_letter x) (flux_letters w.mesh) ≡ true →
    sums_sent w x (pairs_from w (λ b. mesh b f) x.from f) ≡ no_part w x
sums_of_none w mesh f x is own ghosts due =
    let l : Layout = w.layout in
    let lists : ℕ → List ℕ = λ b. mesh b f in
    let totals : List (List (List ℕ)) = totals_of w mesh f in
    let flux = flux_link w x is.mesh due in
    let link = flux.link in
    let hold : HoldMesh w totals f lists = holds w mesh f is in
    let finer = finer_at w x is flux in
    let o : Loc = finer.across_it in
    let j : ℕ = finer.number in
    let from : Loc = child w.mesh.shape.dims o j in
    let cells : List ℕ = with_ghosts l (lists x.to) (ghosts_from w lists x.to f) in
    let zero_cells : AllZero cells = zero_list l (lists x.to) (ghosts_from w lists x.to f) (λ k. ap (λ (v : List ℕ). slice_index v k) own ∙ zero_here (interior_len l) k) (λ k. ap (λ (v : List ℕ). slice_index v k) ghosts ∙ zero_here (len l) k) in
    let nothing : IsNothing w totals f x.to cells = record {
      few = link.few_to;
      zero_cells = zero_cells;
      sees = ghosts_see w totals f x.to lists is hold link.few_to;
      own = λ i inside. sym (hold x.to i link.few_to inside) ∙ ap (λ (v : List ℕ). slice_index v (number_of l.cells i)) own ∙ zero_here (interior_len l) (number_of l.cells i);
    } in
    let number : leaf_number w.mesh from ≡ x.from = ap (leaf_number w.mesh) finer.at.is ∙ leaf_again w.mesh x.from is.mesh link.few_from in
    let none : NoSums l x.axis (flux_part l x.axis (not x.high) (rights_of w lists f from) (lefts_of w lists f from)) = part_none w totals f x lists cells o j is hold finer.at nothing in
    ap (λ (t : Bool). cond t (flux_part l x.axis (not x.high) (pairs_from w lists x.from f).right (pairs_from w lists x.from f).left) (no_part w x)) due
    ∙ sym (part_of_sender w x lists f from number)
    ∙ no_numbers l x.axis (rights_of w lists f from) (lefts_of w lists f from) (not x.high) none
    ∙ no_part_is w x is flux
