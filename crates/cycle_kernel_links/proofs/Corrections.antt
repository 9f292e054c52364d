-- Pairs in whose place the sums of finer leaves were put.
use Rattle.std.proofs.Common.{◌≡◌, ◌==◌, inl, inr, ℕ, ◌+◌, ◌*◌, ◌/◌, ◌<◌, ◌≤◌, Bool, true, false, ◌&&◌, cond, nat_lt, List, [], ◌∷◌, Contains, refl, arith, ap, subst, sym, ◌∙◌, slice_index}
use Rattle.std.specs.List.{list_any}
use Rattle.std.proofs.lemmas.Bool.{and_parts, eqb-true, eq-eqb, false≢true}
use Rattle.morton_order.specs.declared.space.Loc.{Loc}
use Rattle.morton_order.specs.Space.{child_number, factor}
use Rattle.morton_order.proofs.Any.{or_cases, or_left, or_right}
use Rattle.block_tree.specs.Behind.{Behind, behind, fine}
use Rattle.mesh_rules.specs.Due.{Exchange, flux_letters}
use Rattle.mesh_rules.specs.Mesh.{is_inner}
use Rattle.block_layout.specs.declared.layout.Layout.{Layout}
use Rattle.block_layout.specs.Indices.{IsWithin, added}
use Rattle.block_layout.specs.Faces.{face_extents, face_number}
use Rattle.block_layout.specs.Regions.{Region, beside_part, covers, half_along, part_extent, part_low}
use Rattle.block_layout.proofs.FaceNumbers.{one_axis, one_index}
use Rattle.block_geometry.specs.Blocks.{FieldBlock}
use Rattle.ghost_laws.proofs.Sizes.{sized}
use Rattle.restrict_prolong.proofs.Halves.{same_three}
use Rattle.flux_correct.specs.Sums.{coarse_extents, side_faces}
use Rattle.flux_correct.specs.Corrected.{covered}
use Rattle.letter_laws.specs.Sides.{side_part}
use Rattle.letter_laws.proofs.Along.{each_axis, with_at}
use Rattle.letter_laws.proofs.Spans.{size_at}
use Rattle.upwind_fluxes.specs.declared.donor.Donor.{Donor}
use Rattle.upwind_fluxes.specs.declared.donor.Donor.TheVariants.{Below, Above}
use Rattle.cycle_kernels.specs.Blocks.{CycleMesh, leaf_at}
use Rattle.cycle_kernels.specs.Laws.{IsCycleMesh}
use Rattle.cycle_kernels.specs.Lists.{less}
use Rattle.cycle_kernels.specs.Letters.{part_by, part_covered, same_letter}
use Rattle.cycle_kernels.specs.Pairs.{corrected_at, corrected_by, face_list, faces_corrected, sum_given}
use Rattle.cycle_kernels.proofs.Letters.{letter_by, letter_same, same_letter_is}
use Rattle.cycle_kernels.proofs.Zeros.{same_pairs}
use Rattle.cycle_kernel_laws.proofs.Apart.{InAlong, Inside, axis_three, digit_below, inside_of, off_axis, on_axis, one_behind, one_half, sent_by_finer, used_here}
use Rattle.cycle_kernel_laws.proofs.Due.{IsFluxLink, flux_link, one_leaf}
use Rattle.cycle_kernel_laws.proofs.Given.{less_within, added_covered, three}
use Rattle.cycle_kernel_laws.proofs.Once.{block_on, side_of}
use Rattle.cycle_kernel_laws.proofs.FineSides.{covered_within, fine_side, finer_sends}
use Rattle.cycle_kernel_links.specs.Pairs.{AreAllReplaced, IsFluxDueTo, IsReplacedBy, PairsStay, ReplacedAreCorrected}
use Rattle.cycle_kernel_links.proofs.Fluxes.{one_list}
use Rattle.cycle_kernel_links.proofs.Lists.{added_less}

-- a face of a part of a side, along each axis
nothing_low : (k : ℕ) → k < 3 → slice_index (0 ∷ 0 ∷ 0 ∷ []) k ≡ 0
nothing_low = each_axis (λ k. slice_index (0 ∷ 0 ∷ 0 ∷ []) k ≡ 0) refl refl refl

face_along : (l : Layout) (axis : ℕ) (high : Bool) (half : ℕ) (i : List ℕ) (k : ℕ) → axis < 3 → k < 3 → Inside (covered l axis high half) i →
    InAlong (cond (k == axis) (cond high (slice_index l.cells axis) 0) 0 + cond (k == axis) 0 (half_along l.dims axis half k * (cond (k == axis) 1 (slice_index l.cells k) / 2)))
    (cond (k == axis) (cond (k == axis) 1 (slice_index l.cells k)) (cond (k == axis) 1 (slice_index l.cells k) / factor l.dims k)) (slice_index i k)
face_along l axis high half i k h g inside =
    let r : Region = side_faces l axis high in
    let low : slice_index (beside_part l axis half r).low k ≡ part_low l axis half r k = each_axis (λ k. slice_index (beside_part l axis half r).low k ≡ part_low l axis half r k) refl refl refl k g in
    let extent : slice_index (beside_part l axis half r).extents k ≡ part_extent l axis r k = each_axis (λ k. slice_index (beside_part l axis half r).extents k ≡ part_extent l axis r k) refl refl refl k g in
    let size : slice_index r.extents k ≡ cond (k == axis) 1 (slice_index l.cells k) = with_at axis 1 k l.cells h g in
    let start : slice_index r.low k ≡ cond (k == axis) (cond high (slice_index l.cells axis) 0) 0 = with_at axis (cond high (slice_index l.cells axis) 0) k (0 ∷ 0 ∷ 0 ∷ []) h g ∙ ap (λ v. cond (k == axis) (cond high (slice_index l.cells axis) 0) v) (nothing_low k g) in
    subst (λ v. InAlong (v + cond (k == axis) 0 (half_along l.dims axis half k * (cond (k == axis) 1 (slice_index l.cells k) / 2))) (cond (k == axis) (cond (k == axis) 1 (slice_index l.cells k)) (cond (k == axis) 1 (slice_index l.cells k) / factor l.dims k)) (slice_index i k)) start
    (subst (λ v. InAlong (slice_index r.low k + cond (k == axis) 0 (half_along l.dims axis half k * (v / 2))) (cond (k == axis) v (v / factor l.dims k)) (slice_index i k)) size
    (subst (λ v. InAlong v (part_extent l axis r k) (slice_index i k)) low
    (subst (λ v. InAlong (slice_index (beside_part l axis half r).low k) v (slice_index i k)) extent (inside k g))))

face_half : (l : Layout) (axis : ℕ) (high : Bool) (half : ℕ) (i : List ℕ) (k : ℕ) → axis < 3 → k < 3 → ¬ (k ≡ axis) → Inside (covered l axis high half) i → InAlong (0 + half_along l.dims axis half k * (slice_index l.cells k / 2)) (slice_index l.cells k / factor l.dims k) (slice_index i k)
face_half l axis high half i k h g off inside =
    off_axis k axis (λ (t : Bool). InAlong (cond t (cond high (slice_index l.cells axis) 0) 0 + cond t 0 (half_along l.dims axis half k * (cond t 1 (slice_index l.cells k) / 2)))
    (cond t (cond t 1 (slice_index l.cells k)) (cond t 1 (slice_index l.cells k) / factor l.dims k)) (slice_index i k)) off (face_along l axis high half i k h g inside)

face_end : (l : Layout) (axis : ℕ) (high : Bool) (half : ℕ) (i : List ℕ) → axis < 3 → Inside (covered l axis high half) i → InAlong (cond high (slice_index l.cells axis) 0 + 0) 1 (slice_index i axis)
face_end l axis high half i h inside =
    on_axis axis (λ (t : Bool). InAlong (cond t (cond high (slice_index l.cells axis) 0) 0 + cond t 0 (half_along l.dims axis half axis * (cond t 1 (slice_index l.cells axis) / 2)))
    (cond t (cond t 1 (slice_index l.cells axis)) (cond t 1 (slice_index l.cells axis) / factor l.dims axis)) (slice_index i axis)) (face_along l axis high half i axis h h inside)

one_end : (n x : ℕ) (high end : Bool) → 1 ≤ n → InAlong (cond high n 0 + 0) 1 x → InAlong (cond end n 0 + 0) 1 x → high ≡ end
one_end n x true true some a b = refl
one_end n x true false some a b = let c = a.least in let d = b.below in absurd (omega (arith, c, d))
one_end n x false true some a b = let c = b.least in let d = a.below in absurd (omega (arith, c, d))
one_end n x false false some a b = refl

-- the part that a letter is about
part_is : (w : CycleMesh) (x : Exchange) → IsCycleMesh w → IsFluxLink w x → part_covered w x ≡ side_part x.axis (child_number w.mesh.shape.dims (leaf_at w x.from))
part_is w x is flux = ap (λ how. part_by how w x) (sent_by_finer w x (finer_sends w x is flux))

finer_part : (w : CycleMesh) (x : Exchange) (i : List ℕ) → IsCycleMesh w → IsFluxLink w x → covers (faces_corrected w x) i ≡ true → Inside (covered w.layout x.axis x.high (side_part x.axis (child_number w.mesh.shape.dims (leaf_at w x.from)))) i
finer_part w x i is flux c = inside_of (covered w.layout x.axis x.high (side_part x.axis (child_number w.mesh.shape.dims (leaf_at w x.from)))) i (subst (λ half. covers (covered w.layout x.axis x.high half) i ≡ true) (part_is w x is flux) c)

-- two letters to one leaf that are about one face are one
pub faces_apart : (w : CycleMesh) (b : ℕ) (x y : Exchange) (i : List ℕ) → IsCycleMesh w → IsFluxDueTo w b x → IsFluxDueTo w b y → x.axis ≡ y.axis → covers (faces_corrected w x) i ≡ true → covers (faces_corrected w y) i ≡ true → x ≡ y
faces_apart w b x y i is a c axis p q =
    let l : Layout = w.layout in
    let D : ℕ = w.mesh.shape.dims in
    let fx = flux_link w x is.mesh a.due in
    let fy = flux_link w y is.mesh c.due in
    let to : x.to ≡ y.to = a.is_to ∙ sym c.is_to in
    let h = axis_three w x.axis is fx.link.used in
    let u = finer_part w x i is fx p in
    let v' = finer_part w y i is fy q in
    let v : Inside (covered l x.axis y.high (side_part x.axis (child_number D (leaf_at w y.from)))) i = subst (λ n. Inside (covered l n y.high (side_part n (child_number D (leaf_at w y.from)))) i) (sym axis) v' in
    let some : 1 ≤ slice_index l.cells x.axis = (size_at l x.axis h).least in
    let high : x.high ≡ y.high = one_end (slice_index l.cells x.axis) (slice_index i x.axis) x.high y.high some (face_end l x.axis x.high (side_part x.axis (child_number D (leaf_at w x.from))) i h u) (face_end l x.axis y.high (side_part x.axis (child_number D (leaf_at w y.from))) i h v) in
    let t : FieldBlock = block_on w 0 (leaf_at w x.to) in
    let here = fine_side w x is fx in
    let there = fine_side w y is fy in
    let behind_at : ℕ → ℕ → Bool → Behind = λ n k s. behind w.mesh.shape (is_inner w.mesh) (leaf_at w n) k s in
    let same_behind : fine here.leaves ≡ fine there.leaves = sym here.behind_is ∙ ap (λ n. behind_at n x.axis x.high) to ∙ ap (λ n. behind_at y.to n x.high) axis ∙ ap (λ (s : Bool). behind_at y.to y.axis s) high ∙ there.behind_is in
    let leaves : here.leaves ≡ there.leaves = fine_is here.leaves there.leaves same_behind in
    let also = subst (λ (os : List Loc). Contains os (leaf_at w y.from)) (sym leaves) there.among in
    let one : leaf_at w x.from ≡ leaf_at w y.from =
    one_behind t x.axis x.high here.leaves (leaf_at w x.from) (leaf_at w y.from) (side_of w 0 (leaf_at w x.to) x.axis is fx.link.to_leaf fx.link.used) h here.behind_is here.among also (λ k g off.
    one_half (nat_lt k l.dims) (slice_index l.cells k) (half_along l.dims x.axis (side_part x.axis (child_number D (leaf_at w x.from))) k) (half_along l.dims x.axis (side_part x.axis (child_number D (leaf_at w y.from))) k) 0 (slice_index i k)
    (sized l.dims k (slice_index l.cells k) (size_at l k g)) (digit_below (nat_lt k l.dims) _) (digit_below (nat_lt k l.dims) _) (face_half l x.axis x.high (side_part x.axis (child_number D (leaf_at w x.from))) i k h g off u)
    (face_half l x.axis y.high (side_part x.axis (child_number D (leaf_at w y.from))) i k h g off v)) in
    letter_by x y (one_leaf w.mesh x.from y.from is.mesh fx.link.few_from fy.link.few_from one) to axis high
  where
    fine_is : (os qs : List Loc) → fine os ≡ fine qs → os ≡ qs
    fine_is os qs e = cc

-- what a letter gives at a face
sum_at : (w : CycleMesh) (donor : Donor) (x : Exchange) (part list : List ℕ) (i : List ℕ) → IsReplacedBy w donor x part list → covers (faces_corrected w x) i ≡ true → slice_index list (face_number w.layout x.axis i) ≡ sum_given w donor x part i
sum_at w donor x part list i has c =
    let l : Layout = w.layout in
    let r : Region = faces_corrected w x in
    let inside = inside_of r i c in
    sym (ap (λ (v : List ℕ). slice_index list (face_number l x.axis v)) (added_less r.low i (λ k g. (inside k g).least)))
    ∙ has (less i r.low) (less_within r i inside)

and_is : (a b : Bool) → a ≡ true → (a && b) ≡ false → b ≡ false
and_is true b e h = h
and_is false b e h = absurd (false≢true e)

letters_correct : (w : CycleMesh) (b : ℕ) (donor : Donor) (parts : Exchange → List ℕ) (old new : List ℕ) (axis : ℕ) (i : List ℕ) (xs : List Exchange) →
    ((x : Exchange) → list_any (same_letter x) xs ≡ true → x.to ≡ b → IsReplacedBy w donor x (parts x) new) →
    (((x : Exchange) → list_any (same_letter x) xs ≡ true → x.to ≡ b → x.axis ≡ axis → covers (faces_corrected w x) i ≡ false) → slice_index new (face_number w.layout axis i) ≡ slice_index old (face_number w.layout axis i)) →
    slice_index new (face_number w.layout axis i) ≡ corrected_at w b donor old xs parts axis (three i)
letters_correct w b donor parts old new axis i [] given none = none (λ x due to along. absurd (false≢true due))
letters_correct w b donor parts old new axis i (y ∷ xs) given none =
    by (y.to == b && (y.axis == axis && covers (faces_corrected w y) i)) refl
    (λ off. letters_correct w b donor parts old new axis i xs (λ x due to. given x (or_right (same_letter x y) (list_any (same_letter x) xs) due) to)
    (λ rest. none (λ x due to along. either x due to along off rest)))
  where
    by : (t : Bool) → (y.to == b && (y.axis == axis && covers (faces_corrected w y) i)) ≡ t → (t ≡ false → slice_index new (face_number w.layout axis i) ≡ corrected_at w b donor old xs parts axis (three i)) →
        slice_index new (face_number w.layout axis i) ≡ cond t (sum_given w donor y (parts y) (three i)) (corrected_at w b donor old xs parts axis (three i))
    by true e rest =
        let p = and_parts (y.to == b) (y.axis == axis && covers (faces_corrected w y) i) e in
        let q = and_parts (y.axis == axis) (covers (faces_corrected w y) i) p.1 in
        sym (ap (λ k. slice_index new (face_number w.layout k i)) (eqb-true y.axis axis q.0))
        ∙ sum_at w donor y (parts y) new i (given y (or_left (same_letter y y) (list_any (same_letter y) xs) (letter_same y)) (eqb-true y.to b p.0)) q.1
    by false e rest = rest refl

    either : (x : Exchange) → list_any (same_letter x) (y ∷ xs) ≡ true → x.to ≡ b → x.axis ≡ axis → (y.to == b && (y.axis == axis && covers (faces_corrected w y) i)) ≡ false →
        ((x : Exchange) → list_any (same_letter x) xs ≡ true → x.to ≡ b → x.axis ≡ axis → covers (faces_corrected w x) i ≡ false) → covers (faces_corrected w x) i ≡ false
    either x due to along off rest = elim (or_cases (same_letter x y) (list_any (same_letter x) xs) due) [
      | inl here ↦
          let is : x ≡ y = same_letter_is x y here in
          ap (λ (z : Exchange). covers (faces_corrected w z) i) is
          ∙ and_is (y.axis == axis) (covers (faces_corrected w y) i) (eq-eqb y.axis axis (sym (ap (λ (z : Exchange). z.axis) is) ∙ along))
          (and_is (y.to == b) (y.axis == axis && covers (faces_corrected w y) i) (eq-eqb y.to b (sym (ap (λ (z : Exchange). z.to) is) ∙ to)) off)
      | inr later ↦ rest x later to along
    ]

list_corrected : (w : CycleMesh) (b : ℕ) (donor : Donor) (parts : Exchange → List ℕ) (old new : List ℕ) → AreAllReplaced w b donor parts old new → face_list w.layout (corrected_at w b donor old (flux_letters w.mesh) parts) ≡ new
list_corrected w b donor parts old new all =
    one_list w.layout new (corrected_at w b donor old (flux_letters w.mesh) parts) all.long (λ axis i used h inside.
    letters_correct w b donor parts old new axis i (flux_letters w.mesh) (λ x due to. all.given x (record { due = due; is_to = to }))
    (λ off. all.others axis i used inside (λ x due along. off x due.due due.is_to along)))

pub replaced_are_corrected : ReplacedAreCorrected
replaced_are_corrected w b parts old new is rights lefts =
    same_pairs (corrected_by w b old parts) new.right new.left (list_corrected w b Below parts old.right new.right rights) (list_corrected w b Above parts old.left new.left lefts)

-- what stays
part_within : (w : CycleMesh) (b : ℕ) (x : Exchange) (i : List ℕ) → IsCycleMesh w → IsFluxDueTo w b x → IsWithin (coarse_extents w.layout x.axis) i → IsWithin (face_extents w.layout x.axis) (added (faces_corrected w x).low i)
part_within w b x i is a inside = covered_within w.layout x.axis x.high (part_covered w x) i (axis_three w x.axis is (flux_link w x is.mesh a.due).link.used) w.layout.sound inside

in_use : (w : CycleMesh) (b : ℕ) (x : Exchange) → IsCycleMesh w → IsFluxDueTo w b x → x.axis < w.layout.dims
in_use w b x is a = used_here w x.axis is (flux_link w x is.mesh a.due).link.used

-- a face of a number is covered where that of the same number is
covers_same : (l : Layout) (r : Region) (axis other : ℕ) (i j : List ℕ) → axis < l.dims → other < l.dims → IsWithin (face_extents l axis) i → IsWithin (face_extents l other) j → face_number l axis i ≡ face_number l other j → covers r j ≡ true → covers r i ≡ true
covers_same l r axis other i j used also a b e c =
    let along : axis ≡ other = one_axis l axis other i j l.sound used also a b e in
    let here : IsWithin (face_extents l axis) j = subst (λ k. IsWithin (face_extents l k) j) (sym along) b in
    let same = one_index l axis i j l.sound used a here (e ∙ ap (λ k. face_number l k j) (sym along)) in
    let three_same : three i ≡ three j = same_three (slice_index i 0) (slice_index i 1) (slice_index i 2) (slice_index j 0) (slice_index j 1) (slice_index j 2) same.along1 same.along2 same.along3 in
    ap (λ (v : List ℕ). covers r v) three_same ∙ c

pub pairs_stay : PairsStay
pairs_stay = record {
  here = λ w donor x part old new is. is.sums;
  letters = λ w b donor x y part other old new is a c differ put has i inside.
      let l : Layout = w.layout in
      let p = part_within w b x i is a inside in
      put.others (face_number l x.axis (added (faces_corrected w x).low i)) (λ j within e.
      let q = part_within w b y j is c within in
      let along : x.axis ≡ y.axis = one_axis l x.axis y.axis (added (faces_corrected w x).low i) (added (faces_corrected w y).low j) l.sound (in_use w b x is a) (in_use w b y is c) p q e in
      differ (faces_apart w b x y (added (faces_corrected w x).low i) is a c along (added_covered (faces_corrected w x) i inside)
      (covers_same l (faces_corrected w y) x.axis y.axis (added (faces_corrected w x).low i) (added (faces_corrected w y).low j) (in_use w b x is a) (in_use w b y is c) p q e (added_covered (faces_corrected w y) j within))))
      ∙ has i inside;
  others = λ w b donor y axis other old new i is c used inside own put.
      let l : Layout = w.layout in
      put.others (face_number l axis i) (λ j within e.
      let q = part_within w b y j is c within in
      let along : axis ≡ y.axis = one_axis l axis y.axis i (added (faces_corrected w y).low j) l.sound used (in_use w b y is c) inside q e in
      false≢true (sym (own y c (sym along)) ∙ covers_same l (faces_corrected w y) axis y.axis i (added (faces_corrected w y).low j) used (in_use w b y is c) inside q e (added_covered (faces_corrected w y) j within)));
}
