-- What passes the faces of a cell along an axis, where sides may be closed.
use Rattle.std.proofs.Common.{◌≡◌, ◌==◌, ◌||◌, ◌&&◌, ◌⊎◌, ℕ, zero, suc, ◌+◌, ◌-◌, ◌<◌, ◌≤◌, ◌^◌, Bool, true, false, cond, List, length, slice_index, sym, ◌∙◌, ap, subst, refl, arith, inl, inr, All}
use Rattle.std.proofs.lemmas.Bool.{cases_lt}
use Rattle.std.proofs.lemmas.Bool.Decides.{nat_tests}
use Rattle.mesh_num.specs.Portion.{portion}
use Rattle.block_layout.specs.declared.layout.Layout.{Layout}
use Rattle.block_layout.specs.Sizes.{IsLayout}
use Rattle.block_layout.specs.Indices.{IsWithin}
use Rattle.block_layout.specs.Layouts.{cells_along, len, place, widths}
use Rattle.block_layout.proofs.Boxes.{number_bound}
use Rattle.block_layout.proofs.InBlock.{two_layers}
use Rattle.upwind_fluxes.specs.declared.donor.Donor.{Donor}
use Rattle.upwind_fluxes.specs.declared.donor.Donor.TheVariants.{Below, Above}
use Rattle.upwind_fluxes.specs.Beside.{beside_face}
use Rattle.upwind_fluxes.specs.Fluxes.{donor_total, is_closed, is_closed_side}
use Rattle.transport_kernel.specs.Update.{face_beside, total_at}
use Rattle.fused_stage.specs.Layers.{AxisPass, CanPassLayers, HasLayers, IsInLayers, after_axis, begun, end_open, first_open, gained, lost, to_left, to_right}

pub wide : (l : Layout) (axis : ℕ) → IsLayout l.dims l.cells → axis < l.dims → 4 ≤ cells_along l axis
wide l zero s u = s.cells1.wide u
wide l (suc zero) s u = s.cells2.wide u
wide l (suc (suc zero)) s u = s.cells3.wide u
wide l (suc (suc (suc a))) s u = absurd (omega (arith, s.most))

-- the cells beside a face of an interior cell are in the list
at_most_one : (high : Bool) → cond high 1 0 ≤ 1
at_most_one true = omega arith
at_most_one false = omega arith

beside_within : (l : Layout) (axis : ℕ) (donor : Donor) (high : Bool) (i : List ℕ) → IsLayout l.dims l.cells → axis < l.dims → IsWithin l.cells i → IsWithin (widths l) (beside_face l axis donor (face_beside i axis high))
beside_within l zero donor high i s u w = record { along1 = omega (arith, two_layers l 0 u, w.along1, at_most_one high); along2 = omega (arith, w.along2); along3 = omega (arith, w.along3) }
beside_within l (suc zero) donor high i s u w = record { along1 = omega (arith, w.along1); along2 = omega (arith, two_layers l 1 u, w.along2, at_most_one high); along3 = omega (arith, w.along3) }
beside_within l (suc (suc zero)) donor high i s u w = record { along1 = omega (arith, w.along1); along2 = omega (arith, w.along2); along3 = omega (arith, two_layers l 2 u, w.along3, at_most_one high) }
beside_within l (suc (suc (suc a))) donor high i s u w = absurd (omega (arith, s.most))

pub donor_bound : (P : ℕ → Type 0) (l : Layout) (axis : ℕ) (donor : Donor) (high : Bool) (cells i : List ℕ) → IsLayout l.dims l.cells → axis < l.dims → length cells ≡ len l → IsWithin l.cells i → All P cells
    → P (donor_total l donor cells axis (face_beside i axis high))
donor_bound P l axis donor high cells i s u e w all =
    all (place l (beside_face l axis donor (face_beside i axis high))) 0
    (subst (λ (n : ℕ). place l (beside_face l axis donor (face_beside i axis high)) < n) (sym e) (number_bound (widths l) (beside_face l axis donor (face_beside i axis high)) (beside_within l axis donor high i s u w)))

-- whether a face of a cell is closed
at_face : (i : List ℕ) (axis : ℕ) (high : Bool) → axis < 3 → slice_index (face_beside i axis high) axis ≡ slice_index i axis + cond high 1 0
at_face i zero high u = refl
at_face i (suc zero) high u = refl
at_face i (suc (suc zero)) high u = refl
at_face i (suc (suc (suc a))) high u = absurd (omega arith)

test_open : (a b : Bool) (p n : ℕ) → (a ≡ true → 0 < p) → (b ≡ true → p < n) → ((a && (p == 0)) || (b && (p == n))) ≡ false
test_open true true p n f g = let u = f refl in let w = g refl in grind (arith, nat_tests)
test_open true false p n f g = let u = f refl in grind (arith, nat_tests)
test_open false true p n f g = let w = g refl in grind (arith, nat_tests)
test_open false false p n f g = refl

test_low : (a b : Bool) (p n : ℕ) → a ≡ true → p ≡ 0 → ((a && (p == 0)) || (b && (p == n))) ≡ true
test_low true b p n e h = grind (arith, nat_tests)
test_low false b p n e h = grind (arith, nat_tests)

test_high : (a b : Bool) (p n : ℕ) → b ≡ true → p ≡ n → ((a && (p == 0)) || (b && (p == n))) ≡ true
test_high true true p n e h = grind (arith, nat_tests)
test_high false true p n e h = grind (arith, nat_tests)
test_high a false p n e h = grind (arith, nat_tests)

open_face : (l : Layout) (closed : List Bool) (axis : ℕ) (high : Bool) (i : List ℕ) → axis < 3
    → (is_closed_side closed axis false ≡ true → 0 < slice_index i axis + cond high 1 0) → (is_closed_side closed axis true ≡ true → slice_index i axis + cond high 1 0 < cells_along l axis)
    → is_closed l closed axis (face_beside i axis high) ≡ false
open_face l closed axis high i u f g =
    subst (λ (p : ℕ). ((is_closed_side closed axis false && (p == 0)) || (is_closed_side closed axis true && (p == cells_along l axis))) ≡ false) (sym (at_face i axis high u))
    (test_open (is_closed_side closed axis false) (is_closed_side closed axis true) (slice_index i axis + cond high 1 0) (cells_along l axis) f g)

low_face : (l : Layout) (closed : List Bool) (axis : ℕ) (high : Bool) (i : List ℕ) → axis < 3 → is_closed_side closed axis false ≡ true → slice_index i axis + cond high 1 0 ≡ 0 → is_closed l closed axis (face_beside i axis high) ≡ true
low_face l closed axis high i u a e =
    subst (λ (p : ℕ). ((is_closed_side closed axis false && (p == 0)) || (is_closed_side closed axis true && (p == cells_along l axis))) ≡ true) (sym (at_face i axis high u))
    (test_low (is_closed_side closed axis false) (is_closed_side closed axis true) (slice_index i axis + cond high 1 0) (cells_along l axis) a e)

high_face : (l : Layout) (closed : List Bool) (axis : ℕ) (high : Bool) (i : List ℕ) → axis < 3 → is_closed_side closed axis true ≡ true → slice_index i axis + cond high 1 0 ≡ cells_along l axis
    → is_closed l closed axis (face_beside i axis high) ≡ true
high_face l closed axis high i u b e =
    subst (λ (p : ℕ). ((is_closed_side closed axis false && (p == 0)) || (is_closed_side closed axis true && (p == cells_along l axis))) ≡ true) (sym (at_face i axis high u))
    (test_high (is_closed_side closed axis false) (is_closed_side closed axis true) (slice_index i axis + cond high 1 0) (cells_along l axis) b e)

open_flux : (b : Bool) (q c d : ℕ) → b ≡ false → cond b 0 (portion q c d) ≡ portion q c d
open_flux b q c d e = ap (λ (v : Bool). cond v 0 (portion q c d)) e

shut_flux : (b : Bool) (q q' c d : ℕ) → b ≡ true → cond b 0 (portion q c d) ≡ portion q' 0 1
shut_flux b q q' c d e = ap (λ (v : Bool). cond v 0 (portion q c d)) e ∙ nothing q'
  where
    nothing : (q : ℕ) → 0 ≡ portion q 0 1
    nothing q = omega arith

-- what passes the two faces of a cell: in from below and from above, out to below and to above
pub record PassedAre (x : AxisPass) (i : List ℕ) (a b c d : ℕ) : Type 0 where
  pub from_below : to_right x (face_beside i x.axis false) ≡ a
  pub from_above : to_left x (face_beside i x.axis true) ≡ b
  pub to_below : to_left x (face_beside i x.axis false) ≡ c
  pub to_above : to_right x (face_beside i x.axis true) ≡ d

pub open_cell : (x : AxisPass) (i : List ℕ) → IsLayout x.layout.dims x.layout.cells → x.axis < x.layout.dims → IsInLayers x.layout x.axis (first_open x.closed x.axis) (end_open x.layout x.closed x.axis) i
    → PassedAre x i (portion (donor_total x.layout Below x.cells x.axis (face_beside i x.axis false)) x.right x.right_denominator) (portion (donor_total x.layout Above x.cells x.axis (face_beside i x.axis true)) x.left x.left_denominator)
    (portion (donor_total x.layout Above x.cells x.axis (face_beside i x.axis false)) x.left x.left_denominator) (portion (donor_total x.layout Below x.cells x.axis (face_beside i x.axis true)) x.right x.right_denominator)
open_cell x i s u w = record {
  from_below = open_flux _ _ x.right x.right_denominator low;
  from_above = open_flux _ _ x.left x.left_denominator high;
  to_below = open_flux _ _ x.left x.left_denominator low;
  to_above = open_flux _ _ x.right x.right_denominator high;
}
  where
    three : x.axis < 3
    three = omega (arith, s.most)

    above_low : (a : Bool) (k : ℕ) → cond a 1 0 ≤ k → a ≡ true → 0 < k + 0
    above_low a k h e = let t : 1 ≤ k = subst (λ (v : Bool). cond v 1 0 ≤ k) e h in omega (arith, t)

    below_high : (b : Bool) (k n : ℕ) → k < n - cond b 1 0 → b ≡ true → k + 1 < n
    below_high b k n h e = let t : k < n - 1 = subst (λ (v : Bool). k < n - cond v 1 0) e h in omega (arith, t)

    below_itself : (b : Bool) (k n : ℕ) → k < n - cond b 1 0 → b ≡ true → k + 0 < n
    below_itself b k n h e = omega arith

    low : is_closed x.layout x.closed x.axis (face_beside i x.axis false) ≡ false
    low = open_face x.layout x.closed x.axis false i three (above_low (is_closed_side x.closed x.axis false) (slice_index i x.axis) w.least)
        (below_itself (is_closed_side x.closed x.axis true) (slice_index i x.axis) (cells_along x.layout x.axis) w.most)

    high : is_closed x.layout x.closed x.axis (face_beside i x.axis true) ≡ false
    high = open_face x.layout x.closed x.axis true i three (λ e. omega arith) (below_high (is_closed_side x.closed x.axis true) (slice_index i x.axis) (cells_along x.layout x.axis) w.most)

pub low_cell : (x : AxisPass) (i : List ℕ) → IsLayout x.layout.dims x.layout.cells → x.axis < x.layout.dims → is_closed_side x.closed x.axis false ≡ true → IsInLayers x.layout x.axis 0 1 i
    → PassedAre x i (portion (donor_total x.layout Below x.cells x.axis (face_beside i x.axis false)) 0 1) (portion (donor_total x.layout Above x.cells x.axis (face_beside i x.axis true)) x.left x.left_denominator)
    (portion (donor_total x.layout Above x.cells x.axis (face_beside i x.axis false)) 0 1) (portion (donor_total x.layout Below x.cells x.axis (face_beside i x.axis true)) x.right x.right_denominator)
low_cell x i s u closed w = record {
  from_below = shut_flux _ _ _ x.right x.right_denominator low;
  from_above = open_flux _ _ x.left x.left_denominator high;
  to_below = shut_flux _ _ _ x.left x.left_denominator low;
  to_above = open_flux _ _ x.right x.right_denominator high;
}
  where
    three : x.axis < 3
    three = omega (arith, s.most)

    low : is_closed x.layout x.closed x.axis (face_beside i x.axis false) ≡ true
    low = low_face x.layout x.closed x.axis false i three closed (omega (arith, w.most))

    high : is_closed x.layout x.closed x.axis (face_beside i x.axis true) ≡ false
    high = open_face x.layout x.closed x.axis true i three (λ e. omega arith) (λ e. omega (arith, w.most, wide x.layout x.axis s u))

pub high_cell : (x : AxisPass) (i : List ℕ) (last : ℕ) → IsLayout x.layout.dims x.layout.cells → x.axis < x.layout.dims → is_closed_side x.closed x.axis true ≡ true → last + 1 ≡ cells_along x.layout x.axis → IsInLayers x.layout x.axis last (last + 1) i
    → PassedAre x i (portion (donor_total x.layout Below x.cells x.axis (face_beside i x.axis false)) x.right x.right_denominator) (portion (donor_total x.layout Above x.cells x.axis (face_beside i x.axis true)) 0 1)
    (portion (donor_total x.layout Above x.cells x.axis (face_beside i x.axis false)) x.left x.left_denominator) (portion (donor_total x.layout Below x.cells x.axis (face_beside i x.axis true)) 0 1)
high_cell x i last s u closed e w = record {
  from_below = open_flux _ _ x.right x.right_denominator low;
  from_above = shut_flux _ _ _ x.left x.left_denominator high;
  to_below = open_flux _ _ x.left x.left_denominator low;
  to_above = shut_flux _ _ _ x.right x.right_denominator high;
}
  where
    three : x.axis < 3
    three = omega (arith, s.most)

    low : is_closed x.layout x.closed x.axis (face_beside i x.axis false) ≡ false
    low = open_face x.layout x.closed x.axis false i three (λ t. omega (arith, w.least, e, wide x.layout x.axis s u)) (λ t. omega (arith, w.most, e))

    high : is_closed x.layout x.closed x.axis (face_beside i x.axis true) ≡ true
    high = high_face x.layout x.closed x.axis true i three closed (omega (arith, w.least, w.most, e))

-- then the cell can pay, and becomes what it is to become
pub record CellPays (o a b c d : ℕ) : Type 0 where
  pub pays : c + d ≤ o
  pub small : o + (a + b) < 2 ^ 63

pub cell_pays : (x : AxisPass) (i : List ℕ) (o a b c d : ℕ) → PassedAre x i a b c d → lost x i ≤ o → o + gained x i < 2 ^ 63 → CellPays o a b c d
cell_pays x i o a b c d p pays small = record { pays = omega (arith, p.to_below, p.to_above, pays); small = omega (arith, p.from_below, p.from_above, small) }

pub cell_becomes : (x : AxisPass) (i : List ℕ) (o a b c d : ℕ) → PassedAre x i a b c d → o + (a + b) - (c + d) ≡ o + gained x i - lost x i
cell_becomes x i o a b c d p = let e = p.from_below in let f = p.from_above in let g = p.to_below in let h = p.to_above in cc

-- layers by a rule that makes of each of their cells what is to become of it
pub layers_become : (f g : ℕ → List ℕ → ℕ) (l : Layout) (axis from to : ℕ) (old new : List ℕ) → ((i : List ℕ) → IsInLayers l axis from to i → (own : ℕ) → f own i ≡ g own i) → HasLayers f l axis from to old new → HasLayers g l axis from to old new
layers_become f g l axis from to old new same h = record { inside = λ i w. h.inside i w ∙ same i w (total_at l old i); outside = h.outside; ghosts = h.ghosts }

-- the same layers, whatever their bounds are called
pub moved_cell : (l : Layout) (axis from to a b : ℕ) (i : List ℕ) → from ≡ a → to ≡ b → IsInLayers l axis from to i → IsInLayers l axis a b i
moved_cell l axis from to a b i p q w = record { within = w.within; least = omega (arith, w.least); most = omega (arith, w.most) }

pub moved_layers : (f : ℕ → List ℕ → ℕ) (l : Layout) (axis from to a b : ℕ) (old new : List ℕ) → from ≡ a → to ≡ b → HasLayers f l axis from to old new → HasLayers f l axis a b old new
moved_layers f l axis from to a b old new p q h = subst (λ (v : ℕ). HasLayers f l axis a v old new) q (subst (λ (v : ℕ). HasLayers f l axis v to old new) p h)

pub open_depth : (l : Layout) (axis : ℕ) (closed : List Bool) (from above : ℕ) → IsLayout l.dims l.cells → axis < l.dims → from ≡ first_open closed axis → above ≡ cond (is_closed_side closed axis true) 1 0
    → from + (cells_along l axis - above - from) ≡ end_open l closed axis
open_depth l axis closed from above s u p q = omega (arith, wide l axis s u, p, q, at_most_one (is_closed_side closed axis false), at_most_one (is_closed_side closed axis true))

-- some layers after others
pub passed_later : (x : AxisPass) (f : ℕ → List ℕ → ℕ) (from to a b : ℕ) (old new : List ℕ) → ((k : ℕ) → from ≤ k → k < to → ((k < a) ⊎ (b ≤ k))) → HasLayers f x.layout x.axis a b old new
    → CanPassLayers x from to old → CanPassLayers x from to new
passed_later x f from to a b old new apart h can = record {
  pays = λ i w. subst (λ (o : ℕ). lost x i ≤ begun x o i) (sym (h.outside i w.within (apart (slice_index i x.axis) w.least w.most))) (can.pays i w);
  small = λ i w. subst (λ (o : ℕ). begun x o i + gained x i < 2 ^ 63) (sym (h.outside i w.within (apart (slice_index i x.axis) w.least w.most))) (can.small i w);
}

pub fewer_layers : (x : AxisPass) (from to a b : ℕ) (into : List ℕ) → a ≤ from → to ≤ b → CanPassLayers x a b into → CanPassLayers x from to into
fewer_layers x from to a b into p q can = record {
  pays = λ i w. can.pays i (record { within = w.within; least = omega (arith, w.least); most = omega (arith, w.most) });
  small = λ i w. can.small i (record { within = w.within; least = omega (arith, w.least); most = omega (arith, w.most) });
}

pub first_before_end : (l : Layout) (axis : ℕ) (closed : List Bool) → IsLayout l.dims l.cells → axis < l.dims → (first_open closed axis ≤ end_open l closed axis) × (end_open l closed axis ≤ cells_along l axis)
first_before_end l axis closed s u =
    (omega (arith, wide l axis s u, at_most_one (is_closed_side closed axis false), at_most_one (is_closed_side closed axis true)), omega arith)

-- the lowest layer after the open ones, and the highest after both
pub low_later : (x : AxisPass) (old first : List ℕ) → IsLayout x.layout.dims x.layout.cells → x.axis < x.layout.dims
    → HasLayers (after_axis x) x.layout x.axis (first_open x.closed x.axis) (end_open x.layout x.closed x.axis) old first
    → CanPassLayers x 0 (cells_along x.layout x.axis) old → CanPassLayers x 0 (first_open x.closed x.axis) first
low_later x old first s u h can =
    let b = first_before_end x.layout x.axis x.closed s u in
    passed_later x (after_axis x) 0 (first_open x.closed x.axis) (first_open x.closed x.axis) (end_open x.layout x.closed x.axis) old first (λ k p q. inl q) h
    (fewer_layers x 0 (first_open x.closed x.axis) 0 (cells_along x.layout x.axis) old (omega arith) (omega (arith, b.0, b.1)) can)

pub high_later : (x : AxisPass) (old first second : List ℕ) → IsLayout x.layout.dims x.layout.cells → x.axis < x.layout.dims
    → HasLayers (after_axis x) x.layout x.axis (first_open x.closed x.axis) (end_open x.layout x.closed x.axis) old first
    → HasLayers (after_axis x) x.layout x.axis 0 (first_open x.closed x.axis) first second
    → CanPassLayers x 0 (cells_along x.layout x.axis) old → CanPassLayers x (end_open x.layout x.closed x.axis) (cells_along x.layout x.axis) second
high_later x old first second s u h low can =
    let b = first_before_end x.layout x.axis x.closed s u in
    passed_later x (after_axis x) (end_open x.layout x.closed x.axis) (cells_along x.layout x.axis) 0 (first_open x.closed x.axis) first second (λ k p q. inr (omega (arith, b.0, p))) low
    (passed_later x (after_axis x) (end_open x.layout x.closed x.axis) (cells_along x.layout x.axis) (first_open x.closed x.axis) (end_open x.layout x.closed x.axis) old first (λ k p q. inr p) h
    (fewer_layers x (end_open x.layout x.closed x.axis) (cells_along x.layout x.axis) 0 (cells_along x.layout x.axis) old (omega arith) (omega arith) can))

-- layers beside one another, in three passes
pub three_parts : (f : ℕ → List ℕ → ℕ) (l : Layout) (axis a b n : ℕ) (old first second third : List ℕ) → a ≤ b → b ≤ n
    → HasLayers f l axis a b old first → HasLayers f l axis 0 a first second → HasLayers f l axis b n second third → HasLayers f l axis 0 n old third
three_parts f l axis a b n old first second third p q inner low high = record {
  inside = λ i w. inside i w;
  outside = λ i w off. high.outside i w (above off) ∙ low.outside i w (over off) ∙ inner.outside i w (above_inner off);
  ghosts = λ k off. high.ghosts k off ∙ low.ghosts k off ∙ inner.ghosts k off;
}
  where
    above : {k : ℕ} → ((k < 0) ⊎ (n ≤ k)) → ((k < b) ⊎ (n ≤ k))
    above (inl h) = absurd (omega arith)
    above (inr h) = inr h

    over : {k : ℕ} → ((k < 0) ⊎ (n ≤ k)) → ((k < 0) ⊎ (a ≤ k))
    over (inl h) = inl h
    over (inr h) = inr (omega arith)

    above_inner : {k : ℕ} → ((k < 0) ⊎ (n ≤ k)) → ((k < a) ⊎ (b ≤ k))
    above_inner (inl h) = absurd (omega arith)
    above_inner (inr h) = inr (omega arith)

    inside : (i : List ℕ) → IsInLayers l axis 0 n i → total_at l third i ≡ f (total_at l old i) i
    inside i w = elim (cases_lt (slice_index i axis) a) [
      | inl less ↦ high.outside i w.within (inl (omega (arith, less))) ∙ low.inside i (record { within = w.within; least = omega arith; most = less }) ∙ ap (λ (o : ℕ). f o i) (inner.outside i w.within (inl less))
      | inr more ↦ elim (cases_lt (slice_index i axis) b) [
        | inl less ↦ high.outside i w.within (inl less) ∙ low.outside i w.within (inr more) ∙ inner.inside i (record { within = w.within; least = more; most = less })
        | inr most ↦ high.inside i (record { within = w.within; least = most; most = w.most }) ∙ ap (λ (o : ℕ). f o i) (low.outside i w.within (inr more) ∙ inner.outside i w.within (inr most))
      ]
    ]
