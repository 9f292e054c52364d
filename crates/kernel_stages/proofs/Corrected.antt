-- The pairs of a block, corrected by the sums of finer leaves, are the mesh's.
use Rattle.std.proofs.Common.{◌≡◌, ◌⊎◌, ◌==◌, inl, inr, ℕ, zero, suc, ◌+◌, ◌-◌, ◌<◌, ◌≤◌, Bool, true, false, cond, ◌&&◌, not, Option, Some, None, List, [], ◌∷◌, Contains, map, length, refl, arith, ap, subst, sym, ◌∙◌, slice_index}
use Rattle.std.specs.Option.{option_map}
use Rattle.std.proofs.lemmas.Bool.{and_parts, eqb-true, false≢true}
use Rattle.std.proofs.lemmas.Bool.Decides.{nat_tests}
use Rattle.morton_order.specs.declared.space.Loc.{Loc}
use Rattle.morton_order.specs.Space.{child, child_number, parent, parts}
use Rattle.morton_order.specs.Neighbours.{across}
use Rattle.block_tree.specs.Behind.{Behind, Names, behind_at, children_at, coarse, fine, same}
use Rattle.block_tree.specs.Tree.{is_node}
use Rattle.block_tree.proofs.Behinds.{number_of_child}
use Rattle.mesh_rules.specs.Mesh.{Mesh, cells_along, is_inner, leaf_number}
use Rattle.mesh_rules.specs.Due.{Exchange, flux_letters}
use Rattle.mesh_rules.specs.Faces.{Pair, cell_across}
use Rattle.block_layout.specs.declared.layout.Layout.{Layout}
use Rattle.block_layout.specs.Indices.{IsWithin, added, number_of, with_along}
use Rattle.block_layout.specs.Faces.{face_extents}
use Rattle.block_layout.specs.Regions.{Region, covers}
use Rattle.block_geometry.specs.Blocks.{FieldBlock, IsAtSide, IsFieldBlock, cell_in, end_of}
use Rattle.block_geometry.specs.Contents.{HasOwnPairs, HasPairs, is_finer_in, pair_of}
use Rattle.block_geometry.proofs.Cells.{across_beyond, block_of_cell_in}
use Rattle.block_geometry.proofs.Rows.{within_with}
use Rattle.block_geometry.proofs.Seen.{in_mesh, same_cells, three_axes}
use Rattle.block_laws.proofs.OwnPairs.{face_within}
use Rattle.ghost_laws.specs.Layers.{across_index, on_block}
use Rattle.ghost_laws.specs.Refined.{LiesInChild, child_at}
use Rattle.flux_correct.specs.Sums.{coarse_extents, flux_part}
use Rattle.flux_correct.specs.Corrected.{IsCorrected, covered}
use Rattle.flux_laws.specs.Corrected.{HaveOwnPairs}
use Rattle.flux_laws.proofs.AllPairs.{finer_is_beside}
use Rattle.transport_kernel.specs.Update.{listed}
use Rattle.upwind_fluxes.specs.declared.donor.Donor.{Donor}
use Rattle.upwind_fluxes.specs.declared.donor.Donor.TheVariants.{Below, Above}
use Rattle.correction_laws.specs.Replaced.{Covers, GainsPairs, IsNextTo, IsReplaced, Lists, half_of, part_of}
use Rattle.correction_laws.proofs.Covered.{InHalf, in_part, in_part_within, part_face}
use Rattle.correction_laws.proofs.Others.{AtSide, Found, covered_within, found}
use Rattle.correction_laws.proofs.Replaced.{replaced_gain_pairs, shaped_is}
use Rattle.letter_laws.specs.Sides.{side_part}
use Rattle.letter_laws.proofs.Behinds.{child_of, fine_met}
use Rattle.letter_laws.proofs.FinerLevel.{below_is}
use Rattle.letter_laws.proofs.Spans.{finer_kind}
use Rattle.ghost_buffers.specs.declared.part.How.{How}
use Rattle.dense_mask.proofs.Leaves.{number_of_leaf}
use Rattle.cycle_kernels.specs.Blocks.{CycleMesh, leaf_at}
use Rattle.cycle_kernels.specs.Letters.{how_by, no_part, part_by, part_covered, same_letter}
use Rattle.cycle_kernels.specs.Lists.{less}
use Rattle.cycle_kernels.specs.Pairs.{FacePairs, corrected_at, corrected_by, face_list, faces_corrected, first_sum, sum_given, sums_sent}
use Rattle.kernel_stages.specs.Letters.{IsFluxDue}
use Rattle.kernel_stages.proofs.Members.{In, in_any}
use Rattle.kernel_stages.proofs.DueLetters.{behind_leaf, due_flux, flux_due, is_due, number_at}
use Rattle.cycle_kernels.proofs.Letters.{letter_same}
use Rattle.cycle_kernel_laws.proofs.Apart.{inside_of}
use Rattle.cycle_kernel_laws.proofs.Given.{added_covered, less_again, less_within, three}
use Rattle.cycle_kernel_laws.proofs.OwnPairs.{face_at}
use Rattle.cycle_kernel_laws.proofs.Sees.{letter_from}
use Rattle.kernel_stages.proofs.Senders.{IsSound, block_on, block_sound, side_sound}
use Rattle.kernel_stages.proofs.Halves.{finer_beside}

-- pairs of all blocks, that are the mesh's own
abbrev pub HaveOwn : CycleMesh → ℕ → (ℕ → FacePairs) → Type 0
HaveOwn w f pairs = (b : ℕ) → b < length w.mesh.leaves → HasOwnPairs (block_on w f b) (pairs b).right (pairs b).left

-- the part that a flux letter has of them
abbrev pub part_from : CycleMesh → (ℕ → FacePairs) → Exchange → List ℕ
part_from w pairs x = flux_part w.layout x.axis (not x.high) (pairs x.from).right (pairs x.from).left

pub sums_are : (w : CycleMesh) (x : Exchange) (pairs : FacePairs) → IsSound w → IsFluxDue w.mesh x → sums_sent w x pairs ≡ flux_part w.layout x.axis (not x.high) pairs.right pairs.left
sums_are w x pairs sound d =
    ap (λ t. cond t (flux_part w.layout x.axis (not x.high) pairs.right pairs.left) (no_part w x)) (in_any (same_letter x) (flux_letters w.mesh) x (due_flux w.mesh sound.mesh x d) (letter_same x))

-- the finer sender of a flux letter is a child of the block across the receiver's side
pub record FromChild (w : CycleMesh) (x : Exchange) (f : ℕ) : Type 0 where
  pub at : Loc
  pub meets : across w.mesh.shape (leaf_at w x.to) x.axis x.high ≡ Some at
  pub inside : is_inner w.mesh at ≡ true
  pub j : ℕ
  pub next : IsNextTo (block_on w f x.to) x.axis x.high j
  pub is : child w.mesh.shape.dims at j ≡ leaf_at w x.from
  pub covered_is : part_covered w x ≡ half_of x.axis j

half_is_side : (axis j : ℕ) → side_part axis j ≡ half_of axis j
half_is_side zero j = refl
half_is_side (suc zero) j = refl
half_is_side (suc (suc a)) j = refl

part_of_finer : (w : CycleMesh) (x : Exchange) → IsSound w → IsFluxDue w.mesh x → part_covered w x ≡ side_part x.axis (child_number w.mesh.shape.dims (leaf_at w x.from))
part_of_finer w x sound d =
    let side = side_sound w 0 x.to x.axis sound d.due.to_few d.due.used in
    let level = (below_is (block_on w 0 x.to) x.axis x.high d.finer (leaf_at w x.from) side d.is (subst (λ (v : Behind). Names v (leaf_at w x.from)) d.is d.due.names)).level in
    ap (λ (h : How). part_by h w x) (ap how_by (finer_kind (leaf_at w x.from) (leaf_at w x.to) (omega (arith, level))))

pub from_child : (w : CycleMesh) (x : Exchange) (f : ℕ) → IsSound w → IsFluxDue w.mesh x → FromChild w x f
from_child w x f sound d =
    let B : FieldBlock = block_on w f x.to in
    let D : ℕ = w.mesh.shape.dims in
    let side = side_sound w f x.to x.axis sound d.due.to_few d.due.used in
    let among : Contains d.finer (leaf_at w x.from) = subst (λ (v : Behind). Names v (leaf_at w x.from)) d.is d.due.names in
    let m = fine_met B x.axis x.high d.finer d.is in
    let c = child_of B x.axis x.high d.finer (leaf_at w x.from) m among in
    let number : child_number D (leaf_at w x.from) ≡ c.j = ap (child_number D) (sym c.is) ∙ number_of_child D m.at c.j sound.mesh.shape.most sound.mesh.shape.least c.few in
    record {
      at = m.at;
      meets = m.meets;
      inside = m.inner_is;
      j = c.j;
      next = record { sound = side.sound; used = side.used; child = c.few; half = c.half };
      is = c.is;
      covered_is = part_of_finer w x sound d ∙ ap (side_part x.axis) number ∙ half_is_side x.axis c.j;
    }

-- the lists that have a letter's sums at all faces
abbrev summed : CycleMesh → Exchange → List ℕ → Lists
summed w x part = record { right = face_list w.layout (λ _ i. sum_given w Below x part i); left = face_list w.layout (λ _ i. sum_given w Above x part i) }

summed_at : (w : CycleMesh) (x : Exchange) (part : List ℕ) (donor : Donor) (half : ℕ) → x.axis < w.layout.dims → part_covered w x ≡ half →
    IsCorrected w.layout x.axis x.high half (first_sum w.layout donor x.axis) part (face_list w.layout (λ _ i. sum_given w donor x part i)) (face_list w.layout (λ _ i. sum_given w donor x part i))
summed_at w x part donor half used is = record {
  sums = λ u within.
      let l : Layout = w.layout in
      let low : List ℕ = (covered l x.axis x.high half).low in
      let h : x.axis < 3 = (let most = l.sound.most in omega arith) in
      face_at l (λ _ i. sum_given w donor x part i) x.axis (added low u) used h (covered_within l x.axis x.high half u h l.sound within)
      ∙ ap (λ v. slice_index part (first_sum l donor x.axis + number_of (coarse_extents l x.axis) (less (added low u) (covered l x.axis x.high v).low))) is
      ∙ ap (λ (v : List ℕ). slice_index part (first_sum l donor x.axis + number_of (coarse_extents l x.axis) v)) (less_again low u);
  others = λ n off. refl;
}

-- what a letter has for a face that it is about is the mesh's pair there
pub record IsSum (w : CycleMesh) (x : Exchange) (f : ℕ) (part i : List ℕ) (axis : ℕ) (high : Bool) : Type 0 where
  pub right : sum_given w Below x part (three (with_along axis (slice_index i axis + cond high 1 0) i)) ≡ (pair_of (block_on w f x.to) i axis high).right
  pub left : sum_given w Above x part (three (with_along axis (slice_index i axis + cond high 1 0) i)) ≡ (pair_of (block_on w f x.to) i axis high).left

have_own : (w : CycleMesh) (f b : ℕ) (pairs : ℕ → FacePairs) → IsSound w → HaveOwn w f pairs → HaveOwnPairs (block_on w f b) (λ o. (pairs (leaf_number w.mesh o)).right) (λ o. (pairs (leaf_number w.mesh o)).left)
have_own w f b pairs sound have o leaf =
    let (small, is) = number_at w.mesh sound.mesh o leaf in
    subst (λ (v : Loc). HasOwnPairs (on_block (block_on w f b) v) (pairs (leaf_number w.mesh o)).right (pairs (leaf_number w.mesh o)).left) is (have (leaf_number w.mesh o) small)

gains : (w : CycleMesh) (x : Exchange) (f : ℕ) (pairs : ℕ → FacePairs) → IsSound w → IsFluxDue w.mesh x → HaveOwn w f pairs → (c : FromChild w x f) → GainsPairs (block_on w f x.to) x.axis x.high c.j (summed w x (part_from w pairs x)) (summed w x (part_from w pairs x))
gains w x f pairs sound d have c =
    let l : Layout = w.layout in
    let B : FieldBlock = block_on w f x.to in
    let rights : Loc → List ℕ = λ o. (pairs (leaf_number w.mesh o)).right in
    let lefts : Loc → List ℕ = λ o. (pairs (leaf_number w.mesh o)).left in
    let lists : Lists = summed w x (part_from w pairs x) in
    let number : leaf_number w.mesh (child w.mesh.shape.dims c.at c.j) ≡ x.from = ap (leaf_number w.mesh) c.is ∙ number_of_leaf w.mesh sound.mesh x.from d.due.from_few in
    let put : IsReplaced B x.axis x.high c.j (part_from w pairs x) lists lists =
    record { rights = summed_at w x (part_from w pairs x) Below (half_of x.axis c.j) c.next.used c.covered_is; lefts = summed_at w x (part_from w pairs x) Above (half_of x.axis c.j) c.next.used c.covered_is } in
    replaced_gain_pairs B x.axis x.high c.at c.j rights lefts lists lists c.next c.meets c.inside (have_own w f x.to pairs sound have)
    (subst (λ n. IsReplaced B x.axis x.high c.j (part_of B x.axis x.high (pairs n).right (pairs n).left) lists lists) (sym number) put)

-- which face it is
around : (l : Layout) (axis : ℕ) (high end : Bool) (j : ℕ) (i : List ℕ) (m : Mesh) → AtSide l axis high j → IsWithin l.cells i → covers (covered l axis high (half_of axis j)) (three (with_along axis (slice_index i axis + cond end 1 0) i)) ≡ true → Found l m axis high j i end
around l axis high end j i m at within c =
    let r : Region = covered l axis high (half_of axis j) in
    let face : List ℕ = with_along axis (slice_index i axis + cond end 1 0) i in
    let u : List ℕ = less (three face) r.low in
    let lies = inside_of r (three face) c in
    found l m axis high j i end u at within (less_within r (three face) lies)
    (record {
      along1 = back (slice_index r.low 0) (slice_index face 0) (lies 0 (omega arith)).least;
      along2 = back (slice_index r.low 1) (slice_index face 1) (lies 1 (omega arith)).least;
      along3 = back (slice_index r.low 2) (slice_index face 2) (lies 2 (omega arith)).least;
    })
  where
    back : (a x : ℕ) → a ≤ x → x ≡ a + (x - a)
    back a x h = omega arith

pub letter_sums : (w : CycleMesh) (x : Exchange) (f : ℕ) (pairs : ℕ → FacePairs) (i : List ℕ) (high : Bool) → IsSound w → IsFluxDue w.mesh x → HaveOwn w f pairs → IsWithin w.layout.cells i →
    covers (faces_corrected w x) (three (with_along x.axis (slice_index i x.axis + cond high 1 0) i)) ≡ true → IsSum w x f (part_from w pairs x) i x.axis high
letter_sums w x f pairs i high sound d have within c =
    let l : Layout = w.layout in
    let B : FieldBlock = block_on w f x.to in
    let k = from_child w x f sound d in
    let h = three_axes B x.axis k.next.sound k.next.used in
    let at : AtSide l x.axis x.high k.j = record { fit = l.sound; used = k.next.used; child = subst (λ v. k.j < parts v) (sym sound.layout.dims) k.next.child; half = k.next.half } in
    let here : Found l w.mesh x.axis x.high k.j i high = around l x.axis x.high high k.j i w.mesh at within (subst (λ v. covers (covered l x.axis x.high v) (three (with_along x.axis (slice_index i x.axis + cond high 1 0) i)) ≡ true) k.covered_is c) in
    let child : child_at w.mesh (across_index w.mesh x.axis x.high 0 i) ≡ k.j = subst (λ (m : Mesh). child_at m (across_index m x.axis x.high 0 i) ≡ k.j) (shaped_is l w.mesh sound.layout) here.child in
    let cov : Covers B x.axis x.high k.j i = record { beside = record { sound = k.next.sound; used = k.next.used; within = within; at = here.at }; child = child } in
    let pair = (gains w x f pairs sound d have k).covered i cov in
    let face = face_within l x.axis x.high i within h in
    let one : IsSum w x f (part_from w pairs x) i x.axis x.high = record {
      right = sym (face_at l (λ _ i. sum_given w Below x (part_from w pairs x) i) x.axis (with_along x.axis (slice_index i x.axis + cond x.high 1 0) i) k.next.used h face) ∙ pair.0;
      left = sym (face_at l (λ _ i. sum_given w Above x (part_from w pairs x) i) x.axis (with_along x.axis (slice_index i x.axis + cond x.high 1 0) i) k.next.used h face) ∙ pair.1;
    } in
    subst (IsSum w x f (part_from w pairs x) i x.axis) (sym here.side_is) one

-- the first of some letters that is about a face, where all that are have the same
pub record CoveringFlux (w : CycleMesh) (b axis : ℕ) (letters : List Exchange) (i : List ℕ) : Type 0 where
  pub x : Exchange
  pub among : In letters x
  pub to : x.to ≡ b
  pub along : x.axis ≡ axis
  pub covers_it : covers (faces_corrected w x) i ≡ true

abbrev pub AllSum : CycleMesh → ℕ → Donor → List Exchange → (Exchange → List ℕ) → ℕ → List ℕ → ℕ → Type 0
AllSum w b donor letters parts axis i v = (x : Exchange) → In letters x → x.to ≡ b → x.axis ≡ axis → covers (faces_corrected w x) i ≡ true → sum_given w donor x (parts x) i ≡ v

eq_true : (a b : ℕ) → a ≡ b → (a == b) ≡ true
eq_true a b e = grind (arith, nat_tests)

all_three : (a b c : Bool) → a ≡ true → b ≡ true → c ≡ true → (a && (b && c)) ≡ true
all_three a b c e f g = ap (λ v. v && (b && c)) e ∙ ap (λ v. v && c) f ∙ g

corrected_step : (w : CycleMesh) (b : ℕ) (donor : Donor) (own : List ℕ) (x : Exchange) (rest : List Exchange) (parts : Exchange → List ℕ) (axis : ℕ) (i : List ℕ) (v : ℕ) (t : Bool) → (x.to == b && (x.axis == axis && covers (faces_corrected w x) i)) ≡ t →
    AllSum w b donor (x ∷ rest) parts axis i v → (listed w.layout own axis i ≡ v) ⊎ CoveringFlux w b axis (x ∷ rest) i → ((listed w.layout own axis i ≡ v) ⊎ CoveringFlux w b axis rest i → corrected_at w b donor own rest parts axis i ≡ v) →
    cond t (sum_given w donor x (parts x) i) (corrected_at w b donor own rest parts axis i) ≡ v
corrected_step w b donor own x rest parts axis i v true e all there next =
    let (p, q) = and_parts (x.to == b) (x.axis == axis && covers (faces_corrected w x) i) e in
    let (r, s) = and_parts (x.axis == axis) (covers (faces_corrected w x) i) q in
    all x (inl refl) (eqb-true x.to b p) (eqb-true x.axis axis r) s
corrected_step w b donor own x rest parts axis i v false e all there next = next (later there)
  where
    among : (c : CoveringFlux w b axis (x ∷ rest) i) → In (x ∷ rest) c.x → CoveringFlux w b axis rest i
    among c (inl is) = absurd (false≢true (sym e ∙ all_three (x.to == b) (x.axis == axis) (covers (faces_corrected w x) i)
        (eq_true x.to b (ap (λ (y : Exchange). y.to) is ∙ c.to)) (eq_true x.axis axis (ap (λ (y : Exchange). y.axis) is ∙ c.along)) (ap (λ (y : Exchange). covers (faces_corrected w y) i) is ∙ c.covers_it)))
    among c (inr h) = record { x = c.x; among = h; to = c.to; along = c.along; covers_it = c.covers_it }

    later : (listed w.layout own axis i ≡ v) ⊎ CoveringFlux w b axis (x ∷ rest) i → (listed w.layout own axis i ≡ v) ⊎ CoveringFlux w b axis rest i
    later (inl out) = inl out
    later (inr c) = inr (among c c.among)

corrected_found : (w : CycleMesh) (b : ℕ) (donor : Donor) (own : List ℕ) (letters : List Exchange) (parts : Exchange → List ℕ) (axis : ℕ) (i : List ℕ) (v : ℕ) → AllSum w b donor letters parts axis i v →
    (listed w.layout own axis i ≡ v) ⊎ CoveringFlux w b axis letters i → corrected_at w b donor own letters parts axis i ≡ v
corrected_found w b donor own [] parts axis i v all (inl out) = out
corrected_found w b donor own [] parts axis i v all (inr c) = absurd c.among
corrected_found w b donor own (x ∷ rest) parts axis i v all there =
    corrected_step w b donor own x rest parts axis i v (x.to == b && (x.axis == axis && covers (faces_corrected w x) i)) refl all there (λ more. corrected_found w b donor own rest parts axis i v (λ y h to a c. all y (inr h) to a c) more)

-- where finer cells are stored behind a face, a finer leaf stands behind the side
pub record MeetsFiner (b : FieldBlock) (axis : ℕ) (high : Bool) : Type 0 where
  pub at : Loc
  pub meets : across b.mesh.shape b.leaf axis high ≡ Some at
  pub inside : is_inner b.mesh at ≡ true

meets_finer : (b : FieldBlock) (axis : ℕ) (high : Bool) (i : List ℕ) → IsFieldBlock b → axis < b.layout.dims → IsWithin b.layout.cells i → IsAtSide b.layout axis high i →
    is_finer_in b.mesh (cell_across b.mesh (cell_in b.mesh b.leaf i) axis high) ≡ true → MeetsFiner b axis high
meets_finer b axis high i sound used w at finer = by (across b.mesh.shape b.leaf axis high) refl
  where
    there : (v : Option Loc) → across b.mesh.shape b.leaf axis high ≡ v → cell_across b.mesh (cell_in b.mesh b.leaf i) axis high ≡ option_map (λ o. cell_in b.mesh o (with_along axis (end_of (cells_along b.mesh axis) (not high)) i)) v
    there v e =
        across_beyond b.mesh b.leaf i axis high sound.mesh sound.leaf.inside (three_axes b axis sound used) (at ∙ ap (λ n. end_of n high) (same_cells b axis sound))
        ∙ ap (option_map (λ o. cell_in b.mesh o (with_along axis (end_of (cells_along b.mesh axis) (not high)) i))) e

    end_below : (n : ℕ) (high : Bool) → 1 ≤ n → end_of n high < n
    end_below n true h = omega arith
    end_below n false h = omega arith

    by : (v : Option Loc) → across b.mesh.shape b.leaf axis high ≡ v → MeetsFiner b axis high
    by None e = absurd (false≢true (sym (ap (is_finer_in b.mesh) (there None e)) ∙ finer))
    by (Some o) e =
        let h = three_axes b axis sound used in
        let f : List ℕ = with_along axis (end_of (cells_along b.mesh axis) (not high)) i in
        record {
          at = o;
          meets = e;
          inside = sym (ap (is_inner b.mesh) (block_of_cell_in b.mesh o f (within_with b.mesh.cells i axis (end_of (cells_along b.mesh axis) (not high)) (in_mesh b i sound w) h (end_below (cells_along b.mesh axis) (not high) (sound.mesh.some_cells axis h)))))
              ∙ sym (ap (is_finer_in b.mesh) (there (Some o) e)) ∙ finer;
        }

-- and sends a letter about this face
part_is_about : (l : Layout) (axis : ℕ) (high : Bool) (j : ℕ) (i : List ℕ) (m : Mesh) → InHalf l m axis high j i → covers (covered l axis high (half_of axis j)) (three (with_along axis (slice_index i axis + cond high 1 0) i)) ≡ true
part_is_about l axis high j i m s =
    let r : Region = covered l axis high (half_of axis j) in
    let u : List ℕ = in_part l axis i in
    subst (λ (v : List ℕ). covers r (three v) ≡ true) (part_face l m axis high j i s) (added_covered r u (in_part_within l axis i s.three s.fit))

finer_letter : (w : CycleMesh) (b f axis : ℕ) (high : Bool) (i : List ℕ) → IsSound w → b < length w.mesh.leaves → axis < w.layout.dims → IsWithin w.layout.cells i → is_finer_in w.mesh (cell_across w.mesh (cell_in w.mesh (leaf_at w b) i) axis high) ≡ true →
    CoveringFlux w b axis (flux_letters w.mesh) (three (with_along axis (slice_index i axis + cond high 1 0) i))
finer_letter w b f axis high i sound few used within finer =
    let l : Layout = w.layout in
    let m : Mesh = w.mesh in
    let D : ℕ = m.shape.dims in
    let B : FieldBlock = block_on w f b in
    let block = block_sound w f b sound few in
    let used' : axis < D = subst (λ d. axis < d) sound.layout.dims used in
    let at = finer_is_beside B i axis high block used within finer in
    let met = meets_finer B axis high i block used within at finer in
    let os : List Loc = map (child D met.at) (children_at D axis (not high)) in
    let behind : behind_leaf m b axis high ≡ fine os =
    ap (behind_at m.shape (is_inner m) axis high) met.meets ∙ ap (λ (t : Bool). cond t (fine os) (cond (is_node m.shape (is_inner m) met.at) (same met.at) (coarse (parent D met.at)))) met.inside in
    let near = finer_beside B axis high os i (side_sound w f b axis sound few used') behind within at in
    let o : Loc = near.at in
    let x : Exchange = letter_from w b axis high o in
    let (is, d) = is_due w b axis high o sound.mesh few used' (subst (λ (v : Behind). Names v o) (sym behind) near.among) in
    let fd : IsFluxDue m x = record { due = d; finer = os; is = behind } in
    let half : InHalf l m axis high (child_number D o) i = record {
      fit = l.sound;
      three = three_axes B axis block used;
      within = within;
      at = at;
      lies = subst (λ (v : Mesh). LiesInChild v (child_number D o) (across_index v axis high 0 i)) (sym (shaped_is l m sound.layout)) near.lies;
    } in
    record {
      x = x;
      among = due_flux m sound.mesh x fd;
      to = refl;
      along = refl;
      covers_it = subst (λ v. covers (covered l axis high v) (three (with_along axis (slice_index i axis + cond high 1 0) i)) ≡ true)
          (sym (part_of_finer w x sound fd ∙ ap (λ (v : Loc). side_part axis (child_number D v)) is ∙ half_is_side axis (child_number D o)))
          (part_is_about l axis high (child_number D o) i m half);
    }

-- all pairs
listed_three : (l : Layout) (own : List ℕ) (axis : ℕ) (i : List ℕ) → axis < 3 → listed l own axis (three i) ≡ listed l own axis i
listed_three l own zero i h = refl
listed_three l own (suc zero) i h = refl
listed_three l own (suc (suc zero)) i h = refl
listed_three l own (suc (suc (suc a))) i h = absurd (omega arith)

pub corrected_pairs : (w : CycleMesh) (b f : ℕ) (pairs : ℕ → FacePairs) (parts : Exchange → List ℕ) → IsSound w → b < length w.mesh.leaves → HaveOwn w f pairs → ((x : Exchange) → IsFluxDue w.mesh x → x.to ≡ b → parts x ≡ part_from w pairs x) →
    HasPairs (block_on w f b) (corrected_by w b (pairs b) parts).right (corrected_by w b (pairs b) parts).left
corrected_pairs w b f pairs parts sound few have is i axis high used within = (
  face_at l (corrected_at w b Below (pairs b).right (flux_letters w.mesh) parts) axis face used h there ∙ corrected_found w b Below (pairs b).right (flux_letters w.mesh) parts axis (three face) pair.right all_right (giver_right (is_finer_in w.mesh (cell_across w.mesh (cell_in w.mesh (leaf_at w b) i) axis high)) refl),
  face_at l (corrected_at w b Above (pairs b).left (flux_letters w.mesh) parts) axis face used h there ∙ corrected_found w b Above (pairs b).left (flux_letters w.mesh) parts axis (three face) pair.left all_left (giver_left (is_finer_in w.mesh (cell_across w.mesh (cell_in w.mesh (leaf_at w b) i) axis high)) refl),
)
  where
    l : Layout
    l = w.layout

    h : axis < 3
    h = three_axes (block_on w f b) axis (block_sound w f b sound few) used

    face : List ℕ
    face = with_along axis (slice_index i axis + cond high 1 0) i

    there : IsWithin (face_extents l axis) face
    there = face_within l axis high i within h

    pair : Pair
    pair = pair_of (block_on w f b) i axis high

    sums : (x : Exchange) → In (flux_letters w.mesh) x → x.to ≡ b → x.axis ≡ axis → covers (faces_corrected w x) (three face) ≡ true → IsSum w x f (parts x) i axis high
    sums x among to along c =
        let d = flux_due w.mesh sound.mesh x among in
        subst (λ (v : List ℕ). IsSum w x f v i axis high) (sym (is x d to))
        (subst (λ v. covers (faces_corrected w x) (three (with_along v (slice_index i v + cond high 1 0) i)) ≡ true → IsSum w x f (part_from w pairs x) i v high) along
        (λ k. letter_sums w x f pairs i high sound d have within k) c)

    all_right : AllSum w b Below (flux_letters w.mesh) parts axis (three face) pair.right
    all_right x among to along c = (sums x among to along c).right ∙ ap (λ n. (pair_of (block_on w f n) i axis high).right) to

    all_left : AllSum w b Above (flux_letters w.mesh) parts axis (three face) pair.left
    all_left x among to along c = (sums x among to along c).left ∙ ap (λ n. (pair_of (block_on w f n) i axis high).left) to

    giver_right : (t : Bool) → is_finer_in w.mesh (cell_across w.mesh (cell_in w.mesh (leaf_at w b) i) axis high) ≡ t → (listed l (pairs b).right axis (three face) ≡ pair.right) ⊎ CoveringFlux w b axis (flux_letters w.mesh) (three face)
    giver_right true e = inr (finer_letter w b f axis high i sound few used within e)
    giver_right false e = inl (listed_three l (pairs b).right axis face h ∙ (have b few i axis high used within e).0)

    giver_left : (t : Bool) → is_finer_in w.mesh (cell_across w.mesh (cell_in w.mesh (leaf_at w b) i) axis high) ≡ t → (listed l (pairs b).left axis (three face) ≡ pair.left) ⊎ CoveringFlux w b axis (flux_letters w.mesh) (three face)
    giver_left true e = inr (finer_letter w b f axis high i sound few used within e)
    giver_left false e = inl (listed_three l (pairs b).left axis face h ∙ (have b few i axis high used within e).1)
