-- Letters: whether two are one, and what is read of them.
use Rattle.std.proofs.Common.{◌≡◌, ◌==◌, inl, inr, ℕ, zero, suc, ◌+◌, ◌<◌, ◌≤◌, Bool, true, false, cond, ◌&&◌, ◌||◌, not, nat_lt, List, [], ◌∷◌, refl, arith, ap, sym, ◌∙◌}
use Rattle.std.specs.List.{flat_map, list_all, list_any, range_with_len}
use Rattle.std.proofs.lemmas.Bool.{and_from, and_parts, eqb-true, eq-eqb, false≢true, ltb-true, lt-ltb, or_parts}
use Rattle.morton_order.specs.declared.space.Side.{Side}
use Rattle.morton_order.proofs.Any.{any_range-found, any_range-has, or_cases, or_left, or_right}
use Rattle.mesh_rules.specs.Due.{Exchange, flux_letters, ghost_letters}
use Rattle.letter_laws.proofs.Boxes.{table_same}
use Rattle.block_layout.specs.declared.layout.Layout.{Layout}
use Rattle.block_layout.specs.Indices.{count_of, index_of}
use Rattle.block_layout.specs.Layouts.{len}
use Rattle.block_layout.specs.Faces.{face_count, face_number}
use Rattle.block_layout.specs.Regions.{covers, ghosts}
use Rattle.ghost_buffers.specs.Parts.{part_cell, part_extents}
use Rattle.upwind_fluxes.specs.declared.donor.Donor.{Donor}
use Rattle.upwind_fluxes.specs.declared.donor.Donor.TheVariants.{Below, Above}
use Rattle.sparse_rounds.specs.Kernels.{SameParts}
use Rattle.sparse_rounds.specs.Row.{same_bool}
use Rattle.cycle_kernels.specs.Blocks.{CycleMesh, enters_above, is_domain_face, total_outside}
use Rattle.cycle_kernels.specs.Lists.{index_at, less, with_ghosts}
use Rattle.cycle_kernels.specs.Letters.{ghost_at, ghosts_by, how_sent, no_part, outside_at, part_covered, region_given, region_sent, same_letter, total_given}
use Rattle.cycle_kernels.specs.Pairs.{FacePairs, corrected_at, corrected_by, face_list, faces_corrected, no_pairs, sum_given}
use Rattle.cycle_kernels.proofs.Tables.{blank_zeros, table_long, zero_here, zero_table, zeros}
use Rattle.cycle_kernels.proofs.Zeros.{same_pairs, zero_faces, zero_ghost}

-- a letter by its parts
same_bool_is : (x y : Bool) → same_bool x y ≡ true → x ≡ y
same_bool_is true true h = refl
same_bool_is true false h = absurd (false≢true h)
same_bool_is false true h = absurd (false≢true h)
same_bool_is false false h = refl

is_same_bool : (x : Bool) → same_bool x x ≡ true
is_same_bool true = refl
is_same_bool false = refl

pub letter_by : (x y : Exchange) → x.from ≡ y.from → x.to ≡ y.to → x.axis ≡ y.axis → x.high ≡ y.high → x ≡ y
letter_by x y a b c d = λ i. record { from = a i; to = b i; axis = c i; high = d i }

pub same_letter_is : (x y : Exchange) → same_letter x y ≡ true → x ≡ y
same_letter_is x y h =
    let a = and_parts (x.from == y.from) (x.to == y.to && (x.axis == y.axis && same_bool x.high y.high)) h in
    let b = and_parts (x.to == y.to) (x.axis == y.axis && same_bool x.high y.high) a.1 in
    let c = and_parts (x.axis == y.axis) (same_bool x.high y.high) b.1 in
    letter_by x y (eqb-true x.from y.from a.0) (eqb-true x.to y.to b.0) (eqb-true x.axis y.axis c.0) (same_bool_is x.high y.high c.1)

pub letter_same : (x : Exchange) → same_letter x x ≡ true
letter_same x =
    and_from (x.from == x.from) (x.to == x.to && (x.axis == x.axis && same_bool x.high x.high)) (eq-eqb x.from x.from refl)
    (and_from (x.to == x.to) (x.axis == x.axis && same_bool x.high x.high) (eq-eqb x.to x.to refl) (and_from (x.axis == x.axis) (same_bool x.high x.high) (eq-eqb x.axis x.axis refl) (is_same_bool x.high)))

-- what is blank is no part
pub blank_is_none : (w : CycleMesh) (x : Exchange) (v : List ℕ) → list_all (λ total. total == 0) (region_sent w x v) ≡ true → region_sent w x v ≡ no_part w x
blank_is_none w x v h =
    blank_zeros (region_sent w x v) h
    ∙ ap zeros (table_long (count_of (part_extents (how_sent w x) w.layout x.axis)) (λ k. part_cell (how_sent w x) w.layout x.axis (not x.high) (part_covered w x) (with_ghosts w.layout v []) (index_of (part_extents (how_sent w x) w.layout x.axis) k)))

-- parts that agree on some letters to a block
abbrev pub Agree : List Exchange → ℕ → (Exchange → List ℕ) → (Exchange → List ℕ) → Type 0
Agree xs b c d = (x : Exchange) → list_any (same_letter x) xs ≡ true → x.to ≡ b → c x ≡ d x

agree_later : (x : Exchange) (xs : List Exchange) (b : ℕ) (c d : Exchange → List ℕ) → Agree (x ∷ xs) b c d → Agree xs b c d
agree_later x xs b c d h y due to = h y (or_right (same_letter y x) (list_any (same_letter y) xs) due) to

agree_first : (x : Exchange) (xs : List Exchange) (b : ℕ) (c d : Exchange → List ℕ) → Agree (x ∷ xs) b c d → x.to ≡ b → c x ≡ d x
agree_first x xs b c d h to = h x (or_left (same_letter x x) (list_any (same_letter x) xs) (letter_same x)) to

pub sent_agree : (xs : List Exchange) (b : ℕ) (c d : Exchange → List ℕ) → SameParts same_letter (λ (x : Exchange). x.to) xs b c d → Agree xs b c d
sent_agree xs b c d h x due to = h x (record { is_due = due; is_to = to })

-- one of two, where the first is asked for by a test
either : (t : Bool) (a b x y : ℕ) → (t ≡ true → a ≡ b) → x ≡ y → cond t a x ≡ cond t b y
either true a b x y f e = f refl
either false a b x y f e = e

pub ghost_reads : (w : CycleMesh) (b f : ℕ) (xs : List Exchange) (c d : Exchange → List ℕ) (i : List ℕ) → Agree xs b c d → ghost_at w b f xs c i ≡ ghost_at w b f xs d i
ghost_reads w b f [] c d i h = refl
ghost_reads w b f (x ∷ xs) c d i h =
    either (x.to == b && covers (region_given w x) i) (total_given w x (c x) i) (total_given w x (d x) i) (ghost_at w b f xs c i) (ghost_at w b f xs d i)
    (λ t. ap (λ (v : List ℕ). total_given w x v i) (agree_first x xs b c d h (eqb-true x.to b (and_parts (x.to == b) (covers (region_given w x) i) t).0)))
    (ghost_reads w b f xs c d i (agree_later x xs b c d h))

pub ghosts_read : (w : CycleMesh) (b f : ℕ) (c d : Exchange → List ℕ) → Agree (ghost_letters w.mesh) b c d → ghosts_by w b f c ≡ ghosts_by w b f d
ghosts_read w b f c d h = table_same (len w.layout) (λ place. ghost_at w b f (ghost_letters w.mesh) c (index_at w.layout place)) (λ place. ghost_at w b f (ghost_letters w.mesh) d (index_at w.layout place))
    (λ place few. ghost_reads w b f (ghost_letters w.mesh) c d (index_at w.layout place) h)

-- nothing from outside
pub fails_below : (p : ℕ → Bool) (n k : ℕ) → list_any p (range_with_len 0 n) ≡ false → k < n → p k ≡ false
fails_below p n k none few = by (p k) refl
  where
    by : (t : Bool) → p k ≡ t → t ≡ false
    by true e = absurd (false≢true (sym none ∙ any_range-has p 0 n k (omega arith) (omega arith) e))
    by false e = refl

not_above : (n : ℕ) → nat_lt 0 n ≡ false → n ≡ 0
not_above zero h = refl
not_above (suc n) h = absurd (false≢true (sym h ∙ lt-ltb 0 (suc n) (omega arith)))

pub none_outside : (w : CycleMesh) (b f axis : ℕ) (high : Bool) → enters_above 0 w b f ≡ false → axis < w.mesh.shape.dims → total_outside w b f axis high ≡ 0
none_outside w b f axis high none few = by high
  where
    parts : (nat_lt 0 (total_outside w b f axis false) ≡ false) × (nat_lt 0 (total_outside w b f axis true) ≡ false)
    parts = or_parts (nat_lt 0 (total_outside w b f axis false)) (nat_lt 0 (total_outside w b f axis true))
        (fails_below (λ a. nat_lt 0 (total_outside w b f a false) || nat_lt 0 (total_outside w b f a true)) w.mesh.shape.dims axis none few)

    by : (end : Bool) → total_outside w b f axis end ≡ 0
    by true = not_above (total_outside w b f axis true) parts.1
    by false = not_above (total_outside w b f axis false) parts.0

abbrev pub sides_from : ℕ → ℕ → List Side
sides_from a n = flat_map (λ axis. record { axis = axis; high = false } ∷ record { axis = axis; high = true } ∷ []) (range_with_len a n)

zero_either : (t : Bool) (x y : ℕ) → x ≡ 0 → y ≡ 0 → cond t x y ≡ 0
zero_either true x y e f = e
zero_either false x y e f = f

outside_zero : (w : CycleMesh) (b f a n : ℕ) (i : List ℕ) → enters_above 0 w b f ≡ false → a + n ≤ w.mesh.shape.dims → outside_at w b f (sides_from a n) i ≡ 0
outside_zero w b f a zero i none few = refl
outside_zero w b f a (suc n) i none few =
    zero_either (is_domain_face w b a false && covers (ghosts w.layout a false) i) (total_outside w b f a false) (outside_at w b f (record { axis = a; high = true } ∷ sides_from (a + 1) n) i) (none_outside w b f a false none (omega arith))
    (zero_either (is_domain_face w b a true && covers (ghosts w.layout a true) i) (total_outside w b f a true) (outside_at w b f (sides_from (a + 1) n) i) (none_outside w b f a true none (omega arith)) (outside_zero w b f (a + 1) n i none (omega arith)))

ghost_zero : (w : CycleMesh) (b f : ℕ) (xs : List Exchange) (i : List ℕ) → enters_above 0 w b f ≡ false → ghost_at w b f xs (no_part w) i ≡ 0
ghost_zero w b f [] i none = outside_zero w b f 0 w.mesh.shape.dims i none (omega arith)
ghost_zero w b f (x ∷ xs) i none =
    zero_either (x.to == b && covers (region_given w x) i) (total_given w x (no_part w x) i) (ghost_at w b f xs (no_part w) i)
    (zero_ghost (how_sent w x) w.layout x.axis (no_part w x) (less i (region_given w x).low) (zero_here (count_of (part_extents (how_sent w x) w.layout x.axis)))) (ghost_zero w b f xs i none)

pub ghosts_of_none : (w : CycleMesh) (b f : ℕ) (c : Exchange → List ℕ) → enters_above 0 w b f ≡ false → Agree (ghost_letters w.mesh) b c (no_part w) → ghosts_by w b f c ≡ zeros (len w.layout)
ghosts_of_none w b f c none h =
    ghosts_read w b f c (no_part w) h
    ∙ zero_table (len w.layout) (λ place. ghost_at w b f (ghost_letters w.mesh) (no_part w) (index_at w.layout place)) (λ place. ghost_zero w b f (ghost_letters w.mesh) (index_at w.layout place) none)

-- what is above a threshold is above zero
more_than_none : (t n : ℕ) → nat_lt t n ≡ true → nat_lt 0 n ≡ true
more_than_none t n h = lt-ltb 0 n (let r = ltb-true t n h in omega (arith, r))

pub calls_flow_in : (threshold : ℕ) (w : CycleMesh) (b f : ℕ) → enters_above threshold w b f ≡ true → enters_above 0 w b f ≡ true
calls_flow_in t w b f h =
    let (axis, low, few, at) = any_range-found (λ a. nat_lt t (total_outside w b f a false) || nat_lt t (total_outside w b f a true)) 0 w.mesh.shape.dims h in
    any_range-has (λ a. nat_lt 0 (total_outside w b f a false) || nat_lt 0 (total_outside w b f a true)) 0 w.mesh.shape.dims axis low few
    (elim (or_cases (nat_lt t (total_outside w b f axis false)) (nat_lt t (total_outside w b f axis true)) at) [
      | inl p ↦ or_left (nat_lt 0 (total_outside w b f axis false)) (nat_lt 0 (total_outside w b f axis true)) (more_than_none t (total_outside w b f axis false) p)
      | inr p ↦ or_right (nat_lt 0 (total_outside w b f axis false)) (nat_lt 0 (total_outside w b f axis true)) (more_than_none t (total_outside w b f axis true) p)
    ])

-- corrections
pub correction_reads : (w : CycleMesh) (b : ℕ) (donor : Donor) (own : List ℕ) (xs : List Exchange) (c d : Exchange → List ℕ) (axis : ℕ) (i : List ℕ) → Agree xs b c d →
    corrected_at w b donor own xs c axis i ≡ corrected_at w b donor own xs d axis i
correction_reads w b donor own [] c d axis i h = refl
correction_reads w b donor own (x ∷ xs) c d axis i h =
    either (x.to == b && (x.axis == axis && covers (faces_corrected w x) i)) (sum_given w donor x (c x) i) (sum_given w donor x (d x) i) (corrected_at w b donor own xs c axis i) (corrected_at w b donor own xs d axis i)
    (λ t. ap (λ (v : List ℕ). sum_given w donor x v i) (agree_first x xs b c d h (eqb-true x.to b (and_parts (x.to == b) (x.axis == axis && covers (faces_corrected w x) i) t).0)))
    (correction_reads w b donor own xs c d axis i (agree_later x xs b c d h))

pub faces_same : (l : Layout) (p q : ℕ → List ℕ → ℕ) → ((axis : ℕ) (i : List ℕ) → p axis i ≡ q axis i) → face_list l p ≡ face_list l q
faces_same l p q h = ap (λ (g : ℕ → List ℕ → ℕ). face_list l g) (λ j axis i. h axis i j)

pub pairs_read : (w : CycleMesh) (b : ℕ) (pairs : FacePairs) (c d : Exchange → List ℕ) → Agree (flux_letters w.mesh) b c d → corrected_by w b pairs c ≡ corrected_by w b pairs d
pairs_read w b pairs c d h =
    same_pairs (corrected_by w b pairs c) (face_list w.layout (corrected_at w b Below pairs.right (flux_letters w.mesh) d)) (face_list w.layout (corrected_at w b Above pairs.left (flux_letters w.mesh) d))
    (faces_same w.layout (corrected_at w b Below pairs.right (flux_letters w.mesh) c) (corrected_at w b Below pairs.right (flux_letters w.mesh) d) (λ axis i. correction_reads w b Below pairs.right (flux_letters w.mesh) c d axis i h))
    (faces_same w.layout (corrected_at w b Above pairs.left (flux_letters w.mesh) c) (corrected_at w b Above pairs.left (flux_letters w.mesh) d) (λ axis i. correction_reads w b Above pairs.left (flux_letters w.mesh) c d axis i h))

correction_zero : (w : CycleMesh) (b : ℕ) (donor : Donor) (xs : List Exchange) (axis : ℕ) (i : List ℕ) → corrected_at w b donor (zeros (face_count w.layout)) xs (no_part w) axis i ≡ 0
correction_zero w b donor [] axis i = zero_here (face_count w.layout) (face_number w.layout axis i)
correction_zero w b donor (x ∷ xs) axis i =
    zero_either (x.to == b && (x.axis == axis && covers (faces_corrected w x) i)) (sum_given w donor x (no_part w x) i) (corrected_at w b donor (zeros (face_count w.layout)) xs (no_part w) axis i)
    (zero_here (count_of (part_extents (how_sent w x) w.layout x.axis)) _) (correction_zero w b donor xs axis i)

pub pairs_of_none : (w : CycleMesh) (b : ℕ) (c : Exchange → List ℕ) → Agree (flux_letters w.mesh) b c (no_part w) → corrected_by w b (no_pairs w) c ≡ no_pairs w
pairs_of_none w b c h =
    pairs_read w b (no_pairs w) c (no_part w) h
    ∙ same_pairs (corrected_by w b (no_pairs w) (no_part w)) (zeros (face_count w.layout)) (zeros (face_count w.layout))
    (zero_faces w.layout (corrected_at w b Below (zeros (face_count w.layout)) (flux_letters w.mesh) (no_part w)) (correction_zero w b Below (flux_letters w.mesh)))
    (zero_faces w.layout (corrected_at w b Above (zeros (face_count w.layout)) (flux_letters w.mesh) (no_part w)) (correction_zero w b Above (flux_letters w.mesh)))
