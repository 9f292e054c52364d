-- What comes in of a field in a stage is within what the problem counts.
use Rattle.std.proofs.Common.{◌≡◌, ℕ, zero, suc, ◌+◌, ◌*◌, ◌/◌, ◌^◌, ◌<◌, ◌≤◌, Bool, true, false, cond, not, ◌&&◌, ◌==◌, inl, inr, Option, Some, None, refl, sym, ap, ◌∙◌, subst, arith}
use Rattle.std.specs.Prelude.{option_and_then, slice_index, sum_by}
use Rattle.std.specs.List.{range_with_len}
use Rattle.std.proofs.Math.Nat.{zero-div}
use Rattle.std.proofs.lemmas.Bool.{cases_eq}
use Rattle.morton_order.specs.declared.space.Loc.{Loc}
use Rattle.morton_order.specs.declared.space.Shape.{Shape}
use Rattle.morton_order.specs.Space.{parent}
use Rattle.block_tree.proofs.Ancestors.{node_parent}
use Rattle.mesh_num.specs.Portion.{portion}
use Rattle.mesh_num.specs.Rate.{rate}
use Rattle.package_fields.specs.declared.flag.Flag.TheVariants.{WithFluxes}
use Rattle.package_fields.specs.Flags.{has}
use Rattle.problem_set.specs.Settings.{Settings}
use Rattle.mesh_settings.specs.Mesh.{is_inflow}
use Rattle.problem_set.specs.Rates.{both_rates, downwards, upwards, velocity}
use Rattle.mesh_settings.specs.declared.words.FaceKind.{FaceKind}
use Rattle.mesh_settings.specs.declared.words.FaceKind.TheVariants.{Periodic, Outflow, Reflecting, Inflow}
use Rattle.mesh_rules.specs.Sums.{sum_to}
use Rattle.mesh_rules.specs.Mesh.{IsMesh, Mesh, OnLeaf, block_of, cell_lattice, is_inner, sum_cells}
use Rattle.mesh_rules.specs.Look.{look}
use Rattle.mesh_rules.specs.Fields.{field_at, has_fluxes, has_ghosts, kind_at, moves_at, outside, outside_by, side_number}
use Rattle.mesh_rules.specs.Faces.{Pair, cell_across, face_pair, face_pair_by, limited, own_pair, pair_outside, reconstructed, seen_in, seen_next, seen_second}
use Rattle.mesh_rules.specs.Stage.{inflow_of, when_outside}
use Rattle.mesh_laws.specs.PayLaws.{HasFittingRates, IsNoFiner}
use Rattle.mesh_laws.proofs.Cells.{cells_axes, cells_plus}
use Rattle.mesh_laws.proofs.Pays.{speed}
use Rattle.mesh_laws.proofs.Portions.{portion_within, rate_grows}
use Rattle.run_laws.proofs.SideSums.{cells_le, others, side_sum}

-- what of a pair at a side of a cell enters the cell
abbrev pub entering : Bool → Pair → ℕ
entering high x = cond high x.left x.right

-- one rate is at most the sum over the axes
rate_in_sum : (g : ℕ → ℕ) (dims axis : ℕ) → axis < dims → dims ≤ 3 → g axis ≤ sum_by g (range_with_len 0 dims)
rate_in_sum g zero axis h k = absurd (omega arith)
rate_in_sum g (suc zero) zero h k = omega arith
rate_in_sum g (suc zero) (suc a) h k = absurd (omega arith)
rate_in_sum g (suc (suc zero)) zero h k = omega arith
rate_in_sum g (suc (suc zero)) (suc zero) h k = omega arith
rate_in_sum g (suc (suc zero)) (suc (suc a)) h k = absurd (omega arith)
rate_in_sum g (suc (suc (suc zero))) zero h k = omega arith
rate_in_sum g (suc (suc (suc zero))) (suc zero) h k = omega arith
rate_in_sum g (suc (suc (suc zero))) (suc (suc zero)) h k = omega arith
rate_in_sum g (suc (suc (suc zero))) (suc (suc (suc a))) h k = absurd (omega arith)
rate_in_sum g (suc (suc (suc (suc d)))) axis h k = absurd (omega arith)

-- no rate at a level is above the denominator
rate_by : (moved : Bool) (v k low high : ℕ) → low ≤ high → cond moved (rate v k low) 0 ≤ cond moved (rate v k high) 0
rate_by true v k low high h = rate_grows v k low high h
rate_by false v k low high h = omega arith

speed_small : (q : Settings) (f axis dims level finest : ℕ) (right : Bool) → level ≤ finest → axis < dims → dims ≤ 3 → HasFittingRates q f dims finest → speed q f axis right level ≤ q.denominator
speed_small q f axis dims level finest true le used few fit =
    let up = rate_by (has WithFluxes (field_at q f).flags) (upwards (velocity (moves_at q f) axis)) (moves_at q f).k level finest le in
    omega (arith, up, rate_in_sum (both_rates (field_at q f) (moves_at q f) finest) dims axis used few, fit.fits.once)
speed_small q f axis dims level finest false le used few fit =
    let up = rate_by (has WithFluxes (field_at q f).flags) (downwards (velocity (moves_at q f) axis)) (moves_at q f).k level finest le in
    omega (arith, up, rate_in_sum (both_rates (field_at q f) (moves_at q f) finest) dims axis used few, fit.fits.once)

cell_level : (m : Mesh) (finest : ℕ) (c : Loc) → IsNoFiner m finest → OnLeaf m c → c.level ≤ finest
cell_level m finest c coarse leaf = elim (cases_eq c.level 0) [
  | inl root ↦ omega arith
  | inr deep ↦ let below = coarse (parent m.shape.dims (block_of m c)) (node_parent m.shape (is_inner m) (block_of m c) (omega arith) leaf.node) in omega arith
]

-- two equal totals count for no more than one of them
even_ghosts : (order x ahead : ℕ) → reconstructed order x x ahead ≤ x
even_ghosts order x ahead = by (order == 2)
  where
    by : (b : Bool) → cond b (limited x x ahead) x ≤ x
    by true = omega arith
    by false = omega arith

-- a portion of what stands outside
part_of : (moved : Bool) (x y r d : ℕ) → 1 ≤ d → cond moved r 0 ≤ d → x ≤ y → portion x (cond moved r 0) d ≤ cond moved y 0
part_of true x y r d some small le = let a = portion_within x r d some small in omega arith
part_of false x y r d some small le = let z : portion x 0 d ≡ 0 = none x d in omega arith
  where
    none : (x d : ℕ) → portion x 0 d ≡ 0
    none x d = let e : x * 0 ≡ 0 = omega arith in ap (λ (n : ℕ). n / d) e ∙ zero-div d

-- what may come in through a side of a cell
abbrev pub let_in : Settings → ℕ → ℕ → Bool → ℕ → ℕ
let_in q f axis high level = cond (has_fluxes q f) (outside q f axis high level) 0

enters_outside : (kind : FaceKind) (high : Bool) (own : Pair) → entering high (pair_outside kind own) ≤ entering high own
enters_outside Reflecting true own = omega arith
enters_outside Reflecting false own = omega arith
enters_outside Periodic high own = omega arith
enters_outside Outflow high own = omega arith
enters_outside Inflow high own = omega arith

own_enters : (q : Settings) (m : Mesh) (f : ℕ) (c : Loc) (axis : ℕ) (high : Bool) → 1 ≤ q.denominator → speed q f axis (not high) c.level ≤ q.denominator → cell_across m c axis high ≡ None
    → entering high (own_pair q m f c axis high) ≤ let_in q f axis high c.level
own_enters q m f c axis true some small gone =
    let x = outside q f axis true c.level in
    let next : seen_next q m f c axis true ≡ x = ap (seen_in q m f axis true c.level) gone in
    let second : seen_second q m f c axis true ≡ x = ap (λ (o : Option Loc). seen_in q m f axis true c.level (option_and_then (λ v. cell_across m v axis true) o)) gone in
    let counts = even_ghosts (moves_at q f).order x (look m f c) in
    let all : entering true (own_pair q m f c axis true) ≡ portion (reconstructed (moves_at q f).order x x (look m f c)) (speed q f axis false c.level) q.denominator =
    ap (λ (v : ℕ). portion (reconstructed (moves_at q f).order v (seen_next q m f c axis true) (look m f c)) (speed q f axis false c.level) q.denominator) second
    ∙ ap (λ (v : ℕ). portion (reconstructed (moves_at q f).order x v (look m f c)) (speed q f axis false c.level) q.denominator) next in
    let part = part_of (has_fluxes q f) (reconstructed (moves_at q f).order x x (look m f c)) x (rate (downwards (velocity (moves_at q f) axis)) (moves_at q f).k c.level) q.denominator some small counts in
    omega (arith, all, part)
own_enters q m f c axis false some small gone =
    let x = outside q f axis false c.level in
    let next : seen_next q m f c axis false ≡ x = ap (seen_in q m f axis false c.level) gone in
    let second : seen_second q m f c axis false ≡ x = ap (λ (o : Option Loc). seen_in q m f axis false c.level (option_and_then (λ v. cell_across m v axis false) o)) gone in
    let counts = even_ghosts (moves_at q f).order x (look m f c) in
    let all : entering false (own_pair q m f c axis false) ≡ portion (reconstructed (moves_at q f).order x x (look m f c)) (speed q f axis true c.level) q.denominator =
    ap (λ (v : ℕ). portion (reconstructed (moves_at q f).order v (seen_next q m f c axis false) (look m f c)) (speed q f axis true c.level) q.denominator) second
    ∙ ap (λ (v : ℕ). portion (reconstructed (moves_at q f).order x v (look m f c)) (speed q f axis true c.level) q.denominator) next in
    let part = part_of (has_fluxes q f) (reconstructed (moves_at q f).order x x (look m f c)) x (rate (upwards (velocity (moves_at q f) axis)) (moves_at q f).k c.level) q.denominator some small counts in
    omega (arith, all, part)

side_enters : (q : Settings) (m : Mesh) (f : ℕ) (c : Loc) (axis : ℕ) (high : Bool) → 1 ≤ q.denominator → speed q f axis (not high) c.level ≤ q.denominator
    → when_outside (cell_across m c axis high) (entering high (face_pair q m f c axis high)) ≤ when_outside (cell_across m c axis high) (let_in q f axis high c.level)
unfolding face_pair
side_enters q m f c axis high some small = by (cell_across m c axis high) (own_enters q m f c axis high some small) refl
  where
    by : (o : Option Loc) → (cell_across m c axis high ≡ None → entering high (own_pair q m f c axis high) ≤ let_in q f axis high c.level) → cell_across m c axis high ≡ o → when_outside o (entering high (face_pair_by q m f c axis high o)) ≤ when_outside o (let_in q f axis high c.level)
    by None own is = let a = own is in let b = enters_outside (kind_at q axis high) high (own_pair q m f c axis high) in omega arith
    by (Some x) own is = omega arith

-- the amount that may come in through a face of the domain, once for each root cell behind it
abbrev pub amount_of : Settings → ℕ → ℕ → Bool → ℕ
amount_of q f axis high = cond (has_ghosts q f && has_fluxes q f) (cond (is_inflow (kind_at q axis high)) (slice_index (moves_at q f).entry (side_number axis high)) 0) 0

let_in_is : (q : Settings) (f axis : ℕ) (high : Bool) (level : ℕ) → let_in q f axis high level ≤ amount_of q f axis high / 2 ^ (q.shape.dims * level)
let_in_is q f axis high level = by (has_ghosts q f) (has_fluxes q f) (kind_at q axis high)
  where
    w : ℕ
    w = slice_index (moves_at q f).entry (side_number axis high)

    by : (g x : Bool) (k : FaceKind) → cond x (outside_by k (cond g (slice_index (moves_at q f).entry (side_number axis high) / 2 ^ (q.shape.dims * level)) 0)) 0 ≤ cond (g && x) (cond (is_inflow k) (slice_index (moves_at q f).entry (side_number axis high)) 0) 0 / 2 ^ (q.shape.dims * level)
    by true true Inflow = omega arith
    by true true Outflow = omega arith
    by true true Reflecting = omega arith
    by true true Periodic = omega arith
    by true false k = omega arith
    by false true Inflow = omega arith
    by false true Outflow = omega arith
    by false true Reflecting = omega arith
    by false true Periodic = omega arith
    by false false k = omega arith

outside_grows : (o : Option Loc) (v w : ℕ) → v ≤ w → when_outside o v ≤ when_outside o w
outside_grows None v w le = le
outside_grows (Some x) v w le = omega arith

-- over all cells of a mesh
side_inflow : (q : Settings) (m : Mesh) (f axis finest : ℕ) (high : Bool) → IsMesh m → m.shape ≡ q.shape → IsNoFiner m finest → HasFittingRates q f m.shape.dims finest → axis < m.shape.dims
    → sum_cells m (λ c. when_outside (cell_across m c axis high) (entering high (face_pair q m f c axis high))) ≤ amount_of q f axis high * others (cell_lattice m) axis
side_inflow q m f axis finest high mesh shape coarse fit used =
    let dims_same : q.shape.dims ≡ m.shape.dims = ap (λ (s : Shape). s.dims) (sym shape) in
    let le = cells_le m mesh (λ c. when_outside (cell_across m c axis high) (entering high (face_pair q m f c axis high))) (λ c. when_outside (cell_across m c axis high) (amount_of q f axis high / 2 ^ (m.shape.dims * c.level)))
    (λ c inside leaf.
    let small = speed_small q f axis m.shape.dims c.level finest (not high) (cell_level m finest c coarse leaf) used mesh.shape.most fit in
    let a = side_enters q m f c axis high fit.positive small in
    let l : let_in q f axis high c.level ≤ amount_of q f axis high / 2 ^ (m.shape.dims * c.level) = subst (λ (d : ℕ). let_in q f axis high c.level ≤ amount_of q f axis high / 2 ^ (d * c.level)) dims_same (let_in_is q f axis high c.level) in
    let b = outside_grows (cell_across m c axis high) (let_in q f axis high c.level) (amount_of q f axis high / 2 ^ (m.shape.dims * c.level)) l in
    omega (arith, a, b)) in
    let s = side_sum m axis high (amount_of q f axis high) mesh used in
    omega (arith, le, s)

pub sum_to_le : (n : ℕ) (f g : ℕ → ℕ) → ((k : ℕ) → k < n → f k ≤ g k) → sum_to n f ≤ sum_to n g
sum_to_le zero f g le = omega arith
sum_to_le (suc n) f g le = omega (arith, sum_to_le n f g (λ k below. le k (omega (arith, below))), le n (omega arith))

-- through all faces of the domain
abbrev pub all_faces : Settings → Mesh → ℕ → ℕ → ℕ
all_faces q m f axis = amount_of q f axis false * others (cell_lattice m) axis + amount_of q f axis true * others (cell_lattice m) axis

pub inflow_within : (q : Settings) (m : Mesh) (f finest : ℕ) → IsMesh m → m.shape ≡ q.shape → IsNoFiner m finest → HasFittingRates q f m.shape.dims finest → inflow_of q m f ≤ sum_to m.shape.dims (all_faces q m f)
inflow_within q m f finest mesh shape coarse fit =
    let low : ℕ → Loc → ℕ = λ axis c. when_outside (cell_across m c axis false) (entering false (face_pair q m f c axis false)) in
    let high : ℕ → Loc → ℕ = λ axis c. when_outside (cell_across m c axis true) (entering true (face_pair q m f c axis true)) in
    let split : inflow_of q m f ≡ sum_to m.shape.dims (λ axis. sum_cells m (λ c. low axis c + high axis c)) = cells_axes m m.shape.dims (λ c axis. low axis c + high axis c) in
    let le = sum_to_le m.shape.dims (λ axis. sum_cells m (λ c. low axis c + high axis c)) (all_faces q m f)
    (λ axis used.
    omega (arith, cells_plus m (low axis) (high axis), side_inflow q m f axis finest false mesh shape coarse fit used, side_inflow q m f axis finest true mesh shape coarse fit used)) in
    omega (arith, split, le)
