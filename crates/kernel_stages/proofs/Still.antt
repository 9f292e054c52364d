-- Where a field has no fluxes, a stage changes nothing.
use Rattle.std.proofs.Common.{◌≡◌, ℕ, zero, suc, ◌+◌, ◌-◌, ◌*◌, ◌/◌, Bool, true, false, cond, not, Option, Some, None, List, [], ◌∷◌, refl, arith, ap, ◌∙◌}
use Rattle.mesh_num.specs.Portion.{portion}
use Rattle.mesh_num.specs.Rate.{rate}
use Rattle.morton_order.specs.declared.space.Loc.{Loc}
use Rattle.morton_order.specs.Space.{child}
use Rattle.block_tree.specs.Behind.{children_at}
use Rattle.problem_set.specs.Rates.{downwards, upwards, velocity}
use Rattle.problem_set.specs.Settings.{Settings}
use Rattle.mesh_settings.specs.declared.words.FaceKind.{FaceKind}
use Rattle.mesh_settings.specs.declared.words.FaceKind.TheVariants.{Periodic, Outflow, Reflecting, Inflow}
use Rattle.mesh_rules.specs.Sums.{sum_over, sum_to}
use Rattle.mesh_rules.specs.Mesh.{Mesh, block_of, is_inner, stored}
use Rattle.mesh_rules.specs.Fields.{FaceRates, has_fluxes, kind_at, moves_at, rates_at}
use Rattle.mesh_rules.specs.Faces.{Looks, Pair, cell_across, face_pair, face_pair_by, looks_at, no_pair, own_pair, pair, pair_outside, reconstructed}
use Rattle.mesh_rules.specs.Stage.{cell_inflow, cell_outflow, gain, loss, staged, when_outside}

-- nothing of a field without fluxes passes a face
nothing_by : (x d : ℕ) → portion x 0 d ≡ 0
nothing_by x d = ap (λ v. v / d) (times x) ∙ quotient d
  where
    times : (x : ℕ) → x * 0 ≡ 0
    times x = omega arith

    quotient : (d : ℕ) → 0 / d ≡ 0
    quotient zero = refl
    quotient (suc d) = omega arith

still_pair : (order : ℕ) (rates : FaceRates) (x : Looks) → rates.right ≡ 0 → rates.left ≡ 0 → pair order rates x ≡ no_pair
still_pair order rates x e g =
    two (portion (reconstructed order x.far_below x.below x.above) rates.right rates.denominator) (portion (reconstructed order x.far_above x.above x.below) rates.left rates.denominator)
    (ap (λ v. portion (reconstructed order x.far_below x.below x.above) v rates.denominator) e ∙ nothing_by (reconstructed order x.far_below x.below x.above) rates.denominator)
    (ap (λ v. portion (reconstructed order x.far_above x.above x.below) v rates.denominator) g ∙ nothing_by (reconstructed order x.far_above x.above x.below) rates.denominator)
  where
    two : (a c : ℕ) → a ≡ 0 → c ≡ 0 → ◌≡◌ {A = Pair} (record { right = a; left = c }) no_pair
    two a c p q = ap (λ v. record { right = v; left = c }) p ∙ ap (λ v. record { right = 0; left = v }) q

still_own : (p : Settings) (m : Mesh) (f : ℕ) (c : Loc) (axis : ℕ) (high : Bool) → has_fluxes p f ≡ false → own_pair p m f c axis high ≡ no_pair
still_own p m f c axis high none =
    still_pair (moves_at p f).order (rates_at p f axis c.level) (looks_at p m f c axis high) (ap (λ t. cond t (rate (upwards (velocity (moves_at p f) axis)) (moves_at p f).k c.level) 0) none) (ap (λ t. cond t (rate (downwards (velocity (moves_at p f) axis)) (moves_at p f).k c.level) 0) none)

no_sum : (js : List ℕ) (each : ℕ → ℕ) → ((j : ℕ) → each j ≡ 0) → sum_over js each ≡ 0
no_sum [] each h = refl
no_sum (j ∷ js) each h = let a = h j in let b = no_sum js each h in omega arith

outside_still : (k : FaceKind) (x : Pair) → x ≡ no_pair → pair_outside k x ≡ no_pair
outside_still Reflecting x e = refl
outside_still Periodic x e = e
outside_still Outflow x e = e
outside_still Inflow x e = e

still_face : (p : Settings) (m : Mesh) (f : ℕ) (c : Loc) (axis : ℕ) (high : Bool) → has_fluxes p f ≡ false → face_pair p m f c axis high ≡ no_pair
unfolding face_pair
still_face p m f c axis high none = by (cell_across m c axis high)
  where
    sums : (o : Loc) (t : Bool) → cond t (record { right = sum_over (children_at m.shape.dims axis (not high)) (λ j. (own_pair p m f (child m.shape.dims o j) axis (not high)).right); left = sum_over (children_at m.shape.dims axis (not high)) (λ j. (own_pair p m f (child m.shape.dims o j) axis (not high)).left) }) (own_pair p m f c axis high) ≡ no_pair
    sums o true =
        ap (λ v. record { right = v; left = sum_over (children_at m.shape.dims axis (not high)) (λ j. (own_pair p m f (child m.shape.dims o j) axis (not high)).left) }) (no_sum (children_at m.shape.dims axis (not high)) (λ j. (own_pair p m f (child m.shape.dims o j) axis (not high)).right) (λ j. ap (λ (x : Pair). x.right) (still_own p m f (child m.shape.dims o j) axis (not high) none)))
        ∙ ap (λ v. record { right = 0; left = v }) (no_sum (children_at m.shape.dims axis (not high)) (λ j. (own_pair p m f (child m.shape.dims o j) axis (not high)).left) (λ j. ap (λ (x : Pair). x.left) (still_own p m f (child m.shape.dims o j) axis (not high) none)))
    sums o false = still_own p m f c axis high none

    by : (v : Option Loc) → face_pair_by p m f c axis high v ≡ no_pair
    by None = outside_still (kind_at p axis high) (own_pair p m f c axis high) (still_own p m f c axis high none)
    by (Some o) = sums o (is_inner m (block_of m o))

pub no_terms : (n : ℕ) (each : ℕ → ℕ) → ((j : ℕ) → each j ≡ 0) → sum_to n each ≡ 0
no_terms zero each h = refl
no_terms (suc n) each h = let a = h n in let b = no_terms n each h in omega arith

pub still_cell : (p : Settings) (m : Mesh) (f : ℕ) (c : Loc) → has_fluxes p f ≡ false → staged p m f c ≡ stored m f c
still_cell p m f c none =
    let none_at : (axis : ℕ) (high : Bool) → face_pair p m f c axis high ≡ no_pair = λ axis high. still_face p m f c axis high none in
    let g : gain p m f c ≡ 0 = no_terms m.shape.dims (λ axis. (face_pair p m f c axis false).right + (face_pair p m f c axis true).left) (λ axis. both _ _ (ap (λ (x : Pair). x.right) (none_at axis false)) (ap (λ (x : Pair). x.left) (none_at axis true))) in
    let t : loss p m f c ≡ 0 = no_terms m.shape.dims (λ axis. (face_pair p m f c axis false).left + (face_pair p m f c axis true).right) (λ axis. both _ _ (ap (λ (x : Pair). x.left) (none_at axis false)) (ap (λ (x : Pair). x.right) (none_at axis true))) in
    joined (stored m f c) (gain p m f c) (loss p m f c) g t
  where
    both : (a b : ℕ) → a ≡ 0 → b ≡ 0 → a + b ≡ 0
    both a b e f = omega arith

    joined : (s g l : ℕ) → g ≡ 0 → l ≡ 0 → s + g - l ≡ s
    joined s g l e f = omega arith

none_outside : (o : Option Loc) (n : ℕ) → n ≡ 0 → when_outside o n ≡ 0
none_outside None n e = e
none_outside (Some o) n e = refl

pub still_flows : (p : Settings) (m : Mesh) (f : ℕ) (c : Loc) → has_fluxes p f ≡ false → (cell_inflow p m f c ≡ 0) × (cell_outflow p m f c ≡ 0)
still_flows p m f c none =
    let none_at : (axis : ℕ) (high : Bool) → face_pair p m f c axis high ≡ no_pair = λ axis high. still_face p m f c axis high none in (
      no_terms m.shape.dims (λ axis. when_outside (cell_across m c axis false) (face_pair p m f c axis false).right + when_outside (cell_across m c axis true) (face_pair p m f c axis true).left)
          (λ axis. both _ _ (none_outside (cell_across m c axis false) _ (ap (λ (x : Pair). x.right) (none_at axis false))) (none_outside (cell_across m c axis true) _ (ap (λ (x : Pair). x.left) (none_at axis true)))),
      no_terms m.shape.dims (λ axis. when_outside (cell_across m c axis false) (face_pair p m f c axis false).left + when_outside (cell_across m c axis true) (face_pair p m f c axis true).right)
          (λ axis. both _ _ (none_outside (cell_across m c axis false) _ (ap (λ (x : Pair). x.left) (none_at axis false))) (none_outside (cell_across m c axis true) _ (ap (λ (x : Pair). x.right) (none_at axis true)))),
    )
  where
    both : (a b : ℕ) → a ≡ 0 → b ≡ 0 → a + b ≡ 0
    both a b e f = omega arith
