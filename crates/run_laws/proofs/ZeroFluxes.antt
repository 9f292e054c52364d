-- Where nothing enters a leaf, nothing of a field is on it after a stage.
use Rattle.std.proofs.Common.{◌≡◌, ℕ, ◌+◌, ◌-◌, ◌*◌, ◌/◌, ◌<◌, ◌≤◌, Bool, true, false, cond, ◌&&◌, ◌||◌, not, Option, Some, None, List, [], ◌∷◌, refl, arith, ap, sym, ◌∙◌}
use Rattle.std.specs.List.{list_any, range_with_len}
use Rattle.std.proofs.Math.Nat.{zero-div}
use Rattle.std.proofs.lemmas.Bool.{and_parts, false≢true}
use Rattle.std.proofs.lemmas.List.Elements.{All-get_or}
use Rattle.morton_order.specs.declared.space.Loc.{Loc}
use Rattle.morton_order.specs.Space.{child}
use Rattle.morton_order.proofs.Any.{any_range-has}
use Rattle.block_tree.specs.Behind.{behind, children_at}
use Rattle.mesh_num.specs.Portion.{portion}
use Rattle.mesh_num.specs.Rate.{rate}
use Rattle.package_fields.specs.declared.field.Field.{Field}
use Rattle.package_fields.specs.declared.flag.Flag.{Flag}
use Rattle.package_fields.specs.declared.flag.Flag.TheVariants.{Cell, Independent, Derived, OneCopy, FillGhost, WithFluxes}
use Rattle.package_fields.specs.Flags.{has, none_twice, one_of, permitted}
use Rattle.problem_set.specs.Rates.{downwards, upwards, velocity}
use Rattle.problem_set.specs.Settings.{Settings}
use Rattle.problem_set.specs.declared.problem.Problem.{Problem}
use Rattle.problem_set.specs.SettingsOf.{settings_of}
use Rattle.mesh_settings.specs.declared.words.FaceKind.{FaceKind}
use Rattle.mesh_settings.specs.declared.words.FaceKind.TheVariants.{Periodic, Outflow, Reflecting, Inflow}
use Rattle.mesh_rules.specs.Sums.{sum_over}
use Rattle.mesh_rules.specs.Mesh.{Mesh, block_of, is_inner, stored}
use Rattle.mesh_rules.specs.Fields.{field_at, field_count, has_fluxes, has_ghosts, kind_at, moves_at}
use Rattle.mesh_rules.specs.Faces.{Pair, cell_across, face_pair, face_pair_by, looks_at, own_pair, pair_outside, reconstructed, sum_pairs}
use Rattle.mesh_rules.specs.Stage.{gain, loss, staged}
use Rattle.mesh_rules.specs.Mask.{comes_across, exchange_calls}
use Rattle.mesh_laws.proofs.Grids.{sum_zero}
use Rattle.mesh_laws.proofs.Pays.{nothing_from_nothing}
use Rattle.run_laws.proofs.ZeroRegions.{IsSite}
use Rattle.run_laws.proofs.ZeroSeen.{seen_nothing}

-- a field without ghost zones has no fluxes
fluxes_need : (a b c d : Bool) (w i g : Bool) → (a && b && c && d && (not w || (i && g))) ≡ true → g ≡ false → w ≡ false
fluxes_need a b c d w i g h none = by w i g (and_parts (a && b && c && d) (not w || (i && g)) h).1 none
  where
    by : (w i g : Bool) → (not w || (i && g)) ≡ true → g ≡ false → w ≡ false
    by false i g h none = refl
    by true true g h none = absurd (false≢true (sym none ∙ h))
    by true false g h none = absurd (false≢true h)

pub no_fluxes : (p : Problem) (f : ℕ) → f < field_count (settings_of p) → has_ghosts (settings_of p) f ≡ false → has_fluxes (settings_of p) f ≡ false
no_fluxes p f within none =
    let flags : List Flag = (field_at (settings_of p) f).flags in
    let ok : permitted flags ≡ true = All-get_or (λ (x : Field). permitted x.flags ≡ true) p.fields.fields f _ within p.fields_sound.fields_sound.all_permitted in
    fluxes_need (none_twice flags) (has Cell flags) (one_of (has Independent flags) (has OneCopy flags)) (not (has Derived flags)) (has WithFluxes flags) (has Independent flags) (has FillGhost flags) ok none

-- nothing passes
record IsStill (x : Pair) : Type 0 where
  right : x.right ≡ 0
  left : x.left ≡ 0

no_portion : (x d : ℕ) → portion x 0 d ≡ 0
no_portion x d = let e : x * 0 ≡ 0 = omega arith in ap (λ (n : ℕ). n / d) e ∙ zero-div d

own_still : (q : Settings) (m : Mesh) (f : ℕ) (c : Loc) (axis : ℕ) (high : Bool) → has_fluxes q f ≡ false → IsStill (own_pair q m f c axis high)
own_still q m f c axis high none =
    let x = looks_at q m f c axis high in
    let order : ℕ = (moves_at q f).order in
    record {
      right = ap (λ (b : Bool). portion (reconstructed order x.far_below x.below x.above) (cond b (rate (upwards (velocity (moves_at q f) axis)) (moves_at q f).k c.level) 0) q.denominator) none
          ∙ no_portion (reconstructed order x.far_below x.below x.above) q.denominator;
      left = ap (λ (b : Bool). portion (reconstructed order x.far_above x.above x.below) (cond b (rate (downwards (velocity (moves_at q f) axis)) (moves_at q f).k c.level) 0) q.denominator) none
          ∙ no_portion (reconstructed order x.far_above x.above x.below) q.denominator;
    }

outside_still : (kind : FaceKind) (own : Pair) → IsStill own → IsStill (pair_outside kind own)
outside_still Periodic own h = h
outside_still Outflow own h = h
outside_still Inflow own h = h
outside_still Reflecting own h = record { right = refl; left = refl }

over_none : (xs : List ℕ) (g : ℕ → ℕ) → ((j : ℕ) → g j ≡ 0) → sum_over xs g ≡ 0
over_none [] g e = refl
over_none (x ∷ xs) g e = let a = e x in let b = over_none xs g e in omega arith

face_still : (q : Settings) (m : Mesh) (f : ℕ) (c : Loc) (axis : ℕ) (high : Bool) → has_fluxes q f ≡ false → IsStill (face_pair q m f c axis high)
unfolding face_pair
face_still q m f c axis high none = by (cell_across m c axis high)
  where
    inner : (o : Loc) (b : Bool) → IsStill (cond b (sum_pairs (children_at m.shape.dims axis (not high)) (λ j. own_pair q m f (child m.shape.dims o j) axis (not high))) (own_pair q m f c axis high))
    inner o true = record {
      right = over_none (children_at m.shape.dims axis (not high)) (λ j. (own_pair q m f (child m.shape.dims o j) axis (not high)).right) (λ j. (own_still q m f (child m.shape.dims o j) axis (not high) none).right);
      left = over_none (children_at m.shape.dims axis (not high)) (λ j. (own_pair q m f (child m.shape.dims o j) axis (not high)).left) (λ j. (own_still q m f (child m.shape.dims o j) axis (not high) none).left);
    }
    inner o false = own_still q m f c axis high none

    by : (o : Option Loc) → IsStill (face_pair_by q m f c axis high o)
    by None = outside_still (kind_at q axis high) (own_pair q m f c axis high) (own_still q m f c axis high none)
    by (Some o) = inner o (is_inner m (block_of m o))

-- what is in a cell of nothing that gains nothing
staged_nothing : (q : Settings) (m : Mesh) (f : ℕ) (c : Loc) → stored m f c ≡ 0 → gain q m f c ≡ 0 → staged q m f c ≡ 0
staged_nothing q m f c a b = by (stored m f c) (gain q m f c) (loss q m f c) a b
  where
    by : (x y z : ℕ) → x ≡ 0 → y ≡ 0 → x + y - z ≡ 0
    by x y z e d = omega arith

-- where an exchange does not call for a field
both_none : (a b : Bool) → (a || b) ≡ false → (a ≡ false) × (b ≡ false)
both_none true b e = absurd (false≢true (sym e))
both_none false b e = (refl, e)

fails_at : (t : ℕ → Bool) (n k : ℕ) → list_any t (range_with_len 0 n) ≡ false → k < n → t k ≡ false
fails_at t n k none small = by (t k) refl
  where
    by : (b : Bool) → t k ≡ b → t k ≡ false
    by false e = e
    by true e = absurd (false≢true (sym none ∙ any_range-has t 0 n k (omega arith) (omega arith) e))

-- after a stage nothing is in a cell of a leaf that had nothing and for which the exchange does not call
pub stage_nothing : (p : Problem) (m : Mesh) (f : ℕ) (c : Loc) → ((axis : ℕ) → axis < m.shape.dims → IsSite m c axis) → p.alloc_threshold ≡ 0 → f < field_count (settings_of p) →
    ((d : Loc) → block_of m d ≡ block_of m c → stored m f d ≡ 0) → exchange_calls (settings_of p) m f (block_of m c) ≡ false → staged (settings_of p) m f c ≡ 0
stage_nothing p m f c sites threshold within empty none = staged_nothing q m f c (empty c refl) (by (has_ghosts q f) refl)
  where
    q : Settings
    q = settings_of p

    l : Loc
    l = block_of m c

    across : ℕ → Bool
    across axis = comes_across q m f l axis false (behind m.shape (is_inner m) l axis false) || comes_across q m f l axis true (behind m.shape (is_inner m) l axis true)

    positive : 1 ≤ q.denominator
    positive = p.stepping_sound.cycle_sound.least_denominator

    sides : has_ghosts q f ≡ true → (axis : ℕ) → axis < m.shape.dims → (face_pair q m f c axis false).right + (face_pair q m f c axis true).left ≡ 0
    sides ghosts axis used =
        let site = sites axis used in
        let any : list_any across (range_with_len 0 m.shape.dims) ≡ false = ap (λ (b : Bool). b && list_any across (range_with_len 0 m.shape.dims)) (sym ghosts) ∙ none in
        let pair = both_none (comes_across q m f l axis false (behind m.shape (is_inner m) l axis false)) (comes_across q m f l axis true (behind m.shape (is_inner m) l axis true)) (fails_at across m.shape.dims axis any used) in
        let low : (face_pair q m f c axis false).right ≡ 0 = (nothing_from_nothing q m f c axis false positive site.mesh site.inside site.leaf used).enters (seen_nothing q m f c axis false site threshold empty pair.0) in
        let high : (face_pair q m f c axis true).left ≡ 0 = (nothing_from_nothing q m f c axis true positive site.mesh site.inside site.leaf used).enters (seen_nothing q m f c axis true site threshold empty pair.1) in
        omega arith

    still : has_ghosts q f ≡ false → (axis : ℕ) → axis < m.shape.dims → (face_pair q m f c axis false).right + (face_pair q m f c axis true).left ≡ 0
    still ghosts axis used =
        let gone = no_fluxes p f within ghosts in
        let low : (face_pair q m f c axis false).right ≡ 0 = (face_still q m f c axis false gone).right in
        let high : (face_pair q m f c axis true).left ≡ 0 = (face_still q m f c axis true gone).left in
        omega arith

    by : (b : Bool) → has_ghosts q f ≡ b → gain q m f c ≡ 0
    by true e = sum_zero m.shape.dims (λ axis. (face_pair q m f c axis false).right + (face_pair q m f c axis true).left) (sides e)
    by false e = sum_zero m.shape.dims (λ axis. (face_pair q m f c axis false).right + (face_pair q m f c axis true).left) (still e)
