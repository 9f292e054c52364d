-- Both cells at a face see the same pass it.
use Rattle.std.proofs.Common.{◌≡◌, ℕ, ◌<◌, Bool, true, false, Option, Some, ap, sym, ◌∙◌}
use Rattle.std.specs.Prelude.{option_and_then}
use Rattle.morton_order.specs.declared.space.Loc.{Loc}
use Rattle.morton_order.specs.declared.space.Shape.{Shape}
use Rattle.morton_order.specs.Space.{IsIn}
use Rattle.morton_order.proofs.Crossing.{across-back, crossed_level}
use Rattle.problem_set.specs.Settings.{Settings}
use Rattle.mesh_rules.specs.Mesh.{Mesh, cell_lattice}
use Rattle.mesh_rules.specs.Look.{look}
use Rattle.mesh_rules.specs.Fields.{moves_at, rates_at}
use Rattle.mesh_rules.specs.Faces.{Looks, Pair, cell_across, looks_at, own_pair, pair, seen_in, seen_next, seen_second}
use Rattle.mesh_laws.proofs.Balances.{IsMirrored}

-- the part of a pair in a direction
abbrev pub passing : Bool → Pair → ℕ
passing true x = x.right
passing false x = x.left

-- what passes a cell's own face at a side, in a direction
abbrev pub own_part : Settings → Mesh → ℕ → ℕ → Bool → Bool → Loc → ℕ
own_part p m f axis right high c = passing right (own_pair p m f c axis high)

same_looks : (a b c d e f g h : ℕ) → a ≡ e → b ≡ f → c ≡ g → d ≡ h →
    ◌≡◌ {A = Looks} (record { far_below = a; below = b; above = c; far_above = d }) (record { far_below = e; below = f; above = g; far_above = h })
same_looks a b c d e f g h p q r s = cc

-- across a face the same four totals are seen from either side
mirrored_looks : (p : Settings) (m : Mesh) (f axis : ℕ) (c o : Loc) → axis < 3 → IsIn (cell_lattice m) o → cell_across m o axis false ≡ Some c → looks_at p m f c axis true ≡ looks_at p m f o axis false
mirrored_looks p m f axis c o used inside meet =
    let s : Shape = cell_lattice m in
    let level = crossed_level s o axis false c meet in
    let back = across-back s o c axis false inside used meet in
    same_looks (seen_next p m f c axis false) (look m f c) (seen_next p m f c axis true) (seen_second p m f c axis true)
    (seen_second p m f o axis false) (seen_next p m f o axis false) (look m f o) (seen_next p m f o axis true)
    (ap (λ v. seen_in p m f axis false v (cell_across m c axis false)) level ∙ sym (ap (λ (v : Option Loc). seen_in p m f axis false o.level (option_and_then (λ x. cell_across m x axis false) v)) meet))
    (sym (ap (seen_in p m f axis false o.level) meet))
    (ap (seen_in p m f axis true c.level) back)
    (ap (λ (v : Option Loc). seen_in p m f axis true c.level (option_and_then (λ x. cell_across m x axis true) v)) back ∙ ap (λ v. seen_in p m f axis true v (cell_across m o axis true)) level)

pub mirrored : (p : Settings) (m : Mesh) (f axis : ℕ) (right : Bool) → axis < 3 → IsMirrored (own_part p m f axis right) m axis
mirrored p m f axis right used c o inside meet =
    ap (λ v. passing right (pair (moves_at p f).order (rates_at p f axis v) (looks_at p m f c axis true))) (crossed_level (cell_lattice m) o axis false c meet)
    ∙ ap (λ (v : Looks). passing right (pair (moves_at p f).order (rates_at p f axis o.level) v)) (mirrored_looks p m f axis c o used inside meet)
