-- No look is greater than its field's total.
use Rattle.std.proofs.Common.{◌≡◌, ℕ, zero, suc, ◌+◌, ◌<◌, ◌≤◌, refl, arith, ap, subst, sym, inl, inr}
use Rattle.std.proofs.lemmas.Bool.{cases_eq}
use Rattle.morton_order.specs.declared.space.Loc.{Loc}
use Rattle.morton_order.specs.Space.{IsIn, child, child_number, parent, parts}
use Rattle.morton_order.proofs.Family.{child-parent, child_number_below, parent_inside}
use Rattle.morton_order.proofs.Touching.{same_as}
use Rattle.mesh_rules.specs.Sums.{sum_to}
use Rattle.mesh_rules.specs.Mesh.{IsMesh, Mesh, cell_lattice, total_of}
use Rattle.mesh_rules.specs.Look.{look}
use Rattle.mesh_laws.proofs.Grids.{grid}
use Rattle.mesh_laws.proofs.Lattices.{place}
use Rattle.mesh_laws.proofs.Looks.{children_add_up}
use Rattle.mesh_laws.proofs.Remaps.{total_is_roots}

-- one of what is added up
pub one_of_sum : (n : ℕ) (g : ℕ → ℕ) (i : ℕ) → i < n → g i ≤ sum_to n g
one_of_sum zero g i h = absurd (omega arith)
one_of_sum (suc n) g i h = elim (cases_eq i n) [
  | inl e ↦ subst (λ k. g k ≤ sum_to n g + g n) (sym e) (omega arith)
  | inr other ↦ let before = one_of_sum n g i (omega arith) in omega arith
]

one_of_grid : (a b c : ℕ) (h : ℕ → ℕ → ℕ → ℕ) (x y z : ℕ) → x < a → y < b → z < c → h x y z ≤ grid a b c h
one_of_grid a b c h x y z p q r =
    let one = one_of_sum c (h x y) z r in
    let two = one_of_sum b (λ v. sum_to c (h x v)) y q in
    let three = one_of_sum a (λ u. sum_to b (λ v. sum_to c (h u v))) x p in
    omega arith

look_by : (m : Mesh) (f : ℕ) → IsMesh m → (k : ℕ) (c : Loc) → c.level ≡ k → IsIn (cell_lattice m) c → look m f c ≤ total_of m f
look_by m f mesh zero c at inside =
    let root : c ≡ place 0 c.l1 c.l2 c.l3 = same_as (place 0 c.l1 c.l2 c.l3) c at refl refl refl in
    let on : IsIn (cell_lattice m) (place 0 c.l1 c.l2 c.l3) = subst (IsIn (cell_lattice m)) root inside in
    let one = one_of_grid _ _ _ (λ x y z. look m f (place 0 x y z)) c.l1 c.l2 c.l3 on.within1 on.within2 on.within3 in
    let seen : look m f c ≡ look m f (place 0 c.l1 c.l2 c.l3) = ap (look m f) root in
    omega (arith, total_is_roots m f mesh)
look_by m f mesh (suc k) c at inside =
    let d : ℕ = m.shape.dims in
    let up : Loc = parent d c in
    let deep : 1 ≤ c.level = omega arith in
    let above = look_by m f mesh k up (omega arith) (parent_inside (cell_lattice m) c inside deep) in
    let one = one_of_sum (parts d) (λ j. look m f (child d up j)) (child_number d c) (child_number_below d c mesh.shape.least mesh.shape.most) in
    let seen : look m f (child d up (child_number d c)) ≡ look m f c = ap (look m f) (child-parent d c deep) in
    omega (arith, children_add_up m f up mesh)

pub look_within : (m : Mesh) (f : ℕ) → IsMesh m → (c : Loc) → IsIn (cell_lattice m) c → look m f c ≤ total_of m f
look_within m f mesh c inside = look_by m f mesh c.level c refl inside
