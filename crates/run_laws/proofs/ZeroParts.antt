-- What senders of the next finer and the next coarser level send: the cells next to the side, or what they are seen in.
use Rattle.std.proofs.Common.{◌≡◌, ℕ, zero, suc, ◌+◌, ◌-◌, ◌*◌, ◌/◌, ◌%◌, ◌<◌, ◌≤◌, Bool, true, false, cond, not, nat_lt, nat_eq, map, refl, arith, ap, subst, sym, ◌∙◌}
use Rattle.std.specs.List.{list_any}
use Rattle.std.proofs.Math.Nat.{div-add-mod', div-div-eq-div-mul}
use Rattle.std.proofs.lemmas.Bool.{lt-ltb}
use Rattle.std.proofs.lemmas.Bool.Decides.{nat_tests}
use Rattle.std.proofs.lemmas.Nat.{div-mul-add, mod-mul-add, mod_below}
use Rattle.morton_order.specs.declared.space.Loc.{Loc}
use Rattle.morton_order.specs.Space.{axis_of, child, child_number, factor, parent, parts}
use Rattle.morton_order.proofs.Family.{child-parent, child_number_below}
use Rattle.morton_order.proofs.Touching.{same_as}
use Rattle.block_tree.specs.Behind.{children_at, is_high_half}
use Rattle.block_tree.proofs.Ancestors.{half-is, is_parity}
use Rattle.block_tree.proofs.Behinds.{passes_half}
use Rattle.mesh_rules.specs.Mesh.{IsMesh, Mesh, block_of, cells_along}
use Rattle.mesh_rules.specs.Look.{look}
use Rattle.mesh_rules.specs.Regions.{coarse_span, coarser, finer, own_span, region, sender_by}
use Rattle.mesh_rules.specs.Mask.{some_above}
use Rattle.mesh_laws.proofs.Looks.{block_parent}
use Rattle.run_laws.proofs.ZeroSteps.{IsNearEnd}
use Rattle.run_laws.proofs.ZeroRegions.{InSpan, IsAtEnd, IsSite, any_filtered, any_mapped, block_axis, edged, not_less, own_end, own_in, parent_along, region_by}

-- halves of blocks
half_of : (n : ℕ) → n % 2 ≡ 0 → n / 2 * 2 ≡ n
half_of n e = let d : n / 2 * 2 + n % 2 ≡ n = div-add-mod' n 2 in omega arith

by_one : (x : ℕ) → x / 1 ≡ x
by_one x = omega arith

halves : (dims k n x : ℕ) → (k < dims → n % 2 ≡ 0) → x / (n / factor dims k) / factor dims k ≡ x / n
halves dims k n x even = by (nat_lt k dims) refl
  where
    less : (a b : ℕ) → nat_lt a b ≡ true → a < b
    less a b h = grind (arith, nat_tests)

    by : (b : Bool) → nat_lt k dims ≡ b → x / (n / cond b 2 1) / cond b 2 1 ≡ x / n
    by true e = div-div-eq-div-mul x (n / 2) 2 ∙ ap (λ v. x / v) (half_of n (even (less k dims e)))
    by false e = by_one (x / (n / 1)) ∙ ap (λ v. x / v) (by_one n)

-- the child of a cell's block in whose part of the block the cell lies
part_of : Mesh → Loc → Loc
part_of m o = record {
  level = o.level + 1;
  l1 = o.l1 / (cells_along m 0 / factor m.shape.dims 0);
  l2 = o.l2 / (cells_along m 1 / factor m.shape.dims 1);
  l3 = o.l3 / (cells_along m 2 / factor m.shape.dims 2);
}

part_axis : (m : Mesh) (o : Loc) (k : ℕ) → k < 3 → axis_of (part_of m o) k ≡ axis_of o k / (cells_along m k / factor m.shape.dims k)
unfolding part_of
part_axis m o zero h = refl
part_axis m o (suc zero) h = refl
part_axis m o (suc (suc zero)) h = refl
part_axis m o (suc (suc (suc k))) h = absurd (omega arith)

part_level : (m : Mesh) (o : Loc) → (part_of m o).level ≡ o.level + 1
unfolding part_of
part_level m o = refl

parent_part : (m : Mesh) (o : Loc) → ((k : ℕ) → k < m.shape.dims → cells_along m k % 2 ≡ 0) → parent m.shape.dims (part_of m o) ≡ block_of m o
unfolding part_of
parent_part m o even = same_as (block_of m o) (parent m.shape.dims (part_of m o)) (omega arith)
    (halves m.shape.dims 0 (cells_along m 0) o.l1 (even 0)) (halves m.shape.dims 1 (cells_along m 1) o.l2 (even 1)) (halves m.shape.dims 2 (cells_along m 2) o.l3 (even 2))

child_part : (m : Mesh) (o : Loc) → ((k : ℕ) → k < m.shape.dims → cells_along m k % 2 ≡ 0) → child m.shape.dims (block_of m o) (child_number m.shape.dims (part_of m o)) ≡ part_of m o
child_part m o even =
    let up = part_level m o in
    ap (λ (b : Loc). child m.shape.dims b (child_number m.shape.dims (part_of m o))) (sym (parent_part m o even))
    ∙ child-parent m.shape.dims (part_of m o) (omega arith)

-- some half there is
some_half : (dims k n : ℕ) → 1 ≤ n → (k < dims → n % 2 ≡ 0) → 1 ≤ n / factor dims k
some_half dims k n some even = by (nat_lt k dims) refl
  where
    less : (a b : ℕ) → nat_lt a b ≡ true → a < b
    less a b h = grind (arith, nat_tests)

    by : (b : Bool) → nat_lt k dims ≡ b → 1 ≤ n / cond b 2 1
    by true e = let d = half_of n (even (less k dims e)) in omega arith
    by false e = let d = by_one n in omega arith

half_in : (m : Mesh) (o : Loc) (k : ℕ) → IsMesh m → ((k : ℕ) → k < m.shape.dims → cells_along m k % 2 ≡ 0) → k < 3 → InSpan (coarse_span m (part_of m o) k) (axis_of o k)
half_in m o k mesh even h =
    let x : ℕ = axis_of o k in
    let n : ℕ = cells_along m k / factor m.shape.dims k in
    let some : 1 ≤ n = some_half m.shape.dims k (cells_along m k) (mesh.some_cells k h) (even k) in
    let e : axis_of (part_of m o) k * n ≡ x / n * n = ap (λ v. v * n) (part_axis m o k h) in
    let d : x / n * n + x % n ≡ x = div-add-mod' x n in
    let r : x % n < n = mod_below x n some in
    record { low = omega arith; high = omega arith }

-- what lies at the end of a row lies at the end of a half of it, of the first half upwards and of the last one downwards
record HalfEnd (high : Bool) (x h : ℕ) : Type 0 where
  near : IsNearEnd high h x
  parity : x / h % 2 ≡ cond high 0 1

half_end : (high : Bool) (x n h : ℕ) → 1 ≤ h → h * 2 ≡ n → IsNearEnd high n x → HalfEnd high x h
half_end true x n h some two near =
    let d : x / n * n + x % n ≡ x = div-add-mod' x n in
    let e : x / n * (h * 2) ≡ x / n * n = ap (λ v. x / n * v) two in
    let is : x ≡ (x / n * 2) * h + 0 = omega arith in
    let q : x / h ≡ x / n * 2 = ap (λ v. v / h) is ∙ div-mul-add (x / n * 2) h 0 (omega arith) in
    record { near = ap (λ v. v % h) is ∙ mod-mul-add (x / n * 2) h 0 (omega arith); parity = ap (λ v. v % 2) q ∙ even (x / n) }
  where
    even : (a : ℕ) → a * 2 % 2 ≡ 0
    even a = omega arith
half_end false x n h some two near =
    let d : x / n * n + x % n ≡ x = div-add-mod' x n in
    let e : x / n * (h * 2) ≡ x / n * n = ap (λ v. x / n * v) two in
    let is : x ≡ (x / n * 2 + 1) * h + (h - 1) = omega arith in
    let q : x / h ≡ x / n * 2 + 1 = ap (λ v. v / h) is ∙ div-mul-add (x / n * 2 + 1) h (h - 1) (omega arith) in
    let r : x % h ≡ h - 1 = ap (λ v. v % h) is ∙ mod-mul-add (x / n * 2 + 1) h (h - 1) (omega arith) in
    record { near = omega arith; parity = ap (λ v. v % 2) q ∙ odd (x / n) }
  where
    odd : (a : ℕ) → (a * 2 + 1) % 2 ≡ 1
    odd a = omega arith

pub two_parts : (dims k : ℕ) → k < dims → factor dims k ≡ 2
two_parts dims k h = ap (λ (b : Bool). cond b 2 1) (lt-ltb k dims h)

half_span_end : (m : Mesh) (o : Loc) (k : ℕ) (high : Bool) → k < 3 → IsNearEnd high (cells_along m k / factor m.shape.dims k) (axis_of o k) → IsAtEnd high (coarse_span m (part_of m o) k) (axis_of o k)
half_span_end m o k true h near =
    let x : ℕ = axis_of o k in
    let n : ℕ = cells_along m k / factor m.shape.dims k in
    let e : axis_of (part_of m o) k * n ≡ x / n * n = ap (λ v. v * n) (part_axis m o k h) in
    let d : x / n * n + x % n ≡ x = div-add-mod' x n in
    omega arith
half_span_end m o k false h near =
    let x : ℕ = axis_of o k in
    let n : ℕ = cells_along m k / factor m.shape.dims k in
    let e : axis_of (part_of m o) k * n ≡ x / n * n = ap (λ v. v * n) (part_axis m o k h) in
    let d : x / n * n + x % n ≡ x = div-add-mod' x n in
    omega arith

half_ends : (m : Mesh) (o : Loc) (axis : ℕ) (high : Bool) → IsMesh m → ((k : ℕ) → k < m.shape.dims → cells_along m k % 2 ≡ 0) → axis < m.shape.dims → axis < 3 → IsNearEnd high (cells_along m axis) (axis_of o axis) →
    HalfEnd high (axis_of o axis) (cells_along m axis / factor m.shape.dims axis)
half_ends m o axis high mesh even used small near =
    let f = two_parts m.shape.dims axis used in
    half_end high (axis_of o axis) (cells_along m axis) (cells_along m axis / factor m.shape.dims axis)
    (some_half m.shape.dims axis (cells_along m axis) (mesh.some_cells axis small) (even axis))
    (ap (λ v. cells_along m axis / v * 2) f ∙ half_of (cells_along m axis) (even axis used))
    near

-- a sender of the next finer level
pub from_finer : (m : Mesh) (f t : ℕ) (c o : Loc) (axis : ℕ) (high : Bool) → IsSite m c axis → o.level ≡ c.level → IsNearEnd high (cells_along m axis) (axis_of o axis) → nat_lt t (look m f o) ≡ true →
    list_any (λ (from : Loc). some_above t (region m f from (block_of m c) axis high)) (map (child m.shape.dims (block_of m o)) (children_at m.shape.dims axis (not high))) ≡ true
from_finer m f t c o axis high site level near above =
    let dims : ℕ = m.shape.dims in
    let mesh = site.mesh in
    let most = mesh.shape.most in
    let least = mesh.shape.least in
    let used = site.used in
    let v : Loc = part_of m o in
    let j : ℕ = child_number dims v in
    let small : axis < 3 = omega arith in
    let ends = half_ends m o axis high mesh site.even used small near in
    let up = part_level m o in
    let test : Loc → Bool = λ (from : Loc). some_above t (region m f from (block_of m c) axis high) in
    let number : is_high_half j axis ≡ not high =
    half-is dims v axis least most used ∙ ap (λ (x : ℕ). nat_eq (x % 2) 1) (part_axis m o axis small)
    ∙ is_parity (axis_of o axis / (cells_along m axis / factor dims axis)) high ends.parity in
    let sent : test v ≡ true =
    region_by m f t v (block_of m c) axis high finer o
    (ap (λ (b : Bool). sender_by b (nat_lt v.level c.level)) (lt-ltb c.level v.level (omega arith)))
    (sym level)
    (λ k h. edged high 2 (coarse_span m v k) (coarse_span m v k) k axis (axis_of o k) (omega arith)
    (λ e. (half_in m o k mesh site.even h, half_span_end m o k high h (subst (λ (x : ℕ). IsNearEnd high (cells_along m x / factor dims x) (axis_of o x)) (sym e) ends.near)))
    (λ d. half_in m o k mesh site.even h))
    above in
    any_mapped test (child dims (block_of m o)) (children_at dims axis (not high))
    ∙ any_filtered (λ (i : ℕ). test (child dims (block_of m o) i)) (λ (i : ℕ). cond (not high) (is_high_half i axis) (not (is_high_half i axis))) 0 (parts dims) j (omega arith)
    (let b = child_number_below dims v least most in omega arith)
    (passes_half (is_high_half j axis) (not high) number)
    (ap test (child_part m o site.even) ∙ sent)

-- half of what lies at the end of a row, and that at the end of a pair of rows, lies at the end of a row
halved : (high : Bool) (y n : ℕ) → 1 ≤ n → IsNearEnd high n y → IsNearEnd high 2 (y / n) → IsNearEnd high n (y / 2)
halved true y n some near half =
    let d : y / n * n + y % n ≡ y = div-add-mod' y n in
    let g : y / n / 2 * 2 + y / n % 2 ≡ y / n = div-add-mod' (y / n) 2 in
    let z : y / n * n ≡ (y / n / 2 * 2) * n = ap (λ v. v * n) (let k : y / n ≡ y / n / 2 * 2 = omega arith in k) in
    let is : y ≡ (y / n / 2 * n) * 2 + 0 = omega arith in
    let q : y / 2 ≡ y / n / 2 * n + 0 = ap (λ v. v / 2) is ∙ div-mul-add (y / n / 2 * n) 2 0 (omega arith) ∙ plus_zero (y / n / 2 * n) in
    ap (λ v. v % n) q ∙ mod-mul-add (y / n / 2) n 0 (omega arith)
  where
    plus_zero : (a : ℕ) → a ≡ a + 0
    plus_zero a = omega arith
halved false y n some near half =
    let d : y / n * n + y % n ≡ y = div-add-mod' y n in
    let g : y / n / 2 * 2 + y / n % 2 ≡ y / n = div-add-mod' (y / n) 2 in
    let z : y / n * n ≡ (y / n / 2 * 2 + 1) * n = ap (λ v. v * n) (let k : y / n ≡ y / n / 2 * 2 + 1 = omega arith in k) in
    let is : y ≡ (y / n / 2 * n + (n - 1)) * 2 + 1 = omega arith in
    let q : y / 2 ≡ y / n / 2 * n + (n - 1) = ap (λ v. v / 2) is ∙ div-mul-add (y / n / 2 * n + (n - 1)) 2 1 (omega arith) in
    let r : y / 2 % n ≡ n - 1 = ap (λ v. v % n) q ∙ mod-mul-add (y / n / 2) n (n - 1) (omega arith) in
    omega arith

-- a part of what a block covers
share_in : (dims k n x a b : ℕ) → 1 ≤ n → (k < dims → n % 2 ≡ 0) → a ≡ x / n → b ≡ x / factor dims k → InSpan (record { first = a * (n / factor dims k); len = n / factor dims k }) b
share_in dims k n x a b some even ea eb =
    subst (λ (v : ℕ). InSpan (record { first = v * (n / factor dims k); len = n / factor dims k }) b) (sym ea)
    (subst (λ (v : ℕ). InSpan (record { first = x / n * (n / factor dims k); len = n / factor dims k }) v) (sym eb) (by (nat_lt k dims) refl))
  where
    less : (a b : ℕ) → nat_lt a b ≡ true → a < b
    less a b h = grind (arith, nat_tests)

    by : (t : Bool) → nat_lt k dims ≡ t → InSpan (record { first = x / n * (n / cond t 2 1); len = n / cond t 2 1 }) (x / cond t 2 1)
    by true e =
        let two = half_of n (even (less k dims e)) in
        let d : x / n * n + x % n ≡ x = div-add-mod' x n in
        let r : x % n < n = mod_below x n some in
        let z : x / n * (n / 2 * 2) ≡ x / n * n = ap (λ v. x / n * v) two in
        record { low = omega arith; high = omega arith }
    by false e =
        let one = by_one n in
        let two = by_one x in
        let d : x / n * n + x % n ≡ x = div-add-mod' x n in
        let r : x % n < n = mod_below x n some in
        let z : x / n * (n / 1) ≡ x / n * n = ap (λ v. x / n * v) one in
        record { low = omega arith; high = omega arith }

-- a sender of the next coarser level
pub from_coarser : (m : Mesh) (f t : ℕ) (c o : Loc) (axis : ℕ) (high : Bool) → IsSite m c axis → o.level ≡ c.level → 1 ≤ o.level → IsNearEnd high (cells_along m axis) (axis_of o axis) → IsNearEnd high 2 (axis_of o axis / cells_along m axis) →
    ((k : ℕ) → k < 3 → (k ≡ axis → ⊥) → axis_of o k ≡ axis_of c k) → nat_lt t (look m f (parent m.shape.dims o)) ≡ true →
    some_above t (region m f (parent m.shape.dims (block_of m o)) (block_of m c) axis high) ≡ true
from_coarser m f t c o axis high site level deep near half else above =
    let dims : ℕ = m.shape.dims in
    let mesh = site.mesh in
    let most = mesh.shape.most in
    let used = site.used in
    let w : Loc = parent dims o in
    let small : axis < 3 = omega arith in
    let end : IsNearEnd high (cells_along m axis) (axis_of w axis) = subst (λ (x : ℕ). IsNearEnd high (cells_along m axis) x) (sym (parent_along dims o axis small ∙ ap (λ v. axis_of o axis / v) (two_parts dims axis used)))
    (halved high (axis_of o axis) (cells_along m axis) (mesh.some_cells axis small) near half) in
    subst (λ (b : Loc). some_above t (region m f b (block_of m c) axis high) ≡ true) (block_parent m o)
    (region_by m f t (block_of m w) (block_of m c) axis high coarser w
    (ap (λ (b : Bool). sender_by b (nat_lt w.level c.level)) (not_less c.level w.level (omega arith)) ∙ ap (λ (b : Bool). sender_by false b) (lt-ltb w.level c.level (omega arith)))
    refl
    (λ k h. edged high 1 (own_span m (block_of m w) k) (coarse_span m (block_of m c) k) k axis (axis_of w k) (omega arith)
    (λ e. (own_in m w k mesh h, own_end m w k high h (subst (λ (v : ℕ). IsNearEnd high (cells_along m v) (axis_of w v)) (sym e) end)))
    (λ d. share_in dims k (cells_along m k) (axis_of c k) (axis_of (block_of m c) k) (axis_of w k) (mesh.some_cells k h) (site.even k) (block_axis m c k h) (parent_along dims o k h ∙ ap (λ v. v / factor dims k) (else k h d))))
    above)
