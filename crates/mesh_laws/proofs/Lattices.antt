-- Sums over all locations of a level, and over the leaves of a tree.
use Rattle.std.proofs.Common.{◌≡◌, ℕ, zero, suc, ◌+◌, ◌*◌, ◌/◌, ◌%◌, ◌^◌, ◌<◌, ◌≤◌, Bool, true, false, Option, Some, None, refl, arith, ap, subst, sym, ◌∙◌}
use Rattle.std.specs.Option.{option_map}
use Rattle.std.proofs.Math.Nat.{pow-suc}
use Rattle.morton_order.specs.declared.space.Loc.{Loc}
use Rattle.morton_order.specs.declared.space.Shape.{Shape}
use Rattle.morton_order.specs.Space.{IsIn, blocks_along, child, factor, parts, root_along, wraps}
use Rattle.morton_order.specs.Neighbours.{across, moved, step}
use Rattle.mesh_rules.specs.Sums.{sum_to}
use Rattle.mesh_laws.proofs.Grids.{at_option, grid, grid_plus, grid_same, grid_split, shift, sum_zero}
use Rattle.mesh_laws.proofs.Totals.{sum_to-same}

-- a location
abbrev pub place : ℕ → ℕ → ℕ → ℕ → Loc
place level x y z = record { level = level; l1 = x; l2 = y; l3 = z }

-- a sum over all locations of a level
abbrev pub lattice : Shape → ℕ → (Loc → ℕ) → ℕ
lattice s level h = grid (blocks_along s 0 level) (blocks_along s 1 level) (blocks_along s 2 level) (λ x y z. h (place level x y z))

pub lattice_same : (s : Shape) (level : ℕ) (g h : Loc → ℕ) → level ≤ 10 → ((c : Loc) → IsIn s c → c.level ≡ level → g c ≡ h c) → lattice s level g ≡ lattice s level h
lattice_same s level g h few e = grid_same (blocks_along s 0 level) (blocks_along s 1 level) (blocks_along s 2 level) (λ x y z. g (place level x y z)) (λ x y z. h (place level x y z))
    (λ x y z p q r. e (place level x y z) (record { level = few; within1 = p; within2 = q; within3 = r }) refl)

pub lattice_plus : (s : Shape) (level : ℕ) (g h : Loc → ℕ) → lattice s level (λ c. g c + h c) ≡ lattice s level g + lattice s level h
lattice_plus s level g h = grid_plus (blocks_along s 0 level) (blocks_along s 1 level) (blocks_along s 2 level) (λ x y z. g (place level x y z)) (λ x y z. h (place level x y z))

-- what lies across a side, or nothing
pub at_mapped : {X Y : Type 0} (f : X → Y) (o : Option X) (g : Y → ℕ) → at_option (option_map f o) g ≡ at_option o (λ x. g (f x))
at_mapped f None g = refl
at_mapped f (Some x) g = refl

pull : (n : ℕ) (o : Option ℕ) (g : ℕ → ℕ → ℕ) → sum_to n (λ y. at_option o (λ j. g j y)) ≡ at_option o (λ j. sum_to n (g j))
pull n None g = sum_zero n (λ _. 0) (λ i l. refl)
pull n (Some j) g = refl

-- crossings along x1, x2, x3, summed from either side
shift1 : (a b c level : ℕ) (w : Bool) (g : Loc → Loc → ℕ) → grid a b c (λ x y z. at_option (step a w true x) (λ i. g (place level x y z) (place level i y z))) ≡ grid a b c (λ x y z. at_option (step a w false x) (λ i. g (place level i y z) (place level x y z)))
shift1 a b c level w g =
    sum_to-same a (λ x. sum_to b (λ y. sum_to c (λ z. at_option (step a w true x) (λ i. g (place level x y z) (place level i y z))))) (λ x. at_option (step a w true x) (λ i. sum_to b (λ y. sum_to c (λ z. g (place level x y z) (place level i y z)))))
    (λ x l. sum_to-same b (λ y. sum_to c (λ z. at_option (step a w true x) (λ i. g (place level x y z) (place level i y z)))) (λ y. at_option (step a w true x) (λ i. sum_to c (λ z. g (place level x y z) (place level i y z)))) (λ y m. pull c (step a w true x) (λ i z. g (place level x y z) (place level i y z)))
    ∙ pull b (step a w true x) (λ i y. sum_to c (λ z. g (place level x y z) (place level i y z))))
    ∙ shift a w (λ x i. sum_to b (λ y. sum_to c (λ z. g (place level x y z) (place level i y z))))
    ∙ sym (sum_to-same a (λ x. sum_to b (λ y. sum_to c (λ z. at_option (step a w false x) (λ i. g (place level i y z) (place level x y z))))) (λ x. at_option (step a w false x) (λ i. sum_to b (λ y. sum_to c (λ z. g (place level i y z) (place level x y z)))))
    (λ x l. sum_to-same b (λ y. sum_to c (λ z. at_option (step a w false x) (λ i. g (place level i y z) (place level x y z)))) (λ y. at_option (step a w false x) (λ i. sum_to c (λ z. g (place level i y z) (place level x y z)))) (λ y m. pull c (step a w false x) (λ i z. g (place level i y z) (place level x y z)))
    ∙ pull b (step a w false x) (λ i y. sum_to c (λ z. g (place level i y z) (place level x y z)))))

shift2 : (a b c level : ℕ) (w : Bool) (g : Loc → Loc → ℕ) → grid a b c (λ x y z. at_option (step b w true y) (λ i. g (place level x y z) (place level x i z))) ≡ grid a b c (λ x y z. at_option (step b w false y) (λ i. g (place level x i z) (place level x y z)))
shift2 a b c level w g = sum_to-same a (λ x. sum_to b (λ y. sum_to c (λ z. at_option (step b w true y) (λ i. g (place level x y z) (place level x i z))))) (λ x. sum_to b (λ y. sum_to c (λ z. at_option (step b w false y) (λ i. g (place level x i z) (place level x y z)))))
    (λ x l. sum_to-same b (λ y. sum_to c (λ z. at_option (step b w true y) (λ i. g (place level x y z) (place level x i z)))) (λ y. at_option (step b w true y) (λ i. sum_to c (λ z. g (place level x y z) (place level x i z)))) (λ y m. pull c (step b w true y) (λ i z. g (place level x y z) (place level x i z)))
    ∙ shift b w (λ y i. sum_to c (λ z. g (place level x y z) (place level x i z)))
    ∙ sym (sum_to-same b (λ y. sum_to c (λ z. at_option (step b w false y) (λ i. g (place level x i z) (place level x y z)))) (λ y. at_option (step b w false y) (λ i. sum_to c (λ z. g (place level x i z) (place level x y z)))) (λ y m. pull c (step b w false y) (λ i z. g (place level x i z) (place level x y z)))))

shift3 : (a b c level : ℕ) (w : Bool) (g : Loc → Loc → ℕ) → grid a b c (λ x y z. at_option (step c w true z) (λ i. g (place level x y z) (place level x y i))) ≡ grid a b c (λ x y z. at_option (step c w false z) (λ i. g (place level x y i) (place level x y z)))
shift3 a b c level w g = sum_to-same a (λ x. sum_to b (λ y. sum_to c (λ z. at_option (step c w true z) (λ i. g (place level x y z) (place level x y i))))) (λ x. sum_to b (λ y. sum_to c (λ z. at_option (step c w false z) (λ i. g (place level x y i) (place level x y z)))))
    (λ x l. sum_to-same b (λ y. sum_to c (λ z. at_option (step c w true z) (λ i. g (place level x y z) (place level x y i)))) (λ y. sum_to c (λ z. at_option (step c w false z) (λ i. g (place level x y i) (place level x y z)))) (λ y m. shift c w (λ z i. g (place level x y z) (place level x y i))))

-- crossings along an axis, summed from either side
pub crossings : (s : Shape) (level axis : ℕ) (g : Loc → Loc → ℕ) → axis < 3 → level ≤ 10 → lattice s level (λ c. at_option (across s c axis true) (g c)) ≡ lattice s level (λ o. at_option (across s o axis false) (λ c. g c o))
crossings s level zero g h few =
    lattice_same s level (λ c. at_option (across s c 0 true) (g c)) (λ c. at_option (step (blocks_along s 0 c.level) (wraps s 0) true c.l1) (λ i. g c (moved c 0 i))) few (λ c inside at. at_mapped (moved c 0) (step (blocks_along s 0 c.level) (wraps s 0) true c.l1) (g c))
    ∙ shift1 (blocks_along s 0 level) (blocks_along s 1 level) (blocks_along s 2 level) level (wraps s 0) g
    ∙ sym (lattice_same s level (λ o. at_option (across s o 0 false) (λ c. g c o)) (λ o. at_option (step (blocks_along s 0 o.level) (wraps s 0) false o.l1) (λ i. g (moved o 0 i) o)) few (λ o inside at. at_mapped (moved o 0) (step (blocks_along s 0 o.level) (wraps s 0) false o.l1) (λ c. g c o)))
crossings s level (suc zero) g h few =
    lattice_same s level (λ c. at_option (across s c 1 true) (g c)) (λ c. at_option (step (blocks_along s 1 c.level) (wraps s 1) true c.l2) (λ i. g c (moved c 1 i))) few (λ c inside at. at_mapped (moved c 1) (step (blocks_along s 1 c.level) (wraps s 1) true c.l2) (g c))
    ∙ shift2 (blocks_along s 0 level) (blocks_along s 1 level) (blocks_along s 2 level) level (wraps s 1) g
    ∙ sym (lattice_same s level (λ o. at_option (across s o 1 false) (λ c. g c o)) (λ o. at_option (step (blocks_along s 1 o.level) (wraps s 1) false o.l2) (λ i. g (moved o 1 i) o)) few (λ o inside at. at_mapped (moved o 1) (step (blocks_along s 1 o.level) (wraps s 1) false o.l2) (λ c. g c o)))
crossings s level (suc (suc zero)) g h few =
    lattice_same s level (λ c. at_option (across s c 2 true) (g c)) (λ c. at_option (step (blocks_along s 2 c.level) (wraps s 2) true c.l3) (λ i. g c (moved c 2 i))) few (λ c inside at. at_mapped (moved c 2) (step (blocks_along s 2 c.level) (wraps s 2) true c.l3) (g c))
    ∙ shift3 (blocks_along s 0 level) (blocks_along s 1 level) (blocks_along s 2 level) level (wraps s 2) g
    ∙ sym (lattice_same s level (λ o. at_option (across s o 2 false) (λ c. g c o)) (λ o. at_option (step (blocks_along s 2 o.level) (wraps s 2) false o.l3) (λ i. g (moved o 2 i) o)) few (λ o inside at. at_mapped (moved o 2) (step (blocks_along s 2 o.level) (wraps s 2) false o.l3) (λ c. g c o)))
crossings s level (suc (suc (suc a))) g h few = absurd (omega arith)

-- the halves of a box, by the number of a child
halves_sum : (dims : ℕ) (h : ℕ → ℕ → ℕ → ℕ) → 1 ≤ dims → dims ≤ 3 → sum_to (parts dims) (λ j. h (j % factor dims 0) (j / 2 % factor dims 1) (j / 4 % factor dims 2)) ≡ grid (factor dims 0) (factor dims 1) (factor dims 2) h
halves_sum zero h least most = absurd (omega arith)
halves_sum (suc zero) h least most = omega arith
halves_sum (suc (suc zero)) h least most = omega arith
halves_sum (suc (suc (suc zero))) h least most = omega arith
halves_sum (suc (suc (suc (suc d)))) h least most = absurd (omega arith)

along_finer : (r f level : ℕ) → r * f ^ (level + 1) ≡ r * f ^ level * f
along_finer r f level =
    let e : f ^ suc level ≡ f ^ level * f = pow-suc f level in
    let a : level + 1 ≡ suc level = omega arith in
    let regroup : r * (f ^ level * f) ≡ r * f ^ level * f = omega arith in
    subst (λ v. r * f ^ v ≡ r * f ^ level * f) (sym a) (subst (λ v. r * v ≡ r * f ^ level * f) (sym e) regroup)

-- all locations of a level are the children of those of the level before
pub finer_lattice : (s : Shape) → 1 ≤ s.dims → s.dims ≤ 3 → (level : ℕ) (h : Loc → ℕ) → lattice s level (λ c. sum_to (parts s.dims) (λ j. h (child s.dims c j))) ≡ lattice s (level + 1) h
finer_lattice s least most level h =
    let f1 : ℕ = factor s.dims 0 in
    let f2 : ℕ = factor s.dims 1 in
    let f3 : ℕ = factor s.dims 2 in
    let n1 : ℕ = blocks_along s 0 level in
    let n2 : ℕ = blocks_along s 1 level in
    let n3 : ℕ = blocks_along s 2 level in
    let whole : ℕ → ℕ → ℕ → ℕ = λ x y z. h (place (level + 1) x y z) in
    grid_same n1 n2 n3 (λ x y z. sum_to (parts s.dims) (λ j. h (child s.dims (place level x y z) j))) (λ x y z. grid f1 f2 f3 (λ u v w. whole (x * f1 + u) (y * f2 + v) (z * f3 + w)))
    (λ x y z p q r.
    halves_sum s.dims (λ u v w. whole (f1 * x + u) (f2 * y + v) (f3 * z + w)) least most
    ∙ grid_same f1 f2 f3 (λ u v w. whole (f1 * x + u) (f2 * y + v) (f3 * z + w)) (λ u v w. whole (x * f1 + u) (y * f2 + v) (z * f3 + w)) (λ u v w l m n. turn x y z u v w))
    ∙ sym (grid_split n1 n2 n3 f1 f2 f3 whole)
    ∙ wide n1 n2 n3 (n1 * f1) (n2 * f2) (n3 * f3) (along_finer (root_along s 0) f1 level) (along_finer (root_along s 1) f2 level) (along_finer (root_along s 2) f3 level) whole
  where
    turn : (x y z u v w : ℕ) → h (place (level + 1) (factor s.dims 0 * x + u) (factor s.dims 1 * y + v) (factor s.dims 2 * z + w)) ≡ h (place (level + 1) (x * factor s.dims 0 + u) (y * factor s.dims 1 + v) (z * factor s.dims 2 + w))
    turn x y z u v w =
        let a : factor s.dims 0 * x + u ≡ x * factor s.dims 0 + u = omega arith in
        let b : factor s.dims 1 * y + v ≡ y * factor s.dims 1 + v = omega arith in
        let c : factor s.dims 2 * z + w ≡ z * factor s.dims 2 + w = omega arith in
        ap (λ t. h (place (level + 1) t (factor s.dims 1 * y + v) (factor s.dims 2 * z + w))) a
        ∙ ap (λ t. h (place (level + 1) (x * factor s.dims 0 + u) t (factor s.dims 2 * z + w))) b
        ∙ ap (λ t. h (place (level + 1) (x * factor s.dims 0 + u) (y * factor s.dims 1 + v) t)) c

    wide : (n1 n2 n3 a b c : ℕ) → blocks_along s 0 (level + 1) ≡ a → blocks_along s 1 (level + 1) ≡ b → blocks_along s 2 (level + 1) ≡ c → (g : ℕ → ℕ → ℕ → ℕ) → grid a b c g ≡ grid (blocks_along s 0 (level + 1)) (blocks_along s 1 (level + 1)) (blocks_along s 2 (level + 1)) g
    wide n1 n2 n3 a b c p q r g = sym (ap (λ t. grid t (blocks_along s 1 (level + 1)) (blocks_along s 2 (level + 1)) g) p ∙ ap (λ t. grid a t (blocks_along s 2 (level + 1)) g) q ∙ ap (λ t. grid a b t g) r)

-- nothing everywhere
pub lattice_nothing : (s : Shape) (level : ℕ) → lattice s level (λ c. 0) ≡ 0
lattice_nothing s level = sum_zero (blocks_along s 0 level) (λ x. sum_to (blocks_along s 1 level) (λ y. sum_to (blocks_along s 2 level) (λ z. 0)))
    (λ x p. sum_zero (blocks_along s 1 level) (λ y. sum_to (blocks_along s 2 level) (λ z. 0)) (λ y q. sum_zero (blocks_along s 2 level) (λ z. 0) (λ z r. refl)))
