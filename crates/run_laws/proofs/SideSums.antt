-- What stands at a side of the domain, over the cells of any tree, is at most what stands there over the root cells.
use Rattle.std.proofs.Common.{◌≡◌, ℕ, zero, suc, ◌+◌, ◌-◌, ◌*◌, ◌/◌, ◌^◌, ◌<◌, ◌≤◌, Bool, true, false, cond, nat_lt, Option, Some, None, List, refl, sym, ap, ◌∙◌, arith, add-one}
use Rattle.std.specs.Option.{option_map}
use Rattle.std.proofs.Math.Nat.{div-div-eq-div-mul, mul-le-mul_left, pow-suc, pow-zero}
use Rattle.std.proofs.lemmas.Nat.{pow-add}
use Rattle.std.proofs.lemmas.Bool.Decides.{nat_tests}
use Rattle.morton_order.specs.declared.space.Loc.{Loc}
use Rattle.morton_order.specs.declared.space.Shape.{Shape}
use Rattle.morton_order.specs.Space.{IsIn, IsShape, axis_of, blocks_along, child, child_number, factor, parent, parts, root_along, wraps}
use Rattle.morton_order.specs.Neighbours.{across, moved, step}
use Rattle.morton_order.proofs.Family.{parent-child, parent_inside}
use Rattle.block_tree.proofs.Behinds.{number_of_child}
use Rattle.mesh_num.specs.Share.{share}
use Rattle.mesh_rules.specs.Sums.{sum_over, sum_to}
use Rattle.mesh_rules.specs.Mesh.{IsMesh, Mesh, OnLeaf, cell_lattice, is_inner, sum_cells, sum_on}
use Rattle.mesh_rules.specs.Stage.{when_outside}
use Rattle.mesh_laws.proofs.Cells.{cells_plus, on_leaves}
use Rattle.mesh_laws.proofs.Grids.{grid, grid_same}
use Rattle.mesh_laws.proofs.Lattices.{lattice, place}
use Rattle.mesh_laws.proofs.Looks.{some_parts}
use Rattle.mesh_laws.proofs.Portions.{all_shares, quotient_grows}
use Rattle.mesh_laws.proofs.Remaps.{AddsUp, sum_is_roots}
use Rattle.mesh_laws.proofs.Totals.{sum_to-same}

-- what root cells have, dealt to finer cells by shares
pub dealt : ℕ → ℕ → (Loc → ℕ) → Loc → ℕ
dealt dims zero each c = each c
dealt dims (suc level) each c = share (dealt dims level each (parent dims c)) (parts dims) (child_number dims c)

pub dealt_adds : (m : Mesh) (each : Loc → ℕ) → IsShape m.shape → AddsUp m (λ c. dealt m.shape.dims c.level each c)
unfolding dealt
dealt_adds m each shape c =
    let dims = m.shape.dims in
    let h : ℕ = dealt dims c.level each c in
    sum_to-same (parts dims) (λ j. dealt dims (c.level + 1) each (child dims c j)) (share h (parts dims))
    (λ j below. ap (λ (k : ℕ). dealt dims k each (child dims c j)) (add-one c.level)
    ∙ ap (λ (v : Loc). share (dealt dims c.level each v) (parts dims) (child_number dims (child dims c j))) (parent-child dims c j)
    ∙ ap (share h (parts dims)) (number_of_child dims c j shape.most shape.least below))
    ∙ all_shares h (parts dims) (some_parts dims)

-- nothing, where a step stays on the axis
when_gone : Bool → Bool → ℕ → ℕ
when_gone more wrap v = cond more 0 (cond wrap 0 v)

outside_up : (n x v : ℕ) (wrap : Bool) (to : ℕ → Loc) → when_outside (option_map to (step n wrap true x)) v ≡ cond (nat_lt (x + 1) n) 0 (cond wrap 0 v)
outside_up n x v wrap to = by (nat_lt (x + 1) n) wrap
  where
    by : (a b : Bool) → when_outside (option_map to (cond a (Some (x + 1)) (cond b (Some 0) None))) v ≡ cond a 0 (cond b 0 v)
    by true b = refl
    by false true = refl
    by false false = refl

outside_down : (n x v : ℕ) (wrap : Bool) (to : ℕ → Loc) → when_outside (option_map to (step n wrap false x)) v ≡ cond (nat_lt 0 x) 0 (cond wrap 0 v)
outside_down n x v wrap to = by (nat_lt 0 x) wrap
  where
    by : (a b : Bool) → when_outside (option_map to (cond a (Some (x - 1)) (cond b (Some (n - 1)) None))) v ≡ cond a 0 (cond b 0 v)
    by true b = refl
    by false true = refl
    by false false = refl

no_cond : (b : Bool) → ◌≡◌ {A = ℕ} (cond b 0 0) 0
no_cond true = refl
no_cond false = refl

-- a coarser cell is outside where a finer one in it is: along one axis
up_half : (n x v w : ℕ) (wrap : Bool) → x < 2 * n → v ≤ w → cond (nat_lt (x + 1) (2 * n)) 0 (cond wrap 0 v) ≤ cond (nat_lt (x / 2 + 1) n) 0 (cond wrap 0 w)
up_half n x v w true inside le = let a = no_cond (nat_lt (x + 1) (2 * n)) in omega arith
up_half n x v w false inside le = grind (arith, nat_tests)

down_half : (n x v w : ℕ) (wrap : Bool) → v ≤ w → cond (nat_lt 0 x) 0 (cond wrap 0 v) ≤ cond (nat_lt 0 (x / 2)) 0 (cond wrap 0 w)
down_half n x v w true le = let a = no_cond (nat_lt 0 x) in omega arith
down_half n x v w false le = grind (arith, nat_tests)

-- twice as many locations lie along an axis in use on the next level
used_two : (dims axis : ℕ) → axis < dims → factor dims axis ≡ 2
used_two dims axis h = let t : nat_lt axis dims ≡ true = grind (arith, nat_tests) in ap (λ (b : Bool). cond b 2 1) t

twice_along : (s : Shape) (axis level : ℕ) → axis < s.dims → blocks_along s axis (suc level) ≡ 2 * blocks_along s axis level
twice_along s axis level used =
    let two = used_two s.dims axis used in
    let next : factor s.dims axis ^ suc level ≡ factor s.dims axis ^ level * factor s.dims axis = pow-suc (factor s.dims axis) level in
    ap (λ (k : ℕ). root_along s axis * k) next ∙ ap (λ (k : ℕ). root_along s axis * (factor s.dims axis ^ level * k)) two ∙ grind arith

half_along : (dims : ℕ) (c : Loc) (axis : ℕ) → axis < dims → dims ≤ 3 → axis_of (parent dims c) axis ≡ axis_of c axis / 2
half_along dims c zero used few = ap (λ (k : ℕ). c.l1 / k) (used_two dims 0 used)
half_along dims c (suc zero) used few = ap (λ (k : ℕ). c.l2 / k) (used_two dims 1 used)
half_along dims c (suc (suc zero)) used few = ap (λ (k : ℕ). c.l3 / k) (used_two dims 2 used)
half_along dims c (suc (suc (suc a))) used few = absurd (omega arith)

within_along : (s : Shape) (c : Loc) (axis : ℕ) → IsIn s c → axis < 3 → axis_of c axis < blocks_along s axis c.level
within_along s c zero inside h = inside.within1
within_along s c (suc zero) inside h = inside.within2
within_along s c (suc (suc zero)) inside h = inside.within3
within_along s c (suc (suc (suc a))) inside h = absurd (omega arith)

parent_outside : (s : Shape) (c : Loc) (axis : ℕ) (high : Bool) (level v w : ℕ) → c.level ≡ suc level → IsIn s c → axis < s.dims → s.dims ≤ 3 → v ≤ w → when_outside (across s c axis high) v ≤ when_outside (across s (parent s.dims c) axis high) w
parent_outside s c axis true level v w at inside used few le =
    let n = blocks_along s axis level in
    let x = axis_of c axis in
    let d : Loc = parent s.dims c in
    let down : d.level ≡ level = omega arith in
    let wide : blocks_along s axis c.level ≡ 2 * n = ap (blocks_along s axis) at ∙ twice_along s axis level used in
    let here = outside_up (blocks_along s axis c.level) x v (wraps s axis) (moved c axis) ∙ ap (λ (k : ℕ). cond (nat_lt (x + 1) k) 0 (cond (wraps s axis) 0 v)) wide in
    let there = outside_up (blocks_along s axis d.level) (axis_of d axis) w (wraps s axis) (moved d axis) ∙ ap (λ (k : ℕ). cond (nat_lt (axis_of d axis + 1) (blocks_along s axis k)) 0 (cond (wraps s axis) 0 w)) down ∙ ap (λ (k : ℕ). cond (nat_lt (k + 1) n) 0 (cond (wraps s axis) 0 w)) (half_along s.dims c axis used few) in
    let small : x < 2 * n = omega (arith, within_along s c axis inside (omega arith), wide) in
    omega (arith, here, there, up_half n x v w (wraps s axis) small le)
parent_outside s c axis false level v w at inside used few le =
    let x = axis_of c axis in
    let d : Loc = parent s.dims c in
    let here = outside_down (blocks_along s axis c.level) x v (wraps s axis) (moved c axis) in
    let there = outside_down (blocks_along s axis d.level) (axis_of d axis) w (wraps s axis) (moved d axis) ∙ ap (λ (k : ℕ). cond (nat_lt 0 k) 0 (cond (wraps s axis) 0 w)) (half_along s.dims c axis used few) in
    omega (arith, here, there, down_half 0 x v w (wraps s axis) le)

-- what is spread evenly over the cells of a level is at most what is dealt there
parts_are : (dims : ℕ) → 1 ≤ dims → dims ≤ 3 → parts dims ≡ 2 ^ dims
parts_are zero h k = absurd (omega arith)
parts_are (suc zero) h k = refl
parts_are (suc (suc zero)) h k = refl
parts_are (suc (suc (suc zero))) h k = refl
parts_are (suc (suc (suc (suc a)))) h k = absurd (omega arith)

spread_next : (dims level w : ℕ) → w / 2 ^ (dims * suc level) ≡ w / 2 ^ (dims * level) / 2 ^ dims
spread_next dims level w =
    let e : dims * suc level ≡ dims * level + dims = grind arith in
    ap (λ (k : ℕ). w / 2 ^ k) e ∙ ap (λ (k : ℕ). w / k) (pow_plus (dims * level) dims) ∙ sym (div-div-eq-div-mul w (2 ^ (dims * level)) (2 ^ dims))
  where
    pow_plus : (a b : ℕ) → 2 ^ (a + b) ≡ 2 ^ a * 2 ^ b
    pow_plus a b = pow-add 2 a b

share_least : (q n j : ℕ) → q / n ≤ share q n j
share_least q n j = omega arith

pub spread_within : (s : Shape) (axis : ℕ) (high : Bool) (w : ℕ) → 1 ≤ s.dims → s.dims ≤ 3 → axis < s.dims → (level : ℕ) (c : Loc) → c.level ≡ level → IsIn s c
    → when_outside (across s c axis high) (w / 2 ^ (s.dims * level)) ≤ dealt s.dims level (λ d. when_outside (across s d axis high) w) c
unfolding dealt
spread_within s axis high w least few used zero c at inside =
    let none : s.dims * 0 ≡ 0 = omega arith in
    let whole : w / 2 ^ (s.dims * 0) ≡ w = ap (λ (k : ℕ). w / 2 ^ k) none ∙ omega arith in
    let e = ap (when_outside (across s c axis high)) whole in omega arith
spread_within s axis high w least few used (suc level) c at inside =
    let dims = s.dims in
    let d : Loc = parent dims c in
    let deep : 1 ≤ c.level = omega arith in
    let before = spread_within s axis high w least few used level d (omega arith) (parent_inside s c inside deep) in
    let rest : ℕ = w / 2 ^ (dims * level) in
    let over : ℕ = dealt dims level (λ e. when_outside (across s e axis high) w) d in
    let n = parts dims in
    let v_is : w / 2 ^ (dims * suc level) ≡ rest / n = spread_next dims level w ∙ ap (λ (k : ℕ). rest / k) (sym (parts_are dims least few)) in
    let up : when_outside (across s c axis high) (rest / n) ≤ when_outside (across s d axis high) rest / n = by (across s d axis high) (parent_outside s c axis high level (rest / n) (rest / n) at inside used few (omega arith)) in
    let grown = quotient_grows (when_outside (across s d axis high) rest) over n (some_parts dims) before in
    let e = ap (when_outside (across s c axis high)) v_is in
    omega (arith, e, up, grown, share_least over n (child_number dims c))
  where
    by : (o : Option Loc) → when_outside (across s c axis high) (w / 2 ^ (s.dims * level) / parts s.dims) ≤ when_outside o (w / 2 ^ (s.dims * level) / parts s.dims) → when_outside (across s c axis high) (w / 2 ^ (s.dims * level) / parts s.dims) ≤ when_outside o (w / 2 ^ (s.dims * level)) / parts s.dims
    by None le = le
    by (Some x) le = let z : 0 / parts s.dims ≡ 0 = grind arith in omega arith

-- a sum over the cells of a mesh grows with what each cell of a leaf gives
pub cells_le : (m : Mesh) → IsMesh m → (g h : Loc → ℕ) → ((c : Loc) → IsIn (cell_lattice m) c → OnLeaf m c → g c ≤ h c) → sum_cells m g ≤ sum_cells m h
cells_le m mesh g h le =
    let whole = on_leaves m mesh h (λ c. g c + (h c - g c)) (λ c inside leaf. let l = le c inside leaf in omega arith) in
    let split = cells_plus m g (λ c. h c - g c) in
    omega arith

-- over one axis only the end counts
cond_le : (b : Bool) (v : ℕ) → cond b 0 v ≤ v
cond_le true v = omega arith
cond_le false v = omega arith

last_only : (n v : ℕ) (wrap : Bool) (to : ℕ → Loc) (k : ℕ) → k ≤ n → sum_to k (λ x. when_outside (option_map to (step n wrap true x)) v) ≤ cond (nat_lt k n) 0 v
last_only n v wrap to zero few = omega arith
last_only n v wrap to (suc k) few =
    let before = last_only n v wrap to k (omega arith) in
    let here = outside_up n k v wrap to in
    let w = cond_le wrap v in
    put (sum_to k (λ x. when_outside (option_map to (step n wrap true x)) v)) _ v (cond wrap 0 v) k n before here w few
  where
    put : (s t v w k n : ℕ) → s ≤ cond (nat_lt k n) 0 v → t ≡ cond (nat_lt (k + 1) n) 0 w → w ≤ v → suc k ≤ n → s + t ≤ cond (nat_lt (suc k) n) 0 v
    put s t v w k n a b c d = grind (arith, nat_tests)

first_only : (n v : ℕ) (wrap : Bool) (to : ℕ → Loc) (k : ℕ) → sum_to k (λ x. when_outside (option_map to (step n wrap false x)) v) ≤ v
first_only n v wrap to zero = omega arith
first_only n v wrap to (suc zero) = let here = outside_down n 0 v wrap to in let w = cond_le wrap v in omega arith
first_only n v wrap to (suc (suc k)) =
    let before = first_only n v wrap to (suc k) in
    let here = outside_down n (suc k) v wrap to in
    let t : nat_lt 0 (suc k) ≡ true = grind (arith, nat_tests) in
    let none = ap (λ (b : Bool). cond b 0 (cond wrap 0 v)) t in
    omega arith

ends_only : (n v : ℕ) (wrap high : Bool) (to : ℕ → Loc) → sum_to n (λ x. when_outside (option_map to (step n wrap high x)) v) ≤ v
ends_only n v wrap true to = let l = last_only n v wrap to n (omega arith) in let t : cond (nat_lt n n) 0 v ≤ v = cond_le (nat_lt n n) v in omega arith
ends_only n v wrap false to = first_only n v wrap to n

-- sums of one value, and of multiples
pub sum_const : (n v : ℕ) → sum_to n (λ _. v) ≡ n * v
sum_const zero v = omega arith
sum_const (suc n) v = let e = sum_const n v in let f : suc n * v ≡ n * v + v = grind arith in omega arith

sum_times : (n k : ℕ) (t : ℕ → ℕ) → sum_to n (λ x. k * t x) ≡ k * sum_to n t
sum_times zero k t = omega arith
sum_times (suc n) k t = let e = sum_times n k t in let f : k * (sum_to n t + t n) ≡ k * sum_to n t + k * t n = grind arith in omega arith

layer : (b c v : ℕ) → sum_to b (λ _. sum_to c (λ _. v)) ≡ b * c * v
layer b c v = sum_to-same b (λ _. sum_to c (λ _. v)) (λ _. c * v) (λ y below. sum_const c v) ∙ sum_const b (c * v) ∙ grind arith

along1 : (a b c : ℕ) (t : ℕ → ℕ) → grid a b c (λ x y z. t x) ≡ b * c * sum_to a t
along1 a b c t = sum_to-same a (λ x. sum_to b (λ y. sum_to c (λ z. t x))) (λ x. b * c * t x) (λ x below. layer b c (t x)) ∙ sum_times a (b * c) t

along2 : (a b c : ℕ) (t : ℕ → ℕ) → grid a b c (λ x y z. t y) ≡ a * c * sum_to b t
along2 a b c t =
    sum_to-same a (λ x. sum_to b (λ y. sum_to c (λ z. t y))) (λ x. c * sum_to b t) (λ x below. sum_to-same b (λ y. sum_to c (λ z. t y)) (λ y. c * t y) (λ y less. sum_const c (t y)) ∙ sum_times b c t)
    ∙ sum_const a (c * sum_to b t) ∙ grind arith

along3 : (a b c : ℕ) (t : ℕ → ℕ) → grid a b c (λ x y z. t z) ≡ a * b * sum_to c t
along3 a b c t = layer a b (sum_to c t)

-- the root cells along the two other axes
abbrev pub others : Shape → ℕ → ℕ
others s zero = root_along s 1 * root_along s 2
others s (suc zero) = root_along s 0 * root_along s 2
others s (suc (suc _)) = root_along s 0 * root_along s 1

any_to : (o : Option ℕ) (v : ℕ) (to from : ℕ → Loc) → when_outside (option_map to o) v ≡ when_outside (option_map from o) v
any_to None v to from = refl
any_to (Some x) v to from = refl

roots_alone : (s : Shape) (axis : ℕ) → blocks_along s axis 0 ≡ root_along s axis
roots_alone s axis = ap (λ (k : ℕ). root_along s axis * k) (pow-zero (factor s.dims axis)) ∙ omega arith

nowhere : ℕ → Loc
nowhere k = record { level = 0; l1 = 0; l2 = 0; l3 = 0 }

abbrev end_of : Shape → ℕ → Bool → ℕ → ℕ → ℕ
end_of s axis high v x = when_outside (option_map nowhere (step (blocks_along s axis 0) (wraps s axis) high x)) v

few_times : (k x v : ℕ) → x ≤ v → k * x ≤ v * k
few_times k x v le = let m = mul-le-mul_left k le in let e : v * k ≡ k * v = grind arith in omega arith

pub side_roots : (s : Shape) (axis : ℕ) (high : Bool) (v : ℕ) → axis < 3 → lattice s 0 (λ c. when_outside (across s c axis high) v) ≤ v * others s axis
side_roots s zero high v h =
    let a = blocks_along s 0 0 in let b = blocks_along s 1 0 in let c = blocks_along s 2 0 in
    let t = end_of s 0 high v in
    let e = grid_same a b c (λ x y z. when_outside (across s (place 0 x y z) 0 high) v) (λ x y z. t x) (λ x y z p q r. any_to (step a (wraps s 0) high x) v (moved (place 0 x y z) 0) nowhere) ∙ along1 a b c t in
    let le = few_times (b * c) (sum_to a t) v (ends_only a v (wraps s 0) high nowhere) in
    let k : v * (b * c) ≡ v * others s 0 = ap (λ (x : ℕ). v * (x * c)) (roots_alone s 1) ∙ ap (λ (x : ℕ). v * (root_along s 1 * x)) (roots_alone s 2) in
    omega arith
side_roots s (suc zero) high v h =
    let a = blocks_along s 0 0 in let b = blocks_along s 1 0 in let c = blocks_along s 2 0 in
    let t = end_of s 1 high v in
    let e = grid_same a b c (λ x y z. when_outside (across s (place 0 x y z) 1 high) v) (λ x y z. t y) (λ x y z p q r. any_to (step b (wraps s 1) high y) v (moved (place 0 x y z) 1) nowhere) ∙ along2 a b c t in
    let le = few_times (a * c) (sum_to b t) v (ends_only b v (wraps s 1) high nowhere) in
    let k : v * (a * c) ≡ v * others s 1 = ap (λ (x : ℕ). v * (x * c)) (roots_alone s 0) ∙ ap (λ (x : ℕ). v * (root_along s 0 * x)) (roots_alone s 2) in
    omega arith
side_roots s (suc (suc zero)) high v h =
    let a = blocks_along s 0 0 in let b = blocks_along s 1 0 in let c = blocks_along s 2 0 in
    let t = end_of s 2 high v in
    let e = grid_same a b c (λ x y z. when_outside (across s (place 0 x y z) 2 high) v) (λ x y z. t z) (λ x y z p q r. any_to (step c (wraps s 2) high z) v (moved (place 0 x y z) 2) nowhere) ∙ along3 a b c t in
    let le = few_times (a * b) (sum_to c t) v (ends_only c v (wraps s 2) high nowhere) in
    let k : v * (a * b) ≡ v * others s 2 = ap (λ (x : ℕ). v * (x * b)) (roots_alone s 0) ∙ ap (λ (x : ℕ). v * (root_along s 0 * x)) (roots_alone s 1) in
    omega arith
side_roots s (suc (suc (suc a))) high v h = absurd (omega arith)

-- on the roots nothing is dealt
roots_dealt : (s : Shape) (dims : ℕ) (each : Loc → ℕ) → lattice s 0 (λ c. dealt dims c.level each c) ≡ lattice s 0 each
unfolding dealt
roots_dealt s dims each = refl

-- what stands at a side over all cells of a mesh
pub side_sum : (m : Mesh) (axis : ℕ) (high : Bool) (w : ℕ) → IsMesh m → axis < m.shape.dims
    → sum_cells m (λ c. when_outside (across (cell_lattice m) c axis high) (w / 2 ^ (m.shape.dims * c.level))) ≤ w * others (cell_lattice m) axis
side_sum m axis high w mesh used =
    let s = cell_lattice m in
    let each : Loc → ℕ = λ d. when_outside (across s d axis high) w in
    let h : Loc → ℕ = λ c. dealt m.shape.dims c.level each c in
    let le = cells_le m mesh (λ c. when_outside (across s c axis high) (w / 2 ^ (m.shape.dims * c.level))) h (λ c inside leaf. spread_within s axis high w mesh.shape.least mesh.shape.most used c.level c refl inside) in
    let whole : sum_cells m h ≡ lattice s 0 h = ap (λ (v : List Loc). sum_over v (λ l. sum_on m l h)) mesh.leaves ∙ sum_is_roots m mesh.some_cells mesh.shape (is_inner m) mesh.tree h (dealt_adds m each mesh.shape) in
    let dealt_at = roots_dealt s m.shape.dims each in
    let roots = side_roots s axis high w (omega (arith, mesh.shape.most)) in
    omega arith
