-- Crossing a side, on two levels and back.
use Rattle.std.proofs.Common.{◌≡◌, ℕ, zero, suc, ◌+◌, ◌-◌, ◌*◌, ◌/◌, ◌%◌, ◌^◌, ◌<◌, ◌≤◌, Bool, true, false, cond, not, nat_lt, Option, Some, None, refl, arith, ap, subst, sym, ◌∙◌}
use Rattle.std.specs.Option.{option_map}
use Rattle.std.proofs.Math.Nat.{pow-suc}
use Rattle.std.proofs.lemmas.Bool.{lt-ltb}
use Rattle.std.proofs.lemmas.Bool.Decides.{nat_tests}
use Rattle.morton_order.specs.declared.space.Loc.{Loc}
use Rattle.morton_order.specs.declared.space.Shape.{Shape}
use Rattle.morton_order.specs.Space.{IsIn, axis_of, blocks_along, factor, parent, root_along, wraps}
use Rattle.morton_order.specs.Neighbours.{AreNeighbours, across, beside, is_near, moved, step}
use Rattle.morton_order.proofs.Lattice.{one_pow}
use Rattle.morton_order.proofs.Touching.{Touches, near_self, step_down, step_up}

-- a step out of a pair of halves is a step of the pairs
halves_up : (n : ℕ) (w : Bool) (x : ℕ) → x < n * 2 → x % 2 ≡ 1 → step (n * 2) w true x ≡ option_map (λ y. 2 * y) (step n w true (x / 2))
halves_up n w x h p = grind (arith, nat_tests)

halves_down : (n : ℕ) (w : Bool) (x : ℕ) → x < n * 2 → x % 2 ≡ 0 → step (n * 2) w false x ≡ option_map (λ y. 2 * y + 1) (step n w false (x / 2))
halves_down n w x h p = grind (arith, nat_tests)

-- a step within a pair of halves
inside_up : (n : ℕ) (w : Bool) (x : ℕ) → x < n * 2 → x % 2 ≡ 0 → step (n * 2) w true x ≡ Some (x + 1)
inside_up n w x h p = grind (arith, nat_tests)

inside_down : (n : ℕ) (w : Bool) (x : ℕ) → x < n * 2 → x % 2 ≡ 1 → step (n * 2) w false x ≡ Some (x - 1)
inside_down n w x h p = grind (arith, nat_tests)

-- a step back
back_down : (n : ℕ) (w : Bool) (x y : ℕ) → x < n → step n w true x ≡ Some y → step n w false y ≡ Some x
back_down n w x y h e = grind (arith, nat_tests)

back_up : (n : ℕ) (w : Bool) (x y : ℕ) → x < n → step n w false x ≡ Some y → step n w true y ≡ Some x
back_up n w x y h e = grind (arith, nat_tests)

step_back : (n : ℕ) (w high : Bool) (x y : ℕ) → x < n → step n w high x ≡ Some y → step n w (not high) y ≡ Some x
step_back n w true x y h e = back_down n w x y h e
step_back n w false x y h e = back_up n w x y h e

-- a mapped option that is there comes from one that is
mapped : {X Y : Type 0} (f : X → Y) (o : Option X) (y : Y) → option_map f o ≡ Some y → (x : X) × (o ≡ Some x) × (f x ≡ y)
mapped f (Some x) y h = (x, refl, cc)
mapped f None y h = absurd (none_is_not y h)
  where
    none_is_not : {Z : Type 0} (z : Z) → None ≡ Some z → ⊥
    none_is_not z h = cc

-- a location moved along an axis
moved_level : (c : Loc) (axis y : ℕ) → (moved c axis y).level ≡ c.level
moved_level c zero y = refl
moved_level c (suc zero) y = refl
moved_level c (suc (suc a)) y = refl

axis_moved : (c : Loc) (axis y : ℕ) → axis_of (moved c axis y) axis ≡ y
axis_moved c zero y = refl
axis_moved c (suc zero) y = refl
axis_moved c (suc (suc a)) y = refl

moved_twice : (c : Loc) (axis y z : ℕ) → moved (moved c axis y) axis z ≡ moved c axis z
moved_twice c zero y z = refl
moved_twice c (suc zero) y z = refl
moved_twice c (suc (suc a)) y z = refl

moved_same : (c : Loc) (axis : ℕ) → moved c axis (axis_of c axis) ≡ c
moved_same c zero = refl
moved_same c (suc zero) = refl
moved_same c (suc (suc a)) = refl

-- an axis in use is cut in two
two : (dims axis : ℕ) → axis < dims → factor dims axis ≡ 2
two dims axis h = ap (λ (b : Bool). cond b 2 1) (lt-ltb axis dims h)

parent_axis : (dims : ℕ) (c : Loc) (axis : ℕ) → axis < dims → dims ≤ 3 → axis_of (parent dims c) axis ≡ axis_of c axis / 2
parent_axis dims c zero h k = ap (λ v. c.l1 / v) (two dims 0 h)
parent_axis dims c (suc zero) h k = ap (λ v. c.l2 / v) (two dims 1 h)
parent_axis dims c (suc (suc a)) h k = ap (λ v. c.l3 / v) (two dims 2 (omega arith))

parent_moved : (dims : ℕ) (c : Loc) (axis y : ℕ) → axis < dims → dims ≤ 3 → parent dims (moved c axis y) ≡ moved (parent dims c) axis (y / 2)
parent_moved dims c zero y h k = ap (λ v. moved (parent dims c) 0 (y / v)) (two dims 0 h)
parent_moved dims c (suc zero) y h k = ap (λ v. moved (parent dims c) 1 (y / v)) (two dims 1 h)
parent_moved dims c (suc (suc a)) y h k = ap (λ v. moved (parent dims c) 2 (y / v)) (two dims 2 (omega arith))

blocks_double : (s : Shape) (axis level : ℕ) → axis < s.dims → 1 ≤ level → blocks_along s axis level ≡ blocks_along s axis (level - 1) * 2
blocks_double s axis level h k =
    let e : level ≡ suc (level - 1) = omega arith in
    let f : 2 ^ suc (level - 1) ≡ 2 ^ (level - 1) * 2 = pow-suc 2 (level - 1) in
    let g : root_along s axis * 2 ^ level ≡ root_along s axis * 2 ^ (level - 1) * 2 =
    subst (λ v. root_along s axis * 2 ^ v ≡ root_along s axis * 2 ^ (level - 1) * 2) (sym e) (regroup (root_along s axis) (2 ^ suc (level - 1)) (2 ^ (level - 1)) f) in
    subst (λ v. root_along s axis * v ^ level ≡ root_along s axis * v ^ (level - 1) * 2) (sym (two s.dims axis h)) g
  where
    regroup : (r p q : ℕ) → p ≡ q * 2 → r * p ≡ r * q * 2
    regroup r p q e = subst (λ v. r * v ≡ r * q * 2) (sym e) (omega arith)

inside_along : (s : Shape) (c : Loc) (axis : ℕ) → IsIn s c → axis < 3 → axis_of c axis < blocks_along s axis c.level
inside_along s c zero h k = h.within1
inside_along s c (suc zero) h k = h.within2
inside_along s c (suc (suc zero)) h k = h.within3
inside_along s c (suc (suc (suc a))) h k = absurd (omega arith)

-- a step from the outer half of a pair, and the step of the pair
record Steps (n : ℕ) (w high : Bool) (x y : ℕ) : Type 0 where
  pair : step n w high (x / 2) ≡ Some (y / 2)
  half : y % 2 ≡ cond high 0 1

outer_step : (n : ℕ) (w high : Bool) (x y : ℕ) → x < n * 2 → x % 2 ≡ cond high 1 0 → step (n * 2) w high x ≡ Some y → Steps n w high x y
outer_step n w true x y h p e = let (z, is, twice) = mapped (λ v. 2 * v) (step n w true (x / 2)) y (sym (halves_up n w x h p) ∙ e) in
    let half : z ≡ y / 2 = omega arith in record { pair = is ∙ ap Some half; half = omega arith }
outer_step n w false x y h p e = let (z, is, twice) = mapped (λ v. 2 * v + 1) (step n w false (x / 2)) y (sym (halves_down n w x h p) ∙ e) in
    let half : z ≡ y / 2 = omega arith in record { pair = is ∙ ap Some half; half = omega arith }

outer_pair : (n : ℕ) (w high : Bool) (x z : ℕ) → x < n * 2 → x % 2 ≡ cond high 1 0 → step n w high (x / 2) ≡ Some z → (y : ℕ) × (step (n * 2) w high x ≡ Some y) × (y / 2 ≡ z) × (y % 2 ≡ cond high 0 1)
outer_pair n w true x z h p e = (2 * z, halves_up n w x h p ∙ ap (option_map (λ v. 2 * v)) e, omega arith, omega arith)
outer_pair n w false x z h p e = (2 * z + 1, halves_down n w x h p ∙ ap (option_map (λ v. 2 * v + 1)) e, omega arith, omega arith)

inner_step : (n : ℕ) (w high : Bool) (x : ℕ) → x < n * 2 → x % 2 ≡ cond high 0 1 → (y : ℕ) × (step (n * 2) w high x ≡ Some y) × (y / 2 ≡ x / 2) × (y % 2 ≡ cond high 1 0)
inner_step n w true x h p = (x + 1, inside_up n w x h p, omega arith, omega arith)
inner_step n w false x h p = (x - 1, inside_down n w x h p, omega arith, omega arith)

-- what lies across a side, its step and its level
record Crossed (s : Shape) (c : Loc) (axis : ℕ) (high : Bool) (d : Loc) : Type 0 where
  y : ℕ
  stepped : step (blocks_along s axis c.level) (wraps s axis) high (axis_of c axis) ≡ Some y
  is : moved c axis y ≡ d

crossed : (s : Shape) (c : Loc) (axis : ℕ) (high : Bool) (d : Loc) → across s c axis high ≡ Some d → Crossed s c axis high d
crossed s c axis high d h = let (y, is, at) = mapped (moved c axis) (beside s c axis high) d h in record { y = y; stepped = is; is = at }

-- a crossing made of a step
crossing : (s : Shape) (c : Loc) (axis : ℕ) (high : Bool) (y : ℕ) → step (blocks_along s axis c.level) (wraps s axis) high (axis_of c axis) ≡ Some y → across s c axis high ≡ Some (moved c axis y)
crossing s c axis high y h = ap (option_map (moved c axis)) h

-- what lies across a side keeps its level
pub crossed_level : (s : Shape) (c : Loc) (axis : ℕ) (high : Bool) (d : Loc) → across s c axis high ≡ Some d → d.level ≡ c.level
crossed_level s c axis high d h = let x = crossed s c axis high d h in sym (ap (λ (v : Loc). v.level) x.is) ∙ moved_level c axis x.y

-- from the outer half of a pair, the pair crosses too, and what is met is the outer half of the other pair
pub across-parent : (s : Shape) → s.dims ≤ 3 → (c d : Loc) (axis : ℕ) (high : Bool) → axis < s.dims → IsIn s c → 1 ≤ c.level → axis_of c axis % 2 ≡ cond high 1 0 → across s c axis high ≡ Some d → (across s (parent s.dims c) axis high ≡ Some (parent s.dims d)) × (axis_of d axis % 2 ≡ cond high 0 1)
across-parent s most c d axis high used inside fine half h =
    let x = crossed s c axis high d h in
    let n : ℕ = blocks_along s axis (c.level - 1) in
    let e : blocks_along s axis c.level ≡ n * 2 = blocks_double s axis c.level used fine in
    let below : axis_of c axis < n * 2 = subst (λ v. axis_of c axis < v) e (inside_along s c axis inside (omega arith)) in
    let steps = outer_step n (wraps s axis) high (axis_of c axis) x.y below half (subst (λ v. step v (wraps s axis) high (axis_of c axis) ≡ Some x.y) e x.stepped) in
    let pair : step n (wraps s axis) high (axis_of (parent s.dims c) axis) ≡ Some (x.y / 2) = subst (λ v. step n (wraps s axis) high v ≡ Some (x.y / 2)) (sym (parent_axis s.dims c axis used most)) steps.pair in
    let f : parent s.dims d ≡ moved (parent s.dims c) axis (x.y / 2) = sym (ap (parent s.dims) x.is) ∙ parent_moved s.dims c axis x.y used most in (
      crossing s (parent s.dims c) axis high (x.y / 2) pair ∙ ap Some (sym f),
      subst (λ (v : Loc). axis_of v axis % 2 ≡ cond high 0 1) x.is (subst (λ v. v % 2 ≡ cond high 0 1) (sym (axis_moved c axis x.y)) steps.half),
    )

-- where the pair crosses, so does its outer half
pub across-half : (s : Shape) → s.dims ≤ 3 → (c e : Loc) (axis : ℕ) (high : Bool) → axis < s.dims → IsIn s c → 1 ≤ c.level → axis_of c axis % 2 ≡ cond high 1 0 → across s (parent s.dims c) axis high ≡ Some e → (d : Loc) × (across s c axis high ≡ Some d) × (parent s.dims d ≡ e)
across-half s most c e axis high used inside fine half h =
    let x = crossed s (parent s.dims c) axis high e h in
    let n : ℕ = blocks_along s axis (c.level - 1) in
    let double : blocks_along s axis c.level ≡ n * 2 = blocks_double s axis c.level used fine in
    let below : axis_of c axis < n * 2 = subst (λ v. axis_of c axis < v) double (inside_along s c axis inside (omega arith)) in
    let pair : step n (wraps s axis) high (axis_of c axis / 2) ≡ Some x.y = subst (λ v. step n (wraps s axis) high v ≡ Some x.y) (parent_axis s.dims c axis used most) x.stepped in
    let (y, is, whole, outer) = outer_pair n (wraps s axis) high (axis_of c axis) x.y below half pair in (
      moved c axis y,
      crossing s c axis high y (subst (λ v. step v (wraps s axis) high (axis_of c axis) ≡ Some y) (sym double) is),
      parent_moved s.dims c axis y used most ∙ ap (moved (parent s.dims c) axis) whole ∙ x.is,
    )

-- from the inner half of a pair one stays in the pair
pub across-sibling : (s : Shape) → s.dims ≤ 3 → (c : Loc) (axis : ℕ) (high : Bool) → axis < s.dims → IsIn s c → 1 ≤ c.level → axis_of c axis % 2 ≡ cond high 0 1 → (d : Loc) × (across s c axis high ≡ Some d) × (parent s.dims d ≡ parent s.dims c)
across-sibling s most c axis high used inside fine half =
    let n : ℕ = blocks_along s axis (c.level - 1) in
    let double : blocks_along s axis c.level ≡ n * 2 = blocks_double s axis c.level used fine in
    let below : axis_of c axis < n * 2 = subst (λ v. axis_of c axis < v) double (inside_along s c axis inside (omega arith)) in
    let (y, is, whole, outer) = inner_step n (wraps s axis) high (axis_of c axis) below half in (
      moved c axis y,
      crossing s c axis high y (subst (λ v. step v (wraps s axis) high (axis_of c axis) ≡ Some y) (sym double) is),
      parent_moved s.dims c axis y used most ∙ ap (moved (parent s.dims c) axis) (whole ∙ sym (parent_axis s.dims c axis used most)) ∙ moved_same (parent s.dims c) axis,
    )

-- what lies across a side has what it was seen from across its own opposite side
pub across-back : (s : Shape) (c d : Loc) (axis : ℕ) (high : Bool) → IsIn s c → axis < 3 → across s c axis high ≡ Some d → across s d axis (not high) ≡ Some c
across-back s c d axis high inside used h =
    let x = crossed s c axis high d h in
    let back = step_back (blocks_along s axis c.level) (wraps s axis) high (axis_of c axis) x.y (inside_along s c axis inside used) x.stepped in
    let m : Loc = moved c axis x.y in
    let from : across s m axis (not high) ≡ Some (moved m axis (axis_of c axis)) =
    crossing s m axis (not high) (axis_of c axis)
    (subst (λ v. step (blocks_along s axis v) (wraps s axis) (not high) (axis_of m axis) ≡ Some (axis_of c axis)) (sym (moved_level c axis x.y))
    (subst (λ v. step (blocks_along s axis c.level) (wraps s axis) (not high) v ≡ Some (axis_of c axis)) (sym (axis_moved c axis x.y)) back)) in
    let to : across s m axis (not high) ≡ Some c = from ∙ ap Some (moved_twice c axis x.y (axis_of c axis) ∙ moved_same c axis) in
    subst (λ (v : Loc). across s v axis (not high) ≡ Some c) x.is to

-- one step leads to what is near
step_near : (n : ℕ) (w high : Bool) (x y : ℕ) → x < n → step n w high x ≡ Some y → (is_near n w x y ≡ true) × (y < n)
step_near n w true x y h e = step_up n w x y h e
step_near n w false x y h e = step_down n w x y h e

-- a location moved to what is near touches
moved_touches : (s : Shape) (c : Loc) (axis y : ℕ) → IsIn s c → axis < 3 → is_near (blocks_along s axis c.level) (wraps s axis) (axis_of c axis) y ≡ true → y < blocks_along s axis c.level → Touches s c (moved c axis y)
moved_touches s c zero y inside h near below = record {
  inside = record { level = inside.level; within1 = below; within2 = inside.within2; within3 = inside.within3 };
  touching = record { level = refl; near1 = near; near2 = near_self (blocks_along s 1 c.level) (wraps s 1) c.l2; near3 = near_self (blocks_along s 2 c.level) (wraps s 2) c.l3 };
}
moved_touches s c (suc zero) y inside h near below = record {
  inside = record { level = inside.level; within1 = inside.within1; within2 = below; within3 = inside.within3 };
  touching = record { level = refl; near1 = near_self (blocks_along s 0 c.level) (wraps s 0) c.l1; near2 = near; near3 = near_self (blocks_along s 2 c.level) (wraps s 2) c.l3 };
}
moved_touches s c (suc (suc zero)) y inside h near below = record {
  inside = record { level = inside.level; within1 = inside.within1; within2 = inside.within2; within3 = below };
  touching = record { level = refl; near1 = near_self (blocks_along s 0 c.level) (wraps s 0) c.l1; near2 = near_self (blocks_along s 1 c.level) (wraps s 1) c.l2; near3 = near };
}
moved_touches s c (suc (suc (suc a))) y inside h near below = absurd (omega arith)

-- what lies across a side touches
pub across-touches : (s : Shape) (c d : Loc) (axis : ℕ) (high : Bool) → IsIn s c → axis < 3 → across s c axis high ≡ Some d → Touches s c d
across-touches s c d axis high inside used h =
    let x = crossed s c axis high d h in
    let near = step_near (blocks_along s axis c.level) (wraps s axis) high (axis_of c axis) x.y (inside_along s c axis inside used) x.stepped in
    subst (λ (v : Loc). Touches s c v) x.is (moved_touches s c axis x.y inside used near.0 near.1)

-- the parents of what is near along an axis are near
near_halves : (n : ℕ) (w : Bool) (x y : ℕ) → x < n * 2 → y < n * 2 → is_near (n * 2) w x y ≡ true → is_near n w (x / 2) (y / 2) ≡ true
near_halves n w x y h k e = grind (arith, nat_tests)

near_wholes : (n : ℕ) (w : Bool) (x y : ℕ) → is_near n w x y ≡ true → is_near n w (x / 1) (y / 1) ≡ true
near_wholes n w x y e = let a : x / 1 ≡ x = omega arith in let b : y / 1 ≡ y = omega arith in
    subst (λ v. is_near n w v (y / 1) ≡ true) (sym a) (subst (λ v. is_near n w x v ≡ true) (sym b) e)

near_parents : (used : Bool) (root level : ℕ) (w : Bool) (x y : ℕ) → x < root * cond used 2 1 ^ (level + 1) → y < root * cond used 2 1 ^ (level + 1) → is_near (root * cond used 2 1 ^ (level + 1)) w x y ≡ true → is_near (root * cond used 2 1 ^ level) w (x / cond used 2 1) (y / cond used 2 1) ≡ true
near_parents true root level w x y h k e =
    let p : 2 ^ suc level ≡ 2 ^ level * 2 = pow-suc 2 level in
    let q : level + 1 ≡ suc level = omega arith in
    let double : root * 2 ^ (level + 1) ≡ root * 2 ^ level * 2 = subst (λ v. root * 2 ^ v ≡ root * 2 ^ level * 2) (sym q) (regroup root (2 ^ suc level) (2 ^ level) p) in
    near_halves (root * 2 ^ level) w x y (subst (λ v. x < v) double h) (subst (λ v. y < v) double k) (subst (λ v. is_near v w x y ≡ true) double e)
  where
    regroup : (r p q : ℕ) → p ≡ q * 2 → r * p ≡ r * q * 2
    regroup r p q e = subst (λ v. r * v ≡ r * q * 2) (sym e) (omega arith)
near_parents false root level w x y h k e =
    let p : 1 ^ (level + 1) ≡ 1 ^ level = one_pow (level + 1) ∙ sym (one_pow level) in
    near_wholes (root * 1 ^ level) w x y (subst (λ v. is_near (root * v) w x y ≡ true) p e)

-- the parents of two locations that touch are one, or touch
pub parents_touch : (s : Shape) (l m : Loc) → IsIn s l → IsIn s m → 1 ≤ l.level → AreNeighbours s l m → AreNeighbours s (parent s.dims l) (parent s.dims m)
parents_touch s l m inside there fine near =
    let level = near.level in
    let e : l.level ≡ l.level - 1 + 1 = omega arith in
    let w1 : m.l1 < blocks_along s 0 l.level = subst (λ v. m.l1 < blocks_along s 0 v) level there.within1 in
    let w2 : m.l2 < blocks_along s 1 l.level = subst (λ v. m.l2 < blocks_along s 1 v) level there.within2 in
    let w3 : m.l3 < blocks_along s 2 l.level = subst (λ v. m.l3 < blocks_along s 2 v) level there.within3 in
    record {
      level = ap (λ v. v - 1) level;
      near1 = near_parents (nat_lt 0 s.dims) (root_along s 0) (l.level - 1) (wraps s 0) l.l1 m.l1 (subst (λ v. l.l1 < blocks_along s 0 v) e inside.within1) (subst (λ v. m.l1 < blocks_along s 0 v) e w1) (subst (λ v. is_near (blocks_along s 0 v) (wraps s 0) l.l1 m.l1 ≡ true) e near.near1);
      near2 = near_parents (nat_lt 1 s.dims) (root_along s 1) (l.level - 1) (wraps s 1) l.l2 m.l2 (subst (λ v. l.l2 < blocks_along s 1 v) e inside.within2) (subst (λ v. m.l2 < blocks_along s 1 v) e w2) (subst (λ v. is_near (blocks_along s 1 v) (wraps s 1) l.l2 m.l2 ≡ true) e near.near2);
      near3 = near_parents (nat_lt 2 s.dims) (root_along s 2) (l.level - 1) (wraps s 2) l.l3 m.l3 (subst (λ v. l.l3 < blocks_along s 2 v) e inside.within3) (subst (λ v. m.l3 < blocks_along s 2 v) e w3) (subst (λ v. is_near (blocks_along s 2 v) (wraps s 2) l.l3 m.l3 ≡ true) e near.near3);
    }

-- what lies across a side is the location moved along the axis
pub across-moved : (s : Shape) (c d : Loc) (axis : ℕ) (high : Bool) → across s c axis high ≡ Some d → d ≡ moved c axis (axis_of d axis)
across-moved s c d axis high h =
    let x = crossed s c axis high d h in
    let y : axis_of d axis ≡ x.y = ap (λ (v : Loc). axis_of v axis) (sym x.is) ∙ axis_moved c axis x.y in
    sym x.is ∙ ap (moved c axis) (sym y)
