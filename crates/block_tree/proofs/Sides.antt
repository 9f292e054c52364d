-- To touch a side, by intervals and level by level.
use Rattle.std.proofs.Common.{◌≡◌, ◌⊎◌, inl, inr, ℕ, zero, suc, ◌+◌, ◌-◌, ◌*◌, ◌/◌, ◌%◌, ◌^◌, ◌<◌, ◌≤◌, Bool, true, false, cond, not, nat_eq, Option, Some, None, refl, arith, ap, subst, sym, ◌∙◌, lit<}
use Rattle.std.specs.Option.{option_map}
use Rattle.std.proofs.Math.Nat.{one-le-pow, pow-suc}
use Rattle.std.proofs.lemmas.Nat.{pow-add}
use Rattle.std.proofs.lemmas.Bool.{cases_eq, lt-ltb}
use Rattle.std.proofs.lemmas.Bool.Decides.{nat_tests}
use Rattle.morton_order.specs.declared.space.Loc.{Loc}
use Rattle.morton_order.specs.declared.space.Shape.{Shape}
use Rattle.morton_order.specs.Space.{IsIn, IsShape, axis_of, blocks_along, child_number, factor, parent, root_along, wraps}
use Rattle.morton_order.specs.Neighbours.{across, moved, step}
use Rattle.morton_order.proofs.Crossing.{across-back, across-moved, across-touches, crossed_level}
use Rattle.morton_order.proofs.Family.{parent_inside}
use Rattle.block_tree.specs.Behind.{IsOnePlane, MeetInPlane, TouchesSide, high_end, is_high_half, low_end}
use Rattle.block_tree.proofs.Ancestors.{half-is}

-- a location that many levels below another, at a side of it
abbrev pub IsAtEdge : ℕ → ℕ → Bool → ℕ → Loc → Loc → Type 0
IsAtEdge dims axis high zero c l = c ≡ l
IsAtEdge dims axis high (suc levels) c l = (1 ≤ c.level) × (is_high_half (child_number dims c) axis ≡ high) × IsAtEdge dims axis high levels (parent dims c) l

-- a crossing from one location to another: on some level, a part of the one at that side lies across from a part of the other
pub record Crosses (s : Shape) (axis : ℕ) (high : Bool) (l m : Loc) : Type 0 where
  pub up : ℕ
  pub over : ℕ
  pub c : Loc
  pub d : Loc
  pub inside : IsIn s c
  pub here : IsAtEdge s.dims axis high up c l
  pub there : IsAtEdge s.dims axis (not high) over d m
  pub meet : across s c axis high ≡ Some d

-- the place of a face along its axis
abbrev pub face_at : Bool → Loc → ℕ → ℕ
face_at true l axis = high_end l axis
face_at false l axis = low_end l axis

-- how long a location is on the finest lattice
abbrev pub width : ℕ → ℕ
width level = 2 ^ (10 - level)

pub some_width : (level : ℕ) → 0 < width level
some_width level = one-le-pow (10 - level) 2 (lit< tt)

double_width : (level : ℕ) → 1 ≤ level → level ≤ 10 → width (level - 1) ≡ width level * 2
double_width level h k = let e : 10 - (level - 1) ≡ suc (10 - level) = omega arith in ap (λ v. 2 ^ v) e ∙ pow-suc 2 (10 - level)

two : (dims axis : ℕ) → axis < dims → factor dims axis ≡ 2
two dims axis h = ap (λ (b : Bool). cond b 2 1) (lt-ltb axis dims h)

parent_axis : (dims : ℕ) (c : Loc) (axis : ℕ) → axis < dims → dims ≤ 3 → axis_of (parent dims c) axis ≡ axis_of c axis / 2
parent_axis dims c zero h k = ap (λ v. c.l1 / v) (two dims 0 h)
parent_axis dims c (suc zero) h k = ap (λ v. c.l2 / v) (two dims 1 h)
parent_axis dims c (suc (suc a)) h k = ap (λ v. c.l3 / v) (two dims 2 (omega arith))

pub inside_along : (s : Shape) (c : Loc) (axis : ℕ) → IsIn s c → axis < 3 → axis_of c axis < blocks_along s axis c.level
inside_along s c zero h k = h.within1
inside_along s c (suc zero) h k = h.within2
inside_along s c (suc (suc zero)) h k = h.within3
inside_along s c (suc (suc (suc a))) h k = absurd (omega arith)

-- the places of a level along an axis reach to its end
pub all_places : (s : Shape) (axis level : ℕ) → axis < s.dims → level ≤ 10 → blocks_along s axis level * width level ≡ blocks_along s axis 10
all_places s axis level used h =
    let f = two s.dims axis used in
    let e : 2 ^ (level + (10 - level)) ≡ 2 ^ level * 2 ^ (10 - level) = pow-add 2 level (10 - level) in
    let g : level + (10 - level) ≡ 10 = omega arith in
    let k : 2 ^ 10 ≡ 2 ^ level * 2 ^ (10 - level) = subst (λ v. 2 ^ v ≡ 2 ^ level * 2 ^ (10 - level)) g e in
    subst (λ v. root_along s axis * v ^ level * 2 ^ (10 - level) ≡ root_along s axis * v ^ 10) (sym f) (regroup (root_along s axis) (2 ^ level) (2 ^ (10 - level)) (2 ^ 10) k)
  where
    regroup : (r p q t : ℕ) → t ≡ p * q → r * p * q ≡ r * t
    regroup r p q t e = subst (λ v. r * p * q ≡ r * v) (sym e) (omega arith)

-- a half within its whole
record HalfSpans (x p : ℕ) : Type 0 where
  from : x / 2 * (p * 2) ≤ x * p
  to : (x + 1) * p ≤ (x / 2 + 1) * (p * 2)

half_spans : (x p : ℕ) → HalfSpans x p
half_spans x p = elim (cases_eq (x % 2) 0) [
  | inl low ↦ let e : x ≡ 2 * (x / 2) = omega arith in low_half (x / 2) x p e
  | inr high ↦ let e : x ≡ 2 * (x / 2) + 1 = omega arith in high_half (x / 2) x p e
]
  where
    low_half : (h x p : ℕ) → x ≡ 2 * h → HalfSpans x p
    low_half h x p e = subst (λ v. HalfSpans v p) (sym e) (let f : 2 * h / 2 ≡ h = omega arith in record { from = subst (λ v. v * (p * 2) ≤ 2 * h * p) (sym f) (omega arith); to = subst (λ v. (2 * h + 1) * p ≤ (v + 1) * (p * 2)) (sym f) (omega arith) })

    high_half : (h x p : ℕ) → x ≡ 2 * h + 1 → HalfSpans x p
    high_half h x p e = subst (λ v. HalfSpans v p) (sym e) (let f : (2 * h + 1) / 2 ≡ h = omega arith in record { from = subst (λ v. v * (p * 2) ≤ (2 * h + 1) * p) (sym f) (omega arith); to = subst (λ v. (2 * h + 1 + 1) * p ≤ (v + 1) * (p * 2)) (sym f) (omega arith) })

-- the outer half of a pair ends where the pair does
half_end : (x p : ℕ) → x % 2 ≡ 1 → (x + 1) * p ≡ (x / 2 + 1) * (p * 2)
half_end x p odd = let e : x ≡ 2 * (x / 2) + 1 = omega arith in subst (λ v. (v + 1) * p ≡ (x / 2 + 1) * (p * 2)) (sym e) (regroup (x / 2) p)
  where
    regroup : (h p : ℕ) → (2 * h + 1 + 1) * p ≡ (h + 1) * (p * 2)
    regroup h p = omega arith

half_begin : (x p : ℕ) → x % 2 ≡ 0 → x * p ≡ x / 2 * (p * 2)
half_begin x p even = let e : x ≡ 2 * (x / 2) = omega arith in subst (λ v. v * p ≡ x / 2 * (p * 2)) (sym e) (regroup (x / 2) p)
  where
    regroup : (h p : ℕ) → 2 * h * p ≡ h * (p * 2)
    regroup h p = omega arith

-- a location lies within its parent along each axis in use
pub record Spans (c l : Loc) (axis : ℕ) : Type 0 where
  pub from : low_end l axis ≤ low_end c axis
  pub to : high_end c axis ≤ high_end l axis

pub parent_spans : (s : Shape) (c : Loc) (axis : ℕ) → s.dims ≤ 3 → axis < s.dims → 1 ≤ c.level → c.level ≤ 10 → Spans c (parent s.dims c) axis
parent_spans s c axis most used fine small =
    let e = parent_axis s.dims c axis used most in
    let w = double_width c.level fine small in
    let h = half_spans (axis_of c axis) (width c.level) in
    record {
      from = subst (λ v. v * width (c.level - 1) ≤ axis_of c axis * width c.level) (sym e) (subst (λ v. axis_of c axis / 2 * v ≤ axis_of c axis * width c.level) (sym w) h.from);
      to = subst (λ v. (axis_of c axis + 1) * width c.level ≤ (v + 1) * width (c.level - 1)) (sym e) (subst (λ v. (axis_of c axis + 1) * width c.level ≤ (axis_of c axis / 2 + 1) * v) (sym w) h.to);
    }

-- the outer half has the face of its parent
pub parent_face : (s : Shape) (c : Loc) (axis : ℕ) (high : Bool) → s.dims ≤ 3 → axis < s.dims → 1 ≤ c.level → c.level ≤ 10 → axis_of c axis % 2 ≡ cond high 1 0 → face_at high c axis ≡ face_at high (parent s.dims c) axis
parent_face s c axis true most used fine small half =
    half_end (axis_of c axis) (width c.level) half ∙ ap (λ v. (axis_of c axis / 2 + 1) * v) (sym (double_width c.level fine small)) ∙ ap (λ v. (v + 1) * width (c.level - 1)) (sym (parent_axis s.dims c axis used most))
parent_face s c axis false most used fine small half =
    half_begin (axis_of c axis) (width c.level) half ∙ ap (λ v. axis_of c axis / 2 * v) (sym (double_width c.level fine small)) ∙ ap (λ v. v * width (c.level - 1)) (sym (parent_axis s.dims c axis used most))

parity : (x : ℕ) (high : Bool) → nat_eq (x % 2) 1 ≡ high → x % 2 ≡ cond high 1 0
parity x true h = let low : x % 2 < 2 = omega arith in grind (arith, nat_tests)
parity x false h = let low : x % 2 < 2 = omega arith in grind (arith, nat_tests)

pub is_parity : (x : ℕ) (high : Bool) → x % 2 ≡ cond high 1 0 → nat_eq (x % 2) 1 ≡ high
is_parity x true h = ap (λ v. nat_eq v 1) h
is_parity x false h = ap (λ v. nat_eq v 1) h

pub not_not : (b : Bool) → not (not b) ≡ b
not_not true = refl
not_not false = refl

-- what lies at an edge lies within, and has its face
edge_spans : (s : Shape) → IsShape s → (axis : ℕ) (high : Bool) (k : ℕ) (c l : Loc) (other : ℕ) → other < s.dims → IsIn s c → IsAtEdge s.dims axis high k c l → Spans c l other
edge_spans s shape axis high zero c l other used inside is = subst (λ (v : Loc). Spans c v other) is (record { from = omega arith; to = omega arith })
edge_spans s shape axis high (suc k) c l other used inside (fine, half, rest) =
    let a = parent_spans s c other shape.most used fine inside.level in
    let b = edge_spans s shape axis high k (parent s.dims c) l other used (parent_inside s c inside fine) rest in
    let a1 = a.from in let a2 = a.to in let b1 = b.from in let b2 = b.to in
    record { from = omega arith; to = omega arith }

edge_face : (s : Shape) → IsShape s → (axis : ℕ) (high : Bool) (k : ℕ) (c l : Loc) → axis < s.dims → IsIn s c → IsAtEdge s.dims axis high k c l → face_at high c axis ≡ face_at high l axis
edge_face s shape axis high zero c l used inside is = ap (λ (v : Loc). face_at high v axis) is
edge_face s shape axis high (suc k) c l used inside (fine, half, rest) =
    let p = parity (axis_of c axis) high (sym (half-is s.dims c axis shape.least shape.most used) ∙ half) in
    parent_face s c axis high shape.most used fine inside.level p ∙ edge_face s shape axis high k (parent s.dims c) l used (parent_inside s c inside fine) rest

-- one step leads into the plane
step_plane : (n : ℕ) (w : Bool) (x y : ℕ) → x < n → step n w true x ≡ Some y → (x + 1 ≡ y) ⊎ ((w ≡ true) × (x + 1 ≡ n) × (y ≡ 0))
step_plane n w x y h e = grind (arith, nat_tests)

mapped : {X Y : Type 0} (f : X → Y) (o : Option X) (y : Y) → option_map f o ≡ Some y → (x : X) × (o ≡ Some x) × (f x ≡ y)
mapped f (Some x) y h = (x, refl, cc)
mapped f None y h = absurd (none_is_not y h)
  where
    none_is_not : {Z : Type 0} (z : Z) → None ≡ Some z → ⊥
    none_is_not z h = cc

pub axis_moved : (c : Loc) (axis y : ℕ) → axis_of (moved c axis y) axis ≡ y
axis_moved c zero y = refl
axis_moved c (suc zero) y = refl
axis_moved c (suc (suc a)) y = refl

pub level_moved : (c : Loc) (axis y : ℕ) → (moved c axis y).level ≡ c.level
level_moved c zero y = refl
level_moved c (suc zero) y = refl
level_moved c (suc (suc a)) y = refl

pub other_moved : (c : Loc) (axis other y : ℕ) → axis < 3 → other < 3 → (other ≡ axis → ⊥) → axis_of (moved c axis y) other ≡ axis_of c other
other_moved c zero zero y h k ne = absurd (ne refl)
other_moved c zero (suc zero) y h k ne = refl
other_moved c zero (suc (suc b)) y h k ne = refl
other_moved c (suc zero) zero y h k ne = refl
other_moved c (suc zero) (suc zero) y h k ne = absurd (ne refl)
other_moved c (suc zero) (suc (suc b)) y h k ne = refl
other_moved c (suc (suc a)) zero y h k ne = refl
other_moved c (suc (suc a)) (suc zero) y h k ne = refl
other_moved c (suc (suc a)) (suc (suc b)) y h k ne = absurd (ne (omega arith))

-- a location and the one across its high side meet in a plane
meet_up : (s : Shape) (c d : Loc) (axis : ℕ) → s.dims ≤ 3 → axis < s.dims → IsIn s c → across s c axis true ≡ Some d → MeetInPlane s axis c d
meet_up s c d axis most used inside h =
    let (y, stepped, is) = mapped (moved c axis) (step (blocks_along s axis c.level) (wraps s axis) true (axis_of c axis)) d h in
    let at : axis_of d axis ≡ y = ap (λ (v : Loc). axis_of v axis) (sym is) ∙ axis_moved c axis y in
    let level : d.level ≡ c.level = ap (λ (v : Loc). v.level) (sym is) ∙ level_moved c axis y in
    let low : low_end d axis ≡ y * width c.level = ap (λ v. v * width d.level) at ∙ ap (λ v. y * width v) level in
    elim (step_plane (blocks_along s axis c.level) (wraps s axis) (axis_of c axis) y (inside_along s c axis inside (omega arith)) stepped) [
      | inl next ↦ inl (ap (λ v. v * width c.level) next ∙ sym low)
      | inr (wrap, last, first) ↦ inr (wrap, ap (λ v. v * width c.level) last ∙ all_places s axis c.level used inside.level, low ∙ ap (λ v. v * width c.level) first ∙ zero_times (width c.level))
    ]
  where
    zero_times : (p : ℕ) → 0 * p ≡ 0
    zero_times p = omega arith

one_plane : (s : Shape) (c d : Loc) (axis : ℕ) (high : Bool) → s.dims ≤ 3 → axis < s.dims → IsIn s c → across s c axis high ≡ Some d → IsOnePlane s axis high c d
one_plane s c d axis true most used inside h = meet_up s c d axis most used inside h
one_plane s c d axis false most used inside h = meet_up s d c axis most used (across-touches s c d axis false inside (omega arith) h).inside (across-back s c d axis false inside (omega arith) h)

-- planes of faces that are the same
plane_of : (s : Shape) (axis : ℕ) (high : Bool) (c d l m : Loc) → face_at high c axis ≡ face_at high l axis → face_at (not high) d axis ≡ face_at (not high) m axis → IsOnePlane s axis high c d → IsOnePlane s axis high l m
plane_of s axis true c d l m e f (inl h) = inl (sym e ∙ h ∙ f)
plane_of s axis true c d l m e f (inr h) = inr (h.0, sym e ∙ h.1, sym f ∙ h.2)
plane_of s axis false c d l m e f (inl h) = inl (sym f ∙ h ∙ e)
plane_of s axis false c d l m e f (inr h) = inr (h.0, sym f ∙ h.1, sym e ∙ h.2)

-- a crossing leads to what touches
pub touches_of : (s : Shape) (l m : Loc) (axis : ℕ) (high : Bool) → IsShape s → axis < s.dims → Crosses s axis high l m → TouchesSide s axis high l m
touches_of s l m axis high shape used t =
    let most = shape.most in
    let there = (across-touches s t.c t.d axis high t.inside (omega arith) t.meet).inside in
    record {
      plane = plane_of s axis high t.c t.d l m (edge_face s shape axis high t.up t.c l used t.inside t.here) (edge_face s shape axis (not high) t.over t.d m used there t.there)
          (one_plane s t.c t.d axis high most used t.inside t.meet);
      overlap = λ other few ne.
          let a = edge_spans s shape axis high t.up t.c l other few t.inside t.here in
          let b = edge_spans s shape axis (not high) t.over t.d m other few there t.there in
          let a1 = a.from in let a2 = a.to in let b1 = b.from in let b2 = b.to in
          let level = crossed_level s t.c axis high t.d t.meet in
          let is = across-moved s t.c t.d axis high t.meet in
          let same : axis_of t.d other ≡ axis_of t.c other = ap (λ (v : Loc). axis_of v other) is ∙ other_moved t.c axis other (axis_of t.d axis) (omega arith) (omega arith) ne in
          let low : low_end t.d other ≡ low_end t.c other = ap (λ v. v * width t.d.level) same ∙ ap (λ v. axis_of t.c other * width v) level in
          let up : high_end t.d other ≡ high_end t.c other = ap (λ v. (v + 1) * width t.d.level) same ∙ ap (λ v. (axis_of t.c other + 1) * width v) level in
          let some = some_width t.c.level in
          let wide : low_end t.c other < high_end t.c other = wider (axis_of t.c other) (width t.c.level) some in
          (omega arith, omega arith);
    }
  where
    wider : (x p : ℕ) → 0 < p → x * p < (x + 1) * p
    wider x p h = omega arith
