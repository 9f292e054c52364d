-- To touch a side, from the intervals to a crossing level by level.
use Rattle.std.proofs.Common.{◌≡◌, inl, inr, ℕ, zero, suc, ◌+◌, ◌-◌, ◌*◌, ◌%◌, ◌^◌, ◌<◌, ◌≤◌, Bool, true, false, cond, not, nat_lt, Some, refl, arith, ap, subst, sym, ◌∙◌, lit<}
use Rattle.std.specs.Option.{option_map}
use Rattle.std.proofs.Math.Nat.{eq_of_mul-eq-mul_right, lt_of_mul-lt-mul_right, pow-suc}
use Rattle.std.proofs.lemmas.Nat.{pow-add}
use Rattle.std.proofs.lemmas.Bool.{cases_eq, cases_order}
use Rattle.std.proofs.lemmas.Bool.Decides.{nat_tests}
use Rattle.morton_order.specs.declared.space.Loc.{Loc}
use Rattle.morton_order.specs.declared.space.Shape.{Shape}
use Rattle.morton_order.specs.Space.{IsIn, IsShape, axis_of, blocks_along, factor, parent, root_along, wraps}
use Rattle.morton_order.specs.Neighbours.{across, moved, step}
use Rattle.morton_order.proofs.Crossing.{across-back, across-touches}
use Rattle.morton_order.proofs.Family.{parent_inside}
use Rattle.morton_order.proofs.Lattice.{root_count, zero_below}
use Rattle.morton_order.proofs.Touching.{same_as}
use Rattle.block_tree.specs.Behind.{IsOnePlane, Overlap, TouchesSide, high_end, low_end}
use Rattle.block_tree.proofs.Ancestors.{half-is}
use Rattle.block_tree.proofs.Sides.{IsAtEdge, Crosses, face_at, width, some_width, inside_along, all_places, parent_spans, parent_face, is_parity, not_not, axis_moved, level_moved, other_moved}

-- along an axis that is not in use there is one place
unused : (s : Shape) → IsShape s → (c : Loc) (axis : ℕ) → axis < 3 → IsIn s c → nat_lt axis s.dims ≡ false → axis_of c axis ≡ 0
unused s shape c axis few inside h =
    let n = root_count s shape axis few in
    let e : factor s.dims axis ≡ 1 = ap (λ (b : Bool). cond b 2 1) h in
    let r : root_along s axis ≤ 1 = subst (λ (b : Bool). root_along s axis ≤ cond b 65536 1) h n.1 in
    zero_below (root_along s axis) c.level (axis_of c axis) r (subst (λ v. axis_of c axis < root_along s axis * v ^ c.level) e (inside_along s c axis inside few))

-- on one level, what overlaps along an axis has one coordinate there, and so has what has one face
one_place : (c l : Loc) (axis : ℕ) → c.level ≡ l.level → Overlap axis c l → axis_of c axis ≡ axis_of l axis
one_place c l axis level (below, above) =
    let e : width c.level ≡ width l.level = ap width level in
    let a : axis_of c axis * width l.level < (axis_of l axis + 1) * width l.level = subst (λ v. axis_of c axis * v < (axis_of l axis + 1) * width l.level) e below in
    let b : axis_of l axis * width l.level < (axis_of c axis + 1) * width l.level = subst (λ v. axis_of l axis * width l.level < (axis_of c axis + 1) * v) e above in
    let p = lt_of_mul-lt-mul_right (width l.level) {m = axis_of c axis} {n = axis_of l axis + 1} a in
    let q = lt_of_mul-lt-mul_right (width l.level) {m = axis_of l axis} {n = axis_of c axis + 1} b in
    omega arith

one_face : (c l : Loc) (axis : ℕ) (high : Bool) → c.level ≡ l.level → face_at high c axis ≡ face_at high l axis → axis_of c axis ≡ axis_of l axis
one_face c l axis true level h =
    let e : width c.level ≡ width l.level = ap width level in
    let a : (axis_of c axis + 1) * width l.level ≡ (axis_of l axis + 1) * width l.level = subst (λ v. (axis_of c axis + 1) * v ≡ (axis_of l axis + 1) * width l.level) e h in
    let p = eq_of_mul-eq-mul_right (width l.level) (some_width l.level) (axis_of c axis + 1) (axis_of l axis + 1) a in
    omega arith
one_face c l axis false level h =
    let e : width c.level ≡ width l.level = ap width level in
    let a : axis_of c axis * width l.level ≡ axis_of l axis * width l.level = subst (λ v. axis_of c axis * v ≡ axis_of l axis * width l.level) e h in
    eq_of_mul-eq-mul_right (width l.level) (some_width l.level) (axis_of c axis) (axis_of l axis) a

-- what has the face of a coarser location is an outer half
outer_half : (c l : Loc) (axis : ℕ) (high : Bool) (k : ℕ) → c.level ≤ 10 → c.level ≡ l.level + suc k → face_at high c axis ≡ face_at high l axis → axis_of c axis % 2 ≡ cond high 1 0
outer_half c l axis high k small level h = by high h
  where
    longer : width l.level ≡ 2 ^ k * 2 * width c.level
    longer = let e : 10 - l.level ≡ suc k + (10 - c.level) = omega arith in ap (λ v. 2 ^ v) e ∙ pow-add 2 (suc k) (10 - c.level) ∙ ap (λ v. v * width c.level) (pow-suc 2 k)

    by : (high : Bool) → face_at high c axis ≡ face_at high l axis → axis_of c axis % 2 ≡ cond high 1 0
    by true h =
        let a : (axis_of c axis + 1) * width c.level ≡ (axis_of l axis + 1) * (2 ^ k * 2) * width c.level = subst (λ v. (axis_of c axis + 1) * width c.level ≡ v) (regroup (axis_of l axis + 1) (2 ^ k * 2) (width c.level)) (subst (λ v. (axis_of c axis + 1) * width c.level ≡ (axis_of l axis + 1) * v) longer h) in
        let p = eq_of_mul-eq-mul_right (width c.level) (some_width c.level) (axis_of c axis + 1) ((axis_of l axis + 1) * (2 ^ k * 2)) a in
        odd (axis_of c axis) (axis_of l axis + 1) (2 ^ k) p
      where
        regroup : (a b p : ℕ) → a * (b * p) ≡ a * b * p
        regroup a b p = omega arith

        odd : (x y q : ℕ) → x + 1 ≡ y * (q * 2) → x % 2 ≡ 1
        odd x y q e = let f : x + 1 ≡ 2 * (y * q) = e ∙ twice y q in last x (y * q) f
          where
            twice : (y q : ℕ) → y * (q * 2) ≡ 2 * (y * q)
            twice y q = omega arith

            last : (x z : ℕ) → x + 1 ≡ 2 * z → x % 2 ≡ 1
            last x z e = omega arith
    by false h =
        let a : axis_of c axis * width c.level ≡ axis_of l axis * (2 ^ k * 2) * width c.level = subst (λ v. axis_of c axis * width c.level ≡ v) (regroup (axis_of l axis) (2 ^ k * 2) (width c.level)) (subst (λ v. axis_of c axis * width c.level ≡ axis_of l axis * v) longer h) in
        let p = eq_of_mul-eq-mul_right (width c.level) (some_width c.level) (axis_of c axis) (axis_of l axis * (2 ^ k * 2)) a in
        even (axis_of c axis) (axis_of l axis) (2 ^ k) p
      where
        regroup : (a b p : ℕ) → a * (b * p) ≡ a * b * p
        regroup a b p = omega arith

        even : (x y q : ℕ) → x ≡ y * (q * 2) → x % 2 ≡ 0
        even x y q e = let f : x ≡ 2 * (y * q) = e ∙ twice y q in last x (y * q) f
          where
            twice : (y q : ℕ) → y * (q * 2) ≡ 2 * (y * q)
            twice y q = omega arith

            last : (x z : ℕ) → x ≡ 2 * z → x % 2 ≡ 0
            last x z e = omega arith

-- what has the face of a location and overlaps it along the other axes in use
record Flush (s : Shape) (axis : ℕ) (high : Bool) (c l : Loc) : Type 0 where
  inside : IsIn s c
  whole : IsIn s l
  face : face_at high c axis ≡ face_at high l axis
  overlap : (other : ℕ) → other < s.dims → (other ≡ axis → ⊥) → Overlap other c l

-- on one level that is the location itself
flush_same : (s : Shape) → IsShape s → (axis : ℕ) (high : Bool) (c l : Loc) → c.level ≡ l.level → Flush s axis high c l → c ≡ l
flush_same s shape axis high c l level flush = same_as l c level (along 0 (lit< tt) (nat_lt 0 s.dims) refl) (along 1 (lit< tt) (nat_lt 1 s.dims) refl) (along 2 (lit< tt) (nat_lt 2 s.dims) refl)
  where
    along : (a : ℕ) → a < 3 → (b : Bool) → nat_lt a s.dims ≡ b → axis_of c a ≡ axis_of l a
    along a few true used = let less : a < s.dims = grind (arith, nat_tests) in elim (cases_eq a axis) [
      | inl is ↦ subst (λ v. axis_of c v ≡ axis_of l v) (sym is) (one_face c l axis high level flush.face)
      | inr other ↦ one_place c l a level (flush.overlap a less other)
    ]
    along a few false used = unused s shape c a few flush.inside used ∙ sym (unused s shape l a few flush.whole used)

-- on a finer level it is at the edge
flush_edge : (s : Shape) → IsShape s → (axis : ℕ) (high : Bool) → axis < s.dims → (k : ℕ) (c l : Loc) → c.level ≡ l.level + k → Flush s axis high c l → IsAtEdge s.dims axis high k c l
flush_edge s shape axis high used zero c l level flush = flush_same s shape axis high c l (omega arith) flush
flush_edge s shape axis high used (suc k) c l level flush =
    let small = flush.inside.level in
    let most = shape.most in
    let fine : 1 ≤ c.level = omega arith in
    let half = outer_half c l axis high k small level flush.face in
    let up : Flush s axis high (parent s.dims c) l = record {
      inside = parent_inside s c flush.inside fine;
      whole = flush.whole;
      face = sym (parent_face s c axis high most used fine small half) ∙ flush.face;
      overlap = λ other few ne.
          let a = parent_spans s c other most few fine small in
          let o = flush.overlap other few ne in
          let a1 = a.from in let a2 = a.to in let o1 = o.0 in let o2 = o.1 in (omega arith, omega arith);
    } in (
      fine,
      half-is s.dims c axis shape.least most used ∙ is_parity (axis_of c axis) high half,
      flush_edge s shape axis high used k (parent s.dims c) l (omega arith) up,
    )

-- what lies across the near side of a location that touches
record Reached (s : Shape) (axis : ℕ) (high : Bool) (l m : Loc) : Type 0 where
  y : ℕ
  stepped : step (blocks_along s axis m.level) (wraps s axis) (not high) (axis_of m axis) ≡ Some y
  face : face_at high (moved m axis y) axis ≡ face_at high l axis

step_down : (n : ℕ) (w : Bool) (x : ℕ) → 0 < x → step n w false x ≡ Some (x - 1)
step_down n w x h = grind (arith, nat_tests)

step_round : (n : ℕ) (w : Bool) (x : ℕ) → x ≡ 0 → w ≡ true → step n w false x ≡ Some (n - 1)
step_round n w x h e = grind (arith, nat_tests)

step_up : (n : ℕ) (w : Bool) (x : ℕ) → x + 1 < n → step n w true x ≡ Some (x + 1)
step_up n w x h = grind (arith, nat_tests)

step_over : (n : ℕ) (w : Bool) (x : ℕ) → x + 1 ≡ n → w ≡ true → step n w true x ≡ Some 0
step_over n w x h e = grind (arith, nat_tests)

moved_high : (m : Loc) (axis y : ℕ) → high_end (moved m axis y) axis ≡ (y + 1) * width m.level
moved_high m axis y = ap (λ v. (v + 1) * width (moved m axis y).level) (axis_moved m axis y) ∙ ap (λ v. (y + 1) * width v) (level_moved m axis y)

moved_low : (m : Loc) (axis y : ℕ) → low_end (moved m axis y) axis ≡ y * width m.level
moved_low m axis y = ap (λ v. v * width (moved m axis y).level) (axis_moved m axis y) ∙ ap (λ v. y * width v) (level_moved m axis y)

reach : (s : Shape) → IsShape s → (axis : ℕ) (high : Bool) (l m : Loc) → axis < s.dims → IsIn s l → IsIn s m → IsOnePlane s axis high l m → Reached s axis high l m
reach s shape axis true l m used inside there (inl h) =
    let some = some_width l.level in
    let first : 0 < axis_of m axis = positive (axis_of l axis) (width l.level) (axis_of m axis) (width m.level) some h in
    let e : axis_of m axis - 1 + 1 ≡ axis_of m axis = omega arith in
    record {
      y = axis_of m axis - 1;
      stepped = step_down (blocks_along s axis m.level) (wraps s axis) (axis_of m axis) first;
      face = moved_high m axis (axis_of m axis - 1) ∙ ap (λ v. v * width m.level) e ∙ sym h;
    }
  where
    positive : (x p y q : ℕ) → 0 < p → (x + 1) * p ≡ y * q → 0 < y
    positive x p zero q h e = let z : 0 * q ≡ 0 = omega arith in let w : p ≤ (x + 1) * p = omega arith in absurd (omega arith)
    positive x p (suc y) q h e = omega arith
reach s shape axis true l m used inside there (inr (wrap, last, first)) =
    let most = shape.most in
    let n : ℕ = blocks_along s axis m.level in
    let x : axis_of m axis ≡ 0 = eq_of_mul-eq-mul_right (width m.level) (some_width m.level) (axis_of m axis) 0 (first ∙ zero_times (width m.level)) in
    let below = inside_along s m axis there (omega arith) in
    let e : n - 1 + 1 ≡ n = omega arith in
    record {
      y = n - 1;
      stepped = step_round n (wraps s axis) (axis_of m axis) x wrap;
      face = moved_high m axis (n - 1) ∙ ap (λ v. v * width m.level) e ∙ all_places s axis m.level used there.level ∙ sym last;
    }
  where
    zero_times : (p : ℕ) → 0 ≡ 0 * p
    zero_times p = omega arith
reach s shape axis false l m used inside there (inl h) =
    let most = shape.most in
    let n : ℕ = blocks_along s axis m.level in
    let below = inside_along s l axis inside (omega arith) in
    let some = some_width l.level in
    let within : axis_of l axis * width l.level < blocks_along s axis l.level * width l.level = scaled (axis_of l axis) (blocks_along s axis l.level) (width l.level) below some in
    let end : blocks_along s axis l.level * width l.level ≡ n * width m.level = all_places s axis l.level used inside.level ∙ sym (all_places s axis m.level used there.level) in
    let less : (axis_of m axis + 1) * width m.level < n * width m.level = omega (arith, h, within, end) in
    record {
      y = axis_of m axis + 1;
      stepped = step_up n (wraps s axis) (axis_of m axis) (lt_of_mul-lt-mul_right (width m.level) {m = axis_of m axis + 1} {n = n} less);
      face = moved_low m axis (axis_of m axis + 1) ∙ h;
    }
  where
    scaled : (x n p : ℕ) → x < n → 0 < p → x * p < n * p
    scaled x n p h k = let e : x + 1 ≤ n = omega arith in grind arith
reach s shape axis false l m used inside there (inr (wrap, last, first)) =
    let most = shape.most in
    let n : ℕ = blocks_along s axis m.level in
    let x : axis_of m axis + 1 ≡ n = eq_of_mul-eq-mul_right (width m.level) (some_width m.level) (axis_of m axis + 1) n (last ∙ sym (all_places s axis m.level used there.level)) in
    record {
      y = 0;
      stepped = step_over n (wraps s axis) (axis_of m axis) x wrap;
      face = moved_low m axis 0 ∙ zero_times (width m.level) ∙ sym first;
    }
  where
    zero_times : (p : ℕ) → 0 * p ≡ 0
    zero_times p = omega arith

-- what touches a side of a location that is no finer is crossed to from an edge
record Edge (s : Shape) (axis : ℕ) (high : Bool) (k : ℕ) (l m : Loc) : Type 0 where
  c : Loc
  crosses : across s m axis (not high) ≡ Some c
  edge : IsAtEdge s.dims axis high k c l

edge_to : (s : Shape) (l m : Loc) (axis : ℕ) (high : Bool) (k : ℕ) → IsShape s → axis < s.dims → IsIn s l → IsIn s m → m.level ≡ l.level + k → TouchesSide s axis high l m → Edge s axis high k l m
edge_to s l m axis high k shape used inside there level t =
    let most = shape.most in
    let r = reach s shape axis high l m used inside there t.plane in
    let c : Loc = moved m axis r.y in
    let crosses : across s m axis (not high) ≡ Some c = ap (option_map (moved m axis)) r.stepped in
    let same = level_moved m axis r.y in
    record {
      c = c;
      crosses = crosses;
      edge = flush_edge s shape axis high used k c l (same ∙ level) (record {
        inside = (across-touches s m c axis (not high) there (omega arith) crosses).inside;
        whole = inside;
        face = r.face;
        overlap = λ other few ne. over other c (other_moved m axis other r.y (omega arith) (omega arith) ne) same (t.overlap other few ne);
      });
    }
  where
    over : (other : ℕ) (c : Loc) → axis_of c other ≡ axis_of m other → c.level ≡ m.level → Overlap other l m → Overlap other c l
    over other c e f o =
        let low : low_end c other ≡ low_end m other = ap (λ v. v * width c.level) e ∙ ap (λ v. axis_of m other * width v) f in
        let up : high_end c other ≡ high_end m other = ap (λ v. (v + 1) * width c.level) e ∙ ap (λ v. (axis_of m other + 1) * width v) f in
        let o1 = o.0 in let o2 = o.1 in (omega arith, omega arith)

-- to touch is mutual
flipped : (s : Shape) (l m : Loc) (axis : ℕ) (high : Bool) → TouchesSide s axis high l m → TouchesSide s axis (not high) m l
flipped s l m axis true t = record { plane = t.plane; overlap = λ other few ne. let o = t.overlap other few ne in (o.1, o.0) }
flipped s l m axis false t = record { plane = t.plane; overlap = λ other few ne. let o = t.overlap other few ne in (o.1, o.0) }

crosses_finer : (s : Shape) (l m : Loc) (axis : ℕ) (high : Bool) (k : ℕ) → IsShape s → axis < s.dims → IsIn s l → IsIn s m → m.level ≡ l.level + k → TouchesSide s axis high l m → Crosses s axis high l m
crosses_finer s l m axis high k shape used inside there level t =
    let most = shape.most in
    let e = edge_to s l m axis high k shape used inside there level t in
    let back = across-back s m e.c axis (not high) there (omega arith) e.crosses in
    record {
      up = k;
      over = 0;
      c = e.c;
      d = m;
      inside = (across-touches s m e.c axis (not high) there (omega arith) e.crosses).inside;
      here = e.edge;
      there = refl;
      meet = subst (λ (b : Bool). across s e.c axis b ≡ Some m) (not_not high) back;
    }

crosses_coarser : (s : Shape) (l m : Loc) (axis : ℕ) (high : Bool) (k : ℕ) → IsShape s → axis < s.dims → IsIn s l → IsIn s m → l.level ≡ m.level + k → TouchesSide s axis high l m → Crosses s axis high l m
crosses_coarser s l m axis high k shape used inside there level t =
    let e = edge_to s m l axis (not high) k shape used there inside level (flipped s l m axis high t) in
    record {
      up = 0;
      over = k;
      c = l;
      d = e.c;
      inside = inside;
      here = refl;
      there = e.edge;
      meet = subst (λ (b : Bool). across s l axis b ≡ Some e.c) (not_not high) e.crosses;
    }

-- what touches is crossed to
pub crosses_of : (s : Shape) (l m : Loc) (axis : ℕ) (high : Bool) → IsShape s → axis < s.dims → IsIn s l → IsIn s m → TouchesSide s axis high l m → Crosses s axis high l m
crosses_of s l m axis high shape used inside there t = elim (cases_order l.level m.level) [
  | inl same ↦ crosses_finer s l m axis high 0 shape used inside there (omega arith) t
  | inr other ↦ elim other [
    | inl finer ↦ crosses_finer s l m axis high (m.level - l.level) shape used inside there (omega arith) t
    | inr coarser ↦ crosses_coarser s l m axis high (l.level - m.level) shape used inside there (omega arith) t
  ]
]
