-- The two halves at a face.
use Rattle.std.proofs.Common.{◌≡◌, ℕ, zero, suc, ◌+◌, ◌-◌, ◌%◌, ◌<◌, ◌≤◌, Bool, true, false, cond, not, Some, refl, arith, ap, sym, ◌∙◌}
use Rattle.morton_order.specs.declared.space.Loc.{Loc}
use Rattle.morton_order.specs.declared.space.Shape.{Shape}
use Rattle.morton_order.specs.Space.{IsIn, axis_of, child, child_number, parent, parts}
use Rattle.morton_order.specs.Neighbours.{across, moved}
use Rattle.morton_order.proofs.Family.{child_inside, parent-child}
use Rattle.morton_order.proofs.Crossing.{across-back, across-half, across-moved, across-parent, across-touches, crossed_level}
use Rattle.block_tree.specs.Behind.{children_at, is_high_half}
use Rattle.block_tree.proofs.Ancestors.{half-is, parity}
use Rattle.block_tree.proofs.Behinds.{number_of_child}
use Rattle.mesh_rules.specs.Sums.{sum_over, sum_to}

-- the weight of an axis in the number of a child
abbrev pub axis_bit : ℕ → ℕ
axis_bit zero = 1
axis_bit (suc zero) = 2
axis_bit (suc (suc _)) = 4

-- the child on the other side along an axis, from the one at the low or at the high side
abbrev pub flip : ℕ → Bool → ℕ → ℕ
flip axis high j = cond high (j + axis_bit axis) (j - axis_bit axis)

-- a sum over the other halves is part of the sum over all
pub flipped_sum : (dims axis : ℕ) (high : Bool) (g : ℕ → ℕ) → 1 ≤ dims → dims ≤ 3 → axis < dims → sum_over (children_at dims axis (not high)) (λ j. g (flip axis high j)) ≤ sum_to (parts dims) g
flipped_sum zero axis high g least most used = absurd (omega arith)
flipped_sum (suc zero) zero true g least most used = omega arith
flipped_sum (suc zero) zero false g least most used = omega arith
flipped_sum (suc zero) (suc a) high g least most used = absurd (omega arith)
flipped_sum (suc (suc zero)) zero true g least most used = omega arith
flipped_sum (suc (suc zero)) zero false g least most used = omega arith
flipped_sum (suc (suc zero)) (suc zero) true g least most used = omega arith
flipped_sum (suc (suc zero)) (suc zero) false g least most used = omega arith
flipped_sum (suc (suc zero)) (suc (suc a)) high g least most used = absurd (omega arith)
flipped_sum (suc (suc (suc zero))) zero true g least most used = omega arith
flipped_sum (suc (suc (suc zero))) zero false g least most used = omega arith
flipped_sum (suc (suc (suc zero))) (suc zero) true g least most used = omega arith
flipped_sum (suc (suc (suc zero))) (suc zero) false g least most used = omega arith
flipped_sum (suc (suc (suc zero))) (suc (suc zero)) true g least most used = omega arith
flipped_sum (suc (suc (suc zero))) (suc (suc zero)) false g least most used = omega arith
flipped_sum (suc (suc (suc zero))) (suc (suc (suc a))) high g least most used = absurd (omega arith)
flipped_sum (suc (suc (suc (suc d)))) axis high g least most used = absurd (omega arith)

-- two locations that differ along an axis alone, at its two halves
record Twins (axis : ℕ) (high : Bool) (d e : Loc) : Type 0 where
  near : axis_of d axis % 2 ≡ cond high 0 1
  far : axis_of e axis % 2 ≡ cond high 1 0
  is : e ≡ moved d axis (axis_of e axis)

-- their numbers among children
twin_number : (dims axis : ℕ) (high : Bool) (d e : Loc) → dims ≤ 3 → axis < dims → Twins axis high d e → child_number dims e ≡ flip axis high (child_number dims d)
twin_number zero axis high d e most used t = absurd (omega arith)
twin_number (suc zero) zero true d e most used t = let a = t.near in let b = t.far in omega arith
twin_number (suc zero) zero false d e most used t = let a = t.near in let b = t.far in omega arith
twin_number (suc zero) (suc a) high d e most used t = absurd (omega arith)
twin_number (suc (suc zero)) zero true d e most used t = let a = t.near in let b = t.far in let x = ap (λ (v : Loc). v.l2) t.is in omega arith
twin_number (suc (suc zero)) zero false d e most used t = let a = t.near in let b = t.far in let x = ap (λ (v : Loc). v.l2) t.is in omega arith
twin_number (suc (suc zero)) (suc zero) true d e most used t = let a = t.near in let b = t.far in let x = ap (λ (v : Loc). v.l1) t.is in omega arith
twin_number (suc (suc zero)) (suc zero) false d e most used t = let a = t.near in let b = t.far in let x = ap (λ (v : Loc). v.l1) t.is in omega arith
twin_number (suc (suc zero)) (suc (suc a)) high d e most used t = absurd (omega arith)
twin_number (suc (suc (suc zero))) zero true d e most used t = let a = t.near in let b = t.far in let x = ap (λ (v : Loc). v.l2) t.is in let y = ap (λ (v : Loc). v.l3) t.is in omega arith
twin_number (suc (suc (suc zero))) zero false d e most used t = let a = t.near in let b = t.far in let x = ap (λ (v : Loc). v.l2) t.is in let y = ap (λ (v : Loc). v.l3) t.is in omega arith
twin_number (suc (suc (suc zero))) (suc zero) true d e most used t = let a = t.near in let b = t.far in let x = ap (λ (v : Loc). v.l1) t.is in let y = ap (λ (v : Loc). v.l3) t.is in omega arith
twin_number (suc (suc (suc zero))) (suc zero) false d e most used t = let a = t.near in let b = t.far in let x = ap (λ (v : Loc). v.l1) t.is in let y = ap (λ (v : Loc). v.l3) t.is in omega arith
twin_number (suc (suc (suc zero))) (suc (suc zero)) true d e most used t = let a = t.near in let b = t.far in let x = ap (λ (v : Loc). v.l1) t.is in let y = ap (λ (v : Loc). v.l2) t.is in omega arith
twin_number (suc (suc (suc zero))) (suc (suc zero)) false d e most used t = let a = t.near in let b = t.far in let x = ap (λ (v : Loc). v.l1) t.is in let y = ap (λ (v : Loc). v.l2) t.is in omega arith
twin_number (suc (suc (suc zero))) (suc (suc (suc a))) high d e most used t = absurd (omega arith)
twin_number (suc (suc (suc (suc k)))) axis high d e most used t = absurd (omega arith)

-- what a child of the location across sees back across the face: the child of the cell on the other side
pub record SeesBack (s : Shape) (c : Loc) (axis : ℕ) (high : Bool) (d : Loc) (j : ℕ) : Type 0 where
  pub e : Loc
  pub meet : across s d axis (not high) ≡ Some e
  pub of_cell : parent s.dims e ≡ c
  pub number : child_number s.dims e ≡ flip axis high j
  pub deep : 1 ≤ e.level

other_half : (high : Bool) → ◌≡◌ {A = ℕ} (cond (not high) 0 1) (cond high 1 0)
other_half true = refl
other_half false = refl

not_half : (high : Bool) → ◌≡◌ {A = ℕ} (cond (not high) 1 0) (cond high 0 1)
not_half true = refl
not_half false = refl

pub sees_back : (s : Shape) (c o : Loc) (axis : ℕ) (high : Bool) (j : ℕ) → 1 ≤ s.dims → s.dims ≤ 3 → axis < s.dims → IsIn s c → across s c axis high ≡ Some o → o.level < 10 → j < parts s.dims → is_high_half j axis ≡ not high → SeesBack s c axis high (child s.dims o j) j
sees_back s c o axis high j least most used inside meet room number half =
    let d : Loc = child s.dims o j in
    let o_inside = (across-touches s c o axis high inside (omega arith) meet).inside in
    let d_inside = child_inside s o j o_inside room in
    let p : axis_of d axis % 2 ≡ cond (not high) 1 0 = parity (axis_of d axis) (not high) (sym (half-is s.dims d axis least most used) ∙ ap (λ v. is_high_half v axis) (number_of_child s.dims o j most least number) ∙ half) in
    let back : across s (parent s.dims d) axis (not high) ≡ Some c = ap (λ (v : Loc). across s v axis (not high)) (parent-child s.dims o j) ∙ across-back s c o axis high inside (omega arith) meet in
    let (e, crosses, top) = across-half s most d c axis (not high) used d_inside (omega arith) p back in
    let up = across-parent s most d e axis (not high) used d_inside (omega arith) p crosses in
    let e_level = crossed_level s d axis (not high) e crosses in
    let twins : Twins axis high d e = record { near = p ∙ not_half high; far = up.1 ∙ other_half high; is = across-moved s d e axis (not high) crosses } in
    record { e = e; meet = crosses; of_cell = top; number = twin_number s.dims axis high d e most used twins ∙ ap (flip axis high) (number_of_child s.dims o j most least number); deep = omega arith }
