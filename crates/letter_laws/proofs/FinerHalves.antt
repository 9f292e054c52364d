-- Halves of rows that a finer block covers.
use Rattle.std.proofs.Common.{◌≡◌, ℕ, zero, suc, ◌+◌, ◌-◌, ◌*◌, ◌/◌, ◌%◌, ◌<◌, ◌≤◌, Bool, true, false, cond, not, nat_lt, slice_index, refl, arith, ap, subst, sym, ◌∙◌}
use Rattle.std.proofs.Math.Nat.{div-add-mod'}
use Rattle.morton_order.specs.declared.space.Loc.{Loc}
use Rattle.morton_order.specs.Space.{axis_of, child, child_number, factor, parts}
use Rattle.morton_order.proofs.Family.{child_number_below}
use Rattle.block_tree.specs.Behind.{is_high_half}
use Rattle.block_tree.proofs.Ancestors.{is_parity, parity_other}
use Rattle.block_layout.specs.Indices.{index_of}
use Rattle.restrict_prolong.specs.Refined.{factors}
use Rattle.ghost_laws.specs.Layers.{layer_along}
use Rattle.ghost_laws.specs.Refined.{halves_of}
use Rattle.ghost_laws.proofs.Sizes.{Sized, cut}
use Rattle.letter_laws.proofs.Along.{each_axis}

-- which half a child is along the axis of a side
pub half_at_side : (d axis j : ℕ) (high : Bool) → axis < 3 → factor d axis ≡ 2 → is_high_half j axis ≡ not high → slice_index (halves_of d j) axis ≡ cond high 0 1
half_at_side d zero j high h two half = ap (λ v. j % v) two ∙ parity_other j high half
half_at_side d (suc zero) j high h two half = ap (λ v. j / 2 % v) two ∙ parity_other (j / 2) high half
half_at_side d (suc (suc zero)) j high h two half = ap (λ v. j / 4 % v) two ∙ parity_other (j / 4) high half
half_at_side d (suc (suc (suc a))) j high h two half = absurd (omega arith)

pub side_at_half : (d axis j : ℕ) (high : Bool) → axis < 3 → factor d axis ≡ 2 → slice_index (halves_of d j) axis ≡ cond high 0 1 → is_high_half j axis ≡ not high
side_at_half d zero j high h two e = is_parity j high (sym (ap (λ v. j % v) two) ∙ e)
side_at_half d (suc zero) j high h two e = is_parity (j / 2) high (sym (ap (λ v. j / 2 % v) two) ∙ e)
side_at_half d (suc (suc zero)) j high h two e = is_parity (j / 4) high (sym (ap (λ v. j / 4 % v) two) ∙ e)
side_at_half d (suc (suc (suc a))) j high h two e = absurd (omega arith)

-- the halves of a location's number are those of its coordinates
pub number_halves : (d : ℕ) (l : Loc) (k : ℕ) → 1 ≤ d → d ≤ 3 → k < 3 → slice_index (halves_of d (child_number d l)) k ≡ axis_of l k % factor d k
number_halves zero l k least most g = absurd (omega arith)
number_halves (suc zero) l zero least most g = omega arith
number_halves (suc zero) l (suc zero) least most g = omega arith
number_halves (suc zero) l (suc (suc zero)) least most g = omega arith
number_halves (suc (suc zero)) l zero least most g = omega arith
number_halves (suc (suc zero)) l (suc zero) least most g = omega arith
number_halves (suc (suc zero)) l (suc (suc zero)) least most g = omega arith
number_halves (suc (suc (suc zero))) l zero least most g = omega arith
number_halves (suc (suc (suc zero))) l (suc zero) least most g = omega arith
number_halves (suc (suc (suc zero))) l (suc (suc zero)) least most g = omega arith
number_halves (suc (suc (suc (suc d)))) l k least most g = absurd (omega arith)
number_halves d l (suc (suc (suc k))) least most g = absurd (omega arith)

-- the digits of a number below the parts, x1 fastest, are its halves
pub index_halves : (d j k : ℕ) → 1 ≤ d → d ≤ 3 → j < parts d → k < 3 → slice_index (index_of (factors d) j) k ≡ slice_index (halves_of d j) k
index_halves zero j k least most few g = absurd (omega arith)
index_halves (suc zero) j zero least most few g = refl
index_halves (suc zero) j (suc zero) least most few g = omega arith
index_halves (suc zero) j (suc (suc zero)) least most few g = omega arith
index_halves (suc (suc zero)) j zero least most few g = refl
index_halves (suc (suc zero)) j (suc zero) least most few g = refl
index_halves (suc (suc zero)) j (suc (suc zero)) least most few g = omega arith
index_halves (suc (suc (suc zero))) j zero least most few g = refl
index_halves (suc (suc (suc zero))) j (suc zero) least most few g = refl
index_halves (suc (suc (suc zero))) j (suc (suc zero)) least most few g = omega arith
index_halves (suc (suc (suc (suc d)))) j k least most few g = absurd (omega arith)
index_halves d j (suc (suc (suc k))) least most few g = absurd (omega arith)

-- a number made of its halves is below the parts
pub halves_below : (d j : ℕ) → 1 ≤ d → d ≤ 3 → j % factor d 0 + 2 * (j / 2 % factor d 1) + 4 * (j / 4 % factor d 2) < parts d
halves_below d j least most = child_number_below d (record { level = 0; l1 = j; l2 = j / 2; l3 = j / 4 }) least most

-- each half is one of the cut
pub half_small : (d j k : ℕ) → k < 3 → slice_index (halves_of d j) k < factor d k
half_small d j = each_axis (λ k. slice_index (halves_of d j) k < factor d k) (digit (nat_lt 0 d) j) (digit (nat_lt 1 d) (j / 2)) (digit (nat_lt 2 d) (j / 4))
  where
    digit : (used : Bool) (x : ℕ) → x % cut used < cut used
    digit true x = omega arith
    digit false x = omega arith

-- coordinates of a child
pub child_along : (d : ℕ) (o : Loc) (j k : ℕ) → k < 3 → axis_of (child d o j) k ≡ factor d k * axis_of o k + slice_index (halves_of d j) k
child_along d o j = each_axis (λ k. axis_of (child d o j) k ≡ factor d k * axis_of o k + slice_index (halves_of d j) k) refl refl refl

pub child_first : (used : Bool) (n A J : ℕ) → Sized used n → (cut used * A + J) * (n / cut used) ≡ A * n + J * (n / cut used)
child_first true n A J s =
    let even = s.even refl in
    let e : n ≡ 2 * (n / 2) = omega arith in
    let w : A * n ≡ A * (2 * (n / 2)) = ap (λ v. A * v) e in
    by (n / 2) w
  where
    by : (x : ℕ) → A * n ≡ A * (2 * x) → (2 * A + J) * x ≡ A * n + J * x
    by x w = omega arith
child_first false n A J s = let one = s.single refl in subst (λ v. (1 * A + J) * (v / 1) ≡ A * v + J * (v / 1)) (sym one) (omega arith)

-- a row in halves
pub whole_row : (used : Bool) (n : ℕ) → Sized used n → cut used * (n / cut used) ≡ n
whole_row true n s = let even = s.even refl in omega arith
whole_row false n s = omega arith

pub half_wide : (n : ℕ) → Sized true n → (2 ≤ n / 2) × (n ≡ 2 * (n / 2))
half_wide n s = let wide = s.wide refl in let even = s.even refl in (omega arith, omega arith)

pub child_below : (used : Bool) (n J u : ℕ) → Sized used n → J < cut used → u < n / cut used → J * (n / cut used) + u < n
child_below true n zero u s j h = omega arith
child_below true n (suc zero) u s j h = let even = s.even refl in omega arith
child_below true n (suc (suc J)) u s j h = absurd (omega arith)
child_below false n J u s j h = let one = s.single refl in let none : J ≡ 0 = omega arith in rw none (omega arith)

-- half of a row is half of its cells where it is cut, and nothing comes before the one half where it is not
pub cut_half : (used : Bool) (n J : ℕ) → Sized used n → J < cut used → J * (n / 2) ≡ J * (n / cut used)
cut_half true n J s h = refl
cut_half false n J s h = let none : J ≡ 0 = omega arith in rw none (omega arith)

-- ends of halves
pub end_in : (h i : ℕ) (end : Bool) → i < 2 → 2 ≤ h → cond end (h - 2) 0 + i < h
end_in h i true few some = omega arith
end_in h i false few some = omega arith

pub end_finer : (n h i t g : ℕ) (end : Bool) → g ≡ 2 → 2 ≤ h → n ≡ 2 * h → cond end (n + 2 - 4) 2 + (2 * i + t) ≡ g + (2 * (cond end (h - 2) 0 + i) + t)
end_finer n h i t g true e some two = omega arith
end_finer n h i t g false e some two = omega arith

pub end_starts : (S W Z h i : ℕ) (end : Bool) → S ≡ W + Z → 2 ≤ h → cond end (S + h - 2) S + i ≡ W + (Z + (cond end (h - 2) 0 + i))
end_starts S W Z h i true e some = omega arith
end_starts S W Z h i false e some = omega arith

-- the layers of a finer sender at the receiver's ghosts
pub end_layers : (S W J h N layer : ℕ) (high : Bool) → S ≡ W + J * h → J ≡ cond high 0 1 → N ≡ 2 * h → 2 ≤ h → layer < 2 → cond (not high) (S + h - 2) S + cond high layer (1 - layer) ≡ W + layer_along N high layer
end_layers S W J h N layer true e j two some few = let z : J * h ≡ 0 * h = ap (λ v. v * h) j in omega arith
end_layers S W J h N layer false e j two some few = let z : J * h ≡ 1 * h = ap (λ v. v * h) j in omega arith

-- a cell by its half and its number in the half
pub in_half : (i h J : ℕ) → i / h ≡ J → J * h + i % h ≡ i
in_half i h J e = ap (λ v. v * h + i % h) (sym e) ∙ div-add-mod' i h

pub half_start : (S W i h J : ℕ) → S ≡ W + J * h → i / h ≡ J → S + i % h ≡ W + i
half_start S W i h J e f = let g = in_half i h J f in omega arith
