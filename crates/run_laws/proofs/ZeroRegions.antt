-- What senders send across a side of a leaf, and that those of its own level send the cells next to the side.
use Rattle.std.proofs.Common.{◌≡◌, ◌==◌, inl, inr, ℕ, zero, suc, ◌+◌, ◌*◌, ◌/◌, ◌%◌, ◌^◌, ◌<◌, ◌≤◌, Bool, true, false, cond, not, ◌||◌, nat_lt, List, [], ◌∷◌, map, refl, arith, ap, subst, sym, ◌∙◌, lit<}
use Rattle.std.specs.List.{filter, flat_map, list_any, range_with_len}
use Rattle.std.proofs.Math.Nat.{div-add-mod'}
use Rattle.std.proofs.lemmas.Bool.{cases_eq, false≢true, ne_eqb}
use Rattle.std.proofs.lemmas.Bool.Decides.{nat_tests}
use Rattle.std.proofs.lemmas.Nat.{mod_below}
use Rattle.morton_order.specs.declared.space.Loc.{Loc}
use Rattle.morton_order.specs.declared.space.Shape.{Shape}
use Rattle.morton_order.specs.Space.{IsIn, axis_of, blocks_along, factor, parent, root_along}
use Rattle.morton_order.specs.Neighbours.{moved}
use Rattle.morton_order.proofs.Any.{any_range-has, or_left, or_right}
use Rattle.block_tree.proofs.KeyOrder.{any_flat}
use Rattle.mesh_rules.specs.Mesh.{IsMesh, Mesh, OnLeaf, block_of, cell_lattice, cells_along}
use Rattle.mesh_rules.specs.Look.{look}
use Rattle.mesh_rules.specs.Regions.{Sender, Span, at_end, cells_in, own_span, region, same_level, sender_by, sender_of, sent_level, sent_span}
use Rattle.mesh_rules.specs.Mask.{some_above}
use Rattle.run_laws.proofs.ZeroSteps.{IsNearEnd}

-- tests of lists that are made of others
pub any_mapped : {X Y : Type 0} (p : Y → Bool) (g : X → Y) (xs : List X) → list_any p (map g xs) ≡ list_any (λ x. p (g x)) xs
any_mapped p g [] = refl
any_mapped p g (x ∷ xs) = ap (λ (b : Bool). p (g x) || b) (any_mapped p g xs)

any_kept : (p : ℕ → Bool) (a : ℕ) (rest : List ℕ) (b : Bool) → list_any p rest ≡ true → list_any p (cond b (a ∷ rest) rest) ≡ true
any_kept p a rest true h = or_right (p a) (list_any p rest) h
any_kept p a rest false h = h

any_first : (p : ℕ → Bool) (a : ℕ) (rest : List ℕ) (b : Bool) → b ≡ true → p a ≡ true → list_any p (cond b (a ∷ rest) rest) ≡ true
any_first p a rest true e h = or_left (p a) (list_any p rest) h
any_first p a rest false e h = absurd (false≢true e)

pub any_filtered : (p r : ℕ → Bool) (a n k : ℕ) → a ≤ k → k < a + n → r k ≡ true → p k ≡ true → list_any p (filter r (range_with_len a n)) ≡ true
any_filtered p r a zero k low high at pass = absurd (omega arith)
any_filtered p r a (suc n) k low high at pass = elim (cases_eq a k) [
  | inl e ↦ any_first p a (filter r (range_with_len (a + 1) n)) (r a) (ap r e ∙ at) (ap p e ∙ pass)
  | inr d ↦ any_kept p a (filter r (range_with_len (a + 1) n)) (r a) (any_filtered p r (a + 1) n k (omega arith) (omega arith) at pass)
]

-- a number lies in a span
pub record InSpan (s : Span) (x : ℕ) : Type 0 where
  pub low : s.first ≤ x
  pub high : x < s.first + s.len

-- it is the one at the end that is met from a side
abbrev pub IsAtEnd : Bool → Span → ℕ → Type 0
IsAtEnd true s x = x ≡ s.first
IsAtEnd false s x = x + 1 ≡ s.first + s.len

at_end_in : (high : Bool) (count : ℕ) (s : Span) (x : ℕ) → 1 ≤ count → InSpan s x → IsAtEnd high s x → InSpan (at_end (not high) count s) x
at_end_in true count s x some h e = record { low = omega arith; high = omega arith }
at_end_in false count s x some h e = let a = h.low in let b = h.high in record { low = omega arith; high = omega arith }

-- a side's layers along its axis, and what a block covers along the others
pub edged : (high : Bool) (count : ℕ) (a b : Span) (k axis x : ℕ) → 1 ≤ count → (k ≡ axis → InSpan a x × IsAtEnd high a x) → ((k ≡ axis → ⊥) → InSpan b x) → InSpan (cond (k == axis) (at_end (not high) count a) b) x
edged high count a b k axis x some on off = elim (cases_eq k axis) [
  | inl e ↦ subst (λ (t : Bool). InSpan (cond t (at_end (not high) count a) b) x) (sym (eq_true k axis e)) (let h = on e in at_end_in high count a x some h.0 h.1)
  | inr d ↦ subst (λ (t : Bool). InSpan (cond t (at_end (not high) count a) b) x) (sym (ne_eqb k axis d)) (off d)
]
  where
    eq_true : (a b : ℕ) → a ≡ b → (a == b) ≡ true
    eq_true a b e = grind (arith, nat_tests)

-- cells of a box
in_box : (p : Loc → Bool) (s1 s2 s3 : Span) (o : Loc) → InSpan s1 o.l1 → InSpan s2 o.l2 → InSpan s3 o.l3 → p o ≡ true → list_any p (cells_in o.level s1 s2 s3) ≡ true
in_box p s1 s2 s3 o i1 i2 i3 pass =
    any_flat p (λ z. flat_map (λ y. map (λ x. record { level = o.level; l1 = x; l2 = y; l3 = z }) (range_with_len s1.first s1.len)) (range_with_len s2.first s2.len)) s3.first s3.len o.l3 i3.low i3.high
    (any_flat p (λ y. map (λ x. record { level = o.level; l1 = x; l2 = y; l3 = o.l3 }) (range_with_len s1.first s1.len)) s2.first s2.len o.l2 i2.low i2.high
    (any_mapped p (λ (x : ℕ). record { level = o.level; l1 = x; l2 = o.l2; l3 = o.l3 }) (range_with_len s1.first s1.len)
    ∙ any_range-has (λ (x : ℕ). p (record { level = o.level; l1 = x; l2 = o.l2; l3 = o.l3 })) s1.first s1.len o.l1 i1.low i1.high pass))

-- what a sender of a kind sends has a cell above a threshold
pub region_by : (m : Mesh) (f t : ℕ) (from to : Loc) (axis : ℕ) (high : Bool) (how : Sender) (o : Loc) → sender_of from to ≡ how → sent_level how from to ≡ o.level →
    ((k : ℕ) → k < 3 → InSpan (sent_span how m from to axis high k) (axis_of o k)) → nat_lt t (look m f o) ≡ true → some_above t (region m f from to axis high) ≡ true
region_by m f t from to axis high how o is level all above =
    ap (λ (h : Sender). some_above t (map (look m f) (cells_in (sent_level h from to) (sent_span h m from to axis high 0) (sent_span h m from to axis high 1) (sent_span h m from to axis high 2)))) is
    ∙ ap (λ (v : ℕ). some_above t (map (look m f) (cells_in v (sent_span how m from to axis high 0) (sent_span how m from to axis high 1) (sent_span how m from to axis high 2)))) level
    ∙ any_mapped (nat_lt t) (look m f) (cells_in o.level (sent_span how m from to axis high 0) (sent_span how m from to axis high 1) (sent_span how m from to axis high 2))
    ∙ in_box (λ (c : Loc). nat_lt t (look m f c)) (sent_span how m from to axis high 0) (sent_span how m from to axis high 1) (sent_span how m from to axis high 2) o
    (all 0 (lit< tt)) (all 1 (lit< tt)) (all 2 (lit< tt)) above

-- coordinates
pub block_axis : (m : Mesh) (c : Loc) (k : ℕ) → k < 3 → axis_of (block_of m c) k ≡ axis_of c k / cells_along m k
block_axis m c zero h = refl
block_axis m c (suc zero) h = refl
block_axis m c (suc (suc zero)) h = refl
block_axis m c (suc (suc (suc k))) h = absurd (omega arith)

pub parent_along : (dims : ℕ) (c : Loc) (k : ℕ) → k < 3 → axis_of (parent dims c) k ≡ axis_of c k / factor dims k
parent_along dims c zero h = refl
parent_along dims c (suc zero) h = refl
parent_along dims c (suc (suc zero)) h = refl
parent_along dims c (suc (suc (suc k))) h = absurd (omega arith)

pub lattice_along : (m : Mesh) (k level : ℕ) → k < 3 → blocks_along (cell_lattice m) k level ≡ blocks_along m.shape k level * cells_along m k
lattice_along m zero level h = turned (root_along m.shape 0) (cells_along m 0) (factor m.shape.dims 0 ^ level)
  where
    turned : (a b c : ℕ) → a * b * c ≡ a * c * b
    turned a b c = omega arith
lattice_along m (suc zero) level h = turned (root_along m.shape 1) (cells_along m 1) (factor m.shape.dims 1 ^ level)
  where
    turned : (a b c : ℕ) → a * b * c ≡ a * c * b
    turned a b c = omega arith
lattice_along m (suc (suc zero)) level h = turned (root_along m.shape 2) (cells_along m 2) (factor m.shape.dims 2 ^ level)
  where
    turned : (a b c : ℕ) → a * b * c ≡ a * c * b
    turned a b c = omega arith
lattice_along m (suc (suc (suc k))) level h = absurd (omega arith)

pub inside_along : (s : Shape) (c : Loc) (k : ℕ) → k < 3 → IsIn s c → axis_of c k < blocks_along s k c.level
inside_along s c zero h i = i.within1
inside_along s c (suc zero) h i = i.within2
inside_along s c (suc (suc zero)) h i = i.within3
inside_along s c (suc (suc (suc k))) h i = absurd (omega arith)

pub moved_at : (c : Loc) (axis y : ℕ) → axis < 3 → axis_of (moved c axis y) axis ≡ y
moved_at c zero y h = refl
moved_at c (suc zero) y h = refl
moved_at c (suc (suc zero)) y h = refl
moved_at c (suc (suc (suc k))) y h = absurd (omega arith)

pub moved_else : (c : Loc) (axis y k : ℕ) → axis < 3 → k < 3 → (k ≡ axis → ⊥) → axis_of (moved c axis y) k ≡ axis_of c k
moved_else c zero y zero h g d = absurd (d refl)
moved_else c zero y (suc zero) h g d = refl
moved_else c zero y (suc (suc k)) h g d = refl
moved_else c (suc zero) y zero h g d = refl
moved_else c (suc zero) y (suc zero) h g d = absurd (d refl)
moved_else c (suc zero) y (suc (suc k)) h g d = refl
moved_else c (suc (suc a)) y zero h g d = refl
moved_else c (suc (suc a)) y (suc zero) h g d = refl
moved_else c (suc (suc zero)) y (suc (suc zero)) h g d = absurd (d refl)
moved_else c (suc (suc zero)) y (suc (suc (suc k))) h g d = absurd (omega arith)
moved_else c (suc (suc (suc a))) y (suc (suc k)) h g d = absurd (omega arith)

pub moved_level : (c : Loc) (axis y : ℕ) → (moved c axis y).level ≡ c.level
moved_level c zero y = refl
moved_level c (suc zero) y = refl
moved_level c (suc (suc k)) y = refl

pub moved_self : (c : Loc) (axis : ℕ) → moved c axis (axis_of c axis) ≡ c
moved_self c zero = refl
moved_self c (suc zero) = refl
moved_self c (suc (suc k)) = refl

pub block_moved : (m : Mesh) (c : Loc) (axis y : ℕ) → axis < 3 → block_of m (moved c axis y) ≡ moved (block_of m c) axis (y / cells_along m axis)
block_moved m c zero y h = refl
block_moved m c (suc zero) y h = refl
block_moved m c (suc (suc zero)) y h = refl
block_moved m c (suc (suc (suc k))) y h = absurd (omega arith)

-- a cell of a leaf, an axis in use, and blocks of an even number of cells along it
pub record IsSite (m : Mesh) (c : Loc) (axis : ℕ) : Type 0 where
  pub mesh : IsMesh m
  pub even : (k : ℕ) → k < m.shape.dims → cells_along m k % 2 ≡ 0
  pub inside : IsIn (cell_lattice m) c
  pub leaf : OnLeaf m c
  pub used : axis < m.shape.dims

-- a cell lies in what its block covers
pub own_in : (m : Mesh) (o : Loc) (k : ℕ) → IsMesh m → k < 3 → InSpan (own_span m (block_of m o) k) (axis_of o k)
own_in m o k mesh h =
    let x : ℕ = axis_of o k in
    let n : ℕ = cells_along m k in
    let e : axis_of (block_of m o) k * n ≡ x / n * n = ap (λ v. v * n) (block_axis m o k h) in
    let d : x / n * n + x % n ≡ x = div-add-mod' x n in
    let r : x % n < n = mod_below x n (mesh.some_cells k h) in
    record { low = omega arith; high = omega arith }

pub own_end : (m : Mesh) (o : Loc) (k : ℕ) (high : Bool) → k < 3 → IsNearEnd high (cells_along m k) (axis_of o k) → IsAtEnd high (own_span m (block_of m o) k) (axis_of o k)
own_end m o k true h near =
    let x : ℕ = axis_of o k in
    let n : ℕ = cells_along m k in
    let e : axis_of (block_of m o) k * n ≡ x / n * n = ap (λ v. v * n) (block_axis m o k h) in
    let d : x / n * n + x % n ≡ x = div-add-mod' x n in
    omega arith
own_end m o k false h near =
    let x : ℕ = axis_of o k in
    let n : ℕ = cells_along m k in
    let e : axis_of (block_of m o) k * n ≡ x / n * n = ap (λ v. v * n) (block_axis m o k h) in
    let d : x / n * n + x % n ≡ x = div-add-mod' x n in
    omega arith

pub not_less : (a b : ℕ) → b ≤ a → nat_lt a b ≡ false
not_less a b h = grind (arith, nat_tests)

-- a sender of the same level
pub from_same : (m : Mesh) (f t : ℕ) (c o : Loc) (axis : ℕ) (high : Bool) → IsMesh m → o.level ≡ c.level → IsNearEnd high (cells_along m axis) (axis_of o axis) → nat_lt t (look m f o) ≡ true →
    some_above t (region m f (block_of m o) (block_of m c) axis high) ≡ true
from_same m f t c o axis high mesh level near above =
    region_by m f t (block_of m o) (block_of m c) axis high same_level o
    (ap (λ (b : Bool). sender_by b (nat_lt o.level c.level)) (not_less c.level o.level (omega arith)) ∙ ap (λ (b : Bool). sender_by false b) (not_less o.level c.level (omega arith)))
    (sym level)
    (λ k h. edged high 2 (own_span m (block_of m o) k) (own_span m (block_of m o) k) k axis (axis_of o k) (omega arith)
    (λ e. (own_in m o k mesh h, own_end m o k high h (subst (λ (v : ℕ). IsNearEnd high (cells_along m v) (axis_of o v)) (sym e) near)))
    (λ d. own_in m o k mesh h))
    above
