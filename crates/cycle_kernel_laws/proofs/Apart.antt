-- No two letters that are due give the same ghost.
use Rattle.std.proofs.Common.{◌≡◌, ◌==◌, inl, inr, ℕ, zero, suc, ◌+◌, ◌-◌, ◌*◌, ◌/◌, ◌%◌, ◌<◌, ◌≤◌, Bool, true, false, ◌&&◌, cond, nat_le, nat_lt, Some, List, Contains, refl, arith, ap, subst, sym, ◌∙◌, slice_index}
use Rattle.std.proofs.lemmas.Bool.{and_from, and_parts, cases_eq, le-leb, leb-true, lt-ltb, ltb-true}
use Rattle.morton_order.specs.declared.space.Loc.{Loc}
use Rattle.morton_order.specs.Space.{axis_of, child, child_number, factor}
use Rattle.block_tree.specs.Behind.{Behind, Names, behind, coarse, fine, outside, same}
use Rattle.mesh_rules.specs.Due.{Exchange}
use Rattle.mesh_rules.specs.Mesh.{is_inner}
use Rattle.block_layout.specs.declared.layout.Layout.{Layout}
use Rattle.block_layout.specs.Layouts.{ghost_layers}
use Rattle.block_layout.specs.Regions.{Region, beside_part, covers, covers_along, ghosts, half_along, part_extent, part_low}
use Rattle.block_geometry.specs.Blocks.{FieldBlock}
use Rattle.block_geometry.proofs.Rows.{two_layers}
use Rattle.ghost_laws.specs.Refined.{halves_of}
use Rattle.ghost_laws.proofs.Sizes.{Sized, cut, sized}
use Rattle.ghost_buffers.specs.declared.part.How.{How}
use Rattle.ghost_buffers.specs.declared.part.How.TheVariants.{Same, Finer, Coarser}
use Rattle.ghost_buffers.specs.Ghosts.{received}
use Rattle.letter_laws.specs.Sides.{IsSide, behind_side, side_part}
use Rattle.letter_laws.proofs.Along.{each_axis, ghosts_low, split, with_at}
use Rattle.letter_laws.proofs.FinerHalves.{number_halves}
use Rattle.letter_laws.proofs.FinerLevel.{below_is}
use Rattle.letter_laws.proofs.Halves.{half_is, part_below}
use Rattle.letter_laws.proofs.Spans.{finer_kind, size_at}
use Rattle.cycle_kernels.specs.Blocks.{CycleMesh, leaf_at}
use Rattle.cycle_kernels.specs.Laws.{IsCycleMesh}
use Rattle.cycle_kernels.specs.Letters.{how_by, how_sent, part_by, part_covered, region_given}
use Rattle.cycle_kernels.proofs.Letters.{letter_by}
use Rattle.cycle_kernel_laws.proofs.Due.{IsLink, one_leaf}
use Rattle.cycle_kernel_laws.proofs.Once.{block_on, side_of}

-- an index in a box
pub record InAlong (low extent x : ℕ) : Type 0 where
  pub least : low ≤ x
  pub below : x < low + extent

abbrev pub Inside : Region → List ℕ → Type 0
Inside r i = (k : ℕ) → k < 3 → InAlong (slice_index r.low k) (slice_index r.extents k) (slice_index i k)

along_of : (r : Region) (k x : ℕ) → covers_along r k x ≡ true → InAlong (slice_index r.low k) (slice_index r.extents k) x
along_of r k x h =
    let p = and_parts (nat_le (slice_index r.low k) x) (nat_lt x (slice_index r.low k + slice_index r.extents k)) h in
    record { least = leb-true (slice_index r.low k) x p.0; below = ltb-true x (slice_index r.low k + slice_index r.extents k) p.1 }

covers_of : (r : Region) (k x : ℕ) → InAlong (slice_index r.low k) (slice_index r.extents k) x → covers_along r k x ≡ true
covers_of r k x h = and_from (nat_le (slice_index r.low k) x) (nat_lt x (slice_index r.low k + slice_index r.extents k)) (le-leb (slice_index r.low k) x h.least) (lt-ltb x (slice_index r.low k + slice_index r.extents k) h.below)

pub inside_of : (r : Region) (i : List ℕ) → covers r i ≡ true → Inside r i
inside_of r i h =
    let p = and_parts (covers_along r 0 (slice_index i 0) && covers_along r 1 (slice_index i 1)) (covers_along r 2 (slice_index i 2)) h in
    let q = and_parts (covers_along r 0 (slice_index i 0)) (covers_along r 1 (slice_index i 1)) p.0 in
    each_axis (λ k. InAlong (slice_index r.low k) (slice_index r.extents k) (slice_index i k)) (along_of r 0 (slice_index i 0) q.0) (along_of r 1 (slice_index i 1) q.1) (along_of r 2 (slice_index i 2) p.1)

pub is_covered : (r : Region) (i : List ℕ) → Inside r i → covers r i ≡ true
is_covered r i h =
    and_from (covers_along r 0 (slice_index i 0) && covers_along r 1 (slice_index i 1)) (covers_along r 2 (slice_index i 2))
    (and_from (covers_along r 0 (slice_index i 0)) (covers_along r 1 (slice_index i 1)) (covers_of r 0 (slice_index i 0) (h 0 (omega arith))) (covers_of r 1 (slice_index i 1) (h 1 (omega arith))))
    (covers_of r 2 (slice_index i 2) (h 2 (omega arith)))

-- a ghost beyond a side, beside the block's own cells
abbrev pub IsBeyond : Bool → ℕ → ℕ → Type 0
IsBeyond true n x = n + 2 ≤ x
IsBeyond false n x = x < 2

is_beyond : (n x : ℕ) (high : Bool) → InAlong (cond high (n + 2) 0) 2 x → IsBeyond high n x
is_beyond n x true h = h.least
is_beyond n x false h = let b = h.below in omega (arith, b)

pub record IsGhostOf (l : Layout) (axis : ℕ) (high : Bool) (i : List ℕ) : Type 0 where
  pub along : InAlong (cond high (slice_index l.cells axis + 2) 0) 2 (slice_index i axis)
  pub beside : (k : ℕ) → k < 3 → ¬ (k ≡ axis) → InAlong (ghost_layers l k) (slice_index l.cells k) (slice_index i k)

-- one of two cases
pub on_axis : (k : ℕ) (P : Bool → Type 0) → P (k == k) → P true
on_axis k P h = split k k (λ (t : Bool). P t → P true) (λ e c. c) (λ d c. absurd (d refl)) h

pub off_axis : (k axis : ℕ) (P : Bool → Type 0) → ¬ (k ≡ axis) → P (k == axis) → P false
off_axis k axis P off h = split k axis (λ (t : Bool). P t → P false) (λ e c. absurd (off e)) (λ d c. c) h

ghost_along : (l : Layout) (axis : ℕ) (high : Bool) (i : List ℕ) (k : ℕ) → axis < 3 → k < 3 → Inside (ghosts l axis high) i →
    InAlong (cond (k == axis) (cond high (slice_index l.cells axis + 2) 0) (ghost_layers l k)) (cond (k == axis) 2 (slice_index l.cells k)) (slice_index i k)
ghost_along l axis high i k h g inside =
    subst (λ v. InAlong v (cond (k == axis) 2 (slice_index l.cells k)) (slice_index i k)) (ghosts_low l axis high k h g)
    (subst (λ v. InAlong (slice_index (ghosts l axis high).low k) v (slice_index i k)) (with_at axis 2 k l.cells h g) (inside k g))

pub ghost_of : (l : Layout) (axis : ℕ) (high : Bool) (i : List ℕ) → axis < 3 → Inside (ghosts l axis high) i → IsGhostOf l axis high i
ghost_of l axis high i h inside = record {
  along = on_axis axis (λ (t : Bool). InAlong (cond t (cond high (slice_index l.cells axis + 2) 0) (ghost_layers l axis)) (cond t 2 (slice_index l.cells axis)) (slice_index i axis)) (ghost_along l axis high i axis h h inside);
  beside = λ k g off. off_axis k axis (λ (t : Bool). InAlong (cond t (cond high (slice_index l.cells axis + 2) 0) (ghost_layers l k)) (cond t 2 (slice_index l.cells k)) (slice_index i k)) off (ghost_along l axis high i k h g inside);
}

-- in a part of the side
abbrev half_low : Layout → ℕ → ℕ → ℕ → ℕ
half_low l axis half k = half_along l.dims axis half k * (slice_index l.cells k / 2)

part_along : (l : Layout) (axis : ℕ) (high : Bool) (half : ℕ) (i : List ℕ) (k : ℕ) → axis < 3 → k < 3 → Inside (beside_part l axis half (ghosts l axis high)) i →
    InAlong (cond (k == axis) (cond high (slice_index l.cells axis + 2) 0) (ghost_layers l k) + cond (k == axis) 0 (half_along l.dims axis half k * (cond (k == axis) 2 (slice_index l.cells k) / 2)))
    (cond (k == axis) (cond (k == axis) 2 (slice_index l.cells k)) (cond (k == axis) 2 (slice_index l.cells k) / factor l.dims k)) (slice_index i k)
part_along l axis high half i k h g inside =
    let r : Region = ghosts l axis high in
    let low : slice_index (beside_part l axis half r).low k ≡ part_low l axis half r k = each_axis (λ k. slice_index (beside_part l axis half r).low k ≡ part_low l axis half r k) refl refl refl k g in
    let extent : slice_index (beside_part l axis half r).extents k ≡ part_extent l axis r k = each_axis (λ k. slice_index (beside_part l axis half r).extents k ≡ part_extent l axis r k) refl refl refl k g in
    let size : slice_index r.extents k ≡ cond (k == axis) 2 (slice_index l.cells k) = with_at axis 2 k l.cells h g in
    subst (λ v. InAlong (v + cond (k == axis) 0 (half_along l.dims axis half k * (cond (k == axis) 2 (slice_index l.cells k) / 2))) (cond (k == axis) (cond (k == axis) 2 (slice_index l.cells k)) (cond (k == axis) 2 (slice_index l.cells k) / factor l.dims k)) (slice_index i k)) (ghosts_low l axis high k h g)
    (subst (λ v. InAlong (slice_index r.low k + cond (k == axis) 0 (half_along l.dims axis half k * (v / 2))) (cond (k == axis) v (v / factor l.dims k)) (slice_index i k)) size
    (subst (λ v. InAlong v (part_extent l axis r k) (slice_index i k)) low
    (subst (λ v. InAlong (slice_index (beside_part l axis half r).low k) v (slice_index i k)) extent (inside k g))))

plus_none : (low n x : ℕ) → InAlong (low + 0) n x → InAlong low n x
plus_none low n x h = let a = h.least in let b = h.below in record { least = omega (arith, a); below = omega (arith, b) }

-- a half of a row lies in it
pub in_half : (l : Layout) (axis : ℕ) (high : Bool) (half : ℕ) (i : List ℕ) (k : ℕ) → axis < 3 → k < 3 → ¬ (k ≡ axis) → Inside (beside_part l axis half (ghosts l axis high)) i →
    InAlong (ghost_layers l k + half_low l axis half k) (slice_index l.cells k / factor l.dims k) (slice_index i k)
in_half l axis high half i k h g off inside =
    off_axis k axis (λ (t : Bool). InAlong (cond t (cond high (slice_index l.cells axis + 2) 0) (ghost_layers l k) + cond t 0 (half_along l.dims axis half k * (cond t 2 (slice_index l.cells k) / 2)))
    (cond t (cond t 2 (slice_index l.cells k)) (cond t 2 (slice_index l.cells k) / factor l.dims k)) (slice_index i k)) off (part_along l axis high half i k h g inside)

at_part : (l : Layout) (axis : ℕ) (high : Bool) (half : ℕ) (i : List ℕ) → axis < 3 → Inside (beside_part l axis half (ghosts l axis high)) i → InAlong (cond high (slice_index l.cells axis + 2) 0) 2 (slice_index i axis)
at_part l axis high half i h inside =
    plus_none (cond high (slice_index l.cells axis + 2) 0) 2 (slice_index i axis)
    (on_axis axis (λ (t : Bool). InAlong (cond t (cond high (slice_index l.cells axis + 2) 0) (ghost_layers l axis) + cond t 0 (half_along l.dims axis half axis * (cond t 2 (slice_index l.cells axis) / 2)))
    (cond t (cond t 2 (slice_index l.cells axis)) (cond t 2 (slice_index l.cells axis) / factor l.dims axis)) (slice_index i axis)) (part_along l axis high half i axis h h inside))

pub half_of_row : (used : Bool) (n digit g x : ℕ) → Sized used n → InAlong (g + digit % cut used * (n / 2)) (n / cut used) x → InAlong g n x
half_of_row used n digit g x s h =
    let a = h.least in
    let b = h.below in
    let part = part_below used n digit (x - (g + digit % cut used * (n / 2))) s (omega (arith, a, b)) in
    record { least = omega (arith, a); below = omega (arith, a, part) }

pub part_ghost : (l : Layout) (axis : ℕ) (high : Bool) (half : ℕ) (i : List ℕ) → axis < 3 → Inside (beside_part l axis half (ghosts l axis high)) i → IsGhostOf l axis high i
part_ghost l axis high half i h inside = record {
  along = at_part l axis high half i h inside;
  beside = λ k g off. half_of_row (nat_lt k l.dims) (slice_index l.cells k) _ (ghost_layers l k) (slice_index i k) (sized l.dims k (slice_index l.cells k) (size_at l k g)) (in_half l axis high half i k h g off inside);
}

pub received_ghost : (how : How) (l : Layout) (axis : ℕ) (high : Bool) (half : ℕ) (i : List ℕ) → axis < 3 → covers (received how l axis high half) i ≡ true → IsGhostOf l axis high i
received_ghost Same l axis high half i h c = ghost_of l axis high i h (inside_of (ghosts l axis high) i c)
received_ghost Finer l axis high half i h c = part_ghost l axis high half i h (inside_of (beside_part l axis half (ghosts l axis high)) i c)
received_ghost Coarser l axis high half i h c = ghost_of l axis high i h (inside_of (ghosts l axis high) i c)

-- a ghost lies beyond one side
not_both : (n g x : ℕ) (high : Bool) → g ≡ 2 → IsBeyond high n x → InAlong g n x → ⊥
not_both n g x true e h a = let b = a.below in omega (arith, b)
not_both n g x false e h a = let b = a.least in omega (arith, b)

one_end : (n x : ℕ) (high end : Bool) → IsBeyond high n x → IsBeyond end n x → high ≡ end
one_end n x true true h g = refl
one_end n x true false h g = absurd (omega arith)
one_end n x false true h g = absurd (omega arith)
one_end n x false false h g = refl

pub one_axis : (l : Layout) (axis other : ℕ) (high end : Bool) (i : List ℕ) → axis < l.dims → axis < 3 → IsGhostOf l axis high i → IsGhostOf l other end i → axis ≡ other
one_axis l axis other high end i used h a b = elim (cases_eq axis other) [
  | inl e ↦ e
  | inr d ↦ absurd (not_both (slice_index l.cells axis) (ghost_layers l axis) (slice_index i axis) high (two_layers l axis used) (is_beyond (slice_index l.cells axis) (slice_index i axis) high a.along) (b.beside axis h d))
]

pub one_side : (l : Layout) (axis : ℕ) (high end : Bool) (i : List ℕ) → IsGhostOf l axis high i → IsGhostOf l axis end i → high ≡ end
one_side l axis high end i a b = one_end (slice_index l.cells axis) (slice_index i axis) high end (is_beyond (slice_index l.cells axis) (slice_index i axis) high a.along) (is_beyond (slice_index l.cells axis) (slice_index i axis) end b.along)

-- and in one half of each row along it
pub one_half : (used : Bool) (n p q g x : ℕ) → Sized used n → p < cut used → q < cut used → InAlong (g + p * (n / 2)) (n / cut used) x → InAlong (g + q * (n / 2)) (n / cut used) x → p ≡ q
one_half true n zero zero g x s h k a b = refl
one_half true n zero (suc zero) g x s h k a b = let c = a.below in let d = b.least in absurd (omega (arith, c, d))
one_half true n (suc zero) zero g x s h k a b = let c = b.below in let d = a.least in absurd (omega (arith, c, d))
one_half true n (suc zero) (suc zero) g x s h k a b = refl
one_half true n (suc (suc p)) q g x s h k a b = absurd (omega arith)
one_half true n p (suc (suc q)) g x s h k a b = absurd (omega arith)
one_half false n p q g x s h k a b = omega arith

pub digit_below : (used : Bool) (x : ℕ) → x % cut used < cut used
digit_below true x = omega arith
digit_below false x = omega arith

some_is : (x y : Loc) → Some x ≡ Some y → x ≡ y
some_is x y e = cc

same_child : (d : ℕ) (o other : Loc) → ((k : ℕ) → k < 3 → axis_of o k % factor d k ≡ axis_of other k % factor d k) → child_number d o ≡ child_number d other
same_child d o other e =
    ap (λ v. v + 2 * (o.l2 % factor d 1) + 4 * (o.l3 % factor d 2)) (e 0 (omega arith))
    ∙ ap (λ v. other.l1 % factor d 0 + 2 * v + 4 * (o.l3 % factor d 2)) (e 1 (omega arith))
    ∙ ap (λ v. other.l1 % factor d 0 + 2 * (other.l2 % factor d 1) + 4 * v) (e 2 (omega arith))

-- finer leaves behind a side that cover one part of it are one
pub one_behind : (b : FieldBlock) (axis : ℕ) (high : Bool) (os : List Loc) (o other : Loc) → IsSide b axis → axis < 3 → behind_side b axis high ≡ fine os → Contains os o → Contains os other →
    ((k : ℕ) → k < 3 → ¬ (k ≡ axis) → half_along b.layout.dims axis (side_part axis (child_number b.mesh.shape.dims o)) k ≡ half_along b.layout.dims axis (side_part axis (child_number b.mesh.shape.dims other)) k) → o ≡ other
one_behind b axis high os o other side h is among also halves =
    let l : Layout = b.layout in
    let D : ℕ = b.mesh.shape.dims in
    let shape = side.sound.mesh.shape in
    let x = below_is b axis high os o side is among in
    let y = below_is b axis high os other side is also in
    let dims : l.dims ≡ D = side.sound.layout.dims in
    let used : axis < D = subst (λ v. axis < v) dims side.used in
    let equal : (k : ℕ) → k < 3 → axis_of o k % factor D k ≡ axis_of other k % factor D k =
    λ k g. elim (cases_eq k axis) [
      | inl e ↦ sym (number_halves D o k shape.least shape.most g) ∙ ap (slice_index (halves_of D (child_number D o))) e ∙ x.half ∙ sym y.half ∙ ap (slice_index (halves_of D (child_number D other))) (sym e) ∙ number_halves D other k shape.least shape.most g
      | inr off ↦
          let first : half_along l.dims axis (side_part axis (child_number D o)) k ≡ axis_of o k % factor D k = ap (λ n. half_along n axis (side_part axis (child_number D o)) k) dims ∙ half_is D axis k o shape.least shape.most used g off in
          let second : half_along l.dims axis (side_part axis (child_number D other)) k ≡ axis_of other k % factor D k = ap (λ n. half_along n axis (side_part axis (child_number D other)) k) dims ∙ half_is D axis k other shape.least shape.most used g off in
          sym first ∙ halves k g off ∙ second
    ] in
    let number : child_number D o ≡ child_number D other = same_child D o other equal in
    let block : x.at ≡ y.at = some_is x.at y.at (sym x.meets ∙ y.meets) in
    sym x.is ∙ ap (λ (t : Loc). child D t (child_number D o)) block ∙ ap (child D y.at) number ∙ y.is

-- the parts of a side that two of them cover have no ghost in common
pub one_finer : (b : FieldBlock) (axis : ℕ) (high : Bool) (os : List Loc) (o other : Loc) (i : List ℕ) → IsSide b axis → axis < 3 → behind_side b axis high ≡ fine os → Contains os o → Contains os other →
    covers (received Finer b.layout axis high (side_part axis (child_number b.mesh.shape.dims o))) i ≡ true → covers (received Finer b.layout axis high (side_part axis (child_number b.mesh.shape.dims other))) i ≡ true → o ≡ other
one_finer b axis high os o other i side h is among also c d =
    let l : Layout = b.layout in
    let D : ℕ = b.mesh.shape.dims in
    let u = inside_of (beside_part l axis (side_part axis (child_number D o)) (ghosts l axis high)) i c in
    let v = inside_of (beside_part l axis (side_part axis (child_number D other)) (ghosts l axis high)) i d in
    one_behind b axis high os o other side h is among also (λ k g off.
    one_half (nat_lt k l.dims) (slice_index l.cells k) (half_along l.dims axis (side_part axis (child_number D o)) k) (half_along l.dims axis (side_part axis (child_number D other)) k) (ghost_layers l k) (slice_index i k)
    (sized l.dims k (slice_index l.cells k) (size_at l k g)) (digit_below (nat_lt k l.dims) _) (digit_below (nat_lt k l.dims) _) (in_half l axis high (side_part axis (child_number D o)) i k h g off u) (in_half l axis high (side_part axis (child_number D other)) i k h g off v))

-- the sender of a letter from a finer leaf
pub sent_by_finer : (w : CycleMesh) (x : Exchange) → (leaf_at w x.to).level < (leaf_at w x.from).level → how_sent w x ≡ Finer
sent_by_finer w x less = ap how_by (finer_kind (leaf_at w x.from) (leaf_at w x.to) less)

given_by_finer : (w : CycleMesh) (x : Exchange) (i : List ℕ) → how_sent w x ≡ Finer → covers (region_given w x) i ≡ true → covers (received Finer w.layout x.axis x.high (side_part x.axis (child_number w.mesh.shape.dims (leaf_at w x.from)))) i ≡ true
given_by_finer w x i is c = subst (λ (how : How). covers (received how w.layout x.axis x.high (part_by how w x)) i ≡ true) is c

pub axis_three : (w : CycleMesh) (axis : ℕ) → IsCycleMesh w → axis < w.mesh.shape.dims → axis < 3
axis_three w axis is used = let most = is.mesh.shape.most in omega (arith, most)

pub used_here : (w : CycleMesh) (axis : ℕ) → IsCycleMesh w → axis < w.mesh.shape.dims → axis < w.layout.dims
used_here w axis is used = subst (λ d. axis < d) (sym is.layout.dims) used

-- the two leaves that give one ghost beyond a side of a leaf are one
one_sender : (w : CycleMesh) (x y : Exchange) (i : List ℕ) → IsCycleMesh w → IsLink w x → IsLink w y → x.to ≡ y.to → x.axis ≡ y.axis → x.high ≡ y.high → covers (region_given w x) i ≡ true → covers (region_given w y) i ≡ true →
    leaf_at w x.from ≡ leaf_at w y.from
one_sender w x y i is a b to axis high c d =
    by (behind_side t x.axis x.high) refl
  where
    t : FieldBlock
    t = block_on w 0 (leaf_at w x.to)

    side : IsSide (block_on w 0 (leaf_at w x.to)) x.axis
    side = side_of w 0 (leaf_at w x.to) x.axis is a.to_leaf a.used

    comes : Names (behind w.mesh.shape (is_inner w.mesh) (leaf_at w x.to) x.axis x.high) (leaf_at w y.from)
    comes = subst (λ n. Names (behind w.mesh.shape (is_inner w.mesh) (leaf_at w n) x.axis x.high) (leaf_at w y.from)) (sym to)
        (subst (λ n. Names (behind w.mesh.shape (is_inner w.mesh) (leaf_at w y.to) n x.high) (leaf_at w y.from)) (sym axis)
        (subst (λ (n : Bool). Names (behind w.mesh.shape (is_inner w.mesh) (leaf_at w y.to) y.axis n) (leaf_at w y.from)) (sym high) b.comes))

    by : (v : Behind) → behind_side (block_on w 0 (leaf_at w x.to)) x.axis x.high ≡ v → leaf_at w x.from ≡ leaf_at w y.from
    by outside e = absurd (subst (λ (v : Behind). Names v (leaf_at w x.from)) e a.comes)
    by (same o) e = subst (λ (v : Behind). Names v (leaf_at w x.from)) e a.comes ∙ sym (subst (λ (v : Behind). Names v (leaf_at w y.from)) e comes)
    by (coarse o) e = subst (λ (v : Behind). Names v (leaf_at w x.from)) e a.comes ∙ sym (subst (λ (v : Behind). Names v (leaf_at w y.from)) e comes)
    by (fine os) e =
        let among : Contains os (leaf_at w x.from) = subst (λ (v : Behind). Names v (leaf_at w x.from)) e a.comes in
        let also : Contains os (leaf_at w y.from) = subst (λ (v : Behind). Names v (leaf_at w y.from)) e comes in
        let tb : FieldBlock = block_on w 0 (leaf_at w x.to) in
        let p = below_is tb x.axis x.high os (leaf_at w x.from) side e among in
        let q = below_is tb x.axis x.high os (leaf_at w y.from) side e also in
        let up = p.level in
        let vp = q.level in
        let less : (leaf_at w x.to).level < (leaf_at w x.from).level = omega (arith, up) in
        let lower : (leaf_at w y.to).level < (leaf_at w y.from).level = subst (λ n. (leaf_at w n).level < (leaf_at w y.from).level) to (omega (arith, vp)) in
        let other : covers (received Finer w.layout x.axis x.high (side_part x.axis (child_number w.mesh.shape.dims (leaf_at w y.from)))) i ≡ true =
        subst (λ n. covers (received Finer w.layout n x.high (side_part n (child_number w.mesh.shape.dims (leaf_at w y.from)))) i ≡ true) (sym axis)
        (subst (λ (n : Bool). covers (received Finer w.layout y.axis n (side_part y.axis (child_number w.mesh.shape.dims (leaf_at w y.from)))) i ≡ true) (sym high) (given_by_finer w y i (sent_by_finer w y lower) d)) in
        one_finer tb x.axis x.high os (leaf_at w x.from) (leaf_at w y.from) i side (axis_three w x.axis is a.used) e among also (given_by_finer w x i (sent_by_finer w x less) c) other

-- two letters to one leaf that give one ghost are one
pub apart : (w : CycleMesh) (x y : Exchange) (i : List ℕ) → IsCycleMesh w → IsLink w x → IsLink w y → x.to ≡ y.to → covers (region_given w x) i ≡ true → covers (region_given w y) i ≡ true → x ≡ y
apart w x y i is a b to c d =
    let h = axis_three w x.axis is a.used in
    let g = axis_three w y.axis is b.used in
    let p = received_ghost (how_sent w x) w.layout x.axis x.high (part_covered w x) i h c in
    let q = received_ghost (how_sent w y) w.layout y.axis y.high (part_covered w y) i g d in
    let axis : x.axis ≡ y.axis = one_axis w.layout x.axis y.axis x.high y.high i (used_here w x.axis is a.used) h p q in
    let high : x.high ≡ y.high = one_side w.layout x.axis x.high y.high i p (subst (λ n. IsGhostOf w.layout n y.high i) (sym axis) q) in
    letter_by x y (one_leaf w.mesh x.from y.from is.mesh a.few_from b.few_from (one_sender w x y i is a b to axis high c d)) to axis high
