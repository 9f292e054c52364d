-- Indices along one axis after another.
use Rattle.std.proofs.Common.{◌≡◌, ◌==◌, inl, inr, ℕ, zero, suc, ◌+◌, ◌-◌, ◌*◌, ◌<◌, ◌≤◌, Bool, true, false, cond, List, [], ◌∷◌, refl, arith, ap, subst, sym, ◌∙◌, slice_index}
use Rattle.std.proofs.lemmas.Bool.{cases_eq, ne_eqb}
use Rattle.std.proofs.lemmas.Bool.Decides.{nat_tests}
use Rattle.block_layout.specs.declared.layout.Layout.{Layout}
use Rattle.block_layout.specs.Indices.{added, with_along}
use Rattle.block_layout.specs.Layouts.{ghost_layers, place, widths}
use Rattle.block_layout.specs.Regions.{inner_layers, ghosts, interior}
use Rattle.block_geometry.specs.Blocks.{own_place}
use Rattle.block_geometry.proofs.Rows.{two_layers}

-- on an axis, or off it
eq_true : (a b : ℕ) → a ≡ b → (a == b) ≡ true
eq_true a b e = grind (arith, nat_tests)

pub split : (k axis : ℕ) (P : Bool → Type 0) → (k ≡ axis → P true) → (¬ (k ≡ axis) → P false) → P (k == axis)
split k axis P on off = elim (cases_eq k axis) [ inl e ↦ subst P (sym (eq_true k axis e)) (on e) | inr d ↦ subst P (sym (ne_eqb k axis d)) (off d) ]

-- an index with another number along an axis
pub with_at : (axis x k : ℕ) (i : List ℕ) → axis < 3 → k < 3 → slice_index (with_along axis x i) k ≡ cond (k == axis) x (slice_index i k)
with_at zero x zero i h g = refl
with_at zero x (suc zero) i h g = refl
with_at zero x (suc (suc zero)) i h g = refl
with_at (suc zero) x zero i h g = refl
with_at (suc zero) x (suc zero) i h g = refl
with_at (suc zero) x (suc (suc zero)) i h g = refl
with_at (suc (suc zero)) x zero i h g = refl
with_at (suc (suc zero)) x (suc zero) i h g = refl
with_at (suc (suc zero)) x (suc (suc zero)) i h g = refl
with_at axis x (suc (suc (suc k))) i h g = absurd (omega arith)
with_at (suc (suc (suc a))) x k i h g = absurd (omega arith)

-- an index by what it is along each axis
abbrev pub listed : (ℕ → ℕ) → List ℕ
listed q = q 0 ∷ q 1 ∷ q 2 ∷ []

-- one place
pub same_place : (l : Layout) (u v : List ℕ) → ((k : ℕ) → k < 3 → slice_index u k ≡ slice_index v k) → place l u ≡ place l v
same_place l u v e =
    let w1 : ℕ = slice_index (widths l) 0 in
    let w2 : ℕ = slice_index (widths l) 1 in
    ap (λ x. x + w1 * (slice_index u 1 + w2 * slice_index u 2)) (e 0 (omega arith))
    ∙ ap (λ x. slice_index v 0 + w1 * (x + w2 * slice_index u 2)) (e 1 (omega arith))
    ∙ ap (λ x. slice_index v 0 + w1 * (slice_index v 1 + w2 * x)) (e 2 (omega arith))

-- facts for each axis
pub each_axis : (P : ℕ → Type 0) → P 0 → P 1 → P 2 → (k : ℕ) → k < 3 → P k
each_axis P a b c zero h = a
each_axis P a b c (suc zero) h = b
each_axis P a b c (suc (suc zero)) h = c
each_axis P a b c (suc (suc (suc k))) h = absurd (omega arith)

pub added_at : (u v : List ℕ) (k : ℕ) → k < 3 → slice_index (added u v) k ≡ slice_index u k + slice_index v k
added_at u v = each_axis (λ k. slice_index (added u v) k ≡ slice_index u k + slice_index v k) refl refl refl

pub listed_at : (q : ℕ → ℕ) (k : ℕ) → k < 3 → slice_index (listed q) k ≡ q k
listed_at q = each_axis (λ k. slice_index (listed q) k ≡ q k) refl refl refl

pub interior_at : (l : Layout) (k : ℕ) → k < 3 → slice_index (interior l).low k ≡ ghost_layers l k
interior_at l = each_axis (λ k. slice_index (interior l).low k ≡ ghost_layers l k) refl refl refl

-- the lowest index of layers next to a side
abbrev pub layers_low : Layout → ℕ → Bool → ℕ → ℕ
layers_low l axis end depth = cond end (slice_index l.cells axis + 2 - depth) 2

pub inner_low : (l : Layout) (axis : ℕ) (end : Bool) (depth k : ℕ) → axis < 3 → k < 3 → slice_index (inner_layers l axis end depth).low k ≡ cond (k == axis) (layers_low l axis end depth) (ghost_layers l k)
inner_low l axis end depth k h g = with_at axis (layers_low l axis end depth) k (interior l).low h g ∙ ap (λ v. cond (k == axis) (layers_low l axis end depth) v) (interior_at l k g)

pub ghosts_low : (l : Layout) (axis : ℕ) (end : Bool) (k : ℕ) → axis < 3 → k < 3 → slice_index (ghosts l axis end).low k ≡ cond (k == axis) (cond end (slice_index l.cells axis + 2) 0) (ghost_layers l k)
ghosts_low l axis end k h g = with_at axis (cond end (slice_index l.cells axis + 2) 0) k (interior l).low h g ∙ ap (λ v. cond (k == axis) (cond end (slice_index l.cells axis + 2) 0) v) (interior_at l k g)

-- the own cell at an index of layers next to a side
abbrev pub own_along : Layout → ℕ → Bool → ℕ → List ℕ → ℕ → ℕ
own_along l axis end depth i k = cond (k == axis) (cond end (slice_index l.cells axis - depth) 0 + slice_index i k) (slice_index i k)

own_end : (n depth x g : ℕ) (end : Bool) → g ≡ 2 → depth ≤ n → cond end (n + 2 - depth) 2 + x ≡ g + (cond end (n - depth) 0 + x)
own_end n depth x g true e h = omega arith
own_end n depth x g false e h = omega arith

pub layers_place : (l : Layout) (axis : ℕ) (end : Bool) (depth : ℕ) (i : List ℕ) → axis < l.dims → axis < 3 → depth ≤ slice_index l.cells axis →
    place l (added (inner_layers l axis end depth).low i) ≡ own_place l (listed (own_along l axis end depth i))
layers_place l axis end depth i used h few = same_place l (added (inner_layers l axis end depth).low i) (added (interior l).low (listed (own_along l axis end depth i))) along
  where
    along : (k : ℕ) → k < 3 → slice_index (added (inner_layers l axis end depth).low i) k ≡ slice_index (added (interior l).low (listed (own_along l axis end depth i))) k
    along k g =
        added_at (inner_layers l axis end depth).low i k g
        ∙ ap (λ v. v + slice_index i k) (inner_low l axis end depth k h g)
        ∙ split k axis (λ (t : Bool). cond t (layers_low l axis end depth) (ghost_layers l k) + slice_index i k ≡ ghost_layers l k + cond t (cond end (slice_index l.cells axis - depth) 0 + slice_index i k) (slice_index i k))
        (λ e. own_end (slice_index l.cells axis) depth (slice_index i k) (ghost_layers l k) end (two_layers l k (subst (λ v. v < l.dims) (sym e) used)) few)
        (λ d. refl)
        ∙ sym (ap (λ v. v + own_along l axis end depth i k) (interior_at l k g))
        ∙ sym (ap (λ v. slice_index (interior l).low k + v) (listed_at (own_along l axis end depth i) k g))
        ∙ sym (added_at (interior l).low (listed (own_along l axis end depth i)) k g)
