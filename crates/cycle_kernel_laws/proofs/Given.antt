-- The list of a block by its own totals and by what the letters to it give.
use Rattle.std.proofs.Common.{◌≡◌, ◌==◌, inl, inr, ℕ, ◌+◌, ◌-◌, ◌*◌, ◌<◌, ◌≤◌, Bool, true, false, ◌&&◌, cond, List, [], ◌∷◌, refl, arith, ap, subst, sym, ◌∙◌, slice_index}
use Rattle.std.specs.List.{list_any}
use Rattle.std.proofs.lemmas.Bool.{and_from, and_parts, cases_eq, eqb-true, eq-eqb, false≢true}
use Rattle.morton_order.proofs.Any.{or_cases, or_left, or_right}
use Rattle.mesh_rules.specs.Due.{Exchange, ghost_letters}
use Rattle.block_layout.specs.declared.layout.Layout.{Layout}
use Rattle.block_layout.specs.Indices.{IsWithin, added, index_of, number_of}
use Rattle.block_layout.specs.Layouts.{ghost_layers, len, place, width, widths}
use Rattle.block_layout.specs.Regions.{Region, covers, interior}
use Rattle.block_layout.proofs.Boxes.{number_bound, number_index}
use Rattle.block_geometry.specs.Blocks.{own_place}
use Rattle.block_geometry.proofs.Cells.{within_along}
use Rattle.block_geometry.proofs.Rows.{two_layers}
use Rattle.block_regions.specs.Written.{HasRegion}
use Rattle.restrict_prolong.proofs.Halves.{same_three}
use Rattle.ghost_buffers.specs.declared.part.How.{How}
use Rattle.ghost_buffers.specs.declared.part.How.TheVariants.{Same, Finer, Coarser}
use Rattle.ghost_buffers.specs.Ghosts.{ghost_cell}
use Rattle.letter_laws.proofs.Along.{each_axis}
use Rattle.letter_laws.proofs.Boxes.{table_at}
use Rattle.cycle_kernels.specs.Blocks.{CycleMesh}
use Rattle.cycle_kernels.specs.Laws.{IsCycleMesh}
use Rattle.cycle_kernels.specs.Lists.{index_at, is_own, less, own_number, with_ghosts}
use Rattle.cycle_kernels.specs.Letters.{ghost_at, ghosts_by, how_sent, part_covered, region_given, same_letter, total_given}
use Rattle.cycle_kernels.proofs.Letters.{letter_same, same_letter_is}
use Rattle.cycle_kernel_laws.proofs.Due.{IsLink, ghost_link}
use Rattle.cycle_kernel_laws.proofs.Apart.{InAlong, Inside, IsGhostOf, apart, axis_three, inside_of, is_covered, received_ghost, used_here}

-- the three numbers of an index
abbrev pub three : List ℕ → List ℕ
three i = slice_index i 0 ∷ slice_index i 1 ∷ slice_index i 2 ∷ []

pub index_again : (n i : List ℕ) → IsWithin n i → index_of n (number_of n i) ≡ three i
index_again n i w =
    let e = number_index n i w in
    same_three (slice_index (index_of n (number_of n i)) 0) (slice_index (index_of n (number_of n i)) 1) (slice_index (index_of n (number_of n i)) 2) (slice_index i 0) (slice_index i 1) (slice_index i 2) e.along1 e.along2 e.along3

back : (a b : ℕ) → a + b - a ≡ b
back a b = omega arith

pub less_again : (low i : List ℕ) → less (added low i) low ≡ three i
less_again low i = same_three _ _ _ (slice_index i 0) (slice_index i 1) (slice_index i 2) (back (slice_index low 0) (slice_index i 0)) (back (slice_index low 1) (slice_index i 1)) (back (slice_index low 2) (slice_index i 2))

-- an index less the lowest one of a region that covers it
less_below : (low extent x : ℕ) → low ≤ x → x < low + extent → x - low < extent
less_below low extent x a b = omega arith

pub less_within : (r : Region) (u : List ℕ) → Inside r u → IsWithin r.extents (less u r.low)
less_within r u h = record {
  along1 = less_below (slice_index r.low 0) (slice_index r.extents 0) (slice_index u 0) (h 0 (omega arith)).least (h 0 (omega arith)).below;
  along2 = less_below (slice_index r.low 1) (slice_index r.extents 1) (slice_index u 1) (h 1 (omega arith)).least (h 1 (omega arith)).below;
  along3 = less_below (slice_index r.low 2) (slice_index r.extents 2) (slice_index u 2) (h 2 (omega arith)).least (h 2 (omega arith)).below;
}

-- what stands at an index of the list of a block
pub at_index_of : (l : Layout) (own rest u : List ℕ) → IsWithin (widths l) u →
    slice_index (with_ghosts l own rest) (place l u) ≡ cond (covers (interior l) (three u)) (slice_index own (number_of l.cells (less (three u) (interior l).low))) (slice_index rest (place l u))
at_index_of l own rest u w =
    table_at (len l) (λ n. cond (is_own l n) (slice_index own (own_number l n)) (slice_index rest n)) (place l u) (number_bound (widths l) u w)
    ∙ ap (λ (v : List ℕ). cond (covers (interior l) v) (slice_index own (number_of l.cells (less v (interior l).low))) (slice_index rest (place l u))) (index_again (widths l) u w)

-- the block's own cells
pub own_along : (l : Layout) (i : List ℕ) (k : ℕ) → k < 3 → IsWithin l.cells i → InAlong (slice_index (interior l).low k) (slice_index l.cells k) (slice_index (added (interior l).low i) k)
own_along l i k g w =
    let b = within_along l.cells i k w g in
    each_axis (λ k. slice_index i k < slice_index l.cells k → InAlong (slice_index (interior l).low k) (slice_index l.cells k) (slice_index (added (interior l).low i) k))
    (λ c. record { least = omega arith; below = omega (arith, c) }) (λ c. record { least = omega arith; below = omega (arith, c) }) (λ c. record { least = omega arith; below = omega (arith, c) }) k g b

pub own_room : (l : Layout) (i : List ℕ) → IsWithin l.cells i → IsWithin (widths l) (added (interior l).low i)
own_room l i w = record { along1 = room (ghost_layers l 0) (slice_index i 0) (slice_index l.cells 0) w.along1; along2 = room (ghost_layers l 1) (slice_index i 1) (slice_index l.cells 1) w.along2; along3 = room (ghost_layers l 2) (slice_index i 2) (slice_index l.cells 2) w.along3 }
  where
    room : (g i n : ℕ) → i < n → g + i < n + 2 * g
    room g i n h = omega arith

pub own_inside : (l : Layout) (i : List ℕ) → IsWithin l.cells i → Inside (interior l) (added (interior l).low i)
own_inside l i w k g = own_along l i k g w

pub own_total : (l : Layout) (own rest i : List ℕ) → IsWithin l.cells i → slice_index (with_ghosts l own rest) (own_place l i) ≡ slice_index own (number_of l.cells i)
own_total l own rest i w =
    let u : List ℕ = added (interior l).low i in
    at_index_of l own rest u (own_room l i w)
    ∙ ap (λ (b : Bool). cond b (slice_index own (number_of l.cells (less u (interior l).low))) (slice_index rest (place l u))) (is_covered (interior l) u (λ k g. own_along l i k g w))
    ∙ ap (λ (v : List ℕ). slice_index own (number_of l.cells v)) (less_again (interior l).low i)

-- its ghosts
ghost_width : (n g x : ℕ) (high : Bool) → g ≡ 2 → InAlong (cond high (n + 2) 0) 2 x → x < n + 2 * g
ghost_width n g x true e h = let b = h.below in omega (arith, b)
ghost_width n g x false e h = let b = h.below in omega (arith, b)

side_width : (n g x : ℕ) → InAlong g n x → x < n + 2 * g
side_width n g x h = let b = h.below in omega (arith, b)

ghost_below : (l : Layout) (axis : ℕ) (high : Bool) (u : List ℕ) (k : ℕ) → axis < l.dims → k < 3 → IsGhostOf l axis high u → slice_index u k < width l k
ghost_below l axis high u k used g is = elim (cases_eq k axis) [
  | inl e ↦ subst (λ a. slice_index u a < width l a) (sym e) (ghost_width (slice_index l.cells axis) (ghost_layers l axis) (slice_index u axis) high (two_layers l axis used) is.along)
  | inr d ↦ side_width (slice_index l.cells k) (ghost_layers l k) (slice_index u k) (is.beside k g d)
]

pub ghost_room : (l : Layout) (axis : ℕ) (high : Bool) (u : List ℕ) → axis < l.dims → IsGhostOf l axis high u → IsWithin (widths l) u
ghost_room l axis high u used is = record { along1 = ghost_below l axis high u 0 used (omega arith) is; along2 = ghost_below l axis high u 1 used (omega arith) is; along3 = ghost_below l axis high u 2 used (omega arith) is }

not_own_along : (n g x : ℕ) (high : Bool) → g ≡ 2 → InAlong (cond high (n + 2) 0) 2 x → InAlong g n x → ⊥
not_own_along n g x true e a b = let c = a.least in let d = b.below in omega (arith, c, d)
not_own_along n g x false e a b = let c = a.below in let d = b.least in omega (arith, c, d)

not_true : (b : Bool) → (b ≡ true → ⊥) → b ≡ false
not_true true h = absurd (h refl)
not_true false h = refl

interior_along : (l : Layout) (u : List ℕ) (k : ℕ) → k < 3 → Inside (interior l) u → InAlong (ghost_layers l k) (slice_index l.cells k) (slice_index u k)
interior_along l u k g inside = each_axis (λ k. InAlong (slice_index (interior l).low k) (slice_index l.cells k) (slice_index u k) → InAlong (ghost_layers l k) (slice_index l.cells k) (slice_index u k)) (λ h. h) (λ h. h) (λ h. h) k g (inside k g)

pub ghost_not_own : (l : Layout) (axis : ℕ) (high : Bool) (u : List ℕ) → axis < l.dims → axis < 3 → IsGhostOf l axis high u → covers (interior l) u ≡ false
ghost_not_own l axis high u used h is =
    not_true (covers (interior l) u) (λ c. not_own_along (slice_index l.cells axis) (ghost_layers l axis) (slice_index u axis) high (two_layers l axis used) is.along (interior_along l u axis h (inside_of (interior l) u c)))

pub ghost_total : (l : Layout) (own rest u : List ℕ) (axis : ℕ) (high : Bool) → axis < l.dims → axis < 3 → IsGhostOf l axis high (three u) → slice_index (with_ghosts l own rest) (place l u) ≡ slice_index rest (place l u)
ghost_total l own rest u axis high used h is =
    let room = ghost_room l axis high (three u) used is in
    at_index_of l own rest u (record { along1 = room.along1; along2 = room.along2; along3 = room.along3 })
    ∙ ap (λ (b : Bool). cond b (slice_index own (number_of l.cells (less (three u) (interior l).low))) (slice_index rest (place l u))) (ghost_not_own l axis high (three u) used h is)

-- the first letter that gives a ghost is the one
pub first_gives : (w : CycleMesh) (b f : ℕ) (x : Exchange) (parts : Exchange → List ℕ) (u : List ℕ) (xs : List Exchange) → IsCycleMesh w → IsLink w x → x.to ≡ b → covers (region_given w x) u ≡ true →
    ((y : Exchange) → list_any (same_letter y) xs ≡ true → IsLink w y) → list_any (same_letter x) xs ≡ true → ghost_at w b f xs parts u ≡ total_given w x (parts x) u
first_gives w b f x parts u [] is a to c links due = absurd (false≢true due)
first_gives w b f x parts u (y ∷ xs) is a to c links due =
    by (y.to == b && covers (region_given w y) u) refl
    (λ rest. first_gives w b f x parts u xs is a to c (λ z h. links z (or_right (same_letter z y) (list_any (same_letter z) xs) h)) rest)
  where
    test : Exchange → Bool
    test z = z.to == b && covers (region_given w z) u

    by : (t : Bool) → (y.to == b && covers (region_given w y) u) ≡ t → (list_any (same_letter x) xs ≡ true → ghost_at w b f xs parts u ≡ total_given w x (parts x) u) →
        cond t (total_given w y (parts y) u) (ghost_at w b f xs parts u) ≡ total_given w x (parts x) u
    by true e rest =
        let p = and_parts (y.to == b) (covers (region_given w y) u) e in
        let one : x ≡ y = apart w x y u is a (links y (or_left (same_letter y y) (list_any (same_letter y) xs) (letter_same y))) (to ∙ sym (eqb-true y.to b p.0)) c p.1 in
        ap (λ (z : Exchange). total_given w z (parts z) u) (sym one)
    by false e rest = rest (elim (or_cases (same_letter x y) (list_any (same_letter x) xs) due) [
      | inl here ↦ absurd (false≢true (sym e ∙ ap (λ (z : Exchange). z.to == b && covers (region_given w z) u) (sym (same_letter_is x y here)) ∙ and_from (x.to == b) (covers (region_given w x) u) (eq-eqb x.to b to) c))
      | inr later ↦ later
    ])

-- a cell of a part by the three numbers of its index
pub three_cell : (how : How) (l : Layout) (axis : ℕ) (part i : List ℕ) → ghost_cell how l axis part (three i) ≡ ghost_cell how l axis part i
three_cell Same l axis part i = refl
three_cell Finer l axis part i = refl
three_cell Coarser l axis part i = refl

-- the index of a region's cell is covered
pub added_inside : (r : Region) (i : List ℕ) → IsWithin r.extents i → Inside r (added r.low i)
added_inside r i w = each_axis (λ k. InAlong (slice_index r.low k) (slice_index r.extents k) (slice_index (added r.low i) k)) (along (slice_index r.low 0) (slice_index i 0) (slice_index r.extents 0) w.along1) (along (slice_index r.low 1) (slice_index i 1) (slice_index r.extents 1) w.along2) (along (slice_index r.low 2) (slice_index i 2) (slice_index r.extents 2) w.along3)
  where
    along : (low i n : ℕ) → i < n → InAlong low n (low + i)
    along low i n h = record { least = omega arith; below = omega arith }

pub added_covered : (r : Region) (i : List ℕ) → IsWithin r.extents i → covers r (added r.low i) ≡ true
added_covered r i w = is_covered r (added r.low i) (added_inside r i w)

-- a ghost of the letters of a stage
pub ghost_here : (w : CycleMesh) (b f : ℕ) (parts : Exchange → List ℕ) (u : List ℕ) → IsWithin (widths w.layout) u → slice_index (ghosts_by w b f parts) (place w.layout u) ≡ ghost_at w b f (ghost_letters w.mesh) parts (three u)
ghost_here w b f parts u h =
    table_at (len w.layout) (λ n. ghost_at w b f (ghost_letters w.mesh) parts (index_at w.layout n)) (place w.layout u) (number_bound (widths w.layout) u h)
    ∙ ap (λ (v : List ℕ). ghost_at w b f (ghost_letters w.mesh) parts v) (index_again (widths w.layout) u h)

-- each letter that is due gives its ghosts
pub letter_gives : (w : CycleMesh) (b f : ℕ) (x : Exchange) (own : List ℕ) (parts : Exchange → List ℕ) → IsCycleMesh w → list_any (same_letter x) (ghost_letters w.mesh) ≡ true → x.to ≡ b →
    HasRegion w.layout (region_given w x) (ghost_cell (how_sent w x) w.layout x.axis (parts x)) (with_ghosts w.layout own (ghosts_by w b f parts))
letter_gives w b f x own parts is due to i inside =
    let l : Layout = w.layout in
    let r : Region = region_given w x in
    let u : List ℕ = added r.low i in
    let a = ghost_link w x is.mesh due in
    let h = axis_three w x.axis is a.used in
    let used = used_here w x.axis is a.used in
    let c = added_covered r i inside in
    let ghost = received_ghost (how_sent w x) l x.axis x.high (part_covered w x) u h c in
    ghost_total l own (ghosts_by w b f parts) u x.axis x.high used h ghost
    ∙ ghost_here w b f parts u (ghost_room l x.axis x.high u used ghost)
    ∙ first_gives w b f x parts u (ghost_letters w.mesh) is a to c (λ y y_due. ghost_link w y is.mesh y_due) due
    ∙ ap (ghost_cell (how_sent w x) l x.axis (parts x)) (less_again r.low i)
    ∙ three_cell (how_sent w x) l x.axis (parts x) i
