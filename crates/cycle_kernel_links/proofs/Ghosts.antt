-- The ghosts that were written are those of the cycle, and stay where others are written.
use Rattle.std.proofs.Common.{◌≡◌, ◌==◌, inl, inr, ℕ, zero, suc, ◌+◌, ◌<◌, ◌≤◌, Bool, true, false, ◌&&◌, cond, List, [], ◌∷◌, refl, arith, ap, subst, sym, ◌∙◌, slice_index}
use Rattle.std.specs.List.{list_any}
use Rattle.std.proofs.lemmas.Bool.{and_parts, cases_eq, eqb-true, eq-eqb, false≢true}
use Rattle.morton_order.proofs.Any.{or_cases, or_left, or_right}
use Rattle.mesh_rules.specs.Due.{Exchange, ghost_letters}
use Rattle.block_layout.specs.declared.layout.Layout.{Layout}
use Rattle.block_layout.specs.Indices.{IsWithin, added, index_of}
use Rattle.block_layout.specs.Layouts.{interior_len, len, place, widths}
use Rattle.block_layout.specs.Regions.{Region, cell_place, covers, ghosts, interior}
use Rattle.block_layout.proofs.Boxes.{index_below}
use Rattle.block_regions.specs.Written.{HasRegion, StaysOffRegion, place_in}
use Rattle.ghost_buffers.specs.Ghosts.{ghost_cell}
use Rattle.letter_laws.proofs.Boxes.{table_at, table_same}
use Rattle.cycle_kernels.specs.Blocks.{CycleMesh, is_domain_face, total_outside}
use Rattle.cycle_kernels.specs.Laws.{IsCycleMesh}
use Rattle.cycle_kernels.specs.Lists.{ghosts_in, index_at, is_own, less, own_totals}
use Rattle.cycle_kernels.specs.Letters.{ghost_at, ghosts_by, how_sent, outside_at, part_covered, region_given, same_letter, sides, total_given}
use Rattle.cycle_kernels.proofs.Letters.{letter_same, same_letter_is, sides_from}
use Rattle.cycle_kernels.proofs.Tables.{table_long}
use Rattle.cycle_kernel_laws.proofs.Apart.{IsGhostOf, apart, axis_three, ghost_of, inside_of, is_covered, one_axis, one_side, received_ghost, used_here}
use Rattle.cycle_kernel_laws.proofs.Due.{IsLink, ghost_link}
use Rattle.cycle_kernel_laws.proofs.Given.{less_within, added_covered, added_inside, ghost_not_own, ghost_room, index_again, own_room, own_inside, three}
use Rattle.cycle_kernel_laws.proofs.Outside.{none_covers}
use Rattle.cycle_kernel_links.specs.Ghosts.{FilledAreGhosts, GhostsStay, IsDueTo, IsFilledOutside, IsUnfilledBy}
use Rattle.cycle_kernel_links.proofs.Lists.{covered_place, ghost_at as ghost_number, ghosts_long, same_lists}

-- the link of a letter that is due to a block
link_of : (w : CycleMesh) (b : ℕ) (x : Exchange) → IsCycleMesh w → IsDueTo w b x → IsLink w x
link_of w b x is due = ghost_link w x is.mesh due.due

-- what a letter gives at a place
given_at : (w : CycleMesh) (x : Exchange) (part cells : List ℕ) (n : ℕ) → IsUnfilledBy w x part cells → covers (region_given w x) (index_at w.layout n) ≡ true → slice_index cells n ≡ total_given w x part (index_at w.layout n)
given_at w x part cells n has c =
    sym (ap (slice_index cells) (covered_place w.layout (region_given w x) n c))
    ∙ has (less (index_at w.layout n) (region_given w x).low) (less_within (region_given w x) (index_at w.layout n) (inside_of (region_given w x) (index_at w.layout n) c))

filled_at : (w : CycleMesh) (b f axis : ℕ) (high : Bool) (cells : List ℕ) (n : ℕ) → IsFilledOutside w b f axis high cells → covers (ghosts w.layout axis high) (index_at w.layout n) ≡ true → slice_index cells n ≡ total_outside w b f axis high
filled_at w b f axis high cells n has c =
    sym (ap (slice_index cells) (covered_place w.layout (ghosts w.layout axis high) n c))
    ∙ has (less (index_at w.layout n) (ghosts w.layout axis high).low) (less_within (ghosts w.layout axis high) (index_at w.layout n) (inside_of (ghosts w.layout axis high) (index_at w.layout n) c))

not_true : (b : Bool) → (b ≡ true → ⊥) → b ≡ false
not_true true h = absurd (h refl)
not_true false h = refl

and_is : (a b : Bool) → a ≡ true → (a && b) ≡ false → b ≡ false
and_is true b e h = h
and_is false b e h = absurd (false≢true e)

-- beyond the sides: the first of those that are left has it, or none had
outside_is : (w : CycleMesh) (b f : ℕ) (cells : List ℕ) (n a k : ℕ) → a + k ≤ w.mesh.shape.dims →
    ((axis : ℕ) (high : Bool) → axis < w.mesh.shape.dims → is_domain_face w b axis high ≡ true → IsFilledOutside w b f axis high cells) →
    (((axis : ℕ) (high : Bool) → a ≤ axis → axis < a + k → is_domain_face w b axis high ≡ true → covers (ghosts w.layout axis high) (index_at w.layout n) ≡ false) → slice_index cells n ≡ 0) →
    slice_index cells n ≡ outside_at w b f (sides_from a k) (index_at w.layout n)
outside_is w b f cells n a zero room filled none = none (λ axis high low few face. absurd (omega arith))
outside_is w b f cells n a (suc k) room filled none =
    first false (outside_at w b f (record { axis = a; high = true } ∷ sides_from (a + 1) k) (index_at w.layout n)) (λ off_low.
    first true (outside_at w b f (sides_from (a + 1) k) (index_at w.layout n)) (λ off_high.
    outside_is w b f cells n (a + 1) k (omega arith) filled (λ rest. none (λ axis high low few face. either axis high low few face off_low off_high rest))))
  where
    test : Bool → Bool
    test high = is_domain_face w b a high && covers (ghosts w.layout a high) (index_at w.layout n)

    first : (high : Bool) (later : ℕ) → ((is_domain_face w b a high && covers (ghosts w.layout a high) (index_at w.layout n)) ≡ false → slice_index cells n ≡ later) →
        slice_index cells n ≡ cond (is_domain_face w b a high && covers (ghosts w.layout a high) (index_at w.layout n)) (total_outside w b f a high) later
    first high later rest = by (is_domain_face w b a high && covers (ghosts w.layout a high) (index_at w.layout n)) refl
      where
        by : (t : Bool) → (is_domain_face w b a high && covers (ghosts w.layout a high) (index_at w.layout n)) ≡ t → slice_index cells n ≡ cond t (total_outside w b f a high) later
        by true e =
            let p = and_parts (is_domain_face w b a high) (covers (ghosts w.layout a high) (index_at w.layout n)) e in
            filled_at w b f a high cells n (filled a high (omega arith) p.0) p.1
        by false e = rest e

    either : (axis : ℕ) (high : Bool) → a ≤ axis → axis < a + suc k → is_domain_face w b axis high ≡ true → (is_domain_face w b a false && covers (ghosts w.layout a false) (index_at w.layout n)) ≡ false →
        (is_domain_face w b a true && covers (ghosts w.layout a true) (index_at w.layout n)) ≡ false →
        ((axis : ℕ) (high : Bool) → a + 1 ≤ axis → axis < a + 1 + k → is_domain_face w b axis high ≡ true → covers (ghosts w.layout axis high) (index_at w.layout n) ≡ false) → covers (ghosts w.layout axis high) (index_at w.layout n) ≡ false
    either axis high low few face off_low off_high rest = elim (cases_eq a axis) [
      | inl e ↦ subst (λ v. is_domain_face w b v high ≡ true → covers (ghosts w.layout v high) (index_at w.layout n) ≡ false) e (here high off_low off_high) face
      | inr d ↦ rest axis high (omega arith) (omega arith) face
    ]
      where
        here : (high : Bool) → (is_domain_face w b a false && covers (ghosts w.layout a false) (index_at w.layout n)) ≡ false → (is_domain_face w b a true && covers (ghosts w.layout a true) (index_at w.layout n)) ≡ false →
            is_domain_face w b a high ≡ true → covers (ghosts w.layout a high) (index_at w.layout n) ≡ false
        here true p q face = and_is (is_domain_face w b a true) (covers (ghosts w.layout a true) (index_at w.layout n)) face q
        here false p q face = and_is (is_domain_face w b a false) (covers (ghosts w.layout a false) (index_at w.layout n)) face p

-- the letters: the first of those that are left has it, or none had
letters_give : (w : CycleMesh) (b f : ℕ) (parts : Exchange → List ℕ) (cells : List ℕ) (n : ℕ) (xs : List Exchange) →
    ((x : Exchange) → list_any (same_letter x) xs ≡ true → x.to ≡ b → IsUnfilledBy w x (parts x) cells) →
    (((x : Exchange) → list_any (same_letter x) xs ≡ true → x.to ≡ b → covers (region_given w x) (index_at w.layout n) ≡ false) → slice_index cells n ≡ outside_at w b f (sides w.mesh.shape.dims) (index_at w.layout n)) →
    slice_index cells n ≡ ghost_at w b f xs parts (index_at w.layout n)
letters_give w b f parts cells n [] given none = none (λ x due to. absurd (false≢true due))
letters_give w b f parts cells n (y ∷ xs) given none =
    by (y.to == b && covers (region_given w y) (index_at w.layout n)) refl
    (λ off. letters_give w b f parts cells n xs (λ x due to. given x (or_right (same_letter x y) (list_any (same_letter x) xs) due) to)
    (λ rest. none (λ x due to. either x due to off rest)))
  where
    by : (t : Bool) → (y.to == b && covers (region_given w y) (index_at w.layout n)) ≡ t → (t ≡ false → slice_index cells n ≡ ghost_at w b f xs parts (index_at w.layout n)) →
        slice_index cells n ≡ cond t (total_given w y (parts y) (index_at w.layout n)) (ghost_at w b f xs parts (index_at w.layout n))
    by true e rest =
        let p = and_parts (y.to == b) (covers (region_given w y) (index_at w.layout n)) e in
        given_at w y (parts y) cells n (given y (or_left (same_letter y y) (list_any (same_letter y) xs) (letter_same y)) (eqb-true y.to b p.0)) p.1
    by false e rest = rest refl

    either : (x : Exchange) → list_any (same_letter x) (y ∷ xs) ≡ true → x.to ≡ b → (y.to == b && covers (region_given w y) (index_at w.layout n)) ≡ false →
        ((x : Exchange) → list_any (same_letter x) xs ≡ true → x.to ≡ b → covers (region_given w x) (index_at w.layout n) ≡ false) → covers (region_given w x) (index_at w.layout n) ≡ false
    either x due to off rest = elim (or_cases (same_letter x y) (list_any (same_letter x) xs) due) [
      | inl here ↦
          let is : x ≡ y = same_letter_is x y here in
          ap (λ (z : Exchange). covers (region_given w z) (index_at w.layout n)) is ∙ and_is (y.to == b) (covers (region_given w y) (index_at w.layout n)) (eq-eqb y.to b (sym (ap (λ (z : Exchange). z.to) is) ∙ to)) off
      | inr later ↦ rest x later to
    ]

-- no own cell is given
own_is_not_given : (w : CycleMesh) (b : ℕ) (x : Exchange) (n : ℕ) → IsCycleMesh w → IsDueTo w b x → is_own w.layout n ≡ true → covers (region_given w x) (index_at w.layout n) ≡ true → ⊥
own_is_not_given w b x n is due own c =
    let link = link_of w b x is due in
    let h = axis_three w x.axis is link.used in
    let ghost = received_ghost (how_sent w x) w.layout x.axis x.high (part_covered w x) (index_at w.layout n) h c in
    false≢true (sym (ghost_not_own w.layout x.axis x.high (index_at w.layout n) (used_here w x.axis is link.used) h ghost) ∙ own)

own_is_not_outside : (w : CycleMesh) (axis : ℕ) (high : Bool) (n : ℕ) → IsCycleMesh w → axis < w.mesh.shape.dims → is_own w.layout n ≡ true → covers (ghosts w.layout axis high) (index_at w.layout n) ≡ true → ⊥
own_is_not_outside w axis high n is used own c =
    let h = axis_three w axis is used in
    let ghost = ghost_of w.layout axis high (index_at w.layout n) h (inside_of (ghosts w.layout axis high) (index_at w.layout n) c) in
    false≢true (sym (ghost_not_own w.layout axis high (index_at w.layout n) (used_here w axis is used) h ghost) ∙ own)

no_outside : (w : CycleMesh) (b f n a k : ℕ) → IsCycleMesh w → is_own w.layout n ≡ true → a + k ≤ w.mesh.shape.dims → outside_at w b f (sides_from a k) (index_at w.layout n) ≡ 0
no_outside w b f n a zero is own room = refl
no_outside w b f n a (suc k) is own room = step false (outside_at w b f (record { axis = a; high = true } ∷ sides_from (a + 1) k) (index_at w.layout n)) (step true (outside_at w b f (sides_from (a + 1) k) (index_at w.layout n)) (no_outside w b f n (a + 1) k is own (omega arith)))
  where
    step : (high : Bool) (later : ℕ) → later ≡ 0 → cond (is_domain_face w b a high && covers (ghosts w.layout a high) (index_at w.layout n)) (total_outside w b f a high) later ≡ 0
    step high later e = by (is_domain_face w b a high && covers (ghosts w.layout a high) (index_at w.layout n)) refl
      where
        by : (t : Bool) → (is_domain_face w b a high && covers (ghosts w.layout a high) (index_at w.layout n)) ≡ t → cond t (total_outside w b f a high) later ≡ 0
        by true t = absurd (own_is_not_outside w a high n is (omega arith) own (and_parts (is_domain_face w b a high) (covers (ghosts w.layout a high) (index_at w.layout n)) t).1)
        by false t = e

no_letter : (w : CycleMesh) (b f : ℕ) (parts : Exchange → List ℕ) (n : ℕ) (xs : List Exchange) → IsCycleMesh w → is_own w.layout n ≡ true → ((x : Exchange) → list_any (same_letter x) xs ≡ true → list_any (same_letter x) (ghost_letters w.mesh) ≡ true) →
    ghost_at w b f xs parts (index_at w.layout n) ≡ 0
no_letter w b f parts n [] is own due = no_outside w b f n 0 w.mesh.shape.dims is own (omega arith)
no_letter w b f parts n (y ∷ xs) is own due =
    by (y.to == b && covers (region_given w y) (index_at w.layout n)) refl (no_letter w b f parts n xs is own (λ x h. due x (or_right (same_letter x y) (list_any (same_letter x) xs) h)))
  where
    by : (t : Bool) → (y.to == b && covers (region_given w y) (index_at w.layout n)) ≡ t → ghost_at w b f xs parts (index_at w.layout n) ≡ 0 → cond t (total_given w y (parts y) (index_at w.layout n)) (ghost_at w b f xs parts (index_at w.layout n)) ≡ 0
    by true e rest =
        let p = and_parts (y.to == b) (covers (region_given w y) (index_at w.layout n)) e in
        absurd (own_is_not_given w b y n is (record { due = due y (or_left (same_letter y y) (list_any (same_letter y) xs) (letter_same y)); is_to = eqb-true y.to b p.0 }) own p.1)
    by false e rest = rest

pub filled_are_ghosts : FilledAreGhosts
filled_are_ghosts w b f parts cells is all =
    same_lists (ghosts_in w.layout cells) (ghosts_by w b f parts) (len w.layout) (ghosts_long w.layout cells) (table_long (len w.layout) (λ n. ghost_at w b f (ghost_letters w.mesh) parts (index_at w.layout n)))
    (λ n few. ghost_number w.layout cells n few ∙ by n few (is_own w.layout n) refl ∙ sym (table_at (len w.layout) (λ n. ghost_at w b f (ghost_letters w.mesh) parts (index_at w.layout n)) n few))
  where
    by : (n : ℕ) → n < len w.layout → (t : Bool) → is_own w.layout n ≡ t → cond t 0 (slice_index cells n) ≡ ghost_at w b f (ghost_letters w.mesh) parts (index_at w.layout n)
    by n few true own = sym (no_letter w b f parts n (ghost_letters w.mesh) is own (λ x h. h))
    by n few false ghost =
        letters_give w b f parts cells n (ghost_letters w.mesh) (λ x due to. all.given x (record { due = due; is_to = to }))
        (λ off. outside_is w b f cells n 0 w.mesh.shape.dims (omega arith) all.outside
        (λ none. all.corners n few (record {
          ghost = ghost;
          given = λ x due. off x due.due due.is_to;
          outside = λ axis high used face. none axis high (omega arith) (omega arith) face;
        })))

-- one place, one index
one_index : (l : Layout) (u v : List ℕ) → IsWithin (widths l) u → IsWithin (widths l) v → place l u ≡ place l v → three u ≡ three v
one_index l u v a b e = sym (index_again (widths l) u a) ∙ ap (index_of (widths l)) e ∙ index_again (widths l) v b

-- a region that is off another one stays where that one is written
stays_by : (l : Layout) (r other : Region) (each : List ℕ → ℕ) (old new : List ℕ) → ((i : List ℕ) → IsWithin r.extents i → IsWithin (widths l) (added r.low i)) → ((i : List ℕ) → IsWithin other.extents i → IsWithin (widths l) (added other.low i)) →
    ((u : List ℕ) → covers r u ≡ true → covers other u ≡ true → ⊥) → StaysOffRegion l other old new → HasRegion l r each old → HasRegion l r each new
stays_by l r other each old new room room_other off stays has i inside =
    stays (place_in l r i) (λ j within e.
    off (added r.low i) (added_covered r i inside)
    (subst (λ (v : List ℕ). covers other v ≡ true) (sym (one_index l (added r.low i) (added other.low j) (room i inside) (room_other j within) e)) (added_covered other j within)))
    ∙ has i inside

letter_room : (w : CycleMesh) (x : Exchange) → IsCycleMesh w → IsLink w x → (i : List ℕ) → IsWithin (region_given w x).extents i → IsWithin (widths w.layout) (added (region_given w x).low i)
letter_room w x is link i inside =
    let u : List ℕ = added (region_given w x).low i in
    ghost_room w.layout x.axis x.high u (used_here w x.axis is link.used) (received_ghost (how_sent w x) w.layout x.axis x.high (part_covered w x) u (axis_three w x.axis is link.used) (added_covered (region_given w x) i inside))

face_room : (w : CycleMesh) (axis : ℕ) (high : Bool) → IsCycleMesh w → axis < w.mesh.shape.dims → (i : List ℕ) → IsWithin (ghosts w.layout axis high).extents i → IsWithin (widths w.layout) (added (ghosts w.layout axis high).low i)
face_room w axis high is used i inside =
    let u : List ℕ = added (ghosts w.layout axis high).low i in
    ghost_room w.layout axis high u (used_here w axis is used) (ghost_of w.layout axis high u (axis_three w axis is used) (added_inside (ghosts w.layout axis high) i inside))

face_ghost : (w : CycleMesh) (axis : ℕ) (high : Bool) (u : List ℕ) → IsCycleMesh w → axis < w.mesh.shape.dims → covers (ghosts w.layout axis high) u ≡ true → IsGhostOf w.layout axis high u
face_ghost w axis high u is used c = ghost_of w.layout axis high u (axis_three w axis is used) (inside_of (ghosts w.layout axis high) u c)

-- a place that no cell of a region has stays
off_region : (l : Layout) (r : Region) (old new : List ℕ) (n : ℕ) → ((i : List ℕ) → IsWithin r.extents i → IsWithin (widths l) (added r.low i)) → covers r (index_at l n) ≡ false → StaysOffRegion l r old new → slice_index new n ≡ slice_index old n
off_region l r old new n room off stays =
    stays n (λ j within e.
    let at : index_at l n ≡ three (added r.low j) = ap (index_of (widths l)) e ∙ index_again (widths l) (added r.low j) (room j within) in
    false≢true (sym off ∙ ap (λ (v : List ℕ). covers r v) at ∙ added_covered r j within))

-- own totals stay where ghosts are written
own_stay : (l : Layout) (r : Region) (old new : List ℕ) → ((i : List ℕ) → IsWithin r.extents i → IsWithin (widths l) (added r.low i)) → ((u : List ℕ) → covers (interior l) u ≡ true → covers r u ≡ true → ⊥) → StaysOffRegion l r old new → own_totals l new ≡ own_totals l old
own_stay l r old new room off stays =
    table_same (interior_len l) (λ k. slice_index new (cell_place l (interior l) k)) (λ k. slice_index old (cell_place l (interior l) k))
    (λ k few.
    let i : List ℕ = index_of l.cells k in
    let w = index_below l.cells k few in
    stays (cell_place l (interior l) k) (λ j within e.
    off (added (interior l).low i) (is_covered (interior l) (added (interior l).low i) (own_inside l i w))
    (subst (λ (v : List ℕ). covers r v ≡ true) (sym (one_index l (added (interior l).low i) (added r.low j) (own_room l i w) (room j within) e)) (added_covered r j within))))

pub ghosts_stay : GhostsStay
ghosts_stay = record {
  letters = λ w b x y part old new is a c differ stays has.
      let p = link_of w b x is a in
      let q = link_of w b y is c in
      stays_by w.layout (region_given w x) (region_given w y) (ghost_cell (how_sent w x) w.layout x.axis part) old new (letter_room w x is p) (letter_room w y is q)
      (λ u one two. differ (apart w x y u is p q (a.is_to ∙ sym c.is_to) one two)) stays has;
  letter_beside_face = λ w b axis high x part old new is a used face stays has.
      let p = link_of w b x is a in
      stays_by w.layout (region_given w x) (ghosts w.layout axis high) (ghost_cell (how_sent w x) w.layout x.axis part) old new (letter_room w x is p) (face_room w axis high is used)
      (λ u one two. none_covers w b axis high u x is face used (face_ghost w axis high u is used two) p a.is_to one) stays has;
  face_beside_letter = λ w b f axis high y old new is c used face stays has.
      let q = link_of w b y is c in
      stays_by w.layout (ghosts w.layout axis high) (region_given w y) (λ _. total_outside w b f axis high) old new (face_room w axis high is used) (letter_room w y is q)
      (λ u one two. none_covers w b axis high u y is face used (face_ghost w axis high u is used one) q c.is_to two) stays has;
  face_beside_face = λ w b f axis other high end old new is used also differ stays has.
      stays_by w.layout (ghosts w.layout axis high) (ghosts w.layout other end) (λ _. total_outside w b f axis high) old new (face_room w axis high is used) (face_room w other end is also)
      (λ u one two.
      let p = face_ghost w axis high u is used one in
      let q = face_ghost w other end u is also two in
      let same_axis : axis ≡ other = one_axis w.layout axis other high end u (used_here w axis is used) (axis_three w axis is used) p q in
      differ same_axis (one_side w.layout axis high end u p (subst (λ a. IsGhostOf w.layout a end u) (sym same_axis) q))) stays has;
  corner_beside_letter = λ w b place y old new is c corner stays. off_region w.layout (region_given w y) old new place (letter_room w y is (link_of w b y is c)) (corner.given y c) stays;
  corner_beside_face = λ w b place axis high old new is used face corner stays. off_region w.layout (ghosts w.layout axis high) old new place (face_room w axis high is used) (corner.outside axis high used face) stays;
  own_beside_letter = λ w b y old new is c stays.
      let q = link_of w b y is c in
      own_stay w.layout (region_given w y) old new (letter_room w y is q)
      (λ u own given.
      let h = axis_three w y.axis is q.used in
      false≢true (sym (ghost_not_own w.layout y.axis y.high u (used_here w y.axis is q.used) h (received_ghost (how_sent w y) w.layout y.axis y.high (part_covered w y) u h given)) ∙ own)) stays;
  own_beside_face = λ w axis high old new is used stays.
      own_stay w.layout (ghosts w.layout axis high) old new (face_room w axis high is used)
      (λ u own given. false≢true (sym (ghost_not_own w.layout axis high u (used_here w axis is used) (axis_three w axis is used) (face_ghost w axis high u is used given)) ∙ own)) stays;
}
