-- The ghosts of a block beyond faces of the domain.
use Rattle.std.proofs.Common.{◌≡◌, ◌==◌, inl, inr, ℕ, zero, suc, ◌+◌, ◌<◌, ◌≤◌, Bool, true, false, ◌&&◌, cond, nat_lt, List, [], ◌∷◌, refl, arith, ap, subst, sym, ◌∙◌}
use Rattle.std.specs.List.{list_any}
use Rattle.std.proofs.lemmas.Bool.{and_from, and_parts, cases_eq, eqb-true, false≢true}
use Rattle.morton_order.specs.declared.space.Loc.{Loc}
use Rattle.morton_order.proofs.Any.{or_left, or_right}
use Rattle.block_tree.specs.Behind.{Behind, Names, behind, coarse, fine, outside, same}
use Rattle.mesh_rules.specs.Due.{Exchange, ghost_letters}
use Rattle.mesh_rules.specs.Mesh.{is_inner}
use Rattle.block_layout.specs.declared.layout.Layout.{Layout}
use Rattle.block_layout.specs.Indices.{added}
use Rattle.block_layout.specs.Regions.{Region, covers, ghosts}
use Rattle.block_regions.specs.Written.{HasRegion}
use Rattle.cycle_kernels.specs.Blocks.{CycleMesh, block_count, is_domain_face, is_outside, leaf_at, total_outside}
use Rattle.cycle_kernels.specs.Laws.{IsCycleMesh}
use Rattle.cycle_kernels.specs.Lists.{with_ghosts}
use Rattle.cycle_kernels.specs.Letters.{ghost_at, ghosts_by, how_sent, outside_at, part_covered, region_given, same_letter, sides, total_given}
use Rattle.cycle_kernels.proofs.Letters.{letter_same, sides_from}
use Rattle.cycle_kernel_laws.proofs.Due.{IsLink, ghost_link}
use Rattle.cycle_kernel_laws.proofs.Apart.{IsGhostOf, axis_three, ghost_of, inside_of, one_axis, one_side, received_ghost, used_here}
use Rattle.cycle_kernel_laws.proofs.Given.{added_covered, ghost_here, ghost_room, ghost_total}

-- nothing is named outside
none_named : (v : Behind) (o : Loc) → is_outside v ≡ true → Names v o → ⊥
none_named outside o e n = n
none_named (same l) o e n = false≢true e
none_named (coarse l) o e n = false≢true e
none_named (fine ls) o e n = false≢true e

-- no letter gives a ghost there
pub none_covers : (w : CycleMesh) (b axis : ℕ) (high : Bool) (u : List ℕ) (y : Exchange) → IsCycleMesh w → is_domain_face w b axis high ≡ true → axis < w.mesh.shape.dims → IsGhostOf w.layout axis high u → IsLink w y → y.to ≡ b → covers (region_given w y) u ≡ true → ⊥
none_covers w b axis high u y is face used ghost link to c =
    let other = received_ghost (how_sent w y) w.layout y.axis y.high (part_covered w y) u (axis_three w y.axis is link.used) c in
    let same_axis : y.axis ≡ axis = one_axis w.layout y.axis axis y.high high u (used_here w y.axis is link.used) (axis_three w y.axis is link.used) other ghost in
    let same_end : y.high ≡ high = one_side w.layout axis y.high high u (subst (λ a. IsGhostOf w.layout a y.high u) same_axis other) ghost in
    let v : ℕ → ℕ → Bool → Behind = λ n a h. behind w.mesh.shape (is_inner w.mesh) (leaf_at w n) a h in
    let comes : Names (v b axis high) (leaf_at w y.from) =
    subst (λ n. Names (v n axis high) (leaf_at w y.from)) to
    (subst (λ (h : Bool). Names (v y.to axis h) (leaf_at w y.from)) same_end (subst (λ a. Names (v y.to a y.high) (leaf_at w y.from)) same_axis link.comes)) in
    none_named (v b axis high) (leaf_at w y.from) (and_parts (nat_lt b (block_count w)) (is_outside (v b axis high)) face).1 comes

past_letters : (w : CycleMesh) (b f axis : ℕ) (high : Bool) (parts : Exchange → List ℕ) (u : List ℕ) (xs : List Exchange) → IsCycleMesh w → is_domain_face w b axis high ≡ true → axis < w.mesh.shape.dims → IsGhostOf w.layout axis high u →
    ((y : Exchange) → list_any (same_letter y) xs ≡ true → IsLink w y) → ghost_at w b f xs parts u ≡ outside_at w b f (sides w.mesh.shape.dims) u
past_letters w b f axis high parts u [] is face used ghost links = refl
past_letters w b f axis high parts u (y ∷ xs) is face used ghost links =
    by (y.to == b && covers (region_given w y) u) refl (past_letters w b f axis high parts u xs is face used ghost (λ z h. links z (or_right (same_letter z y) (list_any (same_letter z) xs) h)))
  where
    by : (t : Bool) → (y.to == b && covers (region_given w y) u) ≡ t → ghost_at w b f xs parts u ≡ outside_at w b f (sides w.mesh.shape.dims) u →
        cond t (total_given w y (parts y) u) (ghost_at w b f xs parts u) ≡ outside_at w b f (sides w.mesh.shape.dims) u
    by true e rest =
        let p = and_parts (y.to == b) (covers (region_given w y) u) e in
        absurd (none_covers w b axis high u y is face used ghost (links y (or_left (same_letter y y) (list_any (same_letter y) xs) (letter_same y))) (eqb-true y.to b p.0) p.1)
    by false e rest = rest

-- the first side that it lies beyond is the one
first_side : (w : CycleMesh) (b f axis : ℕ) (high : Bool) (u : List ℕ) (a : ℕ) (end : Bool) (v : ℕ) → is_domain_face w b axis high ≡ true → a < w.layout.dims → a < 3 → IsGhostOf w.layout axis high u → covers (ghosts w.layout axis high) u ≡ true →
    (((a ≡ axis) → (end ≡ high) → ⊥) → v ≡ total_outside w b f axis high) → cond (is_domain_face w b a end && covers (ghosts w.layout a end) u) (total_outside w b f a end) v ≡ total_outside w b f axis high
first_side w b f axis high u a end v face used h ghost c rest = by (is_domain_face w b a end && covers (ghosts w.layout a end) u) refl
  where
    by : (t : Bool) → (is_domain_face w b a end && covers (ghosts w.layout a end) u) ≡ t → cond t (total_outside w b f a end) v ≡ total_outside w b f axis high
    by true e =
        let p = and_parts (is_domain_face w b a end) (covers (ghosts w.layout a end) u) e in
        let other = ghost_of w.layout a end u h (inside_of (ghosts w.layout a end) u p.1) in
        let same_axis : a ≡ axis = one_axis w.layout a axis end high u used h other ghost in
        let same_end : end ≡ high = one_side w.layout axis end high u (subst (λ k. IsGhostOf w.layout k end u) same_axis other) ghost in
        ap (λ k. total_outside w b f k end) same_axis ∙ ap (λ (s : Bool). total_outside w b f axis s) same_end
    by false e = rest (λ p q. false≢true (sym e ∙ ap (λ k. is_domain_face w b k end && covers (ghosts w.layout k end) u) p ∙ ap (λ (s : Bool). is_domain_face w b axis s && covers (ghosts w.layout axis s) u) q
        ∙ and_from (is_domain_face w b axis high) (covers (ghosts w.layout axis high) u) face c))

outside_first : (w : CycleMesh) (b f axis : ℕ) (high : Bool) (u : List ℕ) (a n : ℕ) → IsCycleMesh w → is_domain_face w b axis high ≡ true → IsGhostOf w.layout axis high u → covers (ghosts w.layout axis high) u ≡ true → a ≤ axis → axis < a + n → a + n ≤ w.mesh.shape.dims →
    outside_at w b f (sides_from a n) u ≡ total_outside w b f axis high
outside_first w b f axis high u a zero is face ghost c low few room = absurd (omega arith)
outside_first w b f axis high u a (suc n) is face ghost c low few room =
    let used : a < w.mesh.shape.dims = omega arith in
    first_side w b f axis high u a false (outside_at w b f (record { axis = a; high = true } ∷ sides_from (a + 1) n) u) face (used_here w a is used) (axis_three w a is used) ghost c (λ off_low.
    first_side w b f axis high u a true (outside_at w b f (sides_from (a + 1) n) u) face (used_here w a is used) (axis_three w a is used) ghost c (λ off_high.
    elim (cases_eq a axis) [
      | inl e ↦ absurd (neither high refl off_low off_high e)
      | inr d ↦ outside_first w b f axis high u (a + 1) n is face ghost c (omega arith) (omega arith) (omega arith)
    ]))
  where
    neither : (end : Bool) → high ≡ end → ((a ≡ axis) → (false ≡ high) → ⊥) → ((a ≡ axis) → (true ≡ high) → ⊥) → a ≡ axis → ⊥
    neither true e off_low off_high is_axis = off_high is_axis (sym e)
    neither false e off_low off_high is_axis = off_low is_axis (sym e)

-- beyond a face of the domain a block has what stands outside
pub outside_gives : (w : CycleMesh) (b f axis : ℕ) (high : Bool) (own : List ℕ) (parts : Exchange → List ℕ) → IsCycleMesh w → is_domain_face w b axis high ≡ true → axis < w.mesh.shape.dims →
    HasRegion w.layout (ghosts w.layout axis high) (λ _. total_outside w b f axis high) (with_ghosts w.layout own (ghosts_by w b f parts))
outside_gives w b f axis high own parts is face used i inside =
    let l : Layout = w.layout in
    let r : Region = ghosts l axis high in
    let u : List ℕ = added r.low i in
    let h = axis_three w axis is used in
    let in_layout = used_here w axis is used in
    let c = added_covered r i inside in
    let ghost = ghost_of l axis high u h (inside_of r u c) in
    ghost_total l own (ghosts_by w b f parts) u axis high in_layout h ghost
    ∙ ghost_here w b f parts u (ghost_room l axis high u in_layout ghost)
    ∙ past_letters w b f axis high parts u (ghost_letters w.mesh) is face used ghost (λ y y_due. ghost_link w y is.mesh y_due)
    ∙ outside_first w b f axis high u 0 w.mesh.shape.dims is face ghost c (omega arith) (omega arith) (omega arith)
