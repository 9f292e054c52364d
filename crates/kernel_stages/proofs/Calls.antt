-- What calls for a field on a block.
use Rattle.std.proofs.Common.{◌≡◌, ◌⊎◌, ◌==◌, inl, inr, ℕ, ◌+◌, ◌<◌, Bool, true, false, cond, ◌&&◌, ◌||◌, nat_lt, List, length, refl, arith, ap, subst, sym, ◌∙◌}
use Rattle.std.specs.List.{list_any, range_with_len}
use Rattle.std.proofs.lemmas.Bool.{and_parts, eqb-true, false≢true, lt-ltb}
use Rattle.std.proofs.lemmas.Bool.Decides.{nat_tests}
use Rattle.morton_order.specs.declared.space.Loc.{Loc}
use Rattle.block_tree.specs.Behind.{Behind, Names, coarse, fine, outside, same}
use Rattle.mesh_rules.specs.Fields as fields
use Rattle.mesh_rules.specs.Fields.{field_count, has_ghosts, is_sparse}
use Rattle.mesh_rules.specs.Due.{Exchange, ghost_letters}
use Rattle.mesh_rules.specs.Mask.{comes_across, exchange_calls, some_above}
use Rattle.mesh_rules.specs.Regions.{leaves_in, region}
use Rattle.sparse_rounds.specs.Masked.{is_called}
use Rattle.cycle_kernels.specs.Blocks.{CycleMesh, enters_above, is_domain_face, leaf_at, may_lack, total_outside}
use Rattle.cycle_kernels.specs.Blocks as blocks
use Rattle.cycle_kernels.specs.Kernels.{kernels_of}
use Rattle.kernel_stages.specs.Letters.{IsDue}
use Rattle.kernel_stages.proofs.Members.{In, any_in, in_any, in_range, range_in, same_tests}
use Rattle.kernel_stages.proofs.DueLetters.{behind_leaf, due_ghost, ghost_due, in_named, is_due, named_in}
use Rattle.cycle_kernel_laws.proofs.Sees.{letter_from}
use Rattle.kernel_stages.proofs.Senders.{IsSound, region_sent_to}

-- what comes across a side: it stands outside, or a leaf behind the side sends it
pub record ComesFrom (w : CycleMesh) (b f axis : ℕ) (high : Bool) : Type 0 where
  pub at : Loc
  pub names : Names (behind_leaf w.mesh b axis high) at
  pub above : some_above w.settings.alloc_threshold (region w.mesh f at (leaf_at w b) axis high) ≡ true

pub record ComesOutside (w : CycleMesh) (b f axis : ℕ) (high : Bool) : Type 0 where
  pub is : behind_leaf w.mesh b axis high ≡ outside
  pub above : nat_lt w.settings.alloc_threshold (fields.outside w.settings f axis high (leaf_at w b).level) ≡ true

abbrev comes : CycleMesh → ℕ → ℕ → ℕ → Bool → Behind → Bool
comes w b f axis high v = comes_across w.settings w.mesh f (leaf_at w b) axis high v

-- the senders behind a side, where it is none of the domain's faces
sent : (w : CycleMesh) (b f axis : ℕ) (high : Bool) → list_any (λ from. some_above w.settings.alloc_threshold (region w.mesh f from (leaf_at w b) axis high)) (leaves_in (behind_leaf w.mesh b axis high)) ≡ true → ComesFrom w b f axis high
sent w b f axis high h =
    let (o, among, above) = any_in (λ from. some_above w.settings.alloc_threshold (region w.mesh f from (leaf_at w b) axis high)) (leaves_in (behind_leaf w.mesh b axis high)) h in
    record { at = o; names = named_in (behind_leaf w.mesh b axis high) o among; above = above }

comes_is : (w : CycleMesh) (b f axis : ℕ) (high : Bool) (v : Behind) → behind_leaf w.mesh b axis high ≡ v → comes w b f axis high v ≡ true → ComesOutside w b f axis high ⊎ ComesFrom w b f axis high
comes_is w b f axis high outside e h = inl (record { is = e; above = h })
comes_is w b f axis high (same o) e h = inr (sent w b f axis high h)
comes_is w b f axis high (coarse o) e h = inr (sent w b f axis high h)
comes_is w b f axis high (fine os) e h = inr (sent w b f axis high h)

is_sent : (w : CycleMesh) (b f axis : ℕ) (high : Bool) → ComesFrom w b f axis high → list_any (λ from. some_above w.settings.alloc_threshold (region w.mesh f from (leaf_at w b) axis high)) (leaves_in (behind_leaf w.mesh b axis high)) ≡ true
is_sent w b f axis high c = in_any (λ from. some_above w.settings.alloc_threshold (region w.mesh f from (leaf_at w b) axis high)) (leaves_in (behind_leaf w.mesh b axis high)) c.at (in_named (behind_leaf w.mesh b axis high) c.at c.names) c.above

sent_comes : (w : CycleMesh) (b f axis : ℕ) (high : Bool) (v : Behind) → behind_leaf w.mesh b axis high ≡ v → ComesFrom w b f axis high → comes w b f axis high v ≡ true
sent_comes w b f axis high outside e c = absurd (subst (λ (v : Behind). Names v c.at) e c.names)
sent_comes w b f axis high (same o) e c = is_sent w b f axis high c
sent_comes w b f axis high (coarse o) e c = is_sent w b f axis high c
sent_comes w b f axis high (fine os) e c = is_sent w b f axis high c

-- along an axis
either : (a b : Bool) → (a || b) ≡ true → (a ≡ true) ⊎ (b ≡ true)
either true b h = inl refl
either false b h = inr h

first_one : (a b : Bool) → a ≡ true → (a || b) ≡ true
first_one true b h = refl
first_one false b h = absurd (false≢true h)

second_one : (a b : Bool) → b ≡ true → (a || b) ≡ true
second_one true b h = refl
second_one false b h = h

abbrev by_axis : CycleMesh → ℕ → ℕ → ℕ → Bool
by_axis w b f axis = comes w b f axis false (behind_leaf w.mesh b axis false) || comes w b f axis true (behind_leaf w.mesh b axis true)

side_comes : (w : CycleMesh) (b f axis : ℕ) (high : Bool) → comes w b f axis high (behind_leaf w.mesh b axis high) ≡ true → by_axis w b f axis ≡ true
side_comes w b f axis true h = second_one (comes w b f axis false (behind_leaf w.mesh b axis false)) (comes w b f axis true (behind_leaf w.mesh b axis true)) h
side_comes w b f axis false h = first_one (comes w b f axis false (behind_leaf w.mesh b axis false)) (comes w b f axis true (behind_leaf w.mesh b axis true)) h

plain : (n : ℕ) → 0 + n ≡ n
plain n = omega arith

any_axis : (dims axis : ℕ) (test : ℕ → Bool) → axis < dims → test axis ≡ true → list_any test (range_with_len 0 dims) ≡ true
any_axis dims axis test used h = in_any test (range_with_len 0 dims) axis (subst (In (range_with_len 0 dims)) (plain axis) (range_in 0 dims axis used)) h

axis_of_any : (dims : ℕ) (test : ℕ → Bool) → list_any test (range_with_len 0 dims) ≡ true → (axis : ℕ) × (axis < dims) × (test axis ≡ true)
axis_of_any dims test h =
    let (axis, among, is) = any_in test (range_with_len 0 dims) h in
    let (low, top) = in_range 0 dims axis among in
    (axis, omega arith, is)

-- what stands outside
face_from : (t : Bool) (a n : ℕ) → nat_lt a (cond t n 0) ≡ true → (t ≡ true) × (nat_lt a n ≡ true)
face_from true a n h = (refl, h)
face_from false a n h = absurd (less a (test a h))
  where
    test : (a : ℕ) → nat_lt a 0 ≡ true → a < 0
    test a h = grind (arith, nat_tests)

    less : (a : ℕ) → a < 0 → ⊥
    less a h = omega arith

outside_of : (v : Behind) → blocks.is_outside v ≡ true → v ≡ outside
outside_of outside h = refl
outside_of (same o) h = absurd (false≢true h)
outside_of (coarse o) h = absurd (false≢true h)
outside_of (fine os) h = absurd (false≢true h)

outside_comes : (w : CycleMesh) (b f axis : ℕ) (high : Bool) → nat_lt w.settings.alloc_threshold (total_outside w b f axis high) ≡ true → comes w b f axis high (behind_leaf w.mesh b axis high) ≡ true
outside_comes w b f axis high h =
    let (face, above) = face_from (is_domain_face w b axis high) w.settings.alloc_threshold (fields.outside w.settings f axis high (leaf_at w b).level) h in
    let (few, is) = and_parts (nat_lt b (length w.mesh.leaves)) (blocks.is_outside (behind_leaf w.mesh b axis high)) face in
    ap (comes w b f axis high) (outside_of (behind_leaf w.mesh b axis high) is) ∙ above

enters : (w : CycleMesh) (b f axis : ℕ) (high : Bool) → b < length w.mesh.leaves → ComesOutside w b f axis high → nat_lt w.settings.alloc_threshold (total_outside w b f axis high) ≡ true
enters w b f axis high few c =
    let face : is_domain_face w b axis high ≡ true = ap (λ t. t && blocks.is_outside (behind_leaf w.mesh b axis high)) (lt-ltb b (length w.mesh.leaves) few) ∙ ap blocks.is_outside c.is in
    ap (λ t. nat_lt w.settings.alloc_threshold (cond t (fields.outside w.settings f axis high (leaf_at w b).level) 0)) face ∙ c.above

-- parts that are the regions of the mesh
abbrev pub AreRegions : CycleMesh → ℕ → (Exchange → List ℕ) → Type 0
AreRegions w f parts = (x : Exchange) → IsDue w.mesh x → parts x ≡ region_sent_to w f x

abbrev by_letter : CycleMesh → ℕ → (Exchange → List ℕ) → Exchange → Bool
by_letter w b parts x = x.to == b && some_above w.settings.alloc_threshold (parts x)

abbrev by_side : CycleMesh → ℕ → ℕ → ℕ → Bool
by_side w b f axis = nat_lt w.settings.alloc_threshold (total_outside w b f axis false) || nat_lt w.settings.alloc_threshold (total_outside w b f axis true)

called_comes : (w : CycleMesh) (b f : ℕ) (parts : Exchange → List ℕ) → IsSound w → AreRegions w f parts →
    (enters_above w.settings.alloc_threshold w b f || list_any (by_letter w b parts) (ghost_letters w.mesh)) ≡ true → list_any (by_axis w b f) (range_with_len 0 w.mesh.shape.dims) ≡ true
called_comes w b f parts sound are h = by (either (enters_above w.settings.alloc_threshold w b f) (list_any (by_letter w b parts) (ghost_letters w.mesh)) h)
  where
    low_or_high : (axis : ℕ) → (nat_lt w.settings.alloc_threshold (total_outside w b f axis false) ≡ true) ⊎ (nat_lt w.settings.alloc_threshold (total_outside w b f axis true) ≡ true) → by_axis w b f axis ≡ true
    low_or_high axis (inl a) = side_comes w b f axis false (outside_comes w b f axis false a)
    low_or_high axis (inr c) = side_comes w b f axis true (outside_comes w b f axis true c)

    by : (enters_above w.settings.alloc_threshold w b f ≡ true) ⊎ (list_any (by_letter w b parts) (ghost_letters w.mesh) ≡ true) → list_any (by_axis w b f) (range_with_len 0 w.mesh.shape.dims) ≡ true
    by (inl e) =
        let (axis, used, is) = axis_of_any w.mesh.shape.dims (by_side w b f) e in
        any_axis w.mesh.shape.dims axis (by_axis w b f) used (low_or_high axis (either (nat_lt w.settings.alloc_threshold (total_outside w b f axis false)) (nat_lt w.settings.alloc_threshold (total_outside w b f axis true)) is))
    by (inr e) =
        let (x, among, is) = any_in (by_letter w b parts) (ghost_letters w.mesh) e in
        let d = ghost_due w.mesh sound.mesh x among in
        let (p, q) = and_parts (x.to == b) (some_above w.settings.alloc_threshold (parts x)) is in
        let to = eqb-true x.to b p in
        let c : ComesFrom w x.to f x.axis x.high = record { at = leaf_at w x.from; names = d.names; above = ap (some_above w.settings.alloc_threshold) (sym (are x d)) ∙ q } in
        any_axis w.mesh.shape.dims x.axis (by_axis w b f) d.used (subst (λ n. by_axis w n f x.axis ≡ true) to (side_comes w x.to f x.axis x.high (sent_comes w x.to f x.axis x.high (behind_leaf w.mesh x.to x.axis x.high) refl c)))

eq_self : (a : ℕ) → (a == a) ≡ true
eq_self a = grind (arith, nat_tests)

comes_called : (w : CycleMesh) (b f : ℕ) (parts : Exchange → List ℕ) → IsSound w → b < length w.mesh.leaves → AreRegions w f parts → list_any (by_axis w b f) (range_with_len 0 w.mesh.shape.dims) ≡ true →
    (enters_above w.settings.alloc_threshold w b f || list_any (by_letter w b parts) (ghost_letters w.mesh)) ≡ true
comes_called w b f parts sound few are h =
    let (axis, used, is) = axis_of_any w.mesh.shape.dims (by_axis w b f) h in
    side axis used (either (comes w b f axis false (behind_leaf w.mesh b axis false)) (comes w b f axis true (behind_leaf w.mesh b axis true)) is)
  where
    from_outside : (axis : ℕ) (high : Bool) → axis < w.mesh.shape.dims → ComesOutside w b f axis high → enters_above w.settings.alloc_threshold w b f ≡ true
    from_outside axis true used c = any_axis w.mesh.shape.dims axis (by_side w b f) used (second_one (nat_lt w.settings.alloc_threshold (total_outside w b f axis false)) (nat_lt w.settings.alloc_threshold (total_outside w b f axis true)) (enters w b f axis true few c))
    from_outside axis false used c = any_axis w.mesh.shape.dims axis (by_side w b f) used (first_one (nat_lt w.settings.alloc_threshold (total_outside w b f axis false)) (nat_lt w.settings.alloc_threshold (total_outside w b f axis true)) (enters w b f axis false few c))

    from_leaf : (axis : ℕ) (high : Bool) → axis < w.mesh.shape.dims → ComesFrom w b f axis high → list_any (by_letter w b parts) (ghost_letters w.mesh) ≡ true
    from_leaf axis high used c =
        let x : Exchange = letter_from w b axis high c.at in
        let (is, d) = is_due w b axis high c.at sound.mesh few used c.names in
        in_any (by_letter w b parts) (ghost_letters w.mesh) x (due_ghost w.mesh sound.mesh x d)
        (ap (λ t. t && some_above w.settings.alloc_threshold (parts x)) (eq_self b) ∙ ap (some_above w.settings.alloc_threshold) (are x d) ∙ ap (λ (o : Loc). some_above w.settings.alloc_threshold (region w.mesh f o (leaf_at w b) axis high)) is ∙ c.above)

    one : (axis : ℕ) (high : Bool) → axis < w.mesh.shape.dims → ComesOutside w b f axis high ⊎ ComesFrom w b f axis high → (enters_above w.settings.alloc_threshold w b f || list_any (by_letter w b parts) (ghost_letters w.mesh)) ≡ true
    one axis high used (inl c) = first_one (enters_above w.settings.alloc_threshold w b f) (list_any (by_letter w b parts) (ghost_letters w.mesh)) (from_outside axis high used c)
    one axis high used (inr c) = second_one (enters_above w.settings.alloc_threshold w b f) (list_any (by_letter w b parts) (ghost_letters w.mesh)) (from_leaf axis high used c)

    side : (axis : ℕ) → axis < w.mesh.shape.dims → (comes w b f axis false (behind_leaf w.mesh b axis false) ≡ true) ⊎ (comes w b f axis true (behind_leaf w.mesh b axis true) ≡ true) →
        (enters_above w.settings.alloc_threshold w b f || list_any (by_letter w b parts) (ghost_letters w.mesh)) ≡ true
    side axis used (inl h) = one axis false used (comes_is w b f axis false (behind_leaf w.mesh b axis false) refl h)
    side axis used (inr h) = one axis true used (comes_is w b f axis true (behind_leaf w.mesh b axis true) refl h)

-- the kernels call exactly where the exchange does
pub called_is : (w : CycleMesh) (b f : ℕ) (parts : Exchange → List ℕ) → IsSound w → b < length w.mesh.leaves → f < field_count w.settings → AreRegions w f parts →
    is_called (kernels_of w) parts b f ≡ (is_sparse w.settings f && exchange_calls w.settings w.mesh f (leaf_at w b))
called_is w b f parts sound few some are =
    ap (λ t. cond t (is_sparse w.settings f) true && (has_ghosts w.settings f && (enters_above w.settings.alloc_threshold w b f || list_any (by_letter w b parts) (ghost_letters w.mesh)))) (lt-ltb f (field_count w.settings) some)
    ∙ ap (λ t. is_sparse w.settings f && (has_ghosts w.settings f && t))
    (same_tests (enters_above w.settings.alloc_threshold w b f || list_any (by_letter w b parts) (ghost_letters w.mesh)) (list_any (by_axis w b f) (range_with_len 0 w.mesh.shape.dims)) (called_comes w b f parts sound are) (comes_called w b f parts sound few are))
