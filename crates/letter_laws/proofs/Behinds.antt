-- What stands behind a side, by the block across it.
use Rattle.std.proofs.Common.{◌≡◌, ◌⊎◌, inl, inr, ℕ, zero, suc, ◌+◌, ◌<◌, ◌≤◌, Bool, true, false, cond, not, Option, Some, None, List, ◌∷◌, Contains, map, refl, arith, ap, subst, sym, ◌∙◌}
use Rattle.std.specs.List.{filter, range_with_len}
use Rattle.std.proofs.lemmas.Bool.{cases_eq, false≢true}
use Rattle.morton_order.specs.declared.space.Loc.{Loc}
use Rattle.morton_order.specs.Space.{child, parent, parts}
use Rattle.morton_order.specs.Neighbours.{across}
use Rattle.block_tree.specs.Tree.{IsLeaf, is_node}
use Rattle.block_tree.specs.Behind.{Behind, Names, behind_at, children_at, coarse, fine, is_high_half, outside, same}
use Rattle.block_tree.proofs.Behinds.{behind_is_exact, half_passes, passes_half}
use Rattle.mesh_rules.specs.Mesh.{is_inner}
use Rattle.block_geometry.specs.Blocks.{FieldBlock}
use Rattle.ghost_laws.proofs.Layers.{used_in}
use Rattle.letter_laws.specs.Sides.{IsSide, behind_side}

-- kinds of what stands behind a side
abbrev as_same : Behind → Option Loc
as_same outside = None
as_same (same o) = Some o
as_same (coarse o) = None
as_same (fine os) = None

abbrev as_coarse : Behind → Option Loc
as_coarse outside = None
as_coarse (same o) = None
as_coarse (coarse o) = Some o
as_coarse (fine os) = None

abbrev as_fine : Behind → Option (List Loc)
as_fine outside = None
as_fine (same o) = None
as_fine (coarse o) = None
as_fine (fine os) = Some os

abbrev is_outside : Behind → Bool
is_outside outside = true
is_outside (same o) = false
is_outside (coarse o) = false
is_outside (fine os) = false

some_not : {X : Type 0} (x : X) → ◌≡◌ {A = Option X} None (Some x) → ⊥
some_not x e = cc

some_is : {X : Type 0} (x y : X) → Some x ≡ Some y → x ≡ y
some_is x y e = cc

-- the block across a side, and the two tests of it
pub record Across (b : FieldBlock) (axis : ℕ) (high : Bool) (inner node : Bool) : Type 0 where
  pub at : Loc
  pub meets : across b.mesh.shape b.leaf axis high ≡ Some at
  pub inner_is : is_inner b.mesh at ≡ inner
  pub node_is : is_node b.mesh.shape (is_inner b.mesh) at ≡ node

abbrev pub finer_leaves : FieldBlock → ℕ → Bool → Loc → List Loc
finer_leaves b axis high o = map (child b.mesh.shape.dims o) (children_at b.mesh.shape.dims axis (not high))

pub outside_met : (b : FieldBlock) (axis : ℕ) (high : Bool) → behind_side b axis high ≡ outside → across b.mesh.shape b.leaf axis high ≡ None
outside_met b axis high is = by (across b.mesh.shape b.leaf axis high) is
  where
    not_outside : (p q : Bool) (os : List Loc) (x y : Loc) → is_outside (cond p (fine os) (cond q (same x) (coarse y))) ≡ false
    not_outside true q os x y = refl
    not_outside false true os x y = refl
    not_outside false false os x y = refl

    by : (o : Option Loc) → behind_at b.mesh.shape (is_inner b.mesh) axis high o ≡ outside → o ≡ None
    by None e = refl
    by (Some o) e = absurd (false≢true (sym (not_outside (is_inner b.mesh o) (is_node b.mesh.shape (is_inner b.mesh) o) (finer_leaves b axis high o) o (parent b.mesh.shape.dims o)) ∙ ap is_outside e))

pub same_met : (b : FieldBlock) (axis : ℕ) (high : Bool) (o : Loc) → behind_side b axis high ≡ same o → (x : Across b axis high false true) × (x.at ≡ o)
same_met b axis high o is = by (across b.mesh.shape b.leaf axis high) refl is
  where
    tests : (p q : Bool) (os : List Loc) (x y : Loc) → as_same (cond p (fine os) (cond q (same x) (coarse y))) ≡ Some o → (p ≡ false) × (q ≡ true) × (x ≡ o)
    tests true q os x y e = absurd (some_not o e)
    tests false true os x y e = (refl, refl, some_is x o e)
    tests false false os x y e = absurd (some_not o e)

    by : (a : Option Loc) → across b.mesh.shape b.leaf axis high ≡ a → behind_at b.mesh.shape (is_inner b.mesh) axis high a ≡ same o → (x : Across b axis high false true) × (x.at ≡ o)
    by None m e = absurd (some_not o (ap as_same e))
    by (Some a) m e =
        let t = tests (is_inner b.mesh a) (is_node b.mesh.shape (is_inner b.mesh) a) (finer_leaves b axis high a) a (parent b.mesh.shape.dims a) (ap as_same e) in
        (record { at = a; meets = m; inner_is = t.0; node_is = t.1 }, t.2)

pub coarse_met : (b : FieldBlock) (axis : ℕ) (high : Bool) (o : Loc) → behind_side b axis high ≡ coarse o → (x : Across b axis high false false) × (parent b.mesh.shape.dims x.at ≡ o)
coarse_met b axis high o is = by (across b.mesh.shape b.leaf axis high) refl is
  where
    tests : (p q : Bool) (os : List Loc) (x y : Loc) → as_coarse (cond p (fine os) (cond q (same x) (coarse y))) ≡ Some o → (p ≡ false) × (q ≡ false) × (y ≡ o)
    tests true q os x y e = absurd (some_not o e)
    tests false true os x y e = absurd (some_not o e)
    tests false false os x y e = (refl, refl, some_is y o e)

    by : (a : Option Loc) → across b.mesh.shape b.leaf axis high ≡ a → behind_at b.mesh.shape (is_inner b.mesh) axis high a ≡ coarse o → (x : Across b axis high false false) × (parent b.mesh.shape.dims x.at ≡ o)
    by None m e = absurd (some_not o (ap as_coarse e))
    by (Some a) m e =
        let t = tests (is_inner b.mesh a) (is_node b.mesh.shape (is_inner b.mesh) a) (finer_leaves b axis high a) a (parent b.mesh.shape.dims a) (ap as_coarse e) in
        (record { at = a; meets = m; inner_is = t.0; node_is = t.1 }, t.2)

-- finer leaves are children of an inner node across
pub record Finer (b : FieldBlock) (axis : ℕ) (high : Bool) (os : List Loc) : Type 0 where
  pub at : Loc
  pub meets : across b.mesh.shape b.leaf axis high ≡ Some at
  pub inner_is : is_inner b.mesh at ≡ true
  pub leaves : finer_leaves b axis high at ≡ os

pub fine_met : (b : FieldBlock) (axis : ℕ) (high : Bool) (os : List Loc) → behind_side b axis high ≡ fine os → Finer b axis high os
fine_met b axis high os is = by (across b.mesh.shape b.leaf axis high) refl is
  where
    tests : (p q : Bool) (list : List Loc) (x y : Loc) → as_fine (cond p (fine list) (cond q (same x) (coarse y))) ≡ Some os → (p ≡ true) × (list ≡ os)
    tests true q list x y e = (refl, some_is list os e)
    tests false true list x y e = absurd (some_not os e)
    tests false false list x y e = absurd (some_not os e)

    by : (a : Option Loc) → across b.mesh.shape b.leaf axis high ≡ a → behind_at b.mesh.shape (is_inner b.mesh) axis high a ≡ fine os → Finer b axis high os
    by None m e = absurd (some_not os (ap as_fine e))
    by (Some a) m e =
        let t = tests (is_inner b.mesh a) (is_node b.mesh.shape (is_inner b.mesh) a) (finer_leaves b axis high a) a (parent b.mesh.shape.dims a) (ap as_fine e) in
        record { at = a; meets = m; inner_is = t.0; leaves = t.1 }

-- what stands behind a side is a leaf
pub named_leaf : (b : FieldBlock) (axis : ℕ) (high : Bool) (o : Loc) → IsSide b axis → Names (behind_side b axis high) o → IsLeaf b.mesh.shape (is_inner b.mesh) o
named_leaf b axis high o side names =
    let mesh = side.sound.mesh in
    ((behind_is_exact b.mesh.shape (is_inner b.mesh) mesh.shape mesh.tree mesh.balanced b.leaf o axis high side.sound.leaf (used_in b axis side.sound side.used)).0 names).0

-- numbers of a range that pass a test
first_or_later : (x m : Loc) (xs : List Loc) → Contains (x ∷ xs) m → (x ≡ m) ⊎ Contains xs m
first_or_later x m xs (zero, small, at) = inl at
first_or_later x m xs (suc k, small, at) = inr (k, omega arith, at)

pub record Chosen (p : ℕ → Bool) (f : ℕ → Loc) (n : ℕ) (m : Loc) : Type 0 where
  pub j : ℕ
  pub few : j < n
  pub pass : p j ≡ true
  pub is : f j ≡ m

found_by : (p : ℕ → Bool) (f : ℕ → Loc) (a n top : ℕ) (m : Loc) (t : Bool) → p a ≡ t → a < top → (Contains (map f (filter p (range_with_len (a + 1) n))) m → Chosen p f top m) →
    Contains (map f (cond t (a ∷ filter p (range_with_len (a + 1) n)) (filter p (range_with_len (a + 1) n)))) m → Chosen p f top m
found_by p f a n top m true e few rest c = elim (first_or_later (f a) m (map f (filter p (range_with_len (a + 1) n))) c) [
  | inl is ↦ record { j = a; few = few; pass = e; is = is }
  | inr among ↦ rest among
]
found_by p f a n top m false e few rest c = rest c

found : (p : ℕ → Bool) (f : ℕ → Loc) (a n top : ℕ) (m : Loc) → a + n ≤ top → Contains (map f (filter p (range_with_len a n))) m → Chosen p f top m
found p f a zero top m few (k, small, at) = absurd (omega arith)
found p f a (suc n) top m few h = found_by p f a n top m (p a) refl (omega arith) (λ c. found p f (a + 1) n top m (omega arith) c) h

later : (x m : Loc) (xs : List Loc) → Contains xs m → Contains (x ∷ xs) m
later x m xs (k, small, at) = (suc k, omega arith, at)

has_by : (p : ℕ → Bool) (f : ℕ → Loc) (a n j : ℕ) (t : Bool) → p a ≡ t → p j ≡ true → a ≤ j → (a + 1 ≤ j → Contains (map f (filter p (range_with_len (a + 1) n))) (f j)) →
    Contains (map f (cond t (a ∷ filter p (range_with_len (a + 1) n)) (filter p (range_with_len (a + 1) n)))) (f j)
has_by p f a n j true e pass low rest = elim (cases_eq a j) [
  | inl is ↦ (0, omega arith, ap f is)
  | inr other ↦ later (f a) (f j) (map f (filter p (range_with_len (a + 1) n))) (rest (omega arith))
]
has_by p f a n j false e pass low rest = elim (cases_eq a j) [ inl is ↦ absurd (false≢true (sym e ∙ ap p is ∙ pass)) | inr other ↦ rest (omega arith) ]

has : (p : ℕ → Bool) (f : ℕ → Loc) (a n j : ℕ) → a ≤ j → j < a + n → p j ≡ true → Contains (map f (filter p (range_with_len a n))) (f j)
has p f a zero j low high pass = absurd (omega arith)
has p f a (suc n) j low high pass = has_by p f a n j (p a) refl pass low (λ more. has p f (a + 1) n j more (omega arith) pass)

-- a finer leaf is a child that lies at the side
pub record IsChildAt (d axis : ℕ) (high : Bool) (at o : Loc) : Type 0 where
  pub j : ℕ
  pub few : j < parts d
  pub half : is_high_half j axis ≡ not high
  pub is : child d at j ≡ o

pub child_of : (b : FieldBlock) (axis : ℕ) (high : Bool) (os : List Loc) (o : Loc) (x : Finer b axis high os) → Contains os o → IsChildAt b.mesh.shape.dims axis high x.at o
child_of b axis high os o x among =
    let d : ℕ = b.mesh.shape.dims in
    let c = found (λ j. cond (not high) (is_high_half j axis) (not (is_high_half j axis))) (child d x.at) 0 (parts d) (parts d) o (omega arith) (subst (λ (v : List Loc). Contains v o) (sym x.leaves) among) in
    record { j = c.j; few = c.few; half = half_passes (is_high_half c.j axis) (not high) c.pass; is = c.is }

pub child_among : (b : FieldBlock) (axis : ℕ) (high : Bool) (os : List Loc) (j : ℕ) (x : Finer b axis high os) → j < parts b.mesh.shape.dims → is_high_half j axis ≡ not high → Contains os (child b.mesh.shape.dims x.at j)
child_among b axis high os j x few half =
    let d : ℕ = b.mesh.shape.dims in
    subst (λ (v : List Loc). Contains v (child d x.at j)) x.leaves
    (has (λ j. cond (not high) (is_high_half j axis) (not (is_high_half j axis))) (child d x.at) 0 (parts d) j (omega arith) (omega arith) (passes_half (is_high_half j axis) (not high) half))
