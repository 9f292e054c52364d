-- Letters that are due, and the two leaves between which they go.
use Rattle.std.proofs.Common.{◌≡◌, inl, inr, ℕ, zero, suc, ◌+◌, ◌<◌, ◌≤◌, Bool, true, false, not, List, [], ◌∷◌, ◌++◌, Contains, length, map, refl, arith, ap, subst, sym, ◌∙◌}
use Rattle.std.specs.List.{AllByRecursion, IsDistinct, enumerate_from, flat_map, list_any, range_with_len, slice_index_or}
use Rattle.std.proofs.lemmas.Bool.{false≢true}
use Rattle.std.proofs.lemmas.List.Folds.{list_any-append}
use Rattle.morton_order.specs.declared.space.Loc.{Loc}
use Rattle.morton_order.specs.Space.{same_loc}
use Rattle.morton_order.proofs.Any.{or_cases, or_left, or_right}
use Rattle.morton_order.proofs.Touching.{same_loc-self}
use Rattle.block_tree.specs.Behind.{Behind, Names, behind, coarse, fine, outside, same}
use Rattle.block_tree.specs.Tree.{IsLeaf, is_listed}
use Rattle.block_tree.proofs.Behinds.{behind_is_exact, behind_is_mutual}
use Rattle.block_tree.proofs.KeyOrder.{leaves_law}
use Rattle.block_tree.proofs.LeafList.{listed_leaf}
use Rattle.block_tree.proofs.Numbers.{distinct_leaves}
use Rattle.mesh_rules.specs.Due.{Exchange, all_letters, coarser_in, flux_letters, ghost_letters, letters_across, letters_of}
use Rattle.mesh_rules.specs.Mesh.{IsMesh, Mesh, is_inner, leaf_number}
use Rattle.mesh_rules.specs.Regions.{leaves_in}
use Rattle.mesh_laws.proofs.StoredCells.{listed_number}
use Rattle.cycle_kernels.specs.Blocks.{CycleMesh, block_count, leaf_at}
use Rattle.cycle_kernels.specs.Letters.{same_letter}
use Rattle.cycle_kernels.proofs.Letters.{same_letter_is}

-- a place that no leaf has
abbrev pub nowhere : Loc
nowhere = record { level = 0; l1 = 0; l2 = 0; l3 = 0 }

-- a test that is passed in a list of lists, item by item
pub any_leaf : (p : Exchange → Bool) (g : ℕ → Loc → List Exchange) (n : ℕ) (xs : List Loc) → list_any p (flat_map (λ (leaf : ℕ × Loc). g leaf.0 leaf.1) (enumerate_from n xs)) ≡ true →
    (i : ℕ) × (i < length xs) × (list_any p (g (n + i) (slice_index_or xs i nowhere)) ≡ true)
any_leaf p g n [] h = absurd (false≢true h)
any_leaf p g n (x ∷ xs) h =
    let rest : List Exchange = flat_map (λ (leaf : ℕ × Loc). g leaf.0 leaf.1) (enumerate_from (n + 1) xs) in
    elim (or_cases (list_any p (g n x)) (list_any p rest) (sym (list_any-append p (g n x) rest) ∙ h)) [
      | inl e ↦ (0, omega arith, subst (λ k. list_any p (g k x) ≡ true) (omega arith) e)
      | inr e ↦ let (i, few, at) = any_leaf p g (n + 1) xs e in (suc i, omega arith, subst (λ k. list_any p (g k (slice_index_or xs i nowhere)) ≡ true) (omega arith) at)
    ]

pub any_axis : (p : Exchange → Bool) (g : ℕ → List Exchange) (a n : ℕ) → list_any p (flat_map g (range_with_len a n)) ≡ true → (k : ℕ) × (a ≤ k) × (k < a + n) × (list_any p (g k) ≡ true)
any_axis p g a zero h = absurd (false≢true h)
any_axis p g a (suc n) h =
    let rest : List Exchange = flat_map g (range_with_len (a + 1) n) in
    elim (or_cases (list_any p (g a)) (list_any p rest) (sym (list_any-append p (g a) rest) ∙ h)) [
      | inl e ↦ (a, omega arith, omega arith, e)
      | inr e ↦ let (k, low, few, at) = any_axis p g (a + 1) n e in (k, omega arith, omega arith, at)
    ]

pub any_mapped : (p : Exchange → Bool) (g : Loc → Exchange) (os : List Loc) → list_any p (map g os) ≡ true → (o : Loc) × Contains os o × (p (g o) ≡ true)
any_mapped p g [] h = absurd (false≢true h)
any_mapped p g (o ∷ os) h = elim (or_cases (p (g o)) (list_any p (map g os)) h) [
  | inl e ↦ (o, (0, omega arith, refl), e)
  | inr e ↦ let (x, (k, few, at), pass) = any_mapped p g os e in (x, (suc k, omega arith, at), pass)
]

-- a letter of those that go to some leaves behind each side
pub record IsLetter (m : Mesh) (receivers : Behind → List Loc) (x : Exchange) : Type 0 where
  pub few : x.from < length m.leaves
  pub used : x.axis < m.shape.dims
  pub at : Loc
  pub among : Contains (receivers (behind m.shape (is_inner m) (slice_index_or m.leaves x.from nowhere) x.axis (not x.high))) at
  pub number : leaf_number m at ≡ x.to

across_is : (m : Mesh) (receivers : Behind → List Loc) (x : Exchange) (i axis : ℕ) (high : Bool) → i < length m.leaves → axis < m.shape.dims →
    list_any (same_letter x) (letters_across m receivers i (slice_index_or m.leaves i nowhere) axis high) ≡ true → IsLetter m receivers x
across_is m receivers x i axis high few used h =
    let l : Loc = slice_index_or m.leaves i nowhere in
    let (o, among, is) = any_mapped (same_letter x) (λ to. record { from = i; to = leaf_number m to; axis = axis; high = not high }) (receivers (behind m.shape (is_inner m) l axis high)) h in
    subst (IsLetter m receivers) (sym (same_letter_is x (record { from = i; to = leaf_number m o; axis = axis; high = not high }) is))
    (record { few = few; used = used; at = o; among = back high o among; number = refl })
  where
    back : (side : Bool) (o : Loc) → Contains (receivers (behind m.shape (is_inner m) (slice_index_or m.leaves i nowhere) axis side)) o → Contains (receivers (behind m.shape (is_inner m) (slice_index_or m.leaves i nowhere) axis (not (not side)))) o
    back true o c = c
    back false o c = c

pub letter_is : (m : Mesh) (receivers : Behind → List Loc) (x : Exchange) → list_any (same_letter x) (all_letters m receivers) ≡ true → IsLetter m receivers x
letter_is m receivers x h =
    let (i, few, at) = any_leaf (same_letter x) (letters_of m receivers) 0 m.leaves h in
    let l : Loc = slice_index_or m.leaves i nowhere in
    let here : list_any (same_letter x) (letters_of m receivers i l) ≡ true = subst (λ k. list_any (same_letter x) (letters_of m receivers k l) ≡ true) (omega arith) at in
    let (axis, low, used, at_axis) = any_axis (same_letter x) (λ a. letters_across m receivers i l a false ++ letters_across m receivers i l a true) 0 m.shape.dims here in
    let few_axes : axis < m.shape.dims = omega arith in
    elim (or_cases (list_any (same_letter x) (letters_across m receivers i l axis false)) (list_any (same_letter x) (letters_across m receivers i l axis true))
    (sym (list_any-append (same_letter x) (letters_across m receivers i l axis false) (letters_across m receivers i l axis true)) ∙ at_axis)) [
      | inl e ↦ across_is m receivers x i axis false few few_axes e
      | inr e ↦ across_is m receivers x i axis true few few_axes e
    ]

-- leaves and their numbers
listed_here : (xs : List Loc) (i : ℕ) → i < length xs → is_listed xs (slice_index_or xs i nowhere) ≡ true
listed_here [] i few = absurd (omega arith)
listed_here (x ∷ xs) zero few = or_left (same_loc x x) (list_any (same_loc x) xs) (same_loc-self x)
listed_here (x ∷ xs) (suc i) few = or_right (same_loc (slice_index_or xs i nowhere) x) (list_any (same_loc (slice_index_or xs i nowhere)) xs) (listed_here xs i (omega arith))

pub leaf_here : (m : Mesh) (i : ℕ) → IsMesh m → i < length m.leaves → IsLeaf m.shape (is_inner m) (slice_index_or m.leaves i nowhere)
leaf_here m i mesh few =
    listed_leaf m.shape (is_inner m) mesh.tree (slice_index_or m.leaves i nowhere)
    (ap (λ (v : List Loc). is_listed v (slice_index_or m.leaves i nowhere)) (sym mesh.leaves) ∙ listed_here m.leaves i few)

-- the leaf of a number
pub record IsAt (m : Mesh) (n : ℕ) (o : Loc) : Type 0 where
  pub few : n < length m.leaves
  pub is : slice_index_or m.leaves n nowhere ≡ o

other_default : (xs : List Loc) (k : ℕ) (d e : Loc) → k < length xs → slice_index_or xs k d ≡ slice_index_or xs k e
other_default [] k d e few = absurd (omega arith)
other_default (x ∷ xs) zero d e few = refl
other_default (x ∷ xs) (suc k) d e few = other_default xs k d e (omega arith)

pub numbered_leaf : (m : Mesh) (o : Loc) → IsMesh m → IsLeaf m.shape (is_inner m) o → IsAt m (leaf_number m o) o
numbered_leaf m o mesh leaf =
    let n = listed_number o m.leaves (ap (λ (v : List Loc). is_listed v o) mesh.leaves ∙ ((leaves_law m.shape (is_inner m) mesh.shape mesh.tree).leaves o).1 leaf) in
    record { few = n.small; is = other_default m.leaves (leaf_number m o) nowhere o n.small ∙ n.is }

at_each : (P : Loc → Type 0) (xs : List Loc) (i : ℕ) → AllByRecursion P xs → i < length xs → P (slice_index_or xs i nowhere)
at_each P [] i h few = absurd (omega arith)
at_each P (x ∷ xs) zero h few = h.0
at_each P (x ∷ xs) (suc i) h few = at_each P xs i h.1 (omega arith)

one_place : (xs : List Loc) (i k : ℕ) → IsDistinct same_loc xs → i < length xs → k < length xs → slice_index_or xs i nowhere ≡ slice_index_or xs k nowhere → i ≡ k
unfolding IsDistinct
one_place [] i k h few low e = absurd (omega arith)
one_place (x ∷ xs) zero zero h few low e = refl
one_place (x ∷ xs) zero (suc k) h few low e = absurd (false≢true (sym (at_each (λ z. same_loc x z ≡ false) xs k h.0 (omega arith)) ∙ ap (same_loc x) (sym e) ∙ same_loc-self x))
one_place (x ∷ xs) (suc i) zero h few low e = absurd (false≢true (sym (at_each (λ z. same_loc x z ≡ false) xs i h.0 (omega arith)) ∙ ap (same_loc x) e ∙ same_loc-self x))
one_place (x ∷ xs) (suc i) (suc k) h few low e = ap suc (one_place xs i k h.1 (omega arith) (omega arith) e)

pub one_leaf : (m : Mesh) (i k : ℕ) → IsMesh m → i < length m.leaves → k < length m.leaves → slice_index_or m.leaves i nowhere ≡ slice_index_or m.leaves k nowhere → i ≡ k
one_leaf m i k mesh few low e =
    one_place m.leaves i k (subst (λ (v : List Loc). IsDistinct same_loc v) (sym mesh.leaves) (distinct_leaves m.shape (is_inner m) mesh.shape mesh.tree)) few low e

-- a letter between two leaves across a side of its receiver
pub record IsLink (w : CycleMesh) (x : Exchange) : Type 0 where
  pub used : x.axis < w.mesh.shape.dims
  pub few_from : x.from < block_count w
  pub few_to : x.to < block_count w
  pub from_leaf : IsLeaf w.mesh.shape (is_inner w.mesh) (leaf_at w x.from)
  pub to_leaf : IsLeaf w.mesh.shape (is_inner w.mesh) (leaf_at w x.to)
  pub sends : Names (behind w.mesh.shape (is_inner w.mesh) (leaf_at w x.from) x.axis (not x.high)) (leaf_at w x.to)
  pub comes : Names (behind w.mesh.shape (is_inner w.mesh) (leaf_at w x.to) x.axis x.high) (leaf_at w x.from)

named_in : (b : Behind) (o : Loc) → Contains (leaves_in b) o → Names b o
named_in outside o (k, few, at) = absurd (omega arith)
named_in (same l) o (zero, few, at) = sym at
named_in (same l) o (suc k, few, at) = absurd (omega arith)
named_in (coarse l) o (zero, few, at) = sym at
named_in (coarse l) o (suc k, few, at) = absurd (omega arith)
named_in (fine ls) o c = c

coarser_named : (b : Behind) (o : Loc) → Contains (coarser_in b) o → b ≡ coarse o
coarser_named outside o (k, few, at) = absurd (omega arith)
coarser_named (same l) o (k, few, at) = absurd (omega arith)
coarser_named (coarse l) o (zero, few, at) = ap coarse at
coarser_named (coarse l) o (suc k, few, at) = absurd (omega arith)
coarser_named (fine ls) o (k, few, at) = absurd (omega arith)

link_by : (w : CycleMesh) (x : Exchange) (o : Loc) → IsMesh w.mesh → x.axis < w.mesh.shape.dims → x.from < block_count w → leaf_number w.mesh o ≡ x.to →
    Names (behind w.mesh.shape (is_inner w.mesh) (leaf_at w x.from) x.axis (not x.high)) o → IsLink w x
link_by w x o mesh used few number names =
    let m : Mesh = w.mesh in
    let from = leaf_here m x.from mesh few in
    let to = ((behind_is_exact m.shape (is_inner m) mesh.shape mesh.tree mesh.balanced (leaf_at w x.from) o x.axis (not x.high) from used).0 names).0 in
    let at : IsAt m x.to o = subst (λ n. IsAt m n o) number (numbered_leaf m o mesh to) in
    let to_at : IsLeaf m.shape (is_inner m) (leaf_at w x.to) = subst (λ (v : Loc). IsLeaf m.shape (is_inner m) v) (sym at.is) to in
    let sends : Names (behind m.shape (is_inner m) (leaf_at w x.from) x.axis (not x.high)) (leaf_at w x.to) = subst (λ (v : Loc). Names (behind m.shape (is_inner m) (leaf_at w x.from) x.axis (not x.high)) v) (sym at.is) names in
    record {
      used = used;
      few_from = few;
      few_to = at.few;
      from_leaf = from;
      to_leaf = to_at;
      sends = sends;
      comes = turned x.high ((behind_is_mutual m.shape (is_inner m) mesh.shape mesh.tree mesh.balanced (leaf_at w x.from) (leaf_at w x.to) x.axis (not x.high) from to_at used).0 sends);
    }
  where
    turned : (high : Bool) → Names (behind w.mesh.shape (is_inner w.mesh) (leaf_at w x.to) x.axis (not (not high))) (leaf_at w x.from) → Names (behind w.mesh.shape (is_inner w.mesh) (leaf_at w x.to) x.axis high) (leaf_at w x.from)
    turned true n = n
    turned false n = n

pub ghost_link : (w : CycleMesh) (x : Exchange) → IsMesh w.mesh → list_any (same_letter x) (ghost_letters w.mesh) ≡ true → IsLink w x
ghost_link w x mesh due =
    let is = letter_is w.mesh leaves_in x due in
    link_by w x is.at mesh is.used is.few is.number (named_in (behind w.mesh.shape (is_inner w.mesh) (leaf_at w x.from) x.axis (not x.high)) is.at is.among)

-- a flux letter goes to a coarser leaf
pub record IsFluxLink (w : CycleMesh) (x : Exchange) : Type 0 where
  pub link : IsLink w x
  pub coarser : behind w.mesh.shape (is_inner w.mesh) (leaf_at w x.from) x.axis (not x.high) ≡ coarse (leaf_at w x.to)

pub flux_link : (w : CycleMesh) (x : Exchange) → IsMesh w.mesh → list_any (same_letter x) (flux_letters w.mesh) ≡ true → IsFluxLink w x
flux_link w x mesh due =
    let is = letter_is w.mesh coarser_in x due in
    let b : Behind = behind w.mesh.shape (is_inner w.mesh) (leaf_at w x.from) x.axis (not x.high) in
    let is_coarse : b ≡ coarse is.at = coarser_named b is.at is.among in
    let link = link_by w x is.at mesh is.used is.few is.number (subst (λ (v : Behind). Names v is.at) (sym is_coarse) refl) in
    let at : leaf_at w x.to ≡ is.at = subst (λ (v : Behind). Names v (leaf_at w x.to)) is_coarse link.sends in
    record { link = link; coarser = is_coarse ∙ ap coarse (sym at) }
