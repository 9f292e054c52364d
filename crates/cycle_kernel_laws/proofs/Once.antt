-- Each letter is due once.
use Rattle.std.proofs.Common.{◌≡◌, inl, inr, ℕ, zero, suc, ◌+◌, ◌<◌, ◌≤◌, Bool, true, false, ◌&&◌, cond, not, List, [], ◌∷◌, ◌++◌, length, map, count_by, refl, arith, ap, subst, sym, ◌∙◌}
use Rattle.std.specs.List.{enumerate_from, filter, flat_map, range_with_len, slice_index_or}
use Rattle.std.proofs.lemmas.Bool.{and_parts, cases_eq, false≢true}
use Rattle.morton_order.specs.declared.space.Loc.{Loc}
use Rattle.morton_order.specs.Space.{child, child_number, parts}
use Rattle.block_tree.specs.Behind.{Behind, Names, behind, children_at, coarse, fine, is_high_half, outside, same}
use Rattle.block_tree.specs.Tree.{IsLeaf}
use Rattle.block_tree.proofs.Behinds.{half_passes, number_of_child}
use Rattle.mesh_rules.specs.Due.{Exchange, all_letters, coarser_in, flux_letters, ghost_letters, letters_across, letters_of}
use Rattle.mesh_rules.specs.Mesh.{IsMesh, Mesh, is_inner, leaf_number}
use Rattle.mesh_rules.specs.Regions.{leaves_in}
use Rattle.block_geometry.specs.Blocks.{FieldBlock, IsFieldBlock}
use Rattle.letter_laws.specs.Sides.{IsSide, behind_side}
use Rattle.letter_laws.proofs.Behinds.{child_among, fine_met, named_leaf}
use Rattle.cycle_rounds.proofs.Lists.{count_append, count_cons, count_cons_no, count_cons_yes}
use Rattle.cycle_kernels.specs.Blocks.{CycleMesh}
use Rattle.cycle_kernels.specs.Laws.{IsCycleMesh}
use Rattle.cycle_kernels.specs.Letters.{same_letter}
use Rattle.cycle_kernels.proofs.Letters.{same_letter_is}
use Rattle.cycle_kernel_laws.proofs.Due.{leaf_here, nowhere, numbered_leaf}

-- counts
single : (b : Bool) → 0 + cond b 1 0 ≤ 1
single true = omega arith
single false = omega arith

same_first : (a b c : ℕ) → b ≡ c → a + b ≡ a + c
same_first a b c e = ap (λ n. a + n) e

count_mapped : {X Y : Type 0} (p : Y → Bool) (g : X → Y) (xs : List X) → count_by p (map g xs) ≡ count_by (λ x. p (g x)) xs
count_mapped p g [] = refl
count_mapped p g (x ∷ xs) =
    count_cons p (g x) (map g xs) ∙ same_first (cond (p (g x)) 1 0) (count_by p (map g xs)) (count_by (λ x. p (g x)) xs) (count_mapped p g xs) ∙ sym (count_cons (λ x. p (g x)) x xs)

not_true : (b : Bool) → (b ≡ true → ⊥) → b ≡ false
not_true true h = absurd (h refl)
not_true false h = refl

count_none : {X : Type 0} (p : X → Bool) (xs : List X) → ((x : X) → p x ≡ true → ⊥) → count_by p xs ≡ 0
count_none p [] h = refl
count_none p (x ∷ xs) h = count_cons_no p x xs (not_true (p x) (h x)) ∙ count_none p xs h

filtered_by : (q r : ℕ → Bool) (x n : ℕ) (xs : List ℕ) (t : Bool) → q x ≡ t → count_by r (filter q xs) ≡ n → count_by r (cond t (x ∷ filter q xs) (filter q xs)) ≡ cond (t && r x) 1 0 + n
filtered_by q r x n xs true e h = count_cons r x (filter q xs) ∙ same_first (cond (r x) 1 0) (count_by r (filter q xs)) n h
filtered_by q r x n xs false e h = h ∙ omega arith

filtered : (q r : ℕ → Bool) (xs : List ℕ) → count_by r (filter q xs) ≡ count_by (λ j. q j && r j) xs
filtered q r [] = refl
filtered q r (x ∷ xs) = filtered_by q r x (count_by (λ j. q j && r j) xs) xs (q x) refl (filtered q r xs) ∙ sym (count_cons (λ j. q j && r j) x xs)

range_none : (r : ℕ → Bool) (a n : ℕ) → ((j : ℕ) → a ≤ j → j < a + n → r j ≡ true → ⊥) → count_by r (range_with_len a n) ≡ 0
range_none r a zero h = refl
range_none r a (suc n) h = count_cons_no r a (range_with_len (a + 1) n) (not_true (r a) (h a (omega arith) (omega arith))) ∙ range_none r (a + 1) n (λ j low few. h j (omega arith) (omega arith))

once_by : (r : ℕ → Bool) (a : ℕ) (xs : List ℕ) (t : Bool) → r a ≡ t → (t ≡ true → count_by r xs ≡ 0) → count_by r xs ≤ 1 → count_by r (a ∷ xs) ≤ 1
once_by r a xs true e none few = let all = count_cons_yes r a xs e in let nothing = none refl in omega (arith, all, nothing)
once_by r a xs false e none few = let all = count_cons_no r a xs e in omega (arith, all, few)

range_once : (r : ℕ → Bool) (a n top : ℕ) → a + n ≤ top → ((j k : ℕ) → j < top → k < top → r j ≡ true → r k ≡ true → j ≡ k) → count_by r (range_with_len a n) ≤ 1
range_once r a zero top few h = omega arith
range_once r a (suc n) top few h =
    once_by r a (range_with_len (a + 1) n) (r a) refl
    (λ e. range_none r (a + 1) n (λ j low less p. let is : a ≡ j = h a j (omega arith) (omega arith) e p in omega arith))
    (range_once r (a + 1) n top (omega arith) h)

-- over leaves and over axes
leaves_none : (p : Exchange → Bool) (g : ℕ → Loc → List Exchange) (n from : ℕ) (xs : List Loc) → ((k : ℕ) (l : Loc) → ¬ (k ≡ from) → count_by p (g k l) ≡ 0) → from < n →
    count_by p (flat_map (λ (leaf : ℕ × Loc). g leaf.0 leaf.1) (enumerate_from n xs)) ≡ 0
leaves_none p g n from [] h low = refl
leaves_none p g n from (x ∷ xs) h low =
    let rest : List Exchange = flat_map (λ (leaf : ℕ × Loc). g leaf.0 leaf.1) (enumerate_from (n + 1) xs) in
    let a = h n x (λ e. omega arith) in
    let b = leaves_none p g (n + 1) from xs h (omega arith) in
    count_append p (g n x) rest ∙ omega (arith, a, b)

leaves_once : (p : Exchange → Bool) (g : ℕ → Loc → List Exchange) (n from : ℕ) (xs : List Loc) → ((k : ℕ) (l : Loc) → ¬ (k ≡ from) → count_by p (g k l) ≡ 0) →
    ((i : ℕ) → i < length xs → count_by p (g (n + i) (slice_index_or xs i nowhere)) ≤ 1) → count_by p (flat_map (λ (leaf : ℕ × Loc). g leaf.0 leaf.1) (enumerate_from n xs)) ≤ 1
leaves_once p g n from [] h few = omega arith
leaves_once p g n from (x ∷ xs) h few =
    let rest : List Exchange = flat_map (λ (leaf : ℕ × Loc). g leaf.0 leaf.1) (enumerate_from (n + 1) xs) in
    let all = count_append p (g n x) rest in
    elim (cases_eq n from) [
      | inl e ↦
          let a : count_by p (g n x) ≤ 1 = subst (λ k. count_by p (g k x) ≤ 1) (omega arith) (few 0 (omega arith)) in
          let b = leaves_none p g (n + 1) from xs h (omega arith) in
          omega (arith, all, a, b)
      | inr d ↦
          let a = h n x d in
          let b = leaves_once p g (n + 1) from xs h (λ i less. subst (λ k. count_by p (g k (slice_index_or xs i nowhere)) ≤ 1) (omega arith) (few (suc i) (omega arith))) in
          omega (arith, all, a, b)
    ]

axes_none : (p : Exchange → Bool) (g : ℕ → List Exchange) (a n axis : ℕ) → ((k : ℕ) → ¬ (k ≡ axis) → count_by p (g k) ≡ 0) → axis < a → count_by p (flat_map g (range_with_len a n)) ≡ 0
axes_none p g a zero axis h low = refl
axes_none p g a (suc n) axis h low =
    let rest : List Exchange = flat_map g (range_with_len (a + 1) n) in
    let first = h a (λ e. omega arith) in
    let later = axes_none p g (a + 1) n axis h (omega arith) in
    count_append p (g a) rest ∙ omega (arith, first, later)

axes_once : (p : Exchange → Bool) (g : ℕ → List Exchange) (a n top axis : ℕ) → a + n ≤ top → ((k : ℕ) → ¬ (k ≡ axis) → count_by p (g k) ≡ 0) → ((k : ℕ) → k < top → count_by p (g k) ≤ 1) → count_by p (flat_map g (range_with_len a n)) ≤ 1
axes_once p g a zero top axis room h few = omega arith
axes_once p g a (suc n) top axis room h few =
    let rest : List Exchange = flat_map g (range_with_len (a + 1) n) in
    let all = count_append p (g a) rest in
    elim (cases_eq a axis) [
      | inl e ↦ let one = few a (omega arith) in let later = axes_none p g (a + 1) n axis h (omega arith) in omega (arith, all, one, later)
      | inr d ↦ let none = h a d in let later = axes_once p g (a + 1) n top axis (omega arith) h few in omega (arith, all, none, later)
    ]

-- letters of one leaf across one side
across_none : (m : Mesh) (receivers : Behind → List Loc) (x : Exchange) (k : ℕ) (l : Loc) (axis : ℕ) (high : Bool) → (x.from ≡ k → x.axis ≡ axis → x.high ≡ not high → ⊥) → count_by (same_letter x) (letters_across m receivers k l axis high) ≡ 0
across_none m receivers x k l axis high off =
    let g : Loc → Exchange = λ to. record { from = k; to = leaf_number m to; axis = axis; high = not high } in
    let os : List Loc = receivers (behind m.shape (is_inner m) l axis high) in
    count_mapped (same_letter x) g os
    ∙ count_none (λ o. same_letter x (g o)) os (λ o same. let is = same_letter_is x (g o) same in off (ap (λ (y : Exchange). y.from) is) (ap (λ (y : Exchange). y.axis) is) (ap (λ (y : Exchange). y.high) is))

-- receivers of which a test finds one at most
abbrev Once : Mesh → (Behind → List Loc) → Type 0
Once m receivers = (x : Exchange) (k axis : ℕ) (high : Bool) → k < length m.leaves → axis < m.shape.dims → count_by (same_letter x) (letters_across m receivers k (slice_index_or m.leaves k nowhere) axis high) ≤ 1

not_low : (x : Exchange) → x.high ≡ false → x.high ≡ not false → ⊥
not_low x e f = false≢true (sym e ∙ f)

not_high : (x : Exchange) → x.high ≡ true → x.high ≡ not true → ⊥
not_high x e f = false≢true (sym f ∙ e)

letters_once : (m : Mesh) (receivers : Behind → List Loc) → Once m receivers → (x : Exchange) → count_by (same_letter x) (all_letters m receivers) ≤ 1
letters_once m receivers once x =
    leaves_once (same_letter x) (letters_of m receivers) 0 x.from m.leaves
    (λ k l d. axes_zero k l d)
    (λ i few. subst (λ k. count_by (same_letter x) (letters_of m receivers k (slice_index_or m.leaves i nowhere)) ≤ 1) (omega arith) (leaf_once i few))
  where
    axes_zero : (k : ℕ) (l : Loc) → ¬ (k ≡ x.from) → count_by (same_letter x) (letters_of m receivers k l) ≡ 0
    axes_zero k l d = axes_all 0 m.shape.dims
      where
        axes_all : (a n : ℕ) → count_by (same_letter x) (flat_map (λ axis. letters_across m receivers k l axis false ++ letters_across m receivers k l axis true) (range_with_len a n)) ≡ 0
        axes_all a zero = refl
        axes_all a (suc n) =
            let low = across_none m receivers x k l a false (λ e f g. d (sym e)) in
            let high = across_none m receivers x k l a true (λ e f g. d (sym e)) in
            let later = axes_all (a + 1) n in
            count_append (same_letter x) (letters_across m receivers k l a false ++ letters_across m receivers k l a true) (flat_map (λ axis. letters_across m receivers k l axis false ++ letters_across m receivers k l axis true) (range_with_len (a + 1) n))
            ∙ ap (λ v. v + count_by (same_letter x) (flat_map (λ axis. letters_across m receivers k l axis false ++ letters_across m receivers k l axis true) (range_with_len (a + 1) n))) (count_append (same_letter x) (letters_across m receivers k l a false) (letters_across m receivers k l a true))
            ∙ omega (arith, low, high, later)

    leaf_once : (i : ℕ) → i < length m.leaves → count_by (same_letter x) (letters_of m receivers i (slice_index_or m.leaves i nowhere)) ≤ 1
    leaf_once i few =
        let l : Loc = slice_index_or m.leaves i nowhere in
        axes_once (same_letter x) (λ axis. letters_across m receivers i l axis false ++ letters_across m receivers i l axis true) 0 m.shape.dims m.shape.dims x.axis (omega arith)
        (λ axis d.
        let low = across_none m receivers x i l axis false (λ e f g. d (sym f)) in
        let high = across_none m receivers x i l axis true (λ e f g. d (sym f)) in
        count_append (same_letter x) (letters_across m receivers i l axis false) (letters_across m receivers i l axis true) ∙ omega (arith, low, high))
        (λ axis used. by axis used x.high refl)
      where
        by : (axis : ℕ) → axis < m.shape.dims → (h : Bool) → x.high ≡ h → count_by (same_letter x) (letters_across m receivers i (slice_index_or m.leaves i nowhere) axis false ++ letters_across m receivers i (slice_index_or m.leaves i nowhere) axis true) ≤ 1
        by axis used true e =
            let l : Loc = slice_index_or m.leaves i nowhere in
            let all = count_append (same_letter x) (letters_across m receivers i l axis false) (letters_across m receivers i l axis true) in
            let low = once x i axis false few used in
            let high = across_none m receivers x i l axis true (λ f g h. not_high x e h) in
            omega (arith, all, low, high)
        by axis used false e =
            let l : Loc = slice_index_or m.leaves i nowhere in
            let all = count_append (same_letter x) (letters_across m receivers i l axis false) (letters_across m receivers i l axis true) in
            let low = across_none m receivers x i l axis false (λ f g h. not_low x e h) in
            let high = once x i axis true few used in
            omega (arith, all, low, high)

coarse_once : (m : Mesh) → Once m coarser_in
coarse_once m x k axis high few used =
    let g : Loc → Exchange = λ to. record { from = k; to = leaf_number m to; axis = axis; high = not high } in
    by g (behind m.shape (is_inner m) (slice_index_or m.leaves k nowhere) axis high)
  where
    by : (g : Loc → Exchange) (b : Behind) → count_by (same_letter x) (map g (coarser_in b)) ≤ 1
    by g outside = omega arith
    by g (same o) = omega arith
    by g (coarse o) = single (same_letter x (g o))
    by g (fine os) = omega arith

pub flux_once : (w : CycleMesh) (x : Exchange) → count_by (same_letter x) (flux_letters w.mesh) ≤ 1
flux_once w x = letters_once w.mesh coarser_in (coarse_once w.mesh) x

-- the block of a number, for any field
abbrev pub block_on : CycleMesh → ℕ → Loc → FieldBlock
block_on w f l = record { settings = w.settings; mesh = w.mesh; field = f; leaf = l; layout = w.layout }

pub sound_block : (w : CycleMesh) (f : ℕ) (l : Loc) → IsCycleMesh w → IsLeaf w.mesh.shape (is_inner w.mesh) l → IsFieldBlock (block_on w f l)
sound_block w f l is leaf = record { mesh = is.mesh; leaf = leaf; layout = is.layout }

pub side_of : (w : CycleMesh) (f : ℕ) (l : Loc) (axis : ℕ) → IsCycleMesh w → IsLeaf w.mesh.shape (is_inner w.mesh) l → axis < w.mesh.shape.dims → IsSide (block_on w f l) axis
side_of w f l axis is leaf used = record { sound = sound_block w f l is leaf; used = subst (λ d. axis < d) (sym is.layout.dims) used }

-- letters to leaves behind a side
same_number : (m : Mesh) (o other : Loc) → IsMesh m → IsLeaf m.shape (is_inner m) o → IsLeaf m.shape (is_inner m) other → leaf_number m o ≡ leaf_number m other → o ≡ other
same_number m o other mesh leaf also e = sym (numbered_leaf m o mesh leaf).is ∙ ap (λ n. slice_index_or m.leaves n nowhere) e ∙ (numbered_leaf m other mesh also).is

ghosts_once : (w : CycleMesh) → IsCycleMesh w → Once w.mesh leaves_in
ghosts_once w is x k axis high few used = by (behind_side b axis high) refl
  where
    m : Mesh
    m = w.mesh

    b : FieldBlock
    b = block_on w 0 (slice_index_or w.mesh.leaves k nowhere)

    side : IsSide b axis
    side = side_of w 0 (slice_index_or w.mesh.leaves k nowhere) axis is (leaf_here w.mesh k is.mesh few) used

    to_one : (o : Loc) → Exchange
    to_one o = record { from = k; to = leaf_number w.mesh o; axis = axis; high = not high }

    by : (v : Behind) → behind_side b axis high ≡ v → count_by (same_letter x) (map (λ to. record { from = k; to = leaf_number w.mesh to; axis = axis; high = not high }) (leaves_in v)) ≤ 1
    by outside e = omega arith
    by (same o) e = single (same_letter x (record { from = k; to = leaf_number w.mesh o; axis = axis; high = not high }))
    by (coarse o) e = single (same_letter x (record { from = k; to = leaf_number w.mesh o; axis = axis; high = not high }))
    by (fine os) e =
        let D : ℕ = w.mesh.shape.dims in
        let met = fine_met b axis high os e in
        let g : Loc → Exchange = λ to. record { from = k; to = leaf_number w.mesh to; axis = axis; high = not high } in
        let q : ℕ → Bool = λ j. cond (not high) (is_high_half j axis) (not (is_high_half j axis)) in
        let r : ℕ → Bool = λ j. same_letter x (g (child D met.at j)) in
        let leaf : (j : ℕ) → j < parts D → q j ≡ true → IsLeaf w.mesh.shape (is_inner w.mesh) (child D met.at j) =
        λ j less pass. named_leaf b axis high (child D met.at j) side (subst (λ (v : Behind). Names v (child D met.at j)) (sym e) (child_among b axis high os j met less (half_passes (is_high_half j axis) (not high) pass))) in
        let one : (i j : ℕ) → i < parts D → j < parts D → (q i && r i) ≡ true → (q j && r j) ≡ true → i ≡ j =
        λ i j less small p t.
        let a = and_parts (q i) (r i) p in
        let c = and_parts (q j) (r j) t in
        let same : leaf_number w.mesh (child D met.at i) ≡ leaf_number w.mesh (child D met.at j) = sym (ap (λ (y : Exchange). y.to) (same_letter_is x (g (child D met.at i)) a.1)) ∙ ap (λ (y : Exchange). y.to) (same_letter_is x (g (child D met.at j)) c.1) in
        let child_is : child D met.at i ≡ child D met.at j = same_number w.mesh (child D met.at i) (child D met.at j) is.mesh (leaf i less a.0) (leaf j small c.0) same in
        sym (number_of_child D met.at i is.mesh.shape.most is.mesh.shape.least less) ∙ ap (child_number D) child_is ∙ number_of_child D met.at j is.mesh.shape.most is.mesh.shape.least small in
        let counted : count_by (same_letter x) (map g os) ≡ count_by (λ j. q j && r j) (range_with_len 0 (parts D)) =
        ap (λ (v : List Loc). count_by (same_letter x) (map g v)) (sym met.leaves)
        ∙ count_mapped (same_letter x) g (map (child D met.at) (children_at D axis (not high)))
        ∙ count_mapped (λ o. same_letter x (g o)) (child D met.at) (children_at D axis (not high))
        ∙ filtered q r (range_with_len 0 (parts D)) in
        let few_parts = range_once (λ j. q j && r j) 0 (parts D) (parts D) (omega arith) one in
        subst (λ n. n ≤ 1) (sym counted) few_parts

pub ghost_once : (w : CycleMesh) (x : Exchange) → IsCycleMesh w → count_by (same_letter x) (ghost_letters w.mesh) ≤ 1
ghost_once w x is = letters_once w.mesh leaves_in (ghosts_once w is) x
