-- The ghosts of a block are what the mesh shows there.
use Rattle.std.proofs.Common.{◌≡◌, inl, inr, ℕ, zero, suc, ◌+◌, ◌<◌, ◌≤◌, Bool, true, false, cond, not, nat_lt, List, [], ◌∷◌, ◌++◌, Contains, length, map, refl, arith, ap, subst, sym, ◌∙◌}
use Rattle.std.specs.List.{enumerate_from, flat_map, list_any, range_with_len, slice_index_or}
use Rattle.std.proofs.lemmas.Bool.{and_from, cases_eq, lt-ltb}
use Rattle.std.proofs.lemmas.List.Folds.{list_any-append}
use Rattle.morton_order.specs.declared.space.Loc.{Loc}
use Rattle.morton_order.specs.Space.{child_number}
use Rattle.morton_order.proofs.Any.{or_left, or_right}
use Rattle.morton_order.proofs.Crossing.{crossed_level}
use Rattle.block_tree.specs.Behind.{Behind, Names, behind, coarse, fine, outside, same}
use Rattle.block_tree.specs.Tree.{IsLeaf}
use Rattle.block_tree.proofs.Behinds.{behind_is_exact, behind_is_mutual}
use Rattle.mesh_rules.specs.Due.{Exchange, ghost_letters, letters_across, letters_of}
use Rattle.mesh_rules.specs.Fields as fields
use Rattle.mesh_rules.specs.Mesh.{IsMesh, Mesh, is_inner, leaf_number}
use Rattle.mesh_rules.specs.Regions.{leaves_in, region, sender_of}
use Rattle.block_layout.specs.declared.layout.Layout.{Layout}
use Rattle.block_layout.specs.Regions.{ghosts}
use Rattle.block_geometry.specs.Blocks.{FieldBlock, IsFieldBlock}
use Rattle.block_geometry.specs.Contents.{HasInterior, SeesBeyondSide}
use Rattle.block_regions.specs.Written.{HasRegion}
use Rattle.ghost_laws.specs.Layers.{on_block}
use Rattle.ghost_buffers.specs.declared.part.How.{How}
use Rattle.ghost_buffers.specs.declared.part.How.TheVariants.{Same, Finer, Coarser}
use Rattle.ghost_buffers.specs.Parts.{part_of}
use Rattle.ghost_buffers.specs.Ghosts.{ghost_cell, received}
use Rattle.letter_laws.specs.Sides.{IsSide, behind_side, side_part}
use Rattle.letter_laws.proofs.Behinds.{named_leaf, same_met}
use Rattle.letter_laws.proofs.CoarserLevel.{above_is, coarser_sees, coarser_sends}
use Rattle.letter_laws.proofs.FinerGhosts.{finer_covers, finer_sees}
use Rattle.letter_laws.proofs.FinerLevel.{below_is, finer_sends}
use Rattle.letter_laws.proofs.Outside.{outside_sees}
use Rattle.letter_laws.proofs.SameLevel.{same_sees, same_sends}
use Rattle.letter_laws.proofs.Spans.{coarser_kind, finer_kind, same_kind}
use Rattle.cycle_kernels.specs.Blocks.{CycleMesh, block_count, is_domain_face, is_outside, leaf_at, total_outside}
use Rattle.cycle_kernels.specs.Laws.{IsCycleMesh}
use Rattle.cycle_kernels.specs.Lists.{with_ghosts}
use Rattle.cycle_kernels.specs.Letters.{how_by, how_sent, part_by, region_sent, same_letter}
use Rattle.cycle_kernels.proofs.Letters.{letter_same}
use Rattle.cycle_kernel_laws.specs.Shown.{GhostsSeeTheMesh, HoldMesh, block_with, ghosts_from, mesh_with}
use Rattle.cycle_kernel_laws.proofs.Due.{leaf_here, nowhere, numbered_leaf, one_leaf}
use Rattle.cycle_kernel_laws.proofs.Given.{letter_gives, own_total}
use Rattle.cycle_kernel_laws.proofs.Outside.{outside_gives}

-- a test that an item of a list of lists passes
has_leaf : (p : Exchange → Bool) (g : ℕ → Loc → List Exchange) (n : ℕ) (xs : List Loc) (i : ℕ) → i < length xs → list_any p (g (n + i) (slice_index_or xs i nowhere)) ≡ true → list_any p (flat_map (λ (leaf : ℕ × Loc). g leaf.0 leaf.1) (enumerate_from n xs)) ≡ true
has_leaf p g n [] i few h = absurd (omega arith)
has_leaf p g n (x ∷ xs) zero few h =
    let rest : List Exchange = flat_map (λ (leaf : ℕ × Loc). g leaf.0 leaf.1) (enumerate_from (n + 1) xs) in
    list_any-append p (g n x) rest ∙ or_left (list_any p (g n x)) (list_any p rest) (subst (λ k. list_any p (g k x) ≡ true) (omega arith) h)
has_leaf p g n (x ∷ xs) (suc i) few h =
    let rest : List Exchange = flat_map (λ (leaf : ℕ × Loc). g leaf.0 leaf.1) (enumerate_from (n + 1) xs) in
    list_any-append p (g n x) rest ∙ or_right (list_any p (g n x)) (list_any p rest) (has_leaf p g (n + 1) xs i (omega arith) (subst (λ k. list_any p (g k (slice_index_or xs i nowhere)) ≡ true) (omega arith) h))

has_axis : (p : Exchange → Bool) (g : ℕ → List Exchange) (a n k : ℕ) → a ≤ k → k < a + n → list_any p (g k) ≡ true → list_any p (flat_map g (range_with_len a n)) ≡ true
has_axis p g a zero k low few h = absurd (omega arith)
has_axis p g a (suc n) k low few h =
    let rest : List Exchange = flat_map g (range_with_len (a + 1) n) in
    list_any-append p (g a) rest ∙ elim (cases_eq a k) [
      | inl e ↦ or_left (list_any p (g a)) (list_any p rest) (subst (λ v. list_any p (g v) ≡ true) (sym e) h)
      | inr d ↦ or_right (list_any p (g a)) (list_any p rest) (has_axis p g (a + 1) n k (omega arith) (omega arith) h)
    ]

has_mapped : (p : Exchange → Bool) (g : Loc → Exchange) (os : List Loc) (o : Loc) → Contains os o → p (g o) ≡ true → list_any p (map g os) ≡ true
has_mapped p g [] o (k, few, at) h = absurd (omega arith)
has_mapped p g (x ∷ os) o (zero, few, at) h = or_left (p (g x)) (list_any p (map g os)) (ap (λ (y : Loc). p (g y)) at ∙ h)
has_mapped p g (x ∷ os) o (suc k, few, at) h = or_right (p (g x)) (list_any p (map g os)) (has_mapped p g os o (k, omega arith, at) h)

contains_named : (v : Behind) (o : Loc) → Names v o → Contains (leaves_in v) o
contains_named outside o n = absurd n
contains_named (same l) o n = (0, omega arith, sym n)
contains_named (coarse l) o n = (0, omega arith, sym n)
contains_named (fine ls) o n = n

-- the letter to a leaf from one that is named behind its side
abbrev pub letter_from : CycleMesh → ℕ → ℕ → Bool → Loc → Exchange
letter_from w b axis high o = record { from = leaf_number w.mesh o; to = b; axis = axis; high = high }

in_sides : (p : Exchange → Bool) (g : Bool → List Exchange) (side : Bool) → list_any p (g side) ≡ true → list_any p (g false ++ g true) ≡ true
in_sides p g true h = list_any-append p (g false) (g true) ∙ or_right (list_any p (g false)) (list_any p (g true)) h
in_sides p g false h = list_any-append p (g false) (g true) ∙ or_left (list_any p (g false)) (list_any p (g true)) h

not_not : (b : Bool) → not (not b) ≡ b
not_not true = refl
not_not false = refl

pub leaf_again : (m : Mesh) (b : ℕ) → IsMesh m → b < length m.leaves → leaf_number m (slice_index_or m.leaves b nowhere) ≡ b
leaf_again m b mesh few =
    let at = numbered_leaf m (slice_index_or m.leaves b nowhere) mesh (leaf_here m b mesh few) in
    one_leaf m (leaf_number m (slice_index_or m.leaves b nowhere)) b mesh at.few few at.is

pub is_due : (w : CycleMesh) (b axis : ℕ) (high : Bool) (o : Loc) → IsCycleMesh w → b < block_count w → axis < w.mesh.shape.dims → Names (behind w.mesh.shape (is_inner w.mesh) (leaf_at w b) axis high) o →
    list_any (same_letter (letter_from w b axis high o)) (ghost_letters w.mesh) ≡ true
is_due w b axis high o is few used names =
    let m : Mesh = w.mesh in
    let mesh = is.mesh in
    let x : Exchange = letter_from w b axis high o in
    let here = leaf_here m b mesh few in
    let there = ((behind_is_exact m.shape (is_inner m) mesh.shape mesh.tree mesh.balanced (leaf_at w b) o axis high here used).0 names).0 in
    let at = numbered_leaf m o mesh there in
    let n : ℕ = leaf_number m o in
    let l : Loc = slice_index_or m.leaves n nowhere in
    let sends : Names (behind m.shape (is_inner m) l axis (not high)) (leaf_at w b) = subst (λ (v : Loc). Names (behind m.shape (is_inner m) v axis (not high)) (leaf_at w b)) (sym at.is)
    ((behind_is_mutual m.shape (is_inner m) mesh.shape mesh.tree mesh.balanced (leaf_at w b) o axis high here there used).0 names) in
    let g : Loc → Exchange = λ to. record { from = n; to = leaf_number m to; axis = axis; high = not (not high) } in
    let one : g (leaf_at w b) ≡ x = (λ i. record { from = n; to = leaf_again m b mesh few i; axis = axis; high = not_not high i }) in
    let mapped : list_any (same_letter x) (letters_across m leaves_in n l axis (not high)) ≡ true =
    has_mapped (same_letter x) g (leaves_in (behind m.shape (is_inner m) l axis (not high))) (leaf_at w b) (contains_named (behind m.shape (is_inner m) l axis (not high)) (leaf_at w b) sends) (ap (same_letter x) one ∙ letter_same x) in
    has_leaf (same_letter x) (letters_of m leaves_in) 0 m.leaves n at.few
    (subst (λ k. list_any (same_letter x) (letters_of m leaves_in k l) ≡ true) (omega arith)
    (has_axis (same_letter x) (λ a. letters_across m leaves_in n l a false ++ letters_across m leaves_in n l a true) 0 m.shape.dims axis (omega arith) (omega arith)
    (in_sides (same_letter x) (λ (s : Bool). letters_across m leaves_in n l axis s) (not high) mapped)))

-- the block of a mesh with totals
pub mesh_is : (w : CycleMesh) (totals : List (List (List ℕ))) → IsCycleMesh w → IsMesh (mesh_with w totals)
mesh_is w totals is = record { shape = is.mesh.shape; some_cells = is.mesh.some_cells; tree = is.mesh.tree; balanced = is.mesh.balanced; leaves = is.mesh.leaves }

pub block_is : (w : CycleMesh) (totals : List (List (List ℕ))) (f b : ℕ) → IsCycleMesh w → b < block_count w → IsFieldBlock (block_with w totals f b)
block_is w totals f b is few = record { mesh = mesh_is w totals is; leaf = leaf_here w.mesh b is.mesh few; layout = record { dims = is.layout.dims; cells = is.layout.cells } }

pub side_is : (w : CycleMesh) (totals : List (List (List ℕ))) (f b axis : ℕ) → IsCycleMesh w → b < block_count w → axis < w.layout.dims → IsSide (block_with w totals f b) axis
side_is w totals f b axis is few used = record { sound = block_is w totals f b is few; used = used }

pub holds_own : (w : CycleMesh) (totals : List (List (List ℕ))) (f b : ℕ) (lists : ℕ → List ℕ) (rest : List ℕ) → HoldMesh w totals f lists → b < block_count w → HasInterior (block_with w totals f b) (with_ghosts w.layout (lists b) rest)
holds_own w totals f b lists rest holds few i inside = own_total w.layout (lists b) rest i inside ∙ holds b i few inside

-- so has the sender of a letter
sender_own : (w : CycleMesh) (totals : List (List (List ℕ))) (f b : ℕ) (lists : ℕ → List ℕ) (o : Loc) → IsCycleMesh w → HoldMesh w totals f lists → IsLeaf w.mesh.shape (is_inner w.mesh) o →
    HasInterior (on_block (block_with w totals f b) o) (with_ghosts w.layout (lists (leaf_number w.mesh o)) [])
sender_own w totals f b lists o is holds leaf =
    let at = numbered_leaf w.mesh o is.mesh leaf in
    subst (λ (v : Loc). HasInterior (on_block (block_with w totals f b) v) (with_ghosts w.layout (lists (leaf_number w.mesh o)) [])) at.is (holds_own w totals f (leaf_number w.mesh o) lists [] holds at.few)

-- what a letter from a sender of a kind gives
abbrev GivesBy : CycleMesh → ℕ → ℕ → (ℕ → List ℕ) → How → Exchange → Type 0
GivesBy w f b lists how x = HasRegion w.layout (received how w.layout x.axis x.high (part_by how w x)) (ghost_cell how w.layout x.axis (part_of how w.layout x.axis (not x.high) (part_by how w x) (with_ghosts w.layout (lists x.from) []))) (with_ghosts w.layout (lists b) (ghosts_from w lists b f))

gives_by : (w : CycleMesh) (f b : ℕ) (lists : ℕ → List ℕ) (axis : ℕ) (high : Bool) (o : Loc) (how : How) → IsCycleMesh w → b < block_count w → axis < w.mesh.shape.dims → Names (behind w.mesh.shape (is_inner w.mesh) (leaf_at w b) axis high) o →
    how_sent w (letter_from w b axis high o) ≡ how → GivesBy w f b lists how (letter_from w b axis high o)
gives_by w f b lists axis high o how is few used names kind =
    let x : Exchange = letter_from w b axis high o in
    subst (λ (h : How). GivesBy w f b lists h x) kind (letter_gives w b f x (lists b) (λ x. region_sent w x (lists x.from)) is (is_due w b axis high o is few used names) refl)

-- the kind of a sender, by its level
kind_of : (w : CycleMesh) (b axis : ℕ) (high : Bool) (o : Loc) (how : How) → IsCycleMesh w → IsLeaf w.mesh.shape (is_inner w.mesh) o → how_by (sender_of o (leaf_at w b)) ≡ how → how_sent w (letter_from w b axis high o) ≡ how
kind_of w b axis high o how is leaf kind = ap (λ (v : Loc). how_by (sender_of v (leaf_at w b))) (numbered_leaf w.mesh o is.mesh leaf).is ∙ kind

by_region : (l : Layout) (how : How) (axis : ℕ) (high : Bool) (half : ℕ) (part seen cells : List ℕ) → part ≡ seen → HasRegion l (received how l axis high half) (ghost_cell how l axis part) cells → HasRegion l (received how l axis high half) (ghost_cell how l axis seen) cells
by_region l how axis high half part seen cells e h = subst (λ (p : List ℕ). HasRegion l (received how l axis high half) (ghost_cell how l axis p) cells) e h

pub ghosts_see : GhostsSeeTheMesh
ghosts_see w totals f b lists is holds few axis high used = by (behind_side t axis high) refl
  where
    t : FieldBlock
    t = block_with w totals f b

    cells : List ℕ
    cells = with_ghosts w.layout (lists b) (ghosts_from w lists b f)

    side : IsSide (block_with w totals f b) axis
    side = side_is w totals f b axis is few used

    in_use : axis < w.mesh.shape.dims
    in_use = subst (λ d. axis < d) is.layout.dims used

    by : (v : Behind) → behind_side (block_with w totals f b) axis high ≡ v → SeesBeyondSide (block_with w totals f b) (with_ghosts w.layout (lists b) (ghosts_from w lists b f)) axis high
    by outside e =
        let face : is_domain_face w b axis high ≡ true = and_from (nat_lt b (block_count w)) (is_outside (behind w.mesh.shape (is_inner w.mesh) (leaf_at w b) axis high)) (lt-ltb b (block_count w) few) (ap is_outside e) in
        let given = outside_gives w b f axis high (lists b) (λ x. region_sent w x (lists x.from)) is face in_use in
        let amount : total_outside w b f axis high ≡ fields.outside w.settings f axis high (leaf_at w b).level = ap (λ (s : Bool). cond s (fields.outside w.settings f axis high (leaf_at w b).level) 0) face in
        outside_sees (block_with w totals f b) axis high (with_ghosts w.layout (lists b) (ghosts_from w lists b f)) side e
        (subst (λ n. HasRegion w.layout (ghosts w.layout axis high) (λ _. n) (with_ghosts w.layout (lists b) (ghosts_from w lists b f))) amount given)
    by (same o) e =
        let names : Names (behind w.mesh.shape (is_inner w.mesh) (leaf_at w b) axis high) o = subst (λ (v : Behind). Names v o) (sym e) refl in
        let leaf = named_leaf (block_with w totals f b) axis high o side names in
        let met = same_met (block_with w totals f b) axis high o e in
        let level : o.level ≡ (leaf_at w b).level = ap (λ (v : Loc). v.level) (sym met.1) ∙ crossed_level w.mesh.shape (leaf_at w b) axis high met.0.at met.0.meets in
        let kind = kind_of w b axis high o Same is leaf (ap how_by (same_kind o (leaf_at w b) level)) in
        let given = gives_by w f b lists axis high o Same is few in_use names kind in
        let sent = same_sends (block_with w totals f b) axis high o 0 (with_ghosts w.layout (lists (leaf_number w.mesh o)) []) side e (sender_own w totals f b lists o is holds leaf) in
        same_sees (block_with w totals f b) axis high o 0 (with_ghosts w.layout (lists b) (ghosts_from w lists b f)) side e
        (by_region w.layout Same axis high 0 _ (region (mesh_with w totals) f o (leaf_at w b) axis high) (with_ghosts w.layout (lists b) (ghosts_from w lists b f)) sent given)
    by (coarse o) e =
        let D : ℕ = w.mesh.shape.dims in
        let names : Names (behind w.mesh.shape (is_inner w.mesh) (leaf_at w b) axis high) o = subst (λ (v : Behind). Names v o) (sym e) refl in
        let met = above_is (block_with w totals f b) axis high o side e in
        let level = met.level in
        let kind = kind_of w b axis high o Coarser is met.leaf (ap how_by (coarser_kind o (leaf_at w b) (omega (arith, level)))) in
        let given = gives_by w f b lists axis high o Coarser is few in_use names kind in
        let sent = coarser_sends (block_with w totals f b) axis high o (with_ghosts w.layout (lists (leaf_number w.mesh o)) []) side e (sender_own w totals f b lists o is holds met.leaf) in
        coarser_sees (block_with w totals f b) axis high o (side_part axis (child_number D (leaf_at w b))) (with_ghosts w.layout (lists b) (ghosts_from w lists b f)) side e
        (by_region w.layout Coarser axis high (side_part axis (child_number D (leaf_at w b))) _ (region (mesh_with w totals) f o (leaf_at w b) axis high) (with_ghosts w.layout (lists b) (ghosts_from w lists b f)) sent given)
    by (fine os) e =
        finer_covers (block_with w totals f b) axis high os (with_ghosts w.layout (lists b) (ghosts_from w lists b f)) side e (λ o among.
        let D : ℕ = w.mesh.shape.dims in
        let names : Names (behind w.mesh.shape (is_inner w.mesh) (leaf_at w b) axis high) o = subst (λ (v : Behind). Names v o) (sym e) among in
        let met = below_is (block_with w totals f b) axis high os o side e among in
        let level = met.level in
        let at = numbered_leaf w.mesh o is.mesh met.leaf in
        let kind = kind_of w b axis high o Finer is met.leaf (ap how_by (finer_kind o (leaf_at w b) (omega (arith, level)))) in
        let given = gives_by w f b lists axis high o Finer is few in_use names kind in
        let part : side_part axis (child_number D (leaf_at w (leaf_number w.mesh o))) ≡ side_part axis (child_number D o) = ap (λ (v : Loc). side_part axis (child_number D v)) at.is in
        let sent = finer_sends (block_with w totals f b) axis high os o (side_part axis (child_number D (leaf_at w (leaf_number w.mesh o)))) (with_ghosts w.layout (lists (leaf_number w.mesh o)) []) side e among (sender_own w totals f b lists o is holds met.leaf) in
        finer_sees (block_with w totals f b) axis high os o (with_ghosts w.layout (lists b) (ghosts_from w lists b f)) side e among
        (subst (λ half. HasRegion w.layout (received Finer w.layout axis high half) (ghost_cell Finer w.layout axis (region (mesh_with w totals) f o (leaf_at w b) axis high)) (with_ghosts w.layout (lists b) (ghosts_from w lists b f))) part
        (by_region w.layout Finer axis high (side_part axis (child_number D (leaf_at w (leaf_number w.mesh o)))) _ (region (mesh_with w totals) f o (leaf_at w b) axis high) (with_ghosts w.layout (lists b) (ghosts_from w lists b f)) sent given)))
