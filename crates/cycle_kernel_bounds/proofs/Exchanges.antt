-- Parts of letters and ghosts are small.
use Rattle.std.proofs.Common.{◌≡◌, inl, inr, ℕ, zero, suc, ◌+◌, ◌*◌, ◌/◌, ◌%◌, ◌^◌, ◌<◌, ◌≤◌, Bool, true, false, cond, not, nat_lt, All, List, [], ◌∷◌, Contains, length, pos, replicate, refl, arith, ap, subst, sym, ◌∙◌, slice_index, lit<}
use Rattle.std.specs.List.{list_any, slice_index_or}
use Rattle.std.proofs.Math.Nat.{div-add-mod', div-le_self, mul-le-mul_left}
use Rattle.std.proofs.lemmas.Bool.{cases_lt, ltb-true}
use Rattle.std.proofs.lemmas.List.{get_or_past}
use Rattle.std.proofs.lemmas.List.Elements.{All-from_get_or, All-get_or}
use Rattle.mesh_num.specs.Share.{share}
use Rattle.morton_order.specs.declared.space.Loc.{Loc}
use Rattle.morton_order.specs.declared.space.Side.{Side}
use Rattle.morton_order.specs.Space.{parts}
use Rattle.morton_order.proofs.Any.{or_left, or_right}
use Rattle.morton_order.proofs.Crossing.{crossed_level}
use Rattle.block_tree.specs.Behind.{Behind, Names, coarse, fine, outside, same}
use Rattle.deck_entries.specs.SoundEntries.{IsMoves}
use Rattle.mesh_settings.specs.Limits.{greatest_total}
use Rattle.deck_entries.specs.declared.entries.Moves.{Moves}
use Rattle.mesh_settings.specs.declared.words.FaceKind.{FaceKind}
use Rattle.mesh_settings.specs.declared.words.FaceKind.TheVariants.{Periodic, Outflow, Reflecting, Inflow}
use Rattle.mesh_rules.specs.Due.{Exchange, ghost_letters}
use Rattle.mesh_rules.specs.Fields as fields
use Rattle.mesh_rules.specs.Fields.{entering, has_ghosts, kind_at, moves_at, outside_by, side_number}
use Rattle.mesh_rules.specs.Mesh.{Mesh}
use Rattle.mesh_rules.specs.Sums.{table}
use Rattle.block_layout.specs.declared.layout.Layout.{Layout}
use Rattle.block_layout.specs.Indices.{IsWithin, count_of, index_of, number_of}
use Rattle.block_layout.specs.Layouts.{len}
use Rattle.block_layout.specs.Regions.{interior}
use Rattle.block_layout.proofs.Boxes.{index_below}
use Rattle.block_geometry.specs.Blocks.{FieldBlock, cell_in}
use Rattle.block_geometry.proofs.Cells.{cell_inside}
use Rattle.block_geometry.proofs.Seen.{own_look}
use Rattle.block_regions.specs.Written.{place_in}
use Rattle.restrict_prolong.specs.Refined.{coarsened, factors, part_number}
use Rattle.ghost_buffers.specs.declared.part.How.{How}
use Rattle.ghost_buffers.specs.declared.part.How.TheVariants.{Same, Finer, Coarser}
use Rattle.ghost_buffers.specs.Parts.{PartBelow, part_cell, part_extents, part_of, sent}
use Rattle.ghost_buffers.specs.Ghosts.{ghost_cell}
use Rattle.letter_laws.specs.Sides.{IsSide, behind_side}
use Rattle.letter_laws.proofs.Behinds.{same_met}
use Rattle.letter_laws.proofs.Bounds.{looks_bounded, parts_below}
use Rattle.letter_laws.proofs.Boxes.{table_at}
use Rattle.letter_laws.proofs.CoarserLevel.{above_is}
use Rattle.letter_laws.proofs.Spans.{coarser_kind, same_kind}
use Rattle.cycle_kernels.specs.Blocks.{CycleMesh, block_count, is_domain_face, leaf_at, total_outside}
use Rattle.cycle_kernels.specs.Laws.{IsCycleMesh}
use Rattle.cycle_kernels.specs.Lists.{index_at, is_own, less, own_number, with_ghosts}
use Rattle.cycle_kernels.specs.Letters.{ghost_at, how_by, how_sent, outside_at, part_covered, region_given, region_sent, same_letter, sides, total_given}
use Rattle.cycle_kernels.proofs.Letters.{letter_same}
use Rattle.cycle_kernels.proofs.Tables.{table_long, zero_here}
use Rattle.cycle_kernel_laws.specs.Shown.{block_with, ghosts_from, mesh_with}
use Rattle.cycle_kernel_laws.proofs.Apart.{inside_of, used_here}
use Rattle.cycle_kernel_laws.proofs.Due.{IsLink, ghost_link, leaf_here}
use Rattle.cycle_kernel_laws.proofs.Given.{less_within}
use Rattle.cycle_kernel_laws.proofs.Sees.{block_is, holds_own, mesh_is, side_is}
use Rattle.cycle_kernel_bounds.specs.Bounds.{GhostsAreSmall, HoldBounded, PartsMayBeFilled}

-- what a letter's part is below
below_same : (bound : ℕ) (how is : How) (l : Layout) (axis : ℕ) (high : Bool) (half : ℕ) (cells : List ℕ) → how ≡ is → PartBelow bound is l axis high half cells → PartBelow bound how l axis high half cells
below_same bound how is l axis high half cells e h = subst (λ (v : How). PartBelow bound v l axis high half cells) (sym e) h

pub parts_may_be_filled : PartsMayBeFilled
parts_may_be_filled w totals f lists x rest hold due = by (behind_side b x.axis x.high) refl
  where
    b : FieldBlock
    b = block_with w totals f x.to

    link : IsLink w x
    link = ghost_link w x hold.cycle.mesh due

    side : IsSide (block_with w totals f x.to) x.axis
    side = side_is w totals f x.to x.axis hold.cycle (ghost_link w x hold.cycle.mesh due).few_to (used_here w x.axis hold.cycle (ghost_link w x hold.cycle.mesh due).used)

    by : (v : Behind) → behind_side (block_with w totals f x.to) x.axis x.high ≡ v → PartBelow (2 ^ 62) (how_sent w x) w.layout x.axis (not x.high) (part_covered w x) (with_ghosts w.layout (lists x.from) rest)
    by outside e = absurd (subst (λ (v : Behind). Names v (leaf_at w x.from)) e (ghost_link w x hold.cycle.mesh due).comes)
    by (same o) e =
        let from : leaf_at w x.from ≡ o = subst (λ (v : Behind). Names v (leaf_at w x.from)) e (ghost_link w x hold.cycle.mesh due).comes in
        let met = same_met (block_with w totals f x.to) x.axis x.high o e in
        let level : (leaf_at w x.from).level ≡ (leaf_at w x.to).level = ap (λ (v : Loc). v.level) from ∙ ap (λ (v : Loc). v.level) (sym met.1) ∙ crossed_level w.mesh.shape (leaf_at w x.to) x.axis x.high met.0.at met.0.meets in
        below_same (2 ^ 62) (how_sent w x) Same w.layout x.axis (not x.high) (part_covered w x) (with_ghosts w.layout (lists x.from) rest) (ap how_by (same_kind (leaf_at w x.from) (leaf_at w x.to) level)) tt
    by (coarse o) e =
        let from : leaf_at w x.from ≡ o = subst (λ (v : Behind). Names v (leaf_at w x.from)) e (ghost_link w x hold.cycle.mesh due).comes in
        let met = above_is (block_with w totals f x.to) x.axis x.high o side e in
        let level = met.level in
        let up : (leaf_at w x.from).level ≡ o.level = ap (λ (v : Loc). v.level) from in
        below_same (2 ^ 62) (how_sent w x) Coarser w.layout x.axis (not x.high) (part_covered w x) (with_ghosts w.layout (lists x.from) rest) (ap how_by (coarser_kind (leaf_at w x.from) (leaf_at w x.to) (omega (arith, level, up)))) tt
    by (fine os) e =
        let among : Contains os (leaf_at w x.from) = subst (λ (v : Behind). Names v (leaf_at w x.from)) e (ghost_link w x hold.cycle.mesh due).comes in
        any_how (how_sent w x) (parts_below (block_with w totals f x.to) x.axis x.high os (leaf_at w x.from) (part_covered w x) (2 ^ 62) (with_ghosts w.layout (lists x.from) rest) side e among
        (holds_own w totals f x.from lists rest hold.held (ghost_link w x hold.cycle.mesh due).few_from) hold.bounded.small)
      where
        any_how : (how : How) → PartBelow (2 ^ 62) Finer w.layout x.axis (not x.high) (part_covered w x) (with_ghosts w.layout (lists x.from) rest) → PartBelow (2 ^ 62) how w.layout x.axis (not x.high) (part_covered w x) (with_ghosts w.layout (lists x.from) rest)
        any_how Same h = tt
        any_how Finer h = h
        any_how Coarser h = tt

-- lists below a bound
abbrev pub AllBelow : ℕ → List ℕ → Type 0
AllBelow bound xs = (k : ℕ) → slice_index xs k < bound

table_below : (bound n : ℕ) (g : ℕ → ℕ) → 0 < bound → ((k : ℕ) → k < n → g k < bound) → AllBelow bound (table n g)
table_below bound n g some h k = elim (cases_lt k n) [
  | inl few ↦ subst (λ v. v < bound) (sym (table_at n g k few)) (h k few)
  | inr past ↦ subst (λ v. v < bound) (sym (get_or_past (table n g) k 0 (let long = table_long n g in omega (arith, long)))) some
]

-- own totals
pub own_below : (w : CycleMesh) (totals : List (List (List ℕ))) (f b : ℕ) (lists : ℕ → List ℕ) (i : List ℕ) → HoldBounded w totals f lists → b < block_count w → IsWithin w.layout.cells i → slice_index (lists b) (number_of w.layout.cells i) < 2 ^ 62
own_below w totals f b lists i hold few inside =
    let m : Mesh = mesh_with w totals in
    let sound = block_is w totals f b hold.cycle few in
    let within : IsWithin m.cells i = subst (λ (n : List ℕ). IsWithin n i) hold.cycle.layout.cells inside in
    let look = own_look (block_with w totals f b) i sound inside in
    let most = looks_bounded m f (cell_in m (leaf_at w b) i) (mesh_is w totals hold.cycle) (cell_inside m (leaf_at w b) i (leaf_here w.mesh b hold.cycle.mesh few).inside within) in
    let held = hold.held b i few inside in
    let small = hold.bounded.small in
    omega (arith, look, most, held, small)

pub list_below : (w : CycleMesh) (totals : List (List (List ℕ))) (f b : ℕ) (lists : ℕ → List ℕ) (rest : List ℕ) → HoldBounded w totals f lists → b < block_count w → AllBelow (2 ^ 62) rest → AllBelow (2 ^ 62) (with_ghosts w.layout (lists b) rest)
list_below w totals f b lists rest hold few ghosts =
    table_below (2 ^ 62) (len w.layout) (λ n. cond (is_own w.layout n) (slice_index (lists b) (own_number w.layout n)) (slice_index rest n)) (lit< tt) (λ n less. by n (is_own w.layout n) refl)
  where
    by : (n : ℕ) (t : Bool) → is_own w.layout n ≡ t → cond t (slice_index (lists b) (own_number w.layout n)) (slice_index rest n) < 2 ^ 62
    by n true own = own_below w totals f b lists (less (index_at w.layout n) (interior w.layout).low) hold few (less_within (interior w.layout) (index_at w.layout n) (inside_of (interior w.layout) (index_at w.layout n) own))
    by n false ghost = ghosts n

nothing_below : AllBelow (2 ^ 62) []
nothing_below k = lit< tt

-- parts, and what they give
part_small : (how : How) (l : Layout) (axis : ℕ) (high : Bool) (half : ℕ) (cells : List ℕ) → AllBelow (2 ^ 62) cells → PartBelow (2 ^ 62) how l axis high half cells → AllBelow (2 ^ 62) (part_of how l axis high half cells)
part_small how l axis high half cells small below = table_below (2 ^ 62) (count_of (part_extents how l axis)) (λ k. part_cell how l axis high half cells (index_of (part_extents how l axis) k)) (lit< tt) (λ k few. by how below k few)
  where
    by : (how : How) → PartBelow (2 ^ 62) how l axis high half cells → (k : ℕ) → k < count_of (part_extents how l axis) → part_cell how l axis high half cells (index_of (part_extents how l axis) k) < 2 ^ 62
    by Same h k few = small (place_in l (sent Same l axis high half) (index_of (part_extents Same l axis) k))
    by Finer h k few = h (index_of (part_extents Finer l axis) k) (index_below (part_extents Finer l axis) k few)
    by Coarser h k few = small (place_in l (sent Coarser l axis high half) (index_of (part_extents Coarser l axis) k))

share_most : (q n j : ℕ) → 2 ≤ n → share q n j ≤ q
share_most q n j two = by (nat_lt j (q % n)) refl
  where
    by : (t : Bool) → nat_lt j (q % n) ≡ t → q / n + cond t 1 0 ≤ q
    by true e =
        let some = ltb-true j (q % n) e in
        let whole : q / n * n + q % n ≡ q = div-add-mod' q n in
        let more : q / n * 1 ≤ q / n * n = mul-le-mul_left (q / n) (omega arith) in
        omega (arith, some, whole, more)
    by false e = let less = div-le_self q n in omega (arith, less)

two_parts : (d : ℕ) → 1 ≤ d → d ≤ 3 → 2 ≤ count_of (factors d)
two_parts zero h m = absurd (omega arith)
two_parts (suc zero) h m = omega arith
two_parts (suc (suc zero)) h m = omega arith
two_parts (suc (suc (suc zero))) h m = omega arith
two_parts (suc (suc (suc (suc d)))) h m = absurd (omega arith)

given_small : (how : How) (l : Layout) (axis : ℕ) (part i : List ℕ) → AllBelow (2 ^ 62) part → ghost_cell how l axis part i < 2 ^ 62
given_small Same l axis part i small = small (number_of (part_extents Same l axis) i)
given_small Finer l axis part i small = small (number_of (part_extents Finer l axis) i)
given_small Coarser l axis part i small =
    let n : ℕ = number_of (part_extents Coarser l axis) (coarsened (factors l.dims) i) in
    let most = share_most (slice_index part n) (count_of (factors l.dims)) (part_number (factors l.dims) i) (two_parts l.dims l.sound.least l.sound.most) in
    let few = small n in
    omega (arith, most, few)

-- what stands outside
entry_small : (w : CycleMesh) (f k : ℕ) → IsCycleMesh w → slice_index (moves_at w.settings f).entry k < 2 ^ 62
entry_small w f k is = elim (cases_lt f (length w.settings.moves)) [
  | inl few ↦ item_small (moves_at w.settings f).entry k (All-get_or IsMoves w.settings.moves f (record { v = replicate 3 (pos 0); k = 0; order = 1; entry = replicate 6 0 }) few is.fields.moves_sound).amounts
  | inr more ↦ no_entry w.settings.moves f (record { v = replicate 3 (pos 0); k = 0; order = 1; entry = replicate 6 0 }) k more (zero_here 6 k)
]
  where
    item_small : (xs : List ℕ) (k : ℕ) → All (λ amount. amount ≤ greatest_total) xs → slice_index xs k < 2 ^ 62
    item_small xs k all = elim (cases_lt k (length xs)) [
      | inl few ↦ let most = All-get_or (λ amount. amount ≤ 4611686018427387903) xs k 0 few all in omega (arith, most)
      | inr past ↦ let none = get_or_past xs k 0 past in omega (arith, none)
    ]

    no_entry : (xs : List Moves) (f : ℕ) (d : Moves) (k : ℕ) → length xs ≤ f → slice_index d.entry k ≡ 0 → slice_index (slice_index_or xs f d).entry k < 2 ^ 62
    no_entry xs f d k past none = let same = ap (λ (m : Moves). slice_index m.entry k) (get_or_past xs f d past) in omega (arith, same, none)

outside_small : (w : CycleMesh) (f axis : ℕ) (high : Bool) (level : ℕ) → IsCycleMesh w → fields.outside w.settings f axis high level < 2 ^ 62
outside_small w f axis high level is = by (kind_at w.settings axis high) (has_ghosts w.settings f)
  where
    by : (kind : FaceKind) (has : Bool) → outside_by kind (cond has (slice_index (moves_at w.settings f).entry (side_number axis high) / 2 ^ (w.settings.shape.dims * level)) 0) < 2 ^ 62
    by Inflow true = let less = div-le_self (slice_index (moves_at w.settings f).entry (side_number axis high)) (2 ^ (w.settings.shape.dims * level)) in let few = entry_small w f (side_number axis high) is in omega (arith, less, few)
    by Inflow false = lit< tt
    by Outflow has = lit< tt
    by Reflecting has = lit< tt
    by Periodic has = lit< tt

face_small : (w : CycleMesh) (b f axis : ℕ) (high : Bool) → IsCycleMesh w → total_outside w b f axis high < 2 ^ 62
face_small w b f axis high is = by (is_domain_face w b axis high)
  where
    by : (t : Bool) → cond t (fields.outside w.settings f axis high (leaf_at w b).level) 0 < 2 ^ 62
    by true = outside_small w f axis high (leaf_at w b).level is
    by false = lit< tt

either_below : (t : Bool) (a b bound : ℕ) → a < bound → b < bound → cond t a b < bound
either_below true a b bound h k = h
either_below false a b bound h k = k

beyond_small : (w : CycleMesh) (b f : ℕ) (ss : List Side) (u : List ℕ) → IsCycleMesh w → outside_at w b f ss u < 2 ^ 62
beyond_small w b f [] u is = lit< tt
beyond_small w b f (s ∷ ss) u is = either_below _ (total_outside w b f s.axis s.high) (outside_at w b f ss u) (2 ^ 62) (face_small w b f s.axis s.high is) (beyond_small w b f ss u is)

ghost_small : (w : CycleMesh) (b f : ℕ) (xs : List Exchange) (parts : Exchange → List ℕ) (u : List ℕ) → IsCycleMesh w → ((x : Exchange) → list_any (same_letter x) xs ≡ true → AllBelow (2 ^ 62) (parts x)) → ghost_at w b f xs parts u < 2 ^ 62
ghost_small w b f [] parts u is small = beyond_small w b f (sides w.mesh.shape.dims) u is
ghost_small w b f (x ∷ xs) parts u is small =
    either_below _ (total_given w x (parts x) u) (ghost_at w b f xs parts u) (2 ^ 62)
    (given_small (how_sent w x) w.layout x.axis (parts x) (less u (region_given w x).low) (small x (or_left (same_letter x x) (list_any (same_letter x) xs) (letter_same x))))
    (ghost_small w b f xs parts u is (λ y h. small y (or_right (same_letter y x) (list_any (same_letter y) xs) h)))

pub ghosts_below : (w : CycleMesh) (totals : List (List (List ℕ))) (f b : ℕ) (lists : ℕ → List ℕ) → HoldBounded w totals f lists → AllBelow (2 ^ 62) (ghosts_from w lists b f)
ghosts_below w totals f b lists hold =
    table_below (2 ^ 62) (len w.layout) (λ n. ghost_at w b f (ghost_letters w.mesh) (λ x. region_sent w x (lists x.from)) (index_at w.layout n)) (lit< tt)
    (λ n few. ghost_small w b f (ghost_letters w.mesh) (λ x. region_sent w x (lists x.from)) (index_at w.layout n) hold.cycle (λ x due.
    part_small (how_sent w x) w.layout x.axis (not x.high) (part_covered w x) (with_ghosts w.layout (lists x.from) []) (list_below w totals f x.from lists [] hold (ghost_link w x hold.cycle.mesh due).few_from nothing_below)
    (parts_may_be_filled w totals f lists x [] hold due)))

pub ghosts_are_small : GhostsAreSmall
ghosts_are_small w totals f b lists hold few =
    All-from_get_or (λ total. total < 2 ^ 62) (with_ghosts w.layout (lists b) (ghosts_from w lists b f)) 0 (λ k less. list_below w totals f b lists (ghosts_from w lists b f) hold few (ghosts_below w totals f b lists hold) k)
