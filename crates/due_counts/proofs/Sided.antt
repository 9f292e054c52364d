-- The letters of a side, and of a leaf.
use Rattle.std.proofs.Common.{◌≡◌, ℕ, ◌+◌, ◌-◌, ◌*◌, ◌/◌, ◌<◌, ◌≤◌, Bool, true, false, Some, List, ◌++◌, length, length-append, arith, ap, sym, subst, ◌∙◌}
use Rattle.std.specs.Prelude.{slice_get}
use Rattle.std.specs.List.{flat_map, range_with_len, slice_index_or}
use Rattle.std.proofs.lemmas.List.{length-map}
use Rattle.std.proofs.lemmas.List.Elements.{All-map}
use Rattle.std.proofs.lemmas.Option.{slice_get-get_or}
use Rattle.std.proofs.Math.Nat.{div-mul-le_self, lt-div-mul-add}
use Rattle.std.proofs.lemmas.Nat.{le-div}
use Rattle.morton_order.specs.declared.space.Loc.{Loc}
use Rattle.block_tree.specs.declared.neighbour.Behind.{Behind as Answer}
use Rattle.block_tree.specs.Behind.{Behind, behind}
use Rattle.block_tree.specs.Blocks.{TreeOfBlocks, is_inner_of, leaves}
use Rattle.block_tree.specs.Numbered.{numbered}
use Rattle.mesh_rules.specs.Due.{coarser_in}
use Rattle.mesh_rules.specs.Regions.{leaves_in}
use Rattle.due_counts.specs.declared.counts.Counts.{Counts}
use Rattle.due_counts.specs.Counts.{AddsAll, AreBounded, CanAdd, CanTake}
use Rattle.due_counts.specs.Sides.{all_of, coarser_of, divided, leaf_lists, leaf_of, list_at, side_lists}
use Rattle.due_counts.proofs.Added.{adds_both, adds_none}
use Rattle.due_counts.proofs.Behinds.{AreNumbers, Names, eight_behind, fewer_coarser, lists_are, names}
use Rattle.due_counts.proofs.Totals.{flat_more}

-- a leaf's list is one of those that there are
list_below : (n count size : ℕ) → 1 ≤ size → n < count → n / size < (count + size - 1) / size
list_below n count size some less =
    let from = div-mul-le_self n size in
    let below = lt-div-mul-add {a = n} {b = size} (omega (arith, some)) in
    let list : n / size + 1 ≤ (count + size - 1) / size = le-div (n / size + 1) (count + size - 1) size (omega (arith, some)) (omega (arith, from, below, less)) in
    omega (arith, list)

-- what the tree names behind a side of a leaf
pub side_names : (t : TreeOfBlocks) (leaf axis : ℕ) (high : Bool) (a : Answer) → leaf < length (leaves t)
    → ((l : Loc) → slice_get (leaves t) leaf ≡ Some l → numbered (leaves t) (behind t.shape (is_inner_of t) l axis high) ≡ Some a)
    → Names (leaves t) (behind t.shape (is_inner_of t) (leaf_of t leaf) axis high) a
side_names t leaf axis high a less told = names (leaves t) (behind t.shape (is_inner_of t) (leaf_of t leaf) axis high) a
    (told (leaf_of t leaf) (slice_get-get_or (leaves t) leaf (record { level = 0; l1 = 0; l2 = 0; l3 = 0 }) less))

numbers_long : (ls : List Loc) (ns : List ℕ) (os : List Loc) → AreNumbers ls ns os → length ns ≡ length os
numbers_long ls ns os are = ap length (sym are.are) ∙ length-map os _

can_count : (t : TreeOfBlocks) (size : ℕ) (ns : List ℕ) (os : List Loc) (c : Counts) → 1 ≤ size → AreNumbers (leaves t) ns os → length os ≤ 8
    → CanTake ((length (leaves t) + size - 1) / size) 8 c → CanAdd (divided size ns) c
can_count t size ns os c some are few can = record {
  lists_are = All-map (λ k. k < length c.each.items) (λ n. n / size) ns
      (λ k d less. subst (λ (m : ℕ). slice_index_or ns k d / size < m) (sym can.long) (list_below (slice_index_or ns k d) (length (leaves t)) size some (are.few k d less)));
  bounded = can.bounded;
  few = omega (arith, can.few, few, numbers_long (leaves t) ns os are, length-map ns (λ n. n / size));
}

module _ (t : TreeOfBlocks) (size leaf axis : ℕ) (high : Bool) (a : Answer) (some : 1 ≤ size) (less : leaf < length (leaves t))
    (told : (l : Loc) → slice_get (leaves t) leaf ≡ Some l → numbered (leaves t) (behind t.shape (is_inner_of t) l axis high) ≡ Some a) where
  abbrev there : Behind
  there = behind t.shape (is_inner_of t) (leaf_of t leaf) axis high

  abbrev named : Names (leaves t) there a
  named = side_names t leaf axis high a less told

  pub few_there : length (leaves_in there) ≤ 8
  few_there = eight_behind t.shape (is_inner_of t) (leaf_of t leaf) axis high

  pub can_ghosts : (c : Counts) → CanTake ((length (leaves t) + size - 1) / size) 8 c → CanAdd (divided size (all_of a)) c
  can_ghosts c can = can_count t size (all_of a) (leaves_in there) c some named.all few_there can

  pub can_fluxes : (c : Counts) → CanTake ((length (leaves t) + size - 1) / size) 8 c → CanAdd (divided size (coarser_of a)) c
  can_fluxes c can = can_count t size (coarser_of a) (coarser_in there) c some named.coarser (omega (arith, few_there, fewer_coarser there)) can

  pub side_ghosts : (old new : Counts) → AddsAll (divided size (all_of a)) old new → AddsAll (side_lists t size leaves_in leaf axis high) old new
  side_ghosts old new adds = subst (λ (v : List ℕ). AddsAll v old new) (lists_are (leaves t) size (all_of a) (leaves_in there) named.all) adds

  pub side_fluxes : (old new : Counts) → AddsAll (divided size (coarser_of a)) old new → AddsAll (side_lists t size coarser_in leaf axis high) old new
  side_fluxes old new adds = subst (λ (v : List ℕ). AddsAll v old new) (lists_are (leaves t) size (coarser_of a) (coarser_in there) named.coarser) adds

-- no more than eight letters go across a side
pub few_ghosts : (t : TreeOfBlocks) (size leaf axis : ℕ) (high : Bool) → length (side_lists t size leaves_in leaf axis high) ≤ 8
few_ghosts t size leaf axis high = omega (arith, length-map (leaves_in (behind t.shape (is_inner_of t) (leaf_of t leaf) axis high)) (list_at t size), eight_behind t.shape (is_inner_of t) (leaf_of t leaf) axis high)

pub few_fluxes : (t : TreeOfBlocks) (size leaf axis : ℕ) (high : Bool) → length (side_lists t size coarser_in leaf axis high) ≤ 8
few_fluxes t size leaf axis high = omega (
  arith,
  length-map (coarser_in (behind t.shape (is_inner_of t) (leaf_of t leaf) axis high)) (list_at t size),
  fewer_coarser (behind t.shape (is_inner_of t) (leaf_of t leaf) axis high),
  eight_behind t.shape (is_inner_of t) (leaf_of t leaf) axis high,
)

-- a leaf's letters, axis by axis
pub axis_more : (t : TreeOfBlocks) (size leaf axis : ℕ) (receivers : Behind → List Loc) (a b c d : Counts)
    → AddsAll (flat_map (λ x. side_lists t size receivers leaf x false ++ side_lists t size receivers leaf x true) (range_with_len 0 axis)) a b
    → AddsAll (side_lists t size receivers leaf axis false) b c → AddsAll (side_lists t size receivers leaf axis true) c d
    → AddsAll (flat_map (λ x. side_lists t size receivers leaf x false ++ side_lists t size receivers leaf x true) (range_with_len 0 (axis + 1))) a d
axis_more t size leaf axis receivers a b c d before low high =
    let each : ℕ → List ℕ = λ x. side_lists t size receivers leaf x false ++ side_lists t size receivers leaf x true in
    subst (λ (v : List ℕ). AddsAll v a d) (sym (flat_more each axis))
    (adds_both (flat_map each (range_with_len 0 axis)) (each axis) a b d before
    (adds_both (side_lists t size receivers leaf axis false) (side_lists t size receivers leaf axis true) b c d low high))

-- how many there are by then
pub axis_few : (t : TreeOfBlocks) (size leaf axis : ℕ) (receivers : Behind → List Loc)
    → ((x : ℕ) (high : Bool) → length (side_lists t size receivers leaf x high) ≤ 8)
    → length (flat_map (λ x. side_lists t size receivers leaf x false ++ side_lists t size receivers leaf x true) (range_with_len 0 axis)) ≤ 16 * axis
axis_few t size leaf ℕ.zero receivers few = omega arith
axis_few t size leaf (ℕ.suc n) receivers few =
    let each : ℕ → List ℕ = λ x. side_lists t size receivers leaf x false ++ side_lists t size receivers leaf x true in
    let more : flat_map each (range_with_len 0 (ℕ.suc n)) ≡ flat_map each (range_with_len 0 n) ++ each n =
    ap (λ (k : ℕ). flat_map each (range_with_len 0 k)) (let e : ℕ.suc n ≡ n + 1 = omega arith in e) ∙ flat_more each n in
    omega (
      arith,
      ap length more,
      length-append (flat_map each (range_with_len 0 n)) (each n),
      axis_few t size leaf n receivers few,
      length-append (side_lists t size receivers leaf n false) (side_lists t size receivers leaf n true),
      few n false,
      few n true,
    )

-- leaf by leaf
pub leaf_more : (t : TreeOfBlocks) (size leaf : ℕ) (receivers : Behind → List Loc) (a b c : Counts)
    → AddsAll (flat_map (leaf_lists t size receivers) (range_with_len 0 leaf)) a b → AddsAll (leaf_lists t size receivers leaf) b c
    → AddsAll (flat_map (leaf_lists t size receivers) (range_with_len 0 (leaf + 1))) a c
leaf_more t size leaf receivers a b c before now =
    subst (λ (v : List ℕ). AddsAll v a c) (sym (flat_more (leaf_lists t size receivers) leaf))
    (adds_both (flat_map (leaf_lists t size receivers) (range_with_len 0 leaf)) (leaf_lists t size receivers leaf) a b c before now)

pub leaf_few : (t : TreeOfBlocks) (size leaf : ℕ) (receivers : Behind → List Loc) → ((k : ℕ) → length (leaf_lists t size receivers k) ≤ 48)
    → length (flat_map (leaf_lists t size receivers) (range_with_len 0 leaf)) ≤ 48 * leaf
leaf_few t size ℕ.zero receivers few = omega arith
leaf_few t size (ℕ.suc n) receivers few =
    let each : ℕ → List ℕ = leaf_lists t size receivers in
    let more : flat_map each (range_with_len 0 (ℕ.suc n)) ≡ flat_map each (range_with_len 0 n) ++ each n =
    ap (λ (k : ℕ). flat_map each (range_with_len 0 k)) (let e : ℕ.suc n ≡ n + 1 = omega arith in e) ∙ flat_more each n in
    omega (arith, ap length more, length-append (flat_map each (range_with_len 0 n)) (each n), leaf_few t size n receivers few, few n)

-- so many can still be taken
pub can_take_less : (lists more less : ℕ) (xs : List ℕ) (a b : Counts) → CanTake lists more a → AddsAll xs a b → length xs + less ≤ more → CanTake lists less b
can_take_less lists more less xs a b can adds few = record {
  long = adds.long ∙ can.long;
  bounded = adds.bounded;
  few = omega (arith, can.few, adds.all, few);
}

-- the leaf's letters are few
pub leaf_ghosts_few : (t : TreeOfBlocks) (size leaf : ℕ) → t.shape.dims ≤ 3 → length (leaf_lists t size leaves_in leaf) ≤ 48
leaf_ghosts_few t size leaf dims = omega (arith, dims, axis_few t size leaf t.shape.dims leaves_in (λ x high. few_ghosts t size leaf x high))

pub leaf_fluxes_few : (t : TreeOfBlocks) (size leaf : ℕ) → t.shape.dims ≤ 3 → length (leaf_lists t size coarser_in leaf) ≤ 48
leaf_fluxes_few t size leaf dims = omega (arith, dims, axis_few t size leaf t.shape.dims coarser_in (λ x high. few_fluxes t size leaf x high))

-- the letters of a leaf across the sides along its first axes were counted, and those of the first leaves
pub record AxesWalked (t : TreeOfBlocks) (size leaf axis : ℕ) (first_ghosts ghosts first_fluxes fluxes : Counts) : Type 0 where
  pub ghost_part : AddsAll (flat_map (λ x. side_lists t size leaves_in leaf x false ++ side_lists t size leaves_in leaf x true) (range_with_len 0 axis)) first_ghosts ghosts
  pub flux_part : AddsAll (flat_map (λ x. side_lists t size coarser_in leaf x false ++ side_lists t size coarser_in leaf x true) (range_with_len 0 axis)) first_fluxes fluxes

pub record LeavesWalked (t : TreeOfBlocks) (size leaf : ℕ) (first_ghosts ghosts first_fluxes fluxes : Counts) : Type 0 where
  pub ghost_part : AddsAll (flat_map (leaf_lists t size leaves_in) (range_with_len 0 leaf)) first_ghosts ghosts
  pub flux_part : AddsAll (flat_map (leaf_lists t size coarser_in) (range_with_len 0 leaf)) first_fluxes fluxes

pub no_axis : (t : TreeOfBlocks) (size leaf : ℕ) (g f : Counts) → AreBounded g → AreBounded f → AxesWalked t size leaf 0 g g f f
no_axis t size leaf g f gs fs = record { ghost_part = adds_none g gs; flux_part = adds_none f fs }

pub no_leaf : (t : TreeOfBlocks) (size : ℕ) (g f : Counts) → AreBounded g → AreBounded f → LeavesWalked t size 0 g g f f
no_leaf t size g f gs fs = record { ghost_part = adds_none g gs; flux_part = adds_none f fs }
