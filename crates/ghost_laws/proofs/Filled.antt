-- Ghosts that are filled from the lists of the leaves are the look.
use Rattle.std.proofs.Common.{◌≡◌, ℕ, ◌<◌, Bool, true, false, cond, Option, Some, None, List, refl, arith, sym, ◌∙◌, slice_index}
use Rattle.morton_order.specs.declared.space.Loc.{Loc}
use Rattle.morton_order.specs.Space.{child, child_number, parent}
use Rattle.morton_order.specs.Neighbours.{across}
use Rattle.block_tree.specs.Tree.{is_node}
use Rattle.block_tree.proofs.Ancestors.{not_node}
use Rattle.mesh_rules.specs.Mesh.{Mesh, is_inner}
use Rattle.block_geometry.specs.Blocks.{FieldBlock, ghost_place}
use Rattle.ghost_laws.specs.Layers.{across_index, seen_in_layer}
use Rattle.ghost_laws.specs.Refined.{child_at}
use Rattle.ghost_laws.specs.Given.{FilledSees, HasInteriors, IsBeside, coarser_total, finer_total, given_across, same_total}
use Rattle.ghost_laws.proofs.Ghosts.{coarser_seen, finer_seen, outside_seen, same_seen}
use Rattle.ghost_laws.proofs.Layers.{sizes, within_across}
use Rattle.ghost_laws.proofs.Senders.{coarser_leaf, finer_leaf, leaf_block, lies_in_child, same_leaf}

-- one of three, by two tests
by_tests : (p q : Bool) (a x y z : ℕ) → (p ≡ true → a ≡ x) → (p ≡ false → q ≡ true → a ≡ y) → (p ≡ false → q ≡ false → a ≡ z) → a ≡ cond p x (cond q y z)
by_tests true q a x y z f g h = f refl
by_tests false true a x y z f g h = g refl refl
by_tests false false a x y z f g h = h refl refl

pub seen_is_given : (b : FieldBlock) (lists : Loc → List ℕ) (axis : ℕ) (high : Bool) (i : List ℕ) (layer : ℕ) → IsBeside b axis high i → layer < 2 → HasInteriors b lists → (o : Option Loc) → across b.mesh.shape b.leaf axis high ≡ o →
    seen_in_layer b i axis high layer ≡ given_across b lists axis high layer i o
seen_is_given b lists axis high i layer beside few have None meets = outside_seen b axis high i layer beside meets
seen_is_given b lists axis high i layer beside few have (Some o) meets =
    let m : Mesh = b.mesh in
    let d : ℕ = m.shape.dims in
    let q : List ℕ = across_index m axis high layer i in
    let j : ℕ = child_at m q in
    by_tests (is_inner m o) (is_node m.shape (is_inner m) o) (seen_in_layer b i axis high layer)
    (finer_total b (lists (child d o j)) q) (same_total b (lists o) q) (coarser_total b (lists (parent d o)) (child_number d o) q)
    (λ inner.
    let lies = lies_in_child m q (sizes b beside.sound) (within_across b axis high i layer beside few) in
    let leaf = finer_leaf b axis high o j i layer beside few meets inner lies in
    finer_seen b axis high o j i (lists (child d o j)) layer beside few meets (leaf_block b (child d o j) beside.sound leaf) (have (child d o j) leaf) lies)
    (λ outer node.
    let leaf = same_leaf b axis high o i beside meets outer node in
    same_seen b axis high o i (lists o) layer beside few meets (leaf_block b o beside.sound leaf) (have o leaf))
    (λ outer none.
    let leaf = coarser_leaf b axis high o i beside meets outer none in
    coarser_seen b axis high o i (lists (parent d o)) layer beside few meets (not_node m.shape (is_inner m) o none).0 (leaf_block b (parent d o) beside.sound leaf) (have (parent d o) leaf))

pub filled_sees : FilledSees
filled_sees b lists cells sound have filled axis high used i w at =
    let beside : IsBeside b axis high i = record { sound = sound; used = used; within = w; at = at } in
    let one : (layer : ℕ) → layer < 2 → slice_index cells (ghost_place b.layout axis high layer i) ≡ seen_in_layer b i axis high layer = λ layer few.
    filled axis high i layer beside few ∙ sym (seen_is_given b lists axis high i layer beside few have (across b.mesh.shape b.leaf axis high) refl) in
    record { next = one 0 (omega arith); second = one 1 (omega arith) }
