-- What is seen in the ghost layers, by the sender.
use Rattle.std.proofs.Common.{◌≡◌, ℕ, true, List, arith, ap, subst, sym, ◌∙◌, slice_index}
use Rattle.mesh_num.specs.Share.{share}
use Rattle.morton_order.specs.declared.space.Loc.{Loc}
use Rattle.morton_order.specs.Space.{child, child_number, parent, parts}
use Rattle.morton_order.proofs.Family.{parent-child}
use Rattle.block_tree.specs.Tree.{IsLeaf}
use Rattle.block_tree.proofs.Ancestors.{node_parent}
use Rattle.mesh_rules.specs.Mesh.{Mesh, OnLeaf, block_of, is_inner}
use Rattle.mesh_rules.specs.Look.{look}
use Rattle.mesh_laws.proofs.Looks.{look_law, no_node}
use Rattle.mesh_laws.proofs.Totals.{sum_to-same}
use Rattle.block_layout.specs.Indices.{IsWithin}
use Rattle.block_geometry.specs.Blocks.{FieldBlock, IsFieldBlock, cell_in, own_place}
use Rattle.block_geometry.specs.Contents.{HasInterior}
use Rattle.block_geometry.proofs.Cells.{block_of_cell_in}
use Rattle.block_geometry.proofs.Seen.{own_seen}
use Rattle.ghost_laws.specs.Layers.{across_index, on_block}
use Rattle.ghost_laws.specs.Refined.{coarser_index, finer_index}
use Rattle.ghost_laws.specs.Seen.{CoarserSeen, FinerSeen, OutsideSeen, SameSeen}
use Rattle.ghost_laws.proofs.Layers as layers
use Rattle.ghost_laws.proofs.Layers.{layer_look, sizes, within_across}
use Rattle.ghost_laws.proofs.Refined.{child_cell, coarser_within, finer_within, number_of_cell, parent_cell}

pub outside_seen : OutsideSeen
outside_seen = layers.outside_seen

-- an index of the mesh's blocks is one of the layout
pub in_layout : (b : FieldBlock) (i : List ℕ) → IsFieldBlock b → IsWithin b.mesh.cells i → IsWithin b.layout.cells i
in_layout b i sound w = subst (λ (n : List ℕ). IsWithin n i) (sym sound.layout.cells) w

-- what a block has in a cell is the look there
pub has_look : (b : FieldBlock) (o : Loc) (cells i : List ℕ) → IsFieldBlock (on_block b o) → HasInterior (on_block b o) cells → IsWithin b.mesh.cells i → look b.mesh b.field (cell_in b.mesh o i) ≡ slice_index cells (own_place b.layout i)
has_look b o cells i sound has w = sym (own_seen (on_block b o) cells i sound has (in_layout (on_block b o) i sound w))

pub same_seen : SameSeen
same_seen b axis high o i cells layer beside few meets sound has =
    layer_look b axis high o i layer beside few meets
    ∙ has_look b o cells (across_index b.mesh axis high layer i) sound has (within_across b axis high i layer beside few)

pub finer_seen : FinerSeen
finer_seen b axis high o j i cells layer beside few meets sound has lies =
    let m : Mesh = b.mesh in
    let d : ℕ = m.shape.dims in
    let q : List ℕ = across_index m axis high layer i in
    let c : Loc = cell_in m o q in
    let fit = sizes b beside.sound in
    let above : is_inner m o ≡ true = ap (is_inner m) (sym (parent-child d o j)) ∙ node_parent m.shape (is_inner m) (child d o j) (omega arith) sound.leaf.node in
    let inner : is_inner m (block_of m c) ≡ true = ap (is_inner m) (block_of_cell_in m o q (within_across b axis high i layer beside few)) ∙ above in
    layer_look b axis high o i layer beside few meets
    ∙ (look_law m b.field c beside.sound.mesh).finer inner
    ∙ sum_to-same (parts d) (λ k. look m b.field (child d c k)) (λ k. slice_index cells (own_place b.layout (finer_index m q k)))
    (λ k small. ap (look m b.field) (child_cell m o q j k fit lies) ∙ has_look b (child d o j) cells (finer_index m q k) sound has (finer_within m q k fit))

pub coarser_seen : CoarserSeen
coarser_seen b axis high o i cells layer beside few meets deep sound has =
    let m : Mesh = b.mesh in
    let d : ℕ = m.shape.dims in
    let q : List ℕ = across_index m axis high layer i in
    let c : Loc = cell_in m o q in
    let fit = sizes b beside.sound in
    let w = within_across b axis high i layer beside few in
    let r : List ℕ = coarser_index m (child_number d o) q in
    let up = parent_cell m o q fit in
    let below = coarser_within m (child_number d o) q fit w in
    let leaf : OnLeaf m (parent d c) = subst (λ (v : Loc). IsLeaf m.shape (is_inner m) (block_of m v)) (sym up)
    (subst (λ (v : Loc). IsLeaf m.shape (is_inner m) v) (sym (block_of_cell_in m (parent d o) r below)) sound.leaf) in
    layer_look b axis high o i layer beside few meets
    ∙ (look_law m b.field c beside.sound.mesh).coarser (no_node m c deep leaf)
    ∙ ap (λ t. share t (parts d) (child_number d c)) (ap (look m b.field) up ∙ has_look b (parent d o) cells r sound has below)
    ∙ ap (share (slice_index cells (own_place b.layout r)) (parts d)) (number_of_cell m o q fit)
