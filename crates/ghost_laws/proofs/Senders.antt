-- The blocks that give ghosts are leaves.
use Rattle.std.proofs.Common.{◌≡◌, ℕ, ◌+◌, ◌*◌, ◌/◌, ◌%◌, ◌<◌, Bool, true, false, cond, not, nat_lt, Some, List, map, refl, arith, ap, subst, sym, ◌∙◌, slice_index}
use Rattle.std.proofs.lemmas.Bool.{false≢true}
use Rattle.std.proofs.lemmas.Nat.{div_below}
use Rattle.morton_order.specs.declared.space.Loc.{Loc}
use Rattle.morton_order.specs.Space.{child, parent}
use Rattle.morton_order.specs.Neighbours.{across}
use Rattle.morton_order.proofs.Crossing.{across-touches}
use Rattle.morton_order.proofs.Family.{child_inside, parent-child}
use Rattle.block_tree.specs.Tree.{IsLeaf, is_node}
use Rattle.block_tree.specs.Behind.{Behind, Names, behind, behind_at, children_at, coarse, fine, same}
use Rattle.block_tree.proofs.Ancestors.{node_parent, parent_node}
use Rattle.block_tree.proofs.Behinds.{behind_is_exact}
use Rattle.mesh_rules.specs.Mesh.{Mesh, cells_along, is_inner}
use Rattle.block_layout.specs.Sizes.{IsLayout}
use Rattle.block_layout.specs.Indices.{IsWithin}
use Rattle.block_geometry.specs.Blocks.{FieldBlock, IsFieldBlock}
use Rattle.block_geometry.proofs.Seen.{three_axes}
use Rattle.ghost_laws.specs.Layers.{across_index, on_block}
use Rattle.ghost_laws.specs.Refined.{LiesInChild, child_at, half_cells}
use Rattle.ghost_laws.specs.Given.{IsBeside}
use Rattle.ghost_laws.proofs.Layers.{inside_across, used_in}
use Rattle.ghost_laws.proofs.Meeting.{sender_crosses}
use Rattle.ghost_laws.proofs.Sizes.{Sized, cut, sized}

-- the child that a cell lies in
half_below : (used : Bool) (n q : ℕ) → Sized used n → q < n → q / (n / cut used) < cut used
half_below true n q s h = let even = s.even refl in let wide = s.wide refl in div_below q (n / 2) 2 (omega arith) (omega arith)
half_below false n q s h = let one = s.single refl in subst (λ v. q / (v / 1) < 1) (sym one) (omega arith)

digits : (a b c : Bool) (x y z : ℕ) → x < cut a → y < cut b → z < cut c → (x ≡ (x + 2 * y + 4 * z) % cut a) × (y ≡ (x + 2 * y + 4 * z) / 2 % cut b) × (z ≡ (x + 2 * y + 4 * z) / 4 % cut c)
digits true true true x y z h k l = (omega arith, omega arith, omega arith)
digits true true false x y z h k l = (omega arith, omega arith, omega arith)
digits true false true x y z h k l = (omega arith, omega arith, omega arith)
digits true false false x y z h k l = (omega arith, omega arith, omega arith)
digits false true true x y z h k l = (omega arith, omega arith, omega arith)
digits false true false x y z h k l = (omega arith, omega arith, omega arith)
digits false false true x y z h k l = (omega arith, omega arith, omega arith)
digits false false false x y z h k l = (omega arith, omega arith, omega arith)

pub lies_in_child : (m : Mesh) (i : List ℕ) → IsLayout m.shape.dims m.cells → IsWithin m.cells i → LiesInChild m (child_at m i) i
lies_in_child m i l w =
    let d : ℕ = m.shape.dims in
    let e = digits (nat_lt 0 d) (nat_lt 1 d) (nat_lt 2 d) (slice_index i 0 / half_cells m 0) (slice_index i 1 / half_cells m 1) (slice_index i 2 / half_cells m 2)
    (half_below (nat_lt 0 d) (cells_along m 0) (slice_index i 0) (sized d 0 (cells_along m 0) l.cells1) w.along1)
    (half_below (nat_lt 1 d) (cells_along m 1) (slice_index i 1) (sized d 1 (cells_along m 1) l.cells2) w.along2)
    (half_below (nat_lt 2 d) (cells_along m 2) (slice_index i 2) (sized d 2 (cells_along m 2) l.cells3) w.along3) in
    record { along1 = e.0; along2 = e.1; along3 = e.2 }

-- the same field on another leaf
pub leaf_block : (b : FieldBlock) (l : Loc) → IsFieldBlock b → IsLeaf b.mesh.shape (is_inner b.mesh) l → IsFieldBlock (on_block b l)
leaf_block b l sound leaf = record { mesh = sound.mesh; leaf = leaf; layout = sound.layout }

-- a child, next to the side, of an inner node across is a leaf
pub finer_leaf : (b : FieldBlock) (axis : ℕ) (high : Bool) (o : Loc) (j : ℕ) (i : List ℕ) (layer : ℕ) → IsBeside b axis high i → layer < 2 → across b.mesh.shape b.leaf axis high ≡ Some o →
    is_inner b.mesh o ≡ true → LiesInChild b.mesh j (across_index b.mesh axis high layer i) → IsLeaf b.mesh.shape (is_inner b.mesh) (child b.mesh.shape.dims o j)
finer_leaf b axis high o j i layer beside few meets inner lies =
    let m : Mesh = b.mesh in
    let d : ℕ = m.shape.dims in
    let s : Loc = child d o j in
    let tree = beside.sound.mesh.tree in
    let inside = child_inside m.shape o j (tree.inside o inner) (tree.above_finest o inner) in
    let met = sender_crosses b axis high o j i layer beside few meets inside lies in
    let touch = across-touches m.shape s met.x axis (not high) inside (three_axes b axis beside.sound beside.used) met.crosses in
    record {
      inside = inside;
      node = parent_node m.shape (is_inner m) s (ap (is_inner m) (parent-child d o j) ∙ inner);
      outer = λ deeper. beside.sound.leaf.outer (ap (is_inner m) (sym met.above) ∙ node_parent m.shape (is_inner m) met.x met.deep (beside.sound.mesh.balanced s met.x deeper touch.inside touch.touching));
    }

-- a node across that is not inner is a leaf
pub same_leaf : (b : FieldBlock) (axis : ℕ) (high : Bool) (o : Loc) (i : List ℕ) → IsBeside b axis high i → across b.mesh.shape b.leaf axis high ≡ Some o →
    is_inner b.mesh o ≡ false → is_node b.mesh.shape (is_inner b.mesh) o ≡ true → IsLeaf b.mesh.shape (is_inner b.mesh) o
same_leaf b axis high o i beside meets outer node = record { inside = inside_across b axis high o i beside meets; node = node; outer = λ h. false≢true (sym outer ∙ h) }

-- the parent of what is no node across is a leaf
pub coarser_leaf : (b : FieldBlock) (axis : ℕ) (high : Bool) (o : Loc) (i : List ℕ) → IsBeside b axis high i → across b.mesh.shape b.leaf axis high ≡ Some o →
    is_inner b.mesh o ≡ false → is_node b.mesh.shape (is_inner b.mesh) o ≡ false → IsLeaf b.mesh.shape (is_inner b.mesh) (parent b.mesh.shape.dims o)
coarser_leaf b axis high o i beside meets outer none =
    let m : Mesh = b.mesh in
    let up : Loc = parent m.shape.dims o in
    let mesh = beside.sound.mesh in
    let is : behind m.shape (is_inner m) b.leaf axis high ≡ coarse up =
    ap (behind_at m.shape (is_inner m) axis high) meets ∙ by (is_inner m o) (is_node m.shape (is_inner m) o) (fine (map (child m.shape.dims o) (children_at m.shape.dims axis (not high)))) (same o) (coarse up) outer none in
    ((behind_is_exact m.shape (is_inner m) mesh.shape mesh.tree mesh.balanced b.leaf up axis high beside.sound.leaf (used_in b axis beside.sound beside.used)).0
    (subst (λ (v : Behind). Names v up) (sym is) refl)).0
  where
    by : (p q : Bool) (x y z : Behind) → p ≡ false → q ≡ false → cond p x (cond q y z) ≡ z
    by true q x y z e f = absurd (false≢true (sym e))
    by false true x y z e f = absurd (false≢true (sym f))
    by false false x y z e f = refl
