-- Flows of the domain, leaf by leaf.
use Rattle.std.proofs.Common.{◌≡◌, ℕ, zero, suc, ◌+◌, ◌<◌, Some, List, [], ◌∷◌, length, take, arith, ap, subst, sym, ◌∙◌}
use Rattle.std.specs.List.{slice_get, slice_index_or}
use Rattle.std.proofs.lemmas.Option.{slice_get-get_or}
use Rattle.morton_order.specs.declared.space.Loc.{Loc}
use Rattle.block_tree.specs.Blocks.{TreeOfBlocks, leaves}
use Rattle.block_tree.specs.Tree.{IsLeaf, is_listed}
use Rattle.block_tree.proofs.KeyOrder.{leaves_law}
use Rattle.block_tree.proofs.Worklist.{listed_read}
use Rattle.mesh_rules.specs.Sums.{sum_over, sum_to}
use Rattle.mesh_rules.specs.Stage.{leaf_inflow, leaf_outflow}
use Rattle.block_layout.specs.declared.layout.Layout.{Layout}
use Rattle.block_geometry.specs.Blocks.{IsFieldBlock}
use Rattle.block_geometry.specs.Contents.{HasPairs}
use Rattle.flow_laws.specs.Flows.{HasFlows}
use Rattle.flow_laws.proofs.Flows.{domain_flows}
use Rattle.dense_mesh.specs.Ghosts.{list_at}
use Rattle.dense_stage.specs.declared.face_lists.FaceLists.{FaceLists}
use Rattle.dense_stage.specs.Blocks.{FieldMesh, HavePairs, IsSoundMesh, block_in, mesh_in}
use Rattle.leaf_stages.specs.Flows.{inflow_along}

-- a sum over one more item
pub sum_take_more : {X : Type 0} (xs : List X) (n : ℕ) (x : X) (g : X → ℕ) → slice_get xs n ≡ Some x → sum_over (take (n + 1) xs) g ≡ sum_over (take n xs) g + g x
sum_take_more [] n x g e = absurd (wrong x e)
  where
    wrong : {X : Type 0} (x : X) → slice_get [] n ≡ Some x → ⊥
    wrong x e = cc
sum_take_more (y ∷ ys) zero x g e = omega (arith, ap g (same y x e))
  where
    same : {X : Type 0} (y x : X) → Some y ≡ Some x → y ≡ x
    same y x e = cc
sum_take_more (y ∷ ys) (suc n) x g e =
    let r : sum_over (take (n + 1) ys) g ≡ sum_over (take n ys) g + g x = sum_take_more ys n x g e in
    let s : suc n + 1 ≡ suc (n + 1) = omega arith in
    ap (λ k. sum_over (take k (y ∷ ys)) g) s ∙ omega (arith, r)

-- the leaf with a number
first_loc : Loc
first_loc = record { level = 0; l1 = 0; l2 = 0; l3 = 0 }

pub leaf_at : (t : TreeOfBlocks) (leaf : ℕ) → leaf < length (leaves t) → (l : Loc) × (slice_get (leaves t) leaf ≡ Some l)
leaf_at t leaf h = (slice_index_or (leaves t) leaf first_loc, slice_get-get_or (leaves t) leaf first_loc h)

-- what is listed among the leaves is a leaf
pub read_leaf : (t : TreeOfBlocks) (l : Layout) (x : FieldMesh) (leaf : ℕ) (o : Loc) → IsSoundMesh t l x → slice_get (leaves t) leaf ≡ Some o → IsLeaf t.shape (is_listed t.inner) o
read_leaf t l x leaf o sound get = ((leaves_law t.shape (is_listed t.inner) sound.mesh.shape sound.mesh.tree).leaves o).0 (listed_read (leaves t) leaf o get)

pub sound_block : (t : TreeOfBlocks) (l : Layout) (x : FieldMesh) (leaf : ℕ) (o : Loc) → IsSoundMesh t l x → slice_get (leaves t) leaf ≡ Some o → IsFieldBlock (block_in t l x o)
sound_block t l x leaf o sound get = record { mesh = sound.mesh; leaf = read_leaf t l x leaf o sound get; layout = sound.layout }

-- the flows of one leaf more
pub record FlowsAdded (t : TreeOfBlocks) (x : FieldMesh) (leaf v w v' w' : ℕ) : Type 0 where
  pub inflow : v + v' ≡ sum_over (take (leaf + 1) (leaves t)) (leaf_inflow x.settings (mesh_in t x) x.field)
  pub outflow : w + w' ≡ sum_over (take (leaf + 1) (leaves t)) (leaf_outflow x.settings (mesh_in t x) x.field)

pub flows_added : (t : TreeOfBlocks) (l : Layout) (x : FieldMesh) (faces : FaceLists) (leaf v w v' w' : ℕ) (right left : List ℕ) → IsSoundMesh t l x → HavePairs t l x faces → leaf < length (leaves t) →
    v ≡ sum_over (take leaf (leaves t)) (leaf_inflow x.settings (mesh_in t x) x.field) → w ≡ sum_over (take leaf (leaves t)) (leaf_outflow x.settings (mesh_in t x) x.field) →
    right ≡ list_at faces.right.items leaf → left ≡ list_at faces.left.items leaf →
    ((o : Loc) → slice_get (leaves t) leaf ≡ Some o → v' ≡ sum_to l.dims (inflow_along t.shape o l right left)) → ((o : Loc) → slice_get (leaves t) leaf ≡ Some o → w' ≡ sum_to l.dims (inflow_along t.shape o l left right)) →
    FlowsAdded t x leaf v w v' w'
flows_added t l x faces leaf v w v' w' right left sound pairs some vs ws rights lefts ins outs =
    let at = leaf_at t leaf some in
    let o : Loc = at.0 in
    let own : HasFlows (block_in t l x o) right left = domain_flows (block_in t l x o) right left (sound_block t l x leaf o sound at.1)
    (subst (λ (r : List ℕ). HasPairs (block_in t l x o) r left) (sym rights) (subst (λ (r : List ℕ). HasPairs (block_in t l x o) (list_at faces.right.items leaf) r) (sym lefts) (pairs leaf o at.1))) in
    let a = sum_take_more (leaves t) leaf o (leaf_inflow x.settings (mesh_in t x) x.field) at.1 in
    let b = sum_take_more (leaves t) leaf o (leaf_outflow x.settings (mesh_in t x) x.field) at.1 in
    record {
      inflow = joined v v' _ _ _ vs (ins o at.1 ∙ sym own.inflow) a;
      outflow = joined w w' _ _ _ ws (outs o at.1 ∙ sym own.outflow) b;
    }
  where
    joined : (v w a b c : ℕ) → v ≡ a → w ≡ b → c ≡ a + b → v + w ≡ c
    joined v w a b c e f g = omega arith
