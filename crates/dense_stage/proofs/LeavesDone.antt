-- Flux correction, side by side and leaf by leaf.
use Rattle.std.proofs.Common.{◌≡◌, ℕ, ◌+◌, ◌<◌, ◌≤◌, Bool, true, false, Some, arith, subst, sym, inl, inr}
use Rattle.std.specs.List.{slice_get}
use Rattle.std.proofs.lemmas.Bool.{cases_eq}
use Rattle.morton_order.specs.declared.space.Loc.{Loc}
use Rattle.block_tree.specs.Blocks.{TreeOfBlocks, leaves}
use Rattle.block_layout.specs.declared.layout.Layout.{Layout}
use Rattle.block_geometry.specs.Contents.{HasPairs}
use Rattle.dense_mesh.specs.Ghosts.{list_at}
use Rattle.dense_stage.specs.declared.face_lists.FaceLists.{FaceLists}
use Rattle.dense_stage.specs.Blocks.{FieldMesh, HasSidePairs, HaveOwn, IsSoundMesh, KeepPairs, block_in}
use Rattle.dense_stage.proofs.LeafFlows.{sound_block}
use Rattle.dense_stage.proofs.PartSteps.{kept_twice, own_kept}
use Rattle.dense_stage.proofs.SideDone.{all_pairs}

-- a side of a leaf has the mesh's pairs
abbrev pub SideIsDone : TreeOfBlocks → Layout → FieldMesh → ℕ → ℕ → Bool → FaceLists → Type 0
SideIsDone t l x leaf axis high faces = (o : Loc) → slice_get (leaves t) leaf ≡ Some o → HasSidePairs (block_in t l x o) axis high (list_at faces.right.items leaf) (list_at faces.left.items leaf)

side_kept : (t : TreeOfBlocks) (l : Layout) (x : FieldMesh) (leaf axis : ℕ) (high : Bool) (old new : FaceLists) → axis < l.dims → KeepPairs t l x old new → SideIsDone t l x leaf axis high old → SideIsDone t l x leaf axis high new
side_kept t l x leaf axis high old new used kept done o get i w at = kept leaf o get i axis high used w (done o get i w at)

-- the sides of the axes below one are done
pub record AxesDone (t : TreeOfBlocks) (l : Layout) (x : FieldMesh) (leaf axis : ℕ) (old new : FaceLists) : Type 0 where
  pub kept : KeepPairs t l x old new
  pub done : (a : ℕ) (high : Bool) → a < axis → SideIsDone t l x leaf a high new

pub axis_more : (t : TreeOfBlocks) (l : Layout) (x : FieldMesh) (leaf axis : ℕ) (old before mid new : FaceLists) → axis < l.dims → AxesDone t l x leaf axis old before → KeepPairs t l x before mid → SideIsDone t l x leaf axis false mid →
    KeepPairs t l x mid new → SideIsDone t l x leaf axis true new → AxesDone t l x leaf (axis + 1) old new
axis_more t l x leaf axis old before mid new used so_far low_kept low high_kept high =
    record {
      kept = kept_twice t l x old before new so_far.kept (kept_twice t l x before mid new low_kept high_kept);
      done = λ a side less. elim (cases_eq a axis) [
        | inl e ↦ subst (λ (v : ℕ). SideIsDone t l x leaf v side new) (sym e) (here side)
        | inr ne ↦ side_kept t l x leaf a side before new (omega (arith, ne, less, used)) (kept_twice t l x before mid new low_kept high_kept) (so_far.done a side (omega (arith, ne, less)))
      ];
    }
  where
    here : (side : Bool) → SideIsDone t l x leaf axis side new
    here true = high
    here false = side_kept t l x leaf axis false mid new used high_kept low

-- then all its faces have them
abbrev pub LeafIsDone : TreeOfBlocks → Layout → FieldMesh → ℕ → FaceLists → Type 0
LeafIsDone t l x leaf faces = (o : Loc) → slice_get (leaves t) leaf ≡ Some o → HasPairs (block_in t l x o) (list_at faces.right.items leaf) (list_at faces.left.items leaf)

pub leaf_done : (t : TreeOfBlocks) (l : Layout) (x : FieldMesh) (leaf axis : ℕ) (old new : FaceLists) → IsSoundMesh t l x → HaveOwn t l x old → l.dims ≤ axis → AxesDone t l x leaf axis old new → LeafIsDone t l x leaf new
leaf_done t l x leaf axis old new sound own all s o get =
    all_pairs (block_in t l x o) (list_at new.right.items leaf) (list_at new.left.items leaf) (sound_block t l x leaf o sound get) (own_kept t l x old new own s.kept leaf o get) (λ a high used. s.done a high (omega (arith, used, all)) o get)

-- leaf by leaf
pub record LeavesDone (t : TreeOfBlocks) (l : Layout) (x : FieldMesh) (leaf : ℕ) (old new : FaceLists) : Type 0 where
  pub kept : KeepPairs t l x old new
  pub done : (k : ℕ) → k < leaf → LeafIsDone t l x k new

pub leaf_more : (t : TreeOfBlocks) (l : Layout) (x : FieldMesh) (leaf : ℕ) (old before new : FaceLists) → LeavesDone t l x leaf old before → KeepPairs t l x before new → LeafIsDone t l x leaf new → LeavesDone t l x (leaf + 1) old new
leaf_more t l x leaf old before new so_far kept here =
    record {
      kept = kept_twice t l x old before new so_far.kept kept;
      done = λ k less. elim (cases_eq k leaf) [
        | inl e ↦ subst (λ (v : ℕ). LeafIsDone t l x v new) (sym e) here
        | inr ne ↦ λ o get i axis high used w. kept k o get i axis high used w (so_far.done k (omega (arith, ne, less)) o get i axis high used w)
      ];
    }
