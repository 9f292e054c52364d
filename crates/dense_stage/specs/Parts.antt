-- For the code: lists of faces of which one has been corrected.
use Rattle.std.specs.Prelude.{◌≡◌, ◌≢◌, ℕ, Bool, not, List}
use Rattle.block_layout.specs.declared.layout.Layout.{Layout}
use Rattle.block_layout.specs.Indices.{count_of}
use Rattle.flux_correct.specs.Sums.{coarse_extents, flux_part}
use Rattle.flux_correct.specs.Corrected.{IsCorrected}
use Rattle.dense_mesh.specs.Ghosts.{list_at}
use Rattle.dense_stage.specs.declared.face_lists.FaceLists.{FaceLists}

-- the flux part that one leaf's lists give for the other side of this one
abbrev pub part_from : Layout → ℕ → Bool → FaceLists → ℕ → List ℕ
part_from l axis high faces from = flux_part l axis (not high) (list_at faces.right.items from) (list_at faces.left.items from)

-- it has been put in the lists of a leaf, and all other lists are as they were
pub record IsPutTo (l : Layout) (axis : ℕ) (high : Bool) (half from leaf : ℕ) (old new : FaceLists) : Type 0 where
  pub rights : IsCorrected l axis high half 0 (part_from l axis high old from) (list_at old.right.items leaf) (list_at new.right.items leaf)
  pub lefts : IsCorrected l axis high half (count_of (coarse_extents l axis)) (part_from l axis high old from) (list_at old.left.items leaf) (list_at new.left.items leaf)
  pub other_rights : (k : ℕ) → k ≢ leaf → list_at new.right.items k ≡ list_at old.right.items k
  pub other_lefts : (k : ℕ) → k ≢ leaf → list_at new.left.items k ≡ list_at old.left.items k
