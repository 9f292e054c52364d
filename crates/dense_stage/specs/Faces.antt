-- Lists of what passes the faces of the leaves of a mesh.
use Rattle.std.specs.Prelude.{◌≡◌, ℕ, ◌<◌, List, length}
use Rattle.block_layout.specs.declared.layout.Layout.{Layout}
use Rattle.block_layout.specs.Faces.{face_count}
use Rattle.dense_mesh.specs.Ghosts.{list_at}
use Rattle.dense_stage.specs.declared.face_lists.FaceLists.{FaceLists}

-- so many lists of one size
pub record AreListsOf (size leaves : ℕ) (lists : List (List ℕ)) : Type 0 where
  pub count : length lists ≡ leaves
  pub sizes : (leaf : ℕ) → leaf < leaves → length (list_at lists leaf) ≡ size

-- in each direction there is a list for each of so many leaves, with a number for each face of a block
pub record AreFaceLists (l : Layout) (leaves : ℕ) (faces : FaceLists) : Type 0 where
  pub rights : AreListsOf (face_count l) leaves faces.right.items
  pub lefts : AreListsOf (face_count l) leaves faces.left.items
