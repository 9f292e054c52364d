-- For the code: room for a stage.
use Rattle.std.specs.Prelude.{◌≡◌, ℕ, ◌<◌, ◌^◌, All, length}
use Rattle.block_layout.specs.declared.layout.Layout.{Layout}
use Rattle.dense_mesh.specs.Ghosts.{AreGhostLists, list_at}
use Rattle.dense_stage.specs.Faces.{AreFaceLists, AreListsOf}
use Rattle.dense_cycle.specs.declared.work.Work.{Work}

-- the lists of each of so many leaves
pub record FitsWork (l : Layout) (leaves : ℕ) (work : Work) : Type 0 where
  pub ghosts : AreGhostLists l leaves work.ghosts.items
  pub faces : AreFaceLists l leaves work.faces

-- lists for so many leaves, each with so many cells and faces
pub record HasRoom (leaves cells faces : ℕ) (work : Work) : Type 0 where
  pub count : length work.ghosts.items ≡ leaves
  pub sizes : (leaf : ℕ) → leaf < leaves → length (list_at work.ghosts.items leaf) ≡ cells
  pub small : (leaf : ℕ) → leaf < leaves → All (λ total. total < 2 ^ 62) (list_at work.ghosts.items leaf)
  pub rights : AreListsOf faces leaves work.faces.right.items
  pub lefts : AreListsOf faces leaves work.faces.left.items
