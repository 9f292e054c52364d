-- What holds of a set of inner nodes on the way to the least balanced tree; private contracts cite this.
use Rattle.std.specs.Prelude.{◌≡◌, ◌⊎◌, ℕ, ◌<◌, ◌≤◌, Bool, List, Some, IsTrue, ◌&&◌, nat_lt, length}
use Rattle.std.specs.List.{slice_get}
use Rattle.morton_order.specs.declared.space.Loc.{Loc}
use Rattle.morton_order.specs.declared.space.Shape.{Shape}
use Rattle.morton_order.specs.Space.{IsIn}
use Rattle.morton_order.specs.Neighbours.{AreNeighbours}
use Rattle.block_tree.specs.Tree.{is_listed, is_node}
use Rattle.block_tree.specs.declared.boxes.StaticBox.{StaticBox}
use Rattle.block_tree.specs.Least.{HoldsWanted, meets}

-- the locations of a set lie in the domain and have room for children
abbrev pub AreRoomy : Shape → List Loc → Type 0
AreRoomy s ls = (l : Loc) → IsTrue (is_listed ls l) → IsIn s l × (l.level < 10)

-- the locations of a set are inner nodes of every balanced tree that holds what is wanted
abbrev pub AreForced : Shape → (Loc → Bool) → List Loc → Type 0
AreForced s wanted ls = (other : Loc → Bool) → HoldsWanted s wanted other → (l : Loc) → IsTrue (is_listed ls l) → IsTrue (other l)

-- a set holds what is wanted and nothing that is not forced, and all that the first of its locations touch are nodes
pub record IsGrown (s : Shape) (wanted : Loc → Bool) (ls : List Loc) (done : ℕ) : Type 0 where
  pub roomy : AreRoomy s ls
  pub holds : (l : Loc) → IsTrue (wanted l) → IsTrue (is_listed ls l)
  pub forced : AreForced s wanted ls
  pub count : done ≤ length ls
  pub nodes : (k : ℕ) (l : Loc) → k < done → slice_get ls k ≡ Some l → (m : Loc) → IsIn s m → AreNeighbours s l m → IsTrue (is_node s (is_listed ls) m)

-- a set gains only locations that pass a test
abbrev pub AddsOnly : (Loc → Bool) → List Loc → List Loc → Type 0
AddsOnly test old new = (l : Loc) → IsTrue (is_listed new l) → IsTrue (is_listed old l) ⊎ IsTrue (test l)

-- whether a location meets a box of a greater level
abbrev pub is_asked : Shape → List ℕ → Loc → StaticBox → Bool
is_asked s cells l b = nat_lt l.level b.level && meets s cells b l
