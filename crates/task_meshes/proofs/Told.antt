-- What a tree says is behind a side.
use Rattle.std.proofs.Common.{◌≡◌, ℕ, ◌<◌, Bool, true, false, ◌&&◌, Option, Some, None, List, refl, ap, sym, ◌∙◌}
use Rattle.std.specs.Prelude.{slice_get}
use Rattle.std.specs.Option.{option_map}
use Rattle.std.proofs.lemmas.Bool.{lt-ltb}
use Rattle.std.proofs.lemmas.Option.{slice_get-get_or}
use Rattle.morton_order.specs.declared.space.Loc.{Loc}
use Rattle.block_tree.specs.declared.neighbour.Behind.{Behind as Answer}
use Rattle.block_tree.specs.declared.neighbour.Behind.TheVariants.{Outside, Same, Coarse, Fine}
use Rattle.block_tree.specs.Behind.{Behind, behind, outside, same, coarse, fine}
use Rattle.block_tree.specs.Blocks.{is_inner_of, leaves}
use Rattle.block_tree.specs.Nodes.{number_in}
use Rattle.block_tree.specs.Numbered.{numbered, numbers_in}
use Rattle.cycle_kernels.specs.Blocks.{is_domain_face, is_outside, leaf_at}
use Rattle.task_meshes.specs.declared.mesh.TaskMesh.{TaskMesh}
use Rattle.task_meshes.specs.Meshes.{leaf_count, mesh_of}

abbrev pub tells_outside : Answer → Bool
tells_outside Outside = true
tells_outside (Same n) = false
tells_outside (Coarse n) = false
tells_outside (Fine ns) = false

none_some : {X : Type 0} (x : X) → ◌≡◌ {A = Option X} None (Some x) → ⊥
none_some x e = cc

some_is : {X : Type 0} (x y : X) → Some x ≡ Some y → x ≡ y
some_is x y e = cc

made_of : {K : Type 0} (make : K → Answer) (o : Option K) (a : Answer) → ((k : K) → tells_outside (make k) ≡ false) → option_map make o ≡ Some a → false ≡ tells_outside a
made_of make None a h e = absurd (none_some a e)
made_of make (Some k) a h e = sym (h k) ∙ ap tells_outside (some_is (make k) a e)

pub outside_told : (ls : List Loc) (x : Behind) (a : Answer) → numbered ls x ≡ Some a → is_outside x ≡ tells_outside a
outside_told ls outside a e = ap tells_outside (some_is Outside a e)
outside_told ls (same o) a e = made_of Same (number_in ls o) a (λ k. refl) e
outside_told ls (coarse o) a e = made_of Coarse (number_in ls o) a (λ k. refl) e
outside_told ls (fine os) a e = made_of Fine (numbers_in ls os) a (λ k. refl) e

-- the tree's answer for a leaf by its number
abbrev pub Answers : TaskMesh → ℕ → ℕ → Bool → Answer → Type 0
Answers m b axis high a = (l : Loc) → slice_get (leaves m.tree.now) b ≡ Some l → numbered (leaves m.tree.now) (behind m.tree.now.shape (is_inner_of m.tree.now) l axis high) ≡ Some a

pub answered : (m : TaskMesh) (b axis : ℕ) (high : Bool) (a : Answer) → b < leaf_count m → Answers m b axis high a →
    numbered (leaves m.tree.now) (behind m.tree.now.shape (is_inner_of m.tree.now) (leaf_at (mesh_of m) b) axis high) ≡ Some a
answered m b axis high a few told = told (leaf_at (mesh_of m) b) (slice_get-get_or (leaves m.tree.now) b _ few)

pub domain_told : (m : TaskMesh) (b axis : ℕ) (high : Bool) (a : Answer) → b < leaf_count m → Answers m b axis high a → tells_outside a ≡ is_domain_face (mesh_of m) b axis high
domain_told m b axis high a few told =
    sym (ap (λ t. t && is_outside (behind m.tree.now.shape (is_inner_of m.tree.now) (leaf_at (mesh_of m) b) axis high)) (lt-ltb b (leaf_count m) few)
    ∙ outside_told (leaves m.tree.now) (behind m.tree.now.shape (is_inner_of m.tree.now) (leaf_at (mesh_of m) b) axis high) a (answered m b axis high a few told))
