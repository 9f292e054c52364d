-- What the passes ask of a mesh from which a stage can start.
use Rattle.std.proofs.Common.{◌≡◌, ℕ, zero, suc, ◌-◌, ◌^◌, ◌<◌, ◌≤◌, List, [], ◌∷◌, length, Some, Option, arith, ap, sym, ◌∙◌, slice_index, inl, inr}
use Rattle.std.specs.List.{slice_get}
use Rattle.std.proofs.lemmas.Bool.{cases_eq}
use Rattle.morton_order.specs.declared.space.Loc.{Loc}
use Rattle.morton_order.specs.declared.space.Shape.{Shape}
use Rattle.morton_order.specs.Space.{parent}
use Rattle.block_tree.specs.Blocks.{TreeOfBlocks, leaves}
use Rattle.block_tree.specs.Tree.{is_listed}
use Rattle.block_tree.proofs.Ancestors.{node_parent}
use Rattle.problem_set.specs.declared.problem.Problem.{Problem}
use Rattle.problem_set.specs.SettingsOf.{settings_of}
use Rattle.mesh_rules.specs.Sums.{sum_over}
use Rattle.mesh_rules.specs.Mesh.{Mesh, block_size, cell_at, sum_cells, sum_on, total_of}
use Rattle.mesh_rules.specs.Fields.{field_count}
use Rattle.mesh_rules.specs.Stage.{stage, staged}
use Rattle.mesh_laws.proofs.Fillings.{filled_sum}
use Rattle.mesh_laws.proofs.Pays.{pays_at_most, term_least}
use Rattle.run_laws.proofs.CycleTotals.{rates_fit}
use Rattle.block_layout.specs.declared.layout.Layout.{Layout}
use Rattle.block_layout.specs.Indices.{IsWithin, index_of, number_of}
use Rattle.block_layout.specs.Laws.{IsSame}
use Rattle.block_layout.proofs.Boxes.{number_bound, number_index}
use Rattle.block_geometry.specs.Blocks.{FieldBlock, cell_in}
use Rattle.block_geometry.proofs.Cells.{cell_inside}
use Rattle.block_geometry.proofs.Seen.{in_mesh, on_leaf}
use Rattle.dense_mesh.specs.Meshes.{CanStage, mesh_of}
use Rattle.dense_stage.specs.Blocks.{IsSoundMesh, OnLeaves, StaysSmall, block_in, field_on}
use Rattle.dense_stage.proofs.LeafFlows.{read_leaf, sound_block}

pub sound_mesh : (p : Problem) (t : TreeOfBlocks) (l : Layout) (lists : List (List (List ℕ))) (f : ℕ) → CanStage (settings_of p) t l lists → IsSoundMesh t l (field_on p lists f)
sound_mesh p t l lists f can = record {
  mesh = can.now.mesh.mesh;
  layout = record { dims = can.now.dims ∙ sym (ap (λ (s : Shape). s.dims) can.now.mesh.shape); cells = can.now.cells };
}

-- no leaf is deeper than the levels of the problem
leaf_level : (p : Problem) (t : TreeOfBlocks) (l : Layout) (lists : List (List (List ℕ))) (f leaf : ℕ) (o : Loc) → CanStage (settings_of p) t l lists → slice_get (leaves t) leaf ≡ Some o → o.level < p.levels
leaf_level p t l lists f leaf o can get =
    let sound = sound_mesh p t l lists f can in
    let at = read_leaf t l (field_on p lists f) leaf o sound get in
    elim (cases_eq o.level 0) [
      | inl root ↦ omega (arith, p.refining_sound.least_levels)
      | inr deep ↦ let above = can.now.mesh.coarse (parent t.shape.dims o) (node_parent t.shape (is_listed t.inner) o (omega arith) at.node) in omega arith
    ]

pub levels_fit : (p : Problem) (t : TreeOfBlocks) (l : Layout) (lists : List (List (List ℕ))) (f : ℕ) → CanStage (settings_of p) t l lists → OnLeaves t (λ _ o. o.level < p.levels)
levels_fit p t l lists f can leaf o get = leaf_level p t l lists f leaf o can get

-- a cell of a leaf counts in the sum over all cells
some_is : {X : Type 0} (a b : X) → ◌≡◌ {A = Option X} (Some a) (Some b) → a ≡ b
some_is a b e = cc

over_least : {X : Type 0} (xs : List X) (g : X → ℕ) (k : ℕ) (x : X) → slice_get xs k ≡ Some x → g x ≤ sum_over xs g
over_least [] g k x e = absurd (wrong x e)
  where
    wrong : {X : Type 0} (x : X) → slice_get [] k ≡ Some x → ⊥
    wrong x e = cc
over_least (y ∷ ys) g zero x e = let same : g y ≡ g x = ap g (some_is y x e) in omega arith
over_least (y ∷ ys) g (suc k) x e = omega (arith, over_least ys g k x e)

cell_same : (m : Mesh) (o : Loc) (i j : List ℕ) → IsSame i j → cell_in m o i ≡ cell_in m o j
cell_same m o i j s =
    let f : ℕ → ℕ → ℕ → Loc = λ a b c. cell_in m o (a ∷ b ∷ c ∷ []) in
    ap (λ a. f a (slice_index i 1) (slice_index i 2)) s.along1 ∙ ap (λ b. f (slice_index j 0) b (slice_index i 2)) s.along2 ∙ ap (f (slice_index j 0) (slice_index j 1)) s.along3

pub cell_counts : (m : Mesh) (each : Loc → ℕ) (leaf : ℕ) (o : Loc) (i : List ℕ) → slice_get m.leaves leaf ≡ Some o → IsWithin m.cells i → each (cell_in m o i) ≤ sum_cells m each
cell_counts m each leaf o i get w =
    let place : ℕ = number_of m.cells i in
    let bound : place < block_size m = number_bound m.cells i w in
    let at : each (cell_at m o place) ≡ each (cell_in m o i) = ap each (cell_same m o (index_of m.cells place) i (number_index m.cells i w)) in
    let a = term_least (block_size m) (λ p. each (cell_at m o p)) place bound in
    let b = over_least m.leaves (λ v. sum_on m v each) leaf o get in
    omega (arith, at, a, b)

staged_fits : (p : Problem) (t : TreeOfBlocks) (l : Layout) (lists : List (List (List ℕ))) (f : ℕ) → CanStage (settings_of p) t l lists → f < field_count (settings_of p) →
    sum_cells (mesh_of t p.cells lists) (staged (settings_of p) (mesh_of t p.cells lists) f) ≤ 2 ^ 62 - 1
staged_fits p t l lists f can some =
    let q = settings_of p in
    let m = mesh_of t p.cells lists in
    let total = filled_sum m can.now.mesh.mesh.some_cells (field_count q) f (staged q m) some in
    let part = term_least (field_count q) (total_of (stage q m)) f some in
    omega (arith, total, part, can.next)

pub stays_small : (p : Problem) (t : TreeOfBlocks) (l : Layout) (lists : List (List (List ℕ))) (f : ℕ) → CanStage (settings_of p) t l lists → f < length p.moves → OnLeaves t (λ leaf o. StaysSmall (block_in t l (field_on p lists f) o))
stays_small p t l lists f can some leaf o get =
    let q = settings_of p in
    let m = mesh_of t p.cells lists in
    let b : FieldBlock = block_in t l (field_on p lists f) o in
    let sound = sound_mesh p t l lists f can in
    let whole = sound_block t l (field_on p lists f) leaf o sound get in
    let same = p.fields_sound.same_length in
    let field : f < field_count q = omega (arith, same, some) in
    let fits = staged_fits p t l lists f can field in
    record {
      pays = λ i w.
          pays_at_most q m f (p.levels - 1) (cell_in m o i) can.now.mesh.mesh (λ n inner. let deep = can.now.mesh.coarse n inner in omega arith) (rates_fit p f m.shape can.now.mesh.shape field)
          (cell_inside m o i whole.leaf.inside (in_mesh b i whole w)) (on_leaf b i whole w);
      small = λ i w. let a = cell_counts m (staged q m f) leaf o i get (in_mesh b i whole w) in omega (arith, a, fits);
    }
