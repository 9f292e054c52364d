-- A stage leaf by leaf: what is read before and after one leaf.
use Rattle.std.proofs.Common.{◌≡◌, ◌≢◌, ℕ, ◌+◌, ◌^◌, ◌<◌, ◌≤◌, List, All, length, take, map, Some, slice_set, arith, ap, subst, sym, ◌∙◌}
use Rattle.std.specs.List.{slice_get, slice_index_or}
use Rattle.std.proofs.lemmas.List.{take_all}
use Rattle.morton_order.specs.declared.space.Loc.{Loc}
use Rattle.block_tree.specs.Blocks.{TreeOfBlocks, leaves}
use Rattle.mesh_rules.specs.Sums.{sum_over}
use Rattle.block_layout.specs.declared.layout.Layout.{Layout}
use Rattle.block_layout.specs.Layouts.{len}
use Rattle.block_geometry.specs.Contents.{HasInterior, SeesAround}
use Rattle.dense_mesh.specs.Ghosts.{AreGhostLists, SeeMesh, list_at}
use Rattle.dense_stage.specs.Blocks.{FieldMesh, block_in, mesh_in, staged_list}
use Rattle.dense_stage.proofs.GhostLists.{ghosts_fit}
use Rattle.dense_stage.proofs.Items.{item_is, set_other}
use Rattle.dense_stage.proofs.LeafFlows.{leaf_at, sum_take_more}

-- the lists before a leaf: those from it on are as they were
pub record SoFar (t : TreeOfBlocks) (l : Layout) (x : FieldMesh) (leaf : ℕ) (old ghosts : List (List ℕ)) : Type 0 where
  pub seen : SeeMesh x.settings (mesh_in t x) l x.field old
  pub fit : AreGhostLists l (length (leaves t)) ghosts
  pub rest : (k : ℕ) → leaf ≤ k → list_at ghosts k ≡ list_at old k
  pub here : leaf < length (leaves t)

-- the list of the leaf
pub record IsNext (t : TreeOfBlocks) (l : Layout) (x : FieldMesh) (leaf : ℕ) (cells : List ℕ) : Type 0 where
  pub size : length cells ≡ len l
  pub small : All (λ total. total < 2 ^ 62) cells
  pub own : (o : Loc) → slice_get (leaves t) leaf ≡ Some o → HasInterior (block_in t l x o) cells
  pub around : (o : Loc) → slice_get (leaves t) leaf ≡ Some o → SeesAround (block_in t l x o) cells

pub next_is : (t : TreeOfBlocks) (l : Layout) (x : FieldMesh) (leaf : ℕ) (old ghosts : List (List ℕ)) (cells : List ℕ) → SoFar t l x leaf old ghosts → cells ≡ slice_index_or ghosts leaf cells → IsNext t l x leaf cells
next_is t l x leaf old ghosts cells s read =
    let same : cells ≡ list_at ghosts leaf = item_is ghosts leaf cells (omega (arith, s.here, s.fit.count)) read in
    let first : cells ≡ list_at old leaf = same ∙ s.rest leaf (omega arith) in
    record {
      size = ap (λ (v : List ℕ). length v) same ∙ s.fit.sizes leaf s.here;
      small = subst (λ (v : List ℕ). All (λ total. total < 2 ^ 62) v) (sym same) (s.fit.small leaf s.here);
      own = λ o get. subst (λ (v : List ℕ). HasInterior (block_in t l x o) v) (sym first) (s.seen.own leaf o get);
      around = λ o get. subst (λ (v : List ℕ). SeesAround (block_in t l x o) v) (sym first) (s.seen.around leaf o get);
    }

-- the lists after it
pub after_fits : (t : TreeOfBlocks) (l : Layout) (x : FieldMesh) (leaf : ℕ) (old ghosts : List (List ℕ)) (new : List ℕ) → SoFar t l x leaf old ghosts → length new ≡ len l → All (λ total. total < 2 ^ 62) new → AreGhostLists l (length (leaves t)) (slice_set ghosts leaf new)
after_fits t l x leaf old ghosts new s size small = ghosts_fit l (length (leaves t)) ghosts leaf new s.fit s.here size small

pub after_rest : (t : TreeOfBlocks) (l : Layout) (x : FieldMesh) (leaf : ℕ) (old ghosts : List (List ℕ)) (new : List ℕ) → SoFar t l x leaf old ghosts → (k : ℕ) → leaf + 1 ≤ k → list_at (slice_set ghosts leaf new) k ≡ list_at old k
after_rest t l x leaf old ghosts new s k from = let ne : k ≢ leaf = omega arith in set_other ghosts leaf k new ne ∙ s.rest k (omega arith)

-- a sum over the leaves so far
pub sum_so_far : (t : TreeOfBlocks) (leaf v w : ℕ) (each : Loc → ℕ) → leaf < length (leaves t) → v ≡ sum_over (take leaf (leaves t)) each → ((o : Loc) → slice_get (leaves t) leaf ≡ Some o → w ≡ each o) → v + w ≡ sum_over (take (leaf + 1) (leaves t)) each
sum_so_far t leaf v w each here so_far is =
    let at = leaf_at t leaf here in
    let more = sum_take_more (leaves t) leaf at.0 each at.1 in
    let last = is at.0 at.1 in
    omega (arith, so_far, more, last)

-- all leaves
pub all_staged : (t : TreeOfBlocks) (x : FieldMesh) (leaf : ℕ) (totals : List (List ℕ)) → length (leaves t) ≤ leaf → totals ≡ map (staged_list t x) (take leaf (leaves t)) → totals ≡ map (staged_list t x) (leaves t)
all_staged t x leaf totals all is = is ∙ ap (λ (v : List Loc). map (staged_list t x) v) (take_all leaf (leaves t) all)
