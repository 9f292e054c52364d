-- Lists with ghosts that are written one at a time.
use Rattle.std.proofs.Common.{◌≡◌, ◌≢◌, ℕ, ◌+◌, ◌^◌, ◌<◌, ◌≤◌, List, [], ◌∷◌, ◌++◌, All, length, map, take, Some, slice_set, arith, ap, subst, sym, ◌∙◌, inl, inr}
use Rattle.std.specs.List.{slice_get, slice_index_or}
use Rattle.std.proofs.lemmas.Bool.{cases_eq}
use Rattle.std.proofs.lemmas.List.{length-set}
use Rattle.morton_order.specs.declared.space.Loc.{Loc}
use Rattle.block_tree.specs.Blocks.{TreeOfBlocks, leaves}
use Rattle.block_layout.specs.declared.layout.Layout.{Layout}
use Rattle.block_layout.specs.Layouts.{len}
use Rattle.block_geometry.specs.Contents.{HasInterior, HasPairs}
use Rattle.transport_kernel.specs.Update.{CanPass, GhostsStay, HasPassed, listed}
use Rattle.dense_mesh.specs.Ghosts.{AreGhostLists, list_at}
use Rattle.dense_stage.specs.declared.face_lists.FaceLists.{FaceLists}
use Rattle.dense_stage.specs.Faces.{AreFaceLists}
use Rattle.dense_stage.specs.Blocks.{FieldMesh, HavePairs, IsSoundMesh, OnLeaves, StaysSmall, block_in, staged_list}
use Rattle.dense_stage.specs.Own.{own_cells}
use Rattle.dense_stage.proofs.Items.{item_is, set_here, set_other}
use Rattle.dense_stage.proofs.LeafFlows.{leaf_at, sound_block}
use Rattle.dense_stage.proofs.Staged.{can_pass, mapped_more, staged_cells, updated_small}

pub ghosts_fit : (l : Layout) (n : ℕ) (xs : List (List ℕ)) (i : ℕ) (x : List ℕ) → AreGhostLists l n xs → i < n → length x ≡ len l → All (λ total. total < 2 ^ 62) x → AreGhostLists l n (slice_set xs i x)
ghosts_fit l n xs i x fit h same small = record {
  count = length-set xs i x ∙ fit.count;
  sizes = λ k less. elim (cases_eq k i) [
    | inl e ↦ ap (λ (v : ℕ). length (list_at (slice_set xs i x) v)) e ∙ ap (λ (v : List ℕ). length v) (set_here xs i x (omega (arith, fit.count))) ∙ same
    | inr ne ↦ ap (λ (v : List ℕ). length v) (set_other xs i k x ne) ∙ fit.sizes k less
  ];
  small = λ k less. elim (cases_eq k i) [
    | inl e ↦
        subst (λ (v : ℕ). All (λ total. total < 2 ^ 62) (list_at (slice_set xs i x) v)) (sym e)
        (subst (λ (v : List ℕ). All (λ total. total < 2 ^ 62) v) (sym (set_here xs i x (omega (arith, fit.count)))) small)
    | inr ne ↦ subst (λ (v : List ℕ). All (λ total. total < 2 ^ 62) v) (sym (set_other xs i k x ne)) (fit.small k less)
  ];
}

-- the leaves below a number are staged
pub record Staging (t : TreeOfBlocks) (l : Layout) (x : FieldMesh) (leaf : ℕ) (ghosts : List (List ℕ)) : Type 0 where
  pub fit : AreGhostLists l (length (leaves t)) ghosts
  pub rest : (k : ℕ) (o : Loc) → leaf ≤ k → slice_get (leaves t) k ≡ Some o → HasInterior (block_in t l x o) (list_at ghosts k)

-- what is given for the next
pub record NextLeaf (t : TreeOfBlocks) (l : Layout) (x : FieldMesh) (leaf : ℕ) (ghosts : List (List ℕ)) (cells right left : List ℕ) : Type 0 where
  pub sound : IsSoundMesh t l x
  pub here : leaf < length (leaves t)
  pub so_far : Staging t l x leaf ghosts
  pub cells_is : cells ≡ list_at ghosts leaf
  pub pairs : (o : Loc) → slice_get (leaves t) leaf ≡ Some o → HasPairs (block_in t l x o) right left
  pub small : (o : Loc) → slice_get (leaves t) leaf ≡ Some o → StaysSmall (block_in t l x o)

pub next_leaf : (t : TreeOfBlocks) (l : Layout) (x : FieldMesh) (leaf : ℕ) (ghosts : List (List ℕ)) (faces : FaceLists) (cells right left : List ℕ) → IsSoundMesh t l x → leaf < length (leaves t) → Staging t l x leaf ghosts → AreFaceLists l (length (leaves t)) faces → HavePairs t l x faces →
    OnLeaves t (λ leaf o. StaysSmall (block_in t l x o)) → cells ≡ slice_index_or ghosts leaf cells → right ≡ slice_index_or faces.right.items leaf right → left ≡ slice_index_or faces.left.items leaf left → NextLeaf t l x leaf ghosts cells right left
next_leaf t l x leaf ghosts faces cells right left sound here so_far fit pairs small c r s =
    record {
      sound = sound;
      here = here;
      so_far = so_far;
      cells_is = item_is ghosts leaf cells (omega (arith, here, so_far.fit.count)) c;
      pairs = λ o get.
          subst (λ (v : List ℕ). HasPairs (block_in t l x o) v left) (sym (item_is faces.right.items leaf right (omega (arith, here, fit.rights.count)) r))
          (subst (λ (v : List ℕ). HasPairs (block_in t l x o) (list_at faces.right.items leaf) v) (sym (item_is faces.left.items leaf left (omega (arith, here, fit.lefts.count)) s)) (pairs leaf o get));
      small = λ o get. small leaf o get;
    }

pub next_passes : (t : TreeOfBlocks) (l : Layout) (x : FieldMesh) (leaf : ℕ) (ghosts : List (List ℕ)) (cells right left : List ℕ) → NextLeaf t l x leaf ghosts cells right left → CanPass l (listed l right) (listed l left) cells
next_passes t l x leaf ghosts cells right left s =
    let at = leaf_at t leaf s.here in
    let b = block_in t l x at.0 in
    can_pass b cells right left (sound_block t l x leaf at.0 s.sound at.1) (subst (λ (v : List ℕ). HasInterior b v) (sym s.cells_is) (s.so_far.rest leaf at.0 (omega arith) at.1)) (s.pairs at.0 at.1) (s.small at.0 at.1)
    (subst (λ (v : List ℕ). All (λ total. total < 2 ^ 62) v) (sym s.cells_is) (s.so_far.fit.small leaf s.here))

pub record LeafStaged (t : TreeOfBlocks) (l : Layout) (x : FieldMesh) (leaf : ℕ) (ghosts : List (List ℕ)) (new : List ℕ) : Type 0 where
  pub now : Staging t l x (leaf + 1) (slice_set ghosts leaf new)
  pub own : (o : Loc) → slice_get (leaves t) leaf ≡ Some o → own_cells l new ≡ staged_list t x o

pub leaf_staged : (t : TreeOfBlocks) (l : Layout) (x : FieldMesh) (leaf : ℕ) (ghosts : List (List ℕ)) (cells right left new : List ℕ) → NextLeaf t l x leaf ghosts cells right left → HasPassed l (listed l right) (listed l left) cells new → GhostsStay l cells new → length new ≡ length cells →
    LeafStaged t l x leaf ghosts new
leaf_staged t l x leaf ghosts cells right left new s passed stay same =
    let at = leaf_at t leaf s.here in
    let b = block_in t l x at.0 in
    let sound = sound_block t l x leaf at.0 s.sound at.1 in
    let has : HasInterior b cells = subst (λ (v : List ℕ). HasInterior b v) (sym s.cells_is) (s.so_far.rest leaf at.0 (omega arith) at.1) in
    let all : All (λ total. total < 2 ^ 62) cells = subst (λ (v : List ℕ). All (λ total. total < 2 ^ 62) v) (sym s.cells_is) (s.so_far.fit.small leaf s.here) in
    let long : length new ≡ len l = same ∙ ap (λ (v : List ℕ). length v) s.cells_is ∙ s.so_far.fit.sizes leaf s.here in
    record {
      now = record {
        fit = ghosts_fit l (length (leaves t)) ghosts leaf new s.so_far.fit s.here long (updated_small b cells right left new sound has (s.pairs at.0 at.1) (s.small at.0 at.1) all long passed stay);
        rest = λ k o from get. let ne : k ≢ leaf = omega arith in subst (λ (v : List ℕ). HasInterior (block_in t l x o) v) (sym (set_other ghosts leaf k new ne)) (s.so_far.rest k o (omega arith) get);
      };
      own = λ o get.
          let has' : HasInterior (block_in t l x o) cells = subst (λ (v : List ℕ). HasInterior (block_in t l x o) v) (sym s.cells_is) (s.so_far.rest leaf o (omega arith) get) in
          staged_cells (block_in t l x o) cells right left new (sound_block t l x leaf o s.sound get) has' (s.pairs o get) passed;
    }

-- one list of totals more
pub totals_more : (t : TreeOfBlocks) (x : FieldMesh) (leaf : ℕ) (totals : List (List ℕ)) (own : List ℕ) → leaf < length (leaves t) → totals ≡ map (staged_list t x) (take leaf (leaves t)) → ((o : Loc) → slice_get (leaves t) leaf ≡ Some o → own ≡ staged_list t x o) →
    totals ++ own ∷ [] ≡ map (staged_list t x) (take (leaf + 1) (leaves t))
totals_more t x leaf totals own here so_far is = let at = leaf_at t leaf here in mapped_more (staged_list t x) (leaves t) leaf at.0 totals own at.1 so_far (is at.0 at.1)
