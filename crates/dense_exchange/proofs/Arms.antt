-- What the tree says is behind a side, and whether something above the threshold comes from there.
use Rattle.std.proofs.Common.{◌≡◌, ℕ, ◌<◌, Bool, true, false, ◌||◌, Some, List, All, map, refl, ap, sym, ◌∙◌}
use Rattle.std.specs.Prelude.{slice_get}
use Rattle.std.specs.List.{list_any}
use Rattle.std.proofs.lemmas.Option.{slice_get-get_or}
use Rattle.morton_order.specs.declared.space.Loc.{Loc}
use Rattle.morton_order.specs.declared.space.Side.{Side}
use Rattle.block_tree.specs.declared.neighbour.Behind.{Behind as Answer}
use Rattle.block_tree.specs.declared.neighbour.Behind.TheVariants.{Outside, Same, Coarse, Fine}
use Rattle.block_tree.specs.Blocks.{is_inner_of, leaves}
use Rattle.block_tree.specs.Behind.{Behind, behind, coarse, fine, outside, same}
use Rattle.block_tree.specs.Numbered.{numbered}
use Rattle.mesh_rules.specs.Mask.{comes_across, some_above}
use Rattle.mesh_rules.specs.Regions.{leaves_in, region}
use Rattle.dense_exchange.specs.declared.field_mesh.FieldMesh.{FieldMesh}
use Rattle.dense_exchange.specs.FieldMeshes.{leaf_count, leaf_on, mesh_in, settings_in}
use Rattle.dense_exchange.specs.Sides.{behind_leaf, sent_to}
use Rattle.dense_exchange.proofs.Filled.{any_mapped}
use Rattle.dense_exchange.proofs.Numbers.{IsOne, nowhere, numbered_coarse, numbered_fine, numbered_outside, numbered_same}

-- the tree's answer, for a leaf by its number
abbrev pub Answers : FieldMesh → Side → ℕ → Answer → Type 0
Answers e side to answer = (l : Loc) → slice_get (leaves e.tree.now) to ≡ Some l → numbered (leaves e.tree.now) (behind e.tree.now.shape (is_inner_of e.tree.now) l side.axis side.high) ≡ Some answer

here : (e : FieldMesh) (side : Side) (to : ℕ) (answer : Answer) → to < leaf_count e → Answers e side to answer → numbered (leaves e.tree.now) (behind_leaf e side to) ≡ Some answer
here e side to answer few told = told (leaf_on e to) (slice_get-get_or (leaves e.tree.now) to nowhere few)

pub told_outside : (e : FieldMesh) (side : Side) (to : ℕ) → to < leaf_count e → Answers e side to Outside → behind_leaf e side to ≡ outside
told_outside e side to few told = numbered_outside (leaves e.tree.now) (behind_leaf e side to) (here e side to Outside few told)

pub told_same : (e : FieldMesh) (side : Side) (to from : ℕ) → to < leaf_count e → Answers e side to (Same from) → IsOne (leaves e.tree.now) from same (behind_leaf e side to)
told_same e side to from few told = numbered_same (leaves e.tree.now) from (behind_leaf e side to) (here e side to (Same from) few told)

pub told_coarse : (e : FieldMesh) (side : Side) (to from : ℕ) → to < leaf_count e → Answers e side to (Coarse from) → IsOne (leaves e.tree.now) from coarse (behind_leaf e side to)
told_coarse e side to from few told = numbered_coarse (leaves e.tree.now) from (behind_leaf e side to) (here e side to (Coarse from) few told)

pub record AreFine (e : FieldMesh) (side : Side) (to : ℕ) (senders : List ℕ) : Type 0 where
  pub few : All (λ from. from < leaf_count e) senders
  pub is : behind_leaf e side to ≡ fine (map (leaf_on e) senders)

pub told_fine : (e : FieldMesh) (side : Side) (to : ℕ) (senders : List ℕ) → to < leaf_count e → Answers e side to (Fine senders) → AreFine e side to senders
told_fine e side to senders few told =
    let (os, is, listed) = numbered_fine (leaves e.tree.now) senders (behind_leaf e side to) (here e side to (Fine senders) few told) in
    record { few = listed.few; is = is ∙ ap fine listed.are }

-- whether what comes is above
abbrev pub comes_to : FieldMesh → Side → ℕ → Behind → Bool
comes_to e side to x = comes_across (settings_in e) (mesh_in e) e.field (leaf_on e to) side.axis side.high x

abbrev pub is_above : FieldMesh → Side → ℕ → Loc → Bool
is_above e side to from = some_above e.problem.now.alloc_threshold (region (mesh_in e) e.field from (leaf_on e to) side.axis side.high)

pub or_false : (b : Bool) → (b || false) ≡ b
or_false true = refl
or_false false = refl

pub same_above : (e : FieldMesh) (side : Side) (to : ℕ) (o : Loc) → behind_leaf e side to ≡ same o → is_above e side to o ≡ comes_to e side to (behind_leaf e side to)
same_above e side to o is = sym (ap (comes_to e side to) is ∙ ap (λ x. list_any (is_above e side to) (leaves_in x)) is ∙ or_false (is_above e side to o))

pub coarse_above : (e : FieldMesh) (side : Side) (to : ℕ) (o : Loc) → behind_leaf e side to ≡ coarse o → is_above e side to o ≡ comes_to e side to (behind_leaf e side to)
coarse_above e side to o is = sym (ap (comes_to e side to) is ∙ ap (λ x. list_any (is_above e side to) (leaves_in x)) is ∙ or_false (is_above e side to o))

pub fine_above : (e : FieldMesh) (side : Side) (to : ℕ) (senders : List ℕ) → behind_leaf e side to ≡ fine (map (leaf_on e) senders) →
    list_any (λ from. some_above e.problem.now.alloc_threshold (sent_to e side from to)) senders ≡ comes_to e side to (behind_leaf e side to)
fine_above e side to senders is = sym (ap (comes_to e side to) is ∙ ap (λ x. list_any (is_above e side to) (leaves_in x)) is ∙ any_mapped (is_above e side to) (leaf_on e) senders)

pub outside_above : (e : FieldMesh) (side : Side) (to : ℕ) → behind_leaf e side to ≡ outside → comes_to e side to outside ≡ comes_to e side to (behind_leaf e side to)
outside_above e side to is = sym (ap (comes_to e side to) is)
