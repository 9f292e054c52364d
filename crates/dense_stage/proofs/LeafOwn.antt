-- What passes the faces of a leaf by its own cells and ghosts is the mesh's own pairs.
use Rattle.std.proofs.Common.{◌≡◌, ℕ, ◌^◌, ◌<◌, ◌≤◌, ◌⊎◌, Bool, List, ◌++◌, length, take, drop, Some, Option, arith, ap, subst, sym, ◌∙◌}
use Rattle.std.specs.List.{slice_get, slice_index_or}
use Rattle.std.proofs.lemmas.List.{get_or_default, take-append-le, take_all}
use Rattle.std.proofs.lemmas.List.Elements.{All-get_or}
use Rattle.morton_order.specs.declared.space.Loc.{Loc}
use Rattle.morton_order.specs.declared.space.Shape.{Shape}
use Rattle.block_tree.specs.Blocks.{TreeOfBlocks, leaves}
use Rattle.problem_set.specs.declared.problem.Problem.{Problem}
use Rattle.deck_entries.specs.declared.entries.Moves.{Moves}
use Rattle.problem_set.specs.SettingsOf.{settings_of}
use Rattle.deck_entries.specs.SoundEntries.{IsMoves}
use Rattle.mesh_rules.specs.Fields.{moves_at}
use Rattle.block_layout.specs.declared.layout.Layout.{Layout}
use Rattle.block_geometry.specs.Contents.{HasInterior, SeesAround}
use Rattle.upwind_fluxes.specs.declared.donor.Donor.TheVariants.{Below, Above}
use Rattle.upwind_fluxes.specs.declared.rates.LevelRates.{LevelRates}
use Rattle.block_laws.specs.Rates.{AreRatesOf, ClosesReflecting}
use Rattle.dense_stage.specs.Blocks.{AreBelow, HasOwn, IsSoundMesh, block_in, field_on}
use Rattle.leaf_stages.specs.Rates.{AreFluxesBy, AreRatesAt, ClosesAt}
use Rattle.dense_stage.proofs.Fluxes.{has_own}
use Rattle.dense_stage.proofs.LeafFlows.{sound_block}

-- a whole list that was written through a slice of it
pub written_whole : (old new : List ℕ) → length new ≡ length old → take (length old) (new ++ drop (length new) old) ≡ new
written_whole old new same = take-append-le (length old) new (drop (length new) old) (omega (arith, same)) ∙ take_all (length old) new (omega (arith, same))

some_is : {X : Type 0} (a b : X) → ◌≡◌ {A = Option X} (Some a) (Some b) → a ≡ b
some_is a b e = cc

-- what is known of a leaf of a problem's mesh
pub record OnLeaf (p : Problem) (t : TreeOfBlocks) (l : Layout) (lists : List (List (List ℕ))) (f leaf : ℕ) (moves : List Moves) (at : Loc) (rates : LevelRates) (closed : List Bool) : Type 0 where
  pub sound : IsSoundMesh t l (field_on p lists f)
  pub shape : t.shape ≡ p.shape
  pub field : f < length p.moves
  pub moves_are : moves ≡ p.moves
  pub leaf_is : slice_get (leaves t) leaf ≡ Some at
  pub rates_are : AreRatesAt (settings_of p) f at.level rates
  pub closes : ClosesAt p t leaf closed

rates_of : (p : Problem) (t : TreeOfBlocks) (l : Layout) (lists : List (List (List ℕ))) (f leaf : ℕ) (moves : List Moves) (at : Loc) (rates : LevelRates) (closed : List Bool) → OnLeaf p t l lists f leaf moves at rates closed →
    AreRatesOf (block_in t l (field_on p lists f) at) rates
rates_of p t l lists f leaf moves at rates closed s =
    let dims = ap (λ (v : Shape). v.dims) s.shape in
    let more = s.sound.layout.dims in
    record {
      denominator = s.rates_are.denominator;
      right = λ axis used. s.rates_are.right axis (omega (arith, dims, more, used));
      left = λ axis used. s.rates_are.left axis (omega (arith, dims, more, used));
    }

closes_of : (p : Problem) (t : TreeOfBlocks) (l : Layout) (lists : List (List (List ℕ))) (f leaf : ℕ) (moves : List Moves) (at : Loc) (rates : LevelRates) (closed : List Bool) → OnLeaf p t l lists f leaf moves at rates closed →
    ClosesReflecting (block_in t l (field_on p lists f) at) closed
closes_of p t l lists f leaf moves at rates closed s axis high used =
    let more = s.sound.layout.dims in
    let few = s.sound.mesh.shape.most in
    s.closes at s.leaf_is axis high (omega (arith, used, more, few)) (omega (arith, used, more))

one_or_two : (n : ℕ) → 1 ≤ n → n ≤ 2 → (n ≡ 1) ⊎ (n ≡ 2)
one_or_two n h k = grind arith

order_is : (p : Problem) (f : ℕ) (moves : List Moves) (d : Moves) → moves ≡ p.moves → f < length p.moves → (slice_index_or moves f d).order ≡ (moves_at (settings_of p) f).order
order_is p f moves d is some = ap (λ (v : List Moves). (slice_index_or v f d).order) is ∙ ap (λ (m : Moves). m.order) (get_or_default p.moves f d _ some)

orders : (p : Problem) (f : ℕ) (moves : List Moves) (d : Moves) → moves ≡ p.moves → f < length p.moves → ((slice_index_or moves f d).order ≡ 1) ⊎ ((slice_index_or moves f d).order ≡ 2)
orders p f moves d is some =
    let m : IsMoves (slice_index_or p.moves f d) = All-get_or IsMoves p.moves f d some p.fields_sound.moves_sound in
    let e = ap (λ (v : List Moves). (slice_index_or v f d).order) is in
    one_or_two (slice_index_or moves f d).order (omega (arith, e, m.least_order)) (omega (arith, e, m.most_order))

pub leaf_has_own : (p : Problem) (t : TreeOfBlocks) (l : Layout) (lists : List (List (List ℕ))) (f leaf : ℕ) (moves : List Moves) (d : Moves) (at o : Loc) (rates : LevelRates) (closed : List Bool) (cells read right left old_right old_left : List ℕ) →
    OnLeaf p t l lists f leaf moves at rates closed → slice_get (leaves t) leaf ≡ Some o → read ≡ cells → HasInterior (block_in t l (field_on p lists f) o) cells → SeesAround (block_in t l (field_on p lists f) o) cells →
    AreFluxesBy (slice_index_or moves f d).order l Below rates closed read right → AreFluxesBy (slice_index_or moves f d).order l Above rates closed read left → AreBelow (2 ^ 62) l right → AreBelow (2 ^ 62) l left →
    length right ≡ length old_right → length left ≡ length old_left →
    HasOwn (block_in t l (field_on p lists f) o) (take (length old_right) (right ++ drop (length right) old_right)) (take (length old_left) (left ++ drop (length left) old_left))
leaf_has_own p t l lists f leaf moves d at o rates closed cells read right left old_right old_left s get is has sees rights lefts small_right small_left r_size l_size =
    let same : at ≡ o = some_is at o (sym s.leaf_is ∙ get) in
    let x = field_on p lists f in
    let order : ℕ = (slice_index_or moves f d).order in
    let own : HasOwn (block_in t l x o) right left =
    subst (λ (v : Loc). HasOwn (block_in t l x v) right left) same
    (has_own (block_in t l x at) order rates closed cells right left (order_is p f moves d s.moves_are s.field) (orders p f moves d s.moves_are s.field) (sound_block t l x leaf at s.sound s.leaf_is)
    (rates_of p t l lists f leaf moves at rates closed s) (closes_of p t l lists f leaf moves at rates closed s)
    (subst (λ (v : Loc). HasInterior (block_in t l x v) cells) (sym same) has) (subst (λ (v : Loc). SeesAround (block_in t l x v) cells) (sym same) sees)
    (subst (λ (v : List ℕ). AreFluxesBy order l Below rates closed v right) is rights) (subst (λ (v : List ℕ). AreFluxesBy order l Above rates closed v left) is lefts) small_right small_left) in
    subst (λ (v : List ℕ). HasOwn (block_in t l x o) v (take (length old_left) (left ++ drop (length left) old_left))) (sym (written_whole old_right right r_size))
    (subst (λ (v : List ℕ). HasOwn (block_in t l x o) right v) (sym (written_whole old_left left l_size)) own)
