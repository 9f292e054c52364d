-- Leaves whose ghosts are filled side by side, and meshes leaf by leaf.
use Rattle.std.proofs.Common.{◌≡◌, inl, inr, ℕ, zero, suc, ◌+◌, ◌<◌, Bool, true, false, ◌||◌, ◌&&◌, Some, List, [], ◌∷◌, ◌++◌, map, take, length, refl, arith, ap, subst, sym, ◌∙◌}
use Rattle.std.specs.Prelude.{slice_get}
use Rattle.std.specs.List.{list_any, range_with_len}
use Rattle.std.proofs.lemmas.Bool.{cases_lt, false≢true}
use Rattle.std.proofs.lemmas.List.{map-append, take_more}
use Rattle.std.proofs.lemmas.Option.{get_or_from_slice_get}
use Rattle.morton_order.specs.declared.space.Loc.{Loc}
use Rattle.morton_order.specs.declared.space.Side.{Side}
use Rattle.block_tree.specs.Blocks.{leaves}
use Rattle.mesh_rules.specs.Fields.{has_ghosts}
use Rattle.mesh_rules.specs.Mask.{exchange_calls}
use Rattle.block_geometry.specs.Contents.{HasInterior, SeesAround, SeesBeyondSide}
use Rattle.dense_mesh.specs.Ghosts.{SeeMesh, block_at, list_at}
use Rattle.dense_exchange.specs.declared.field_mesh.FieldMesh.{FieldMesh}
use Rattle.dense_exchange.specs.FieldMeshes.{CanExchange, HoldOwn, block_on, leaf_count, leaf_on, mesh_in, settings_in}
use Rattle.dense_exchange.specs.Sides.{IsFilled, OthersStay, comes_beyond}
use Rattle.dense_exchange.specs.Leaves.{AreFilled, IsLeafFilled, comes_along, comes_by, comes_to_leaf}
use Rattle.dense_exchange.proofs.Numbers.{nowhere}

-- the sides of a leaf along an axis
abbrev pub low_side : ℕ → Side
low_side axis = record { axis = axis; high = false }

abbrev pub high_side : ℕ → Side
high_side axis = record { axis = axis; high = true }

-- the sides along the first axes are filled
pub record LeafFilling (e : FieldMesh) (to k : ℕ) (old new : List (List ℕ)) : Type 0 where
  pub held : HoldOwn e new
  pub others : OthersStay to old new
  pub sees : (axis : ℕ) (high : Bool) → axis < k → SeesBeyondSide (block_on e to) (list_at new to) axis high

pub leaf_starts : (e : FieldMesh) (to : ℕ) (old : List (List ℕ)) → HoldOwn e old → LeafFilling e to 0 old old
leaf_starts e to old held = record { held = held; others = λ leaf differ. refl; sees = λ axis high h. absurd (omega arith) }

pub leaf_goes_on : (e : FieldMesh) (to k : ℕ) (old now mid new : List (List ℕ)) → k < e.layout.now.dims → LeafFilling e to k old now → IsFilled e (low_side k) to now mid → IsFilled e (high_side k) to mid new → LeafFilling e to (k + 1) old new
leaf_goes_on e to k old now mid new used before low high = record {
  held = high.held;
  others = λ leaf differ. high.others leaf differ ∙ low.others leaf differ ∙ before.others leaf differ;
  sees = λ axis end less. elim (cases_lt axis k) [
    | inl early ↦
        let differ : ¬ (axis ≡ k) = λ is. omega (arith, is, early) in
        let used' : axis < e.layout.now.dims = omega arith in
        high.stays axis end used' (inl differ) (low.stays axis end used' (inl differ) (before.sees axis end early))
    | inr late ↦
        let is : k ≡ axis = omega arith in
        subst (λ v. SeesBeyondSide (block_on e to) (list_at new to) v end) is (own end)
  ];
}
  where
    own : (end : Bool) → SeesBeyondSide (block_on e to) (list_at new to) k end
    own true = high.sees
    own false = high.stays k false used (inr (λ is. false≢true is)) low.sees

pub leaf_ends : (e : FieldMesh) (to : ℕ) (old new : List (List ℕ)) → LeafFilling e to e.layout.now.dims old new → IsLeafFilled e to old new
leaf_ends e to old new x = record { held = x.held; others = x.others; around = λ axis high used. x.sees axis high used }

-- whether something comes across them
or_assoc : (a b c : Bool) → (a || (b || c)) ≡ ((a || b) || c)
or_assoc true b c = refl
or_assoc false b c = refl

or_zero : (b : Bool) → (b || false) ≡ (false || b)
or_zero true = refl
or_zero false = refl

any_one_more : (q : ℕ → Bool) (a n : ℕ) → list_any q (range_with_len a (suc n)) ≡ (list_any q (range_with_len a n) || q (a + n))
any_one_more q a zero = or_zero (q a) ∙ ap q (omega arith)
any_one_more q a (suc n) =
    let e : a + 1 + n ≡ a + suc n = omega arith in
    ap (λ b. q a || b) (any_one_more q (a + 1) n ∙ ap (λ v. list_any q (range_with_len (a + 1) n) || q v) e)
    ∙ or_assoc (q a) (list_any q (range_with_len (a + 1) n)) (q (a + suc n))

pub comes_more : (e : FieldMesh) (to k : ℕ) (before low high : Bool) → before ≡ comes_by e to k → low ≡ comes_beyond e (low_side k) to → high ≡ comes_beyond e (high_side k) to → ((before || low) || high) ≡ comes_by e to (k + 1)
comes_more e to k before low high was is_low is_high =
    let one : k + 1 ≡ suc k = omega arith in
    let z : 0 + k ≡ k = omega arith in
    sym (or_assoc before low high)
    ∙ ap (λ b. b || (low || high)) was
    ∙ ap (λ b. comes_by e to k || (b || high)) is_low
    ∙ ap (λ b. comes_by e to k || (comes_beyond e (low_side k) to || b)) is_high
    ∙ ap (λ v. comes_by e to k || comes_along e to v) (sym z)
    ∙ sym (any_one_more (comes_along e to) 0 k)
    ∙ ap (comes_by e to) (sym one)

-- where each side is asked only until something comes
pub comes_next : (e : FieldMesh) (to k : ℕ) (before low high : Bool) → before ≡ comes_by e to k → low ≡ (before || comes_beyond e (low_side k) to) → high ≡ (low || comes_beyond e (high_side k) to) → high ≡ comes_by e to (k + 1)
comes_next e to k before low high was is_low is_high =
    is_high
    ∙ ap (λ b. b || comes_beyond e (high_side k) to) is_low
    ∙ comes_more e to k before (comes_beyond e (low_side k) to) (comes_beyond e (high_side k) to) was refl refl

pub comes_all : (e : FieldMesh) (to : ℕ) → CanExchange e → comes_by e to e.layout.now.dims ≡ comes_to_leaf e to
comes_all e to on = ap (comes_by e to) (on.mesh.dims ∙ sym (ap (λ s. s.dims) on.mesh.mesh.shape))

-- the first leaves are filled
pub record MeshFilling (e : FieldMesh) (k : ℕ) (ghosts : List (List ℕ)) : Type 0 where
  pub held : HoldOwn e ghosts
  pub around : (leaf : ℕ) → leaf < k → SeesAround (block_on e leaf) (list_at ghosts leaf)

pub mesh_starts : (e : FieldMesh) (ghosts : List (List ℕ)) → HoldOwn e ghosts → MeshFilling e 0 ghosts
mesh_starts e ghosts held = record { held = held; around = λ leaf h. absurd (omega arith) }

pub mesh_goes_on : (e : FieldMesh) (k : ℕ) (old new : List (List ℕ)) → MeshFilling e k old → IsLeafFilled e k old new → MeshFilling e (k + 1) new
mesh_goes_on e k old new before x = record {
  held = x.held;
  around = λ leaf less. elim (cases_lt leaf k) [
    | inl early ↦
        let differ : ¬ (leaf ≡ k) = λ is. omega (arith, is, early) in
        subst (λ (v : List ℕ). SeesAround (block_on e leaf) v) (sym (x.others leaf differ)) (before.around leaf early)
    | inr late ↦
        let is : k ≡ leaf = omega arith in
        subst (λ v. SeesAround (block_on e v) (list_at new v)) is x.around
  ];
}

pub mesh_ends : (e : FieldMesh) (ghosts : List (List ℕ)) → MeshFilling e (leaf_count e) ghosts → AreFilled e ghosts
mesh_ends e ghosts x = record { held = x.held; around = x.around }

-- and what the exchange calls for on them
pub calls_more : (e : FieldMesh) (k : ℕ) (has comes : Bool) (before : List Bool) → k < leaf_count e → has_ghosts (settings_in e) e.field ≡ has → comes ≡ comes_to_leaf e k → before ≡ map (exchange_calls (settings_in e) (mesh_in e) e.field) (take k (leaves e.tree.now)) →
    before ++ (has && comes) ∷ [] ≡ map (exchange_calls (settings_in e) (mesh_in e) e.field) (take (k + 1) (leaves e.tree.now))
calls_more e k has comes before few is come was =
    let f : Loc → Bool = exchange_calls (settings_in e) (mesh_in e) e.field in
    let xs : List Loc = leaves e.tree.now in
    ap (λ v. v ++ (has && comes) ∷ []) was
    ∙ ap (λ b. map f (take k xs) ++ (b && comes) ∷ []) (sym is)
    ∙ ap (λ b. map f (take k xs) ++ (has_ghosts (settings_in e) e.field && b) ∷ []) come
    ∙ sym (map-append f (take k xs) (leaf_on e k ∷ []))
    ∙ ap (map f) (sym (take_more xs k nowhere few))

-- the whole mesh is seen
pub mesh_seen : (e : FieldMesh) (ghosts : List (List ℕ)) → AreFilled e ghosts → SeeMesh (settings_in e) (mesh_in e) e.layout.now e.field ghosts
mesh_seen e ghosts x = record {
  lists = x.held.lists;
  own = λ leaf l is. subst (λ (v : Loc). HasInterior (block_at (settings_in e) (mesh_in e) e.layout.now e.field v) (list_at ghosts leaf)) (get_or_from_slice_get (leaves e.tree.now) leaf l nowhere is) (x.held.own leaf (inside (leaves e.tree.now) leaf l is));
  around = λ leaf l is. subst (λ (v : Loc). SeesAround (block_at (settings_in e) (mesh_in e) e.layout.now e.field v) (list_at ghosts leaf)) (get_or_from_slice_get (leaves e.tree.now) leaf l nowhere is) (x.around leaf (inside (leaves e.tree.now) leaf l is));
}
  where
    inside : (xs : List Loc) (i : ℕ) (l : Loc) → slice_get xs i ≡ Some l → i < length xs
    inside [] i l h = cc
    inside (x ∷ xs) zero l h = omega arith
    inside (x ∷ xs) (suc i) l h = let r = inside xs i l h in omega arith
