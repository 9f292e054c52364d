-- What a flux part does to the lists of all leaves.
use Rattle.std.proofs.Common.{◌≡◌, ℕ, ◌+◌, ◌^◌, ◌<◌, ◌≤◌, Bool, true, not, Some, None, Option, List, map, length, arith, ap, subst, sym, ◌∙◌, inl, inr}
use Rattle.std.specs.List.{position_or_len, range_with_len, slice_get}
use Rattle.std.specs.Option.{option_map}
use Rattle.std.proofs.lemmas.Bool.{cases_eq, cases_lt}
use Rattle.std.proofs.lemmas.List.{length-map}
use Rattle.std.proofs.lemmas.List.FromFn.{get_or-range_with_len, length-range_with_len}
use Rattle.std.proofs.lemmas.Option.{slice_get-get_or, slice_get-map, slice_get_past}
use Rattle.morton_order.specs.declared.space.Loc.{Loc}
use Rattle.morton_order.specs.Space.{child, same_loc}
use Rattle.morton_order.specs.Neighbours.{across}
use Rattle.block_tree.specs.declared.neighbour.Behind.TheVariants.{Fine}
use Rattle.block_tree.specs.Behind.{behind, children_at}
use Rattle.block_tree.specs.Blocks.{TreeOfBlocks, is_inner_of, leaves}
use Rattle.block_tree.specs.Numbered.{numbered}
use Rattle.block_tree.specs.Tree.{IsLeaf, is_listed}
use Rattle.block_tree.proofs.KeyOrder.{leaves_law}
use Rattle.mesh_laws.proofs.StoredCells.{listed_number}
use Rattle.mesh_rules.specs.Mesh.{leaf_number}
use Rattle.block_layout.specs.declared.layout.Layout.{Layout}
use Rattle.block_layout.specs.Sizes.{IsLayout}
use Rattle.block_layout.specs.Indices.{count_of}
use Rattle.block_geometry.specs.Blocks.{FieldBlock}
use Rattle.block_geometry.specs.Contents.{HasPair, pair_of}
use Rattle.flux_laws.specs.Corrected.{HaveOwnPairs}
use Rattle.flux_correct.specs.Sums.{coarse_extents, face_factors}
use Rattle.flux_correct.specs.Boxes.{SumsBelow}
use Rattle.flux_correct.specs.Corrected.{IsCorrected}
use Rattle.correction_laws.specs.Replaced.{Covers, GainsPairs, IsNextTo, IsReplaced, Lists, part_of}
use Rattle.correction_laws.proofs.Digits.{child_of, child_stands, few_halves}
use Rattle.correction_laws.proofs.Replaced.{replaced_gain_pairs}
use Rattle.dense_mesh.specs.Ghosts.{list_at}
use Rattle.dense_stage.specs.declared.face_lists.FaceLists.{FaceLists}
use Rattle.dense_stage.specs.Blocks.{FieldMesh, HasOwn, HaveOwn, IsSoundMesh, KeepPairs, KeepsPairs, block_in, mesh_in}
use Rattle.dense_stage.specs.Faces.{AreFaceLists}
use Rattle.dense_stage.specs.Parts.{IsPutTo, part_from}
use Rattle.leaf_stages.proofs.Behinds.{FineBehind, NumberAt, fine_is, number_leaf, numbers_at, numbers_length}
use Rattle.dense_stage.proofs.Children.{child_below, children_are, half_of_child}
use Rattle.dense_stage.proofs.LeafFlows.{sound_block}
use Rattle.dense_stage.proofs.SmallSums.{IsSmallAtOwn, sums_are_small}

some_is : {X : Type 0} (a b : X) → ◌≡◌ {A = Option X} (Some a) (Some b) → a ≡ b
some_is a b e = cc

-- a leaf with finer leaves behind a side
pub record FineSide (t : TreeOfBlocks) (l : Layout) (x : FieldMesh) (leaf axis : ℕ) (high : Bool) (finer : List ℕ) (r : Loc) : Type 0 where
  pub sound : IsSoundMesh t l x
  pub used : axis < l.dims
  pub get : slice_get (leaves t) leaf ≡ Some r
  pub is : numbered (leaves t) (behind t.shape (is_inner_of t) r axis high) ≡ Some (Fine finer)

-- the part of the side that is k
pub record PartAt (t : TreeOfBlocks) (l : Layout) (x : FieldMesh) (axis : ℕ) (high : Bool) (r : Loc) (k from : ℕ) : Type 0 where
  pub o : Loc
  pub meets : across t.shape r axis high ≡ Some o
  pub inside : is_inner_of t o ≡ true
  pub next : IsNextTo (block_in t l x r) axis high (child_of axis (not high) k)
  pub few : k < 4
  pub is : slice_get (leaves t) from ≡ Some (child t.shape.dims o (child_of axis (not high) k))
  pub number : leaf_number (mesh_in t x) (child t.shape.dims o (child_of axis (not high) k)) ≡ from

-- the children at a side by their numbers
child_at_place : (dims axis : ℕ) (side : Bool) (f : ℕ → Loc) (k : ℕ) (m : Loc) → axis < dims → dims ≤ 3 → slice_get (map f (children_at dims axis side)) k ≡ Some m → (k < count_of (face_factors dims axis)) × (m ≡ f (child_of axis side k))
child_at_place dims axis side f k m used most e =
    let n : ℕ = count_of (face_factors dims axis) in
    let g : ℕ → ℕ = child_of axis side in
    let e' : slice_get (map f (map g (range_with_len 0 n))) k ≡ Some m = ap (λ (v : List ℕ). slice_get (map f v) k) (sym (children_are dims axis side used most)) ∙ e in
    let long : length (map f (map g (range_with_len 0 n))) ≡ n = length-map (map g (range_with_len 0 n)) f ∙ length-map (range_with_len 0 n) g ∙ length-range_with_len 0 n in
    elim (cases_lt k n) [
      | inr past ↦ absurd (none_is_not (sym (slice_get_past (map f (map g (range_with_len 0 n))) k (omega (arith, long, past))) ∙ e'))
      | inl less ↦
          let read : slice_get (range_with_len 0 n) k ≡ Some k = slice_get-get_or (range_with_len 0 n) k 0 (omega (arith, less, length-range_with_len 0 n)) ∙ ap (λ (v : ℕ). Some v) (get_or-range_with_len 0 n k 0 less ∙ plain k) in
          let at : slice_get (map f (map g (range_with_len 0 n))) k ≡ Some (f (g k)) =
          slice_get-map f (map g (range_with_len 0 n)) k ∙ ap (option_map f) (slice_get-map g (range_with_len 0 n) k ∙ ap (option_map g) read) in
          (less, some_is m (f (g k)) (sym e' ∙ at))
    ]
  where
    none_is_not : ◌≡◌ {A = Option Loc} None (Some m) → ⊥
    none_is_not e = cc

    plain : (k : ℕ) → 0 + k ≡ k
    plain k = omega arith

pub part_at : (t : TreeOfBlocks) (l : Layout) (x : FieldMesh) (leaf axis : ℕ) (high : Bool) (finer : List ℕ) (r : Loc) (k from : ℕ) → FineSide t l x leaf axis high finer r → slice_get finer k ≡ Some from → PartAt t l x axis high r k from
part_at t l x leaf axis high finer r k from s get =
    let d : ℕ = t.shape.dims in
    let used : axis < d = omega (arith, s.used, s.sound.layout.dims) in
    let most = s.sound.mesh.shape.most in
    let fine : FineBehind (leaves t) t.shape (is_inner_of t) axis high (across t.shape r axis high) finer = fine_is t.shape (is_inner_of t) (leaves t) axis high (across t.shape r axis high) finer s.is in
    let at : NumberAt (leaves t) (map (child d fine.o) (children_at d axis (not high))) k from = numbers_at (leaves t) (map (child d fine.o) (children_at d axis (not high))) finer k from fine.numbers get in
    let place = child_at_place d axis (not high) (child d fine.o) k at.at used most at.is in
    let few = few_halves d axis k used most place.0 in
    let number = number_leaf (leaves t) at.at from at.number in
    record {
      o = fine.o;
      meets = fine.meets;
      inside = fine.inside;
      next = record { sound = sound_block t l x leaf r s.sound s.get; used = s.used; child = child_below d axis (not high) k used most place.0; half = child_stands axis k (not high) few };
      few = few;
      is = number.0 ∙ ap (λ (m : Loc). Some m) place.1;
      number = ap (λ (m : Loc). position_or_len (same_loc m) (leaves t)) (sym place.1) ∙ number.1;
    }

pub few_finer : (t : TreeOfBlocks) (l : Layout) (x : FieldMesh) (leaf axis : ℕ) (high : Bool) (finer : List ℕ) (r : Loc) → FineSide t l x leaf axis high finer r → length finer ≡ count_of (face_factors t.shape.dims axis)
few_finer t l x leaf axis high finer r s =
    let d : ℕ = t.shape.dims in
    let used : axis < d = omega (arith, s.used, s.sound.layout.dims) in
    let n : ℕ = count_of (face_factors d axis) in
    let fine : FineBehind (leaves t) t.shape (is_inner_of t) axis high (across t.shape r axis high) finer = fine_is t.shape (is_inner_of t) (leaves t) axis high (across t.shape r axis high) finer s.is in
    numbers_length (leaves t) (map (child d fine.o) (children_at d axis (not high))) finer fine.numbers
    ∙ length-map (children_at d axis (not high)) (child d fine.o)
    ∙ ap (λ (v : List ℕ). length v) (children_are d axis (not high) used s.sound.mesh.shape.most)
    ∙ length-map (range_with_len 0 n) (child_of axis (not high))
    ∙ length-range_with_len 0 n

-- the sums of a part fit
own_small : (b : FieldBlock) (right left : List ℕ) → HasOwn b right left → IsSmallAtOwn b right × IsSmallAtOwn b left
own_small b right left own = (
  λ i axis high used w free. subst (λ v. v < 2 ^ 62) (sym (own.pairs i axis high used w free).0) (own.small i axis high used w free).0,
  λ i axis high used w free. subst (λ v. v < 2 ^ 62) (sym (own.pairs i axis high used w free).1) (own.small i axis high used w free).1,
)

pub part_fits : (t : TreeOfBlocks) (l : Layout) (x : FieldMesh) (axis : ℕ) (high : Bool) (r : Loc) (k from : ℕ) (faces : FaceLists) → IsLayout l.dims l.cells → IsSoundMesh t l x → PartAt t l x axis high r k from → HaveOwn t l x faces →
    SumsBelow (2 ^ 64) l axis (not high) (list_at faces.right.items from) × SumsBelow (2 ^ 64) l axis (not high) (list_at faces.left.items from)
part_fits t l x axis high r k from faces fit sound p own =
    let j : ℕ = child_of axis (not high) k in
    let s : Loc = child t.shape.dims p.o j in
    let finer = sound_block t l x from s sound p.is in
    let small = own_small (block_in t l x s) (list_at faces.right.items from) (list_at faces.left.items from) (own from s p.is) in (
      sums_are_small (block_in t l x r) axis high p.o j (list_at faces.right.items from) p.next p.meets finer small.0 fit,
      sums_are_small (block_in t l x r) axis high p.o j (list_at faces.left.items from) p.next p.meets finer small.1 fit,
    )

-- the lists of all leaves by location have their own pairs
abbrev by_loc : TreeOfBlocks → FieldMesh → List (List ℕ) → Loc → List ℕ
by_loc t x lists m = list_at lists (leaf_number (mesh_in t x) m)

numbered_leaf : (t : TreeOfBlocks) (l : Layout) (x : FieldMesh) (m : Loc) → IsSoundMesh t l x → IsLeaf t.shape (is_listed t.inner) m → slice_get (leaves t) (leaf_number (mesh_in t x) m) ≡ Some m
numbered_leaf t l x m sound leaf =
    let listed = ((leaves_law t.shape (is_listed t.inner) sound.mesh.shape sound.mesh.tree).leaves m).1 leaf in
    let read = listed_number m (leaves t) listed in
    slice_get-get_or (leaves t) (position_or_len (same_loc m) (leaves t)) m read.small ∙ ap (λ (v : Loc). Some v) read.is

-- what a part does
pub record PartDone (t : TreeOfBlocks) (l : Layout) (x : FieldMesh) (leaf axis : ℕ) (high : Bool) (r : Loc) (k : ℕ) (old new : FaceLists) : Type 0 where
  pub kept : KeepPairs t l x old new
  pub done : (i : List ℕ) → Covers (block_in t l x r) axis high (child_of axis (not high) k) i → HasPair l (list_at new.right.items leaf) (list_at new.left.items leaf) i axis high (pair_of (block_in t l x r) i axis high)

pub part_done : (t : TreeOfBlocks) (l : Layout) (x : FieldMesh) (leaf axis : ℕ) (high : Bool) (finer : List ℕ) (r : Loc) (k from : ℕ) (old new : FaceLists) → FineSide t l x leaf axis high finer r → PartAt t l x axis high r k from → HaveOwn t l x old →
    IsPutTo l axis high k from leaf old new → PartDone t l x leaf axis high r k old new
part_done t l x leaf axis high finer r k from old new s p own put =
    let b : FieldBlock = block_in t l x r in
    let j : ℕ = child_of axis (not high) k in
    let m : Loc = child t.shape.dims p.o j in
    let before : Lists = record { right = list_at old.right.items leaf; left = list_at old.left.items leaf } in
    let after : Lists = record { right = list_at new.right.items leaf; left = list_at new.left.items leaf } in
    let half = half_of_child axis k (not high) p.few in
    let part : List ℕ = part_from l axis high old from in
    let replaced : IsReplaced b axis high j part before after =
    record {
      rights = subst (λ h. IsCorrected l axis high h 0 part before.right after.right) (sym half) put.rights;
      lefts = subst (λ h. IsCorrected l axis high h (count_of (coarse_extents l axis)) part before.left after.left) (sym half) put.lefts;
    } in
    let replaced' : IsReplaced b axis high j (part_of b axis high (by_loc t x old.right.items m) (by_loc t x old.left.items m)) before after =
    subst (λ n. IsReplaced b axis high j (part_of b axis high (list_at old.right.items n) (list_at old.left.items n)) before after) (sym p.number) replaced in
    let have : HaveOwnPairs b (by_loc t x old.right.items) (by_loc t x old.left.items) = λ o leaf. (own (leaf_number (mesh_in t x) o) o (numbered_leaf t l x o s.sound leaf)).pairs in
    let gains : GainsPairs b axis high j before after = replaced_gain_pairs b axis high p.o j (by_loc t x old.right.items) (by_loc t x old.left.items) before after p.next p.meets p.inside have replaced' in
    record {
      kept = λ n o get. elim (cases_eq n leaf) [
        | inl e ↦
            let same : r ≡ o = some_is r o (sym s.get ∙ ap (slice_get (leaves t)) (sym e) ∙ get) in
            subst (λ (v : ℕ). KeepsPairs (block_in t l x o) (list_at old.right.items v) (list_at old.left.items v) (list_at new.right.items v) (list_at new.left.items v)) (sym e)
            (subst (λ (v : Loc). KeepsPairs (block_in t l x v) before.right before.left after.right after.left) same gains.kept)
        | inr ne ↦
            subst (λ (v : List ℕ). KeepsPairs (block_in t l x o) (list_at old.right.items n) (list_at old.left.items n) v (list_at new.left.items n)) (sym (put.other_rights n ne))
            (subst (λ (v : List ℕ). KeepsPairs (block_in t l x o) (list_at old.right.items n) (list_at old.left.items n) (list_at old.right.items n) v) (sym (put.other_lefts n ne)) (λ i a h used w has. has))
      ];
      done = gains.covered;
    }

-- what is kept
pub own_kept : (t : TreeOfBlocks) (l : Layout) (x : FieldMesh) (old new : FaceLists) → HaveOwn t l x old → KeepPairs t l x old new → HaveOwn t l x new
own_kept t l x old new own kept leaf o get =
    let h = own leaf o get in
    record { pairs = λ i axis high used w free. kept leaf o get i axis high used w (h.pairs i axis high used w free); small = h.small }

pub kept_twice : (t : TreeOfBlocks) (l : Layout) (x : FieldMesh) (a b c : FaceLists) → KeepPairs t l x a b → KeepPairs t l x b c → KeepPairs t l x a c
kept_twice t l x a b c p q leaf o get i axis high used w has = q leaf o get i axis high used w (p leaf o get i axis high used w has)

pub kept_once : (t : TreeOfBlocks) (l : Layout) (x : FieldMesh) (a : FaceLists) → KeepPairs t l x a a
kept_once t l x a leaf o get i axis high used w has = has

-- the parts below one have been put
pub record HalvesDone (t : TreeOfBlocks) (l : Layout) (x : FieldMesh) (leaf axis : ℕ) (high : Bool) (half : ℕ) (old new : FaceLists) : Type 0 where
  pub fit : AreFaceLists l (length (leaves t)) new
  pub kept : KeepPairs t l x old new
  pub done : (k : ℕ) (o : Loc) (i : List ℕ) → k < half → slice_get (leaves t) leaf ≡ Some o → Covers (block_in t l x o) axis high (child_of axis (not high) k) i →
      HasPair l (list_at new.right.items leaf) (list_at new.left.items leaf) i axis high (pair_of (block_in t l x o) i axis high)

pub half_more : (t : TreeOfBlocks) (l : Layout) (x : FieldMesh) (leaf axis : ℕ) (high : Bool) (finer : List ℕ) (r : Loc) (half from : ℕ) (old before new : FaceLists) → FineSide t l x leaf axis high finer r → slice_get finer half ≡ Some from → HaveOwn t l x old →
    HalvesDone t l x leaf axis high half old before → AreFaceLists l (length before.right.items) new → IsPutTo l axis high half from leaf before new → HalvesDone t l x leaf axis high (half + 1) old new
half_more t l x leaf axis high finer r half from old before new s get own so_far fit put =
    let p = part_at t l x leaf axis high finer r half from s get in
    let part : PartDone t l x leaf axis high r half before new = part_done t l x leaf axis high finer r half from before new s p (own_kept t l x old before own so_far.kept) put in
    record {
      fit = subst (λ n. AreFaceLists l n new) so_far.fit.rights.count fit;
      kept = kept_twice t l x old before new so_far.kept part.kept;
      done = λ k o i less at covers. elim (cases_eq k half) [
        | inl e ↦
            let same : r ≡ o = some_is r o (sym s.get ∙ at) in
            let covered : Covers (block_in t l x o) axis high (child_of axis (not high) half) i = subst (λ v. Covers (block_in t l x o) axis high (child_of axis (not high) v) i) e covers in
            subst (λ (v : Loc). HasPair l (list_at new.right.items leaf) (list_at new.left.items leaf) i axis high (pair_of (block_in t l x v) i axis high)) same
            (part.done i (subst (λ (v : Loc). Covers (block_in t l x v) axis high (child_of axis (not high) half) i) (sym same) covered))
        | inr ne ↦ part.kept leaf o at i axis high s.used covers.beside.within (so_far.done k o i (omega (arith, ne, less)) at covers)
      ];
    }
