-- Flux parts correct the faces that finer leaves cover.
use Rattle.std.proofs.Common.{◌≡◌, ℕ, ◌⊎◌, Bool, true, false, not, List, IsTrue, refl, arith, ap, subst, sym, ◌∙◌, slice_index, inl, inr}
use Rattle.std.proofs.lemmas.Bool.{cases_eq}
use Rattle.morton_order.specs.declared.space.Loc.{Loc}
use Rattle.morton_order.specs.Space.{child}
use Rattle.mesh_rules.specs.Mesh.{Mesh}
use Rattle.block_tree.specs.Behind.{children_at}
use Rattle.mesh_rules.specs.Faces.{Pair, sum_pairs}
use Rattle.block_layout.specs.declared.layout.Layout.{Layout}
use Rattle.block_layout.specs.Indices.{IsWithin, count_of}
use Rattle.block_layout.specs.Layouts.{cells_along}
use Rattle.block_geometry.specs.Blocks.{FieldBlock, IsLayoutOf, end_of}
use Rattle.block_geometry.specs.Contents.{HasPair, pair_of}
use Rattle.block_geometry.proofs.Seen.{three_axes}
use Rattle.ghost_laws.specs.Layers.{across_index}
use Rattle.ghost_laws.specs.Refined.{LiesInChild, child_at, finer_index}
use Rattle.ghost_laws.proofs.Layers.{sizes, within_across}
use Rattle.ghost_laws.proofs.Senders.{finer_leaf, leaf_block, lies_in_child}
use Rattle.flux_laws.specs.Corrected.{listed_pair}
use Rattle.flux_laws.proofs.AtSide.{finer_at_side}
use Rattle.flux_laws.proofs.Corrected.{coarse_pairs}
use Rattle.flux_correct.specs.Sums.{coarse_extents}
use Rattle.correction_laws.specs.Replaced.{Covers, IsCorrectedAt, IsNextTo, IsReplaced, Lists, ReplacedAreCorrected, ReplacedGainPairs, part_of}
use Rattle.correction_laws.proofs.Covered.{InHalf, shaped}
use Rattle.correction_laws.proofs.PartSums.{covered_sum, lefts_of_part, rights_of_part}
use Rattle.correction_laws.proofs.Others.{AtSide, Found, other_stays}

-- a mesh has the blocks of its layout
pub shaped_is : (l : Layout) (m : Mesh) → IsLayoutOf m l → shaped l m ≡ m
shaped_is l m is =
    ap (λ d. record m { shape = record m.shape { dims = d }; cells = l.cells }) is.dims
    ∙ ap (λ c. record m { cells = c }) is.cells

-- a block of such a mesh
abbrev of_layout : FieldBlock → FieldBlock
of_layout b = record b { mesh = shaped b.layout b.mesh }

in_half : (b : FieldBlock) (axis : ℕ) (high : Bool) (j : ℕ) (i : List ℕ) → Covers (of_layout b) axis high j i → InHalf b.layout b.mesh axis high j i
in_half b axis high j i s =
    let v : FieldBlock = of_layout b in
    let q : List ℕ = across_index v.mesh axis high 0 i in
    record {
      fit = sizes v s.beside.sound;
      three = three_axes v axis s.beside.sound s.beside.used;
      within = s.beside.within;
      at = s.beside.at;
      lies = subst (λ k. LiesInChild v.mesh k q) s.child (lies_in_child v.mesh q (sizes v s.beside.sound) (within_across v axis high i 0 s.beside (omega arith)));
    }

-- the law for one block
abbrev IsCorrectedBlock : FieldBlock → Type 0
IsCorrectedBlock b = (axis : ℕ) (high : Bool) (o : Loc) (j : ℕ) (rights lefts : Loc → List ℕ) (old new : Lists) → IsNextTo b axis high j →
    IsReplaced b axis high j (part_of b axis high (rights (child b.mesh.shape.dims o j)) (lefts (child b.mesh.shape.dims o j))) old new → IsCorrectedAt b axis high o j rights lefts old new

-- the sums behind a face, by the lists of the child k
abbrev sums_of : FieldBlock → (Loc → List ℕ) → (Loc → List ℕ) → ℕ → Bool → Loc → List ℕ → ℕ → Pair
sums_of b rights lefts axis high o i k =
    let m : Mesh = shaped b.layout b.mesh in
    sum_pairs (children_at m.shape.dims axis (not high)) (λ x. listed_pair b.layout (rights (child m.shape.dims o k)) (lefts (child m.shape.dims o k)) (finer_index m (across_index m axis high 0 i) x) axis (not high))

of_layout_corrected : (b : FieldBlock) → IsCorrectedBlock (of_layout b)
of_layout_corrected b axis high o j rights lefts old new next put =
    let l : Layout = b.layout in
    let v : FieldBlock = of_layout b in
    let right : List ℕ = rights (child l.dims o j) in
    let left : List ℕ = lefts (child l.dims o j) in
    let part : List ℕ = part_of v axis high right left in
    let fit = sizes v next.sound in
    let side : AtSide l axis high j = record { fit = fit; used = next.used; child = next.child; half = next.half } in
    record {
      sums = λ i s.
          let h = in_half b axis high j i s in
          let stand = λ (k : ℕ). finer_at_side v axis high i k s.beside in
          let from : child_at v.mesh (across_index v.mesh axis high 0 i) ≡ j = s.child in
          subst (λ k. HasPair l new.right new.left i axis high (sums_of b rights lefts axis high o i k)) (sym from) (
            covered_sum l b.mesh axis high j 0 i right part old.right new.right h next.used stand (rights_of_part l axis (not high) right left) put.rights,
            covered_sum l b.mesh axis high j (count_of (coarse_extents l axis)) i left part old.left new.left h next.used stand (lefts_of_part l axis (not high) right left) put.lefts,
          );
      others = λ i along s used w apart.
          let none : (along ≡ axis) × Found l b.mesh axis high j i s → ⊥ = λ e.
          apart (e.0, e.1.side_is, record { beside = record { sound = next.sound; used = next.used; within = w; at = e.1.at }; child = e.1.child }) in (
            other_stays l b.mesh axis high j i along s 0 part old.right new.right side used w none put.rights,
            other_stays l b.mesh axis high j i along s (count_of (coarse_extents l axis)) part old.left new.left side used w none put.lefts,
          );
    }

pub replaced_are_corrected : ReplacedAreCorrected
replaced_are_corrected b axis high o j rights lefts old new next put =
    subst (λ (m : Mesh). IsCorrectedBlock (record b { mesh = m })) (shaped_is b.layout b.mesh next.sound.layout) (of_layout_corrected b) axis high o j rights lefts old new next put

-- a face is covered by a child or not
covered_or_not : (b : FieldBlock) (axis : ℕ) (high : Bool) (j : ℕ) (i : List ℕ) (along : ℕ) (side : Bool) → IsNextTo b axis high j → IsWithin b.layout.cells i →
    ((along ≡ axis) × (side ≡ high) × Covers b axis high j i) ⊎ ((along ≡ axis) × (side ≡ high) × Covers b axis high j i → ⊥)
covered_or_not b axis high j i along side next w =
    elim (cases_eq along axis) [
      | inr far ↦ inr (λ e. far e.0)
      | inl near ↦ elim (same_side side high) [
        | inr far ↦ inr (λ e. far e.1)
        | inl there ↦ elim (cases_eq (slice_index i axis) (end_of (cells_along b.layout axis) high)) [
          | inr far ↦ inr (λ e. far e.2.beside.at)
          | inl at ↦ elim (cases_eq (child_at b.mesh (across_index b.mesh axis high 0 i)) j) [
            | inr far ↦ inr (λ e. far e.2.child)
            | inl is ↦ inl (near, there, record { beside = record { sound = next.sound; used = next.used; within = w; at = at }; child = is })
          ]
        ]
      ]
    ]
  where
    same_side : (a b : Bool) → (a ≡ b) ⊎ (a ≡ b → ⊥)
    same_side true true = inl refl
    same_side false false = inl refl
    same_side true false = inr (λ e. cc)
    same_side false true = inr (λ e. cc)

pub replaced_gain_pairs : ReplacedGainPairs
replaced_gain_pairs b axis high o j rights lefts old new next meets inner have put =
    let fixed = replaced_are_corrected b axis high o j rights lefts old new next put in
    let d : ℕ = b.mesh.shape.dims in
    let covered : (i : List ℕ) → Covers b axis high j i → HasPair b.layout new.right new.left i axis high (pair_of b i axis high) = λ i s.
    let q : List ℕ = across_index b.mesh axis high 0 i in
    let k : ℕ = child_at b.mesh q in
    let lies = lies_in_child b.mesh q (sizes b next.sound) (within_across b axis high i 0 s.beside (omega arith)) in
    let leaf = finer_leaf b axis high o k i 0 s.beside (omega arith) meets (is_true_of inner) lies in
    let same = coarse_pairs b axis high o k i (rights (child d o k)) (lefts (child d o k)) s.beside meets (leaf_block b (child d o k) next.sound leaf) (have (child d o k) leaf) lies in
    let pair = fixed.sums i s in
    (pair.0 ∙ sym (ap (λ (x : Pair). x.right) same), pair.1 ∙ sym (ap (λ (x : Pair). x.left) same)) in
    record {
      covered = covered;
      kept = λ i along side used w has. elim (covered_or_not b axis high j i along side next w) [
        | inl e ↦ moved b new i (sym e.0) (sym e.1) (covered i e.2)
        | inr apart ↦ let same = fixed.others i along side used w apart in (same.0 ∙ has.0, same.1 ∙ has.1)
      ];
    }
  where
    is_true_of : {t : Bool} → IsTrue t → t ≡ true
    is_true_of h = h

    moved : (b : FieldBlock) (new : Lists) (i : List ℕ) {a c : ℕ} {g h : Bool} → a ≡ c → g ≡ h → HasPair b.layout new.right new.left i a g (pair_of b i a g) → HasPair b.layout new.right new.left i c h (pair_of b i c h)
    moved b new i {a} {c} {g} {h} e f x = subst (λ t. HasPair b.layout new.right new.left i c t (pair_of b i c t)) f (subst (λ z. HasPair b.layout new.right new.left i z g (pair_of b i z g)) e x)
