-- The update of a leaf is the stage of the mesh on it.
use Rattle.std.proofs.Common.{◌≡◌, ℕ, zero, suc, ◌+◌, ◌-◌, ◌*◌, ◌^◌, ◌<◌, ◌≤◌, ◌⊎◌, inl, inr, List, [], ◌∷◌, ◌++◌, All, length, map, take, drop, Some, refl, arith, ap, subst, sym, ◌∙◌, slice_index, zero-add}
use Rattle.std.specs.List.{slice_get}
use Rattle.std.proofs.lemmas.Bool.{cases_lt}
use Rattle.std.proofs.lemmas.List.{map-append}
use Rattle.std.proofs.lemmas.List.Elements.{All-from_get_or}
use Rattle.morton_order.specs.declared.space.Loc.{Loc}
use Rattle.mesh_rules.specs.Sums.{sum_to, table}
use Rattle.mesh_rules.specs.Mesh.{Mesh, block_size, cell_at, stored}
use Rattle.mesh_rules.specs.Stage.{gain, loss, staged}
use Rattle.block_layout.specs.declared.layout.Layout.{Layout}
use Rattle.block_layout.specs.Indices.{IsWithin, added, count_of, index_of, number_of}
use Rattle.block_layout.specs.Layouts.{cells_along, ghost_layers, len, widths}
use Rattle.block_layout.specs.Laws.{IsSame}
use Rattle.block_layout.proofs.Boxes.{index_below, index_number, number_index}
use Rattle.block_geometry.specs.Blocks.{FieldBlock, IsFieldBlock, cell_in, own_place}
use Rattle.block_geometry.specs.Contents.{HasInterior, HasPairs}
use Rattle.block_laws.specs.Update.{IsStagedBy}
use Rattle.block_laws.proofs.Updates.{update_is_stage}
use Rattle.cell_boxes.specs.declared.boxes.BoxIn.{BoxIn}
use Rattle.cell_boxes.specs.Boxes.{address}
use Rattle.block_regions.specs.Rows.{whole_box}
use Rattle.restrict_prolong.proofs.Wholes.{from_whole}
use Rattle.restrict_prolong.proofs.Halves.{same_three}
use Rattle.kernel_laws.proofs.Updated.{updated_is_staged}
use Rattle.transport_kernel.specs.Update.{CanPass, GhostsStay, HasPassed, gain_along, listed, loss_along, sum_axes}
use Rattle.transport_kernel.specs.Update as kernel
use Rattle.dense_mesh.proofs.Tables.{table_same}
use Rattle.dense_stage.specs.Blocks.{StaysSmall}
use Rattle.dense_stage.specs.Own.{extents_of, interior_box, own_cells}
use Rattle.dense_stage.proofs.Fluxes.{read_small}
use Rattle.dense_stage.proofs.LeafOwn.{written_whole}

-- the interior without its ghosts
pub own_written : (l : Layout) (cells new e : List ℕ) (from into : BoxIn) → e ≡ extents_of l → from ≡ interior_box l → into ≡ whole_box e → length new ≡ count_of l.cells →
    ((i : List ℕ) → IsWithin e i → slice_index new (address into i) ≡ slice_index cells (address from i)) → new ≡ own_cells l cells
own_written l cells new e from into is from_is into_is long copied =
    from_whole (extents_of l) (λ i. slice_index cells (own_place l i)) new long
    (λ i w.
    ap (λ (b : BoxIn). slice_index new (address b i)) (sym (into_is ∙ ap whole_box is))
    ∙ copied i (subst (λ (v : List ℕ). IsWithin v i) (sym is) w)
    ∙ ap (λ (b : BoxIn). slice_index cells (address b i)) from_is
    ∙ ap (slice_index cells) (zero-add (own_place l i)))

-- the update through a slice
pub passed_whole : (l : Layout) (old read new right right' left left' : List ℕ) → read ≡ old → right' ≡ right → left' ≡ left → length new ≡ length read → HasPassed l (listed l right') (listed l left') read new →
    HasPassed l (listed l right) (listed l left) old (take (length old) (new ++ drop (length new) old))
passed_whole l old read new right right' left left' a b c same passed =
    subst (λ (v : List ℕ). HasPassed l (listed l right) (listed l left) old v) (sym (written_whole old new (same ∙ ap (λ (v : List ℕ). length v) a)))
    (subst (λ (v : List ℕ). HasPassed l (listed l right) (listed l left) v new) a
    (subst (λ (v : List ℕ). HasPassed l (listed l v) (listed l left) read new) b (subst (λ (v : List ℕ). HasPassed l (listed l right') (listed l v) read new) c passed)))

-- two ways to write a sum over the axes
axes_sum : (n : ℕ) (each : ℕ → ℕ) → sum_axes n each ≡ sum_to n each
axes_sum zero each = refl
axes_sum (suc n) each = ap (λ t. t + each n) (axes_sum n each)

-- a leaf can be updated
pub can_pass : (b : FieldBlock) (cells right left : List ℕ) → IsFieldBlock b → HasInterior b cells → HasPairs b right left → StaysSmall b → All (λ t. t < 2 ^ 62) cells → CanPass b.layout (listed b.layout right) (listed b.layout left) cells
can_pass b cells right left sound has pairs small all =
    record {
      pays = λ i w. let f = facts i w in omega (arith, f.0, f.2, f.3);
      small = λ i w. let f = facts i w in omega (arith, f.0, f.1, f.2, f.3, f.4, f.5);
    }
  where
    facts : (i : List ℕ) → IsWithin b.layout.cells i →
        (kernel.loss b.layout.dims (listed b.layout right) (listed b.layout left) i ≡ loss b.settings b.mesh b.field (cell_in b.mesh b.leaf i))
        × (kernel.gain b.layout.dims (listed b.layout right) (listed b.layout left) i ≡ gain b.settings b.mesh b.field (cell_in b.mesh b.leaf i))
        × (slice_index cells (own_place b.layout i) ≡ stored b.mesh b.field (cell_in b.mesh b.leaf i))
        × (loss b.settings b.mesh b.field (cell_in b.mesh b.leaf i) ≤ stored b.mesh b.field (cell_in b.mesh b.leaf i))
        × (stored b.mesh b.field (cell_in b.mesh b.leaf i) + gain b.settings b.mesh b.field (cell_in b.mesh b.leaf i) - loss b.settings b.mesh b.field (cell_in b.mesh b.leaf i) < 2 ^ 62)
        × (slice_index cells (own_place b.layout i) < 2 ^ 62)
    facts i w =
        let by : IsStagedBy b cells right left i = update_is_stage b cells right left i sound has pairs w in (
          axes_sum b.layout.dims (loss_along (listed b.layout right) (listed b.layout left) i) ∙ by.losses,
          axes_sum b.layout.dims (gain_along (listed b.layout right) (listed b.layout left) i) ∙ by.gains,
          has i w,
          small.pays i w,
          small.small i w,
          read_small cells all (own_place b.layout i),
        )

-- its cells without ghosts are then those of the stage
cell_place_is : (m : Mesh) (o : Loc) (n : List ℕ) (k : ℕ) → n ≡ m.cells → cell_in m o (index_of n k) ≡ cell_at m o k
cell_place_is m o n k e = ap (λ (v : List ℕ). cell_in m o (index_of v k)) e

pub staged_cells : (b : FieldBlock) (cells right left new : List ℕ) → IsFieldBlock b → HasInterior b cells → HasPairs b right left → HasPassed b.layout (listed b.layout right) (listed b.layout left) cells new →
    own_cells b.layout new ≡ table (block_size b.mesh) (λ place. staged b.settings b.mesh b.field (cell_at b.mesh b.leaf place))
staged_cells b cells right left new sound has pairs passed =
    let n : List ℕ = b.layout.cells in
    table_same (count_of n) (λ k. slice_index new (own_place b.layout (index_of n k))) (λ k. staged b.settings b.mesh b.field (cell_at b.mesh b.leaf k)) 0
    (λ k less.
    updated_is_staged b cells right left new sound has pairs passed (index_of n k) (index_below n k less)
    ∙ ap (staged b.settings b.mesh b.field) (cell_place_is b.mesh b.leaf n k sound.layout.cells))
    ∙ ap (λ (v : List ℕ). table (count_of v) (λ place. staged b.settings b.mesh b.field (cell_at b.mesh b.leaf place))) sound.layout.cells

-- all totals of the list are small then
record Inside (l : Layout) (w : List ℕ) : Type 0 where
  low1 : ghost_layers l 0 ≤ slice_index w 0
  high1 : slice_index w 0 < ghost_layers l 0 + cells_along l 0
  low2 : ghost_layers l 1 ≤ slice_index w 1
  high2 : slice_index w 1 < ghost_layers l 1 + cells_along l 1
  low3 : ghost_layers l 2 ≤ slice_index w 2
  high3 : slice_index w 2 < ghost_layers l 2 + cells_along l 2

between : (a x b : ℕ) → ((a ≤ x) × (x < b)) ⊎ ((a ≤ x) × (x < b) → ⊥)
between a x b = elim (cases_lt x a) [
  | inl below ↦ inr (λ e. let f = e.0 in absurd (omega arith))
  | inr from ↦ elim (cases_lt x b) [
    | inl less ↦ inl (from, less)
    | inr past ↦ inr (λ e. let f = e.1 in absurd (omega arith))
  ]
]

inside_or_not : (l : Layout) (w : List ℕ) → Inside l w ⊎ (Inside l w → ⊥)
inside_or_not l w = elim (between (ghost_layers l 0) (slice_index w 0) (ghost_layers l 0 + cells_along l 0)) [
  | inr out ↦ inr (λ e. out (e.low1, e.high1))
  | inl a ↦ elim (between (ghost_layers l 1) (slice_index w 1) (ghost_layers l 1 + cells_along l 1)) [
    | inr out ↦ inr (λ e. out (e.low2, e.high2))
    | inl b ↦ elim (between (ghost_layers l 2) (slice_index w 2) (ghost_layers l 2 + cells_along l 2)) [
      | inr out ↦ inr (λ e. out (e.low3, e.high3))
      | inl c ↦ inl (record { low1 = a.0; high1 = a.1; low2 = b.0; high2 = b.1; low3 = c.0; high3 = c.1 })
    ]
  ]
]

-- the index of an interior cell from its place
abbrev from_place : Layout → List ℕ → List ℕ
from_place l w = (slice_index w 0 - ghost_layers l 0) ∷ (slice_index w 1 - ghost_layers l 1) ∷ (slice_index w 2 - ghost_layers l 2) ∷ []

back : (a x : ℕ) → a ≤ x → a + (x - a) ≡ x
back a x h = omega arith

within_block : (l : Layout) (i : List ℕ) → IsWithin l.cells i → IsWithin (widths l) (added (ghost_layers l 0 ∷ ghost_layers l 1 ∷ ghost_layers l 2 ∷ []) i)
within_block l i w = record {
  along1 = wide (ghost_layers l 0) (slice_index i 0) (cells_along l 0) w.along1;
  along2 = wide (ghost_layers l 1) (slice_index i 1) (cells_along l 1) w.along2;
  along3 = wide (ghost_layers l 2) (slice_index i 2) (cells_along l 2) w.along3;
}
  where
    wide : (g x n : ℕ) → x < n → g + x < n + 2 * g
    wide g x n h = omega arith

place_again : (l : Layout) (k : ℕ) → k < len l → Inside l (index_of (widths l) k) → own_place l (from_place l (index_of (widths l) k)) ≡ k
place_again l k less s =
    let w : List ℕ = index_of (widths l) k in
    ap (number_of (widths l)) (same_three _ _ _ (slice_index w 0) (slice_index w 1) (slice_index w 2) (back (ghost_layers l 0) (slice_index w 0) s.low1) (back (ghost_layers l 1) (slice_index w 1) s.low2) (back (ghost_layers l 2) (slice_index w 2) s.low3))
    ∙ index_number (widths l) k

found_inside : (l : Layout) (k : ℕ) (i : List ℕ) → IsWithin l.cells i → k ≡ own_place l i → Inside l (index_of (widths l) k)
found_inside l k i w e =
    let p : List ℕ = added (ghost_layers l 0 ∷ ghost_layers l 1 ∷ ghost_layers l 2 ∷ []) i in
    let same : IsSame (index_of (widths l) (number_of (widths l) p)) p = number_index (widths l) p (within_block l i w) in
    subst (λ v. Inside l (index_of (widths l) v)) (sym e)
    (record {
      low1 = low (ghost_layers l 0) (slice_index i 0) _ same.along1;
      high1 = high (ghost_layers l 0) (slice_index i 0) (cells_along l 0) _ w.along1 same.along1;
      low2 = low (ghost_layers l 1) (slice_index i 1) _ same.along2;
      high2 = high (ghost_layers l 1) (slice_index i 1) (cells_along l 1) _ w.along2 same.along2;
      low3 = low (ghost_layers l 2) (slice_index i 2) _ same.along3;
      high3 = high (ghost_layers l 2) (slice_index i 2) (cells_along l 2) _ w.along3 same.along3;
    })
  where
    low : (g x v : ℕ) → v ≡ g + x → g ≤ v
    low g x v e = omega arith

    high : (g x n v : ℕ) → x < n → v ≡ g + x → v < g + n
    high g x n v h e = omega arith

pub updated_small : (b : FieldBlock) (cells right left new : List ℕ) → IsFieldBlock b → HasInterior b cells → HasPairs b right left → StaysSmall b → All (λ t. t < 2 ^ 62) cells → length new ≡ len b.layout →
    HasPassed b.layout (listed b.layout right) (listed b.layout left) cells new → GhostsStay b.layout cells new → All (λ t. t < 2 ^ 62) new
updated_small b cells right left new sound has pairs small all long passed stay =
    All-from_get_or (λ t. t < 2 ^ 62) new 0 (λ k less. elim (inside_or_not b.layout (index_of (widths b.layout) k)) [
      | inl s ↦
          let i : List ℕ = from_place b.layout (index_of (widths b.layout) k) in
          let w : IsWithin b.layout.cells i = record { along1 = omega (arith, s.low1, s.high1); along2 = omega (arith, s.low2, s.high2); along3 = omega (arith, s.low3, s.high3) } in
          subst (λ v. slice_index new v < 2 ^ 62) (place_again b.layout k (omega (arith, less, long)) s) (subst (λ v. v < 2 ^ 62) (sym (updated_is_staged b cells right left new sound has pairs passed i w)) (small.small i w))
      | inr out ↦ subst (λ v. v < 2 ^ 62) (sym (stay k (λ i w e. out (found_inside b.layout k i w e)))) (read_small cells all k)
    ])

-- one list more
pub take_more : {X : Type 0} (xs : List X) (n : ℕ) (x : X) → slice_get xs n ≡ Some x → take (n + 1) xs ≡ take n xs ++ x ∷ []
take_more [] n x e = absurd (wrong x e)
  where
    wrong : {X : Type 0} (x : X) → slice_get [] n ≡ Some x → ⊥
    wrong x e = cc
take_more (y ∷ ys) zero x e = ap (λ v. v ∷ []) (same y x e)
  where
    same : {X : Type 0} (y x : X) → Some y ≡ Some x → y ≡ x
    same y x e = cc
take_more (y ∷ ys) (suc n) x e =
    let s : suc n + 1 ≡ suc (n + 1) = omega arith in
    ap (λ k. take k (y ∷ ys)) s ∙ ap (λ v. y ∷ v) (take_more ys n x e)

pub mapped_more : {X Y : Type 0} (f : X → Y) (xs : List X) (n : ℕ) (x : X) (ys : List Y) (y : Y) → slice_get xs n ≡ Some x → ys ≡ map f (take n xs) → y ≡ f x → ys ++ y ∷ [] ≡ map f (take (n + 1) xs)
mapped_more f xs n x ys y get so_far here =
    ap (λ v. v ++ y ∷ []) so_far ∙ ap (λ v. map f (take n xs) ++ v ∷ []) here ∙ sym (map-append f (take n xs) (x ∷ [])) ∙ ap (map f) (sym (take_more xs n x get))
