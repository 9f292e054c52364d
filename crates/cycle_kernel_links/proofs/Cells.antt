-- Cells that react, and what is measured in them.
use Rattle.std.proofs.Common.{◌≡◌, ℕ, zero, suc, ◌+◌, ◌*◌, ◌^◌, ◌<◌, Bool, true, false, cond, nat_lt, max, List, [], ◌++◌, refl, arith, ap, subst, sym, ◌∙◌, slice_index, zero-add}
use Rattle.std.specs.List.{slice_index_or}
use Rattle.std.proofs.lemmas.Bool.{false≢true, ltb-true}
use Rattle.package_fields.specs.Flow.{no_flow}
use Rattle.package_fields.specs.Kernel.{Reacted, with_parts}
use Rattle.mesh_settings.specs.declared.words.Method.{Method}
use Rattle.mesh_settings.specs.declared.words.Method.TheVariants.{Peak, Jump}
use Rattle.mesh_laws.proofs.Totals.{sum_to-same}
use Rattle.mesh_rules.specs.Fields.{field_count}
use Rattle.mesh_rules.specs.Sums.{greatest_to, sum_to}
use Rattle.mesh_rules.specs.Tags.{difference, wish_by}
use Rattle.block_layout.specs.declared.layout.Layout.{Layout}
use Rattle.block_layout.specs.Indices.{IsWithin, count_of, index_of, number_of, with_along}
use Rattle.block_layout.specs.Layouts.{interior_len, len}
use Rattle.block_layout.specs.Regions.{cell_place, interior}
use Rattle.block_layout.proofs.Boxes.{index_below}
use Rattle.block_geometry.specs.Blocks.{own_place}
use Rattle.block_geometry.proofs.Rows.{within_with}
use Rattle.block_regions.specs.Boxes.{box_of}
use Rattle.field_bufs.specs.declared.buf.FieldBuf.{FieldBuf}
use Rattle.field_bufs.specs.Buffers.{cells_of, total_at}
use Rattle.react_kernel.specs.Blocks.{inner_place, reacted_at, totals_at}
use Rattle.refine_tags.specs.Measures as measures
use Rattle.refine_tags.specs.Measures.{greatest_in, measured_at, measured_in, step_in}
use Rattle.letter_laws.proofs.Boxes.{table_at, table_same}
use Rattle.cycle_kernels.specs.Blocks.{CycleMesh, leaf_at}
use Rattle.cycle_kernels.specs.Lists.{is_own}
use Rattle.cycle_kernels.specs.Cells.{cell_totals, made_by, reacted_cell}
use Rattle.cycle_kernels.proofs.Tables.{none_here, zero_table}
use Rattle.cycle_kernel_links.specs.Cells.{AbsentIsNothing, GainsAreThose, ReactionsAreThose, WishesAreThose, totals_in}
use Rattle.cycle_kernel_links.proofs.Fluxes.{own_is_own}
use Rattle.cycle_kernel_links.proofs.Lists.{own_at}

pub absent_is_nothing : AbsentIsNothing
absent_is_nothing l = zero_table (interior_len l) (λ k. slice_index [] (cell_place l (interior l) k)) (λ k. none_here (cell_place l (interior l) k))

-- a cell by the buffers of a block
cell_same : (w : CycleMesh) (bufs : List FieldBuf) (k : ℕ) → k < interior_len w.layout → cell_totals w (totals_in w bufs) k ≡ totals_at bufs (field_count w.settings) (inner_place w.layout k)
cell_same w bufs k few = table_same (field_count w.settings) (λ f. slice_index (totals_in w bufs f) k) (λ f. total_at bufs f (inner_place w.layout k))
    (λ f some. table_at (interior_len w.layout) (λ k. slice_index (cells_of bufs f) (cell_place w.layout (interior w.layout) k)) k few)

reacted_same : (w : CycleMesh) (bufs : List FieldBuf) (k : ℕ) → k < interior_len w.layout → reacted_cell w (totals_in w bufs) k ≡ reacted_at w.react w.layout bufs (field_count w.settings) k
reacted_same w bufs k few = ap w.react (cell_same w bufs k few)

pub reactions_are_those : ReactionsAreThose
reactions_are_those w block stamp f old now made some has = record {
  own = table_same (interior_len l) (λ k. slice_index (cells_of (now ++ made) f) (cell_place l (interior l) k)) (λ k. slice_index (reacted_cell w (totals_in w old) k).totals f)
      (λ k few. has.interior k f few some ∙ sym (ap (λ (r : Reacted). slice_index r.totals f) (reacted_same w old k few)));
  ghosts = table_same (len l) (λ n. cond (is_own l n) 0 (slice_index (cells_of (now ++ made) f) n)) (λ n. cond (is_own l n) 0 (slice_index (cells_of old f) n)) (λ n few. by n (is_own l n) refl);
}
  where
    l : Layout
    l = w.layout

    own_number : (k : ℕ) → k < interior_len w.layout → is_own w.layout (inner_place w.layout k) ≡ true
    own_number k few = own_is_own w.layout (index_of w.layout.cells k) (index_below w.layout.cells k few)

    by : (n : ℕ) (t : Bool) → is_own w.layout n ≡ t → cond t 0 (slice_index (cells_of (now ++ made) f) n) ≡ cond t 0 (slice_index (cells_of old f) n)
    by n true own = refl
    by n false ghost = has.ghosts f n some (λ k few e. false≢true (sym ghost ∙ ap (is_own w.layout) e ∙ own_is_own w.layout (index_of w.layout.cells k) (index_below w.layout.cells k few)))

pub gains_are_those : GainsAreThose
gains_are_those w f bufs old new some many has =
    let n : ℕ = interior_len w.layout in
    let fields : ℕ = field_count w.settings in
    let each = has.each f (subst (λ k. f < k) (sym many) some) in
    each
    ∙ ap (λ k. with_parts (slice_index_or old f no_flow) (sum_to n (λ c. slice_index (reacted_at w.react w.layout bufs k c).made f)) (sum_to n (λ c. slice_index (reacted_at w.react w.layout bufs k c).used f))) many
    ∙ ap (λ v. with_parts (slice_index_or old f no_flow) v (sum_to n (λ c. slice_index (reacted_at w.react w.layout bufs fields c).used f)))
    (sum_to-same n (λ c. slice_index (reacted_at w.react w.layout bufs fields c).made f) (λ c. slice_index (reacted_cell w (totals_in w bufs) c).made f) (λ c few. sym (ap (λ (r : Reacted). slice_index r.made f) (reacted_same w bufs c few))))
    ∙ ap (λ v. with_parts (slice_index_or old f no_flow) (made_by w (totals_in w bufs) f) v)
    (sum_to-same n (λ c. slice_index (reacted_at w.react w.layout bufs fields c).used f) (λ c. slice_index (reacted_cell w (totals_in w bufs) c).used f) (λ c few. sym (ap (λ (r : Reacted). slice_index r.used f) (reacted_same w bufs c few))))

-- what is measured of totals that are the same
greatest_same : (n : ℕ) (p q : ℕ → ℕ) → ((k : ℕ) → k < n → p k ≡ q k) → greatest_to n p ≡ greatest_to n q
greatest_same zero p q h = refl
greatest_same (suc n) p q h = ap (λ v. max v (p n)) (greatest_same n p q (λ k few. h k (omega arith))) ∙ ap (λ v. max (greatest_to n q) v) (h n (omega arith))

step_same : (l : Layout) (p q : List ℕ → ℕ) (i : List ℕ) (axis : ℕ) → axis < 3 → IsWithin l.cells i → ((i : List ℕ) → IsWithin l.cells i → p i ≡ q i) → step_in l p i axis ≡ step_in l q i axis
step_same l p q i axis h w same = by (nat_lt (slice_index i axis + 1) (slice_index l.cells axis)) refl
  where
    by : (t : Bool) → nat_lt (slice_index i axis + 1) (slice_index l.cells axis) ≡ t → cond t (difference (p i) (p (with_along axis (slice_index i axis + 1) i))) 0 ≡ cond t (difference (q i) (q (with_along axis (slice_index i axis + 1) i))) 0
    by true e =
        let next : IsWithin l.cells (with_along axis (slice_index i axis + 1) i) = within_with l.cells i axis (slice_index i axis + 1) w h (ltb-true (slice_index i axis + 1) (slice_index l.cells axis) e) in
        ap (λ v. difference v (p (with_along axis (slice_index i axis + 1) i))) (same i w) ∙ ap (λ v. difference (q i) v) (same (with_along axis (slice_index i axis + 1) i) next)
    by false e = refl

at_same : (method : Method) (l : Layout) (p q : List ℕ → ℕ) (i : List ℕ) → IsWithin l.cells i → ((i : List ℕ) → IsWithin l.cells i → p i ≡ q i) → measured_at method l p i ≡ measured_at method l q i
at_same Peak l p q i w same = same i w
at_same Jump l p q i w same = greatest_same l.dims (step_in l p i) (step_in l q i) (λ axis used. step_same l p q i axis (let most = l.sound.most in omega (arith, most)) w same)

pub measured_same : (method : Method) (l : Layout) (level : ℕ) (p q : List ℕ → ℕ) → ((i : List ℕ) → IsWithin l.cells i → p i ≡ q i) → measured_in method l level p ≡ measured_in method l level q
measured_same method l level p q same =
    ap (λ v. v * 2 ^ (l.dims * level)) (greatest_same (count_of l.cells) (λ k. measured_at method l p (index_of l.cells k)) (λ k. measured_at method l q (index_of l.cells k))
    (λ k few. at_same method l p q (index_of l.cells k) (index_below l.cells k few) same))

pub wishes_are_those : WishesAreThose
wishes_are_those w b c totals cells own =
    let l : Layout = w.layout in
    let level : ℕ = (leaf_at w b).level in
    ap (wish_by c level)
    (measured_same c.method l level (measures.total_at cells (box_of l (interior l).low)) (λ i. slice_index (totals c.field) (number_of l.cells i))
    (λ i inside.
    ap (slice_index cells) (zero-add (own_place l i))
    ∙ sym (own_at l cells i inside)
    ∙ sym (ap (λ (v : List ℕ). slice_index v (number_of l.cells i)) own)))
