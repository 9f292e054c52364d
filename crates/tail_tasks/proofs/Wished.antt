-- What blocks wish by their buffers.
use Rattle.std.proofs.Common.{◌≡◌, ◌≢◌, ◌==◌, ℕ, zero, suc, ◌+◌, ◌-◌, ◌*◌, ◌^◌, ◌<◌, ◌≤◌, Bool, true, false, cond, ◌&&◌, nat_eq, nat_lt, List, [], ◌∷◌, ◌++◌, drop, filter, length, map, take, refl, arith, ap, subst, sym, ◌∙◌, slice_index, inl, inr, zero-add}
use Rattle.std.proofs.Math.Nat.{zero-mul}
use Rattle.std.specs.List.{range_with_len}
use Rattle.std.proofs.lemmas.Bool.{cases_eq, eq-eqb, le-ltb, ne_eqb}
use Rattle.std.proofs.lemmas.List.{drop_more}
use Rattle.deck_entries.specs.declared.entries.Criterion.{Criterion}
use Rattle.mesh_settings.specs.declared.words.Method.{Method}
use Rattle.mesh_settings.specs.declared.words.Method.TheVariants.{Peak, Jump}
use Rattle.mesh_rules.specs.declared.wish.Wish.TheVariants.{Refine, Same, Derefine}
use Rattle.mesh_rules.specs.Sums.{greatest_to}
use Rattle.mesh_rules.specs.Tags.{difference, wish_by}
use Rattle.block_layout.specs.declared.layout.Layout.{Layout}
use Rattle.block_layout.specs.Indices.{count_of, index_of, number_of}
use Rattle.block_layout.specs.Layouts.{interior_len}
use Rattle.block_layout.specs.Regions.{interior}
use Rattle.block_geometry.specs.Blocks.{own_place}
use Rattle.block_regions.specs.Boxes.{box_of}
use Rattle.field_bufs.specs.declared.buf.FieldBuf.{FieldBuf}
use Rattle.field_bufs.specs.Buffers.{cells_of}
use Rattle.refine_tags.specs.Measures as measures
use Rattle.refine_tags.specs.Measures.{measured_at, measured_in, step_in}
use Rattle.cycle_kernels.specs.Lists.{own_totals}
use Rattle.cycle_kernels.proofs.Tables.{zero_here}
use Rattle.cycle_kernel_links.proofs.Cells.{absent_is_nothing, measured_same}
use Rattle.cycle_kernel_links.proofs.Lists.{own_at}
use Rattle.lent_bufs.proofs.Each.{buf_at, no_buf}
use Rattle.lent_bufs.specs.Buffers.{bufs_on}
use Rattle.tail_tasks.specs.Blocks.{AreByBlock}
use Rattle.tail_tasks.specs.Wishes.{wish_by_bufs}

-- nothing is measured of zeros
greatest_zero : (n : ℕ) (f : ℕ → ℕ) → ((k : ℕ) → f k ≡ 0) → greatest_to n f ≡ 0
greatest_zero zero f h = refl
greatest_zero (suc n) f h = let a = greatest_zero n f h in let b = h n in omega arith

no_step : (t : Bool) → cond t (difference 0 0) 0 ≡ 0
no_step true = refl
no_step false = refl

at_zero : (method : Method) (l : Layout) (i : List ℕ) → measured_at method l (λ _. 0) i ≡ 0
at_zero Peak l i = refl
at_zero Jump l i = greatest_zero l.dims (step_in l (λ _. 0) i) (λ axis. no_step (nat_lt (slice_index i axis + 1) (slice_index l.cells axis)))

none_measured : (method : Method) (l : Layout) (level : ℕ) → measured_in method l level (λ _. 0) ≡ 0
none_measured method l level =
    ap (λ (v : ℕ). v * 2 ^ (l.dims * level)) (greatest_zero (count_of l.cells) (λ k. measured_at method l (λ _. 0) (index_of l.cells k)) (λ k. at_zero method l (index_of l.cells k)))
    ∙ zero-mul (2 ^ (l.dims * level))

-- a block without buffers wishes to derefine where that asks for little
pub none_wishes : (l : Layout) (level : ℕ) (c : Criterion) → wish_by_bufs l level [] c ≡ cond (nat_lt 0 c.derefine_tol) Derefine Same
none_wishes l level c =
    ap (wish_by c level)
    (measured_same c.method l level (λ i. slice_index (own_totals l []) (number_of l.cells i)) (λ _. 0)
    (λ i inside. ap (λ (v : List ℕ). slice_index v (number_of l.cells i)) (absent_is_nothing l) ∙ zero_here (interior_len l) (number_of l.cells i))
    ∙ none_measured c.method l level)
    ∙ ap (λ (t : Bool). cond (t && nat_lt level c.max_level) Refine (cond (nat_lt 0 c.derefine_tol) Derefine Same)) (le-ltb c.refine_tol 0 (omega arith))

-- the buffer of the field tells
pub found_wishes : (l : Layout) (level : ℕ) (c : Criterion) (bufs : List FieldBuf) (n : ℕ) (buf : FieldBuf) → n < length bufs → buf ≡ buf_at bufs n → buf.field ≡ c.field →
    cells_of bufs c.field ≡ cells_of (drop n bufs) c.field → wish_by c level (measured_in c.method l level (measures.total_at buf.cells (box_of l (interior l).low))) ≡ wish_by_bufs l level bufs c
found_wishes l level c bufs n buf few is field rest =
    ap (wish_by c level)
    (measured_same c.method l level (measures.total_at buf.cells (box_of l (interior l).low)) (λ i. slice_index (own_totals l (cells_of bufs c.field)) (number_of l.cells i))
    (λ i inside.
    ap (slice_index buf.cells) (zero-add (own_place l i))
    ∙ sym (own_at l buf.cells i inside)
    ∙ sym (ap (λ (v : List ℕ). slice_index (own_totals l v) (number_of l.cells i)) cells)))
  where
    cells : cells_of bufs c.field ≡ buf.cells
    cells =
        rest
        ∙ ap (λ (v : List FieldBuf). cells_of v c.field) (drop_more bufs n no_buf few)
        ∙ ap (λ (v : FieldBuf). cond (nat_eq v.field c.field) v.cells (cells_of (drop (n + 1) bufs) c.field)) (sym is)
        ∙ ap (λ (t : Bool). cond t buf.cells (cells_of (drop (n + 1) bufs) c.field)) (eq-eqb buf.field c.field field)

-- buffers that pass a test stand together
filter_none : (p : FieldBuf → Bool) (bufs : List FieldBuf) → ((k : ℕ) → k < length bufs → p (buf_at bufs k) ≡ false) → filter p bufs ≡ []
filter_none p [] h = refl
filter_none p (x ∷ xs) h = ap (λ (t : Bool). cond t (x ∷ filter p xs) (filter p xs)) (h 0 (omega arith)) ∙ filter_none p xs (λ k small. h (suc k) (omega arith))

pub filter_run : (p : FieldBuf → Bool) (bufs : List FieldBuf) (a b : ℕ) → a ≤ b → b ≤ length bufs → ((k : ℕ) → k < a → p (buf_at bufs k) ≡ false) → ((k : ℕ) → a ≤ k → k < b → p (buf_at bufs k) ≡ true) →
    ((k : ℕ) → b ≤ k → k < length bufs → p (buf_at bufs k) ≡ false) → filter p bufs ≡ take (b - a) (drop a bufs)
filter_run p [] a b h few before here after = by a (b - a) (omega arith)
  where
    by : (a n : ℕ) → n ≡ 0 → ◌≡◌ {A = List FieldBuf} [] (take n (drop a []))
    by zero n e = ap (λ (k : ℕ). take {A = FieldBuf} k []) (sym e)
    by (suc a) n e = ap (λ (k : ℕ). take {A = FieldBuf} k []) (sym e)
filter_run p (x ∷ xs) zero zero h few before here after = filter_none p (x ∷ xs) (λ k small. after k (omega arith) small)
filter_run p (x ∷ xs) zero (suc b) h few before here after =
    ap (λ (t : Bool). cond t (x ∷ filter p xs) (filter p xs)) (here 0 (omega arith) (omega arith))
    ∙ ap (λ (v : List FieldBuf). x ∷ v) (filter_run p xs zero b (omega arith) (omega arith) (λ k small. absurd (omega arith)) (λ k most small. here (suc k) (omega arith) (omega arith)) (λ k most small. after (suc k) (omega arith) (omega arith)))
    ∙ ap (λ (n : ℕ). take n (x ∷ xs)) (let e : suc (b - 0) ≡ suc b - 0 = omega arith in e)
filter_run p (x ∷ xs) (suc a) zero h few before here after = absurd (omega arith)
filter_run p (x ∷ xs) (suc a) (suc b) h few before here after =
    ap (λ (t : Bool). cond t (x ∷ filter p xs) (filter p xs)) (before 0 (omega arith))
    ∙ filter_run p xs a b (omega arith) (omega arith) (λ k small. before (suc k) (omega arith)) (λ k most small. here (suc k) (omega arith) (omega arith)) (λ k most small. after (suc k) (omega arith) (omega arith))
    ∙ ap (λ (n : ℕ). take n (drop a xs)) (let e : b - a ≡ suc b - suc a = omega arith in e)

-- behind the run of a block come higher ones
pub past_run : (bufs : List FieldBuf) (first end at next block : ℕ) → AreByBlock first end bufs → at ≤ next → ((k : ℕ) → at ≤ k → k < length bufs → block ≤ (buf_at bufs k).block) →
    (next < length bufs → (buf_at bufs next).block ≢ block) → (k : ℕ) → next ≤ k → k < length bufs → block < (buf_at bufs k).block
past_run bufs first end at next block sorted few least other k most small =
    let here = least next few (omega arith) in
    let ne = other (omega arith) in
    elim (cases_eq next k) [
      | inl e ↦ subst (λ (j : ℕ). block < (buf_at bufs j).block) e (omega (arith, here, ne))
      | inr d ↦ let r = sorted.rise next k (omega (arith, most, d)) small in omega (arith, here, ne, r)
    ]

-- the run is the buffers of the block
pub run_is : (bufs : List FieldBuf) (first end at next block : ℕ) → AreByBlock first end bufs → at ≤ next → next ≤ length bufs → ((k : ℕ) → k < at → (buf_at bufs k).block < block) →
    ((k : ℕ) → at ≤ k → k < length bufs → block ≤ (buf_at bufs k).block) → ((k : ℕ) → at ≤ k → k < next → (buf_at bufs k).block ≡ block) → (next < length bufs → (buf_at bufs next).block ≢ block) →
    take (next - at) (drop at bufs) ≡ bufs_on bufs block
run_is bufs first end at next block sorted few within before least here other =
    sym (filter_run (λ buf. buf.block == block) bufs at next few within
    (λ k small. ne_eqb (buf_at bufs k).block block (λ e. absurd (omega (arith, before k small, e))))
    (λ k most small. eq-eqb (buf_at bufs k).block block (here k most small))
    (λ k most small. ne_eqb (buf_at bufs k).block block (λ e. absurd (omega (arith, past_run bufs first end at next block sorted few least other k most small, e)))))

-- one more of a list by number
pub range_grows : {X : Type 0} (f : ℕ → X) (a n : ℕ) → map f (range_with_len a (suc n)) ≡ map f (range_with_len a n) ++ f (a + n) ∷ []
range_grows {X} f a zero = ap (λ (k : ℕ). f k ∷ []) (let e : a ≡ a + 0 = omega arith in e)
range_grows {X} f a (suc n) =
    ap (λ (v : List X). f a ∷ v) (range_grows f (a + 1) n ∙ ap (λ (k : ℕ). map f (range_with_len (a + 1) n) ++ f k ∷ []) (let e : a + 1 + n ≡ a + suc n = omega arith in e))
