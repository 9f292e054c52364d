-- Buffers by field.
use Rattle.std.proofs.Common.{◌≡◌, ◌≢◌, ◌∙◌, sym, ap, subst, refl, inl, inr, ℕ, ◌+◌, ◌<◌, ◌≤◌, Bool, true, false, ◌||◌, cond, nat_eq, List, [], ◌∷◌, ◌++◌, length, map, slice_index, slice_set, arith}
use Rattle.std.specs.Prelude.{All}
use Rattle.std.proofs.lemmas.Bool.{cases_eq, eq-eqb, ne_eqb, cond-true, cond-false, false≢true}
use Rattle.std.proofs.lemmas.List.{get_or-set_same, get_or-set_other, length-set, get_or_past}
use Rattle.std.proofs.lemmas.List.Elements.{All-head, All-tail}
use Rattle.field_bufs.specs.declared.buf.FieldBuf.{FieldBuf}
use Rattle.field_bufs.specs.Buffers.{cells_of, total_at}
use Rattle.react_kernel.specs.Blocks.{Rise, has_field, without_cells}
use Rattle.react_kernel.specs.BlockSteps.{gathered, with_total, zeroed}

abbrev pub no_buf : FieldBuf
no_buf = record { block = 0; field = 0; stamp = 0; cells = []; right = []; left = [] }

-- a field is that of the first buffer, or not
pub here : (buf : FieldBuf) (bufs : List FieldBuf) (f : ℕ) → f ≡ buf.field → has_field (buf ∷ bufs) f ≡ true
here buf bufs f e = ap (λ (b : Bool). b || has_field bufs f) (eq-eqb buf.field f (sym e))

pub not_here : (buf : FieldBuf) (bufs : List FieldBuf) (f : ℕ) → f ≢ buf.field → has_field (buf ∷ bufs) f ≡ has_field bufs f
not_here buf bufs f ne = ap (λ (b : Bool). b || has_field bufs f) (ne_eqb buf.field f (λ e. ne (sym e)))

pub cells_here : (buf : FieldBuf) (bufs : List FieldBuf) (f : ℕ) → f ≡ buf.field → cells_of (buf ∷ bufs) f ≡ buf.cells
cells_here buf bufs f e = cond-true (nat_eq buf.field f) buf.cells (cells_of bufs f) (eq-eqb buf.field f (sym e))

pub cells_not_here : (buf : FieldBuf) (bufs : List FieldBuf) (f : ℕ) → f ≢ buf.field → cells_of (buf ∷ bufs) f ≡ cells_of bufs f
cells_not_here buf bufs f ne = cond-false (nat_eq buf.field f) buf.cells (cells_of bufs f) (ne_eqb buf.field f (λ e. ne (sym e)))

-- no buffer is of a field below all of them
pub none_below : (n : ℕ) (bufs : List FieldBuf) (f : ℕ) → Rise n bufs → f < n → has_field bufs f ≡ false
none_below n [] f rise h = refl
none_below n (buf ∷ bufs) f (from, rise) h =
    not_here buf bufs f (λ e. absurd (omega arith)) ∙ none_below (buf.field + 1) bufs f rise (omega arith)

pub rise_less : (n m : ℕ) (bufs : List FieldBuf) → m ≤ n → Rise n bufs → Rise m bufs
rise_less n m [] h rise = refl
rise_less n m (buf ∷ bufs) h (from, rise) = (omega arith, rise)

pub absent_cells : (bufs : List FieldBuf) (f : ℕ) → has_field bufs f ≡ false → cells_of bufs f ≡ []
absent_cells [] f none = refl
absent_cells (buf ∷ bufs) f none = elim (cases_eq f buf.field) [
  | inl e ↦ absurd (false≢true (sym none ∙ here buf bufs f e))
  | inr ne ↦ cells_not_here buf bufs f ne ∙ absent_cells bufs f (sym (not_here buf bufs f ne) ∙ none)
]

pub absent_total : (bufs : List FieldBuf) (f p : ℕ) → has_field bufs f ≡ false → total_at bufs f p ≡ 0
absent_total bufs f p none = ap (λ (cells : List ℕ). slice_index cells p) (absent_cells bufs f none) ∙ get_or_past [] p 0 (omega arith)

-- of two lists of buffers the first one counts
pub joined : (xs ys : List FieldBuf) (f p : ℕ) → total_at (xs ++ ys) f p ≡ cond (has_field xs f) (total_at xs f p) (total_at ys f p)
joined [] ys f p = refl
joined (buf ∷ xs) ys f p = elim (cases_eq f buf.field) [
  | inl e ↦ ap (λ (cells : List ℕ). slice_index cells p) (cells_here buf (xs ++ ys) f e ∙ sym (cells_here buf xs f e))
      ∙ sym (cond-true (has_field (buf ∷ xs) f) (total_at (buf ∷ xs) f p) (total_at ys f p) (here buf xs f e))
  | inr ne ↦ ap (λ (cells : List ℕ). slice_index cells p) (cells_not_here buf (xs ++ ys) f ne)
      ∙ (joined xs ys f p
      ∙ (ap (λ (b : Bool). cond b (total_at xs f p) (total_at ys f p)) (sym (not_here buf xs f ne))
      ∙ ap (λ (cells : List ℕ). cond (has_field (buf ∷ xs) f) (slice_index cells p) (total_at ys f p)) (sym (cells_not_here buf xs f ne))))
]

pub joined_first : (xs ys : List FieldBuf) (f p : ℕ) → has_field xs f ≡ true → total_at (xs ++ ys) f p ≡ total_at xs f p
joined_first xs ys f p there = joined xs ys f p ∙ cond-true (has_field xs f) (total_at xs f p) (total_at ys f p) there

pub joined_second : (xs ys : List FieldBuf) (f p : ℕ) → has_field xs f ≡ false → total_at (xs ++ ys) f p ≡ total_at ys f p
joined_second xs ys f p none = joined xs ys f p ∙ cond-false (has_field xs f) (total_at xs f p) (total_at ys f p) none

-- which fields there are does not hang on the cells
pub has_bare : (bufs : List FieldBuf) (f : ℕ) → has_field bufs f ≡ has_field (map without_cells bufs) f
has_bare [] f = refl
has_bare (buf ∷ bufs) f = ap (λ (b : Bool). nat_eq buf.field f || b) (has_bare bufs f)

pub has_same : (xs ys : List FieldBuf) (f : ℕ) → map without_cells xs ≡ map without_cells ys → has_field xs f ≡ has_field ys f
has_same xs ys f e = has_bare xs f ∙ (ap (λ (bufs : List FieldBuf). has_field bufs f) e ∙ sym (has_bare ys f))

pub rise_bare : (n : ℕ) (bufs : List FieldBuf) → Rise n bufs → Rise n (map without_cells bufs)
rise_bare n [] rise = refl
rise_bare n (buf ∷ bufs) (from, rise) = (from, rise_bare (buf.field + 1) bufs rise)

pub rise_of_bare : (n : ℕ) (bufs : List FieldBuf) → Rise n (map without_cells bufs) → Rise n bufs
rise_of_bare n [] rise = refl
rise_of_bare n (buf ∷ bufs) (from, rise) = (from, rise_of_bare (buf.field + 1) bufs rise)

pub rise_same : (n : ℕ) (xs ys : List FieldBuf) → map without_cells xs ≡ map without_cells ys → Rise n ys → Rise n xs
rise_same n xs ys e rise = rise_of_bare n xs (subst (λ (bufs : List FieldBuf). Rise n bufs) (sym e) (rise_bare n ys rise))

-- a cell into which the totals of buffers were put
pub length_gathered : (place : ℕ) (bufs : List FieldBuf) (cell : List ℕ) → length (gathered place bufs cell) ≡ length cell
length_gathered place [] cell = refl
length_gathered place (buf ∷ bufs) cell =
    length_gathered place bufs (slice_set cell buf.field (slice_index buf.cells place)) ∙ length-set cell buf.field (slice_index buf.cells place)

pub at_gathered : (place n : ℕ) (bufs : List FieldBuf) (cell : List ℕ) (f : ℕ) → Rise n bufs → f < length cell
    → slice_index (gathered place bufs cell) f ≡ cond (has_field bufs f) (total_at bufs f place) (slice_index cell f)
at_gathered place n [] cell f rise h = refl
at_gathered place n (buf ∷ bufs) cell f (from, rise) h =
    let v = slice_index buf.cells place in
    let put = slice_set cell buf.field v in
    let size : length put ≡ length cell = length-set cell buf.field v in
    at_gathered place (buf.field + 1) bufs put f rise (omega arith)
    ∙ elim (cases_eq f buf.field) as (λ _. cond (has_field bufs f) (total_at bufs f place) (slice_index put f) ≡ cond (has_field (buf ∷ bufs) f) (total_at (buf ∷ bufs) f place) (slice_index cell f)) [
      | inl e ↦ cond-false (has_field bufs f) (total_at bufs f place) (slice_index put f) (none_below (buf.field + 1) bufs f rise (omega arith))
          ∙ (ap (λ (k : ℕ). slice_index put k) e
          ∙ (get_or-set_same cell buf.field v 0 (omega arith)
          ∙ (ap (λ (cells : List ℕ). slice_index cells place) (sym (cells_here buf bufs f e))
          ∙ sym (cond-true (has_field (buf ∷ bufs) f) (total_at (buf ∷ bufs) f place) (slice_index cell f) (here buf bufs f e)))))
      | inr ne ↦ ap (λ (x : ℕ). cond (has_field bufs f) (total_at bufs f place) x) (get_or-set_other cell buf.field f v 0 ne)
          ∙ (ap (λ (cells : List ℕ). cond (has_field bufs f) (slice_index cells place) (slice_index cell f)) (sym (cells_not_here buf bufs f ne))
          ∙ ap (λ (b : Bool). cond b (total_at (buf ∷ bufs) f place) (slice_index cell f)) (sym (not_here buf bufs f ne)))
    ]

-- a cell of which the fields of buffers were made zero
pub length_zeroed : (bufs : List FieldBuf) (cell : List ℕ) → length (zeroed bufs cell) ≡ length cell
length_zeroed [] cell = refl
length_zeroed (buf ∷ bufs) cell = length_zeroed bufs (slice_set cell buf.field 0) ∙ length-set cell buf.field 0

pub at_zeroed : (bufs : List FieldBuf) (cell : List ℕ) (f : ℕ) → f < length cell → slice_index (zeroed bufs cell) f ≡ cond (has_field bufs f) 0 (slice_index cell f)
at_zeroed [] cell f h = refl
at_zeroed (buf ∷ bufs) cell f h =
    let put = slice_set cell buf.field 0 in
    let size : length put ≡ length cell = length-set cell buf.field 0 in
    at_zeroed bufs put f (omega arith)
    ∙ elim (cases_eq f buf.field) as (λ _. cond (has_field bufs f) 0 (slice_index put f) ≡ cond (has_field (buf ∷ bufs) f) 0 (slice_index cell f)) [
      | inl e ↦ ap (λ (x : ℕ). cond (has_field bufs f) 0 x) (ap (λ (k : ℕ). slice_index put k) e ∙ get_or-set_same cell buf.field 0 0 (omega arith))
          ∙ (both_zero (has_field bufs f) 0
          ∙ sym (cond-true (has_field (buf ∷ bufs) f) 0 (slice_index cell f) (here buf bufs f e)))
      | inr ne ↦ ap (λ (x : ℕ). cond (has_field bufs f) 0 x) (get_or-set_other cell buf.field f 0 0 ne)
          ∙ ap (λ (b : Bool). cond b 0 (slice_index cell f)) (sym (not_here buf bufs f ne))
    ]
  where
    both_zero : (b : Bool) (z : ℕ) → cond b z z ≡ z
    both_zero true z = refl
    both_zero false z = refl

-- buffers of which each has a total of a cell at a place
pub bare_written : (place : ℕ) (cell : List ℕ) (bufs : List FieldBuf) → map without_cells (map (with_total place cell) bufs) ≡ map without_cells bufs
bare_written place cell [] = refl
bare_written place cell (buf ∷ bufs) = ap (λ (rest : List FieldBuf). without_cells buf ∷ rest) (bare_written place cell bufs)

pub total_written : (place : ℕ) (cell : List ℕ) (bufs : List FieldBuf) (f p : ℕ) → All (λ (buf : FieldBuf). place < length buf.cells) bufs → has_field bufs f ≡ true
    → total_at (map (with_total place cell) bufs) f p ≡ cond (nat_eq p place) (slice_index cell f) (total_at bufs f p)
total_written place cell [] f p sizes there = absurd (false≢true there)
total_written place cell (buf ∷ bufs) f p sizes there = elim (cases_eq f buf.field) [
  | inl e ↦ ap (λ (cells : List ℕ). slice_index cells p) (cells_here (with_total place cell buf) (map (with_total place cell) bufs) f e)
      ∙ (written_at buf.cells place (slice_index cell buf.field) p (All-head (λ (b : FieldBuf). place < length b.cells) buf bufs sizes)
      ∙ (ap (λ (k : ℕ). cond (nat_eq p place) (slice_index cell k) (slice_index buf.cells p)) (sym e)
      ∙ ap (λ (cells : List ℕ). cond (nat_eq p place) (slice_index cell f) (slice_index cells p)) (sym (cells_here buf bufs f e))))
  | inr ne ↦ ap (λ (cells : List ℕ). slice_index cells p) (cells_not_here (with_total place cell buf) (map (with_total place cell) bufs) f ne)
      ∙ (total_written place cell bufs f p (All-tail (λ (b : FieldBuf). place < length b.cells) buf bufs sizes) (sym (not_here buf bufs f ne) ∙ there)
      ∙ ap (λ (cells : List ℕ). cond (nat_eq p place) (slice_index cell f) (slice_index cells p)) (sym (cells_not_here buf bufs f ne)))
]
  where
    written_at : (xs : List ℕ) (i v p : ℕ) → i < length xs → slice_index (slice_set xs i v) p ≡ cond (nat_eq p i) v (slice_index xs p)
    written_at xs i v p h = elim (cases_eq p i) [
      | inl e ↦ ap (λ (k : ℕ). slice_index (slice_set xs i v) k) e ∙ (get_or-set_same xs i v 0 h ∙ sym (cond-true (nat_eq p i) v (slice_index xs p) (eq-eqb p i e)))
      | inr ne ↦ get_or-set_other xs i p v 0 ne ∙ sym (cond-false (nat_eq p i) v (slice_index xs p) (ne_eqb p i ne))
    ]
