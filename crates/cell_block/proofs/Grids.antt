-- Lists by block and field: when two are one, and what one with a changed place has.
use Rattle.std.proofs.Common.{◌≡◌, ◌≢◌, ◌⊎◌, ◌∙◌, sym, ap, inl, inr, ℕ, ◌+◌, ◌<◌, Bool, is_some, cond, Option, None, List, [], length, map, slice_index_or, slice_set, arith}
use Rattle.std.specs.List.{count_by}
use Rattle.std.proofs.lemmas.Bool.{cases_eq, cases_lt}
use Rattle.std.proofs.lemmas.List.{ext_get_or, get_or_past, get_or-map, get_or-set_same, get_or-set_other, length-map, length-set}
use Rattle.std.proofs.lemmas.List.Sums.{sum_by-set}
use Rattle.sparse_pool.specs.declared.place.Place.{Place}

-- what stands at a place, and the lists with another thing there
abbrev pub at_place : {X : Type 0} → List (List (Option X)) → Place → Option X
at_place xs at = slice_index_or (slice_index_or xs at.block []) at.field None

abbrev pub put_at : {X : Type 0} → List (List (Option X)) → Place → Option X → List (List (Option X))
put_at xs at x = slice_set xs at.block (slice_set (slice_index_or xs at.block []) at.field x)

abbrev pub row_of : {X : Type 0} → List (List (Option X)) → ℕ → List (Option X)
row_of xs block = slice_index_or xs block []

-- two places are one where their numbers are
pub one_place : (at other : Place) → at.block ≡ other.block → at.field ≡ other.field → at ≡ other
one_place at other b f =
    ap (λ (n : ℕ). let p : Place = record { block = n; field = at.field } in p) b
    ∙ ap (λ (n : ℕ). let p : Place = record { block = other.block; field = n } in p) f

pub cases_place : (at other : Place) → (at ≡ other) ⊎ (at ≢ other)
cases_place at other = elim (cases_eq at.block other.block) [
  | inl b ↦ elim (cases_eq at.field other.field) [
    | inl f ↦ inl (one_place at other b f)
    | inr ne ↦ inr (λ e. ne (ap (λ (p : Place). p.field) e))
  ]
  | inr ne ↦ inr (λ e. ne (ap (λ (p : Place). p.block) e))
]

-- lists of one shape that have the same at each place
pub same_grids : {X : Type 0} (xs ys : List (List (Option X))) (blocks fields : ℕ) → length xs ≡ blocks → length ys ≡ blocks
    → ((block : ℕ) → block < blocks → length (row_of xs block) ≡ fields) → ((block : ℕ) → block < blocks → length (row_of ys block) ≡ fields)
    → ((at : Place) → at.block < blocks → at.field < fields → at_place xs at ≡ at_place ys at) → xs ≡ ys
same_grids xs ys blocks fields long also rows others same =
    ext_get_or [] xs ys (long ∙ sym also) (λ b lt.
    let within : b < blocks = omega (arith, lt, long) in
    ext_get_or None (row_of xs b) (row_of ys b) (rows b within ∙ sym (others b within)) (λ f less.
    same (record { block = b; field = f }) within (omega (arith, less, rows b within))))

-- the shape of lists with a changed place
pub put_long : {X : Type 0} (xs : List (List (Option X))) (at : Place) (x : Option X) → length (put_at xs at x) ≡ length xs
put_long xs at x = length-set xs at.block (slice_set (row_of xs at.block) at.field x)

pub put_rows : {X : Type 0} (xs : List (List (Option X))) (at : Place) (x : Option X) (block : ℕ) → length (row_of (put_at xs at x) block) ≡ length (row_of xs block)
put_rows {X} xs at x block =
    let row = slice_set (row_of xs at.block) at.field x in
    elim (cases_lt block (length xs)) [
      | inl lt ↦ elim (cases_eq block at.block) [
        | inl e ↦ ap (λ (n : ℕ). length (slice_index_or (slice_set xs at.block row) n [])) e ∙ ap (λ (r : List (Option X)). length r) (get_or-set_same xs at.block row [] (omega (arith, lt, e)))
            ∙ length-set (row_of xs at.block) at.field x ∙ ap (λ (n : ℕ). length (slice_index_or xs n [])) (sym e)
        | inr ne ↦ ap (λ (r : List (Option X)). length r) (get_or-set_other xs at.block block row [] ne)
      ]
      | inr past ↦ ap (λ (r : List (Option X)). length r) (get_or_past (slice_set xs at.block row) block [] (omega (arith, past, length-set xs at.block row)) ∙ sym (get_or_past xs block [] past))
    ]

-- what stands there then
pub put_same : {X : Type 0} (xs : List (List (Option X))) (at : Place) (x : Option X) → at.block < length xs → at.field < length (row_of xs at.block) → at_place (put_at xs at x) at ≡ x
put_same {X} xs at x block field =
    ap (λ (r : List (Option X)). slice_index_or r at.field None) (get_or-set_same xs at.block (slice_set (row_of xs at.block) at.field x) [] block)
    ∙ get_or-set_same (row_of xs at.block) at.field x None field

pub put_other : {X : Type 0} (xs : List (List (Option X))) (at other : Place) (x : Option X) → at.block < length xs → other ≢ at → at_place (put_at xs at x) other ≡ at_place xs other
put_other {X} xs at other x block ne =
    let row = slice_set (row_of xs at.block) at.field x in
    elim (cases_eq other.block at.block) [
      | inl e ↦
          let apart : other.field ≢ at.field = λ f. ne (one_place other at e f) in
          ap (λ (n : ℕ). slice_index_or (slice_index_or (slice_set xs at.block row) n []) other.field None) e
          ∙ ap (λ (r : List (Option X)). slice_index_or r other.field None) (get_or-set_same xs at.block row [] block)
          ∙ get_or-set_other (row_of xs at.block) at.field other.field x None apart
          ∙ ap (λ (n : ℕ). slice_index_or (slice_index_or xs n []) other.field None) (sym e)
      | inr far ↦ ap (λ (r : List (Option X)). slice_index_or r other.field None) (get_or-set_other xs at.block other.block row [] far)
    ]

-- what stands at a place where each thing was changed, nothing into nothing
pub mapped_at : {X Y : Type 0} (g : Option X → Option Y) (xs : List (List (Option X))) (at : Place) → g None ≡ None → at_place (map (map g) xs) at ≡ g (at_place xs at)
mapped_at {X} {Y} g xs at none = elim (cases_lt at.block (length xs)) [
  | inl block ↦ ap (λ (r : List (Option Y)). slice_index_or r at.field None) (get_or-map (map g) xs at.block [] [] block)
      ∙ elim (cases_lt at.field (length (row_of xs at.block))) [
        | inl field ↦ get_or-map g (row_of xs at.block) at.field None None field
        | inr past ↦ get_or_past (map g (row_of xs at.block)) at.field None (omega (arith, past, length-map (row_of xs at.block) g)) ∙ sym none ∙ sym (ap g (get_or_past (row_of xs at.block) at.field None past))
      ]
  | inr past ↦ ap (λ (r : List (Option Y)). slice_index_or r at.field None) (get_or_past (map (map g) xs) at.block [] (omega (arith, past, length-map xs (map g))))
      ∙ sym none ∙ sym (ap (λ (r : List (Option X)). g (slice_index_or r at.field None)) (get_or_past xs at.block [] past))
]

pub mapped_rows : {X Y : Type 0} (g : Option X → Option Y) (xs : List (List (Option X))) (block : ℕ) → block < length xs → length (row_of (map (map g) xs) block) ≡ length (row_of xs block)
mapped_rows {X} {Y} g xs block lt = ap (λ (r : List (Option Y)). length r) (get_or-map (map g) xs block [] [] lt) ∙ length-map (row_of xs block) g

-- in how many rows a field has something
abbrev pub has_at : {X : Type 0} → ℕ → List (Option X) → Bool
has_at f row = is_some (slice_index_or row f None)

abbrev pub one_if : Bool → ℕ
one_if b = cond b 1 0

pub count_put : {X : Type 0} (xs : List (List (Option X))) (at : Place) (x : Option X) → at.block < length xs → at.field < length (row_of xs at.block)
    → count_by (has_at at.field) (put_at xs at x) + one_if (is_some (at_place xs at)) ≡ count_by (has_at at.field) xs + one_if (is_some x)
count_put {X} xs at x block field =
    let row = slice_set (row_of xs at.block) at.field x in
    sum_by-set (λ (r : List (Option X)). one_if (has_at at.field r)) xs at.block row [] block
    ∙ ap (λ (o : Option X). count_by (has_at at.field) xs + one_if (is_some o)) (get_or-set_same (row_of xs at.block) at.field x None field)

pub count_put_other : {X : Type 0} (xs : List (List (Option X))) (at : Place) (x : Option X) (f : ℕ) → at.block < length xs → f ≢ at.field → count_by (has_at f) (put_at xs at x) ≡ count_by (has_at f) xs
count_put_other {X} xs at x f block ne =
    let row = slice_set (row_of xs at.block) at.field x in
    let whole = sum_by-set (λ (r : List (Option X)). one_if (has_at f r)) xs at.block row [] block in
    let same : one_if (has_at f row) ≡ one_if (has_at f (row_of xs at.block)) = ap (λ (o : Option X). one_if (is_some o)) (get_or-set_other (row_of xs at.block) at.field f x None ne) in
    omega (arith, whole, same)
