-- The totals of a cell, gathered from rows and put back.
use Rattle.std.proofs.Common.{◌≡◌, ◌∙◌, ℕ, ◌+◌, ◌<◌, ◌≤◌, List, [], length, replicate, slice_index, slice_set, sum, refl, arith, ap, sym, inl, inr}
use Rattle.std.proofs.lemmas.Bool.{cases_eq}
use Rattle.std.proofs.lemmas.List.{ext_get_or, get_or-map, get_or-replicate, get_or-set_other, get_or-set_same, length-map, set-get_or}
use Rattle.std.proofs.lemmas.List.Sums.{sum_by_more, sum_by_more_le}
use Rattle.package_fields.specs.declared.flow.Flow.{Flow}
use Rattle.package_fields.specs.Kernel.{KernelLaws, Reacted, nothing, with_reacted}
use Rattle.react_kernel.proofs.CellSteps.{all_zero}
use Rattle.react_kernel.proofs.Gains.{gained_nothing}
use Rattle.dense_reaction.specs.Blocks.{Gathered, IsWritten, cell_in, row_in}

pub cell_length : (rows : List (List ℕ)) (place : ℕ) → length (cell_in rows place) ≡ length rows
cell_length rows place = length-map rows (λ (row : List ℕ). slice_index row place)

pub cell_at : (rows : List (List ℕ)) (place f : ℕ) → f < length rows → slice_index (cell_in rows place) f ≡ slice_index (row_in rows f) place
cell_at rows place f h = get_or-map (λ (row : List ℕ). slice_index row place) rows f [] 0 h

-- one field more
pub gathered_more : (rows : List (List ℕ)) (place n : ℕ) (cell : List ℕ) (held x : ℕ) → Gathered rows place n cell held → n < length rows → length cell ≡ length rows → x ≡ slice_index (row_in rows n) place →
    Gathered rows place (n + 1) (slice_set cell n x) (held + x)
gathered_more rows place n cell held x had small many is =
    let long = cell_length rows place in
    let here = cell_at rows place n small in
    let more = sum_by_more (λ (y : ℕ). y) (cell_in rows place) n 0 (omega arith) in
    let total = had.total in
    record {
      filled = λ f h. elim (cases_eq f n) [
        | inl e ↦ ap (λ (k : ℕ). slice_index (slice_set cell n x) k) e ∙ get_or-set_same cell n x 0 (omega arith) ∙ is ∙ ap (λ (k : ℕ). slice_index (row_in rows k) place) (sym e)
        | inr ne ↦ get_or-set_other cell n f x 0 ne ∙ had.filled f (omega (arith, ne))
      ];
      total = omega arith;
    }

-- and the sum fits
pub gathered_fits : (rows : List (List ℕ)) (place n : ℕ) (cell : List ℕ) (held x : ℕ) → Gathered rows place n cell held → n < length rows → x ≡ slice_index (row_in rows n) place → held + x ≤ sum (cell_in rows place)
gathered_fits rows place n cell held x had small is =
    let long = cell_length rows place in
    let here = cell_at rows place n small in
    let e = sum_by_more_le (λ (y : ℕ). y) (cell_in rows place) n 0 (omega arith) in
    let total = had.total in
    omega arith

-- all fields
pub gathered_all : (rows : List (List ℕ)) (place n : ℕ) (cell : List ℕ) (held : ℕ) → Gathered rows place n cell held → length rows ≤ n → length cell ≡ length rows → cell ≡ cell_in rows place
gathered_all rows place n cell held had over many =
    ext_get_or 0 cell (cell_in rows place) (many ∙ sym (cell_length rows place)) (λ f h. had.filled f (omega arith) ∙ sym (cell_at rows place f (omega arith)))

-- a cell of zeros, which a kernel leaves alone
pub record IsBlank (react : List ℕ → Reacted) (place : ℕ) (rows : List (List ℕ)) (flows : List Flow) : Type 0 where
  pub written : IsWritten place (react (cell_in rows place)).totals rows rows
  pub no_gain : flows ≡ with_reacted flows (react (cell_in rows place))

pub blank : (react : List ℕ → Reacted) (place : ℕ) (rows : List (List ℕ)) (flows : List Flow) → KernelLaws (length rows) react → sum (cell_in rows place) ≡ 0 → IsBlank react place rows flows
blank react place rows flows laws none =
    let zeros : cell_in rows place ≡ replicate (length rows) 0 = all_zero (cell_in rows place) (length rows) (cell_length rows place) none in
    let r : react (cell_in rows place) ≡ nothing (length rows) = ap (λ (v : List ℕ). react v) zeros ∙ laws.keeps_zeros in
    record {
      written = record {
        many = refl;
        done = λ f h.
            let there : slice_index (row_in rows f) place ≡ 0 = sym (cell_at rows place f h) ∙ ap (λ (v : List ℕ). slice_index v f) zeros ∙ get_or-replicate {A = ℕ} (length rows) f 0 0 h in
            let left : slice_index (react (cell_in rows place)).totals f ≡ 0 = ap (λ (v : Reacted). slice_index v.totals f) r ∙ get_or-replicate {A = ℕ} (length rows) f 0 0 h in
            sym (ap (λ (x : ℕ). slice_set (row_in rows f) place x) (left ∙ sym there) ∙ set-get_or (row_in rows f) place 0);
        rest = λ f h. refl;
      };
      no_gain = gained_nothing flows (length rows) (react (cell_in rows place)) r;
    }
