-- Rows in which a kernel changed the first so many cells.
use Rattle.std.proofs.Common.{◌≡◌, ◌∙◌, ℕ, ◌+◌, ◌<◌, ◌≤◌, List, [], length, slice_index, slice_set, refl, arith, ap, sym, inl, inr}
use Rattle.std.specs.Prelude.{All}
use Rattle.std.proofs.lemmas.Bool.{cases_eq}
use Rattle.std.proofs.lemmas.List.{ext_get_or, get_or-set_other, get_or-set_same, length-set}
use Rattle.std.proofs.lemmas.List.Elements.{All-from_get_or, All-get_or}
use Rattle.package_fields.specs.Kernel.{Reacted}
use Rattle.dense_reaction.specs.Blocks.{HasReacted, IsWritten, cell_in, row_in}
use Rattle.dense_reaction.proofs.Cells.{cell_at, cell_length}

-- no cell yet
pub reacted_none : (react : List ℕ → Reacted) (rows : List (List ℕ)) → HasReacted react 0 rows rows
reacted_none react rows = record { many = refl; long = λ f h. refl; done = λ f place h k. absurd (omega arith); rest = λ f place h k. refl }

-- a cell that was not changed yet is as before
pub same_cell : (react : List ℕ → Reacted) (n place : ℕ) (old new : List (List ℕ)) → HasReacted react n old new → n ≤ place → cell_in new place ≡ cell_in old place
same_cell react n place old new had over =
    let many = had.many in
    let a = cell_length new place in
    ext_get_or 0 (cell_in new place) (cell_in old place) (a ∙ many ∙ sym (cell_length old place)) (λ f h.
    cell_at new place f (omega arith) ∙ had.rest f place (omega arith) over ∙ sym (cell_at old place f (omega arith)))

-- the place of a cell lies in each row
pub in_rows : (react : List ℕ → Reacted) (n size place : ℕ) (old new : List (List ℕ)) → HasReacted react n old new → All (λ (row : List ℕ). length row ≡ size) old → place < size → All (λ (row : List ℕ). place < length row) new
in_rows react n size place old new had sizes small =
    let many = had.many in
    All-from_get_or (λ (row : List ℕ). place < length row) new [] (λ f h.
    let long = had.long f (omega arith) in
    let size_is = All-get_or (λ (row : List ℕ). length row ≡ size) old f [] (omega arith) sizes in
    omega arith)

-- one cell more
pub reacted_more : (react : List ℕ → Reacted) (n size : ℕ) (old now new : List (List ℕ)) (totals : List ℕ) → HasReacted react n old now → All (λ (row : List ℕ). length row ≡ size) old → n < size →
    totals ≡ (react (cell_in old n)).totals → IsWritten n totals now new → HasReacted react (n + 1) old new
reacted_more react n size old now new totals had sizes small is written = record {
  many = written.many ∙ had.many;
  long = λ f h. let many = had.many in ap (λ (row : List ℕ). length row) (written.done f (omega arith)) ∙ length-set (row_in now f) n (slice_index totals f) ∙ had.long f h;
  done = λ f place h k.
      let many = had.many in
      let long = had.long f h in
      let size_is = All-get_or (λ (row : List ℕ). length row ≡ size) old f [] h sizes in
      ap (λ (row : List ℕ). slice_index row place) (written.done f (omega arith))
      ∙ elim (cases_eq place n) as (λ _. slice_index (slice_set (row_in now f) n (slice_index totals f)) place ≡ slice_index (react (cell_in old place)).totals f) [
        | inl e ↦ ap (λ (j : ℕ). slice_index (slice_set (row_in now f) n (slice_index totals f)) j) e
            ∙ (get_or-set_same (row_in now f) n (slice_index totals f) 0 (omega arith)
            ∙ (ap (λ (v : List ℕ). slice_index v f) is ∙ ap (λ (j : ℕ). slice_index (react (cell_in old j)).totals f) (sym e)))
        | inr ne ↦ get_or-set_other (row_in now f) n place (slice_index totals f) 0 ne ∙ had.done f place h (omega (arith, ne))
      ];
  rest = λ f place h k.
      let many = had.many in
      ap (λ (row : List ℕ). slice_index row place) (written.done f (omega arith)) ∙ get_or-set_other (row_in now f) n place (slice_index totals f) 0 (omega arith) ∙ had.rest f place h (omega arith);
}
