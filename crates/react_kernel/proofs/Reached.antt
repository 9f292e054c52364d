-- A block whose interior cells are changed one by one.
use Rattle.std.proofs.Common.{◌≡◌, ◌∙◌, sym, ap, subst, refl, inl, inr, ℕ, zero, suc, ◌+◌, ◌<◌, ◌^◌, true, nat_eq, List, [], ◌++◌, length, replicate, slice_index, slice_index_or, sum, arith}
use Rattle.std.proofs.lemmas.Bool.{cases_eq, false≢true, cond-true, cond-false, eq-eqb, ne_eqb}
use Rattle.std.proofs.lemmas.List.{append-nil, ext_get_or, get_or_past}
use Rattle.std.proofs.lemmas.List.Folds.{list_any_at}
use Rattle.std.proofs.lemmas.List.Elements.{All-nil}
use Rattle.package_fields.specs.declared.flow.Flow.{Flow}
use Rattle.package_fields.specs.Flow.{no_flow}
use Rattle.package_fields.specs.Kernel.{KernelLaws, Reacted, nothing, with_reacted}
use Rattle.block_layout.specs.declared.layout.Layout.{Layout}
use Rattle.block_layout.specs.Sizes.{IsLayout}
use Rattle.block_layout.specs.Layouts.{interior_len}
use Rattle.field_bufs.specs.declared.buf.FieldBuf.{FieldBuf}
use Rattle.field_bufs.specs.Buffers.{HasSizes, total_at}
use Rattle.react_kernel.specs.Blocks.{AreOf, HasGained, HasReacted, IsNew, has_field, inner_place, reacted_at, totals_at}
use Rattle.react_kernel.specs.BlockSteps.{AreFresh, CellStep, IsFresh, Reached}
use Rattle.react_kernel.proofs.Buffers.{has_same}
use Rattle.react_kernel.proofs.Cells.{at_totals, length_totals}
use Rattle.react_kernel.proofs.Gains.{gained_more, gained_none, no_parts, sum_none}
use Rattle.react_kernel.proofs.Inserted.{no_total}
use Rattle.react_kernel.proofs.Rows.{inner_same}

pub reached_none : (react : List ℕ → Reacted) (l : Layout) (block stamp : ℕ) (old : List FieldBuf) (flows : List Flow) → AreOf l block (length flows) old → Reached react l block stamp old flows 0 old [] flows
reached_none react l block stamp old flows are = record {
  of_block = are;
  fresh = record { each = All-nil (IsFresh l block stamp (length flows) old); rise = refl };
  same = refl;
  came = λ f there. absurd (false≢true there);
  reacted = λ k f h. absurd (omega arith);
  rest = λ f place h none. ap (λ (bufs : List FieldBuf). total_at bufs f place) (append-nil old);
  gained = gained_none react l old flows;
}

-- the next cell is as it was
pub next_totals : (react : List ℕ → Reacted) (l : Layout) (block stamp : ℕ) (old : List FieldBuf) (flows : List Flow) (n : ℕ) (now made : List FieldBuf) (passed : List Flow)
    → IsLayout l.dims l.cells → n < interior_len l → Reached react l block stamp old flows n now made passed
    → totals_at (now ++ made) (length flows) (inner_place l n) ≡ totals_at old (length flows) (inner_place l n)
next_totals react l block stamp old flows n now made passed sound below had =
    let all = now ++ made in
    ext_get_or 0 (totals_at all (length flows) (inner_place l n)) (totals_at old (length flows) (inner_place l n))
    (length_totals all (length flows) (inner_place l n) ∙ sym (length_totals old (length flows) (inner_place l n))) (λ f h.
    let within : f < length flows = omega (arith, h, length_totals all (length flows) (inner_place l n)) in
    at_totals all (length flows) (inner_place l n) f within
    ∙ (had.rest f (inner_place l n) within (λ k i e. let s : n ≡ k = inner_same l n k sound below (omega arith) e in absurd (omega arith))
    ∙ sym (at_totals old (length flows) (inner_place l n) f within)))

pub reached_more : (react : List ℕ → Reacted) (l : Layout) (block stamp : ℕ) (old : List FieldBuf) (flows : List Flow) (n place : ℕ) (now made now2 made2 : List FieldBuf) (passed passed2 : List Flow)
    → IsLayout l.dims l.cells → n < interior_len l → place ≡ inner_place l n → Reached react l block stamp old flows n now made passed
    → AreOf l block (length passed) now2 → AreFresh l block stamp (length passed) now2 made2
    → CellStep (react (totals_at (now ++ made) (length passed) place)) place (length passed) now made now2 made2
    → passed2 ≡ with_reacted passed (react (totals_at (now ++ made) (length passed) place))
    → Reached react l block stamp old flows (n + 1) now2 made2 passed2
reached_more react l block stamp old flows n place now made now2 made2 passed passed2 sound below at had are fresh step gains =
    let fields = length flows in
    let many : length passed ≡ fields = had.gained.as_many in
    let r = reacted_at react l old fields n in
    let is : react (totals_at (now ++ made) (length passed) place) ≡ r =
    ap (λ (m : ℕ). react (totals_at (now ++ made) m place)) many
    ∙ (ap (λ (p : ℕ). react (totals_at (now ++ made) fields p)) at
    ∙ ap (λ (cell : List ℕ). react cell) (next_totals react l block stamp old flows n now made passed sound below had)) in
    let moved : CellStep r (inner_place l n) fields now made now2 made2 =
    subst (λ (s : Reacted). CellStep s (inner_place l n) fields now made now2 made2) is
    (subst (λ (p : ℕ). CellStep (react (totals_at (now ++ made) (length passed) place)) p fields now made now2 made2) at
    (subst (λ (m : ℕ). CellStep (react (totals_at (now ++ made) (length passed) place)) place m now made now2 made2) many step)) in
    record {
      of_block = subst (λ (m : ℕ). AreOf l block m now2) many are;
      fresh = subst (λ (m : ℕ). AreFresh l block stamp m now2 made2) many fresh;
      same = moved.same ∙ had.same;
      came = λ f there. elim (moved.came f there) [
        | inl before ↦ let (k, h, some) = had.came f before in (k, omega arith, some)
        | inr some ↦ (n, omega arith, some)
      ];
      reacted = λ k f h within. elim (cases_eq k n) [
        | inl e ↦ subst (λ (j : ℕ). total_at (now2 ++ made2) f (inner_place l j) ≡ slice_index (reacted_at react l old fields j).totals f) (sym e)
            (moved.totals f (inner_place l n) within
            ∙ cond-true (nat_eq (inner_place l n) (inner_place l n)) (slice_index r.totals f) (total_at (now ++ made) f (inner_place l n)) (eq-eqb (inner_place l n) (inner_place l n) refl))
        | inr ne ↦ moved.totals f (inner_place l k) within
            ∙ (cond-false (nat_eq (inner_place l k) (inner_place l n)) (slice_index r.totals f) (total_at (now ++ made) f (inner_place l k))
            (ne_eqb (inner_place l k) (inner_place l n) (λ e. ne (inner_same l k n sound (omega arith) below e)))
            ∙ had.reacted k f (omega arith) within)
      ];
      rest = λ f p within none.
          moved.totals f p within
          ∙ (cond-false (nat_eq p (inner_place l n)) (slice_index r.totals f) (total_at (now ++ made) f p) (ne_eqb p (inner_place l n) (none n (omega arith)))
          ∙ had.rest f p within (λ k h. none k (omega arith)));
      gained = gained_more react l old n flows passed passed2 (react (totals_at (now ++ made) (length passed) place)) had.gained is gains;
    }

-- all cells are changed
pub reached_all : (react : List ℕ → Reacted) (l : Layout) (block stamp : ℕ) (old : List FieldBuf) (flows : List Flow) (now made : List FieldBuf) (passed : List Flow)
    → Reached react l block stamp old flows (interior_len l) now made passed → HasReacted react l block stamp (length flows) old now made
reached_all react l block stamp old flows now made passed had = record {
  same = had.same;
  sizes = λ k d h. (had.of_block.each k d h).sizes;
  rise = had.fresh.rise;
  new = λ k d h.
      let buf = slice_index_or made k d in
      let one = had.fresh.each k d h in
      let there : has_field made buf.field ≡ true = list_any_at (λ (b : FieldBuf). nat_eq b.field buf.field) made k d h (eq-eqb buf.field buf.field refl) in
      let (cell, within, some) = had.came buf.field there in
      record {
        of_block = one.of_block;
        stamped = one.stamped;
        in_range = one.in_range;
        was_absent = sym (has_same now old buf.field had.same) ∙ one.was_absent;
        some_cell = cell;
        cell_within = within;
        not_zero = some;
        as_many = one.as_many;
        right = one.right;
        left = one.left;
      };
  interior = had.reacted;
  ghosts = had.rest;
}

-- a block without buffers
none_there : (react : List ℕ → Reacted) (l : Layout) (fields k : ℕ) → KernelLaws fields react → reacted_at react l [] fields k ≡ nothing fields
none_there react l fields k laws =
    ap (λ (cell : List ℕ). react cell) (ext_get_or 0 (totals_at [] fields (inner_place l k)) (replicate fields 0) (length_totals [] fields (inner_place l k) ∙ sym (length_zeros fields)) (λ f h.
    at_totals [] fields (inner_place l k) f (omega (arith, h, length_totals [] fields (inner_place l k))) ∙ (get_or_past [] (inner_place l k) 0 (omega arith) ∙ sym (no_total fields f))))
    ∙ laws.keeps_zeros
  where
    length_zeros : (n : ℕ) → length (replicate {A = ℕ} n 0) ≡ n
    length_zeros zero = refl
    length_zeros (suc n) = ap (λ (k : ℕ). suc k) (length_zeros n)

pub reacted_empty : (react : List ℕ → Reacted) (l : Layout) (block stamp fields : ℕ) (old : List FieldBuf) → KernelLaws fields react → old ≡ [] → HasReacted react l block stamp fields old old []
reacted_empty react l block stamp fields old laws e = subst (λ (bufs : List FieldBuf). HasReacted react l block stamp fields bufs bufs []) (sym e) (record {
  same = refl;
  sizes = All-nil (HasSizes l);
  rise = refl;
  new = All-nil (IsNew react l block stamp fields []);
  interior = λ k f h within. get_or_past [] (inner_place l k) 0 (omega arith) ∙ sym (ap (λ (r : Reacted). slice_index r.totals f) (none_there react l fields k laws) ∙ no_total fields f);
  ghosts = λ f p within none. refl;
})

pub gained_empty : (react : List ℕ → Reacted) (l : Layout) (n : ℕ) (old : List FieldBuf) (flows : List Flow) → KernelLaws (length flows) react → old ≡ [] → HasGained react l old n flows flows
gained_empty react l n old flows laws e = subst (λ (bufs : List FieldBuf). HasGained react l bufs n flows flows) (sym e) (record {
  as_many = refl;
  each = λ f h. no_parts (slice_index_or flows f no_flow) _ _
      (sum_none n (λ k. slice_index (reacted_at react l [] (length flows) k).made f) (λ k i. ap (λ (r : Reacted). slice_index r.made f) (none_there react l (length flows) k laws) ∙ no_total (length flows) f))
      (sum_none n (λ k. slice_index (reacted_at react l [] (length flows) k).used f) (λ k i. ap (λ (r : Reacted). slice_index r.used f) (none_there react l (length flows) k laws) ∙ no_total (length flows) f));
})

pub next_sum : (react : List ℕ → Reacted) (l : Layout) (block stamp : ℕ) (old : List FieldBuf) (flows : List Flow) (n place : ℕ) (now made : List FieldBuf) (passed : List Flow)
    → IsLayout l.dims l.cells → n < interior_len l → place ≡ inner_place l n → ((k : ℕ) → k < interior_len l → sum (totals_at old (length flows) (inner_place l k)) < 2 ^ 62)
    → Reached react l block stamp old flows n now made passed → sum (totals_at (now ++ made) (length passed) place) < 2 ^ 62
next_sum react l block stamp old flows n place now made passed sound below at small had =
    let same : totals_at (now ++ made) (length passed) place ≡ totals_at old (length flows) (inner_place l n) =
    ap (λ (m : ℕ). totals_at (now ++ made) m place) had.gained.as_many
    ∙ (ap (λ (p : ℕ). totals_at (now ++ made) (length flows) p) at ∙ next_totals react l block stamp old flows n now made passed sound below had) in
    subst (λ (cell : List ℕ). sum cell < 2 ^ 62) (sym same) (small n below)

pub finished : (react : List ℕ → Reacted) (l : Layout) (block stamp : ℕ) (old old2 : List FieldBuf) (flows flows2 : List Flow) (now now2 made made2 : List FieldBuf) (passed : List Flow)
    → old2 ≡ old → flows2 ≡ flows → now2 ≡ now → made2 ≡ made → Reached react l block stamp old2 flows2 (interior_len l) now made passed → HasReacted react l block stamp (length flows) old now2 made2
finished react l block stamp old old2 flows flows2 now now2 made made2 passed a b c d had =
    subst (λ (xs : List FieldBuf). HasReacted react l block stamp (length flows) old xs made2) (sym c)
    (subst (λ (ys : List FieldBuf). HasReacted react l block stamp (length flows) old now ys) (sym d)
    (subst (λ (fs : List Flow). HasReacted react l block stamp (length fs) old now made) b
    (subst (λ (xs : List FieldBuf). HasReacted react l block stamp (length flows2) xs now made) a
    (reached_all react l block stamp old2 flows2 now made passed had))))
