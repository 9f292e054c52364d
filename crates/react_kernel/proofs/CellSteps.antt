-- A kernel in one cell of a block, and in one more.
use Rattle.std.proofs.Common.{◌≡◌, ◌∙◌, sym, ap, subst, refl, inl, inr, ℕ, zero, suc, ◌<◌, ◌≤◌, Bool, true, false, ◌||◌, cond, nat_eq, List, ◌++◌, length, map, replicate, slice_index, slice_index_or, sum, arith}
use Rattle.std.proofs.lemmas.Bool.{cases_eq, false≢true, cases_lt, cond-true, cond-false, eq-eqb, ne_eqb}
use Rattle.std.proofs.lemmas.List.{length-set, ext_get_or, length-replicate}
use Rattle.std.proofs.lemmas.List.Elements.{All-map}
use Rattle.std.proofs.lemmas.List.Sums.{get_or-le-sum_by}
use Rattle.package_fields.specs.declared.flow.Flow.{Flow}
use Rattle.package_fields.specs.Kernel.{KernelLaws, Reacted, nothing, with_reacted}
use Rattle.block_layout.specs.declared.layout.Layout.{Layout}
use Rattle.block_layout.specs.Layouts.{len}
use Rattle.field_bufs.specs.declared.buf.FieldBuf.{FieldBuf}
use Rattle.field_bufs.specs.Buffers.{total_at}
use Rattle.react_kernel.specs.Blocks.{AreOf, IsOf, has_field, totals_at, without_cells}
use Rattle.react_kernel.specs.BlockSteps.{AreFresh, CellStep, HasRoom, IsFresh, with_total}
use Rattle.react_kernel.proofs.Buffers.{absent_total, bare_written, has_same, joined_first, joined_second, rise_same, total_written}
use Rattle.react_kernel.proofs.Cells.{at_totals, length_totals, wide_fresh, wide_of}
use Rattle.react_kernel.proofs.Gains.{gained_nothing}
use Rattle.react_kernel.proofs.Inserted.{no_total}

-- buffers stay those of the block when a total is written
pub of_written : (l : Layout) (block fields place : ℕ) (cell : List ℕ) (bufs : List FieldBuf) → AreOf l block fields bufs → AreOf l block fields (map (with_total place cell) bufs)
of_written l block fields place cell bufs are = record {
  each = All-map (IsOf l block fields) (with_total place cell) bufs (λ k d h.
      let one = are.each k d h in
      let buf = slice_index_or bufs k d in
      record {
        of_block = one.of_block;
        in_range = one.in_range;
        sizes = record { cells = length-set buf.cells place (slice_index cell buf.field) ∙ one.sizes.cells; right = one.sizes.right; left = one.sizes.left };
      });
  rise = rise_same 0 (map (with_total place cell) bufs) bufs (bare_written place cell bufs) are.rise;
}

pub fresh_written : (l : Layout) (block stamp fields place : ℕ) (cell : List ℕ) (old now made : List FieldBuf) → map without_cells now ≡ map without_cells old → AreFresh l block stamp fields old made
    → AreFresh l block stamp fields now (map (with_total place cell) made)
fresh_written l block stamp fields place cell old now made same are = record {
  each = All-map (IsFresh l block stamp fields now) (with_total place cell) made (λ k d h.
      let one = are.each k d h in
      let buf = slice_index_or made k d in
      record {
        of_block = one.of_block;
        stamped = one.stamped;
        in_range = one.in_range;
        was_absent = has_same now old buf.field same ∙ one.was_absent;
        as_many = length-set buf.cells place (slice_index cell buf.field) ∙ one.as_many;
        right = one.right;
        left = one.left;
      });
  rise = rise_same 0 (map (with_total place cell) made) made (bare_written place cell made) are.rise;
}

-- the totals of a cell were written
pub step_made : (l : Layout) (block stamp fields place : ℕ) (r : Reacted) (cell : List ℕ) (bufs made mid : List FieldBuf)
    → cell ≡ r.totals → AreOf l block fields bufs → AreFresh l block stamp fields bufs mid → place < len l → HasRoom fields cell bufs made mid
    → CellStep r place fields bufs made (map (with_total place cell) bufs) (map (with_total place cell) mid)
step_made l block stamp fields place r cell bufs made mid is are fresh below room = record {
  same = bare_written place cell bufs;
  totals = λ f p h. pick f p h (has_field bufs f) refl (has_field mid f) refl ∙ ap (λ (xs : List ℕ). cond (nat_eq p place) (slice_index xs f) (total_at (bufs ++ made) f p)) is;
  stays = λ f there. has_same ys mid f (bare_written place cell mid) ∙ room.stays f there;
  came = λ f there. elim (room.came f (sym (has_same ys mid f (bare_written place cell mid)) ∙ there)) [
    | inl had ↦ inl had
    | inr some ↦ inr (subst (λ (xs : List ℕ). 0 < slice_index xs f) is some)
  ];
}
  where
    xs : List FieldBuf
    xs = map (with_total place cell) bufs

    ys : List FieldBuf
    ys = map (with_total place cell) mid

    both : (b : Bool) (z : ℕ) → z ≡ cond b z z
    both true z = refl
    both false z = refl

    pick : (f p : ℕ) → f < fields → (a : Bool) → has_field bufs f ≡ a → (b : Bool) → has_field mid f ≡ b
        → total_at (xs ++ ys) f p ≡ cond (nat_eq p place) (slice_index cell f) (total_at (bufs ++ made) f p)
    pick f p h true there b e =
        joined_first xs ys f p (has_same xs bufs f (bare_written place cell bufs) ∙ there)
        ∙ (total_written place cell bufs f p (wide_of l block fields place bufs are below) there
        ∙ ap (λ (x : ℕ). cond (nat_eq p place) (slice_index cell f) x) (sym (joined_first bufs made f p there)))
    pick f p h false none true there =
        joined_second xs ys f p (has_same xs bufs f (bare_written place cell bufs) ∙ none)
        ∙ (total_written place cell mid f p (wide_fresh l block stamp fields place bufs mid fresh below) there
        ∙ ap (λ (x : ℕ). cond (nat_eq p place) (slice_index cell f) x) (room.same_totals f p ∙ sym (joined_second bufs made f p none)))
    pick f p h false none false gone =
        let zero_now : total_at (xs ++ ys) f p ≡ 0 = joined_second xs ys f p (has_same xs bufs f (bare_written place cell bufs) ∙ none)
        ∙ absent_total ys f p (has_same ys mid f (bare_written place cell mid) ∙ gone) in
        let zero_old : total_at (bufs ++ made) f p ≡ 0 = joined_second bufs made f p none ∙ (sym (room.same_totals f p) ∙ absent_total mid f p gone) in
        let zero_cell : slice_index cell f ≡ 0 = elim (cases_lt 0 (slice_index cell f)) [
          | inl some ↦ absurd (false≢true (sym (ap (λ (b : Bool). b || has_field mid f) none ∙ gone) ∙ room.room f h some))
          | inr least ↦ omega arith
        ] in
        zero_now
        ∙ (both (nat_eq p place) 0
        ∙ (ap (λ (x : ℕ). cond (nat_eq p place) x 0) (sym zero_cell) ∙ ap (λ (x : ℕ). cond (nat_eq p place) (slice_index cell f) x) (sym zero_old)))

-- a cell of zeros is left alone
pub step_none : (place fields : ℕ) (r : Reacted) (bufs made : List FieldBuf) → totals_at (bufs ++ made) fields place ≡ replicate fields 0 → r.totals ≡ replicate fields 0
    → CellStep r place fields bufs made bufs made
step_none place fields r bufs made none is = record {
  same = refl;
  totals = λ f p h.
      let zero_there : total_at (bufs ++ made) f place ≡ 0 = sym (at_totals (bufs ++ made) fields place f h) ∙ (ap (λ (xs : List ℕ). slice_index xs f) none ∙ no_total fields f) in
      let zero_result : slice_index r.totals f ≡ 0 = ap (λ (xs : List ℕ). slice_index xs f) is ∙ no_total fields f in
      elim (cases_eq p place) [
        | inl e ↦ ap (λ (q : ℕ). total_at (bufs ++ made) f q) e
            ∙ (zero_there ∙ (sym zero_result ∙ sym (cond-true (nat_eq p place) (slice_index r.totals f) (total_at (bufs ++ made) f p) (eq-eqb p place e))))
        | inr ne ↦ sym (cond-false (nat_eq p place) (slice_index r.totals f) (total_at (bufs ++ made) f p) (ne_eqb p place ne))
      ];
  stays = λ f h. h;
  came = λ f h. inl h;
}

-- a cell of which the sum is zero
pub all_zero : (cell : List ℕ) (fields : ℕ) → length cell ≡ fields → sum cell ≡ 0 → cell ≡ replicate fields 0
all_zero cell fields many none =
    ext_get_or 0 cell (replicate fields 0) (many ∙ sym (length_zeros fields)) (λ f h.
    let one : slice_index cell f ≤ sum cell = get_or-le-sum_by (λ (x : ℕ). x) cell f 0 h in
    let z : slice_index cell f ≡ 0 = omega arith in z ∙ sym (no_total fields f))
  where
    length_zeros : (n : ℕ) → length (replicate {A = ℕ} n 0) ≡ n
    length_zeros zero = refl
    length_zeros (suc n) = ap (λ (k : ℕ). suc k) (length_zeros n)

-- what is put into a cell
pub gathered_is : (fields place : ℕ) (bufs seen made : List FieldBuf) (cell0 cell1 : List ℕ) → cell0 ≡ replicate fields 0 → seen ≡ made → cell1 ≡ totals_at (bufs ++ seen) (length cell0) place
    → cell1 ≡ totals_at (bufs ++ made) fields place
gathered_is fields place bufs seen made cell0 cell1 zeros same is =
    is
    ∙ (ap (λ (xs : List FieldBuf). totals_at (bufs ++ xs) (length cell0) place) same
    ∙ ap (λ (n : ℕ). totals_at (bufs ++ made) n place) (ap (λ (xs : List ℕ). length xs) zeros ∙ length-replicate {A = ℕ} fields 0))

-- a cell in which nothing is
pub record IsBlank (react : List ℕ → Reacted) (place fields : ℕ) (bufs made : List FieldBuf) (cell : List ℕ) (flows : List Flow) : Type 0 where
  pub zeros : cell ≡ replicate fields 0
  pub no_gain : flows ≡ with_reacted flows (react (totals_at (bufs ++ made) fields place))
  pub step : CellStep (react (totals_at (bufs ++ made) fields place)) place fields bufs made bufs made

pub blank : (react : List ℕ → Reacted) (place fields held : ℕ) (bufs made : List FieldBuf) (cell : List ℕ) (flows : List Flow) → KernelLaws fields react
    → cell ≡ totals_at (bufs ++ made) fields place → held ≡ sum cell → held ≡ 0 → IsBlank react place fields bufs made cell flows
blank react place fields held bufs made cell flows laws is held_is none =
    let zeros : cell ≡ replicate fields 0 = all_zero cell fields (ap (λ (xs : List ℕ). length xs) is ∙ length_totals (bufs ++ made) fields place) (sym held_is ∙ none) in
    let here : totals_at (bufs ++ made) fields place ≡ replicate fields 0 = sym is ∙ zeros in
    let r : react (totals_at (bufs ++ made) fields place) ≡ nothing fields = ap (λ (xs : List ℕ). react xs) here ∙ laws.keeps_zeros in
    record {
      zeros = zeros;
      no_gain = gained_nothing flows fields (react (totals_at (bufs ++ made) fields place)) r;
      step = step_none place fields (react (totals_at (bufs ++ made) fields place)) bufs made here (ap (λ (s : Reacted). s.totals) r);
    }

-- a cell that was changed
pub record IsChanged (l : Layout) (block stamp fields place : ℕ) (r : Reacted) (bufs made bufs2 made2 : List FieldBuf) : Type 0 where
  pub of_block : AreOf l block fields bufs2
  pub fresh : AreFresh l block stamp fields bufs2 made2
  pub step : CellStep r place fields bufs made bufs2 made2

pub changed : (l : Layout) (block stamp fields place : ℕ) (r : Reacted) (cell : List ℕ) (bufs made mid bufs2 made2 : List FieldBuf)
    → length cell ≡ fields → cell ≡ r.totals → place < len l → AreOf l block fields bufs → AreFresh l block stamp (length cell) bufs mid → HasRoom (length cell) cell bufs made mid
    → bufs2 ≡ map (with_total place cell) bufs → made2 ≡ map (with_total place cell) mid → IsChanged l block stamp fields place r bufs made bufs2 made2
changed l block stamp fields place r cell bufs made mid bufs2 made2 many is below are fresh room one two =
    let w = with_total place cell in
    let fresh_here : AreFresh l block stamp fields bufs mid = subst (λ (n : ℕ). AreFresh l block stamp n bufs mid) many fresh in
    let room_here : HasRoom fields cell bufs made mid = subst (λ (n : ℕ). HasRoom n cell bufs made mid) many room in
    subst (λ (xs : List FieldBuf). IsChanged l block stamp fields place r bufs made xs made2) (sym one)
    (subst (λ (ys : List FieldBuf). IsChanged l block stamp fields place r bufs made (map w bufs) ys) (sym two) (record {
      of_block = of_written l block fields place cell bufs are;
      fresh = fresh_written l block stamp fields place cell bufs (map w bufs) mid (bare_written place cell bufs) fresh_here;
      step = step_made l block stamp fields place r cell bufs made mid is are fresh_here below room_here;
    }))
