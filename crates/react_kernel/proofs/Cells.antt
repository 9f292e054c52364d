-- A cell of a block, and what the fields with buffers hold of it.
use Rattle.std.proofs.Common.{◌≡◌, ◌∙◌, sym, ap, subst, refl, inl, inr, ℕ, zero, suc, ◌+◌, ◌<◌, ◌≤◌, Bool, true, false, ◌||◌, cond, List, [], ◌∷◌, ◌++◌, length, replicate, slice_index, slice_set, sum, arith}
use Rattle.std.specs.Prelude.{All}
use Rattle.std.proofs.lemmas.Bool.{cases_eq, false≢true, cases_lt, cond-false}
use Rattle.std.proofs.lemmas.List.{get_or-set_other, length-set, ext_get_or, length-replicate}
use Rattle.std.proofs.lemmas.List.Sums.{sum_by-set, get_or-le-sum_by}
use Rattle.std.proofs.lemmas.List.Folds.{sum_by-replicate}
use Rattle.std.proofs.lemmas.List.FromFn.{get_or-map-range_with_len, length-map-range_with_len}
use Rattle.std.proofs.lemmas.List.Elements.{All-head, All-tail}
use Rattle.block_layout.specs.declared.layout.Layout.{Layout}
use Rattle.block_layout.specs.Layouts.{len}
use Rattle.field_bufs.specs.declared.buf.FieldBuf.{FieldBuf}
use Rattle.field_bufs.specs.Buffers.{total_at}
use Rattle.react_kernel.specs.Blocks.{AreOf, Rise, has_field, totals_at}
use Rattle.react_kernel.specs.BlockSteps.{AreFresh, gathered, held_sum, sum_there, zeroed}
use Rattle.react_kernel.proofs.Buffers.{absent_total, at_gathered, at_zeroed, here, joined, length_gathered, length_zeroed, not_here}
use Rattle.react_kernel.proofs.Inserted.{no_total}

abbrev pub InRange : ℕ → FieldBuf → Type 0
InRange n buf = buf.field < n

abbrev pub IsApart : List FieldBuf → FieldBuf → Type 0
IsApart bufs buf = has_field bufs buf.field ≡ false

pub in_range_of : (l : Layout) (block fields : ℕ) (bufs : List FieldBuf) → AreOf l block fields bufs → All (InRange fields) bufs
in_range_of l block fields bufs are = λ k d h. (are.each k d h).in_range

pub in_range_fresh : (l : Layout) (block stamp fields : ℕ) (bufs made : List FieldBuf) → AreFresh l block stamp fields bufs made → All (InRange fields) made
in_range_fresh l block stamp fields bufs made are = λ k d h. (are.each k d h).in_range

pub apart_fresh : (l : Layout) (block stamp fields : ℕ) (bufs made : List FieldBuf) → AreFresh l block stamp fields bufs made → All (IsApart bufs) made
apart_fresh l block stamp fields bufs made are = λ k d h. (are.each k d h).was_absent

pub wide_of : (l : Layout) (block fields place : ℕ) (bufs : List FieldBuf) → AreOf l block fields bufs → place < len l → All (λ (buf : FieldBuf). place < length buf.cells) bufs
wide_of l block fields place bufs are below = λ k d h. let e = (are.each k d h).sizes.cells in omega (arith, e, below)

pub wide_fresh : (l : Layout) (block stamp fields place : ℕ) (bufs made : List FieldBuf) → AreFresh l block stamp fields bufs made → place < len l → All (λ (buf : FieldBuf). place < length buf.cells) made
wide_fresh l block stamp fields place bufs made are below = λ k d h. let e = (are.each k d h).as_many in omega (arith, e, below)

-- a field of the new buffers is none of the others
pub apart : (bufs made : List FieldBuf) (f : ℕ) → All (IsApart bufs) made → has_field made f ≡ true → has_field bufs f ≡ false
apart bufs [] f all there = absurd (false≢true there)
apart bufs (buf ∷ made) f all there = elim (cases_eq f buf.field) [
  | inl e ↦ ap (λ (k : ℕ). has_field bufs k) e ∙ All-head (IsApart bufs) buf made all
  | inr ne ↦ apart bufs made f (All-tail (IsApart bufs) buf made all) (sym (not_here buf made f ne) ∙ there)
]

held_other : (g v : ℕ) (bufs : List FieldBuf) (cell : List ℕ) → Rise (g + 1) bufs → held_sum bufs (slice_set cell g v) ≡ held_sum bufs cell
held_other g v [] cell rise = refl
held_other g v (buf ∷ bufs) cell (from, rise) =
    let a : slice_index (slice_set cell g v) buf.field ≡ slice_index cell buf.field = get_or-set_other cell g buf.field v 0 (λ e. absurd (omega arith)) in
    let b : held_sum bufs (slice_set cell g v) ≡ held_sum bufs cell = held_other g v bufs cell (lifted (g + 1) (buf.field + 1) bufs (omega arith) rise) in
    omega arith
  where
    lifted : (m n : ℕ) (xs : List FieldBuf) → m ≤ n → Rise n xs → Rise m xs
    lifted m n [] h r = refl
    lifted m n (x ∷ xs) h (f, r) = (omega arith, r)

pub sum_zeroed : (n : ℕ) (bufs : List FieldBuf) (cell : List ℕ) → Rise n bufs → All (InRange (length cell)) bufs → held_sum bufs cell + sum (zeroed bufs cell) ≡ sum cell
sum_zeroed n [] cell rise within = omega arith
sum_zeroed n (buf ∷ bufs) cell (from, rise) within =
    let put = slice_set cell buf.field 0 in
    let inside : buf.field < length cell = All-head (InRange (length cell)) buf bufs within in
    let size : length put ≡ length cell = length-set cell buf.field 0 in
    let a : sum put + slice_index cell buf.field ≡ sum cell + 0 = sum_by-set (λ (x : ℕ). x) cell buf.field 0 0 inside in
    let b : held_sum bufs put + sum (zeroed bufs put) ≡ sum put = sum_zeroed (buf.field + 1) bufs put rise
    (subst (λ (m : ℕ). All (InRange m) bufs) (sym size) (All-tail (InRange (length cell)) buf bufs within)) in
    let c : held_sum bufs put ≡ held_sum bufs cell = held_other buf.field 0 bufs cell rise in
    omega arith

held_apart : (bufs made : List FieldBuf) (cell : List ℕ) → All (IsApart bufs) made → All (InRange (length cell)) made → held_sum made (zeroed bufs cell) ≡ held_sum made cell
held_apart bufs [] cell all within = refl
held_apart bufs (buf ∷ made) cell all within =
    let none : has_field bufs buf.field ≡ false = All-head (IsApart bufs) buf made all in
    let a : slice_index (zeroed bufs cell) buf.field ≡ slice_index cell buf.field =
    at_zeroed bufs cell buf.field (All-head (InRange (length cell)) buf made within) ∙ cond-false (has_field bufs buf.field) 0 (slice_index cell buf.field) none in
    let b : held_sum made (zeroed bufs cell) ≡ held_sum made cell = held_apart bufs made cell (All-tail (IsApart bufs) buf made all) (All-tail (InRange (length cell)) buf made within) in
    omega arith

-- what the fields with buffers hold of a cell, and what the others do
pub held_both : (bufs made : List FieldBuf) (cell : List ℕ) → Rise 0 bufs → Rise 0 made → All (IsApart bufs) made → All (InRange (length cell)) bufs → All (InRange (length cell)) made
    → held_sum bufs cell + held_sum made cell + sum (zeroed made (zeroed bufs cell)) ≡ sum cell
held_both bufs made cell rise rises apart within within_made =
    let a : held_sum bufs cell + sum (zeroed bufs cell) ≡ sum cell = sum_zeroed 0 bufs cell rise within in
    let b : held_sum made (zeroed bufs cell) + sum (zeroed made (zeroed bufs cell)) ≡ sum (zeroed bufs cell) =
    sum_zeroed 0 made (zeroed bufs cell) rises (subst (λ (m : ℕ). All (InRange m) made) (sym (length_zeroed bufs cell)) within_made) in
    let c : held_sum made (zeroed bufs cell) ≡ held_sum made cell = held_apart bufs made cell apart within_made in
    omega arith

pub none_missing : (bufs made : List FieldBuf) (cell : List ℕ) (f : ℕ) → Rise 0 bufs → Rise 0 made → All (IsApart bufs) made → All (InRange (length cell)) bufs → All (InRange (length cell)) made
    → held_sum bufs cell + held_sum made cell ≡ sum cell → f < length cell → 0 < slice_index cell f → (has_field bufs f || has_field made f) ≡ true
none_missing bufs made cell f rise rises apart within within_made all h some =
    let z = zeroed made (zeroed bufs cell) in
    let whole = held_both bufs made cell rise rises apart within within_made in
    let size : length z ≡ length cell = length_zeroed made (zeroed bufs cell) ∙ length_zeroed bufs cell in
    let one : slice_index z f ≤ sum z = get_or-le-sum_by (λ (x : ℕ). x) z f 0 (omega arith) in
    let none : slice_index z f ≡ 0 = omega arith in
    let is : slice_index z f ≡ cond (has_field made f) 0 (cond (has_field bufs f) 0 (slice_index cell f)) =
    at_zeroed made (zeroed bufs cell) f (omega (arith, length_zeroed bufs cell)) ∙ ap (λ (x : ℕ). cond (has_field made f) 0 x) (at_zeroed bufs cell f h) in
    one_of (has_field bufs f) (has_field made f) (slice_index cell f) (sym is ∙ none) some
  where
    one_of : (a b : Bool) (x : ℕ) → cond b 0 (cond a 0 x) ≡ 0 → 0 < x → (a || b) ≡ true
    one_of true b x e s = refl
    one_of false true x e s = refl
    one_of false false x e s = absurd (omega arith)

-- the totals of all buffers at a place
pub sum_gathered : (place n : ℕ) (bufs : List FieldBuf) (cell : List ℕ) → Rise n bufs → All (InRange (length cell)) bufs
    → ((f : ℕ) → has_field bufs f ≡ true → slice_index cell f ≡ 0) → sum (gathered place bufs cell) ≡ sum cell + sum_there place bufs
sum_gathered place n [] cell rise within zeros = omega arith
sum_gathered place n (buf ∷ bufs) cell (from, rise) within zeros =
    let v = slice_index buf.cells place in
    let put = slice_set cell buf.field v in
    let inside : buf.field < length cell = All-head (InRange (length cell)) buf bufs within in
    let size : length put ≡ length cell = length-set cell buf.field v in
    let a : sum put + slice_index cell buf.field ≡ sum cell + v = sum_by-set (λ (x : ℕ). x) cell buf.field v 0 inside in
    let none : slice_index cell buf.field ≡ 0 = zeros buf.field (here buf bufs buf.field refl) in
    let b : sum (gathered place bufs put) ≡ sum put + sum_there place bufs = sum_gathered place (buf.field + 1) bufs put rise
    (subst (λ (m : ℕ). All (InRange m) bufs) (sym size) (All-tail (InRange (length cell)) buf bufs within))
    (λ f there. elim (cases_eq f buf.field) [
      | inl e ↦ absurd (false≢true (sym (not_yet buf.field bufs f rise e) ∙ there))
      | inr ne ↦ get_or-set_other cell buf.field f v 0 ne ∙ zeros f (not_here buf bufs f ne ∙ there)
    ]) in
    omega arith
  where
    not_yet : (g : ℕ) (xs : List FieldBuf) (f : ℕ) → Rise (g + 1) xs → f ≡ g → has_field xs f ≡ false
    not_yet g [] f r e = refl
    not_yet g (x ∷ xs) f (from, r) e = not_here x xs f (λ same. absurd (omega arith)) ∙ not_yet_above (x.field + 1) xs f r (omega arith)
      where
        not_yet_above : (m : ℕ) (ys : List FieldBuf) (k : ℕ) → Rise m ys → k < m → has_field ys k ≡ false
        not_yet_above m [] k s h = refl
        not_yet_above m (y ∷ ys) k (s, t) h = not_here y ys k (λ same. absurd (omega arith)) ∙ not_yet_above (y.field + 1) ys k t (omega arith)

pub record IsGathered (place fields : ℕ) (bufs made : List FieldBuf) : Type 0 where
  pub cell : gathered place made (gathered place bufs (replicate fields 0)) ≡ totals_at (bufs ++ made) fields place
  pub total : sum_there place bufs + sum_there place made ≡ sum (totals_at (bufs ++ made) fields place)

pub length_totals : (bufs : List FieldBuf) (fields place : ℕ) → length (totals_at bufs fields place) ≡ fields
length_totals bufs fields place = length-map-range_with_len (λ (f : ℕ). total_at bufs f place) 0 fields

pub at_totals : (bufs : List FieldBuf) (fields place f : ℕ) → f < fields → slice_index (totals_at bufs fields place) f ≡ total_at bufs f place
at_totals bufs fields place f h = get_or-map-range_with_len (λ (f : ℕ). total_at bufs f place) 0 fields f f 0 h (omega arith)

pub all_gathered : (place fields : ℕ) (bufs made : List FieldBuf) → Rise 0 bufs → Rise 0 made → All (IsApart bufs) made → All (InRange fields) bufs → All (InRange fields) made
    → IsGathered place fields bufs made
all_gathered place fields bufs made rise rises away within within_made =
    let zeros : List ℕ = replicate fields 0 in
    let n : length zeros ≡ fields = length-replicate fields 0 in
    let first : List ℕ = gathered place bufs zeros in
    let m : length first ≡ fields = length_gathered place bufs zeros ∙ n in
    let last : List ℕ = gathered place made first in
    let k : length last ≡ fields = length_gathered place made first ∙ m in
    let at_first : (f : ℕ) → f < fields → slice_index first f ≡ cond (has_field bufs f) (total_at bufs f place) 0 = λ f h.
    at_gathered place 0 bufs zeros f rise (omega arith) ∙ ap (λ (x : ℕ). cond (has_field bufs f) (total_at bufs f place) x) (no_total fields f) in
    let cell : last ≡ totals_at (bufs ++ made) fields place =
    ext_get_or 0 last (totals_at (bufs ++ made) fields place) (k ∙ sym (length_totals (bufs ++ made) fields place)) (λ f h.
    at_gathered place 0 made first f rises (omega arith)
    ∙ (ap (λ (x : ℕ). cond (has_field made f) (total_at made f place) x) (at_first f (omega arith))
    ∙ (either (has_field bufs f) (has_field made f) (total_at bufs f place) (total_at made f place) (apart bufs made f away) (absent_total made f place)
    ∙ (sym (joined bufs made f place) ∙ sym (at_totals (bufs ++ made) fields place f (omega arith)))))) in
    let one : sum first ≡ sum zeros + sum_there place bufs = sum_gathered place 0 bufs zeros rise (subst (λ (m : ℕ). All (InRange m) bufs) (sym n) within) (λ f there. no_total fields f) in
    let two : sum last ≡ sum first + sum_there place made = sum_gathered place 0 made first rises (subst (λ (n : ℕ). All (InRange n) made) (sym m) within_made)
    (λ f there. elim (cases_lt f fields) [
      | inl h ↦ at_first f h ∙ cond-false (has_field bufs f) (total_at bufs f place) 0 (apart bufs made f away there)
      | inr past ↦ past_end first f (omega arith)
    ]) in
    let none : sum zeros ≡ 0 = sum_by-replicate (λ (x : ℕ). x) fields 0 ∙ omega arith in
    let same : sum last ≡ sum (totals_at (bufs ++ made) fields place) = ap (λ (xs : List ℕ). sum xs) cell in
    record { cell = cell; total = omega arith }
  where
    either : (a b : Bool) (x y : ℕ) → (b ≡ true → a ≡ false) → (b ≡ false → y ≡ 0) → cond b y (cond a x 0) ≡ cond a x y
    either true true x y h z = absurd (false≢true (sym (h refl)))
    either true false x y h z = refl
    either false true x y h z = refl
    either false false x y h z = sym (z refl)

    past_end : (xs : List ℕ) (f : ℕ) → length xs ≤ f → slice_index xs f ≡ 0
    past_end [] f h = no_total 0 f
    past_end (x ∷ xs) zero h = absurd (omega arith)
    past_end (x ∷ xs) (suc f) h = past_end xs f (omega arith)
