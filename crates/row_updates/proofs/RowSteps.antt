-- What one more row makes of a list.
use Rattle.std.proofs.Common.{◌≡◌, ◌≢◌, ◌⊎◌, ℕ, ◌+◌, ◌-◌, ◌*◌, ◌<◌, ◌≤◌, List, ◌++◌, take, drop, length, get_or, sym, ◌∙◌, ap, subst, arith, inl, inr, ⊎_elim}
use Rattle.std.proofs.lemmas.Grind.{common_steps}
use Rattle.std.proofs.lemmas.Bool.{cases_lt}
use Rattle.std.proofs.lemmas.List.{get_or_append_left, get_or-append_right, get_or-take, get_or-drop}
use borrow.Rule.Slice.PartMut.{put_mid}
use Rattle.strided_rows.specs.declared.rows.Rows.{Rows}
use Rattle.row_updates.specs.Numbers.{Numbers, numbers_at}
use Rattle.row_updates.specs.Steps.{RowSources, RowsDone, RowsStay, in_row, row_numbers}

-- a row of a list, as the code takes it
abbrev pub slice : List ℕ → Rows → ℕ → ℕ → List ℕ
slice xs rows row len = take (rows.first + row * rows.step + len - (rows.first + row * rows.step)) (drop (rows.first + row * rows.step) xs)

slice_at : (xs : List ℕ) (a j len k : ℕ) → j ≡ len → k < len → get_or (take j (drop a xs)) k 0 ≡ get_or xs (a + k) 0
slice_at xs a j len k e h = get_or-take j (drop a xs) k 0 (omega arith) ∙ get_or-drop a xs k 0

row_at : (xs : List ℕ) (rows : Rows) (row len k : ℕ) → k < len → get_or (slice xs rows row len) k 0 ≡ get_or xs (in_row rows row k) 0
row_at xs rows row len k h = slice_at xs (rows.first + row * rows.step) (rows.first + row * rows.step + len - (rows.first + row * rows.step)) len k (omega arith) h

five : (o f s t u o' f' s' t' u' : ℕ) → o ≡ o' → f ≡ f' → s ≡ s' → t ≡ t' → u ≡ u' →
    (let x : Numbers = record { own = o; first = f; second = s; third = t; fourth = u } in x) ≡ (let y : Numbers = record { own = o'; first = f'; second = s'; third = t'; fourth = u' } in y)
five o f s t u o' f' s' t' u' a b c d e = cc

-- the numbers of the rows that the code takes are those of the lists
pub slices_are : (from : RowSources) (own : List ℕ) (at : Rows) (len row k : ℕ) → k < len
    → numbers_at (slice own at row len) (slice from.one from.first row len) (slice from.one from.second row len) (slice from.other from.third row len) (slice from.other from.fourth row len) k
    ≡ row_numbers from row k (get_or own (in_row at row k) 0)
slices_are from own at len row k h =
    five _ _ _ _ _ _ _ _ _ _ (row_at own at row len k h) (row_at from.one from.first row len k h) (row_at from.one from.second row len k h) (row_at from.other from.third row len k h) (row_at from.other from.fourth row len k h)

front_len : (b len : ℕ) (into : List ℕ) → b + len ≤ length into → length (take b into) ≡ b
front_len b len into hb = grind (arith, common_steps)

pub put_inside : (a k : ℕ) (into new : List ℕ) (x : ℕ) → a + k ≤ length into → length new ≡ k → x < k → get_or (put_mid a k into new) (a + x) 0 ≡ get_or new x 0
put_inside a k into new x fit long h =
    let rest = new ++ drop k (drop a into) in
    let e : a + x - a ≡ x = omega arith in
    get_or-append_right (take a into) rest a (a + x) 0 (front_len a k into fit) (omega arith)
    ∙ ap (λ (i : ℕ). get_or rest i 0) e
    ∙ get_or_append_left new (drop k (drop a into)) 0 x (omega arith)

pub put_before : (a k : ℕ) (into new : List ℕ) (n : ℕ) → a + k ≤ length into → n < a → get_or (put_mid a k into new) n 0 ≡ get_or into n 0
put_before a k into new n fit h =
    get_or_append_left (take a into) (new ++ drop k (drop a into)) 0 n (omega (arith, front_len a k into fit)) ∙ get_or-take a into n 0 h

pub put_after : (a k : ℕ) (into new : List ℕ) (n : ℕ) → a + k ≤ length into → length new ≡ k → a + k ≤ n → get_or (put_mid a k into new) n 0 ≡ get_or into n 0
put_after a k into new n fit long h =
    let e : a + (k + (n - a - k)) ≡ n = omega arith in
    get_or-append_right (take a into) (new ++ drop k (drop a into)) a n 0 (front_len a k into fit) (omega arith)
    ∙ get_or-append_right new (drop k (drop a into)) k (n - a) 0 long (omega arith)
    ∙ get_or-drop k (drop a into) (n - a - k) 0
    ∙ get_or-drop a into (k + (n - a - k)) 0
    ∙ ap (λ (i : ℕ). get_or into i 0) e

-- a row before another one ends before it
pub step_below : (row count step : ℕ) → row < count → row * step + step ≤ count * step
step_below row count step h = grind arith

row_before : (at : Rows) (len r row k : ℕ) → len ≤ at.step → r < row → k < len → in_row at r k < at.first + row * at.step
row_before at len r row k apart hr hk = omega (arith, step_below r row at.step hr)

-- the numbers of a row are none of the rows before it
pub apart_row : (at : Rows) (len row k : ℕ) → len ≤ at.step → (r x : ℕ) → r < row → x < len → in_row at row k ≢ in_row at r x
apart_row at len row k apart r x hr hx = λ e. absurd (omega (arith, row_before at len r row x apart hr hx))

-- rows are done, and all else is as it was
pub record RowsAre (gives : Numbers → ℕ) (from : RowSources) (len count : ℕ) (at : Rows) (old new : List ℕ) : Type 0 where
  pub done : RowsDone gives from len count at old new
  pub rest : RowsStay len count at old new

pub last_or_before : (r row : ℕ) → r < row + 1 → (r ≡ row) ⊎ (r < row)
last_or_before r row h = grind arith

-- one more row, which lies at a place with k numbers from there
pub one_more_row : (gives : Numbers → ℕ) (from : RowSources) (len row j : ℕ) (at : Rows) (old before new : List ℕ) → len ≤ at.step → j ≡ len → at.first + row * at.step + len ≤ length before → length new ≡ j
    → RowsAre gives from len row at old before
    → ((k : ℕ) → k < len → get_or new k 0 ≡ gives (row_numbers from row k (get_or before (in_row at row k) 0)))
    → RowsAre gives from len (row + 1) at old (put_mid (at.first + row * at.step) j before new)
one_more_row gives from len row j at old before new apart same fit long is here = record { done = done; rest = rest }
  where
    done : RowsDone gives from len (row + 1) at old (put_mid (at.first + row * at.step) j before new)
    done r k hr hk = elim (last_or_before r row hr) [
      | inl e ↦ subst (λ (v : ℕ). get_or (put_mid (at.first + row * at.step) j before new) (in_row at v k) 0 ≡ gives (row_numbers from v k (get_or old (in_row at v k) 0))) (sym e)
          (put_inside (at.first + row * at.step) j before new k (omega arith) long (omega arith)
          ∙ here k hk
          ∙ ap (λ (v : ℕ). gives (row_numbers from row k v)) (is.rest (in_row at row k) (apart_row at len row k apart)))
      | inr h ↦ put_before (at.first + row * at.step) j before new (in_row at r k) (omega arith) (row_before at len r row k apart h hk) ∙ is.done r k h hk
    ]

    rest : RowsStay len (row + 1) at old (put_mid (at.first + row * at.step) j before new)
    rest n off =
        ⊎_elim (λ (h : n < at.first + row * at.step). put_before (at.first + row * at.step) j before new n (omega arith) h)
        (λ (h : at.first + row * at.step ≤ n). ⊎_elim
        (λ (i : n < at.first + row * at.step + j). absurd (off row (n - (at.first + row * at.step)) (omega arith) (omega arith) (omega arith)))
        (λ (i : at.first + row * at.step + j ≤ n). put_after (at.first + row * at.step) j before new n (omega arith) long i)
        (cases_lt n (at.first + row * at.step + j)))
        (cases_lt n (at.first + row * at.step))
        ∙ is.rest n (λ r k hr hk. off r k (omega arith) hk)
