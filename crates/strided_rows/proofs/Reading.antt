-- Reading a list whose rows were written.
use Rattle.std.proofs.Common.{◌≡◌, ◌⊎◌, ℕ, zero, suc, ◌+◌, ◌-◌, ◌*◌, ◌<◌, ◌≤◌, List, ◌++◌, map, take, drop, length, get_or, refl, sym, ◌∙◌, ap, subst, arith, inl, inr}
use Rattle.std.proofs.lemmas.Grind.{common_steps}
use Rattle.std.proofs.lemmas.List.{get_or_append_left, get_or-append_right, get_or-map, get_or-take, get_or-drop}
use Rattle.strided_rows.specs.declared.rows.Rows.{Rows}
use Rattle.strided_rows.specs.declared.planes.Planes.{Planes}
use Rattle.strided_rows.specs.Written.{Apart, Fits, IsOff, FitPlanes, row_written, rows_written, rows_of, planes_written}

pub length-row_written : (gives : ℕ → ℕ) (len : ℕ) (from : List ℕ) (a b : ℕ) (into : List ℕ) → a + len ≤ length from → b + len ≤ length into → length (row_written gives len from a b into) ≡ length into
length-row_written gives len from a b into ha hb = grind (arith, common_steps)

-- the row itself has its length
row_len : (gives : ℕ → ℕ) (len : ℕ) (from : List ℕ) (a : ℕ) → a + len ≤ length from → length (map gives (take len (drop a from))) ≡ len
row_len gives len from a ha = grind (arith, common_steps)

front_len : (b len : ℕ) (into : List ℕ) → b + len ≤ length into → length (take b into) ≡ b
front_len b len into hb = grind (arith, common_steps)

row_source_len : (len : ℕ) (from : List ℕ) (a : ℕ) → a + len ≤ length from → length (take len (drop a from)) ≡ len
row_source_len len from a ha = grind (arith, common_steps)

-- a number of the row is what the other row's gives
pub row-inside : (gives : ℕ → ℕ) (len : ℕ) (from : List ℕ) (a b : ℕ) (into : List ℕ) (x : ℕ) → a + len ≤ length from → b + len ≤ length into → x < len → get_or (row_written gives len from a b into) (b + x) 0 ≡ gives (get_or from (a + x) 0)
row-inside gives len from a b into x ha hb hx =
    let source = take len (drop a from) in
    let rest = map gives source ++ drop len (drop b into) in
    let e : b + x - b ≡ x = omega arith in
    get_or-append_right (take b into) rest b (b + x) 0 (front_len b len into hb) (omega arith)
    ∙ ap (λ (i : ℕ). get_or rest i 0) e
    ∙ get_or_append_left (map gives source) (drop len (drop b into)) 0 x (omega (arith, row_len gives len from a ha))
    ∙ get_or-map gives source x 0 0 (omega (arith, row_source_len len from a ha))
    ∙ ap gives (get_or-take len (drop a from) x 0 hx ∙ get_or-drop a from x 0)

-- and each other number is as it was
pub row-before : (gives : ℕ → ℕ) (len : ℕ) (from : List ℕ) (a b : ℕ) (into : List ℕ) (n : ℕ) → a + len ≤ length from → b + len ≤ length into → n < b → get_or (row_written gives len from a b into) n 0 ≡ get_or into n 0
row-before gives len from a b into n ha hb hn =
    get_or_append_left (take b into) (map gives (take len (drop a from)) ++ drop len (drop b into)) 0 n (omega (arith, front_len b len into hb))
    ∙ get_or-take b into n 0 hn

pub row-after : (gives : ℕ → ℕ) (len : ℕ) (from : List ℕ) (a b : ℕ) (into : List ℕ) (n : ℕ) → a + len ≤ length from → b + len ≤ length into → b + len ≤ n → get_or (row_written gives len from a b into) n 0 ≡ get_or into n 0
row-after gives len from a b into n ha hb hn =
    let row = map gives (take len (drop a from)) in
    let e : b + (len + (n - b - len)) ≡ n = omega arith in
    get_or-append_right (take b into) (row ++ drop len (drop b into)) b n 0 (front_len b len into hb) (omega arith)
    ∙ get_or-append_right row (drop len (drop b into)) len (n - b) 0 (row_len gives len from a ha) (omega arith)
    ∙ get_or-drop len (drop b into) (n - b - len) 0
    ∙ get_or-drop b into (len + (n - b - len)) 0
    ∙ ap (λ (i : ℕ). get_or into i 0) e

pub row-outside : (gives : ℕ → ℕ) (len : ℕ) (from : List ℕ) (a b : ℕ) (into : List ℕ) (n : ℕ) → a + len ≤ length from → b + len ≤ length into → IsOff n b len → get_or (row_written gives len from a b into) n 0 ≡ get_or into n 0
row-outside gives len from a b into n ha hb off =
    elim off [ inl h ↦ row-before gives len from a b into n ha hb h | inr h ↦ row-after gives len from a b into n ha hb h ]

-- earlier rows fit where one more does
fewer : (len count : ℕ) (rows : Rows) (n : ℕ) → Fits len (suc count) rows n → Fits len count rows n
fewer len count rows n fit = λ row h. fit row (omega arith)

pub length-rows_written : (gives : ℕ → ℕ) (len : ℕ) (from : List ℕ) (a b : Rows) (count : ℕ) (into : List ℕ) → Fits len count a (length from) → Fits len count b (length into) → length (rows_written gives len from a b count into) ≡ length into
length-rows_written gives len from a b zero into fa fb = refl
length-rows_written gives len from a b (suc count) into fa fb =
    let known = length-rows_written gives len from a b count into (fewer len count a (length from) fa) (fewer len count b (length into) fb) in
    length-row_written gives len from (a.first + count * a.step) (b.first + count * b.step) (rows_written gives len from a b count into) (fa count (omega arith)) (omega (arith, fb count (omega arith), known)) ∙ known

-- whole steps: a row before another one ends before it
step_below : (row count step : ℕ) → row < count → row * step + step ≤ count * step
step_below row count step h = grind arith

pub rows-outside : (gives : ℕ → ℕ) (len : ℕ) (from : List ℕ) (a b : Rows) (count : ℕ) (into : List ℕ) (n : ℕ) → Fits len count a (length from) → Fits len count b (length into)
    → ((row : ℕ) → row < count → IsOff n (b.first + row * b.step) len) → get_or (rows_written gives len from a b count into) n 0 ≡ get_or into n 0
rows-outside gives len from a b zero into n fa fb off = refl
rows-outside gives len from a b (suc count) into n fa fb off =
    let ga = fewer len count a (length from) fa in
    let gb = fewer len count b (length into) fb in
    let known = length-rows_written gives len from a b count into ga gb in
    row-outside gives len from (a.first + count * a.step) (b.first + count * b.step) (rows_written gives len from a b count into) n (fa count (omega arith)) (omega (arith, fb count (omega arith), known)) (off count (omega arith))
    ∙ rows-outside gives len from a b count into n ga gb (λ row h. off row (omega arith))

-- the last row, or one before it
last_or_before : (row count : ℕ) → row < suc count → (row ≡ count) ⊎ (row < count)
last_or_before row count h = grind arith

pub rows-inside : (gives : ℕ → ℕ) (len : ℕ) (from : List ℕ) (a b : Rows) (count : ℕ) (into : List ℕ) (row x : ℕ) → Fits len count a (length from) → Fits len count b (length into) → len ≤ b.step → row < count → x < len
    → get_or (rows_written gives len from a b count into) (b.first + row * b.step + x) 0 ≡ gives (get_or from (a.first + row * a.step + x) 0)
rows-inside gives len from a b zero into row x fa fb wide hr hx = absurd (omega arith)
rows-inside gives len from a b (suc count) into row x fa fb wide hr hx =
    let ga = fewer len count a (length from) fa in
    let gb = fewer len count b (length into) fb in
    let known = length-rows_written gives len from a b count into ga gb in
    let here = fa count (omega arith) in
    let there : b.first + count * b.step + len ≤ length (rows_written gives len from a b count into) = omega (arith, fb count (omega arith), known) in
    elim (last_or_before row count hr) [
      | inl e ↦ subst (λ (r : ℕ). get_or (rows_written gives len from a b (suc count) into) (b.first + r * b.step + x) 0 ≡ gives (get_or from (a.first + r * a.step + x) 0)) (sym e)
          (row-inside gives len from (a.first + count * a.step) (b.first + count * b.step) (rows_written gives len from a b count into) x here there hx)
      | inr h ↦ row-before gives len from (a.first + count * a.step) (b.first + count * b.step) (rows_written gives len from a b count into) (b.first + row * b.step + x) here there (omega (arith, step_below row count b.step h))
          ∙ rows-inside gives len from a b count into row x ga gb wide h hx
    ]

-- the rows of each plane fit
plane_fits : (len count planes : ℕ) (all : Planes) (n plane : ℕ) → FitPlanes len count planes all n → plane < planes → Fits len count (rows_of all plane) n
plane_fits len count planes all n plane fit h = λ row hr. fit plane row h hr

fewer_planes : (len count planes : ℕ) (all : Planes) (n : ℕ) → FitPlanes len count (suc planes) all n → FitPlanes len count planes all n
fewer_planes len count planes all n fit = λ plane row h hr. fit plane row (omega arith) hr

pub length-planes_written : (gives : ℕ → ℕ) (len count : ℕ) (from : List ℕ) (a b : Planes) (planes : ℕ) (into : List ℕ) → FitPlanes len count planes a (length from) → FitPlanes len count planes b (length into)
    → length (planes_written gives len count from a b planes into) ≡ length into
length-planes_written gives len count from a b zero into fa fb = refl
length-planes_written gives len count from a b (suc planes) into fa fb =
    let known = length-planes_written gives len count from a b planes into (fewer_planes len count planes a (length from) fa) (fewer_planes len count planes b (length into) fb) in
    length-rows_written gives len from (rows_of a planes) (rows_of b planes) count (planes_written gives len count from a b planes into)
    (λ row hr. fa planes row (omega arith) hr) (λ row hr. omega (arith, fb planes row (omega arith) hr, known)) ∙ known

pub planes-outside : (gives : ℕ → ℕ) (len count : ℕ) (from : List ℕ) (a b : Planes) (planes : ℕ) (into : List ℕ) (n : ℕ) → FitPlanes len count planes a (length from) → FitPlanes len count planes b (length into)
    → ((plane row : ℕ) → plane < planes → row < count → IsOff n (b.first + plane * b.plane + row * b.step) len) → get_or (planes_written gives len count from a b planes into) n 0 ≡ get_or into n 0
planes-outside gives len count from a b zero into n fa fb off = refl
planes-outside gives len count from a b (suc planes) into n fa fb off =
    let ga = fewer_planes len count planes a (length from) fa in
    let gb = fewer_planes len count planes b (length into) fb in
    let known = length-planes_written gives len count from a b planes into ga gb in
    rows-outside gives len from (rows_of a planes) (rows_of b planes) count (planes_written gives len count from a b planes into) n
    (λ row hr. fa planes row (omega arith) hr) (λ row hr. omega (arith, fb planes row (omega arith) hr, known)) (λ row hr. off planes row (omega arith) hr)
    ∙ planes-outside gives len count from a b planes into n ga gb (λ plane row h hr. off plane row (omega arith) hr)

-- a row of an earlier plane ends before a later plane
row_in_plane : (row count step : ℕ) → row < count → row * step + step ≤ count * step
row_in_plane row count step h = grind arith

pub planes-inside : (gives : ℕ → ℕ) (len count : ℕ) (from : List ℕ) (a b : Planes) (planes : ℕ) (into : List ℕ) (plane row x : ℕ) → FitPlanes len count planes a (length from) → FitPlanes len count planes b (length into)
    → Apart len count b → plane < planes → row < count → x < len
    → get_or (planes_written gives len count from a b planes into) (b.first + plane * b.plane + row * b.step + x) 0 ≡ gives (get_or from (a.first + plane * a.plane + row * a.step + x) 0)
planes-inside gives len count from a b zero into plane row x fa fb apart hp hr hx = absurd (omega arith)
planes-inside gives len count from a b (suc planes) into plane row x fa fb apart hp hr hx =
    let ga = fewer_planes len count planes a (length from) fa in
    let gb = fewer_planes len count planes b (length into) fb in
    let before = planes_written gives len count from a b planes into in
    let known = length-planes_written gives len count from a b planes into ga gb in
    let here : Fits len count (rows_of a planes) (length from) = λ r h. fa planes r (omega arith) h in
    let there : Fits len count (rows_of b planes) (length before) = λ r h. omega (arith, fb planes r (omega arith) h, known) in
    elim (last_or_before plane planes hp) [
      | inl e ↦ subst (λ (p : ℕ). get_or (planes_written gives len count from a b (suc planes) into) (b.first + p * b.plane + row * b.step + x) 0 ≡ gives (get_or from (a.first + p * a.plane + row * a.step + x) 0)) (sym e)
          (rows-inside gives len from (rows_of a planes) (rows_of b planes) count before row x here there apart.rows hr hx)
      | inr h ↦ rows-outside gives len from (rows_of a planes) (rows_of b planes) count before (b.first + plane * b.plane + row * b.step + x) here there
          (λ r k. inl (omega (arith, step_below plane planes b.plane h, row_in_plane row count b.step hr, apart.rows, apart.planes)))
          ∙ planes-inside gives len count from a b planes into plane row x ga gb apart h hr hx
    ]
