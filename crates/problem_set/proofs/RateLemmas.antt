-- Rates and sums.
use Rattle.std.proofs.Common.{nat_le, nat_eq, ◌⊎◌, inl, inr, ◌≡◌, ◌≤◌, ◌+◌, ◌*◌, ◌^◌, ◌++◌, ◌∷◌, [], ℕ, zero, suc, Bool, true, false, cond, List, length, slice_get, take, drop, Some, Ok, Err, refl, sym, ap, ◌∙◌, subst, arith, All}
use Rattle.std.specs.List.{sum_by, range_with_len, zip}
use Rattle.std.proofs.Math.Nat.{mul-le-mul, mul-le-mul_left, mul_comm, mul_assoc, mul_right_comm, pow-le-pow_right}
use Rattle.std.proofs.lemmas.List.{drop_all}
use Rattle.std.proofs.lemmas.List.Sums.{sum_by-append}
use Rattle.std.proofs.lemmas.List.Elements.{All-head, All-tail, All-cons, All-nil}
use Rattle.std.proofs.lemmas.Bool.Decides.{nat_tests}
use Rattle.mesh_num.specs.Rate.{rate}
use Rattle.package_fields.specs.declared.field.Field.{Field}
use Rattle.deck_entries.specs.declared.entries.Moves.{Moves}
use Rattle.deck_values.specs.declared.fault.ProblemFault.{ProblemFault}
use Rattle.deck_values.specs.declared.fault.ProblemFault.TheVariants.{Rates, NoMemory}
use Rattle.problem_set.specs.Rates.{rate_sum}
use Rattle.problem_set.specs.Fitting.{sum_fits, rates_fit}
use Rattle.problem_set.specs.SoundProblem.{IsFittingSum}

true-to_le : {m n : ℕ} → nat_le m n ≡ true → m ≤ n
true-to_le {m} {n} h = grind (arith, nat_tests)

-- a rate of numbers of at most a milliard
pub rate_at_most : (v k level : ℕ) → v ≤ 1000000000 → k ≤ 1000000000 → level ≤ 10 → rate v k level ≤ 2000000000000000
rate_at_most v k level hv hk hl =
    let two : 2 ^ level ≤ 1024 = pow-le-pow_right (omega arith) hl in
    let four : 4 ^ level ≤ 1048576 = pow-le-pow_right (omega arith) hl in
    let a : v * 2 ^ level ≤ 1000000000 * 1024 = mul-le-mul hv two in
    let b : k * 4 ^ level ≤ 1000000000 * 1048576 = mul-le-mul hk four in
    omega arith

range_suc : (n a : ℕ) → range_with_len a (suc n) ≡ range_with_len a n ++ (a + n) ∷ []
range_suc zero a = let e : a + 0 ≡ a = omega arith in rw e refl
range_suc (suc n) a =
    let e : a + 1 + n ≡ a + suc n = omega arith in
    ap (λ (l : List ℕ). a ∷ l) (range_suc n (a + 1)) ∙ ap (λ (m : ℕ). a ∷ (range_with_len (a + 1) n ++ m ∷ [])) e

-- one more number in a sum
pub sum_range_more : (g : ℕ → ℕ) (n : ℕ) → sum_by g (range_with_len 0 (n + 1)) ≡ sum_by g (range_with_len 0 n) + g n
sum_range_more g n =
    let q : n + 1 ≡ suc n = omega arith in
    let z : 0 + n ≡ n = omega arith in
    let o : sum_by g (n ∷ []) ≡ g n = omega arith in
    ap (λ (m : ℕ). sum_by g (range_with_len 0 m)) q
    ∙ ap (sum_by g) (range_suc n 0 ∙ ap (λ (m : ℕ). range_with_len 0 n ++ m ∷ []) z)
    ∙ sum_by-append g (range_with_len 0 n) (n ∷ [])
    ∙ ap (λ (m : ℕ). sum_by g (range_with_len 0 n) + m) o

-- two lists side by side, at a place of both
zip_get : {A : Type 0} {B : Type 0} (xs : List A) (ys : List B) (i : ℕ) (x : A) (y : B) → slice_get xs i ≡ Some x → slice_get ys i ≡ Some y → slice_get (zip xs ys) i ≡ Some (x, y)
zip_get [] ys i x y a b = cc
zip_get (z ∷ xs) [] i x y a b = cc
zip_get (z ∷ xs) (w ∷ ys) zero x y a b = let e : z ≡ x = cc in let f : w ≡ y = cc in rw (e, f)
zip_get (z ∷ xs) (w ∷ ys) (suc i) x y a b = zip_get xs ys i x y a b

-- what is left from a place on
pub drop_get : {A : Type 0} (xs : List A) (i : ℕ) (x : A) → slice_get xs i ≡ Some x → drop i xs ≡ x ∷ drop (suc i) xs
drop_get [] i x e = cc
drop_get (z ∷ xs) zero x e = let f : z ≡ x = cc in rw f
drop_get (z ∷ xs) (suc i) x e = drop_get xs i x e

-- what is there up to a place
take_get : {A : Type 0} (xs : List A) (i : ℕ) (x : A) → slice_get xs i ≡ Some x → take (suc i) xs ≡ take i xs ++ x ∷ []
take_get [] i x e = cc
take_get (z ∷ xs) zero x e = let f : z ≡ x = cc in rw f
take_get (z ∷ xs) (suc i) x e = ap (λ l. z ∷ l) (take_get xs i x e)

-- what holds of all holds at a place
pub All-at_get : {A : Type 0} (P : A → Type 0) (xs : List A) (i : ℕ) (x : A) → All P xs → slice_get xs i ≡ Some x → P x
All-at_get P [] i x s e = let no : ⊥ = cc in absurd no
All-at_get P (z ∷ xs) zero x s e = let f : z ≡ x = cc in subst P f (All-head P z xs s)
All-at_get P (z ∷ xs) (suc i) x s e = All-at_get P xs i x (All-tail P z xs s) e

-- one more pair in a sum
pub sum_zip_more : {A : Type 0} {B : Type 0} (g : A × B → ℕ) (xs : List A) (ys : List B) (i : ℕ) (x : A) (y : B) → slice_get xs i ≡ Some x → slice_get ys i ≡ Some y → sum_by g (take (i + 1) (zip xs ys)) ≡ sum_by g (take i (zip xs ys)) + g (x, y)
sum_zip_more g xs ys i x y a b =
    let q : i + 1 ≡ suc i = omega arith in
    let o : sum_by g ((x, y) ∷ []) ≡ g (x, y) = omega arith in
    ap (λ (m : ℕ). sum_by g (take m (zip xs ys))) q
    ∙ ap (sum_by g) (take_get (zip xs ys) i (x, y) (zip_get xs ys i x y a b))
    ∙ sum_by-append g (take i (zip xs ys)) ((x, y) ∷ [])
    ∙ ap (λ (m : ℕ). sum_by g (take i (zip xs ys)) + m) o

-- one more item in a sum
pub sum_more : {A : Type 0} (g : A → ℕ) (xs : List A) (i : ℕ) (x : A) → slice_get xs i ≡ Some x → sum_by g (take (i + 1) xs) ≡ sum_by g (take i xs) + g x
sum_more g xs i x a =
    let q : i + 1 ≡ suc i = omega arith in
    let o : sum_by g (x ∷ []) ≡ g x = omega arith in
    ap (λ (m : ℕ). sum_by g (take m xs)) q
    ∙ ap (sum_by g) (take_get xs i x a)
    ∙ sum_by-append g (take i xs) (x ∷ [])
    ∙ ap (λ (m : ℕ). sum_by g (take i xs) + m) o

pub length-zip : {A : Type 0} {B : Type 0} (xs : List A) (ys : List B) → length ys ≡ length xs → length (zip xs ys) ≡ length xs
length-zip [] ys e = refl
length-zip (x ∷ xs) [] e = e
length-zip (x ∷ xs) (y ∷ ys) e = let f : length ys ≡ length xs = omega arith in ap suc (length-zip xs ys f)

-- the rates of the fields before a place fit, and what is left says the rest
pub record FitTo (dims level denominator : ℕ) (fields : List Field) (moves : List Moves) (i : ℕ) : Type 0 where
  pub rest : rates_fit dims level denominator (zip fields moves) ≡ rates_fit dims level denominator (drop i (zip fields moves))

fit_cond : (b : Bool) (dims level denominator : ℕ) (p : Field × Moves) (ps : List (Field × Moves)) → sum_fits p.1.order (rate_sum dims level p.0 p.1) denominator ≡ b → rates_fit dims level denominator (p ∷ ps) ≡ cond b (rates_fit dims level denominator ps) (Err (Rates p.0.label (rate_sum dims level p.0 p.1)))
fit_cond b dims level denominator p ps e = ap (λ (t : Bool). cond t (rates_fit dims level denominator ps) (Err (Rates p.0.label (rate_sum dims level p.0 p.1)))) e

-- one more field fits
pub fit_more : (dims level denominator : ℕ) (fields : List Field) (moves : List Moves) (i : ℕ) (f : Field) (m : Moves) → FitTo dims level denominator fields moves i → slice_get fields i ≡ Some f → slice_get moves i ≡ Some m → sum_fits m.order (rate_sum dims level f m) denominator ≡ true → FitTo dims level denominator fields moves (i + 1)
fit_more dims level denominator fields moves i f m s a b t =
    let q : i + 1 ≡ suc i = omega arith in
    record { rest = s.rest ∙ ap (rates_fit dims level denominator) (drop_get (zip fields moves) i (f, m) (zip_get fields moves i f m a b)) ∙ fit_cond true dims level denominator (f, m) (drop (suc i) (zip fields moves)) t ∙ ap (λ (k : ℕ). rates_fit dims level denominator (drop k (zip fields moves))) (sym q) }

-- a field that does not fit is the fault
pub fit_stop : (dims level denominator : ℕ) (fields : List Field) (moves : List Moves) (i : ℕ) (f : Field) (m : Moves) → FitTo dims level denominator fields moves i → slice_get fields i ≡ Some f → slice_get moves i ≡ Some m → sum_fits m.order (rate_sum dims level f m) denominator ≡ false → rates_fit dims level denominator (zip fields moves) ≡ Err (Rates f.label (rate_sum dims level f m))
fit_stop dims level denominator fields moves i f m s a b t =
    s.rest ∙ ap (rates_fit dims level denominator) (drop_get (zip fields moves) i (f, m) (zip_get fields moves i f m a b)) ∙ fit_cond false dims level denominator (f, m) (drop (suc i) (zip fields moves)) t

-- the same of what a test of the field answered
pub fit_answer : (dims level denominator : ℕ) (fields : List Field) (moves : List Moves) (i : ℕ) (f : Field) (m : Moves) (fault : ProblemFault) → FitTo dims level denominator fields moves i → slice_get fields i ≡ Some f → slice_get moves i ≡ Some m → (fault ≡ NoMemory) ⊎ ((sum_fits m.order (rate_sum dims level f m) denominator ≡ false) × (fault ≡ Rates f.label (rate_sum dims level f m))) → (fault ≡ NoMemory) ⊎ (rates_fit dims level denominator (zip fields moves) ≡ Err fault)
fit_answer dims level denominator fields moves i f m fault s a b (inl h) = inl h
fit_answer dims level denominator fields moves i f m fault s a b (inr h) = inr (fit_stop dims level denominator fields moves i f m s a b h.0 ∙ ap (λ (x : ProblemFault). Err x) (sym h.1))

-- all fields fit
pub fit_all : (dims level denominator : ℕ) (fields : List Field) (moves : List Moves) (i : ℕ) → FitTo dims level denominator fields moves i → length moves ≡ length fields → length fields ≤ i → rates_fit dims level denominator (zip fields moves) ≡ Ok tt
fit_all dims level denominator fields moves i s e le =
    let l = length-zip fields moves e in
    s.rest ∙ ap (rates_fit dims level denominator) (drop_all i (zip fields moves) (omega arith))

-- a sum that fits by its test
fitting_from : (order sum denominator : ℕ) → sum_fits order sum denominator ≡ true → IsFittingSum order sum denominator
fitting_from order sum denominator t = by (nat_eq order 2) refl t where
  by : (two : Bool) → nat_eq order 2 ≡ two → cond two (nat_le (3 * sum) (2 * denominator)) (nat_le sum denominator) ≡ true → IsFittingSum order sum denominator
  by true is h = let le : 3 * sum ≤ 2 * denominator = true-to_le h in record { once = omega arith; second = λ e. le }
  by false is h = record { once = true-to_le h; second = λ e. let no : ⊥ = grind (arith, nat_tests) in absurd no }

-- what is said of the rates of a field
abbrev Fits : ℕ → ℕ → ℕ → Field × Moves → Type 0
Fits dims level denominator p = IsFittingSum p.1.order (rate_sum dims level p.0 p.1) denominator

fit_cases : (b : Bool) (dims level denominator : ℕ) (p : Field × Moves) (ps : List (Field × Moves)) → sum_fits p.1.order (rate_sum dims level p.0 p.1) denominator ≡ b → rates_fit dims level denominator (p ∷ ps) ≡ Ok tt → (rates_fit dims level denominator ps ≡ Ok tt → All (Fits dims level denominator) ps) → All (Fits dims level denominator) (p ∷ ps)
fit_cases true dims level denominator p ps t e next =
    All-cons (Fits dims level denominator) p ps (fitting_from p.1.order (rate_sum dims level p.0 p.1) denominator t) (next (sym (fit_cond true dims level denominator p ps t) ∙ e))
fit_cases false dims level denominator p ps t e next =
    let bad : Err (Rates p.0.label (rate_sum dims level p.0 p.1)) ≡ Ok tt = sym (fit_cond false dims level denominator p ps t) ∙ e in
    let no : ⊥ = cc in absurd no

-- where nothing is found, the rates of all fields fit
pub fit_means : (dims level denominator : ℕ) (ps : List (Field × Moves)) → rates_fit dims level denominator ps ≡ Ok tt → All (λ (p : Field × Moves). IsFittingSum p.1.order (rate_sum dims level p.0 p.1) denominator) ps
fit_means dims level denominator [] e = All-nil _
fit_means dims level denominator (p ∷ ps) e = fit_cases (sum_fits p.1.order (rate_sum dims level p.0 p.1) denominator) dims level denominator p ps refl e (fit_means dims level denominator ps)

-- three lengths within the cells of a mesh, and an amount
pub box_at_most : (a b c d x y z : ℕ) → a ≤ x → b ≤ y → c ≤ z → x * y * z ≤ 2 ^ 34 → d ≤ 4611686018427387903 → a * b * c * d ≤ 2 ^ 96
box_at_most a b c d x y z ha hb hc few hd =
    let ab : a * b ≤ x * y = mul-le-mul ha hb in
    let abc : a * b * c ≤ x * y * z = mul-le-mul ab hc in
    let most : a * b * c ≤ 2 ^ 34 = omega (arith, abc, few) in
    let abcd : a * b * c * d ≤ 2 ^ 34 * 4611686018427387903 = mul-le-mul most hd in
    omega arith

-- each product of two of three factors is at most the product of all
pub two_of_three : (a b c n : ℕ) → 1 ≤ a → 1 ≤ b → 1 ≤ c → a * b * c ≤ n → (a * b ≤ n) × (a * c ≤ n) × (b * c ≤ n)
two_of_three a b c n la lb lc le =
    let ab : a * b * 1 ≤ a * b * c = mul-le-mul_left (a * b) lc in
    let ac : a * c * 1 ≤ a * c * b = mul-le-mul_left (a * c) lb in
    let bc : b * c * 1 ≤ b * c * a = mul-le-mul_left (b * c) la in
    let acb : a * c * b ≡ a * b * c = mul_right_comm a c b in
    let bca : b * c * a ≡ a * b * c = mul_comm (b * c) a ∙ sym (mul_assoc a b c) in
    (omega arith, omega arith, omega arith)

-- an amount for each cell behind a face
pub face_at_most : (w cells : ℕ) → w ≤ 4611686018427387903 → cells ≤ 2 ^ 34 → w * cells ≤ 2 ^ 96
face_at_most w cells hw hc =
    let p : w * cells ≤ 4611686018427387903 * 2 ^ 34 = mul-le-mul hw hc in
    omega arith
