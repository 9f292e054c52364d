-- What every event keeps of the order of tasks and letters.
use Rattle.std.proofs.Common.{◌≡◌, ℕ, suc, ◌+◌, ◌*◌, ◌<◌, ◌≤◌, ◌==◌, Bool, true, false, cond, not, ◌&&◌, inl, inr, nat_lt, is_some, List, [], ◌∷◌, length, filter, count_by, refl, arith, ap, sym, ◌∙◌, eq-eqb}
use Rattle.std.specs.List.{list_any}
use Rattle.std.proofs.lemmas.Bool.{and_from, and_parts, cases_Bool, cases_eq, cases_lt, eqb-true, false≢true, false_from_ne_true, le-ltb, lt-ltb, ltb-true, ne_eqb}
use Rattle.cycle_rounds.specs.Plan.{IsPlan, Plan, all_tasks, is_due, round_tasks}
use Rattle.cycle_rounds.specs.Events.{Letter, State, is_for, is_of, letters}
use Rattle.cycle_rounds.specs.Protocol.{copies}
use Rattle.cycle_rounds.proofs.Lists.{count_any, count_cons, count_cons_no, count_gone, count_kept, none_if, one_if, same_if}

-- whether a letter of a round is under way, by the counts of tasks of its sender and its reader
abbrev pub on_way : ℕ → ℕ → ℕ → ℕ → Bool
on_way rounds r a b = nat_lt r rounds && (nat_lt (3 * r) a && nat_lt b (3 * r + 2))

pub record OnWay (rounds r a b : ℕ) : Type 0 where
  pub round : r < rounds
  pub sent : 3 * r < a
  pub unread : b < 3 * r + 2

pub way_is : (rounds r a b : ℕ) → on_way rounds r a b ≡ true → OnWay rounds r a b
way_is rounds r a b h =
    let x = and_parts (nat_lt r rounds) (nat_lt (3 * r) a && nat_lt b (3 * r + 2)) h in
    let y = and_parts (nat_lt (3 * r) a) (nat_lt b (3 * r + 2)) x.1 in
    record { round = ltb-true r rounds x.0; sent = ltb-true (3 * r) a y.0; unread = ltb-true b (3 * r + 2) y.1 }

pub is_way : (rounds r a b : ℕ) → r < rounds → 3 * r < a → b < 3 * r + 2 → on_way rounds r a b ≡ true
is_way rounds r a b h k l = and_from (nat_lt r rounds) (nat_lt (3 * r) a && nat_lt b (3 * r + 2)) (lt-ltb r rounds h) (and_from (nat_lt (3 * r) a) (nat_lt b (3 * r + 2)) (lt-ltb (3 * r) a k) (lt-ltb b (3 * r + 2) l))

pub no_way : (rounds r a b : ℕ) → (OnWay rounds r a b → ⊥) → on_way rounds r a b ≡ false
no_way rounds r a b h = false_from_ne_true (on_way rounds r a b) (λ e. h (way_is rounds r a b e))

pub same_way : (rounds r a b a' b' : ℕ) → (OnWay rounds r a b → (3 * r < a') × (b' < 3 * r + 2)) → (OnWay rounds r a' b' → (3 * r < a) × (b < 3 * r + 2)) → on_way rounds r a b ≡ on_way rounds r a' b'
same_way rounds r a b a' b' to from = elim (cases_Bool (on_way rounds r a b)) [
  | inl is ↦ (let w = way_is rounds r a b is in let t = to w in is ∙ sym (is_way rounds r a' b' w.round t.0 t.1))
  | inr not_so ↦ not_so ∙ sym (no_way rounds r a' b' (λ w. let t = from w in false≢true (sym not_so ∙ is_way rounds r a b w.round t.0 t.1)))
]

-- how often a letter is due in a round
abbrev pub due_count : {X : Type 0} → Plan X → ℕ → X → ℕ
due_count p r x = count_by (p.same x) (p.due r)

pub record Orderly {X L P : Type 0} (p : Plan X) (s : State X L P) : Type 0 where
  pub fits : (i : ℕ) → s.given i ≤ all_tasks p
  pub busy : (i : ℕ) → is_some (s.out i) ≡ true → s.given i < all_tasks p
  pub place : (r : ℕ) (x : X) → copies p s r x ≡ cond (on_way p.rounds r (s.given (p.from x)) (s.given (p.to x))) (due_count p r x) 0
  pub order : (r : ℕ) (x : X) → r < p.rounds → is_due p r x ≡ true → 3 * r + 2 ≤ s.given (p.to x) → 3 * r < s.given (p.from x)
  pub come : (r : ℕ) (x : X) → r < p.rounds → is_due p r x ≡ true → s.given (p.to x) ≡ 3 * r + 1 → is_some (s.out (p.to x)) ≡ true → list_any (is_of p r x) s.mail ≡ true
  pub barrier : (i j : ℕ) → round_tasks p < s.given i + cond (is_some (s.out i)) 1 0 → j < p.lists → round_tasks p ≤ s.given j
  pub numbers : (k : ℕ) → count_by (λ l. l.number == k) s.wire + count_by (λ l. l.number == k) s.mail ≤ cond (nat_lt k s.sent) 1 0

-- a letter that is somewhere is due, and under way
pub record Somewhere {X L P : Type 0} (p : Plan X) (s : State X L P) (r : ℕ) (x : X) : Type 0 where
  pub due : is_due p r x ≡ true
  pub way : OnWay p.rounds r (s.given (p.from x)) (s.given (p.to x))

somewhere_at : {X L P : Type 0} (p : Plan X) (s : State X L P) (r : ℕ) (x : X) → 1 ≤ copies p s r x → (b : Bool) → on_way p.rounds r (s.given (p.from x)) (s.given (p.to x)) ≡ b → copies p s r x ≡ cond b (due_count p r x) 0 → Somewhere p s r x
somewhere_at p s r x some true e h = record { due = count_any (p.same x) (p.due r) (omega arith); way = way_is p.rounds r (s.given (p.from x)) (s.given (p.to x)) e }
somewhere_at p s r x some false e h = absurd (omega arith)

pub somewhere : {X L P : Type 0} (p : Plan X) (s : State X L P) → Orderly p s → (r : ℕ) (x : X) → 1 ≤ copies p s r x → Somewhere p s r x
somewhere p s o r x some = somewhere_at p s r x some (on_way p.rounds r (s.given (p.from x)) (s.given (p.to x))) refl (o.place r x)

-- a letter's own test
pub own_test : {X P : Type 0} (p : Plan X) → IsPlan p → (l : Letter X P) → is_of p l.round l.of l ≡ true
own_test p plan l = and_from (l.round == l.round) (p.same l.of l.of) (eq-eqb l.round l.round refl) (plan.is_same l.of)

pub record IsOf {X P : Type 0} (r : ℕ) (x : X) (l : Letter X P) : Type 0 where
  pub round : l.round ≡ r
  pub of : x ≡ l.of

pub of_is : {X P : Type 0} (p : Plan X) → IsPlan p → (r : ℕ) (x : X) (l : Letter X P) → is_of p r x l ≡ true → IsOf r x l
of_is p plan r x l h = let a = and_parts (l.round == r) (p.same x l.of) h in record { round = eqb-true l.round r a.0; of = plan.same_is x l.of a.1 }

pub record IsFor {X P : Type 0} (p : Plan X) (r i : ℕ) (l : Letter X P) : Type 0 where
  pub round : l.round ≡ r
  pub reader : p.to l.of ≡ i

pub for_is : {X P : Type 0} (p : Plan X) (r i : ℕ) (l : Letter X P) → is_for p r i l ≡ true → IsFor p r i l
for_is p r i l h = let a = and_parts (l.round == r) (p.to l.of == i) h in record { round = eqb-true l.round r a.0; reader = eqb-true (p.to l.of) i a.1 }

pub is_for_from : {X P : Type 0} (p : Plan X) (r i : ℕ) (l : Letter X P) → l.round ≡ r → p.to l.of ≡ i → is_for p r i l ≡ true
is_for_from p r i l e f = and_from (l.round == r) (p.to l.of == i) (eq-eqb l.round r e) (eq-eqb (p.to l.of) i f)

-- a letter that the reading of another round, or of another list, leaves in the mail
pub stays : {X P : Type 0} (p : Plan X) → IsPlan p → (q i r : ℕ) (x : X) (mail : List (Letter X P)) → (r ≡ q → p.to x ≡ i → ⊥) → count_by (is_of p r x) (filter (λ l. not (is_for p q i l)) mail) ≡ count_by (is_of p r x) mail
stays {X} {P} p plan q i r x mail apart = count_kept (is_of p r x) (λ l. not (is_for p q i l)) keep mail
  where
    no : (b : Bool) → (b ≡ true → ⊥) → not b ≡ true
    no true h = absurd (h refl)
    no false h = refl

    keep : (l : Letter X P) → is_of p r x l ≡ true → not (is_for p q i l) ≡ true
    keep l h = let o = of_is p plan r x l h in no (is_for p q i l) (λ k. let f = for_is p q i l k in apart (sym o.round ∙ f.round) (ap p.to o.of ∙ f.reader))

-- the letters that are read leave the mail
pub leaves : {X P : Type 0} (p : Plan X) → IsPlan p → (r : ℕ) (x : X) (i : ℕ) (mail : List (Letter X P)) → p.to x ≡ i → count_by (is_of p r x) (filter (λ l. not (is_for p r i l)) mail) ≡ 0
leaves {X} {P} p plan r x i mail e = count_gone (is_of p r x) (λ l. not (is_for p r i l)) gone mail
  where
    gone : (l : Letter X P) → is_of p r x l ≡ true → not (is_for p r i l) ≡ false
    gone l h = let o = of_is p plan r x l h in ap not (is_for_from p r i l o.round (ap p.to (sym o.of) ∙ e))

-- the letters that a round puts on the wire
pub letters_of_round : {X P : Type 0} (p : Plan X) (k r : ℕ) (content : X → P) (xs : List X) (x : X) → count_by (is_of p r x) (letters k r content xs) ≡ count_by (p.same x) xs
letters_of_round p k r content [] x = refl
letters_of_round {X} {P} p k r content (y ∷ ys) x =
    let l : Letter X P = record { number = k; round = r; of = y; content = content y } in
    let a = count_cons (is_of p r x) l (letters (suc k) r content ys) in
    let b = count_cons (p.same x) y ys in
    let e = same_if (is_of p r x l) (p.same x y) (ap (λ (v : Bool). v && p.same x y) (eq-eqb r r refl)) in
    let again = letters_of_round p (suc k) r content ys x in
    omega arith

pub letters_of_others : {X P : Type 0} (p : Plan X) (k r : ℕ) (content : X → P) (xs : List X) (q : ℕ) (x : X) → (r ≡ q → ⊥) → count_by (is_of p q x) (letters k r content xs) ≡ 0
letters_of_others p k r content [] q x ne = refl
letters_of_others {X} {P} p k r content (y ∷ ys) q x ne =
    let l : Letter X P = record { number = k; round = r; of = y; content = content y } in
    count_cons_no (is_of p q x) l (letters (suc k) r content ys) (ap (λ (v : Bool). v && p.same x y) (ne_eqb r q ne)) ∙ letters_of_others p (suc k) r content ys q x ne

pub length_letters : {X P : Type 0} (k r : ℕ) (content : X → P) (xs : List X) → length (letters k r content xs) ≡ length xs
length_letters k r content [] = refl
length_letters k r content (x ∷ xs) = ap suc (length_letters (suc k) r content xs)

numbers_below : {X P : Type 0} (k r : ℕ) (content : X → P) (xs : List X) (j : ℕ) → j < k → count_by (λ l. l.number == j) (letters k r content xs) ≡ 0
numbers_below k r content [] j h = refl
numbers_below {X} {P} k r content (x ∷ xs) j h =
    let l : Letter X P = record { number = k; round = r; of = x; content = content x } in
    count_cons_no (λ (y : Letter X P). y.number == j) l (letters (suc k) r content xs) (ne_eqb k j (λ e. omega arith)) ∙ numbers_below (suc k) r content xs j (omega arith)

numbers_above : {X P : Type 0} (k r : ℕ) (content : X → P) (xs : List X) (j : ℕ) → k + length xs ≤ j → count_by (λ l. l.number == j) (letters k r content xs) ≡ 0
numbers_above k r content [] j h = refl
numbers_above {X} {P} k r content (x ∷ xs) j h =
    let l : Letter X P = record { number = k; round = r; of = x; content = content x } in
    count_cons_no (λ (y : Letter X P). y.number == j) l (letters (suc k) r content xs) (ne_eqb k j (λ e. omega arith)) ∙ numbers_above (suc k) r content xs j (omega arith)

numbers_once : {X P : Type 0} (k r : ℕ) (content : X → P) (xs : List X) (j : ℕ) → count_by (λ l. l.number == j) (letters k r content xs) ≤ 1
numbers_once k r content [] j = omega arith
numbers_once {X} {P} k r content (x ∷ xs) j =
    let l : Letter X P = record { number = k; round = r; of = x; content = content x } in
    let c = count_cons (λ (y : Letter X P). y.number == j) l (letters (suc k) r content xs) in
    elim (cases_eq k j) [
      | inl e ↦ (let z = numbers_below (suc k) r content xs j (omega arith) in let t = one_if (k == j) (eq-eqb k j e) in omega arith)
      | inr ne ↦ (let z = numbers_once (suc k) r content xs j in let t = none_if (k == j) (ne_eqb k j ne) in omega arith)
    ]

-- the numbers of letters stay their own when more are put on the wire
pub more_numbers : {X P : Type 0} (sent r : ℕ) (content : X → P) (xs : List X) (k a : ℕ) → a ≤ cond (nat_lt k sent) 1 0 → a + count_by (λ l. l.number == k) (letters sent r content xs) ≤ cond (nat_lt k (sent + length xs)) 1 0
more_numbers sent r content xs k a h = elim (cases_lt k sent) [
  | inl low ↦ (let z = numbers_below sent r content xs k low in let s = one_if (nat_lt k sent) (lt-ltb k sent low) in let t = one_if (nat_lt k (sent + length xs)) (lt-ltb k (sent + length xs) (omega arith)) in omega arith)
  | inr high ↦ (elim (cases_lt k (sent + length xs)) [
    | inl low ↦ (let z = numbers_once sent r content xs k in let s = none_if (nat_lt k sent) (le-ltb k sent high) in let t = one_if (nat_lt k (sent + length xs)) (lt-ltb k (sent + length xs) low) in omega arith)
    | inr past ↦ (let z = numbers_above sent r content xs k past in let s = none_if (nat_lt k sent) (le-ltb k sent high) in let t = none_if (nat_lt k (sent + length xs)) (le-ltb k (sent + length xs) past) in omega arith)
  ])
]
