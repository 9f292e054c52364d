-- The test of a list, in the words of the code, and the counts that answer for all lists.
use Rattle.std.proofs.Common.{◌≡◌, ◌∙◌, sym, ap, refl, inl, inr, ℕ, zero, suc, ◌+◌, ◌/◌, ◌<◌, ◌==◌, Bool, true, false, cond, not, ◌&&◌, nat_lt, nat_le, Option, Some, is_some, List, [], ◌∷◌, length, map, slice_index_or, slice_set, count_by, arith}
use Rattle.std.proofs.lemmas.List.{length-set}
use Rattle.std.specs.List.{list_all}
use Rattle.std.proofs.Math.ListN.{get_or-map}
use Rattle.std.proofs.lemmas.Bool.{and_parts, cases_Bool, eq-eqb, eqb-true, ltb-true, ne_eqb, not-true, true≢false}
use Rattle.std.proofs.lemmas.List.Sums.{count_by-le-length, sum_by-cons, sum_by-set}
use Rattle.cycle_tables.specs.declared.letter.Letter.{Letter}
use Rattle.cycle_tables.specs.declared.list_state.ListState.{ListState}
use Rattle.cycle_tables.specs.Letters.{Box}
use Rattle.cycle_tables.specs.Tables.{all_tasks, can_start, letters_at, may_take, no_list, round_tasks}
use Rattle.cycle_tables.specs.Inside.{box_of, come_in, empty_box, letters_in, protocol_of}

-- the letters of a mailbox
pub letters_are : {T : Type 0} (mail : List (List (Box T))) (i r : ℕ) → letters_at (map letters_in mail) i r ≡ (box_of mail i r).letters
letters_are {T} mail i r =
    ap (λ (row : List (List (Letter T))). slice_index_or row r []) (get_or-map (letters_in {T = T}) mail i [])
    ∙ get_or-map (λ (b : Box T). b.letters) (slice_index_or mail i []) r empty_box

-- whether all lists are past the barrier
abbrev pub are_over : ℕ → List ListState → Bool
are_over rounds lists = list_all (λ (l : ListState). nat_le (round_tasks rounds) l.given) lists

abbrev pub over_count : ℕ → List ListState → ℕ
over_count rounds lists = count_by (λ (l : ListState). nat_le (round_tasks rounds) l.given) lists

-- the test of a list
abbrev pub test_of : {T : Type 0} → ℕ → ℕ → ℕ → ℕ → Bool → ListState → List (Box T) → Bool
test_of rounds tail i n past l row = nat_lt i n && can_start rounds tail past l (come_in row l.given)

pub may_take_is : {T : Type 0} (rounds tail : ℕ) (lists : List ListState) (posts : List (Option (Letter T))) (mail : List (List (Box T))) (i : ℕ) →
    may_take (protocol_of rounds tail lists posts mail) i ≡ test_of rounds tail i (length lists) (are_over rounds lists) (slice_index_or lists i no_list) (slice_index_or mail i [])
may_take_is {T} rounds tail lists posts mail i =
    let l = slice_index_or lists i no_list in
    ap (λ (ls : List (Letter T)). nat_lt i (length lists) && can_start rounds tail (are_over rounds lists) l (length ls)) (letters_are mail i (l.given / 3))

-- a list that an event leaves as it is
pub same_test : {T : Type 0} (rounds tail : ℕ) (lists lists' : List ListState) (posts posts' : List (Option (Letter T))) (mail mail' : List (List (Box T))) (i : ℕ) →
    length lists' ≡ length lists → are_over rounds lists' ≡ are_over rounds lists → slice_index_or lists' i no_list ≡ slice_index_or lists i no_list → slice_index_or mail' i [] ≡ slice_index_or mail i [] →
    may_take (protocol_of rounds tail lists' posts' mail') i ≡ may_take (protocol_of rounds tail lists posts mail) i
same_test {T} rounds tail lists lists' posts posts' mail mail' i n past state row =
    may_take_is rounds tail lists' posts' mail' i
    ∙ ap (λ k. test_of rounds tail i k (are_over rounds lists') (slice_index_or lists' i no_list) (slice_index_or mail' i [])) n
    ∙ ap (λ b. test_of rounds tail i (length lists) b (slice_index_or lists' i no_list) (slice_index_or mail' i [])) past
    ∙ ap (λ l. test_of rounds tail i (length lists) (are_over rounds lists) l (slice_index_or mail' i [])) state
    ∙ ap (λ (boxes : List (Box T)). test_of rounds tail i (length lists) (are_over rounds lists) (slice_index_or lists i no_list) boxes) row
    ∙ sym (may_take_is rounds tail lists posts mail i)

-- what a Take needs
pub record CanTake (rounds tail : ℕ) (lists : List ListState) (i : ℕ) : Type 0 where
  pub list : i < length lists
  pub free : is_some (slice_index_or lists i no_list).out ≡ false
  pub more : (slice_index_or lists i no_list).given < all_tasks rounds tail

pub can_take : {T : Type 0} (rounds tail : ℕ) (lists : List ListState) (posts : List (Option (Letter T))) (mail : List (List (Box T))) (i : ℕ) → may_take (protocol_of rounds tail lists posts mail) i ≡ true → CanTake rounds tail lists i
can_take rounds tail lists posts mail i h =
    let l = slice_index_or lists i no_list in
    let a = and_parts (nat_lt i (length lists)) (can_start rounds tail (are_over rounds lists) l (length (letters_at (map letters_in mail) i (l.given / 3)))) h in
    record { list = ltb-true i (length lists) a.0; free = free l (length (letters_at (map letters_in mail) i (l.given / 3))) a.1; more = more l (length (letters_at (map letters_in mail) i (l.given / 3))) a.1 }
  where
    free : (l : ListState) (come : ℕ) → can_start rounds tail (are_over rounds lists) l come ≡ true → is_some l.out ≡ false
    free l come k = not-true (is_some l.out) (and_parts (not (is_some l.out)) _ k).0

    more : (l : ListState) (come : ℕ) → can_start rounds tail (are_over rounds lists) l come ≡ true → l.given < all_tasks rounds tail
    more l come k = ltb-true l.given (all_tasks rounds tail) (and_parts (nat_lt l.given (all_tasks rounds tail)) _ (and_parts (not (is_some l.out)) _ k).1).0

-- a count of lists, once one of them changed
pub count_set : {X : Type 0} (q : X → Bool) (xs : List X) (i : ℕ) (y d : X) → i < length xs → count_by q (slice_set xs i y) + cond (q (slice_index_or xs i d)) 1 0 ≡ count_by q xs + cond (q y) 1 0
count_set q xs i y d h = sum_by-set (λ x. cond (q x) 1 0) xs i y d h

pub count_same : {X : Type 0} (q : X → Bool) (xs : List X) (i : ℕ) (y d : X) → i < length xs → q y ≡ q (slice_index_or xs i d) → count_by q (slice_set xs i y) ≡ count_by q xs
count_same {X} q xs i y d h e =
    let a = count_set q xs i y d h in
    let b : ◌≡◌ {A = ℕ} (cond (q y) 1 0) (cond (q (slice_index_or xs i d)) 1 0) = ap (λ (v : Bool). cond v 1 0) e in
    omega arith

-- all pass exactly where as many pass as there are
pub all_by_count : {X : Type 0} (q : X → Bool) (xs : List X) → list_all q xs ≡ (count_by q xs == length xs)
all_by_count {X} q [] = refl
all_by_count {X} q (x ∷ xs) = by (all_by_count q xs) (q x) refl
  where
    more : count_by q (x ∷ xs) ≡ cond (q x) 1 0 + count_by q xs
    more = sum_by-cons (λ y. cond (q y) 1 0) x xs

    equal : (a b c d : ℕ) → c ≡ a + 1 → d ≡ b + 1 → (a == b) ≡ (c == d)
    equal a b c d e f = elim (cases_Bool (a == b)) [
      | inl yes_so ↦ yes_so ∙ sym (eq-eqb c d (let s = eqb-true a b yes_so in omega arith))
      | inr no_so ↦ no_so ∙ sym (ne_eqb c d (λ s. true≢false (sym (eq-eqb a b (omega arith)) ∙ no_so)))
    ]

    by : list_all q xs ≡ (count_by q xs == length xs) → (b : Bool) → q x ≡ b → (b && list_all q xs) ≡ (count_by q (x ∷ xs) == suc (length xs))
    by again true e = again ∙ equal (count_by q xs) (length xs) (count_by q (x ∷ xs)) (suc (length xs)) (let c : ◌≡◌ {A = ℕ} (cond (q x) 1 0) 1 = ap (λ (v : Bool). cond v 1 0) e in let m = more in omega arith) (omega arith)
    by again false e = sym (ne_eqb (count_by q (x ∷ xs)) (suc (length xs)) (λ same. let c : ◌≡◌ {A = ℕ} (cond (q x) 1 0) 0 = ap (λ (v : Bool). cond v 1 0) e in let m = more in let l = count_by-le-length q xs in omega arith))

pub all_same : {X : Type 0} (q : X → Bool) (xs : List X) (i : ℕ) (y d : X) → q y ≡ q (slice_index_or xs i d) → list_all q (slice_set xs i y) ≡ list_all q xs
all_same q [] i y d e = refl
all_same q (x ∷ xs) zero y d e = ap (λ v. v && list_all q xs) e
all_same q (x ∷ xs) (suc i) y d e = ap (λ v. q x && v) (all_same q xs i y d e)

-- where a task may be taken, not every list has one out
pub free_one : {T : Type 0} (rounds tail : ℕ) (lists : List ListState) (posts : List (Option (Letter T))) (mail : List (List (Box T))) (i : ℕ) → may_take (protocol_of rounds tail lists posts mail) i ≡ true → count_by (λ (l : ListState). is_some l.out) lists < length lists
free_one rounds tail lists posts mail i may =
    let can = can_take rounds tail lists posts mail i may in
    let taken_one : ListState = record no_list { out = Some 0 } in
    let a = count_set (λ (l : ListState). is_some l.out) lists i taken_one no_list can.list in
    let b : ◌≡◌ {A = ℕ} (cond (is_some (slice_index_or lists i no_list).out) 1 0) 0 = ap (λ (v : Bool). cond v 1 0) can.free in
    let c = count_by-le-length (λ (l : ListState). is_some l.out) (slice_set lists i taken_one) in
    let d : length (slice_set lists i taken_one) ≡ length lists = length-set lists i taken_one in
    omega arith
