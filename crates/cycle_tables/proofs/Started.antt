-- A cycle begins, or is done.
use Rattle.std.proofs.Common.{◌≡◌, ◌⊎◌, ◌∙◌, sym, ap, subst, refl, inl, inr, ℕ, zero, suc, ◌+◌, ◌<◌, ◌≤◌, ◌==◌, ◌^◌, Bool, true, false, cond, not, ◌&&◌, nat_lt, nat_le, nat_eq, Option, Some, None, is_some, List, [], ◌∷◌, length, map, replicate, slice_index_or, count_by, All, arith}
use Rattle.std.specs.List.{list_all, list_any}
use Rattle.std.proofs.lemmas.Bool.{and_left, cases_lt, le-ltb, lt-ltb, ne_eqb, false≢true}
use Rattle.std.proofs.lemmas.List.{get_or-replicate, get_or_past, length-map, length-replicate}
use Rattle.std.proofs.lemmas.List.Sums.{sum_by-cons}
use Rattle.std.proofs.lemmas.Bool.Decides.{nat_tests}
use Rattle.cycle_tables.specs.declared.letter.Letter.{Letter}
use Rattle.cycle_tables.specs.declared.list_state.Due.{Due}
use Rattle.cycle_tables.specs.declared.list_state.ListState.{ListState}
use Rattle.cycle_tables.specs.Letters.{Box}
use Rattle.cycle_tables.specs.Tables.{IsLeast, Protocol, all_tasks, at_start, begun, is_done, may_take, no_list, round_tasks}
use Rattle.cycle_tables.specs.Inside.{IsTables, IsWithin, empty_box, letters_in, may_start, protocol_of}
use Rattle.cycle_tables.proofs.Entries.{not_there}
use Rattle.cycle_tables.proofs.Marks.{are_over, may_take_is, test_of}

no_letters : {T : Type 0} (rounds : ℕ) → letters_in {T = T} (replicate rounds empty_box) ≡ replicate rounds []
no_letters zero = refl
no_letters {T} (suc rounds) = ap (λ (ls : List (List (Letter T))). [] ∷ ls) (no_letters {T = T} rounds)

pub mail_is : {T : Type 0} (rounds : ℕ) (due : List Due) → map letters_in (replicate (length due) (replicate rounds (empty_box {T = T}))) ≡ map (λ _. replicate rounds []) due
mail_is rounds [] = refl
mail_is {T} rounds (d ∷ due) = ap (λ (ls : List (List (Letter T))). ls ∷ map letters_in (replicate (length due) (replicate rounds empty_box))) (no_letters {T = T} rounds) ∙ ap (λ (ms : List (List (List (Letter T)))). replicate rounds [] ∷ ms) (mail_is {T = T} rounds due)

pub start_is : {T : Type 0} (rounds tail : ℕ) (due : List Due) → protocol_of {T = T} rounds tail (map begun due) [] (replicate (length due) (replicate rounds empty_box)) ≡ at_start rounds tail due
start_is {T} rounds tail due = ap (λ (m : List (List (List (Letter T)))). value_with m) (mail_is {T = T} rounds due)
  where
    value_with : List (List (List (Letter T))) → Protocol T
    value_with m = record { rounds = rounds; tail = tail; lists = map begun due; posts = []; mail = m }

-- none of the lists has given anything
none_counted : (q : ListState → Bool) (due : List Due) → ((d : Due) → q (begun d) ≡ false) → count_by q (map begun due) ≡ 0
none_counted q [] h = refl
none_counted q (d ∷ due) h =
    let a = sum_by-cons (λ (l : ListState). cond (q l) 1 0) (begun d) (map begun due) in
    let b : ◌≡◌ {A = ℕ} (cond (q (begun d)) 1 0) 0 = ap (λ (v : Bool). cond v 1 0) (h d) in
    let c = none_counted q due h in omega arith

all_counted : (q : ListState → Bool) (due : List Due) → ((d : Due) → q (begun d) ≡ true) → count_by q (map begun due) ≡ length due
all_counted q [] h = refl
all_counted q (d ∷ due) h =
    let a = sum_by-cons (λ (l : ListState). cond (q l) 1 0) (begun d) (map begun due) in
    let b : ◌≡◌ {A = ℕ} (cond (q (begun d)) 1 0) 1 = ap (λ (v : Bool). cond v 1 0) (h d) in
    let c = all_counted q due h in omega arith

all_within : (all : ℕ) (due : List Due) → All (IsWithin all) (map begun due)
all_within all due = λ k d h. by due k d h
  where
    by : (ds : List Due) (k : ℕ) (d : ListState) → k < length (map begun ds) → IsWithin all (slice_index_or (map begun ds) k d)
    by [] k d h = absurd (omega arith)
    by (x ∷ ds) zero d h = omega arith
    by (x ∷ ds) (suc k) d h = by ds k d (omega arith)

pub started : {T : Type 0} (rounds tail : ℕ) (due : List Due) (ready : List Bool) → 1 ≤ rounds → all_tasks rounds tail < 2 ^ 32 → length due < 2 ^ 32 → length ready ≡ length (map begun due) →
    ((i : ℕ) → i < length (map begun due) → slice_index_or ready i false ≡ may_start rounds tail false (map begun due) (replicate (length due) (replicate rounds (empty_box {T = T}))) i) →
    IsTables {T = T} rounds tail (map begun due) [] (replicate (length due) (replicate rounds empty_box)) ready 0 (length due) 0
started {T} rounds tail due ready some tasks few n marks = record {
  tasks = tasks;
  some_lists = (let l : length (map begun due) ≡ length due = length-map due begun in omega arith);
  some_posts = omega arith;
  within = all_within (all_tasks rounds tail) due;
  boxes = length-replicate (length due) (replicate rounds (empty_box {T = T})) ∙ sym (length-map due begun);
  each_round = λ k d h. rows k d h;
  expected = λ k l e. absurd (not_there l e);
  flags = n;
  ready_is = λ i. flag i (cases_lt i (length (map begun due)));
  past_is = sym (none_counted (λ (l : ListState). nat_le (round_tasks rounds) l.given) due (λ d. leb_false (round_tasks rounds) 0 (omega arith)));
  left_is = sym (all_counted (λ (l : ListState). nat_lt l.given (all_tasks rounds tail)) due (λ d. lt-ltb 0 (all_tasks rounds tail) (omega arith)));
  leased_is = sym (none_counted (λ (l : ListState). is_some l.out) due (λ d. refl));
}
  where
    leb_false : (a b : ℕ) → b < a → nat_le a b ≡ false
    leb_false a b h = grind (arith, nat_tests)

    rows : (k : ℕ) (d : List (Box T)) → k < length (replicate (length due) (replicate rounds (empty_box {T = T}))) → length (slice_index_or (replicate (length due) (replicate rounds (empty_box {T = T}))) k d) ≡ rounds
    rows k d h = ap (λ (row : List (Box T)). length row) (get_or-replicate (length due) k (replicate rounds empty_box) d (let l : length (replicate (length due) (replicate rounds (empty_box {T = T}))) ≡ length due = length-replicate (length due) (replicate rounds (empty_box {T = T})) in omega arith)) ∙ length-replicate rounds (empty_box {T = T})

    over_false : (ds : List Due) → 0 < length (map begun ds) → are_over rounds (map begun ds) ≡ false
    over_false [] h = absurd (omega arith)
    over_false (d ∷ ds) h = and_left (nat_le (round_tasks rounds) 0) (are_over rounds (map begun ds)) (leb_false (round_tasks rounds) 0 (omega arith))

    mail : List (List (Box T))
    mail = replicate (length due) (replicate rounds empty_box)

    flag : (i : ℕ) → (i < length (map begun due)) ⊎ (length (map begun due) ≤ i) → slice_index_or ready i false ≡ may_take (protocol_of rounds tail (map begun due) [] (replicate (length due) (replicate rounds (empty_box {T = T})))) i
    flag i (inl low) =
        marks i low
        ∙ ap (λ (b : Bool). b && may_start rounds tail false (map begun due) (replicate (length due) (replicate rounds (empty_box {T = T}))) i) (sym (lt-ltb i (length (map begun due)) low))
        ∙ ap (λ (b : Bool). test_of rounds tail i (length (map begun due)) b (slice_index_or (map begun due) i no_list) (slice_index_or (replicate (length due) (replicate rounds (empty_box {T = T}))) i [])) (sym (over_false due (omega arith)))
        ∙ sym (may_take_is rounds tail (map begun due) [] (replicate (length due) (replicate rounds (empty_box {T = T}))) i)
    flag i (inr high) =
        get_or_past ready i false (omega arith)
        ∙ sym (may_take_is rounds tail (map begun due) [] (replicate (length due) (replicate rounds (empty_box {T = T}))) i ∙ and_left (nat_lt i (length (map begun due))) _ (le-ltb i (length (map begun due)) high))

-- no list has tasks left exactly where all have given all
none_left : (all : ℕ) (lists : List ListState) → All (IsWithin all) lists → nat_eq (count_by (λ (l : ListState). nat_lt l.given all) lists) 0 ≡ list_all (λ (l : ListState). l.given == all) lists
none_left all [] w = refl
none_left all (l ∷ lists) w =
    let more = sum_by-cons (λ (x : ListState). cond (nat_lt x.given all) 1 0) l lists in
    let here : IsWithin all l = w 0 l (omega arith) in
    ap (λ n. nat_eq n 0) more ∙ by (nat_lt l.given all) (count_by (λ (x : ListState). nat_lt x.given all) lists)
    ∙ ap (λ (b : Bool). not (nat_lt l.given all) && b) (none_left all lists (λ k d h. w (suc k) d (omega arith)))
    ∙ ap (λ (b : Bool). b && list_all (λ (x : ListState). x.given == all) lists) (flip l.given all (omega (arith, here)))
  where
    by : (b : Bool) (n : ℕ) → nat_eq (cond b 1 0 + n) 0 ≡ (not b && nat_eq n 0)
    by true n = grind (arith, nat_tests)
    by false n = ap (λ k. nat_eq k 0) (let e : 0 + n ≡ n = omega arith in e)

    flip : (n m : ℕ) → n ≤ m → not (nat_lt n m) ≡ (n == m)
    flip n m h = grind (arith, nat_tests)

-- no letter is on the wire exactly where there is no least one
none_there : {A : Type 0} (posts : List (Option A)) → ((k : ℕ) → slice_index_or posts k None ≡ None) → list_any is_some posts ≡ false
none_there [] h = refl
none_there {A} (None ∷ posts) h = none_there posts (λ k. h (suc k))
none_there {A} (Some a ∷ posts) h = absurd (not_there a (sym (h 0)))

one_there : {A : Type 0} (posts : List (Option A)) (k : ℕ) → is_some (slice_index_or posts k None) ≡ true → list_any is_some posts ≡ true
one_there [] k h = absurd (false≢true h)
one_there (None ∷ posts) zero h = absurd (false≢true h)
one_there (None ∷ posts) (suc k) h = one_there posts k h
one_there (Some a ∷ posts) k h = refl

pub none_on_wire : {A : Type 0} (posts : List (Option A)) (first : Option ℕ) → IsLeast posts first → is_some first ≡ list_any is_some posts
none_on_wire posts None h = sym (none_there posts h)
none_on_wire posts (Some k) h = sym (one_there posts k h.0)

pub done_is : {T : Type 0} (rounds tail : ℕ) (lists : List ListState) (posts : List (Option (Letter T))) (mail : List (List (Box T))) (ready : List Bool) (past left leased : ℕ) → IsTables rounds tail lists posts mail ready past left leased →
    (first : Option ℕ) → IsLeast posts first → (nat_eq left 0 && not (is_some first)) ≡ is_done (protocol_of rounds tail lists posts mail)
done_is rounds tail lists posts mail ready past left leased t first least =
    ap (λ n. nat_eq n 0 && not (is_some first)) t.left_is
    ∙ ap (λ (b : Bool). b && not (is_some first)) (none_left (all_tasks rounds tail) lists t.within)
    ∙ ap (λ (b : Bool). list_all (λ (l : ListState). l.given == all_tasks rounds tail) lists && not b) (none_on_wire posts first least)

pub not_done : {T : Type 0} (rounds tail : ℕ) (lists : List ListState) (posts : List (Option (Letter T))) (mail : List (List (Box T))) (ready : List Bool) (past left leased : ℕ) → IsTables rounds tail lists posts mail ready past left leased →
    (left ≡ 0 → ⊥) → nat_eq left 0 ≡ is_done (protocol_of rounds tail lists posts mail)
not_done rounds tail lists posts mail ready past left leased t some =
    let none : nat_eq left 0 ≡ false = ne_eqb left 0 some in
    let all : list_all (λ (l : ListState). l.given == all_tasks rounds tail) lists ≡ false = sym (none_left (all_tasks rounds tail) lists t.within) ∙ ap (λ n. nat_eq n 0) (sym t.left_is) ∙ none in
    none ∙ sym (and_left (list_all (λ (l : ListState). l.given == all_tasks rounds tail) lists) (not (list_any is_some posts)) all)

-- a test, by its opposite
pub opposite : (a b : Bool) → a ≡ not b → b ≡ not a
opposite a true e = ap not (sym e)
opposite a false e = ap not (sym e)

-- the tables as the code has made them
pub started_by : {T : Type 0} (rounds tail : ℕ) (due : List Due) (lists slice : List ListState) (posts : List (Option (Letter T))) (mail boxes : List (List (Box T))) (ready : List Bool) → 1 ≤ rounds → all_tasks rounds tail < 2 ^ 32 → length due < 2 ^ 32 →
    lists ≡ map begun due → mail ≡ replicate (length due) (replicate rounds empty_box) → posts ≡ [] → slice ≡ lists → boxes ≡ mail → length ready ≡ length slice →
    ((i : ℕ) → i < length slice → slice_index_or ready i false ≡ may_start rounds tail false slice boxes i) → IsTables rounds tail lists posts mail ready 0 (length due) 0
started_by {T} rounds tail due lists slice posts mail boxes ready some tasks few is_lists is_mail is_posts is_slice is_boxes n marks =
    subst (λ (ls : List ListState). IsTables rounds tail ls posts mail ready 0 (length due) 0) (sym is_lists)
    (subst (λ (m : List (List (Box T))). IsTables rounds tail (map begun due) posts m ready 0 (length due) 0) (sym is_mail)
    (subst (λ (ps : List (Option (Letter T))). IsTables rounds tail (map begun due) ps (replicate (length due) (replicate rounds empty_box)) ready 0 (length due) 0) (sym is_posts)
    (started rounds tail due ready some tasks few (n ∙ ap (λ (ls : List ListState). length ls) (is_slice ∙ is_lists))
    (subst (λ (m : List (List (Box T))). (i : ℕ) → i < length (map begun due) → slice_index_or ready i false ≡ may_start rounds tail false (map begun due) m i) (is_boxes ∙ is_mail)
    (subst (λ (ls : List ListState). (i : ℕ) → i < length ls → slice_index_or ready i false ≡ may_start rounds tail false ls boxes i) (is_slice ∙ is_lists) marks)))))

pub start_by : {T : Type 0} (rounds tail : ℕ) (due : List Due) (lists : List ListState) (posts : List (Option (Letter T))) (mail : List (List (Box T))) →
    lists ≡ map begun due → mail ≡ replicate (length due) (replicate rounds empty_box) → posts ≡ [] → protocol_of rounds tail lists posts mail ≡ at_start rounds tail due
start_by {T} rounds tail due lists posts mail is_lists is_mail is_posts =
    ap (λ (ls : List ListState). protocol_of rounds tail ls posts mail) is_lists ∙ ap (λ (m : List (List (Box T))). protocol_of rounds tail (map begun due) posts m) is_mail
    ∙ ap (λ (ps : List (Option (Letter T))). protocol_of rounds tail (map begun due) ps (replicate (length due) (replicate rounds empty_box))) is_posts ∙ start_is rounds tail due
