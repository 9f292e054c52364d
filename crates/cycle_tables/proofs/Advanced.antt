-- The task of a list that is out is done: what the tables keep.
use Rattle.std.proofs.Common.{◌≡◌, ◌≢◌, ◌⊎◌, ◌∙◌, sym, ap, subst, refl, inl, inr, ℕ, ◌+◌, ◌-◌, ◌<◌, ◌≤◌, ◌==◌, Bool, true, false, cond, ◌&&◌, nat_lt, nat_le, Option, None, is_some, List, [], length, slice_index_or, slice_set, arith}
use mir.Val.{bool_byte}
use Rattle.std.proofs.lemmas.Bool.{and_from, and_left, cases_Bool, cases_eq, cases_lt, le-ltb, lt-ltb, ne_eqb, true≢false}
use Rattle.std.proofs.lemmas.Bool.Decides.{nat_tests}
use Rattle.std.proofs.lemmas.List.{get_or-set_other, get_or-set_same, get_or_past, length-set}
use Rattle.std.proofs.lemmas.List.Elements.{All-get_or, All-set}
use Rattle.std.proofs.lemmas.List.Sums.{count_by-le-length}
use Rattle.cycle_tables.specs.declared.letter.Letter.{Letter}
use Rattle.cycle_tables.specs.declared.list_state.ListState.{ListState}
use Rattle.cycle_tables.specs.Letters.{Box}
use Rattle.cycle_tables.specs.Tables.{all_tasks, due_in, may_take, no_list, round_tasks}
use Rattle.cycle_tables.specs.Inside.{IsExpected, IsTables, IsWithin, may_start, protocol_of}
use Rattle.cycle_tables.proofs.Entries.{was_read}
use Rattle.cycle_tables.proofs.Marks.{all_by_count, are_over, count_set, may_take_is, over_count, same_test, test_of}

-- the number of an answer
pub byte_is : (b : Bool) → bool_byte b ≡ cond b 1 0
byte_is true = refl
byte_is false = refl

-- one list more comes to the barrier, or to its end
crosses : (g m : ℕ) → ◌≡◌ {A = ℕ} (cond (nat_le m (g + 1)) 1 0) (cond (nat_le m g) 1 0 + cond (g + 1 == m) 1 0)
crosses g m = grind (arith, nat_tests)

ends : (g m : ℕ) → ◌≡◌ {A = ℕ} (cond (nat_lt g m) 1 0) (cond (nat_lt (g + 1) m) 1 0 + cond (g + 1 == m) 1 0)
ends g m = grind (arith, nat_tests)

module _ {T : Type 0} (rounds tail : ℕ) (lists : List ListState) (posts : List (Option (Letter T))) (mail : List (List (Box T))) (ready : List Bool) (past left leased i : ℕ) (t : IsTables rounds tail lists posts mail ready past left leased) (list : i < length lists) (out : is_some (slice_index_or lists i no_list).out ≡ true) where
  abbrev state : ListState
  state = slice_index_or lists i no_list

  abbrev done : ℕ
  done = state.given + 1

  abbrev new_state : ListState
  new_state = record state { given = state.given + 1; out = None }

  abbrev new_lists : List ListState
  new_lists = slice_set lists i new_state

  -- the task that is out is one of the list's
  pub fits : done ≤ all_tasks rounds tail
  fits =
      let w : state.given + cond (is_some state.out) 1 0 ≤ all_tasks rounds tail = All-get_or (IsWithin (all_tasks rounds tail)) lists i no_list list t.within in
      let o : ◌≡◌ {A = ℕ} (cond (is_some state.out) 1 0) 1 = ap (λ (v : Bool). cond v 1 0) out in omega arith

  pub one_out : 1 ≤ leased
  one_out =
      let a = count_set (λ (l : ListState). is_some l.out) lists i new_state no_list list in
      let o : ◌≡◌ {A = ℕ} (cond (is_some state.out) 1 0) 1 = ap (λ (v : Bool). cond v 1 0) out in
      let l = t.leased_is in omega arith

  pub one_left : cond (done == all_tasks rounds tail) 1 0 ≤ left
  one_left =
      let a = count_set (λ (l : ListState). nat_lt l.given (all_tasks rounds tail)) lists i new_state no_list list in
      let e = ends state.given (all_tasks rounds tail) in
      let l = t.left_is in omega arith

  same_length : length new_lists ≡ length lists
  same_length = length-set lists i new_state

  -- how many lists are past the barrier then
  over_more : over_count rounds new_lists ≡ past + cond (done == round_tasks rounds) 1 0
  over_more =
      let a = count_set (λ (l : ListState). nat_le (round_tasks rounds) l.given) lists i new_state no_list list in
      let c = crosses state.given (round_tasks rounds) in
      let p = t.past_is in omega arith

  pub few_past : past + cond (done == round_tasks rounds) 1 0 ≤ length lists
  few_past = let a = over_more in let b = count_by-le-length (λ (l : ListState). nat_le (round_tasks rounds) l.given) new_lists in let c = same_length in omega arith

  over_is : are_over rounds new_lists ≡ (past + cond (done == round_tasks rounds) 1 0 == length lists)
  over_is = all_by_count (λ (l : ListState). nat_le (round_tasks rounds) l.given) new_lists ∙ ap (λ n. n == length new_lists) over_more ∙ ap (λ n. past + cond (done == round_tasks rounds) 1 0 == n) same_length

  -- the barrier stays as it was, unless this list is the last that comes to it
  over_same : ((past + cond (done == round_tasks rounds) 1 0 == length lists) && (done == round_tasks rounds)) ≡ false → are_over rounds new_lists ≡ are_over rounds lists
  over_same h = elim (cases_Bool (done == round_tasks rounds)) [
    | inl last ↦ (
        let one : ◌≡◌ {A = ℕ} (cond (done == round_tasks rounds) 1 0) 1 = ap (λ (v : Bool). cond v 1 0) last in
        let not_all : (past + cond (done == round_tasks rounds) 1 0 == length lists) ≡ false = elim (cases_Bool (past + cond (done == round_tasks rounds) 1 0 == length lists)) [
          | inl all ↦ absurd (true≢false (sym (and_from _ _ all last) ∙ h))
          | inr some ↦ some
        ] in
        over_is ∙ not_all ∙ sym (all_by_count (λ (l : ListState). nat_le (round_tasks rounds) l.given) lists ∙ ne_eqb (over_count rounds lists) (length lists) (λ e. let f = few_past in let p = t.past_is in omega arith)))
    | inr other ↦ (
        let none : ◌≡◌ {A = ℕ} (cond (done == round_tasks rounds) 1 0) 0 = ap (λ (v : Bool). cond v 1 0) other in
        over_is ∙ ap (λ n. n == length lists) (let p = t.past_is in let e : past + cond (done == round_tasks rounds) 1 0 ≡ over_count rounds lists = omega arith in e)
        ∙ sym (all_by_count (λ (l : ListState). nat_le (round_tasks rounds) l.given) lists))
  ]

  -- the marks, by what the code has made of them
  marked : (ready' : List Bool) (all : Bool) → all ≡ (past + cond (done == round_tasks rounds) 1 0 == length lists) → length ready' ≡ length new_lists →
      ((all && (done == round_tasks rounds)) ≡ true → (j : ℕ) → j < length new_lists → slice_index_or ready' j false ≡ may_start rounds tail all new_lists mail j) →
      ((all && (done == round_tasks rounds)) ≡ false → ready' ≡ slice_set ready i (may_start rounds tail all new_lists mail i)) →
      (j : ℕ) → slice_index_or ready' j false ≡ may_take (protocol_of rounds tail new_lists posts mail) j
  marked ready' all is n every one j = elim (cases_lt j (length new_lists)) [
    | inl low ↦ (elim (cases_Bool (all && (done == round_tasks rounds))) [
      | inl opens ↦ every opens j low ∙ sym (may_is j low)
      | inr stays ↦ by_one low stays (cases_eq j i)
    ])
    | inr high ↦ get_or_past ready' j false (omega arith) ∙ sym (may_take_is rounds tail new_lists posts mail j ∙ and_left (nat_lt j (length new_lists)) _ (le-ltb j (length new_lists) high))
  ]
    where
      over : are_over rounds new_lists ≡ all
      over = over_is ∙ sym is

      may_is : (k : ℕ) → k < length new_lists → may_take (protocol_of rounds tail new_lists posts mail) k ≡ may_start rounds tail all new_lists mail k
      may_is k low =
          may_take_is rounds tail new_lists posts mail k
          ∙ ap (λ (b : Bool). test_of rounds tail k (length new_lists) b (slice_index_or new_lists k no_list) (slice_index_or mail k [])) over
          ∙ ap (λ (b : Bool). b && may_start rounds tail all new_lists mail k) (lt-ltb k (length new_lists) low)

      by_one : j < length new_lists → (all && (done == round_tasks rounds)) ≡ false → (j ≡ i) ⊎ (j ≢ i) → slice_index_or ready' j false ≡ may_take (protocol_of rounds tail new_lists posts mail) j
      by_one low stays (inl e) =
          ap (λ (r : List Bool). slice_index_or r j false) (one stays)
          ∙ ap (λ k. slice_index_or (slice_set ready i (may_start rounds tail all new_lists mail i)) k false) e
          ∙ get_or-set_same ready i (may_start rounds tail all new_lists mail i) false (let f = t.flags in omega arith)
          ∙ ap (λ k. may_start rounds tail all new_lists mail k) (sym e) ∙ sym (may_is j low)
      by_one low stays (inr ne) =
          ap (λ (r : List Bool). slice_index_or r j false) (one stays)
          ∙ get_or-set_other ready i j (may_start rounds tail all new_lists mail i) false ne ∙ t.ready_is j
          ∙ sym (same_test rounds tail lists new_lists posts posts mail mail j same_length (over_same (ap (λ (b : Bool). b && (done == round_tasks rounds)) (sym is) ∙ stays)) (get_or-set_other lists i j new_state no_list ne) refl)

  expected_by : (l : Letter T) → IsExpected rounds lists mail l → (l.to ≡ i) ⊎ (l.to ≢ i) → IsExpected rounds new_lists mail l
  expected_by l x either = record { list = (let a = x.list in let b = same_length in omega arith); round = x.round; room = (let d = due_same either in let r = x.room in omega arith) }
    where
      due_same : (l.to ≡ i) ⊎ (l.to ≢ i) → due_in (slice_index_or new_lists l.to no_list).due l.round ≡ due_in (slice_index_or lists l.to no_list).due l.round
      due_same (inl same) = ap (λ j. due_in (slice_index_or new_lists j no_list).due l.round) same ∙ ap (λ (s : ListState). due_in s.due l.round) (get_or-set_same lists i new_state no_list list) ∙ ap (λ j. due_in (slice_index_or lists j no_list).due l.round) (sym same)
      due_same (inr ne) = ap (λ (s : ListState). due_in s.due l.round) (get_or-set_other lists i l.to new_state no_list ne)

  pub advanced_tables : (ready' : List Bool) (all : Bool) → all ≡ (past + cond (done == round_tasks rounds) 1 0 == length lists) → length ready' ≡ length new_lists →
      ((all && (done == round_tasks rounds)) ≡ true → (j : ℕ) → j < length new_lists → slice_index_or ready' j false ≡ may_start rounds tail all new_lists mail j) →
      ((all && (done == round_tasks rounds)) ≡ false → ready' ≡ slice_set ready i (may_start rounds tail all new_lists mail i)) →
      IsTables rounds tail new_lists posts mail ready' (past + cond (done == round_tasks rounds) 1 0) (left - cond (done == all_tasks rounds tail) 1 0) (leased - 1)
  advanced_tables ready' all is n every one = record {
    tasks = t.tasks;
    some_lists = (let l = same_length in let h = t.some_lists in omega arith);
    some_posts = t.some_posts;
    within = All-set (IsWithin (all_tasks rounds tail)) lists i new_state (let f = fits in omega arith) t.within;
    boxes = t.boxes ∙ sym same_length;
    each_round = t.each_round;
    expected = λ k l e. expected_by l (t.expected k l e) (cases_eq l.to i);
    flags = n;
    ready_is = marked ready' all is n every one;
    past_is = sym over_more;
    left_is = (
        let a = count_set (λ (l : ListState). nat_lt l.given (all_tasks rounds tail)) lists i new_state no_list list in
        let e = ends state.given (all_tasks rounds tail) in
        let l = t.left_is in omega arith);
    leased_is = (
        let a = count_set (λ (l : ListState). is_some l.out) lists i new_state no_list list in
        let o : ◌≡◌ {A = ℕ} (cond (is_some state.out) 1 0) 1 = ap (λ (v : Bool). cond v 1 0) out in
        let l = t.leased_is in omega arith);
  }

-- the marks that the code makes, of one list or of all
pub record Marks {T : Type 0} (rounds tail : ℕ) (all comes : Bool) (ready : List Bool) (i : ℕ) (lists : List ListState) (mail : List (List (Box T))) (ready' : List Bool) : Type 0 where
  pub same : length ready' ≡ length lists
  pub every : (all && comes) ≡ true → (j : ℕ) → j < length lists → slice_index_or ready' j false ≡ may_start rounds tail all lists mail j
  pub one : (all && comes) ≡ false → ready' ≡ slice_set ready i (may_start rounds tail all lists mail i)

pub marks_along : {T : Type 0} (rounds tail : ℕ) (all comes : Bool) (ready : List Bool) (i : ℕ) (slice lists : List ListState) (boxes mail : List (List (Box T))) (ready' : List Bool) → slice ≡ lists → boxes ≡ mail →
    Marks rounds tail all comes ready i slice boxes ready' → Marks rounds tail all comes ready i lists mail ready'
marks_along {T} rounds tail all comes ready i slice lists boxes mail ready' e f m =
    subst (λ (ls : List ListState). Marks rounds tail all comes ready i ls mail ready') e (subst (λ (b : List (List (Box T))). Marks rounds tail all comes ready i slice b ready') f m)

-- the same with the state and the counts as the code has them
pub advanced_by : {T : Type 0} (rounds tail : ℕ) (lists : List ListState) (posts : List (Option (Letter T))) (mail : List (List (Box T))) (ready ready' : List Bool) (past left leased i p q : ℕ) (s : ListState) (all comes : Bool) →
    IsTables rounds tail lists posts mail ready past left leased → i < length lists → is_some (slice_index_or lists i no_list).out ≡ true → s ≡ slice_index_or lists i s →
    comes ≡ (s.given + 1 == round_tasks rounds) → p ≡ cond comes 1 0 → q ≡ cond (s.given + 1 == all_tasks rounds tail) 1 0 → all ≡ (past + p == length lists) →
    Marks rounds tail all comes ready i (slice_set lists i (record { due = s.due; given = s.given + 1; out = None })) mail ready' →
    IsTables rounds tail (slice_set lists i (record { due = s.due; given = s.given + 1; out = None })) posts mail ready' (past + p) (left - q) (leased - 1)
advanced_by {T} rounds tail lists posts mail ready ready' past left leased i p q s all comes t list out read is_last is_p is_q is_all m =
    subst (λ n. IsTables rounds tail (slice_set lists i (record { due = s.due; given = s.given + 1; out = None })) posts mail ready' (past + n) (left - q) (leased - 1)) (sym (is_p ∙ ap (λ (b : Bool). cond b 1 0) is_last))
    (subst (λ n. IsTables rounds tail (slice_set lists i (record { due = s.due; given = s.given + 1; out = None })) posts mail ready' (past + cond (s.given + 1 == round_tasks rounds) 1 0) (left - n) (leased - 1)) (sym is_q)
    (made s (was_read lists i s no_list list read) (is_all ∙ ap (λ n. past + n == length lists) (is_p ∙ ap (λ (b : Bool). cond b 1 0) is_last))
    (subst (λ (b : Bool). Marks rounds tail all b ready i (slice_set lists i (record { due = s.due; given = s.given + 1; out = None })) mail ready') is_last m)))
  where
    made : (l : ListState) → slice_index_or lists i no_list ≡ l → all ≡ (past + cond (l.given + 1 == round_tasks rounds) 1 0 == length lists) →
        Marks rounds tail all (l.given + 1 == round_tasks rounds) ready i (slice_set lists i (record { due = l.due; given = l.given + 1; out = None })) mail ready' →
        IsTables rounds tail (slice_set lists i (record { due = l.due; given = l.given + 1; out = None })) posts mail ready' (past + cond (l.given + 1 == round_tasks rounds) 1 0) (left - cond (l.given + 1 == all_tasks rounds tail) 1 0) (leased - 1)
    made l e = subst (λ (l : ListState). all ≡ (past + cond (l.given + 1 == round_tasks rounds) 1 0 == length lists) →
        Marks rounds tail all (l.given + 1 == round_tasks rounds) ready i (slice_set lists i (record { due = l.due; given = l.given + 1; out = None })) mail ready' →
        IsTables rounds tail (slice_set lists i (record { due = l.due; given = l.given + 1; out = None })) posts mail ready' (past + cond (l.given + 1 == round_tasks rounds) 1 0) (left - cond (l.given + 1 == all_tasks rounds tail) 1 0) (leased - 1)) e
        (λ k n. advanced_tables rounds tail lists posts mail ready past left leased i t list out ready' all k n.same n.every n.one)

-- what the counts need, as the code has them
pub record Bounds (rounds tail past left leased lists given : ℕ) : Type 0 where
  pub fits : given + 1 ≤ all_tasks rounds tail
  pub one_out : 1 ≤ leased
  pub one_left : cond (given + 1 == all_tasks rounds tail) 1 0 ≤ left
  pub few_past : past + cond (given + 1 == round_tasks rounds) 1 0 ≤ lists

pub bounds : {T : Type 0} (rounds tail : ℕ) (lists : List ListState) (posts : List (Option (Letter T))) (mail : List (List (Box T))) (ready : List Bool) (past left leased i : ℕ) (s : ListState) →
    IsTables rounds tail lists posts mail ready past left leased → i < length lists → is_some (slice_index_or lists i no_list).out ≡ true → s ≡ slice_index_or lists i s → Bounds rounds tail past left leased (length lists) s.given
bounds rounds tail lists posts mail ready past left leased i s t list out read =
    subst (λ (l : ListState). Bounds rounds tail past left leased (length lists) l.given) (was_read lists i s no_list list read) (record {
      fits = fits rounds tail lists posts mail ready past left leased i t list out;
      one_out = one_out rounds tail lists posts mail ready past left leased i t list out;
      one_left = one_left rounds tail lists posts mail ready past left leased i t list out;
      few_past = few_past rounds tail lists posts mail ready past left leased i t list out;
    })
