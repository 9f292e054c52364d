-- A seat takes the next task of a list: what the tables keep.
use Rattle.std.proofs.Common.{◌≡◌, ◌≢◌, ◌⊎◌, ◌∙◌, sym, ap, subst, refl, inl, inr, ℕ, ◌+◌, ◌/◌, ◌<◌, Bool, true, false, cond, ◌&&◌, nat_lt, nat_le, Option, Some, None, is_some, List, [], length, map, slice_index_or, slice_set, All, arith}
use Rattle.std.proofs.Math.ListN.{get_or-map}
use Rattle.std.proofs.lemmas.Bool.{and_right, cases_eq}
use Rattle.std.proofs.lemmas.List.{get_or-set_other, get_or-set_same, length-set, map-set}
use Rattle.std.proofs.lemmas.List.Elements.{All-get_or, All-set}
use Rattle.cycle_tables.specs.declared.letter.Letter.{Letter}
use Rattle.cycle_tables.specs.declared.list_state.ListState.{ListState}
use Rattle.cycle_tables.specs.Letters.{Box}
use Rattle.cycle_tables.specs.Tables.{NoneComing, Protocol, all_tasks, can_start, due_in, is_reading, letters_at, letters_of, may_take, no_list, round_tasks, taken, with_mail}
use Rattle.cycle_tables.specs.Inside.{HasRounds, IsExpected, IsTables, IsWithin, box_of, empty_box, letters_in, protocol_of, read_by, without_read}
use Rattle.cycle_tables.proofs.Entries.{was_read}
use Rattle.cycle_tables.proofs.Marks.{CanTake, all_same, are_over, can_take, count_same, count_set, letters_are, same_test}

-- the letters of a mailbox are other ones
pub with_mail_is : {T : Type 0} (mail : List (List (Box T))) (i r : ℕ) (box : Box T) → map letters_in (slice_set mail i (slice_set (slice_index_or mail i []) r box)) ≡ with_mail (map letters_in mail) i r box.letters
with_mail_is {T} mail i r box =
    map-set (letters_in {T = T}) mail i (slice_set (slice_index_or mail i []) r box)
    ∙ ap (λ (row : List (List (Letter T))). slice_set (map letters_in mail) i row)
    (map-set (λ (b : Box T). b.letters) (slice_index_or mail i []) r box ∙ ap (λ (row : List (List (Letter T))). slice_set row r box.letters) (sym (get_or-map (letters_in {T = T}) mail i [])))

module _ {T : Type 0} (rounds tail : ℕ) (lists : List ListState) (posts : List (Option (Letter T))) (mail : List (List (Box T))) (ready : List Bool) (past left leased i seat : ℕ) where
  abbrev state : ListState
  state = slice_index_or lists i no_list

  abbrev value : Protocol T
  value = protocol_of rounds tail lists posts mail

  abbrev new_state : ListState
  new_state = record state { out = Some seat }

  abbrev new_lists : List ListState
  new_lists = slice_set lists i new_state

  abbrev new_mail : List (List (Box T))
  new_mail = without_read rounds mail i state.given

  -- the letters go out of the mailbox that is read
  pub read_is : read_by rounds mail i state.given ≡ letters_of value i
  read_is = ap (λ (ls : List (Letter T)). cond (is_reading rounds state.given) ls []) (sym (letters_are mail i (state.given / 3)))

  mail_is : (b : Bool) → map letters_in (cond b (slice_set mail i (slice_set (slice_index_or mail i []) (state.given / 3) empty_box)) mail) ≡ cond b (with_mail (map letters_in mail) i (state.given / 3) []) (map letters_in mail)
  mail_is true = with_mail_is mail i (state.given / 3) empty_box
  mail_is false = refl

  pub taken_is : protocol_of rounds tail new_lists posts new_mail ≡ taken value i seat
  taken_is = ap (λ (m : List (List (List (Letter T)))). value_with m) (mail_is (is_reading rounds state.given))
    where
      value_with : List (List (List (Letter T))) → Protocol T
      value_with m = record { rounds = rounds; tail = tail; lists = new_lists; posts = posts; mail = m }

  -- the mailboxes of other lists, and of other rounds
  row_other : (j : ℕ) → j ≢ i → slice_index_or new_mail j [] ≡ slice_index_or mail j []
  row_other j ne = by (is_reading rounds state.given)
    where
      by : (b : Bool) → slice_index_or (cond b (slice_set mail i (slice_set (slice_index_or mail i []) (state.given / 3) empty_box)) mail) j [] ≡ slice_index_or mail j []
      by true = get_or-set_other mail i j (slice_set (slice_index_or mail i []) (state.given / 3) empty_box) [] ne
      by false = refl

  box_other : (r : ℕ) → i < length mail → (is_reading rounds state.given ≡ true → r ≡ state.given / 3 → ⊥) → box_of new_mail i r ≡ box_of mail i r
  box_other r h apart = by (is_reading rounds state.given) apart
    where
      by : (b : Bool) → (b ≡ true → r ≡ state.given / 3 → ⊥) → box_of (cond b (slice_set mail i (slice_set (slice_index_or mail i []) (state.given / 3) empty_box)) mail) i r ≡ box_of mail i r
      by true ne = ap (λ (row : List (Box T)). slice_index_or row r empty_box) (get_or-set_same mail i (slice_set (slice_index_or mail i []) (state.given / 3) empty_box) [] h)
          ∙ get_or-set_other (slice_index_or mail i []) (state.given / 3) r empty_box empty_box (λ e. ne refl e)
      by false ne = refl

  length_mail : length new_mail ≡ length mail
  length_mail = by (is_reading rounds state.given)
    where
      by : (b : Bool) → length (cond b (slice_set mail i (slice_set (slice_index_or mail i []) (state.given / 3) empty_box)) mail) ≡ length mail
      by true = length-set mail i (slice_set (slice_index_or mail i []) (state.given / 3) empty_box)
      by false = refl

  each_mail : i < length mail → All (HasRounds rounds) mail → All (HasRounds rounds) new_mail
  each_mail h all = by (is_reading rounds state.given)
    where
      by : (b : Bool) → All (HasRounds rounds) (cond b (slice_set mail i (slice_set (slice_index_or mail i []) (state.given / 3) empty_box)) mail)
      by true = All-set (HasRounds rounds) mail i (slice_set (slice_index_or mail i []) (state.given / 3) empty_box) (length-set (slice_index_or mail i []) (state.given / 3) empty_box ∙ All-get_or (HasRounds rounds) mail i [] h all) all
      by false = all

  pub taken_tables : IsTables rounds tail lists posts mail ready past left leased → may_take value i ≡ true → NoneComing value i → IsTables rounds tail new_lists posts new_mail (slice_set ready i false) past left (leased + 1)
  taken_tables t may none = record {
    tasks = t.tasks;
    some_lists = (let l = same_length in let h = t.some_lists in omega arith);
    some_posts = t.some_posts;
    within = All-set (IsWithin (all_tasks rounds tail)) lists i new_state (let m = can.more in omega arith) t.within;
    boxes = length_mail ∙ t.boxes ∙ sym same_length;
    each_round = each_mail in_mail t.each_round;
    expected = λ k l e. expected k l e (t.expected k l e) (cases_eq l.to i);
    flags = length-set ready i false ∙ t.flags ∙ sym same_length;
    ready_is = λ j. flag j (cases_eq j i);
    past_is = t.past_is ∙ sym (count_same (λ (l : ListState). nat_le (round_tasks rounds) l.given) lists i new_state no_list can.list refl);
    left_is = t.left_is ∙ sym (count_same (λ (l : ListState). nat_lt l.given (all_tasks rounds tail)) lists i new_state no_list can.list refl);
    leased_is = (
        let a = count_set (λ (l : ListState). is_some l.out) lists i new_state no_list can.list in
        let b : ◌≡◌ {A = ℕ} (cond (is_some state.out) 1 0) 0 = ap (λ (v : Bool). cond v 1 0) can.free in
        let c = t.leased_is in omega arith);
  }
    where
      can : CanTake rounds tail lists i
      can = can_take rounds tail lists posts mail i may

      same_length : length new_lists ≡ length lists
      same_length = length-set lists i new_state

      in_mail : i < length mail
      in_mail = let l = can.list in let b = t.boxes in omega arith

      state_same : slice_index_or new_lists i no_list ≡ new_state
      state_same = get_or-set_same lists i new_state no_list can.list

      over : are_over rounds new_lists ≡ are_over rounds lists
      over = all_same (λ (l : ListState). nat_le (round_tasks rounds) l.given) lists i new_state no_list refl

      flag : (j : ℕ) → (j ≡ i) ⊎ (j ≢ i) → slice_index_or (slice_set ready i false) j false ≡ may_take (protocol_of rounds tail new_lists posts new_mail) j
      flag j (inl e) = subst (λ k. slice_index_or (slice_set ready i false) k false ≡ may_take (protocol_of rounds tail new_lists posts new_mail) k) (sym e)
          (get_or-set_same ready i false false (let l = can.list in let f = t.flags in omega arith) ∙ sym out_already)
        where
          out_already : may_take (protocol_of rounds tail new_lists posts new_mail) i ≡ false
          out_already = ap (λ (l : ListState). nat_lt i (length new_lists) && can_start rounds tail (are_over rounds new_lists) l (length (letters_at (map letters_in new_mail) i (l.given / 3)))) state_same
              ∙ and_right (nat_lt i (length new_lists)) false refl
      flag j (inr ne) =
          get_or-set_other ready i j false false ne ∙ t.ready_is j
          ∙ sym (same_test rounds tail lists new_lists posts posts mail new_mail j same_length over (get_or-set_other lists i j new_state no_list ne) (row_other j ne))

      expected : (k : ℕ) (l : Letter T) → slice_index_or posts k None ≡ Some l → IsExpected rounds lists mail l → (l.to ≡ i) ⊎ (l.to ≢ i) → IsExpected rounds new_lists new_mail l
      expected k l e x (inl same) = record {
        list = (let a = x.list in let b = same_length in omega arith);
        round = x.round;
        room = (
            let due : due_in (slice_index_or new_lists l.to no_list).due l.round ≡ due_in (slice_index_or lists l.to no_list).due l.round =
            ap (λ j. due_in (slice_index_or new_lists j no_list).due l.round) same ∙ ap (λ (s : ListState). due_in s.due l.round) state_same ∙ ap (λ j. due_in (slice_index_or lists j no_list).due l.round) (sym same) in
            let box : (box_of new_mail l.to l.round).room ≡ (box_of mail l.to l.round).room =
            ap (λ j. (box_of new_mail j l.round).room) same ∙ ap (λ (b : Box T). b.room) (box_other l.round in_mail (λ reading round. none k l reading e same round)) ∙ ap (λ j. (box_of mail j l.round).room) (sym same) in
            let r = x.room in omega arith);
      }
      expected k l e x (inr ne) = record {
        list = (let a = x.list in let b = same_length in omega arith);
        round = x.round;
        room = (
            let due : due_in (slice_index_or new_lists l.to no_list).due l.round ≡ due_in (slice_index_or lists l.to no_list).due l.round = ap (λ (s : ListState). due_in s.due l.round) (get_or-set_other lists i l.to new_state no_list ne) in
            let box : (box_of new_mail l.to l.round).room ≡ (box_of mail l.to l.round).room = ap (λ (row : List (Box T)). (slice_index_or row l.round empty_box).room) (row_other l.to ne) in
            let r = x.room in omega arith);
      }

  -- the same with the state, the mail and the marks as the code has them
  pub taken_by : (s : ListState) (mail' : List (List (Box T))) (ready' : List Bool) → IsTables rounds tail lists posts mail ready past left leased → may_take value i ≡ true → NoneComing value i →
      s ≡ slice_index_or lists i s → mail' ≡ without_read rounds mail i s.given → ready' ≡ slice_set ready i false →
      IsTables rounds tail (slice_set lists i (record { due = s.due; given = s.given; out = Some seat })) posts mail' ready' past left (leased + 1)
  taken_by s mail' ready' t may none read e f =
      let at : state ≡ s = was_read lists i s no_list (can_take rounds tail lists posts mail i may).list read in
      subst (λ (m : List (List (Box T))). IsTables rounds tail (slice_set lists i (record s { out = Some seat })) posts m ready' past left (leased + 1)) (sym e)
      (subst (λ (r : List Bool). IsTables rounds tail (slice_set lists i (record s { out = Some seat })) posts (without_read rounds mail i s.given) r past left (leased + 1)) (sym f)
      (subst (λ (l : ListState). IsTables rounds tail (slice_set lists i (record l { out = Some seat })) posts (without_read rounds mail i l.given) (slice_set ready i false) past left (leased + 1)) at (taken_tables t may none)))

  pub value_by : (s : ListState) (mail' : List (List (Box T))) → may_take value i ≡ true → s ≡ slice_index_or lists i s → mail' ≡ without_read rounds mail i s.given →
      protocol_of rounds tail (slice_set lists i (record { due = s.due; given = s.given; out = Some seat })) posts mail' ≡ taken value i seat
  value_by s mail' may read e =
      let at : state ≡ s = was_read lists i s no_list (can_take rounds tail lists posts mail i may).list read in
      ap (λ (m : List (List (Box T))). protocol_of rounds tail (slice_set lists i (record s { out = Some seat })) posts m) e
      ∙ subst (λ (l : ListState). protocol_of rounds tail (slice_set lists i (record l { out = Some seat })) posts (without_read rounds mail i l.given) ≡ taken value i seat) at taken_is

  pub letters_by : (s : ListState) (ls : List (Letter T)) → may_take value i ≡ true → s ≡ slice_index_or lists i s → ls ≡ read_by rounds mail i s.given → ls ≡ letters_of value i
  letters_by s ls may read e =
      let at : state ≡ s = was_read lists i s no_list (can_take rounds tail lists posts mail i may).list read in
      e ∙ ap (λ (l : ListState). read_by rounds mail i l.given) (sym at) ∙ read_is
