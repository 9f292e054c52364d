-- A letter goes from the wire to its mailbox: what the tables keep.
use Rattle.std.proofs.Common.{◌≡◌, ◌≢◌, ◌⊎◌, ◌∙◌, sym, ap, subst, refl, inl, inr, ℕ, ◌<◌, ◌==◌, Bool, false, ◌&&◌, nat_le, Option, Some, None, List, [], ◌∷◌, ◌++◌, length, map, slice_index_or, slice_set, arith}
use Rattle.std.proofs.lemmas.Bool.{cases_eq, lt-ltb}
use Rattle.std.proofs.lemmas.List.{get_or-set_other, get_or-set_same, length-set}
use Rattle.std.proofs.lemmas.List.Elements.{All-get_or, All-set}
use Rattle.cycle_tables.specs.declared.letter.Letter.{Letter}
use Rattle.cycle_tables.specs.declared.list_state.ListState.{ListState}
use Rattle.cycle_tables.specs.Letters.{Box}
use Rattle.cycle_tables.specs.Tables.{HasPlace, Protocol, delivered, delivered_by, may_take, round_tasks, with_mail}
use Rattle.cycle_tables.specs.Inside.{HasRounds, IsExpected, IsTables, box_in, box_of, empty_box, letters_in, may_start, protocol_of, put_letter, with_letter_in}
use Rattle.cycle_tables.proofs.Entries.{still_there}
use Rattle.cycle_tables.proofs.Marks.{all_by_count, are_over, letters_are, may_take_is, same_test}
use Rattle.cycle_tables.proofs.Taken.{with_mail_is}

module _ {T : Type 0} (rounds tail : ℕ) (lists : List ListState) (posts : List (Option (Letter T))) (mail : List (List (Box T))) (ready : List Bool) (past left leased k : ℕ) (l : Letter T)
    (t : IsTables rounds tail lists posts mail ready past left leased) (is : slice_index_or posts k None ≡ Some l) where
  abbrev value : Protocol T
  value = protocol_of rounds tail lists posts mail

  abbrev row : List (Box T)
  row = slice_index_or mail l.to []

  abbrev new_box : Box T
  new_box = record (box_in row l.round) { letters = (box_in row l.round).letters ++ l ∷ [] }

  abbrev new_mail : List (List (Box T))
  new_mail = put_letter mail l

  expected_is : IsExpected rounds lists mail l
  expected_is = t.expected k l is

  pub to_list : l.to < length lists
  to_list = expected_is.list

  pub to_mail : l.to < length mail
  to_mail = let a = to_list in let b = t.boxes in omega arith

  pub to_round : l.round < length row
  to_round = let a : length row ≡ rounds = All-get_or (HasRounds rounds) mail l.to [] to_mail t.each_round in let b = expected_is.round in omega arith

  pub to_room : HasPlace value l → length (box_of mail l.to l.round).letters < (box_of mail l.to l.round).room
  to_room h =
      let n : length (slice_index_or (slice_index_or (map letters_in mail) l.to []) l.round []) ≡ length (box_of mail l.to l.round).letters = ap (λ ls. length ls) (letters_are mail l.to l.round) in
      let r = expected_is.room in omega arith

  -- no mailbox has less room
  room_same : (j r : ℕ) → (box_of new_mail j r).room ≡ (box_of mail j r).room
  room_same j r = elim (cases_eq j l.to) [
    | inl e ↦ ap (λ i. (box_of new_mail i r).room) e ∙ ap (λ (boxes : List (Box T)). (box_in boxes r).room) (get_or-set_same mail l.to (with_letter_in row l) [] to_mail) ∙ in_row (cases_eq r l.round) ∙ ap (λ i. (box_of mail i r).room) (sym e)
    | inr ne ↦ ap (λ (boxes : List (Box T)). (box_in boxes r).room) (get_or-set_other mail l.to j (with_letter_in row l) [] ne)
  ]
    where
      in_row : (r ≡ l.round) ⊎ (r ≢ l.round) → (box_in (with_letter_in row l) r).room ≡ (box_in row r).room
      in_row (inl e) = ap (λ q. (box_in (with_letter_in row l) q).room) e ∙ ap (λ (b : Box T). b.room) (get_or-set_same row l.round new_box empty_box to_round) ∙ ap (λ q. (box_in row q).room) (sym e)
      in_row (inr ne) = ap (λ (b : Box T). b.room) (get_or-set_other row l.round r new_box empty_box ne)

  pub delivered_is : protocol_of rounds tail lists (slice_set posts k None) new_mail ≡ delivered value k
  delivered_is =
      ap (λ (m : List (List (List (Letter T)))). value_with m)
      (with_mail_is mail l.to l.round new_box ∙ ap (λ (ls : List (Letter T)). with_mail (map letters_in mail) l.to l.round (ls ++ l ∷ [])) (sym (letters_are mail l.to l.round)))
      ∙ ap (λ (o : Option (Letter T)). delivered_by value k o) (sym is)
    where
      value_with : List (List (List (Letter T))) → Protocol T
      value_with m = record { rounds = rounds; tail = tail; lists = lists; posts = slice_set posts k None; mail = m }

  pub delivered_tables : (mark : Bool) (ready' : List Bool) → mark ≡ may_start rounds tail (past == length lists) lists new_mail l.to → ready' ≡ slice_set ready l.to mark →
      IsTables rounds tail lists (slice_set posts k None) new_mail ready' past left leased
  delivered_tables mark ready' test set = record {
    tasks = t.tasks;
    some_lists = t.some_lists;
    some_posts = (let n : length (slice_set posts k None) ≡ length posts = length-set posts k None in let h = t.some_posts in omega arith);
    within = t.within;
    boxes = length-set mail l.to (with_letter_in row l) ∙ t.boxes;
    each_round = All-set (HasRounds rounds) mail l.to (with_letter_in row l) (length-set row l.round new_box ∙ All-get_or (HasRounds rounds) mail l.to [] to_mail t.each_round) t.each_round;
    expected = λ n m e. (
        let x = t.expected n m (still_there posts k n m e).1 in
        let s = room_same m.to m.round in let r = x.room in
        record { list = x.list; round = x.round; room = omega arith });
    flags = ap (λ (r : List Bool). length r) set ∙ length-set ready l.to mark ∙ t.flags;
    ready_is = λ j. ap (λ (r : List Bool). slice_index_or r j false) set ∙ flag j (cases_eq j l.to);
    past_is = t.past_is;
    left_is = t.left_is;
    leased_is = t.leased_is;
  }
    where
      over : are_over rounds lists ≡ (past == length lists)
      over = all_by_count (λ (s : ListState). nat_le (round_tasks rounds) s.given) lists ∙ ap (λ n. n == length lists) (sym t.past_is)

      flag : (j : ℕ) → (j ≡ l.to) ⊎ (j ≢ l.to) → slice_index_or (slice_set ready l.to mark) j false ≡ may_take (protocol_of rounds tail lists (slice_set posts k None) new_mail) j
      flag j (inl e) =
          ap (λ i. slice_index_or (slice_set ready l.to mark) i false) e ∙ get_or-set_same ready l.to mark false (let f = t.flags in let h = to_list in omega arith) ∙ test
          ∙ ap (λ (b : Bool). may_start rounds tail b lists new_mail l.to) (sym over)
          ∙ ap (λ (b : Bool). b && may_start rounds tail (are_over rounds lists) lists new_mail l.to) (sym (lt-ltb l.to (length lists) to_list))
          ∙ sym (may_take_is rounds tail lists (slice_set posts k None) new_mail l.to)
          ∙ ap (λ i. may_take (protocol_of rounds tail lists (slice_set posts k None) new_mail) i) (sym e)
      flag j (inr ne) =
          get_or-set_other ready l.to j mark false ne ∙ t.ready_is j
          ∙ sym (same_test rounds tail lists lists posts (slice_set posts k None) mail new_mail j refl refl refl (get_or-set_other mail l.to j (with_letter_in row l) [] ne))

-- the same with the wire and the mail as the code has them
pub delivered_by_code : {T : Type 0} (rounds tail : ℕ) (lists : List ListState) (posts posts' : List (Option (Letter T))) (mail mail' : List (List (Box T))) (ready ready' : List Bool) (past left leased k : ℕ) (l : Letter T) (mark : Bool) →
    IsTables rounds tail lists posts mail ready past left leased → slice_index_or posts k None ≡ Some l → posts' ≡ slice_set posts k None → mail' ≡ put_letter mail l →
    mark ≡ may_start rounds tail (past == length lists) lists mail' l.to → ready' ≡ slice_set ready l.to mark → IsTables rounds tail lists posts' mail' ready' past left leased
delivered_by_code {T} rounds tail lists posts posts' mail mail' ready ready' past left leased k l mark t is e f test set =
    subst (λ (ps : List (Option (Letter T))). IsTables rounds tail lists ps mail' ready' past left leased) (sym e)
    (subst (λ (m : List (List (Box T))). mark ≡ may_start rounds tail (past == length lists) lists m l.to → IsTables rounds tail lists (slice_set posts k None) m ready' past left leased) (sym f)
    (λ made. delivered_tables rounds tail lists posts mail ready past left leased k l t is mark ready' made set) test)

pub value_by_code : {T : Type 0} (rounds tail : ℕ) (lists : List ListState) (posts posts' : List (Option (Letter T))) (mail mail' : List (List (Box T))) (ready : List Bool) (past left leased k : ℕ) (l : Letter T) →
    IsTables rounds tail lists posts mail ready past left leased → slice_index_or posts k None ≡ Some l → posts' ≡ slice_set posts k None → mail' ≡ put_letter mail l →
    protocol_of rounds tail lists posts' mail' ≡ delivered (protocol_of rounds tail lists posts mail) k
value_by_code {T} rounds tail lists posts posts' mail mail' ready past left leased k l t is e f =
    ap (λ (ps : List (Option (Letter T))). protocol_of rounds tail lists ps mail') e ∙ ap (λ (m : List (List (Box T))). protocol_of rounds tail lists (slice_set posts k None) m) f
    ∙ delivered_is rounds tail lists posts mail ready past left leased k l t is
