-- Letters are put on the wire: what the tables keep.
use Rattle.std.proofs.Common.{◌≡◌, ◌⊎◌, ◌∙◌, sym, ap, subst, refl, inl, inr, ℕ, zero, suc, ◌+◌, ◌-◌, ◌/◌, ◌<◌, ◌≤◌, ◌^◌, Bool, true, false, nat_lt, Option, Some, None, Result, Ok, Err, is_ok, OnOk, List, [], ◌∷◌, ◌++◌, length, slice_index_or, All, arith}
use Rattle.std.proofs.lemmas.Bool.{and_parts, cases_Bool, cases_lt, false≢true, ltb-true}
use Rattle.std.proofs.lemmas.List.{get_or_append_left, get_or-append_right, length-append}
use Rattle.std.proofs.lemmas.List.Elements.{All-get_or}
use Rattle.cycle_tables.specs.declared.letter.Letter.{Letter}
use Rattle.cycle_tables.specs.declared.letter.Post.{Post}
use Rattle.cycle_tables.specs.declared.list_state.ListState.{ListState}
use Rattle.cycle_tables.specs.Letters.{Box}
use Rattle.cycle_tables.specs.Tables.{GoesTo, Protocol, due_in, is_sending, may_take, no_list, numbered, round_tasks}
use Rattle.cycle_tables.specs.Inside.{HasRounds, IsExpected, IsRoomFor, IsTables, MakeRoom, box_of, protocol_of}
use Rattle.cycle_tables.proofs.Boxes.{as_long, as_many}
use Rattle.cycle_tables.proofs.Entries.{any_default, not_there, same_value}
use Rattle.cycle_tables.proofs.Posts.{length_numbered}

-- the mail with more room is worth the same
pub same_value_of : {T : Type 0} (rounds tail : ℕ) (lists : List ListState) (posts : List (Option (Letter T))) (mail mail' : List (List (Box T))) → MakeRoom mail mail' → protocol_of rounds tail lists posts mail' ≡ protocol_of rounds tail lists posts mail
same_value_of {T} rounds tail lists posts mail mail' m = ap (λ (ls : List (List (List (Letter T)))). value_with ls) m.letters
  where
    value_with : List (List (List (Letter T))) → Protocol T
    value_with ls = record { rounds = rounds; tail = tail; lists = lists; posts = posts; mail = ls }

pub all_rounds : {T : Type 0} (rounds : ℕ) (mail mail' : List (List (Box T))) → MakeRoom mail mail' → All (HasRounds rounds) mail → All (HasRounds rounds) mail'
all_rounds {T} rounds mail mail' m all = λ k d h.
    ap (λ (row : List (Box T)). length row) (any_default mail' k d [] h) ∙ as_long mail mail' k m
    ∙ All-get_or (HasRounds rounds) mail k [] (let n : length mail' ≡ length mail = as_many mail mail' m in omega arith) all

pub roomy_tables : {T : Type 0} (rounds tail : ℕ) (lists : List ListState) (posts : List (Option (Letter T))) (mail mail' : List (List (Box T))) (ready : List Bool) (past left leased : ℕ) → MakeRoom mail mail' →
    IsTables rounds tail lists posts mail ready past left leased → IsTables rounds tail lists posts mail' ready past left leased
roomy_tables {T} rounds tail lists posts mail mail' ready past left leased m t = record {
  tasks = t.tasks;
  some_lists = t.some_lists;
  some_posts = t.some_posts;
  within = t.within;
  boxes = as_many mail mail' m ∙ t.boxes;
  each_round = all_rounds rounds mail mail' m t.each_round;
  expected = λ k l e. (let x = t.expected k l e in let a = x.room in let b = m.room l.to l.round in record { list = x.list; round = x.round; room = omega arith });
  flags = t.flags;
  ready_is = λ i. t.ready_is i ∙ ap (λ (v : Protocol T). may_take v i) (sym (same_value_of rounds tail lists posts mail mail' m));
  past_is = t.past_is;
  left_is = t.left_is;
  leased_is = t.leased_is;
}

-- a letter of those that were put on the wire
pub record IsNumbered {T : Type 0} (r : ℕ) (qs : List (Post T)) (j : ℕ) (l : Letter T) : Type 0 where
  pub low : j < length qs
  pub round : l.round ≡ r
  pub from : (d : Post T) → l.to ≡ (slice_index_or qs j d).to

pub numbered_at : {T : Type 0} (k r : ℕ) (qs : List (Post T)) (j : ℕ) (l : Letter T) → slice_index_or (numbered k r qs) j None ≡ Some l → IsNumbered r qs j l
numbered_at k r [] j l e = absurd (not_there l e)
numbered_at {T} k r (q ∷ qs) zero l e =
    let is : record { number = k; round = r; to = q.to; content = q.content } ≡ l = same_value {A = Letter T} (record { number = k; round = r; to = q.to; content = q.content }) l e in
    record { low = omega arith; round = ap (λ (m : Letter T). m.round) (sym is); from = λ d. ap (λ (m : Letter T). m.to) (sym is) }
numbered_at k r (q ∷ qs) (suc j) l e = let n = numbered_at (suc k) r qs j l e in let h = n.low in record { low = omega arith; round = n.round; from = n.from }

-- a task that sends letters is one of a round
pub sends_in : {T : Type 0} (rounds given : ℕ) (letters : List (Post T)) → (is_sending rounds given ≡ false → letters ≡ []) → (letters ≡ []) ⊎ (given / 3 < rounds)
sends_in rounds given letters sends = elim (cases_Bool (is_sending rounds given)) [
  | inl yes_so ↦ inr (let a = ltb-true given (round_tasks rounds) (and_parts (nat_lt given (round_tasks rounds)) _ yes_so).0 in omega arith)
  | inr no_so ↦ inl (sends no_so)
]

-- the round for which room is made, where room is made for any letter
pub round_room : {T : Type 0} (rounds given : ℕ) (letters : List (Post T)) (mail : List (List (Box T))) → (is_sending rounds given ≡ false → letters ≡ []) → All (HasRounds rounds) mail → (letters ≡ []) ⊎ All (λ (boxes : List (Box T)). given / 3 < length boxes) mail
round_room {T} rounds given letters mail sends all = elim (sends_in rounds given letters sends) [
  | inl none ↦ inl none
  | inr low ↦ inr (λ k d h. (let n : length (slice_index_or mail k d) ≡ rounds = ap (λ (row : List (Box T)). length row) (any_default mail k d [] h) ∙ All-get_or (HasRounds rounds) mail k [] h all in omega arith))
]

pub posted_tables : {T : Type 0} (rounds tail : ℕ) (lists : List ListState) (posts : List (Option (Letter T))) (mail mail' : List (List (Box T))) (ready : List Bool) (past left leased given : ℕ) (letters : List (Post T)) → MakeRoom mail mail' →
    IsTables rounds tail lists posts mail ready past left leased → (is_sending rounds given ≡ false → letters ≡ []) → All (GoesTo (length lists)) letters → length posts + length letters ≤ 2 ^ 32 →
    All (IsRoomFor lists mail' (given / 3)) letters → IsTables rounds tail lists (posts ++ numbered (length posts) (given / 3) letters) mail' ready past left leased
posted_tables {T} rounds tail lists posts mail mail' ready past left leased given letters m t sends to few room = record {
  tasks = t.tasks;
  some_lists = t.some_lists;
  some_posts = (let a : length (posts ++ numbered (length posts) (given / 3) letters) ≡ length posts + length letters = length-append posts (numbered (length posts) (given / 3) letters) ∙ ap (λ n. length posts + n) (length_numbered (length posts) (given / 3) letters) in omega arith);
  within = t.within;
  boxes = roomy.boxes;
  each_round = roomy.each_round;
  expected = λ k l e. expected k l e (cases_lt k (length posts));
  flags = t.flags;
  ready_is = roomy.ready_is;
  past_is = t.past_is;
  left_is = t.left_is;
  leased_is = t.leased_is;
}
  where
    roomy : IsTables rounds tail lists posts mail' ready past left leased
    roomy = roomy_tables rounds tail lists posts mail mail' ready past left leased m t

    fresh : (j : ℕ) (l : Letter T) → IsNumbered (given / 3) letters j l → IsExpected rounds lists mail' l
    fresh j l n = made letters n to room (sends_in rounds given letters sends)
      where
        made : (qs : List (Post T)) → IsNumbered (given / 3) qs j l → All (GoesTo (length lists)) qs → All (IsRoomFor lists mail' (given / 3)) qs → (qs ≡ []) ⊎ (given / 3 < rounds) → IsExpected rounds lists mail' l
        made [] n to room either = absurd (let h = n.low in omega arith)
        made (q ∷ qs) n to room either =
            let h = n.low in
            let f = n.from q in
            let a : (slice_index_or (q ∷ qs) j q).to < length lists = to j q h in
            let b : due_in (slice_index_or lists (slice_index_or (q ∷ qs) j q).to no_list).due (given / 3) ≤ (box_of mail' (slice_index_or (q ∷ qs) j q).to (given / 3)).room = room j q h in
            let due : due_in (slice_index_or lists l.to no_list).due l.round ≡ due_in (slice_index_or lists (slice_index_or (q ∷ qs) j q).to no_list).due (given / 3) =
            ap (λ r. due_in (slice_index_or lists l.to no_list).due r) n.round ∙ ap (λ i. due_in (slice_index_or lists i no_list).due (given / 3)) f in
            let box : (box_of mail' l.to l.round).room ≡ (box_of mail' (slice_index_or (q ∷ qs) j q).to (given / 3)).room = ap (λ r. (box_of mail' l.to r).room) n.round ∙ ap (λ i. (box_of mail' i (given / 3)).room) f in
            let round = n.round in
            let low : given / 3 < rounds = elim either [ inl none ↦ absurd (let z : length (q ∷ qs) ≡ 0 = ap (λ ps. length ps) none in omega arith) | inr low ↦ low ] in
            record { list = omega arith; round = omega arith; room = omega arith }

    expected : (k : ℕ) (l : Letter T) → slice_index_or (posts ++ numbered (length posts) (given / 3) letters) k None ≡ Some l → (k < length posts) ⊎ (length posts ≤ k) → IsExpected rounds lists mail' l
    expected k l e (inl low) = roomy.expected k l (sym (get_or_append_left posts (numbered (length posts) (given / 3) letters) None k low) ∙ e)
    expected k l e (inr high) = fresh (k - length posts) l (numbered_at (length posts) (given / 3) letters (k - length posts) l (sym (get_or-append_right posts (numbered (length posts) (given / 3) letters) (length posts) k None refl high) ∙ e))

-- what an answer that is well tells
pub ok_then : {A E : Type 0} (r : Result A E) (P : Type 0) → OnOk r P → is_ok r ≡ true → P
ok_then (Ok a) P h e = h
ok_then (Err x) P h e = absurd (false≢true e)

-- the tables as the code has made them
pub posted_by_code : {T : Type 0} (rounds tail : ℕ) (lists slice : List ListState) (posts posts' : List (Option (Letter T))) (mail mail' : List (List (Box T))) (ready : List Bool) (past left leased given : ℕ) (letters qs : List (Post T)) → MakeRoom mail mail' →
    IsTables rounds tail lists posts mail ready past left leased → (is_sending rounds given ≡ false → letters ≡ []) → All (GoesTo (length lists)) letters → length posts + length letters ≤ 2 ^ 32 →
    slice ≡ lists → qs ≡ letters → All (IsRoomFor slice mail' (given / 3)) qs → posts' ≡ posts ++ numbered (length posts) (given / 3) letters → IsTables rounds tail lists posts' mail' ready past left leased
posted_by_code {T} rounds tail lists slice posts posts' mail mail' ready past left leased given letters qs m t sends to few is_slice is_qs room is =
    subst (λ (ps : List (Option (Letter T))). IsTables rounds tail lists ps mail' ready past left leased) (sym is)
    (posted_tables rounds tail lists posts mail mail' ready past left leased given letters m t sends to few
    (subst (λ (ls : List ListState). All (IsRoomFor ls mail' (given / 3)) letters) is_slice (subst (λ (ps : List (Post T)). All (IsRoomFor slice mail' (given / 3)) ps) is_qs room)))
