-- Mailboxes, one of which changes.
use Rattle.std.proofs.Common.{◌≡◌, ◌⊎◌, ◌∙◌, sym, ap, subst, inl, inr, ℕ, ◌+◌, ◌<◌, ◌≤◌, List, [], length, map, slice_index_or, slice_set, All, arith}
use Rattle.std.proofs.Math.ListN.{get_or-map}
use Rattle.std.proofs.Math.Seq.{map-set_same}
use Rattle.std.proofs.lemmas.Bool.{cases_eq}
use Rattle.std.proofs.lemmas.List.{get_or-set_other, get_or-set_same, length-map}
use Rattle.std.proofs.lemmas.List.Elements.{All-get_or}
use Rattle.cycle_tables.specs.declared.letter.Letter.{Letter}
use Rattle.cycle_tables.specs.declared.letter.Post.{Post}
use Rattle.cycle_tables.specs.declared.list_state.ListState.{ListState}
use Rattle.cycle_tables.specs.Tables.{due_in, no_list}
use Rattle.cycle_tables.specs.Letters.{Box}
use Rattle.cycle_tables.specs.Inside.{IsRoomFor, MakeRoom, MakesRoom, box_in, box_of, empty_box, letters_in}
use Rattle.cycle_tables.proofs.Entries.{was_read}

-- room was made in one
pub box_reserved : {T : Type 0} (boxes : List (Box T)) (r : ℕ) (old new : Box T) → r < length boxes → old ≡ slice_index_or boxes r old → new.letters ≡ old.letters → old.room ≤ new.room → MakesRoom boxes (slice_set boxes r new)
box_reserved {T} boxes r old new h read letters room = record {
  letters = map-set_same (λ (b : Box T). b.letters) boxes r new empty_box (letters ∙ ap (λ (b : Box T). b.letters) (sym was));
  room = λ q. elim (cases_eq q r) [
    | inl e ↦ (let a : (box_in boxes q).room ≡ old.room = ap (λ j. (box_in boxes j).room) e ∙ ap (λ (b : Box T). b.room) was in
        let b : (box_in (slice_set boxes r new) q).room ≡ new.room = ap (λ j. (box_in (slice_set boxes r new) j).room) e ∙ ap (λ (b : Box T). b.room) (get_or-set_same boxes r new empty_box h) in omega arith)
    | inr ne ↦ (let a : (box_in (slice_set boxes r new) q).room ≡ (box_in boxes q).room = ap (λ (b : Box T). b.room) (get_or-set_other boxes r q new empty_box ne) in omega arith)
  ];
}
  where
    was : box_in boxes r ≡ old
    was = was_read boxes r old empty_box h read

-- room was made in the mailbox of one list
pub row_reserved : {T : Type 0} (mail : List (List (Box T))) (i : ℕ) (old new : List (Box T)) → i < length mail → old ≡ slice_index_or mail i old → MakesRoom old new → MakeRoom mail (slice_set mail i new)
row_reserved {T} mail i old new h read m = record {
  letters = map-set_same (letters_in {T = T}) mail i new [] (m.letters ∙ ap (λ boxes. letters_in boxes) (sym was));
  room = λ j r. elim (cases_eq j i) [
    | inl e ↦ (
        let a : (box_of mail j r).room ≡ (box_in old r).room = ap (λ k. (box_of mail k r).room) e ∙ ap (λ boxes. (box_in boxes r).room) was in
        let b : (box_of (slice_set mail i new) j r).room ≡ (box_in new r).room = ap (λ k. (box_of (slice_set mail i new) k r).room) e ∙ ap (λ boxes. (box_in boxes r).room) (get_or-set_same mail i new [] h) in
        let l = m.room r in omega arith)
    | inr ne ↦ (let a : (box_of (slice_set mail i new) j r).room ≡ (box_of mail j r).room = ap (λ boxes. (box_in boxes r).room) (get_or-set_other mail i j new [] ne) in omega arith)
  ];
}
  where
    was : slice_index_or mail i [] ≡ old
    was = was_read mail i old [] h read

pub made_before : {T : Type 0} (a b c : List (List (Box T))) → MakeRoom a b → MakeRoom b c → MakeRoom a c
made_before a b c m n = record { letters = n.letters ∙ m.letters; room = λ i r. (let x = m.room i r in let y = n.room i r in omega arith) }

-- room was made for one letter more
pub one_more_room : {T : Type 0} (lists : List ListState) (mail : List (List (Box T))) (letters : List (Post T)) (r n due : ℕ) (q : Post T) (old new : List (Box T)) → q.to < length mail → old ≡ slice_index_or mail q.to old → MakesRoom old new
    → q ≡ slice_index_or letters n q → n < length letters → due ≡ due_in (slice_index_or lists q.to no_list).due r → due ≤ (box_in new r).room
    → ((k : ℕ) (d : Post T) → k < n → IsRoomFor lists mail r (slice_index_or letters k d)) → (k : ℕ) (d : Post T) → k < n + 1 → IsRoomFor lists (slice_set mail q.to new) r (slice_index_or letters k d)
one_more_room {T} lists mail letters r n due q old new h read m is low e room before k d below = elim (cases_eq k n) [
  | inl same ↦ subst (λ (p : Post T). IsRoomFor lists (slice_set mail q.to new) r p) (sym (ap (λ j. slice_index_or letters j d) same ∙ was_read letters n q d low is)) here
  | inr ne ↦ (let b = before k d (omega arith) in let l = (row_reserved mail q.to old new h read m).room (slice_index_or letters k d).to r in omega arith)
]
  where
    here : IsRoomFor lists (slice_set mail q.to new) r q
    here = let b : (box_of (slice_set mail q.to new) q.to r).room ≡ (box_in new r).room = ap (λ boxes. (box_in boxes r).room) (get_or-set_same mail q.to new [] h) in omega arith

-- there are as many mailboxes once room was made
pub as_many : {T : Type 0} (a b : List (List (Box T))) → MakeRoom a b → length b ≡ length a
as_many {T} a b m = sym (length-map b (letters_in {T = T})) ∙ ap (λ ls. length ls) m.letters ∙ length-map a (letters_in {T = T})

pub as_long : {T : Type 0} (a b : List (List (Box T))) (i : ℕ) → MakeRoom a b → length (slice_index_or b i []) ≡ length (slice_index_or a i [])
as_long {T} a b i m =
    sym (row_length b) ∙ ap (λ (ls : List (List (List (Letter T)))). length (slice_index_or ls i [])) m.letters ∙ row_length a
  where
    row_length : (c : List (List (Box T))) → length (slice_index_or (map letters_in c) i []) ≡ length (slice_index_or c i [])
    row_length c = ap (λ ls. length ls) (get_or-map (letters_in {T = T}) c i []) ∙ length-map (slice_index_or c i []) (λ b. b.letters)

-- the round of a letter is one of its list's
pub round_in : {T : Type 0} (letters : List (Post T)) (n r i : ℕ) (a b : List (List (Box T))) (old : List (Box T)) → n < length letters → (letters ≡ []) ⊎ All (λ (boxes : List (Box T)). r < length boxes) a → MakeRoom a b → i < length b → old ≡ slice_index_or b i old → r < length old
round_in {T} letters n r i a b old low either m h read = elim either [
  | inl none ↦ absurd (let l : length letters ≡ 0 = ap (λ ls. length ls) none in omega arith)
  | inr all ↦ (
      let l : length (slice_index_or b i []) ≡ length (slice_index_or a i []) = as_long a b i m in
      let k : length b ≡ length a = as_many a b m in
      let f : r < length (slice_index_or a i []) = All-get_or (λ (boxes : List (Box T)). r < length boxes) a i [] (omega arith) all in
      let e : length (slice_index_or b i []) ≡ length old = ap (λ boxes. length boxes) (was_read b i old [] h read) in
      omega arith)
]
