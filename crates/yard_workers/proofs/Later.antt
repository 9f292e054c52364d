-- What a worker knows stays so: of its seat after a turn, of its notes, and of the lease that it got.
use Rattle.std.proofs.Common.{◌≡◌, ℕ, List, [], ◌++◌, length, drop, sym, refl, ap, ◌∙◌, subst, true, false, Option, Some, None, length-set, slice_set}
use Rattle.std.proofs.lemmas.List.{append-nil, append_assoc, drop_at}
use Rattle.std.proofs.lemmas.List.Elements.{filter-append}
use Rattle.turn_yard.specs.History.{Entry, bears, entries_of, StartsWith, added_to, AddsAtMostOne, NoneFalls, OnlyRises}
use Rattle.turn_yard.specs.Seat.{SeatState}
use Rattle.turn_yard.specs.Yard.{YardState}
use Rattle.turn_yard.proofs.Histories.{added, Added-own, Added-starts}
use Rattle.yard_workers.specs.Machine.{Was, WasSince, IsReturned, IsOutAfter, KeepsNotes}
use Rattle.yard_workers.specs.Worker.{IsBetweenTurns, IsLater}

pub starts_on : (seen history later : List Entry) → StartsWith history seen → StartsWith later history → StartsWith later seen
starts_on seen history later (more, e) (most, f) = (more ++ most, f ∙ (ap (λ l. l ++ most) e ∙ append_assoc seen more most))

pub was_later : (fact : List Entry → Type 0) (seen history : List Entry) → StartsWith history seen → Was fact seen → Was fact history
was_later fact seen history later (front, starts, x) = (front, starts_on front seen history starts later, x)

-- what holds of a whole history
pub was_now : (fact : List ℕ → List Entry → Type 0) (o o' : List ℕ) (seen history : List Entry) → seen ≡ history → o ≡ o' → fact o' history → Was (fact o) seen
was_now fact o o' seen history e f x = (history, ([], e ∙ sym (append-nil history)), subst (λ q. fact q history) (sym f) x)

pub rises_length : (changed : Option ℕ) (before now : List ℕ) → OnlyRises changed before now → length now ≡ length before
rises_length None before now e = ap length e
rises_length (Some p) before now (inside, (mark, up, e)) = ap length e ∙ length-set before p mark

-- the seat after a turn, in which it took one value and gave another one
pub after_turn : (yard : YardState) (before mid after : SeatState) (h h' : List Entry) (m m' : List ℕ) (n : ℕ) (changed : Option ℕ) → IsBetweenTurns yard before
    → mid ≡ record before { seen = h; noted = m; holds = true } → after ≡ record mid { seen = h'; own = mid.own ++ added_to mid.seen h'; noted = m'; holds = false }
    → StartsWith h before.seen → entries_of before.number h ≡ before.own → NoneFalls before.noted m → n ≡ mid.number → AddsAtMostOne n h h' → OnlyRises changed m m' → IsLater yard before after
after_turn yard before mid after h h' m m' n changed b taken given starts own falls number adds rises =
    let close_turn : SeatState → SeatState = λ s. record s { seen = h'; own = s.own ++ added_to s.seen h'; noted = m'; holds = false } in
    let numbered : n ≡ before.number = number ∙ ap (λ (s : SeatState). s.number) taken in
    let a = added before.number h h' (subst (λ k. AddsAtMostOne k h h') numbered adds) in
    subst (IsLater yard before) (sym (given ∙ ap close_turn taken)) (record {
      between = record {
        of_yard = b.of_yard;
        free = refl;
        origin = b.origin;
        marks = rises_length changed m m' rises ∙ (sym falls.count ∙ b.marks);
        own = ap (λ l. l ++ added_to h h') (sym own) ∙ sym (Added-own before.number h h' a);
      };
      number = refl;
      seen = Added-starts before.number h h' a before.seen starts;
    })

-- the list that is added to one and changes nothing is empty
nothing_more : {A : Type 0} (xs ys : List A) → xs ++ ys ≡ xs → ys ≡ []
nothing_more xs ys e = sym (drop_at xs ys (length xs) refl) ∙ (ap (drop (length xs)) (e ∙ sym (append-nil xs)) ∙ drop_at xs [] (length xs) refl)

-- where a seat has added nothing, what it got is still out
pub since_later : (n : ℕ) (fact : List Entry → Type 0) (seen history : List Entry) → StartsWith history seen → entries_of n history ≡ entries_of n seen → WasSince n fact seen → WasSince n fact history
since_later n fact seen history (more, e) own (front, later, f, none_own, x) =
    let none_more : entries_of n more ≡ [] = nothing_more (entries_of n seen) (entries_of n more) (sym (filter-append (bears n) seen more) ∙ (ap (entries_of n) (sym e) ∙ own)) in (
      front,
      later ++ more,
      e ∙ (ap (λ l. l ++ more) f ∙ append_assoc front later more),
      filter-append (bears n) later more ∙ (ap (λ l. l ++ entries_of n more) none_own ∙ none_more),
      x,
    )

pub returned_later : {S L F : Type 0} (suits : S → List ℕ → Type 0) (leased : List ℕ → List Entry → ℕ → L → Type 0) (worked : S → L → F → Type 0) (o o' : List ℕ) (n n' : ℕ) (seen history : List Entry) (done : F)
    → o ≡ o' → n ≡ n' → StartsWith history seen → entries_of n history ≡ entries_of n seen → IsReturned suits leased worked o n seen done → IsReturned suits leased worked o' n' history done
returned_later {S} {L} {F} suits leased worked o o' n n' seen history done e f starts own r =
    let P : List ℕ → Type 0 = λ q. IsReturned suits leased worked q n' history done in
    let Q : ℕ → Type 0 = λ k. IsReturned suits leased worked o k history done in
    subst P e (subst Q f (record {
      setting = r.setting;
      lease = r.lease;
      suiting = r.suiting;
      was_leased = since_later n (λ front. leased o front n r.lease) seen history starts own r.was_leased;
      is_worked = r.is_worked;
    }))

-- ---- one lease after another
pub later_same : (yard : YardState) (seat : SeatState) → IsBetweenTurns yard seat → IsLater yard seat seat
later_same yard seat b = record { between = b; number = refl; seen = ([], sym (append-nil seat.seen)) }

pub later_on : (yard : YardState) (a b c : SeatState) → IsLater yard a b → IsLater yard b c → IsLater yard a c
later_on yard a b c l m = record { between = m.between; number = m.number ∙ l.number; seen = starts_on a.seen b.seen c.seen l.seen m.seen }

-- the seat after it read a mark
pub after_look : (yard : YardState) (a b c : SeatState) (p mark : ℕ) → IsLater yard a b → c ≡ record b { noted = slice_set b.noted p mark } → IsLater yard a c
after_look yard a b c p mark l e =
    subst (IsLater yard a) (sym e) (record {
      between = record { of_yard = l.between.of_yard; free = l.between.free; origin = l.between.origin; marks = length-set b.noted p mark ∙ l.between.marks; own = l.between.own };
      number = l.number;
      seen = l.seen;
    })

pub was_first : (fact : List Entry → Type 0) (history : List Entry) → fact [] → Was fact history
was_first fact history x = ([], (history, refl), x)

module _ {S L N : Type 0} (suits : S → List ℕ → Type 0) (leased : List ℕ → List Entry → ℕ → L → Type 0) (noted : N → List ℕ → List Entry → Type 0) where
  -- the notes after the work of a lease
  pub after_work : (setting : S) (lease : L) (before now : N) (o : List ℕ) (asked : SeatState) (seen later : List Entry) → asked.origin ≡ o → StartsWith asked.seen seen → StartsWith later asked.seen
      → suits setting o → leased asked.origin asked.seen asked.number lease → Was (noted before o) seen → IsOutAfter suits leased noted setting lease before now → Was (noted now o) later
  after_work setting lease before now o asked seen later e starts on suit out w keeps =
      was_later (noted now o) asked.seen later on (keeps o asked.seen asked.number suit (subst (λ q. leased q asked.seen asked.number lease) e out) (was_later (noted before o) seen asked.seen starts w))

  -- and after stale ones were dropped
  pub after_drop : (before now : N) (o : List ℕ) (history later : List Entry) → later ≡ history → KeepsNotes noted before now → Was (noted before o) history → Was (noted now o) later
  after_drop before now o history later e keeps (front, starts, x) = subst (λ l. Was (noted now o) l) (sym e) (front, starts, keeps o front x)
