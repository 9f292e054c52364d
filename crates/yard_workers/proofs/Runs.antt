-- Workers are seated one after another, and their seats go back one after another.
use Rattle.std.proofs.Common.{◌≡◌, ℕ, ◌+◌, ◌<◌, ◌≤◌, ◌⊎◌, List, [], ◌∷◌, ◌++◌, length, take, drop, get_or, slice_index_or, sym, refl, ap, ◌∙◌, subst, inl, inr, ⊎_elim, arith, length-append, Option, Some, None, IfSome}
use Rattle.std.proofs.lemmas.List.{get_or_append_left, get_or_default, length-replicate}
use Rattle.std.proofs.lemmas.List.Elements.{All-append, All-cons, All-nil, All-weaker}
use Rattle.std.proofs.Math.Seq.{get_or-append_seam, take-append_seam}
use Rattle.std.specs.List.{All, Any}
use mathlib.Core.Logic.{dite}
use native.Mathlib.Decide.{ℕ_discrete}
use Rattle.turn_yard.specs.History.{Entry, StartsWith}
use Rattle.turn_yard.specs.Seat.{SeatState}
use Rattle.turn_yard.specs.Yard.{YardState, IsIdleSeat, AreAllSeats, Ends, fresh_seat}
use Rattle.yard_workers.specs.Machine.{Was}
use Rattle.yard_workers.specs.Worker.{HasWorked, IsBetweenTurns, Ended}
use Rattle.yard_workers.proofs.Later.{was_later}
use Rattle.yard_workers.specs.Run.{AreSeated, HasEnded, HaveEnded, done_of}
use Rattle.yard_workers.specs.declared.worker.End.{End}
use Rattle.yard_workers.specs.declared.worker.End.TheVariants.{Done, Stopped}

module _ {A : Type 0} (P : A → Type 0) where
  pub any_front : (xs ys : List A) → Any P xs → Any P (xs ++ ys)
  any_front xs ys (i, x, inside, is, p) = (i, x, (let l = length-append xs ys in omega arith), get_or_append_left xs ys x i inside ∙ is, p)

  pub any_end : (xs : List A) (x : A) → P x → Any P (xs ++ x ∷ [])
  any_end xs x p = (length xs, x, (let l = length-append xs (x ∷ []) in omega arith), get_or-append_seam xs x [] x, p)

  pub any_split : (xs : List A) (x : A) → Any P (xs ++ x ∷ []) → Any P xs ⊎ P x
  any_split xs x (i, y, inside, is, p) = dite (ℕ_discrete i (length xs))
      (λ e. inr (subst P (sym (sym (get_or-append_seam xs x [] y) ∙ (ap (λ k. get_or (xs ++ x ∷ []) k y) (sym e) ∙ is))) p))
      (λ ne. let below : i < length xs = (let l = length-append xs (x ∷ []) in omega arith) in inl (i, y, below, sym (get_or_append_left xs (x ∷ []) y i below) ∙ is, p))

  pub any_none : Any P [] → ⊥
  any_none (i, x, inside, is, p) = omega arith

  pub all_end : (xs : List A) (x : A) → All P (xs ++ x ∷ []) → All P xs × P x
  all_end xs x all = (
    (λ i d below. subst P (get_or_append_left xs (x ∷ []) d i below) (all i d (let l = length-append xs (x ∷ []) in omega arith))),
    subst P (get_or-append_seam xs x [] x) (all (length xs) x (let l = length-append xs (x ∷ []) in omega arith)),
  )

  pub all_more : (xs : List A) (x : A) → All P xs → P x → All P (xs ++ x ∷ [])
  all_more xs x all p = All-append P xs (x ∷ []) all (All-cons P x [] p (All-nil P))

module _ {W : Type 0} (seat_of : W → SeatState) where
  pub none_seated : (yard : YardState) → yard.made ≡ 0 → AreSeated seat_of yard []
  none_seated yard none = record { count = sym none; between = All-nil _; each_number = λ n below. absurd (omega (arith, none, below)) }

  pub one_more : (yard after : YardState) (workers later : List W) (w : W) → AreSeated seat_of yard workers → seat_of w ≡ fresh_seat yard → after ≡ record yard { made = yard.made + 1 } → later ≡ workers ++ w ∷ []
      → AreSeated seat_of after later
  one_more yard after workers later w a seat e f =
      let made : ℕ = yard.made in
      let P : YardState → Type 0 = λ y. AreSeated seat_of y (workers ++ w ∷ []) in
      subst (AreSeated seat_of after) (sym f) (subst P (sym e) (record {
        count = length-append workers (w ∷ []) ∙ ap (λ n. n + 1) a.count;
        between = all_more (λ v. IsBetweenTurns (record yard { made = made + 1 }) (seat_of v)) workers w
            (All-weaker (λ v. IsBetweenTurns yard (seat_of v)) (λ v. IsBetweenTurns (record yard { made = made + 1 }) (seat_of v)) (λ v b. record { of_yard = b.of_yard; free = b.free; origin = b.origin; marks = b.marks; own = b.own }) workers a.between)
            (subst (IsBetweenTurns (record yard { made = made + 1 })) (sym seat) (record { of_yard = refl; free = refl; origin = refl; marks = length-replicate yard.parts 0; own = refl }));
        each_number = λ n below. dite (ℕ_discrete n made)
            (λ is. any_end (λ v. (seat_of v).number ≡ n) workers w (ap (λ (s : SeatState). s.number) seat ∙ sym is))
            (λ ne. any_front (λ v. (seat_of v).number ≡ n) workers (w ∷ []) (a.each_number n (omega arith)));
      }))

done_only : (o : Option End) → 0 < done_of o → o ≡ Some Done
done_only None some = absurd (omega arith)
done_only (Some Done) some = refl
done_only (Some Stopped) some = absurd (omega arith)

one_at_most : (o : Option End) → done_of o ≤ 1
one_at_most None = omega arith
one_at_most (Some Done) = omega arith
one_at_most (Some Stopped) = omega arith

module _ {W : Type 0} (complete : List Entry → Type 0) (yard : YardState) (seat_of : W → SeatState) (end_of : W → Option End) where
  pub all_ended : (before after : List W) → length after ≡ length before → AreSeated seat_of yard before
      → ((i : ℕ) (d : W) → i < length before → HasWorked complete yard (seat_of (slice_index_or before i d)) (seat_of (slice_index_or after i d)) (end_of (slice_index_or after i d))) → HaveEnded complete yard seat_of end_of after [] 0
  all_ended before after len a worked = record {
    ended = λ i d below. let h = worked i d (omega arith) in
        record { idle = (h.later.between.of_yard, h.later.between.free); seen = λ e. subst (λ (o : Option End). IfSome o (Ended complete (seat_of (get_or after i d)).seen)) e h.ended };
    idle = All-nil _;
    each_number = λ n below. inl (again n (a.each_number n below));
    some_done = λ some. absurd (omega arith);
    at_most = (let c = a.count in omega arith);
  } where
    again : (n : ℕ) → Any (λ w. (seat_of w).number ≡ n) before → Any (λ w. (seat_of w).number ≡ n) after
    again n (i, x, inside, is, p) =
        let h = worked i x inside in
        let below : i < length after = omega arith in
        (i, get_or after i x, below, get_or_default after i (get_or after i x) x below, h.later.number ∙ (ap (λ w. (seat_of w).number) is ∙ p))

  -- the same of the list as it comes back from a slice of it
  pub slice_ended : (before old news : List W) (n : ℕ) (seats : List SeatState) → old ≡ before → n ≡ length before → length news ≡ length old → seats ≡ [] → AreSeated seat_of yard before
      → ((i : ℕ) (d : W) → i < length old → HasWorked complete yard (seat_of (slice_index_or old i d)) (seat_of (slice_index_or news i d)) (end_of (slice_index_or news i d)))
      → HaveEnded complete yard seat_of end_of (take n (news ++ drop (length news) before)) seats 0
  slice_ended before old news n seats o e len none a worked =
      let P : List W → Type 0 = λ l. HaveEnded complete yard seat_of end_of l seats 0 in
      let back : take n (news ++ drop (length news) before) ≡ news = ap (λ k. take k (news ++ drop (length news) before)) (e ∙ (ap length (sym o) ∙ sym len)) ∙ take-append_seam news (drop (length news) before) in
      subst P (sym back) (subst (λ l. HaveEnded complete yard seat_of end_of news l 0) (sym none) (all_ended old news len (subst (AreSeated seat_of yard) (sym o) a) worked))

  pub one_back : (workers rest : List W) (w : W) (seats later : List SeatState) (done now : ℕ) → workers ≡ rest ++ w ∷ [] → later ≡ seats ++ seat_of w ∷ [] → now ≡ done + done_of (end_of w)
      → HaveEnded complete yard seat_of end_of workers seats done → HaveEnded complete yard seat_of end_of rest later now
  one_back workers rest w seats later done now e f g h =
      let P : List SeatState → Type 0 = λ l. HaveEnded complete yard seat_of end_of rest l now in
      let both = all_end (λ v. HasEnded complete yard (seat_of v) (end_of v)) rest w (subst (All (λ v. HasEnded complete yard (seat_of v) (end_of v))) e h.ended) in
      subst P (sym f) (record {
        ended = both.0;
        idle = all_more (IsIdleSeat yard.id) seats (seat_of w) h.idle both.1.idle;
        each_number = λ n below. ⊎_elim
            (λ (a : Any (λ v. (seat_of v).number ≡ n) workers). ⊎_elim (λ b. inl b) (λ b. inr (any_end (λ s. s.number ≡ n) seats (seat_of w) b))
            (any_split (λ v. (seat_of v).number ≡ n) rest w (subst (Any (λ v. (seat_of v).number ≡ n)) e a)))
            (λ a. inr (any_front (λ s. s.number ≡ n) seats (seat_of w ∷ []) a)) (h.each_number n below);
        some_done = λ some. dite (ℕ_discrete done 0)
            (λ none. any_end (λ s. Was complete s.seen) seats (seat_of w) (both.1.seen (done_only (end_of w) (omega arith))))
            (λ ne. any_front (λ s. Was complete s.seen) seats (seat_of w ∷ []) (h.some_done (omega arith)));
        at_most = (let l = ap length e in let m = length-append rest (w ∷ []) in let o = one_at_most (end_of w) in let b = h.at_most in omega arith);
      })

  pub all_back : (workers : List W) (seats : List SeatState) (done : ℕ) → workers ≡ [] → HaveEnded complete yard seat_of end_of workers seats done → AreAllSeats yard seats
  all_back workers seats done none before = let h = subst (λ (l : List W). HaveEnded complete yard seat_of end_of l seats done) none before in record { of_yard = h.idle; each_number = λ n below. ⊎_elim (λ a. absurd (any_none (λ v. (seat_of v).number ≡ n) a)) (λ a. a) (h.each_number n below) }

-- where a seat has seen a complete history, the last one was complete
pub done_at_end : (complete : List Entry → Type 0) (entries : List Entry) (marks : List ℕ) (seats : List SeatState) → All (Ends entries marks) seats → Any (λ s. Was complete s.seen) seats → Was complete entries
done_at_end complete entries marks seats all (i, x, inside, is, p) = was_later complete x.seen entries (subst (λ (s : SeatState). StartsWith entries s.seen) is (all i x inside).seen) p
