-- The letters of a task that is out, and that some task is out where nothing else can be done.
use Rattle.std.proofs.Common.{◌≡◌, ◌∙◌, sym, ap, subst, refl, ℕ, ◌+◌, ◌/◌, ◌%◌, ◌≤◌, ◌==◌, Bool, true, false, cond, not, ◌&&◌, nat_lt, Option, Some, is_some, List, [], ◌∷◌, ◌++◌, filter, find, count_by, arith}
use Rattle.std.proofs.lemmas.Bool.{and_from, and_parts, eq-eqb, eqb-false, eqb-true, false_from_ne_true, true≢false}
use Rattle.cycle_rounds.specs.Plan.{IsPlan, Plan, is_reading, round_tasks}
use Rattle.cycle_rounds.specs.Events.{Event, Letter, Machine, State, content_of, delivered, is_for, is_legal, is_of, left, reads, step}
use Rattle.cycle_rounds.specs.Events.Event.{take, give, deliver}
use Rattle.cycle_rounds.specs.Protocol.{is_own}
use Rattle.cycle_rounds.proofs.Lists.{any_count, count_without, found, one_if, put_other}
use Rattle.cycle_rounds.proofs.Orderly.{Orderly, Somewhere, due_count, for_is, is_for_from, of_is, on_way, own_test, somewhere}
use Rattle.cycle_table_laws.specs.Shows.{went_out}
use Rattle.cycle_table_laws.specs.Laws.{to_read}
use Rattle.cycle_table_laws.proofs.Zips.{filter_kept, filter_push_no}

module _ {X L P : Type 0} (p : Plan X) (plan : IsPlan p) (s : State X L P) (o : Orderly p s) (k : ℕ) (letter : Letter X P) (is : find (λ (y : Letter X P). y.number == k) s.wire ≡ Some letter) where
  on_wire_once : 1 ≤ count_by (is_of p letter.round letter.of) s.wire
  on_wire_once =
      let c = count_without k (is_of p letter.round letter.of) letter s.wire is in
      let one = one_if (is_of p letter.round letter.of letter) (own_test p plan letter) in omega arith

  -- a letter on the wire is under way
  pub under_way : Somewhere p s letter.round letter.of
  under_way = somewhere p s o letter.round letter.of (let a = on_wire_once in omega arith)

  cond_most : (b : Bool) (n : ℕ) → n ≤ 1 → cond b n 0 ≤ 1
  cond_most true n e = e
  cond_most false n e = omega arith

  -- the letters of its round did not go out yet: it would be twice there
  pub not_yet_out : went_out p s (p.to letter.of) letter.round ≡ false
  not_yet_out = false_from_ne_true (went_out p s (p.to letter.of) letter.round) (λ e.
      let a = and_parts (is_some (s.out (p.to letter.of))) (is_reading p (s.given (p.to letter.of)) && s.given (p.to letter.of) / 3 == letter.round) e in
      let b = and_parts (is_reading p (s.given (p.to letter.of))) (s.given (p.to letter.of) / 3 == letter.round) a.1 in
      let c = and_parts (nat_lt (s.given (p.to letter.of)) (round_tasks p)) (s.given (p.to letter.of) % 3 == 1) b.0 in
      let third = eqb-true (s.given (p.to letter.of) / 3) letter.round b.1 in
      let rest = eqb-true (s.given (p.to letter.of) % 3) 1 c.1 in
      let there = o.come letter.round letter.of under_way.way.round under_way.due (omega arith) a.0 in
      let twice = any_count (is_of p letter.round letter.of) s.mail there in
      let place = o.place letter.round letter.of in
      let once = cond_most (on_way p.rounds letter.round (s.given (p.from letter.of)) (s.given (p.to letter.of))) (due_count p letter.round letter.of) (plan.once letter.round letter.of) in
      let one = on_wire_once in
      omega arith)

-- the letters that another list's reading leaves
pub left_letters : {X L P : Type 0} (p : Plan X) (s : State X L P) (i j r : ℕ) → (j ≡ i → r ≡ s.given i / 3 → ⊥) → (b : Bool) → filter (is_for p r j) (cond b (filter (λ l. not (is_for p (s.given i / 3) i l)) s.mail) s.mail) ≡ filter (is_for p r j) s.mail
left_letters {X} {L} {P} p s i j r apart true = filter_kept (is_for p r j) (λ l. not (is_for p (s.given i / 3) i l)) passes s.mail
  where
    no : (b : Bool) → (b ≡ true → ⊥) → not b ≡ true
    no true f = absurd (f refl)
    no false f = refl

    passes : (l : Letter X P) → is_for p r j l ≡ true → not (is_for p (s.given i / 3) i l) ≡ true
    passes l e = no (is_for p (s.given i / 3) i l) (λ f. let a = for_is p r j l e in let b = for_is p (s.given i / 3) i l f in apart (sym a.reader ∙ b.reader) (sym a.round ∙ b.round))
left_letters p s i j r apart false = refl

-- no event but its own give changes what a task that is out reads
pub letters_stay : {X L P : Type 0} (p : Plan X) (m : Machine X L P) → IsPlan p → (s : State X L P) → Orderly p s → (e : Event) (i : ℕ) → is_legal p s e ≡ true → is_own i e ≡ false → is_some (s.out i) ≡ true → to_read p (step p m s e) i ≡ to_read p s i
letters_stay p m plan s o (take seat j) i legal own out = refl
letters_stay {X} {L} {P} p m plan s o (give seat j) i legal own out =
    let ne = eqb-false i j own in
    ap (λ g. cond (is_reading p g) (filter (is_for p (g / 3) i) (left p s j)) []) (put_other s.given j i (s.given j + 1) ne)
    ∙ ap (λ (ls : List (Letter X P)). cond (is_reading p (s.given i)) ls []) (left_letters p s j i (s.given i / 3) (λ e _. ne e) (is_reading p (s.given j)))
letters_stay {X} {L} {P} p m plan s o (deliver seat k) i legal own out =
    let f = found (λ (l : Letter X P). l.number == k) s.wire legal in
    subst (λ (v : Option (Letter X P)). to_read p (delivered p m s k v) i ≡ to_read p s i) (sym f.1) (by f.0 f.1 (is_reading p (s.given i)) refl)
  where
    by : (l : Letter X P) → find (λ (y : Letter X P). y.number == k) s.wire ≡ Some l → (b : Bool) → is_reading p (s.given i) ≡ b → cond b (filter (is_for p (s.given i / 3) i) (s.mail ++ l ∷ [])) [] ≡ cond b (filter (is_for p (s.given i / 3) i) s.mail) []
    by l is false e = refl
    by l is true e = filter_push_no (is_for p (s.given i / 3) i) s.mail l (false_from_ne_true (is_for p (s.given i / 3) i l) (λ t.
        let a = for_is p (s.given i / 3) i l t in
        let went : went_out p s (p.to l.of) l.round ≡ true =
        subst (λ j. went_out p s j l.round ≡ true) (sym a.reader) (and_from (is_some (s.out i)) (is_reading p (s.given i) && s.given i / 3 == l.round) out (and_from (is_reading p (s.given i)) (s.given i / 3 == l.round) e (eq-eqb (s.given i / 3) l.round (sym a.round)))) in
        true≢false (sym went ∙ not_yet_out p plan s o k l is)))

-- what is found among all is found among those that pass
found_kept_at : {A : Type 0} (t q : A → Bool) (x : A) (xs : List A) → (t x ≡ true → q x ≡ true) → find t (filter q xs) ≡ find t xs → (b : Bool) → q x ≡ b → find t (cond b (x ∷ filter q xs) (filter q xs)) ≡ find t (x ∷ xs)
found_kept_at {A} t q x xs h again true e = ap (λ (o : Option A). cond (t x) (Some x) o) again
found_kept_at {A} t q x xs h again false e = again ∙ sym (by (t x) refl)
  where
    by : (b : Bool) → t x ≡ b → cond b (Some x) (find t xs) ≡ find t xs
    by true f = absurd (true≢false (sym (h f) ∙ e))
    by false f = refl

found_kept : {A : Type 0} (t q : A → Bool) → ((x : A) → t x ≡ true → q x ≡ true) → (xs : List A) → find t (filter q xs) ≡ find t xs
found_kept t q h [] = refl
found_kept t q h (x ∷ xs) = found_kept_at t q x xs (h x) (found_kept t q h xs) (q x) refl

pub reads_its_letters : {X L P : Type 0} (p : Plan X) (m : Machine X L P) (s : State X L P) (i : ℕ) (x : X) → IsPlan p → is_reading p (s.given i) ≡ true → p.to x ≡ i →
    reads p m s (s.given i / 3) x ≡ content_of (m.blank x) (find (is_of p (s.given i / 3) x) (to_read p s i))
reads_its_letters {X} {L} {P} p m s i x plan reading to =
    ap (λ (o : Option (Letter X P)). content_of (m.blank x) o)
    (sym (ap (λ (b : Bool). find (is_of p (s.given i / 3) x) (cond b (filter (is_for p (s.given i / 3) i) s.mail) [])) reading
    ∙ found_kept (is_of p (s.given i / 3) x) (is_for p (s.given i / 3) i) (λ l e. let f = of_is p plan (s.given i / 3) x l e in is_for_from p (s.given i / 3) i l f.round (ap p.to (sym f.of) ∙ to)) s.mail))
