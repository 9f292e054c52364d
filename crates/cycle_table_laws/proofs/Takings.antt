-- A task is taken: the tables show the next state.
use Rattle.std.proofs.Common.{◌≡◌, ◌≢◌, ◌∙◌, sym, ap, subst, refl, inl, inr, ℕ, ◌+◌, ◌*◌, ◌/◌, ◌%◌, ◌<◌, ◌≤◌, ◌==◌, Bool, true, false, cond, ◌&&◌, nat_lt, Option, Some, is_some, List, [], length, filter, count_by, slice_index_or, slice_set, arith}
use Rattle.std.specs.List.{AllZip}
use Rattle.std.proofs.lemmas.Bool.{and_from, and_left, and_parts, and_right, cases_eq, eq-eqb, eqb-true, ltb-true, ne_eqb}
use Rattle.std.proofs.lemmas.List.{get_or-set_other, get_or-set_same, length-set}
use Rattle.cycle_rounds.specs.Plan.{IsPlan, Plan, is_reading, round_tasks}
use Rattle.cycle_rounds.specs.Events.{Machine, State, is_for, may_take, step}
use Rattle.cycle_rounds.specs.Events.Event.{take}
use Rattle.cycle_rounds.specs.Readiness.{due_to}
use Rattle.cycle_rounds.proofs.Lists.{count_without, one_if, put_other, put_same}
use Rattle.cycle_rounds.proofs.Orderly.{Orderly, is_for_from}
use Rattle.cycle_rounds.proofs.OrderlySteps.{Takes, ready_read, takes_is}
use Rattle.cycle_rounds.proofs.Ready.{come_by, come_most}
use Rattle.cycle_tables.specs.declared.letter.Letter.{Letter as Posted}
use Rattle.cycle_tables.specs.declared.list_state.ListState.{ListState}
use Rattle.cycle_tables.specs.Tables.{NoneComing, Protocol, due_in, letters_at, letters_of, mail_of, no_list, post_of, reads, state_of, with_mail}
use Rattle.cycle_table_laws.specs.Shows.{Shows, StandsFor, in_mailbox, went_out}
use Rattle.cycle_table_laws.specs.Laws.{TakesAs, to_read}
use Rattle.cycle_table_laws.proofs.Readies.{gone_out, not_out}
use Rattle.cycle_table_laws.proofs.Wires.{taken_off}
use Rattle.cycle_table_laws.proofs.Zips.{same_field, set_put, zip_as}

-- the mail of which one mailbox has other letters
pub mail_same : {T : Type 0} (mail : List (List (List (Posted T)))) (i r : ℕ) (ls : List (Posted T)) → i < length mail → r < length (slice_index_or mail i []) → letters_at (with_mail mail i r ls) i r ≡ ls
mail_same {T} mail i r ls h k =
    ap (λ (row : List (List (Posted T))). slice_index_or row r []) (get_or-set_same mail i (slice_set (slice_index_or mail i []) r ls) [] h) ∙ get_or-set_same (slice_index_or mail i []) r ls [] k

pub mail_other : {T : Type 0} (mail : List (List (List (Posted T)))) (i r : ℕ) (ls : List (Posted T)) (j q : ℕ) → (j ≡ i → q ≡ r → ⊥) → letters_at (with_mail mail i r ls) j q ≡ letters_at mail j q
mail_other {T} mail i r ls j q apart = elim (cases_eq q r) [
  | inl same ↦ ap (λ (row : List (List (Posted T))). slice_index_or row q []) (get_or-set_other mail i j (slice_set (slice_index_or mail i []) r ls) [] (λ e. apart e same))
  | inr ne ↦ same_field (λ (row : List (List (Posted T))). slice_index_or row q []) mail i (slice_set (slice_index_or mail i []) r ls) [] j (get_or-set_other (slice_index_or mail i []) r q ls [] ne)
]

pub mail_rows : {T : Type 0} (mail : List (List (List (Posted T)))) (i r : ℕ) (ls : List (Posted T)) (j : ℕ) → length (slice_index_or (with_mail mail i r ls) j []) ≡ length (slice_index_or mail j [])
mail_rows {T} mail i r ls j = same_field (λ (row : List (List (Posted T))). length row) mail i (slice_set (slice_index_or mail i []) r ls) [] j (length-set (slice_index_or mail i []) r ls)

-- a letter on the wire is counted
pub on_wire_counted : {X L P T : Type 0} (p : Plan X) (R : T → X → P → Type 0) (s : State X L P) (v : Protocol T) → Shows p R s v → (k : ℕ) (l : Posted T) → post_of v k ≡ Some l → 1 ≤ count_by (is_for p l.round l.to) s.wire
on_wire_counted {X} {L} {P} {T} p R s v h k l e =
    let t = taken_off p R 0 v.posts s.wire k l (λ j m f. let n = h.numbers j m f in omega arith) h.wire e in
    let c = count_without (0 + k) (is_for p l.round l.to) t.letter s.wire t.found in
    let one = one_if (is_for p l.round l.to t.letter) (is_for_from p l.round l.to t.letter (sym t.stands.round) (sym t.stands.to)) in
    omega arith

module _ {X L P T : Type 0} (p : Plan X) (plan : IsPlan p) (m : Machine X L P) (R : T → X → P → Type 0) (s : State X L P) (o : Orderly p s) (v : Protocol T) (h : Shows p R s v) (seat i : ℕ) (may : may_take p s i ≡ true) where
  can : Takes p s i
  can = takes_is p s i may

  given_is : (state_of v i).given ≡ s.given i
  given_is = h.given i can.list

  reads_is : reads v i ≡ is_reading p (s.given i)
  reads_is = ap (λ n. nat_lt (state_of v i).given (3 * n) && (state_of v i).given % 3 == 1) h.plan.rounds ∙ ap (λ g. nat_lt g (3 * p.rounds) && g % 3 == 1) given_is

  -- a reading is of a round
  record Reading : Type 0 where
    round : s.given i / 3 < p.rounds
    at : s.given i ≡ 3 * (s.given i / 3) + 1

  reading : is_reading p (s.given i) ≡ true → Reading
  reading e =
      let a = and_parts (nat_lt (s.given i) (round_tasks p)) (s.given i % 3 == 1) e in
      let b = ltb-true (s.given i) (round_tasks p) a.0 in
      let c = eqb-true (s.given i % 3) 1 a.1 in
      record { round = omega arith; at = omega arith }

  free_before : (r : ℕ) → went_out p s i r ≡ false
  free_before r = and_left (is_some (s.out i)) (is_reading p (s.given i) && s.given i / 3 == r) can.free

  none_coming : NoneComing v i
  none_coming k l reads e to round =
      let r = reading (sym reads_is ∙ reads) in
      let low = r.round in
      let have : (count_by (is_for p (s.given i / 3) i) s.mail == due_to p i (s.given i / 3)) ≡ true = sym (come_by p plan s o (s.given i / 3) i) ∙ ready_read p s i (s.given i / 3) r.round r.at can.ready in
      let all = eqb-true (count_by (is_for p (s.given i / 3) i) s.mail) (due_to p i (s.given i / 3)) have in
      let most = come_most p plan s o (s.given i / 3) i in
      let one = on_wire_counted p R s v h k l e in
      let same : count_by (is_for p l.round l.to) s.wire ≡ count_by (is_for p (s.given i / 3) i) s.wire =
      ap (λ q. count_by (is_for p q l.to) s.wire) (round ∙ ap (λ g. g / 3) given_is) ∙ ap (λ j. count_by (is_for p (s.given i / 3) j) s.wire) to in
      omega arith

  letters : AllZip (StandsFor p R) (letters_of v i) (to_read p s i)
  letters = subst (λ (b : Bool). AllZip (StandsFor p R) (cond b (mail_of v i ((state_of v i).given / 3)) []) (to_read p s i)) (sym reads_is) (by (is_reading p (s.given i)) refl)
    where
      by : (b : Bool) → is_reading p (s.given i) ≡ b → AllZip (StandsFor p R) (cond b (mail_of v i ((state_of v i).given / 3)) []) (cond b (filter (is_for p (s.given i / 3) i) s.mail) [])
      by false e = tt
      by true e = zip_as (StandsFor p R) (mail_of v i (s.given i / 3)) (mail_of v i ((state_of v i).given / 3)) (in_mailbox p s i (s.given i / 3)) (filter (is_for p (s.given i / 3) i) s.mail)
          (ap (λ g. mail_of v i (g / 3)) given_is) (sym (not_out p s i (s.given i / 3) (free_before (s.given i / 3)))) (h.mail i (s.given i / 3) can.list (reading e).round)

  abbrev new_state : ListState
  new_state = record (state_of v i) { out = Some seat }

  in_lists : i < length v.lists
  in_lists = let n = h.plan.lists in let c = can.list in omega arith

  in_mail : i < length v.mail
  in_mail = let n = h.plan.boxes in let c = can.list in omega arith

  abbrev mail_with : Bool → List (List (List (Posted T)))
  mail_with b = cond b (with_mail v.mail i ((state_of v i).given / 3) []) v.mail

  count_is : (b : Bool) → length (mail_with b) ≡ length v.mail
  count_is true = length-set v.mail i (slice_set (slice_index_or v.mail i []) ((state_of v i).given / 3) [])
  count_is false = refl

  rows_are : (b : Bool) (j : ℕ) → length (slice_index_or (mail_with b) j []) ≡ length (slice_index_or v.mail j [])
  rows_are true j = mail_rows v.mail i ((state_of v i).given / 3) [] j
  rows_are false j = refl

  -- the mailboxes of the other lists
  other_list : (b : Bool) (j r : ℕ) → j ≢ i → letters_at (mail_with b) j r ≡ mail_of v j r
  other_list true j r ne = mail_other v.mail i ((state_of v i).given / 3) [] j r (λ e _. ne e)
  other_list false j r ne = refl

  next : State X L P
  next = step p m s (take seat i)

  went : (r : ℕ) → went_out p (step p m s (take seat i)) i r ≡ (is_reading p (s.given i) && s.given i / 3 == r)
  went r = ap (λ (out : Option ℕ). is_some out && (is_reading p (s.given i) && s.given i / 3 == r)) (put_same s.out i i (Some seat) refl)

  mail_of_list : (r : ℕ) → r < p.rounds → (b : Bool) → is_reading p (s.given i) ≡ b → AllZip (StandsFor p R) (letters_at (mail_with b) i r) (in_mailbox p (step p m s (take seat i)) i r)
  mail_of_list r low false e =
      zip_as (StandsFor p R) (mail_of v i r) (mail_of v i r) (in_mailbox p s i r) (in_mailbox p (step p m s (take seat i)) i r) refl
      (not_out p (step p m s (take seat i)) i r (went r ∙ and_left (is_reading p (s.given i)) (s.given i / 3 == r) e) ∙ sym (not_out p s i r (free_before r))) (h.mail i r can.list low)
  mail_of_list r low true e = elim (cases_eq r (s.given i / 3)) [
    | inl same ↦ zip_as (StandsFor p R) [] (letters_at (with_mail v.mail i ((state_of v i).given / 3) []) i r) [] (in_mailbox p (step p m s (take seat i)) i r)
        (ap (λ q. letters_at (with_mail v.mail i ((state_of v i).given / 3) []) i q) (same ∙ ap (λ g. g / 3) (sym given_is)) ∙ mail_same v.mail i ((state_of v i).given / 3) [] in_mail (let n = h.plan.each_round i can.list in let q : (state_of v i).given / 3 ≡ r = ap (λ g. g / 3) given_is ∙ sym same in omega arith))
        (gone_out p (step p m s (take seat i)) i r (went r ∙ and_from (is_reading p (s.given i)) (s.given i / 3 == r) e (eq-eqb (s.given i / 3) r (sym same)))) tt
    | inr ne ↦ zip_as (StandsFor p R) (mail_of v i r) (letters_at (with_mail v.mail i ((state_of v i).given / 3) []) i r) (in_mailbox p s i r) (in_mailbox p (step p m s (take seat i)) i r)
        (mail_other v.mail i ((state_of v i).given / 3) [] i r (λ _ f. ne (f ∙ ap (λ g. g / 3) given_is)))
        (not_out p (step p m s (take seat i)) i r (went r ∙ and_right (is_reading p (s.given i)) (s.given i / 3 == r) (ne_eqb (s.given i / 3) r (λ f. ne (sym f)))) ∙ sym (not_out p s i r (free_before r))) (h.mail i r can.list low)
  ]

  mail_next : (j r : ℕ) → j < p.lists → r < p.rounds → AllZip (StandsFor p R) (letters_at (mail_with (reads v i)) j r) (in_mailbox p (step p m s (take seat i)) j r)
  mail_next j r list round = elim (cases_eq j i) [
    | inl same ↦ subst (λ k. AllZip (StandsFor p R) (letters_at (mail_with (reads v i)) k r) (in_mailbox p (step p m s (take seat i)) k r)) (sym same)
        (subst (λ (b : Bool). AllZip (StandsFor p R) (letters_at (mail_with b) i r) (in_mailbox p (step p m s (take seat i)) i r)) (sym reads_is) (mail_of_list r round (is_reading p (s.given i)) refl))
    | inr ne ↦ zip_as (StandsFor p R) (mail_of v j r) (letters_at (mail_with (reads v i)) j r) (in_mailbox p s j r) (in_mailbox p (step p m s (take seat i)) j r) (other_list (reads v i) j r ne)
        (ap (λ (out : Option ℕ). cond (is_some out && (is_reading p (s.given j) && s.given j / 3 == r)) [] (filter (is_for p r j) s.mail)) (put_other s.out i j (Some seat) ne)) (h.mail j r list round)
  ]

  pub takes_as : TakesAs p m R s v seat i
  takes_as = record {
    none_coming = none_coming;
    letters = letters;
    shows = record {
      plan = record {
        rounds = h.plan.rounds;
        tail = h.plan.tail;
        lists = length-set v.lists i new_state ∙ h.plan.lists;
        boxes = count_is (reads v i) ∙ h.plan.boxes;
        each_round = λ j low. rows_are (reads v i) j ∙ h.plan.each_round j low;
        due = λ j r low round. same_field (λ (l : ListState). due_in l.due r) v.lists i new_state no_list j refl ∙ h.plan.due j r low round;
      };
      given = λ j low. same_field (λ (l : ListState). l.given) v.lists i new_state no_list j refl ∙ h.given j low;
      out = set_put (λ (l : ListState). l.out) v.lists i p.lists new_state no_list s.out (Some seat) in_lists refl h.out;
      sent = h.sent;
      wire = h.wire;
      numbers = h.numbers;
      mail = mail_next;
    };
  }
