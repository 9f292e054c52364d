-- The work on a task is given: the tables show the next state.
use Rattle.std.proofs.Common.{◌≡◌, ◌∙◌, sym, ap, subst, refl, inl, inr, ℕ, zero, suc, ◌+◌, ◌-◌, ◌*◌, ◌/◌, ◌%◌, ◌<◌, ◌≤◌, ◌==◌, Bool, true, false, cond, not, ◌&&◌, nat_lt, Option, Some, None, is_some, List, [], ◌∷◌, ◌++◌, length, filter, slice_index_or, All, arith}
use Rattle.std.specs.List.{AllZip}
use Rattle.std.proofs.lemmas.Bool.{and_from, and_left, and_right, cases_eq, cases_lt, eq-eqb, ne_eqb}
use Rattle.std.proofs.lemmas.List.{get_or_append_left, get_or-append_right, length-append, length-set}
use Rattle.cycle_rounds.specs.Plan.{IsPlan, Plan, is_reading, is_sending}
use Rattle.cycle_rounds.specs.Events.{Each, Letter, Machine, State, is_for, is_legal, left, letters, posted, put, step}
use Rattle.cycle_rounds.specs.Events.Event.{give}
use Rattle.cycle_rounds.specs.Protocol.{all_due}
use Rattle.cycle_rounds.proofs.Each.{each_any, each_filter, each_in}
use Rattle.cycle_rounds.proofs.Lists.{put_other, put_same}
use Rattle.cycle_rounds.proofs.Orderly.{for_is, is_for_from}
use Rattle.cycle_rounds.proofs.OrderlySteps.{Gives, gives_is}
use Rattle.cycle_tables.specs.declared.letter.Letter.{Letter as Posted}
use Rattle.cycle_tables.specs.declared.letter.Post.{Post}
use Rattle.cycle_tables.specs.declared.list_state.ListState.{ListState}
use Rattle.cycle_tables.specs.Tables as tables
use Rattle.cycle_tables.specs.Tables.{GoesTo, Protocol, due_in, given, mail_of, no_list, numbered, post_of, state_of}
use Rattle.cycle_tables.proofs.Posts.{length_numbered}
use Rattle.cycle_table_laws.specs.Shows.{Shows, StandsFor, WillStandFor, in_mailbox, on_wire, went_out}
use Rattle.cycle_table_laws.specs.Laws.{GivesAs}
use Rattle.cycle_table_laws.proofs.Leases.{left_letters}
use Rattle.cycle_table_laws.proofs.Readies.{gone_out, not_out}
use Rattle.cycle_table_laws.proofs.Wires.{numbers_of, put_on, wire_append}
use Rattle.cycle_table_laws.proofs.Zips.{filter_gone, same_field, set_put, zip_append, zip_as, zip_length}

no_letter : {A : Type 0} (qs : List A) → length qs ≡ 0 → qs ≡ []
no_letter [] e = refl
no_letter (q ∷ qs) e = absurd (omega arith)

-- the letters of a round go to lists that there are
go_to : {X P T : Type 0} (p : Plan X) (R : T → X → P → Type 0) (n k r : ℕ) (content : X → P) (xs : List X) (qs : List (Post T)) → Each (λ x. p.to x < n) xs → AllZip (WillStandFor p R) qs (letters k r content xs) → All (GoesTo n) qs
go_to {X} {P} {T} p R n k r content [] [] each h = λ j d low. absurd (nowhere j low)
  where
    nowhere : (j : ℕ) → j < 0 → ⊥
    nowhere j low = omega arith
go_to p R n k r content [] (q ∷ qs) each h = absurd h
go_to p R n k r content (x ∷ xs) [] each h = absurd h
go_to {X} {P} {T} p R n k r content (x ∷ xs) (q ∷ qs) each h = λ j d low. by (go_to p R n (suc k) r content xs qs each.1 h.1) j d low
  where
    by : All (GoesTo n) qs → (j : ℕ) (d : Post T) → j < suc (length qs) → (slice_index_or (q ∷ qs) j d).to < n
    by rest zero d low = let t = h.0.to in let e = each.0 in omega arith
    by rest (suc j) d low = rest j d (omega arith)

module _ {X L P T : Type 0} (p : Plan X) (plan : IsPlan p) (m : Machine X L P) (R : T → X → P → Type 0) (s : State X L P) (v : Protocol T) (h : Shows p R s v) (seat i : ℕ) (legal : is_legal p s (give seat i) ≡ true)
    (qs : List (Post T)) (stand : AllZip (WillStandFor p R) qs (posted p m s i)) (few : s.sent + length (posted p m s i) ≤ all_due p) where
  gives : Gives p s i
  gives = gives_is p s seat i legal

  given_is : (state_of v i).given ≡ s.given i
  given_is = h.given i gives.list

  in_lists : i < length v.lists
  in_lists = let n = h.plan.lists in let c = gives.list in omega arith

  sending_is : tables.is_sending v.rounds (state_of v i).given ≡ is_sending p (s.given i)
  sending_is = ap (λ n. nat_lt (state_of v i).given (3 * n) && (state_of v i).given % 3 == 0) h.plan.rounds ∙ ap (λ g. nat_lt g (3 * p.rounds) && g % 3 == 0) given_is

  abbrev sent_by : Bool → List (Letter X P)
  sent_by b = cond b (letters s.sent (s.given i / 3) (λ x. m.letter (s.given i / 3) x (s.local i)) (filter (λ x. p.from x == i) (p.due (s.given i / 3)))) []

  sends : is_sending p (s.given i) ≡ false → qs ≡ []
  sends e = no_letter qs (zip_length (WillStandFor p R) qs (posted p m s i) stand ∙ ap (λ (b : Bool). length (sent_by b)) e)

  receivers_by : (b : Bool) → AllZip (WillStandFor p R) qs (sent_by b) → All (GoesTo p.lists) qs
  receivers_by true z = go_to p R p.lists s.sent (s.given i / 3) (λ x. m.letter (s.given i / 3) x (s.local i)) (filter (λ x. p.from x == i) (p.due (s.given i / 3))) qs
      (each_filter (λ x. p.to x < p.lists) (λ x. p.from x == i) (p.due (s.given i / 3)) (each_in (λ _. Unit {0}) (λ x. p.to x < p.lists) p.same plan.is_same (p.due (s.given i / 3)) (λ x due _. plan.reader (s.given i / 3) x due) (each_any (p.due (s.given i / 3))))) z
  receivers_by false z = subst (λ (ps : List (Post T)). All (GoesTo p.lists) ps) (sym (no_letter qs (zip_length (WillStandFor p R) qs [] z))) (λ j d low. absurd (omega arith))

  -- the letters on the wire then
  new_on_wire : (b : Bool) → AllZip (WillStandFor p R) qs (sent_by b) → AllZip (StandsFor p R) (on_wire (numbered s.sent (s.given i / 3) qs)) (sent_by b)
  new_on_wire true z = put_on p R s.sent (s.given i / 3) (λ x. m.letter (s.given i / 3) x (s.local i)) (filter (λ x. p.from x == i) (p.due (s.given i / 3))) qs z
  new_on_wire false z = subst (λ (ps : List (Post T)). AllZip (StandsFor p R) (on_wire (numbered s.sent (s.given i / 3) ps)) []) (sym (no_letter qs (zip_length (WillStandFor p R) qs [] z))) tt

  abbrev more : List (Option (Posted T))
  more = numbered (length v.posts) ((state_of v i).given / 3) qs

  more_is : more ≡ numbered s.sent (s.given i / 3) qs
  more_is = ap (λ n. numbered n ((state_of v i).given / 3) qs) h.sent ∙ ap (λ g. numbered s.sent (g / 3) qs) given_is

  wire_next : AllZip (StandsFor p R) (on_wire (v.posts ++ more)) (s.wire ++ posted p m s i)
  wire_next = subst (λ (ls : List (Posted T)). AllZip (StandsFor p R) ls (s.wire ++ posted p m s i)) (sym (wire_append v.posts more))
      (zip_append (StandsFor p R) (on_wire v.posts) s.wire (on_wire more) (posted p m s i) h.wire
      (subst (λ (ps : List (Option (Posted T))). AllZip (StandsFor p R) (on_wire ps) (posted p m s i)) (sym more_is) (new_on_wire (is_sending p (s.given i)) stand)))

  numbers_next : (k : ℕ) (l : Posted T) → slice_index_or (v.posts ++ more) k None ≡ Some l → l.number ≡ k
  numbers_next k l e = elim (cases_lt k (length v.posts)) [
    | inl low ↦ h.numbers k l (sym (get_or_append_left v.posts more None k low) ∙ e)
    | inr high ↦ (let n = numbers_of (length v.posts) ((state_of v i).given / 3) qs (k - length v.posts) l (sym (get_or-append_right v.posts more (length v.posts) k None refl high) ∙ e) in omega arith)
  ]

  -- the letters of a mailbox that are left
  abbrev left_by : Bool → List (Letter X P)
  left_by b = cond b (filter (λ l. not (is_for p (s.given i / 3) i l)) s.mail) s.mail

  gone : (r : ℕ) → r ≡ s.given i / 3 → filter (is_for p r i) (filter (λ l. not (is_for p (s.given i / 3) i l)) s.mail) ≡ []
  gone r e = filter_gone (is_for p r i) (λ l. not (is_for p (s.given i / 3) i l)) (λ l f. let a = for_is p r i l f in ap not (is_for_from p (s.given i / 3) i l (a.round ∙ e) a.reader)) s.mail

  not_out_now : (r : ℕ) → went_out p (step p m s (give seat i)) i r ≡ false
  not_out_now r = ap (λ (out : Option ℕ). is_some out && (is_reading p (put s.given i (s.given i + 1) i) && put s.given i (s.given i + 1) i / 3 == r)) (put_same s.out i i None refl)

  out_before : (r : ℕ) → went_out p s i r ≡ (is_reading p (s.given i) && s.given i / 3 == r)
  out_before r = ap (λ (b : Bool). b && (is_reading p (s.given i) && s.given i / 3 == r)) gives.busy

  of_list : (r : ℕ) → r < p.rounds → (b : Bool) → is_reading p (s.given i) ≡ b → AllZip (StandsFor p R) (mail_of v i r) (filter (is_for p r i) (left_by b))
  of_list r low false e =
      zip_as (StandsFor p R) (mail_of v i r) (mail_of v i r) (in_mailbox p s i r) (filter (is_for p r i) s.mail) refl
      (sym (not_out p s i r (out_before r ∙ and_left (is_reading p (s.given i)) (s.given i / 3 == r) e))) (h.mail i r gives.list low)
  of_list r low true e = elim (cases_eq r (s.given i / 3)) [
    | inl same ↦ zip_as (StandsFor p R) (mail_of v i r) (mail_of v i r) (in_mailbox p s i r) (filter (is_for p r i) (filter (λ l. not (is_for p (s.given i / 3) i l)) s.mail)) refl
        (gone r same ∙ sym (gone_out p s i r (out_before r ∙ and_from (is_reading p (s.given i)) (s.given i / 3 == r) e (eq-eqb (s.given i / 3) r (sym same))))) (h.mail i r gives.list low)
    | inr ne ↦ zip_as (StandsFor p R) (mail_of v i r) (mail_of v i r) (in_mailbox p s i r) (filter (is_for p r i) (filter (λ l. not (is_for p (s.given i / 3) i l)) s.mail)) refl
        (left_letters p s i i r (λ _ f. ne f) true ∙ sym (not_out p s i r (out_before r ∙ and_right (is_reading p (s.given i)) (s.given i / 3 == r) (ne_eqb (s.given i / 3) r (λ f. ne (sym f)))))) (h.mail i r gives.list low)
  ]

  mail_next : (j r : ℕ) → j < p.lists → r < p.rounds → AllZip (StandsFor p R) (mail_of v j r) (in_mailbox p (step p m s (give seat i)) j r)
  mail_next j r list round = elim (cases_eq j i) [
    | inl same ↦ subst (λ k. AllZip (StandsFor p R) (mail_of v k r) (in_mailbox p (step p m s (give seat i)) k r)) (sym same)
        (zip_as (StandsFor p R) (mail_of v i r) (mail_of v i r) (filter (is_for p r i) (left p s i)) (in_mailbox p (step p m s (give seat i)) i r) refl
        (not_out p (step p m s (give seat i)) i r (not_out_now r)) (of_list r round (is_reading p (s.given i)) refl))
    | inr ne ↦ zip_as (StandsFor p R) (mail_of v j r) (mail_of v j r) (in_mailbox p s j r) (in_mailbox p (step p m s (give seat i)) j r) refl
        (ap (λ (out : Option ℕ). cond (is_some out && (is_reading p (put s.given i (s.given i + 1) j) && put s.given i (s.given i + 1) j / 3 == r)) [] (filter (is_for p r j) (left p s i))) (put_other s.out i j None ne)
        ∙ ap (λ g. cond (is_some (s.out j) && (is_reading p g && g / 3 == r)) [] (filter (is_for p r j) (left p s i))) (put_other s.given i j (s.given i + 1) ne)
        ∙ ap (λ (ls : List (Letter X P)). cond (went_out p s j r) [] ls) (left_letters p s i j r (λ e _. ne e) (is_reading p (s.given i)))) (h.mail j r list round)
  ]

  abbrev new_state : ListState
  new_state = record (state_of v i) { given = (state_of v i).given + 1; out = None }

  same_count : length qs ≡ length (posted p m s i)
  same_count = zip_length (WillStandFor p R) qs (posted p m s i) stand

  pub gives_as : GivesAs p m R s v seat i qs
  gives_as = record {
    list = in_lists;
    out = ap (λ (out : Option ℕ). is_some out) (h.out i gives.list) ∙ gives.busy;
    sends = λ e. sends (sym sending_is ∙ e);
    receivers = subst (λ n. All (GoesTo n) qs) (sym h.plan.lists) (receivers_by (is_sending p (s.given i)) stand);
    numbers = (let a = same_count in let b = h.sent in let c = few in omega arith);
    shows = record {
      plan = record {
        rounds = h.plan.rounds;
        tail = h.plan.tail;
        lists = length-set v.lists i new_state ∙ h.plan.lists;
        boxes = h.plan.boxes;
        each_round = h.plan.each_round;
        due = λ j r low round. same_field (λ (l : ListState). due_in l.due r) v.lists i new_state no_list j refl ∙ h.plan.due j r low round;
      };
      given = set_put (λ (l : ListState). l.given) v.lists i p.lists new_state no_list s.given (s.given i + 1) in_lists (ap (λ g. g + 1) given_is) h.given;
      out = set_put (λ (l : ListState). l.out) v.lists i p.lists new_state no_list s.out None in_lists refl h.out;
      sent = length-append v.posts more ∙ ap (λ n. length v.posts + n) (length_numbered (length v.posts) ((state_of v i).given / 3) qs ∙ same_count) ∙ ap (λ n. n + length (posted p m s i)) h.sent;
      wire = wire_next;
      numbers = numbers_next;
      mail = mail_next;
    };
  }
