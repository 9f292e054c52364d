-- A letter is delivered, and a cycle begins: what the tables show.
use Rattle.std.proofs.Common.{◌≡◌, ◌≢◌, ◌⊎◌, ◌∙◌, sym, ap, subst, refl, inl, inr, ℕ, ◌+◌, ◌<◌, true, false, cond, Option, Some, None, List, [], ◌∷◌, ◌++◌, length, map, replicate, slice_index_or, slice_set, arith}
use Rattle.std.specs.List.{AllZip}
use Rattle.std.proofs.lemmas.Bool.{cases_eq, false_from_ne_true}
use Rattle.std.proofs.lemmas.List.{get_or-map, get_or-replicate, length-map, length-replicate, length-set}
use Rattle.cycle_rounds.specs.Plan.{IsPlan, Plan}
use Rattle.cycle_rounds.specs.Events.{Letter, Machine, State, begin, delivered, is_for, step}
use Rattle.cycle_rounds.specs.Events.Event.{deliver}
use Rattle.cycle_rounds.proofs.Orderly.{Orderly, for_is, is_for_from}
use Rattle.cycle_rounds.proofs.Ready.{come_most}
use Rattle.cycle_tables.specs.declared.letter.Letter.{Letter as Posted}
use Rattle.cycle_tables.specs.declared.list_state.Due.{Due}
use Rattle.cycle_tables.specs.declared.list_state.ListState.{ListState}
use Rattle.cycle_tables.specs.Tables.{HasPlace, Protocol, at_start, begun, delivered_by, due_in, letters_at, mail_of, no_list, post_of, with_mail}
use Rattle.cycle_tables.proofs.Entries.{not_there, still_there}
use Rattle.cycle_table_laws.specs.Shows.{Shows, StandsFor, in_mailbox, went_out}
use Rattle.cycle_table_laws.specs.Laws.{DeliversAs, IsDueOf}
use Rattle.cycle_table_laws.proofs.Leases.{not_yet_out, under_way}
use Rattle.cycle_table_laws.proofs.Readies.{box_count, not_out}
use Rattle.cycle_table_laws.proofs.Takings.{mail_other, mail_rows, mail_same, on_wire_counted}
use Rattle.cycle_table_laws.proofs.Wires.{TakenOff, taken_off}
use Rattle.cycle_table_laws.proofs.Zips.{filter_push_no, filter_push_yes, zip_append, zip_as}

module _ {X L P T : Type 0} (p : Plan X) (plan : IsPlan p) (m : Machine X L P) (R : T → X → P → Type 0) (s : State X L P) (o : Orderly p s) (v : Protocol T) (h : Shows p R s v) (seat k : ℕ) (l : Posted T) (is : post_of v k ≡ Some l) where
  off : TakenOff p R k v.posts s.wire k l
  off = subst (λ n. TakenOff p R n v.posts s.wire k l) (let z : 0 + k ≡ k = omega arith in z) (taken_off p R 0 v.posts s.wire k l (λ j x f. let n = h.numbers j x f in omega arith) h.wire is)

  abbrev letter : Letter X P
  letter = off.letter

  list : l.to < p.lists
  list = let a = plan.reader letter.round letter.of (under_way p plan s o k letter off.found).due in let b = off.stands.to in omega arith

  round : l.round < p.rounds
  round = let a = (under_way p plan s o k letter off.found).way.round in let b = off.stands.round in omega arith

  -- the letters of its round did not go out yet
  not_out_yet : went_out p s l.to l.round ≡ false
  not_out_yet =
      subst (λ j. went_out p s j l.round ≡ false) (sym off.stands.to) (subst (λ r. went_out p s (p.to letter.of) r ≡ false) (sym off.stands.round) (not_yet_out p plan s o k letter off.found))

  place : HasPlace v l
  place =
      let a = box_count p R s v h l.to l.round list round not_out_yet in
      let b = h.plan.due l.to l.round list round in
      let c = come_most p plan s o l.round l.to in
      let d = on_wire_counted p R s v h k l is in
      omega arith

  in_mail : l.to < length v.mail
  in_mail = let n = h.plan.boxes in let c = list in omega arith

  in_row : l.round < length (slice_index_or v.mail l.to [])
  in_row = let n = h.plan.each_round l.to list in let c = round in omega arith

  for_it : is_for p l.round l.to letter ≡ true
  for_it = is_for_from p l.round l.to letter (sym off.stands.round) (sym off.stands.to)

  other : (j q : ℕ) → j < p.lists → q < p.rounds → (j ≡ l.to → q ≡ l.round → ⊥) → AllZip (StandsFor p R) (letters_at (with_mail v.mail l.to l.round (mail_of v l.to l.round ++ l ∷ [])) j q) (in_mailbox p (delivered p m s k (Some letter)) j q)
  other j q a b apart =
      zip_as (StandsFor p R) (mail_of v j q) (letters_at (with_mail v.mail l.to l.round (mail_of v l.to l.round ++ l ∷ [])) j q) (in_mailbox p s j q) (in_mailbox p (delivered p m s k (Some letter)) j q)
      (mail_other v.mail l.to l.round (mail_of v l.to l.round ++ l ∷ []) j q apart)
      (ap (λ (ls : List (Letter X P)). cond (went_out p s j q) [] ls) (filter_push_no (is_for p q j) s.mail letter
      (false_from_ne_true (is_for p q j letter) (λ e. let f = for_is p q j letter e in apart (sym f.reader ∙ sym off.stands.to) (sym f.round ∙ sym off.stands.round))))) (h.mail j q a b)

  mail_next : (j q : ℕ) → j < p.lists → q < p.rounds → (j ≡ l.to) ⊎ (j ≢ l.to) → (q ≡ l.round) ⊎ (q ≢ l.round) → AllZip (StandsFor p R) (letters_at (with_mail v.mail l.to l.round (mail_of v l.to l.round ++ l ∷ [])) j q) (in_mailbox p (delivered p m s k (Some letter)) j q)
  mail_next j q a b (inl e) (inl f) =
      subst (λ i. AllZip (StandsFor p R) (letters_at (with_mail v.mail l.to l.round (mail_of v l.to l.round ++ l ∷ [])) i q) (in_mailbox p (delivered p m s k (Some letter)) i q)) (sym e)
      (subst (λ r. AllZip (StandsFor p R) (letters_at (with_mail v.mail l.to l.round (mail_of v l.to l.round ++ l ∷ [])) l.to r) (in_mailbox p (delivered p m s k (Some letter)) l.to r)) (sym f)
      (zip_as (StandsFor p R) (mail_of v l.to l.round ++ l ∷ []) (letters_at (with_mail v.mail l.to l.round (mail_of v l.to l.round ++ l ∷ [])) l.to l.round) (in_mailbox p s l.to l.round ++ letter ∷ []) (in_mailbox p (delivered p m s k (Some letter)) l.to l.round)
      (mail_same v.mail l.to l.round (mail_of v l.to l.round ++ l ∷ []) in_mail in_row)
      (not_out p (delivered p m s k (Some letter)) l.to l.round not_out_yet ∙ filter_push_yes (is_for p l.round l.to) s.mail letter for_it ∙ ap (λ (ls : List (Letter X P)). ls ++ letter ∷ []) (sym (not_out p s l.to l.round not_out_yet)))
      (zip_append (StandsFor p R) (mail_of v l.to l.round) (in_mailbox p s l.to l.round) (l ∷ []) (letter ∷ []) (h.mail l.to l.round list round) (off.stands, tt))))
  mail_next j q a b (inl e) (inr ne) = other j q a b (λ _ f. ne f)
  mail_next j q a b (inr ne) either = other j q a b (λ f _. ne f)

  shows_next : Shows p R (delivered p m s k (Some letter)) (delivered_by v k (Some l))
  shows_next = record {
    plan = record {
      rounds = h.plan.rounds;
      tail = h.plan.tail;
      lists = h.plan.lists;
      boxes = length-set v.mail l.to (slice_set (slice_index_or v.mail l.to []) l.round (mail_of v l.to l.round ++ l ∷ [])) ∙ h.plan.boxes;
      each_round = λ j low. mail_rows v.mail l.to l.round (mail_of v l.to l.round ++ l ∷ []) j ∙ h.plan.each_round j low;
      due = h.plan.due;
    };
    given = h.given;
    out = h.out;
    sent = length-set v.posts k None ∙ h.sent;
    wire = off.rest;
    numbers = λ j x e. h.numbers j x (still_there v.posts k j x e).1;
    mail = λ j q a b. mail_next j q a b (cases_eq j l.to) (cases_eq q l.round);
  }

  pub delivers_as : DeliversAs p m R s v seat k l
  delivers_as = record {
    place = place;
    shows = subst (λ (x : Option (Posted T)). Shows p R (step p m s (deliver seat k)) (delivered_by v k x)) (sym is)
        (subst (λ (x : Option (Letter X P)). Shows p R (delivered p m s k x) (delivered_by v k (Some l))) (sym off.found) shows_next);
  }

-- a cycle begins
pub begins : {X L P T : Type 0} (p : Plan X) (m : Machine X L P) (R : T → X → P → Type 0) (due : List Due) → IsDueOf p due → Shows p R (begin m) (at_start p.rounds p.tail due)
begins {X} {L} {P} {T} p m R due d = record {
  plan = record {
    rounds = refl;
    tail = refl;
    lists = length-map due begun ∙ d.lists;
    boxes = length-map due (λ _. no_letters) ∙ d.lists;
    each_round = λ i low. ap (λ (row : List (List (Posted T))). length row) (row_is i low) ∙ length-replicate p.rounds no_letter;
    due = λ i r low round. ap (λ (l : ListState). due_in l.due r) (state_is i low) ∙ d.each i r low round;
  };
  given = λ i low. ap (λ (l : ListState). l.given) (state_is i low);
  out = λ i low. ap (λ (l : ListState). l.out) (state_is i low);
  sent = refl;
  wire = tt;
  numbers = λ k l e. absurd (not_there l e);
  mail = λ i r low round. zip_as (StandsFor p R) [] (letters_at (map (λ _. no_letters) due) i r) [] [] (ap (λ (row : List (List (Posted T))). slice_index_or row r []) (row_is i low) ∙ get_or-replicate p.rounds r no_letter [] round) refl tt;
}
  where
    no_letter : List (Posted T)
    no_letter = []

    no_letters : List (List (Posted T))
    no_letters = replicate p.rounds no_letter

    no_due : Due
    no_due = record { ghosts = 0; fluxes = 0 }

    state_is : (i : ℕ) → i < p.lists → slice_index_or (map begun due) i no_list ≡ begun (slice_index_or due i no_due)
    state_is i low = get_or-map begun due i no_due no_list (let n = d.lists in omega arith)

    row_is : (i : ℕ) → i < p.lists → slice_index_or (map (λ _. no_letters) due) i [] ≡ no_letters
    row_is i low = get_or-map (λ _. no_letters) due i no_due [] (let n = d.lists in omega arith)
