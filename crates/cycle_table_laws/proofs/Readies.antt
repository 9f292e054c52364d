-- Which tasks may be taken, and when all is done: the tables tell it of the state that they show.
use Rattle.std.proofs.Common.{◌≡◌, ◌∙◌, sym, ap, refl, inl, inr, ℕ, zero, suc, ◌+◌, ◌*◌, ◌/◌, ◌%◌, ◌<◌, ◌≤◌, ◌==◌, Bool, true, false, cond, not, ◌&&◌, ◌||◌, nat_lt, nat_le, Option, Some, None, is_some, List, [], ◌∷◌, length, filter, count_by, slice_index_or, arith}
use Rattle.std.specs.List.{list_all, list_any, range_with_len}
use Rattle.std.proofs.lemmas.Bool.{and_left, cases_lt, le-ltb, ltb-true, or_left, or_right, true≢false}
use Rattle.std.proofs.lemmas.List.Sums.{length-filter}
use Rattle.cycle_rounds.specs.Plan.{IsPlan, Plan, all_tasks, is_reading, round_tasks}
use Rattle.cycle_rounds.specs.Events.{Letter, State, has_come, is_complete, is_for, is_past, may_take}
use Rattle.cycle_rounds.specs.Protocol.{CanGoOn}
use Rattle.cycle_rounds.proofs.Lists.{any_count}
use Rattle.cycle_rounds.proofs.Orderly.{Orderly}
use Rattle.cycle_rounds.proofs.Ready.{come_by}
use Rattle.cycle_tables.specs.declared.letter.Letter.{Letter as Posted}
use Rattle.cycle_tables.specs.declared.list_state.ListState.{ListState}
use Rattle.cycle_tables.specs.Tables as tables
use Rattle.cycle_tables.specs.Tables.{Protocol, due_in, is_done, leases, mail_of, no_list, post_of, state_of}
use Rattle.cycle_tables.proofs.Entries.{not_there}
use Rattle.cycle_table_laws.specs.Shows.{Shows, StandsFor, in_mailbox, on_wire, went_out}
use Rattle.cycle_table_laws.specs.Laws.{TellsReadiness}
use Rattle.cycle_table_laws.proofs.Wires.{none_on, number_there}
use Rattle.cycle_table_laws.proofs.Zips.{all_by_places, zip_length}

-- the test of a task, by what it depends on
abbrev test : Option ℕ → ℕ → ℕ → ℕ → Bool → Bool → Bool
test out given rounds tail enough past = not (is_some out) && (nat_lt given (3 * rounds + tail) && cond (nat_lt given (3 * rounds)) (not (nat_lt given (3 * rounds) && given % 3 == 1) || enough) past)

-- whether enough letters came matters for a reading alone
test_same : (out : Option ℕ) (given rounds tail : ℕ) (a b past : Bool) → (is_some out ≡ false → nat_lt given (3 * rounds) ≡ true → a ≡ b) → test out given rounds tail a past ≡ test out given rounds tail b past
test_same (Some seat) given rounds tail a b past h = refl
test_same None given rounds tail a b past h = ap (λ (v : Bool). nat_lt given (3 * rounds + tail) && v) (by (nat_lt given (3 * rounds)) (h refl))
  where
    by : (low : Bool) → (low ≡ true → a ≡ b) → cond low (not (low && given % 3 == 1) || a) past ≡ cond low (not (low && given % 3 == 1) || b) past
    by true f = ap (λ (v : Bool). not (given % 3 == 1) || v) (f refl)
    by false f = refl

-- the letters of a mailbox that did not go out are those that came
pub not_out : {X L P : Type 0} (p : Plan X) (s : State X L P) (i r : ℕ) → went_out p s i r ≡ false → in_mailbox p s i r ≡ filter (is_for p r i) s.mail
not_out {X} {L} {P} p s i r e = ap (λ (b : Bool). cond b [] (filter (is_for p r i) s.mail)) e

pub gone_out : {X L P : Type 0} (p : Plan X) (s : State X L P) (i r : ℕ) → went_out p s i r ≡ true → in_mailbox p s i r ≡ []
gone_out {X} {L} {P} p s i r e = ap (λ (b : Bool). cond b [] (filter (is_for p r i) s.mail)) e

pub box_count : {X L P T : Type 0} (p : Plan X) (R : T → X → P → Type 0) (s : State X L P) (v : Protocol T) → Shows p R s v → (i r : ℕ) → i < p.lists → r < p.rounds → went_out p s i r ≡ false → length (mail_of v i r) ≡ count_by (is_for p r i) s.mail
box_count {X} {L} {P} p R s v h i r low round e =
    zip_length (StandsFor p R) (mail_of v i r) (in_mailbox p s i r) (h.mail i r low round)
    ∙ ap (λ (ls : List (Letter X P)). length ls) (not_out p s i r e) ∙ length-filter (is_for p r i) s.mail

any_at : {A : Type 0} (q : A → Bool) (xs : List A) (i : ℕ) (d : A) → i < length xs → q (slice_index_or xs i d) ≡ true → list_any q xs ≡ true
any_at q [] i d low e = absurd (omega arith)
any_at q (x ∷ xs) zero d low e = or_left (q x) (list_any q xs) e
any_at q (x ∷ xs) (suc i) d low e = or_right (q x) (list_any q xs) (any_at q xs i d (omega arith) e)

nothing_on : {T : Type 0} (posts : List (Option (Posted T))) → ((k : ℕ) → slice_index_or posts k None ≡ None) → length (on_wire posts) ≡ 0
nothing_on [] h = refl
nothing_on (None ∷ posts) h = nothing_on posts (λ k. h (suc k))
nothing_on (Some l ∷ posts) h = absurd (not_there l (sym (h 0)))

module _ {X L P T : Type 0} (p : Plan X) (plan : IsPlan p) (R : T → X → P → Type 0) (s : State X L P) (o : Orderly p s) (go_on : is_complete p s ≡ false → CanGoOn p s) (v : Protocol T) (h : Shows p R s v) where
  past_same : tables.is_past v ≡ is_past p s
  past_same =
      all_by_places (λ (l : ListState). nat_le (3 * v.rounds) l.given) (λ j. nat_le (3 * v.rounds) (s.given j)) v.lists no_list 0 p.lists h.plan.lists
      (λ j low. ap (λ g. nat_le (3 * v.rounds) g) (h.given j low) ∙ ap (λ k. nat_le (3 * v.rounds) (s.given k)) (let z : j ≡ 0 + j = omega arith in z))
      ∙ ap (λ n. list_all (λ j. nat_le (3 * n) (s.given j)) (range_with_len 0 p.lists)) h.plan.rounds

  enough_same : (i : ℕ) → i < p.lists → is_some (s.out i) ≡ false → nat_lt (s.given i) (round_tasks p) ≡ true →
      (length (mail_of v i ((state_of v i).given / 3)) == due_in (state_of v i).due ((state_of v i).given / 3)) ≡ has_come p s.mail (s.given i / 3) i
  enough_same i low out early =
      ap (λ g. length (mail_of v i (g / 3)) == due_in (state_of v i).due (g / 3)) (h.given i low)
      ∙ ap (λ n. n == due_in (state_of v i).due (s.given i / 3)) (box_count p R s v h i (s.given i / 3) low round (ap (λ (b : Bool). b && (is_reading p (s.given i) && s.given i / 3 == s.given i / 3)) out))
      ∙ ap (λ n. count_by (is_for p (s.given i / 3) i) s.mail == n) (h.plan.due i (s.given i / 3) low round)
      ∙ sym (come_by p plan s o (s.given i / 3) i)
    where
      round : s.given i / 3 < p.rounds
      round = let a = ltb-true (s.given i) (round_tasks p) early in omega arith

  pub ready_same : (i : ℕ) → tables.may_take v i ≡ may_take p s i
  ready_same i = elim (cases_lt i p.lists) [
    | inl low ↦ (
        let enough = length (mail_of v i ((state_of v i).given / 3)) == due_in (state_of v i).due ((state_of v i).given / 3) in
        ap (λ (b : Bool). b && test (state_of v i).out (state_of v i).given v.rounds v.tail enough (tables.is_past v)) (ap (λ n. nat_lt i n) h.plan.lists)
        ∙ ap (λ (b : Option ℕ). nat_lt i p.lists && test b (state_of v i).given v.rounds v.tail enough (tables.is_past v)) (h.out i low)
        ∙ ap (λ g. nat_lt i p.lists && test (s.out i) g v.rounds v.tail enough (tables.is_past v)) (h.given i low)
        ∙ ap (λ n. nat_lt i p.lists && test (s.out i) (s.given i) n v.tail enough (tables.is_past v)) h.plan.rounds
        ∙ ap (λ n. nat_lt i p.lists && test (s.out i) (s.given i) p.rounds n enough (tables.is_past v)) h.plan.tail
        ∙ ap (λ (b : Bool). nat_lt i p.lists && test (s.out i) (s.given i) p.rounds p.tail enough b) past_same
        ∙ ap (λ (b : Bool). nat_lt i p.lists && b) (test_same (s.out i) (s.given i) p.rounds p.tail enough (has_come p s.mail (s.given i / 3) i) (is_past p s) (enough_same i low)))
    | inr high ↦ and_left (nat_lt i (length v.lists)) _ (le-ltb i (length v.lists) (let n = h.plan.lists in omega arith)) ∙ sym (and_left (nat_lt i p.lists) _ (le-ltb i p.lists high))
  ]

  pub done_same : is_done v ≡ is_complete p s
  done_same =
      ap (λ (b : Bool). b && not (list_any is_some v.posts))
      (all_by_places (λ (l : ListState). l.given == 3 * v.rounds + v.tail) (λ j. s.given j == 3 * v.rounds + v.tail) v.lists no_list 0 p.lists h.plan.lists
      (λ j low. ap (λ g. g == 3 * v.rounds + v.tail) (h.given j low) ∙ ap (λ k. s.given k == 3 * v.rounds + v.tail) (let z : j ≡ 0 + j = omega arith in z))
      ∙ ap (λ n. list_all (λ j. s.given j == 3 * n + v.tail) (range_with_len 0 p.lists)) h.plan.rounds
      ∙ ap (λ n. list_all (λ j. s.given j == 3 * p.rounds + n) (range_with_len 0 p.lists)) h.plan.tail)
      ∙ ap (λ (b : Bool). list_all (λ j. s.given j == all_tasks p) (range_with_len 0 p.lists) && b) (none_on v.posts ∙ ap (λ n. n == 0) (zip_length (StandsFor p R) (on_wire v.posts) s.wire h.wire))

  -- where nothing may be taken or delivered, some task is out
  leased : is_done v ≡ false → ((i : ℕ) → tables.may_take v i ≡ false) → ((k : ℕ) → post_of v k ≡ None) → 1 ≤ leases v
  leased more none empty = elim (go_on (sym done_same ∙ more)) [
    | inl taken ↦ absurd (true≢false (sym taken.1 ∙ sym (ready_same taken.0) ∙ none taken.0))
    | inr (inl out) ↦ any_count (λ (l : ListState). is_some l.out) v.lists (out_there out.0 out.1 out.2)
    | inr (inr wire) ↦ absurd (let n = zip_length (StandsFor p R) (on_wire v.posts) s.wire h.wire in let e = nothing_on v.posts empty in omega arith)
  ]
    where
      out_there : (i : ℕ) → i < p.lists → is_some (s.out i) ≡ true → list_any (λ (l : ListState). is_some l.out) v.lists ≡ true
      out_there i low out = any_at (λ (l : ListState). is_some l.out) v.lists i no_list (let n = h.plan.lists in omega arith) (ap (λ (x : Option ℕ). is_some x) (h.out i low) ∙ out)

  pub tells : TellsReadiness p s v
  tells = record {
    ready = ready_same;
    done = done_same;
    wire = λ k. ap (λ n. list_any (λ (l : Letter X P). l.number == n) s.wire) (let z : k ≡ 0 + k = omega arith in z) ∙ number_there p R 0 v.posts s.wire k (λ j l e. let n = h.numbers j l e in omega arith) h.wire;
    leased = leased;
  }
