-- The letters on the wire, as one is taken off, or more are put on it.
use Rattle.std.proofs.Common.{◌≡◌, ◌∙◌, sym, ap, subst, refl, ℕ, zero, suc, ◌+◌, ◌<◌, ◌==◌, Bool, true, false, cond, not, ◌||◌, Option, Some, None, is_some, List, [], ◌∷◌, ◌++◌, length, find, slice_index_or, slice_set, arith}
use Rattle.std.specs.List.{AllZip, list_any}
use Rattle.std.proofs.lemmas.Bool.{eq-eqb, ne_eqb, or_left}
use Rattle.cycle_rounds.specs.Plan.{Plan}
use Rattle.cycle_rounds.specs.Events.{Letter, letters, without}
use Rattle.cycle_tables.specs.declared.letter.Letter.{Letter as Posted}
use Rattle.cycle_tables.specs.declared.letter.Post.{Post}
use Rattle.cycle_tables.specs.Tables.{numbered}
use Rattle.cycle_tables.proofs.Entries.{not_there, same_value}
use Rattle.cycle_table_laws.specs.Shows.{StandsFor, WillStandFor, on_wire}

pub wire_append : {T : Type 0} (ps qs : List (Option (Posted T))) → on_wire (ps ++ qs) ≡ on_wire ps ++ on_wire qs
wire_append [] qs = refl
wire_append (None ∷ ps) qs = wire_append ps qs
wire_append {T} (Some l ∷ ps) qs = ap (λ (ls : List (Posted T)). l ∷ ls) (wire_append ps qs)

-- no letter is on the wire
pub none_on : {T : Type 0} (posts : List (Option (Posted T))) → not (list_any is_some posts) ≡ (length (on_wire posts) == 0)
none_on [] = refl
none_on (None ∷ posts) = none_on posts
none_on (Some l ∷ posts) = sym (ne_eqb (suc (length (on_wire posts))) 0 (λ e. omega arith))

-- letters have the numbers of their places
abbrev pub HaveNumbers : {T : Type 0} → ℕ → List (Option (Posted T)) → Type 0
HaveNumbers {T} base posts = (j : ℕ) (l : Posted T) → slice_index_or posts j None ≡ Some l → l.number ≡ base + j

pub rest_numbers : {T : Type 0} (base : ℕ) (o : Option (Posted T)) (posts : List (Option (Posted T))) → HaveNumbers base (o ∷ posts) → HaveNumbers (suc base) posts
rest_numbers base o posts h j l e = let n = h (suc j) l e in omega arith

-- the letter of a number, and the wire without it
pub record TakenOff {X P T : Type 0} (p : Plan X) (R : T → X → P → Type 0) (number : ℕ) (posts : List (Option (Posted T))) (wire : List (Letter X P)) (k : ℕ) (l : Posted T) : Type 0 where
  pub letter : Letter X P
  pub found : find (λ (y : Letter X P). y.number == number) wire ≡ Some letter
  pub stands : StandsFor p R l letter
  pub rest : AllZip (StandsFor p R) (on_wire (slice_set posts k None)) (without number wire)

pub taken_off : {X P T : Type 0} (p : Plan X) (R : T → X → P → Type 0) (base : ℕ) (posts : List (Option (Posted T))) (wire : List (Letter X P)) (k : ℕ) (l : Posted T) → HaveNumbers base posts →
    AllZip (StandsFor p R) (on_wire posts) wire → slice_index_or posts k None ≡ Some l → TakenOff p R (base + k) posts wire k l
taken_off p R base [] wire zero l n h e = absurd (not_there l e)
taken_off p R base [] wire (suc k) l n h e = absurd (not_there l e)
taken_off p R base (None ∷ posts) wire zero l n h e = absurd (not_there l e)
taken_off {X} {P} {T} p R base (None ∷ posts) wire (suc k) l n h e =
    let t = taken_off p R (suc base) posts wire k l (rest_numbers base None posts n) h e in
    let at : suc base + k ≡ base + suc k = omega arith in
    let moved = subst (λ m. TakenOff p R m posts wire k l) at t in
    record { letter = moved.letter; found = moved.found; stands = moved.stands; rest = moved.rest }
taken_off p R base (Some first ∷ posts) [] k l n h e = absurd h
taken_off {X} {P} {T} p R base (Some first ∷ posts) (m ∷ wire) zero l n h e =
    let same : first ≡ l = same_value {A = Posted T} first l e in
    let b : (m.number == base + 0) ≡ true = eq-eqb m.number (base + 0) (let a = n 0 first refl in let c = h.0.number in omega arith) in
    record {
      letter = m;
      found = ap (λ (v : Bool). cond v (Some m) (find (λ (y : Letter X P). y.number == base + 0) wire)) b;
      stands = subst (λ (x : Posted T). StandsFor p R x m) same h.0;
      rest = subst (λ (ls : List (Letter X P)). AllZip (StandsFor p R) (on_wire posts) ls) (sym (ap (λ (v : Bool). cond v wire (m ∷ without (base + 0) wire)) b)) h.1;
    }
taken_off {X} {P} {T} p R base (Some first ∷ posts) (m ∷ wire) (suc k) l n h e =
    let t = taken_off p R (suc base) posts wire k l (rest_numbers base (Some first) posts n) h.1 e in
    let at : suc base + k ≡ base + suc k = omega arith in
    let moved = subst (λ j. TakenOff p R j posts wire k l) at t in
    let b : (m.number == base + suc k) ≡ false = ne_eqb m.number (base + suc k) (λ same. let a = n 0 first refl in let c = h.0.number in omega arith) in
    record {
      letter = moved.letter;
      found = ap (λ (v : Bool). cond v (Some m) (find (λ (y : Letter X P). y.number == base + suc k) wire)) b ∙ moved.found;
      stands = moved.stands;
      rest = subst (λ (ls : List (Letter X P)). AllZip (StandsFor p R) (first ∷ on_wire (slice_set posts k None)) ls) (sym (ap (λ (v : Bool). cond v wire (m ∷ without (base + suc k) wire)) b)) (h.0, moved.rest);
    }

-- which numbers are on the wire
none_lower : {X P T : Type 0} (p : Plan X) (R : T → X → P → Type 0) (base : ℕ) (posts : List (Option (Posted T))) (wire : List (Letter X P)) (k : ℕ) → HaveNumbers base posts → AllZip (StandsFor p R) (on_wire posts) wire → k < base → list_any (λ (y : Letter X P). y.number == k) wire ≡ false
none_lower p R base [] [] k n h low = refl
none_lower p R base [] (m ∷ wire) k n h low = absurd h
none_lower p R base (None ∷ posts) wire k n h low = none_lower p R (suc base) posts wire k (rest_numbers base None posts n) h (omega arith)
none_lower p R base (Some first ∷ posts) [] k n h low = absurd h
none_lower {X} {P} {T} p R base (Some first ∷ posts) (m ∷ wire) k n h low =
    ap (λ (v : Bool). v || list_any (λ (y : Letter X P). y.number == k) wire) (ne_eqb m.number k (λ same. let a = n 0 first refl in let c = h.0.number in omega arith))
    ∙ none_lower p R (suc base) posts wire k (rest_numbers base (Some first) posts n) h.1 (omega arith)

pub number_there : {X P T : Type 0} (p : Plan X) (R : T → X → P → Type 0) (base : ℕ) (posts : List (Option (Posted T))) (wire : List (Letter X P)) (k : ℕ) → HaveNumbers base posts → AllZip (StandsFor p R) (on_wire posts) wire →
    list_any (λ (y : Letter X P). y.number == base + k) wire ≡ is_some (slice_index_or posts k None)
number_there p R base [] [] zero n h = refl
number_there p R base [] [] (suc k) n h = refl
number_there p R base [] (m ∷ wire) k n h = absurd h
number_there p R base (None ∷ posts) wire zero n h = none_lower p R (suc base) posts wire (base + 0) (rest_numbers base None posts n) h (omega arith)
number_there {X} {P} {T} p R base (None ∷ posts) wire (suc k) n h =
    ap (λ j. list_any (λ (y : Letter X P). y.number == j) wire) (let at : base + suc k ≡ suc base + k = omega arith in at) ∙ number_there p R (suc base) posts wire k (rest_numbers base None posts n) h
number_there p R base (Some first ∷ posts) [] k n h = absurd h
number_there {X} {P} {T} p R base (Some first ∷ posts) (m ∷ wire) zero n h =
    or_left (m.number == base + 0) (list_any (λ (y : Letter X P). y.number == base + 0) wire) (eq-eqb m.number (base + 0) (let a = n 0 first refl in let c = h.0.number in omega arith))
number_there {X} {P} {T} p R base (Some first ∷ posts) (m ∷ wire) (suc k) n h =
    ap (λ (v : Bool). v || list_any (λ (y : Letter X P). y.number == base + suc k) wire) (ne_eqb m.number (base + suc k) (λ same. let a = n 0 first refl in let c = h.0.number in omega arith))
    ∙ ap (λ j. list_any (λ (y : Letter X P). y.number == j) wire) (let at : base + suc k ≡ suc base + k = omega arith in at) ∙ number_there p R (suc base) posts wire k (rest_numbers base (Some first) posts n) h.1

-- letters with the next numbers are put on the wire
pub numbers_of : {T : Type 0} (k r : ℕ) (qs : List (Post T)) → HaveNumbers k (numbered k r qs)
numbers_of k r [] zero l e = absurd (not_there l e)
numbers_of k r [] (suc j) l e = absurd (not_there l e)
numbers_of {T} k r (q ∷ qs) zero l e =
    let is = same_value {A = Posted T} (record { number = k; round = r; to = q.to; content = q.content }) l e in
    let n : k ≡ l.number = ap (λ (x : Posted T). x.number) is in omega arith
numbers_of k r (q ∷ qs) (suc j) l e = let n = numbers_of (suc k) r qs j l e in omega arith

pub put_on : {X P T : Type 0} (p : Plan X) (R : T → X → P → Type 0) (k r : ℕ) (content : X → P) (xs : List X) (qs : List (Post T)) → AllZip (WillStandFor p R) qs (letters k r content xs) → AllZip (StandsFor p R) (on_wire (numbered k r qs)) (letters k r content xs)
put_on p R k r content [] [] h = tt
put_on p R k r content [] (q ∷ qs) h = absurd h
put_on p R k r content (x ∷ xs) [] h = absurd h
put_on p R k r content (x ∷ xs) (q ∷ qs) h = (record { number = refl; round = refl; to = h.0.to; content = h.0.content }, put_on p R (suc k) r content xs qs h.1)
