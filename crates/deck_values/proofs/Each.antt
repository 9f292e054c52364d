-- Reading each item of a list, one after another.
use Rattle.std.proofs.Common.{◌≡◌, ◌<◌, ◌+◌, ◌++◌, ◌∷◌, [], ◌⊎◌, inl, inr, ℕ, zero, suc, List, length, get_or, take, Result, Ok, Err, refl, sym, ap, ◌∙◌, subst, length-append, arith}
use Rattle.std.proofs.lemmas.List.Elements.{All-push}
use Rattle.deck_values.specs.declared.fault.ProblemFault.{ProblemFault}
use Rattle.deck_values.specs.declared.fault.ProblemFault.TheVariants.{NoMemory}
use Rattle.deck_values.specs.Reading.{◌>>=◌, each}
use Rattle.deck_values.proofs.Loops.{IsReadTo}

-- a list was read where its first item and then the others were
record Split {B : Type 0} (a : Result B ProblemFault) (b : Result (List B) ProblemFault) (ys : List B) : Type 0 where
  first : B
  others : List B
  first_read : a ≡ Ok first
  others_read : b ≡ Ok others
  whole : ys ≡ first ∷ others

split : {B : Type 0} (a : Result B ProblemFault) (b : Result (List B) ProblemFault) (ys : List B) → (a >>= λ y. b >>= λ zs. Ok (y ∷ zs)) ≡ Ok ys → Split a b ys
split (Ok z) (Ok zs) ys e = record { first = z; others = zs; first_read = refl; others_read = refl; whole = cc }
split (Ok z) (Err f) ys e = let h : ⊥ = cc in absurd h
split (Err f) b ys e = let h : ⊥ = cc in absurd h

step_suc : {A : Type 0} {B : Type 0} (row : A → Result B ProblemFault) (xs : List A) (i : ℕ) (d : A) (ys : List B) (y : B) → i < length xs → each row (take i xs) ≡ Ok ys → row (get_or xs i d) ≡ Ok y → each row (take (suc i) xs) ≡ Ok (ys ++ y ∷ [])
step_suc row [] i d ys y lt e h = absurd (omega arith)
step_suc row (x ∷ xs) zero d ys y lt e h = let none : ys ≡ [] = cc in rw (h, none)
step_suc {A} {B} row (x ∷ xs) (suc i) d ys y lt e h =
    let s = split (row x) (each row (take i xs)) ys e in
    let more : each row (take (suc i) xs) ≡ Ok (s.others ++ y ∷ []) = step_suc row xs i d s.others y (omega arith) s.others_read h in
    rw (s.first_read, more) (ap (λ (zs : List B). Ok (zs ++ y ∷ [])) (sym s.whole))

stop_at : {A B : Type 0} (row : A → Result B ProblemFault) (xs : List A) (i : ℕ) (d : A) (ys : List B) (fault : ProblemFault) → i < length xs → each row (take i xs) ≡ Ok ys → row (get_or xs i d) ≡ Err fault → each row xs ≡ Err fault
stop_at row [] i d ys fault lt e h = absurd (omega arith)
stop_at row (x ∷ xs) zero d ys fault lt e h = rw h
stop_at row (x ∷ xs) (suc i) d ys fault lt e h =
    let s = split (row x) (each row (take i xs)) ys e in
    rw (s.first_read, stop_at row xs i d s.others fault (omega arith) s.others_read h)

-- the first fault stops the reading
pub each_stop : {A B : Type 0} (row : A → Result B ProblemFault) (xs : List A) (i : ℕ) (d x : A) (ys : List B) (fault : ProblemFault) → each row (take i xs) ≡ Ok ys → i < length xs → get_or xs i d ≡ x → (fault ≡ NoMemory) ⊎ (row x ≡ Err fault) → (fault ≡ NoMemory) ⊎ (each row xs ≡ Err fault)
each_stop row xs i d x ys fault e lt is (inl h) = inl h
each_stop row xs i d x ys fault e lt is (inr h) = inr (stop_at row xs i d ys fault lt e (ap row is ∙ h))

-- one more item is read, and keeps its facts
pub IsReadTo-more : {A B : Type 0} (row : A → Result B ProblemFault) (fact : B → Type 0) (xs : List A) (i : ℕ) (d x : A) (ys : List B) (y : B) (ys' : List B) → IsReadTo row fact xs i ys → i < length xs → get_or xs i d ≡ x → row x ≡ Ok y → fact y → ys' ≡ ys ++ y ∷ [] → IsReadTo row fact xs (i + 1) ys'
IsReadTo-more row fact xs i d x ys y ys' r lt is h f e =
    let q : i + 1 ≡ suc i = omega arith in
    record {
      read = rw (e, q) (step_suc row xs i d ys y lt r.read (ap row is ∙ h));
      sound = rw e (All-push fact ys y r.sound f);
      as_many = rw e (length-append ys (y ∷ []) ∙ ap (λ (n : ℕ). n + 1) r.as_many);
    }

-- the same of a reading of another block that is equal
pub each_stop_in : {D A B : Type 0} (row : D → A → Result B ProblemFault) (deck deck' : D) (xs : List A) (i : ℕ) (d x x' : A) (ys : List B) (fault : ProblemFault) → deck' ≡ deck → x' ≡ x → each (row deck) (take i xs) ≡ Ok ys → i < length xs → get_or xs i d ≡ x → (fault ≡ NoMemory) ⊎ (row deck' x' ≡ Err fault) → (fault ≡ NoMemory) ⊎ (each (row deck) xs ≡ Err fault)
each_stop_in {D} {A} {B} row deck deck' xs i d x x' ys fault same_deck same e lt is h =
    each_stop (row deck) xs i d x ys fault e lt is (subst (λ (k : D). (fault ≡ NoMemory) ⊎ (row k x ≡ Err fault)) same_deck (subst (λ (y : A). (fault ≡ NoMemory) ⊎ (row deck' y ≡ Err fault)) same h))

pub IsReadTo-more_in : {D A B : Type 0} (row : D → A → Result B ProblemFault) (fact : B → Type 0) (deck deck' : D) (xs : List A) (i : ℕ) (d x x' : A) (ys : List B) (y : B) (ys' : List B) → deck' ≡ deck → x' ≡ x → IsReadTo (row deck) fact xs i ys → i < length xs → get_or xs i d ≡ x → row deck' x' ≡ Ok y → fact y → ys' ≡ ys ++ y ∷ [] → IsReadTo (row deck) fact xs (i + 1) ys'
IsReadTo-more_in {D} {A} {B} row fact deck deck' xs i d x x' ys y ys' same_deck same r lt is h f e =
    IsReadTo-more (row deck) fact xs i d x ys y ys' r lt is (subst (λ (k : D). row k x ≡ Ok y) same_deck (subst (λ (z : A). row deck' z ≡ Ok y) same h)) f e
