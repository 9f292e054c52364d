-- A reading of a deck: what it gives, or the first fault.
use Rattle.std.specs.Prelude.{◌≡◌, ◌⊎◌, Bool, true, false, List, [], ◌∷◌, Option, Some, None, Result, Ok, Err}
use Rattle.deck_values.specs.declared.fault.ProblemFault.{ProblemFault}
use Rattle.deck_values.specs.declared.fault.ProblemFault.TheVariants.{NoMemory}

-- one reading after another: the first fault stops both
infixl 10 ◌>>=◌
abbrev pub ◌>>=◌ : {A B : Type 0} → Result A ProblemFault → (A → Result B ProblemFault) → Result B ProblemFault
(Ok x) >>= next = next x
(Err fault) >>= next = Err fault

-- the value that is there, or else a fault
abbrev pub or_fault : {A : Type 0} → Option A → ProblemFault → Result A ProblemFault
or_fault (Some x) fault = Ok x
or_fault None fault = Err fault

-- the value where a test holds, or else a fault
abbrev pub only_if : {A : Type 0} → Bool → A → ProblemFault → Result A ProblemFault
only_if true x fault = Ok x
only_if false x fault = Err fault

-- a reading of each item of a list, in order
abbrev pub each : {A B : Type 0} → (A → Result B ProblemFault) → List A → Result (List B) ProblemFault
each row [] = Ok []
each row (x ∷ xs) = do
  y ← row x
  ys ← each row xs
  Ok (y ∷ ys)

-- the answer of a call, seen by `view`, is what the reading gives; want of memory alone is free
abbrev pub Answers : {T V : Type 0} → (T → V) → Result T ProblemFault → Result V ProblemFault → Type 0
Answers view (Ok x) given = given ≡ Ok (view x)
Answers view (Err fault) given = (fault ≡ NoMemory) ⊎ (given ≡ Err fault)

-- the fault that a call makes is this one; want of memory alone is free
abbrev pub Makes : ProblemFault → ProblemFault → Type 0
Makes made fault = (made ≡ NoMemory) ⊎ (made ≡ fault)

-- the answer of a call is what the reading gives; want of memory alone is free
abbrev pub Gives : {T : Type 0} → Result T ProblemFault → Result T ProblemFault → Type 0
Gives result given = Answers (λ x. x) result given
