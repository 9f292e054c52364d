-- How the answer of a call meets its definition.
use Rattle.std.specs.Prelude.{◌≡◌, ◌⊎◌, Result, Ok, Err}
use Rattle.input_file.specs.declared.fault.DeckFault.{DeckFault}
use Rattle.input_file.specs.declared.fault.DeckFault.TheVariants.{NoMemory}

-- what is answered, seen by `view`, is what the definition gives; want of memory alone is free
abbrev pub Answers : {T V : Type 0} → (T → V) → Result T DeckFault → Result V DeckFault → Type 0
Answers view (Ok x) given = given ≡ Ok (view x)
Answers view (Err e) given = (e ≡ NoMemory) ⊎ (given ≡ Err e)
