-- What contracts see of a sink, and what a print says of it.
use Rattle.std.specs.Prelude.{◌≡◌, ℕ, ◌≤◌, Bool, List, ◌++◌, take, Option, Result, Err, IsTrue}
use Rattle.std.specs.Option.{option_map}
use Rattle.mesh_outside.specs.declared.fault.OutFault.{OutFault}
use Rattle.mesh_outside.specs.declared.fault.OutFault.TheVariants.{Failed, NoMemory}
use Rattle.mesh_outside.specs.Fault.{Counts, Rose}

-- what was printed so far, where it tells it; how many calls have failed; whether it counts exactly; and whether it
-- takes no memory
pub record SinkSeen : Type 0 where
  pub printed : Option (List ℕ)
  pub faults : ℕ
  pub is_exact : Bool
  pub takes_no_memory : Bool

-- after a print: the count of failed calls did not fall, and rose where it failed
pub record AfterPrint {T : Type 0} (result : Result T OutFault) (old new : SinkSeen) : Type 0 where
  pub is_exact : new.is_exact ≡ old.is_exact
  pub takes_no_memory : new.takes_no_memory ≡ old.takes_no_memory
  pub later : old.faults ≤ new.faults
  pub cause : result ≡ Err Failed → Rose old.faults new.faults
  pub exact : IsTrue old.is_exact → Counts (result ≡ Err Failed) old.faults new.faults
  pub memory : IsTrue old.takes_no_memory → result ≡ Err NoMemory → ⊥

-- some of the first of these bytes were printed, behind what there was
pub record PrintsPrefix (bytes : List ℕ) (old new : Option (List ℕ)) : Type 0 where
  pub count : ℕ
  pub is : new ≡ option_map (λ before. before ++ take count bytes) old
