-- A fault that a call hands on.
use Rattle.std.proofs.Common.{◌≡◌, Result, Err, Ok, ap}
use Rattle.mesh_outside.specs.Depot.{DepotSeen, AfterWrites}
use Rattle.mesh_outside.proofs.Afters.{writes_as}
use Rattle.mesh_driver.specs.declared.fault.DriveFault.{DriveFault}
use Rattle.mesh_driver.specs.declared.fault.DriveFault.TheVariants.{WriteFault}

-- a fault is the same one of a call with another result
pub fault_again : {T U : Type 0} (fault : DriveFault) (a b : DepotSeen) → AfterWrites (◌≡◌ {A = Result T DriveFault} (Err fault) (Err WriteFault)) a b → AfterWrites (◌≡◌ {A = Result U DriveFault} (Err fault) (Err WriteFault)) a b
fault_again fault a b after =
    writes_as _ _ a b after (λ is. let same : fault ≡ WriteFault = cc in ap Err same) (λ is. let same : fault ≡ WriteFault = cc in ap Err same)

-- what went well is no fault
pub well : {T E : Type 0} (x : T) (e : E) → (let r : Result T E = Ok x in r) ≡ Err e → ⊥
well x e h = cc
