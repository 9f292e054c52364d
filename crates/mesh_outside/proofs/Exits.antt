-- What holds at the exit of a `?`.
use Rattle.std.specs.Prelude.{Result, Ok, Err, OnErr}

-- what holds anyway holds of a refusal
pub always_on_err : {T E P : Type 0} (result : Result T E) → P → OnErr result P
always_on_err (Ok _) p = tt
always_on_err (Err _) p = p
