-- Counts of faults, and what they say of an answer.
use Rattle.std.specs.Prelude.{◌≡◌, ℕ, ◌+◌, ◌-◌, ◌^◌, ◌≤◌, ◌⊎◌, min, Result, Ok, Err}
use Rattle.mesh_outside.specs.declared.fault.OutFault.{OutFault}
use Rattle.mesh_outside.specs.declared.fault.OutFault.TheVariants.{Failed, NoMemory}

-- the next number of a counter, which stands still at its last
abbrev pub next : ℕ → ℕ
next count = min (count + 1) (2 ^ 64 - 1)

-- a counter of failed calls after a call: the next one exactly where it failed
abbrev pub counted : {T : Type 0} → Result T OutFault → ℕ → ℕ
counted (Ok x) count = count
counted (Err Failed) count = next count
counted (Err NoMemory) count = count

-- a count rose, or stands at or above the last number of a counter
abbrev pub Rose : ℕ → ℕ → Type 0
Rose before now = next before ≤ now

-- a count rose by one, or stands at or above the last number of a counter
abbrev pub RoseByOne : ℕ → ℕ → Type 0
RoseByOne before now = (now ≡ before + 1) ⊎ ((2 ^ 64 - 1 ≤ before) × (now ≡ before))

-- a count rose by one where the call failed, and else stands
abbrev pub Counts : Type 0 → ℕ → ℕ → Type 0
Counts failed before now = (failed × RoseByOne before now) ⊎ ((failed → ⊥) × (now ≡ before))
