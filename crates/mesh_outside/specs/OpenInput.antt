-- What a read from an open file gives, and where the file stands then.
use Rattle.std.specs.Prelude.{◌≡◌, ◌≢◌, ℕ, ◌+◌, ◌-◌, ◌^◌, min, List, Option, None, Some, IfSome}

-- the place behind this many bytes from a place on, up to the greatest place
abbrev pub behind : ℕ → ℕ → ℕ
behind from count = min (from + count) (2 ^ 64 - 1)

-- a file that stood at its start was moved to a place, if that is another
abbrev pub IsMoved : {F : Type 0} → (F → Option ℕ) → ℕ → F → F → Type 0
IsMoved position from old new = (from ≡ 0 → new ≡ old) × (from ≢ 0
    → IfSome (position old) (λ at. position new ≡ Some from))
