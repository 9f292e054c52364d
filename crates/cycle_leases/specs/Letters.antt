-- Which letter of a state a letter of the code is.
use Rattle.std.specs.Prelude.{◌≡◌, ◌==◌, ℕ, ◌+◌, ◌*◌, ◌/◌, ◌%◌, ◌<◌, Bool, cond, nat_eq, List, [], ◌∷◌}
use Rattle.mesh_rules.specs.Due.{Exchange}
use Rattle.cycle_rounds.specs.Events as rounds
use Rattle.cycle_kernels.specs.Letters.{no_part}
use Rattle.cycle_events.specs.Leases.{IsBefore}
use Rattle.cycle_rounds.specs.Events.{Each}
use Rattle.ghost_buffers.specs.declared.letter.Letter.{Letter}
use Rattle.ghost_buffers.specs.declared.part.Part.{Part}
use Rattle.masked_cycles.specs.Cycles.{Cycle, cycle_mesh}

-- what a letter is about: its sender, its receiver, and the receiver's side
abbrev pub exchange_of : Letter → Exchange
exchange_of letter = record { from = letter.from; to = letter.to; axis = letter.side.axis; high = letter.side.high }

-- its round: ghosts go in the even one of a stage's two rounds, flux sums in the odd one
abbrev pub round_of : Letter → ℕ
round_of letter = 2 * letter.stage + cond letter.flux 1 0

-- what its parts have of a field; other numbers where no part is the field's
abbrev pub part_in : List Part → ℕ → List ℕ → List ℕ
part_in [] f none = none
part_in (part ∷ parts) f none = cond (nat_eq part.field f) part.cells (part_in parts f none)

-- what it holds of a field: zeros where it has no part
abbrev pub held_by : Cycle → Letter → ℕ → List ℕ
held_by c letter f = part_in letter.parts f (no_part (cycle_mesh c) (exchange_of letter))

-- parts by rising field
abbrev pub ArePartsRising : List Part → Type 0
ArePartsRising [] = Unit {0}
ArePartsRising (part ∷ rest) = Each (λ (other : Part). part.field < other.field) rest × ArePartsRising rest

-- a letter is one of a state, but for its number
pub record IsLetter (c : Cycle) (letter : Letter) (m : rounds.Letter Exchange (ℕ → List ℕ)) : Type 0 where
  pub about : exchange_of letter ≡ m.of
  pub round : round_of letter ≡ m.round
  pub held : held_by c letter ≡ m.content
  pub rising : ArePartsRising letter.parts
