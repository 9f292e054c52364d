-- What a slot's buffer reads as, where there may be none.
use Rattle.std.specs.Prelude.{ℕ, ◌+◌, ◌-◌, cond, Option, Some, None}
use Rattle.row_machine.specs.declared.slot.Buffer.{Buffer}
use Rattle.row_machine.specs.declared.slot.Slot.{Slot}

abbrev pub lent_of : Option Buffer → Buffer
lent_of None = record { cell = 0; low = 0; high = 0; low_right = 0; low_left = 0; high_right = 0; high_left = 0 }
lent_of (Some u) = u

-- the cell that a task was lent, or zero
abbrev pub lent_cell_of : Slot → ℕ
lent_cell_of s = cond s.leased (lent_of s.buffer).cell 0
