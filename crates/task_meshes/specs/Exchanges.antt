-- Letters between two leaves.
use Rattle.std.specs.Prelude.{ℕ}
use Rattle.morton_order.specs.declared.space.Side.{Side}
use Rattle.mesh_rules.specs.Due.{Exchange}
use Rattle.ghost_buffers.specs.declared.letter.Letter.{Letter}

-- a letter between two leaves across a side of its receiver
abbrev pub exchange_at : ℕ → ℕ → Side → Exchange
exchange_at from to side = record { from = from; to = to; axis = side.axis; high = side.high }

-- what a letter is about
abbrev pub exchange_of : Letter → Exchange
exchange_of letter = exchange_at letter.from letter.to letter.side
