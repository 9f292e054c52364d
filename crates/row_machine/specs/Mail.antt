-- Letters in the mail of a row, of one field, and which part a task reads.
use Rattle.std.specs.Prelude.{◌≡◌, ◌==◌, ℕ, Bool, cond, ◌&&◌, List, [], ◌∷◌, map, find}
use Rattle.cycle_rounds.specs.Events.{Letter, content_of, is_of}
use Rattle.sparse_rounds.specs.Sparse.{plan_of}
use Rattle.sparse_rounds.specs.Row.{RowOf, Side, row_kernels, same_bool}
use Rattle.row_machine.specs.declared.mail.Part.{Part}

abbrev pub letter_of : Part → Letter Side ℕ
letter_of p = record { number = p.number; round = p.round; of = record { block = p.block; high = p.high }; content = p.total }

-- whether a part was sent in a round to a side of a block
abbrev pub is_wanted : ℕ → ℕ → Bool → Part → Bool
is_wanted round block high p = p.round == round && (block == p.block && same_bool high p.high)

-- the total of the first such part, or 0
abbrev pub total_of : ℕ → ℕ → Bool → List Part → ℕ
total_of round block high [] = 0
total_of round block high (p ∷ ps) = cond (is_wanted round block high p) p.total (total_of round block high ps)

-- what the protocol says that a task reads
abbrev pub PartIs : List Part → ℕ → ℕ → Bool → ℕ → Type 0
PartIs mail round block high result = (w : RowOf) → result ≡ content_of 0 (find (is_of (plan_of (row_kernels w)) round (record { block = block; high = high })) (map letter_of mail))
