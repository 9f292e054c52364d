-- For the code: the leaves that are due a letter, by their numbers.
use Rattle.std.specs.Prelude.{ℕ, List, [], ◌∷◌}
use Rattle.block_tree.specs.declared.neighbour.Behind.{Behind}
use Rattle.block_tree.specs.declared.neighbour.Behind.TheVariants.{Outside, Same, Coarse, Fine}
use Rattle.task_meshes.specs.declared.kind.LetterKind.{LetterKind}
use Rattle.task_meshes.specs.declared.kind.LetterKind.TheVariants.{Ghosts, Fluxes}
use Rattle.sent_letters.specs.declared.receivers.Receivers.{Receivers}
use Rattle.sent_letters.specs.declared.receivers.Receivers.TheVariants.{Nobody, One, Finer}

abbrev pub numbers_of : Receivers → List ℕ
numbers_of Nobody = []
numbers_of (One to) = to ∷ []
numbers_of (Finer tos) = tos

-- some leaves, where letters are of ghosts
abbrev pub of_ghosts : LetterKind → List ℕ → List ℕ
of_ghosts Ghosts tos = tos
of_ghosts Fluxes tos = []

-- of what stands behind a side, those that are due a letter of a kind
abbrev pub numbers_behind : LetterKind → Behind → List ℕ
numbers_behind kind Outside = []
numbers_behind kind (Same to) = of_ghosts kind (to ∷ [])
numbers_behind kind (Coarse to) = to ∷ []
numbers_behind kind (Fine tos) = of_ghosts kind tos
