-- The code of a kernel of reactions, and what it does.
use Rattle.std.specs.Prelude.{ℕ, ◌<◌, ◌≤◌, List, [], ◌∷◌, length, All}
use Rattle.package_fields.specs.Kernel.{KernelLaws, Reacted}
use Rattle.deck_entries.specs.declared.entries.Reaction.{Reaction}
use Rattle.mesh_rules.specs.Reaction.{before_reactions, react_cell}

-- a reaction of a cell with so many fields: a proper fraction of one field becomes another
pub record CanReact (fields : ℕ) (r : Reaction) : Type 0 where
  pub from : r.from < fields
  pub to : r.to < fields
  pub positive : 1 ≤ r.den
  pub proper : r.num ≤ r.den

-- reactions spelled as numbers, four each
abbrev pub spelled : List Reaction → List ℕ
spelled [] = []
spelled (r ∷ rs) = r.from ∷ r.to ∷ r.num ∷ r.den ∷ spelled rs

-- the code of reactions in a cell with so many fields
abbrev pub code_of : ℕ → List Reaction → List ℕ
code_of fields rs = fields ∷ spelled rs

-- the reactions that numbers spell
abbrev pub reactions_in : List ℕ → List Reaction
reactions_in [] = []
reactions_in (from ∷ []) = []
reactions_in (from ∷ to ∷ []) = []
reactions_in (from ∷ to ∷ num ∷ []) = []
reactions_in (from ∷ to ∷ num ∷ den ∷ rest) = record { from = from; to = to; num = num; den = den } ∷ reactions_in rest

-- what a kernel of reactions does with a cell, by its code: the reactions in their order
abbrev pub reacts : List ℕ → List ℕ → Reacted
reacts [] cell = before_reactions cell
reacts (fields ∷ spelling) cell = react_cell (reactions_in spelling) cell

-- reactions keep the laws of kernels
abbrev pub ReactionsLaw : Type 0
ReactionsLaw = (fields : ℕ) (rs : List Reaction) → All (CanReact fields) rs → length rs ≤ 256 → KernelLaws fields (react_cell rs)
