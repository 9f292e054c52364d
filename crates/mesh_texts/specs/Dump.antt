-- The text of a dump in pieces.
use Rattle.std.specs.Prelude.{◌≡◌, ℕ, Bool, true, false, List, [], ◌∷◌, ◌++◌, map, codes}
use Rattle.std.specs.List.{enumerate_from, flat_map}
use Rattle.morton_order.specs.declared.space.Loc.{Loc}
use Rattle.problem_set.specs.Settings.{Settings}
use Rattle.mesh_rules.specs.Mesh.{Mesh}
use Rattle.mesh_rules.specs.Texts.{block_text, heading_text, line}

-- the pieces of a dump: its heading, its blocks and its end
unfoldable pub dump_pieces : Settings → Mesh → ℕ → List (List ℕ)
dump_pieces p m cycle = heading_text p m cycle ∷ (map (λ (leaf : ℕ × Loc). block_text p m leaf.0 leaf.1) (enumerate_from 0 m.leaves) ++ line (codes "end") ∷ [])

-- pieces one after another
abbrev pub joined : List (List ℕ) → List ℕ
joined pieces = flat_map (λ (piece : List ℕ). piece) pieces

-- a step of a walk over pieces: the next one is appended to a text and is no longer to come, or none was left
abbrev pub Steps : Bool → List (List ℕ) → List (List ℕ) → List ℕ → List ℕ → Type 0
Steps true before after old new = (piece : List ℕ) × (before ≡ piece ∷ after) × (new ≡ old ++ piece)
Steps false before after old new = (before ≡ []) × (after ≡ []) × (new ≡ old)
