-- What the history says of a field, by its parts.
use Rattle.std.proofs.Common.{◌≡◌, ◌∙◌, ℕ, zero, suc, ◌+◌, ◌<◌, List, [], ◌∷◌, ◌++◌, length, ap, arith, refl, sym}
use Rattle.std.specs.List.{slice_index_or}
use Rattle.package_fields.specs.declared.flow.Flow.{Flow}
use Rattle.mesh_texts.specs.declared.history.HistoryEntry.{HistoryEntry}

-- entries are one where their parts are
pub same_entry : (a b : HistoryEntry) → a.total ≡ b.total → a.flow ≡ b.flow → a.dropped ≡ b.dropped → a.blocks ≡ b.blocks → a ≡ b
same_entry a b t f d k =
    ap (λ v. let x : HistoryEntry = record { total = v; flow = a.flow; dropped = a.dropped; blocks = a.blocks } in x) t
    ∙ ap (λ (v : Flow). let x : HistoryEntry = record { total = b.total; flow = v; dropped = a.dropped; blocks = a.blocks } in x) f
    ∙ ap (λ v. let x : HistoryEntry = record { total = b.total; flow = b.flow; dropped = v; blocks = a.blocks } in x) d
    ∙ ap (λ v. let x : HistoryEntry = record { total = b.total; flow = b.flow; dropped = b.dropped; blocks = v } in x) k

-- an item where there is one
pub item_same : {X : Type 0} (xs : List X) (i : ℕ) (d e : X) → i < length xs → slice_index_or xs i d ≡ slice_index_or xs i e
item_same [] i d e h = absurd (omega (arith, h))
item_same (x ∷ xs) zero d e h = refl
item_same (x ∷ xs) (suc i) d e h = item_same xs i d e (omega (arith, h))
