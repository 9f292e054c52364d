use Rattle.std.proofs.Common.{ℕ, ◌<◌, ◌≤◌, [], ◌∷◌, slice_index}
use Rattle.refine_tags.specs.Measures.{greatest_in, measured_at, total_at}
use Rattle.refine_tags.proofs.measures.greatest_in_block.Given as goal

abbrev pub invariant-loop-plane : goal.invariant-loop-plane
invariant-loop-plane l = record {
  within : l.best ≤ greatest_in l.method l.layout (total_at l.cells l.own);
  each : (x row plane : ℕ) → x < slice_index l.layout.cells 0 → row < slice_index l.layout.cells 1 → plane < l.plane → measured_at l.method l.layout (total_at l.cells l.own) (x ∷ row ∷ plane ∷ []) ≤ l.best;
}

abbrev pub invariant-loop-row : goal.invariant-loop-row
invariant-loop-row l = record {
  within : l.best ≤ greatest_in l.method l.layout (total_at l.cells l.own);
  each : (x row plane : ℕ) → x < slice_index l.layout.cells 0 → row < slice_index l.layout.cells 1 → plane < l.plane → measured_at l.method l.layout (total_at l.cells l.own) (x ∷ row ∷ plane ∷ []) ≤ l.best;
  here : (x row : ℕ) → x < slice_index l.layout.cells 0 → row < l.row → measured_at l.method l.layout (total_at l.cells l.own) (x ∷ row ∷ l.plane ∷ []) ≤ l.best;
}
