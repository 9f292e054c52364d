use Rattle.std.proofs.Common.{◌≡◌, ◌≤◌, ℕ, [], ◌∷◌, ◌++◌, length}
use Rattle.dense_mask.specs.Steps.{IsDoneTo}
use Rattle.dense_reaction.specs.Blocks.{row_in}
use Rattle.dense_reaction.proofs.block.push_rows.Given as goal

abbrev pub invariant-loop-field : goal.invariant-loop-field
invariant-loop-field l = record {
  many : length l.rows.items ≡ length l.fn.rows.items;
  rest : (f : ℕ) → l.field ≤ f → row_in l.rows.items f ≡ row_in l.fn.rows.items f;
  into : IsDoneTo (λ f before after. after ≡ before ++ row_in l.fn.rows.items f ∷ []) [] l.field l.fn.into.items l.into.items;
}
