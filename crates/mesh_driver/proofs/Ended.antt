-- How a run that has come to its last cycle ends.
use Rattle.std.proofs.Common.{◌≡◌, ℕ, ◌∙◌, ap}
use Rattle.problem_set.specs.Settings.{Settings}
use Rattle.dense_model.specs.RunFiles.{RunAt, leaves_after, total_after}
use Rattle.mesh_driver.specs.declared.run.RunEnd.{RunEnd}
use Rattle.mesh_driver.specs.Files.{end_of}

-- an end by its numbers
abbrev ended : ℕ → ℕ → ℕ → RunEnd
ended cycles blocks total = record { cycles = cycles; blocks = blocks; total = total }

module _ (p : Settings) (r : RunAt) (same : r.problem ≡ p) (last : r.cycle ≡ p.nlim) where
  at_end : (f : Settings → ℕ → ℕ) → f r.problem r.cycle ≡ f p p.nlim
  at_end f = ap (λ (q : Settings). f q r.cycle) same ∙ ap (f p) last

  pub ends : (cycles blocks total : ℕ) → cycles ≡ r.cycle → blocks ≡ leaves_after r.problem r.cycle → total ≡ total_after r.problem r.cycle → ended cycles blocks total ≡ end_of p
  ends cycles blocks total of_cycles of_blocks of_total =
      ap (λ (n : ℕ). ended n blocks total) (of_cycles ∙ last)
      ∙ ap (λ (n : ℕ). ended p.nlim n total) (of_blocks ∙ at_end leaves_after)
      ∙ ap (λ (n : ℕ). ended p.nlim (leaves_after p p.nlim) n) (of_total ∙ at_end total_after)
