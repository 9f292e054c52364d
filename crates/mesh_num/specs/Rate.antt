use Rattle.std.specs.Prelude.{ℕ, ◌+◌, ◌*◌, ◌^◌}

-- a velocity counts twice as much on each finer level, and a diffusion coefficient four times
abbrev pub rate : ℕ → ℕ → ℕ → ℕ
rate v k level = v * 2 ^ level + k * 4 ^ level
