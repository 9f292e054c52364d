use Rattle.std.specs.Prelude.{ℕ, List, ◌++◌, codes}
use Rattle.std.specs.Fmt.{decimal}

-- the name of a pool, an underscore and a number, as in `dye_1`
abbrev pub label : List ℕ → ℕ → List ℕ
label base id = base ++ codes "_" ++ decimal id
