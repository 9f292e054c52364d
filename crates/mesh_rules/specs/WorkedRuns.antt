-- Worked examples of the files of a run, with their texts written out.
use Rattle.std.specs.Prelude.{◌≡◌, ℕ, List, [], ◌∷◌, codes}
use Rattle.std.specs.List.{flat_map}
use Rattle.mesh_rules.specs.Reaction.{kernel_of}
use Rattle.mesh_rules.specs.Texts.{line}
use Rattle.mesh_rules.specs.Files.{files_of, history_files}
use Rattle.mesh_rules.specs.WorkedFaces.{eight}
use Rattle.mesh_rules.specs.WorkedCycles.{beside}

-- lines of text
abbrev pub text : List (List ℕ) → List ℕ
text lines = flat_map line lines

-- the dump of a cycle of one block of four cells with one field
abbrev pub dump_with : List ℕ → List ℕ → List ℕ
dump_with cycle totals = text (codes "parthenon-whole dump 1" ∷ cycle ∷ codes "dims 1 cells 4 1 1 root 1 1 1" ∷ codes "fields 1" ∷ codes "a" ∷ codes "blocks 1"
    ∷ codes "block 0 level 0 at 0 0 0 zero 0" ∷ codes "field a" ∷ totals ∷ codes "end" ∷ [])

-- two cycles of the row of 8: three dumps, and the history last
abbrev pub FilesOfRow : Type 0
FilesOfRow = let p = record eight { nlim = 2 } in
    files_of p (kernel_of p) (codes "mesh") ≡
    (codes "mesh.000000.dump", dump_with (codes "cycle 0") (codes "8 0 0 0"))
    ∷ (codes "mesh.000001.dump", dump_with (codes "cycle 1") (codes "6 2 0 0"))
    ∷ (codes "mesh.000002.dump", dump_with (codes "cycle 2") (codes "5 3 0 0"))
    ∷ (
      codes "mesh.hist",
      text (codes "parthenon-whole history 1"
          ∷ codes "cycle 0 field a total 8 in 0 out 0 made 0 used 0 blocks 1"
          ∷ codes "cycle 1 field a total 8 in 0 out 0 made 0 used 0 blocks 1"
          ∷ codes "cycle 2 field a total 8 in 0 out 0 made 0 used 0 blocks 1"
          ∷ codes "end" ∷ []),
    )
    ∷ []

-- with a threshold the history shows what was dropped
abbrev pub HistoryWithDrops : Type 0
HistoryWithDrops = let p = record (beside 8) { alloc_threshold = 8; nlim = 1 } in
    history_files p (kernel_of p) (codes "mesh") ≡ (
      codes "mesh.hist",
      text (codes "parthenon-whole history 2"
          ∷ codes "cycle 0 field a_0 total 8 in 0 out 0 made 0 used 0 drop 0 blocks 1"
          ∷ codes "cycle 1 field a_0 total 6 in 0 out 0 made 0 used 0 drop 2 blocks 1"
          ∷ codes "end" ∷ []),
    )
    ∷ []
