-- The texts of a dump and of the history.
use Rattle.std.specs.Prelude.{◌==◌, ℕ, ◌*◌, Bool, cond, ◌&&◌, not, List, [], ◌∷◌, ◌++◌, length, map, codes, count_by, drop, take}
use Rattle.std.specs.List.{enumerate_from, flat_map, join_with_byte, list_all, range_with_len}
use Rattle.std.specs.Fmt.{decimal}
use Rattle.morton_order.specs.declared.space.Loc.{Loc}
use Rattle.morton_order.specs.Space.{root_along}
use Rattle.package_fields.specs.declared.field.Field.{Field}
use Rattle.package_fields.specs.declared.flow.Flow.{Flow}
use Rattle.problem_set.specs.Settings.{Settings}
use Rattle.mesh_rules.specs.Sums.{table}
use Rattle.mesh_rules.specs.Mesh.{Mesh, cells_along, total_of, totals_on}
use Rattle.mesh_rules.specs.Fields.{field_at, field_count}
use Rattle.mesh_rules.specs.Mask.{blocks_with}
use Rattle.mesh_rules.specs.Run.{Reached, last_drop, last_flow}

-- a line of text
abbrev pub line : List ℕ → List ℕ
line text = text ++ 10 ∷ []

-- a word and a number
abbrev pub named : List ℕ → ℕ → List ℕ
named word n = word ++ decimal n

-- three numbers after a word
abbrev pub three : List ℕ → ℕ → ℕ → ℕ → List ℕ
three word a b c = word ++ join_with_byte 32 (decimal a ∷ decimal b ∷ decimal c ∷ [])

-- whether totals are all zero
abbrev pub is_zero : List ℕ → Bool
is_zero totals = list_all (λ total. total == 0) totals

-- the rows of x1 of a block's totals, one line each
abbrev pub rows : ℕ → ℕ → List ℕ → List ℕ
rows width count totals = flat_map (λ row. line (join_with_byte 32 (map decimal (take width (drop (row * width) totals))))) (range_with_len 0 count)

-- a field's lines in a block, none where it is all zero
abbrev pub field_text : Settings → Mesh → ℕ → List ℕ → List ℕ
field_text p m f totals = cond (is_zero totals) [] (line (codes "field " ++ (field_at p f).label) ++ rows (cells_along m 0) (cells_along m 1 * cells_along m 2) totals)

-- a block's lines: its place with the number of fields that are all zero, and the others' rows
abbrev pub block_text : Settings → Mesh → ℕ → Loc → List ℕ
block_text p m leaf l =
    let totals = table (field_count p) (totals_on m leaf) in
    line (named (codes "block ") leaf ++ named (codes " level ") l.level ++ three (codes " at ") l.l1 l.l2 l.l3 ++ named (codes " zero ") (count_by is_zero totals))
    ++ flat_map (λ (field : ℕ × List ℕ). field_text p m field.0 field.1) (enumerate_from 0 totals)

-- the lines before the blocks'
abbrev pub heading_text : Settings → Mesh → ℕ → List ℕ
heading_text p m cycle =
    line (codes "parthenon-whole dump 1")
    ++ line (named (codes "cycle ") cycle)
    ++ line (named (codes "dims ") m.shape.dims ++ three (codes " cells ") (cells_along m 0) (cells_along m 1) (cells_along m 2) ++ three (codes " root ") (root_along m.shape 0) (root_along m.shape 1) (root_along m.shape 2))
    ++ line (named (codes "fields ") (field_count p))
    ++ flat_map (λ (field : Field). line field.label) p.fields.fields
    ++ line (named (codes "blocks ") (length m.leaves))

-- the text of a dump; whether a field is kept does not show
unfoldable pub dump_text : Settings → Mesh → ℕ → List ℕ
dump_text p m cycle = heading_text p m cycle ++ flat_map (λ (leaf : ℕ × Loc). block_text p m leaf.0 leaf.1) (enumerate_from 0 m.leaves) ++ line (codes "end")

-- whether the history shows drops: with any threshold that is not 0
abbrev pub shows_drops : Settings → Bool
shows_drops p = not (p.alloc_threshold == 0 && p.dealloc_threshold == 0)

-- what was dropped, where the history shows it
abbrev pub drop_text : Settings → ℕ → List ℕ
drop_text p amount = cond (shows_drops p) (named (codes " drop ") amount) []

-- a field's line in the history: its total after a cycle, the flows and drops of the cycle, and on how many blocks it is kept
abbrev pub history_line : Settings → ℕ → List ℕ → ℕ → Flow → ℕ → ℕ → List ℕ
history_line p cycle label total flow dropped blocks = line (named (codes "cycle ") cycle ++ codes " field " ++ label
    ++ named (codes " total ") total ++ named (codes " in ") flow.inflow ++ named (codes " out ") flow.outflow
    ++ named (codes " made ") flow.made ++ named (codes " used ") flow.used ++ drop_text p dropped ++ named (codes " blocks ") blocks)

-- the lines of a cycle in the history
abbrev pub history_lines : Settings → ℕ → Reached → List ℕ
history_lines p cycle r = flat_map (λ f. history_line p cycle (field_at p f).label (total_of r.state.mesh f) (last_flow r f) (last_drop r f) (blocks_with r.state.mask f)) (range_with_len 0 (field_count p))

-- the first line of the history: it has two forms, with drops and without
abbrev pub history_heading : Settings → List ℕ
history_heading p = line (named (codes "parthenon-whole history ") (cond (shows_drops p) 2 1))

-- the text of the history, from the lines of its cycles
abbrev pub history_of : Settings → List ℕ → List ℕ
history_of p lines = history_heading p ++ lines ++ line (codes "end")
