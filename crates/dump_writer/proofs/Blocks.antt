-- The lines of a block of a mesh state.
use Rattle.std.proofs.Common.{◌≡◌, ℕ, ◌+◌, ◌*◌, ◌<◌, ◌≤◌, Bool, true, false, cond, not, Option, None, Some, is_some, List, [], ◌++◌, length, codes, replicate, refl, subst, sym, ap, ◌∙◌, arith}
use Rattle.std.specs.Prelude.{count_by, slice_index}
use Rattle.std.specs.List.{enumerate_from, flat_map, slice_index_or}
use Rattle.std.specs.Option.{option_and_then}
use Rattle.std.specs.Int.{from_bool}
use Rattle.std.proofs.lemmas.Bool.{false≢true}
use Rattle.std.proofs.lemmas.List.{append-nil}
use Rattle.morton_order.specs.declared.space.Loc.{Loc}
use Rattle.block_layout.specs.declared.layout.Layout.{Layout}
use Rattle.block_layout.specs.Layouts.{interior_len}
use Rattle.sparse_pool.specs.declared.place.Place.{Place}
use Rattle.alloc_epochs.specs.Shelf.{place_on}
use Rattle.field_bufs.specs.declared.buf.FieldBuf.{FieldBuf}
use Rattle.problem_set.specs.Settings.{Settings}
use Rattle.mesh_rules.specs.Sums.{table}
use Rattle.mesh_rules.specs.Mesh.{Mesh, totals_on}
use Rattle.mesh_rules.specs.Fields.{field_at, field_count}
use Rattle.mesh_rules.specs.Texts.{block_text, is_zero, line, rows}
use Rattle.mesh_texts.specs.Pieces.{block_lines, field_lines, place_line}
use Rattle.cell_block.specs.State.{Entry, HasLayout, IsNextField, IsNoneFrom, Stored, buffer_at, entry_at, is_allocated, leaf_count}
use Rattle.cell_block.specs.Rules.{interior_at, interior_in, mesh_in}
use Rattle.cell_block.proofs.Meshes.{totals_are_interiors}
use Rattle.cell_block.proofs.Tables.{table_at, table_length, table_same}
use Rattle.dump_writer.specs.Blocks.{interiors_on}
use Rattle.dump_writer.proofs.Shown.{AllShown, HasShown, ZeroGivesNothing, all_shown, more_passed, more_shown, passed_to}

-- zeros are all zero
zeros_are_zero : (n : ℕ) → is_zero (replicate n 0) ≡ true
zeros_are_zero ℕ.zero = refl
zeros_are_zero (ℕ.suc n) = zeros_are_zero n

-- a field that is not allocated is all zero
absent_entry : (s : Stored) (at : Place) → is_allocated s at ≡ false → (o : Option Entry) → entry_at s at ≡ o → entry_at s at ≡ None
absent_entry s at none None e = e
absent_entry s at none (Some x) e = absurd (false≢true (sym none ∙ ap (λ (v : Option Entry). is_some v) e))

pub no_buffer : (s : Stored) (at : Place) → is_allocated s at ≡ false → buffer_at s at ≡ None
no_buffer s at none = ap (option_and_then (λ (e : Entry). e.buf)) (absent_entry s at none (entry_at s at) refl)

pub absent_is_zero : (l : Layout) (s : Stored) (at : Place) → is_allocated s at ≡ false → is_zero (interior_at l s at) ≡ true
absent_is_zero l s at none = ap (λ (b : Option FieldBuf). is_zero (interior_in l b)) (no_buffer s at none) ∙ zeros_are_zero (interior_len l)

-- the totals of a field on a block, by its number
pub interior_there : (l : Layout) (s : Stored) (leaf f : ℕ) → f < s.fields → slice_index_or (interiors_on l s leaf) f [] ≡ interior_at l s (place_on leaf f)
interior_there l s leaf f some = table_at s.fields (λ k. interior_at l s (place_on leaf k)) f [] some

pub interiors_long : (l : Layout) (s : Stored) (leaf : ℕ) → length (interiors_on l s leaf) ≡ s.fields
interiors_long l s leaf = table_length s.fields (λ k. interior_at l s (place_on leaf k))

pub absent_there : (l : Layout) (s : Stored) (leaf f : ℕ) → f < s.fields → is_allocated s (place_on leaf f) ≡ false → is_zero (slice_index_or (interiors_on l s leaf) f []) ≡ true
absent_there l s leaf f some none = ap is_zero (interior_there l s leaf f some) ∙ absent_is_zero l s (place_on leaf f) none

-- the lines of a field with its number
abbrev pub numbered : Settings → Layout → ℕ × List ℕ → List ℕ
numbered p l field = field_lines l (field_at p field.0).label field.1

pub zero_gives_nothing : (p : Settings) (l : Layout) (xs : List (List ℕ)) → ZeroGivesNothing (numbered p l) is_zero xs
zero_gives_nothing p l xs f inside zero =
    ap (λ (b : Bool). cond b [] (line (codes "field " ++ (field_at p f).label) ++ rows (slice_index l.cells 0) (slice_index l.cells 1 * slice_index l.cells 2) (slice_index_or xs f []))) zero

-- the fields between one and the next that is allocated were passed
pub passed_absent : (p : Settings) (l : Layout) (s : Stored) (leaf from f left : ℕ) (old new : List ℕ) → IsNextField s leaf from f
    → HasShown (numbered p l) is_zero (interiors_on l s leaf) from left old new → HasShown (numbered p l) is_zero (interiors_on l s leaf) f left old new
passed_absent p l s leaf from f left old new next has =
    let xs = interiors_on l s leaf in
    let within : f ≤ length xs = omega (arith, next.within, interiors_long l s leaf) in
    passed_to (numbered p l) is_zero xs from f left old new next.after within (λ k a b. absent_there l s leaf k (omega (arith, b, next.within)) (next.first k a b)) (zero_gives_nothing p l xs) has

-- so at least one is left
pub some_left : (p : Settings) (l : Layout) (s : Stored) (leaf from f left : ℕ) (old new : List ℕ) → IsNextField s leaf from f
    → HasShown (numbered p l) is_zero (interiors_on l s leaf) from left old new → 1 ≤ left
some_left p l s leaf from f left old new next has =
    let here = passed_absent p l s leaf from f left old new next has in
    let count = here.count in
    omega (arith, count, next.within, interiors_long l s leaf)

-- the next that is allocated was shown, or is all zero
pub shown_more : (p : Settings) (l : Layout) (s : Stored) (leaf from f left less : ℕ) (shown : Bool) (old new next : List ℕ) → IsNextField s leaf from f
    → shown ≡ not (is_zero (interior_at l s (place_on leaf f))) → less + from_bool shown ≡ left → next ≡ new ++ field_lines l (field_at p f).label (interior_at l s (place_on leaf f))
    → HasShown (numbered p l) is_zero (interiors_on l s leaf) from left old new → HasShown (numbered p l) is_zero (interiors_on l s leaf) (f + 1) less old next
shown_more p l s leaf from f left less shown old new next is tells fewer written has = by (is_zero (slice_index_or xs f [])) refl
  where
    xs : List (List ℕ)
    xs = interiors_on l s leaf

    there : slice_index_or xs f [] ≡ interior_at l s (place_on leaf f)
    there = interior_there l s leaf f is.within

    within : f < length xs
    within = omega (arith, is.within, interiors_long l s leaf)

    here : HasShown (numbered p l) is_zero xs f left old new
    here = passed_absent p l s leaf from f left old new is has

    lines : next ≡ new ++ numbered p l (f, slice_index_or xs f [])
    lines = written ∙ ap (λ (v : List ℕ). new ++ field_lines l (field_at p f).label v) (sym there)

    told : shown ≡ not (is_zero (slice_index_or xs f []))
    told = tells ∙ ap (λ (v : List ℕ). not (is_zero v)) (sym there)

    by : (b : Bool) → is_zero (slice_index_or xs f []) ≡ b → HasShown (numbered p l) is_zero xs (f + 1) less old next
    by true zero =
        let same : next ≡ new = lines ∙ ap (λ (v : List ℕ). new ++ v) (zero_gives_nothing p l xs f within zero) ∙ append-nil new in
        let none : from_bool shown ≡ 0 = ap from_bool (told ∙ ap not zero) in
        let all : left ≡ less = omega (arith, fewer, none) in
        subst (λ (v : List ℕ). HasShown (numbered p l) is_zero xs (f + 1) less old v) (sym same)
        (subst (λ (n : ℕ). HasShown (numbered p l) is_zero xs (f + 1) n old new) all (more_passed (numbered p l) is_zero xs f left old new within zero (zero_gives_nothing p l xs) here))
    by false shows =
        let one : from_bool shown ≡ 1 = ap from_bool (told ∙ ap not shows) in
        more_shown (numbered p l) is_zero xs f left less old new next within shows (omega (arith, fewer, one)) lines here

-- at the end
pub block_shown : (p : Settings) (l : Layout) (s : Stored) (leaf from left : ℕ) (old new : List ℕ) → IsNoneFrom s leaf from
    → HasShown (numbered p l) is_zero (interiors_on l s leaf) from left old new → AllShown (numbered p l) is_zero (interiors_on l s leaf) left old new
block_shown p l s leaf from left old new none has =
    let xs = interiors_on l s leaf in
    all_shown (numbered p l) is_zero xs from left old new
    (λ k a inside. let few : k < s.fields = omega (arith, inside, interiors_long l s leaf) in absent_there l s leaf k few (none k a few)) (zero_gives_nothing p l xs) has

-- a block's lines from the cells of a block
abbrev from_cells : Settings → ℕ → Loc → List ℕ → List (List ℕ) → List ℕ
from_cells p leaf at cells totals = place_line leaf at (count_by is_zero totals)
    ++ flat_map (λ (field : ℕ × List ℕ). cond (is_zero field.1) [] (line (codes "field " ++ (field_at p field.0).label) ++ rows (slice_index cells 0) (slice_index cells 1 * slice_index cells 2) field.1)) (enumerate_from 0 totals)

-- the text of a block of the mesh
pub block_is : (p : Settings) (s : Stored) (l : Layout) (leaf : ℕ) (at : Loc) → HasLayout s l → s.fields ≡ field_count p → leaf < leaf_count s →
    block_lines p l leaf at (interiors_on l s leaf) ≡ block_text p (mesh_in l s) leaf at
block_is p s l leaf at has fields on =
    let m : Mesh = mesh_in l s in
    let same : interiors_on l s leaf ≡ table (field_count p) (totals_on m leaf) =
    table_same s.fields (λ f. interior_at l s (place_on leaf f)) (totals_on m leaf) [] (λ f some. sym (totals_are_interiors l s leaf f on some))
    ∙ ap (λ (n : ℕ). table n (totals_on m leaf)) fields in
    ap (λ (cells : List ℕ). from_cells p leaf at cells (interiors_on l s leaf)) has.cells
    ∙ ap (from_cells p leaf at s.cells) same
