-- The buffers that the coming of a letter makes.
use Rattle.std.specs.Prelude.{◌==◌, ℕ, Bool, cond, not, ◌&&◌, nat_lt, List, [], map, filter}
use Rattle.std.specs.List.{list_all}
use Rattle.alloc_epochs.specs.Shelf.{place_on}
use Rattle.block_layout.specs.declared.layout.Layout.{Layout}
use Rattle.block_layout.specs.Faces.{face_count}
use Rattle.block_layout.specs.Layouts.{len}
use Rattle.field_bufs.specs.declared.buf.FieldBuf.{FieldBuf}
use Rattle.field_bufs.specs.Buffers.{zeros}
use Rattle.ghost_buffers.specs.declared.letter.Letter.{Letter}
use Rattle.ghost_buffers.specs.declared.part.Part.{Part}
use Rattle.problem_set.specs.Settings.{Settings}
use Rattle.mesh_rules.specs.Fields.{field_count, has_ghosts, is_sparse}
use Rattle.cell_block.specs.State.{Stored, is_allocated}

-- whether blocks may go without a field, and it has ghosts
abbrev pub may_come : Settings → ℕ → Bool
may_come p f = nat_lt f (field_count p) && (is_sparse p f && has_ghosts p f)

-- whether a part makes a buffer on a block: its field may come, is not allocated there, and the part is not all zero
abbrev pub makes : Settings → Stored → ℕ → Part → Bool
makes p s block part = may_come p part.field
    && (not (is_allocated s (place_on block part.field)) && not (list_all (λ total. total == 0) part.cells))

-- the buffers of zeros that a letter of ghosts makes, in the order of its parts; a letter of flux sums makes none
abbrev pub zeros_for : Layout → ℕ → ℕ → Part → FieldBuf
zeros_for l block stamp part = zeros (len l) (face_count l) block part.field stamp

abbrev pub made_by_letter : Settings → Layout → Stored → Letter → ℕ → List FieldBuf
made_by_letter p l s letter stamp =
    cond letter.flux [] (map (zeros_for l letter.to stamp) (filter (makes p s letter.to) letter.parts))
