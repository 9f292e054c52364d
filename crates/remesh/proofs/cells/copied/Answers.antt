use Rattle.std.proofs.Common.{◌≡◌, ℕ, Bool, true, Option, List, Some, ap, sym, ◌∙◌}
use Rattle.std.proofs.lemmas.Result.{IfOk-weaker}
use Rattle.std.specs.Option.{option_copied}
use denote.Bor.{Bor}
use Rattle.field_bufs.specs.declared.buf.FieldBuf.{FieldBuf}
use Rattle.alloc_epochs.specs.Shelf.{place_on}
use Rattle.dense_remesh.specs.declared.origins.Origin.{Origin}
use Rattle.cell_block.specs.State.{buffer_at, is_allocated}
use Rattle.remesh.specs.Fields.{AreCarried}
use Rattle.remesh.specs.Sources.{comes_to}
use Rattle.remesh.proofs.Copied.{copied_cells, some_behind}
use Rattle.remesh.proofs.Filled.{home}
use Rattle.remesh.specs.Leaves.{plain}
use Rattle.remesh.proofs.cells.copied.Goals as goal

pub unwrap-buffer-requires : goal.unwrap-buffer-requires
unwrap-buffer-requires c =
    let n = plain c.args.leaf.now in
    let at = place_on c.args.old c.args.field in
    let there : is_allocated n.old at ≡ true = sym (ap (λ (o : Origin). comes_to n.old o c.args.field) c.requires.origin) ∙ c.requires.comes in
    some_behind c.buffer.result (buffer_at n.old at) c.buffer.ensures.buffer (home n.old at there (c.requires.leaf.whole at))

pub returns : goal.returns
returns c =
    let n = plain c.args.leaf.now in
    let buf = c.unwrap-buffer.result.now in
    IfOk-weaker c.from_slice.result (λ (list : List ℕ). list ≡ c.as_slice.result.now) (AreCarried n c.args.field)
    (λ list is. copied_cells n c.args.field c.args.old buf list c.requires.leaf c.requires.origin c.requires.field c.buffer.ensures.kept (sym c.buffer.ensures.buffer ∙ ap (λ (o : Option (Bor FieldBuf)). option_copied o) c.unwrap-buffer.ensures) (is ∙ c.as_slice.ensures))
    c.from_slice.ensures
