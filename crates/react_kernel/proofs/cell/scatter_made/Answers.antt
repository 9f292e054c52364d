use Rattle.std.proofs.Common.{◌∙◌, ap, length, map, drop, List, arith}
use Rattle.std.proofs.lemmas.List.{take_at, length-map}
use Rattle.field_bufs.specs.declared.buf.FieldBuf.{FieldBuf}
use Rattle.react_kernel.specs.BlockSteps.{with_total}
use Rattle.react_kernel.proofs.cell.scatter_made.Goals as goal

pub returns : goal.returns
returns c =
    let w = with_total c.args.place c.args.cell.now in
    let is = c.scatter.ensures ∙ ap (map w) c.deref_mut.ensures.value in
    take_at c.scatter.new.bufs (drop (length c.scatter.new.bufs) c.args.made.now.items) c.args.made.now.len
    (omega (arith, ap (λ (bufs : List FieldBuf). length bufs) is, length-map c.args.made.now.items w, c.args.made.now.ok.0)) ∙ is
