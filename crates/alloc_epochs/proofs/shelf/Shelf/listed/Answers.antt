use Rattle.std.proofs.Common.{◌∙◌, ap, ◌++◌, ◌+◌, length, ℕ, List, Option, arith}
use Rattle.std.proofs.lemmas.List.{get_or_read}
use Rattle.alloc_epochs.specs.Rows.{row_places}
use Rattle.alloc_epochs.specs.Shelf.{takes}
use Rattle.alloc_epochs.proofs.Keys.{no_row}
use Rattle.alloc_epochs.proofs.Listed.{listed_more}
use Rattle.alloc_epochs.proofs.shelf.Shelf.listed.Goals as goal

pub loop-i-preserved : goal.loop-i-preserved
loop-i-preserved c =
    let i = c.self.inside in
    let passes = takes c.args.fields.now.fields c.args.kind in
    let before = c.loop-i.places.items in
    let count = length c.args.fields.now.fields in
    let read = get_or_read i.rows.items c.loop-i.i c.index.result.now (omega (arith, c.loop-i-test.true, c.len-i-end.ensures)) c.index.ensures no_row in
    listed_more i.first i.fields i.epoch i.pool i.rows.items passes c.loop-i.i count before c.list_row.new.places.items c.args.self.now c.self.view_is c.requires c.loop-i.invariant
    (c.in_ok-list_row.ensures ∙ ap (λ (row : List (List (Option ℕ))). before ++ row_places row passes (i.first + c.loop-i.i) count) read)
