use Rattle.std.proofs.Common.{◌∙◌, sym, ap, ◌++◌, List, arith}
use Rattle.std.proofs.lemmas.List.{append_assoc}
use Rattle.sparse_pool.specs.declared.place.Place.{Place}
use Rattle.alloc_epochs.specs.Rows.{row_places}
use Rattle.alloc_epochs.specs.Shelf.{takes}
use Rattle.alloc_epochs.proofs.Listed.{entry_of, row_more, row_skip_page}
use Rattle.alloc_epochs.proofs.listing.list_row.Goals as goal

pub loop-field-preserved-then-has_page : goal.loop-field-preserved-then-has_page
loop-field-preserved-then-has_page c =
    let row = c.args.row.now in
    let passes = takes c.args.fields.now.fields c.args.kind in
    let field = c.loop-field.field in
    let before = c.args.places.now.items in
    record {
      within = omega (arith, c.loop-field-test.true);
      places = c.in_ok-list_field.ensures
          ∙ (ap (λ (ps : List Place). ps ++ entry_of row passes c.args.block field) c.loop-field.invariant.places
          ∙ (append_assoc before (row_places row passes c.args.block field) (entry_of row passes c.args.block field)
          ∙ ap (λ (ps : List Place). before ++ ps) (sym (row_more row passes c.args.block field))));
    }

pub loop-field-preserved : goal.loop-field-preserved
loop-field-preserved c =
    let row = c.args.row.now in
    let passes = takes c.args.fields.now.fields c.args.kind in
    let before = c.args.places.now.items in
    record {
      within = omega (arith, c.min-field.ensures);
      places = c.loop-field.invariant.places
          ∙ ap (λ (ps : List Place). before ++ ps) (sym (row_skip_page row passes c.args.block c.loop-field.field c.next_page.result c.min-field.result (sym c.has_page.ensures ∙ c.if-has_page.false) (omega (arith, c.min-field.ensures, c.next_page.ensures.later, c.loop-field-test.true)) (omega (arith, c.min-field.ensures)) c.next_page.ensures.near));
    }
