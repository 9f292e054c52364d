use Rattle.std.proofs.Common.{◌≡◌, ◌∙◌, sym, ap, ℕ, Option, List, [], slice_index_or}
use Rattle.alloc_epochs.proofs.Entries.{nothing_at, empty_page, no_key}
use Rattle.alloc_epochs.proofs.row.fill_in.Goals as goal

pub returns-then-is_empty-clause-same : goal.returns-then-is_empty-clause-same
returns-then-is_empty-clause-same c = λ entry.
    let e : c.args.page.now ≡ [] = empty_page c.args.page.now (sym c.is_empty.ensures.answer ∙ c.if-is_empty.true) in
    let at = λ (page : List (Option ℕ)). slice_index_or page entry no_key in
    ap at c.take.ensures.page ∙ (nothing_at 32 entry ∙ sym (ap at e))
