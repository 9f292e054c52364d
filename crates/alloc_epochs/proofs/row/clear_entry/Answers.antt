use Rattle.std.proofs.Common.{◌≡◌, ◌∙◌, sym, ap, ℕ, Option, List, slice_index_or}
use Rattle.alloc_epochs.specs.Pages.{blank}
use Rattle.alloc_epochs.proofs.Entries.{cleared_blank, cleared_same, no_key}
use Rattle.alloc_epochs.proofs.row.clear_entry.Goals as goal

pub put_back-requires : goal.put_back-requires
put_back-requires c =
    c.take.ensures.page ∙ cleared_blank c.args.page.now c.set.new.self c.args.entry c.is_empty.ensures.page (sym c.is_empty.ensures.answer ∙ c.if-is_empty.false) c.set.ensures (sym c.is_blank.ensures ∙ c.if-is_blank.true)

pub returns-then-is_blank-clause-same : goal.returns-then-is_blank-clause-same
returns-then-is_blank-clause-same c = λ other ne.
    let all : c.set.new.self ≡ blank = cleared_blank c.args.page.now c.set.new.self c.args.entry c.is_empty.ensures.page (sym c.is_empty.ensures.answer ∙ c.if-is_empty.false) c.set.ensures (sym c.is_blank.ensures ∙ c.if-is_blank.true) in
    ap (λ (page : List (Option ℕ)). slice_index_or page other no_key) c.take.ensures.left ∙ cleared_same c.args.page.now c.set.new.self c.args.entry other all c.set.ensures ne
