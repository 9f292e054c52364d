use Rattle.std.proofs.Common.{◌∙◌, ap, map, List, Option, ℕ}
use Rattle.alloc_epochs.specs.Pages.{keys_in}
use Rattle.alloc_epochs.proofs.Keys.{shelved}
use Rattle.alloc_epochs.proofs.Changed.{empty_keys}
use Rattle.alloc_epochs.proofs.shelf.Shelf.new.Goals as goal

pub returns : goal.returns
returns c =
    let first = c.args.first in
    let fields = c.args.fields in
    ap (λ (pool : ℕ). shelved first fields c.in_ok-rows.rows.items 0 pool) c.new.ensures
    ∙ ap (λ (keys : List (List (Option ℕ))). record { first = first; fields = fields; keys = keys; epoch = 0; spare = 0 })
    (ap (λ (rows : List (List (List (Option ℕ)))). map (keys_in fields) rows) c.in_ok-rows.ensures ∙ empty_keys c.args.blocks fields c.div_ceil-pages.result)
