use Rattle.std.proofs.Common.{◌≡◌, ◌≤◌, ◌-◌, All, length}
use Rattle.alloc_epochs.specs.Pages.{blank}
use Rattle.alloc_epochs.proofs.page.Pool.fill.Given as goal

abbrev pub invariant-loop-self : goal.invariant-loop-self
invariant-loop-self l = record { grown : l.fn.self ≤ length l.self-inside.pages.items; clean : All (λ page. page ≡ blank) l.self-inside.pages.items }

abbrev pub decreases-loop-self : goal.decreases-loop-self
decreases-loop-self l = l.least - length l.self-inside.pages.items
