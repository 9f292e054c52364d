use Rattle.std.proofs.Common.{rules, ◌≡◌, ℕ, false, sym, ap, ◌∙◌, arith}
use Rattle.atomic_table.specs.declared.badge.Badge.{Badge}
use Rattle.turn_yard.specs.Inside.{own_view}
use Rattle.turn_yard.specs.declared.view.View.{View}
use Rattle.turn_yard.proofs.Keeps.{first_splits}
use Rattle.turn_yard.proofs.yard.Yard.seat_for.Goals as goal

pub split_seat-seat-requires : goal.split_seat-seat-requires
split_seat-seat-requires g c =
    let taken = c.replace-badge.ensures.value in
    let own = ap own_view (ap (λ (b : Badge View). b.views) (sym taken) ∙ c.into_seat-own.ensures.2) in
    let w = c.self.invariant.words in (
      c.into_seat-own.ensures.0 ∙ (ap (λ (b : Badge View). b.table_id) taken ∙ c.self.invariant.table),
      omega arith,
      first_splits _ _ _ (c.into_seat-own.ensures.1 ∙ (ap (λ (b : Badge View). b.id) taken ∙ c.self.invariant.first)) (ap (λ (v : View). v.in_use) (sym own) ∙ c.self.invariant.not_used),
    )
