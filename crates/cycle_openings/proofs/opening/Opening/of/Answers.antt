use Rattle.std.proofs.Common.{sym}
use Rattle.cycle_openings.proofs.States.{is_state}
use Rattle.cycle_openings.proofs.opening.Opening.of.Goals as goal

pub returns-clause-state : goal.returns-clause-state
returns-clause-state c = λ l has.
    is_state l c.args.mesh.now _ _ _ _ _ has c.in_ok-tree.ensures (sym c.layout.ensures.cells) c.fields.ensures c.in_ok-copies.ensures c.in_ok-counters.ensures

pub returns-clause-stands : goal.returns-clause-stands
returns-clause-stands c = λ p stored. record {
  stored = stored;
  state = λ l has. sym (
      is_state l c.args.mesh.now _ _ _ _ _ has c.in_ok-tree.ensures (sym c.layout.ensures.cells) c.fields.ensures c.in_ok-copies.ensures c.in_ok-counters.ensures);
}
