use Rattle.std.proofs.Common.{◌≡◌, ◌∙◌, ap, sym, Bool, cond}
use Rattle.cell_block.specs.State.{first_of, leaves_in}
use Rattle.cycle_stores.specs.Gives.{changed_in, raised_in}
use Rattle.cycle_stores.proofs.Turns.{back_ready}
use Rattle.cycle_stores.proofs.giving.give_back.Goals as goal
use Rattle.cycle_stores.proofs.giving.give_back.Goals.{then-left, else-left}

pub put_back-requires : goal.put_back-requires
put_back-requires c =
    let s = c.args.state.now in
    let left = c.args.left in
    let raised = raised_in s.places (first_of s left.list) (leaves_in s left.list) in
    let changed : c.if-left.state ≡ record s { places = changed_in s left } = elim c.if-left.branch [
      | then-left w ↦ w.state-is ∙ w.raise_list.ensures ∙ ap (λ (b : Bool). record s { places = cond b raised s.places }) (sym w.if-left.true)
      | else-left w ↦ w.state-is ∙ ap (λ (b : Bool). record s { places = cond b raised s.places }) (sym w.if-left.false)
    ] in
    back_ready s c.if-left.state c.set_counts.new.state left c.as_slice.result.now c.as_slice-2.result.now changed c.set_counts.ensures c.as_slice.ensures c.as_slice-2.ensures c.requires.bufs
