use Rattle.std.proofs.Common.{◌≡◌, true, false, arith}
use Rattle.block_tree.proofs.Filling.{on_false, on_true}
use Rattle.block_tree.proofs.Wanted.{forced_over, opening_nodes, wanted_over, wanted_roomy}
use Rattle.block_tree.proofs.opening.opening_nodes.Goals as goal
use Rattle.block_tree.proofs.opening.opening_nodes.Goals.{then-len-most-via-then-len-most, then-len-most-via-else-len-most+then-not-whole}

pub returns-then-len-most-clause-none : goal.returns-then-len-most-clause-none
returns-then-len-most-clause-none c = wanted_over c.args.shape.now c.args.cells.now c.args.boxes.now c.push_all_wanted.new.nodes c.most_inner-most.result c.requires.shape c.requires.levels c.args.roots.now c.requires.roots c.requires.few c.most_inner-most.ensures c.in_ok-whole.ensures.only c.len.ensures.distinct
    (elim c.then-len-most.branch [
      | then-len-most-via-then-len-most w ↦ let count = c.len.ensures.count in omega arith
      | then-len-most-via-else-len-most+then-not-whole w ↦ let over : c.in_ok-whole.whole ≡ false = cc in on_false _ _ c.in_ok-whole.whole over c.in_ok-whole.ensures.whole
    ])

pub balance-requires-clause-roomy : goal.balance-requires-clause-roomy
balance-requires-clause-roomy c =
    let whole : c.in_ok-whole.whole ≡ true = cc in
    wanted_roomy c.args.shape.now c.args.cells.now c.args.boxes.now c.push_all_wanted.new.nodes c.requires.shape c.requires.levels (on_true _ _ c.in_ok-whole.whole whole c.in_ok-whole.ensures.whole)

pub returns-then-not-branch-clause-none : goal.returns-then-not-branch-clause-none
returns-then-not-branch-clause-none c =
    let whole : c.in_ok-whole.whole ≡ true = cc in
    let over : c.in_ok-balance.field-0 ≡ false = cc in
    forced_over c.args.shape.now c.args.cells.now c.args.boxes.now c.push_all_wanted.new.nodes c.balance.new.nodes c.most_inner-most.result c.requires.shape c.requires.levels c.args.roots.now c.requires.roots c.requires.few c.most_inner-most.ensures
    (on_true _ _ c.in_ok-whole.whole whole c.in_ok-whole.ensures.whole) c.in_ok-balance.ensures.forced c.in_ok-balance.ensures.distinct (on_false _ _ c.in_ok-balance.field-0 over c.in_ok-balance.ensures.whole)

pub returns-clause-some : goal.returns-clause-some
returns-clause-some c =
    let whole : c.in_ok-whole.whole ≡ true = cc in
    let least : c.in_ok-balance.field-0 ≡ true = cc in
    opening_nodes c.args.shape.now c.args.cells.now c.args.boxes.now c.push_all_wanted.new.nodes c.balance.new.nodes c.requires.shape c.requires.levels
    (on_true _ _ c.in_ok-whole.whole whole c.in_ok-whole.ensures.whole) (on_true _ _ c.in_ok-balance.field-0 least c.in_ok-balance.ensures.whole)
