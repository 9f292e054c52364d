use Rattle.std.proofs.Common.{cond, Bool, ap, sym, ◌∙◌}
use Rattle.std.proofs.lemmas.Bool.{le-ltb, lt-ltb}
use Rattle.mesh_rules.specs.declared.wish.Wish.TheVariants.{Same, Derefine}
use Rattle.tail_tasks.proofs.Wished.{none_wishes}
use Rattle.tail_tasks.proofs.wishes.wish_of_none.Goals as goal

pub returns-then-criterion-gt0 : goal.returns-then-criterion-gt0
returns-then-criterion-gt0 c =
    sym (none_wishes c.args.layout.now c.args.level c.args.criterion.now ∙ ap (λ (t : Bool). cond t Derefine Same) (lt-ltb 0 c.args.criterion.now.derefine_tol c.if-criterion-gt0.true))

pub returns-else-criterion-gt0 : goal.returns-else-criterion-gt0
returns-else-criterion-gt0 c =
    sym (none_wishes c.args.layout.now c.args.level c.args.criterion.now ∙ ap (λ (t : Bool). cond t Derefine Same) (le-ltb 0 c.args.criterion.now.derefine_tol c.if-criterion-gt0.false))
