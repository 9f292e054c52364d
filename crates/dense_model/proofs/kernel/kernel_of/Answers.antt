use Rattle.std.proofs.Common.{◌∙◌, List, ap}
use Rattle.deck_entries.specs.declared.entries.Reaction.{Reaction}
use Rattle.react_kernel.specs.Code.{code_of, reacts}
use Rattle.dense_model.proofs.Reactions.{code_reacts}
use Rattle.dense_model.proofs.kernel.kernel_of.Goals as goal

pub returns-clause-reacts : goal.returns-clause-reacts
returns-clause-reacts c =
    ap reacts (c.in_ok-kernel.ensures.code ∙ ap (λ (v : List Reaction). code_of c.len-fields.result v) c.as_slice.ensures) ∙ code_reacts c.len-fields.result c.args.problem.now.reactions
