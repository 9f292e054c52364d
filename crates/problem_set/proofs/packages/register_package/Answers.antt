use Rattle.std.proofs.Common.{◌++◌, List, ap, ◌∙◌}
use Rattle.std.proofs.lemmas.Result.{err_from_is_err_and}
use Rattle.deck_entries.specs.declared.entries.Moves.{Moves}
use Rattle.problem_set.proofs.KeptFlagLemmas.{added_as, refused_as, whole_moves}
use Rattle.problem_set.proofs.packages.register_package.Goals as goal

pub returns-in_err-add_package-clause-registry : goal.returns-in_err-add_package-clause-registry
returns-in_err-add_package-clause-registry c =
    let p = err_from_is_err_and c.from_residual-in_err-add_package.result c.from_residual-in_err-add_package.ensures.1 in
    rw (p.1, p.2) (refused_as c.args.registry.now c.args.blocks.now c.args.package_name.now c.in_ok-package.package c.in_err-add_package.field-0.0 c.in_ok-package.ensures.name c.in_ok-package.ensures.fields c.in_err-add_package.ensures)

pub returns-clause-registry : goal.returns-clause-registry
returns-clause-registry c =
    added_as c.args.registry.now c.args.blocks.now c.args.package_name.now c.in_ok-package.package _ c.in_ok-package.ensures.name c.in_ok-package.ensures.fields c.in_ok-add_package.ensures

pub returns-clause-moves : goal.returns-clause-moves
returns-clause-moves c =
    c.in_ok-append.ensures.ok ∙ ap (λ (l : List Moves). c.args.moves.now ++ l) (c.in_ok-package.ensures.moves ∙ whole_moves c.args.registry.now c.add_package.new.registry c.args.blocks.now c.args.package_name.now (added_as c.args.registry.now c.args.blocks.now c.args.package_name.now c.in_ok-package.package _ c.in_ok-package.ensures.name c.in_ok-package.ensures.fields c.in_ok-add_package.ensures))
