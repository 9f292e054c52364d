use Rattle.std.proofs.Common.{◌++◌, ◌-◌, List, map, take, length, ap, sym, ◌∙◌}
use Rattle.std.proofs.lemmas.Result.{on_ok_weaker}
use Rattle.package_fields.specs.declared.field.Field.{Field}
use Rattle.package_fields.specs.declared.flag.Flag.{Flag}
use Rattle.package_fields.specs.declared.flag.Flag.TheVariants.{Sparse}
use Rattle.deck_entries.specs.FieldBlocks.{pool_field}
use Rattle.package_fields.specs.Flags.{has}
use Rattle.deck_entries.specs.declared.entries.Moves.{Moves}
use Rattle.problem_set.specs.PackageBlocks.{most_gathered}
use Rattle.problem_set.proofs.PackageLemmas.{first_of_pool, first_moves_of_pool}
use Rattle.problem_set.proofs.packages.push_block.Goals as goal

pub returns-then-has_flag-clause-fields : goal.returns-then-has_flag-clause-fields
returns-then-has_flag-clause-fields c =
    on_ok_weaker c.push_pool.result (λ e. e ∙ ap (λ (l : List Field). c.args.list.now.fields ++ l) (ap (λ (f : List Flag). map (pool_field c.args.block.now.name f) (take (most_gathered - length c.args.list.now.fields) c.args.block.now.ids)) c.in_ok-flags.ensures.value ∙ first_of_pool c.args.block.now (most_gathered - length c.args.list.now.fields) (ap (has Sparse) (sym c.as_slice.ensures) ∙ sym c.has_flag.ensures ∙ c.if-has_flag.true))) c.push_pool.ensures.fields

pub returns-then-has_flag-clause-moves : goal.returns-then-has_flag-clause-moves
returns-then-has_flag-clause-moves c =
    on_ok_weaker c.push_pool.result (λ e. e ∙ ap (λ (l : List Moves). c.args.list.now.moves ++ l) (first_moves_of_pool c.args.block.now (most_gathered - length c.args.list.now.fields) (ap (has Sparse) (sym c.as_slice.ensures) ∙ sym c.has_flag.ensures ∙ c.if-has_flag.true))) c.push_pool.ensures.moves
