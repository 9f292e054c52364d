use Rattle.std.proofs.Common.{ap, ◌∙◌}
use Rattle.deck_values.specs.FlagsAndIds.{flag_named}
use Rattle.deck_values.proofs.Spaces.{spaces_trimmed}
use Rattle.deck_values.proofs.flags_and_ids.flag_of.Goals as goal

pub returns : goal.returns
returns c = c.flag_named.ensures ∙ ap flag_named (spaces_trimmed c.args.item.now c.trim_matches.result.now c.trim_matches.ensures.matches)
