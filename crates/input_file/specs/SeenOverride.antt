-- An override as contracts see it.
use Rattle.input_file.specs.Overrides.{Override}
use Rattle.input_file.specs.declared.overrides.OverrideWord.{OverrideWord}

-- the override, with its texts by their bytes
abbrev pub seen_override : OverrideWord → Override
seen_override o = record { block = o.block.now; key = o.key.now; value = o.value.now }
