-- What the fields of a package are added with.
use Rattle.std.specs.Prelude.{if◌then◌else◌, List, [], ◌∷◌, map}
use Rattle.package_fields.specs.declared.field.Field.{Field}
use Rattle.package_fields.specs.declared.flag.Flag.{Flag}
use Rattle.package_fields.specs.declared.flag.Flag.TheVariants.{Sparse}
use Rattle.package_fields.specs.Flags.{has, permitted}
use Rattle.deck_entries.specs.declared.field_blocks.FieldBlock.{FieldBlock}
use Rattle.deck_entries.specs.FieldBlocks.{dense_field, pool_field}

-- flags that are permitted together, and else none, which are not permitted either
abbrev pub kept_flags : List Flag → List Flag
kept_flags flags = if permitted flags then flags else []

-- the fields that a block declares, with these flags
abbrev pub kept_fields : FieldBlock → List Field
kept_fields b = if has Sparse b.flags then map (pool_field b.name (kept_flags b.flags)) b.ids else dense_field b.name (kept_flags b.flags) ∷ []
