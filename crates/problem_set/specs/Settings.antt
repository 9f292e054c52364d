-- What a problem says, as plain data.
use Rattle.std.specs.Prelude.{ℕ, List, Option}
use Rattle.morton_order.specs.declared.space.Shape.{Shape}
use Rattle.package_fields.specs.Fields.{Registered}
use Rattle.mesh_settings.specs.declared.words.Mode.{Mode}
use Rattle.mesh_settings.specs.declared.words.FaceKind.{FaceKind}
use Rattle.deck_entries.specs.declared.entries.Moves.{Moves}
use Rattle.deck_entries.specs.declared.entries.StaticAt.{StaticAt}
use Rattle.deck_entries.specs.declared.entries.StartBox.{StartBox}
use Rattle.deck_entries.specs.declared.entries.Reaction.{Reaction}
use Rattle.deck_entries.specs.declared.entries.Criterion.{Criterion}

-- the settings of a run: those of `Problem`, field by field
pub record Settings : Type 0 where
  pub shape : Shape
  pub size : List ℕ
  pub cells : List ℕ
  pub mode : Mode
  pub levels : ℕ
  pub derefine_count : ℕ
  pub pack_size : Option ℕ
  pub faces : List FaceKind
  pub nlim : ℕ
  pub alloc_threshold : ℕ
  pub dealloc_threshold : ℕ
  pub dealloc_count : ℕ
  pub denominator : ℕ
  pub nstages : ℕ
  pub refine_every : ℕ
  pub dump_every : ℕ
  pub fields : Registered
  pub moves : List Moves
  pub statics : List StaticAt
  pub boxes : List StartBox
  pub reactions : List Reaction
  pub criteria : List Criterion
