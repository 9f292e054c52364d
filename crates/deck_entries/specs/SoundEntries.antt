-- What holds of a block of each kind that comes in any number.
use Rattle.std.specs.Prelude.{◌≡◌, ◌≢◌, ◌≤◌, ◌<◌, ℕ, ℤ, pos, List, length, All, unsigned_abs}
use Rattle.std.specs.List.{slice_index_or}
use Rattle.deck_entries.specs.declared.entries.Moves.{Moves}
use Rattle.deck_entries.specs.declared.entries.StaticAt.{StaticAt}
use Rattle.deck_entries.specs.declared.entries.StartBox.{StartBox}
use Rattle.deck_entries.specs.declared.entries.Reaction.{Reaction}
use Rattle.deck_entries.specs.declared.entries.Criterion.{Criterion}
use Rattle.mesh_settings.specs.MeshPart.{IsPart}
use Rattle.mesh_settings.specs.Limits.{greatest_factor, greatest_total}

-- velocities along the axes, each of at most a milliard
pub record IsSlow (v : List ℤ) : Type 0 where
  pub three : length v ≡ 3
  pub speed1 : unsigned_abs (slice_index_or v 0 (pos 0)) ≤ greatest_factor
  pub speed2 : unsigned_abs (slice_index_or v 1 (pos 0)) ≤ greatest_factor
  pub speed3 : unsigned_abs (slice_index_or v 2 (pos 0)) ≤ greatest_factor

-- how a field moves: velocities and coefficients of at most a milliard, by a scheme of order 1 or 2, amounts of
-- at most the greatest total
pub record IsMoves (m : Moves) : Type 0 where
  pub slow : IsSlow m.v
  pub six : length m.entry ≡ 6
  pub spread : m.k ≤ greatest_factor
  pub least_order : 1 ≤ m.order
  pub most_order : m.order ≤ 2
  pub amounts : All (λ amount. amount ≤ greatest_total) m.entry

pub record IsStatic (size : List ℕ) (levels : ℕ) (s : StaticAt) : Type 0 where
  pub least : 1 ≤ s.level
  pub most : s.level < levels
  pub part : IsPart size s.lo s.hi

pub record IsBox (size : List ℕ) (fields : ℕ) (b : StartBox) : Type 0 where
  pub field : b.field < fields
  pub part : IsPart size b.lo b.hi
  pub amount : b.amount ≤ greatest_total

pub record IsReaction (fields : ℕ) (r : Reaction) : Type 0 where
  pub from : r.from < fields
  pub to : r.to < fields
  pub differ : r.from ≢ r.to
  pub least : 1 ≤ r.den
  pub most : r.den ≤ greatest_factor
  pub portion : r.num ≤ r.den

pub record IsCriterion (levels fields : ℕ) (c : Criterion) : Type 0 where
  pub field : c.field < fields
  pub refine : c.refine_tol ≤ greatest_total
  pub derefine : c.derefine_tol ≤ c.refine_tol
  pub level : c.max_level < levels
