-- From which mesh states and to which trees a remap goes, and what it gives.
use Rattle.std.specs.Prelude.{◌≡◌, ℕ, ◌-◌, ◌<◌, ◌≤◌, ◌^◌, true, false, Some, replicate}
use Rattle.block_tree.specs.Blocks.{TreeOfBlocks, is_inner_of}
use Rattle.block_tree.specs.Next.{IsNear}
use Rattle.block_layout.specs.declared.layout.Layout.{Layout}
use Rattle.sparse_pool.specs.declared.place.Place.{Place}
use Rattle.alloc_epochs.specs.Shelf.{place_on}
use Rattle.field_bufs.specs.declared.buf.FieldBuf.{FieldBuf}
use Rattle.problem_set.specs.Settings.{Settings}
use Rattle.mesh_rules.specs.Fields.{is_sparse}
use Rattle.mesh_rules.specs.Fit.{IsMaskOf, IsMeshOf, sum_of_all}
use Rattle.mesh_rules.specs.Cycle.{State}
use Rattle.mesh_rules.specs.Run.{remeshed}
use Rattle.cell_block.specs.State.{HasLayout, Stored, buffer_at, is_allocated, leaf_count, list_count}
use Rattle.cell_block.specs.Rules.{IsStoredFor, StandsFor, mesh_in}

-- no block was changed, and no place came or went since the epochs were set to 0
pub record IsFresh (s : Stored) : Type 0 where
  pub stamps : (at : Place) (buf : FieldBuf) → buffer_at s at ≡ Some buf → buf.stamp ≡ 0
  pub epochs : s.epochs ≡ replicate (list_count s) 0

-- a mesh state of a problem can go over to a tree: nothing is lent, fields that no block may go without are allocated on all, the
-- totals add up to less than 2^62, and each leaf differs by at most one level from the old leaves in its place
pub record CanRemap (p : Settings) (old : Stored) (next : TreeOfBlocks) : Type 0 where
  pub stored : IsStoredFor p old
  pub always : (leaf f : ℕ) → leaf < leaf_count old → f < old.fields → is_sparse p f ≡ false → is_allocated old (place_on leaf f) ≡ true
  pub mesh : (l : Layout) → HasLayout old l → IsMeshOf p (mesh_in l old)
  pub bound : (l : Layout) → HasLayout old l → sum_of_all p (mesh_in l old) ≤ 2 ^ 62 - 1
  pub shape : next.shape ≡ p.shape
  pub near : IsNear p.shape (is_inner_of old.tree) (is_inner_of next)

-- a new mesh state stands for what the state that the old one stands for becomes on a tree: looks, inherited fields, carried counters
abbrev pub IsRemapOf : Settings → Stored → TreeOfBlocks → Stored → Type 0
IsRemapOf p old next new = (c : State) → StandsFor p old c → StandsFor p new (remeshed p c (is_inner_of next))

-- a mesh state that stands for a state with a sound mesh and mask, and few enough totals, can go over to each near tree
abbrev pub SoundStatesRemap : Type 0
SoundStatesRemap = (p : Settings) (old : Stored) (c : State) (next : TreeOfBlocks) (l : Layout) → HasLayout old l → StandsFor p old c → IsMeshOf p c.mesh → IsMaskOf p c.mesh c.mask → sum_of_all p c.mesh ≤ 2 ^ 62 - 1 →
    next.shape ≡ p.shape → IsNear p.shape (is_inner_of old.tree) (is_inner_of next) → CanRemap p old next
