-- For the code: what a leaf of a next tree takes from the old leaves in whose place it stands.
use Rattle.std.specs.Prelude.{◌≡◌, ℕ, ◌<◌, ◌≤◌, Bool, true, false, Option, Some, None, List, min, slice_index}
use Rattle.std.specs.List.{list_any, range_with_len, slice_index_or}
use Rattle.morton_order.specs.Space.{parts}
use Rattle.alloc_epochs.specs.Shelf.{place_on}
use Rattle.dense_remesh.specs.declared.origins.Origin.{Origin}
use Rattle.dense_remesh.specs.declared.origins.Origin.TheVariants.{Leaf, Parent, Children}
use Rattle.cell_block.specs.State.{Stored, idle_at, is_allocated, leaf_count}

-- a number is that of a leaf, or there is none
abbrev pub IsNumberOf : Stored → Option ℕ → Type 0
IsNumberOf s None = Unit {0}
IsNumberOf s (Some leaf) = leaf < leaf_count s

-- the numbers of old leaves are those of leaves
abbrev pub AreNumbersOf : Stored → Origin → Type 0
AreNumbersOf s (Leaf leaf) = leaf < leaf_count s
AreNumbersOf s (Parent leaf) = leaf < leaf_count s
AreNumbersOf s (Children numbers) = (j : ℕ) → j < parts s.dims → IsNumberOf s (slice_index_or numbers j None)

-- whether a field is allocated on an old leaf, which may be none
abbrev pub is_on : Stored → Option ℕ → ℕ → Bool
is_on s None f = false
is_on s (Some leaf) f = is_allocated s (place_on leaf f)

-- whether it is on one of the first so many children
abbrev pub is_below : Stored → List (Option ℕ) → ℕ → ℕ → Bool
is_below s numbers count f = list_any (λ j. is_on s (slice_index_or numbers j None) f) (range_with_len 0 count)

-- whether a field comes to a new leaf: it was on the leaf, on its parent, or on one of its children
abbrev pub comes_to : Stored → Origin → ℕ → Bool
comes_to s (Leaf leaf) f = is_allocated s (place_on leaf f)
comes_to s (Parent leaf) f = is_allocated s (place_on leaf f)
comes_to s (Children numbers) f = is_below s numbers (parts s.dims) f

-- with which idle count
abbrev pub idle_after : Stored → Origin → ℕ → ℕ
idle_after s (Leaf leaf) f = idle_at s (place_on leaf f)
idle_after s (Parent leaf) f = 0
idle_after s (Children numbers) f = 0

-- the tag counter of a new leaf
abbrev pub counter_after : Stored → Origin → ℕ
counter_after s (Leaf leaf) = slice_index s.counters leaf
counter_after s (Parent leaf) = 0
counter_after s (Children numbers) = 0

-- no number from one on, below an end, passes a test
abbrev pub NonePasses : (ℕ → Bool) → ℕ → ℕ → Type 0
NonePasses passes from end = (f : ℕ) → from ≤ f → f < end → passes f ≡ false

-- one is the first that does
pub record IsFirst (passes : ℕ → Bool) (from end next : ℕ) : Type 0 where
  pub after : from ≤ next
  pub within : next < end
  pub there : passes next ≡ true
  pub first : NonePasses passes from next

-- the first one that does, or none
abbrev pub IsNext : (ℕ → Bool) → ℕ → ℕ → Option ℕ → Type 0
IsNext passes from end None = NonePasses passes from end
IsNext passes from end (Some next) = IsFirst passes from end next

-- the lower of two numbers, of which there may be one or none
abbrev pub earlier : Option ℕ → Option ℕ → Option ℕ
earlier None other = other
earlier (Some one) None = Some one
earlier (Some one) (Some other) = Some (min one other)
