-- For the machine: which leaves exchange letters in a stage, what a flux letter holds, and which leaves a list of tasks has.
use Rattle.std.specs.Prelude.{◌==◌, ℕ, ◌+◌, ◌-◌, ◌/◌, Bool, true, false, cond, not, Option, Some, None, List, [], ◌∷◌, ◌++◌, map}
use Rattle.std.specs.List.{enumerate_from, flat_map, range_with_len}
use Rattle.morton_order.specs.declared.space.Loc.{Loc}
use Rattle.block_tree.specs.Behind.{Behind, behind, outside, same, coarse, fine}
use Rattle.problem_set.specs.Settings.{Settings}
use Rattle.mesh_rules.specs.Mesh.{Mesh, is_inner, leaf_number}
use Rattle.mesh_rules.specs.Faces.{Pair, face_pair}
use Rattle.mesh_rules.specs.Regions.{Span, at_end, cells_in, coarse_span, leaves_in, own_span}

-- a letter: the numbers of the leaves that send and receive it, and the side of the receiver across which it comes
pub record Exchange : Type 0 where
  pub from : ℕ
  pub to : ℕ
  pub axis : ℕ
  pub high : Bool

-- the letters of a leaf across its own sides, x1 low first, to leaves that stand behind them in their order
abbrev pub letters_across : Mesh → (Behind → List Loc) → ℕ → Loc → ℕ → Bool → List Exchange
letters_across m receivers leaf l axis high =
    map (λ to. record { from = leaf; to = leaf_number m to; axis = axis; high = not high }) (receivers (behind m.shape (is_inner m) l axis high))

abbrev pub letters_of : Mesh → (Behind → List Loc) → ℕ → Loc → List Exchange
letters_of m receivers leaf l = flat_map (λ axis. letters_across m receivers leaf l axis false ++ letters_across m receivers leaf l axis true) (range_with_len 0 m.shape.dims)

abbrev pub all_letters : Mesh → (Behind → List Loc) → List Exchange
all_letters m receivers = flat_map (λ (leaf : ℕ × Loc). letters_of m receivers leaf.0 leaf.1) (enumerate_from 0 m.leaves)

-- the ghost letters of a stage in the order of their numbers: one to each leaf behind each side of each leaf
abbrev pub ghost_letters : Mesh → List Exchange
ghost_letters m = all_letters m leaves_in

-- the coarser leaf behind a side
abbrev pub coarser_in : Behind → List Loc
coarser_in outside = []
coarser_in (same o) = []
coarser_in (coarse o) = o ∷ []
coarser_in (fine os) = []

-- the flux letters of a stage in the order of their numbers: one to the coarser leaf behind a side of a leaf
abbrev pub flux_letters : Mesh → List Exchange
flux_letters m = all_letters m coarser_in

-- the receiver's cells next to the face that a finer sender covers, along any axis
abbrev pub flux_span : Mesh → Loc → Loc → ℕ → Bool → ℕ → Span
flux_span m from to axis high along = cond (along == axis) (at_end high 1 (own_span m to along)) (coarse_span m from along)

-- a field's pairs in a flux letter: those of the receiver's faces, which are sums of the sender's, x1 fastest
abbrev pub flux_region : Settings → Mesh → ℕ → Loc → Loc → ℕ → Bool → List Pair
flux_region p m f from to axis high = map (λ c. face_pair p m f c axis high)
    (cells_in to.level (flux_span m from to axis high 0) (flux_span m from to axis high 1) (flux_span m from to axis high 2))

-- how many leaves a partition has, where there are so many leaves in all: without a size they are all in one
abbrev pub partition_size : Option ℕ → ℕ → ℕ
partition_size None leaves = leaves
partition_size (Some size) leaves = size

-- the partition of a leaf, and how many there are
abbrev pub partition_of : Settings → ℕ → ℕ → ℕ
partition_of p leaves leaf = leaf / partition_size p.pack_size leaves

abbrev pub partition_count : Settings → ℕ → ℕ
partition_count p leaves = (leaves + partition_size p.pack_size leaves - 1) / partition_size p.pack_size leaves
