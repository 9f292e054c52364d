-- What passes the faces at a side of a block, in the words of the kernel and of the laws of flows.
use Rattle.std.specs.Prelude.{◌≡◌, ℕ, ◌<◌, Bool, List}
use Rattle.block_layout.specs.declared.layout.Layout.{Layout}
use Rattle.block_layout.specs.Sizes.{IsLayout}
use Rattle.flow_laws.specs.Flows.{passed_side}
use Rattle.transport_kernel.specs.Passed.{passed_at}

-- the sum that the kernel gives for a side of a block is the one that the laws of flows speak of
abbrev pub PassedAreSides : Type 0
PassedAreSides = (l : Layout) (axis : ℕ) (high : Bool) (list : List ℕ) → IsLayout l.dims l.cells → axis < l.dims → passed_at l axis high list ≡ passed_side l list axis high
