-- Where buffers are: the places that a task is lent, and those that an event makes and frees.
use Rattle.std.specs.Prelude.{◌==◌, ℕ, ◌*◌, ◌%◌, Bool, true, cond, not, ◌&&◌, nat_lt, is_some, List, map, filter}
use Rattle.std.specs.List.{flat_map, range_with_len}
use Rattle.cycle_rounds.specs.Events as rounds
use Rattle.sparse_rounds.specs.Kernels.{Kernels}
use Rattle.sparse_rounds.specs.Epochs.{Size}
use Rattle.sparse_pool.specs.declared.place.Place.{Place}
use Rattle.sparse_pool.specs.declared.place.PackKind.{PackKind}
use Rattle.sparse_pool.specs.declared.place.PackKind.TheVariants.{All, Ghost, Flux}
use Rattle.cycle_events.specs.Cycles.{Cycle, StateOf, next}

-- the fields that tasks of a kind are lent
abbrev pub has_kind : {X V G F P W : Type 0} → Kernels X V G F P W → PackKind → ℕ → Bool
has_kind k All f = true
has_kind k Ghost f = k.has_ghosts f
has_kind k Flux f = k.has_fluxes f

-- the kind of a task: of a stage's six, Ghost to send and to fill ghosts, Flux for the others; All in the tail
abbrev pub kind_of : {X V G F P W : Type 0} → Kernels X V G F P W → ℕ → PackKind
kind_of k task = cond (nat_lt task (6 * k.stages)) (cond (nat_lt (task % 6) 2) Ghost Flux) All

-- the places that pass a test, by block, then field
abbrev pub places_where : Size → (ℕ → ℕ → Bool) → List Place
places_where size test =
    flat_map (λ b. map (λ f. record { block = b; field = f }) (filter (test b) (range_with_len 0 size.fields)))
    (range_with_len 0 size.blocks)

module _ {X V G F P W : Type 0} (c : Cycle X V G F P W) where
  -- whether a field has a buffer on a block, and whether that buffer is lent
  abbrev pub has_buffer : StateOf X V G F P W → ℕ → ℕ → Bool
  has_buffer s b f = is_some ((s.local (c.kernels.owner b)).bufs b f)

  abbrev pub is_lent : StateOf X V G F P W → ℕ → ℕ → Bool
  is_lent s b f = (s.local (c.kernels.owner b)).leased b f

  -- the places of a list that have a buffer, of the fields of a kind
  abbrev pub listed : StateOf X V G F P W → ℕ → PackKind → List Place
  listed s list kind =
      places_where c.size (λ b f. c.kernels.owner b == list && (has_buffer s b f && has_kind c.kernels kind f))

  -- the places of a list whose buffers are lent
  abbrev pub lent : StateOf X V G F P W → ℕ → List Place
  lent s list = places_where c.size (λ b f. c.kernels.owner b == list && is_lent s b f)

  -- the places that get a buffer by an event, and those that lose theirs
  abbrev pub made_by : StateOf X V G F P W → rounds.Event → List Place
  made_by s e = places_where c.size (λ b f. not (has_buffer s b f) && has_buffer (next c s e) b f)

  abbrev pub freed_by : StateOf X V G F P W → rounds.Event → List Place
  freed_by s e = places_where c.size (λ b f. has_buffer s b f && not (has_buffer (next c s e) b f))
