-- Lists of places by flag, and the count of changes that tells whether one is still true.
use Rattle.std.specs.Prelude.{◌≡◌, ◌==◌, ℕ, ◌+◌, Bool, true, false, ◌&&◌, not, is_some, List, [], ◌∷◌, ◌++◌, map, count_by, sum_by, filter}
use Rattle.std.specs.List.{flat_map, range_with_len}
use Rattle.cycle_rounds.specs.Events.{Event, State, after, step}
use Rattle.sparse_rounds.specs.Kernels.{Kernels}
use Rattle.sparse_rounds.specs.Masked.{Run}
use Rattle.sparse_rounds.specs.Sparse.{Local, has_flag, plan_of, sparse}

-- how many blocks and fields there are
pub record Size : Type 0 where
  pub blocks : ℕ
  pub fields : ℕ

abbrev pub Place : Type 0
Place = ℕ × ℕ

-- whether a place of a list has a buffer
abbrev pub has_buffer : {X V G F P W : Type 0} → Kernels X V G F P W → State X (Local V G F W) (ℕ → P) → ℕ → ℕ → ℕ → Bool
has_buffer k s i b f = k.owner b == i && is_some ((s.local i).bufs b f)

-- the places of a list that a task of the number g is lent: by block, then field
abbrev pub listed : {X V G F P W : Type 0} → Kernels X V G F P W → Size → State X (Local V G F W) (ℕ → P) → ℕ → ℕ → List Place
listed k size s i g = flat_map (λ b. map (λ f. (b, f)) (filter (λ f. has_buffer k s i b f && has_flag k g f) (range_with_len 0 size.fields))) (range_with_len 0 size.blocks)

-- how many places of a list an event makes or frees
abbrev pub differs : Bool → Bool → Bool
differs true b = not b
differs false b = b

abbrev pub changes : {X V G F P W : Type 0} → Kernels X V G F P W → Size → State X (Local V G F W) (ℕ → P) → State X (Local V G F W) (ℕ → P) → ℕ → ℕ
changes k size s next i = sum_by (λ b. count_by (λ f. differs (has_buffer k s i b f) (has_buffer k next i b f)) (range_with_len 0 size.fields)) (range_with_len 0 size.blocks)

-- the epoch of a list: how many places its events made and freed
abbrev pub epoch : {X V G F P W : Type 0} → Kernels X V G F P W → Run V → Size → State X (Local V G F W) (ℕ → P) → List Event → ℕ → ℕ
epoch k start size s [] i = 0
epoch k start size s (e ∷ es) i = changes k size s (step (plan_of k) (sparse k start) s e) i + epoch k start size (step (plan_of k) (sparse k start) s e) es i

-- a list of places that was true at an epoch is true as long as the epoch is that one, for every flag
abbrev pub EpochTells : (X V G F P W : Type 0) → Type 0
EpochTells X V G F P W = (k : Kernels X V G F P W) (start : Run V) (size : Size) (s : State X (Local V G F W) (ℕ → P)) (first more : List Event) (i g : ℕ) →
    epoch k start size s (first ++ more) i ≡ epoch k start size s first i →
    listed k size (after (plan_of k) (sparse k start) s (first ++ more)) i g ≡ listed k size (after (plan_of k) (sparse k start) s first) i g
