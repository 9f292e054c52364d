-- While the epoch of a list stays, so do its places.
use Rattle.std.proofs.Common.{◌≡◌, ℕ, zero, suc, ◌+◌, ◌<◌, ◌≤◌, Bool, true, false, cond, ◌&&◌, List, [], ◌∷◌, ◌++◌, map, count_by, sum_by, filter, inl, inr, refl, arith, ap, sym, ◌∙◌}
use Rattle.std.proofs.lemmas.Bool.{cases_eq}
use Rattle.std.specs.List.{flat_map, range_with_len}
use Rattle.std.proofs.lemmas.List.Sums.{sum_by-cons}
use Rattle.cycle_rounds.specs.Events.{Event, State, after, step}
use Rattle.sparse_rounds.specs.Kernels.{Kernels}
use Rattle.sparse_rounds.specs.Masked.{Run}
use Rattle.sparse_rounds.specs.Sparse.{Local, has_flag, plan_of, sparse}
use Rattle.sparse_rounds.specs.Epochs.{EpochTells, Size, changes, differs, epoch, has_buffer, listed}

-- a filter and a flat map look at what is there alone
filter_same : (q t : ℕ → Bool) (a n : ℕ) → ((i : ℕ) → a ≤ i → i < a + n → q i ≡ t i) → filter q (range_with_len a n) ≡ filter t (range_with_len a n)
filter_same q t a zero h = refl
filter_same q t a (suc n) h =
    ap (λ (v : Bool). cond v (a ∷ filter q (range_with_len (a + 1) n)) (filter q (range_with_len (a + 1) n))) (h a (omega arith) (omega arith))
    ∙ ap (λ (v : List ℕ). cond (t a) (a ∷ v) v) (filter_same q t (a + 1) n (λ i low high. h i (omega arith) (omega arith)))

flat_same : {A : Type 0} (q t : ℕ → List A) (a n : ℕ) → ((i : ℕ) → a ≤ i → i < a + n → q i ≡ t i) → flat_map q (range_with_len a n) ≡ flat_map t (range_with_len a n)
flat_same q t a zero h = refl
flat_same {A} q t a (suc n) h =
    ap (λ (v : List A). v ++ flat_map q (range_with_len (a + 1) n)) (h a (omega arith) (omega arith))
    ∙ ap (λ (v : List A). t a ++ v) (flat_same q t (a + 1) n (λ i low high. h i (omega arith) (omega arith)))

-- a sum of nothing has no terms
sum_zero_at : (f : ℕ → ℕ) (a n : ℕ) → sum_by f (range_with_len a n) ≡ 0 → (i : ℕ) → a ≤ i → i < a + n → f i ≡ 0
sum_zero_at f a zero z i low high = absurd (omega arith)
sum_zero_at f a (suc n) z i low high =
    let c = sum_by-cons f a (range_with_len (a + 1) n) in
    elim (cases_eq i a) [ inl e ↦ (let d = ap f e in omega arith) | inr ne ↦ sum_zero_at f (a + 1) n (omega arith) i (omega arith) (omega arith) ]

differs_not : (b c : Bool) → ◌≡◌ {A = ℕ} (cond (differs b c) 1 0) 0 → b ≡ c
differs_not true true h = refl
differs_not true false h = absurd (one_not_zero h)
  where
    one_not_zero : ◌≡◌ {A = ℕ} 1 0 → ⊥
    one_not_zero h = omega arith
differs_not false true h = absurd (one_not_zero h)
  where
    one_not_zero : ◌≡◌ {A = ℕ} 1 0 → ⊥
    one_not_zero h = omega arith
differs_not false false h = refl

module _ {X V G F P W : Type 0} (k : Kernels X V G F P W) (start : Run V) (size : Size) (i : ℕ) where
  -- the places of a list are the same in two states
  abbrev Same : State X (Local V G F W) (ℕ → P) → State X (Local V G F W) (ℕ → P) → Type 0
  Same s next = (b f : ℕ) → b < size.blocks → f < size.fields → has_buffer k s i b f ≡ has_buffer k next i b f

  unchanged : (s next : State X (Local V G F W) (ℕ → P)) → changes k size s next i ≡ 0 → Same s next
  unchanged s next z b f low lower =
      let row = sum_zero_at (λ b. count_by (λ f. differs (has_buffer k s i b f) (has_buffer k next i b f)) (range_with_len 0 size.fields)) 0 size.blocks z b (omega arith) (omega arith) in
      differs_not (has_buffer k s i b f) (has_buffer k next i b f) (sum_zero_at (λ f. cond (differs (has_buffer k s i b f) (has_buffer k next i b f)) 1 0) 0 size.fields row f (omega arith) (omega arith))

  same_listed : (s next : State X (Local V G F W) (ℕ → P)) (g : ℕ) → Same s next → listed k size next i g ≡ listed k size s i g
  same_listed s next g h = flat_same (λ b. map (λ f. (b, f)) (filter (λ f. has_buffer k next i b f && has_flag k g f) (range_with_len 0 size.fields))) (λ b. map (λ f. (b, f)) (filter (λ f. has_buffer k s i b f && has_flag k g f) (range_with_len 0 size.fields))) 0 size.blocks
      (λ b low high. ap (map (λ f. (b, f))) (filter_same (λ f. has_buffer k next i b f && has_flag k g f) (λ f. has_buffer k s i b f && has_flag k g f) 0 size.fields
      (λ f l m. ap (λ (v : Bool). v && has_flag k g f) (sym (h b f (omega arith) (omega arith))))))

  quiet : (s : State X (Local V G F W) (ℕ → P)) (events : List Event) → epoch k start size s events i ≡ 0 → Same s (after (plan_of k) (sparse k start) s events)
  quiet s [] z b f low lower = refl
  quiet s (e ∷ es) z b f low lower =
      unchanged s (step (plan_of k) (sparse k start) s e) (omega arith) b f low lower ∙ quiet (step (plan_of k) (sparse k start) s e) es (omega arith) b f low lower

  epoch_append : (s : State X (Local V G F W) (ℕ → P)) (first more : List Event) → epoch k start size s (first ++ more) i ≡ epoch k start size s first i + epoch k start size (after (plan_of k) (sparse k start) s first) more i
  epoch_append s [] more = sym (zero_plus (epoch k start size s more i))
    where
      zero_plus : (n : ℕ) → 0 + n ≡ n
      zero_plus n = omega arith
  epoch_append s (e ∷ es) more = let r = epoch_append (step (plan_of k) (sparse k start) s e) es more in omega arith

  after_append : (s : State X (Local V G F W) (ℕ → P)) (first more : List Event) → after (plan_of k) (sparse k start) s (first ++ more) ≡ after (plan_of k) (sparse k start) (after (plan_of k) (sparse k start) s first) more
  after_append s [] more = refl
  after_append s (e ∷ es) more = after_append (step (plan_of k) (sparse k start) s e) es more

pub epoch_tells : (X V G F P W : Type 0) → EpochTells X V G F P W
epoch_tells X V G F P W k start size s first more i g h =
    let a = epoch_append k start size i s first more in
    let mid = after (plan_of k) (sparse k start) s first in
    ap (λ (v : State X (Local V G F W) (ℕ → P)). listed k size v i g) (after_append k start size i s first more)
    ∙ same_listed k start size i mid (after (plan_of k) (sparse k start) mid more) g (quiet k start size i mid more (omega arith))
