-- What each kind of event does to the buffers of a place.
use Rattle.std.proofs.Common.{◌≡◌, ℕ, ◌%◌, ◌/◌, ◌==◌, Bool, true, false, cond, not, ◌&&◌, ◌||◌, inl, inr, Option, Some, None, is_some, find, List, [], refl, ap, sym, subst, ◌∙◌}
use Rattle.std.proofs.lemmas.Bool.{cases_eq, ne_eqb}
use Rattle.cycle_rounds.specs.Events as rounds
use Rattle.cycle_rounds.specs.Events.{Letter, delivered, put, reads}
use Rattle.cycle_rounds.proofs.Lists.{put_other, put_same}
use Rattle.sparse_rounds.specs.Sparse.{Buf, Local, arrived, lease_of, makes, nothing, work_of}
use Rattle.sparse_pool.specs.declared.place.Place.{Place}
use Rattle.cycle_events.specs.declared.event.Event.{Event}
use Rattle.cycle_events.specs.declared.event.Event.TheVariants.{Take, Give, Deliver}
use Rattle.cycle_events.specs.Cycles.{Cycle, StateOf, machine, next, plan}
use Rattle.cycle_events.specs.Places.{has_buffer}

-- tests of places
pub or_false : (v : Bool) → (v || false) ≡ v
or_false true = refl
or_false false = refl

pub and_false : (v : Bool) → (v && false) ≡ false
and_false true = refl
and_false false = refl

pub same_where : (o v w : Bool) → (o ≡ true → v ≡ w) → (o && v) ≡ (o && w)
same_where true v w h = h refl
same_where false v w h = refl

there_if : {A : Type 0} (m : Bool) (u : A) (o : Option A) → is_some (cond m (Some u) o) ≡ (is_some o || m)
there_if true u None = refl
there_if true u (Some _) = refl
there_if false u None = refl
there_if false u (Some _) = refl

kept_by : {A : Type 0} (even mine z : Bool) (u : A) (o : Option A) → is_some o ≡ true →
    cond (even && (mine && (not (is_some o) && z))) (Some u) o ≡ o
kept_by true true z u (Some v) h = refl
kept_by true false z u (Some v) h = refl
kept_by false mine z u (Some v) h = refl
kept_by even mine z u None h = absurd (subst (λ (b : Bool). cond b ⊥ (Unit {0})) h tt)

-- the task and the places that a Take tells
abbrev pub task_in : Event → ℕ
task_in (Take seat list task places) = task
task_in (Give seat list task made freed) = task
task_in (Deliver seat letter made) = 0

abbrev pub places_in : Event → List Place
places_in (Take seat list task places) = places
places_in (Give seat list task made freed) = []
places_in (Deliver seat letter made) = []

module _ {X V G F P W : Type 0} (c : Cycle X V G F P W) where
  -- a Take leaves all buffers
  pub take_bufs : (s : StateOf X V G F P W) (seat j i : ℕ) → ((next c s (rounds.take seat j)).local i).bufs ≡ (s.local i).bufs
  take_bufs s seat j i = elim (cases_eq i j) [
    | inl e ↦ ap (λ (l : Local V G F W). l.bufs) (put_same s.local j i (lease_of c.kernels (s.given j) (s.local j)) e) ∙ ap (λ v. (s.local v).bufs) (sym e)
    | inr ne ↦ ap (λ (l : Local V G F W). l.bufs) (put_other s.local j i (lease_of c.kernels (s.given j) (s.local j)) ne)
  ]

  pub take_there : (s : StateOf X V G F P W) (seat j b f : ℕ) → has_buffer c (next c s (rounds.take seat j)) b f ≡ has_buffer c s b f
  take_there s seat j b f = ap (λ (v : ℕ → ℕ → Option (Buf V G F)). is_some (v b f)) (take_bufs s seat j (c.kernels.owner b))

  -- a Give works on what its own list holds, and leaves the others alone
  abbrev pub work_given : StateOf X V G F P W → ℕ → Local V G F W
  work_given s j = work_of c.kernels (s.given j) (reads (plan c) (machine c) s (s.given j / 3)) (s.local j)

  pub give_own : (s : StateOf X V G F P W) (seat j : ℕ) → (next c s (rounds.give seat j)).local j ≡ work_given s j
  give_own s seat j = put_same s.local j j (work_given s j) refl

  pub give_other : (s : StateOf X V G F P W) (seat j i : ℕ) → (i ≡ j → ⊥) → (next c s (rounds.give seat j)).local i ≡ s.local i
  give_other s seat j i ne = put_other s.local j i (work_given s j) ne

  -- a letter that is delivered
  abbrev pub after_letter : StateOf X V G F P W → ℕ → Letter X (ℕ → P) → StateOf X V G F P W
  after_letter s number l = delivered (plan c) (machine c) s number (Some l)

  pub deliver_is : (s : StateOf X V G F P W) (seat number : ℕ) (l : Letter X (ℕ → P)) → find (λ (y : Letter X (ℕ → P)). y.number == number) s.wire ≡ Some l →
      next c s (rounds.deliver seat number) ≡ after_letter s number l
  deliver_is s seat number l e = ap (delivered (plan c) (machine c) s number) e

  abbrev pub made_of : StateOf X V G F P W → Letter X (ℕ → P) → ℕ → ℕ → Bool
  made_of s l b f = makes c.kernels l.round l.of l.content (s.local (c.kernels.owner b)) b f

  -- what it leaves of the buffers of a list
  pub deliver_own : (s : StateOf X V G F P W) (number : ℕ) (l : Letter X (ℕ → P)) (i : ℕ) → i ≡ c.kernels.owner (c.kernels.to l.of) →
      (after_letter s number l).local i ≡ arrived c.kernels l.round l.of l.content (s.local i)
  deliver_own s number l i e =
      put_same s.local (c.kernels.owner (c.kernels.to l.of)) i (arrived c.kernels l.round l.of l.content (s.local (c.kernels.owner (c.kernels.to l.of)))) e
      ∙ ap (λ v. arrived c.kernels l.round l.of l.content (s.local v)) (sym e)

  pub deliver_other : (s : StateOf X V G F P W) (number : ℕ) (l : Letter X (ℕ → P)) (i : ℕ) → (i ≡ c.kernels.owner (c.kernels.to l.of) → ⊥) →
      (after_letter s number l).local i ≡ s.local i
  deliver_other s number l i ne = put_other s.local (c.kernels.owner (c.kernels.to l.of)) i (arrived c.kernels l.round l.of l.content (s.local (c.kernels.owner (c.kernels.to l.of)))) ne

  -- a letter makes nothing on a block that it does not go to
  not_made : (s : StateOf X V G F P W) (l : Letter X (ℕ → P)) (b f : ℕ) → (b ≡ c.kernels.to l.of → ⊥) → made_of s l b f ≡ false
  not_made s l b f ne =
      ap (λ (v : Bool). (l.round % 2 == 0) && (v && (not (has_buffer c s b f) && (c.kernels.is_sparse f && (c.kernels.has_ghosts f && not (c.kernels.is_blank (l.content f)))))))
      (ne_eqb b (c.kernels.to l.of) ne)
      ∙ and_false (l.round % 2 == 0)

  pub deliver_there : (s : StateOf X V G F P W) (number : ℕ) (l : Letter X (ℕ → P)) (b f : ℕ) →
      has_buffer c (after_letter s number l) b f ≡ (has_buffer c s b f || made_of s l b f)
  deliver_there s number l b f = elim (cases_eq (c.kernels.owner b) (c.kernels.owner (c.kernels.to l.of))) [
    | inl e ↦ (
        ap (λ (v : Local V G F W). is_some (v.bufs b f)) (deliver_own s number l (c.kernels.owner b) e)
        ∙ there_if (made_of s l b f) (nothing c.kernels) ((s.local (c.kernels.owner b)).bufs b f))
    | inr ne ↦ (
        ap (λ (v : Local V G F W). is_some (v.bufs b f)) (deliver_other s number l (c.kernels.owner b) ne)
        ∙ (sym (or_false (has_buffer c s b f))
        ∙ ap (λ (v : Bool). has_buffer c s b f || v) (sym (not_made s l b f (λ e. ne (ap c.kernels.owner e))))))
  ]

  -- it leaves the buffers that there are
  pub deliver_keeps : (s : StateOf X V G F P W) (number : ℕ) (l : Letter X (ℕ → P)) (i b f : ℕ) → is_some ((s.local i).bufs b f) ≡ true →
      ((after_letter s number l).local i).bufs b f ≡ (s.local i).bufs b f
  deliver_keeps s number l i b f h = elim (cases_eq i (c.kernels.owner (c.kernels.to l.of))) [
    | inl e ↦ (
        ap (λ (v : Local V G F W). v.bufs b f) (deliver_own s number l i e)
        ∙ kept_by (l.round % 2 == 0) (b == c.kernels.to l.of) (c.kernels.is_sparse f && (c.kernels.has_ghosts f && not (c.kernels.is_blank (l.content f))))
        (nothing c.kernels) ((s.local i).bufs b f) h)
    | inr ne ↦ ap (λ (v : Local V G F W). v.bufs b f) (deliver_other s number l i ne)
  ]

  pub deliver_leased : (s : StateOf X V G F P W) (number : ℕ) (l : Letter X (ℕ → P)) (i : ℕ) → ((after_letter s number l).local i).leased ≡ (s.local i).leased
  deliver_leased s number l i = elim (cases_eq i (c.kernels.owner (c.kernels.to l.of))) [
    | inl e ↦ ap (λ (v : Local V G F W). v.leased) (deliver_own s number l i e)
    | inr ne ↦ ap (λ (v : Local V G F W). v.leased) (deliver_other s number l i ne)
  ]
