-- The places that a delivery makes.
use Rattle.std.proofs.Common.{◌≡◌, ℕ, ◌%◌, ◌==◌, Bool, true, false, cond, not, ◌&&◌, ◌||◌, Some, find, [], refl, ap, ◌∙◌}
use Rattle.cycle_rounds.specs.Events as rounds
use Rattle.cycle_rounds.specs.Events.{Letter}
use Rattle.cycle_events.specs.Cycles.{Cycle, StateOf, next}
use Rattle.cycle_events.specs.Places.{freed_by, has_buffer, made_by, places_where}
use Rattle.cycle_events.specs.Changes.{DeliveriesMake, made_by_letter}
use Rattle.cycle_events.proofs.Counts.{no_places, same_places}
use Rattle.cycle_events.proofs.Steps.{deliver_is, deliver_there, made_of}

new_is : (h even mine z : Bool) → (not h && (h || (even && (mine && (not h && z))))) ≡ (even && (mine && (not h && z)))
new_is true true true z = refl
new_is true true false z = refl
new_is true false mine z = refl
new_is false even mine z = refl

none_freed : (h m : Bool) → (h && not (h || m)) ≡ false
none_freed true m = refl
none_freed false m = refl

module _ {X V G F P W : Type 0} (c : Cycle X V G F P W) (s : StateOf X V G F P W) (seat number : ℕ) (l : Letter X (ℕ → P))
    (e : find (λ (y : Letter X (ℕ → P)). y.number == number) s.wire ≡ Some l) where
  there : (b f : ℕ) → has_buffer c (next c s (rounds.deliver seat number)) b f ≡ (has_buffer c s b f || made_of c s l b f)
  there b f = ap (λ (v : StateOf X V G F P W). has_buffer c v b f) (deliver_is c s seat number l e) ∙ deliver_there c s number l b f

  abbrev part : ℕ → ℕ → Bool
  part b f = b == c.kernels.to l.of && (not (has_buffer c s b f) && (c.kernels.is_sparse f && (c.kernels.has_ghosts f && not (c.kernels.is_blank (l.content f)))))

  by_round : (even : Bool) → (l.round % 2 == 0) ≡ even →
      places_where c.size (λ b f. even && part b f) ≡ cond even (places_where c.size part) []
  by_round true h = refl
  by_round false h = no_places c.size (λ b f. false && part b f) (λ b f. refl)

  pub delivery_makes : made_by c s (rounds.deliver seat number) ≡ made_by_letter c s l
  delivery_makes =
      same_places c.size (λ b f. not (has_buffer c s b f) && has_buffer c (next c s (rounds.deliver seat number)) b f) (λ b f. (l.round % 2 == 0) && part b f)
      (λ b f low lower. ap (λ (v : Bool). not (has_buffer c s b f) && v) (there b f)
      ∙ new_is (has_buffer c s b f) (l.round % 2 == 0) (b == c.kernels.to l.of) (c.kernels.is_sparse f && (c.kernels.has_ghosts f && not (c.kernels.is_blank (l.content f)))))
      ∙ by_round (l.round % 2 == 0) refl

  pub delivery_frees : freed_by c s (rounds.deliver seat number) ≡ []
  delivery_frees =
      no_places c.size (λ b f. has_buffer c s b f && not (has_buffer c (next c s (rounds.deliver seat number)) b f))
      (λ b f. ap (λ (v : Bool). has_buffer c s b f && not v) (there b f) ∙ none_freed (has_buffer c s b f) (made_of c s l b f))

pub deliveries_make : (X V G F P W : Type 0) → DeliveriesMake X V G F P W
deliveries_make X V G F P W c s seat number l e = record { made = delivery_makes c s seat number l e; freed = delivery_frees c s seat number l e }
