-- What the machine supplies, in every state that is reached, and at the end.
use Rattle.std.proofs.Common.{◌≡◌, ℕ, ◌+◌, ◌*◌, ◌==◌, Bool, is_some, List, [], ◌∷◌, length, refl, arith}
use Rattle.std.specs.List.{list_all, range_with_len}
use Rattle.std.proofs.lemmas.Bool.{and_parts, eqb-true}
use Rattle.cycle_rounds.specs.Plan.{all_tasks}
use Rattle.cycle_rounds.specs.Events.{Each, Event, IsHistory, Letter}
use Rattle.cycle_rounds.proofs.Carried.{IsCarried, replay_carried}
use Rattle.cycle_rounds.proofs.Each.{each_append}
use Rattle.cycle_rounds.proofs.Lists.{range_at}
use Rattle.sparse_rounds.specs.Kernels.{AreKernels, Kernels}
use Rattle.sparse_rounds.specs.Masked.{IsStart, Run}
use Rattle.sparse_rounds.specs.Sparse.{Local, plan_of, sparse}
use Rattle.sparse_rounds.specs.Agreement.{Agrees, LetterAgrees}
use Rattle.sparse_rounds.specs.Laws.{BuffersAreThose, EndsAs, EndsMasked, LettersStayTrue, StaysMasked, reached}
use Rattle.sparse_rounds.proofs.Clock.{is_plan}
use Rattle.sparse_rounds.proofs.Supplies.{Came, Good, supplies}
use Rattle.sparse_rounds.proofs.Tail.{buffers_are}

carried : {X V G F P W : Type 0} (k : Kernels X V G F P W) (start : Run V) (events : List Event) (laws : AreKernels k) (is : IsStart k start) → IsHistory (plan_of k) (sparse k start) events →
    IsCarried (plan_of k) (Good k laws start is) (Came k laws start is) (LetterAgrees k start) (reached k start events)
carried k start events laws is h = replay_carried (plan_of k) (sparse k start) (Good k laws start is) (Came k laws start is) (LetterAgrees k start) (is_plan k laws) (supplies k laws start is) events h

pub stays_masked : (X V G F P W : Type 0) → StaysMasked X V G F P W
stays_masked X V G F P W k start events laws is h b f = (carried k start events laws is h).good (k.owner b) b f refl

each_first : {A : Type 0} (Q R : A → Type 0) (xs : List A) → Each (λ x. Q x × R x) xs → Each Q xs
each_first Q R [] h = tt
each_first Q R (x ∷ xs) h = (h.0.0, each_first Q R xs h.1)

pub letters_stay_true : (X V G F P W : Type 0) → LettersStayTrue X V G F P W
letters_stay_true X V G F P W k start events laws is h =
    let c = carried k start events laws is h in
    each_append (λ (l : Letter X (ℕ → P)). LetterAgrees k start l.round l.of l.content) (reached k start events).wire (reached k start events).mail c.wire
    (each_first (λ (l : Letter X (ℕ → P)). LetterAgrees k start l.round l.of l.content) (λ (l : Letter X (ℕ → P)). Came k laws start is l.round l.of ((reached k start events).local (k.owner (k.to l.of)))) (reached k start events).mail c.mail)

pub buffers_are_those : (X V G F P W : Type 0) → BuffersAreThose X V G F P W
buffers_are_those X V G F P W k start events laws is h b f at =
    buffers_are k start ((reached k start events).local (k.owner b)) b f ((stays_masked X V G F P W k start events laws is h b f).stage k.stages 0 (omega arith) (omega arith) (omega arith))

ends : {X V G F P W : Type 0} (k : Kernels X V G F P W) (start : Run V) (g : ℕ) (out : Bool) (l : Local V G F W) (b f : ℕ) → g ≡ 6 * k.stages + 3 → Agrees k start g out l b f → EndsAs k start l b f
ends k start g out l b f e a = let c = a.checked (omega arith) in record { run = c.0; buffers = c.1; wishes = a.wished (omega arith) }

pub ends_masked : (X V G F P W : Type 0) → EndsMasked X V G F P W
ends_masked X V G F P W k start events laws is h done b f =
    let s = reached k start events in
    let all = and_parts (list_all (λ i. s.given i == all_tasks (plan_of k)) (range_with_len 0 k.lists)) (length s.wire == 0) done in
    let own = laws.owned b in
    let at = eqb-true (s.given (k.owner b)) (all_tasks (plan_of k)) (range_at (λ i. s.given i == all_tasks (plan_of k)) 0 k.lists all.0 (k.owner b) (omega arith) (omega arith)) in
    ends k start (s.given (k.owner b)) (is_some (s.out (k.owner b))) (s.local (k.owner b)) b f (omega arith) (stays_masked X V G F P W k start events laws is h b f)
