-- What the tables say can be done next is so in the state that they show.
use Rattle.std.proofs.Common.{◌≡◌, ◌∙◌, ap, sym, subst, refl, arith, ℕ, zero, suc, ◌+◌, ◌<◌, Bool, Option, Some, None, is_some, List, [], ◌∷◌, length, count_by, slice_index_or}
use Rattle.std.specs.List.{AllZip, range_with_len}
use Rattle.cycle_rounds.proofs.Lists.{count_cons, same_if}
use Rattle.cycle_tables.specs.declared.letter.Letter.{Letter as Posted}
use Rattle.cycle_tables.specs.declared.list_state.ListState.{ListState}
use Rattle.cycle_tables.specs.Tables.{Protocol, leases, no_list}
use Rattle.cycle_tables.proofs.Entries.{not_there}
use Rattle.cycle_table_laws.specs.Shows.{StandsFor, on_wire}
use Rattle.cycle_table_laws.specs.Laws.{TellsReadiness}
use Rattle.cycle_events.specs.declared.event.Event.{Event}
use Rattle.cycle_events.specs.Cycles.{Cycle, IsCycle, plan, state_of}
use Rattle.journal_tables.specs.declared.work.NextWork.{NextWork}
use Rattle.journal_tables.specs.declared.work.NextWork.TheVariants as next
use Rattle.journal_tables.specs.Follows.{Follows}
use Rattle.journal_tables.specs.NextWork.{IsNext, IsNextIn, leases_in}
use Rattle.journal_tables.proofs.Following.{delivers_next, tells_next}

-- counts that agree place by place
count_places : {X : Type 0} (q : X → Bool) (t : ℕ → Bool) (xs : List X) (d : X) (a n : ℕ) → length xs ≡ n →
    ((j : ℕ) → j < n → q (slice_index_or xs j d) ≡ t (a + j)) → count_by q xs ≡ count_by t (range_with_len a n)
count_places q t [] d a zero e h = refl
count_places q t [] d a (suc n) e h = absurd (omega arith)
count_places q t (x ∷ xs) d a zero e h = absurd (omega arith)
count_places q t (x ∷ xs) d a (suc n) e h =
    let first = count_cons q x xs in
    let other = count_cons t a (range_with_len (a + 1) n) in
    let here = same_if (q x) (t a) (h 0 (omega arith) ∙ ap t (let z : a + 0 ≡ a = omega arith in z)) in
    let rest = count_places q t xs d (a + 1) n (omega arith)
    (λ j low. h (suc j) (omega arith) ∙ ap t (let z : a + suc j ≡ a + 1 + j = omega arith in z)) in
    omega arith

-- where no number has a letter, none is on the wire
none_posted : {T : Type 0} (posts : List (Option (Posted T))) → ((k : ℕ) → slice_index_or posts k None ≡ None) → on_wire posts ≡ []
none_posted [] h = refl
none_posted (None ∷ posts) h = none_posted posts (λ k. h (suc k))
none_posted (Some l ∷ posts) h = absurd (not_there l (sym (h 0)))

none_beside : {A B : Type 0} (R : A → B → Type 0) (xs : List A) (ys : List B) → xs ≡ [] → AllZip R xs ys → ys ≡ []
none_beside {A} {B} R xs ys e h = by ys (subst (λ (zs : List A). AllZip R zs ys) e h)
  where
    by : (ys : List B) → AllZip R [] ys → ys ≡ []
    by [] h = refl
    by (y ∷ ys) h = absurd h

module _ {X V G F P W T : Type 0} (c : Cycle X V G F P W) (laws : IsCycle c) (R : T → X → (ℕ → P) → Type 0) (events : List Event) (v : Protocol T) (h : Follows c R events v) where
  tells : TellsReadiness (plan c) (state_of c events) v
  tells = tells_next c laws R events v h

  leases_same : leases v ≡ leases_in (plan c) (state_of c events)
  leases_same =
      count_places (λ (l : ListState). is_some l.out) (λ i. is_some ((state_of c events).out i)) v.lists no_list 0 (plan c).lists h.tables.plan.lists
      (λ j low. ap (λ (o : Option ℕ). is_some o) (h.tables.out j low) ∙ ap (λ k. is_some ((state_of c events).out k)) (let z : j ≡ 0 + j = omega arith in z))

  pub told : (work : NextWork) → IsNext v work → IsNextIn (plan c) (state_of c events) work
  told (next.Task i) may = sym (tells.ready i) ∙ may
  told (next.Letter number i) n =
      let d = delivers_next c laws R events v h 0 number n.1.letter n.1.there in
      (λ j. sym (tells.ready j) ∙ n.0 j, record { letter = d.letter; found = d.found; to = sym d.stands.to ∙ n.1.to })
  told next.Done done = sym tells.done ∙ done
  told (next.Waiting out) still = record {
    none_ready = λ i. sym (tells.ready i) ∙ still.none_ready i;
    empty_wire = none_beside (StandsFor (plan c) R) (on_wire v.posts) (state_of c events).wire (none_posted v.posts still.empty_wire) h.tables.wire;
    not_done = sym tells.done ∙ still.not_done;
    counted = still.counted ∙ leases_same;
    some = let n = tells.leased still.not_done still.none_ready still.empty_wire in let e = still.counted in omega arith;
  }
