-- What holds of the ghosts of nothing and of all ghosts that letters give holds of the ghosts of every buffer.
use Rattle.std.proofs.Common.{◌≡◌, ◌==◌, ℕ, zero, suc, ◌-◌, ◌*◌, ◌/◌, ◌%◌, Bool, true, false, cond, Option, Some, None, List, [], ◌∷◌, find, refl, subst, ◌||◌, ◌&&◌, nat_lt}
use Rattle.cycle_rounds.specs.Events as rounds
use Rattle.cycle_rounds.specs.Events.{Letter, State, after, put, step}
use Rattle.sparse_rounds.specs.Kernels.{Kernels}
use Rattle.sparse_rounds.specs.Masked.{Run}
use Rattle.sparse_rounds.specs.Sparse.{Buf, Local, checked, filled, fixed, fluxed, keeps_checked, makes, nothing, plan_of, reacted, read, sparse, stage_work, tail_work, updated, with_cells, work_of}

module _ {X V G F P W : Type 0} (k : Kernels X V G F P W) (start : Run V) (Fine : ℕ → G → Type 0) (none : (b : ℕ) → Fine b k.no_ghosts) (given : (b f : ℕ) (content : X → P) → Fine b (k.ghosts b f content)) where
  -- the buffers of a list are fine
  abbrev pub AreFine : Local V G F W → Type 0
  AreFine l = (b f : ℕ) (u : Buf V G F) → l.bufs b f ≡ Some u → Fine b u.ghosts

  same_buf : (u v : Buf V G F) → ◌≡◌ {A = Option (Buf V G F)} (Some u) (Some v) → u ≡ v
  same_buf u v e = cc

  no_buf : (u : Buf V G F) → ◌≡◌ {A = Option (Buf V G F)} None (Some u) → ⊥
  no_buf u e = cc

  -- a buffer with these ghosts
  fine_as : (b : ℕ) (v u : Buf V G F) → Fine b v.ghosts → ◌≡◌ {A = Option (Buf V G F)} (Some v) (Some u) → Fine b u.ghosts
  fine_as b v u h e = subst (λ (x : Buf V G F). Fine b x.ghosts) (same_buf v u e) h

  read_fine : (l : Local V G F W) (b f : ℕ) → AreFine l → Fine b (read k (l.bufs b f)).ghosts
  read_fine l b f h = by (l.bufs b f) refl
    where
      by : (o : Option (Buf V G F)) → l.bufs b f ≡ o → Fine b (read k o).ghosts
      by None e = none b
      by (Some u) e = h b f u e

  -- of two, whatever a test says
  either : (b : ℕ) (t : Bool) (o p : Option (Buf V G F)) (u : Buf V G F) → ((u : Buf V G F) → o ≡ Some u → Fine b u.ghosts) → ((u : Buf V G F) → p ≡ Some u → Fine b u.ghosts) → cond t o p ≡ Some u → Fine b u.ghosts
  either b true o p u h g e = h u e
  either b false o p u h g e = g u e

  filled_fine : (content : X → ℕ → P) (l : Local V G F W) → AreFine l → AreFine (filled k content l)
  filled_fine content l h b f u e =
      either b (l.leased b f || (k.is_sparse f && (k.has_ghosts f && k.flows_in b f)))
      (Some (record (cond (l.leased b f) (read k (l.bufs b f)) (nothing k)) { ghosts = k.ghosts b f (λ x. content x f) })) (l.bufs b f) u
      (λ v d. fine_as b (record (cond (l.leased b f) (read k (l.bufs b f)) (nothing k)) { ghosts = k.ghosts b f (λ x. content x f) }) v (given b f (λ x. content x f)) d)
      (h b f) e

  fluxed_fine : (l : Local V G F W) → AreFine l → AreFine (fluxed k l)
  fluxed_fine l h b f u e =
      let v : Buf V G F = record (read k (l.bufs b f)) { pairs = k.fluxes b f (read k (l.bufs b f)).cells (read k (l.bufs b f)).ghosts } in
      either b (l.leased b f) (Some v) (l.bufs b f) u (λ x d. fine_as b v x (read_fine l b f h) d) (h b f) e

  fixed_fine : (content : X → ℕ → P) (l : Local V G F W) → AreFine l → AreFine (fixed k content l)
  fixed_fine content l h b f u e =
      let v : Buf V G F = record (read k (l.bufs b f)) { pairs = k.corrected b f (read k (l.bufs b f)).pairs (λ x. content x f) } in
      either b (l.leased b f) (Some v) (l.bufs b f) u (λ x d. fine_as b v x (read_fine l b f h) d) (h b f) e

  updated_fine : (l : Local V G F W) → AreFine l → AreFine (updated k l)
  updated_fine l h b f u e =
      let v : Buf V G F = record (read k (l.bufs b f)) { cells = cond (l.kept b f) (k.update b f (read k (l.bufs b f)).cells (read k (l.bufs b f)).pairs) k.no_cells } in
      either b (l.leased b f) (Some v) (l.bufs b f) u (λ x d. fine_as b v x (read_fine l b f h) d) (h b f) e

  with_fine : (b : ℕ) (t : Bool) (cells : V) (o : Option (Buf V G F)) (u : Buf V G F) → ((v : Buf V G F) → o ≡ Some v → Fine b v.ghosts) → with_cells k t cells o ≡ Some u → Fine b u.ghosts
  with_fine b true cells None u h e = fine_as b (record (nothing k) { cells = cells }) u (none b) e
  with_fine b true cells (Some v) u h e = fine_as b (record v { cells = cells }) u (h v refl) e
  with_fine b false cells None u h e = absurd (no_buf u e)
  with_fine b false cells (Some v) u h e = fine_as b (record v { cells = k.no_cells }) u (h v refl) e

  reacted_fine : (l : Local V G F W) → AreFine l → AreFine (reacted k l)
  reacted_fine l h b f u e = with_fine b ((reacted k l).kept b f) (k.react b (λ g. cond (l.leased b g) (read k (l.bufs b g)).cells k.no_cells) f) (l.bufs b f) u (h b f) e

  checked_fine : (l : Local V G F W) → AreFine l → AreFine (checked k l)
  checked_fine l h b f u e = either b (keeps_checked k l b f) (l.bufs b f) None u (h b f) (λ v d. absurd (no_buf v d)) e

  stage_fine : (j : ℕ) (content : X → ℕ → P) (l : Local V G F W) → AreFine l → AreFine (stage_work k j content l)
  stage_fine zero content l h = h
  stage_fine (suc zero) content l h = filled_fine content l h
  stage_fine (suc (suc zero)) content l h = fluxed_fine l h
  stage_fine (suc (suc (suc zero))) content l h = h
  stage_fine (suc (suc (suc (suc zero)))) content l h = fixed_fine content l h
  stage_fine (suc (suc (suc (suc (suc j))))) content l h = updated_fine l h

  tail_fine : (j : ℕ) (l : Local V G F W) → AreFine l → AreFine (tail_work k j l)
  tail_fine zero l h = reacted_fine l h
  tail_fine (suc zero) l h = h
  tail_fine (suc (suc j)) l h = checked_fine l h

  work_fine : (g : ℕ) (content : X → ℕ → P) (l : Local V G F W) → AreFine l → AreFine (work_of k g content l)
  work_fine g content l h = by (nat_lt g (6 * k.stages))
    where
      by : (t : Bool) → AreFine (cond t (stage_work k (g % 6) content l) (tail_work k (g - 6 * k.stages) l))
      by true = stage_fine (g % 6) content l h
      by false = tail_fine (g - 6 * k.stages) l h

  -- all lists of a state
  abbrev pub StateIsFine : State X (Local V G F W) (ℕ → P) → Type 0
  StateIsFine s = (i : ℕ) → AreFine (s.local i)

  put_fine : (i j : ℕ) (l : Local V G F W) (locals : ℕ → Local V G F W) → AreFine l → ((i : ℕ) → AreFine (locals i)) → AreFine (put locals i l j)
  put_fine i j l locals h g = by (j == i)
    where
      by : (t : Bool) → AreFine (cond t l (locals j))
      by true = h
      by false = g j

  arrived_fine : (r : ℕ) (x : X) (content : ℕ → P) (l : Local V G F W) → AreFine l → AreFine ((sparse k start).arrive r x content l)
  arrived_fine r x content l h b f u e =
      either b (makes k r x content l b f) (Some (nothing k)) (l.bufs b f) u (λ v d. fine_as b (nothing k) v (none b) d) (h b f) e

  delivered_fine : (s : State X (Local V G F W) (ℕ → P)) (n : ℕ) (o : Option (Letter X (ℕ → P))) → StateIsFine s → StateIsFine (rounds.delivered (plan_of k) (sparse k start) s n o)
  delivered_fine s n None h i = h i
  delivered_fine s n (Some l) h i =
      put_fine (k.owner (k.to l.of)) i ((sparse k start).arrive l.round l.of l.content (s.local (k.owner (k.to l.of)))) s.local
      (arrived_fine l.round l.of l.content (s.local (k.owner (k.to l.of))) (h (k.owner (k.to l.of)))) h

  step_fine : (s : State X (Local V G F W) (ℕ → P)) (e : rounds.Event) → StateIsFine s → StateIsFine (step (plan_of k) (sparse k start) s e)
  step_fine s (rounds.take seat i) h j = put_fine i j ((sparse k start).lease i (s.given i) (s.local i)) s.local (h i) h
  step_fine s (rounds.give seat i) h j =
      put_fine i j ((sparse k start).work i (s.given i) (rounds.reads (plan_of k) (sparse k start) s (s.given i / 3)) (s.local i)) s.local
      (work_fine (s.given i) (rounds.reads (plan_of k) (sparse k start) s (s.given i / 3)) (s.local i) (h i)) h
  step_fine s (rounds.deliver seat n) h j = delivered_fine s n (find (λ (l : Letter X (ℕ → P)). l.number == n) s.wire) h j

  begin_fine : StateIsFine (rounds.begin (sparse k start))
  begin_fine i b f u e =
      either b (start.kept b f) (Some (record (nothing k) { cells = start.mesh b f })) None u
      (λ v d. fine_as b (record (nothing k) { cells = start.mesh b f }) v (none b) d) (λ v d. absurd (no_buf v d)) e

  pub after_fine : (s : State X (Local V G F W) (ℕ → P)) (events : List rounds.Event) → StateIsFine s → StateIsFine (after (plan_of k) (sparse k start) s events)
  after_fine s [] h = h
  after_fine s (e ∷ es) h = after_fine (step (plan_of k) (sparse k start) s e) es (step_fine s e h)

  pub all_fine : (events : List rounds.Event) → StateIsFine (after (plan_of k) (sparse k start) (rounds.begin (sparse k start)) events)
  all_fine events = after_fine (rounds.begin (sparse k start)) events begin_fine
