-- A computing task of a stage makes, frees, sends, wishes and counts nothing.
use Rattle.std.proofs.Common.{◌≡◌, ◌==◌, ℕ, ◌+◌, ◌*◌, ◌/◌, ◌%◌, ◌<◌, ◌≤◌, Bool, true, false, cond, ◌&&◌, ◌||◌, not, min, nat_le, nat_lt, List, [], ◌∷◌, map, filter, Some, Option, refl, arith, ap, subst, sym, ◌∙◌}
use Rattle.std.specs.List.{AllZip}
use Rattle.std.proofs.lemmas.Bool.{le-leb, lt-ltb, ltb-true, ne_eqb}
use Rattle.std.proofs.lemmas.Bool.Decides.{nat_tests}
use Rattle.sparse_pool.specs.declared.place.Place.{Place}
use Rattle.mesh_rules.specs.declared.wish.Wish.{Wish}
use Rattle.mesh_rules.specs.Due.{Exchange}
use Rattle.sparse_rounds.specs.Sparse.{keeps_reacted}
use Rattle.cycle_rounds.specs.Events as rounds
use Rattle.cycle_rounds.specs.Events.{posted}
use Rattle.cycle_rounds.specs.Plan.{is_sending}
use Rattle.cycle_events.specs.Changes.{freed_by_work}
use Rattle.cycle_events.specs.Cycles.{machine, plan}
use Rattle.cycle_events.proofs.Counts.{no_places}
use Rattle.ghost_buffers.specs.declared.letter.Letter.{Letter}
use Rattle.masked_cycles.specs.Cycles.{Cycle, kernels}
use Rattle.mesh_journals.specs.Cycles.{MeshState, on_mesh}
use Rattle.cycle_leases.specs.Buffers.{stamp_after}
use Rattle.cycle_leases.specs.Leases.{is_check, is_reaction, is_tagging}
use Rattle.cycle_leases.specs.Letters.{IsLetter}
use Rattle.cycle_leases.specs.Works.{made_by_task, makes}

-- such a task: of its three tasks in a round it is the last
pub record IsComputing (c : Cycle) (g : ℕ) : Type 0 where
  pub stage : g < 6 * c.problem.nstages
  pub last : g % 3 ≡ 2

and_no : (a b : Bool) → b ≡ false → (a && b) ≡ false
and_no true b e = e
and_no false b e = refl

not_one : (g : ℕ) → g % 3 ≡ 2 → g % 6 ≡ 1 → ⊥
not_one g e f = absurd (omega arith)

none_made : (c : Cycle) (s : MeshState) (list : ℕ) → IsComputing c (s.given list) → made_by_task c s list ≡ []
none_made c s list is =
    let g : ℕ = s.given list in
    no_places (on_mesh c).size (λ b f. (kernels c).owner b == list && (not ((s.local list).leased b f) && makes c s list b f)) (λ b f.
    and_no ((kernels c).owner b == list) (not ((s.local list).leased b f) && makes c s list b f) (and_no (not ((s.local list).leased b f)) (makes c s list b f)
    (ap (λ (t : Bool). cond t (keeps_reacted (kernels c) (s.local list) b f) (nat_lt g (6 * c.problem.nstages) && (g % 6 == 1 && calls b f))) (ne_eqb g (6 * c.problem.nstages) (λ e. absurd (omega (arith, e, is.stage))))
    ∙ and_no (nat_lt g (6 * c.problem.nstages)) (g % 6 == 1 && calls b f) (ap (λ (t : Bool). t && calls b f) (ne_eqb (g % 6) 1 (not_one g is.last))))))
  where
    calls : ℕ → ℕ → Bool
    calls b f = (kernels c).is_sparse f && ((kernels c).has_ghosts f && (kernels c).flows_in b f)

pub made_none : (c : Cycle) (s : MeshState) (list : ℕ) → IsComputing c (s.given list) → [] ≡ made_by_task c s list
made_none c s list is = sym (none_made c s list is)

none_of : (t : Bool) (xs : List Place) → t ≡ false → [] ≡ cond t xs []
none_of true xs e = cc
none_of false xs e = refl

pub freed_none : (c : Cycle) (s : MeshState) (list : ℕ) → IsComputing c (s.given list) → [] ≡ freed_by_work (on_mesh c) s list (s.given list)
freed_none c s list is =
    none_of (s.given list == 6 * c.problem.nstages + 2) _ (ne_eqb (s.given list) (6 * c.problem.nstages + 2) (λ e. absurd (omega (arith, e, is.stage))))

pub sent_none : (c : Cycle) (s : MeshState) (list : ℕ) → IsComputing c (s.given list) → AllZip (IsLetter c) [] (posted (plan (on_mesh c)) (machine (on_mesh c)) s list)
sent_none c s list is = subst (λ (v : List (rounds.Letter Exchange (ℕ → List ℕ))). AllZip (IsLetter c) [] v) (sym nothing) tt
  where
    sends : is_sending (plan (on_mesh c)) (s.given list) ≡ false
    sends = and_no (nat_lt (s.given list) (3 * (2 * c.problem.nstages))) (s.given list % 3 == 0) (ne_eqb (s.given list % 3) 0 (λ e. absurd (omega (arith, e, is.last))))

    nothing : posted (plan (on_mesh c)) (machine (on_mesh c)) s list ≡ []
    nothing = by (is_sending (plan (on_mesh c)) (s.given list)) sends
      where
        by : (t : Bool) → t ≡ false → cond t (rounds.letters s.sent (s.given list / 3) (λ x. (machine (on_mesh c)).letter (s.given list / 3) x (s.local list)) (filter (λ x. (plan (on_mesh c)).from x == list) ((plan (on_mesh c)).due (s.given list / 3)))) [] ≡ []
        by true e = cc
        by false e = refl

pub wishes_none : (c : Cycle) (g : ℕ) (wishes : List (Option Wish)) → IsComputing c g → [] ≡ cond (is_tagging c g) wishes []
wishes_none c g wishes is = sym (ap (λ (t : Bool). cond t wishes []) (ne_eqb g (6 * c.problem.nstages + 1) (λ e. absurd (omega (arith, e, is.stage)))))

pub counts_none : (c : Cycle) (g : ℕ) (counts : List ℕ) → IsComputing c g → [] ≡ cond (is_check c g) counts []
counts_none c g counts is = sym (ap (λ (t : Bool). cond t counts []) (ne_eqb g (6 * c.problem.nstages + 2) (λ e. absurd (omega (arith, e, is.stage)))))

pub keeps_same : (kept : Bool) → kept ≡ ((kept || false) && not false)
keeps_same true = refl
keeps_same false = refl

-- stamps: the same before the last task of a stage, one more after it
before_tail : (n g : ℕ) → g ≤ 6 * n → nat_le (6 * n + 1) g ≡ false
before_tail n g h = grind (arith, nat_tests)

in_stage : (c : Cycle) (g : ℕ) → g ≤ 6 * c.problem.nstages → stamp_after c g ≡ g / 6
in_stage c g h =
    let a : min (g / 6) c.problem.nstages ≡ g / 6 = omega arith in
    let b : cond {A = ℕ} (nat_le (6 * c.problem.nstages + 1) g) 1 0 ≡ 0 = ap (λ (t : Bool). cond {A = ℕ} t 1 0) (before_tail c.problem.nstages g h) in
    omega arith

pub stamp_stays : (c : Cycle) (g : ℕ) → g < 6 * c.problem.nstages → g % 6 ≡ 2 → stamp_after c (g + 1) ≡ stamp_after c g
stamp_stays c g h e =
    let a = in_stage c g (omega arith) in
    let b = in_stage c (g + 1) (omega arith) in
    let d : (g + 1) / 6 ≡ g / 6 = omega arith in
    omega arith

pub stamp_rises : (c : Cycle) (g : ℕ) → g < 6 * c.problem.nstages → g % 6 ≡ 5 → stamp_after c (g + 1) ≡ stamp_after c g + 1
stamp_rises c g h e =
    let a = in_stage c g (omega arith) in
    let b = in_stage c (g + 1) (omega arith) in
    let d : (g + 1) / 6 ≡ g / 6 + 1 = omega arith in
    omega arith
