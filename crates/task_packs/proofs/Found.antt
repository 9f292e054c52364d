-- Packs that are found among notes, and those that are made.
use Rattle.std.proofs.Common.{◌≡◌, ◌∙◌, ap, sym, subst, refl, ℕ, Bool, true, false, cond, Option, None, Some, is_none, is_some, List}
use Rattle.std.specs.Prelude.{nat_eq}
use Rattle.std.proofs.lemmas.Bool.{eqb-true, false≢true}
use Rattle.pack_cache.specs.declared.pack.Pack.{Pack}
use Rattle.pack_cache.specs.Notes.{at_epoch, of_kind, of_partition}
use Rattle.cycle_events.specs.declared.event.Event.{Event}
use Rattle.cycle_events.specs.Cycles.{Cycle, state_of}
use Rattle.cycle_events.specs.Packs.{epoch}
use Rattle.cycle_events.specs.Places.{kind_of, listed}
use Rattle.cycle_events.proofs.EpochsTold.{fresh_packs_are_true, packs_stay_true}
use Rattle.task_packs.specs.Noted.{IsMade, fresh_of, noted_for, pack_for}
use Rattle.task_packs.specs.Laws.{KindsAreTold, NotedPacksList, NotesStay, TasksHavePacks}

-- a pack that is found at an epoch is the one that is noted, and has the epoch
pub record IsFound (e : ℕ) (o : Option Pack) (pack : Pack) : Type 0 where
  pub noted : o ≡ Some pack
  pub at : pack.epoch ≡ e

found_if : (e : ℕ) (noted pack : Pack) (b : Bool) → nat_eq noted.epoch e ≡ b → cond b (Some noted) None ≡ Some pack → IsFound e (Some noted) pack
found_if e noted pack true is same = subst (λ (x : Option Pack). IsFoundOf x) same (record { noted = refl; at = eqb-true noted.epoch e is })
  where
    IsFoundOf : Option Pack → Type 0
    IsFoundOf None = Unit {0}
    IsFoundOf (Some p) = IsFound e (Some noted) p
found_if e noted pack false is same = absurd (false≢true (ap (λ (x : Option Pack). is_some x) same))

pub found_is : (e : ℕ) (o : Option Pack) (pack : Pack) → at_epoch e o ≡ Some pack → IsFound e o pack
found_is e None pack h = absurd (false≢true (ap (λ (x : Option Pack). is_some x) h))
found_is e (Some noted) pack h = found_if e noted pack (nat_eq noted.epoch e) refl h

-- a pack is fresh where none is noted
fresh_where : (noted : Option Pack) (new : Pack) → is_some (fresh_of noted new) ≡ is_none noted
fresh_where None new = refl
fresh_where (Some _) new = refl

fresh_is : (noted : Option Pack) (new pack : Pack) → fresh_of noted new ≡ Some pack → new ≡ pack
fresh_is None new pack h = cc
fresh_is (Some _) new pack h = absurd (false≢true (ap (λ (x : Option Pack). is_some x) h))

pub kinds_are_told : (X V G F P W : Type 0) → KindsAreTold X V G F P W
kinds_are_told X V G F P W k task = refl

pub noted_packs_list : (X V G F P W : Type 0) → NotedPacksList X V G F P W
noted_packs_list X V G F P W c events notes list task pack journal hold noted =
    let found = found_is (epoch c events list) (of_kind (of_partition notes list) (kind_of c.kernels task)) pack noted in
    let note = hold list (kind_of c.kernels task) pack found.noted in
    (packs_stay_true X V G F P W c pack events note.holds).listed journal (ap (epoch c events) note.own_list ∙ sym found.at)
    ∙ (ap (λ n. listed c (state_of c events) n pack.kind) note.own_list
    ∙ ap (listed c (state_of c events) list) note.own_kind)

module _ {X V G F P W : Type 0} (c : Cycle X V G F P W) (events : List Event) (list task : ℕ) where
  pub made_is : IsMade c events list task (pack_for c events list task)
  made_is = record {
    suits = record { same_list = refl; same_kind = refl; same_epoch = refl };
    holds = fresh_packs_are_true X V G F P W c (pack_for c events list task) events refl refl;
    lists = refl;
  }

pub tasks_have_packs : (X V G F P W : Type 0) → TasksHavePacks X V G F P W
tasks_have_packs X V G F P W c events notes list task = record {
  none_noted = fresh_where (noted_for c events notes list task) (pack_for c events list task);
  new = λ pack e. subst (λ (x : Pack). IsMade c events list task x)
      (fresh_is (noted_for c events notes list task) (pack_for c events list task) pack e) (made_is c events list task);
}

pub notes_stay : (X V G F P W : Type 0) → NotesStay X V G F P W
notes_stay X V G F P W c events more notes hold list kind pack noted =
    let note = hold list kind pack noted in
    record { own_list = note.own_list; own_kind = note.own_kind; holds = (packs_stay_true X V G F P W c pack events note.holds).more more }
