use Rattle.std.proofs.Common.{◌≡◌, ◌∙◌, ℕ, List, ap, subst, sym}
use Rattle.package_fields.specs.Kernel.{Reacted}
use Rattle.deck_entries.specs.declared.entries.Reaction.{Reaction}
use Rattle.problem_set.specs.SettingsOf.{settings_of}
use Rattle.mesh_rules.specs.Sums.{table}
use Rattle.mesh_rules.specs.Fields.{field_count}
use Rattle.mesh_rules.specs.Reaction.{before_reactions, kernel_of, react_cell}
use Rattle.mesh_rules.specs.Cycle.{State, drop_of, flow_of, settled, tags_of}
use Rattle.dense_cycle.specs.Held.{state_of}
use Rattle.dense_model.proofs.next.settle_problem.Goals as goal

pub returns-then-is_empty : goal.returns-then-is_empty
returns-then-is_empty c =
    let p = c.args.problem.now in
    let q = settings_of p in
    let s : State = state_of c.args.tree.now p.cells c.args.before.now in
    let e : before_reactions ≡ kernel_of q = ap (λ (rs : List Reaction). react_cell rs) (sym (c.is_empty.ensures.0 c.if-is_empty.true)) in
    let r = c.in_ok-settled.settled in
    record {
      state = subst (λ (react : List ℕ → Reacted). state_of c.args.tree.now p.cells r.state ≡ settled q react s) e c.in_ok-settled.ensures.state;
      held = c.in_ok-settled.ensures.kept;
      tags = subst (λ (react : List ℕ → Reacted). r.tags.items ≡ tags_of q react s) e c.in_ok-settled.ensures.tags;
      flows = subst (λ (react : List ℕ → Reacted). r.flows ≡ table (field_count q) (flow_of q react s)) e c.in_ok-settled.ensures.flows;
      drops = subst (λ (react : List ℕ → Reacted). r.drops ≡ table (field_count q) (drop_of q react s)) e c.in_ok-settled.ensures.drops;
    }

pub returns : goal.returns
returns c =
    let p = c.args.problem.now in
    let q = settings_of p in
    let s : State = state_of c.args.tree.now p.cells c.args.before.now in
    let e = c.in_ok-kernel.ensures.reacts in
    let r = c.in_ok-settled-2.settled in
    record {
      state = subst (λ (react : List ℕ → Reacted). state_of c.args.tree.now p.cells r.state ≡ settled q react s) e c.in_ok-settled-2.ensures.state;
      held = c.in_ok-settled-2.ensures.kept;
      tags = subst (λ (react : List ℕ → Reacted). r.tags.items ≡ tags_of q react s) e c.in_ok-settled-2.ensures.tags;
      flows = subst (λ (react : List ℕ → Reacted). r.flows ≡ table (field_count q) (flow_of q react s)) e c.in_ok-settled-2.ensures.flows;
      drops = subst (λ (react : List ℕ → Reacted). r.drops ≡ table (field_count q) (drop_of q react s)) e c.in_ok-settled-2.ensures.drops;
    }
