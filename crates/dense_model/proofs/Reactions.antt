-- The kernel of a problem's reactions.
use Rattle.std.proofs.Common.{◌≡◌, ℕ, List, All, ap, arith, subst}
use Rattle.package_fields.specs.Kernel.{KernelLaws, Reacted}
use Rattle.problem_set.specs.declared.problem.Problem.{Problem}
use Rattle.deck_entries.specs.declared.entries.Reaction.{Reaction}
use Rattle.problem_set.specs.SettingsOf.{settings_of}
use Rattle.mesh_rules.specs.Fields.{field_count}
use Rattle.mesh_rules.specs.Reaction.{kernel_of, react_cell}
use Rattle.react_kernel.specs.Code.{CanReact, code_of, reacts}
use Rattle.react_kernel.specs.ReactionLaws.{code_laws, read_back}

-- the reactions of a problem can be applied to its fields
pub can_react : (p : Problem) → All (CanReact (field_count (settings_of p))) p.reactions
can_react p k d inside =
    let one = p.entries_sound.reactions_sound k d inside in
    let same = p.fields_sound.same_length in
    let from = one.from in
    let to = one.to in
    record { from = omega (arith, from, same); to = omega (arith, to, same); positive = one.least; proper = one.portion }

-- what their code says is what the rules make of them
pub code_reacts : (fields : ℕ) (rs : List Reaction) → reacts (code_of fields rs) ≡ react_cell rs
code_reacts fields rs = ap react_cell (read_back rs)

pub problem_laws : (p : Problem) → KernelLaws (field_count (settings_of p)) (kernel_of (settings_of p))
problem_laws p =
    let n = field_count (settings_of p) in
    subst (λ (react : List ℕ → Reacted). KernelLaws n react) (code_reacts n p.reactions) (code_laws n p.reactions (can_react p) p.entries_sound.few_reactions)
