-- The opening of a problem with no part refined from the start, and to which trees its mesh state can go over.
use Rattle.std.proofs.Common.{◌≡◌, ◌∙◌, ℕ, ◌-◌, ◌<◌, ◌≤◌, Bool, true, cond, nat_le, List, [], length, map, ap, arith, subst}
use Rattle.std.proofs.lemmas.Bool.Decides.{nat_tests}
use Rattle.morton_order.specs.declared.space.Shape.{Shape}
use Rattle.package_fields.specs.Kernel.{KernelLaws, Reacted}
use Rattle.block_layout.specs.declared.layout.Layout.{Layout}
use Rattle.block_tree.specs.declared.boxes.StaticBox.{StaticBox}
use Rattle.block_tree.specs.Blocks.{TreeOfBlocks, is_inner_of}
use Rattle.block_tree.specs.Least.{IsLeast, opening, wanted_by}
use Rattle.block_tree.specs.Leaves.{leaves_of}
use Rattle.block_tree.specs.Next.{IsNear}
use Rattle.block_tree.proofs.Next.{opening_is_least}
use Rattle.block_tree.proofs.Numbers.{least_is_one}
use Rattle.deck_entries.specs.declared.entries.StaticAt.{StaticAt}
use Rattle.problem_set.specs.Settings.{Settings}
use Rattle.problem_set.specs.declared.problem.Problem.{Problem}
use Rattle.problem_set.specs.SettingsOf.{settings_of}
use Rattle.mesh_rules.specs.Fields.{field_count}
use Rattle.mesh_rules.specs.Fit.{IsFit}
use Rattle.mesh_rules.specs.Cycle.{State}
use Rattle.mesh_rules.specs.Opening.{opening_state, opening_tree, static_of}
use Rattle.mesh_rules.specs.Run.{leaf_limit, run, run_from, running, start_of, too_many_at_start}
use Rattle.run_laws.proofs.RunFits.{runs_fit}
use Rattle.run_laws.proofs.RunTrees.{opening_least}
use Rattle.react_kernel.specs.Code.{code_of, reacts}
use Rattle.react_kernel.specs.ReactionLaws.{code_laws}
use Rattle.cell_block.specs.State.{HasLayout, Stored, leaf_count}
use Rattle.cell_block.specs.Rules.{StandsFor}
use Rattle.remesh.specs.Remaps.{CanRemap, SoundStatesRemap}
use Rattle.mesh_bench.specs.NextTrees.{IsNextOf}

-- the opening tree of the code is that of the rules
pub opening_same : (p : Problem) → p.statics ≡ [] → opening 9 p.shape p.cells [] ≡ opening_tree (settings_of p)
opening_same p none =
    let least = opening_least p in
    let wanted : map static_of p.statics ≡ [] = ap (λ (v : List StaticAt). map static_of v) none in
    least_is_one p.shape (wanted_by p.shape p.cells []) _ _
    (opening_is_least 9 p.shape p.cells [] p.grid_sound.shape_sound (omega arith) (λ k d inside. absurd (omega arith)))
    (subst (λ (v : List StaticBox). IsLeast p.shape (wanted_by p.shape p.cells v) (opening_tree (settings_of p))) wanted least)

-- a run of few leaves starts, by any kernel
opens_running : (q : Settings) (react : List ℕ → Reacted) → length (leaves_of q.shape (opening_tree q)) ≤ leaf_limit → run q react 0 ≡ running (start_of q (opening_state q))
unfolding run run_from
opens_running q react few = ap (λ (b : Bool). cond b (running (start_of q (opening_state q))) too_many_at_start) (few_test (length (leaves_of q.shape (opening_tree q))) leaf_limit few)
  where
    few_test : (a b : ℕ) → a ≤ b → nat_le a b ≡ true
    few_test a b h = grind (arith, nat_tests)

-- no reactions keep the laws of kernels
still_laws : (fields : ℕ) → KernelLaws fields (reacts (code_of fields []))
still_laws fields = code_laws fields [] (λ k d inside. absurd (omega arith)) (omega arith)

-- the opening of a run with a cycle is fit
opening_fit : (p : Problem) → 0 < p.nlim → length (leaves_of p.shape (opening_tree (settings_of p))) ≤ leaf_limit → IsFit (settings_of p) (opening_state (settings_of p))
opening_fit p some few =
    let q = settings_of p in
    let n = field_count q in
    runs_fit p (reacts (code_of n [])) 0 (start_of q (opening_state q)) (still_laws n) some (opens_running q (reacts (code_of n [])) few)

-- a mesh state that stands for the opening can go over to each near tree
pub opening_goes : (p : Problem) (mesh : Stored) (next : TreeOfBlocks) (l : Layout) → SoundStatesRemap → 0 < p.nlim → HasLayout mesh l → StandsFor (settings_of p) mesh (opening_state (settings_of p))
    → leaf_count mesh ≤ 65536 → IsNextOf mesh.tree next → CanRemap (settings_of p) mesh next
opening_goes p mesh next l laws some layout stands few is =
    let q = settings_of p in
    let many = ap (λ (c : State). length c.mesh.leaves) (stands.state l layout) in
    let fit = opening_fit p some (omega (arith, few, many)) in
    laws q mesh (opening_state q) next l layout stands fit.mesh fit.mask (omega (arith, fit.room)) (is.shape ∙ stands.stored.shape)
    (subst (λ (s : Shape). IsNear s (is_inner_of mesh.tree) (is_inner_of next)) stands.stored.shape is.near)
