-- The trees of a run.
use Rattle.std.proofs.Common.{◌≡◌, ◌∙◌, ℕ, ◌<◌, ◌≤◌, List, [], All, IsTrue, Option, Some, length, map, ap, arith, subst, sym}
use Rattle.std.specs.List.{enumerate_from}
use Rattle.std.specs.Prelude.{slice_index}
use Rattle.std.proofs.lemmas.List.{length-map}
use Rattle.std.proofs.lemmas.List.Elements.{All-from_get_or}
use Rattle.morton_order.specs.declared.space.Loc.{Loc}
use Rattle.morton_order.specs.declared.space.Shape.{Shape}
use Rattle.package_fields.specs.Kernel.{Reacted}
use Rattle.block_tree.specs.declared.boxes.StaticBox.{StaticBox}
use Rattle.block_tree.specs.declared.tags.Tag.{Tag}
use Rattle.block_tree.specs.declared.tags.Tag.TheVariants.{Refine}
use Rattle.block_tree.specs.Blocks.{TreeOfBlocks, is_inner_of, leaves}
use Rattle.block_tree.specs.Least.{opening, wanted_by}
use Rattle.block_tree.specs.Next.{FitTags, IsNext, is_refine, next_inner, tag_at, wanted_next}
use Rattle.block_tree.proofs.Next.{next_is_least, opening_is_least}
use Rattle.block_tree.proofs.Numbers.{least_is_one}
use Rattle.tree_change.specs.Tagged.{AreTags}
use Rattle.problem_set.specs.declared.problem.Problem.{Problem}
use Rattle.deck_entries.specs.declared.entries.StaticAt.{StaticAt}
use Rattle.problem_set.specs.SettingsOf.{settings_of}
use Rattle.mesh_rules.specs.Mesh.{is_inner}
use Rattle.mesh_rules.specs.Cycle.{State, reacted_to, tags_of}
use Rattle.mesh_rules.specs.Tags.{counted, tag_of, wish}
use Rattle.mesh_rules.specs.Fit.{IsMeshOf}
use Rattle.mesh_rules.specs.Opening.{opening_tree, static_of}
use Rattle.mesh_rules.specs.Remesh.{next_tree}
use Rattle.run_laws.proofs.CycleMeshes.{on_reacted}
use Rattle.run_laws.proofs.RunTrees.{mapped, next_least, opening_least, tags_fit}
use Rattle.run_laws.proofs.Slots.{length_enumerated}

-- no static box asks for a level that leaves may not have
pub statics_coarse : (p : Problem) → All (λ (b : StaticBox). b.level ≤ 10) (map static_of p.statics)
statics_coarse p =
    let any : StaticAt = record { level = 1; lo = []; hi = [] } in
    All-from_get_or (λ (b : StaticBox). b.level ≤ 10) (map static_of p.statics) (static_of any)
    (λ k small.
    let inside : k < length p.statics = omega (arith, small, length-map p.statics static_of) in
    let one = p.entries_sound.statics_sound k any inside in
    let most = one.most in
    subst (λ (b : StaticBox). b.level ≤ 10) (sym (mapped static_of p.statics k any (static_of any) inside)) (omega (arith, most, p.refining_sound.most_levels)))

-- the opening tree of the code is that of the rules
pub opening_same : (p : Problem) → opening 9 p.shape p.cells (map static_of p.statics) ≡ opening_tree (settings_of p)
opening_same p =
    least_is_one p.shape (wanted_by p.shape p.cells (map static_of p.statics)) _ _
    (opening_is_least 9 p.shape p.cells (map static_of p.statics) p.grid_sound.shape_sound (omega arith) (statics_coarse p)) (opening_least p)

-- tags of a run fit also where finer leaves may be asked for
fit_tags : (p : Problem) (react : List ℕ → Reacted) (s : State) → IsMeshOf (settings_of p) s.mesh → FitTags 9 s.mesh.shape (is_inner s.mesh) (tag_at s.mesh.leaves (tags_of (settings_of p) react s))
fit_tags p react s of =
    let fit = tags_fit p react s of in
    let most = p.refining_sound.most_levels in
    record {
      on_leaf = fit.on_leaf;
      inner = λ l h. let c = fit.inner l h in omega (arith, c, most);
      refined = λ l h. let c = fit.refined l h in omega (arith, c, most);
    }

-- the next tree of the code is that of the rules
pub next_same : (p : Problem) (react : List ℕ → Reacted) (s : State) → IsMeshOf (settings_of p) s.mesh → next_inner 9 s.mesh.shape (is_inner s.mesh) (tag_at s.mesh.leaves (tags_of (settings_of p) react s)) ≡ next_tree (settings_of p) s.mesh (tags_of (settings_of p) react s)
next_same p react s of =
    let q = settings_of p in
    let old = is_inner s.mesh in
    let tag = tag_at s.mesh.leaves (tags_of q react s) in
    let here = subst (λ (sh : Shape). IsNext sh old tag (next_tree q s.mesh (tags_of q react s))) (sym of.shape) (next_least p react s of).least in
    least_is_one s.mesh.shape (wanted_next s.mesh.shape.dims old tag) _ _ (next_is_least 9 s.mesh.shape old tag of.mesh.shape (omega arith) of.mesh.tree (fit_tags p react s of)) here

-- the tags of a run are a tree's
refine_is : (t : Option Tag) → t ≡ Some Refine → IsTrue (is_refine t)
refine_is t e = ap is_refine e

pub are_tags : (p : Problem) (react : List ℕ → Reacted) (t : TreeOfBlocks) (s : State) (tags : List Tag) → IsMeshOf (settings_of p) s.mesh → s.mesh.shape ≡ t.shape → is_inner s.mesh ≡ is_inner_of t → s.mesh.leaves ≡ leaves t → tags ≡ tags_of (settings_of p) react s → AreTags t tags
are_tags p react t s tags of shape inner same is =
    let q = settings_of p in
    let all = tags_of q react s in
    let m = (reacted_to q react s).mesh in
    let fit = fit_tags p react s of in
    let here : AreTags t all = record {
      one_each = length-map (enumerate_from 0 m.leaves) (λ (leaf : ℕ × Loc). tag_of q.derefine_count (wish q m leaf.1) (counted q.derefine_count (wish q m leaf.1) (slice_index s.counters leaf.0)))
          ∙ length_enumerated 0 m.leaves ∙ ap (λ (ls : List Loc). length ls) ((on_reacted q react s of).leaves ∙ same);
      room = λ l e. let c = fit.refined l (refine_is (tag_at s.mesh.leaves all l) (ap (λ (ls : List Loc). tag_at ls all l) same ∙ e)) in omega (arith, c);
    } in
    subst (AreTags t) (sym is) here
