use Rattle.std.proofs.Common.{◌≡◌, ◌<◌, ◌++◌, ◌∷◌, [], ℕ, List, length, ap, subst, sym, ◌∙◌, arith}
use Rattle.std.specs.List.{slice_index_or}
use Rattle.std.proofs.lemmas.List.{get_or_read}
use Rattle.morton_order.specs.declared.space.Shape.{Shape}
use Rattle.block_tree.specs.Blocks.{is_inner_of, leaves}
use Rattle.block_tree.specs.Next.{IsNear}
use Rattle.problem_set.specs.SettingsOf.{settings_of}
use Rattle.mesh_rules.specs.Fields.{field_count}
use Rattle.dense_remesh.specs.declared.origins.Origin.{Origin}
use Rattle.dense_mesh.specs.Meshes.{mesh_of}
use Rattle.dense_remesh.specs.Parts.{AreTaken, CanTake}
use Rattle.dense_remesh.proofs.LeafLists.{look_list}
use Rattle.dense_remesh.proofs.Pushed.{count_pushed, each_pushed}
use Rattle.dense_remesh.proofs.Taken.{field_taken, field_takes, lists_count, remapped_is}
use Rattle.dense_remesh.proofs.remapping.remap.Goals as goal

pub remapped_field-requires : goal.remapped_field-requires
remapped_field-requires c =
    let p = settings_of c.args.problem.now in
    let small : c.loop-f.f < length c.args.lists.now = c.loop-f-test.true in
    let origins : c.as_slice.result.now ≡ c.in_ok-origins.origins.items = c.as_slice.ensures.value in
    let field : c.as_slice-field.result.now ≡ slice_index_or c.args.lists.now c.loop-f.f [] = c.as_slice-field.ensures ∙ get_or_read c.args.lists.now c.loop-f.f _ small c.index-lists-f.is [] in
    let near = subst (λ (s : Shape). IsNear s (is_inner_of c.args.old.now) (is_inner_of c.args.next.now)) (sym c.requires.mesh.mesh.shape) c.requires.near in
    let takes = field_takes p c.args.old.now c.args.next.now c.args.layout.now c.args.lists.now (record { mesh = c.requires.mesh; near = near }) c.leaf_origins.ensures.next (c.requires.shape ∙ sym c.requires.mesh.mesh.shape) c.loop-f.f
    (omega (arith, c.requires.mesh.fields)) c.in_ok-origins.origins.items c.in_ok-origins.ensures.origins in
    record {
      count = ap (λ (v : List Origin). length v) origins ∙ c.in_ok-origins.ensures.origins.count;
      lists = subst (λ (v : List Origin). (k : ℕ) (o : Origin) → k < length v → CanTake c.args.layout.now c.as_slice-field.result.now (slice_index_or v k o)) (sym origins)
          (subst (λ (v : List (List ℕ)). (k : ℕ) (o : Origin) → k < length c.in_ok-origins.origins.items → CanTake c.args.layout.now v (slice_index_or c.in_ok-origins.origins.items k o)) (sym field) takes);
    }

pub loop-f-preserved : goal.loop-f-preserved
loop-f-preserved c =
    let l = c.args.layout.now in
    let at = leaves c.args.next.now in
    let small : c.loop-f.f < length c.args.lists.now = c.loop-f-test.true in
    let origins : c.as_slice.result.now ≡ c.in_ok-origins.origins.items = c.as_slice.ensures.value in
    let field : c.as_slice-field.result.now ≡ slice_index_or c.args.lists.now c.loop-f.f [] = c.as_slice-field.ensures ∙ get_or_read c.args.lists.now c.loop-f.f _ small c.index-lists-f.is [] in
    let taken : AreTaken l (slice_index_or c.args.lists.now c.loop-f.f []) at c.in_ok-origins.origins.items c.in_ok-remapped_field.field-0 =
    subst (λ (v : List (List ℕ)). AreTaken l v at c.in_ok-origins.origins.items c.in_ok-remapped_field.field-0) field
    (subst (λ (v : List Origin). AreTaken l c.as_slice-field.result.now at v c.in_ok-remapped_field.field-0) origins c.in_ok-remapped_field.ensures) in
    let new : List (List (List ℕ)) = c.push.new.self.items in
    let pushed : new ≡ c.loop-f.new.items ++ c.in_ok-remapped_field.field-0 ∷ [] = c.in_ok-push.ensures.items in
    record {
      count = count_pushed c.loop-f.new.items new c.in_ok-remapped_field.field-0 c.loop-f.f c.loop-f.invariant.count pushed;
      each = each_pushed (λ k lists. AreTaken l (slice_index_or c.args.lists.now k []) at c.in_ok-origins.origins.items lists) c.loop-f.new.items new c.in_ok-remapped_field.field-0 c.loop-f.f c.loop-f.invariant.count pushed taken c.loop-f.invariant.each;
    }

pub returns : goal.returns
returns c =
    let p = settings_of c.args.problem.now in
    let shape = c.requires.shape ∙ sym c.requires.mesh.mesh.shape in
    let near = subst (λ (s : Shape). IsNear s (is_inner_of c.args.old.now) (is_inner_of c.args.next.now)) (sym c.requires.mesh.mesh.shape) c.requires.near in
    let all : c.loop-f.f ≡ field_count p = omega (arith, c.requires.mesh.fields) in
    let each = λ (f : ℕ) (some : f < field_count p). field_taken p c.args.old.now c.args.next.now c.args.layout.now c.args.lists.now (record { mesh = c.requires.mesh; near = near }) c.leaf_origins.ensures.next shape f some
    c.in_ok-origins.origins.items (slice_index_or c.loop-f.new.items f []) c.in_ok-origins.ensures.origins (c.loop-f.invariant.each f [] (omega arith)) in
    let count = c.loop-f.invariant.count ∙ all in
    record {
      mesh = remapped_is (mesh_of c.args.old.now c.args.problem.now.cells c.args.lists.now) c.args.next.now c.loop-f.new.items (field_count p) shape count each;
      lists = lists_count (leaves c.args.next.now) c.loop-f.new.items (field_count p) (look_list (mesh_of c.args.old.now c.args.problem.now.cells c.args.lists.now)) count each;
    }
