use Rattle.std.proofs.Common.{◌≡◌, ◌<◌, ◌++◌, ◌∷◌, [], ℕ, List, length, map, ap, ◌∙◌, arith}
use Rattle.std.specs.List.{slice_index_or}
use Rattle.std.proofs.lemmas.List.{get_or_read}
use Rattle.morton_order.specs.declared.space.Shape.{Shape}
use Rattle.morton_order.specs.Space.{parts}
use Rattle.block_tree.specs.Blocks.{leaves}
use Rattle.problem_set.specs.SettingsOf.{settings_of}
use Rattle.mesh_rules.specs.Fields.{field_count}
use Rattle.dense_mesh.specs.declared.totals.Slot.{Slot}
use Rattle.dense_remesh.specs.declared.origins.Origin.{Origin}
use Rattle.dense_remesh.specs.Slots.{carried_slot}
use Rattle.dense_remesh.proofs.CarriedMasks.{carried_is, carried_slots_are}
use Rattle.dense_remesh.proofs.Pushed.{count_pushed, each_pushed}
use Rattle.dense_remesh.proofs.carried.carried_slots.Goals as goal

pub field_slots-requires : goal.field_slots-requires
field_slots-requires c =
    let dims = ap (λ (s : Shape). s.dims) c.shape.ensures in
    record {
      least = omega (arith, dims, c.leaf_origins.ensures.old.shape.least);
      most = omega (arith, dims, c.leaf_origins.ensures.old.shape.most);
    }

pub loop-f-preserved : goal.loop-f-preserved
loop-f-preserved c =
    let small : c.loop-f.f < length c.args.slots.now = c.loop-f-test.true in
    let g = λ (slots : List Slot) (origins : List Origin). map (carried_slot (parts c.shape.result.now.dims) slots) origins in
    let origins : c.as_slice.result.now ≡ c.in_ok-origins.origins.items = c.as_slice.ensures.value in
    let field : c.as_slice-field.result.now ≡ slice_index_or c.args.slots.now c.loop-f.f [] = c.as_slice-field.ensures ∙ get_or_read c.args.slots.now c.loop-f.f _ small c.index-slots-f.is [] in
    let made : c.in_ok-field_slots.field-0 ≡ g (slice_index_or c.args.slots.now c.loop-f.f []) c.in_ok-origins.origins.items =
    c.in_ok-field_slots.ensures ∙ ap (λ (v : List Slot). g v c.as_slice.result.now) field ∙ ap (g (slice_index_or c.args.slots.now c.loop-f.f [])) origins in
    let new : List (List Slot) = c.push.new.self.items in
    let pushed : new ≡ c.loop-f.new.items ++ c.in_ok-field_slots.field-0 ∷ [] = c.in_ok-push.ensures.items in
    record {
      count = count_pushed c.loop-f.new.items new c.in_ok-field_slots.field-0 c.loop-f.f c.loop-f.invariant.count pushed;
      each = each_pushed (λ k v. v ≡ g (slice_index_or c.args.slots.now k []) c.in_ok-origins.origins.items) c.loop-f.new.items new c.in_ok-field_slots.field-0 c.loop-f.f c.loop-f.invariant.count pushed made c.loop-f.invariant.each;
    }

pub returns : goal.returns
returns c =
    let p = settings_of c.args.problem.now in
    let t = c.args.old.now in
    let at = leaves c.args.next.now in
    let origins : List Origin = c.in_ok-origins.origins.items in
    let all : c.loop-f.f ≡ field_count p = omega (arith, c.requires.slots.fields) in
    let count : length c.loop-f.new.items ≡ field_count p = c.loop-f.invariant.count ∙ all in
    let each = λ (f : ℕ) (some : f < field_count p).
    c.loop-f.invariant.each f [] (omega arith) ∙ ap (λ (s : Shape). map (carried_slot (parts s.dims) (slice_index_or c.args.slots.now f [])) origins) c.shape.ensures in
    record {
      slots = carried_slots_are t c.args.slots.now c.loop-f.new.items (field_count p) at origins c.in_ok-origins.ensures.origins count each;
      mask = λ m shape same. carried_is p t m c.args.slots.now c.loop-f.new.items (record { tree = c.leaf_origins.ensures.old; shape = shape; leaves_are = same; slots_are = c.requires.slots }) at origins c.in_ok-origins.ensures.origins count each;
    }
