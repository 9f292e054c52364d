use Rattle.std.proofs.Common.{◌≡◌, ◌==◌, ◌<◌, ◌++◌, ◌∷◌, [], ℕ, List, length, map, ap, ◌∙◌, arith}
use Rattle.std.specs.List.{filter}
use Rattle.block_tree.specs.Blocks.{leaves}
use Rattle.deck_entries.specs.declared.entries.StartBox.{StartBox}
use Rattle.problem_set.specs.SettingsOf.{settings_of}
use Rattle.mesh_rules.specs.Fields.{field_count}
use Rattle.dense_remesh.specs.StartBoxes.{amounts, opening_list}
use Rattle.dense_remesh.proofs.Openings.{few_amounts, opening_counts, opening_is}
use Rattle.dense_remesh.proofs.Pushed.{count_pushed, each_pushed}
use Rattle.dense_remesh.proofs.opening.opening_lists.Goals as goal

pub opening_field-requires : goal.opening_field-requires
opening_field-requires c =
    let p = c.args.problem.now in
    let test = λ (b : StartBox). b.field == c.loop-field.field in
    let is = c.as_slice-in-loop-field.ensures.value ∙ c.in_ok-boxes.ensures ∙ ap (λ (v : List StartBox). filter test v) c.as_slice.ensures in
    let same = ap (λ (v : List StartBox). amounts v) is in
    omega (arith, same, few_amounts p test)

pub loop-field-preserved : goal.loop-field-preserved
loop-field-preserved c =
    let p = c.args.problem.now in
    let l = c.args.layout.now in
    let at = leaves c.args.tree.now in
    let lists = λ (k : ℕ). map (opening_list l.dims l.cells (filter (λ (b : StartBox). b.field == k) p.boxes)) at in
    let is = c.as_slice-in-loop-field.ensures.value ∙ c.in_ok-boxes.ensures ∙ ap (λ (v : List StartBox). filter (λ (b : StartBox). b.field == c.loop-field.field) v) c.as_slice.ensures in
    let made : c.in_ok-opening_field.field-0 ≡ lists c.loop-field.field = c.in_ok-opening_field.ensures ∙ ap (λ (v : List StartBox). map (opening_list l.dims l.cells v) at) is in
    let new : List (List (List ℕ)) = c.push.new.self.items in
    let pushed : new ≡ c.loop-field.lists.items ++ c.in_ok-opening_field.field-0 ∷ [] = c.in_ok-push.ensures.items in
    record {
      count = count_pushed c.loop-field.lists.items new c.in_ok-opening_field.field-0 c.loop-field.field c.loop-field.invariant.count pushed;
      each = each_pushed (λ k v. v ≡ lists k) c.loop-field.lists.items new c.in_ok-opening_field.field-0 c.loop-field.field c.loop-field.invariant.count pushed made c.loop-field.invariant.each;
    }

pub returns : goal.returns
returns c =
    let p = c.args.problem.now in
    let at = leaves c.args.tree.now in
    let all : c.loop-field.field ≡ field_count (settings_of p) = omega (arith, c.count-field-end.ensures.number) in
    let count : length c.loop-field.lists.items ≡ field_count (settings_of p) = c.loop-field.invariant.count ∙ all in
    let each = λ (f : ℕ) (some : f < field_count (settings_of p)).
    c.loop-field.invariant.each f [] (omega arith)
    ∙ ap (λ d. map (opening_list d c.args.layout.now.cells (filter (λ (b : StartBox). b.field == f) p.boxes)) at) c.requires.dims
    ∙ ap (λ (n : List ℕ). map (opening_list p.shape.dims n (filter (λ (b : StartBox). b.field == f) p.boxes)) at) c.requires.cells in
    record {
      mesh = opening_is p c.args.tree.now c.loop-field.lists.items c.requires.tree count each;
      lists = opening_counts p c.args.tree.now c.loop-field.lists.items count each;
    }
