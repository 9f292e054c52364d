use Rattle.std.proofs.Common.{◌<◌, ℕ, List, [], ◌++◌, length, sym, ap, ◌∙◌, arith}
use Rattle.std.specs.Prelude.{None}
use Rattle.std.specs.List.{enumerate_from}
use Rattle.std.proofs.lemmas.List.{take_all}
use Rattle.std.proofs.lemmas.List.FromFn.{length-enumerate_from}
use Rattle.problem_set.specs.SettingsOf.{settings_of}
use Rattle.mesh_texts.specs.Sizes.{leaf_lists}
use Rattle.mesh_texts.specs.Pieces.{numbered_lines}
use Rattle.mesh_texts.proofs.Blocks.{label_is, numbered_more}
use Rattle.mesh_texts.proofs.Rows.{leaf_list_at, leaf_lists_long}
use Rattle.mesh_texts.proofs.block.push_fields.Goals as goal

pub push_field-requires : goal.push_field-requires
push_field-requires c =
    let at = leaf_list_at c.args.lists.now c.args.leaf c.loop-field.field c.index-lists-field.result (omega arith) c.index-lists-field.is in
    ap length (c.totals_on.ensures ∙ sym at) ∙ c.requires.blocks c.loop-field.field (omega (arith, leaf_lists_long c.args.lists.now c.args.leaf))

pub loop-field-preserved : goal.loop-field-preserved
loop-field-preserved c =
    let i = c.loop-field.field in
    let ys = c.args.problem.now.fields.fields in
    let totals = leaf_lists c.args.lists.now c.args.leaf in
    let inside : i < length totals = omega (arith, leaf_lists_long c.args.lists.now c.args.leaf) in
    let among : i < length ys = omega (arith, c.requires.fields) in
    let at = leaf_list_at c.args.lists.now c.args.leaf i c.index-lists-field.result (omega arith) c.index-lists-field.is in
    let label = c.as_str-label.ensures ∙ label_is c.fields.result.now ys i c.index-fields-field.result (record { label = []; base = []; id = None; flags = [] }) c.fields.ensures among in
    numbered_more (settings_of c.args.problem.now) c.args.layout.now totals i c.as_str-label.result.now c.totals_on.result.now c.args.into.now.items c.loop-field.into.items c.push_field.new.into.items
    inside label (c.totals_on.ensures ∙ sym at) c.loop-field.invariant c.in_ok-push_field.ensures

pub returns : goal.returns
returns c =
    let totals = leaf_lists c.args.lists.now c.args.leaf in
    c.loop-field.invariant
    ∙ ap (λ (xs : List (ℕ × List ℕ)). c.args.into.now.items ++ numbered_lines (settings_of c.args.problem.now) c.args.layout.now xs)
    (take_all c.loop-field.field (enumerate_from 0 totals) (omega (arith, c.loop-field-test.false, length-enumerate_from 0 totals, leaf_lists_long c.args.lists.now c.args.leaf)))
