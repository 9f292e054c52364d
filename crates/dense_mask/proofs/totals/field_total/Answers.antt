use Rattle.std.proofs.Common.{ℕ, List, [], ap, sym, ◌∙◌, arith}
use Rattle.std.proofs.lemmas.List.{get_or_read}
use Rattle.problem_set.specs.SettingsOf.{settings_of}
use Rattle.dense_mask.specs.Totals.{list_total}
use Rattle.dense_mask.proofs.Sums.{is_total}
use Rattle.dense_mask.proofs.totals.field_total.Goals as goal

pub blocks_total-requires : goal.blocks_total-requires
blocks_total-requires c =
    let lists = c.args.lists.now in
    let many = c.requires.mesh.fields in
    let at = c.as_slice.ensures ∙ get_or_read lists c.args.field c.index-lists-field.result (omega (arith, c.requires.field)) c.index-lists-field.is [] in
    let same = ap (λ (v : List (List ℕ)). list_total v) at in
    let t = is_total (settings_of c.args.problem.now) c.args.tree.now c.args.layout.now lists c.requires.mesh c.args.field c.requires.field in
    omega (arith, same, t.bound)

pub returns-clause-total : goal.returns-clause-total
returns-clause-total c =
    let lists = c.args.lists.now in
    let many = c.requires.mesh.fields in
    let at = c.as_slice.ensures ∙ get_or_read lists c.args.field c.index-lists-field.result (omega (arith, c.requires.field)) c.index-lists-field.is [] in
    let t = is_total (settings_of c.args.problem.now) c.args.tree.now c.args.layout.now lists c.requires.mesh c.args.field c.requires.field in
    c.blocks_total.ensures ∙ ap (λ (v : List (List ℕ)). list_total v) at ∙ sym t.total

pub returns-clause-bound : goal.returns-clause-bound
returns-clause-bound c =
    let lists = c.args.lists.now in
    let many = c.requires.mesh.fields in
    let at = c.as_slice.ensures ∙ get_or_read lists c.args.field c.index-lists-field.result (omega (arith, c.requires.field)) c.index-lists-field.is [] in
    let same = ap (λ (v : List (List ℕ)). list_total v) at in
    let t = is_total (settings_of c.args.problem.now) c.args.tree.now c.args.layout.now lists c.requires.mesh c.args.field c.requires.field in
    omega (arith, c.blocks_total.ensures, same, t.bound)
