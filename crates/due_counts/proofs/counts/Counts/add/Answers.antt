use Rattle.std.proofs.Common.{ℕ, ◌+◌, ap, refl, ◌∙◌, arith}
use Rattle.std.specs.Prelude.{slice_set}
use Rattle.std.proofs.lemmas.Grind.{get_or_default_zero}
use Rattle.due_counts.proofs.Added.{adds_one}
use Rattle.due_counts.proofs.counts.Counts.add.Goals as goal

pub returns : goal.returns
returns c = adds_one c.args.list c.args.self.now _ c.requires
    (ap (λ (n : ℕ). slice_set c.args.self.now.each.items c.args.list (n + 1))
    (c.index_mut.ensures.value ∙ get_or_default_zero c.args.self.now.each.items c.args.list c.index_mut.result.now (c.requires.lists_are 0 0 (omega arith)))) refl
