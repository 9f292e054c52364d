use Rattle.std.proofs.lemmas.Grind.{common_steps}
use Rattle.std.specs.Str.{IsUtf8}
use Rattle.std.proofs.lemmas.Str.{IsUtf8-string_bytes}
use Rattle.input_file.specs.WellFormed.{AreBlocks}
use Rattle.std.proofs.Common.{Global, sym, subst, arith, ◌≡◌, ◌∙◌, ap, refl}
use Rattle.std.specs.String.{string_bytes}
use Rattle.input_file.proofs.ReadBackLemmas.{read_back}
use Rattle.input_file.proofs.PrintLemmas.{block-more, texts-at}
use Rattle.input_file.proofs.deck.Deck.print.Goals as goal

pub loop-i-preserved : goal.loop-i-preserved
loop-i-preserved c =
    block-more c.args.self.now c.loop-i.i (string_bytes c.unwrap.result.0.now, c.unwrap.result.1.now) (string_bytes c.loop-i.text) (string_bytes c.print_header.new.text) (string_bytes c.print.new.text)
    (texts-at _ c.self.inside.blocks.entries c.args.self.now c.loop-i.i _ c.unwrap.result.0.now c.unwrap.result.1.now c.self.view_is c.get_index.ensures.entry (rw c.unwrap.ensures refl))
    (rw c.as_str.ensures.value at c.in_ok-print_header.ensures)
    c.in_ok-print.ensures
    ∙ c.loop-i.invariant

pub returns-clause-text : goal.returns-clause-text
returns-clause-text c = grind (arith, common_steps)

pub returns-clause-read_back : goal.returns-clause-read_back
returns-clause-read_back c short =
    let bytes : string_bytes c.loop-i.text ≡ c.into_bytes.result.items = ap (λ v. v.items) (sym c.into_bytes.ensures.value) in
    read_back c.args.self.now c.into_bytes.result.items
    (subst AreBlocks c.self.view_is c.self.invariant)
    (subst IsUtf8 bytes (IsUtf8-string_bytes {Z = Global} c.loop-i.text))
    (returns-clause-text c)
    short
