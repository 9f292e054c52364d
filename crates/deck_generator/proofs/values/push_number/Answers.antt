use Rattle.std.proofs.Common.{◌≡◌, ◌≤◌, ◌+◌, ◌++◌, ◌∷◌, [], ℕ, zero, suc, refl, sym, ap, ◌∙◌, Result, Ok, Err, arith}
use Rattle.std.specs.Result.{OnOk, IfOk}
use Rattle.std.specs.Fmt.{decimal}
use Rattle.std.specs.String.{string_bytes}
use Rattle.input_file.specs.Texts.{Text}
use Rattle.deck_generator.specs.Values.{numbers_below}
use Rattle.deck_generator.proofs.Formed.{numbers-more}
use Rattle.deck_generator.proofs.values.push_number.Goals as goal

if_ok : {U E : Type 0} (r : Result U E) (old new : Text) (n : ℕ) → 1 ≤ n → old ≡ numbers_below n → OnOk r (new ≡ old ++ 44 ∷ decimal n) → IfOk r (λ x. new ≡ numbers_below (n + 1))
if_ok (Ok x) old new n some is e = e ∙ ap (λ (t : Text). t ++ 44 ∷ decimal n) is ∙ sym (numbers-more n some)
if_ok (Err x) old new n some is e = tt

some : (n : ℕ) → (n ≡ 0 → ⊥) → 1 ≤ n
some zero not_zero = absurd (not_zero refl)
some (suc n) not_zero = omega arith

pub returns : goal.returns
returns c = if_ok c.write-2.result (string_bytes c.args.text.now) (string_bytes c.write-2.new.self) c.args.n (some c.args.n c.if-n-eq0.false) c.requires c.write-2.ensures.bytes
