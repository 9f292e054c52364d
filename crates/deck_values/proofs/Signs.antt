-- A number with no `-` before it.
use Rattle.std.proofs.Common.{◌≡◌, ◌≢◌, eqb, None, pos, lit<, ℕ, false, List, [], ◌∷◌, refl, ap, arith}
use Rattle.std.specs.Option.{option_map}
use Rattle.std.specs.Str.Pattern.{FindsCharPrefix}
use Rattle.std.proofs.lemmas.Str.Pattern.{strip_prefix_char}
use Rattle.std.proofs.lemmas.Bool.Decides.{nat_tests}
use Rattle.deck_values.specs.Numbers.{number_of, signed_of}

-- a text that does not begin with `-` is its number
signed_plain : (bs : List ℕ) → ((rest : List ℕ) → bs ≢ 45 ∷ rest) → signed_of bs ≡ option_map pos (number_of bs)
signed_plain [] h = refl
signed_plain (b ∷ bs) h =
    let ne : b ≢ 45 = λ e. h bs (ap (λ (x : ℕ). x ∷ bs) e) in
    let f : eqb b 45 ≡ false = grind (arith, nat_tests) in
    rw f

-- the same of what looking for a `-` in front found
pub signed_without_minus : (bs : List ℕ) → FindsCharPrefix 45 bs None → signed_of bs ≡ option_map pos (number_of bs)
signed_without_minus bs h = signed_plain bs (strip_prefix_char 45 bs None h (lit< tt))
