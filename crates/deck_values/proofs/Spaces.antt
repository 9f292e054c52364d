-- Dropping the spaces around a text.
use Rattle.std.proofs.Common.{◌≡◌, ◌<◌, ℕ, true, ◌++◌, Option, Some, None, refl, subst, arith, ne_eqb}
use Rattle.std.specs.Str.Pattern.{FindsCharPrefix, FindsCharSuffix, FindsPrefixBy, FindsSuffixBy, IsTrimMatches}
use Rattle.std.proofs.Math.Utf8.{encode}
use Rattle.std.proofs.lemmas.Bool.Decides.{nat_tests}
use Rattle.input_file.specs.Texts.{Text}
use Rattle.input_file.proofs.TextLemmas.{trimmed-both}
use Rattle.deck_values.specs.FlagsAndIds.{is_space, without_spaces}

is_space-low : (c : ℕ) → is_space c ≡ true → c < 128
is_space-low c h = grind (arith, nat_tests)

-- the first character, and the last, is a space or it is not
begins : (t : Text) (o : Option ℕ) → FindsCharPrefix 32 t o → FindsPrefixBy is_space t o
begins t None h = λ c rest s e. ne_eqb c 32 (λ is. h rest (subst (λ (k : ℕ). t ≡ encode k ++ rest) is e))
begins t (Some n) h = (32, refl, h)

ends : (t : Text) (o : Option ℕ) → FindsCharSuffix 32 t o → FindsSuffixBy is_space t o
ends t None h = λ c front s e. ne_eqb c 32 (λ is. h front (subst (λ (k : ℕ). t ≡ front ++ encode k) is e))
ends t (Some n) h = (32, refl, h.1)

pub spaces_trimmed : (t r : Text) → IsTrimMatches (FindsCharPrefix 32) (FindsCharSuffix 32) t r → r ≡ without_spaces t
spaces_trimmed = trimmed-both is_space is_space-low (FindsCharPrefix 32) (FindsCharSuffix 32) begins ends
