-- A text without what it begins with.
use Rattle.std.proofs.Common.{◌≡◌, ℕ, true, false, cond, eqb, List, length, drop, MatchOption, Option, Some, None, Bor, sym, ap, ◌∙◌, subst}
use Rattle.std.specs.Option.{option_copied}
use Rattle.std.specs.List.{starts_with}
use Rattle.std.specs.Str.{IsCharBoundary}
use Rattle.std.specs.Str.Pattern.{FindsTextPrefix, StripsPrefix}
use Rattle.std.proofs.lemmas.Str.Pattern.{starts_text}

-- `strip_prefix` at a text
pub strips_text : (s n : List ℕ) (r : Option (Bor (List ℕ))) → MatchOption r (FindsTextPrefix n s None) (λ x. StripsPrefix (FindsTextPrefix n) s x.now) → option_copied r ≡ cond (starts_with eqb s n) (Some (drop (length n) s)) None
strips_text s n None h = rw (sym (starts_text false n s h))
strips_text s n (Some x) h =
    let boundary : IsCharBoundary s h.0 = subst (IsCharBoundary s) (sym h.1.0) h.1.2 in
    let begins = starts_text true n s (h.0, h.1, boundary) in
    rw (sym begins) (ap Some (h.2 ∙ ap (λ (k : ℕ). drop k s) h.1.0))
