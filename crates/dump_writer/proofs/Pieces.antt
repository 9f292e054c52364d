-- Texts that are put together from parts.
use Rattle.std.proofs.Common.{◌≡◌, ℕ, Bool, true, false, List, [], ◌++◌, sym, ap, ◌∙◌, append_assoc}
use Rattle.std.proofs.lemmas.List.{append-nil}
use Rattle.mesh_texts.specs.Dump.{Steps, joined}

-- a text that was appended to the first of two empty parts
pub as_first : (first new rest text : List ℕ) → first ≡ [] → rest ≡ [] → new ≡ first ++ text → new ++ rest ≡ text
as_first first new rest text empty none written =
    ap (λ (v : List ℕ). v ++ rest) (written ∙ ap (λ (v : List ℕ). v ++ text) empty) ∙ ap (λ (v : List ℕ). text ++ v) none ∙ append-nil text

-- texts that were appended to two empty parts
pub as_both : (first rest new lines head text : List ℕ) → first ≡ [] → rest ≡ [] → new ≡ first ++ head → lines ≡ rest ++ text → new ++ lines ≡ head ++ text
as_both first rest new lines head text empty none written more =
    ap (λ (v : List ℕ). v ++ lines) (written ∙ ap (λ (v : List ℕ). v ++ head) empty) ∙ ap (λ (v : List ℕ). head ++ v) (more ∙ ap (λ (v : List ℕ). v ++ text) none)

-- after a step of a walk the text and what is still to come are the same whole
pub step_keeps : (more : Bool) (before after : List (List ℕ)) (old new text : List ℕ) → more ≡ true → Steps more before after old new → old ++ joined before ≡ text → new ++ joined after ≡ text
step_keeps true before after old new text is (piece, next, grown) whole =
    ap (λ (v : List ℕ). v ++ joined after) grown ∙ append_assoc old piece (joined after) ∙ ap (λ (v : List (List ℕ)). old ++ joined v) (sym next) ∙ whole
step_keeps false before after old new text is steps whole = absurd cc

-- and the text is all of it where none is left
pub step_ends : (more : Bool) (before after : List (List ℕ)) (old new text : List ℕ) → more ≡ false → Steps more before after old new → old ++ joined before ≡ text → new ≡ text
step_ends true before after old new text is steps whole = absurd cc
step_ends false before after old new text is (none, _, same) whole = same ∙ sym (append-nil old) ∙ ap (λ (v : List (List ℕ)). old ++ joined v) (sym none) ∙ whole
