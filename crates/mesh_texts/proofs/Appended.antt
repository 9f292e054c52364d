-- Texts that grow piece by piece.
use Rattle.std.proofs.Common.{◌≡◌, ℕ, ◌+◌, ◌<◌, List, [], ◌∷◌, ◌++◌, length, get_or, take, None, sym, ap, ◌∙◌, refl, zero, suc, append_assoc}
use Rattle.std.specs.Prelude.{slice_get}
use Rattle.std.specs.List.{flat_map, slice_index_or}
use Rattle.std.proofs.lemmas.List.{append-nil, take_more}
use Rattle.std.proofs.lemmas.Grind.{flat_map-append}

-- two, three and four pieces more
pub two_more : (s0 s1 s2 a b : List ℕ) → s1 ≡ s0 ++ a → s2 ≡ s1 ++ b → s2 ≡ s0 ++ (a ++ b)
two_more s0 s1 s2 a b e1 e2 = e2 ∙ ap (λ (s : List ℕ). s ++ b) e1 ∙ append_assoc s0 a b

pub three_more : (s0 s1 s2 s3 a b c : List ℕ) → s1 ≡ s0 ++ a → s2 ≡ s1 ++ b → s3 ≡ s2 ++ c → s3 ≡ s0 ++ (a ++ b ++ c)
three_more s0 s1 s2 s3 a b c e1 e2 e3 = two_more s0 s2 s3 (a ++ b) c (two_more s0 s1 s2 a b e1 e2) e3

pub four_more : (s0 s1 s2 s3 s4 a b c d : List ℕ) → s1 ≡ s0 ++ a → s2 ≡ s1 ++ b → s3 ≡ s2 ++ c → s4 ≡ s3 ++ d → s4 ≡ s0 ++ (a ++ b ++ c ++ d)
four_more s0 s1 s2 s3 s4 a b c d e1 e2 e3 e4 = two_more s0 s3 s4 (a ++ b ++ c) d (three_more s0 s1 s2 s3 a b c e1 e2 e3) e4

-- what one more item gives
pub item_more : {X : Type 0} (f : X → List ℕ) (xs : List X) (i : ℕ) (d : X) → i < length xs → flat_map f (take (i + 1) xs) ≡ flat_map f (take i xs) ++ f (get_or xs i d)
item_more f xs i d inside =
    ap (flat_map f) (take_more xs i d inside)
    ∙ flat_map-append f (take i xs) (get_or xs i d ∷ [])
    ∙ ap (λ (t : List ℕ). flat_map f (take i xs) ++ t) (append-nil (f (get_or xs i d)))

-- a text with what the first items give, and one item more
pub grown_by : {X : Type 0} (f : X → List ℕ) (xs : List X) (i : ℕ) (d : X) (s0 s1 s2 : List ℕ) → i < length xs → s1 ≡ s0 ++ flat_map f (take i xs) → s2 ≡ s1 ++ f (get_or xs i d) → s2 ≡ s0 ++ flat_map f (take (i + 1) xs)
grown_by f xs i d s0 s1 s2 inside e1 e2 =
    two_more s0 s1 s2 (flat_map f (take i xs)) (f (get_or xs i d)) e1 e2
    ∙ ap (λ (t : List ℕ). s0 ++ t) (sym (item_more f xs i d inside))

-- past the end of a list
pub past_end : {X : Type 0} (xs : List (List X)) (i : ℕ) → None ≡ slice_get xs i → [] ≡ slice_index_or xs i []
past_end [] i e = refl
past_end (x ∷ xs) zero e = cc
past_end (x ∷ xs) (suc i) e = past_end xs i e
