-- Keys of a block that are set one after another.
use Rattle.std.proofs.Common.{◌≡◌, ◌<◌, ◌+◌, ℕ, zero, suc, Bool, true, ◌&&◌, List, [], ◌∷◌, length, get_or, take, map, refl, sym, ap, ◌∙◌, arith}
use Rattle.std.specs.List.{list_all}
use denote.Ref.{Bor}
use Rattle.input_file.specs.Texts.{Text}
use Rattle.input_file.specs.Blocks.{Entries, Blocks, set}
use Rattle.deck_generator.specs.declared.values.Value.{Value}
use Rattle.deck_generator.specs.Settings.{setting_of, is_setting, with_settings}
use Rattle.deck_generator.proofs.Formed.{and_true}

-- what each item passes, one passes
pub passes-at : {X : Type 0} (p : X → Bool) (xs : List X) (i : ℕ) (d : X) → list_all p xs ≡ true → i < length xs → p (get_or xs i d) ≡ true
passes-at p [] i d h lt = absurd (omega (arith, lt))
passes-at p (x ∷ xs) zero d h lt = (and_true (p x) (list_all p xs) h).0
passes-at p (x ∷ xs) (suc i) d h lt = passes-at p xs i d (and_true (p x) (list_all p xs) h).1 (omega (arith, lt))

more_suc : (xs : List (Bor Text × Value)) (i : ℕ) (e : Bor Text × Value) (d : Blocks) (name : Text) → i < length xs → with_settings d name (take (suc i) (map setting_of xs)) ≡ set (with_settings d name (take i (map setting_of xs))) name (setting_of (get_or xs i e)).0 (setting_of (get_or xs i e)).1
unfolding with_settings
more_suc [] i e d name lt = absurd (omega (arith, lt))
more_suc (x ∷ xs) zero e d name lt = refl
more_suc (x ∷ xs) (suc i) e d name lt = more_suc xs i e (set d name (setting_of x).0 (setting_of x).1) name (omega (arith, lt))

-- one more key is set
pub settings-more : (xs : List (Bor Text × Value)) (i : ℕ) (e : Bor Text × Value) (d was now : Blocks) (name text : Text) → i < length xs → was ≡ with_settings d name (take i (map setting_of xs)) → now ≡ set was name (setting_of (get_or xs i e)).0 text → text ≡ (setting_of (get_or xs i e)).1 → now ≡ with_settings d name (take (i + 1) (map setting_of xs))
settings-more xs i e d was now name text lt is made same =
    let q : i + 1 ≡ suc i = omega arith in
    made
    ∙ ap (λ (t : Text). set was name (setting_of (get_or xs i e)).0 t) same
    ∙ ap (λ (b : Blocks). set b name (setting_of (get_or xs i e)).0 (setting_of (get_or xs i e)).1) is
    ∙ rw q (sym (more_suc xs i e d name lt))
