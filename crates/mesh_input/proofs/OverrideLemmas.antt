-- Overrides that are set one after another.
use Rattle.std.proofs.Common.{◌≡◌, ℕ, suc, ◌+◌, ◌<◌, ◌≤◌, List, ◌∷◌, length, drop, get_or, map, Result, Ok, Err, sym, ◌∙◌, ap, subst, arith}
use Rattle.std.proofs.lemmas.List.{get_or-map, length-map}
use Rattle.std.proofs.Math.Seq.{drop-cons}
use Rattle.std.proofs.Math.ListN.{drop_of_length-le}
use Rattle.input_file.specs.Texts.{Text}
use Rattle.input_file.specs.Blocks.{Blocks}
use Rattle.input_file.specs.Decks.{and_then}
use Rattle.input_file.specs.Overrides.{overridden}
use Rattle.mesh_input.specs.declared.fault.Refusal.{Refusal}
use Rattle.mesh_input.specs.declared.fault.InputFault.{InputFault}
use Rattle.mesh_input.specs.Input.{or_override_fault, overridden_by}
use Rattle.mesh_input.specs.Input.{Answers}
use Rattle.mesh_input.proofs.StepLemmas.{first_stops}

-- as many texts as words
ap-length : {X : Type 0} (text : X → Text) (words : List X) → length (map text words) ≡ length words
ap-length text words = simp length-map

-- the overrides from a place on are its word and those behind
from_place : {X : Type 0} (text : X → Text) (words : List X) (i : ℕ) (other : X) (d : Blocks) → i < length words → overridden_by (i + 1) d (drop i (map text words)) ≡ and_then (or_override_fault (i + 1) (overridden d (text (get_or words i other)))) (λ e. overridden_by (i + 1 + 1) e (drop (suc i) (map text words)))
from_place text words i other d inside =
    let long : i < length (map text words) = omega (arith, ap-length text words) in
    let there : get_or (map text words) i (text other) ≡ text (get_or words i other) = get_or-map text words i other (text other) inside in
    ap (overridden_by (i + 1) d) (drop-cons (map text words) i (text other) long ∙ ap (λ (t : Text). t ∷ drop (suc i) (map text words)) there)

-- one override more was set
pub one_more : {X : Type 0} (text : X → Text) (words : List X) (i : ℕ) (other : X) (all : Result Blocks Refusal) (d e : Blocks) → i < length words → all ≡ overridden_by (i + 1) d (drop i (map text words)) → or_override_fault (i + 1) (overridden d (text (get_or words i other))) ≡ Ok e → all ≡ overridden_by (i + 1 + 1) e (drop (i + 1) (map text words))
one_more text words i other all d e inside so_far set =
    let next : suc i ≡ i + 1 = omega arith in
    so_far ∙ from_place text words i other d inside
    ∙ ap (λ (v : Result Blocks Refusal). and_then v (λ f. overridden_by (i + 1 + 1) f (drop (suc i) (map text words)))) set
    ∙ ap (λ (n : ℕ). overridden_by (i + 1 + 1) e (drop n (map text words))) next

-- a word that is no override stops all
pub one_stops : {X T : Type 0} (text : X → Text) (words : List X) (i : ℕ) (other : X) (all : Result Blocks Refusal) (d : Blocks) (view later : T → Blocks) (stop : InputFault) → i < length words → all ≡ overridden_by (i + 1) d (drop i (map text words)) → Answers view (Err stop) (or_override_fault (i + 1) (overridden d (text (get_or words i other)))) → Answers later (Err stop) all
one_stops text words i other all d view later stop inside so_far told =
    let P : Result Blocks Refusal → Type 0 = λ v. Answers later (Err stop) v in
    subst P (sym (so_far ∙ from_place text words i other d inside)) (first_stops view later _ _ stop told)

-- all overrides were set
pub all_set : {X : Type 0} (text : X → Text) (words : List X) (i : ℕ) (all : Result Blocks Refusal) (d : Blocks) → i ≡ length words → all ≡ overridden_by (i + 1) d (drop i (map text words)) → all ≡ Ok d
all_set text words i all d last so_far =
    let long : length (map text words) ≤ i = omega (arith, ap-length text words) in
    so_far ∙ ap (overridden_by (i + 1) d) (drop_of_length-le (map text words) long)
