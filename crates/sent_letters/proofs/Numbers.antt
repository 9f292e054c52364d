-- The leaves that are due a letter, by their numbers.
use Rattle.std.proofs.Common.{◌≡◌, ℕ, ◌<◌, Bool, true, false, cond, nat_lt, Option, Some, None, List, [], ◌∷◌, All, map, length, refl, arith, ap, subst, sym, ◌∙◌}
use Rattle.std.specs.Option.{option_and_then, option_map}
use Rattle.std.specs.List.{position_or_len}
use Rattle.std.proofs.lemmas.Bool.{ltb-true}
use Rattle.std.proofs.lemmas.List.Elements.{All-from_get_or}
use Rattle.morton_order.specs.declared.space.Loc.{Loc}
use Rattle.morton_order.specs.Space.{same_loc}
use Rattle.block_tree.specs.declared.neighbour.Behind.{Behind as Answer}
use Rattle.block_tree.specs.declared.neighbour.Behind.TheVariants.{Outside, Same, Coarse, Fine}
use Rattle.block_tree.specs.Behind.{Behind, outside, same, coarse, fine}
use Rattle.block_tree.specs.Nodes.{number_in}
use Rattle.block_tree.specs.Numbered.{numbered, numbers_in}
use Rattle.task_meshes.specs.declared.kind.LetterKind.{LetterKind}
use Rattle.task_meshes.specs.declared.kind.LetterKind.TheVariants.{Ghosts, Fluxes}
use Rattle.task_meshes.specs.Kinds.{receivers_of}
use Rattle.sent_letters.specs.Receivers.{numbers_behind}

none_some : {X : Type 0} (x : X) → ◌≡◌ {A = Option X} None (Some x) → ⊥
none_some x e = cc

pub some_is : {X : Type 0} (x y : X) → Some x ≡ Some y → x ≡ y
some_is x y e = cc

-- the number of a leaf among the leaves
abbrev pub place_among : List Loc → Loc → ℕ
place_among ls o = position_or_len (same_loc o) ls

pub record IsNumber (ls : List Loc) (o : Loc) (k : ℕ) : Type 0 where
  pub is : place_among ls o ≡ k
  pub few : k < length ls

pub number_is : (ls : List Loc) (o : Loc) (k : ℕ) → number_in ls o ≡ Some k → IsNumber ls o k
number_is ls o k e = by (nat_lt (place_among ls o) (length ls)) refl e
  where
    by : (t : Bool) → nat_lt (place_among ls o) (length ls) ≡ t → cond t (Some (place_among ls o)) None ≡ Some k → IsNumber ls o k
    by true h e = let is = some_is (place_among ls o) k e in record { is = is; few = subst (λ v. v < length ls) is (ltb-true (place_among ls o) (length ls) h) }
    by false h e = absurd (none_some k e)

-- the numbers of some leaves
pub record AreNumbers (ls os : List Loc) (ns : List ℕ) : Type 0 where
  pub are : map (place_among ls) os ≡ ns
  pub few : All (λ n. n < length ls) ns

no_numbers : (ls : List Loc) → AreNumbers ls [] []
no_numbers ls = record { are = refl; few = All-from_get_or (λ n. n < length ls) [] 0 (λ i h. absurd (omega arith)) }

all_cons : (m k : ℕ) (more : List ℕ) → k < m → All (λ n. n < m) more → All (λ n. n < m) (k ∷ more)
all_cons m k more h all = grind (arith, h, all)

numbers_more : (ls : List Loc) (o : Loc) (os : List Loc) (k : ℕ) (ks : List ℕ) → IsNumber ls o k → AreNumbers ls os ks → AreNumbers ls (o ∷ os) (k ∷ ks)
numbers_more ls o os k ks first rest = record {
  are = ap (λ v. v ∷ map (place_among ls) os) first.is ∙ ap (λ v. k ∷ v) rest.are;
  few = all_cons (length ls) k ks first.few rest.few;
}

pub numbers_are : (ls os : List Loc) (ns : List ℕ) → numbers_in ls os ≡ Some ns → AreNumbers ls os ns
numbers_are ls [] ns e = subst (λ (v : List ℕ). AreNumbers ls [] v) (some_is [] ns e) (no_numbers ls)
numbers_are ls (o ∷ os) ns e = by (number_in ls o) (numbers_in ls os) refl refl e (numbers_are ls os)
  where
    by : (a : Option ℕ) (b : Option (List ℕ)) → number_in ls o ≡ a → numbers_in ls os ≡ b → option_and_then (λ n. option_map (λ (more : List ℕ). n ∷ more) b) a ≡ Some ns →
        ((more : List ℕ) → numbers_in ls os ≡ Some more → AreNumbers ls os more) → AreNumbers ls (o ∷ os) ns
    by None b m w e rest = absurd (none_some ns e)
    by (Some k) None m w e rest = absurd (none_some ns e)
    by (Some k) (Some more) m w e rest = subst (λ (v : List ℕ). AreNumbers ls (o ∷ os) v) (some_is (k ∷ more) ns e) (numbers_more ls o os k more (number_is ls o k m) (rest more w))

-- what the tree answers, for the leaves that are due a letter
one_told : (ls : List Loc) (o : Loc) (make : ℕ → Answer) (of : Answer → List ℕ) (a : Answer) → ((k : ℕ) → of (make k) ≡ k ∷ []) → option_map make (number_in ls o) ≡ Some a → AreNumbers ls (o ∷ []) (of a)
one_told ls o make of a h e = by (number_in ls o) refl e
  where
    by : (x : Option ℕ) → number_in ls o ≡ x → option_map make x ≡ Some a → AreNumbers ls (o ∷ []) (of a)
    by None m e = absurd (none_some a e)
    by (Some k) m e = subst (λ (v : List ℕ). AreNumbers ls (o ∷ []) v) (sym (h k) ∙ ap of (some_is (make k) a e)) (numbers_more ls o [] k [] (number_is ls o k m) (no_numbers ls))

none_told : {K : Type 0} (ls : List Loc) (x : Option K) (make : K → Answer) (of : Answer → List ℕ) (a : Answer) → ((k : K) → of (make k) ≡ []) → option_map make x ≡ Some a → AreNumbers ls [] (of a)
none_told ls None make of a h e = absurd (none_some a e)
none_told ls (Some k) make of a h e = subst (λ (v : List ℕ). AreNumbers ls [] v) (sym (h k) ∙ ap of (some_is (make k) a e)) (no_numbers ls)

all_told : (ls os : List Loc) (of : Answer → List ℕ) (a : Answer) → ((ks : List ℕ) → of (Fine ks) ≡ ks) → option_map Fine (numbers_in ls os) ≡ Some a → AreNumbers ls os (of a)
all_told ls os of a h e = by (numbers_in ls os) refl e
  where
    by : (x : Option (List ℕ)) → numbers_in ls os ≡ x → option_map Fine x ≡ Some a → AreNumbers ls os (of a)
    by None m e = absurd (none_some a e)
    by (Some ks) m e = subst (λ (v : List ℕ). AreNumbers ls os v) (sym (h ks) ∙ ap of (some_is (Fine ks) a e)) (numbers_are ls os ks m)

pub told_numbers : (kind : LetterKind) (ls : List Loc) (x : Behind) (a : Answer) → numbered ls x ≡ Some a → AreNumbers ls (receivers_of kind x) (numbers_behind kind a)
told_numbers Ghosts ls outside a e = subst (λ (v : Answer). AreNumbers ls [] (numbers_behind Ghosts v)) (some_is Outside a e) (no_numbers ls)
told_numbers Ghosts ls (same o) a e = one_told ls o Same (numbers_behind Ghosts) a (λ k. refl) e
told_numbers Ghosts ls (coarse o) a e = one_told ls o Coarse (numbers_behind Ghosts) a (λ k. refl) e
told_numbers Ghosts ls (fine os) a e = all_told ls os (numbers_behind Ghosts) a (λ ks. refl) e
told_numbers Fluxes ls outside a e = subst (λ (v : Answer). AreNumbers ls [] (numbers_behind Fluxes v)) (some_is Outside a e) (no_numbers ls)
told_numbers Fluxes ls (same o) a e = none_told ls (number_in ls o) Same (numbers_behind Fluxes) a (λ k. refl) e
told_numbers Fluxes ls (coarse o) a e = one_told ls o Coarse (numbers_behind Fluxes) a (λ k. refl) e
told_numbers Fluxes ls (fine os) a e = none_told ls (numbers_in ls os) Fine (numbers_behind Fluxes) a (λ k. refl) e
