-- What the tree says is behind a side, by the numbers of leaves.
use Rattle.std.proofs.Common.{◌≡◌, ℕ, ◌<◌, Option, Some, None, List, [], ◌∷◌, All, map, length, refl, arith, ap, subst, sym, ◌∙◌}
use Rattle.std.specs.Option.{option_and_then, option_map}
use Rattle.std.specs.List.{slice_index_or}
use Rattle.std.proofs.lemmas.List.Quantifiers.{position-Some}
use Rattle.std.proofs.lemmas.List.Elements.{All-from_get_or}
use Rattle.morton_order.specs.declared.space.Loc.{Loc}
use Rattle.morton_order.specs.Space.{same_loc}
use Rattle.morton_order.proofs.Touching.{same_loc-is}
use Rattle.block_tree.specs.declared.neighbour.Behind.{Behind as Answer}
use Rattle.block_tree.specs.declared.neighbour.Behind.TheVariants.{Outside, Same, Coarse, Fine}
use Rattle.block_tree.specs.Behind.{Behind, outside, same, coarse, fine}
use Rattle.block_tree.specs.Nodes.{number_in}
use Rattle.block_tree.specs.Numbered.{numbered, numbers_in}

-- a place that has no leaf
abbrev pub nowhere : Loc
nowhere = record { level = 0; l1 = 0; l2 = 0; l3 = 0 }

-- the leaf with a number
pub record IsLeafAt (leaves : List Loc) (n : ℕ) (o : Loc) : Type 0 where
  pub few : n < length leaves
  pub is : slice_index_or leaves n nowhere ≡ o

pub leaf_at : (leaves : List Loc) (o : Loc) (n : ℕ) → number_in leaves o ≡ Some n → IsLeafAt leaves n o
leaf_at leaves o n is =
    let found = position-Some (same_loc o) leaves n nowhere is in
    record { few = found.0; is = sym (same_loc-is o (slice_index_or leaves n nowhere) found.1) }

-- kinds of answers
abbrev as_outside : Option Answer → Option ℕ
as_outside None = None
as_outside (Some Outside) = Some 0
as_outside (Some (Same n)) = None
as_outside (Some (Coarse n)) = None
as_outside (Some (Fine ns)) = None

abbrev as_same : Option Answer → Option ℕ
as_same None = None
as_same (Some Outside) = None
as_same (Some (Same n)) = Some n
as_same (Some (Coarse n)) = None
as_same (Some (Fine ns)) = None

abbrev as_coarse : Option Answer → Option ℕ
as_coarse None = None
as_coarse (Some Outside) = None
as_coarse (Some (Same n)) = None
as_coarse (Some (Coarse n)) = Some n
as_coarse (Some (Fine ns)) = None

abbrev as_fine : Option Answer → Option (List ℕ)
as_fine None = None
as_fine (Some Outside) = None
as_fine (Some (Same n)) = None
as_fine (Some (Coarse n)) = None
as_fine (Some (Fine ns)) = Some ns

none_some : {X : Type 0} (x : X) → ◌≡◌ {A = Option X} None (Some x) → ⊥
none_some x e = cc

some_is : {X : Type 0} (x y : X) → Some x ≡ Some y → x ≡ y
some_is x y e = cc

-- one leaf, of the same level or coarser
pub numbered_outside : (leaves : List Loc) (x : Behind) → numbered leaves x ≡ Some Outside → x ≡ outside
numbered_outside leaves outside e = refl
numbered_outside leaves (same o) e = by (number_in leaves o) e
  where
    by : (a : Option ℕ) → option_map Same a ≡ Some Outside → same o ≡ outside
    by None e = absurd (none_some 0 (ap as_outside e))
    by (Some k) e = absurd (none_some 0 (ap as_outside e))
numbered_outside leaves (coarse o) e = by (number_in leaves o) e
  where
    by : (a : Option ℕ) → option_map Coarse a ≡ Some Outside → coarse o ≡ outside
    by None e = absurd (none_some 0 (ap as_outside e))
    by (Some k) e = absurd (none_some 0 (ap as_outside e))
numbered_outside leaves (fine os) e = by (numbers_in leaves os) e
  where
    by : (a : Option (List ℕ)) → option_map Fine a ≡ Some Outside → fine os ≡ outside
    by None e = absurd (none_some 0 (ap as_outside e))
    by (Some k) e = absurd (none_some 0 (ap as_outside e))

pub record IsOne (leaves : List Loc) (n : ℕ) (make : Loc → Behind) (x : Behind) : Type 0 where
  pub few : n < length leaves
  pub is : x ≡ make (slice_index_or leaves n nowhere)

one_is : (leaves : List Loc) (n : ℕ) (make : Loc → Behind) (o : Loc) → IsLeafAt leaves n o → IsOne leaves n make (make o)
one_is leaves n make o at = record { few = at.few; is = ap make (sym at.is) }

pub numbered_same : (leaves : List Loc) (n : ℕ) (x : Behind) → numbered leaves x ≡ Some (Same n) → IsOne leaves n same x
numbered_same leaves n outside e = absurd (none_some n (ap as_same e))
numbered_same leaves n (same o) e = by (number_in leaves o) refl e
  where
    by : (a : Option ℕ) → number_in leaves o ≡ a → option_map Same a ≡ Some (Same n) → IsOne leaves n same (same o)
    by None m e = absurd (none_some n (ap as_same e))
    by (Some k) m e = one_is leaves n same o (leaf_at leaves o n (m ∙ ap as_same e))
numbered_same leaves n (coarse o) e = by (number_in leaves o) e
  where
    by : (a : Option ℕ) → option_map Coarse a ≡ Some (Same n) → IsOne leaves n same (coarse o)
    by None e = absurd (none_some n (ap as_same e))
    by (Some k) e = absurd (none_some n (ap as_same e))
numbered_same leaves n (fine os) e = by (numbers_in leaves os) e
  where
    by : (a : Option (List ℕ)) → option_map Fine a ≡ Some (Same n) → IsOne leaves n same (fine os)
    by None e = absurd (none_some n (ap as_same e))
    by (Some k) e = absurd (none_some n (ap as_same e))

pub numbered_coarse : (leaves : List Loc) (n : ℕ) (x : Behind) → numbered leaves x ≡ Some (Coarse n) → IsOne leaves n coarse x
numbered_coarse leaves n outside e = absurd (none_some n (ap as_coarse e))
numbered_coarse leaves n (same o) e = by (number_in leaves o) e
  where
    by : (a : Option ℕ) → option_map Same a ≡ Some (Coarse n) → IsOne leaves n coarse (same o)
    by None e = absurd (none_some n (ap as_coarse e))
    by (Some k) e = absurd (none_some n (ap as_coarse e))
numbered_coarse leaves n (coarse o) e = by (number_in leaves o) refl e
  where
    by : (a : Option ℕ) → number_in leaves o ≡ a → option_map Coarse a ≡ Some (Coarse n) → IsOne leaves n coarse (coarse o)
    by None m e = absurd (none_some n (ap as_coarse e))
    by (Some k) m e = one_is leaves n coarse o (leaf_at leaves o n (m ∙ ap as_coarse e))
numbered_coarse leaves n (fine os) e = by (numbers_in leaves os) e
  where
    by : (a : Option (List ℕ)) → option_map Fine a ≡ Some (Coarse n) → IsOne leaves n coarse (fine os)
    by None e = absurd (none_some n (ap as_coarse e))
    by (Some k) e = absurd (none_some n (ap as_coarse e))

-- finer leaves
pub record AreListed (leaves : List Loc) (ns : List ℕ) (os : List Loc) : Type 0 where
  pub few : All (λ n. n < length leaves) ns
  pub are : os ≡ map (λ n. slice_index_or leaves n nowhere) ns

all_listed : (leaves : List Loc) (os : List Loc) (ns : List ℕ) → numbers_in leaves os ≡ Some ns → AreListed leaves ns os
all_listed leaves [] ns e = subst (λ (v : List ℕ). AreListed leaves v []) (some_is [] ns e) (record { few = All-from_get_or (λ n. n < length leaves) [] 0 (λ i h. absurd (omega arith)); are = refl })
all_listed leaves (o ∷ os) ns e = by (number_in leaves o) (numbers_in leaves os) refl refl e (all_listed leaves os)
  where
    by : (a : Option ℕ) (b : Option (List ℕ)) → number_in leaves o ≡ a → numbers_in leaves os ≡ b → option_and_then (λ n. option_map (λ (more : List ℕ). n ∷ more) b) a ≡ Some ns →
        ((more : List ℕ) → numbers_in leaves os ≡ Some more → AreListed leaves more os) → AreListed leaves ns (o ∷ os)
    by None b m w e rest = absurd (none_some ns e)
    by (Some k) None m w e rest = absurd (none_some ns e)
    by (Some k) (Some more) m w e rest =
        let first = leaf_at leaves o k m in
        let later = rest more w in
        subst (λ (v : List ℕ). AreListed leaves v (o ∷ os)) (some_is (k ∷ more) ns e)
        (record { few = all_cons k more first.few later.few; are = ap (λ v. v ∷ os) (sym first.is) ∙ ap (λ v. slice_index_or leaves k nowhere ∷ v) later.are })
      where
        all_cons : (k : ℕ) (more : List ℕ) → k < length leaves → All (λ n. n < length leaves) more → All (λ n. n < length leaves) (k ∷ more)
        all_cons k more h all = grind (arith, h, all)

pub numbered_fine : (leaves : List Loc) (ns : List ℕ) (x : Behind) → numbered leaves x ≡ Some (Fine ns) → (os : List Loc) × (x ≡ fine os) × AreListed leaves ns os
numbered_fine leaves ns outside e = absurd (none_some ns (ap as_fine e))
numbered_fine leaves ns (same o) e = by (number_in leaves o) e
  where
    by : (a : Option ℕ) → option_map Same a ≡ Some (Fine ns) → (os : List Loc) × (same o ≡ fine os) × AreListed leaves ns os
    by None e = absurd (none_some ns (ap as_fine e))
    by (Some k) e = absurd (none_some ns (ap as_fine e))
numbered_fine leaves ns (coarse o) e = by (number_in leaves o) e
  where
    by : (a : Option ℕ) → option_map Coarse a ≡ Some (Fine ns) → (os : List Loc) × (coarse o ≡ fine os) × AreListed leaves ns os
    by None e = absurd (none_some ns (ap as_fine e))
    by (Some k) e = absurd (none_some ns (ap as_fine e))
numbered_fine leaves ns (fine os) e = by (numbers_in leaves os) refl e
  where
    by : (a : Option (List ℕ)) → numbers_in leaves os ≡ a → option_map Fine a ≡ Some (Fine ns) → (list : List Loc) × (fine os ≡ fine list) × AreListed leaves ns list
    by None m e = absurd (none_some ns (ap as_fine e))
    by (Some k) m e = (os, refl, all_listed leaves os ns (m ∙ ap as_fine e))
