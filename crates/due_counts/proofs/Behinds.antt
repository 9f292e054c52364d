-- The numbers of the leaves behind a side, and their lists.
use Rattle.std.proofs.Common.{◌≡◌, ℕ, ◌+◌, ◌-◌, ◌*◌, ◌/◌, ◌<◌, ◌≤◌, Bool, true, false, cond, not, All, Option, None, Some, nat_lt, List, [], ◌∷◌, length, map, min, filter, refl, arith, ap, sym, subst, ◌∙◌}
use Rattle.std.specs.Option.{option_and_then, option_map}
use Rattle.std.specs.List.{position, position_or_len, range_with_len}
use Rattle.std.proofs.lemmas.List.{length-map}
use Rattle.std.proofs.lemmas.List.Elements.{All-cons}
use Rattle.std.proofs.lemmas.List.Quantifiers.{position-Some}
use Rattle.std.proofs.lemmas.List.Sums.{count_by-le-length, length-filter}
use Rattle.morton_order.specs.declared.space.Loc.{Loc}
use Rattle.morton_order.specs.declared.space.Shape.{Shape}
use Rattle.morton_order.specs.Space.{child, parent, parts, same_loc}
use Rattle.morton_order.specs.Neighbours.{across}
use Rattle.block_tree.specs.declared.neighbour.Behind.{Behind as Answer}
use Rattle.block_tree.specs.declared.neighbour.Behind.TheVariants.{Outside, Same, Coarse, Fine}
use Rattle.block_tree.specs.Behind.{Behind, behind, behind_at, children_at, is_high_half, outside, same, coarse, fine}
use Rattle.block_tree.specs.Tree.{is_node}
use Rattle.block_tree.specs.Nodes.{number_in}
use Rattle.block_tree.specs.Numbered.{numbered, numbers_in}
use Rattle.mesh_rules.specs.Due.{coarser_in}
use Rattle.mesh_rules.specs.Regions.{leaves_in}
use Rattle.due_counts.specs.DueLetters.{list_in}
use Rattle.due_counts.specs.Sides.{all_of, coarser_of, divided}

-- the number of a location
abbrev number : List Loc → Loc → ℕ
number leaves o = position_or_len (same_loc o) leaves

-- numbers of leaves, which are those of some locations
pub record AreNumbers (leaves : List Loc) (ns : List ℕ) (os : List Loc) : Type 0 where
  pub few : All (λ n. n < length leaves) ns
  pub are : map (number leaves) os ≡ ns

pub record IsNumber (leaves : List Loc) (n : ℕ) (o : Loc) : Type 0 where
  pub few : n < length leaves
  pub is : number leaves o ≡ n

nowhere : Loc
nowhere = record { level = 0; l1 = 0; l2 = 0; l3 = 0 }

-- the place of what is found is the first one that passes
position_is : (p : Loc → Bool) (xs : List Loc) (n : ℕ) → position p xs ≡ Some n → position_or_len p xs ≡ n
position_is p xs n e = by (nat_lt (position_or_len p xs) (length xs)) refl
  where
    is_some : (x y : ℕ) → Some x ≡ Some y → x ≡ y
    is_some x y h = cc

    none_some : (y : ℕ) → ◌≡◌ {A = Option ℕ} None (Some y) → ⊥
    none_some y h = cc

    by : (b : Bool) → nat_lt (position_or_len p xs) (length xs) ≡ b → position_or_len p xs ≡ n
    by true t = is_some (position_or_len p xs) n (ap (λ (b : Bool). cond b (Some (position_or_len p xs)) None) (sym t) ∙ e)
    by false t = absurd (none_some n (ap (λ (b : Bool). cond b (Some (position_or_len p xs)) None) (sym t) ∙ e))

pub number_is : (leaves : List Loc) (o : Loc) (n : ℕ) → number_in leaves o ≡ Some n → IsNumber leaves n o
number_is leaves o n e = record {
  few = (position-Some (same_loc o) leaves n nowhere e).0;
  is = position_is (same_loc o) leaves n e;
}

none_all : (leaves : List Loc) → AreNumbers leaves [] []
none_all leaves = record { few = λ k d less. absurd (omega (arith, less)); are = refl }

more_all : (leaves : List Loc) (n : ℕ) (ns : List ℕ) (o : Loc) (os : List Loc) → IsNumber leaves n o → AreNumbers leaves ns os → AreNumbers leaves (n ∷ ns) (o ∷ os)
more_all leaves n ns o os one rest = record {
  few = All-cons (λ k. k < length leaves) n ns one.few rest.few;
  are = ap (λ (k : ℕ). k ∷ map (number leaves) os) one.is ∙ ap (λ (ks : List ℕ). n ∷ ks) rest.are;
}

pub numbers_are : (leaves : List Loc) (os : List Loc) (ns : List ℕ) → numbers_in leaves os ≡ Some ns → AreNumbers leaves ns os
numbers_are leaves [] ns e = subst (λ (v : List ℕ). AreNumbers leaves v []) (some_is [] ns e) (none_all leaves)
  where
    some_is : (x y : List ℕ) → Some x ≡ Some y → x ≡ y
    some_is x y h = cc
numbers_are leaves (o ∷ os) ns e = by (number_in leaves o) (numbers_in leaves os) refl refl e (numbers_are leaves os)
  where
    some_is : (x y : List ℕ) → Some x ≡ Some y → x ≡ y
    some_is x y h = cc

    none_some : (y : List ℕ) → ◌≡◌ {A = Option (List ℕ)} None (Some y) → ⊥
    none_some y h = cc

    by : (a : Option ℕ) (b : Option (List ℕ)) → number_in leaves o ≡ a → numbers_in leaves os ≡ b
        → option_and_then (λ n. option_map (λ (more : List ℕ). n ∷ more) b) a ≡ Some ns
        → ((more : List ℕ) → numbers_in leaves os ≡ Some more → AreNumbers leaves more os) → AreNumbers leaves ns (o ∷ os)
    by None b m w e rest = absurd (none_some ns e)
    by (Some k) None m w e rest = absurd (none_some ns e)
    by (Some k) (Some more) m w e rest = subst (λ (v : List ℕ). AreNumbers leaves v (o ∷ os)) (some_is (k ∷ more) ns e)
        (more_all leaves k more o os (number_is leaves o k m) (rest more w))

-- what an answer names is what stands behind the side
pub record Names (leaves : List Loc) (x : Behind) (a : Answer) : Type 0 where
  pub all : AreNumbers leaves (all_of a) (leaves_in x)
  pub coarser : AreNumbers leaves (coarser_of a) (coarser_in x)

one_all : (leaves : List Loc) (o : Loc) (n : ℕ) → number_in leaves o ≡ Some n → AreNumbers leaves (n ∷ []) (o ∷ [])
one_all leaves o n e = more_all leaves n [] o [] (number_is leaves o n e) (none_all leaves)

answer_is : (a b : Answer) → Some a ≡ Some b → a ≡ b
answer_is a b h = cc

no_answer : (b : Answer) → ◌≡◌ {A = Option Answer} None (Some b) → ⊥
no_answer b h = cc

pub names : (leaves : List Loc) (x : Behind) (a : Answer) → numbered leaves x ≡ Some a → Names leaves x a
names leaves outside a e = subst (Names leaves outside) (answer_is Outside a e) (record { all = none_all leaves; coarser = none_all leaves })
names leaves (same o) a e = by (number_in leaves o) refl e
  where
    by : (n : Option ℕ) → number_in leaves o ≡ n → option_map Same n ≡ Some a → Names leaves (same o) a
    by None m e = absurd (no_answer a e)
    by (Some n) m e = subst (Names leaves (same o)) (answer_is (Same n) a e) (record { all = one_all leaves o n m; coarser = none_all leaves })
names leaves (coarse o) a e = by (number_in leaves o) refl e
  where
    by : (n : Option ℕ) → number_in leaves o ≡ n → option_map Coarse n ≡ Some a → Names leaves (coarse o) a
    by None m e = absurd (no_answer a e)
    by (Some n) m e = subst (Names leaves (coarse o)) (answer_is (Coarse n) a e) (record { all = one_all leaves o n m; coarser = one_all leaves o n m })
names leaves (fine os) a e = by (numbers_in leaves os) refl e
  where
    by : (ns : Option (List ℕ)) → numbers_in leaves os ≡ ns → option_map Fine ns ≡ Some a → Names leaves (fine os) a
    by None m e = absurd (no_answer a e)
    by (Some ns) m e = subst (Names leaves (fine os)) (answer_is (Fine ns) a e) (record { all = numbers_are leaves os ns m; coarser = none_all leaves })

-- the lists of these numbers
pub lists_are : (leaves : List Loc) (size : ℕ) (ns : List ℕ) (os : List Loc) → AreNumbers leaves ns os
    → divided size ns ≡ map (λ o. list_in size (length leaves) (number leaves o)) os
lists_are leaves size ns os are =
    sym (map-map (number leaves) (list_in size (length leaves)) os
    ∙ ap (map (list_in size (length leaves))) are.are
    ∙ same_lists ns are.few)
  where
    map-map : (f : Loc → ℕ) (g : ℕ → ℕ) (xs : List Loc) → map (λ o. g (f o)) xs ≡ map g (map f xs)
    map-map f g [] = refl
    map-map f g (x ∷ xs) = ap (λ (v : List ℕ). g (f x) ∷ v) (map-map f g xs)

    same_lists : (ks : List ℕ) → All (λ n. n < length leaves) ks → map (list_in size (length leaves)) ks ≡ map (λ n. n / size) ks
    same_lists [] few = refl
    same_lists (k ∷ ks) few =
        let first : k < length leaves = few 0 0 (omega arith) in
        let least : min k (length leaves - 1) ≡ k = omega (arith, first) in
        ap (λ (n : ℕ). n / size ∷ map (list_in size (length leaves)) ks) least
        ∙ ap (λ (v : List ℕ). k / size ∷ v) (same_lists ks (λ i d less. few (ℕ.suc i) d (omega (arith, less))))

-- no more than eight leaves stand behind a side
most_parts : (dims : ℕ) → parts dims ≤ 8
most_parts dims = by (nat_lt 0 dims) (nat_lt 1 dims) (nat_lt 2 dims)
  where
    by : (a b c : Bool) → cond a 2 1 * cond b 2 1 * cond c 2 1 ≤ 8
    by true true true = omega arith
    by true true false = omega arith
    by true false true = omega arith
    by true false false = omega arith
    by false true true = omega arith
    by false true false = omega arith
    by false false true = omega arith
    by false false false = omega arith

filtered : (p : ℕ → Bool) (n : ℕ) → length (filter p (range_with_len 0 n)) ≤ n
filtered p n = omega (arith, length-filter p (range_with_len 0 n), count_by-le-length p (range_with_len 0 n), length-range 0 n)
  where
    length-range : (a k : ℕ) → length (range_with_len a k) ≡ k
    length-range a ℕ.zero = refl
    length-range a (ℕ.suc k) = ap ℕ.suc (length-range (a + 1) k)

pub eight_behind : (s : Shape) (inner : Loc → Bool) (l : Loc) (axis : ℕ) (high : Bool) → length (leaves_in (behind s inner l axis high)) ≤ 8
eight_behind s inner l axis high = by_across (across s l axis high)
  where
    few_children : (o : Loc) → length (map (child s.dims o) (children_at s.dims axis (not high))) ≤ 8
    few_children o = omega (
      arith,
      length-map (children_at s.dims axis (not high)) (child s.dims o),
      filtered (λ j. cond (not high) (is_high_half j axis) (not (is_high_half j axis))) (parts s.dims),
      most_parts s.dims,
    )

    by_node : (b : Bool) (o : Loc) → length (leaves_in (cond b (same o) (coarse (parent s.dims o)))) ≤ 8
    by_node true o = omega arith
    by_node false o = omega arith

    by_inner : (b : Bool) (o : Loc) → length (leaves_in (cond b (fine (map (child s.dims o) (children_at s.dims axis (not high)))) (cond (is_node s inner o) (same o) (coarse (parent s.dims o))))) ≤ 8
    by_inner true o = few_children o
    by_inner false o = by_node (is_node s inner o) o

    by_across : (o : Option Loc) → length (leaves_in (behind_at s inner axis high o)) ≤ 8
    by_across None = omega arith
    by_across (Some o) = by_inner (inner o) o

-- and no more coarser ones than there are in all
pub fewer_coarser : (x : Behind) → length (coarser_in x) ≤ length (leaves_in x)
fewer_coarser outside = omega arith
fewer_coarser (same o) = omega arith
fewer_coarser (coarse o) = omega arith
fewer_coarser (fine os) = omega arith
