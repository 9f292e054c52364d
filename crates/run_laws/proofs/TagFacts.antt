-- What the tags of a cycle ask for.
use Rattle.std.proofs.Common.{◌≡◌, ℕ, zero, suc, ◌+◌, ◌<◌, ◌≤◌, Bool, true, false, cond, ◌&&◌, ◌||◌, eqb, rules, nat_lt, nat_le, Option, Some, List, [], ◌∷◌, length, map, IsTrue, refl, sym, subst, arith, inl, inr, ⊎_elim, ◌⊎◌}
use Rattle.std.specs.Prelude.{IsSome}
use Rattle.std.specs.List.{enumerate_from, slice_index_or, zip}
use Rattle.std.specs.Map.{lookup}
use Rattle.std.proofs.lemmas.Bool.Decides.{nat_tests}
use Rattle.morton_order.specs.declared.space.Loc.{Loc}
use Rattle.morton_order.specs.Space.{same_loc}
use Rattle.block_tree.specs.declared.tags.Tag.{Tag}
use Rattle.block_tree.specs.declared.tags.Tag.TheVariants as tag
use Rattle.block_tree.specs.Tree.{is_listed}
use Rattle.block_tree.specs.Next.{is_refine}
use Rattle.deck_entries.specs.declared.entries.Criterion.{Criterion}
use Rattle.deck_entries.specs.SoundEntries.{IsCriterion}
use Rattle.mesh_rules.specs.declared.wish.Wish.{Wish}
use Rattle.mesh_rules.specs.declared.wish.Wish.TheVariants.{Refine, Same, Derefine}
use Rattle.mesh_rules.specs.Tags.{at_root, stronger, strongest, tag_of, wish_by}

pub left_of : (a b : Bool) → (a && b) ≡ true → a ≡ true
left_of true b e = refl
left_of false b e = cc

pub right_of : (a b : Bool) → (a && b) ≡ true → b ≡ true
right_of true b e = e
right_of false b e = cc

is_same_number : (a b : ℕ) → eqb a b ≡ true → a ≡ b
is_same_number a b e = grind (arith, nat_tests)

with_parts : (a b c d a' b' c' d' : ℕ) → a ≡ a' → b ≡ b' → c ≡ c' → d ≡ d' → (let l : Loc = record { level = a; l1 = b; l2 = c; l3 = d } in l) ≡ (let l : Loc = record { level = a'; l1 = b'; l2 = c'; l3 = d' } in l)
with_parts a b c d a' b' c' d' e f g h = cc

-- locations that are the same are one
pub same_is : (l m : Loc) → same_loc l m ≡ true → l ≡ m
same_is l m e =
    let x = left_of (eqb l.level m.level && eqb l.l1 m.l1 && eqb l.l2 m.l2) (eqb l.l3 m.l3) e in
    let y = left_of (eqb l.level m.level && eqb l.l1 m.l1) (eqb l.l2 m.l2) x in
    with_parts l.level l.l1 l.l2 l.l3 m.level m.l1 m.l2 m.l3
    (is_same_number _ _ (left_of (eqb l.level m.level) (eqb l.l1 m.l1) y))
    (is_same_number _ _ (right_of (eqb l.level m.level) (eqb l.l1 m.l1) y))
    (is_same_number _ _ (right_of (eqb l.level m.level && eqb l.l1 m.l1) (eqb l.l2 m.l2) x))
    (is_same_number _ _ (right_of (eqb l.level m.level && eqb l.l1 m.l1 && eqb l.l2 m.l2) (eqb l.l3 m.l3) e))

-- a location with a tag is listed
pub tagged_listed : {X : Type 0} (l : Loc) (xs : List Loc) (ts : List X) → IsSome (lookup (same_loc l) (zip xs ts)) → is_listed xs l ≡ true
tagged_listed l [] ts h = absurd (none ts h)
  where
    none : {X : Type 0} (zs : List X) → IsSome (lookup (same_loc l) (zip [] zs)) → ⊥
    none [] k = search rules
    none (z ∷ zs) k = search rules
tagged_listed l (x ∷ xs) [] h = absurd (search rules)
tagged_listed {X} l (x ∷ xs) (t ∷ ts) h = by (same_loc l x) (tagged_listed l xs ts) h
  where
    by : (b : Bool) → (IsSome (lookup (same_loc l) (zip xs ts)) → is_listed xs l ≡ true) → IsSome (cond b (Some t) (lookup (same_loc l) (zip xs ts))) → (b || is_listed xs l) ≡ true
    by true more k = refl
    by false more k = more k

-- a tag that is looked up is that of the location
pub tag_looked_up : (l : Loc) (g : ℕ → Loc → Tag) (xs : List Loc) (first : ℕ) → IsTrue (is_refine (lookup (same_loc l) (zip xs (map (λ (q : ℕ × Loc). g q.0 q.1) (enumerate_from first xs))))) → (i : ℕ) × IsTrue (is_refine (Some (g i l)))
tag_looked_up l g [] first h = absurd (search rules)
tag_looked_up l g (x ∷ xs) first h = by (same_loc l x) refl (tag_looked_up l g xs (first + 1)) h
  where
    rest : Option Tag
    rest = lookup (same_loc l) (zip xs (map (λ (q : ℕ × Loc). g q.0 q.1) (enumerate_from (first + 1) xs)))

    by : (b : Bool) → same_loc l x ≡ b → (IsTrue (is_refine (lookup (same_loc l) (zip xs (map (λ (q : ℕ × Loc). g q.0 q.1) (enumerate_from (first + 1) xs))))) → (i : ℕ) × IsTrue (is_refine (Some (g i l))))
        → IsTrue (is_refine (cond b (Some (g first x)) (lookup (same_loc l) (zip xs (map (λ (q : ℕ × Loc). g q.0 q.1) (enumerate_from (first + 1) xs)))))) → (i : ℕ) × IsTrue (is_refine (Some (g i l)))
    by true e more k = (first, subst (λ (y : Loc). IsTrue (is_refine (Some (g first y)))) (sym (same_is l x e)) k)
    by false e more k = more k

-- a tag asks to refine where the wish does
pub tag_refines : (limit count : ℕ) (w : Wish) → IsTrue (is_refine (Some (tag_of limit w count))) → w ≡ Refine
tag_refines limit count Refine h = refl
tag_refines limit count Same h = absurd (by (nat_le limit count) h)
  where
    by : (b : Bool) → IsTrue (is_refine (Some (cond b tag.Merge tag.Same))) → ⊥
    by true k = search rules
    by false k = search rules
tag_refines limit count Derefine h = absurd (by (nat_le limit count) h)
  where
    by : (b : Bool) → IsTrue (is_refine (Some (cond b tag.Merge tag.Same))) → ⊥
    by true k = search rules
    by false k = search rules

pub root_refines : (level : ℕ) (w : Wish) → at_root level w ≡ Refine → w ≡ Refine
root_refines zero Refine e = refl
root_refines zero Same e = e
root_refines zero Derefine e = cc
root_refines (suc level) w e = e

stronger_refines : (a b : Wish) → stronger a b ≡ Refine → (a ≡ Refine) ⊎ (b ≡ Refine)
stronger_refines Refine b e = inl refl
stronger_refines Same Refine e = inr refl
stronger_refines Same Same e = inl e
stronger_refines Same Derefine e = inl e
stronger_refines Derefine b e = inr e

-- a criterion wishes to refine below its greatest level alone
criterion_refines : (c : Criterion) (level measure : ℕ) → wish_by c level measure ≡ Refine → level < c.max_level
criterion_refines c level measure e = by (nat_lt c.refine_tol measure) (nat_lt level c.max_level) (below level c.max_level) (nat_lt measure c.derefine_tol) e
  where
    below : (a b : ℕ) → nat_lt a b ≡ true → a < b
    below a b h = grind (arith, nat_tests)

    by : (a b : Bool) → (b ≡ true → level < c.max_level) → (d : Bool) → cond (a && b) Refine (cond d Derefine Same) ≡ Refine → level < c.max_level
    by true true k d h = k refl
    by true false k true h = cc
    by true false k false h = cc
    by false b k true h = cc
    by false b k false h = cc

-- the strongest wish refines only where the finer leaves are of one of the levels
pub strongest_refines : (levels fields : ℕ) (level : ℕ) (measure : Criterion → ℕ) (cs : List Criterion) → ((i : ℕ) (d : Criterion) → i < length cs → IsCriterion levels fields (slice_index_or cs i d)) → strongest (map (λ (c : Criterion). wish_by c level (measure c)) cs) ≡ Refine → level + 2 ≤ levels
strongest_refines levels fields level measure [] all e = cc
strongest_refines levels fields level measure (c ∷ []) all e =
    let below = criterion_refines c level (measure c) e in
    let sound = all 0 c (omega arith) in
    omega (arith, below, sound.level)
strongest_refines levels fields level measure (c ∷ d ∷ cs) all e =
    ⊎_elim
    (λ (here : wish_by c level (measure c) ≡ Refine). let below = criterion_refines c level (measure c) here in let sound = all 0 c (omega arith) in omega (arith, below, sound.level))
    (λ later. strongest_refines levels fields level measure (d ∷ cs) (λ i x inside. all (suc i) x (omega (arith, inside))) later)
    (stronger_refines (wish_by c level (measure c)) (strongest (map (λ (k : Criterion). wish_by k level (measure k)) (d ∷ cs))) e)
