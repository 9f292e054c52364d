-- Tags of leaves, read by number.
use Rattle.std.proofs.Common.{◌≡◌, inl, inr, ℕ, zero, suc, ◌+◌, ◌≤◌, Bool, true, false, cond, not, ◌&&◌, ◌||◌, List, [], ◌∷◌, ◌++◌, Option, Some, None, IsSome, length, refl, arith, ap, subst, sym, ◌∙◌}
use Rattle.std.specs.List.{AllByRecursion, IsDistinct, flat_map, position_or_len, slice_get, zip}
use Rattle.std.specs.Map.{lookup}
use Rattle.std.proofs.lemmas.Bool.{false≢true}
use Rattle.morton_order.specs.declared.space.Loc.{Loc}
use Rattle.morton_order.specs.Space.{same_loc}
use Rattle.morton_order.proofs.Any.{or_cases, or_left, or_right}
use Rattle.morton_order.proofs.Touching.{same_loc-is}
use Rattle.block_tree.specs.declared.tags.Tag.{Tag}
use Rattle.block_tree.specs.declared.tags.Tag.TheVariants.{Refine, Same, Merge}
use Rattle.block_tree.specs.Tree.{is_listed}
use Rattle.block_tree.specs.Next.{is_refine, tag_at}
use Rattle.block_tree.specs.Nodes.{number_in}
use Rattle.block_tree.proofs.Numbers.{number_is}
use Rattle.tree_change.specs.Listed.{refined, where_true}

-- the tag with a number
abbrev by_number : List Tag → Option ℕ → Option Tag
by_number ts None = None
by_number ts (Some i) = slice_get ts i

next_place : (t : Tag) (ts : List Tag) (p : ℕ) → slice_get (t ∷ ts) (1 + p) ≡ slice_get ts p
next_place t ts p = let e : 1 + p ≡ suc p = omega arith in ap (slice_get (t ∷ ts)) e

tag_step : (t : Tag) (ts : List Tag) (b q : Bool) (p : ℕ) (r : Option Tag) → r ≡ cond q (slice_get ts p) None → cond b (Some t) r ≡ cond (b || q) (slice_get (t ∷ ts) (cond (not b) (1 + p) 0)) None
tag_step t ts true q p r h = refl
tag_step t ts false q p r h = h ∙ sym (ap (λ (v : Option Tag). cond q v None) (next_place t ts p))

tag_place : (ls : List Loc) (ts : List Tag) (l : Loc) → length ts ≡ length ls → lookup (same_loc l) (zip ls ts) ≡ cond (is_listed ls l) (slice_get ts (position_or_len (same_loc l) ls)) None
tag_place [] ts l e = refl
tag_place (x ∷ xs) [] l e = absurd (omega arith)
tag_place (x ∷ xs) (t ∷ ts) l e = tag_step t ts (same_loc l x) (is_listed xs l) (position_or_len (same_loc l) xs) (lookup (same_loc l) (zip xs ts)) (tag_place xs ts l (omega arith))

tag_number : (ls : List Loc) (ts : List Tag) (l : Loc) → length ts ≡ length ls → tag_at ls ts l ≡ by_number ts (number_in ls l)
tag_number ls ts l e = tag_place ls ts l e ∙ by (is_listed ls l) ∙ sym (ap (by_number ts) (number_is ls l))
  where
    by : (b : Bool) → cond b (slice_get ts (position_or_len (same_loc l) ls)) None ≡ by_number ts (cond b (Some (position_or_len (same_loc l) ls)) None)
    by true = refl
    by false = refl

pub tag_found : (ls : List Loc) (ts : List Tag) (l : Loc) (i : ℕ) → length ts ≡ length ls → Some i ≡ number_in ls l → slice_get ts i ≡ tag_at ls ts l
tag_found ls ts l i e is = ap (by_number ts) is ∙ sym (tag_number ls ts l e)

pub tag_missing : (ls : List Loc) (ts : List Tag) (l : Loc) → length ts ≡ length ls → None ≡ number_in ls l → None ≡ tag_at ls ts l
tag_missing ls ts l e is = ap (by_number ts) is ∙ sym (tag_number ls ts l e)

-- only a leaf has a tag
pub tagged_listed : (ls : List Loc) (ts : List Tag) (l : Loc) → IsSome (tag_at ls ts l) → is_listed ls l ≡ true
tagged_listed [] ts l h = absurd (false≢true h)
tagged_listed (x ∷ xs) [] l h = absurd (false≢true h)
tagged_listed (x ∷ xs) (t ∷ ts) l h = by (same_loc l x) h (λ k. tagged_listed xs ts l k)
  where
    by : (b : Bool) → IsSome (cond b (Some t) (lookup (same_loc l) (zip xs ts))) → (IsSome (lookup (same_loc l) (zip xs ts)) → is_listed xs l ≡ true) → (b || is_listed xs l) ≡ true
    by true k again = refl
    by false k again = again k

-- the leaves that are refined are those with that tag
pub listed_append : (l : Loc) (xs ys : List Loc) → is_listed (xs ++ ys) l ≡ (is_listed xs l || is_listed ys l)
listed_append l [] ys = refl
listed_append l (x ∷ xs) ys = by (same_loc l x) (listed_append l xs ys)
  where
    by : (b : Bool) → is_listed (xs ++ ys) l ≡ (is_listed xs l || is_listed ys l) → (b || is_listed (xs ++ ys) l) ≡ ((b || is_listed xs l) || is_listed ys l)
    by true again = refl
    by false again = again

none_again : (x : Loc) (xs : List Loc) → AllByRecursion (λ y. same_loc x y ≡ false) xs → is_listed xs x ≡ true → ⊥
none_again x [] each h = false≢true h
none_again x (y ∷ ys) each h = elim (or_cases (same_loc x y) (is_listed ys x) h) [
  | inl here ↦ false≢true (sym each.0 ∙ here)
  | inr later ↦ none_again x ys each.1 later
]

refined_among : (ls : List Loc) (ts : List Tag) (l : Loc) → is_listed (flat_map refined (zip ls ts)) l ≡ true → is_listed ls l ≡ true
refined_among [] ts l h = absurd (false≢true h)
refined_among (x ∷ xs) [] l h = absurd (false≢true h)
refined_among (x ∷ xs) (t ∷ ts) l h = by (is_refine (Some t)) h (λ k. refined_among xs ts l k)
  where
    by : (r : Bool) → is_listed (where_true r x ++ flat_map refined (zip xs ts)) l ≡ true → (is_listed (flat_map refined (zip xs ts)) l ≡ true → is_listed xs l ≡ true) → (same_loc l x || is_listed xs l) ≡ true
    by true k again = elim (or_cases (same_loc l x) (is_listed (flat_map refined (zip xs ts)) l) k) [
      | inl here ↦ or_left (same_loc l x) (is_listed xs l) here
      | inr later ↦ or_right (same_loc l x) (is_listed xs l) (again later)
    ]
    by false k again = or_right (same_loc l x) (is_listed xs l) (again k)

pub refined_listed : (ls : List Loc) (ts : List Tag) (l : Loc) → IsDistinct same_loc ls → is_listed (flat_map refined (zip ls ts)) l ≡ is_refine (tag_at ls ts l)
unfolding IsDistinct
refined_listed [] ts l d = refl
refined_listed (x ∷ xs) [] l d = refl
refined_listed (x ∷ xs) (t ∷ ts) l d = by (refined_listed xs ts l d.1) (is_refine (Some t)) refl (same_loc l x) refl
  where
    absent : same_loc l x ≡ true → (c : Bool) → is_listed (flat_map refined (zip xs ts)) l ≡ c → c ≡ false
    absent here true e = absurd (none_again x xs d.0 (subst (λ (v : Loc). is_listed xs v ≡ true) (same_loc-is l x here) (refined_among xs ts l e)))
    absent here false e = refl

    by : is_listed (flat_map refined (zip xs ts)) l ≡ is_refine (tag_at xs ts l) → (r : Bool) → is_refine (Some t) ≡ r → (b : Bool) → same_loc l x ≡ b →
        is_listed (where_true r x ++ flat_map refined (zip xs ts)) l ≡ is_refine (cond b (Some t) (lookup (same_loc l) (zip xs ts)))
    by again true e true f = ap (λ (v : Bool). v || is_listed (flat_map refined (zip xs ts)) l) f ∙ sym e
    by again true e false f = ap (λ (v : Bool). v || is_listed (flat_map refined (zip xs ts)) l) f ∙ again
    by again false e true f = absent f (is_listed (flat_map refined (zip xs ts)) l) refl ∙ sym e
    by again false e false f = again

-- of the listed ones those that pass a test
pub passing_listed : (p : Loc → Bool) (xs : List Loc) (l : Loc) → is_listed (flat_map (λ m. where_true (p m) m) xs) l ≡ (is_listed xs l && p l)
passing_listed p [] l = refl
passing_listed p (x ∷ xs) l = by (passing_listed p xs l) (p x) refl (same_loc l x) refl
  where
    none : (u v : Bool) → v ≡ false → (u && v) ≡ false
    none true v h = h
    none false v h = refl

    by : is_listed (flat_map (λ m. where_true (p m) m) xs) l ≡ (is_listed xs l && p l) → (r : Bool) → p x ≡ r → (b : Bool) → same_loc l x ≡ b → is_listed (where_true r x ++ flat_map (λ m. where_true (p m) m) xs) l ≡ ((b || is_listed xs l) && p l)
    by again true e true f = ap (λ (v : Bool). v || is_listed (flat_map (λ m. where_true (p m) m) xs) l) f ∙ sym (ap p (same_loc-is l x f) ∙ e)
    by again true e false f = ap (λ (v : Bool). v || is_listed (flat_map (λ m. where_true (p m) m) xs) l) f ∙ again
    by again false e true f =
        let out : p l ≡ false = ap p (same_loc-is l x f) ∙ e in
        again ∙ none (is_listed xs l) (p l) out ∙ sym out
    by again false e false f = again

-- where all pass, all are left
fewer : (p : Loc → Bool) (xs : List Loc) → length (flat_map (λ m. where_true (p m) m) xs) ≤ length xs
fewer p [] = omega arith
fewer p (x ∷ xs) = by (fewer p xs) (p x)
  where
    by : length (flat_map (λ m. where_true (p m) m) xs) ≤ length xs → (b : Bool) → length (where_true b x ++ flat_map (λ m. where_true (p m) m) xs) ≤ suc (length xs)
    by h true = omega arith
    by h false = omega arith

pub all_pass : (p : Loc → Bool) (xs : List Loc) → length (flat_map (λ m. where_true (p m) m) xs) ≡ length xs → flat_map (λ m. where_true (p m) m) xs ≡ xs
all_pass p [] h = refl
all_pass p (x ∷ xs) h = by (λ k. all_pass p xs k) (p x) h
  where
    by : (length (flat_map (λ m. where_true (p m) m) xs) ≡ length xs → flat_map (λ m. where_true (p m) m) xs ≡ xs) → (b : Bool) → length (where_true b x ++ flat_map (λ m. where_true (p m) m) xs) ≡ suc (length xs) → where_true b x ++ flat_map (λ m. where_true (p m) m) xs ≡ x ∷ xs
    by again true k = ap (λ v. x ∷ v) (again (omega arith))
    by again false k = let few = fewer p xs in absurd (omega arith)

-- a list that is not longer with more at its end
pub nothing_more : (xs ys : List Loc) → length (xs ++ ys) ≡ length xs → xs ++ ys ≡ xs
nothing_more [] [] h = refl
nothing_more [] (y ∷ ys) h = absurd (omega arith)
nothing_more (x ∷ xs) ys h = ap (λ v. x ∷ v) (nothing_more xs ys (omega arith))

-- items side by side
pub zip_read : (ls : List Loc) (ts : List Tag) (i : ℕ) (l : Loc) (t : Tag) → slice_get ls i ≡ Some l → slice_get ts i ≡ Some t → slice_get (zip ls ts) i ≡ Some (l, t)
zip_read [] ts i l t h k = absurd (clash l h)
  where
    clash : (z : Loc) → None ≡ Some z → ⊥
    clash z h = cc
zip_read (x ∷ xs) [] i l t h k = absurd (clash t k)
  where
    clash : (z : Tag) → None ≡ Some z → ⊥
    clash z h = cc
zip_read (x ∷ xs) (y ∷ ys) zero l t h k = both x l y t h k
  where
    both : (a b : Loc) (c d : Tag) → Some a ≡ Some b → Some c ≡ Some d → ◌≡◌ {A = Option (Loc × Tag)} (Some (a, c)) (Some (b, d))
    both a b c d h k = cc
zip_read (x ∷ xs) (y ∷ ys) (suc i) l t h k = zip_read xs ys i l t h k

pub zip_long : (ls : List Loc) (ts : List Tag) → length (zip ls ts) ≤ length ls
zip_long [] ts = omega arith
zip_long (x ∷ xs) [] = omega arith
zip_long (x ∷ xs) (t ∷ ts) = let h = zip_long xs ts in omega arith

-- a leaf to be refined has that tag
pub refine_is : (o : Option Tag) → is_refine o ≡ true → o ≡ Some Refine
refine_is None h = absurd (false≢true h)
refine_is (Some Refine) h = refl
refine_is (Some Same) h = absurd (false≢true h)
refine_is (Some Merge) h = absurd (false≢true h)

pub refine_some : (o : Option Tag) → is_refine o ≡ true → IsSome o
refine_some None h = absurd (false≢true h)
refine_some (Some t) h = refl
