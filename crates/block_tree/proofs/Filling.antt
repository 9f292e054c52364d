-- Steps of the loops that fill lists and sets.
use Rattle.std.proofs.Common.{◌≡◌, ℕ, zero, suc, ◌+◌, ◌<◌, ◌≤◌, Bool, true, false, cond, not, ◌||◌, ◌==◌, List, [], ◌∷◌, ◌++◌, Option, Some, None, IfNone, drop, map, length, refl, arith, ap, subst, sym, ◌∙◌, append_assoc}
use Rattle.std.specs.List.{flat_map, slice_get, slice_index_or}
use Rattle.std.proofs.lemmas.Option.{slice_get-get_or}
use Rattle.std.specs.Bool.{MatchBool}
use Rattle.std.proofs.lemmas.Bool.{false≢true, ne_eqb}
use Rattle.morton_order.specs.declared.space.Loc.{Loc}
use Rattle.morton_order.specs.declared.space.Shape.{Shape}
use Rattle.morton_order.specs.Space.{parent}
use Rattle.block_tree.specs.declared.table.Entry.TheVariants.{Coarse, Fine}
use Rattle.block_tree.specs.Tree.{is_listed}
use Rattle.block_tree.specs.Leaves.{roots, roots_in}
use Rattle.block_tree.specs.Nodes.{number_in, with_node, with_nodes}
use Rattle.block_tree.specs.Table.{entry_of_numbered, or_zero, quartet_of}
use Rattle.block_tree.proofs.Growing.{append_nil}
use Rattle.block_tree.proofs.LeafList.{IsRoot, each_listed, each_root}
use Rattle.block_tree.proofs.Lists.{drop_at}
use Rattle.block_tree.proofs.Worklist.{listed_read}

-- all roots are listed where they are few enough
pub roots_whole : (s : Shape) (b : Bool) (before after : List Loc) → before ≡ [] → length (roots s) ≤ 65536 → MatchBool b (after ≡ before ++ roots_in 16 s 0 0 0) (65536 < length (before ++ roots_in 16 s 0 0 0)) → after ≡ roots s
unfolding roots
roots_whole s true before after e few h = h ∙ ap (λ (v : List Loc). v ++ roots_in 16 s 0 0 0) e
roots_whole s false before after e few h = let over : 65536 < length (roots_in 16 s 0 0 0) = subst (λ (v : List Loc). 65536 < length (v ++ roots_in 16 s 0 0 0)) e h in absurd (omega arith)

-- the step of a loop that fills a set
pub insert_step : (ns ms all xs : List Loc) (i : ℕ) (x : Loc) → with_nodes ns (drop i xs) ≡ all → Some x ≡ slice_get xs i → ms ≡ with_node ns x → with_nodes ms (drop (i + 1) xs) ≡ all
insert_step ns ms all xs i x h at is = ap (λ (v : List Loc). with_nodes v (drop (i + 1) xs)) is ∙ sym (ap (with_nodes ns) (drop_at xs i x (sym at))) ∙ h

-- the step of a loop that maps a list
pub map_step : {X Y : Type 0} (f : X → Y) (now next all : List Y) (xs : List X) (i : ℕ) (x : X) → now ++ map f (drop i xs) ≡ all → Some x ≡ slice_get xs i → next ≡ now ++ f x ∷ [] → next ++ map f (drop (i + 1) xs) ≡ all
map_step {X} {Y} f now next all xs i x h at is =
    ap (λ (v : List Y). v ++ map f (drop (i + 1) xs)) is
    ∙ append_assoc now (f x ∷ []) (map f (drop (i + 1) xs))
    ∙ sym (ap (λ (v : List X). now ++ map f v) (drop_at xs i x (sym at)))
    ∙ h

-- the entry for the parent of what lies across
pub coarse_entry : (nodes leaves : List Loc) (s : Shape) (o : Loc) (axis : ℕ) (high : Bool) (p : Loc) (n : ℕ) → number_in leaves o ≡ None → 1 ≤ o.level → is_listed nodes o ≡ false → p ≡ parent s.dims o → n ≡ or_zero (number_in leaves p) → Coarse n ≡ entry_of_numbered nodes leaves s o axis high (number_in leaves o)
coarse_entry nodes leaves s o axis high p n none fine outer is number =
    let off : (o.level == 0 || is_listed nodes o) ≡ false = ap (λ (v : Bool). v || is_listed nodes o) (ne_eqb o.level 0 (λ e. omega arith)) ∙ outer in
    ap Coarse (number ∙ ap (λ (v : Loc). or_zero (number_in leaves v)) is)
    ∙ sym (ap (λ (v : Option ℕ). entry_of_numbered nodes leaves s o axis high v) none
    ∙ ap (λ (b : Bool). cond b (Fine (quartet_of leaves s.dims o axis (not high))) (Coarse (or_zero (number_in leaves (parent s.dims o))))) off)

-- the step of a loop that lists pieces
pub pieces_step : {X Y : Type 0} (f : X → List Y) (now next all : List Y) (xs : List X) (i : ℕ) (x : X) → now ++ flat_map f (drop i xs) ≡ all → slice_get xs i ≡ Some x → next ≡ now ++ f x → next ++ flat_map f (drop (i + 1) xs) ≡ all
pieces_step {X} {Y} f now next all xs i x h at is =
    ap (λ (v : List Y). v ++ flat_map f (drop (i + 1) xs)) is
    ∙ append_assoc now (f x) (flat_map f (drop (i + 1) xs))
    ∙ sym (ap (λ (v : List X). now ++ flat_map f v) (drop_at xs i x at))
    ∙ h

-- past its end nothing is left of a list
pub drop_all : {X : Type 0} (xs : List X) (i : ℕ) → length xs ≤ i → drop i xs ≡ []
drop_all [] zero h = refl
drop_all [] (suc i) h = refl
drop_all (x ∷ xs) zero h = absurd (omega arith)
drop_all (x ∷ xs) (suc i) h = drop_all xs i (omega arith)

pub pieces_end : {X Y : Type 0} (f : X → List Y) (now all : List Y) (xs : List X) (i : ℕ) → length xs ≤ i → now ++ flat_map f (drop i xs) ≡ all → now ≡ all
pieces_end {X} {Y} f now all xs i past h = sym (append_nil now) ∙ sym (ap (λ (v : List X). now ++ flat_map f v) (drop_all xs i past)) ∙ h

-- a root that is read is in the domain, and on the coarsest level
pub root_read : (s : Shape) (i : ℕ) (r : Loc) → slice_get (roots s) i ≡ Some r → IsRoot s r
unfolding roots
root_read s i r h = each_listed (IsRoot s) r (roots_in 16 s 0 0 0) (each_root 16 s 0 0 0) (listed_read (roots_in 16 s 0 0 0) i r h)

pub root_at : (s : Shape) (rs : List Loc) (i : ℕ) (d : Loc) → rs ≡ roots s → i < length rs → IsRoot s (slice_index_or rs i d)
root_at s rs i d is less = root_read s i (slice_index_or rs i d) (subst (λ (v : List Loc). slice_get v i ≡ Some (slice_index_or rs i d)) is (slice_get-get_or rs i d less))

-- what holds on one side of a test
pub on_true : (P Q : Type 0) (b : Bool) → b ≡ true → MatchBool b P Q → P
on_true P Q true e h = h
on_true P Q false e h = absurd (false≢true e)

pub on_false : (P Q : Type 0) (b : Bool) → b ≡ false → MatchBool b P Q → Q
on_false P Q true e h = absurd (false≢true (sym e))
on_false P Q false e h = h

pub roots_true : (s : Shape) (b : Bool) (before after : List Loc) → before ≡ [] → b ≡ true → MatchBool b (after ≡ before ++ roots_in 16 s 0 0 0) (65536 < length (before ++ roots_in 16 s 0 0 0)) → after ≡ roots s
unfolding roots
roots_true s b before after e is h = on_true _ _ b is h ∙ ap (λ (v : List Loc). v ++ roots_in 16 s 0 0 0) e

pub roots_false : (s : Shape) (b : Bool) (before after : List Loc) → before ≡ [] → b ≡ false → MatchBool b (after ≡ before ++ roots_in 16 s 0 0 0) (65536 < length (before ++ roots_in 16 s 0 0 0)) → 65536 < length (roots s)
unfolding roots
roots_false s b before after e is h = subst (λ (v : List Loc). 65536 < length (v ++ roots_in 16 s 0 0 0)) e (on_false _ _ b is h)

pub on_none : {X : Type 0} (P : Type 0) (o : Option X) → o ≡ None → IfNone o P → P
on_none P None e h = h
on_none P (Some x) e h = absurd (some_is_not x e)
  where
    some_is_not : {Z : Type 0} (z : Z) → Some z ≡ None → ⊥
    some_is_not z h = cc
