-- What is behind a side, by the numbers of leaves.
use Rattle.std.proofs.Common.{◌≡◌, ℕ, zero, suc, Bool, true, false, cond, not, Option, Some, None, List, [], ◌∷◌, map, length, refl, ap, subst, sym, ◌∙◌}
use Rattle.std.specs.List.{position_or_len, slice_get}
use Rattle.std.specs.Option.{option_and_then, option_map}
use Rattle.std.proofs.lemmas.Option.{slice_get-get_or}
use Rattle.morton_order.specs.declared.space.Loc.{Loc}
use Rattle.morton_order.specs.declared.space.Shape.{Shape}
use Rattle.morton_order.specs.Space.{child, parent, same_loc}
use Rattle.block_tree.specs.declared.neighbour.Behind.{Behind as Answer}
use Rattle.block_tree.specs.declared.neighbour.Behind.TheVariants.{Outside, Same, Coarse, Fine}
use Rattle.block_tree.specs.Behind.{behind_at, children_at, coarse, fine, same}
use Rattle.block_tree.specs.Tree.{is_listed, is_node}
use Rattle.block_tree.proofs.Numbers.{number_is}
use Rattle.mesh_laws.proofs.StoredCells.{listed_number}
use Rattle.block_tree.specs.Nodes.{number_in}
use Rattle.block_tree.specs.Numbered.{numbered, numbers_in}

some_is : {X : Type 0} (a b : X) → ◌≡◌ {A = Option X} (Some a) (Some b) → a ≡ b
some_is a b e = cc

mapped_is : {X Y : Type 0} (g : X → Y) (o : Option X) (y : Y) → option_map g o ≡ Some y → (x : X) × (o ≡ Some x) × (g x ≡ y)
mapped_is g None y e = absurd (wrong y e)
  where
    wrong : {Y : Type 0} (y : Y) → ◌≡◌ {A = Option Y} None (Some y) → ⊥
    wrong y e = cc
mapped_is g (Some x) y e = (x, refl, same (g x) y e)
  where
    same : {Y : Type 0} (a b : Y) → ◌≡◌ {A = Option Y} (Some a) (Some b) → a ≡ b
    same a b e = cc

fine_is_not : (ns : List ℕ) → Fine ns ≡ Outside → ⊥
fine_is_not ns e = cc

same_is_not : (n : ℕ) → Same n ≡ Outside → ⊥
same_is_not n e = cc

coarse_is_not : (n : ℕ) → Coarse n ≡ Outside → ⊥
coarse_is_not n e = cc

-- nothing is behind a side only where nothing lies across it
pub outside_is_none : (s : Shape) (inner : Loc → Bool) (leaves : List Loc) (axis : ℕ) (high : Bool) (o : Option Loc) → numbered leaves (behind_at s inner axis high o) ≡ Some Outside → o ≡ None
outside_is_none s inner leaves axis high None e = refl
outside_is_none s inner leaves axis high (Some o) e = absurd (by (inner o) (is_node s inner o) e)
  where
    by : (a b : Bool) → numbered leaves (cond a (fine (map (child s.dims o) (children_at s.dims axis (not high)))) (cond b (same o) (coarse (parent s.dims o)))) ≡ Some Outside → ⊥
    by true b e = let r = mapped_is Fine (numbers_in leaves (map (child s.dims o) (children_at s.dims axis (not high)))) Outside e in fine_is_not r.0 r.2
    by false true e = let r = mapped_is Same (number_in leaves o) Outside e in same_is_not r.0 r.2
    by false false e = let r = mapped_is Coarse (number_in leaves (parent s.dims o)) Outside e in coarse_is_not r.0 r.2

-- the finer leaves behind a side are the children next to it of an inner node across
pub record FineBehind (leaves : List Loc) (s : Shape) (inner : Loc → Bool) (axis : ℕ) (high : Bool) (v : Option Loc) (ns : List ℕ) : Type 0 where
  pub o : Loc
  pub meets : v ≡ Some o
  pub inside : inner o ≡ true
  pub numbers : numbers_in leaves (map (child s.dims o) (children_at s.dims axis (not high))) ≡ Some ns

fine_same : (a b : List ℕ) → Fine a ≡ Fine b → a ≡ b
fine_same a b e = cc

not_fine : (n : ℕ) (ns : List ℕ) → Same n ≡ Fine ns → ⊥
not_fine n ns e = cc

not_fine' : (n : ℕ) (ns : List ℕ) → Coarse n ≡ Fine ns → ⊥
not_fine' n ns e = cc

outside_not_fine : (ns : List ℕ) → ◌≡◌ {A = Option Answer} (Some Outside) (Some (Fine ns)) → ⊥
outside_not_fine ns e = cc

pub fine_is : (s : Shape) (inner : Loc → Bool) (leaves : List Loc) (axis : ℕ) (high : Bool) (v : Option Loc) (ns : List ℕ) → numbered leaves (behind_at s inner axis high v) ≡ Some (Fine ns) → FineBehind leaves s inner axis high v ns
fine_is s inner leaves axis high None ns e = absurd (outside_not_fine ns e)
fine_is s inner leaves axis high (Some o) ns e = by (inner o) (is_node s inner o) refl e
  where
    by : (a b : Bool) → inner o ≡ a → numbered leaves (cond a (fine (map (child s.dims o) (children_at s.dims axis (not high)))) (cond b (same o) (coarse (parent s.dims o)))) ≡ Some (Fine ns) → FineBehind leaves s inner axis high (Some o) ns
    by true b i e =
        let r = mapped_is Fine (numbers_in leaves (map (child s.dims o) (children_at s.dims axis (not high)))) (Fine ns) e in
        record { o = o; meets = refl; inside = i; numbers = r.1 ∙ ap (λ (x : List ℕ). Some x) (fine_same r.0 ns r.2) }
    by false true i e = let r = mapped_is Same (number_in leaves o) (Fine ns) e in absurd (not_fine r.0 ns r.2)
    by false false i e = let r = mapped_is Coarse (number_in leaves (parent s.dims o)) (Fine ns) e in absurd (not_fine' r.0 ns r.2)

-- where an inner node lies across, finer leaves are behind the side
pub inner_is_fine : (s : Shape) (inner : Loc → Bool) (leaves : List Loc) (axis : ℕ) (high : Bool) (o : Loc) (a : Answer) → inner o ≡ true → numbered leaves (behind_at s inner axis high (Some o)) ≡ Some a → (ns : List ℕ) × (a ≡ Fine ns)
inner_is_fine s inner leaves axis high o a i e =
    let os : List Loc = map (child s.dims o) (children_at s.dims axis (not high)) in
    let f : option_map Fine (numbers_in leaves os) ≡ Some a = sym (ap (λ (t : Bool). numbered leaves (cond t (fine os) (cond (is_node s inner o) (same o) (coarse (parent s.dims o))))) i) ∙ e in
    let r = mapped_is Fine (numbers_in leaves os) a f in
    (r.0, sym r.2)

-- the numbers one by one
pub record NumberAt (leaves os : List Loc) (k n : ℕ) : Type 0 where
  pub at : Loc
  pub is : slice_get os k ≡ Some at
  pub number : number_in leaves at ≡ Some n

none_is_not : (ns : List ℕ) → ◌≡◌ {A = Option (List ℕ)} None (Some ns) → ⊥
none_is_not ns e = cc

no_item : (k n : ℕ) → slice_get [] k ≡ Some n → ⊥
no_item k n e = cc

first_or_next : (leaves : List Loc) (o : Loc) (os : List Loc) (x : ℕ) (ms : List ℕ) (k n : ℕ) → number_in leaves o ≡ Some x → ((k : ℕ) → slice_get ms k ≡ Some n → NumberAt leaves os k n) → slice_get (x ∷ ms) k ≡ Some n → NumberAt leaves (o ∷ os) k n
first_or_next leaves o os x ms zero n h next get = record { at = o; is = refl; number = h ∙ get }
first_or_next leaves o os x ms (suc k) n h next get = let s = next k get in record { at = s.at; is = s.is; number = s.number }

numbers_step : (leaves : List Loc) (o : Loc) (os : List Loc) (ns : List ℕ) (k n : ℕ) (v : Option ℕ) → number_in leaves o ≡ v → option_and_then (λ x. option_map (λ (xs : List ℕ). x ∷ xs) (numbers_in leaves os)) v ≡ Some ns → slice_get ns k ≡ Some n →
    ((ms : List ℕ) (k : ℕ) → numbers_in leaves os ≡ Some ms → slice_get ms k ≡ Some n → NumberAt leaves os k n) → NumberAt leaves (o ∷ os) k n
numbers_step leaves o os ns k n None h e get next = absurd (none_is_not ns e)
numbers_step leaves o os ns k n (Some x) h e get next =
    let r = mapped_is (λ (xs : List ℕ). x ∷ xs) (numbers_in leaves os) ns e in
    first_or_next leaves o os x r.0 k n h (λ k get. next r.0 k r.1 get) (ap (λ (xs : List ℕ). slice_get xs k) r.2 ∙ get)

pub numbers_at : (leaves os : List Loc) (ns : List ℕ) (k n : ℕ) → numbers_in leaves os ≡ Some ns → slice_get ns k ≡ Some n → NumberAt leaves os k n
numbers_at leaves [] ns k n e get = absurd (no_item k n (ap (λ (x : List ℕ). slice_get x k) (some_is [] ns e) ∙ get))
numbers_at leaves (o ∷ os) ns k n e get = numbers_step leaves o os ns k n (number_in leaves o) refl e get (λ ms k e get. numbers_at leaves os ms k n e get)

length_step : (leaves : List Loc) (o : Loc) (os : List Loc) (ns : List ℕ) (v : Option ℕ) → option_and_then (λ x. option_map (λ (xs : List ℕ). x ∷ xs) (numbers_in leaves os)) v ≡ Some ns → ((ms : List ℕ) → numbers_in leaves os ≡ Some ms → length ms ≡ length os) → length ns ≡ length (o ∷ os)
length_step leaves o os ns None e next = absurd (none_is_not ns e)
length_step leaves o os ns (Some x) e next =
    let r = mapped_is (λ (xs : List ℕ). x ∷ xs) (numbers_in leaves os) ns e in
    let l : length r.0 ≡ length os = next r.0 r.1 in
    ap (λ (xs : List ℕ). length xs) (sym r.2) ∙ ap suc l

pub numbers_length : (leaves os : List Loc) (ns : List ℕ) → numbers_in leaves os ≡ Some ns → length ns ≡ length os
numbers_length leaves [] ns e = ap (λ (x : List ℕ). length x) (sym (some_is [] ns e))
numbers_length leaves (o ∷ os) ns e = length_step leaves o os ns (number_in leaves o) e (λ ms f. numbers_length leaves os ms f)

-- a number among the leaves
pub number_leaf : (leaves : List Loc) (l : Loc) (n : ℕ) → number_in leaves l ≡ Some n → (slice_get leaves n ≡ Some l) × (position_or_len (same_loc l) leaves ≡ n)
number_leaf leaves l n e = by (is_listed leaves l) refl (sym (number_is leaves l) ∙ e)
  where
    no_number : (n : ℕ) → ◌≡◌ {A = Option ℕ} None (Some n) → ⊥
    no_number n e = cc

    by : (b : Bool) → is_listed leaves l ≡ b → cond b (Some (position_or_len (same_loc l) leaves)) None ≡ Some n → (slice_get leaves n ≡ Some l) × (position_or_len (same_loc l) leaves ≡ n)
    by true h e =
        let at : position_or_len (same_loc l) leaves ≡ n = some_is (position_or_len (same_loc l) leaves) n e in
        let read = listed_number l leaves h in
        (subst (λ k. slice_get leaves k ≡ Some l) at (slice_get-get_or leaves (position_or_len (same_loc l) leaves) l read.small ∙ ap (λ (x : Loc). Some x) read.is), at)
    by false h e = absurd (no_number n e)
