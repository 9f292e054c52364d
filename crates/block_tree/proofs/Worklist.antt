-- The worklist finds the least balanced tree.
use Rattle.std.proofs.Common.{◌≡◌, ◌⊎◌, inl, inr, ℕ, zero, suc, ◌+◌, ◌<◌, ◌≤◌, Bool, true, false, cond, nat_eq, nat_le, List, [], ◌∷◌, ◌++◌, Some, None, length, refl, arith, ap, subst, sym, ◌∙◌}
use Rattle.std.specs.List.{slice_get}
use Rattle.std.specs.Bool.{MatchBool}
use Rattle.std.proofs.lemmas.Bool.{cases_eq, cases_order, eqb-true, false≢true, leb-true, le-leb}
use Rattle.std.proofs.lemmas.Option.{slice_get_within}
use Rattle.morton_order.specs.declared.space.Loc.{Loc}
use Rattle.morton_order.specs.declared.space.Shape.{Shape}
use Rattle.morton_order.specs.Space.{IsIn, IsShape, parent, same_loc}
use Rattle.morton_order.specs.Neighbours.{AreNeighbours}
use Rattle.morton_order.proofs.Any.{or_cases, or_left, or_right}
use Rattle.morton_order.proofs.Family.{parent_inside}
use Rattle.morton_order.proofs.Touching.{same_loc-is, same_loc-self, touching_self}
use Rattle.block_tree.specs.Tree.{is_listed, is_node}
use Rattle.block_tree.specs.Nodes.{with_node}
use Rattle.block_tree.specs.Around.{with_parent, with_parents}
use Rattle.block_tree.specs.Least.{HoldsWanted, IsLeast, around}
use Rattle.block_tree.specs.Worklist.{AreRoomy, IsGrown}
use Rattle.block_tree.proofs.Ancestors.{node_parent, parent_node, root_node}
use Rattle.block_tree.proofs.Forced.{around-found, around-has}
use Rattle.block_tree.proofs.KeyOrder.{any_append_left, any_append_right}

-- one list begins with another
pub record Extends (xs ys : List Loc) : Type 0 where
  pub listed : (l : Loc) → is_listed xs l ≡ true → is_listed ys l ≡ true
  reads : (k : ℕ) → k < length xs → slice_get ys k ≡ slice_get xs k
  longer : length xs ≤ length ys

extends_self : (xs : List Loc) → Extends xs xs
extends_self xs = record { listed = λ l h. h; reads = λ k h. refl; longer = omega arith }

extends_more : (xs ys zs : List Loc) → Extends xs ys → Extends ys zs → Extends xs zs
extends_more xs ys zs a b = let p = a.longer in let q = b.longer in record {
  listed = λ l h. b.listed l (a.listed l h);
  reads = λ k h. b.reads k (omega arith) ∙ a.reads k h;
  longer = omega arith;
}

reads_append : (xs ys : List Loc) (k : ℕ) → k < length xs → slice_get (xs ++ ys) k ≡ slice_get xs k
reads_append [] ys k h = absurd (omega arith)
reads_append (x ∷ xs) ys zero h = refl
reads_append (x ∷ xs) ys (suc k) h = reads_append xs ys k (omega arith)

length_more : (xs : List Loc) (x : Loc) → length (xs ++ x ∷ []) ≡ length xs + 1
length_more [] x = omega arith
length_more (y ∷ xs) x = let h = length_more xs x in omega arith

pub with_node_by : (ls : List Loc) (l : Loc) (b : Bool) → is_listed ls l ≡ b → Extends ls (cond b ls (ls ++ l ∷ [])) × (is_listed (cond b ls (ls ++ l ∷ [])) l ≡ true)
with_node_by ls l true e = (extends_self ls, e)
with_node_by ls l false e = (
  record { listed = λ m h. any_append_left (same_loc m) ls (l ∷ []) h; reads = λ k h. reads_append ls (l ∷ []) k h; longer = let e = length_more ls l in omega arith },
  any_append_right (same_loc l) ls (l ∷ []) (or_left (same_loc l l) false (same_loc-self l)),
)

-- what is listed then was listed before, or is the new one
pub new_by : (ls : List Loc) (l m : Loc) (b : Bool) → is_listed (cond b ls (ls ++ l ∷ [])) m ≡ true → (is_listed ls m ≡ true) ⊎ (m ≡ l)
new_by ls l m true h = inl h
new_by ls l m false h = split ls h
  where
    split : (xs : List Loc) → is_listed (xs ++ l ∷ []) m ≡ true → (is_listed xs m ≡ true) ⊎ (m ≡ l)
    split [] h = elim (or_cases (same_loc m l) false h) [ inl is ↦ inr (same_loc-is m l is) | inr no_more ↦ absurd (false≢true no_more) ]
    split (x ∷ xs) h = elim (or_cases (same_loc m x) (is_listed (xs ++ l ∷ []) m) h) [
      | inl is ↦ inl (or_left (same_loc m x) (is_listed xs m) is)
      | inr later ↦ elim (split xs later) [ inl among ↦ inl (or_right (same_loc m x) (is_listed xs m) among) | inr is ↦ inr is ]
    ]

-- a location with its parent among the nodes
record Added (s : Shape) (wanted : Loc → Bool) (ls ms : List Loc) (done : ℕ) : Type 0 where
  grown : IsGrown s wanted ms done
  extends : Extends ls ms

-- a node of a set is one of a longer set
node_more : (s : Shape) (xs ys : List Loc) (m : Loc) → Extends xs ys → is_node s (is_listed xs) m ≡ true → is_node s (is_listed ys) m ≡ true
node_more s xs ys m more h = elim (or_cases (nat_eq m.level 0) (is_listed xs (parent s.dims m)) h) [
  | inl root ↦ or_left (nat_eq m.level 0) (is_listed ys (parent s.dims m)) root
  | inr inner ↦ or_right (nat_eq m.level 0) (is_listed ys (parent s.dims m)) (more.listed (parent s.dims m) inner)
]

added_node : (s : Shape) (wanted : Loc → Bool) (ls : List Loc) (done : ℕ) (p : Loc) → IsGrown s wanted ls done → IsIn s p → p.level < 10 → ((other : Loc → Bool) → HoldsWanted s wanted other → other p ≡ true) → Added s wanted ls (with_node ls p) done × (is_listed (with_node ls p) p ≡ true)
added_node s wanted ls done p g inside room always =
    let w = with_node_by ls p (is_listed ls p) refl in
    let more = w.0 in
    let longer = more.longer in
    let count = g.count in (
      record {
        grown = record {
          roomy = λ l h. elim (new_by ls p l (is_listed ls p) h) [ inl old ↦ g.roomy l old | inr is ↦ subst (λ (v : Loc). IsIn s v × (v.level < 10)) (sym is) (inside, room) ];
          holds = λ l h. more.listed l (g.holds l h);
          forced = λ other held l h. elim (new_by ls p l (is_listed ls p) h) [ inl old ↦ g.forced other held l old | inr is ↦ subst (λ (v : Loc). other v ≡ true) (sym is) (always other held) ];
          count = omega arith;
          nodes = λ k l less at m there near. node_more s ls (with_node ls p) m more (g.nodes k l less (sym (more.reads k (omega arith)) ∙ at) m there near);
        };
        extends = more;
      },
      w.1,
    )

-- the parent of a location that every balanced tree has as a node
added_parent_by : (s : Shape) (wanted : Loc → Bool) (ls : List Loc) (done : ℕ) (m : Loc) → IsGrown s wanted ls done → IsIn s m → ((other : Loc → Bool) → HoldsWanted s wanted other → is_node s other m ≡ true) → (b : Bool) → nat_eq m.level 0 ≡ b → Added s wanted ls (cond b ls (with_node ls (parent s.dims m))) done × (is_node s (is_listed (cond b ls (with_node ls (parent s.dims m)))) m ≡ true)
added_parent_by s wanted ls done m g inside always true e = (record { grown = g; extends = extends_self ls }, root_node s (is_listed ls) m (eqb-true m.level 0 e))
added_parent_by s wanted ls done m g inside always false e =
    let fine : 1 ≤ m.level = elim (cases_eq m.level 0) [ inl zero_level ↦ absurd (false≢true (sym e ∙ ap (λ v. nat_eq v 0) zero_level)) | inr other ↦ omega arith ] in
    let level = inside.level in
    let a = added_node s wanted ls done (parent s.dims m) g (parent_inside s m inside fine) (omega arith) (λ other held. node_parent s other m fine (always other held)) in
    (a.0, parent_node s (is_listed (with_node ls (parent s.dims m))) m a.1)

added_parent : (s : Shape) (wanted : Loc → Bool) (ls : List Loc) (done : ℕ) (m : Loc) → IsGrown s wanted ls done → IsIn s m → ((other : Loc → Bool) → HoldsWanted s wanted other → is_node s other m ≡ true) → Added s wanted ls (with_parent s.dims ls m) done × (is_node s (is_listed (with_parent s.dims ls m)) m ≡ true)
added_parent s wanted ls done m g inside always = added_parent_by s wanted ls done m g inside always (nat_eq m.level 0) refl

-- all of a list of locations with their parents
record AllAdded (s : Shape) (wanted : Loc → Bool) (ls ms xs : List Loc) (done : ℕ) : Type 0 where
  added : Added s wanted ls ms done
  nodes : (m : Loc) → is_listed xs m ≡ true → is_node s (is_listed ms) m ≡ true

record Always (s : Shape) (wanted : Loc → Bool) (m : Loc) : Type 0 where
  inside : IsIn s m
  node : (other : Loc → Bool) → HoldsWanted s wanted other → is_node s other m ≡ true

added_parents : (s : Shape) (wanted : Loc → Bool) (ls : List Loc) (done : ℕ) (xs : List Loc) → IsGrown s wanted ls done → ((m : Loc) → is_listed xs m ≡ true → Always s wanted m) → AllAdded s wanted ls (with_parents s.dims ls xs) xs done
added_parents s wanted ls done [] g each = record { added = record { grown = g; extends = extends_self ls }; nodes = λ m h. absurd (false≢true h) }
added_parents s wanted ls done (x ∷ xs) g each =
    let here = each x (or_left (same_loc x x) (is_listed xs x) (same_loc-self x)) in
    let a = added_parent s wanted ls done x g here.inside here.node in
    let one : List Loc = with_parent s.dims ls x in
    let rest = added_parents s wanted one done xs a.0.grown (λ m h. each m (or_right (same_loc m x) (is_listed xs m) h)) in
    record {
      added = record { grown = rest.added.grown; extends = extends_more ls one (with_parents s.dims one xs) a.0.extends rest.added.extends };
      nodes = λ m h. elim (or_cases (same_loc m x) (is_listed xs m) h) [
        | inl is ↦ subst (λ (v : Loc). is_node s (is_listed (with_parents s.dims one xs)) v ≡ true) (sym (same_loc-is m x is)) (node_more s one (with_parents s.dims one xs) x rest.added.extends a.1)
        | inr later ↦ rest.nodes m later
      ];
    }

-- what is read from a list is listed
pub listed_read : (xs : List Loc) (k : ℕ) (l : Loc) → slice_get xs k ≡ Some l → is_listed xs l ≡ true
listed_read [] k l h = absurd (none_is_not l h)
  where
    none_is_not : {Z : Type 0} (z : Z) → None ≡ Some z → ⊥
    none_is_not z h = cc
listed_read (x ∷ xs) zero l h = or_left (same_loc l x) (is_listed xs l) (ap (same_loc l) (some_is x l h) ∙ same_loc-self l)
  where
    some_is : {Z : Type 0} (a b : Z) → Some a ≡ Some b → a ≡ b
    some_is a b h = cc
listed_read (x ∷ xs) (suc k) l h = or_right (same_loc l x) (is_listed xs l) (listed_read xs k l h)

-- what is listed is read somewhere
pub read_listed : (xs : List Loc) (l : Loc) → is_listed xs l ≡ true → (k : ℕ) × (k < length xs) × (slice_get xs k ≡ Some l)
read_listed [] l h = absurd (false≢true h)
read_listed (x ∷ xs) l h = elim (or_cases (same_loc l x) (is_listed xs l) h) [
  | inl is ↦ (0, omega arith, ap Some (sym (same_loc-is l x is)))
  | inr later ↦ let (k, less, at) = read_listed xs l later in (suc k, omega arith, at)
]

-- a turn of the worklist
pub grown_turn : (s : Shape) (wanted : Loc → Bool) (ls ms : List Loc) (done : ℕ) (l : Loc) → IsShape s → IsGrown s wanted ls done → slice_get ls done ≡ Some l → ms ≡ with_parents s.dims ls (around s l) → IsGrown s wanted ms (done + 1)
grown_turn s wanted ls ms done l shape g at is = subst (λ (v : List Loc). IsGrown s wanted v (done + 1)) (sym is) turned
  where
    here : is_listed ls l ≡ true
    here = listed_read ls done l at

    inside : IsIn s l
    inside = (g.roomy l here).0

    each : (m : Loc) → is_listed (around s l) m ≡ true → Always s wanted m
    each m h = let (x, there, near, same) = around-found s l (same_loc m) inside h in
        subst (λ (v : Loc). Always s wanted v) (sym (same_loc-is m x same)) (record { inside = there; node = λ other held. held.balanced l x (g.forced other held l here) there near })

    turned : IsGrown s wanted (with_parents s.dims ls (around s l)) (done + 1)
    turned =
        let a = added_parents s wanted ls done (around s l) g each in
        let b = a.added.grown in
        let more = a.added.extends in
        let within : done < length ls = slice_get_within ls done l at in
        let longer = more.longer in
        record {
          roomy = b.roomy;
          holds = b.holds;
          forced = b.forced;
          count = omega arith;
          nodes = λ k x less read m there near. elim (cases_eq k done) [
            | inl e ↦ let is : x ≡ l = some_is x l (sym read ∙ more.reads k (omega arith) ∙ ap (slice_get ls) e ∙ at) in
                a.nodes m (around-has s l m (same_loc m) shape inside there (subst (λ (v : Loc). AreNeighbours s v m) is near) (same_loc-self m))
            | inr other ↦ b.nodes k x (omega arith) read m there near
          ];
        }
      where
        some_is : (a b : Loc) → Some a ≡ Some b → a ≡ b
        some_is a b h = cc

-- at the start
pub grown_start : (s : Shape) (ls : List Loc) → AreRoomy s ls → IsGrown s (is_listed ls) ls 0
grown_start s ls roomy = record {
  roomy = roomy;
  holds = λ l h. h;
  forced = λ other held l h. held.holds l h;
  count = omega arith;
  nodes = λ k l less at m there near. absurd (omega arith);
}

-- at the end
pub grown_end : (s : Shape) (wanted : Loc → Bool) (ls : List Loc) (done : ℕ) → IsGrown s wanted ls done → length ls ≤ done → IsLeast s wanted (is_listed ls)
grown_end s wanted ls done g all = record {
  one_of = record {
    tree = record {
      inside = λ l h. (g.roomy l h).0;
      above_finest = λ l h. (g.roomy l h).1;
      closed = λ l h fine. node_parent s (is_listed ls) l fine (near_node l l h (g.roomy l h).0 (touching_self s l));
    };
    balanced = λ l m h there near. near_node l m h there near;
    holds = g.holds;
  };
  within = g.forced;
}
  where
    near_node : (l m : Loc) → is_listed ls l ≡ true → IsIn s m → AreNeighbours s l m → is_node s (is_listed ls) m ≡ true
    near_node l m h there near = let (k, less, at) = read_listed ls l h in g.nodes k l (omega arith) at m there near

-- a location that is read from a set has its room
pub read_inside : (s : Shape) (wanted : Loc → Bool) (ls : List Loc) (done k : ℕ) (l : Loc) → IsGrown s wanted ls done → Some l ≡ slice_get ls k → IsIn s l
read_inside s wanted ls done k l g at = (g.roomy l (listed_read ls k l (sym at))).0

-- past the end nothing is read
pub past_end : (xs : List Loc) (k : ℕ) → None ≡ slice_get xs k → length xs ≤ k
past_end [] k h = omega arith
past_end (x ∷ xs) zero h = absurd (none_is_not x h)
  where
    none_is_not : {Z : Type 0} (z : Z) → None ≡ Some z → ⊥
    none_is_not z h = cc
past_end (x ∷ xs) (suc k) h = let r = past_end xs k h in omega arith

-- the answer of the worklist
pub grown_answer : (s : Shape) (wanted : Loc → Bool) (ls : List Loc) (done most len : ℕ) → IsGrown s wanted ls done → len ≡ length ls → (length ls ≤ done) ⊎ (most ≤ done) → MatchBool (nat_le len most) (IsLeast s wanted (is_listed ls)) (most < length ls)
grown_answer s wanted ls done most len g same stop = by (nat_le len most) refl
  where
    by : (b : Bool) → nat_le len most ≡ b → MatchBool b (IsLeast s wanted (is_listed ls)) (most < length ls)
    by true e = let few : len ≤ most = leb-true len most e in grown_end s wanted ls done g (elim stop [ inl all ↦ all | inr last ↦ omega arith ])
    by false e = elim (cases_order len most) [
      | inl is ↦ absurd (false≢true (sym e ∙ le-leb len most (omega arith)))
      | inr other ↦ elim other [ inl less ↦ absurd (false≢true (sym e ∙ le-leb len most (omega arith))) | inr more ↦ omega arith ]
    ]
