-- The steps that put wanted nodes into a set.
use Rattle.std.proofs.Common.{◌≡◌, ◌⊎◌, inl, inr, ℕ, ◌+◌, ◌-◌, ◌<◌, ◌≤◌, Bool, true, false, List, [], ◌∷◌, ◌++◌, drop, length, refl, arith, ap, sym, ◌∙◌}
use Rattle.std.specs.List.{flat_map, range_with_len, slice_index_or}
use Rattle.std.proofs.lemmas.Option.{slice_get-get_or}
use Rattle.morton_order.specs.declared.space.Loc.{Loc}
use Rattle.morton_order.specs.Space.{child, parts}
use Rattle.block_tree.specs.Tree.{is_listed}
use Rattle.block_tree.specs.Leaves.{inner_below}
use Rattle.block_tree.specs.Nodes.{with_node, with_nodes}
use Rattle.block_tree.specs.Worklist.{AddsOnly}
use Rattle.block_tree.proofs.Filling.{drop_all}
use Rattle.block_tree.proofs.Lists.{drop_at}
use Rattle.block_tree.proofs.Growing.{below_inner, below_leaf, flat_split}
use Rattle.block_tree.proofs.Worklist.{new_by}

pub with_append : (ls xs ys : List Loc) → with_nodes ls (xs ++ ys) ≡ with_nodes (with_nodes ls xs) ys
with_append ls [] ys = refl
with_append ls (x ∷ xs) ys = with_append (with_node ls x) xs ys

pub wanted_none : (k dims : ℕ) (test : Loc → Bool) (at : Loc) (old : List Loc) → (k ≡ 0) ⊎ (test at ≡ false) → old ≡ with_nodes old (inner_below k dims test at)
wanted_none k dims test at old h = sym (ap (with_nodes old) (below_leaf k dims test at h).1)

pub wanted_deep : (k dims : ℕ) (test : Loc → Bool) (at : Loc) (old : List Loc) → 1 ≤ k → test at ≡ true →
    with_nodes old (inner_below k dims test at) ≡ with_nodes (with_node old at) (flat_map (λ j. inner_below (k - 1) dims test (child dims at j)) (range_with_len 0 (parts dims)))
wanted_deep k dims test at old some h = ap (with_nodes old) (below_inner k dims test at some h).1

pub wanted_step : (f : ℕ → List Loc) (now next all : List Loc) (j n : ℕ) → j < n → with_nodes now (flat_map f (range_with_len j (n - j))) ≡ all → next ≡ with_nodes now (f j) → with_nodes next (flat_map f (range_with_len (j + 1) (n - (j + 1)))) ≡ all
wanted_step f now next all j n less h is =
    let rest : List Loc = flat_map f (range_with_len (j + 1) (n - (j + 1))) in
    ap (λ (v : List Loc). with_nodes v rest) is ∙ sym (with_append now (f j) rest) ∙ sym (ap (with_nodes now) (flat_split f j n less)) ∙ h

pub wanted_end : (f : ℕ → List Loc) (now all : List Loc) (j n : ℕ) → n ≤ j → with_nodes now (flat_map f (range_with_len j (n - j))) ≡ all → now ≡ all
wanted_end f now all j n past h = let e : n - j ≡ 0 = omega arith in sym (ap (λ v. with_nodes now (flat_map f (range_with_len j v))) e) ∙ h

pub adds_more : (test : Loc → Bool) (a b c : List Loc) → AddsOnly test a b → AddsOnly test b c → AddsOnly test a c
adds_more test a b c h k l there = elim (k l there) [ inl before ↦ h l before | inr new ↦ inr new ]

pub adds_node : (test : Loc → Bool) (a : List Loc) (m : Loc) → test m ≡ true → AddsOnly test a (with_node a m)
adds_node test a m h l there = elim (new_by a m l (is_listed a m) there) [ inl old ↦ inl old | inr is ↦ inr (ap test is ∙ h) ]

-- the step of the loop over the roots
pub all_step : (f : Loc → List Loc) (now next all xs : List Loc) (i : ℕ) (d : Loc) → with_nodes now (flat_map f (drop i xs)) ≡ all → i < length xs → next ≡ with_nodes now (f (slice_index_or xs i d)) → with_nodes next (flat_map f (drop (i + 1) xs)) ≡ all
all_step f now next all xs i d h less is =
    let rest : List Loc = flat_map f (drop (i + 1) xs) in
    ap (λ (v : List Loc). with_nodes v rest) is
    ∙ sym (with_append now (f (slice_index_or xs i d)) rest)
    ∙ sym (ap (λ (v : List Loc). with_nodes now (flat_map f v)) (drop_at xs i (slice_index_or xs i d) (slice_get-get_or xs i d less)))
    ∙ h

pub all_end : (f : Loc → List Loc) (now all xs : List Loc) (i : ℕ) → length xs ≤ i → with_nodes now (flat_map f (drop i xs)) ≡ all → now ≡ all
all_end f now all xs i past h = sym (ap (λ (v : List Loc). with_nodes now (flat_map f v)) (drop_all xs i past)) ∙ h
