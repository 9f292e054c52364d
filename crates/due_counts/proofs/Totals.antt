-- All letters of a stage, by the lists to which they go.
use Rattle.std.proofs.Common.{◌≡◌, ◌==◌, ℕ, ◌+◌, Bool, true, false, cond, not, List, [], ◌∷◌, ◌++◌, length, map, count_by, refl, arith, ap, sym, ◌∙◌}
use Rattle.std.specs.List.{enumerate_from, flat_map, position_or_len, range_with_len, slice_index_or}
use Rattle.std.proofs.lemmas.List.{map-append, length-map}
use Rattle.std.proofs.lemmas.List.Folds.{flat_map-map}
use Rattle.std.proofs.lemmas.List.Sums.{sum_by-cons}
use Rattle.std.proofs.lemmas.List.FromFn.{get_or-map-range_with_len, length-map-range_with_len, map-range_with_len_more}
use Rattle.std.proofs.lemmas.List.{ext_get_or}
use Rattle.std.proofs.lemmas.Grind.{flat_map-append}
use Rattle.std.proofs.lemmas.List.{append-nil}
use Rattle.morton_order.specs.declared.space.Loc.{Loc}
use Rattle.morton_order.specs.Space.{same_loc}
use Rattle.morton_order.proofs.Lists.{range_more}
use Rattle.block_tree.specs.Behind.{Behind, behind}
use Rattle.block_tree.specs.Blocks.{TreeOfBlocks, is_inner_of, leaves}
use Rattle.mesh_rules.specs.Due.{Exchange, all_letters, letters_across, letters_of}
use Rattle.mesh_rules.specs.Sums.{table}
use Rattle.mesh_rules.specs.Mesh.{Mesh, is_inner, leaf_number}
use Rattle.cycle_tables.specs.declared.list_state.Due.{Due}
use Rattle.due_counts.specs.DueLetters.{IsOnTree, count_to, list_in}
use Rattle.due_counts.specs.Sides.{all_lists, leaf_of, list_at, lists_around, lists_behind}

-- one more number in a range
pub flat_more : {X : Type 0} (f : ℕ → List X) (n : ℕ) → flat_map f (range_with_len 0 (n + 1)) ≡ flat_map f (range_with_len 0 n) ++ f n
flat_more f n =
    ap (λ (k : ℕ). flat_map f (range_with_len 0 k)) (let e : n + 1 ≡ ℕ.suc n = omega arith in e)
    ∙ ap (flat_map f) (range_more 0 n)
    ∙ flat_map-append f (range_with_len 0 n) ((0 + n) ∷ [])
    ∙ ap (λ (v : List _). flat_map f (range_with_len 0 n) ++ v) (append-nil (f (0 + n)))
    ∙ ap (λ (k : ℕ). flat_map f (range_with_len 0 n) ++ f k) (let e : 0 + n ≡ n = omega arith in e)

abbrev nowhere : Loc
nowhere = record { level = 0; l1 = 0; l2 = 0; l3 = 0 }

-- the leaves by their numbers
by_numbers : (xs : List Loc) (d : Loc) → map (λ k. slice_index_or xs k d) (range_with_len 0 (length xs)) ≡ xs
by_numbers xs d = sym (ext_get_or d xs (map (λ k. slice_index_or xs k d) (range_with_len 0 (length xs)))
    (sym (length-map-range_with_len (λ k. slice_index_or xs k d) 0 (length xs)))
    (λ k less. sym (get_or-map-range_with_len (λ j. slice_index_or xs j d) 0 (length xs) k k d less (omega arith))))

module _ (t : TreeOfBlocks) (m : Mesh) (size : ℕ) (receivers : Behind → List Loc) (on : IsOnTree t m) where
  -- the list to which a letter goes
  abbrev to_list : Exchange → ℕ
  to_list x = list_in size (length m.leaves) x.to

  across_is : (leaf : ℕ) (l : Loc) (axis : ℕ) (high : Bool) →
      map to_list (letters_across m receivers leaf l axis high) ≡ lists_behind t size receivers l axis high
  across_is leaf l axis high =
      map-map (receivers (behind m.shape (is_inner m) l axis high))
      ∙ ap (λ (ls : List Loc). map (λ o. list_in size (length ls) (position_or_len (same_loc o) ls)) (receivers (behind m.shape (is_inner m) l axis high))) on.leaves_are
      ∙ ap (λ v. map (list_at t size) (receivers (behind v (is_inner m) l axis high))) on.shape
      ∙ ap (λ v. map (list_at t size) (receivers (behind t.shape (is_inner_of (record { shape = t.shape; inner = v })) l axis high))) on.inner
    where
      map-map : (os : List Loc) → map to_list (map (λ to. record { from = leaf; to = leaf_number m to; axis = axis; high = not high }) os)
          ≡ map (λ o. list_in size (length m.leaves) (leaf_number m o)) os
      map-map [] = refl
      map-map (o ∷ os) = ap (λ (v : List ℕ). list_in size (length m.leaves) (leaf_number m o) ∷ v) (map-map os)

  around_is : (leaf : ℕ) (l : Loc) (axes : List ℕ) →
      map to_list (flat_map (λ axis. letters_across m receivers leaf l axis false ++ letters_across m receivers leaf l axis true) axes)
      ≡ flat_map (λ axis. lists_behind t size receivers l axis false ++ lists_behind t size receivers l axis true) axes
  around_is leaf l [] = refl
  around_is leaf l (axis ∷ axes) =
      let low = letters_across m receivers leaf l axis false in
      let high = letters_across m receivers leaf l axis true in
      let rest = flat_map (λ a. letters_across m receivers leaf l a false ++ letters_across m receivers leaf l a true) axes in
      map-append to_list (low ++ high) rest
      ∙ ap (λ (v : List ℕ). v ++ map to_list rest) (map-append to_list low high)
      ∙ ap (λ (v : List ℕ). (v ++ map to_list high) ++ map to_list rest) (across_is leaf l axis false)
      ∙ ap (λ (v : List ℕ). (lists_behind t size receivers l axis false ++ v) ++ map to_list rest) (across_is leaf l axis true)
      ∙ ap (λ (v : List ℕ). (lists_behind t size receivers l axis false ++ lists_behind t size receivers l axis true) ++ v) (around_is leaf l axes)

  leaf_is : (leaf : ℕ) (l : Loc) → map to_list (letters_of m receivers leaf l) ≡ lists_around t size receivers l
  leaf_is leaf l = around_is leaf l (range_with_len 0 m.shape.dims)
      ∙ ap (λ v. flat_map (λ axis. lists_behind t size receivers l axis false ++ lists_behind t size receivers l axis true) (range_with_len 0 v)) (ap (λ s. s.dims) on.shape)

  leaves_are : (n : ℕ) (ls : List Loc) →
      map to_list (flat_map (λ (leaf : ℕ × Loc). letters_of m receivers leaf.0 leaf.1) (enumerate_from n ls)) ≡ flat_map (lists_around t size receivers) ls
  leaves_are n [] = refl
  leaves_are n (l ∷ ls) =
      let rest = flat_map (λ (leaf : ℕ × Loc). letters_of m receivers leaf.0 leaf.1) (enumerate_from (n + 1) ls) in
      map-append to_list (letters_of m receivers n l) rest
      ∙ ap (λ (v : List ℕ). v ++ map to_list rest) (leaf_is n l)
      ∙ ap (λ (v : List ℕ). lists_around t size receivers l ++ v) (leaves_are (n + 1) ls)

  pub letters_are : map to_list (all_letters m receivers) ≡ all_lists t size receivers
  letters_are =
      leaves_are 0 m.leaves
      ∙ ap (flat_map (lists_around t size receivers)) (on.leaves_are ∙ sym (by_numbers (leaves t) nowhere))
      ∙ flat_map-map (lists_around t size receivers) (leaf_of t) (range_with_len 0 (length (leaves t)))

  -- counts of these lists are those of the letters
  pub count_is : (list : ℕ) → count_by (λ (k : ℕ). k == list) (all_lists t size receivers) ≡ count_to size (length m.leaves) (all_letters m receivers) list
  count_is list = ap (count_by (λ (k : ℕ). k == list)) (sym letters_are) ∙ by (all_letters m receivers)
    where
      by : (xs : List Exchange) → count_by (λ (k : ℕ). k == list) (map to_list xs) ≡ count_by (λ (x : Exchange). to_list x == list) xs
      by [] = refl
      by (x ∷ xs) =
          sum_by-cons (λ k. cond (k == list) 1 0) (to_list x) (map to_list xs)
          ∙ ap (λ (n : ℕ). cond (to_list x == list) 1 0 + n) (by xs)
          ∙ sym (sum_by-cons (λ (y : Exchange). cond (to_list y == list) 1 0) x xs)

  pub length_is : length (all_lists t size receivers) ≡ length (all_letters m receivers)
  length_is = ap length (sym letters_are) ∙ length-map (all_letters m receivers) to_list

-- one list more
pub pushed : (n : ℕ) (each : ℕ → Due) (xs new : List Due) (v : Due) → new ≡ xs ++ v ∷ [] → xs ≡ table n each → v ≡ each n → new ≡ table (n + 1) each
pushed n each xs new v is before now =
    is ∙ ap (λ (l : List Due). l ++ v ∷ []) before ∙ ap (λ (d : Due). table n each ++ d ∷ []) now
    ∙ sym (map-range_with_len_more each 0 n n (omega arith))
