-- The pieces of a dump.
use Rattle.std.proofs.Common.{◌≡◌, ℕ, zero, suc, ◌+◌, ◌-◌, ◌≤◌, List, [], ◌∷◌, ◌++◌, length, get_or, map, Some, codes, refl, sym, ap, ◌∙◌, arith, append_assoc, length-append}
use Rattle.std.specs.Prelude.{slice_get}
use Rattle.std.specs.List.{enumerate_from, flat_map, slice_index_or}
use Rattle.std.proofs.lemmas.List.{append-nil, length-map, get_or-append_right}
use Rattle.std.proofs.lemmas.List.FromFn.{length-enumerate_from}
use Rattle.std.proofs.lemmas.Grind.{flat_map-append}
use Rattle.morton_order.specs.declared.space.Loc.{Loc}
use Rattle.problem_set.specs.Settings.{Settings}
use Rattle.mesh_rules.specs.Mesh.{Mesh}
use Rattle.mesh_rules.specs.Texts.{block_text, dump_text, heading_text, line}
use Rattle.mesh_texts.specs.Dump.{dump_pieces, joined}

-- the blocks with their numbers
abbrev blocks_from : Settings → Mesh → ℕ → List Loc → List (List ℕ)
blocks_from p m first ls = map (λ (leaf : ℕ × Loc). block_text p m leaf.0 leaf.1) (enumerate_from first ls)

blocks_long : (p : Settings) (m : Mesh) (first : ℕ) (ls : List Loc) → length (blocks_from p m first ls) ≡ length ls
blocks_long p m first ls = length-map (enumerate_from first ls) (λ (leaf : ℕ × Loc). block_text p m leaf.0 leaf.1) ∙ length-enumerate_from first ls

pub pieces_long : (p : Settings) (m : Mesh) (cycle : ℕ) → length (dump_pieces p m cycle) ≡ length m.leaves + 2
unfolding dump_pieces
pieces_long p m cycle = omega (arith, length-append (blocks_from p m 0 m.leaves) (line (codes "end") ∷ []), blocks_long p m 0 m.leaves)

-- the first piece
pub first_piece : (p : Settings) (m : Mesh) (cycle : ℕ) (k : ℕ) → k ≡ 0 → heading_text p m cycle ≡ slice_index_or (dump_pieces p m cycle) k []
unfolding dump_pieces
first_piece p m cycle k e = ap (λ (i : ℕ). slice_index_or (dump_pieces p m cycle) i []) (sym e)

-- the piece of a leaf
at_leaf : (p : Settings) (m : Mesh) (last : List (List ℕ)) (first : ℕ) (ls : List Loc) (i : ℕ) (l : Loc) → slice_get ls i ≡ Some l → block_text p m (first + i) l ≡ slice_index_or (blocks_from p m first ls ++ last) i []
at_leaf p m last first [] i l e = absurd (none_is l e)
  where
    none_is : (x : Loc) → slice_get [] i ≡ Some x → ⊥
    none_is x h = cc
at_leaf p m last first (x ∷ xs) zero l e = let z : first + 0 ≡ first = omega arith in ap (λ (k : ℕ). block_text p m k l) z ∙ ap (block_text p m first) (sym (some_is x l e))
  where
    some_is : (x y : Loc) → Some x ≡ Some y → x ≡ y
    some_is x y h = cc
at_leaf p m last first (x ∷ xs) (suc i) l e = let z : first + suc i ≡ first + 1 + i = omega arith in ap (λ (k : ℕ). block_text p m k l) z ∙ at_leaf p m last (first + 1) xs i l e

pub leaf_piece : (p : Settings) (m : Mesh) (cycle k : ℕ) (l : Loc) → 1 ≤ k → slice_get m.leaves (k - 1) ≡ Some l → block_text p m (k - 1) l ≡ slice_index_or (dump_pieces p m cycle) k []
unfolding dump_pieces
leaf_piece p m cycle k l some e =
    let s : suc (k - 1) ≡ k = omega (arith, some) in
    let z : k - 1 ≡ 0 + (k - 1) = omega arith in
    ap (λ (i : ℕ). block_text p m i l) z
    ∙ at_leaf p m (line (codes "end") ∷ []) 0 m.leaves (k - 1) l e
    ∙ ap (λ (i : ℕ). slice_index_or (dump_pieces p m cycle) i []) s

-- the last piece
pub last_piece : (p : Settings) (m : Mesh) (cycle k : ℕ) → k ≡ length m.leaves + 1 → line (codes "end") ≡ slice_index_or (dump_pieces p m cycle) k []
unfolding dump_pieces
last_piece p m cycle k e =
    let s : suc (length m.leaves) ≡ k = omega (arith, e) in
    let z : length m.leaves - length m.leaves ≡ 0 = omega arith in
    let at = get_or-append_right (blocks_from p m 0 m.leaves) (line (codes "end") ∷ []) (length m.leaves) (length m.leaves) [] (blocks_long p m 0 m.leaves) (omega arith) in
    sym (at ∙ ap (λ (i : ℕ). get_or (line (codes "end") ∷ []) i []) z)
    ∙ ap (λ (i : ℕ). slice_index_or (dump_pieces p m cycle) i []) s

-- the pieces of the blocks, one after another
joined_blocks : (p : Settings) (m : Mesh) (ls : List (ℕ × Loc)) → joined (map (λ (leaf : ℕ × Loc). block_text p m leaf.0 leaf.1) ls) ≡ flat_map (λ (leaf : ℕ × Loc). block_text p m leaf.0 leaf.1) ls
joined_blocks p m [] = refl
joined_blocks p m (x ∷ xs) = ap (λ (v : List ℕ). block_text p m x.0 x.1 ++ v) (joined_blocks p m xs)

-- the pieces together are the dump
pub pieces_are : (p : Settings) (m : Mesh) (cycle : ℕ) → joined (dump_pieces p m cycle) ≡ dump_text p m cycle
unfolding dump_pieces dump_text
pieces_are p m cycle =
    let heading = heading_text p m cycle in
    let blocks = blocks_from p m 0 m.leaves in
    let end : List ℕ = line (codes "end") in
    ap (λ (v : List ℕ). heading ++ v)
    (flat_map-append (λ (piece : List ℕ). piece) blocks (end ∷ [])
    ∙ ap (λ (v : List ℕ). joined blocks ++ v) (append-nil end)
    ∙ ap (λ (v : List ℕ). v ++ end) (joined_blocks p m (enumerate_from 0 m.leaves)))
    ∙ sym (append_assoc heading (flat_map (λ (leaf : ℕ × Loc). block_text p m leaf.0 leaf.1) (enumerate_from 0 m.leaves)) end)
