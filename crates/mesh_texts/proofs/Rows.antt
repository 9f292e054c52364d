-- The rows of a block.
use Rattle.std.proofs.Common.{◌≡◌, ℕ, zero, suc, ◌+◌, ◌-◌, ◌*◌, ◌<◌, List, [], ◌∷◌, ◌++◌, length, get_or, take, drop, map, sym, ap, ◌∙◌, arith}
use Rattle.std.specs.List.{flat_map, join_with_byte, range_with_len, slice_index_or}
use Rattle.std.specs.Fmt.{decimal}
use Rattle.std.proofs.lemmas.List.{append-nil, get_or-map, length-map}
use Rattle.std.proofs.lemmas.Grind.{flat_map-append}
use Rattle.mesh_rules.specs.Texts.{line, rows}
use Rattle.mesh_texts.specs.Sizes.{leaf_lists}
use Rattle.mesh_texts.proofs.Appended.{two_more}

-- a row from its first total and the others
pub joined : (first : ℕ) (rest : List ℕ) → join_with_byte 32 (map decimal (first ∷ rest)) ≡ decimal first ++ flat_map (λ (total : ℕ). 32 ∷ decimal total) rest
joined first [] = sym (append-nil (decimal first))
joined first (next ∷ rest) = ap (λ (t : List ℕ). decimal first ++ (32 ∷ t)) (joined next rest)

-- one number more
range_more : (a n : ℕ) → range_with_len a (suc n) ≡ range_with_len a n ++ (a + n) ∷ []
range_more a zero = let e : a ≡ a + 0 = omega arith in ap (λ (k : ℕ). k ∷ []) e
range_more a (suc n) =
    let e : a + 1 + n ≡ a + suc n = omega arith in
    ap (λ (ks : List ℕ). a ∷ ks) (range_more (a + 1) n) ∙ ap (λ (k : ℕ). (a ∷ range_with_len (a + 1) n) ++ k ∷ []) e

abbrev row_text : ℕ → List ℕ → ℕ → List ℕ
row_text width totals row = line (join_with_byte 32 (map decimal (take width (drop (row * width) totals))))

rows_then : (width n : ℕ) (totals : List ℕ) → rows width (n + 1) totals ≡ rows width n totals ++ row_text width totals n
rows_then width n totals =
    let e : n + 1 ≡ suc n = omega arith in
    let z : 0 + n ≡ n = omega arith in
    ap (λ (k : ℕ). rows width k totals) e
    ∙ ap (flat_map (row_text width totals)) (range_more 0 n)
    ∙ flat_map-append (row_text width totals) (range_with_len 0 n) ((0 + n) ∷ [])
    ∙ ap (λ (t : List ℕ). rows width n totals ++ t) (append-nil (row_text width totals (0 + n)) ∙ ap (row_text width totals) z)

-- a text with one row more
pub row_more : (width n : ℕ) (totals s0 s1 s2 : List ℕ) → s1 ≡ s0 ++ rows width n totals → s2 ≡ s1 ++ row_text width totals n → s2 ≡ s0 ++ rows width (n + 1) totals
row_more width n totals s0 s1 s2 e1 e2 =
    two_more s0 s1 s2 (rows width n totals) (row_text width totals n) e1 e2
    ∙ ap (λ (t : List ℕ). s0 ++ t) (sym (rows_then width n totals))

-- the part of the totals that is a row
pub part_is : (width n : ℕ) (totals : List ℕ) → take (n * width + width - n * width) (drop (n * width) totals) ≡ take width (drop (n * width) totals)
part_is width n totals = let e : n * width + width - n * width ≡ width = omega arith in ap (λ (k : ℕ). take k (drop (n * width) totals)) e

-- a leaf's totals of a field, by the number of the field
pub leaf_list_at : (lists : List (List (List ℕ))) (leaf f : ℕ) (list : List (List ℕ)) → f < length lists → list ≡ get_or lists f list → slice_index_or (leaf_lists lists leaf) f [] ≡ slice_index_or list leaf []
leaf_list_at lists leaf f list inside e =
    get_or-map (λ (l : List (List ℕ)). slice_index_or l leaf []) lists f list [] inside
    ∙ ap (λ (l : List (List ℕ)). slice_index_or l leaf []) (sym e)

pub leaf_lists_long : (lists : List (List (List ℕ))) (leaf : ℕ) → length (leaf_lists lists leaf) ≡ length lists
leaf_lists_long lists leaf = length-map lists (λ (l : List (List ℕ)). slice_index_or l leaf [])
