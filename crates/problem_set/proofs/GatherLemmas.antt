-- Gathering the first fields of a package.
use Rattle.std.proofs.Common.{◌≡◌, ◌<◌, ◌≤◌, ◌+◌, ◌-◌, ◌++◌, ◌∷◌, [], ℕ, zero, suc, Bool, true, false, cond, nat_lt, List, length, map, take, drop, slice_get, get_or, Option, None, Some, refl, sym, ap, ◌∙◌, subst, arith, length-append, take_all, min}
use Rattle.std.specs.List.{flat_map}
use Rattle.std.proofs.lemmas.Bool.Decides.{nat_tests}
use Rattle.std.proofs.lemmas.List.{append-nil, length-map, take-append-le, length-take}
use Rattle.std.proofs.lemmas.Slice.Eq.{bytes_eq-Decides}
use Rattle.std.proofs.lemmas.Option.{slice_get_within, slice_get-get_or}
use Rattle.input_file.specs.Texts.{Text}
use Rattle.package_fields.specs.declared.field.Field.{Field}
use Rattle.deck_entries.specs.declared.entries.Moves.{Moves}
use Rattle.deck_entries.specs.declared.field_blocks.FieldBlock.{FieldBlock}
use Rattle.problem_set.specs.Kept.{kept_fields}
use Rattle.deck_entries.specs.FieldBlocks.{fields_of}
use Rattle.problem_set.specs.Packages.{blocks_of, moves_of, package_moves}
use Rattle.problem_set.specs.PackageBlocks.{most_gathered, rest_from, IsFirstFrom, AreChained}
use Rattle.problem_set.proofs.RateLemmas.{drop_get}

-- one item is taken where there is room
pub take_one : {A : Type 0} (r : ℕ) (x : A) → 0 < r → take r (x ∷ []) ≡ x ∷ []
take_one r x some = take_all r (x ∷ []) (omega (arith, some))

take_inner : {A : Type 0} (n : ℕ) (xs rest : List A) → take n (take n xs ++ rest) ≡ take n (xs ++ rest)
take_inner zero xs rest = refl
take_inner (suc n) [] rest = refl
take_inner (suc n) (x ∷ xs) rest = ap (λ (l : List _). x ∷ l) (take_inner n xs rest)

-- what there is no room for is not among the first ones
take_room : {A : Type 0} (l xs rest : List A) (n r : ℕ) → r + length l ≡ n → take n ((l ++ take r xs) ++ rest) ≡ take n (l ++ (xs ++ rest))
take_room [] xs rest n r e =
    let f : r ≡ n = omega (arith, e) in
    subst (λ (k : ℕ). take n (take k xs ++ rest) ≡ take n (xs ++ rest)) (sym f) (take_inner n xs rest)
take_room (x ∷ l) xs rest zero r e = refl
take_room (x ∷ l) xs rest (suc n) r e = ap (λ (m : List _). x ∷ m) (take_room l xs rest n r (omega (arith, e)))

-- some items and the first ones of a list, where the list goes on: as many as there is room for are taken in
gathered_more : {A : Type 0} (l xs rest all : List A) (n : ℕ) → length l ≤ n → take n (l ++ (xs ++ rest)) ≡ take n all → take n ((l ++ take (n - length l) xs) ++ rest) ≡ take n all
gathered_more l xs rest all n few e = take_room l xs rest n (n - length l) (omega (arith, few)) ∙ e

-- where there is no room, it does not matter how the list goes on
gathered_full : {A : Type 0} (l rest all : List A) (n : ℕ) → n ≤ length l → take n (l ++ rest) ≡ take n all → take n (l ++ []) ≡ take n all
gathered_full l rest all n full e =
    take-append-le n l [] full ∙ sym (take-append-le n l rest full) ∙ e

gathered_whole : {A : Type 0} (l all : List A) (n : ℕ) → length l ≤ n → take n (l ++ []) ≡ take n all → l ≡ take n all
gathered_whole l all n few e = sym (take_all n l few) ∙ ap (take n) (sym (append-nil l)) ∙ e

length_room : {A : Type 0} (l xs : List A) (n : ℕ) → length l ≤ n → length (l ++ take (n - length l) xs) ≤ n
length_room l xs n few = omega (arith, few, length-append l (take (n - length l) xs), length-take (n - length l) xs)

length_same : {A : Type 0} {B : Type 0} (l : List A) (m : List B) (xs : List A) (ys : List B) (r : ℕ) → length m ≡ length l → length ys ≡ length xs → length (m ++ take r ys) ≡ length (l ++ take r xs)
length_same l m xs ys r e f =
    length-append m (take r ys) ∙ ap (λ (k : ℕ). length m + k) (length-take r ys ∙ ap (λ (k : ℕ). min r k) f ∙ sym (length-take r xs)) ∙ ap (λ (k : ℕ). k + length (take r xs)) e ∙ sym (length-append l (take r xs))

length_kept : (b : FieldBlock) (sparse : Bool) (f g : ℕ → Field) (x y : Field) → length (cond sparse (map f b.ids) (x ∷ [])) ≡ length (cond sparse (map g b.ids) (y ∷ []))
length_kept b true f g x y = length-map b.ids f ∙ sym (length-map b.ids g)
length_kept b false f g x y = refl

length_moves_of : (b : FieldBlock) → length (moves_of b) ≡ length (kept_fields b)
length_moves_of b = length-map (fields_of b) (λ (f : Field). b.moves) ∙ length_kept b _ _ _ _ _

-- the fields of a package that are gathered before a place, and how they move
pub record IsGathered (blocks : List FieldBlock) (name : Text) (fields : List Field) (moves : List Moves) (place : Option ℕ) : Type 0 where
  pub all_fields : take most_gathered (fields ++ flat_map kept_fields (rest_from blocks name place)) ≡ take most_gathered (flat_map kept_fields (blocks_of blocks name))
  pub all_moves : take most_gathered (moves ++ flat_map moves_of (rest_from blocks name place)) ≡ take most_gathered (package_moves blocks name)
  pub few : length fields ≤ most_gathered
  pub as_many : length moves ≡ length fields
  pub room : (j : ℕ) → place ≡ Some j → length fields < most_gathered
  pub block : (j : ℕ) → place ≡ Some j → (b : FieldBlock) × (slice_get blocks j ≡ Some b) × (b.package_name ≡ name)

pub gather_start : (blocks : List FieldBlock) (name : Text) (first : ℕ) → IsFirstFrom blocks 0 name (Some first) → IsGathered blocks name [] [] (Some first)
gather_start blocks name first s = record {
  all_fields = ap (λ (bs : List FieldBlock). take most_gathered (flat_map kept_fields bs)) (sym s.rest);
  all_moves = ap (λ (bs : List FieldBlock). take most_gathered (flat_map moves_of bs)) (sym s.rest);
  few = omega arith;
  as_many = refl;
  room = λ j e. omega arith;
  block = λ j e. let p = s.place j e in (p.0, p.2, p.3);
}

-- the blocks from a block of the package on
rest_more : (blocks : List FieldBlock) (name : Text) (i : ℕ) (b : FieldBlock) (n : Option ℕ) → slice_get blocks i ≡ Some b → b.package_name ≡ name → IsFirstFrom blocks (suc i) b.package_name n → blocks_of (drop i blocks) name ≡ b ∷ rest_from blocks name n
rest_more blocks name i b n here is s =
    ap (λ (bs : List FieldBlock). blocks_of bs name) (drop_get blocks i b here)
    ∙ ap (λ (t : Bool). cond t (b ∷ blocks_of (drop (suc i) blocks) name) (blocks_of (drop (suc i) blocks) name)) ((bytes_eq-Decides name b.package_name).1 (sym is))
    ∙ ap (λ (bs : List FieldBlock). b ∷ bs) (subst (λ (m : Text). blocks_of (drop (suc i) blocks) m ≡ rest_from blocks m n) is s.rest)

-- with the fields of one more block, as many as there is room for
record IsGatheredMore (blocks : List FieldBlock) (name : Text) (fields : List Field) (moves : List Moves) (b : FieldBlock) (n : Option ℕ) : Type 0 where
  all_fields : take most_gathered ((fields ++ take (most_gathered - length fields) (kept_fields b)) ++ flat_map kept_fields (rest_from blocks name n)) ≡ take most_gathered (flat_map kept_fields (blocks_of blocks name))
  all_moves : take most_gathered ((moves ++ take (most_gathered - length fields) (moves_of b)) ++ flat_map moves_of (rest_from blocks name n)) ≡ take most_gathered (package_moves blocks name)
  few : length (fields ++ take (most_gathered - length fields) (kept_fields b)) ≤ most_gathered
  as_many : length (moves ++ take (most_gathered - length fields) (moves_of b)) ≡ length (fields ++ take (most_gathered - length fields) (kept_fields b))
  block : (j : ℕ) → n ≡ Some j → (c : FieldBlock) × (slice_get blocks j ≡ Some c) × (c.package_name ≡ name)

gather_more : (blocks : List FieldBlock) (name : Text) (fields : List Field) (moves : List Moves) (i : ℕ) (b : FieldBlock) (n : Option ℕ) → IsGathered blocks name fields moves (Some i) → slice_get blocks i ≡ Some b → IsFirstFrom blocks (suc i) b.package_name n → IsGatheredMore blocks name fields moves b n
gather_more blocks name fields moves i b n s here next =
    let p = s.block i refl in
    let same : p.0 ≡ b = cc in
    let is : b.package_name ≡ name = ap (λ (x : FieldBlock). x.package_name) (sym same) ∙ p.2 in
    let more = rest_more blocks name i b n here is next in
    let r : most_gathered - length fields ≡ most_gathered - length moves = ap (λ (k : ℕ). most_gathered - k) (sym s.as_many) in
    record {
      all_fields = gathered_more fields (kept_fields b) (flat_map kept_fields (rest_from blocks name n)) (flat_map kept_fields (blocks_of blocks name)) most_gathered s.few (ap (λ (bs : List FieldBlock). take most_gathered (fields ++ flat_map kept_fields bs)) (sym more) ∙ s.all_fields);
      all_moves = subst (λ (k : ℕ). take most_gathered ((moves ++ take k (moves_of b)) ++ flat_map moves_of (rest_from blocks name n)) ≡ take most_gathered (package_moves blocks name)) (sym r) (gathered_more moves (moves_of b) (flat_map moves_of (rest_from blocks name n)) (package_moves blocks name) most_gathered (omega (arith, s.few, s.as_many)) (ap (λ (bs : List FieldBlock). take most_gathered (moves ++ flat_map moves_of bs)) (sym more) ∙ s.all_moves));
      few = length_room fields (kept_fields b) most_gathered s.few;
      as_many = length_same fields moves (kept_fields b) (moves_of b) (most_gathered - length fields) s.as_many (length_moves_of b);
      block = λ j e. let q = next.place j e in (q.0, q.2, q.3 ∙ is);
    }

gather_by : (t : Bool) (blocks : List FieldBlock) (name : Text) (fields : List Field) (moves : List Moves) (b : FieldBlock) (n : Option ℕ) → IsGatheredMore blocks name fields moves b n → nat_lt (length (fields ++ take (most_gathered - length fields) (kept_fields b))) most_gathered ≡ t → IsGathered blocks name (fields ++ take (most_gathered - length fields) (kept_fields b)) (moves ++ take (most_gathered - length fields) (moves_of b)) (cond t n None)
gather_by true blocks name fields moves b n g t = record {
  all_fields = g.all_fields;
  all_moves = g.all_moves;
  few = g.few;
  as_many = g.as_many;
  room = λ j e. grind (arith, nat_tests);
  block = g.block;
}
gather_by false blocks name fields moves b n g t =
    let full : most_gathered ≤ length (fields ++ take (most_gathered - length fields) (kept_fields b)) = grind (arith, nat_tests) in
    record {
      all_fields = gathered_full _ _ _ most_gathered full g.all_fields;
      all_moves = gathered_full _ _ _ most_gathered (omega (arith, full, g.as_many)) g.all_moves;
      few = g.few;
      as_many = g.as_many;
      room = λ j e. let no : ⊥ = cc in absurd no;
      block = λ j e. let no : ⊥ = cc in absurd no;
    }

-- one more block is gathered
pub gather_step : (blocks : List FieldBlock) (next : List (Option ℕ)) (name : Text) (fields fields' : List Field) (moves moves' : List Moves) (i : ℕ) (b : FieldBlock) (place n' : Option ℕ) → AreChained blocks next → IsGathered blocks name fields moves place → place ≡ Some i → slice_get blocks i ≡ Some b → fields' ≡ fields ++ take (most_gathered - length fields) (kept_fields b) → moves' ≡ moves ++ take (most_gathered - length fields) (moves_of b) → ((n : Option ℕ) → slice_get next i ≡ Some n → n' ≡ cond (nat_lt (length fields') most_gathered) n None) → IsGathered blocks name fields' moves' n'
gather_step blocks next name fields fields' moves moves' i b place n' ch s at here ef em means =
    let n = get_or next i None in
    let there : slice_get next i ≡ Some n = slice_get-get_or next i None (omega (arith, ch.as_many, slice_get_within blocks i b here)) in
    let en = means n there in
    let g = gather_by (nat_lt (length (fields ++ take (most_gathered - length fields) (kept_fields b))) most_gathered) blocks name fields moves b n (gather_more blocks name fields moves i b n (subst (IsGathered blocks name fields moves) at s) here (ch.chained i b n here there)) refl in
    let last : cond (nat_lt (length (fields ++ take (most_gathered - length fields) (kept_fields b))) most_gathered) n None ≡ n' = ap (λ (l : List Field). cond (nat_lt (length l) most_gathered) n None) (sym ef) ∙ sym en in
    subst (λ (l : List Field). IsGathered blocks name l moves' n') (sym ef) (subst (λ (m : List Moves). IsGathered blocks name (fields ++ take (most_gathered - length fields) (kept_fields b)) m n') (sym em) (subst (IsGathered blocks name (fields ++ take (most_gathered - length fields) (kept_fields b)) (moves ++ take (most_gathered - length fields) (moves_of b))) last g))

-- the place of a next block is there
pub gather_within : (blocks : List FieldBlock) (name : Text) (fields : List Field) (moves : List Moves) (place : Option ℕ) (i : ℕ) → IsGathered blocks name fields moves place → place ≡ Some i → i < length blocks
gather_within blocks name fields moves place i s e = let p = s.block i e in slice_get_within blocks i p.0 p.1

-- all fields are gathered
pub gather_fields : (blocks : List FieldBlock) (name : Text) (fields : List Field) (moves : List Moves) (place : Option ℕ) → IsGathered blocks name fields moves place → place ≡ None → fields ≡ take most_gathered (flat_map kept_fields (blocks_of blocks name))
gather_fields blocks name fields moves place s e = let t = subst (IsGathered blocks name fields moves) e s in gathered_whole fields _ most_gathered t.few t.all_fields

pub gather_moves : (blocks : List FieldBlock) (name : Text) (fields : List Field) (moves : List Moves) (place : Option ℕ) → IsGathered blocks name fields moves place → place ≡ None → moves ≡ take most_gathered (package_moves blocks name)
gather_moves blocks name fields moves place s e = let t = subst (IsGathered blocks name fields moves) e s in gathered_whole moves _ most_gathered (omega (arith, t.few, t.as_many)) t.all_moves

-- how many blocks stand from a place on
abbrev pub blocks_left : List FieldBlock → Option ℕ → ℕ
blocks_left blocks None = 0
blocks_left blocks (Some i) = length blocks - i

fewer_by : (t : Bool) (blocks : List FieldBlock) (i : ℕ) (name : Text) (n : Option ℕ) → i < length blocks → IsFirstFrom blocks (suc i) name n → blocks_left blocks (cond t n None) < length blocks - i
fewer_by true blocks i name None lt s = omega (arith, lt)
fewer_by true blocks i name (Some j) lt s = let p = s.place j refl in omega (arith, lt, p.1)
fewer_by false blocks i name n lt s = omega (arith, lt)

-- from each block on fewer blocks are left
pub gather_fewer : (blocks : List FieldBlock) (next : List (Option ℕ)) (i : ℕ) (b : FieldBlock) (t : Bool) (place n' : Option ℕ) → AreChained blocks next → place ≡ Some i → slice_get blocks i ≡ Some b → ((n : Option ℕ) → slice_get next i ≡ Some n → n' ≡ cond t n None) → blocks_left blocks n' < blocks_left blocks place
gather_fewer blocks next i b t place n' ch at here means =
    let n = get_or next i None in
    let there : slice_get next i ≡ Some n = slice_get-get_or next i None (omega (arith, ch.as_many, slice_get_within blocks i b here)) in
    subst (λ (p : Option ℕ). blocks_left blocks n' < blocks_left blocks p) (sym at) (subst (λ (m : Option ℕ). blocks_left blocks m < length blocks - i) (sym (means n there)) (fewer_by t blocks i b.package_name n (slice_get_within blocks i b here) (ch.chained i b n here there)))
