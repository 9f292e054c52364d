-- The field blocks of each package, chained in deck order.
use Rattle.std.proofs.Common.{◌≡◌, ◌<◌, ◌≤◌, ◌-◌, ◌⊎◌, inl, inr, ◌∷◌, [], ℕ, zero, suc, Bool, true, false, cond, nat_lt, List, length, slice_get, slice_set, drop, Option, None, Some, refl, sym, ap, ◌∙◌, subst, arith}
use Rattle.std.proofs.lemmas.Bool.Decides.{nat_tests}
use Rattle.std.specs.Str.{bytes_eq}
use Rattle.std.proofs.lemmas.List.{drop_all}
use Rattle.std.proofs.lemmas.Slice.Eq.{bytes_eq-Decides}
use Rattle.std.proofs.lemmas.Option.{slice_get_within}
use Rattle.input_file.specs.Texts.{Text}
use Rattle.deck_entries.specs.declared.field_blocks.FieldBlock.{FieldBlock}
use Rattle.problem_set.specs.Packages.{blocks_of}
use Rattle.problem_set.specs.PackageBlocks.{IsFirstFrom, AreChained}
use Rattle.problem_set.proofs.RateLemmas.{drop_get}

-- past the end there is no block
pub first_past : (blocks : List FieldBlock) (name : Text) → IsFirstFrom blocks (length blocks) name None
first_past blocks name = record {
  rest = ap (λ (bs : List FieldBlock). blocks_of bs name) (drop_all (length blocks) blocks (omega arith));
  place = λ j e. let no : ⊥ = cc in absurd no;
}

-- what is known of a place from the next block on is known from a block of another package on
first_other : (blocks : List FieldBlock) (i : ℕ) (b : FieldBlock) (name : Text) (at : Option ℕ) → slice_get blocks i ≡ Some b → bytes_eq name b.package_name ≡ false → IsFirstFrom blocks (suc i) name at → IsFirstFrom blocks i name at
first_other blocks i b name at here other s = record {
  rest = ap (λ (bs : List FieldBlock). blocks_of bs name) (drop_get blocks i b here) ∙ ap (λ (t : Bool). cond t (b ∷ blocks_of (drop (suc i) blocks) name) (blocks_of (drop (suc i) blocks) name)) other ∙ s.rest;
  place = λ j e. let p = s.place j e in (p.0, omega (arith, p.1), p.2, p.3);
}

-- a block is the first of its package from its place on
pub first_here : (blocks : List FieldBlock) (i : ℕ) (b : FieldBlock) (name : Text) → slice_get blocks i ≡ Some b → b.package_name ≡ name → IsFirstFrom blocks i name (Some i)
first_here blocks i b name here is = record {
  rest = refl;
  place = λ j e. let f : i ≡ j = cc in subst (λ (k : ℕ). (c : FieldBlock) × (i ≤ k) × (slice_get blocks k ≡ Some c) × (c.package_name ≡ name)) f (b, omega arith, here, is);
}

first_by : (t : Bool) (blocks : List FieldBlock) (i : ℕ) (b : FieldBlock) (name : Text) (at : Option ℕ) → bytes_eq b.package_name name ≡ t → slice_get blocks i ≡ Some b → IsFirstFrom blocks (suc i) name at → IsFirstFrom blocks i name (cond t (Some i) at)
first_by true blocks i b name at e here s = first_here blocks i b name here ((bytes_eq-Decides b.package_name name).0 e)
first_by false blocks i b name at e here s = first_other blocks i b name at here (differ (bytes_eq name b.package_name) refl) s where
  differ : (u : Bool) → bytes_eq name b.package_name ≡ u → bytes_eq name b.package_name ≡ false
  differ true f = let same : name ≡ b.package_name = (bytes_eq-Decides name b.package_name).0 f in let t : bytes_eq b.package_name name ≡ true = subst (λ (n : Text). bytes_eq n name ≡ true) same (subst (λ (n : Text). bytes_eq name n ≡ true) (sym same) f) in let no : ⊥ = cc in absurd no
  differ false f = f

-- the places noted from one block further back on
pub first_step : (blocks : List FieldBlock) (i : ℕ) (b : FieldBlock) (old new : Text → Option ℕ) → slice_get blocks i ≡ Some b → ((m : Text) → IsFirstFrom blocks (suc i) m (old m)) → ((m : Text) → new m ≡ cond (bytes_eq b.package_name m) (Some i) (old m)) → (m : Text) → IsFirstFrom blocks i m (new m)
first_step blocks i b old new here s is m =
    subst (IsFirstFrom blocks i m) (sym (is m)) (first_by (bytes_eq b.package_name m) blocks i b m (old m) refl here (s m))

-- what is written at a place is read there
get_set_same : {A : Type 0} (xs : List A) (k : ℕ) (v n : A) → slice_get (slice_set xs k v) k ≡ Some n → n ≡ v
get_set_same [] k v n e = cc
get_set_same (x ∷ xs) zero v n e = cc
get_set_same (x ∷ xs) (suc k) v n e = get_set_same xs k v n e

-- behind that place what was there is read
get_set_later : {A : Type 0} (xs : List A) (k j : ℕ) (v : A) → k < j → slice_get (slice_set xs k v) j ≡ slice_get xs j
get_set_later [] k j v lt = refl
get_set_later (x ∷ xs) k zero v lt = absurd (omega (arith, lt))
get_set_later (x ∷ xs) zero (suc j) v lt = refl
get_set_later (x ∷ xs) (suc k) (suc j) v lt = get_set_later xs k j v (omega (arith, lt))

length_set : {A : Type 0} (xs : List A) (k : ℕ) (v : A) → length (slice_set xs k v) ≡ length xs
length_set [] k v = refl
length_set (x ∷ xs) zero v = refl
length_set (x ∷ xs) (suc k) v = ap suc (length_set xs k v)

-- the blocks from a place on are chained, and the first one of each package from there on is noted
pub record IsChainedFrom (blocks : List FieldBlock) (next : List (Option ℕ)) (first : Text → Option ℕ) (i : ℕ) : Type 0 where
  pub within : i ≤ length blocks
  pub as_many : length next ≡ length blocks
  pub chained : (j : ℕ) (b : FieldBlock) (n : Option ℕ) → i ≤ j → slice_get blocks j ≡ Some b → slice_get next j ≡ Some n → IsFirstFrom blocks (suc j) b.package_name n
  pub nearest : (m : Text) → IsFirstFrom blocks i m (first m)

-- before any block nothing is chained
pub chain_start : (blocks : List FieldBlock) (next : List (Option ℕ)) (first : Text → Option ℕ) → length next ≡ length blocks → ((m : Text) → first m ≡ None) → IsChainedFrom blocks next first (length blocks)
chain_start blocks next first e none = record {
  within = omega arith;
  as_many = e;
  chained = λ j b n le here at. absurd (omega (arith, le, slice_get_within blocks j b here));
  nearest = λ m. subst (IsFirstFrom blocks (length blocks) m) (sym (none m)) (first_past blocks m);
}

chained_at : (blocks : List FieldBlock) (next : List (Option ℕ)) (first : Text → Option ℕ) (k : ℕ) (b : FieldBlock) (v : Option ℕ) → IsChainedFrom blocks next first (suc k) → slice_get blocks k ≡ Some b → v ≡ first b.package_name → (j : ℕ) (c : FieldBlock) (n : Option ℕ) → (j ≡ k) ⊎ (k < j) → slice_get blocks j ≡ Some c → slice_get (slice_set next k v) j ≡ Some n → IsFirstFrom blocks (suc j) c.package_name n
chained_at blocks next first k b v s here is j c n (inl e) there at =
    let there' : slice_get blocks k ≡ Some c = subst (λ (i : ℕ). slice_get blocks i ≡ Some c) e there in
    let same : b ≡ c = cc in
    let is' : n ≡ first c.package_name = get_set_same next k v n (subst (λ (i : ℕ). slice_get (slice_set next k v) i ≡ Some n) e at) ∙ is ∙ ap (λ (x : FieldBlock). first x.package_name) same in
    subst (λ (i : ℕ). IsFirstFrom blocks (suc i) c.package_name n) (sym e) (subst (IsFirstFrom blocks (suc k) c.package_name) (sym is') (s.nearest c.package_name))
chained_at blocks next first k b v s here is j c n (inr lt) there at = s.chained j c n lt there (sym (get_set_later next k j v lt) ∙ at)

chain_suc : (blocks : List FieldBlock) (next : List (Option ℕ)) (first first' : Text → Option ℕ) (k : ℕ) (b : FieldBlock) (v : Option ℕ) → IsChainedFrom blocks next first (suc k) → slice_get blocks k ≡ Some b → v ≡ first b.package_name → ((m : Text) → first' m ≡ cond (bytes_eq b.package_name m) (Some k) (first m)) → IsChainedFrom blocks (slice_set next k v) first' k
chain_suc blocks next first first' k b v s here is noted = record {
  within = omega (arith, s.within);
  as_many = length_set next k v ∙ s.as_many;
  chained = λ j c n le there at. chained_at blocks next first k b v s here is j c n (le_cases k j le) there at;
  nearest = first_step blocks k b first first' here s.nearest noted;
} where
  le_cases : (m n : ℕ) → m ≤ n → (n ≡ m) ⊎ (m < n)
  le_cases m n le = by (nat_lt m n) refl where
    by : (t : Bool) → nat_lt m n ≡ t → (n ≡ m) ⊎ (m < n)
    by true e = inr (grind (arith, nat_tests))
    by false e = inl (grind (arith, nat_tests))

-- one block further back is chained
pub chain_step : (blocks : List FieldBlock) (next : List (Option ℕ)) (first first' : Text → Option ℕ) (i : ℕ) (b : FieldBlock) (name : Text) (v : Option ℕ) → 0 < i → IsChainedFrom blocks next first i → slice_get blocks (i - 1) ≡ Some b → name ≡ b.package_name → v ≡ first name → ((m : Text) → first' m ≡ cond (bytes_eq name m) (Some (i - 1)) (first m)) → IsChainedFrom blocks (slice_set next (i - 1) v) first' (i - 1)
chain_step blocks next first first' i b name v some s here is before noted =
    let e : i ≡ suc (i - 1) = omega (arith, some) in
    chain_suc blocks next first first' (i - 1) b v (subst (IsChainedFrom blocks next first) e s) here (before ∙ ap first is) (λ m. noted m ∙ ap (λ (n : Text). cond (bytes_eq n m) (Some (i - 1)) (first m)) is)

-- all blocks are chained
pub chain_whole : (blocks : List FieldBlock) (next : List (Option ℕ)) (first : Text → Option ℕ) (i : ℕ) → i ≤ 0 → IsChainedFrom blocks next first i → AreChained blocks next
chain_whole blocks next first i none s = record {
  as_many = s.as_many;
  chained = λ j b n here at. s.chained j b n (omega (arith, none)) here at;
}
