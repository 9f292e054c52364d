-- Items of lists that are written one at a time.
use Rattle.std.proofs.Common.{◌≡◌, ◌≢◌, ℕ, ◌<◌, List, [], length, Some, None, Option, slice_set, arith, ap, subst, sym, ◌∙◌, inl, inr, get_or-set_same, get_or-set_other}
use Rattle.std.proofs.lemmas.Bool.{cases_eq, cases_lt}
use Rattle.std.proofs.lemmas.List.{length-set}
use Rattle.std.specs.List.{slice_get, slice_index_or}
use Rattle.std.proofs.lemmas.Option.{slice_get-get_or, slice_get_past}
use Rattle.dense_mesh.specs.Ghosts.{list_at}
use Rattle.dense_stage.specs.Faces.{AreListsOf}

some_is : {X : Type 0} (a b : X) → ◌≡◌ {A = Option X} (Some a) (Some b) → a ≡ b
some_is a b e = cc

-- an item that is read
pub item_is : (xs : List (List ℕ)) (i : ℕ) (x : List ℕ) → i < length xs → x ≡ slice_index_or xs i x → x ≡ list_at xs i
item_is xs i x h e = e ∙ some_is (slice_index_or xs i x) (list_at xs i) (sym (slice_get-get_or xs i x h) ∙ slice_get-get_or xs i [] h)

-- one list written
pub set_here : (xs : List (List ℕ)) (i : ℕ) (x : List ℕ) → i < length xs → list_at (slice_set xs i x) i ≡ x
set_here xs i x h = get_or-set_same xs i x [] h

pub set_other : (xs : List (List ℕ)) (i k : ℕ) (x : List ℕ) → k ≢ i → list_at (slice_set xs i x) k ≡ list_at xs k
set_other xs i k x h = get_or-set_other xs i k x [] h

pub sets_fit : (size n : ℕ) (xs : List (List ℕ)) (i : ℕ) (x : List ℕ) → AreListsOf size n xs → i < n → length x ≡ size → AreListsOf size n (slice_set xs i x)
sets_fit size n xs i x fit h same = record {
  count = length-set xs i x ∙ fit.count;
  sizes = λ k less. elim (cases_eq k i) [
    | inl e ↦ ap (λ (v : ℕ). length (list_at (slice_set xs i x) v)) e ∙ ap (λ (v : List ℕ). length v) (set_here xs i x (omega (arith, fit.count))) ∙ same
    | inr ne ↦ ap (λ (v : List ℕ). length v) (set_other xs i k x ne) ∙ fit.sizes k less
  ];
}

-- facts of each item, after one was written
pub set_facts : (P : ℕ → List ℕ → List ℕ → Type 0) (xs ys : List (List ℕ)) (i : ℕ) (x y : List ℕ) → i < length xs → i < length ys → P i x y → (k : ℕ) → (k ≢ i → P k (list_at xs k) (list_at ys k)) → P k (list_at (slice_set xs i x) k) (list_at (slice_set ys i y) k)
set_facts P xs ys i x y h j here k rest = elim (cases_eq k i) [
  | inl e ↦
      subst (λ (v : ℕ). P v (list_at (slice_set xs i x) v) (list_at (slice_set ys i y) v)) (sym e)
      (subst (λ (v : List ℕ). P i v (list_at (slice_set ys i y) i)) (sym (set_here xs i x h)) (subst (λ (v : List ℕ). P i x v) (sym (set_here ys i y j)) here))
  | inr ne ↦ subst (λ (v : List ℕ). P k v (list_at (slice_set ys i y) k)) (sym (set_other xs i k x ne)) (subst (λ (v : List ℕ). P k (list_at xs k) v) (sym (set_other ys i k y ne)) (rest ne))
]

-- the length of an item that is read
pub item_size : (size n : ℕ) (xs : List (List ℕ)) (i : ℕ) (x : List ℕ) → AreListsOf size n xs → i < n → x ≡ slice_index_or xs i x → length x ≡ size
item_size size n xs i x fit h e = ap (λ (v : List ℕ). length v) (item_is xs i x (omega (arith, fit.count)) e) ∙ fit.sizes i h

-- a read within
pub get_within : {X : Type 0} (xs : List X) (i : ℕ) (x : X) → slice_get xs i ≡ Some x → i < length xs
get_within xs i x e = elim (cases_lt i (length xs)) [
  | inl inside ↦ inside
  | inr past ↦ absurd (wrong (sym (slice_get_past xs i past) ∙ e))
]
  where
    wrong : None ≡ Some x → ⊥
    wrong e = cc

-- an item that is read after it was written
pub read_again : (xs : List (List ℕ)) (i : ℕ) (new x : List ℕ) → i < length xs → x ≡ slice_index_or (slice_set xs i new) i x → x ≡ new
read_again xs i new x h e = item_is (slice_set xs i new) i x (omega (arith, h, length-set xs i new)) e ∙ set_here xs i new h
