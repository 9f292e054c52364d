-- Lists of what may be there or not, one entry of which changes.
use Rattle.std.proofs.Common.{◌≡◌, ◌≢◌, ◌∙◌, sym, ap, subst, refl, inl, inr, ℕ, zero, suc, ◌+◌, ◌<◌, true, false, Option, Some, None, is_some, List, [], ◌∷◌, ◌++◌, length, get_or, slice_index_or, slice_set, All, arith}
use Rattle.std.proofs.Math.Seq.{get_or-append_seam}
use Rattle.std.proofs.lemmas.Bool.{cases_eq, cases_lt, false≢true}
use Rattle.std.proofs.lemmas.List.Elements.{All-get_or}
use Rattle.cycle_tables.specs.declared.letter.Post.{Post}
use Rattle.cycle_tables.specs.Tables.{GoesTo}
use Rattle.std.proofs.lemmas.List.{get_or_append_left, get_or_past, get_or-set_other, get_or-set_same, length-append, length-set}

-- what is there
pub some_is : {A : Type 0} (o : Option A) → is_some o ≡ true → (a : A) × (o ≡ Some a)
some_is None h = absurd (false≢true h)
some_is (Some a) h = (a, refl)

pub is_there : {A : Type 0} (o : Option A) (a : A) → o ≡ Some a → is_some o ≡ true
is_there o a e = ap (λ v. is_some v) e

pub not_there : {A : Type 0} (a : A) → None ≡ Some a → ⊥
not_there {A} a e = false≢true (ap (λ (v : Option A). is_some v) e)

pub same_value : {A : Type 0} (a b : A) → Some a ≡ Some b → a ≡ b
same_value a b e = cc

-- an entry that is there stands within the list
pub in_range : {A : Type 0} (xs : List (Option A)) (k : ℕ) (a : A) → slice_index_or xs k None ≡ Some a → k < length xs
in_range xs k a e = elim (cases_lt k (length xs)) [
  | inl h ↦ h
  | inr beyond ↦ absurd (not_there a (sym (get_or_past xs k None beyond) ∙ e))
]

-- the entries of a list with one more at its end
pub data AtEnd {A : Type 0} (xs : List A) (x d : A) (k : ℕ) : Type 0 where
  before : k < length xs → slice_index_or (xs ++ x ∷ []) k d ≡ slice_index_or xs k d → AtEnd xs x d k
  here : k ≡ length xs → slice_index_or (xs ++ x ∷ []) k d ≡ x → AtEnd xs x d k
  past : length xs < k → slice_index_or (xs ++ x ∷ []) k d ≡ d → AtEnd xs x d k

pub at_end : {A : Type 0} (xs : List A) (x d : A) (k : ℕ) → AtEnd xs x d k
at_end {A} xs x d k = elim (cases_lt k (length xs)) [
  | inl h ↦ before h (get_or_append_left xs (x ∷ []) d k h)
  | inr more ↦ (elim (cases_eq k (length xs)) [
    | inl e ↦ here e (ap (λ n. get_or (xs ++ x ∷ []) n d) e ∙ get_or-append_seam xs x [] d)
    | inr ne ↦ (let n : length (xs ++ x ∷ []) ≡ length xs + 1 = length-append xs (x ∷ []) in past (omega arith) (get_or_past (xs ++ x ∷ []) k d (omega arith)))
  ])
]

-- an entry that is there once another was taken away was there before, and is another
pub still_there : {A : Type 0} (xs : List (Option A)) (n k : ℕ) (a : A) → slice_index_or (slice_set xs n None) k None ≡ Some a → (k ≢ n) × (slice_index_or xs k None ≡ Some a)
still_there {A} xs n k a e = elim (cases_eq k n) [
  | inl same ↦ absurd (gone same)
  | inr ne ↦ (ne, sym (get_or-set_other xs n k None None ne) ∙ e)
]
  where
    gone : k ≡ n → ⊥
    gone same = elim (cases_lt n (length xs)) [
      | inl h ↦ not_there a (sym (ap (λ j. slice_index_or (slice_set xs n None) j None) same ∙ get_or-set_same xs n None None h) ∙ e)
      | inr beyond ↦ (let l : length (slice_set xs n None) ≡ length xs = length-set xs n None in not_there a (sym (get_or_past (slice_set xs n None) k None (omega arith)) ∙ e))
    ]

-- an entry that was read, whatever stands in for one that is not there
pub any_default : {A : Type 0} (xs : List A) (i : ℕ) (d e : A) → i < length xs → get_or xs i d ≡ get_or xs i e
any_default [] i d e h = absurd (omega arith)
any_default (x ∷ xs) zero d e h = refl
any_default (x ∷ xs) (suc i) d e h = any_default xs i d e (omega arith)

pub was_read : {A : Type 0} (xs : List A) (i : ℕ) (x d : A) → i < length xs → x ≡ get_or xs i x → get_or xs i d ≡ x
was_read xs i x d h e = any_default xs i d x h ∙ sym e

pub is_gone : {A : Type 0} (o : Option A) → is_some o ≡ false → o ≡ None
is_gone None h = refl
is_gone (Some a) h = absurd (false≢true (sym h))

-- the list that a letter goes to
pub goes_to : {T : Type 0} (lists : ℕ) (letters : List (Post T)) (n : ℕ) (q : Post T) → All (GoesTo lists) letters → n < length letters → q ≡ get_or letters n q → q.to < lists
goes_to {T} lists letters n q all h read = subst (λ (p : Post T). p.to < lists) (sym read) (All-get_or (GoesTo lists) letters n q h all)
