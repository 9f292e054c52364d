-- Pages with and without keys.
use Rattle.std.proofs.Common.{◌≡◌, ◌≢◌, ◌∙◌, sym, ap, refl, inl, inr, ℕ, true, false, nat_eq, is_none, Option, None, Some, List, [], ◌∷◌, length, replicate, slice_index_or, slice_set, arith}
use Rattle.std.specs.List.{list_all}
use Rattle.std.proofs.lemmas.Bool.{cases_lt, false≢true}
use Rattle.std.proofs.lemmas.Bool.Decides.{nat_tests}
use Rattle.std.proofs.lemmas.List.{get_or-replicate, get_or_past, length-replicate, nil_from_length, get_or-set_other, length-set}
use Rattle.alloc_epochs.specs.Pages.{is_page, blank}

abbrev pub no_key : Option ℕ
no_key = None

-- an entry that is not there, or has no key
pub nothing_at : (n entry : ℕ) → slice_index_or (replicate n no_key) entry None ≡ None
nothing_at n entry = elim (cases_lt entry n) [
  | inl h ↦ get_or-replicate n entry None None h
  | inr h ↦ get_or_past (replicate n no_key) entry None (omega (arith, length-replicate n no_key))
]

-- a page of which no entry has a key
pub all_none : (page : List (Option ℕ)) → list_all (λ (key : Option ℕ). is_none key) page ≡ true → page ≡ replicate (length page) None
all_none [] e = refl
all_none (None ∷ page) e = ap (λ (rest : List (Option ℕ)). None ∷ rest) (all_none page e)
all_none (Some key ∷ page) e = absurd (false≢true e)

pub full_page : (page : List (Option ℕ)) → is_page page ≡ true → nat_eq (length page) 0 ≡ false → length page ≡ 32
full_page page e some = grind (arith, nat_tests)

pub empty_page : (page : List (Option ℕ)) → nat_eq (length page) 0 ≡ true → page ≡ []
empty_page page e = nil_from_length page (grind (arith, nat_tests))

-- a page is blank once its last key was taken away
pub cleared_blank : (page cleared : List (Option ℕ)) (entry : ℕ) → is_page page ≡ true → nat_eq (length page) 0 ≡ false → cleared ≡ slice_set page entry None → list_all (λ (key : Option ℕ). is_none key) cleared ≡ true → cleared ≡ blank
cleared_blank page cleared entry e some is none =
    let n : length cleared ≡ 32 = ap (λ (p : List (Option ℕ)). length p) is ∙ (length-set page entry None ∙ full_page page e some) in
    all_none cleared none ∙ ap (λ (k : ℕ). replicate k no_key) n

-- and then no other entry had a key before
pub cleared_same : (page cleared : List (Option ℕ)) (entry other : ℕ) → cleared ≡ blank → cleared ≡ slice_set page entry None → other ≢ entry → None ≡ slice_index_or page other None
cleared_same page cleared entry other all is ne =
    sym (nothing_at 32 other) ∙ (ap (λ (p : List (Option ℕ)). slice_index_or p other no_key) (sym all ∙ is) ∙ get_or-set_other page entry other None None ne)
