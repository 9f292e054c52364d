-- A text of those items of a list that are not zero, and the number of the others.
use Rattle.std.proofs.Common.{◌≡◌, ℕ, zero, suc, ◌+◌, ◌-◌, ◌<◌, ◌≤◌, Bool, true, false, List, [], ◌∷◌, ◌++◌, length, get_or, take, sym, ap, ◌∙◌, subst, arith, append_assoc}
use Rattle.std.specs.Prelude.{count_by}
use Rattle.std.specs.List.{enumerate_from, flat_map, slice_index_or}
use Rattle.std.proofs.lemmas.List.{append-nil, take_more, take_all}
use Rattle.std.proofs.lemmas.List.FromFn.{get_or-enumerate_from, length-enumerate_from}
use Rattle.std.proofs.lemmas.List.Sums.{count_by_more_no, count_by_more_yes}
use Rattle.std.proofs.lemmas.Grind.{flat_map-append}

-- the first items were passed: those of them that are not zero were appended to a text, and one number was taken away for each
pub record HasShown (lines : ℕ × List ℕ → List ℕ) (is_zero : List ℕ → Bool) (xs : List (List ℕ)) (from left : ℕ) (old new : List ℕ) : Type 0 where
  pub text : new ≡ old ++ flat_map lines (take from (enumerate_from 0 xs))
  pub count : left + from ≡ count_by is_zero (take from xs) + length xs
  pub within : from ≤ length xs

-- items that are zero give nothing
abbrev pub ZeroGivesNothing : (ℕ × List ℕ → List ℕ) → (List ℕ → Bool) → List (List ℕ) → Type 0
ZeroGivesNothing lines is_zero xs = (f : ℕ) → f < length xs → is_zero (slice_index_or xs f []) ≡ true → lines (f, slice_index_or xs f []) ≡ []

-- what one item more gives
text_more : (lines : ℕ × List ℕ → List ℕ) (xs : List (List ℕ)) (f : ℕ) (old new next : List ℕ) → f < length xs
    → new ≡ old ++ flat_map lines (take f (enumerate_from 0 xs)) → next ≡ new ++ lines (f, slice_index_or xs f []) → next ≡ old ++ flat_map lines (take (f + 1) (enumerate_from 0 xs))
text_more lines xs f old new next inside before after =
    let items = enumerate_from 0 xs in
    let many : f < length items = omega (arith, inside, length-enumerate_from 0 xs) in
    let z : 0 + f ≡ f = omega arith in
    let item : get_or items f (0, []) ≡ (f, slice_index_or xs f []) = get_or-enumerate_from 0 xs f (0, []) inside ∙ ap (λ (k : ℕ). (k, slice_index_or xs f [])) z in
    after
    ∙ ap (λ (v : List ℕ). v ++ lines (f, slice_index_or xs f [])) before
    ∙ append_assoc old (flat_map lines (take f items)) (lines (f, slice_index_or xs f []))
    ∙ ap (λ (v : List ℕ). old ++ v)
    (ap (λ (v : ℕ × List ℕ). flat_map lines (take f items) ++ lines v) (sym item)
    ∙ ap (λ (v : List ℕ). flat_map lines (take f items) ++ v) (sym (append-nil (lines (get_or items f (0, [])))))
    ∙ sym (flat_map-append lines (take f items) (get_or items f (0, []) ∷ []))
    ∙ ap (flat_map lines) (sym (take_more items f (0, []) many)))

-- one that is not zero, and one that is
pub more_shown : (lines : ℕ × List ℕ → List ℕ) (is_zero : List ℕ → Bool) (xs : List (List ℕ)) (f left less : ℕ) (old new next : List ℕ) → f < length xs
    → is_zero (slice_index_or xs f []) ≡ false → less + 1 ≡ left → next ≡ new ++ lines (f, slice_index_or xs f []) → HasShown lines is_zero xs f left old new → HasShown lines is_zero xs (f + 1) less old next
more_shown lines is_zero xs f left less old new next inside shows one after has =
    let c = count_by_more_no is_zero xs f [] inside shows in
    record { text = text_more lines xs f old new next inside has.text after; count = let h = has.count in omega arith; within = omega arith }

pub more_passed : (lines : ℕ × List ℕ → List ℕ) (is_zero : List ℕ → Bool) (xs : List (List ℕ)) (f left : ℕ) (old new : List ℕ) → f < length xs
    → is_zero (slice_index_or xs f []) ≡ true → ZeroGivesNothing lines is_zero xs → HasShown lines is_zero xs f left old new → HasShown lines is_zero xs (f + 1) left old new
more_passed lines is_zero xs f left old new inside passes nothing has =
    let c = count_by_more_yes is_zero xs f [] inside passes in
    let same : new ≡ new ++ lines (f, slice_index_or xs f []) = sym (append-nil new) ∙ ap (λ (v : List ℕ). new ++ v) (sym (nothing f inside passes)) in
    record { text = text_more lines xs f old new new inside has.text same; count = let h = has.count in omega arith; within = omega arith }

-- some that are zero
many_passed : (lines : ℕ × List ℕ → List ℕ) (is_zero : List ℕ → Bool) (xs : List (List ℕ)) (from many left : ℕ) (old new : List ℕ) → from + many ≤ length xs
    → ((f : ℕ) → from ≤ f → f < from + many → is_zero (slice_index_or xs f []) ≡ true) → ZeroGivesNothing lines is_zero xs → HasShown lines is_zero xs from left old new → HasShown lines is_zero xs (from + many) left old new
many_passed lines is_zero xs from zero left old new within passes nothing has = let e : from + 0 ≡ from = omega arith in subst (λ (k : ℕ). HasShown lines is_zero xs k left old new) (sym e) has
many_passed lines is_zero xs from (suc many) left old new within passes nothing has =
    let e : from + many + 1 ≡ from + suc many = omega arith in
    subst (λ (k : ℕ). HasShown lines is_zero xs k left old new) e
    (more_passed lines is_zero xs (from + many) left old new (omega arith) (passes (from + many) (omega arith) (omega arith)) nothing
    (many_passed lines is_zero xs from many left old new (omega arith) (λ f a b. passes f a (omega arith)) nothing has))

pub passed_to : (lines : ℕ × List ℕ → List ℕ) (is_zero : List ℕ → Bool) (xs : List (List ℕ)) (from to left : ℕ) (old new : List ℕ) → from ≤ to → to ≤ length xs
    → ((f : ℕ) → from ≤ f → f < to → is_zero (slice_index_or xs f []) ≡ true) → ZeroGivesNothing lines is_zero xs → HasShown lines is_zero xs from left old new → HasShown lines is_zero xs to left old new
passed_to lines is_zero xs from to left old new after within passes nothing has =
    let e : from + (to - from) ≡ to = omega arith in
    subst (λ (k : ℕ). HasShown lines is_zero xs k left old new) e
    (many_passed lines is_zero xs from (to - from) left old new (omega arith) (λ f a b. passes f a (omega arith)) nothing has)

-- at the start, and at the end
pub none_shown : (lines : ℕ × List ℕ → List ℕ) (is_zero : List ℕ → Bool) (xs : List (List ℕ)) (left : ℕ) (old : List ℕ) → left ≡ length xs → HasShown lines is_zero xs 0 left old old
none_shown lines is_zero xs left old all = record { text = sym (append-nil old); count = omega arith; within = omega arith }

-- all were passed
pub record AllShown (lines : ℕ × List ℕ → List ℕ) (is_zero : List ℕ → Bool) (xs : List (List ℕ)) (left : ℕ) (old new : List ℕ) : Type 0 where
  pub text : new ≡ old ++ flat_map lines (enumerate_from 0 xs)
  pub count : left ≡ count_by is_zero xs

pub all_shown : (lines : ℕ × List ℕ → List ℕ) (is_zero : List ℕ → Bool) (xs : List (List ℕ)) (from left : ℕ) (old new : List ℕ)
    → ((f : ℕ) → from ≤ f → f < length xs → is_zero (slice_index_or xs f []) ≡ true) → ZeroGivesNothing lines is_zero xs → HasShown lines is_zero xs from left old new → AllShown lines is_zero xs left old new
all_shown lines is_zero xs from left old new passes nothing has =
    let end = passed_to lines is_zero xs from (length xs) left old new has.within (omega arith) passes nothing has in
    let many = length-enumerate_from 0 xs in
    let counted = ap (count_by is_zero) (take_all (length xs) xs (omega arith)) in
    record {
      text = end.text ∙ ap (λ (v : List (ℕ × List ℕ)). old ++ flat_map lines v) (take_all (length xs) (enumerate_from 0 xs) (omega arith));
      count = let c = end.count in omega arith;
    }
