-- Lists that loops build.
use Rattle.std.proofs.Common.{◌≡◌, ℕ, zero, suc, ◌+◌, ◌-◌, ◌<◌, ◌≤◌, Bool, true, false, cond, List, [], ◌∷◌, ◌++◌, take, drop, length, map, refl, arith, ap, subst, sym, ◌∙◌, add-one, drop-cons}
use Rattle.std.specs.List.{enumerate_from, filter, flat_map, list_any, range_with_len, slice_index_or}
use Rattle.std.proofs.lemmas.List.{map-append, drop_all, take_more, flat_map_more}
use Rattle.std.proofs.lemmas.List.Elements.{filter-append}
use Rattle.std.proofs.lemmas.List.Folds.{list_any-append}
use Rattle.std.proofs.lemmas.Bool.{or_left, or_right}

-- a test that passes just between two places
pub filter_part : {X : Type 0} (p : X → Bool) (d : X) (xs : List X) (s n : ℕ) → s + n ≤ length xs → ((k : ℕ) → k < s → p (slice_index_or xs k d) ≡ false) →
    ((k : ℕ) → s ≤ k → k < s + n → p (slice_index_or xs k d) ≡ true) → ((k : ℕ) → s + n ≤ k → k < length xs → p (slice_index_or xs k d) ≡ false) → filter p xs ≡ take n (drop s xs)
filter_part p d [] zero zero room none here after = refl
filter_part p d [] zero (suc n) room none here after = absurd (omega arith)
filter_part p d [] (suc s) n room none here after = absurd (omega arith)
filter_part p d (x ∷ xs) zero zero room none here after =
    ap (λ t. cond t (x ∷ filter p xs) (filter p xs)) (after 0 (omega arith) (omega arith))
    ∙ filter_part p d xs zero zero (omega arith) (λ k h. absurd (omega arith)) (λ k a b. absurd (omega arith)) (λ k a b. after (suc k) (omega arith) (omega arith))
filter_part p d (x ∷ xs) zero (suc n) room none here after =
    ap (λ t. cond t (x ∷ filter p xs) (filter p xs)) (here 0 (omega arith) (omega arith))
    ∙ ap (λ v. x ∷ v) (filter_part p d xs zero n (omega arith) (λ k h. absurd (omega arith)) (λ k a b. here (suc k) (omega arith) (omega arith)) (λ k a b. after (suc k) (omega arith) (omega arith)))
filter_part p d (x ∷ xs) (suc s) n room none here after =
    ap (λ t. cond t (x ∷ filter p xs) (filter p xs)) (none 0 (omega arith))
    ∙ filter_part p d xs s n (omega arith) (λ k h. none (suc k) (omega arith)) (λ k a b. here (suc k) (omega arith) (omega arith)) (λ k a b. after (suc k) (omega arith) (omega arith))

-- what each numbered item from a number on gives, where it passes a test
abbrev pub rest_from : {X Y : Type 0} → (Y → Bool) → (ℕ → X → List Y) → List X → ℕ → List Y
rest_from p g xs b = filter p (flat_map (λ item. g item.0 item.1) (enumerate_from b (drop b xs)))

pub rest_next : {X Y : Type 0} (p : Y → Bool) (g : ℕ → X → List Y) (xs : List X) (b : ℕ) (d : X) → b < length xs →
    rest_from p g xs b ≡ filter p (g b (slice_index_or xs b d)) ++ rest_from p g xs (b + 1)
rest_next {X} {Y} p g xs b d few =
    ap (λ (v : List X). filter p (flat_map (λ item. g item.0 item.1) (enumerate_from b v))) (drop-cons xs b d few)
    ∙ filter-append p (g b (slice_index_or xs b d)) (flat_map (λ item. g item.0 item.1) (enumerate_from (b + 1) (drop (suc b) xs)))
    ∙ ap (λ (k : ℕ). filter p (g b (slice_index_or xs b d)) ++ filter p (flat_map (λ item. g item.0 item.1) (enumerate_from (b + 1) (drop k xs)))) (sym (add-one b))

pub rest_skip : {X Y : Type 0} (p : Y → Bool) (g : ℕ → X → List Y) (xs : List X) (d : X) (b n : ℕ) → b + n ≤ length xs → ((k : ℕ) → b ≤ k → k < b + n → filter p (g k (slice_index_or xs k d)) ≡ []) →
    rest_from p g xs b ≡ rest_from p g xs (b + n)
rest_skip p g xs d b zero room none = ap (rest_from p g xs) (omega arith)
rest_skip p g xs d b (suc n) room none =
    let e : b + 1 + n ≡ b + suc n = omega arith in
    rest_next p g xs b d (omega arith)
    ∙ ap (λ v. v ++ rest_from p g xs (b + 1)) (none b (omega arith) (omega arith))
    ∙ rest_skip p g xs d (b + 1) n (omega arith) (λ k a z. none k (omega arith) (omega arith))
    ∙ ap (rest_from p g xs) e

pub rest_ends : {X Y : Type 0} (p : Y → Bool) (g : ℕ → X → List Y) (xs : List X) (d : X) (b : ℕ) → b ≤ length xs → ((k : ℕ) → b ≤ k → k < length xs → filter p (g k (slice_index_or xs k d)) ≡ []) → rest_from p g xs b ≡ []
rest_ends p g xs d b room none =
    let e : b + (length xs - b) ≡ length xs = omega arith in
    rest_skip p g xs d b (length xs - b) (omega arith) (λ k a z. none k a (omega arith))
    ∙ ap (rest_from p g xs) e
    ∙ ap (λ v. filter p (flat_map (λ item. g item.0 item.1) (enumerate_from (length xs) v))) (drop_all (length xs) xs (omega arith))

-- a test that says the same of each item passes all or none
pub filter_same : {X Y : Type 0} (p : Y → Bool) (t : Bool) (h : X → Y) (os : List X) → ((o : X) → p (h o) ≡ t) → filter p (map h os) ≡ cond t (map h os) []
filter_same p true h [] all = refl
filter_same p false h [] all = refl
filter_same p true h (o ∷ os) all = ap (λ t. cond t (h o ∷ filter p (map h os)) (filter p (map h os))) (all o) ∙ ap (λ v. h o ∷ v) (filter_same p true h os all)
filter_same p false h (o ∷ os) all = ap (λ t. cond t (h o ∷ filter p (map h os)) (filter p (map h os))) (all o) ∙ filter_same p false h os all

both : {Y : Type 0} (t : Bool) (xs ys : List Y) → cond t xs [] ++ cond t ys [] ≡ cond t (xs ++ ys) []
both true xs ys = refl
both false xs ys = refl

pub filter_both : {Y : Type 0} (p : Y → Bool) (t : Bool) (xs ys : List Y) → filter p xs ≡ cond t xs [] → filter p ys ≡ cond t ys [] → filter p (xs ++ ys) ≡ cond t (xs ++ ys) []
filter_both p t xs ys a b = filter-append p xs ys ∙ ap (λ v. v ++ filter p ys) a ∙ ap (λ v. cond t xs [] ++ v) b ∙ both t xs ys

pub filter_flat : {Y : Type 0} (p : Y → Bool) (t : Bool) (g : ℕ → List Y) (ks : List ℕ) → ((k : ℕ) → filter p (g k) ≡ cond t (g k) []) → filter p (flat_map g ks) ≡ cond t (flat_map g ks) []
filter_flat p true g [] all = refl
filter_flat p false g [] all = refl
filter_flat p t g (k ∷ ks) all = filter_both p t (g k) (flat_map g ks) (all k) (filter_flat p t g ks all)

-- functions that agree on all items of a list
pub map_same : {X Y Z : Type 0} (f g : Y → Z) (h : X → Y) (os : List X) → ((o : X) → f (h o) ≡ g (h o)) → map f (map h os) ≡ map g (map h os)
map_same f g h [] all = refl
map_same f g h (o ∷ os) all = ap (λ v. v ∷ map f (map h os)) (all o) ∙ ap (λ v. g (h o) ∷ v) (map_same f g h os all)

pub map_both : {Y Z : Type 0} (f g : Y → Z) (xs ys : List Y) → map f xs ≡ map g xs → map f ys ≡ map g ys → map f (xs ++ ys) ≡ map g (xs ++ ys)
map_both f g xs ys a b = map-append f xs ys ∙ ap (λ v. v ++ map f ys) a ∙ ap (λ v. map g xs ++ v) b ∙ sym (map-append g xs ys)

pub map_flat : {Y Z : Type 0} (f g : Y → Z) (h : ℕ → List Y) (ks : List ℕ) → ((k : ℕ) → map f (h k) ≡ map g (h k)) → map f (flat_map h ks) ≡ map g (flat_map h ks)
map_flat f g h [] all = refl
map_flat f g h (k ∷ ks) all = map_both f g (h k) (flat_map h ks) (all k) (map_flat f g h ks all)

pub map_twice : {X Y Z : Type 0} (f : Y → Z) (g : X → Y) (xs : List X) → map f (map g xs) ≡ map (λ x. f (g x)) xs
map_twice f g [] = refl
map_twice f g (x ∷ xs) = ap (λ v. f (g x) ∷ v) (map_twice f g xs)

-- an item that passes a test
pub any_at : {X : Type 0} (p : X → Bool) (xs : List X) (k : ℕ) (d : X) → k < length xs → p (slice_index_or xs k d) ≡ true → list_any p xs ≡ true
any_at p [] k d few h = absurd (omega arith)
any_at p (x ∷ xs) zero d few h = or_left (p x) (list_any p xs) h
any_at p (x ∷ xs) (suc k) d few h = or_right (p x) (list_any p xs) (any_at p xs k d (omega arith) h)

pub any_mapped : {X Y : Type 0} (p : Y → Bool) (h : X → Y) (xs : List X) (k : ℕ) (d : X) → k < length xs → p (h (slice_index_or xs k d)) ≡ true → list_any p (map h xs) ≡ true
any_mapped p h [] k d few e = absurd (omega arith)
any_mapped p h (x ∷ xs) zero d few e = or_left (p (h x)) (list_any p (map h xs)) e
any_mapped p h (x ∷ xs) (suc k) d few e = or_right (p (h x)) (list_any p (map h xs)) (any_mapped p h xs k d (omega arith) e)

pub any_left : {X : Type 0} (p : X → Bool) (xs ys : List X) → list_any p xs ≡ true → list_any p (xs ++ ys) ≡ true
any_left p xs ys h = list_any-append p xs ys ∙ or_left (list_any p xs) (list_any p ys) h

pub any_right : {X : Type 0} (p : X → Bool) (xs ys : List X) → list_any p ys ≡ true → list_any p (xs ++ ys) ≡ true
any_right p xs ys h = list_any-append p xs ys ∙ or_right (list_any p xs) (list_any p ys) h

pub any_flat : {Y : Type 0} (p : Y → Bool) (g : ℕ → List Y) (a n k : ℕ) → k < n → list_any p (g (a + k)) ≡ true → list_any p (flat_map g (range_with_len a n)) ≡ true
any_flat p g a zero k few h = absurd (omega arith)
any_flat p g a (suc n) zero few h = let e : a + 0 ≡ a = omega arith in any_left p (g a) (flat_map g (range_with_len (a + 1) n)) (subst (λ v. list_any p (g v) ≡ true) e h)
any_flat p g a (suc n) (suc k) few h = let e : a + suc k ≡ a + 1 + k = omega arith in any_right p (g a) (flat_map g (range_with_len (a + 1) n)) (any_flat p g (a + 1) n k (omega arith) (subst (λ v. list_any p (g v) ≡ true) e h))

pub any_numbered : {X Y : Type 0} (p : Y → Bool) (g : ℕ → X → List Y) (a : ℕ) (xs : List X) (k : ℕ) (d : X) → k < length xs → list_any p (g (a + k) (slice_index_or xs k d)) ≡ true → list_any p (flat_map (λ item. g item.0 item.1) (enumerate_from a xs)) ≡ true
any_numbered p g a [] k d few h = absurd (omega arith)
any_numbered p g a (x ∷ xs) zero d few h =
    let e : a + 0 ≡ a = omega arith in
    any_left p (g a x) (flat_map (λ item. g item.0 item.1) (enumerate_from (a + 1) xs)) (subst (λ v. list_any p (g v x) ≡ true) e h)
any_numbered p g a (x ∷ xs) (suc k) d few h =
    let e : a + suc k ≡ a + 1 + k = omega arith in
    any_right p (g a x) (flat_map (λ item. g item.0 item.1) (enumerate_from (a + 1) xs)) (any_numbered p g (a + 1) xs k d (omega arith) (subst (λ v. list_any p (g v (slice_index_or xs k d)) ≡ true) e h))

-- one item more
pub map_more : {X Y : Type 0} (f : X → Y) (xs : List X) (k : ℕ) (d : X) (before after : List Y) → k < length xs → before ≡ map f (take k xs) → after ≡ before ++ f (slice_index_or xs k d) ∷ [] → after ≡ map f (take (k + 1) xs)
map_more f xs k d before after few is more =
    more ∙ ap (λ v. v ++ f (slice_index_or xs k d) ∷ []) is ∙ sym (map-append f (take k xs) (slice_index_or xs k d ∷ [])) ∙ ap (map f) (sym (take_more xs k d few))

pub flat_more : {X Y : Type 0} (f : X → List Y) (xs : List X) (k : ℕ) (d : X) (before after : List Y) → k < length xs → before ≡ flat_map f (take k xs) → after ≡ before ++ f (slice_index_or xs k d) → after ≡ flat_map f (take (k + 1) xs)
flat_more f xs k d before after few is more =
    more ∙ ap (λ v. v ++ f (slice_index_or xs k d)) is
    ∙ flat_map_more f [] (take k xs) (slice_index_or xs k d)
    ∙ ap (flat_map f) (sym (take_more xs k d few))

-- lists that are the same item by item
pub same_items : {X : Type 0} (xs ys : List X) (d : X) → length xs ≡ length ys → ((k : ℕ) → k < length xs → slice_index_or xs k d ≡ slice_index_or ys k d) → xs ≡ ys
same_items [] [] d long all = refl
same_items [] (y ∷ ys) d long all = absurd (omega arith)
same_items (x ∷ xs) [] d long all = absurd (omega arith)
same_items (x ∷ xs) (y ∷ ys) d long all = ap (λ v. v ∷ xs) (all 0 (omega arith)) ∙ ap (λ v. y ∷ v) (same_items xs ys d (omega arith) (λ k few. all (suc k) (omega arith)))

pub item_mapped : {X Y : Type 0} (f : X → Y) (xs : List X) (k : ℕ) (d : X) (e : Y) → k < length xs → slice_index_or (map f xs) k e ≡ f (slice_index_or xs k d)
item_mapped f [] k d e few = absurd (omega arith)
item_mapped f (x ∷ xs) zero d e few = refl
item_mapped f (x ∷ xs) (suc k) d e few = item_mapped f xs k d e (omega arith)

-- an item that is there, whatever else it would be
pub same_item : {X : Type 0} (xs : List X) (i : ℕ) (x d : X) → i < length xs → x ≡ slice_index_or xs i x → x ≡ slice_index_or xs i d
same_item {X} xs i x d few is = is ∙ by xs i few
  where
    by : (ys : List X) (j : ℕ) → j < length ys → slice_index_or ys j x ≡ slice_index_or ys j d
    by [] j h = absurd (omega arith)
    by (y ∷ ys) zero h = refl
    by (y ∷ ys) (suc j) h = by ys j (omega arith)
