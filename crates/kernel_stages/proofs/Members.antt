-- Members of lists.
use Rattle.std.proofs.Common.{◌≡◌, ◌⊎◌, inl, inr, ℕ, zero, suc, ◌+◌, ◌<◌, ◌≤◌, Bool, true, false, ◌||◌, List, [], ◌∷◌, ◌++◌, map, length, refl, arith, ap, subst, sym, ◌∙◌, Contains}
use Rattle.std.specs.List.{enumerate_from, flat_map, list_any, range_with_len, slice_index_or}

-- an item is one of a list
abbrev pub In : {X : Type 0} → List X → X → Type 0
In [] y = ⊥
In (x ∷ xs) y = (x ≡ y) ⊎ In xs y

pub in_append : {X : Type 0} (xs ys : List X) (y : X) → In (xs ++ ys) y → In xs y ⊎ In ys y
in_append [] ys y h = inr h
in_append (x ∷ xs) ys y (inl e) = inl (inl e)
in_append (x ∷ xs) ys y (inr h) = elim (in_append xs ys y h) [ inl a ↦ inl (inr a) | inr b ↦ inr b ]

pub append_in : {X : Type 0} (xs ys : List X) (y : X) → In xs y ⊎ In ys y → In (xs ++ ys) y
append_in [] ys y (inl h) = absurd h
append_in [] ys y (inr h) = h
append_in (x ∷ xs) ys y (inl (inl e)) = inl e
append_in (x ∷ xs) ys y (inl (inr h)) = inr (append_in xs ys y (inl h))
append_in (x ∷ xs) ys y (inr h) = inr (append_in xs ys y (inr h))

pub in_map : {X Y : Type 0} (g : X → Y) (xs : List X) (y : Y) → In (map g xs) y → (x : X) × In xs x × (g x ≡ y)
in_map g [] y h = absurd h
in_map g (x ∷ xs) y (inl e) = (x, inl refl, e)
in_map g (x ∷ xs) y (inr h) = let (z, at, is) = in_map g xs y h in (z, inr at, is)

pub map_in : {X Y : Type 0} (g : X → Y) (xs : List X) (x : X) → In xs x → In (map g xs) (g x)
map_in g [] x h = h
map_in g (y ∷ ys) x (inl e) = inl (ap g e)
map_in g (y ∷ ys) x (inr h) = inr (map_in g ys x h)

pub in_flat : {X Y : Type 0} (g : X → List Y) (xs : List X) (y : Y) → In (flat_map g xs) y → (x : X) × In xs x × In (g x) y
in_flat g [] y h = absurd h
in_flat g (x ∷ xs) y h = elim (in_append (g x) (flat_map g xs) y h) [
  | inl a ↦ (x, inl refl, a)
  | inr b ↦ let (z, at, is) = in_flat g xs y b in (z, inr at, is)
]

pub flat_in : {X Y : Type 0} (g : X → List Y) (xs : List X) (x : X) (y : Y) → In xs x → In (g x) y → In (flat_map g xs) y
flat_in g [] x y h k = absurd h
flat_in g (z ∷ zs) x y (inl e) k = append_in (g z) (flat_map g zs) y (inl (subst (λ v. In (g v) y) (sym e) k))
flat_in g (z ∷ zs) x y (inr h) k = append_in (g z) (flat_map g zs) y (inr (flat_in g zs x y h k))

-- a number of a range
pub in_range : (a n k : ℕ) → In (range_with_len a n) k → (a ≤ k) × (k < a + n)
in_range a zero k h = absurd h
in_range a (suc n) k (inl e) = (omega arith, omega arith)
in_range a (suc n) k (inr h) = let r = in_range (a + 1) n k h in (omega arith, omega arith)

pub range_in : (a n k : ℕ) → k < n → In (range_with_len a n) (a + k)
range_in a zero k h = absurd (omega arith)
range_in a (suc n) zero h = inl (omega arith)
range_in a (suc n) (suc k) h = let e : a + 1 + k ≡ a + suc k = omega arith in inr (subst (λ v. In (range_with_len (a + 1) n) v) e (range_in (a + 1) n k (omega arith)))

-- an item with its number
pub record IsAt {X : Type 0} (xs : List X) (k : ℕ) (x : X) : Type 0 where
  pub few : k < length xs
  pub is : slice_index_or xs k x ≡ x

pub in_numbered : {X : Type 0} (n : ℕ) (xs : List X) (p : ℕ × X) → In (enumerate_from n xs) p → (k : ℕ) × (p.0 ≡ n + k) × IsAt xs k p.1
in_numbered n [] p h = absurd h
in_numbered n (x ∷ xs) p (inl e) = (0, sym (ap (λ (q : ℕ × _). q.0) e) ∙ omega arith, record { few = omega arith; is = ap (λ (q : ℕ × _). q.1) e })
in_numbered n (x ∷ xs) p (inr h) =
    let (k, number, at) = in_numbered (n + 1) xs p h in
    let few = at.few in
    (suc k, omega arith, record { few = omega arith; is = at.is })

pub numbered_in : {X : Type 0} (n : ℕ) (xs : List X) (k : ℕ) (d : X) → k < length xs → In (enumerate_from n xs) (n + k, slice_index_or xs k d)
numbered_in n [] k d h = absurd (omega arith)
numbered_in n (x ∷ xs) zero d h = let e : n ≡ n + 0 = omega arith in inl (ap (λ v. (v, x)) e)
numbered_in n (x ∷ xs) (suc k) d h =
    let e : n + 1 + k ≡ n + suc k = omega arith in
    inr (subst (λ v. In (enumerate_from (n + 1) xs) (v, slice_index_or xs k d)) e (numbered_in (n + 1) xs k d (omega arith)))

-- the other way to say so
pub in_contains : {X : Type 0} (xs : List X) (y : X) → In xs y → Contains xs y
in_contains [] y h = absurd h
in_contains (x ∷ xs) y (inl e) = (0, omega arith, e)
in_contains (x ∷ xs) y (inr h) = let (k, few, is) = in_contains xs y h in (suc k, omega arith, is)

pub contains_in : {X : Type 0} (xs : List X) (y : X) → Contains xs y → In xs y
contains_in [] y (k, few, is) = absurd (omega arith)
contains_in (x ∷ xs) y (zero, few, is) = inl is
contains_in (x ∷ xs) y (suc k, few, is) = inr (contains_in xs y (k, omega arith, is))

-- an item that passes a test
any_by : {X : Type 0} (p : X → Bool) (x : X) (xs : List X) (t : Bool) → p x ≡ t → (t || list_any p xs) ≡ true → (list_any p xs ≡ true → (z : X) × In xs z × (p z ≡ true)) → (z : X) × In (x ∷ xs) z × (p z ≡ true)
any_by p x xs true e k rest = (x, inl refl, e)
any_by p x xs false e k rest = let (z, at, is) = rest k in (z, inr at, is)

pub any_in : {X : Type 0} (p : X → Bool) (xs : List X) → list_any p xs ≡ true → (x : X) × In xs x × (p x ≡ true)
any_in p [] h = absurd (wrong h)
  where
    wrong : false ≡ true → ⊥
    wrong h = cc
any_in p (x ∷ xs) h = any_by p x xs (p x) refl h (λ k. any_in p xs k)

pub in_any : {X : Type 0} (p : X → Bool) (xs : List X) (x : X) → In xs x → p x ≡ true → list_any p xs ≡ true
in_any p [] x h e = absurd h
in_any p (y ∷ ys) x (inl s) e = ap (λ t. t || list_any p ys) (ap p s ∙ e)
in_any p (y ∷ ys) x (inr h) e = either (p y) (list_any p ys) (in_any p ys x h e)
  where
    either : (a b : Bool) → b ≡ true → (a || b) ≡ true
    either true b e = refl
    either false b e = e

-- two tests that tell the same
pub same_tests : (a b : Bool) → (a ≡ true → b ≡ true) → (b ≡ true → a ≡ true) → a ≡ b
same_tests true b f g = sym (f refl)
same_tests false true f g = g refl
same_tests false false f g = refl
