-- The buffers that a letter makes, part by part.
use Rattle.std.proofs.Common.{◌≡◌, ◌∙◌, sym, ap, refl, ℕ, zero, suc, ◌+◌, ◌<◌, cond, Bool, true, false, List, [], ◌∷◌, ◌++◌, length, map, take, slice_index_or, arith}
use Rattle.std.specs.Prelude.{Result, Ok, Err, OnErr}
use Rattle.std.specs.List.{filter}
use Rattle.std.proofs.lemmas.Bool.{cond-true}
use Rattle.std.proofs.lemmas.List.{map-append}
use Rattle.std.proofs.lemmas.List.Elements.{filter_more}
use Rattle.block_layout.specs.declared.layout.Layout.{Layout}
use Rattle.cell_block.specs.State.{HasLayout, Stored}
use Rattle.cell_block.proofs.Layouts.{like}
use Rattle.ghost_buffers.specs.declared.letter.Letter.{Letter}
use Rattle.ghost_buffers.specs.declared.part.Part.{Part}
use Rattle.problem_set.specs.Settings.{Settings}
use Rattle.cycle_stores.specs.Arrivals.{made_by_letter, makes, zeros_for}

pub on_err : {T E : Type 0} (r : Result T E) (P : Type 0) → P → OnErr r P
on_err (Ok v) P p = tt
on_err (Err e) P p = p

-- something passes
none_left : {X : Type 0} (x : X) (xs : List X) → (x ∷ xs) ≡ [] → ⊥
none_left x xs e = cc

rest_left : {X : Type 0} (b : Bool) (y : X) (xs : List X) → (xs ≡ [] → ⊥) → cond b (y ∷ xs) xs ≡ [] → ⊥
rest_left true y xs some none = none_left y xs none
rest_left false y xs some none = some none

pub some_pass : {X : Type 0} (p : X → Bool) (xs : List X) (i : ℕ) (x : X) → i < length xs → x ≡ slice_index_or xs i x → p x ≡ true → filter p xs ≡ [] → ⊥
some_pass p [] i x lt is pass none = absurd (omega (arith, lt))
some_pass p (y ∷ rest) zero x lt is pass none =
    none_left y (filter p rest) (sym (cond-true (p y) (y ∷ filter p rest) (filter p rest) (ap p (sym is) ∙ pass)) ∙ none)
some_pass p (y ∷ rest) (suc i) x lt is pass none = rest_left (p y) y (filter p rest) (some_pass p rest i x (omega (arith, lt)) is pass) none

-- one part more
pub made_more : {X Y : Type 0} (f : X → Y) (p : X → Bool) (xs : List X) (i : ℕ) (x : X) (old : List Y) → i < length xs → x ≡ slice_index_or xs i x → p x ≡ true
    → old ≡ map f (filter p (take i xs)) → old ++ f x ∷ [] ≡ map f (filter p (take (i + 1) xs))
made_more {X} {Y} f p xs i x old lt is pass so =
    ap (λ (ys : List Y). ys ++ f x ∷ []) so
    ∙ sym (map-append f (filter p (take i xs)) (x ∷ []))
    ∙ sym (ap (λ (zs : List X). map f zs) (filter_more p xs i x lt
    ∙ ap (λ (z : X). filter p (take i xs) ++ cond (p z) (z ∷ []) []) (sym is)
    ∙ ap (λ (b : Bool). filter p (take i xs) ++ cond b (x ∷ []) []) pass))

pub made_still : {X Y : Type 0} (f : X → Y) (p : X → Bool) (xs : List X) (i : ℕ) (x : X) (old : List Y) → i < length xs → x ≡ slice_index_or xs i x → p x ≡ false
    → old ≡ map f (filter p (take i xs)) → old ≡ map f (filter p (take (i + 1) xs))
made_still {X} {Y} f p xs i x old lt is pass so =
    so ∙ sym (ap (λ (zs : List X). map f zs) (filter_more p xs i x lt
    ∙ ap (λ (z : X). filter p (take i xs) ++ cond (p z) (z ∷ []) []) (sym is)
    ∙ ap (λ (b : Bool). filter p (take i xs) ++ cond b (x ∷ []) []) pass ∙ at_end (filter p (take i xs))))
  where
    at_end : (zs : List X) → zs ++ [] ≡ zs
    at_end [] = refl
    at_end (z ∷ zs) = ap (λ (r : List X). z ∷ r) (at_end zs)

-- no buffer is made only where no part makes one
map_none : {X Y : Type 0} (f : X → Y) (xs : List X) → map f xs ≡ [] → xs ≡ []
map_none f [] e = refl
map_none f (x ∷ xs) e = absurd (cc)

pub none_made : (p : Settings) (l : Layout) (s : Stored) (letter : Letter) (stamp : ℕ) → letter.flux ≡ false → (filter (makes p s letter.to) letter.parts ≡ [] → ⊥)
    → made_by_letter p l s letter stamp ≡ [] → ⊥
none_made p l s letter stamp ghosts some none =
    let f = zeros_for l letter.to stamp in
    let xs = filter (makes p s letter.to) letter.parts in
    some (map_none f xs (sym (ap (λ (b : Bool). cond b [] (map f xs)) ghosts) ∙ none))

-- a buffer of zeros is told by the axes and the cells of a layout alone
pub zeros_like : (s : Stored) (l other : Layout) (to stamp : ℕ) (part : Part) → HasLayout s l → HasLayout s other → zeros_for l to stamp part ≡ zeros_for other to stamp part
zeros_like s l other to stamp part has also =
    like (λ (v : Layout). zeros_for v to stamp part) other l (has.dims ∙ sym also.dims) (has.cells ∙ sym also.cells) (λ k. refl)
