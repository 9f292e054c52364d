-- What the forms of reading give, once it is known what stands at a key.
use Rattle.std.proofs.Common.{◌≡◌, ℕ, ◌≤◌, Bool, true, false, refl, ap, ◌∙◌, arith}
use Rattle.std.specs.Prelude.{◌==◌, ◌&&◌, ◌||◌, nat_le, ℤ, Option, Some, None, Result, Ok}
use Rattle.std.specs.Str.{bytes_eq}
use Rattle.std.specs.Map.{lookup}
use Rattle.std.proofs.lemmas.Bool.Decides.{nat_tests}
use Rattle.input_file.specs.Texts.{Text}
use Rattle.input_file.specs.Blocks.{Entries, Blocks, keys_of, entry}
use Rattle.deck_values.specs.declared.fault.ProblemFault.{ProblemFault}
use Rattle.deck_values.specs.Reading.{◌>>=◌}
use Rattle.deck_values.specs.Numbers.{number_of, signed_of}
use Rattle.deck_values.specs.BlockReader.{value_at, number, number_or_one, signed}

-- a reading that gives a value goes on with it
pub then-ok : {A B : Type 0} (r : Result A ProblemFault) (x : A) (next : A → Result B ProblemFault) (y : Result B ProblemFault) → r ≡ Ok x → next x ≡ y → (r >>= next) ≡ y
then-ok r x next y h k = ap (λ s. s >>= next) h ∙ k

-- what stands at a key of a block
pub entry-at : (d : Blocks) (block key : Text) (es : Entries) (v : Option Text) → keys_of d block ≡ es → lookup (bytes_eq key) es ≡ v → entry d block key ≡ v
entry-at d block key es v at h = ap (lookup (bytes_eq key)) at ∙ h

pub value-there : {A : Type 0} (form : Text → Option A) (d : Blocks) (block key text : Text) (default : Option A) (x : A) → entry d block key ≡ Some text → form text ≡ Some x → value_at form d block key default ≡ Ok x
value-there form d block key text default x there is = rw (there, is) refl

pub value-absent : {A : Type 0} (form : Text → Option A) (d : Blocks) (block key : Text) (x : A) → entry d block key ≡ None → value_at form d block key (Some x) ≡ Ok x
value-absent form d block key x absent = rw absent refl

within : (least n greatest : ℕ) → least ≤ n → n ≤ greatest → (nat_le least n && nat_le n greatest) ≡ true
within least n greatest low high =
    let a : nat_le least n ≡ true = grind (arith, nat_tests) in
    let b : nat_le n greatest ≡ true = grind (arith, nat_tests) in
    rw (a, b) refl

or-true : (b : Bool) → (b || true) ≡ true
or-true true = refl
or-true false = refl

pub number-there : (d : Blocks) (block key text : Text) (least greatest n : ℕ) (default : Option ℕ) → entry d block key ≡ Some text → number_of text ≡ Some n → least ≤ n → n ≤ greatest → number d block key least greatest default ≡ Ok n
unfolding number
number-there d block key text least greatest n default there is low high =
    then-ok (value_at number_of d block key default) n _ (Ok n) (value-there number_of d block key text default n there is) (rw (within least n greatest low high) refl)

pub number-absent : (d : Blocks) (block key : Text) (least greatest n : ℕ) → entry d block key ≡ None → least ≤ n → n ≤ greatest → number d block key least greatest (Some n) ≡ Ok n
unfolding number
number-absent d block key least greatest n absent low high =
    then-ok (value_at number_of d block key (Some n)) n _ (Ok n) (value-absent number_of d block key n absent) (rw (within least n greatest low high) refl)

pub one-or-there : (d : Blocks) (block key text : Text) (least greatest n : ℕ) (default : Option ℕ) → entry d block key ≡ Some text → number_of text ≡ Some n → least ≤ n → n ≤ greatest → number_or_one d block key least greatest default ≡ Ok n
unfolding number_or_one
one-or-there d block key text least greatest n default there is low high =
    then-ok (value_at number_of d block key default) n _ (Ok n) (value-there number_of d block key text default n there is) (rw (within least n greatest low high, or-true (n == 1)) refl)

pub one-absent : (d : Blocks) (block key : Text) (least greatest : ℕ) → entry d block key ≡ None → number_or_one d block key least greatest (Some 1) ≡ Ok 1
unfolding number_or_one
one-absent d block key least greatest absent =
    then-ok (value_at number_of d block key (Some 1)) 1 _ (Ok 1) (value-absent number_of d block key 1 absent) refl

pub signed-there : (d : Blocks) (block key text : Text) (allowed : ℤ → Bool) (default : Option ℤ) (z : ℤ) → entry d block key ≡ Some text → signed_of text ≡ Some z → allowed z ≡ true → signed d block key allowed default ≡ Ok z
unfolding signed
signed-there d block key text allowed default z there is fits =
    then-ok (value_at signed_of d block key default) z _ (Ok z) (value-there signed_of d block key text default z there is) (rw fits refl)

pub signed-absent : (d : Blocks) (block key : Text) (allowed : ℤ → Bool) (z : ℤ) → entry d block key ≡ None → allowed z ≡ true → signed d block key allowed (Some z) ≡ Ok z
unfolding signed
signed-absent d block key allowed z absent fits =
    then-ok (value_at signed_of d block key (Some z)) z _ (Ok z) (value-absent signed_of d block key z absent) (rw fits refl)
