-- What a file gives of which at most one byte more than a deck may have was read.
use Rattle.std.proofs.Common.{◌≡◌, ℕ, ◌+◌, ◌<◌, ◌≤◌, Bool, true, false, nat_lt, List, ◌++◌, length, take, Option, Some, None, Result, Ok, Err, refl, sym, ◌∙◌, ap, subst, arith, append-nil}
use Rattle.std.specs.Prelude.{if◌then◌else◌}
use Rattle.std.proofs.lemmas.Bool.Decides.{nat_tests}
use Rattle.std.proofs.lemmas.List.{take-append-drop, length-take}
use Rattle.std.proofs.Math.ListN.{drop_of_length-le}
use Rattle.std.specs.Str.Lossy.{utf8_valid_len}
use Rattle.input_file.specs.Texts.{Text}
use Rattle.input_file.specs.Blocks.{Blocks}
use Rattle.input_file.specs.Decks.{and_then, deck, deck_of_text, greatest_length}
use Rattle.input_file.specs.declared.fault.DeckFault.{DeckFault}
use Rattle.input_file.specs.declared.fault.DeckFault.TheVariants.{NotText, TooLong}
use Rattle.mesh_outside.specs.declared.fault.OutFault.{OutFault}
use Rattle.mesh_outside.specs.declared.fault.OutFault.TheVariants.{Failed, NoMemory as out_memory}
use Rattle.mesh_outside.specs.declared.files.File.{File}
use Rattle.mesh_outside.specs.Depot.{DepotSeen, AfterReads}
use Rattle.mesh_outside.specs.Files.{input_of}
use Rattle.mesh_outside.specs.Reading.{IsInput, ReadsInput}
use Rattle.mesh_input.specs.declared.input.Input.{Input}
use Rattle.mesh_input.specs.declared.fault.Refusal.{Refusal}
use Rattle.mesh_input.specs.declared.fault.InputFault.{InputFault}
use Rattle.mesh_input.specs.declared.fault.InputFault.TheVariants.{Refused, ReadFault, NoMemory}
use Rattle.mesh_outside.proofs.Afters.{reads_as}
use Rattle.mesh_input.specs.Fault.{stop_of_reading}
use Rattle.mesh_input.specs.Input.{SeenInput, accepted_input, input_of_deck, or_deck_fault, overridden_by}
use Rattle.mesh_input.specs.Input.{Answers, seen_input}
use Rattle.mesh_input.specs.File.{AnswersFile, Gives}

longer_means : (m n : ℕ) → nat_lt m n ≡ true → m < n
longer_means m n h = grind (arith, nat_tests)

shorter_means : (m n : ℕ) → nat_lt m n ≡ false → n ≤ m
shorter_means m n h = grind (arith, nat_tests)

longer_is : (m n : ℕ) → m < n → nat_lt m n ≡ true
longer_is m n h = grind (arith, nat_tests)

take_all : (n : ℕ) (all : List ℕ) → length all ≤ n → take n all ≡ all
take_all n all short = sym (append-nil (take n all)) ∙ ap (λ xs. take n all ++ xs) (sym (drop_of_length-le all short)) ∙ take-append-drop n all

-- what is answered of a text that is no longer than a limit, and of a longer one
abbrev pub within : {T : Type 0} → ℕ → T → (List ℕ → T) → List ℕ → T
within limit long rest bytes = if nat_lt limit (length bytes) then long else rest bytes

-- one byte more than the limit shows that a text is too long
front_same : {T : Type 0} (limit : ℕ) (all taken : List ℕ) (long : T) (rest : List ℕ → T) → taken ≡ take (limit + 1) all → within limit long rest taken ≡ within limit long rest all
front_same {T = T} limit all taken long rest is = by (nat_lt limit (length all)) refl
  where
    both_long : (b c : Bool) (x y : T) → b ≡ true → c ≡ true → (if b then long else x) ≡ (if c then long else y)
    both_long b c x y p q = rw p (rw q refl)

    by : (b : Bool) → nat_lt limit (length all) ≡ b → within limit long rest taken ≡ within limit long rest all
    by true longer =
        let more : limit < length all = longer_means limit (length all) longer in
        let front : length taken ≡ length (take (limit + 1) all) = ap length is in
        let count : limit < length taken = omega (arith, length-take (limit + 1) all) in
        both_long (nat_lt limit (length taken)) (nat_lt limit (length all)) (rest taken) (rest all) (longer_is limit (length taken) count) longer
    by false short =
        let least : length all ≤ limit = shorter_means limit (length all) short in
        let least_more : length all ≤ limit + 1 = omega arith in
        ap (within limit long rest) (is ∙ take_all (limit + 1) all least_more)

-- the deck of what was read is that of the whole file
deck_same : (limit : ℕ) (all taken : List ℕ) → limit ≡ greatest_length → taken ≡ take (limit + 1) all → deck taken ≡ deck all
deck_same limit all taken same is =
    let rest : List ℕ → Result Blocks DeckFault = λ bytes. if nat_lt (utf8_valid_len bytes) (length bytes) then Err (NotText (utf8_valid_len bytes)) else deck_of_text bytes in
    let P : ℕ → Type 0 = λ n. within n (Err TooLong) rest taken ≡ within n (Err TooLong) rest all in
    subst P same (front_same limit all taken (Err TooLong) rest is)

input_same : (limit : ℕ) (all taken : List ℕ) (words : List Text) → limit ≡ greatest_length → taken ≡ take (limit + 1) all → accepted_input taken words ≡ accepted_input all words
input_same limit all taken words same is =
    ap (λ (v : Result Blocks DeckFault). and_then (or_deck_fault v) (λ d. and_then (overridden_by 1 d words) input_of_deck)) (deck_same limit all taken same is)

-- what the file gives, from what the bytes that were read give
gives_file : (limit : ℕ) (inputs : Option (List File)) (name taken : List ℕ) (words : List Text) (given : Result SeenInput Refusal) → limit ≡ greatest_length → ReadsInput inputs name limit taken → accepted_input taken words ≡ given → Gives inputs name words given
gives_file limit None name taken words given same reads is = record { bytes = taken; are_there = tt; given_is = is }
gives_file limit (Some files) name taken words given same reads is = of (input_of files name) refl reads
  where
    of : (input : Option (List ℕ)) → input_of files name ≡ input → IsInput input limit taken → Gives (Some files) name words given
    of None there reading = absurd reading
    of (Some all) there reading = record { bytes = all; are_there = there; given_is = sym (input_same limit all taken words same reading) ∙ is }

pub answers_file : (limit : ℕ) (inputs : Option (List File)) (name taken : List ℕ) (words : List Text) (result : Result Input InputFault) → limit ≡ greatest_length → ReadsInput inputs name limit taken → Answers seen_input result (accepted_input taken words) → AnswersFile inputs name words result
answers_file limit inputs name taken words (Ok input) same reads told = gives_file limit inputs name taken words (Ok (seen_input input)) same reads told
answers_file limit inputs name taken words (Err (Refused r)) same reads told = gives_file limit inputs name taken words (Err r) same reads told
answers_file limit inputs name taken words (Err ReadFault) same reads told = absurd told
answers_file limit inputs name taken words (Err NoMemory) same reads told = tt

-- bytes that are there are no fault of reading
pub no_read_fault : (result : Result Input InputFault) (given : Result SeenInput Refusal) → Answers seen_input result given → result ≡ Err ReadFault → ⊥
no_read_fault (Ok input) given told is = cc
no_read_fault (Err (Refused r)) given told is = cc
no_read_fault (Err ReadFault) given told is = absurd told
no_read_fault (Err NoMemory) given told is = cc

-- a fault of reading is one of the file where the read failed
pub reading_stops : {T : Type 0} (name : List ℕ) (fault : OutFault) (stop : InputFault) (a b : DepotSeen) → stop ≡ stop_of_reading fault → AfterReads name (◌≡◌ {A = Result T OutFault} (Err fault) (Err Failed)) a b → AfterReads name (◌≡◌ {A = Result Input InputFault} (Err stop) (Err ReadFault)) a b
reading_stops name Failed stop a b is after = reads_as name _ _ a b after (λ _. ap Err is) (λ _. refl)
reading_stops name out_memory stop a b is after = reads_as name _ _ a b after (λ e. cc) (λ e. cc)
