-- Pieces of a file, one behind another.
use Rattle.std.proofs.Common.{◌≡◌, ◌⊎◌, inl, inr, ℕ, ◌+◌, ◌<◌, ◌≤◌, List, [], ◌++◌, length, take, drop, Option, Some, None, Ok, refl, sym, ◌∙◌, ap, subst, arith, length-append, length-take, take_at, take_all, take-add, append-nil}
use Rattle.mesh_outside.specs.declared.files.File.{File}
use Rattle.mesh_outside.specs.Depot.{IsPiece, ReadsOf, Reads}
use Rattle.mesh_outside.specs.Files.{input_of}
use Rattle.mesh_outside.specs.Reading.{IsInput, ReadsInput}
use Rattle.input_file.specs.declared.pieces.DeckReader.{DeckReader}
use Rattle.input_file.specs.Pieces.{HasRead}
use Rattle.mesh_input.specs.FileRead.{BeginsOf, Begins, HasReadFront, HasReadFile}

-- what a piece gives stands at the start of the buffer
piece_is : (all : List ℕ) (from : ℕ) (old new : List ℕ) (count : ℕ) → IsPiece all from old new count → take count new ≡ take count (drop from all)
piece_is all from old new count piece =
    let size : length (take count (drop from all)) ≡ count = omega (arith, length-take count (drop from all), piece.in_file) in
    ap (take count) piece.start ∙ take_at (take count (drop from all)) (drop count old) count size

begins-more : (all bytes : List ℕ) (from : ℕ) (old new : List ℕ) (count : ℕ) → IsPiece all from old new count → length bytes ≡ from → bytes ≡ take (length bytes) all → bytes ++ take count new ≡ take (from + count) all
begins-more all bytes from old new count piece size front =
    ap (λ (t : List ℕ). bytes ++ t) (piece_is all from old new count piece)
    ∙ ap (λ (t : List ℕ). t ++ take count (drop from all)) (front ∙ ap (λ (n : ℕ). take n all) size)
    ∙ sym (take-add from count all)

-- one piece more
more-of : (input : Option (List ℕ)) (bytes : List ℕ) (from : ℕ) (old new : List ℕ) (count : ℕ) → ReadsOf input from old new (Ok count) → length bytes ≡ from → BeginsOf input bytes → length (bytes ++ take count new) ≡ from + count → BeginsOf input (bytes ++ take count new)
more-of None bytes from old new count read size front whole = absurd read
more-of (Some all) bytes from old new count read size front whole =
    begins-more all bytes from old new count read size front ∙ ap (λ (n : ℕ). take n all) (sym whole)

begins-on : (inputs : Option (List File)) (name bytes : List ℕ) (from : ℕ) (old new : List ℕ) (count : ℕ) → Reads inputs name from old new (Ok count) → length bytes ≡ from → Begins inputs name bytes → length (bytes ++ take count new) ≡ from + count → Begins inputs name (bytes ++ take count new)
begins-on None name bytes from old new count read size front whole = tt
begins-on (Some files) name bytes from old new count read size front whole = more-of (input_of files name) bytes from old new count read size front whole

pub front-more : (inputs : Option (List File)) (name : List ℕ) (r s : DeckReader) (from : ℕ) (old new : List ℕ) (count : ℕ) → count ≤ length new → Reads inputs name from old new (Ok count) → ((bytes : List ℕ) → HasRead r bytes → HasRead s (bytes ++ take count new)) → HasReadFront inputs name r from → HasReadFront inputs name s (from + count)
front-more inputs name r s from old new count within read feeds front =
    let size : length front.bytes ≡ from = front.length_is in
    let whole : length (front.bytes ++ take count new) ≡ from + count = omega (arith, length-append front.bytes (take count new), length-take count new) in
    record {
      bytes = front.bytes ++ take count new;
      were_fed = feeds front.bytes front.were_fed;
      begin_it = begins-on inputs name front.bytes from old new count read size front.begin_it whole;
      length_is = whole;
    }

-- an empty piece ends the file
last-of : (input : Option (List ℕ)) (bytes : List ℕ) (from limit : ℕ) (old new : List ℕ) → ReadsOf input from old new (Ok 0) → 0 < length old → from ≤ limit → length bytes ≡ from → BeginsOf input bytes → IsInput input limit bytes
last-of None bytes from limit old new read room fits size front = absurd read
last-of (Some all) bytes from limit old new read room fits size front = by (read.empty refl)
  where
    by : (length old ≡ 0) ⊎ (length all ≤ from) → bytes ≡ take (limit + 1) all
    by (inl none) = absurd (omega arith)
    by (inr ended) =
        let short : length all ≤ limit + 1 = omega arith in
        let here : length all ≤ length bytes = omega arith in
        front ∙ take_all (length bytes) all here ∙ sym (take_all (limit + 1) all short)

last-on : (inputs : Option (List File)) (name bytes : List ℕ) (from limit : ℕ) (old new : List ℕ) → Reads inputs name from old new (Ok 0) → 0 < length old → from ≤ limit → length bytes ≡ from → Begins inputs name bytes → ReadsInput inputs name limit bytes
last-on None name bytes from limit old new read room fits size front = tt
last-on (Some files) name bytes from limit old new read room fits size front = last-of (input_of files name) bytes from limit old new read room fits size front

pub file-ended : (inputs : Option (List File)) (name : List ℕ) (r s : DeckReader) (from limit : ℕ) (old new : List ℕ) (count : ℕ) → count ≡ 0 → 0 < length old → from ≤ limit → Reads inputs name from old new (Ok count) → ((bytes : List ℕ) → HasRead r bytes → HasRead s (bytes ++ take count new)) → HasReadFront inputs name r from → HasReadFile inputs name limit s
file-ended inputs name r s from limit old new count none room fits read feeds front =
    let P : ℕ → Type 0 = λ n. HasRead s (front.bytes ++ take n new) in
    let empty : front.bytes ++ take 0 new ≡ front.bytes = append-nil front.bytes in
    record {
      bytes = front.bytes;
      were_fed = subst (λ (b : List ℕ). HasRead s b) empty (subst P none (feeds front.bytes front.were_fed));
      are_it = last-on inputs name front.bytes from limit old new (subst (λ (n : ℕ). Reads inputs name from old new (Ok n)) none read) room fits front.length_is front.begin_it;
    }

-- one byte past the limit was read
full-of : (input : Option (List ℕ)) (bytes : List ℕ) (limit : ℕ) → length bytes ≡ limit + 1 → BeginsOf input bytes → IsInput input limit bytes
full-of None bytes limit size front = let none : length bytes ≡ 0 = ap length front in absurd (omega arith)
full-of (Some all) bytes limit size front = front ∙ ap (λ (n : ℕ). take n all) size

full-on : (inputs : Option (List File)) (name bytes : List ℕ) (limit : ℕ) → length bytes ≡ limit + 1 → Begins inputs name bytes → ReadsInput inputs name limit bytes
full-on None name bytes limit size front = tt
full-on (Some files) name bytes limit size front = full-of (input_of files name) bytes limit size front

pub file-too-long : (inputs : Option (List File)) (name : List ℕ) (r : DeckReader) (from limit : ℕ) → from ≡ limit + 1 → HasReadFront inputs name r from → HasReadFile inputs name limit r
file-too-long inputs name r from limit past front =
    record { bytes = front.bytes; were_fed = front.were_fed; are_it = full-on inputs name front.bytes limit (front.length_is ∙ past) front.begin_it }

-- nothing was read yet
begins-nil : (inputs : Option (List File)) (name : List ℕ) → Begins inputs name []
begins-nil None name = tt
begins-nil (Some files) name = of (input_of files name)
  where
    of : (input : Option (List ℕ)) → BeginsOf input []
    of None = refl
    of (Some all) = refl

pub front-nil : (inputs : Option (List File)) (name : List ℕ) (r : DeckReader) → HasRead r [] → HasReadFront inputs name r 0
front-nil inputs name r fed = record { bytes = []; were_fed = fed; begin_it = begins-nil inputs name; length_is = refl }
