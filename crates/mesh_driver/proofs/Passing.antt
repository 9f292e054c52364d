-- A file that is appended to piece by piece.
use Rattle.std.proofs.Common.{◌≡◌, ℕ, List, [], ◌∷◌, ◌++◌, length, take, drop, Bool, true, false, Option, Some, None, refl, sym, ◌∙◌, ap, subst, append-nil, append_assoc}
use Rattle.std.specs.Option.{option_map, ForSome}
use Rattle.std.proofs.lemmas.List.{take-append-drop}
use Rattle.std.proofs.Math.Seq.{take-append_seam}
use Rattle.mesh_outside.specs.declared.files.Gained.{Gained}
use Rattle.mesh_outside.specs.Gained.{AppendsPrefix, IsOpen, appended}
use Rattle.mesh_outside.proofs.Prefixes.{appended-nil, with_last-snoc}
use Rattle.mesh_texts.specs.Dump.{Steps, joined}
use Rattle.mesh_driver.specs.Pieces.{Passes}

-- some bytes behind others, on files of which the last one is unfinished
on_last : (bytes : List ℕ) (others : List Gained) (last : Gained) → appended bytes (others ++ last ∷ []) ≡ others ++ record last { bytes = last.bytes ++ bytes } ∷ []
on_last bytes others last = with_last-snoc (λ x. record x { bytes = x.bytes ++ bytes }) others last

twice_on : (a b : List ℕ) (files : List Gained) → IsOpen files → appended b (appended a files) ≡ appended (a ++ b) files
twice_on a b files (others, last, e, whole) =
    subst (λ (w : List Gained). appended b (appended a w) ≡ appended (a ++ b) w) (sym e)
    (ap (appended b) (on_last a others last)
    ∙ on_last b others (record last { bytes = last.bytes ++ a })
    ∙ ap (λ (v : List ℕ). others ++ record last { bytes = v } ∷ []) (append_assoc last.bytes a b)
    ∙ sym (on_last (a ++ b) others last))

pub appended_twice : (a b : List ℕ) (w : Option (List Gained)) → ForSome w IsOpen → option_map (appended b) (option_map (appended a) w) ≡ option_map (appended (a ++ b)) w
appended_twice a b None unfinished = refl
appended_twice a b (Some files) unfinished = ap Some (twice_on a b files (unfinished files refl))

-- the last file stays unfinished
open_on : (a : List ℕ) (files : List Gained) → IsOpen files → IsOpen (appended a files)
open_on a files (others, last, e, whole) = (others, record last { bytes = last.bytes ++ a }, ap (appended a) e ∙ on_last a others last, whole)

pub open_after : (a : List ℕ) (v w : Option (List Gained)) → ForSome v IsOpen → w ≡ option_map (appended a) v → ForSome w IsOpen
open_after a None w unfinished is = subst (λ (x : Option (List Gained)). ForSome x IsOpen) (sym is) (λ files e. absurd (none_is files e))
  where
    none_is : (files : List Gained) → ◌≡◌ {A = Option (List Gained)} None (Some files) → ⊥
    none_is files e = cc
open_after a (Some v) w unfinished is = subst (λ (x : Option (List Gained)). ForSome x IsOpen) (sym is) (λ files e. subst IsOpen (some_is files e) (open_on a v (unfinished v refl)))
  where
    some_is : (files : List Gained) → ◌≡◌ {A = Option (List Gained)} (Some (appended a v)) (Some files) → appended a v ≡ files
    some_is files e = cc

-- nothing was appended
pub nothing_on : (w : Option (List Gained)) → ForSome w IsOpen → w ≡ option_map (appended []) w
nothing_on None unfinished = refl
nothing_on (Some files) unfinished = ap Some (sym (appended-nil files (unfinished files refl)))

-- a first part of some bytes was appended
pub first_part : (part rest all : List ℕ) (old new : Option (List Gained)) → part ++ rest ≡ all → new ≡ option_map (appended part) old → AppendsPrefix all old new
first_part part rest all old new together is = record {
  count = length part;
  is = is ∙ ap (λ (b : List ℕ). option_map (appended b) old) (sym (ap (take (length part)) (sym together) ∙ take-append_seam part rest));
}

-- midway: some bytes went to the file, some are in the buffer, and the others are still to come
pub record Midway (all buffer : List ℕ) (rest : List (List ℕ)) (old new : Option (List Gained)) : Type 0 where
  pub gone : List ℕ
  pub together : gone ++ (buffer ++ joined rest) ≡ all
  pub is : new ≡ option_map (appended gone) old

pub at_start : (rest : List (List ℕ)) (w : Option (List Gained)) (buffer : List ℕ) → buffer ≡ [] → ForSome w IsOpen → Midway (joined rest) buffer rest w w
at_start rest w buffer empty unfinished = record { gone = []; together = ap (λ (b : List ℕ). b ++ joined rest) empty; is = nothing_on w unfinished }

no_way : true ≡ false → ⊥
no_way e = cc

-- one piece more is in the buffer
pub one_piece : (all b c : List ℕ) (rest left : List (List ℕ)) (old new : Option (List Gained)) (more : Bool) → more ≡ true → Steps more rest left b c → Midway all b rest old new → Midway all c left old new
one_piece all b c rest left old new false holds step m = absurd (no_way (sym holds))
one_piece all b c rest left old new true holds (piece, rest_is, buffer_is) m = record {
  gone = m.gone;
  together = ap (λ (v : List ℕ). m.gone ++ (v ++ joined left)) buffer_is
      ∙ ap (λ (v : List ℕ). m.gone ++ v) (append_assoc b piece (joined left) ∙ ap (λ (v : List (List ℕ)). b ++ joined v) (sym rest_is))
      ∙ m.together;
  is = m.is;
}

-- no piece was left, and the buffer is seen as a slice
pub no_piece : (all b c d : List ℕ) (rest left : List (List ℕ)) (old new : Option (List Gained)) (more : Bool) → more ≡ false → Steps more rest left b c → d ≡ c → Midway all b rest old new → Midway all d left old new
no_piece all b c d rest left old new true fails step same m = absurd (no_way fails)
no_piece all b c d rest left old new false fails (none, none_left, buffer_is) same m = record {
  gone = m.gone;
  together = ap (λ (v : List ℕ). m.gone ++ (v ++ joined left)) (same ∙ buffer_is)
      ∙ ap (λ (v : List (List ℕ)). m.gone ++ (b ++ joined v)) (none_left ∙ sym none)
      ∙ m.together;
  is = m.is;
}

-- the buffer went to the file, or stays
pub passed_on : (all b c : List ℕ) (rest : List (List ℕ)) (old between new : Option (List Gained)) → ForSome old IsOpen → Midway all b rest old between → Passes b c between new → Midway all c rest old new
passed_on all b c rest old between new unfinished m p = record {
  gone = m.gone ++ p.gone;
  together = append_assoc m.gone p.gone (c ++ joined rest)
      ∙ ap (λ (v : List ℕ). m.gone ++ v) (sym (append_assoc p.gone c (joined rest)) ∙ ap (λ (v : List ℕ). v ++ joined rest) p.together)
      ∙ m.together;
  is = p.is ∙ ap (option_map (appended p.gone)) m.is ∙ appended_twice m.gone p.gone old unfinished;
}

-- no piece could be had
pub stops_between : (all b : List ℕ) (rest : List (List ℕ)) (old new : Option (List Gained)) → Midway all b rest old new → AppendsPrefix all old new
stops_between all b rest old new m = first_part m.gone (b ++ joined rest) all old new m.together m.is

-- the append of the buffer stopped
pub stops_appending : (all b : List ℕ) (rest : List (List ℕ)) (old between new : Option (List Gained)) → ForSome old IsOpen → Midway all b rest old between → AppendsPrefix b between new → AppendsPrefix all old new
stops_appending all b rest old between new unfinished m stop =
    let part = take stop.count b in
    let left = drop stop.count b in
    first_part (m.gone ++ part) (left ++ joined rest) all old new
    (append_assoc m.gone part (left ++ joined rest)
    ∙ ap (λ (v : List ℕ). m.gone ++ v) (sym (append_assoc part left (joined rest)) ∙ ap (λ (v : List ℕ). v ++ joined rest) (take-append-drop stop.count b))
    ∙ m.together)
    (stop.is ∙ ap (option_map (appended part)) m.is ∙ appended_twice m.gone part old unfinished)
