-- What is there of a list of files while one after another is written.
use Rattle.std.proofs.Common.{◌≡◌, ℕ, ◌-◌, true, false, List, [], ◌∷◌, ◌++◌, length, take, drop, Option, Some, None, refl, sym, ◌∙◌, ap, subst, inl, inr, append-nil, arith, length-append}
use Rattle.std.specs.Option.{option_map}
use Rattle.std.proofs.lemmas.List.{take-append-drop}
use Rattle.std.proofs.Math.Seq.{take-append_seam, drop-append_seam, take-length}
use Rattle.mesh_outside.specs.declared.files.Gained.{Gained}
use Rattle.mesh_outside.specs.Gained.{file_with, begun, IsOpen, with_last, appended, AppendsPrefix, Gains, GainsPrefix}

-- the last file of a list alone is changed
pub with_last-snoc : (change : Gained → Gained) (files : List Gained) (last : Gained) → with_last change (files ++ last ∷ []) ≡ files ++ change last ∷ []
with_last-snoc change files last =
    let place : length (files ++ last ∷ []) - 1 ≡ length files = omega (arith, length-append files (last ∷ [])) in
    rw (place, take-append_seam, drop-append_seam)

-- a file that was begun and then appended to
pub appended-begun : (name bytes : List ℕ) (files : List Gained) → appended bytes (begun name files) ≡ files ++ file_with name bytes false ∷ []
appended-begun name bytes files = with_last-snoc (λ last. record last { bytes = last.bytes ++ bytes }) files (file_with name [] false)

-- a file of which a prefix of the bytes was written is a part of it
pub part_written : (old : Option (List Gained)) (name bytes : List ℕ) (count : ℕ) → GainsPrefix old (option_map (appended (take count bytes)) (option_map (begun name) old)) (file_with name bytes true ∷ [])
part_written old name bytes count = record {
  prefix = file_with name (take count bytes) false ∷ [];
  is_prefix = inr (record {
    first = [];
    file = file_with name bytes true;
    part = file_with name (take count bytes) false;
    others = [];
    is_part = record { name = refl; rest = drop count bytes; bytes = take-append-drop count bytes; whole = refl };
    gained_are = refl;
    files_are = refl;
  });
  gained = each old;
}
  where
    each : (w : Option (List Gained)) → Gains w (option_map (appended (take count bytes)) (option_map (begun name) w)) (file_with name (take count bytes) false ∷ [])
    each None = refl
    each (Some files) = ap Some (appended-begun name (take count bytes) files)

-- nothing was gained, which is a prefix of some files
pub nothing_gained : (old new : Option (List Gained)) (file : Gained) (files : List Gained) → new ≡ old → GainsPrefix old new (file ∷ files)
nothing_gained old new file files same = record {
  prefix = [];
  is_prefix = inl (record { missing = file; others = files; together = refl });
  gained = same ∙ each old;
}
  where
    each : (w : Option (List Gained)) → Gains w w []
    each None = refl
    each (Some before) = ap Some (sym (append-nil before))

-- a write that stopped while it appended
pub stopped_at_append : (old between new : Option (List Gained)) (name bytes : List ℕ) → between ≡ option_map (begun name) old → AppendsPrefix bytes between new → GainsPrefix old new (file_with name bytes true ∷ [])
stopped_at_append old between new name bytes begins appends =
    let P : Option (List Gained) → Type 0 = λ w. GainsPrefix old w (file_with name bytes true ∷ []) in
    let e : new ≡ option_map (appended (take appends.count bytes)) (option_map (begun name) old) = appends.is ∙ ap (option_map (appended (take appends.count bytes))) begins in
    subst P (sym e) (part_written old name bytes appends.count)

-- a write that stopped before it finished, with all bytes there
pub stopped_at_finish : (old between new : Option (List Gained)) (name bytes : List ℕ) → between ≡ option_map (begun name) old → new ≡ option_map (appended bytes) between → GainsPrefix old new (file_with name bytes true ∷ [])
stopped_at_finish old between new name bytes begins appends =
    stopped_at_append old between new name bytes begins (record { count = length bytes; is = appends ∙ ap (λ b. option_map (appended b) between) (sym (take-length bytes)) })

-- an append of nothing leaves the files as they are
pub appended-nil : (files : List Gained) → IsOpen files → appended [] files ≡ files
appended-nil files open_file =
    let P : List Gained → Type 0 = λ w. appended [] w ≡ w in
    subst P (sym open_file.2)
    (with_last-snoc (λ last. record last { bytes = last.bytes ++ [] }) open_file.0 open_file.1
    ∙ ap (λ b. open_file.0 ++ record open_file.1 { bytes = b } ∷ []) (append-nil open_file.1.bytes))

-- a failing append that added nothing
pub nothing_appended : (bytes : List ℕ) (old new : List Gained) → IsOpen old → new ≡ old → AppendsPrefix bytes (Some old) (Some new)
nothing_appended bytes old new open_file same = record {
  count = 0;
  is = ap Some (same ∙ sym (appended-nil old open_file));
}
