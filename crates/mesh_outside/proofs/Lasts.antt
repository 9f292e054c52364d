-- The last file of a list, read and changed in place.
use Rattle.std.proofs.Common.{◌≡◌, ℕ, suc, ◌+◌, ◌-◌, ◌<◌, List, [], ◌∷◌, ◌++◌, length, take, drop, map, get_or, set, sym, ◌∙◌, ap, arith, length-append}
use Rattle.std.proofs.lemmas.List.{set_split}
use Rattle.std.proofs.Math.Seq.{drop-cons, drop-length}
use Rattle.mesh_outside.specs.declared.files.Gained.{Gained}
use Rattle.mesh_outside.specs.Gained.{IsOpen, with_last}

-- what stands from the last place on is the last file alone
last_alone : (files : List Gained) (i : ℕ) (last : Gained) → i + 1 ≡ length files → last ≡ get_or files i last → drop i files ≡ last ∷ []
last_alone files i last place is =
    let below : i < length files = omega arith in
    let next : suc i ≡ length files = omega arith in
    drop-cons files i last below ∙ ap (λ x. x ∷ drop (suc i) files) (sym is) ∙ ap (λ n. last ∷ drop n files) next ∙ ap (λ xs. last ∷ xs) (drop-length files)

-- a write to the last place changes the last file
pub set-last : (change : Gained → Gained) (files : List Gained) (i : ℕ) (last : Gained) → 0 < length files → i ≡ length files - 1 → last ≡ get_or files i last → set files i (change last) ≡ with_last change files
set-last change files i last some place is =
    let below : i < length files = omega arith in
    let whole : i + 1 ≡ length files = omega arith in
    let next : suc i ≡ length files = omega arith in
    set_split files i (change last) below
    ∙ ap (λ n. take i files ++ change last ∷ drop n files) next
    ∙ ap (λ xs. take i files ++ change last ∷ xs) (drop-length files)
    ∙ ap (λ xs. take i files ++ map change xs) (sym (last_alone files i last whole is))
    ∙ ap (λ n. take n files ++ map change (drop n files)) place

-- where a file is unfinished, there is one
pub some_where_open : (files : List Gained) → IsOpen files → 0 < length files
some_where_open files open_file = omega (arith, ap length open_file.2, length-append open_file.0 (open_file.1 ∷ []))
