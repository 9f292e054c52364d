-- A file is looked for from the first on.
use Rattle.std.proofs.Common.{◌≡◌, ℕ, ◌+◌, ◌<◌, List, ◌∷◌, length, drop, get_or, Some, sym, ◌∙◌, ap, suc, add-one}
use Rattle.std.specs.Prelude.{if◌then◌else◌}
use Rattle.std.specs.Str.{bytes_eq}
use Rattle.std.proofs.Math.Seq.{drop-cons}
use Rattle.mesh_outside.specs.declared.files.File.{File}
use Rattle.mesh_outside.specs.Files.{input_of}

pub input_of-drop : (files : List File) (i : ℕ) (f : File) (name : List ℕ) → i < length files → f ≡ get_or files i f → input_of (drop i files) name ≡ (if bytes_eq f.name name then Some f.bytes else input_of (drop (i + 1) files) name)
input_of-drop files i f name below is =
    ap (λ xs. input_of xs name) (drop-cons files i f below ∙ ap (λ x. x ∷ drop (suc i) files) (sym is))
    ∙ ap (λ n. if bytes_eq f.name name then Some f.bytes else input_of (drop n files) name) (sym (add-one i))
