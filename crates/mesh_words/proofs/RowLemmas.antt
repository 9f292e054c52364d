-- What was read of an id, from the rows of the matches.
use Rattle.std.proofs.Common.{◌≡◌, true, false, cond, List, [], ◌∷◌, Option, Some, None, refl, ap, sym, ◌∙◌, map}
use Rattle.std.specs.Prelude.{find, option_map, option_and_then, slice_get}
use Rattle.std.specs.Str.{bytes_eq}
use Rattle.std.specs.Borrow.{Bor}
use Rattle.std.proofs.lemmas.Option.{slice_get-map}
use Rattle.clap.specs.Words.{Text, rows_of, first_of, all_of, first_value, matched_of, raw_values}
use Rattle.clap.specs.Walk.{row_of}
use Rattle.clap.specs.Facts.{Entry}
use Rattle.clap.specs.declared.parser.matches.Found.{Found}

-- the row of the first entry of an id
found_row : (id : Text) (es : List Entry) → find (λ r. bytes_eq r.id id) (map row_of es) ≡ option_map row_of (find (λ e. bytes_eq e.0.now id) es)
found_row id [] = refl
found_row id (e ∷ es) =
    elim (bytes_eq e.0.now id) as (λ b. cond b (Some (row_of e)) (find (λ r. bytes_eq r.id id) (map row_of es)) ≡ option_map row_of (cond b (Some e) (find (λ e. bytes_eq e.0.now id) es)))
    [ true ↦ refl | false ↦ found_row id es ]

-- the first value of an entry, by its row
first_in_row : (o : Option Entry) → option_and_then (λ r. slice_get r.values 0) (option_map row_of o) ≡ option_and_then (λ a. option_map (λ s. s.now) (slice_get a.vals.items 0)) (option_map (λ e. e.1) o)
first_in_row None = refl
first_in_row (Some e) = slice_get-map (λ (s : Bor Text). s.now) e.1.vals.items 0

pub first_of-rows : (id : Text) (f : Found) → first_value f id ≡ first_of id (rows_of f)
first_of-rows id f =
    sym (ap (option_and_then (λ r. slice_get r.values 0)) (found_row id f.entries.items) ∙ first_in_row (find (λ e. bytes_eq e.0.now id) f.entries.items))

-- all values of an entry, by its row
all_in_row : (o : Option Entry) → option_map (λ r. r.values) (option_map row_of o) ≡ option_map raw_values (option_map (λ e. e.1) o)
all_in_row None = refl
all_in_row (Some e) = refl

pub all_of-rows : (id : Text) (f : Found) → option_map raw_values (matched_of f id) ≡ all_of id (rows_of f)
all_of-rows id f =
    sym (ap (option_map (λ r. r.values)) (found_row id f.entries.items) ∙ all_in_row (find (λ e. bytes_eq e.0.now id) f.entries.items))
