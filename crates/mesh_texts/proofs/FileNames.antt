-- The names of files.
use Rattle.std.proofs.Common.{◌≡◌, ℕ, ◌-◌, ◌^◌, false, List, [], ◌++◌, length, replicate, codes, refl, ap, ◌∙◌, arith, append_assoc}
use Rattle.std.specs.Fmt.{char_count, decimal, padded_integral, styled_decimal, format_spec}
use Rattle.std.proofs.lemmas.List.{append-nil}
use Rattle.mesh_rules.specs.Files.{dump_file_name, history_file_name, in_six_digits}

padded_to_six : (text : List ℕ) → padded_integral (format_spec 32 0 4 6 (2 ^ 64 - 1)) false [] text ≡ replicate (6 - length text) 48 ++ text
unfolding padded_integral char_count
padded_to_six text =
    let width : 6 - length text - 0 - 0 ≡ 6 - length text = omega arith in
    ap (λ (n : ℕ). replicate n 48 ++ (text ++ [])) width ∙ ap (λ (t : List ℕ). replicate (6 - length text) 48 ++ t) (append-nil text)

pub in_six_digits_is : (n : ℕ) → styled_decimal (format_spec 32 0 4 6 (2 ^ 64 - 1)) n ≡ in_six_digits n
in_six_digits_is n = padded_to_six (decimal n)

pub dump_file_name_is : (prefix : List ℕ) (n : ℕ) → dump_file_name prefix n ≡ prefix ++ (codes "." ++ (in_six_digits n ++ codes ".dump"))
unfolding dump_file_name
dump_file_name_is prefix n = regroup prefix (codes ".") (in_six_digits n) (codes ".dump")
  where
    regroup : (a b c d : List ℕ) → a ++ b ++ c ++ d ≡ a ++ (b ++ (c ++ d))
    regroup a b c d = simp append_assoc

pub history_file_name_is : (prefix : List ℕ) → history_file_name prefix ≡ prefix ++ codes ".hist"
unfolding history_file_name
history_file_name_is prefix = refl
