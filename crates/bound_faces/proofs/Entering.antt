-- What a problem tells of a field.
use Rattle.std.proofs.Common.{◌≡◌, ℕ, zero, suc, ◌*◌, ◌/◌, ◌^◌, ◌<◌, Bool, true, false, cond, Option, Some, None, List, [], ◌∷◌, map, length, slice_index, refl, sym, ◌∙◌, ap, arith}
use Rattle.std.specs.Prelude.{slice_get}
use Rattle.std.specs.List.{slice_index_or}
use Rattle.package_fields.specs.declared.field.Field.{Field}
use Rattle.package_fields.specs.declared.flag.Flag.TheVariants.{FillGhost}
use Rattle.package_fields.specs.Flags.{has}
use Rattle.problem_set.specs.Settings.{Settings}
use Rattle.mesh_rules.specs.Fields.{entering, field_count, has_ghosts, moves_at, side_number}

-- what an option has, or something else
abbrev pub held : {X : Type 0} → X → Option X → X
held d None = d
held d (Some x) = x

some_is : {X : Type 0} (x y : X) → Some x ≡ Some y → x ≡ y
some_is x y e = ap (held x) e

-- what a list of tests has at a place
pub told_at : {X : Type 0} (test : X → Bool) (xs : List X) (i : ℕ) (d : X) (b : Bool) → i < length xs → slice_get (map test xs) i ≡ Some b → test (slice_index_or xs i d) ≡ b
told_at test [] i d b h e = absurd (omega (arith, h))
told_at test (x ∷ xs) zero d b h e = some_is (test x) b e
told_at test (x ∷ xs) (suc i) d b h e = told_at test xs i d b (omega (arith, h)) e

pub ghosts_are : (p : Settings) (i : ℕ) (b : Bool) → i < field_count p → slice_get (map (λ (f : Field). has FillGhost f.flags) p.fields.fields) i ≡ Some b → has_ghosts p i ≡ b
ghosts_are p i b inside e = told_at (λ (g : Field). has FillGhost g.flags) p.fields.fields i _ b inside e

-- an item that is there, whatever else it would be
pub at_any : {X : Type 0} (xs : List X) (i : ℕ) (d e : X) → i < length xs → slice_index_or xs i d ≡ slice_index_or xs i e
at_any [] i d e h = absurd (omega (arith, h))
at_any (x ∷ xs) zero d e h = refl
at_any (x ∷ xs) (suc i) d e h = at_any xs i d e (omega (arith, h))

pub entering_when : (p : Settings) (i axis level amount : ℕ) (high : Bool) → has_ghosts p i ≡ true → amount ≡ slice_index (moves_at p i).entry (side_number axis high) → amount / 2 ^ (p.shape.dims * level) ≡ entering p i axis high level
entering_when p i axis level amount high has is =
    ap (λ (n : ℕ). n / 2 ^ (p.shape.dims * level)) is ∙ ap (λ (b : Bool). cond b (slice_index (moves_at p i).entry (side_number axis high) / 2 ^ (p.shape.dims * level)) 0) (sym has)

pub entering_not : (p : Settings) (i axis level : ℕ) (high : Bool) → has_ghosts p i ≡ false → 0 ≡ entering p i axis high level
entering_not p i axis level high has = ap (λ (b : Bool). cond b (slice_index (moves_at p i).entry (side_number axis high) / 2 ^ (p.shape.dims * level)) 0) (sym has)
