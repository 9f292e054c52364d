-- The first place that is a given one is one at which it is listed.
use Rattle.std.proofs.Common.{◌≡◌, ◌∙◌, sym, ap, refl, ℕ, ◌<◌, ◌≤◌, true, false, cond, nat_lt, List, length, Some, None, get_or, arith}
use Rattle.std.specs.Prelude.{◌==◌, position}
use Rattle.std.specs.List.{position_or_len}
use Rattle.std.proofs.lemmas.Bool.{and_parts, and_from, eqb-true, eq-eqb, ltb-true, ltb-false, false≢true}
use Rattle.std.proofs.lemmas.List.Sums.{passes_at_first, fails_before_first}
use Rattle.std.proofs.lemmas.Option.{slice_get-get_or, slice_get_within, get_or_from_slice_get}
use Rattle.sparse_pool.specs.declared.place.Place.{Place}
use Rattle.pack_cache.specs.Packs.{IsIndex, same_place}

pub same_place_is : (a b : Place) → same_place a b ≡ true → b ≡ a
same_place_is a b e =
    let parts = and_parts (b.block == a.block) (b.field == a.field) e in
    ap (λ (n : ℕ). let p : Place = record { block = n; field = b.field } in p) (eqb-true b.block a.block parts.0)
    ∙ ap (λ (n : ℕ). let p : Place = record { block = a.block; field = n } in p) (eqb-true b.field a.field parts.1)

pub same_place_self : (a : Place) → same_place a a ≡ true
same_place_self a = and_from (a.block == a.block) (a.field == a.field) (eq-eqb a.block a.block refl) (eq-eqb a.field a.field refl)

pub index_is : (places : List Place) (at : Place) → IsIndex places at (position (same_place at) places)
index_is places at =
    let n = position_or_len (same_place at) places in
    elim (nat_lt n (length places)) as (λ b. nat_lt n (length places) ≡ b → IsIndex places at (cond b (Some n) None)) [
      | true ↦ λ h.
          let within : n < length places = ltb-true n (length places) h in
          record {
            found = slice_get-get_or places n at within ∙ ap (λ (p : Place). Some p) (same_place_is at (get_or places n at) (passes_at_first (same_place at) places at within));
            absent = tt;
          }
      | false ↦ λ h.
          let past : length places ≤ n = ltb-false n (length places) h in
          record {
            found = tt;
            absent = λ i e.
                let below : i < length places = slice_get_within places i at e in
                let fails : same_place at (get_or places i at) ≡ false = fails_before_first (same_place at) places i at (omega arith) in
                false≢true (sym fails ∙ (ap (λ (p : Place). same_place at p) (get_or_from_slice_get places i at at e) ∙ same_place_self at));
          }
    ] refl
