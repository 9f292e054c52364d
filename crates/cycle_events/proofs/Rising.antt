-- Places by block, then field, rise.
use Rattle.std.proofs.Common.{◌≡◌, ℕ, zero, suc, ◌+◌, ◌≤◌, Bool, true, false, cond, inl, inr, List, [], ◌∷◌, ◌++◌, map, filter, refl, arith}
use Rattle.std.specs.List.{flat_map, range_with_len}
use Rattle.cycle_rounds.specs.Events.{Each}
use Rattle.sparse_pool.specs.declared.place.Place.{Place}
use Rattle.cycle_events.specs.Leases.{AreRising, IsBefore, PlacesRise}
use Rattle.cycle_events.proofs.Counts.{on_block}

-- what holds of each of two lists, and what follows for each
each_both : (Q : Place → Type 0) (xs ys : List Place) → Each Q xs → Each Q ys → Each Q (xs ++ ys)
each_both Q [] ys h k = k
each_both Q (x ∷ xs) ys h k = (h.0, each_both Q xs ys h.1 k)

each_then : (Q R : Place → Type 0) → ((p : Place) → Q p → R p) → (xs : List Place) → Each Q xs → Each R xs
each_then Q R h [] k = tt
each_then Q R h (x ∷ xs) k = (h x k.0, each_then Q R h xs k.1)

-- rising places before other rising ones
before_others : (xs ys : List Place) → AreRising xs → AreRising ys → Each (λ p. Each (IsBefore p) ys) xs → AreRising (xs ++ ys)
before_others [] ys h k e = k
before_others (x ∷ xs) ys h k e = (each_both (IsBefore x) xs ys h.0 e.0, before_others xs ys h.1 k e.1)

-- the places of a block, from a field on
record OnBlock (b from : ℕ) (p : Place) : Type 0 where
  block : p.block ≡ b
  field : from ≤ p.field

record Rows (b from : ℕ) (places : List Place) : Type 0 where
  rising : AreRising places
  each : Each (OnBlock b from) places

row_from : (b : ℕ) (t : ℕ → Bool) (a n : ℕ) (v : Bool) → Rows b (a + 1) (map (λ f. record { block = b; field = f }) (filter t (range_with_len (a + 1) n))) →
    Rows b a (map (λ f. record { block = b; field = f }) (cond v (a ∷ filter t (range_with_len (a + 1) n)) (filter t (range_with_len (a + 1) n))))
row_from b t a n true r = record {
  rising = (
    each_then (OnBlock b (a + 1)) (IsBefore (record { block = b; field = a })) (λ p o. (let i = o.block in let k = o.field in inr (omega arith, omega arith)))
        (map (λ f. record { block = b; field = f }) (filter t (range_with_len (a + 1) n))) r.each,
    r.rising,
  );
  each = (
    record { block = refl; field = omega arith },
    each_then (OnBlock b (a + 1)) (OnBlock b a) (λ p o. record { block = o.block; field = (let k = o.field in omega arith) })
        (map (λ f. record { block = b; field = f }) (filter t (range_with_len (a + 1) n))) r.each,
  );
}
row_from b t a n false r = record {
  rising = r.rising;
  each = each_then (OnBlock b (a + 1)) (OnBlock b a) (λ p o. record { block = o.block; field = (let k = o.field in omega arith) })
      (map (λ f. record { block = b; field = f }) (filter t (range_with_len (a + 1) n))) r.each;
}

row : (b : ℕ) (t : ℕ → Bool) (a n : ℕ) → Rows b a (map (λ f. record { block = b; field = f }) (filter t (range_with_len a n)))
row b t a zero = record { rising = tt; each = tt }
row b t a (suc n) = row_from b t a n (t a) (row b t (a + 1) n)

-- the places of blocks from one on
record FromBlock (from : ℕ) (places : List Place) : Type 0 where
  rising : AreRising places
  each : Each (λ p. from ≤ p.block) places

from_block : (fields : ℕ) (test : ℕ → ℕ → Bool) (a n : ℕ) → FromBlock a (flat_map (λ b. on_block b fields (test b)) (range_with_len a n))
from_block fields test a zero = record { rising = tt; each = tt }
from_block fields test a (suc n) =
    let first = row a (test a) 0 fields in
    let rest = from_block fields test (a + 1) n in
    let others = flat_map (λ b. on_block b fields (test b)) (range_with_len (a + 1) n) in
    record {
      rising = before_others (on_block a fields (test a)) others first.rising rest.rising
          (each_then (OnBlock a 0) (λ p. Each (IsBefore p) others)
          (λ p o. each_then (λ q. a + 1 ≤ q.block) (IsBefore p) (λ q low. (let i = o.block in inl (omega arith))) others rest.each)
          (on_block a fields (test a)) first.each);
      each = each_both (λ p. a ≤ p.block) (on_block a fields (test a)) others
          (each_then (OnBlock a 0) (λ p. a ≤ p.block) (λ p o. (let i = o.block in omega arith)) (on_block a fields (test a)) first.each)
          (each_then (λ q. a + 1 ≤ q.block) (λ q. a ≤ q.block) (λ q low. omega arith) others rest.each);
    }

pub places_rise : PlacesRise
places_rise size test = (from_block size.fields test 0 size.blocks).rising
