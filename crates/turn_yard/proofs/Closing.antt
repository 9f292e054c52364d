-- From what the yard keeps of returned seats to the seats themselves.
use Rattle.std.proofs.Common.{◌≡◌, ℕ, ◌<◌, List, map, length, get_or, sym, ap, ◌∙◌, subst, arith, unwrap_or, Option, Some, None}
use Rattle.std.proofs.lemmas.List.{get_or-map, length-map}
use Rattle.std.specs.List.{All, Any}
use Rattle.turn_yard.specs.History.{Entry}
use Rattle.turn_yard.specs.Inside.{known_of}
use Rattle.turn_yard.specs.Rule.{Knows}
use Rattle.turn_yard.specs.Seat.{SeatState}
use Rattle.turn_yard.specs.Yard.{Ends}
use Rattle.turn_yard.specs.declared.view.Known.{Known}

pub any_known : (seats : List SeatState) (n : ℕ) → Any (λ (s : SeatState). s.number ≡ n) seats → Any (λ (k : Known). k.number ≡ n) (map known_of seats)
any_known seats n (i, s, inside, is, number) = (i, known_of s, (let l = length-map seats known_of in omega arith), get_or-map known_of seats i s (known_of s) inside ∙ ap known_of is, number)

pub ends_of : (origin : List ℕ) (entries : List Entry) (marks : List ℕ) (seats : List SeatState) → All (Knows origin entries marks) (map known_of seats) → All (Ends entries marks) seats
ends_of origin entries marks seats all i d inside =
    let k : Knows origin entries marks (known_of (get_or seats i d)) = subst (Knows origin entries marks) (get_or-map known_of seats i d (known_of d) inside) (all i (known_of d) (let l = length-map seats known_of in omega arith)) in
    record { seen = k.seen; own = k.own; noted = k.noted }

pub some_same : {T : Type 0} (slot : Option T) (a b : T) → slot ≡ Some a → slot ≡ Some b → a ≡ b
some_same slot a b p q = ap (λ o. unwrap_or o a) (sym p ∙ q)
