-- The Morton key, by which leaves are ordered.
use Rattle.std.specs.Prelude.{ℕ, zero, suc, ◌+◌, ◌-◌, ◌*◌, ◌/◌, ◌%◌, ◌^◌}
use Rattle.morton_order.specs.declared.space.Loc.{Loc}

-- the lowest n bits of three numbers by turns, the lowest bit of the first at the bottom
unfoldable pub interleaved : ℕ → ℕ → ℕ → ℕ → ℕ
interleaved zero x y z = 0
interleaved (suc n) x y z = x % 2 + 2 * (y % 2) + 4 * (z % 2) + 8 * interleaved n (x / 2) (y / 2) (z / 2)

-- a coordinate on the finest lattice, that of level 10
abbrev pub on_finest : ℕ → ℕ → ℕ
on_finest level x = x * 2 ^ (10 - level)

-- the Morton key: the bits of the three coordinates on the finest lattice, of 26 bits each, by turns
unfoldable pub key : Loc → ℕ
key l = interleaved 26 (on_finest l.level l.l1) (on_finest l.level l.l2) (on_finest l.level l.l3)
