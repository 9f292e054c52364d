-- What boxes put into root cells.
use Rattle.std.proofs.Common.{◌≡◌, ℕ, ◌+◌, ◌<◌, ◌≤◌, ◌^◌, Bool, true, false, cond, List, [], ◌∷◌, length, drop, refl, arith, ap, sym, ◌∙◌}
use Rattle.std.specs.List.{slice_index_or}
use Rattle.std.proofs.lemmas.List.{drop_more}
use Rattle.morton_order.specs.declared.space.Loc.{Loc}
use Rattle.deck_entries.specs.declared.entries.StartBox.{StartBox}
use Rattle.mesh_rules.specs.Opening.{holds}
use Rattle.dense_remesh.specs.StartBoxes.{amounts, root_total}

-- no more than all they have
part_of_amount : (t : Bool) (v : ℕ) → cond t v 0 ≤ v
part_of_amount true v = omega arith
part_of_amount false v = omega arith

pub total_within : (boxes : List StartBox) (c : Loc) → root_total boxes c ≤ amounts boxes
total_within [] c = omega arith
total_within (b ∷ bs) c = omega (arith, total_within bs c, part_of_amount (holds b c) b.amount)

-- one box more
pub boxes_step : (boxes : List StartBox) (c : Loc) (i : ℕ) (d : StartBox) → i < length boxes →
    root_total (drop i boxes) c ≡ cond (holds (slice_index_or boxes i d) c) (slice_index_or boxes i d).amount 0 + root_total (drop (i + 1) boxes) c
boxes_step boxes c i d h = ap (λ (bs : List StartBox). root_total bs c) (drop_more boxes i d h)

pub boxes_held : (boxes : List StartBox) (c : Loc) (i total new all : ℕ) (d : StartBox) (t : Bool) → i < length boxes → t ≡ holds (slice_index_or boxes i d) c → t ≡ true → new ≡ total + (slice_index_or boxes i d).amount →
    total + root_total (drop i boxes) c ≡ all → new + root_total (drop (i + 1) boxes) c ≡ all
boxes_held boxes c i total new all d t small is held e before =
    let one : cond (holds (slice_index_or boxes i d) c) (slice_index_or boxes i d).amount 0 ≡ (slice_index_or boxes i d).amount = ap (λ (b : Bool). cond b (slice_index_or boxes i d).amount 0) (sym is ∙ held) in
    omega (arith, boxes_step boxes c i d small, one)

pub boxes_passed : (boxes : List StartBox) (c : Loc) (i total new all : ℕ) (d : StartBox) (t : Bool) → i < length boxes → t ≡ holds (slice_index_or boxes i d) c → t ≡ false → new ≡ total →
    total + root_total (drop i boxes) c ≡ all → new + root_total (drop (i + 1) boxes) c ≡ all
boxes_passed boxes c i total new all d t small is no_one e before =
    let one : cond (holds (slice_index_or boxes i d) c) (slice_index_or boxes i d).amount 0 ≡ 0 = ap (λ (b : Bool). cond b (slice_index_or boxes i d).amount 0) (sym is ∙ no_one) in
    omega (arith, boxes_step boxes c i d small, one)

pub boxes_fit : (boxes : List StartBox) (c : Loc) (i total : ℕ) (d : StartBox) (t : Bool) → i < length boxes → t ≡ holds (slice_index_or boxes i d) c → t ≡ true → amounts boxes < 2 ^ 62 →
    total + root_total (drop i boxes) c ≡ root_total boxes c → total + (slice_index_or boxes i d).amount < 2 ^ 62
boxes_fit boxes c i total d t small is held few before =
    let after = boxes_held boxes c i total (total + (slice_index_or boxes i d).amount) (root_total boxes c) d t small is held refl before in
    omega (arith, after, total_within boxes c)
