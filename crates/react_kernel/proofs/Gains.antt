-- Flows by field that gained what a kernel made and used.
use Rattle.std.proofs.Common.{◌≡◌, ◌∙◌, sym, ap, subst, refl, ℕ, zero, suc, ◌+◌, ◌*◌, ◌<◌, ◌≤◌, ◌^◌, List, length, slice_index, slice_index_or, sum, arith}
use Rattle.std.specs.Prelude.{All}
use Rattle.std.specs.List.{enumerate_from}
use Rattle.std.proofs.lemmas.List.{ext_get_or, get_or-map, length-map}
use Rattle.std.proofs.lemmas.List.FromFn.{length-enumerate_from, get_or-enumerate_from}
use Rattle.std.proofs.lemmas.List.Elements.{All-from_get_or, All-get_or}
use Rattle.package_fields.specs.declared.flow.Flow.{Flow}
use Rattle.package_fields.specs.Flow.{IsBelow, no_flow}
use Rattle.package_fields.specs.Kernel.{KernelLaws, Reacted, nothing, with_parts, with_reacted}
use Rattle.block_layout.specs.declared.layout.Layout.{Layout}
use Rattle.field_bufs.specs.declared.buf.FieldBuf.{FieldBuf}
use Rattle.mesh_rules.specs.Sums.{sum_to}
use Rattle.react_kernel.specs.Blocks.{HasGained, inner_place, reacted_at, totals_at}
use Rattle.react_kernel.proofs.Inserted.{no_total}
use Rattle.react_kernel.proofs.Cells.{length_totals}

abbrev at_none : ℕ × Flow
at_none = (0, no_flow)

abbrev parts_of : Reacted → ℕ × Flow → Flow
parts_of r p = with_parts p.1 (slice_index r.made p.0) (slice_index r.used p.0)

pub length_gained : (flows : List Flow) (r : Reacted) → length (with_reacted flows r) ≡ length flows
length_gained flows r = length-map (enumerate_from 0 flows) (parts_of r) ∙ length-enumerate_from 0 flows

pub at_gained : (flows : List Flow) (r : Reacted) (f : ℕ) → f < length flows
    → slice_index_or (with_reacted flows r) f no_flow ≡ with_parts (slice_index_or flows f no_flow) (slice_index r.made f) (slice_index r.used f)
at_gained flows r f h =
    get_or-map (parts_of r) (enumerate_from 0 flows) f at_none no_flow (let n : length (enumerate_from 0 flows) ≡ length flows = length-enumerate_from 0 flows in omega arith)
    ∙ (ap (λ (p : ℕ × Flow). parts_of r p) (get_or-enumerate_from 0 flows f at_none h)
    ∙ ap (λ (k : ℕ). with_parts (slice_index_or flows f no_flow) (slice_index r.made k) (slice_index r.used k)) (let e : 0 + f ≡ f = omega arith in e))

same_parts : (x : Flow) (m n u v : ℕ) → m ≡ n → u ≡ v → (let a : Flow = record x { made = m; used = u } in a) ≡ (let b : Flow = record x { made = n; used = v } in b)
same_parts x m n u v e d = ap (λ (k : ℕ). let a : Flow = record x { made = k; used = u } in a) e ∙ ap (λ (k : ℕ). let a : Flow = record x { made = n; used = k } in a) d

pub parts_again : (x : Flow) (m u n v a b : ℕ) → a ≡ m + n → b ≡ u + v → with_parts (with_parts x m u) n v ≡ with_parts x a b
parts_again x m u n v a b e d = same_parts x (x.made + m + n) (x.made + a) (x.used + u + v) (x.used + b) (omega arith) (omega arith)

pub no_parts : (x : Flow) (m u : ℕ) → m ≡ 0 → u ≡ 0 → x ≡ with_parts x m u
no_parts x m u e d = same_parts x x.made (x.made + m) x.used (x.used + u) (omega arith) (omega arith)

-- nothing was made or used
pub gained_nothing : (flows : List Flow) (fields : ℕ) (r : Reacted) → r ≡ nothing fields → flows ≡ with_reacted flows r
gained_nothing flows fields r e =
    ext_get_or no_flow flows (with_reacted flows r) (sym (length_gained flows r)) (λ f h.
    no_parts (slice_index_or flows f no_flow) (slice_index r.made f) (slice_index r.used f)
    (ap (λ (s : Reacted). slice_index s.made f) e ∙ no_total fields f) (ap (λ (s : Reacted). slice_index s.used f) e ∙ no_total fields f)
    ∙ sym (at_gained flows r f h))

-- no cell yet
pub gained_none : (react : List ℕ → Reacted) (l : Layout) (bufs : List FieldBuf) (flows : List Flow) → HasGained react l bufs 0 flows flows
gained_none react l bufs flows = record { as_many = refl; each = λ f h. no_parts (slice_index_or flows f no_flow) 0 0 refl refl }

-- cells of which nothing comes
pub sum_none : (n : ℕ) (each : ℕ → ℕ) → ((k : ℕ) → k < n → each k ≡ 0) → sum_to n each ≡ 0
sum_none zero each none = refl
sum_none (suc n) each none =
    let a : sum_to n each ≡ 0 = sum_none n each (λ k h. none k (omega arith)) in
    let b : each n ≡ 0 = none n (omega arith) in omega arith

-- one cell more
pub gained_more : (react : List ℕ → Reacted) (l : Layout) (bufs : List FieldBuf) (n : ℕ) (old now new : List Flow) (r : Reacted)
    → HasGained react l bufs n old now → r ≡ reacted_at react l bufs (length old) n → new ≡ with_reacted now r → HasGained react l bufs (n + 1) old new
gained_more react l bufs n old now new r had is more =
    let many : length now ≡ length old = had.as_many in
    subst (λ (m : ℕ). HasGained react l bufs m old new) (let e : suc n ≡ n + 1 = omega arith in e) (record {
      as_many = ap (λ (flows : List Flow). length flows) more ∙ (length_gained now r ∙ many);
      each = λ f h.
          let cell = reacted_at react l bufs (length old) n in
          let made = sum_to n (λ k. slice_index (reacted_at react l bufs (length old) k).made f) in
          let used = sum_to n (λ k. slice_index (reacted_at react l bufs (length old) k).used f) in
          ap (λ (flows : List Flow). slice_index_or flows f no_flow) more
          ∙ (at_gained now r f (omega arith)
          ∙ (ap (λ (s : Reacted). with_parts (slice_index_or now f no_flow) (slice_index s.made f) (slice_index s.used f)) is
          ∙ (ap (λ (x : Flow). with_parts x (slice_index cell.made f) (slice_index cell.used f)) (had.each f h)
          ∙ parts_again (slice_index_or old f no_flow) made used (slice_index cell.made f) (slice_index cell.used f)
          (made + slice_index cell.made f) (used + slice_index cell.used f) refl refl)));
    })

-- a sum is at most so many times the greatest
pub sum_most : (n m : ℕ) (each : ℕ → ℕ) → ((k : ℕ) → k < n → each k ≤ m) → sum_to n each ≤ n * m
sum_most zero m each most = omega arith
sum_most (suc n) m each most =
    let a : sum_to n each ≤ n * m = sum_most n m each (λ k h. most k (omega arith)) in
    let b : each n ≤ m = most n (omega arith) in
    let c : suc n * m ≡ n * m + m = grind arith in
    omega arith

small_gain : (x : Flow) (m u : ℕ) → IsBelow (2 ^ 98) x → m ≤ 262144 * (256 * 2 ^ 62) → u ≤ 262144 * (256 * 2 ^ 62) → IsBelow (2 ^ 99) (with_parts x m u)
small_gain x m u below made used = record {
  inflow_below = let h : x.inflow < 2 ^ 98 = below.inflow_below in omega arith;
  outflow_below = let h : x.outflow < 2 ^ 98 = below.outflow_below in omega arith;
  made_below = let h : x.made < 2 ^ 98 = below.made_below in omega arith;
  used_below = let h : x.used < 2 ^ 98 = below.used_below in omega arith;
}

few_times : (n m s : ℕ) → n ≤ 262144 → s ≤ n * m → m ≡ 256 * 2 ^ 62 → s ≤ 262144 * (256 * 2 ^ 62)
few_times n m s few h e = omega (arith, subst (λ (k : ℕ). s ≤ n * k) e h)

-- flows stay small
pub gained_small : (react : List ℕ → Reacted) (l : Layout) (bufs : List FieldBuf) (n : ℕ) (old now : List Flow)
    → KernelLaws (length old) react → n ≤ 262144 → ((k : ℕ) → k < n → sum (totals_at bufs (length old) (inner_place l k)) < 2 ^ 62) → All (IsBelow (2 ^ 98)) old
    → HasGained react l bufs n old now → All (IsBelow (2 ^ 99)) now
gained_small react l bufs n old now laws few small below had =
    let many : length now ≡ length old = had.as_many in
    All-from_get_or (IsBelow (2 ^ 99)) now no_flow (λ f h.
    let within : f < length old = omega arith in
    subst (λ (flow : Flow). IsBelow (2 ^ 99) flow) (sym (had.each f within))
    (small_gain (slice_index_or old f no_flow) _ _ (All-get_or (IsBelow (2 ^ 98)) old f no_flow within below)
    (few_times n (256 * 2 ^ 62) _ few (sum_most n (256 * 2 ^ 62) (λ k. slice_index (reacted_at react l bufs (length old) k).made f) (λ k h.
    let cell = totals_at bufs (length old) (inner_place l k) in
    let b = laws.keeps_balance cell f (length_totals bufs (length old) (inner_place l k)) within in
    let m : slice_index (react cell).made f ≤ 256 * sum cell = b.made_bounded in
    let s : sum cell < 2 ^ 62 = small k h in omega arith)) refl)
    (few_times n (256 * 2 ^ 62) _ few (sum_most n (256 * 2 ^ 62) (λ k. slice_index (reacted_at react l bufs (length old) k).used f) (λ k h.
    let cell = totals_at bufs (length old) (inner_place l k) in
    let b = laws.keeps_balance cell f (length_totals bufs (length old) (inner_place l k)) within in
    let m : slice_index (react cell).used f ≤ 256 * sum cell = b.used_bounded in
    let s : sum cell < 2 ^ 62 = small k h in omega arith)) refl)))
