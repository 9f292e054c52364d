-- Flows that gained what a kernel made and used in the first so many cells.
use Rattle.std.proofs.Common.{◌≡◌, ◌∙◌, ℕ, suc, ◌+◌, ◌*◌, ◌^◌, ◌<◌, ◌≤◌, List, length, slice_index, sum, refl, arith, ap, sym, subst}
use Rattle.std.specs.Prelude.{All}
use Rattle.std.specs.List.{slice_index_or}
use Rattle.std.proofs.lemmas.List.Elements.{All-from_get_or, All-get_or}
use Rattle.package_fields.specs.declared.flow.Flow.{Flow}
use Rattle.package_fields.specs.Flow.{IsBelow, no_flow}
use Rattle.package_fields.specs.Kernel.{KernelLaws, Reacted, with_parts, with_reacted}
use Rattle.mesh_rules.specs.Sums.{sum_to}
use Rattle.react_kernel.proofs.Gains.{at_gained, length_gained, no_parts, parts_again, sum_most}
use Rattle.dense_reaction.specs.Blocks.{HasGained, cell_in}
use Rattle.dense_reaction.proofs.Cells.{cell_length}

-- no cell yet
pub gained_none : (each : ℕ → Reacted) (flows : List Flow) → HasGained each 0 flows flows
gained_none each flows = record { many = refl; gained = λ f h. no_parts (slice_index_or flows f no_flow) 0 0 refl refl }

-- one cell more
pub gained_more : (each : ℕ → Reacted) (n : ℕ) (old now new : List Flow) (r : Reacted) → HasGained each n old now → r ≡ each n → new ≡ with_reacted now r → HasGained each (n + 1) old new
gained_more each n old now new r had is more =
    let many = had.many in
    subst (λ (m : ℕ). HasGained each m old new) (let e : suc n ≡ n + 1 = omega arith in e) (record {
      many = ap (λ (flows : List Flow). length flows) more ∙ (length_gained now r ∙ many);
      gained = λ f h.
          let made = sum_to n (λ k. slice_index (each k).made f) in
          let used = sum_to n (λ k. slice_index (each k).used f) in
          ap (λ (flows : List Flow). slice_index_or flows f no_flow) more
          ∙ (at_gained now r f (omega arith)
          ∙ (ap (λ (s : Reacted). with_parts (slice_index_or now f no_flow) (slice_index s.made f) (slice_index s.used f)) is
          ∙ (ap (λ (x : Flow). with_parts x (slice_index (each n).made f) (slice_index (each n).used f)) (had.gained f h)
          ∙ parts_again (slice_index_or old f no_flow) made used (slice_index (each n).made f) (slice_index (each n).used f)
          (made + slice_index (each n).made f) (used + slice_index (each n).used f) refl refl)));
    })

small_gain : (x : Flow) (m u : ℕ) → IsBelow (2 ^ 98) x → m ≤ 262144 * (256 * 2 ^ 62) → u ≤ 262144 * (256 * 2 ^ 62) → IsBelow (2 ^ 99) (with_parts x m u)
small_gain x m u below made used = record {
  inflow_below = let h : x.inflow < 2 ^ 98 = below.inflow_below in omega arith;
  outflow_below = let h : x.outflow < 2 ^ 98 = below.outflow_below in omega arith;
  made_below = let h : x.made < 2 ^ 98 = below.made_below in omega arith;
  used_below = let h : x.used < 2 ^ 98 = below.used_below in omega arith;
}

few_times : (n m s : ℕ) → n ≤ 262144 → s ≤ n * m → m ≡ 256 * 2 ^ 62 → s ≤ 262144 * (256 * 2 ^ 62)
few_times n m s few h e = omega (arith, subst (λ (k : ℕ). s ≤ n * k) e h)

-- flows stay small in a block
pub gained_small : (react : List ℕ → Reacted) (rows : List (List ℕ)) (n : ℕ) (old now : List Flow) → KernelLaws (length rows) react → length old ≡ length rows → n ≤ 262144 →
    ((place : ℕ) → place < n → sum (cell_in rows place) < 2 ^ 62) → All (IsBelow (2 ^ 98)) old → HasGained (λ place. react (cell_in rows place)) n old now → All (IsBelow (2 ^ 99)) now
gained_small react rows n old now laws as_many few small below had =
    let many = had.many in
    All-from_get_or (IsBelow (2 ^ 99)) now no_flow (λ f h.
    let within : f < length old = omega arith in
    let inside : f < length rows = omega arith in
    subst (λ (flow : Flow). IsBelow (2 ^ 99) flow) (sym (had.gained f within))
    (small_gain (slice_index_or old f no_flow) _ _ (All-get_or (IsBelow (2 ^ 98)) old f no_flow within below)
    (few_times n (256 * 2 ^ 62) _ few (sum_most n (256 * 2 ^ 62) (λ k. slice_index (react (cell_in rows k)).made f) (λ k j.
    let b = laws.keeps_balance (cell_in rows k) f (cell_length rows k) inside in
    let m : slice_index (react (cell_in rows k)).made f ≤ 256 * sum (cell_in rows k) = b.made_bounded in
    let s : sum (cell_in rows k) < 2 ^ 62 = small k j in omega arith)) refl)
    (few_times n (256 * 2 ^ 62) _ few (sum_most n (256 * 2 ^ 62) (λ k. slice_index (react (cell_in rows k)).used f) (λ k j.
    let b = laws.keeps_balance (cell_in rows k) f (cell_length rows k) inside in
    let m : slice_index (react (cell_in rows k)).used f ≤ 256 * sum (cell_in rows k) = b.used_bounded in
    let s : sum (cell_in rows k) < 2 ^ 62 = small k j in omega arith)) refl)))
