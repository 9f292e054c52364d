-- Flows by field in the course of the reactions of a cell.
use Rattle.std.proofs.Common.{◌≡◌, ◌∙◌, sym, ap, subst, refl, ℕ, ◌+◌, ◌*◌, ◌<◌, ◌≤◌, ◌^◌, List, length, take, replicate, slice_index, slice_index_or, sum, arith}
use Rattle.std.specs.Prelude.{All}
use Rattle.std.proofs.lemmas.List.{ext_get_or, get_or_default, length-take, take_all}
use Rattle.std.proofs.lemmas.List.Sums.{fold_more}
use Rattle.std.proofs.lemmas.List.Elements.{All-from_get_or, All-get_or, All-take}
use Rattle.package_fields.specs.declared.flow.Flow.{Flow}
use Rattle.package_fields.specs.Flow.{IsBelow, no_flow}
use Rattle.package_fields.specs.Kernel.{Reacted, with_parts, with_reacted}
use Rattle.deck_entries.specs.declared.entries.Reaction.{Reaction}
use Rattle.mesh_rules.specs.Reaction.{added, after_reaction, before_reactions, moved_by, react_cell, taken}
use Rattle.react_kernel.specs.Code.{CanReact}
use Rattle.react_kernel.specs.Steps.{Moves, only_at}
use Rattle.react_kernel.specs.ReactionLists.{at_added}
use Rattle.react_kernel.specs.ReactionLaws.{after_reactions, few_times, zero_at}
use Rattle.react_kernel.proofs.Gains.{at_gained, length_gained}

parts_same : (x : Flow) (m n u v : ℕ) → m ≡ n → u ≡ v → with_parts x m u ≡ with_parts x n v
parts_same x m n u v e d = ap (λ (k : ℕ). with_parts x k u) e ∙ ap (λ (k : ℕ). with_parts x n k) d

flow_same : (x : Flow) (m n u v : ℕ) → m ≡ n → u ≡ v → (let a : Flow = record x { made = m; used = u } in a) ≡ (let b : Flow = record x { made = n; used = v } in b)
flow_same x m n u v e d = ap (λ (k : ℕ). let a : Flow = record x { made = k; used = u } in a) e ∙ ap (λ (k : ℕ). let a : Flow = record x { made = n; used = k } in a) d

parts_twice : (x : Flow) (m u n v : ℕ) → with_parts (with_parts x m u) n v ≡ with_parts x (m + n) (u + v)
parts_twice x m u n v = flow_same x (x.made + m + n) (x.made + (m + n)) (x.used + u + v) (x.used + (u + v)) (omega arith) (omega arith)

parts_none : (x : Flow) (m u : ℕ) → m ≡ 0 → u ≡ 0 → with_parts x m u ≡ x
parts_none x m u e d = flow_same x (x.made + m) x.made (x.used + u) x.used (omega arith) (omega arith)

-- before any reaction
pub reacted_none : (flows : List Flow) (cell : List ℕ) → length cell ≡ length flows → with_reacted flows (before_reactions cell) ≡ flows
reacted_none flows cell many =
    ext_get_or no_flow (with_reacted flows (before_reactions cell)) flows (length_gained flows (before_reactions cell)) (λ f h.
    let n : length (with_reacted flows (before_reactions cell)) ≡ length flows = length_gained flows (before_reactions cell) in
    let z : slice_index (replicate (length cell) 0) f ≡ 0 = zero_at (length cell) f (omega arith) in
    at_gained flows (before_reactions cell) f (omega arith)
    ∙ parts_none (slice_index_or flows f no_flow) (slice_index (replicate (length cell) 0) f) (slice_index (replicate (length cell) 0) f) z z)

-- one reaction more
pub reacted_more : (flows now new : List Flow) (r : Reacted) (x : Reaction) → length r.made ≡ length flows → length r.used ≡ length flows → x.from < length flows → x.to < length flows
    → now ≡ with_reacted flows r → Moves now new x.from x.to (moved_by x r.totals) → new ≡ with_reacted flows (after_reaction r x)
reacted_more flows now new r x made used from to is moves =
    let m = moved_by x r.totals in
    let after = after_reaction r x in
    let many : length now ≡ length flows = ap (λ (fs : List Flow). length fs) is ∙ length_gained flows r in
    let all : length new ≡ length flows = moves.as_many ∙ many in
    ext_get_or no_flow new (with_reacted flows after) (all ∙ sym (length_gained flows after)) (λ f h.
    let old = slice_index_or flows f no_flow in
    moves.each f (omega arith)
    ∙ (ap (λ (flow : Flow). with_parts flow (only_at x.to m f) (only_at x.from m f)) (ap (λ (fs : List Flow). slice_index_or fs f no_flow) is ∙ at_gained flows r f (omega arith))
    ∙ (parts_twice old (slice_index r.made f) (slice_index r.used f) (only_at x.to m f) (only_at x.from m f)
    ∙ (parts_same old (slice_index r.made f + only_at x.to m f) (slice_index after.made f) (slice_index r.used f + only_at x.from m f) (slice_index after.used f)
    (sym (at_added r.made x.to m f (omega arith))) (sym (at_added r.used x.from m f (omega arith)))
    ∙ sym (at_gained flows after f (omega arith))))))

-- the cell and its flows after some of the reactions
pub record Applied (rs : List Reaction) (cell : List ℕ) (flows : List Flow) (k : ℕ) (cell_now : List ℕ) (flows_now : List Flow) : Type 0 where
  pub totals : cell_now ≡ (react_cell (take k rs) cell).totals
  pub flows_are : flows_now ≡ with_reacted flows (react_cell (take k rs) cell)

pub applied_none : (rs : List Reaction) (cell : List ℕ) (flows : List Flow) → length cell ≡ length flows → Applied rs cell flows 0 cell flows
applied_none rs cell flows many = record { totals = refl; flows_are = sym (reacted_none flows cell many) }

react_more : (rs : List Reaction) (cell : List ℕ) (k : ℕ) (x : Reaction) → k < length rs → x ≡ slice_index_or rs k x → react_cell (take (k + 1) rs) cell ≡ after_reaction (react_cell (take k rs) cell) x
react_more rs cell k x h read =
    fold_more after_reaction (before_reactions cell) rs k x h ∙ ap (λ (y : Reaction). after_reaction (react_cell (take k rs) cell) y) (sym read)

pub applied_more : (fields : ℕ) (rs : List Reaction) (cell : List ℕ) (flows : List Flow) (k : ℕ) (x : Reaction) (cell_now cell_new : List ℕ) (flows_now flows_new : List Flow)
    → length cell ≡ fields → length flows ≡ fields → All (CanReact fields) rs → k < length rs → x ≡ slice_index_or rs k x → CanReact fields x
    → Applied rs cell flows k cell_now flows_now
    → cell_new ≡ added (taken cell_now x.from (moved_by x cell_now)) x.to (moved_by x cell_now)
    → Moves flows_now flows_new x.from x.to (moved_by x cell_now)
    → Applied rs cell flows (k + 1) cell_new flows_new
applied_more fields rs cell flows k x cell_now cell_new flows_now flows_new many as_many can h read here had cell_is moves =
    let r = react_cell (take k rs) cell in
    let a = after_reactions fields cell (take k rs) many (All-take (CanReact fields) k rs can) in
    let made : length r.made ≡ fields = a.made in
    let used : length r.used ≡ fields = a.used in
    let more = react_more rs cell k x h read in
    let from : x.from < fields = here.from in
    let to : x.to < fields = here.to in
    record {
      totals = cell_is ∙ (ap (λ (c : List ℕ). added (taken c x.from (moved_by x c)) x.to (moved_by x c)) had.totals ∙ ap (λ (s : Reacted). s.totals) (sym more));
      flows_are = reacted_more flows flows_now flows_new r x (omega arith) (omega arith) (omega arith) (omega arith) had.flows_are
          (subst (λ (c : List ℕ). Moves flows_now flows_new x.from x.to (moved_by x c)) had.totals moves)
          ∙ ap (λ (s : Reacted). with_reacted flows s) (sym more);
    }

-- the same for the reaction at a number of the list
pub applied_next : (fields : ℕ) (rs : List Reaction) (cell : List ℕ) (flows : List Flow) (k : ℕ) (d : Reaction) (cell_now cell_new : List ℕ) (flows_now flows_new : List Flow)
    → length cell ≡ fields → length flows ≡ fields → All (CanReact fields) rs → k < length rs
    → Applied rs cell flows k cell_now flows_now
    → (let x = slice_index_or rs k d in cell_new ≡ added (taken cell_now x.from (moved_by x cell_now)) x.to (moved_by x cell_now))
    → (let x = slice_index_or rs k d in Moves flows_now flows_new x.from x.to (moved_by x cell_now))
    → Applied rs cell flows (k + 1) cell_new flows_new
applied_next fields rs cell flows k d cell_now cell_new flows_now flows_new many as_many can h had cell_is moves =
    let x = slice_index_or rs k d in
    applied_more fields rs cell flows k x cell_now cell_new flows_now flows_new many as_many can h (get_or_default rs k d x h) (All-get_or (CanReact fields) rs k d h can) had cell_is moves

-- the cell keeps its sum, so it stays small
pub applied_sum : (fields : ℕ) (rs : List Reaction) (cell : List ℕ) (flows : List Flow) (k : ℕ) (cell_now : List ℕ) (flows_now : List Flow)
    → length cell ≡ fields → All (CanReact fields) rs → Applied rs cell flows k cell_now flows_now → (sum cell_now ≡ sum cell) × (length cell_now ≡ fields)
applied_sum fields rs cell flows k cell_now flows_now many can had =
    let a = after_reactions fields cell (take k rs) many (All-take (CanReact fields) k rs can) in
    (ap (λ (c : List ℕ). sum c) had.totals ∙ a.kept, ap (λ (c : List ℕ). length c) had.totals ∙ a.totals)

small_parts : (x : Flow) (m u : ℕ) → IsBelow (2 ^ 99) x → m ≤ 256 * 2 ^ 62 → u ≤ 256 * 2 ^ 62 → IsBelow (2 ^ 100) (with_parts x m u)
small_parts x m u below made used = record {
  inflow_below = let h : x.inflow < 2 ^ 99 = below.inflow_below in omega arith;
  outflow_below = let h : x.outflow < 2 ^ 99 = below.outflow_below in omega arith;
  made_below = let h : x.made < 2 ^ 99 = below.made_below in omega arith;
  used_below = let h : x.used < 2 ^ 99 = below.used_below in omega arith;
}

small_times : (n s k : ℕ) → n ≤ 256 → s < 2 ^ 62 → k ≤ n * s → k ≤ 256 * 2 ^ 62
small_times n s k few small h = let a : k ≤ 256 * s = few_times n s k few h in omega arith

pub applied_small : (fields : ℕ) (rs : List Reaction) (cell : List ℕ) (flows : List Flow) (k : ℕ) (cell_now : List ℕ) (flows_now : List Flow)
    → length cell ≡ fields → length flows ≡ fields → All (CanReact fields) rs → length rs ≤ 256 → sum cell < 2 ^ 62 → All (IsBelow (2 ^ 99)) flows
    → Applied rs cell flows k cell_now flows_now → All (IsBelow (2 ^ 100)) flows_now
applied_small fields rs cell flows k cell_now flows_now many as_many can few small below had =
    let r = react_cell (take k rs) cell in
    let a = after_reactions fields cell (take k rs) many (All-take (CanReact fields) k rs can) in
    let n : length (take k rs) ≤ 256 = omega (arith, length-take k rs) in
    subst (λ (fs : List Flow). All (IsBelow (2 ^ 100)) fs) (sym had.flows_are)
    (All-from_get_or (IsBelow (2 ^ 100)) (with_reacted flows r) no_flow (λ f h.
    let inside : f < length flows = (let e : length (with_reacted flows r) ≡ length flows = length_gained flows r in omega arith) in
    subst (λ (flow : Flow). IsBelow (2 ^ 100) flow) (sym (at_gained flows r f inside))
    (small_parts (slice_index_or flows f no_flow) (slice_index r.made f) (slice_index r.used f) (All-get_or (IsBelow (2 ^ 99)) flows f no_flow inside below)
    (small_times (length (take k rs)) (sum cell) (slice_index r.made f) n small (a.made_most f (omega arith)))
    (small_times (length (take k rs)) (sum cell) (slice_index r.used f) n small (a.used_most f (omega arith))))))

-- after all of them
pub applied_all : (rs : List Reaction) (cell : List ℕ) (flows : List Flow) (k : ℕ) (cell_now : List ℕ) (flows_now : List Flow) → length rs ≤ k → Applied rs cell flows k cell_now flows_now
    → (cell_now ≡ (react_cell rs cell).totals) × (flows_now ≡ with_reacted flows (react_cell rs cell))
applied_all rs cell flows k cell_now flows_now h had =
    let e = take_all k rs h in
    (had.totals ∙ ap (λ (xs : List Reaction). (react_cell xs cell).totals) e, had.flows_are ∙ ap (λ (xs : List Reaction). with_reacted flows (react_cell xs cell)) e)
