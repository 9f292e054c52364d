-- Proof, for the laws of the kernel: reactions keep the laws of kernels.
use Rattle.std.proofs.Common.{◌≡◌, ◌∙◌, sym, ap, subst, refl, ℕ, ◌+◌, ◌-◌, ◌*◌, ◌<◌, ◌≤◌, List, [], ◌∷◌, length, replicate, slice_index, sum, arith}
use Rattle.std.specs.Prelude.{All}
use Rattle.std.specs.List.{fold}
use Rattle.std.proofs.Math.Nat.{mul-le-mul_right}
use Rattle.std.proofs.lemmas.List.{length-set, get_or-replicate, length-replicate}
use Rattle.std.proofs.lemmas.List.Elements.{All-head, All-tail}
use Rattle.package_fields.specs.Kernel.{KernelLaws, Reacted, nothing}
use Rattle.deck_entries.specs.declared.entries.Reaction.{Reaction}
use Rattle.mesh_rules.specs.Reaction.{added, after_reaction, before_reactions, moved_by, react_cell, taken}
use Rattle.react_kernel.specs.Code.{CanReact, ReactionsLaw, code_of, reactions_in, reacts, spelled}
use Rattle.react_kernel.specs.Steps.{only_at}
use Rattle.react_kernel.specs.ReactionLists.{at_added, at_taken, only_most, only_within, sum_added, sum_taken, item_within, sum_zeros, zeros_list, portion_within}

-- a cell after so many reactions
pub record After (fields : ℕ) (cell : List ℕ) (n : ℕ) (r : Reacted) : Type 0 where
  pub totals : length r.totals ≡ fields
  pub made : length r.made ≡ fields
  pub used : length r.used ≡ fields
  pub kept : sum r.totals ≡ sum cell
  pub balanced : (f : ℕ) → f < fields → slice_index r.totals f + slice_index r.used f ≡ slice_index cell f + slice_index r.made f
  pub made_most : (f : ℕ) → f < fields → slice_index r.made f ≤ n * sum cell
  pub used_most : (f : ℕ) → f < fields → slice_index r.used f ≤ n * sum cell

pub zero_at : (n f : ℕ) → f < n → slice_index (replicate n 0) f ≡ 0
zero_at n f h = get_or-replicate n f 0 0 h

pub after_none : (fields : ℕ) (cell : List ℕ) → length cell ≡ fields → After fields cell 0 (before_reactions cell)
after_none fields cell many = record {
  totals = many;
  made = length-replicate (length cell) 0 ∙ many;
  used = length-replicate (length cell) 0 ∙ many;
  kept = refl;
  balanced = λ f h. let z : slice_index (replicate (length cell) 0) f ≡ 0 = zero_at (length cell) f (omega arith) in omega arith;
  made_most = λ f h. let z : slice_index (replicate (length cell) 0) f ≡ 0 = zero_at (length cell) f (omega arith) in omega arith;
  used_most = λ f h. let z : slice_index (replicate (length cell) 0) f ≡ 0 = zero_at (length cell) f (omega arith) in omega arith;
}

more_times : (n s : ℕ) → (n + 1) * s ≡ n * s + s
more_times n s = grind arith

pub after_more : (fields : ℕ) (cell : List ℕ) (n : ℕ) (r : Reacted) (x : Reaction) → After fields cell n r → CanReact fields x → After fields cell (n + 1) (after_reaction r x)
after_more fields cell n r x had can =
    let m = moved_by x r.totals in
    let many : length r.totals ≡ fields = had.totals in
    let made_many : length r.made ≡ fields = had.made in
    let used_many : length r.used ≡ fields = had.used in
    let from : x.from < fields = can.from in
    let to : x.to < fields = can.to in
    let less = taken r.totals x.from m in
    let within : m ≤ slice_index r.totals x.from = portion_within (slice_index r.totals x.from) x.num x.den can.positive can.proper in
    let less_many : length less ≡ length r.totals = length-set r.totals x.from (slice_index r.totals x.from - m) in
    let most : m ≤ sum cell = (let a : slice_index r.totals x.from ≤ sum r.totals = item_within r.totals x.from (omega arith) in
    let b : sum r.totals ≡ sum cell = had.kept in omega arith) in
    let times : (n + 1) * sum cell ≡ n * sum cell + sum cell = more_times n (sum cell) in
    record {
      totals = length-set less x.to (slice_index less x.to + m) ∙ (less_many ∙ many);
      made = length-set r.made x.to (slice_index r.made x.to + m) ∙ made_many;
      used = length-set r.used x.from (slice_index r.used x.from + m) ∙ used_many;
      kept = sum_added less x.to m (omega arith) ∙ (sum_taken r.totals x.from m (omega arith) within ∙ had.kept);
      balanced = λ f h.
          let t : slice_index (added less x.to m) f ≡ slice_index less f + only_at x.to m f = at_added less x.to m f (omega arith) in
          let l : slice_index less f ≡ slice_index r.totals f - only_at x.from m f = at_taken r.totals x.from m f (omega arith) in
          let w : only_at x.from m f ≤ slice_index r.totals f = only_within r.totals x.from m f within in
          let a : slice_index (added r.made x.to m) f ≡ slice_index r.made f + only_at x.to m f = at_added r.made x.to m f (omega arith) in
          let u : slice_index (added r.used x.from m) f ≡ slice_index r.used f + only_at x.from m f = at_added r.used x.from m f (omega arith) in
          let b : slice_index r.totals f + slice_index r.used f ≡ slice_index cell f + slice_index r.made f = had.balanced f h in
          omega arith;
      made_most = λ f h.
          let a : slice_index (added r.made x.to m) f ≡ slice_index r.made f + only_at x.to m f = at_added r.made x.to m f (omega arith) in
          let b : slice_index r.made f ≤ n * sum cell = had.made_most f h in
          let o : only_at x.to m f ≤ m = only_most x.to m f in
          omega arith;
      used_most = λ f h.
          let a : slice_index (added r.used x.from m) f ≡ slice_index r.used f + only_at x.from m f = at_added r.used x.from m f (omega arith) in
          let b : slice_index r.used f ≤ n * sum cell = had.used_most f h in
          let o : only_at x.from m f ≤ m = only_most x.from m f in
          omega arith;
    }

pub after_all : (fields : ℕ) (cell : List ℕ) (n : ℕ) (r : Reacted) (xs : List Reaction) → After fields cell n r → All (CanReact fields) xs → After fields cell (n + length xs) (fold after_reaction r xs)
after_all fields cell n r [] had can = subst (λ (k : ℕ). After fields cell k r) (omega arith) had
after_all fields cell n r (x ∷ xs) had can =
    subst (λ (k : ℕ). After fields cell k (fold after_reaction (after_reaction r x) xs)) (omega arith)
    (after_all fields cell (n + 1) (after_reaction r x) xs (after_more fields cell n r x had (All-head (CanReact fields) x xs can)) (All-tail (CanReact fields) x xs can))

pub after_reactions : (fields : ℕ) (cell : List ℕ) (xs : List Reaction) → length cell ≡ fields → All (CanReact fields) xs → After fields cell (length xs) (react_cell xs cell)
after_reactions fields cell xs many can =
    subst (λ (k : ℕ). After fields cell k (react_cell xs cell)) (omega arith) (after_all fields cell 0 (before_reactions cell) xs (after_none fields cell many) can)

pub few_times : (n s k : ℕ) → n ≤ 256 → k ≤ n * s → k ≤ 256 * s
few_times n s k few h = let a : n * s ≤ 256 * s = mul-le-mul_right s few in omega (arith, a, h)

pub reactions_keep_laws : ReactionsLaw
reactions_keep_laws fields xs can few = record {
  has_fields = λ cell many. let a = after_reactions fields cell xs many can in record { totals = a.totals; made = a.made; used = a.used };
  keeps_zeros =
      let cell = replicate fields 0 in
      let a = after_reactions fields cell xs (length-replicate fields 0) can in
      let r = react_cell xs cell in
      let none : sum cell ≡ 0 = sum_zeros fields in
      let nil : length xs * sum cell ≡ 0 = ap (λ (k : ℕ). length xs * k) none ∙ grind arith in
      let totals : r.totals ≡ replicate fields 0 = zeros_list r.totals fields a.totals (λ f h.
      let i : slice_index r.totals f ≤ sum r.totals = item_within r.totals f (let n : length r.totals ≡ fields = a.totals in omega arith) in
      let s : sum r.totals ≡ sum cell = a.kept in omega arith) in
      let made : r.made ≡ replicate fields 0 = zeros_list r.made fields a.made (λ f h.
      let i : slice_index r.made f ≤ length xs * sum cell = a.made_most f h in omega arith) in
      let used : r.used ≡ replicate fields 0 = zeros_list r.used fields a.used (λ f h.
      let i : slice_index r.used f ≤ length xs * sum cell = a.used_most f h in omega arith) in
      same_reacted r (nothing fields) totals made used;
  keeps_sum = λ cell many. (after_reactions fields cell xs many can).kept;
  keeps_balance = λ cell f many h. let a = after_reactions fields cell xs many can in record {
    balanced = a.balanced f h;
    made_bounded = few_times (length xs) (sum cell) (slice_index (react_cell xs cell).made f) few (a.made_most f h);
    used_bounded = few_times (length xs) (sum cell) (slice_index (react_cell xs cell).used f) few (a.used_most f h);
  };
}
  where
    same_reacted : (r s : Reacted) → r.totals ≡ s.totals → r.made ≡ s.made → r.used ≡ s.used → r ≡ s
    same_reacted r s t m u =
        ap (λ (xs : List ℕ). let v : Reacted = record { totals = xs; made = r.made; used = r.used } in v) t
        ∙ (ap (λ (xs : List ℕ). let v : Reacted = record { totals = s.totals; made = xs; used = r.used } in v) m
        ∙ ap (λ (xs : List ℕ). let v : Reacted = record { totals = s.totals; made = s.made; used = xs } in v) u)

-- what is spelled is read
pub read_back : (rs : List Reaction) → reactions_in (spelled rs) ≡ rs
read_back [] = refl
read_back (r ∷ rs) = ap (λ (more : List Reaction). r ∷ more) (read_back rs)

pub code_laws : (fields : ℕ) (rs : List Reaction) → All (CanReact fields) rs → length rs ≤ 256 → KernelLaws fields (reacts (code_of fields rs))
code_laws fields rs can few = subst (λ (xs : List Reaction). KernelLaws fields (react_cell xs)) (sym (read_back rs)) (reactions_keep_laws fields rs can few)
