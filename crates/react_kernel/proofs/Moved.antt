-- An amount that is used of one field and made of another.
use Rattle.std.proofs.Common.{◌≡◌, ◌∙◌, sym, ap, inl, inr, ℕ, ◌+◌, ◌<◌, List, length, slice_index_or, slice_set, arith}
use Rattle.std.proofs.lemmas.Bool.{cases_eq}
use Rattle.std.proofs.lemmas.List.{get_or-set_same, get_or-set_other, length-set}
use Rattle.package_fields.specs.declared.flow.Flow.{Flow}
use Rattle.package_fields.specs.Flow.{no_flow}
use Rattle.react_kernel.specs.Steps.{Moves, only_at}
use Rattle.react_kernel.specs.ReactionLists.{only_here, only_there}

abbrev pub used_more : Flow → ℕ → Flow
used_more x n = record x { used = x.used + n }

abbrev pub made_more : Flow → ℕ → Flow
made_more x n = record x { made = x.made + n }

-- one flow changes
changed_at : (change : Flow → ℕ → Flow) → ((x : Flow) (n : ℕ) → n ≡ 0 → change x n ≡ x) → (flows : List Flow) (i m f : ℕ) → i < length flows
    → slice_index_or (slice_set flows i (change (slice_index_or flows i no_flow) m)) f no_flow ≡ change (slice_index_or flows f no_flow) (only_at i m f)
changed_at change none flows i m f h = elim (cases_eq f i) [
  | inl e ↦ ap (λ (k : ℕ). slice_index_or (slice_set flows i (change (slice_index_or flows i no_flow) m)) k no_flow) e
      ∙ (get_or-set_same flows i (change (slice_index_or flows i no_flow) m) no_flow h
      ∙ (ap (λ (k : ℕ). change (slice_index_or flows k no_flow) m) (sym e)
      ∙ ap (λ (n : ℕ). change (slice_index_or flows f no_flow) n) (sym (only_here i m f e))))
  | inr ne ↦ get_or-set_other flows i f (change (slice_index_or flows i no_flow) m) no_flow ne
      ∙ sym (none (slice_index_or flows f no_flow) (only_at i m f) (only_there i m f ne))
]

used_none : (x : Flow) (n : ℕ) → n ≡ 0 → used_more x n ≡ x
used_none x n e = ap (λ (k : ℕ). let a : Flow = record x { used = k } in a) (let h : x.used + n ≡ x.used = omega arith in h)

made_none : (x : Flow) (n : ℕ) → n ≡ 0 → made_more x n ≡ x
made_none x n e = ap (λ (k : ℕ). let a : Flow = record x { made = k } in a) (let h : x.made + n ≡ x.made = omega arith in h)

pub moves_made : (flows : List Flow) (from to m : ℕ) → from < length flows → to < length flows
    → let mid = slice_set flows from (used_more (slice_index_or flows from no_flow) m) in
    Moves flows (slice_set mid to (made_more (slice_index_or mid to no_flow) m)) from to m
moves_made flows from to m f_in t_in =
    let mid = slice_set flows from (used_more (slice_index_or flows from no_flow) m) in
    let many : length mid ≡ length flows = length-set flows from (used_more (slice_index_or flows from no_flow) m) in
    record {
      as_many = length-set mid to (made_more (slice_index_or mid to no_flow) m) ∙ many;
      each = λ f h.
          changed_at made_more made_none mid to m f (omega arith)
          ∙ ap (λ (x : Flow). made_more x (only_at to m f)) (changed_at used_more used_none flows from m f f_in);
    }
