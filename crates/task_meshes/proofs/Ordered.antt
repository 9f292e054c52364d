-- Buffers by block, then field.
use Rattle.std.proofs.Common.{◌≡◌, ◌≢◌, inl, inr, ℕ, ◌+◌, ◌<◌, ◌≤◌, true, false, List, length, arith, subst}
use Rattle.std.proofs.lemmas.Bool.{cases_lt}
use Rattle.std.proofs.lemmas.Bool.Decides.{nat_tests}
use Rattle.field_bufs.specs.declared.buf.FieldBuf.{FieldBuf}
use Rattle.task_meshes.specs.Orders.{AreOfBlock, BufsRise, buf_at, is_before}

-- places before others
pub before_next : (a f b g c h : ℕ) → is_before a f b g ≡ true → is_before b g c h ≡ true → is_before a f c h ≡ true
before_next a f b g c h p q = grind (arith, nat_tests)

pub not_before : (a f b g c h : ℕ) → is_before a f b g ≡ true → is_before a f c h ≡ false → is_before b g c h ≡ false
not_before a f b g c h p q = grind (arith, nat_tests)

pub before_block : (a f b : ℕ) → is_before a f b 0 ≡ true → a < b
before_block a f b p = grind (arith, nat_tests)

pub from_block : (a f b : ℕ) → is_before a f b 0 ≡ false → b ≤ a
from_block a f b p = grind (arith, nat_tests)

pub blocks_rise : (a f b g : ℕ) → is_before a f b g ≡ true → a ≤ b
blocks_rise a f b g p = grind (arith, nat_tests)

pub fields_rise : (a f b g : ℕ) → is_before a f b g ≡ true → a ≡ b → f < g
fields_rise a f b g p e = grind (arith, nat_tests)

-- a search by halves: all before a place are before the target, and from another one on none is
pub record Halving (bufs : List FieldBuf) (block field low high : ℕ) : Type 0 where
  pub ordered : low ≤ high
  pub within : high ≤ length bufs
  pub before : (k : ℕ) → k < low → is_before (buf_at bufs k).block (buf_at bufs k).field block field ≡ true
  pub after : (k : ℕ) → high ≤ k → k < length bufs → is_before (buf_at bufs k).block (buf_at bufs k).field block field ≡ false

pub halve_up : (bufs : List FieldBuf) (block field low high middle : ℕ) → BufsRise bufs → Halving bufs block field low high → low ≤ middle → middle < high →
    is_before (buf_at bufs middle).block (buf_at bufs middle).field block field ≡ true → Halving bufs block field (middle + 1) high
halve_up bufs block field low high middle rise h below above here = record {
  ordered = omega arith;
  within = h.within;
  before = λ k less. elim (cases_lt k middle) [
    | inl earlier ↦
        before_next (buf_at bufs k).block (buf_at bufs k).field (buf_at bufs middle).block (buf_at bufs middle).field block field (rise k middle earlier (omega (arith, h.within))) here
    | inr later ↦
        let same : middle ≡ k = omega arith in
        subst (λ j. is_before (buf_at bufs j).block (buf_at bufs j).field block field ≡ true) same here
  ];
  after = h.after;
}

pub halve_down : (bufs : List FieldBuf) (block field low high middle : ℕ) → BufsRise bufs → Halving bufs block field low high → low ≤ middle → middle < high →
    is_before (buf_at bufs middle).block (buf_at bufs middle).field block field ≡ false → Halving bufs block field low middle
halve_down bufs block field low high middle rise h below above here = record {
  ordered = below;
  within = omega (arith, h.within);
  before = h.before;
  after = λ k more few. elim (cases_lt middle k) [
    | inl later ↦ not_before (buf_at bufs middle).block (buf_at bufs middle).field (buf_at bufs k).block (buf_at bufs k).field block field (rise middle k later few) here
    | inr sooner ↦
        let same : middle ≡ k = omega arith in
        subst (λ j. is_before (buf_at bufs j).block (buf_at bufs j).field block field ≡ false) same here
  ];
}

-- the buffers of a block are a run
pub run_of_block : (bufs : List FieldBuf) (block start end : ℕ) → BufsRise bufs → start ≤ end → end ≤ length bufs →
    ((k : ℕ) → k < start → is_before (buf_at bufs k).block (buf_at bufs k).field block 0 ≡ true) →
    ((k : ℕ) → start ≤ k → k < length bufs → is_before (buf_at bufs k).block (buf_at bufs k).field block 0 ≡ false) →
    ((k : ℕ) → start ≤ k → k < end → (buf_at bufs k).block ≡ block) → (end < length bufs → (buf_at bufs end).block ≢ block) → AreOfBlock bufs block start end
run_of_block bufs block start end rise ordered within before from here next = record {
  ordered = ordered;
  within = within;
  before = λ k less same. let b = before_block (buf_at bufs k).block (buf_at bufs k).field block (before k less) in omega arith;
  here = here;
  after = λ k more few same.
      let low = from_block (buf_at bufs end).block (buf_at bufs end).field block (from end ordered (omega arith)) in
      let other = next (omega arith) in
      elim (cases_lt end k) [
        | inl later ↦ let up = blocks_rise (buf_at bufs end).block (buf_at bufs end).field (buf_at bufs k).block (buf_at bufs k).field (rise end k later few) in other (omega arith)
        | inr sooner ↦ let e : k ≡ end = omega arith in other (subst (λ j. (buf_at bufs j).block ≡ block) e same)
      ];
}
