-- A shelf of which one place is kept no more.
use Rattle.std.proofs.Common.{◌≡◌, ◌≢◌, ◌∙◌, sym, ap, subst, refl, inl, inr, ℕ, ◌+◌, ◌-◌, ◌<◌, ◌&&◌, ◌||◌, not, cond, nat_lt, Bool, true, false, Option, None, Some, is_some, List, [], ◌∷◌, length, slice_index_or, slice_set, arith}
use Rattle.std.specs.Option.{IfNone, OnSome}
use Rattle.std.proofs.lemmas.Bool.{and_right, cases_lt, cond-false, le-ltb}
use Rattle.std.proofs.lemmas.List.{get_or_past, get_or-set_same, length-set}
use Rattle.sparse_pool.specs.declared.place.Place.{Place}
use Rattle.alloc_epochs.specs.Shelf.{Shelved, key_at, keys_of, with_key}
use Rattle.pack_cache.specs.Packs.{same_place}
use Rattle.cell_block.proofs.Buffers.{put_cases}
use Rattle.cell_block.proofs.Grids.{at_place, cases_place, put_at, put_long, put_rows, put_same, row_of}
use Rattle.cycle_stores.specs.Stores.{AreKeptNoMore, IsShelf, is_among, is_kept}
use Rattle.cycle_stores.proofs.Folds.{is_same, not_same}

abbrev Keys : Type 0
Keys = List (List (Option ℕ))

-- a shelf that begins with the first block has its keys by the numbers of blocks
keys_from : (s : Shelved) (block : ℕ) → s.first ≡ 0 → keys_of s block ≡ slice_index_or s.keys block []
keys_from s block e =
    ap (λ n. cond (nat_lt block n) [] (slice_index_or s.keys (block - n) [])) e
    ∙ cond-false (nat_lt block 0) [] (slice_index_or s.keys (block - 0) []) (le-ltb block 0 (omega arith))
    ∙ (let same : block - 0 ≡ block = omega arith in ap (λ n. slice_index_or s.keys n []) same)

pub key_from : (s : Shelved) (at : Place) → s.first ≡ 0 → key_at s at ≡ at_place s.keys at
key_from s at e = ap (λ (row : List (Option ℕ)). slice_index_or row at.field None) (keys_from s at.block e)

with_key_from : (s : Shelved) (at : Place) (key : Option ℕ) → s.first ≡ 0 → with_key s at key ≡ put_at s.keys at key
with_key_from s at key e =
    ap (λ (row : List (Option ℕ)). slice_set s.keys (at.block - s.first) (slice_set row at.field key)) (keys_from s at.block e)
    ∙ (let same : at.block - s.first ≡ at.block = omega (arith, e) in
    ap (λ n. slice_set s.keys n (slice_set (slice_index_or s.keys at.block []) at.field key)) same)

-- nothing stands where nothing was put
gone : (keys : Keys) (at : Place) → at_place (put_at keys at None) at ≡ None
gone keys at =
    let none : Option ℕ = None in
    let row = slice_set (row_of keys at.block) at.field none in
    elim (cases_lt at.block (length keys)) [
      | inl block ↦ elim (cases_lt at.field (length (row_of keys at.block))) [
        | inl field ↦ put_same keys at None block field
        | inr past ↦ ap (λ (r : List (Option ℕ)). slice_index_or r at.field None) (get_or-set_same keys at.block row [] block)
            ∙ get_or_past row at.field None (omega (arith, past, length-set (row_of keys at.block) at.field none))
      ]
      | inr past ↦ ap (λ (r : List (Option ℕ)). slice_index_or r at.field None) (get_or_past (slice_set keys at.block row) at.block [] (omega (arith, past, length-set keys at.block row)))
    ]

still : (keys : Keys) (at p : Place) → p ≢ at → at_place (put_at keys at None) p ≡ at_place keys p
still keys at p ne = elim (put_cases keys at p None) [
  | inl same ↦ same
  | inr here ↦ absurd (ne here.0)
]

and_true : (b : Bool) → b ≡ (b && true)
and_true true = refl
and_true false = refl

-- what is among no place but one
kept_by : (k n : Bool) (p at : Place) → (p ≡ at → n ≡ false) → (p ≢ at → n ≡ k) → n ≡ (k && not (same_place p at || false))
kept_by k n p at here other = elim (cases_place p at) [
  | inl e ↦ here e ∙ sym (and_right k (not (same_place p at || false)) (ap (λ (q : Place). not (same_place p q || false)) (sym e) ∙ ap (λ (b : Bool). not (b || false)) (is_same p)))
  | inr ne ↦ other ne ∙ and_true k ∙ ap (λ (b : Bool). k && not (b || false)) (sym (not_same p at ne))
]

-- the shelf without a place, and a shelf that did not have it
put_off : (old new : Shelved) (at : Place) → IsShelf old → new ≡ record old { keys = with_key old at None; epoch = new.epoch; spare = new.spare } → AreKeptNoMore old new (at ∷ [])
put_off old new at shelf is =
    let first : new.first ≡ 0 = ap (λ (s : Shelved). s.first) is ∙ shelf.first in
    let keys : new.keys ≡ put_at old.keys at None = ap (λ (s : Shelved). s.keys) is ∙ with_key_from old at None shelf.first in
    let fields : new.fields ≡ old.fields = ap (λ (s : Shelved). s.fields) is in
    let blocks : length new.keys ≡ length old.keys = ap (λ (ks : Keys). length ks) keys ∙ put_long old.keys at None in
    record {
      like = record {
        shaped = record {
          first = first;
          rows = λ row within. ap (λ (ks : Keys). length (slice_index_or ks row [])) keys ∙ put_rows old.keys at None row ∙ shelf.rows row (omega (arith, within, blocks)) ∙ sym fields;
        };
        numbers = fields;
        blocks = blocks;
      };
      kept = λ p. kept_by (is_kept old p) (is_kept new p) p at
          (λ e. ap (λ (o : Option ℕ). is_some o) (key_from new p first ∙ ap (λ (ks : Keys). at_place ks p) keys ∙ ap (at_place (put_at old.keys at None)) e ∙ gone old.keys at))
          (λ ne. ap (λ (o : Option ℕ). is_some o) (key_from new p first ∙ ap (λ (ks : Keys). at_place ks p) keys ∙ still old.keys at p ne ∙ sym (key_from old p shelf.first)));
    }

was_off : (old : Shelved) (at : Place) → IsShelf old → key_at old at ≡ None → AreKeptNoMore old old (at ∷ [])
was_off old at shelf none = record {
  like = record { shaped = shelf; numbers = refl; blocks = refl };
  kept = λ p. kept_by (is_kept old p) (is_kept old p) p at (λ e. ap (λ (q : Place). is_kept old q) e ∙ ap (λ (o : Option ℕ). is_some o) none) (λ _. refl);
}

no_more : (old new : Shelved) (at : Place) (key : Option ℕ) → IsShelf old → key ≡ key_at old at
    → OnSome key (new ≡ record old { keys = with_key old at None; epoch = old.epoch + 1; spare = new.spare }) → IfNone key (new ≡ old) → AreKeptNoMore old new (at ∷ [])
no_more old new at None shelf is off same = subst (λ (s : Shelved). AreKeptNoMore old s (at ∷ [])) (sym same) (was_off old at shelf (sym is))
no_more old new at (Some k) shelf is off same = put_off old new at shelf (off ∙ ap (λ n. record old { keys = with_key old at None; epoch = n; spare = new.spare }) (sym (ap (λ (s : Shelved). s.epoch) off)))

-- the same from a shelf that differs in its epoch alone
pub kept_no_more : (old mid new : Shelved) (at : Place) (key : Option ℕ) → IsShelf old → mid ≡ record old { epoch = 0 } → key ≡ key_at mid at
    → OnSome key (new ≡ record mid { keys = with_key mid at None; epoch = mid.epoch + 1; spare = new.spare }) → IfNone key (new ≡ mid) → AreKeptNoMore old new (at ∷ [])
kept_no_more old mid new at key shelf mid_is is off same =
    let first : mid.first ≡ 0 = ap (λ (s : Shelved). s.first) mid_is ∙ shelf.first in
    let rows : (row : ℕ) → row < length mid.keys → length (slice_index_or mid.keys row []) ≡ mid.fields =
    subst (λ (s : Shelved). (row : ℕ) → row < length s.keys → length (slice_index_or s.keys row []) ≡ s.fields) (sym mid_is) shelf.rows in
    let now = no_more mid new at key (record { first = first; rows = rows }) is off same in
    record {
      like = record { shaped = now.like.shaped; numbers = now.like.numbers ∙ ap (λ (s : Shelved). s.fields) mid_is; blocks = now.like.blocks ∙ ap (λ (s : Shelved). length s.keys) mid_is };
      kept = λ p. now.kept p ∙ ap (λ (s : Shelved). is_kept s p && not (is_among (at ∷ []) p)) mid_is;
    }
