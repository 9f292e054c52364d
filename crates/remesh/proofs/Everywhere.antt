-- What each of a list of calls answered.
use Rattle.std.proofs.Common.{◌≡◌, ℕ, zero, suc, ◌+◌, ◌<◌, List, [], ◌∷◌, Result, Ok, Err, length, map, refl, arith, ap, subst, sym, ◌∙◌}
use Rattle.std.specs.List.{AllZip, range_with_len, slice_index_or}
use Rattle.std.specs.Result.{IfOk, MatchResult}
use Rattle.block_tree.specs.Blocks.{TreeOfBlocks, leaves}
use Rattle.block_layout.specs.declared.layout.Layout.{Layout}
use Rattle.field_bufs.specs.declared.buf.FieldBuf.{FieldBuf}
use Rattle.dense_remesh.specs.declared.origins.Origin.{Origin}
use Rattle.cell_block.specs.State.{Stored}
use Rattle.remesh.specs.Carries.{AreAllOnLeaves, AreBuffersOn}
use Rattle.std.proofs.lemmas.List.FromFn.{get_or-range_with_len, length-range_with_len}

-- where each call answered Ok, each answer is what the call says
pub zip_ok : {X Y : Type 0} (E : Type 0) (P : X → Y → Type 0) (xs : List X) (ys : List Y) → AllZip (λ (x : X) (r : Result Y E). IfOk r (P x)) xs (map Ok ys) → AllZip P xs ys
zip_ok E P [] [] h = tt
zip_ok E P [] (y ∷ ys) h = absurd h
zip_ok E P (x ∷ xs) [] h = absurd h
zip_ok E P (x ∷ xs) (y ∷ ys) h = (h.0, zip_ok E P xs ys h.1)

pub zip_length : {X Y : Type 0} (P : X → Y → Type 0) (xs : List X) (ys : List Y) → AllZip P xs ys → length ys ≡ length xs
zip_length P [] [] h = refl
zip_length P [] (y ∷ ys) h = absurd h
zip_length P (x ∷ xs) [] h = absurd h
zip_length P (x ∷ xs) (y ∷ ys) h = ap (λ n. suc n) (zip_length P xs ys h.1)

pub zip_at : {X Y : Type 0} (P : X → Y → Type 0) (xs : List X) (ys : List Y) (k : ℕ) (d : X) (e : Y) → AllZip P xs ys → k < length xs → P (slice_index_or xs k d) (slice_index_or ys k e)
zip_at P [] ys k d e h small = absurd (omega arith)
zip_at P (x ∷ xs) [] k d e h small = absurd h
zip_at P (x ∷ xs) (y ∷ ys) zero d e h small = h.0
zip_at P (x ∷ xs) (y ∷ ys) (suc k) d e h small = zip_at P xs ys k d e h.1 (omega (arith, small))

-- the answers of calls for the first so many numbers
pub record Answered {Y : Type 0} (n : ℕ) (P : ℕ → Y → Type 0) (ys : List Y) : Type 0 where
  pub count : length ys ≡ n
  pub each : (k : ℕ) (e : Y) → k < n → P k (slice_index_or ys k e)

pub answered : {Y : Type 0} (E : Type 0) (n : ℕ) (P : ℕ → Y → Type 0) (ks : List ℕ) (xs : List (Result Y E)) (ys : List Y) → ks ≡ range_with_len 0 n → xs ≡ map Ok ys → AllZip (λ (k : ℕ) (r : Result Y E). IfOk r (P k)) ks xs → Answered n P ys
answered {Y} E n P ks xs ys is ok h =
    let zip = zip_ok E P ks ys (subst (λ (v : List (Result Y E)). AllZip (λ (k : ℕ) (r : Result Y E). IfOk r (P k)) ks v) ok h) in
    let long : length ks ≡ n = ap (λ (v : List ℕ). length v) is ∙ length-range_with_len 0 n in
    record {
      count = zip_length P ks ys zip ∙ long;
      each = λ k e small.
          let here : slice_index_or ks k 0 ≡ k = ap (λ (v : List ℕ). slice_index_or v k 0) is ∙ get_or-range_with_len 0 n k 0 small ∙ zero_more k in
          subst (λ j. P j (slice_index_or ys k e)) here (zip_at P ks ys k 0 e zip (omega (arith, long, small)));
    }
  where
    zero_more : (k : ℕ) → 0 + k ≡ k
    zero_more k = omega arith

-- a collection of all answers, or one error
pub everywhere : {V Y : Type 0} (E : Type 0) (items : V → List Y) (n : ℕ) (P : ℕ → Y → Type 0) (ks : List ℕ) (xs : List (Result Y E)) (Q : E → Type 0) (r : Result V E) → ks ≡ range_with_len 0 n → AllZip (λ (k : ℕ) (x : Result Y E). IfOk x (P k)) ks xs →
    MatchResult r (λ (v : V). (ys : List Y) × (xs ≡ map Ok ys) × (items v ≡ ys)) Q → IfOk r (λ (v : V). Answered n P (items v))
everywhere {V} {Y} E items n P ks xs Q (Ok v) is h m = subst (Answered n P) (sym m.2) (answered E n P ks xs m.0 is m.1 h)
everywhere E items n P ks xs Q (Err e) is h m = tt

-- the buffers of all leaves
pub all_on : (l : Layout) (old : Stored) (t : TreeOfBlocks) (origins : List Origin) (all : List (List FieldBuf)) → Answered (length (leaves t)) (AreBuffersOn l old t origins) all → AreAllOnLeaves l old t origins all
unfolding AreBuffersOn
all_on l old t origins all a = record { count = a.count; each = λ k small. a.each k [] small }

-- the buffers by what the closure has taken along
pub captured : (n : ℕ) (l layout : Layout) (s old : Stored) (t next : TreeOfBlocks) (o origins : List Origin) (all : List (List FieldBuf)) → l ≡ layout → s ≡ old → t ≡ next → o ≡ origins → Answered n (AreBuffersOn l s t o) all →
    Answered n (AreBuffersOn layout old next origins) all
captured n l layout s old t next o origins all a b c d h =
    subst (λ (v : Layout). Answered n (AreBuffersOn v old next origins) all) a
    (subst (λ (v : Stored). Answered n (AreBuffersOn l v next origins) all) b
    (subst (λ (v : TreeOfBlocks). Answered n (AreBuffersOn l s v origins) all) c (subst (λ (v : List Origin). Answered n (AreBuffersOn l s t v) all) d h)))
