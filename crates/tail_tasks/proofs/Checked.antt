-- What checks leave.
use Rattle.std.proofs.Common.{◌≡◌, ◌==◌, ℕ, ◌+◌, ◌<◌, ◌≤◌, Bool, true, false, cond, ◌&&◌, not, nat_eq, nat_le, List, [], ◌∷◌, ◌++◌, drop, length, refl, arith, ap, sym, ◌∙◌, slice_index, sum, append_assoc}
use Rattle.std.proofs.lemmas.Bool.{lt-ltb}
use Rattle.std.proofs.lemmas.Bool.Decides.{nat_tests}
use Rattle.std.proofs.lemmas.List.{append-nil, drop_all, drop_more}
use Rattle.sparse_pool.specs.declared.place.Place.{Place}
use Rattle.sparse_pool.specs.Idle.{checked}
use Rattle.field_bufs.specs.declared.buf.FieldBuf.{FieldBuf}
use Rattle.mesh_rules.specs.Fields as fields
use Rattle.mesh_rules.specs.Fields.{field_count}
use Rattle.cycle_kernels.specs.Blocks.{CycleMesh, may_lack}
use Rattle.cycle_kernels.specs.Lists.{own_totals}
use Rattle.lent_bufs.specs.Buffers.{place_of}
use Rattle.lent_bufs.proofs.Each.{buf_at, no_buf}
use Rattle.tail_tasks.specs.Checks.{count_after, counts_after, drop_of, freed_of, keeps_on}

-- whether blocks may go without a field
pub lacks_is : (w : CycleMesh) (f : ℕ) → f < field_count w.settings → may_lack w f ≡ fields.is_sparse w.settings f
lacks_is w f few = ap (λ (t : Bool). cond t (fields.is_sparse w.settings f) true) (lt-ltb f (field_count w.settings) few)

last_or_more : (count limit : ℕ) → count < limit → nat_eq (count + 1) limit ≡ nat_le limit (count + 1)
last_or_more count limit h = grind (arith, nat_tests)

-- of a sparse field that is kept
pub count_noted : (above : Bool) (count limit : ℕ) → count < limit →
    cond (checked count (not above) limit).free 0 (checked count (not above) limit).count ≡ cond (not above && not (nat_le limit (count + 1))) (count + 1) 0
count_noted true count limit h = refl
count_noted false count limit h = by (nat_eq (count + 1) limit) ∙ ap (λ (t : Bool). cond (not t) (count + 1) 0) (last_or_more count limit h)
  where
    by : (t : Bool) → cond t 0 (count + 1) ≡ cond (not t) (count + 1) 0
    by true = refl
    by false = refl

pub keep_noted : (above : Bool) (count limit : ℕ) → count < limit → not (checked count (not above) limit).free ≡ not (not above && nat_le limit (count + 1))
keep_noted true count limit h = refl
keep_noted false count limit h = ap not (last_or_more count limit h)

-- the rest of buffers, one step on
pub rest_bufs : (bufs : List FieldBuf) (n : ℕ) → n < length bufs → drop n bufs ≡ buf_at bufs n ∷ drop (n + 1) bufs
rest_bufs bufs n h = drop_more bufs n no_buf h

rest_counts : (counts : List ℕ) (n : ℕ) → n < length counts → drop n counts ≡ slice_index counts n ∷ drop (n + 1) counts
rest_counts counts n h = drop_more counts n 0 h

both : {X : Type 0} (F : List FieldBuf → List ℕ → X) (bufs : List FieldBuf) (counts : List ℕ) (n : ℕ) → n < length bufs → length counts ≡ length bufs →
    F (drop n bufs) (drop n counts) ≡ F (buf_at bufs n ∷ drop (n + 1) bufs) (slice_index counts n ∷ drop (n + 1) counts)
both F bufs counts n h many = ap (λ (v : List FieldBuf). F v (drop n counts)) (rest_bufs bufs n h) ∙ ap (λ (v : List ℕ). F (buf_at bufs n ∷ drop (n + 1) bufs) v) (rest_counts counts n (omega (arith, h, many)))

-- as far as the first so many buffers were checked
pub record AreCheckedTo (w : CycleMesh) (kept : List Place) (bufs : List FieldBuf) (counts : List ℕ) (n : ℕ) (next : List ℕ) (freed : List Place) (drops : List ℕ) : Type 0 where
  pub counted : next ++ counts_after w kept (drop n bufs) (drop n counts) ≡ counts_after w kept bufs counts
  pub released : freed ++ freed_of w kept (drop n bufs) (drop n counts) ≡ freed_of w kept bufs counts
  pub dropped : (f : ℕ) → slice_index drops f + drop_of w kept f (drop n bufs) (drop n counts) ≡ drop_of w kept f bufs counts

pub checked_none : (w : CycleMesh) (kept : List Place) (bufs : List FieldBuf) (counts : List ℕ) → AreCheckedTo w kept bufs counts 0 [] [] []
checked_none w kept bufs counts = record { counted = nothing (counts_after w kept bufs counts); released = nothing (freed_of w kept bufs counts); dropped = λ f. omega arith }
  where
    nothing : {X : Type 0} (xs : List X) → [] ++ xs ≡ xs
    nothing xs = refl

pub checked_more : (w : CycleMesh) (kept : List Place) (bufs : List FieldBuf) (counts : List ℕ) (n : ℕ) (next new_next : List ℕ) (freed new_freed : List Place) (drops new_drops : List ℕ) (count : ℕ) (keeps : Bool) →
    AreCheckedTo w kept bufs counts n next freed drops → n < length bufs → length counts ≡ length bufs → count ≡ count_after w kept (buf_at bufs n) (slice_index counts n) → keeps ≡ keeps_on w kept (buf_at bufs n) (slice_index counts n) →
    new_next ≡ next ++ count ∷ [] → new_freed ≡ cond keeps freed (freed ++ place_of (buf_at bufs n) ∷ []) →
    ((f : ℕ) → slice_index new_drops f ≡ slice_index drops f + cond (f == (buf_at bufs n).field) (cond keeps 0 (sum (own_totals w.layout (buf_at bufs n).cells))) 0) →
    AreCheckedTo w kept bufs counts (n + 1) new_next new_freed new_drops
checked_more w kept bufs counts n next new_next freed new_freed drops new_drops count keeps had few many count_is keeps_is nexts frees falls =
    let buf : FieldBuf = buf_at bufs n in
    let old : ℕ = slice_index counts n in
    record {
      counted =
          ap (λ (v : List ℕ). v ++ counts_after w kept (drop (n + 1) bufs) (drop (n + 1) counts)) nexts
          ∙ append_assoc next (count ∷ []) (counts_after w kept (drop (n + 1) bufs) (drop (n + 1) counts))
          ∙ ap (λ (v : ℕ). next ++ (v ∷ counts_after w kept (drop (n + 1) bufs) (drop (n + 1) counts))) count_is
          ∙ ap (λ (v : List ℕ). next ++ v) (sym (both (counts_after w kept) bufs counts n few many))
          ∙ had.counted;
      released =
          ap (λ (v : List Place). v ++ freed_of w kept (drop (n + 1) bufs) (drop (n + 1) counts)) frees
          ∙ joined keeps freed (place_of buf) (freed_of w kept (drop (n + 1) bufs) (drop (n + 1) counts))
          ∙ ap (λ (t : Bool). freed ++ cond t (freed_of w kept (drop (n + 1) bufs) (drop (n + 1) counts)) (place_of buf ∷ freed_of w kept (drop (n + 1) bufs) (drop (n + 1) counts))) keeps_is
          ∙ ap (λ (v : List Place). freed ++ v) (sym (both (freed_of w kept) bufs counts n few many))
          ∙ had.released;
      dropped = λ f.
          let amount : ℕ = sum (own_totals w.layout buf.cells) in
          let rest : ℕ = drop_of w kept f (drop (n + 1) bufs) (drop (n + 1) counts) in
          let a = falls f in
          let b : cond (f == buf.field) (cond keeps 0 amount) 0 ≡ cond (f == buf.field) (cond (keeps_on w kept buf old) 0 amount) 0 = ap (λ (t : Bool). cond (f == buf.field) (cond t 0 amount) 0) keeps_is in
          let c : drop_of w kept f (drop n bufs) (drop n counts) ≡ cond (f == buf.field) (cond (keeps_on w kept buf old) 0 amount) 0 + rest = both (drop_of w kept f) bufs counts n few many in
          let d = had.dropped f in
          omega (arith, a, b, c, d);
    }
  where
    joined : (t : Bool) (freed : List Place) (at : Place) (rest : List Place) → cond t freed (freed ++ at ∷ []) ++ rest ≡ freed ++ cond t rest (at ∷ rest)
    joined true freed at rest = refl
    joined false freed at rest = append_assoc freed (at ∷ []) rest

pub all_checked : (w : CycleMesh) (kept : List Place) (bufs : List FieldBuf) (counts : List ℕ) (n : ℕ) (next : List ℕ) (freed : List Place) (drops : List ℕ) → AreCheckedTo w kept bufs counts n next freed drops → length bufs ≤ n →
    (next ≡ counts_after w kept bufs counts) × (freed ≡ freed_of w kept bufs counts) × ((f : ℕ) → slice_index drops f ≡ drop_of w kept f bufs counts)
all_checked w kept bufs counts n next freed drops had most =
    let none : drop n bufs ≡ [] = drop_all n bufs most in (
      sym (append-nil next) ∙ ap (λ (v : List FieldBuf). next ++ counts_after w kept v (drop n counts)) (sym none) ∙ had.counted,
      sym (append-nil freed) ∙ ap (λ (v : List FieldBuf). freed ++ freed_of w kept v (drop n counts)) (sym none) ∙ had.released,
      λ f. let a : drop_of w kept f (drop n bufs) (drop n counts) ≡ 0 = ap (λ (v : List FieldBuf). drop_of w kept f v (drop n counts)) none in let b = had.dropped f in omega (arith, a, b),
    )
