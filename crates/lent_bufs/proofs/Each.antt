-- Buffers that are worked on one after another, and sums over them.
use Rattle.std.proofs.Common.{◌≡◌, ◌==◌, ℕ, ◌+◌, ◌<◌, ◌≤◌, cond, List, [], ◌∷◌, map, take, length, refl, arith, ap, sym, ◌∙◌, slice_set, inl, inr}
use Rattle.std.specs.List.{slice_index_or}
use Rattle.std.proofs.lemmas.Bool.{cases_eq}
use Rattle.std.proofs.lemmas.List.{ext_get_or, get_or-map, get_or-set_other, get_or-set_same, length-map, length-set, take_more}
use Rattle.field_bufs.specs.declared.buf.FieldBuf.{FieldBuf}
use Rattle.mesh_rules.specs.Sums.{sum_over}
use Rattle.mesh_laws.proofs.Grids.{sum_over-append}
use Rattle.lent_bufs.specs.Sums.{sum_of_field}

abbrev pub no_buf : FieldBuf
no_buf = record { block = 0; field = 0; stamp = 0; cells = []; right = []; left = [] }

abbrev pub buf_at : List FieldBuf → ℕ → FieldBuf
buf_at bufs k = slice_index_or bufs k no_buf

-- the first so many buffers are what each was made
pub record AreDoneTo (F : FieldBuf → FieldBuf) (n : ℕ) (old now : List FieldBuf) : Type 0 where
  pub count : length now ≡ length old
  pub done : (k : ℕ) → k < n → buf_at now k ≡ F (buf_at old k)
  pub rest : (k : ℕ) → n ≤ k → buf_at now k ≡ buf_at old k

pub done_none : (F : FieldBuf → FieldBuf) (bufs : List FieldBuf) → AreDoneTo F 0 bufs bufs
done_none F bufs = record { count = refl; done = λ k small. absurd (omega arith); rest = λ k most. refl }

pub done_more : (F : FieldBuf → FieldBuf) (n : ℕ) (old now : List FieldBuf) (y : FieldBuf) → AreDoneTo F n old now → n < length old → y ≡ F (buf_at old n) → AreDoneTo F (n + 1) old (slice_set now n y)
done_more F n old now y had few is =
    let many = had.count in
    record {
      count = length-set now n y ∙ had.count;
      done = λ k small. elim (cases_eq k n) [
        | inl e ↦ ap (buf_at (slice_set now n y)) e ∙ get_or-set_same now n y no_buf (omega arith) ∙ is ∙ sym (ap (λ (j : ℕ). F (buf_at old j)) e)
        | inr ne ↦ get_or-set_other now n k y no_buf ne ∙ had.done k (omega arith)
      ];
      rest = λ k most. get_or-set_other now n k y no_buf (λ e. absurd (omega arith)) ∙ had.rest k (omega arith);
    }

pub all_done : (F : FieldBuf → FieldBuf) (n : ℕ) (old now : List FieldBuf) → AreDoneTo F n old now → length old ≤ n → now ≡ map F old
all_done F n old now had most =
    let many = had.count in
    ext_get_or no_buf now (map F old) (had.count ∙ sym (length-map old F))
    (λ k small. had.done k (omega arith) ∙ sym (get_or-map F old k no_buf no_buf (omega arith)))

-- a sum over one more buffer
pub sum_more : (bufs : List FieldBuf) (n : ℕ) (each : FieldBuf → ℕ) → n < length bufs → sum_over (take (n + 1) bufs) each ≡ sum_over (take n bufs) each + each (buf_at bufs n)
sum_more bufs n each few =
    ap (λ (v : List FieldBuf). sum_over v each) (take_more bufs n no_buf few)
    ∙ sum_over-append (take n bufs) (buf_at bufs n ∷ []) each
    ∙ (let z : each (buf_at bufs n) + 0 ≡ each (buf_at bufs n) = omega arith in ap (λ (v : ℕ). sum_over (take n bufs) each + v) z)

pub field_more : (bufs : List FieldBuf) (n : ℕ) (each : FieldBuf → ℕ) (f : ℕ) → n < length bufs →
    sum_of_field (take (n + 1) bufs) each f ≡ sum_of_field (take n bufs) each f + cond (f == (buf_at bufs n).field) (each (buf_at bufs n)) 0
field_more bufs n each f few = sum_more bufs n (λ buf. cond (f == buf.field) (each buf) 0) few
