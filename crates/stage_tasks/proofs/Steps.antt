-- Steps of loops over buffers.
use Rattle.std.proofs.Common.{◌≡◌, ℕ, ◌+◌, ◌<◌, ◌≤◌, Bool, true, false, cond, List, length, refl, arith, ap, sym, ◌∙◌}
use Rattle.std.specs.Int.{from_bool}
use Rattle.std.specs.List.{slice_index_or}
use Rattle.std.proofs.lemmas.List.{get_or_read}
use Rattle.package_fields.specs.declared.flow.Flow.{Flow}
use Rattle.package_fields.specs.Flow.{no_flow}
use Rattle.field_bufs.specs.declared.buf.FieldBuf.{FieldBuf}
use Rattle.lent_bufs.specs.Sums.{with_flow}
use Rattle.lent_bufs.proofs.Each.{AreDoneTo, buf_at, no_buf}

-- the next buffer is as it was
pub item_is : (F : FieldBuf → FieldBuf) (n : ℕ) (old now : List FieldBuf) (item : FieldBuf) → AreDoneTo F n old now → n < length old → item ≡ slice_index_or now n item → slice_index_or now n item ≡ buf_at old n
item_is F n old now item had few is = let many = had.count in sym is ∙ get_or_read now n item (omega (arith, many, few)) is no_buf ∙ had.rest n (omega arith)

pub as_number : (b : Bool) → from_bool b ≡ cond b 1 0
as_number true = refl
as_number false = refl

pub cond_most : (t : Bool) (x most : ℕ) → x ≤ most → cond t x 0 ≤ most
cond_most true x most h = h
cond_most false x most h = omega arith

-- a flow that was summed so far, with more in and out
pub flow_more : (old new : Flow) (a b i o more_i more_o : ℕ) → new ≡ with_flow old i o → old ≡ with_flow no_flow a b → more_i ≡ a + i → more_o ≡ b + o → new ≡ with_flow no_flow more_i more_o
flow_more old new a b i o more_i more_o is was more_in more_out =
    is
    ∙ ap (λ (v : Flow). with_flow v i o) was
    ∙ ap (λ (v : ℕ). let f : Flow = record { inflow = v; outflow = 0 + b + o; made = 0; used = 0 } in f) (let e : 0 + a + i ≡ 0 + more_i = omega (arith, more_in) in e)
    ∙ ap (λ (v : ℕ). let f : Flow = record { inflow = 0 + more_i; outflow = v; made = 0; used = 0 } in f) (let e : 0 + b + o ≡ 0 + more_o = omega (arith, more_out) in e)
