use Rattle.std.proofs.Common.{◌≡◌, ◌∙◌, ◌++◌, ◌∷◌, [], ap, sym, List, map, arith}
use Rattle.std.specs.List.{filter}
use Rattle.std.proofs.lemmas.List.{take_all}
use Rattle.field_bufs.specs.declared.buf.FieldBuf.{FieldBuf}
use Rattle.problem_set.specs.SettingsOf.{settings_of}
use Rattle.ghost_buffers.specs.declared.part.Part.{Part}
use Rattle.cycle_stores.specs.Arrivals.{makes, zeros_for}
use Rattle.cycle_stores.proofs.ZerosMade.{made_more, made_still, on_err, some_pass, zeros_like}
use Rattle.cycle_stores.proofs.arriving.zeros_of.Goals as goal
use Rattle.cycle_stores.proofs.arriving.zeros_of.Goals.{then-is_made+in_ok-buf+in_ok-push, else-is_made}

pub returns-in_err-buf-clause-refused : goal.returns-in_err-buf-clause-refused
returns-in_err-buf-clause-refused c =
    let a = c.args in
    let p = makes (settings_of a.problem.now) a.state.now a.letter.now.to in
    on_err c.from_residual.result _ (λ none. some_pass p c.as_slice-part-items.result.now c.loop-part.part-index c.part-item.result (omega (arith, c.loop-part-test.true)) c.part-item.is (sym c.if-is_made.ensures)
    (ap (λ (ps : List Part). filter p ps) c.as_slice-part-items.ensures ∙ none))

pub returns-in_err-push-clause-refused : goal.returns-in_err-push-clause-refused
returns-in_err-push-clause-refused c =
    let a = c.args in
    let p = makes (settings_of a.problem.now) a.state.now a.letter.now.to in
    on_err c.from_residual-in_err-push.result _ (λ none. some_pass p c.as_slice-part-items.result.now c.loop-part.part-index c.part-item.result (omega (arith, c.loop-part-test.true)) c.part-item.is (sym c.if-is_made.ensures)
    (ap (λ (ps : List Part). filter p ps) c.as_slice-part-items.ensures ∙ none))

pub loop-part-preserved : goal.loop-part-preserved
loop-part-preserved c = λ lay has.
    let a = c.args in
    let p = makes (settings_of a.problem.now) a.state.now a.letter.now.to in
    let f = zeros_for lay a.letter.now.to a.stamp in
    let parts = c.as_slice-part-items.result.now in
    elim c.if-is_made.branch [
      | then-is_made+in_ok-buf+in_ok-push w ↦
          let items : c.if-is_made.bufs.items ≡ w.push.new.self.items = rw w.bufs-is in
          let buf = w.in_ok-buf.ensures ∙ zeros_like a.state.now w.layout.result.now lay a.letter.now.to a.stamp c.part-item.result (record { dims = w.layout.ensures.dims; cells = w.layout.ensures.cells }) has in
          items ∙ w.in_ok-push.ensures.items ∙ ap (λ (b : FieldBuf). c.loop-part.bufs.items ++ b ∷ []) buf
          ∙ made_more f p parts c.loop-part.part-index c.part-item.result c.loop-part.bufs.items (omega (arith, c.loop-part-test.true)) c.part-item.is (sym w.if-is_made.ensures) (c.loop-part.invariant lay has)
      | else-is_made w ↦
          let items : c.if-is_made.bufs.items ≡ c.loop-part.bufs.items = rw w.bufs-is in
          items ∙ made_still f p parts c.loop-part.part-index c.part-item.result c.loop-part.bufs.items (omega (arith, c.loop-part-test.true)) c.part-item.is (sym w.if-is_made.ensures) (c.loop-part.invariant lay has)
    ]

pub returns-clause-bufs : goal.returns-clause-bufs
returns-clause-bufs c = λ l has.
    let a = c.args in
    let p = makes (settings_of a.problem.now) a.state.now a.letter.now.to in
    let f = zeros_for l a.letter.now.to a.stamp in
    c.from_vec.ensures ∙ c.loop-part.invariant l has
    ∙ ap (λ (ps : List Part). map f (filter p ps)) (take_all c.loop-part.part-index c.as_slice-part-items.result.now (omega (arith, c.loop-part-test.false)) ∙ c.as_slice-part-items.ensures)
