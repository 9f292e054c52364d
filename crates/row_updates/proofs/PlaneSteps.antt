-- What one more plane makes of a list.
use Rattle.std.proofs.Common.{◌≡◌, ◌≢◌, ℕ, ◌+◌, ◌*◌, ◌<◌, List, get_or, sym, ◌∙◌, ap, subst, arith, inl, inr}
use Rattle.strided_rows.specs.declared.planes.Planes.{Planes}
use Rattle.strided_rows.specs.Written.{Apart, rows_of}
use Rattle.row_updates.specs.Numbers.{Numbers}
use Rattle.row_updates.specs.Steps.{PlaneSources, PlanesDone, PlanesStay, RowSources, RowsDone, RowsStay, in_plane, in_row, plane_numbers}
use Rattle.row_updates.proofs.RowSteps.{last_or_before, step_below}

-- the rows of a plane that are read
abbrev pub rows_from : PlaneSources → ℕ → RowSources
rows_from from plane = record {
  one = from.one;
  first = rows_of from.first plane;
  second = rows_of from.second plane;
  other = from.other;
  third = rows_of from.third plane;
  fourth = rows_of from.fourth plane;
}

-- a plane before another one ends before it
plane_before : (at : Planes) (len count p plane r k : ℕ) → Apart len count at → p < plane → r < count → k < len → in_plane at p r k < at.first + plane * at.plane
plane_before at len count p plane r k apart hp hr hk = omega (arith, step_below p plane at.plane hp, step_below r count at.step hr, apart.rows, apart.planes)

apart_plane : (at : Planes) (len count p plane r k q x : ℕ) → Apart len count at → p < plane → r < count → k < len → in_plane at p r k ≢ in_row (rows_of at plane) q x
apart_plane at len count p plane r k q x apart hp hr hk = λ e. absurd (omega (arith, plane_before at len count p plane r k apart hp hr hk))

pub apart_later : (at : Planes) (len count plane r k p q x : ℕ) → Apart len count at → p < plane → q < count → x < len → in_plane at plane r k ≢ in_plane at p q x
apart_later at len count plane r k p q x apart hp hq hx = λ e. absurd (omega (arith, plane_before at len count p plane q x apart hp hq hx))

-- planes are done, and all else is as it was
pub record PlanesAre (gives : Numbers → ℕ) (from : PlaneSources) (len count planes : ℕ) (at : Planes) (old new : List ℕ) : Type 0 where
  pub done : PlanesDone gives from len count planes at old new
  pub rest : PlanesStay len count planes at old new

pub one_more_plane : (gives : Numbers → ℕ) (from : PlaneSources) (len count plane : ℕ) (at : Planes) (old before after : List ℕ) → Apart len count at
    → PlanesAre gives from len count plane at old before
    → RowsDone gives (rows_from from plane) len count (rows_of at plane) before after
    → RowsStay len count (rows_of at plane) before after
    → PlanesAre gives from len count (plane + 1) at old after
one_more_plane gives from len count plane at old before after apart is here stays = record { done = done; rest = rest }
  where
    done : PlanesDone gives from len count (plane + 1) at old after
    done p r k hp hr hk = elim (last_or_before p plane hp) [
      | inl e ↦ subst (λ (v : ℕ). get_or after (in_plane at v r k) 0 ≡ gives (plane_numbers from v r k (get_or old (in_plane at v r k) 0))) (sym e)
          (here r k hr hk ∙ ap (λ (v : ℕ). gives (plane_numbers from plane r k v)) (is.rest (in_plane at plane r k) (λ q s x hq hs hx. apart_later at len count plane r k q s x apart hq hs hx)))
      | inr h ↦ stays (in_plane at p r k) (λ s x hs hx. apart_plane at len count p plane r k s x apart h hr hk) ∙ is.done p r k h hr hk
    ]

    rest : PlanesStay len count (plane + 1) at old after
    rest n off = stays n (λ r k hr hk. off plane r k (omega arith) hr hk) ∙ is.rest n (λ p r k hp hr hk. off p r k (omega arith) hr hk)
