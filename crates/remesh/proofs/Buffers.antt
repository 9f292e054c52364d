-- Lists of buffers that grow and shrink at their end.
use Rattle.std.proofs.Common.{◌≡◌, ◌≢◌, ℕ, Bool, true, false, ◌||◌, nat_eq, List, [], ◌∷◌, ◌++◌, ◌+◌, ◌<◌, ◌≤◌, All, length, refl, arith, ap, subst, sym, ◌∙◌, sum, inl, inr}
use Rattle.std.specs.List.{list_any}
use Rattle.std.proofs.lemmas.Bool.{cases_lt, false≢true, ne_eqb}
use Rattle.std.proofs.lemmas.List.Elements.{All-push}
use Rattle.dense_remesh.proofs.Pushed.{count_pushed}
use Rattle.field_bufs.specs.declared.buf.FieldBuf.{FieldBuf}
use Rattle.remesh.specs.Leaves.{LeafOf}
use Rattle.remesh.specs.Fields.{AreBelow, IsOnLeaf, comes, has_buffer}
use Rattle.remesh.specs.Sources.{IsFirst}

-- a list with one buffer more has no other fields
has_more : (bufs : List FieldBuf) (buf : FieldBuf) (f : ℕ) → has_buffer (bufs ++ buf ∷ []) f ≡ (has_buffer bufs f || nat_eq buf.field f)
has_more [] buf f = or_false (nat_eq buf.field f)
  where
    or_false : (b : Bool) → (b || false) ≡ b
    or_false true = refl
    or_false false = refl
has_more (x ∷ xs) buf f = ap (λ (b : Bool). nat_eq x.field f || b) (has_more xs buf f) ∙ or_assoc (nat_eq x.field f) (has_buffer xs f) (nat_eq buf.field f)
  where
    or_assoc : (a b c : Bool) → (a || (b || c)) ≡ ((a || b) || c)
    or_assoc true b c = refl
    or_assoc false b c = refl

-- a field that it has not
pub record HasNot (bufs : List FieldBuf) (buf : FieldBuf) (f : ℕ) : Type 0 where
  pub before : has_buffer bufs f ≡ false
  pub last : buf.field ≢ f

pub has_not : (bufs : List FieldBuf) (buf : FieldBuf) (f : ℕ) → has_buffer (bufs ++ buf ∷ []) f ≡ false → HasNot bufs buf f
has_not bufs buf f h =
    let e = sym (has_more bufs buf f) ∙ h in
    record { before = left (has_buffer bufs f) (nat_eq buf.field f) e; last = λ same. false≢true (sym (right (has_buffer bufs f) (nat_eq buf.field f) e) ∙ is_one buf.field f same) }
  where
    left : (a b : Bool) → (a || b) ≡ false → a ≡ false
    left true b h = h
    left false b h = refl

    right : (a b : Bool) → (a || b) ≡ false → b ≡ false
    right true b h = absurd (false≢true (sym h))
    right false b h = h

    is_one : (a b : ℕ) → a ≡ b → nat_eq a b ≡ true
    is_one a b e = grind arith

pub has_not_more : (bufs : List FieldBuf) (buf : FieldBuf) (f : ℕ) → has_buffer bufs f ≡ false → buf.field ≢ f → has_buffer (bufs ++ buf ∷ []) f ≡ false
has_not_more bufs buf f before differ = has_more bufs buf f ∙ ap (λ (b : Bool). b || nat_eq buf.field f) before ∙ ne_eqb buf.field f differ

below_other : (f field : ℕ) → f < field + 1 → f ≢ field → f < field
below_other f field small differ = elim (cases_lt f field) [
  | inl less ↦ less
  | inr most ↦ absurd (differ (omega arith))
]

-- the buffer of the next field that comes
pub coming_more : (n : LeafOf) (from field : ℕ) (bufs new : List FieldBuf) (buf : FieldBuf) → IsFirst (comes n) from n.old.fields field → IsOnLeaf n buf → buf.field ≡ field → new ≡ bufs ++ buf ∷ [] →
    AreBelow n from bufs → AreBelow n (field + 1) new
coming_more n from field bufs new buf first on is pushed before = record {
  within = omega (arith, first.within);
  few = omega (arith, count_pushed bufs new buf (length bufs) refl pushed, before.few, first.after);
  shaped = subst (λ (v : List FieldBuf). All (IsOnLeaf n) v) (sym pushed) (All-push (IsOnLeaf n) bufs buf before.shaped on);
  missing = λ f small none.
      let not = has_not bufs buf f (ap (λ (v : List FieldBuf). has_buffer v f) (sym pushed) ∙ none) in
      let below : f < field = below_other f field small (λ e. not.last (is ∙ sym e)) in
      elim (cases_lt f from) [
        | inl less ↦ before.missing f less not.before
        | inr most ↦ first.first f most below
      ];
}
