-- A buffer of zeros put among buffers by its field.
use Rattle.std.proofs.Common.{◌≡◌, ◌≢◌, ◌∙◌, sym, ap, subst, refl, inl, inr, ℕ, zero, suc, ◌+◌, ◌<◌, ◌≤◌, Bool, true, false, ◌||◌, nat_eq, nat_lt, List, [], ◌∷◌, length, replicate, slice_index, arith}
use Rattle.std.specs.Prelude.{All}
use Rattle.std.specs.List.{insert}
use Rattle.std.proofs.lemmas.Bool.{cases_eq, eq-eqb, false≢true, cases_lt, lt-ltb, le-ltb, cond-true, cond-false}
use Rattle.std.proofs.lemmas.List.{get_or-replicate, get_or_past, length-replicate}
use Rattle.std.proofs.lemmas.List.Elements.{All-head, All-tail, All-cons}
use Rattle.block_layout.specs.declared.layout.Layout.{Layout}
use Rattle.field_bufs.specs.declared.buf.FieldBuf.{FieldBuf}
use Rattle.block_layout.specs.Faces.{face_count}
use Rattle.block_layout.specs.Layouts.{len}
use Rattle.field_bufs.specs.Buffers.{total_at, zeros}
use Rattle.react_kernel.specs.Blocks.{Rise, has_field}
use Rattle.react_kernel.specs.BlockSteps.{AreFresh, HasRoom, HasRoomFor, IsFresh, lower}
use Rattle.react_kernel.proofs.Buffers.{absent_cells, cells_here, cells_not_here, here, not_here}

-- a field stands after so many buffers, and before the others
abbrev Splits : ℕ → List FieldBuf → ℕ → Type 0
Splits zero bufs f = Rise (f + 1) bufs
Splits (suc i) [] f = ⊥
Splits (suc i) (buf ∷ bufs) f = (buf.field < f) × Splits i bufs f

none_lower : (n : ℕ) (bufs : List FieldBuf) (f : ℕ) → Rise n bufs → f ≤ n → lower bufs f ≡ 0
none_lower n [] f rise h = refl
none_lower n (buf ∷ bufs) f (from, rise) h =
    cond-false (nat_lt buf.field f) (suc (lower bufs f)) (lower bufs f) (le-ltb buf.field f (omega arith)) ∙ none_lower (buf.field + 1) bufs f rise (omega arith)

splits : (n : ℕ) (bufs : List FieldBuf) (f : ℕ) → Rise n bufs → has_field bufs f ≡ false → Splits (lower bufs f) bufs f
splits n [] f rise none = refl
splits n (buf ∷ bufs) f (from, rise) none = elim (cases_eq f buf.field) [
  | inl e ↦ absurd (false≢true (sym none ∙ here buf bufs f e))
  | inr ne ↦ elim (cases_lt buf.field f) [
    | inl below ↦ subst (λ (i : ℕ). Splits i (buf ∷ bufs) f) (sym (cond-true (nat_lt buf.field f) (suc (lower bufs f)) (lower bufs f) (lt-ltb buf.field f below)))
        (below, splits (buf.field + 1) bufs f rise (sym (not_here buf bufs f ne) ∙ none))
    | inr above ↦ subst (λ (i : ℕ). Splits i (buf ∷ bufs) f)
        (sym (cond-false (nat_lt buf.field f) (suc (lower bufs f)) (lower bufs f) (le-ltb buf.field f above) ∙ none_lower (buf.field + 1) bufs f rise (omega arith)))
        (omega arith, rise)
  ]
]

rise_inserted : (i n : ℕ) (bufs : List FieldBuf) (buf : FieldBuf) → Rise n bufs → Splits i bufs buf.field → n ≤ buf.field → Rise n (insert bufs i buf)
rise_inserted zero n bufs buf rise splits h = (h, splits)
rise_inserted (suc i) n [] buf rise splits h = absurd splits
rise_inserted (suc i) n (b ∷ bufs) buf (from, rise) (below, splits) h = (from, rise_inserted i (b.field + 1) bufs buf rise splits (omega arith))

has_inserted : (i : ℕ) (bufs : List FieldBuf) (buf : FieldBuf) (f : ℕ) → i ≤ length bufs → has_field (insert bufs i buf) f ≡ (nat_eq buf.field f || has_field bufs f)
has_inserted zero bufs buf f h = refl
has_inserted (suc i) [] buf f h = absurd (omega arith)
has_inserted (suc i) (b ∷ bufs) buf f h =
    ap (λ (there : Bool). nat_eq b.field f || there) (has_inserted i bufs buf f (omega arith)) ∙ swapped (nat_eq b.field f) (nat_eq buf.field f) (has_field bufs f)
  where
    swapped : (a b c : Bool) → (a || (b || c)) ≡ (b || (a || c))
    swapped true true c = refl
    swapped true false c = refl
    swapped false true c = refl
    swapped false false c = refl

total_inserted : (i : ℕ) (bufs : List FieldBuf) (buf : FieldBuf) (f p : ℕ) → i ≤ length bufs → has_field bufs buf.field ≡ false → ((q : ℕ) → slice_index buf.cells q ≡ 0)
    → total_at (insert bufs i buf) f p ≡ total_at bufs f p
total_inserted zero bufs buf f p h none zeros = elim (cases_eq f buf.field) [
  | inl e ↦ ap (λ (cells : List ℕ). slice_index cells p) (cells_here buf bufs f e)
      ∙ (zeros p
      ∙ sym (ap (λ (k : ℕ). total_at bufs k p) e ∙ (ap (λ (cells : List ℕ). slice_index cells p) (absent_cells bufs buf.field none) ∙ get_or_past [] p 0 (omega arith))))
  | inr ne ↦ ap (λ (cells : List ℕ). slice_index cells p) (cells_not_here buf bufs f ne)
]
total_inserted (suc i) [] buf f p h none zeros = absurd (omega arith)
total_inserted (suc i) (b ∷ bufs) buf f p h none zeros =
    let other : buf.field ≢ b.field = λ e. false≢true (sym none ∙ here b bufs buf.field e) in
    let rest : has_field bufs buf.field ≡ false = sym (not_here b bufs buf.field other) ∙ none in
    elim (cases_eq f b.field) [
      | inl e ↦ ap (λ (cells : List ℕ). slice_index cells p) (cells_here b (insert bufs i buf) f e ∙ sym (cells_here b bufs f e))
      | inr ne ↦ ap (λ (cells : List ℕ). slice_index cells p) (cells_not_here b (insert bufs i buf) f ne)
          ∙ (total_inserted i bufs buf f p (omega arith) rest zeros
          ∙ ap (λ (cells : List ℕ). slice_index cells p) (sym (cells_not_here b bufs f ne)))
    ]

all_inserted : (P : FieldBuf → Type 0) (i : ℕ) (bufs : List FieldBuf) (buf : FieldBuf) → i ≤ length bufs → All P bufs → P buf → All P (insert bufs i buf)
all_inserted P zero bufs buf h all one = All-cons P buf bufs one all
all_inserted P (suc i) [] buf h all one = absurd (omega arith)
all_inserted P (suc i) (b ∷ bufs) buf h all one =
    All-cons P b (insert bufs i buf) (All-head P b bufs all) (all_inserted P i bufs buf (omega arith) (All-tail P b bufs all) one)

pub no_total : (n q : ℕ) → slice_index (replicate n 0) q ≡ 0
no_total n q = elim (cases_lt q n) [
  | inl h ↦ get_or-replicate n q 0 0 h
  | inr h ↦ get_or_past (replicate n 0) q 0 (omega (arith, length-replicate {A = ℕ} n 0))
]

pub room_made : (l : Layout) (block stamp fields field at : ℕ) (old made now : List FieldBuf) (cell : List ℕ) (buf : FieldBuf)
    → AreFresh l block stamp fields old made → has_field made field ≡ false → buf.field ≡ field → IsFresh l block stamp fields old buf → ((q : ℕ) → slice_index buf.cells q ≡ 0)
    → at ≡ lower made field → at ≤ length made → 0 < slice_index cell field → now ≡ insert made at buf
    → AreFresh l block stamp fields old now × HasRoomFor field cell old made now
room_made l block stamp fields field at old made now cell buf were none of fresh zeros place within some is =
    let P = λ (bufs : List FieldBuf). AreFresh l block stamp fields old bufs × HasRoomFor field cell old made bufs in
    let gone : has_field made buf.field ≡ false = ap (λ (k : ℕ). has_field made k) of ∙ none in
    let order : Splits at made buf.field = subst (λ (i : ℕ). Splits i made buf.field) (sym (place ∙ ap (λ (k : ℕ). lower made k) (sym of))) (splits 0 made buf.field were.rise gone) in
    let has : (f : ℕ) → has_field (insert made at buf) f ≡ (nat_eq buf.field f || has_field made f) = λ f. has_inserted at made buf f within in
    subst P (sym is) (
      (record {
        each = all_inserted (IsFresh l block stamp fields old) at made buf within were.each fresh;
        rise = rise_inserted at 0 made buf were.rise order (omega arith);
      }),
      (record {
        same_totals = λ f p. total_inserted at made buf f p within gone zeros;
        room = λ _. ap (λ (b : Bool). has_field old field || b) (has field ∙ ap (λ (b : Bool). b || has_field made field) (eq-eqb buf.field field of)) ∙ or_true (has_field old field);
        stays = λ f there. has f ∙ (ap (λ (b : Bool). nat_eq buf.field f || b) there ∙ or_true (nat_eq buf.field f));
        came = λ f there. elim (cases_eq f buf.field) [
          | inl e ↦ inr (subst (λ (k : ℕ). 0 < slice_index cell k) (sym (e ∙ of)) some)
          | inr ne ↦ inl (sym (not_here buf made f ne) ∙ (sym (has f) ∙ there))
        ];
      }),
    )
  where
    or_true : (b : Bool) → (b || true) ≡ true
    or_true true = refl
    or_true false = refl

-- nothing was called for
pub room_there : (field : ℕ) (old made : List FieldBuf) (cell : List ℕ) → (0 < slice_index cell field → (has_field old field || has_field made field) ≡ true) → HasRoomFor field cell old made made
room_there field old made cell there = record { same_totals = λ f p. refl; room = there; stays = λ f h. h; came = λ f h. inl h }

pub room_none : (old made : List FieldBuf) (cell : List ℕ) → HasRoom 0 cell old made made
room_none old made cell = record { same_totals = λ f p. refl; room = λ f h. absurd (omega arith); stays = λ f h. h; came = λ f h. inl h }

pub room_more : (n : ℕ) (cell : List ℕ) (old made mid now : List FieldBuf) → HasRoom n cell old made mid → HasRoomFor n cell old mid now → HasRoom (n + 1) cell old made now
room_more n cell old made mid now had more = record {
  same_totals = λ f p. more.same_totals f p ∙ had.same_totals f p;
  room = λ f h some. elim (cases_eq f n) [
    | inl e ↦ subst (λ (k : ℕ). (has_field old k || has_field now k) ≡ true) (sym e) (more.room (subst (λ (k : ℕ). 0 < slice_index cell k) e some))
    | inr ne ↦ kept_or (has_field old f) (has_field mid f) (has_field now f) (had.room f (omega arith) some) (more.stays f)
  ];
  stays = λ f h. more.stays f (had.stays f h);
  came = λ f h. elim (more.came f h) [
    | inl there ↦ had.came f there
    | inr some ↦ inr some
  ];
}
  where
    kept_or : (a b c : Bool) → (a || b) ≡ true → (b ≡ true → c ≡ true) → (a || c) ≡ true
    kept_or true b c h k = refl
    kept_or false b c h k = k h

-- the buffer of zeros that was made
pub made_room : (l : Layout) (block stamp fields field at : ℕ) (old made seen later now : List FieldBuf) (cell : List ℕ) (buf : FieldBuf)
    → AreFresh l block stamp fields old made → has_field old field ≡ false → seen ≡ made → has_field seen field ≡ false → field < fields → buf ≡ zeros (len l) (face_count l) block field stamp
    → later ≡ made → at ≡ lower later field → at ≤ length later → (slice_index cell field ≡ 0 → ⊥) → now ≡ insert made at buf
    → AreFresh l block stamp fields old now × HasRoomFor field cell old made now
made_room l block stamp fields field at old made seen later now cell buf were absent saw none within is_zeros later_is place most not_zero is =
    let gone : has_field made field ≡ false = ap (λ (xs : List FieldBuf). has_field xs field) (sym saw) ∙ none in
    room_made l block stamp fields field at old made now cell (zeros (len l) (face_count l) block field stamp) were gone refl
    (record { of_block = refl; stamped = refl; in_range = within; was_absent = absent; as_many = length-replicate {A = ℕ} (len l) 0; right = refl; left = refl })
    (no_total (len l)) (place ∙ ap (λ (xs : List FieldBuf). lower xs field) later_is) (subst (λ (xs : List FieldBuf). at ≤ length xs) later_is most)
    (elim (cases_eq (slice_index cell field) 0) [
      | inl e ↦ absurd (not_zero e)
      | inr ne ↦ omega arith
    ])
    (is ∙ ap (λ (b : FieldBuf). insert made at b) is_zeros)
