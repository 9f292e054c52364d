-- The mask that slots in lists are.
use Rattle.std.proofs.Common.{◌≡◌, ℕ, ◌+◌, ◌<◌, Bool, List, [], ◌∷◌, length, arith, ap, sym, ◌∙◌, ◌++◌}
use Rattle.std.specs.Prelude.{count_by}
use Rattle.std.specs.List.{enumerate_from, slice_index_or}
use Rattle.std.proofs.lemmas.List.{get_or-map, length-map}
use Rattle.std.proofs.lemmas.List.FromFn.{get_or-enumerate_from, length-enumerate_from}
use Rattle.morton_order.specs.declared.space.Loc.{Loc}
use Rattle.mesh_rules.specs.Sums.{table}
use Rattle.mesh_rules.specs.Mask as mask
use Rattle.problem_set.specs.Settings.{Settings}
use Rattle.mesh_rules.specs.Fields.{field_count}
use Rattle.mesh_rules.specs.Mask.{Mask, absent, blocks_with, called, checked_slot, masked, slot_at}
use Rattle.dense_mesh.specs.declared.totals.Slot.{Slot}
use Rattle.dense_mesh.specs.Masks.{AreSlots, mask_of, slot_in, slot_of}
use Rattle.dense_mesh.proofs.Tables.{table_at, table_by, table_length, table_same}
use Rattle.dense_mask.specs.SlotSteps.{AreFieldsBy, AreSlotsBy, no_slot}
use Rattle.dense_mask.proofs.Leaves.{origin}
use Rattle.dense_mask.proofs.Pushes.{counts_same, items_push}

-- the slot of a mask in lists
pub slot_in_mask : (leaves : ℕ) (lists : List (List Slot)) (leaf f : ℕ) → leaf < leaves → f < length lists → slot_at (mask_of leaves lists) leaf f ≡ slot_of (slot_in lists f leaf)
slot_in_mask leaves lists leaf f small some =
    ap (λ (v : List mask.Slot). slice_index_or v f absent) (table_at leaves (λ k. table (length lists) (λ g. slot_of (slot_in lists g k))) leaf [] small)
    ∙ table_at (length lists) (λ g. slot_of (slot_in lists g leaf)) f absent some

-- a mask that is made leaf by leaf is that of lists with its slots
pub mask_is : (leaves : List Loc) (fields : ℕ) (rule : ℕ → Loc → ℕ → mask.Slot) (lists : List (List Slot)) → length lists ≡ fields →
    ((leaf f : ℕ) → leaf < length leaves → f < fields → slot_of (slot_in lists f leaf) ≡ rule leaf (slice_index_or leaves leaf origin) f) → mask_of (length leaves) lists ≡ masked leaves fields rule
mask_is leaves fields rule lists many same = sym (table_by (masked leaves fields rule) (length leaves) (λ leaf. table (length lists) (λ f. slot_of (slot_in lists f leaf))) [] long each)
  where
    given : ℕ × Loc → List mask.Slot
    given x = table fields (rule x.0 x.1)

    long : length (masked leaves fields rule) ≡ length leaves
    long = length-map (enumerate_from 0 leaves) (λ (x : ℕ × Loc). table fields (rule x.0 x.1)) ∙ length-enumerate_from 0 leaves

    each : (leaf : ℕ) → leaf < length leaves → slice_index_or (masked leaves fields rule) leaf [] ≡ table (length lists) (λ f. slot_of (slot_in lists f leaf))
    each leaf small =
        let count = length-enumerate_from 0 leaves in
        let z : 0 + leaf ≡ leaf = omega arith in
        get_or-map (λ (x : ℕ × Loc). table fields (rule x.0 x.1)) (enumerate_from 0 leaves) leaf (0, origin) [] (omega (arith, count, small))
        ∙ ap (λ (x : ℕ × Loc). table fields (rule x.0 x.1)) (get_or-enumerate_from 0 leaves leaf (0, origin) small)
        ∙ ap (λ (k : ℕ). table fields (rule k (slice_index_or leaves leaf origin))) z
        ∙ table_same fields (rule leaf (slice_index_or leaves leaf origin)) (λ f. slot_of (slot_in lists f leaf)) absent (λ f some. sym (same leaf f small some))
        ∙ ap (λ (n : ℕ). table n (λ f. slot_of (slot_in lists f leaf))) (sym many)

-- lists whose slots were all changed
pub record AreKept (leaves : List Loc) (fields : ℕ) (rule : ℕ → Loc → ℕ → mask.Slot) (new : List (List Slot)) : Type 0 where
  pub slots : AreSlots fields (length leaves) new
  pub mask : mask_of (length leaves) new ≡ masked leaves fields rule

pub kept_by : (leaves : List Loc) (fields n : ℕ) (rule : ℕ → Loc → ℕ → mask.Slot) (each : ℕ → ℕ → mask.Slot) (new : List (List Slot)) → n ≡ fields → AreFieldsBy n (length leaves) each new →
    ((leaf f : ℕ) → leaf < length leaves → f < fields → each f leaf ≡ rule leaf (slice_index_or leaves leaf origin) f) → AreKept leaves fields rule new
kept_by leaves fields n rule each new all are same = record {
  slots = record { fields = are.fields ∙ all; leaf_slots = λ f some. (are.each_field f (omega arith)).many };
  mask = mask_is leaves fields rule new (are.fields ∙ all) (λ leaf f small some. (are.each_field f (omega arith)).each_slot leaf small ∙ same leaf f small some);
}

-- the slots of fields that something calls for
pub kept_where_called : (leaves : List Loc) (fields n : ℕ) (calls : ℕ → ℕ → Bool) (rule : ℕ → Loc → Bool) (old new : List (List Slot)) → AreSlots fields (length leaves) old → n ≡ fields →
    AreFieldsBy n (length leaves) (λ f leaf. called (slot_of (slot_in old f leaf)) (calls f leaf)) new →
    ((f leaf : ℕ) → f < fields → leaf < length leaves → calls f leaf ≡ rule f (slice_index_or leaves leaf origin)) →
    AreKept leaves fields (λ leaf l f. called (slot_at (mask_of (length leaves) old) leaf f) (rule f l)) new
kept_where_called leaves fields n calls rule old new had all are same =
    let many = had.fields in
    kept_by leaves fields n (λ leaf l f. called (slot_at (mask_of (length leaves) old) leaf f) (rule f l)) (λ f leaf. called (slot_of (slot_in old f leaf)) (calls f leaf)) new all are
    (λ leaf f small some. ap (λ (s : mask.Slot). called s (calls f leaf)) (sym (slot_in_mask (length leaves) old leaf f small (omega arith)))
    ∙ ap (λ (b : Bool). called (slot_at (mask_of (length leaves) old) leaf f) b) (same f leaf some small))

-- the slots of fields that were checked
pub kept_where_checked : (p : Settings) (leaves : List Loc) (n : ℕ) (idles : ℕ → ℕ → Bool) (rule : ℕ → Loc → Bool) (old new : List (List Slot)) → AreSlots (field_count p) (length leaves) old → n ≡ field_count p →
    AreFieldsBy n (length leaves) (λ f leaf. checked_slot p f (idles f leaf) (slot_of (slot_in old f leaf))) new →
    ((f leaf : ℕ) → f < field_count p → leaf < length leaves → idles f leaf ≡ rule f (slice_index_or leaves leaf origin)) →
    AreKept leaves (field_count p) (λ leaf l f. checked_slot p f (rule f l) (slot_at (mask_of (length leaves) old) leaf f)) new
kept_where_checked p leaves n idles rule old new had all are same =
    let many = had.fields in
    kept_by leaves (field_count p) n (λ leaf l f. checked_slot p f (rule f l) (slot_at (mask_of (length leaves) old) leaf f)) (λ f leaf. checked_slot p f (idles f leaf) (slot_of (slot_in old f leaf))) new all are
    (λ leaf f small some. ap (λ (s : mask.Slot). checked_slot p f (idles f leaf) s) (sym (slot_in_mask (length leaves) old leaf f small (omega arith)))
    ∙ ap (λ (b : Bool). checked_slot p f b (slot_at (mask_of (length leaves) old) leaf f)) (same f leaf some small))

-- one field more
pub fields_push : (n leaves : ℕ) (each : ℕ → ℕ → mask.Slot) (lists new : List (List Slot)) (slots : List Slot) → AreFieldsBy n leaves each lists → new ≡ lists ++ slots ∷ [] → AreSlotsBy leaves (each n) slots →
    AreFieldsBy (n + 1) leaves each new
fields_push n leaves each lists new slots had is here =
    let more = items_push (λ f slots. AreSlotsBy leaves (each f) slots) n lists new slots [] (record { many = had.fields; each = had.each_field }) is here in
    record { fields = more.many; each_field = more.each }

-- one slot more
pub slots_push : (n : ℕ) (each : ℕ → mask.Slot) (slots new : List Slot) (s : Slot) → AreSlotsBy n each slots → new ≡ slots ++ s ∷ [] → slot_of s ≡ each n → AreSlotsBy (n + 1) each new
slots_push n each slots new s had is here =
    let more = items_push (λ leaf s. slot_of s ≡ each leaf) n slots new s no_slot (record { many = had.many; each = had.each_slot }) is here in
    record { many = more.many; each_slot = more.each }

-- on how many blocks a field is kept
pub kept_on : (fields leaves f : ℕ) (lists : List (List Slot)) → AreSlots fields leaves lists → f < length lists → count_by (λ (s : Slot). s.kept) (slice_index_or lists f []) ≡ blocks_with (mask_of leaves lists) f
kept_on fields leaves f lists are some =
    let many = are.fields in
    let long : length (slice_index_or lists f []) ≡ leaves = are.leaf_slots f (omega arith) in
    counts_same (λ (s : Slot). s.kept) (λ (slots : List mask.Slot). (slice_index_or slots f absent).kept) (slice_index_or lists f []) (mask_of leaves lists) no_slot []
    (long ∙ sym (table_length leaves (λ leaf. table (length lists) (λ g. slot_of (slot_in lists g leaf)))))
    (λ leaf small. ap (λ (s : mask.Slot). s.kept) (sym (slot_in_mask leaves lists leaf f (omega arith) some)))
