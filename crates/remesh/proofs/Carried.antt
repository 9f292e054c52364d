-- What a leaf of a next tree has, as the lists by field and leaf say it.
use Rattle.std.proofs.Common.{◌≡◌, ℕ, zero, suc, ◌+◌, ◌<◌, Bool, true, false, ◌||◌, Option, Some, None, List, [], ◌∷◌, is_some, slice_index, unwrap_or, refl, arith, ap, subst, sym, ◌∙◌}
use Rattle.std.specs.List.{list_any, range_with_len, slice_index_or}
use Rattle.std.specs.Option.{option_and_then, option_map}
use Rattle.std.proofs.lemmas.Bool.{false≢true}
use Rattle.std.proofs.Math.Path.{fun_ext}
use Rattle.morton_order.specs.declared.space.Loc.{Loc}
use Rattle.morton_order.specs.Space.{parts}
use Rattle.block_tree.specs.Blocks.{leaves}
use Rattle.block_tree.specs.Nodes.{number_in}
use Rattle.block_layout.specs.declared.layout.Layout.{Layout}
use Rattle.alloc_epochs.specs.Shelf.{place_on}
use Rattle.field_bufs.specs.declared.buf.FieldBuf.{FieldBuf}
use Rattle.dense_mesh.specs.declared.totals.Slot.{Slot}
use Rattle.dense_remesh.specs.declared.origins.Origin.{Origin}
use Rattle.dense_remesh.specs.declared.origins.Origin.TheVariants.{Leaf, Parent, Children}
use Rattle.dense_remesh.specs.Origins.{IsOrigin}
use Rattle.dense_remesh.specs.Parts.{IsTaken}
use Rattle.dense_remesh.specs.Slots.{carried_slot, counter_at, keeps, slot_at}
use Rattle.cell_block.specs.State.{Entry, HasLayout, Stored, entry_at, idle_at, is_allocated, leaf_count}
use Rattle.cell_block.specs.Rules.{interior_in}
use Rattle.remesh.specs.Leaves.{LeafOf}
use Rattle.remesh.specs.Lists.{field_in, slot_of_place, slots_in}
use Rattle.remesh.specs.Sources.{AreNumbersOf, IsNumberOf, comes_to, counter_after, idle_after, is_on}
use Rattle.remesh.specs.Carries.{Carries, buffer_of}
use Rattle.remesh.specs.Fields.{IsPlaceOf}
use Rattle.remesh.proofs.Filled.{absent, no_idle}
use Rattle.remesh.proofs.InLists.{slot_there}
use Rattle.remesh.proofs.Nothing.{nothing_taken}

-- what does not come was idle at no check
idle_off : (s : Stored) (o : Origin) (f : ℕ) → comes_to s o f ≡ false → 0 ≡ idle_after s o f
idle_off s (Leaf x) f off = sym (no_idle s (place_on x f) (absent s (place_on x f) off))
idle_off s (Parent x) f off = refl
idle_off s (Children numbers) f off = refl

some_same : (a b : FieldBuf) → Some a ≡ Some b → a ≡ b
some_same a b e = cc

none_some : (b : FieldBuf) → None ≡ Some b → ⊥
none_some b e = cc

pub carries : (n : LeafOf) (f : ℕ) (e : Option Entry) → n.layout.dims ≡ n.old.dims → AreNumbersOf n.old n.origin → IsPlaceOf n f e → Carries n.layout n.old n.at n.origin f e
carries n f None dims numbers off = record {
  taken = nothing_taken n.layout n.old f n.at n.origin dims numbers off;
  kept = sym off;
  idle = idle_off n.old n.origin f off;
  stamps = λ buf h. absurd (none_some buf h);
}
carries n f (Some e) dims numbers on =
    let l = n.layout in
    let s = n.old in
    record {
      taken = subst (λ (b : Option FieldBuf). IsTaken l (field_in l s f) n.at n.origin (interior_in l b)) (sym on.buf_is)
          (subst (λ k. IsTaken l (field_in l s k) n.at n.origin (interior_in l (Some on.buffer))) on.field_is on.on_leaf.taken);
      kept = sym (ap (comes_to s n.origin) (sym on.field_is) ∙ on.on_leaf.coming);
      idle = on.idle_is;
      stamps = λ buf h. ap (λ (b : FieldBuf). b.stamp) (sym (some_same on.buffer buf (sym on.buf_is ∙ h))) ∙ on.on_leaf.stamp_is;
    }

-- the slot of a field
abbrev pub slot_by : Bool → ℕ → Slot
slot_by kept idle = record { kept = kept; idle = idle }

same_slot : (a b : Bool) (i j : ℕ) → a ≡ b → i ≡ j → slot_by a i ≡ slot_by b j
same_slot a b i j p q = ap (λ x. slot_by x i) p ∙ ap (slot_by b) q

any_same : (p q : ℕ → Bool) (a n : ℕ) → ((j : ℕ) → j < a + n → p j ≡ q j) → list_any p (range_with_len a n) ≡ list_any q (range_with_len a n)
any_same p q a zero same = refl
any_same p q a (suc n) same =
    ap (λ (b : Bool). b || list_any p (range_with_len (a + 1) n)) (same a (omega arith)) ∙ ap (λ (b : Bool). q a || b) (any_same p q (a + 1) n (λ j small. same j (omega arith)))

keeps_is : (s : Stored) (f : ℕ) (o : Option ℕ) → f < s.fields → IsNumberOf s o → is_on s o f ≡ keeps (slice_index_or (slots_in s) f []) o
keeps_is s f None some small = refl
keeps_is s f (Some x) some small = ap (λ (v : Slot). v.kept) (sym (slot_there s f x (record { kept = false; idle = 0 }) some small))

-- a new leaf's slot is the one that is carried over
pub slot_carried : (s : Stored) (f : ℕ) (o : Origin) → f < s.fields → AreNumbersOf s o → slot_by (comes_to s o f) (idle_after s o f) ≡ carried_slot (parts s.dims) (slice_index_or (slots_in s) f []) o
slot_carried s f (Leaf x) some small = sym (slot_there s f x (record { kept = false; idle = 0 }) some small)
slot_carried s f (Parent x) some small = ap (λ (v : Slot). slot_by v.kept 0) (sym (slot_there s f x (record { kept = false; idle = 0 }) some small))
slot_carried s f (Children numbers) some small =
    ap (λ (b : Bool). slot_by b 0) (any_same (λ j. is_on s (slice_index_or numbers j None) f) (λ j. keeps (slice_index_or (slots_in s) f []) (slice_index_or numbers j None)) 0 (parts s.dims)
    (λ j less. keeps_is s f (slice_index_or numbers j None) some (small j (omega (arith, less)))))

pub slot_of_new : (s new : Stored) (f k : ℕ) (o : Origin) → f < s.fields → AreNumbersOf s o → is_allocated new (place_on k f) ≡ comes_to s o f → idle_at new (place_on k f) ≡ idle_after s o f →
    slot_of_place new f k ≡ carried_slot (parts s.dims) (slice_index_or (slots_in s) f []) o
slot_of_new s new f k o some small kept idle = same_slot (is_allocated new (place_on k f)) (comes_to s o f) (idle_at new (place_on k f)) (idle_after s o f) kept idle ∙ slot_carried s f o some small

-- so is its counter
pub counter_carried : (s : Stored) (at : Loc) (o : Origin) → IsOrigin s.tree at o → counter_after s o ≡ counter_at s.counters (number_in (leaves s.tree) at)
counter_carried s at (Leaf x) is = ap (counter_at s.counters) (sym is)
counter_carried s at (Parent x) is = ap (counter_at s.counters) (sym is.new)
counter_carried s at (Children numbers) is = ap (counter_at s.counters) (sym is.new)
