-- One leaf more that has what comes to it.
use Rattle.std.proofs.Common.{◌≡◌, ◌≢◌, ℕ, ◌+◌, ◌*◌, ◌<◌, ◌≤◌, List, [], length, set, slice_index, arith, ap, subst, sym, ◌∙◌, sum, inl, inr, get_or-set_other, get_or-set_same}
use Rattle.std.proofs.lemmas.Bool.{cases_lt}
use Rattle.block_tree.specs.Blocks.{TreeOfBlocks, leaves}
use Rattle.block_layout.specs.declared.layout.Layout.{Layout}
use Rattle.sparse_pool.specs.declared.place.Place.{Place}
use Rattle.alloc_epochs.specs.Shelf.{place_on}
use Rattle.dense_remesh.specs.declared.origins.Origin.{Origin}
use Rattle.cell_block.specs.State.{IsStored, Stored, entry_at, leaf_count}
use Rattle.remesh.specs.Leaves.{leaf_on, leaf_with, origin_on}
use Rattle.remesh.specs.Sources.{counter_after}
use Rattle.remesh.specs.Fields.{CanCarry}
use Rattle.remesh.specs.Stores.{CanStore, IsLeafStored}
use Rattle.remesh.specs.Carries.{AreCarriedTo, CanCarryAll, Carries}
use Rattle.remesh.proofs.Carried.{carries}
use Rattle.remesh.proofs.Filled.{same_twice}

pub can_carry : (l : Layout) (old : Stored) (origins : List Origin) (start : Stored) (k : ℕ) → CanCarryAll l old origins start → k < leaf_count start → CanCarry (leaf_with l old start.tree origins k)
can_carry l old origins start k can small = record {
  layout_is = can.layout_is;
  whole = can.whole_old;
  few = can.few;
  numbers = can.numbers k small;
  can = λ f some. can.can k f small some;
}

pub can_store : (l : Layout) (old : Stored) (origins : List Origin) (start now : Stored) (k : ℕ) → CanCarryAll l old origins start → k < leaf_count start → leaf_count start ≤ 65536 → AreCarriedTo l old origins start now k →
    CanStore (leaf_with l old start.tree origins k) now
can_store l old origins start now k can small few done =
    let count : leaf_count now ≡ leaf_count start = ap (λ (t : TreeOfBlocks). length (leaves t)) done.frame.tree in
    record {
      leaf = omega (arith, count, small);
      fields = done.frame.fields ∙ can.fields;
      layout_is = record { dims = can.layout_new.dims ∙ sym done.frame.dims; cells = can.layout_new.cells ∙ sym done.frame.cells };
      whole = done.whole;
      absent = λ f some off. done.others (place_on k f) (omega arith) ∙ can.absent k f small (omega (arith, some, done.frame.fields, can.fields)) off;
      epochs = λ list. omega (arith, done.epochs list, small, few);
    }

pub carried_more : (l : Layout) (old : Stored) (origins : List Origin) (start now new : Stored) (k : ℕ) → CanCarryAll l old origins start → k < leaf_count start → IsStored now → AreCarriedTo l old origins start now k →
    IsLeafStored (leaf_with l old start.tree origins k) now new → new.counters ≡ set now.counters k (counter_after old (origin_on origins k)) → AreCarriedTo l old origins start new (k + 1)
carried_more l old origins start now new k can small kept done stored counted =
    let count : leaf_count now ≡ leaf_count start = ap (λ (t : TreeOfBlocks). length (leaves t)) done.frame.tree in
    let inside : k < length now.counters = omega (arith, kept.counters, count, small) in
    let counter : ℕ = counter_after old (origin_on origins k) in
    record {
      frame = same_twice start now new done.frame stored.frame;
      whole = stored.whole;
      places = λ j f less some. elim (cases_lt j k) [
        | inl low ↦ subst (Carries l old (leaf_on start.tree j) (origin_on origins j) f) (sym (stored.others (place_on j f) (λ e. omega (arith, e, low)))) (done.places j f low some)
        | inr most ↦
            let same : j ≡ k = omega (arith, less, most) in
            subst (λ i. Carries l old (leaf_on start.tree i) (origin_on origins i) f (entry_at new (place_on i f))) (sym same)
            (carries (leaf_with l old start.tree origins k) f (entry_at new (place_on k f)) can.layout_is.dims (can.numbers k small) (stored.here f (omega (arith, some, done.frame.fields, can.fields))))
      ];
      others = λ at high. stored.others at (λ e. omega (arith, e, high)) ∙ done.others at (omega (arith, high));
      counters = λ j less. ap (λ (v : List ℕ). slice_index v j) counted ∙ elim (cases_lt j k) [
        | inl low ↦ get_or-set_other now.counters k j counter 0 (λ e. omega (arith, e, low)) ∙ done.counters j low
        | inr most ↦
            let same : j ≡ k = omega (arith, less, most) in
            ap (λ i. slice_index (set now.counters k counter) i) same ∙ get_or-set_same now.counters k counter 0 inside ∙ ap (λ i. counter_after old (origin_on origins i)) (sym same)
      ];
      epochs = λ list. omega (arith, stored.epochs list, done.epochs list);
    }
