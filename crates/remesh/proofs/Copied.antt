-- The cells of a leaf that stays.
use Rattle.std.proofs.Common.{◌≡◌, ℕ, ◌<◌, Bool, true, Option, Some, None, List, [], is_some, length, refl, ap, subst, sym, ◌∙◌}
use Rattle.std.specs.Option.{option_copied}
use Rattle.std.specs.List.{slice_index_or}
use Rattle.std.proofs.lemmas.Bool.{false≢true}
use denote.Bor.{Bor}
use Rattle.alloc_epochs.specs.Shelf.{place_on}
use Rattle.field_bufs.specs.declared.buf.FieldBuf.{FieldBuf}
use Rattle.dense_remesh.specs.declared.origins.Origin.{Origin}
use Rattle.dense_remesh.specs.declared.origins.Origin.TheVariants.{Leaf}
use Rattle.dense_remesh.specs.Parts.{IsTaken}
use Rattle.cell_block.specs.State.{IsStored, buffer_at, leaf_count}
use Rattle.cell_block.specs.Rules.{interior_in, interior_of}
use Rattle.remesh.specs.Leaves.{LeafOf}
use Rattle.remesh.specs.Fields.{AreCarried, CanCarry, old_lists}
use Rattle.remesh.specs.Sources.{AreNumbersOf}
use Rattle.remesh.proofs.InLists.{list_at}

-- what is behind a reference
pub some_behind : (o : Option (Bor FieldBuf)) (b : Option FieldBuf) → option_copied o ≡ b → is_some b ≡ true → is_some o ≡ true
some_behind o b is some = by o (ap (λ (v : Option FieldBuf). is_some v) is ∙ some)
  where
    by : (o : Option (Bor FieldBuf)) → is_some (option_copied o) ≡ true → is_some o ≡ true
    by None h = absurd (false≢true h)
    by (Some x) h = refl

pub copied_cells : (n : LeafOf) (f x : ℕ) (buf : FieldBuf) (list : List ℕ) → CanCarry n → n.origin ≡ Leaf x → f < n.old.fields → IsStored n.old → buffer_at n.old (place_on x f) ≡ Some buf → list ≡ buf.cells →
    AreCarried n f list
copied_cells n f x buf list can origin some kept there is =
    let l = n.layout in
    let s = n.old in
    let small : x < leaf_count s = subst (AreNumbersOf s) origin can.numbers in
    record {
      size = ap (λ (v : List ℕ). length v) is ∙ (kept.fit (place_on x f) buf there l can.layout_is).cells;
      taken = subst (λ (o : Origin). IsTaken l (old_lists n f) n.at o (interior_of l list)) (sym origin)
          (ap (interior_of l) is ∙ sym (list_at l s f x small ∙ ap (interior_in l) there));
    }
