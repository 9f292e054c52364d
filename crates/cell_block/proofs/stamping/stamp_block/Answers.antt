use Rattle.std.proofs.Common.{◌∙◌, ap, is_some, sym, Option}
use Rattle.std.specs.Option.{option_and_then}
use Rattle.sparse_pool.specs.declared.place.Place.{Place}
use Rattle.cell_block.specs.Store.{room_in}
use Rattle.cell_block.specs.declared.kept.Kept.{Kept}
use Rattle.slab.specs.Slab.{Slab}
use Rattle.cell_block.specs.Store.{stamped_kept}
use Rattle.cell_block.proofs.KeptPlaces.{len_same}
use Rattle.cell_block.proofs.Stamped.{all_stamped, more_stamped, next_kept}
use Rattle.cell_block.proofs.stamping.stamp_block.Goals as goal

pub returns : goal.returns
returns c =
    all_stamped c.args.shelves.now c.args.buffers.now c.loop-next.buffers c.args.block c.loop-next.from c.requires.shape c.requires.tied c.in_default.ensures.none c.loop-next.invariant.room c.loop-next.invariant.each

pub stamp_under-requires : goal.stamp_under-requires
stamp_under-requires c =
    let next = next_kept c.args.shelves.now c.args.buffers.now c.loop-next.buffers c.args.block c.loop-next.from c.in-Some.next c.requires.tied c.in-Some.ensures.found c.loop-next.invariant.each in
    let u = next.0 in
    record {
      present = ap (λ (o : Option Kept). is_some o) next.1;
      stamp = λ x e. c.requires.stamps c.in-Some.next.key u.it u.got (ap (λ (p : Place). p.block) u.own) x (sym (ap (option_and_then (λ (k : Kept). k.buf)) next.1) ∙ e);
    }

pub loop-next-preserved : goal.loop-next-preserved
loop-next-preserved c =
    let next = next_kept c.args.shelves.now c.args.buffers.now c.loop-next.buffers c.args.block c.loop-next.from c.in-Some.next c.requires.tied c.in-Some.ensures.found c.loop-next.invariant.each in
    let u = next.0 in
    let written = c.stamp_under.ensures u.it next.1 in
    record {
      room = ap (λ (s : Slab Kept). room_in s) written ∙ len_same c.loop-next.buffers c.in-Some.next.key u.it (stamped_kept u.it) next.1 ∙ c.loop-next.invariant.room;
      each = more_stamped c.args.shelves.now c.args.buffers.now c.loop-next.buffers c.stamp_under.new.buffers c.args.block c.loop-next.from c.in-Some.next u.it c.requires.tied c.in-Some.ensures.found
          u.got u.own written (ap (λ (o : Option Kept). is_some o) next.1) c.loop-next.invariant.each;
    }
