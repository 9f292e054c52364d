use Rattle.std.proofs.Common.{◌≡◌, ◌∙◌, ap, subst, true, List, Bool, None, is_some, slice_set, vec_capacity, arith}
use Rattle.cycle_tables.specs.Inside.{key_of}
use Rattle.cycle_tables.proofs.Entries.{is_gone, was_read}
use Rattle.cycle_tables.proofs.Sets.{flag_kept, has_room, inserted_is, inserted_flags, number_in}
use Rattle.cycle_tables.proofs.ready_set.ReadySet.insert.Goals as goal

pub push_reserved-requires : goal.push_reserved-requires
push_reserved-requires c =
    let s = c.self.inside in
    let h = number_in s.places.items c.args.number c.args.self.now c.self.view_is c.requires in
    let free = was_read s.places.items c.args.number c.index.result.now None h c.index.ensures ∙ is_gone c.index.result.now c.if-is_none.ensures in
    let r = has_room s.places.items s.stack.items (vec_capacity s.stack) c.args.number c.self.invariant h free in
    omega (arith, r, s.stack.ok)

pub invariant_of-self : goal.invariant_of-self
invariant_of-self c =
    let s = c.self.inside in
    let h = number_in s.places.items c.args.number c.args.self.now c.self.view_is c.requires in
    let free = was_read s.places.items c.args.number c.index.result.now None h c.index.ensures ∙ is_gone c.index.result.now c.if-is_none.ensures in
    inserted_is s.places.items s.stack.items c.push_reserved.new.self.items (vec_capacity s.stack) (vec_capacity c.push_reserved.new.self) c.args.number c.len-place.result c.self.invariant h free
    (omega (arith, c.len-place.ensures, s.stack.ok)) c.push_reserved.ensures.items c.push_reserved.ensures.capacity

pub returns-then-is_none : goal.returns-then-is_none
returns-then-is_none c = inserted_flags c.self.inside.places.items c.args.number c.len-place.result ∙ ap (λ (v : List Bool). slice_set v c.args.number true) c.self.view_is

pub returns-else-is_none : goal.returns-else-is_none
returns-else-is_none c =
    let s = c.self.inside in
    let h = number_in s.places.items c.args.number c.args.self.now c.self.view_is c.requires in
    let there : is_some (key_of s.places.items c.args.number) ≡ true = ap (λ o. is_some o) (was_read s.places.items c.args.number c.index.result.now None h c.index.ensures) ∙ c.if-is_none.ensures in
    subst (λ (v : List Bool). v ≡ slice_set v c.args.number true) c.self.view_is (flag_kept s.places.items c.args.number true there)
