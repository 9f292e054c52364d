use Rattle.std.proofs.Common.{◌≡◌, ◌∙◌, ap, subst, false, List, Bool, None, is_some, slice_set, vec_capacity, arith}
use Rattle.cycle_tables.proofs.Entries.{was_read}
use Rattle.cycle_tables.proofs.Sets.{flag_kept, number_in, removed_is, same_set}
use Rattle.cycle_tables.proofs.ready_set.ReadySet.remove.Goals as goal

pub index_mut-requires : goal.index_mut-requires
index_mut-requires c =
    let s = c.self.inside in
    let is = was_read s.places.items c.args.number c.index.result.now None (number_in s.places.items c.args.number c.args.self.now c.self.view_is c.requires) c.index.ensures ∙ c.in-Some.is in
    let r = removed_is s.places.items s.stack.items (vec_capacity s.stack) c.args.number c.in-Some.place c.len-last.result c.index-moved.result.now c.self.invariant is (omega (arith, c.len-last.ensures, s.stack.ok)) c.index-moved.ensures in
    omega (arith, r.in_stack, s.stack.ok)

pub index_mut-requires-in-Some : goal.index_mut-requires-in-Some
index_mut-requires-in-Some c =
    let s = c.self.inside in
    let is = was_read s.places.items c.args.number c.index.result.now None (number_in s.places.items c.args.number c.args.self.now c.self.view_is c.requires) c.index.ensures ∙ c.in-Some.is in
    let r = removed_is s.places.items s.stack.items (vec_capacity s.stack) c.args.number c.in-Some.place c.len-last.result c.index-moved.result.now c.self.invariant is (omega (arith, c.len-last.ensures, s.stack.ok)) c.index-moved.ensures in
    omega (arith, r.in_places, s.places.ok)

pub invariant_of-self : goal.invariant_of-self
invariant_of-self c =
    let s = c.self.inside in
    let is = was_read s.places.items c.args.number c.index.result.now None (number_in s.places.items c.args.number c.args.self.now c.self.view_is c.requires) c.index.ensures ∙ c.in-Some.is in
    let r = removed_is s.places.items s.stack.items (vec_capacity s.stack) c.args.number c.in-Some.place c.len-last.result c.index-moved.result.now c.self.invariant is (omega (arith, c.len-last.ensures, s.stack.ok)) c.index-moved.ensures in
    same_set _ _ _ _ _ c.truncate.ensures.items c.truncate.ensures.capacity r.set

pub returns-in-Some : goal.returns-in-Some
returns-in-Some c =
    let s = c.self.inside in
    let is = was_read s.places.items c.args.number c.index.result.now None (number_in s.places.items c.args.number c.args.self.now c.self.view_is c.requires) c.index.ensures ∙ c.in-Some.is in
    let r = removed_is s.places.items s.stack.items (vec_capacity s.stack) c.args.number c.in-Some.place c.len-last.result c.index-moved.result.now c.self.invariant is (omega (arith, c.len-last.ensures, s.stack.ok)) c.index-moved.ensures in
    r.flags ∙ ap (λ (v : List Bool). slice_set v c.args.number false) c.self.view_is

pub returns-in_default : goal.returns-in_default
returns-in_default c =
    let s = c.self.inside in
    let gone = ap (λ o. is_some o) (was_read s.places.items c.args.number c.index.result.now None (number_in s.places.items c.args.number c.args.self.now c.self.view_is c.requires) c.index.ensures ∙ c.in_default.is) in
    subst (λ (v : List Bool). v ≡ slice_set v c.args.number false) c.self.view_is (flag_kept s.places.items c.args.number false gone)
