use Rattle.std.proofs.Common.{◌≡◌, ◌<◌, ◌≤◌, ◌++◌, ◌∷◌, [], ℕ, List, All, length, slice_index, refl, ap, subst, sym, ◌∙◌, arith}
use Rattle.std.specs.List.{slice_index_or}
use Rattle.std.proofs.lemmas.Option.{get_or_from_slice_get}
use Rattle.morton_order.specs.declared.space.Loc.{Loc}
use Rattle.morton_order.proofs.Lists.{all_push}
use Rattle.block_tree.specs.declared.tags.Tag.TheVariants.{Same}
use Rattle.block_tree.specs.Blocks.{leaves}
use Rattle.deck_entries.specs.declared.entries.Criterion.{Criterion}
use Rattle.mesh_rules.specs.declared.wish.Wish.{Wish}
use Rattle.mesh_rules.specs.Tags.{counted, tag_of}
use Rattle.dense_mask.proofs.Leaves.{origin}
use Rattle.dense_mask.proofs.Pushes.{AreItems, items_push}
use Rattle.dense_tags.specs.LeafWishes.{leaf_wish}
use Rattle.dense_tags.proofs.Wishes.{count_at, counters_are, criterion_at, have_leaf, level_most, tag_at, tags_are, wish_at}
use Rattle.dense_tags.proofs.tagging.tags.Goals as goal

pub leaf_wish-wish-requires : goal.leaf_wish-wish-requires
leaf_wish-wish-requires c =
    let p = c.args.problem.now in
    let t = c.args.tree.now in
    record {
      fields = subst (λ (cs : List Criterion). All (λ (x : Criterion). x.field < length c.args.lists.now) cs) (sym c.as_slice-criteria.ensures) (λ k d small. omega (arith, criterion_at p k d small, c.requires.mesh.fields));
      level = level_most p t c.args.layout.now c.args.lists.now c.requires.mesh c.loop-leaf.leaf c.leaf_at-level.result c.leaf_at-level.ensures;
      leaf = have_leaf p t c.args.layout.now c.args.lists.now c.requires.mesh c.loop-leaf.leaf (omega (arith, c.len-leaf-end.ensures.count));
    }

pub settle-settled-requires : goal.settle-settled-requires
settle-settled-requires c = record {
  least = c.args.problem.now.refining_sound.least_count;
  most = c.requires.counters c.loop-leaf.leaf 0 (omega (arith, c.len-leaf-end.ensures.count, c.requires.count));
}

nothing : {X : Type 0} (P : ℕ → X → Type 0) (d : X) (xs : List X) → xs ≡ [] → AreItems P 0 d xs
nothing P d xs is = subst (λ (v : List _). AreItems P 0 d v) (sym is) (record { many = refl; each = λ k small. absurd (omega arith) })

pub loop-leaf-init : goal.loop-leaf-init
loop-leaf-init c =
    let p = c.args.problem.now in
    let t = c.args.tree.now in
    let l = c.args.layout.now in
    let lists = c.args.lists.now in
    let counters = c.args.counters.now in
    record {
      tags = λ d. nothing (λ k tag. tag ≡ tag_at p t l lists counters k) d c.in_ok-tags.tags.items c.in_ok-tags.ensures.items;
      counters = nothing (λ k count. count ≡ count_at p t l lists counters k) 0 c.in_ok-next.next.items c.in_ok-next.ensures.items;
      bound = subst (λ (v : List ℕ). All (λ count. count ≤ p.derefine_count) v) (sym c.in_ok-next.ensures.items) (λ k d small. absurd (omega arith));
    }

pub loop-leaf-preserved : goal.loop-leaf-preserved
loop-leaf-preserved c =
    let p = c.args.problem.now in
    let t = c.args.tree.now in
    let l = c.args.layout.now in
    let lists = c.args.lists.now in
    let counters = c.args.counters.now in
    let leaf = c.loop-leaf.leaf in
    let count = slice_index counters leaf in
    let at : c.leaf_at-level.result ≡ slice_index_or (leaves t) leaf origin = sym (get_or_from_slice_get (leaves t) leaf c.leaf_at-level.result origin c.leaf_at-level.ensures) in
    let wish : c.leaf_wish-wish.result ≡ wish_at p t l lists leaf =
    c.leaf_wish-wish.ensures ∙ ap (λ (cs : List Criterion). leaf_wish cs l c.leaf_at-level.result.level lists leaf) c.as_slice-criteria.ensures ∙ ap (λ (v : Loc). leaf_wish p.criteria l v.level lists leaf) at in
    let tag : c.settle-settled.result.tag ≡ tag_at p t l lists counters leaf = c.settle-settled.ensures.tag ∙ ap (λ (w : Wish). tag_of p.derefine_count w (counted p.derefine_count w count)) wish in
    let next : c.settle-settled.result.count ≡ count_at p t l lists counters leaf = c.settle-settled.ensures.count ∙ ap (λ (w : Wish). counted p.derefine_count w count) wish in
    let tags : c.push.new.self.items ≡ c.loop-leaf.tags.items ++ c.settle-settled.result.tag ∷ [] = c.in_ok-push.ensures.items in
    let counts : c.push-in-loop-leaf.new.self.items ≡ c.loop-leaf.next.items ++ c.settle-settled.result.count ∷ [] = c.in_ok-push-2.ensures.items in
    record {
      tags = λ d. items_push (λ k tag. tag ≡ tag_at p t l lists counters k) leaf c.loop-leaf.tags.items c.push.new.self.items c.settle-settled.result.tag d (c.loop-leaf.invariant.tags d) tags tag;
      counters = items_push (λ k count. count ≡ count_at p t l lists counters k) leaf c.loop-leaf.next.items c.push-in-loop-leaf.new.self.items c.settle-settled.result.count 0 c.loop-leaf.invariant.counters counts next;
      bound = subst (λ (v : List ℕ). All (λ count. count ≤ p.derefine_count) v) (sym counts) (all_push (λ count. count ≤ p.derefine_count) c.loop-leaf.next.items c.settle-settled.result.count c.loop-leaf.invariant.bound c.settle-settled.ensures.bound);
    }

pub returns : goal.returns
returns c =
    let p = c.args.problem.now in
    let t = c.args.tree.now in
    let l = c.args.layout.now in
    let lists = c.args.lists.now in
    let counters = c.args.counters.now in
    let all : c.loop-leaf.leaf ≡ length (leaves t) = omega (arith, c.len-leaf-end.ensures.count) in
    let tags = c.loop-leaf.invariant.tags Same in
    record {
      tags = tags_are p t l lists c.requires.mesh counters c.loop-leaf.tags.items Same (tags.many ∙ all) (λ k small. tags.each k (omega arith));
      counters = counters_are p t l lists c.requires.mesh counters c.loop-leaf.next.items (c.loop-leaf.invariant.counters.many ∙ all) (λ k small. c.loop-leaf.invariant.counters.each k (omega arith));
      bound = c.loop-leaf.invariant.bound;
    }
