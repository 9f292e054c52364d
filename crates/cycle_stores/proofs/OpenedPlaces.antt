-- The places of a block are opened one after another, and so are the blocks.
use Rattle.std.proofs.Common.{◌≡◌, ◌≢◌, ◌∙◌, sym, ap, subst, refl, inl, inr, ℕ, ◌+◌, ◌<◌, ◌≤◌, ◌==◌, ◌&&◌, ◌||◌, nat_lt, Bool, true, false, Option, None, Some, is_some, List, [], replicate, slice_index_or, arith}
use Rattle.std.proofs.lemmas.Bool.{cases_eq, cases_lt, false≢true}
use Rattle.std.proofs.lemmas.Bool.Decides.{nat_tests}
use Rattle.std.proofs.lemmas.List.{get_or_past}
use Rattle.sparse_pool.specs.declared.place.Place.{Place}
use Rattle.alloc_epochs.specs.Shelf.{Shelved, place_on}
use Rattle.block_layout.specs.declared.layout.Layout.{Layout}
use Rattle.field_bufs.specs.declared.buf.FieldBuf.{FieldBuf}
use Rattle.cell_block.specs.State.{Entry, HasLayout, IsNextField, IsNoneFrom, IsStored, Stored, entry_at, is_allocated, is_lent, leaf_count, list_count}
use Rattle.cell_block.specs.Rules.{IsWhole}
use Rattle.cell_block.proofs.Grids.{cases_place, one_place, row_of}
use Rattle.cycle_stores.specs.Stores.{is_kept}
use Rattle.cycle_stores.specs.Openings.{IsFreshAt, IsFreshPlace, IsFreshState, IsSameMesh, OpensBlock}
use Rattle.cycle_stores.proofs.Uses.{buf_of, idle_of, is_out_of}

-- what is fresh at a place tells of what stands there alone
pub fresh_from : (a b c d : Stored) (p : Place) → IsFreshAt a b p → ((l : Layout) → HasLayout c l → HasLayout a l) → entry_at c p ≡ entry_at a p → entry_at d p ≡ entry_at b p → IsFreshAt c d p
fresh_from a b c d p is lay oc nd = record {
  allocated = ap (λ (o : Option Entry). is_some o) nd ∙ is.allocated ∙ sym (ap (λ (o : Option Entry). is_some o) oc);
  home = ap is_out_of nd ∙ is.home ∙ sym (ap is_out_of oc);
  idle = ap idle_of nd ∙ is.idle ∙ sym (ap idle_of oc);
  fresh = λ l was buf has w n. is.fresh l was buf (lay l has) (sym (ap buf_of oc) ∙ w) (sym (ap buf_of nd) ∙ n);
}

-- nothing stands at a place
pub fresh_absent : (c d : Stored) (p : Place) → entry_at c p ≡ None → entry_at d p ≡ None → IsFreshAt c d p
fresh_absent c d p oc nd = record {
  allocated = ap (λ (o : Option Entry). is_some o) nd ∙ sym (ap (λ (o : Option Entry). is_some o) oc);
  home = ap is_out_of nd ∙ sym (ap is_out_of oc);
  idle = ap idle_of nd ∙ sym (ap idle_of oc);
  fresh = λ l was buf has w n. absurd (false≢true (ap (λ (o : Option FieldBuf). is_some o) (sym (ap buf_of oc) ∙ w)));
}

none_of : (o : Option Entry) → is_some o ≡ false → o ≡ None
none_of None e = refl
none_of (Some x) e = absurd (false≢true (sym e))

-- the places of a block below a field are opened
pub record OpensTo (old new : Stored) (block from : ℕ) : Type 0 where
  pub mesh : IsSameMesh old new
  pub whole : IsWhole new
  pub done : (p : Place) → p.block ≡ block → p.field < from → IsFreshAt old new p
  pub rest : (p : Place) → (p.block ≡ block → from ≤ p.field) → entry_at new p ≡ entry_at old p

pub opens_none : (old : Stored) (block : ℕ) → IsWhole old → OpensTo old old block 0
opens_none old block whole = record { mesh = refl; whole = whole; done = λ p e lt. absurd (omega (arith, lt)); rest = λ p far. refl }

layout_back : (old mid : Stored) → IsSameMesh old mid → (l : Layout) → HasLayout old l → HasLayout mid l
layout_back old mid same l has = record { dims = has.dims ∙ sym (ap (λ (s : Stored). s.dims) same); cells = has.cells ∙ sym (ap (λ (s : Stored). s.cells) same) }

same_twice : (old mid new : Stored) → IsSameMesh old mid → IsSameMesh mid new → IsSameMesh old new
same_twice old mid new one two = two ∙ ap (λ (s : Stored). record s { places = new.places }) one

pub opens_next : (old mid new : Stored) (block from field : ℕ) → OpensTo old mid block from → IsNextField mid block from field → IsFreshPlace mid new (place_on block field) → OpensTo old new block (field + 1)
opens_next old mid new block from field o next f =
    let at : Place = place_on block field in
    let other : (p : Place) → (p.field ≡ field → ⊥) → p ≢ at = λ p ne e. ne (ap (λ (q : Place). q.field) e) in
    record {
      mesh = same_twice old mid new o.mesh f.mesh;
      whole = λ p. elim (cases_place p at) [
        | inl e ↦ ap (is_lent new) e ∙ f.here.home ∙ o.whole at
        | inr ne ↦ ap is_out_of (f.others p ne) ∙ o.whole p
      ];
      done = λ p e lt. elim (cases_eq p.field field) [
        | inl is ↦ subst (IsFreshAt old new) (sym (one_place p at e is)) (fresh_from mid new old new at f.here (layout_back old mid o.mesh) (sym (o.rest at (λ _. next.after))) refl)
        | inr ne ↦ elim (cases_lt p.field from) [
          | inl low ↦ fresh_from old mid old new p (o.done p e low) (λ l h. h) refl (f.others p (other p ne))
          | inr past ↦
              let none : entry_at mid p ≡ None = ap (entry_at mid) (one_place p (place_on block p.field) e refl)
              ∙ none_of (entry_at mid (place_on block p.field)) (next.first p.field past (omega (arith, lt, ne))) in
              fresh_absent old new p (sym (o.rest p (λ _. past)) ∙ none) (f.others p (other p ne) ∙ none)
        ]
      ];
      rest = λ p far. f.others p (λ e. absurd (
          let low = far (ap (λ (q : Place). q.block) e) in
          let is : p.field ≡ field = ap (λ (q : Place). q.field) e in
          omega (arith, low, is)))
          ∙ o.rest p (λ e. (let low = far e in let after = next.after in omega (arith, low, after)));
    }

pub opens_all : (old new : Stored) (block from : ℕ) → OpensTo old new block from → IsNoneFrom new block from → IsStored old → block < leaf_count old → OpensBlock old new block
opens_all old new block from o none stored within = record {
  mesh = o.mesh;
  whole = o.whole;
  here = λ p e. elim (cases_lt p.field from) [
    | inl low ↦ o.done p e low
    | inr past ↦
        let gone : entry_at new p ≡ None = elim (cases_lt p.field new.fields) [
          | inl lt ↦ ap (entry_at new) (one_place p (place_on block p.field) e refl) ∙ none_of (entry_at new (place_on block p.field)) (none p.field past lt)
          | inr beyond ↦ o.rest p (λ _. past) ∙ get_or_past (row_of old.places p.block) p.field None
              (let long = stored.fields p.block (omega (arith, e, within)) in let same : new.fields ≡ old.fields = ap (λ (s : Stored). s.fields) o.mesh in omega (arith, long, beyond, same))
        ] in
        fresh_absent old new p (sym (o.rest p (λ _. past)) ∙ gone) gone
  ];
  others = λ p ne. o.rest p (λ e. absurd (ne e));
}

-- the places of all blocks below one are opened
pub record OpensBelow (old new : Stored) (upto : ℕ) : Type 0 where
  pub mesh : IsSameMesh old new
  pub whole : IsWhole new
  pub done : (p : Place) → p.block < upto → IsFreshAt old new p
  pub rest : (p : Place) → upto ≤ p.block → entry_at new p ≡ entry_at old p

pub below_none : (old : Stored) → IsWhole old → OpensBelow old old 0
below_none old whole = record { mesh = refl; whole = whole; done = λ p lt. absurd (omega (arith, lt)); rest = λ p far. refl }

pub below_next : (old mid new : Stored) (block : ℕ) → OpensBelow old mid block → OpensBlock mid new block → OpensBelow old new (block + 1)
below_next old mid new block o b = record {
  mesh = same_twice old mid new o.mesh b.mesh;
  whole = b.whole;
  done = λ p lt. elim (cases_eq p.block block) [
    | inl e ↦ fresh_from mid new old new p (b.here p e) (layout_back old mid o.mesh) (sym (o.rest p (omega (arith, e)))) refl
    | inr ne ↦ fresh_from old mid old new p (o.done p (omega (arith, lt, ne))) (λ l h. h) refl (b.others p ne)
  ];
  rest = λ p far. b.others p (λ e. omega (arith, e, far)) ∙ o.rest p (omega (arith, far));
}

pub below_all : (old new : Stored) (upto : ℕ) → OpensBelow old new upto → IsStored old → leaf_count old ≤ upto → (p : Place) → IsFreshAt old new p
below_all old new upto o stored long p = elim (cases_lt p.block upto) [
  | inl lt ↦ o.done p lt
  | inr past ↦
      let rows = stored.blocks in
      let row = get_or_past old.places p.block [] (omega (arith, past, long, rows)) in
      let none : entry_at old p ≡ None = ap (λ (r : List (Option Entry)). slice_index_or r p.field None) row in
      fresh_absent old new p none (o.rest p past ∙ none)
]

-- all places are opened, and the epochs are 0
pub opened_state : (old mid new : Stored) (upto : ℕ) → OpensBelow old mid upto → IsStored old → leaf_count old ≤ upto → new ≡ record mid { epochs = replicate (list_count mid) 0 } → IsFreshState old new
opened_state old mid new upto o stored long is = record {
  mesh = is ∙ ap (λ (s : Stored). record s { epochs = replicate (list_count s) 0 }) o.mesh
      ∙ ap (λ (g : List (List (Option Entry))). record old { places = g; epochs = replicate (list_count old) 0 }) (sym (ap (λ (s : Stored). s.places) is));
  fresh = λ p. fresh_from old mid old new p (below_all old mid upto o stored long p) (λ l h. h) refl (ap (λ (s : Stored). entry_at s p) is);
}

-- which places are kept once those of a block below a field are, and none from there on is allocated
all_kept : (k b f a : Bool) → (f ≡ false → b ≡ true → a ≡ false) → (k || (b && (f && a))) ≡ (k || (b && a))
all_kept true b f a none = refl
all_kept false false f a none = refl
all_kept false true true a none = refl
all_kept false true false a none = sym (none refl refl)

pub kept_all : (s : Stored) (old new : Shelved) (block from : ℕ) → IsStored s → block < leaf_count s → IsNoneFrom s block from
    → ((at : Place) → is_kept new at ≡ (is_kept old at || (at.block == block && (nat_lt at.field from && is_allocated s at))))
    → (at : Place) → is_kept new at ≡ (is_kept old at || (at.block == block && is_allocated s at))
kept_all s old new block from stored within none kept at =
    kept at ∙ all_kept (is_kept old at) (at.block == block) (nat_lt at.field from) (is_allocated s at) (λ past here.
    let far : from ≤ at.field = grind (arith, nat_tests) in
    let own : at.block ≡ block = grind (arith, nat_tests) in
    elim (cases_lt at.field s.fields) [
      | inl lt ↦ ap (is_allocated s) (one_place at (place_on block at.field) own refl) ∙ none at.field far lt
      | inr beyond ↦ ap (λ (o : Option Entry). is_some o) (get_or_past (row_of s.places at.block) at.field None (let long = stored.fields at.block (omega (arith, own, within)) in omega (arith, long, beyond)))
    ])
