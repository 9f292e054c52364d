-- Sides whose ghosts were filled.
use Rattle.std.proofs.Common.{◌≡◌, ◌⊎◌, inl, inr, ℕ, ◌+◌, ◌*◌, ◌/◌, ◌^◌, ◌<◌, ◌≤◌, Bool, true, false, cond, ◌||◌, List, [], ◌∷◌, All, Contains, map, take, length, refl, arith, ap, subst, sym, ◌∙◌, slice_index, lit<}
use Rattle.std.specs.Prelude.{slice_set}
use Rattle.std.specs.List.{list_any, slice_index_or}
use Rattle.std.proofs.Math.Nat.{div-le_self}
use Rattle.std.proofs.lemmas.Bool.{cases_lt, false≢true}
use Rattle.std.proofs.lemmas.List.{get_or-map, length-map}
use Rattle.std.proofs.lemmas.List.Elements.{All-from_get_or, All-get_or}
use Rattle.std.proofs.lemmas.List.Folds.{list_any_more}
use Rattle.morton_order.specs.declared.space.Loc.{Loc}
use Rattle.morton_order.specs.declared.space.Side.{Side}
use Rattle.morton_order.specs.Space.{child_number, same_loc}
use Rattle.morton_order.proofs.Touching.{same_loc-is, same_loc-self}
use Rattle.problem_set.specs.Settings.{Settings}
use Rattle.deck_entries.specs.SoundEntries.{IsMoves}
use Rattle.deck_entries.specs.declared.entries.Moves.{Moves}
use Rattle.mesh_settings.specs.declared.words.FaceKind.{FaceKind}
use Rattle.mesh_settings.specs.declared.words.FaceKind.TheVariants.{Periodic, Outflow, Reflecting, Inflow}
use Rattle.block_tree.specs.Blocks.{leaves}
use Rattle.block_tree.specs.Behind.{coarse, fine, outside, same}
use Rattle.mesh_rules.specs.Fields.{entering, has_ghosts, kind_at, moves_at, outside_by, side_number}
use Rattle.mesh_rules.specs.Fields as fields
use Rattle.block_layout.specs.declared.layout.Layout.{Layout}
use Rattle.block_layout.specs.Regions.{ghosts}
use Rattle.block_regions.specs.Written.{HasRegion, StaysOffRegion}
use Rattle.ghost_buffers.specs.declared.part.How.{How}
use Rattle.ghost_buffers.specs.declared.part.How.TheVariants.{Same, Finer, Coarser}
use Rattle.ghost_buffers.specs.Ghosts.{received}
use Rattle.dense_mesh.specs.Ghosts.{list_at}
use Rattle.letter_laws.specs.Sides.{SeesBeyondPart, side_part}
use Rattle.letter_laws.specs.Ghosts.{IsGiven}
use Rattle.letter_laws.proofs.Bounds.{written_below}
use Rattle.letter_laws.proofs.CoarserLevel.{coarser_sees}
use Rattle.letter_laws.proofs.FinerGhosts.{finer_covers, finer_sees}
use Rattle.letter_laws.proofs.Outside.{outside_sees}
use Rattle.letter_laws.proofs.SameLevel.{same_sees}
use Rattle.letter_laws.proofs.Stays.{interior_stays, parts_stay, sides_stay}
use Rattle.dense_exchange.specs.declared.field_mesh.FieldMesh.{FieldMesh}
use Rattle.dense_exchange.specs.FieldMeshes.{CanExchange, HoldOwn, block_on, leaf_count, leaf_on, mesh_in, settings_in}
use Rattle.dense_exchange.specs.Sides.{IsFilled, IsReceived, IsSender, OthersStay, StillSees, behind_leaf, part_on, sent_to}
use Rattle.dense_exchange.proofs.Numbers.{nowhere}
use Rattle.dense_exchange.proofs.OnMeshes.{item_below, side_of}
use Rattle.dense_exchange.proofs.Received.{others_at, still_held, written_at}

-- the ghosts beyond other sides stay
pub others_see : (e : FieldMesh) (how : How) (half : ℕ) (side : Side) (to : ℕ) (old new : List (List ℕ)) → CanExchange e → side.axis < e.layout.now.dims → to < leaf_count e →
    StaysOffRegion e.layout.now (received how e.layout.now side.axis side.high half) (list_at old to) (list_at new to) →
    (axis : ℕ) (high : Bool) → axis < e.layout.now.dims → (¬ (axis ≡ side.axis)) ⊎ (¬ (high ≡ side.high)) → StillSees e to old new axis high
others_see e how half side to old new on used few stays axis high next differ sees =
    sides_stay (block_on e to) how side.axis axis side.high high half (list_at old to) (list_at new to) (side_of e to side.axis on few used) (side_of e to axis on few next) differ stays sees

-- a leaf of the same level, or a coarser one, fills the side
pub same_fills : (e : FieldMesh) (half : ℕ) (side : Side) (from to : ℕ) (old new : List (List ℕ)) → CanExchange e → side.axis < e.layout.now.dims → to < leaf_count e → behind_leaf e side to ≡ same (leaf_on e from) → IsReceived e Same half side from to old new → IsFilled e side to old new
same_fills e half side from to old new on used few is x = record {
  held = x.held;
  others = x.others;
  sees = same_sees (block_on e to) side.axis side.high (leaf_on e from) half (list_at new to) (side_of e to side.axis on few used) is x.given;
  stays = others_see e Same half side to old new on used few x.stays;
}

pub coarser_fills : (e : FieldMesh) (half : ℕ) (side : Side) (from to : ℕ) (old new : List (List ℕ)) → CanExchange e → side.axis < e.layout.now.dims → to < leaf_count e → behind_leaf e side to ≡ coarse (leaf_on e from) → IsReceived e Coarser half side from to old new → IsFilled e side to old new
coarser_fills e half side from to old new on used few is x = record {
  held = x.held;
  others = x.others;
  sees = coarser_sees (block_on e to) side.axis side.high (leaf_on e from) half (list_at new to) (side_of e to side.axis on few used) is x.given;
  stays = others_see e Coarser half side to old new on used few x.stays;
}

-- what stands outside is small
entry_small : (ms : List Moves) (f : ℕ) (d : Moves) (k : ℕ) → f < length ms → All IsMoves ms → slice_index (slice_index_or ms f d).entry k < 2 ^ 62
entry_small ms f d k few all =
    let sound = All-get_or IsMoves ms f d few all in
    item_below (slice_index_or ms f d).entry (2 ^ 62) k (lit< tt)
    (All-from_get_or (λ amount. amount < 2 ^ 62) (slice_index_or ms f d).entry 0 (λ i less. below _ (All-get_or (λ amount. amount ≤ 4611686018427387903) (slice_index_or ms f d).entry i 0 less sound.amounts)))
  where
    below : (n : ℕ) → n ≤ 4611686018427387903 → n < 2 ^ 62
    below n h = omega arith

outside_small : (kind : FaceKind) (has : Bool) (amount scale : ℕ) → amount < 2 ^ 62 → outside_by kind (cond has (amount / scale) 0) < 2 ^ 62
outside_small Inflow true amount scale h = let less = div-le_self amount scale in omega (arith, less, h)
outside_small Inflow false amount scale h = lit< tt
outside_small Outflow has amount scale h = lit< tt
outside_small Reflecting has amount scale h = lit< tt
outside_small Periodic has amount scale h = lit< tt

pub outside_fills : (e : FieldMesh) (side : Side) (to total : ℕ) (old : List (List ℕ)) (new : List ℕ) → CanExchange e → side.axis < e.layout.now.dims → to < leaf_count e → behind_leaf e side to ≡ outside → HoldOwn e old →
    total ≡ fields.outside (settings_in e) e.field side.axis side.high (leaf_on e to).level → length new ≡ length (list_at old to) →
    HasRegion e.layout.now (ghosts e.layout.now side.axis side.high) (λ _. total) new → StaysOffRegion e.layout.now (ghosts e.layout.now side.axis side.high) (list_at old to) new → IsFilled e side to old (slice_set old to new)
outside_fills e side to total old new on used few is held amount long has stays =
    let l : Layout = e.layout.now in
    let b = block_on e to in
    let r = ghosts l side.axis side.high in
    let p : Settings = settings_in e in
    let within : to < length old = subst (λ v. to < v) (sym held.lists.count) few in
    let at = written_at old to new within in
    let entry : slice_index (moves_at p e.field).entry (side_number side.axis side.high) < 2 ^ 62 = entry_small p.moves e.field _ (side_number side.axis side.high) on.field e.problem.now.fields_sound.moves_sound in
    let small : total < 2 ^ 62 = subst (λ v. v < 2 ^ 62) (sym amount) (outside_small (kind_at p side.axis side.high) (has_ghosts p e.field) (slice_index (moves_at p e.field).entry (side_number side.axis side.high)) (2 ^ (p.shape.dims * (leaf_on e to).level)) entry) in
    let all : All (λ n. n < 2 ^ 62) new = written_below l r (λ _. total) (2 ^ 62) (list_at old to) new long has stays (λ i w. small) (held.lists.small to few) in
    let own = interior_stays b Same side.axis side.high 0 (list_at old to) new (side_of e to side.axis on few used) stays (held.own to few) in
    let there : HasRegion l r (λ _. fields.outside p e.field side.axis side.high (leaf_on e to).level) (list_at (slice_set old to new) to) = subst (λ (v : List ℕ). HasRegion l r (λ _. fields.outside p e.field side.axis side.high (leaf_on e to).level) v) (sym at) (λ i w. has i w ∙ amount) in
    record {
      held = still_held e to old new on few held long all own;
      others = others_at old to new;
      sees = outside_sees b side.axis side.high (list_at (slice_set old to new) to) (side_of e to side.axis on few used) is there;
      stays = others_see e Same 0 side to old (slice_set old to new) on used few (subst (λ (v : List ℕ). StaysOffRegion l r (list_at old to) v) (sym at) stays);
    }

-- finer leaves fill the side part by part
pub record Filling (e : FieldMesh) (side : Side) (senders : List ℕ) (to k : ℕ) (old new : List (List ℕ)) : Type 0 where
  pub held : HoldOwn e new
  pub others : OthersStay to old new
  pub parts : (j : ℕ) → j < k → SeesBeyondPart (block_on e to) (list_at new to) side.axis side.high (child_number (mesh_in e).shape.dims (leaf_on e (slice_index senders j)))
  pub stays : (axis : ℕ) (high : Bool) → axis < e.layout.now.dims → (¬ (axis ≡ side.axis)) ⊎ (¬ (high ≡ side.high)) → StillSees e to old new axis high

pub filling_starts : (e : FieldMesh) (side : Side) (senders : List ℕ) (to : ℕ) (old : List (List ℕ)) → HoldOwn e old → Filling e side senders to 0 old old
filling_starts e side senders to old held = record { held = held; others = λ leaf differ. refl; parts = λ j h. absurd (omega arith); stays = λ axis high next differ sees. sees }

among : (f : ℕ → Loc) (ns : List ℕ) (j : ℕ) → j < length ns → Contains (map f ns) (f (slice_index ns j))
among f ns j h = (j, subst (λ v. j < v) (sym (length-map ns f)) h, get_or-map f ns j 0 (f (slice_index ns j)) h)

pub filling_goes_on : (e : FieldMesh) (side : Side) (senders : List ℕ) (to k half : ℕ) (old now new : List (List ℕ)) → CanExchange e → side.axis < e.layout.now.dims → to < leaf_count e → behind_leaf e side to ≡ fine (map (leaf_on e) senders) → k < length senders →
    half ≡ part_on e side (slice_index senders k) → Filling e side senders to k old now → IsReceived e Finer half side (slice_index senders k) to now new → Filling e side senders to (k + 1) old new
filling_goes_on e side senders to k half old now new on used few is inside number before x =
    let os : List Loc = map (leaf_on e) senders in
    let b = block_on e to in
    let s = side_of e to side.axis on few used in
    let o : Loc = leaf_on e (slice_index senders k) in
    let here = among (leaf_on e) senders k inside in
    let given : IsGiven Finer b side.axis side.high (part_on e side (slice_index senders k)) (sent_to e side (slice_index senders k) to) (list_at new to) =
    subst (λ v. IsGiven Finer b side.axis side.high v (sent_to e side (slice_index senders k) to) (list_at new to)) number x.given in
    let stays : StaysOffRegion e.layout.now (received Finer e.layout.now side.axis side.high (part_on e side (slice_index senders k))) (list_at now to) (list_at new to) =
    subst (λ v. StaysOffRegion e.layout.now (received Finer e.layout.now side.axis side.high v) (list_at now to) (list_at new to)) number x.stays in
    let own = finer_sees b side.axis side.high os o (list_at new to) s is here given in
    record {
      held = x.held;
      others = λ leaf differ. x.others leaf differ ∙ before.others leaf differ;
      parts = λ j less. elim (cases_lt j k) [
        | inl early ↦ elim (one_or_other (leaf_on e (slice_index senders j)) o) [
          | inl one ↦ subst (λ (v : Loc). SeesBeyondPart b (list_at new to) side.axis side.high (child_number (mesh_in e).shape.dims v)) (sym one) own
          | inr other ↦ parts_stay b side.axis side.high os o (leaf_on e (slice_index senders j)) (list_at now to) (list_at new to) s is here (among (leaf_on e) senders j (omega arith)) other stays (before.parts j early)
        ]
        | inr late ↦ let e' : k ≡ j = omega arith in subst (λ v. SeesBeyondPart b (list_at new to) side.axis side.high (child_number (mesh_in e).shape.dims (leaf_on e (slice_index senders v)))) e' own
      ];
      stays = λ axis high next differ sees. others_see e Finer half side to now new on used few x.stays axis high next differ (before.stays axis high next differ sees);
    }
  where
    one_or_other : (x y : Loc) → (x ≡ y) ⊎ (¬ (x ≡ y))
    one_or_other x y = by (same_loc x y) refl
      where
        by : (t : Bool) → same_loc x y ≡ t → (x ≡ y) ⊎ (¬ (x ≡ y))
        by true e = inl (same_loc-is x y e)
        by false e = inr (λ is. false≢true (sym e ∙ ap (same_loc x) (sym is) ∙ same_loc-self x))

pub filling_ends : (e : FieldMesh) (side : Side) (senders : List ℕ) (to : ℕ) (old new : List (List ℕ)) → CanExchange e → side.axis < e.layout.now.dims → to < leaf_count e → behind_leaf e side to ≡ fine (map (leaf_on e) senders) → Filling e side senders to (length senders) old new → IsFilled e side to old new
filling_ends e side senders to old new on used few is x = record {
  held = x.held;
  others = x.others;
  sees = finer_covers (block_on e to) side.axis side.high (map (leaf_on e) senders) (list_at new to) (side_of e to side.axis on few used) is part;
  stays = x.stays;
}
  where
    part : (o : Loc) → Contains (map (leaf_on e) senders) o → SeesBeyondPart (block_on e to) (list_at new to) side.axis side.high (child_number (mesh_in e).shape.dims o)
    part o (j, less, at) =
        let inside : j < length senders = subst (λ v. j < v) (length-map senders (leaf_on e)) less in
        subst (λ (v : Loc). SeesBeyondPart (block_on e to) (list_at new to) side.axis side.high (child_number (mesh_in e).shape.dims v)) (sym (get_or-map (leaf_on e) senders j 0 o inside) ∙ at) (x.parts j inside)

-- whether something comes from one of them
pub any_mapped : (p : Loc → Bool) (f : ℕ → Loc) (ns : List ℕ) → list_any p (map f ns) ≡ list_any (λ n. p (f n)) ns
any_mapped p f [] = refl
any_mapped p f (n ∷ ns) = ap (λ b. p (f n) || b) (any_mapped p f ns)

-- the part of a side that a leaf covers, as the code finds it
pub part_found : (e : FieldMesh) (side : Side) (leaf half : ℕ) (at : Loc) → CanExchange e → slice_index_or (leaves e.tree.now) leaf nowhere ≡ at → half ≡ side_part side.axis (child_number e.layout.now.dims at) → half ≡ part_on e side leaf
part_found e side leaf half at on is number =
    number
    ∙ ap (λ (v : Loc). side_part side.axis (child_number e.layout.now.dims v)) (sym is)
    ∙ ap (λ d. side_part side.axis (child_number d (leaf_on e leaf))) (on.mesh.dims ∙ sym (ap (λ s. s.dims) on.mesh.mesh.shape))

-- a finer leaf of a list is a sender
pub finer_sender : (e : FieldMesh) (side : Side) (senders : List ℕ) (to k from half : ℕ) (at : Loc) → CanExchange e → behind_leaf e side to ≡ fine (map (leaf_on e) senders) → k < length senders → slice_index senders k ≡ from → slice_index_or (leaves e.tree.now) from nowhere ≡ at →
    half ≡ side_part side.axis (child_number e.layout.now.dims at) → IsSender e Finer half side from to
finer_sender e side senders to k from half at on is inside told found number =
    (map (leaf_on e) senders, is, subst (λ v. Contains (map (leaf_on e) senders) (leaf_on e v)) told (among (leaf_on e) senders k inside), part_found e side from half at on found number)

-- one more finer leaf
pub finer_step : (e : FieldMesh) (side : Side) (senders : List ℕ) (to k from half : ℕ) (at : Loc) (old now new : List (List ℕ)) → CanExchange e → side.axis < e.layout.now.dims → to < leaf_count e → behind_leaf e side to ≡ fine (map (leaf_on e) senders) → k < length senders → slice_index senders k ≡ from →
    slice_index_or (leaves e.tree.now) from nowhere ≡ at → half ≡ side_part side.axis (child_number e.layout.now.dims at) → Filling e side senders to k old now → IsReceived e Finer half side from to now new → Filling e side senders to (k + 1) old new
finer_step e side senders to k from half at old now new on used few is inside told found number before x =
    filling_goes_on e side senders to k half old now new on used few is inside
    (part_found e side from half at on found number ∙ ap (part_on e side) (sym told)) before (subst (λ v. IsReceived e Finer half side v to now new) (sym told) x)

-- and whether one more comes above
pub any_more : (p : ℕ → Bool) (senders : List ℕ) (k from : ℕ) (before comes : Bool) → k < length senders → slice_index senders k ≡ from → before ≡ list_any p (take k senders) → comes ≡ p from → (before || comes) ≡ list_any p (take (k + 1) senders)
any_more p senders k from before comes inside told was is =
    ap (λ b. b || comes) was ∙ ap (λ b. list_any p (take k senders) || b) (is ∙ ap p (sym told)) ∙ sym (list_any_more p senders k 0 inside)

-- either way the code finds out
pub or_then : (before comes now : Bool) → before ≡ true → now ≡ before → now ≡ (before || comes)
or_then before comes now e is = is ∙ e ∙ sym (ap (λ b. b || comes) e)

pub or_else : (before comes now : Bool) → before ≡ false → now ≡ comes → now ≡ (before || comes)
or_else before comes now e is = is ∙ sym (ap (λ b. b || comes) e)
