-- What is known of the buffers of a lease, and sums over them.
use Rattle.std.proofs.Common.{◌≡◌, ◌==◌, ℕ, zero, suc, ◌+◌, ◌<◌, ◌≤◌, Bool, true, false, cond, ◌&&◌, List, [], ◌∷◌, map, filter, length, refl, arith, ap, subst, sym, ◌∙◌, All}
use Rattle.std.specs.List.{list_any, slice_index_or}
use Rattle.std.proofs.lemmas.Bool.{and_parts, eqb-true}
use Rattle.std.proofs.lemmas.List.{get_or-map, length-map}
use Rattle.std.proofs.lemmas.List.Elements.{All-get_or}
use Rattle.sparse_pool.specs.declared.place.Place.{Place}
use Rattle.pack_cache.specs.Packs.{same_place}
use Rattle.field_bufs.specs.declared.buf.FieldBuf.{FieldBuf}
use Rattle.mesh_rules.specs.Sums.{sum_over, sum_to}
use Rattle.mesh_rules.specs.Fields.{field_count}
use Rattle.mesh_laws.proofs.Grids.{sum_plus}
use Rattle.mesh_laws.proofs.Totals.{sum_to-same}
use Rattle.problem_set.specs.SettingsOf.{settings_of}
use Rattle.cycle_kernels.specs.Blocks.{block_count}
use Rattle.cycle_events.specs.Places.{lent}
use Rattle.masked_cycles.specs.Cycles.{Cycle, cycle_mesh, kernels}
use Rattle.mesh_journals.specs.Cycles.{MeshState, on_mesh}
use Rattle.cycle_leases.specs.declared.lease.Lease.{Lease}
use Rattle.cycle_leases.specs.Buffers.{IsBufferIn, place_of, stamp_after}
use Rattle.cycle_leases.specs.Leases.{IsLent}
use Rattle.cycle_leases.specs.Works.{is_among, sum_of_list}
use Rattle.lent_bufs.specs.Sums.{sum_of_field}
use Rattle.lent_bufs.proofs.Each.{buf_at, no_buf}
use Rattle.stage_works.proofs.PlaceSums.{at_place, each_at, each_place, field_of_places, listed_any, among_filtered}

nowhere : Place
nowhere = record { block = 0; field = 0 }

-- a place that is lent
pub record IsLentAt (c : Cycle) (s : MeshState) (list : ℕ) (at : Place) : Type 0 where
  pub owner : ((kernels c).owner at.block == list) ≡ true
  pub leased : (s.local list).leased at.block at.field ≡ true
  pub block : at.block < block_count (cycle_mesh c)
  pub field : at.field < field_count (settings_of c.problem)

lent_at : (c : Cycle) (s : MeshState) (list : ℕ) (k : ℕ) → k < length (lent (on_mesh c) s list) → IsLentAt c s list (slice_index_or (lent (on_mesh c) s list) k nowhere)
lent_at c s list k small =
    each_at (IsLentAt c s list) (lent (on_mesh c) s list) k nowhere
    (each_place (IsLentAt c s list) (on_mesh c).size (λ b f. (kernels c).owner b == list && (s.local ((kernels c).owner b)).leased b f) (λ b f low few passes.
    let p = and_parts ((kernels c).owner b == list) ((s.local ((kernels c).owner b)).leased b f) passes in
    record {
      owner = p.0;
      leased = subst (λ (i : ℕ). (s.local i).leased b f ≡ true) (eqb-true ((kernels c).owner b) list p.0) p.1;
      block = low;
      field = few;
    }))
    small

-- a buffer of the lease
pub record IsOfLease (c : Cycle) (s : MeshState) (lease : Lease) (buf : FieldBuf) : Type 0 where
  pub lent : IsLentAt c s lease.list (place_of buf)
  pub held : IsBufferIn c (s.local lease.list) (stamp_after c lease.task) buf

place_at : (bufs : List FieldBuf) (places : List Place) (k : ℕ) → map place_of bufs ≡ places → k < length bufs → slice_index_or places k nowhere ≡ place_of (buf_at bufs k)
place_at bufs places k is small = ap (λ (v : List Place). slice_index_or v k nowhere) (sym is) ∙ get_or-map place_of bufs k no_buf nowhere small

many_places : (bufs : List FieldBuf) (places : List Place) → map place_of bufs ≡ places → length places ≡ length bufs
many_places bufs places is = ap (λ (v : List Place). length v) (sym is) ∙ length-map bufs place_of

pub of_lease : (c : Cycle) (s : MeshState) (lease : Lease) → IsLent c s lease → (k : ℕ) → k < length lease.bufs → IsOfLease c s lease (buf_at lease.bufs k)
of_lease c s lease is k small =
    let many = many_places lease.bufs (lent (on_mesh c) s lease.list) is.places in
    record {
      lent = subst (IsLentAt c s lease.list) (place_at lease.bufs (lent (on_mesh c) s lease.list) k is.places small) (lent_at c s lease.list k (omega arith));
      held = All-get_or (IsBufferIn c (s.local lease.list) (stamp_after c lease.task)) lease.bufs k no_buf small is.bufs;
    }

-- whether one is among those of the lease that pass a test
pub kept_is : (c : Cycle) (s : MeshState) (lease : Lease) (p : Place → Bool) (places : List Place) (k : ℕ) → IsLent c s lease → k < length lease.bufs → places ≡ filter p (lent (on_mesh c) s lease.list) →
    is_among places (buf_at lease.bufs k).block (buf_at lease.bufs k).field ≡ p (place_of (buf_at lease.bufs k))
kept_is c s lease p places k is small same =
    let all : List Place = lent (on_mesh c) s lease.list in
    let many = many_places lease.bufs all is.places in
    let at : Place = place_of (buf_at lease.bufs k) in
    ap (λ (v : List Place). is_among v at.block at.field) same
    ∙ among_filtered p at all
    ∙ ap (λ (t : Bool). t && p at) (subst (λ (v : Place). list_any (same_place v) all ≡ true) (place_at lease.bufs all k is.places small) (listed_any all k nowhere (omega arith)))

-- a sum over the buffers of a field
over_places : (bufs : List FieldBuf) (each : FieldBuf → ℕ) (g : ℕ → ℕ → ℕ) (f : ℕ) → ((k : ℕ) → k < length bufs → each (buf_at bufs k) ≡ g (buf_at bufs k).block (buf_at bufs k).field) →
    sum_of_field bufs each f ≡ sum_over (map place_of bufs) (λ at. cond (f == at.field) (g at.block at.field) 0)
over_places [] each g f same = refl
over_places (x ∷ xs) each g f same =
    ap (λ (v : ℕ). cond (f == x.field) v 0 + sum_of_field xs each f) (same 0 (omega arith))
    ∙ ap (λ (v : ℕ). cond (f == x.field) (g x.block x.field) 0 + v) (over_places xs each g f (λ k small. same (suc k) (omega arith)))

pub lease_sum : (c : Cycle) (s : MeshState) (lease : Lease) (each : FieldBuf → ℕ) (g : ℕ → ℕ → ℕ) (f : ℕ) → IsLent c s lease → f < field_count (settings_of c.problem) →
    ((k : ℕ) → k < length lease.bufs → each (buf_at lease.bufs k) ≡ g (buf_at lease.bufs k).block (buf_at lease.bufs k).field) →
    sum_of_field lease.bufs each f ≡ sum_of_list c lease.list (λ b. cond ((s.local lease.list).leased b f) (g b f) 0)
lease_sum c s lease each g f is small same =
    let k = kernels c in
    over_places lease.bufs each g f same
    ∙ ap (λ (v : List Place). sum_over v (λ at. cond (f == at.field) (g at.block at.field) 0)) is.places
    ∙ field_of_places (on_mesh c).size (λ b f. k.owner b == lease.list && (s.local (k.owner b)).leased b f) f g small
    ∙ sum_to-same (block_count (cycle_mesh c)) (λ b. cond (k.owner b == lease.list && (s.local (k.owner b)).leased b f) (g b f) 0) (λ b. cond (k.owner b == lease.list) (cond ((s.local lease.list).leased b f) (g b f) 0) 0)
    (λ b low. by (k.owner b) b (k.owner b == lease.list) refl)
  where
    by : (i b : ℕ) (t : Bool) → (i == lease.list) ≡ t → cond (t && (s.local i).leased b f) (g b f) 0 ≡ cond t (cond ((s.local lease.list).leased b f) (g b f) 0) 0
    by i b true e = ap (λ (j : ℕ). cond ((s.local j).leased b f) (g b f) 0) (eqb-true i lease.list e)
    by i b false e = refl

-- and what is added to a sum of the list
pub sum_gains : (c : Cycle) (list : ℕ) (old add : ℕ → ℕ) → sum_of_list c list old + sum_of_list c list add ≡ sum_of_list c list (λ b. old b + add b)
sum_gains c list old add =
    let n = block_count (cycle_mesh c) in
    let own : ℕ → Bool = λ b. (kernels c).owner b == list in
    sym (sum_plus n (λ b. cond (own b) (old b) 0) (λ b. cond (own b) (add b) 0))
    ∙ sum_to-same n (λ b. cond (own b) (old b) 0 + cond (own b) (add b) 0) (λ b. cond (own b) (old b + add b) 0) (λ b low. by (own b) (old b) (add b))
  where
    by : (t : Bool) (x y : ℕ) → cond t x 0 + cond t y 0 ≡ cond t (x + y) 0
    by true x y = refl
    by false x y = refl
