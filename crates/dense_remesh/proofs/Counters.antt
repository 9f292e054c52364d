-- The counters of leaves of a next tree.
use Rattle.std.proofs.Common.{◌≡◌, ℕ, ◌<◌, Bool, true, false, cond, Some, None, List, length, refl, arith, ap, sym, ◌∙◌}
use Rattle.std.specs.List.{position_or_len, slice_index_or}
use Rattle.std.proofs.lemmas.List.{ext_get_or, get_or-map, length-map}
use Rattle.morton_order.specs.declared.space.Loc.{Loc}
use Rattle.morton_order.specs.Space.{same_loc}
use Rattle.block_tree.specs.Tree.{is_listed}
use Rattle.block_tree.specs.Nodes.{number_in}
use Rattle.block_tree.proofs.Numbers.{number_is}
use Rattle.mesh_rules.specs.Mesh.{Mesh}
use Rattle.mesh_rules.specs.Remesh.{carried_counter, carried_counters}
use Rattle.dense_remesh.specs.Slots.{counter_at}

-- the counter of a location that is listed
counter_by : (counters : List ℕ) (place : ℕ) (b : Bool) → counter_at counters (cond b (Some place) None) ≡ cond b (slice_index_or counters place 0) 0
counter_by counters place true = refl
counter_by counters place false = refl

counter_is : (m : Mesh) (counters : List ℕ) (old : List Loc) (l : Loc) → m.leaves ≡ old → counter_at counters (number_in old l) ≡ carried_counter m counters l
counter_is m counters old l same =
    ap (counter_at counters) (number_is old l)
    ∙ counter_by counters (position_or_len (same_loc l) old) (is_listed old l)
    ∙ ap (λ (xs : List Loc). cond (is_listed xs l) (slice_index_or counters (position_or_len (same_loc l) xs) 0) 0) (sym same)

nowhere : Loc
nowhere = record { level = 0; l1 = 0; l2 = 0; l3 = 0 }

pub counters_are : (m : Mesh) (counters : List ℕ) (old next : List Loc) (new : List ℕ) → m.leaves ≡ old → length new ≡ length next →
    ((k x : ℕ) (d : Loc) → k < length next → slice_index_or new k x ≡ counter_at counters (number_in old (slice_index_or next k d))) → new ≡ carried_counters m counters next
counters_are m counters old next new same count each =
    ext_get_or 0 new (carried_counters m counters next) (count ∙ sym (length-map next (carried_counter m counters)))
    (λ k small.
    let below : k < length next = omega arith in
    each k 0 nowhere below ∙ counter_is m counters old (slice_index_or next k nowhere) same ∙ sym (get_or-map (carried_counter m counters) next k nowhere 0 below))
