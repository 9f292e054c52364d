-- A yard may be shared by threads: behind a `&` its own seat gives nothing.
use denote.RattleType.{RattleType}
use denote.Param.Send.{IsSend, IsSync, sendable, part_keyless, view_sync, recorded_sync, struct_sync}
use denote.Struct.Declared.{shape}
use Rattle.atomic_table.specs.contracts.badge.Badge as Badge
use Rattle.atomic_table.proofs.badge.Badge.TheSendSync as badge
use Rattle.atomic_table.proofs.owned.Table.TheSendSync as table
use Rattle.std.proofs.option.Option.TheSendSync as option
use Rattle.std.proofs.alloc.Global.TheSendSync as global
use Rattle.std_heap.proofs.GlobalAllocator.TheSendSync as allocator
use Rattle.turn_yard.specs.declared.entries.Entries.{Ghosts}
use Rattle.turn_yard.specs.contracts.yard.Yard.{the_row}
use Rattle.turn_yard.specs.contracts.yard.Yard.TheInside as inside

pub badge_sync : (V : RattleType) → IsSync (Badge.the_row V)
badge_sync V = record { shared = λ d b o κ q. part_keyless (Badge.the_row V) (badge.the_send V) q d b o }

pub inside_sync : (T : RattleType) (g : Ghosts T.Denot) → IsSend T → IsSync (inside.the_row T g)
inside_sync T g s = recorded_sync _ _ _ (inside.the_type T g).to_one (struct_sync (shape (inside.the_type T g)) (search (sendable, table.the_field_sync, option.the_send, global.the_send, global.the_sync, allocator.the_frees) depth 20, (badge_sync _, (search sendable, (search sendable, tt)))))

pub yard_sync : (T : RattleType) (g : Ghosts T.Denot) → IsSend T → IsSync (the_row T g)
yard_sync T g s = view_sync _ _ _ _ _ (inside_sync T g s)
