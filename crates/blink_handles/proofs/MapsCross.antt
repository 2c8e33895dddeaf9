-- A map and its sessions may go to another thread.
use denote.Param.Send.{IsSend, enum_send, recorded_send, sendable, struct_send}
use denote.Struct.Declared as struct
use denote.Enum.Declared as enum
use Rattle.std.proofs.Crossing as heap
use Rattle.std.proofs.Crossing.{crosses}
use Rattle.atomic_table.proofs.shared.Seat.TheSendSync as seat
use Rattle.blink_generation.proofs.map.Map.TheSendSync as map
use Rattle.blink_generation.proofs.Offered.{pending_send}
use Rattle.blink_map.proofs.growing.Session.TheSendSync as session
use Rattle.blink_map.proofs.growing.Unclosed.TheSendSync as unclosed
use Rattle.blink_map.proofs.held.Held.TheSendSync as held
use Rattle.blink_map.proofs.slots.Current.TheSendSync as current
use Rattle.blink_map.specs.contracts.held.PendingHeld as Pending
use Rattle.blink_map.specs.contracts.slots.Current as Current
use Rattle.blink_map.specs.contracts.slots.SlotView as SlotView
use Rattle.blink_generation.specs.contracts.map.Map as Map
use Rattle.std.specs.contracts.option.Option as Option
use Rattle.std.proofs.option.Option.TheSendSync as option
use Rattle.blink_handles.specs.contracts.map_owner.MapOwner as MapOwner
use Rattle.blink_handles.specs.contracts.session_owner.SessionOwner as SessionOwner
use Rattle.blink_handles.specs.contracts.session_owner.UnderWay as UnderWay
use Rattle.blink_handles.specs.contracts.shared_map.MapState as State
use Rattle.blink_handles.specs.contracts.shared_map.SharedMap as SharedMap
use Rattle.blink_handles.proofs.shared_map.SharedMap.TheSendSync as shared

state : IsSend (State.the_field).row
state = enum_send (enum.shape State.the_type) ((heap.Arc-send SharedMap.the_row shared.the_send shared.the_sync, tt), ((unclosed.the_field_send, tt), (tt, tt)))

pub owner_send : IsSend MapOwner.the_row
owner_send = recorded_send (MapOwner.the_field).row _ _ (MapOwner.the_type).to_one
    (struct_send (struct.shape MapOwner.the_type) (state, (search (sendable, crosses) depth 12, tt)))

-- an operation of a held session: what it was before is a ghost
pending : IsSend Pending.the_field.row
pending =
    struct_send (struct.shape Pending.the_type) (
      seat.the_send (Option.the_row Current.the_row) SlotView.the_row (option.the_send Current.the_row current.the_send),
      (search sendable, (heap.Arc-send Map.the_row map.the_send map.the_sync, (search sendable, (search sendable, (pending_send, (search (sendable, crosses) depth 12, tt)))))),
    )

under_way : IsSend UnderWay.the_field.row
under_way = struct_send (struct.shape UnderWay.the_type) (pending, (search (sendable, crosses) depth 12, tt))

pub session_owner_send : IsSend SessionOwner.the_row
session_owner_send = recorded_send (SessionOwner.the_field).row _ _ (SessionOwner.the_type).to_one
    (struct_send (struct.shape SessionOwner.the_type) (
      heap.Arc-send SharedMap.the_row shared.the_send shared.the_sync,
      (
        search sendable,
        (
          search (sendable, crosses, session.the_field_send) depth 12,
          (search (sendable, crosses, held.the_field_send) depth 12, (search (sendable, crosses, under_way) depth 12, tt)),
        ),
      ),
    ))
