-- A pending operation of a session may go to another thread.
use denote.Param.Send.{IsSend, sendable}
use Rattle.std.proofs.Crossing.{crosses}
use Rattle.atomic_table.proofs.shared.Seat.TheSendSync as seat
use Rattle.blink_generation.proofs.member.Member.TheSendSync as member
use Rattle.blink_generation.proofs.member.UnderWay.TheSendSync as under_way
use Rattle.blink_generation.specs.contracts.map.Pending.{the_field}

pub pending_send : IsSend the_field.row
pending_send = search (sendable, crosses, under_way.the_field_send, seat.the_send, member.the_field_send) depth 12
